-- A history, and what is stable of it, under wider bounds.
use Rattle.std.proofs.Common.{◌≡◌, ◌∙◌, sym, subst, ap, ℕ, zero, suc, ◌+◌, ◌≤◌, Bool, true, false, if◌then◌else◌, Option, None, Some, List, [], ◌∷◌, length, refl, arith}
use Rattle.std.specs.Prelude.{◌==◌, All, IfSome, slice_get}
use Rattle.std.specs.List.{AllByRecursion}
use Rattle.std.proofs.lemmas.List.Elements.{All-head, All-tail}
use Rattle.oper_core.specs.State.{State, is_among, value_for}
use Rattle.oper_core.specs.Meaning.{Meaning, IsLawful, Widens, Accepts, read_values, after}
use Rattle.oper_core.specs.MeaningLaws.{read_values-fit, accepts-wider, after-wider}
use Rattle.install_order.specs.Order.{Access}
use Rattle.explain_core.specs.History.{Member, IsMember, IsHistory, made_by, value_at, accesses_of, with_lsn, reads_some, writes_some}
use Rattle.explain_core.specs.History.Member.{Command, Identity}
use Rattle.explain_core.specs.GraphLaws.{accepted-in_grammar}
use Rattle.explain_core.specs.Explains.{Explains}
use Rattle.explain_core.specs.Sound.{SkipsNothing}
use Rattle.explain_core.specs.Stable.{Stable, IsStableOf}

if-short : (cap : ℕ) (b : Bool) (u v : List ℕ) → length u ≤ cap → length v ≤ cap → length (if b then u else v) ≤ cap
if-short cap true u v p q = p
if-short cap false u v p q = q

value_for-short : (cap x : ℕ) (objects : List ℕ) (values : List (List ℕ)) → All (λ v. length v ≤ cap) values → length (value_for x objects values) ≤ cap
value_for-short cap x [] values short = omega arith
value_for-short cap x (y ∷ objects) [] short = omega arith
value_for-short cap x (y ∷ objects) (v ∷ values) short =
    if-short cap (x == y) v (value_for x objects values) (All-head (λ u. length u ≤ cap) v values short)
    (value_for-short cap x objects values (All-tail (λ u. length u ≤ cap) v values short))

-- no value is too long
abbrev AreShort : {O : Type 0} → Meaning O → State → Type 0
AreShort m s = (x : ℕ) → length (s x) ≤ m.cap

module _ {O : Type 0} (m wide : Meaning O) (law : IsLawful m) (widens : Widens m wide) (objects : m.objects ≤ wide.objects) where
  after-short : (s : State) (op : O) → AreShort m s → Accepts m s op → AreShort m (after m s op)
  after-short s op short e x =
      let made = (law.made op (read_values m s op) (accepted-in_grammar m s op e) (read_values-fit m s op short)).1 in
      if-short m.cap (is_among x (m.writes op)) (value_for x (m.writes op) (m.effect op (read_values m s op))) (s x)
      (value_for-short m.cap x (m.writes op) (m.effect op (read_values m s op)) made) (short x)

  made-short : (s : State) (o : Option (Member O)) → AreShort m s → IfSome o (λ member. IsMember m s member) → AreShort m (λ x. made_by m o s x)
  made-short s None short is x = short x
  made-short s (Some (Command op)) short is x = after-short s op short is x
  made-short s (Some (Identity y v)) short is x =
      let same : v ≡ s y = is.1 in
      let fits : length v ≤ m.cap = subst (λ (u : List ℕ). length u ≤ m.cap) (sym same) (short y) in
      if-short m.cap (is_among x (y ∷ [])) (if x == y then v else []) (s x) (if-short m.cap (x == y) v [] fits (omega arith)) (short x)

  made-wider : (s : State) (o : Option (Member O)) → AreShort m s → IfSome o (λ member. IsMember m s member) → (x : ℕ) → made_by wide o s x ≡ made_by m o s x
  made-wider s None short is x = refl
  made-wider s (Some (Command op)) short is x = ap (λ (t : State). t x) (after-wider m wide widens s op short is)
  made-wider s (Some (Identity y v)) short is x = refl

  member-wider : (s : State) (o : Option (Member O)) → AreShort m s → IfSome o (λ member. IsMember m s member) → IfSome o (λ member. IsMember wide s member)
  member-wider s None short is = tt
  member-wider s (Some (Command op)) short is = accepts-wider m wide widens s op short is
  member-wider s (Some (Identity y v)) short is = (omega (arith, is.0), is.1)

  reads-wider : (o : Option (Member O)) (x : ℕ) → reads_some wide o x ≡ reads_some m o x
  reads-wider None x = refl
  reads-wider (Some (Command op)) x = ap (is_among x) (widens.reads op)
  reads-wider (Some (Identity y v)) x = refl

  writes-wider : (o : Option (Member O)) (x : ℕ) → writes_some wide o x ≡ writes_some m o x
  writes-wider None x = refl
  writes-wider (Some (Command op)) x = ap (is_among x) (widens.writes op)
  writes-wider (Some (Identity y v)) x = refl

  accesses-wider : (h : List (Member O)) → accesses_of wide h ≡ accesses_of m h
  accesses-wider h i = record { reads = λ n x. reads-wider (with_lsn h n) x i; writes = λ n x. writes-wider (with_lsn h n) x i }

  module _ (h : List (Member O)) (is : IsHistory m h) where
    abbrev at : ℕ → State
    at n x = value_at m h n x

    short-at : (n : ℕ) → AreShort m (at n)
    short-at zero x = omega arith
    short-at (suc n) x = made-short (at n) (slice_get h n) (short-at n) (is n) x

    value-wider : (n x : ℕ) → value_at wide h n x ≡ value_at m h n x
    value-wider zero x = refl
    value-wider (suc n) x =
        let before : (λ y. value_at wide h n y) ≡ at n = λ i y. value-wider n y i in
        ap (λ (s : State). made_by wide (slice_get h n) s x) before ∙ made-wider (at n) (slice_get h n) (short-at n) (is n) x

    values-wider : (λ n x. value_at wide h n x) ≡ at
    values-wider i n x = value-wider n x i

    history-wider : IsHistory wide h
    history-wider n = subst (λ (v : ℕ → State). IfSome (slice_get h n) (λ member. IsMember wide (v n) member)) (sym values-wider) (member-wider (at n) (slice_get h n) (short-at n) (is n))

    explains-wider : (installed : ℕ → Bool) (parts : Stable O) → Explains (accesses_of m h) (value_at m h) installed parts.slots → Explains (accesses_of wide h) (value_at wide h) installed parts.slots
    explains-wider installed parts e =
        subst (λ (a : Access). Explains a (value_at wide h) installed parts.slots) (sym (accesses-wider h))
        (subst (λ (v : ℕ → State). Explains (accesses_of m h) v installed parts.slots) (sym values-wider) e)

  pub stable-wider : (parts : Stable O) (h : List (Member O)) (installed : ℕ → Bool) → IsStableOf m parts h installed → IsStableOf wide parts h installed
  stable-wider parts h installed s = record {
    base = s.base;
    reached = s.reached;
    records = s.records;
    counted = s.counted;
    members = history-wider h s.members;
    within = s.within;
    below = s.below;
    slots = explains-wider h s.members installed parts s.slots;
    tables = subst (λ (a : Access). AllByRecursion (SkipsNothing a installed parts.base (length h + 1)) parts.tables) (sym (accesses-wider h)) s.tables;
  }
