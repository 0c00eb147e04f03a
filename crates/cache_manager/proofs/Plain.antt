-- How much is left to do: the members of the graph, and the objects that an install may still have to log. Such an object is
-- dirty, and the last to write it is no identity write.
use Rattle.std.proofs.Common.{◌≡◌, ◌∙◌, sym, ap, ℕ, zero, suc, ◌+◌, ◌<◌, ◌≤◌, Bool, false, List, [], ◌∷◌, ◌++◌, length, refl, arith, inl, inr, Option, Some, length-append}
use Rattle.std.specs.Prelude.{IsTrue, IsFalse, ◌==◌, ◌||◌, ◌&&◌, not, slice_get, nat_eq, if◌then◌else◌}
use Rattle.std.proofs.lemmas.Bool.{cases_lt, cases_eq, both_ways, or_left, or_from, and_parts, and_right, eq-eqb, ne_eqb, not_from_true, cond-true, cond-false}
use Rattle.oper_core.specs.Cell.{Cell}
use Rattle.oper_core.specs.State.{is_among}
use Rattle.oper_core.specs.Meaning.{Meaning}
use Rattle.explain_core.specs.CountLaws.{count_same, count_more}
use Rattle.explain_core.specs.GraphLaws.{no-writes}
use Rattle.explain_core.specs.History.{Member, with_lsn}
use Rattle.explain_core.specs.History.Member.{Identity}
use Rattle.explain_core.specs.Sound.{IsSound}
use Rattle.explain_core.specs.Turns.{count_below, is_dirty_in, dirty_in}
use Rattle.explain_core.specs.World.{World, step, end_of}
use Rattle.explain_core.specs.World.Step.{Append, Slot_gate, Removal}
use Rattle.running_store.specs.Courses.{is_identity_some}
use Rattle.cache_manager.proofs.Counts.{count_le, count_less}

-- x is dirty, and the last to write it is no identity write
abbrev pub is_plain : {O : Type 0} → World O → ℕ → Bool
is_plain w x = is_dirty_in w x && not (is_identity_some (with_lsn w.history (w.cache x).lsn))

-- so many objects are so
abbrev pub plain_in : {O : Type 0} → Meaning O → World O → ℕ
plain_in m w = count_below m.objects (is_plain w)

-- the members of the graph, and these objects
abbrev pub left_in : {O : Type 0} → Meaning O → World O → ℕ
left_in m w = count_below (end_of w) w.graph + plain_in m w

pub plain_below : {O : Type 0} (m : Meaning O) (w : World O) → plain_in m w ≤ dirty_in m w
plain_below m w = count_le m.objects (is_plain w) (is_dirty_in w) (λ x lt is. (and_parts (is_dirty_in w x) _ is).0)

front_at : {X : Type 0} (h t : List X) (i : ℕ) → i < length h → slice_get (h ++ t) i ≡ slice_get h i
front_at [] t i lt = absurd (omega (arith, lt))
front_at (x ∷ h) t zero lt = refl
front_at (x ∷ h) t (suc i) lt = front_at h t i (omega (arith, lt))

last_at : {X : Type 0} (h : List X) (x : X) → slice_get (h ++ x ∷ []) (length h) ≡ Some x
last_at [] x = refl
last_at (y ∷ h) x = last_at h x

with_lsn_front : {O : Type 0} (h t : List (Member O)) (n : ℕ) → n ≤ length h → with_lsn (h ++ t) n ≡ with_lsn h n
with_lsn_front h t zero le = refl
with_lsn_front h t (suc n) le = front_at h t n (omega (arith, le))

with_lsn_last : {O : Type 0} (h : List (Member O)) (member : Member O) → with_lsn (h ++ member ∷ []) (length h + 1) ≡ Some member
with_lsn_last h member =
    let e : length h + 1 ≡ suc (length h) = omega arith in
    ap (with_lsn (h ++ member ∷ [])) e ∙ last_at h member

-- the version in the cache is one of the history
cached_within : {O : Type 0} (m : Meaning O) (w : World O) → IsSound m w → (x : ℕ) → (w.cache x).lsn ≤ length w.history
cached_within m w sound x = elim (cases_lt (length w.history) (w.cache x).lsn) [
  | inl past ↦ elim (sound.cache.origin x) [
    | inl none ↦ omega (arith, none.0)
    | inr wrote ↦ absurd (both_ways _ (no-writes m w.history (w.cache x).lsn x past) wrote.1)
  ]
  | inr within ↦ within
]

-- an identity write of x is appended
module _ {O : Type 0} (m : Meaning O) (w : World O) (sound : IsSound m w) (x : ℕ) where
  abbrev member : Member O
  member = Identity x (w.cache x).value

  abbrev pub logged : World O
  logged = step m w (Append member)

  other_cell : (y : ℕ) → (y ≡ x → ⊥) → logged.cache y ≡ w.cache y
  unfolding step
  other_cell y other = cond-false (is_among y (x ∷ [])) _ (w.cache y) (or_from (y == x) false (ne_eqb y x other) refl)

  own_lsn : (logged.cache x).lsn ≡ end_of w
  unfolding step
  own_lsn = ap (λ (c : Cell). c.lsn) (cond-true (is_among x (x ∷ [])) _ (w.cache x) (or_left (x == x) false (eq-eqb x x refl)))

  -- other objects are as before
  pub others_plain : (y : ℕ) → (y ≡ x → ⊥) → is_plain logged y ≡ is_plain w y
  unfolding step
  others_plain y other =
      ap (λ (c : Cell). not ((w.slots y).lsn == c.lsn) && not (is_identity_some (with_lsn (w.history ++ member ∷ []) c.lsn))) (other_cell y other)
      ∙ ap (λ (o : Option (Member O)). is_dirty_in w y && not (is_identity_some o)) (with_lsn_front w.history (member ∷ []) (w.cache y).lsn (cached_within m w sound y))

  -- x is plain no more
  pub not_plain : IsFalse (is_plain logged x)
  unfolding step
  not_plain =
      and_right (is_dirty_in logged x) _
      (ap (λ (n : ℕ). not (is_identity_some (with_lsn (w.history ++ member ∷ []) n))) own_lsn ∙ ap (λ (o : Option (Member O)). not (is_identity_some o)) (with_lsn_last w.history member))

  pub one_plain_less : x < m.objects → IsTrue (is_plain w x) → plain_in m w ≡ suc (plain_in m logged)
  one_plain_less lt was =
      count_same m.objects (is_plain w) (λ z. nat_eq z x || is_plain logged z) (λ z below. elim (cases_eq z x) [
        | inl here ↦ ap (is_plain w) here ∙ was ∙ sym (or_left (nat_eq z x) (is_plain logged z) (eq-eqb z x here))
        | inr other ↦ sym (others_plain z other) ∙ ap (λ (b : Bool). b || is_plain logged z) (sym (ne_eqb z x other))
      ])
      ∙ count_more m.objects x (is_plain logged) lt not_plain

  -- the graph has one member more
  pub one_member_more : count_below (end_of logged) logged.graph ≡ suc (count_below (end_of w) w.graph)
  unfolding step
  one_member_more =
      let grown : end_of logged ≡ suc (end_of w) = omega (arith, length-append w.history (member ∷ [])) in
      let top : IsTrue (logged.graph (end_of w)) = or_left (end_of w == end_of w) (w.graph (end_of w)) (eq-eqb (end_of w) (end_of w) refl) in
      let rest : count_below (end_of w) logged.graph ≡ count_below (end_of w) w.graph =
      count_same (end_of w) logged.graph w.graph (λ k lt. ap (λ (b : Bool). b || w.graph k) (ne_eqb k (end_of w) (λ same. absurd (omega (arith, same, lt))))) in
      ap (λ (n : ℕ). count_below n logged.graph) grown ∙ (λ i. (if top i then 1 else 0) + rest i) ∙ omega arith

  pub as_much_left : x < m.objects → IsTrue (is_plain w x) → left_in m logged ≡ left_in m w
  as_much_left lt was = omega (arith, one_plain_less lt was, one_member_more)

-- after a slot's gate no object may be logged that could not before
pub slot_plain : {O : Type 0} (m : Meaning O) (w : World O) (node : ℕ → Bool) (x y : ℕ) → IsTrue (is_plain (step m w (Slot_gate node x)) y) → IsTrue (is_plain w y)
unfolding step
slot_plain m w node x y is =
    let v = step m w (Slot_gate node x) in
    elim (cases_eq y x) [
      | inl here ↦
          let slot : v.slots y ≡ w.cache y = cond-true (y == x) (w.cache x) (w.slots y) (eq-eqb y x here) ∙ sym (ap w.cache here) in
          absurd (both_ways _ (not_from_true _ (eq-eqb _ _ (ap (λ (c : Cell). c.lsn) slot))) (and_parts (is_dirty_in v y) _ is).0)
      | inr other ↦ ap (λ (c : Cell). not (c.lsn == (w.cache y).lsn) && not (is_identity_some (with_lsn w.history (w.cache y).lsn))) (sym (cond-false (y == x) (w.cache x) (w.slots y) (ne_eqb y x other))) ∙ is
    ]

-- so it leaves no more to do, and a removal leaves less
pub slot_left : {O : Type 0} (m : Meaning O) (w : World O) (node : ℕ → Bool) (x : ℕ) → left_in m (step m w (Slot_gate node x)) ≤ left_in m w
unfolding step
slot_left m w node x = omega (arith, count_le m.objects (is_plain (step m w (Slot_gate node x))) (is_plain w) (λ y lt is. slot_plain m w node x y is))

pub removal_left : {O : Type 0} (m : Meaning O) (w : World O) (node : ℕ → Bool) (n : ℕ) → n < end_of w → IsTrue (w.graph n) → IsTrue (node n) → left_in m (step m w (Removal node)) < left_in m w
unfolding step
removal_left m w node n lt member held =
    let fewer = count_less (end_of w) (λ k. w.graph k && not (node k)) w.graph (λ k low is. (and_parts (w.graph k) _ is).0) n lt (and_right (w.graph n) _ (not_from_true _ held)) member in
    omega (arith, fewer)
