-- The objects that older entries write: one that is logged is none of them any more, and a node that is taken out makes none.
use Rattle.std.proofs.Common.{◌≡◌, ◌∙◌, sym, subst, ap, ℕ, suc, ◌+◌, ◌<◌, ◌≤◌, Bool, true, false, List, [], ◌∷◌, ◌++◌, length, refl, arith, inl, inr, ◌⊎◌, append_assoc}
use Rattle.std.specs.Prelude.{IsTrue, IsFalse, ◌==◌, ◌&&◌, not, nat_le}
use Rattle.std.specs.List.{filter, list_any}
use Rattle.std.proofs.lemmas.Bool.{cases_Bool, cases_eq, cases_lt, both_ways, and_parts, and_from, or_cases, or_left, or_right, eq-eqb, eqb-true, not-true, not_from_false, false_from_ne_true, cond-true, cond-false, leb-true, le-leb}
use Rattle.std.proofs.lemmas.List.{append-nil, map-append}
use Rattle.std.proofs.lemmas.List.Folds.{list_any-append}
use Rattle.oper_core.specs.State.{is_among}
use Rattle.install_order.specs.declared.entry.Entry.{Entry}
use Rattle.install_order.specs.Entries.{accesses}
use Rattle.install_order.specs.Order.{NoEdgeInto}
use Rattle.install_order.specs.Order.Edge.{Write_write}
use Rattle.write_graph.specs.Graph.{lsns}
use Rattle.cache_manager.specs.LogsDirty.{AreIdentitiesFrom, IsIdentityAt, count_older, identity_entries, is_older}
use Rattle.cache_manager.proofs.Lists.{AreApart}
use Rattle.cache_manager.proofs.ToLog.Tally.{among_append}

-- an entry of the list that passes the test
abbrev pub Found : (Entry → Bool) → List Entry → Type 0
Found p entries = (e : Entry) × IsTrue (p e) × ((q : Entry → Bool) → IsTrue (q e) → IsTrue (list_any q entries)) × IsTrue (is_among e.lsn (lsns entries))

pub found : (p : Entry → Bool) (entries : List Entry) → IsTrue (list_any p entries) → Found p entries
found p [] there = absurd (both_ways _ refl there)
found p (e ∷ entries) there = elim (or_cases (p e) (list_any p entries) there) [
  | inl here ↦ (e, here, λ q is. or_left (q e) (list_any q entries) is, or_left (e.lsn == e.lsn) (is_among e.lsn (lsns entries)) (eq-eqb e.lsn e.lsn refl))
  | inr later ↦
      let r = found p entries later in
      (r.0, r.1, λ q is. or_right (q e) (list_any q entries) (r.2 q is), or_right (r.0.lsn == e.lsn) (is_among r.0.lsn (lsns entries)) r.3)
]

-- a test on a filtered list
pub any_filter : (keep p : Entry → Bool) (entries : List Entry) → IsTrue (list_any p (filter keep entries)) → IsTrue (list_any (λ e. keep e && p e) entries)
any_filter keep p [] there = there
any_filter keep p (e ∷ entries) there = elim (cases_Bool (keep e)) [
  | inl held ↦ elim (or_cases (p e) (list_any p (filter keep entries)) (ap (λ (l : List Entry). list_any p l) (sym (cond-true (keep e) (e ∷ filter keep entries) (filter keep entries) held)) ∙ there)) [
    | inl here ↦ or_left (keep e && p e) (list_any (λ e. keep e && p e) entries) (and_from (keep e) (p e) held here)
    | inr later ↦ or_right (keep e && p e) (list_any (λ e. keep e && p e) entries) (any_filter keep p entries later)
  ]
  | inr left ↦ or_right (keep e && p e) (list_any (λ e. keep e && p e) entries) (any_filter keep p entries (ap (λ (l : List Entry). list_any p l) (sym (cond-false (keep e) (e ∷ filter keep entries) (filter keep entries) left)) ∙ there))
]

pub filter_any : (keep p : Entry → Bool) (entries : List Entry) → IsTrue (list_any (λ e. keep e && p e) entries) → IsTrue (list_any p (filter keep entries))
filter_any keep p [] there = there
filter_any keep p (e ∷ entries) there = elim (or_cases (keep e && p e) (list_any (λ e. keep e && p e) entries) there) [
  | inl here ↦
      let u = and_parts (keep e) (p e) here in
      ap (λ (l : List Entry). list_any p l) (cond-true (keep e) (e ∷ filter keep entries) (filter keep entries) u.0) ∙ or_left (p e) (list_any p (filter keep entries)) u.1
  | inr later ↦
      let r = filter_any keep p entries later in
      elim (cases_Bool (keep e)) [
        | inl held ↦ ap (λ (l : List Entry). list_any p l) (cond-true (keep e) (e ∷ filter keep entries) (filter keep entries) held) ∙ or_right (p e) (list_any p (filter keep entries)) r
        | inr left ↦ ap (λ (l : List Entry). list_any p l) (cond-false (keep e) (e ∷ filter keep entries) (filter keep entries) left) ∙ r
      ]
]

abbrev pub writes : ℕ → Entry → Bool
writes x e = is_among x e.writes

-- from this LSN on
abbrev pub writes_late : ℕ → ℕ → Entry → Bool
writes_late first x e = nat_le first e.lsn && is_among x e.writes

-- A node is taken out of the entries.
module _ (entries : List Entry) (node : ℕ → Bool) where
  abbrev stays : Entry → Bool
  stays e = not (node e.lsn)

  abbrev left : List Entry
  left = filter stays entries

  left_was : (p : Entry → Bool) → IsTrue (list_any p left) → IsTrue (list_any p entries)
  left_was p there = let r = found (λ e. stays e && p e) entries (any_filter stays p entries there) in r.2 p (and_parts (stays r.0) (p r.0) r.1).1

  pub left_identities : (first : ℕ) → AreIdentitiesFrom first entries → AreIdentitiesFrom first left
  left_identities first are = λ n from.
      let is = are n from in
      record {
        blind = λ x. false_from_ne_true _ (λ read. both_ways _ (is.blind x) (left_was (λ e. (e.lsn == n) && is_among x e.reads) read));
        one = λ x y wrote also. is.one x y (left_was (λ e. (e.lsn == n) && is_among x e.writes) wrote) (left_was (λ e. (e.lsn == n) && is_among y e.writes) also);
        flag = λ x wrote.
            let w : Entry → Bool = λ e. (e.lsn == n) && is_among x e.writes in
            let flagged : Entry → Bool = λ e. (e.lsn == n) && e.identity in
            let r = found (λ e. stays e && w e) entries (any_filter stays w entries wrote) in
            let u = and_parts (stays r.0) (w r.0) r.1 in
            let kept : IsTrue (not (node n)) = subst (λ (k : ℕ). IsTrue (not (node k))) (eqb-true r.0.lsn n (and_parts (r.0.lsn == n) (is_among x r.0.writes) u.1).0) u.0 in
            let f = found flagged entries (is.flag x (left_was w wrote)) in
            let same = eqb-true f.0.lsn n (and_parts (f.0.lsn == n) f.0.identity f.1).0 in
            filter_any stays flagged entries (f.2 (λ e. stays e && flagged e) (and_from (stays f.0) (flagged f.0) (subst (λ (k : ℕ). IsTrue (not (node k))) (sym same) kept) f.1));
      }

  -- what older entries write after it, into which no edge leads, they wrote before
  pub left_older : NoEdgeInto (accesses entries) node → (first x : ℕ) → IsTrue (is_older first left x) → IsTrue (is_older first entries x)
  left_older no_edge first x is =
      let late : Entry → Bool = writes_late first x in
      let u = and_parts (list_any (writes x) left) (not (list_any late left)) is in
      let none : IsFalse (list_any late left) = not-true _ u.1 in
      let e = found (λ e. stays e && writes x e) entries (any_filter stays (writes x) entries u.0) in
      let kept = and_parts (stays e.0) (writes x e.0) e.1 in
      and_from (list_any (writes x) entries) (not (list_any late entries)) (e.2 (writes x) kept.1) (not_from_false _ (false_from_ne_true _ (λ there.
      let f = found late entries there in
      let v = and_parts (nat_le first f.0.lsn) (is_among x f.0.writes) f.1 in
      elim (cases_Bool (node f.0.lsn)) [
        | inl gone ↦
            let before : e.0.lsn < f.0.lsn = elim (cases_lt e.0.lsn first) [
              | inl lt ↦ let low = leb-true first f.0.lsn v.0 in omega (arith, lt, low)
              | inr from ↦ absurd (both_ways _ none (filter_any stays late entries (e.2 (λ k. stays k && late k) (and_from (stays e.0) (late e.0) kept.0 (and_from (nat_le first e.0.lsn) (is_among x e.0.writes) (le-leb first e.0.lsn from) kept.1)))))
            ] in
            no_edge e.0.lsn f.0.lsn (not-true _ kept.0) gone
            (Write_write x before (e.2 (λ k. (k.lsn == e.0.lsn) && is_among x k.writes) (and_from (e.0.lsn == e.0.lsn) (is_among x e.0.writes) (eq-eqb e.0.lsn e.0.lsn refl) kept.1))
            (f.2 (λ k. (k.lsn == f.0.lsn) && is_among x k.writes) (and_from (f.0.lsn == f.0.lsn) (is_among x f.0.writes) (eq-eqb f.0.lsn f.0.lsn refl) v.1)))
        | inr held ↦ both_ways _ none (filter_any stays late entries (f.2 (λ k. stays k && late k) (and_from (stays f.0) (late f.0) (not_from_false _ held) f.1)))
      ])))

-- An identity write is logged.
module _ (entries : List Entry) (n x : ℕ) (below : (k : ℕ) → IsTrue (is_among k (lsns entries)) → k < n) where
  abbrev logged : Entry
  logged = record { lsn = n; reads = []; writes = x ∷ []; identity = true }

  abbrev pub with_one : List Entry
  with_one = entries ++ logged ∷ []

  split : (p : Entry → Bool) → IsTrue (list_any p with_one) → IsTrue (list_any p entries) ⊎ IsTrue (p logged)
  split p there = elim (or_cases (list_any p entries) (list_any p (logged ∷ [])) (sym (list_any-append p entries (logged ∷ [])) ∙ there)) [
    | inl old ↦ inl old
    | inr new ↦ elim (or_cases (p logged) false new) [ inl here ↦ inr here | inr none ↦ absurd (both_ways _ refl none) ]
  ]

  was : (p : Entry → Bool) → IsTrue (list_any p entries) → IsTrue (list_any p with_one)
  was p is = list_any-append p entries (logged ∷ []) ∙ or_left (list_any p entries) (list_any p (logged ∷ [])) is

  new : (p : Entry → Bool) → IsTrue (p logged) → IsTrue (list_any p with_one)
  new p is = list_any-append p entries (logged ∷ []) ∙ or_right (list_any p entries) (list_any p (logged ∷ [])) (or_left (p logged) false is)

  only : (y : ℕ) → IsTrue (is_among y (x ∷ [])) → y ≡ x
  only y there = elim (or_cases (y == x) false there) [ inl here ↦ eqb-true y x here | inr none ↦ absurd (both_ways _ refl none) ]

  -- no entry had the LSN
  not_before : (p : Entry → Bool) → IsTrue (list_any (λ e. (e.lsn == n) && p e) entries) → ⊥
  not_before p there =
      let f = found (λ e. (e.lsn == n) && p e) entries there in
      let same = eqb-true f.0.lsn n (and_parts (f.0.lsn == n) (p f.0) f.1).0 in
      let low = below f.0.lsn f.3 in
      omega (arith, same, low)

  here_alone : (y : ℕ) → IsTrue (list_any (λ e. (e.lsn == n) && is_among y e.writes) with_one) → y ≡ x
  here_alone y wrote = elim (split (λ e. (e.lsn == n) && is_among y e.writes) wrote) [
    | inl old ↦ absurd (not_before (writes y) old)
    | inr made ↦ only y (and_parts (n == n) (is_among y (x ∷ [])) made).1
  ]

  -- what has another number was there
  was_other : (k : ℕ) (p : Entry → Bool) → (k ≡ n → ⊥) → IsTrue (list_any (λ e. (e.lsn == k) && p e) with_one) → IsTrue (list_any (λ e. (e.lsn == k) && p e) entries)
  was_other k p other there = elim (split (λ e. (e.lsn == k) && p e) there) [
    | inl old ↦ old
    | inr made ↦ absurd (other (sym (eqb-true n k (and_parts (n == k) (p logged) made).0)))
  ]

  pub one_identities : (first : ℕ) → AreIdentitiesFrom first entries → AreIdentitiesFrom first with_one
  one_identities first are = λ k from. elim (cases_eq n k) [
    | inl here ↦ subst (λ (k : ℕ). IsIdentityAt with_one k) here (record {
      blind = λ y. false_from_ne_true _ (λ read. elim (split (λ e. (e.lsn == n) && is_among y e.reads) read) [
        | inl old ↦ not_before (λ e. is_among y e.reads) old
        | inr made ↦ both_ways _ refl (and_parts (n == n) false made).1
      ]);
      one = λ y z wrote also. here_alone z also ∙ sym (here_alone y wrote);
      flag = λ y wrote. new (λ e. (e.lsn == n) && e.identity) (and_from (n == n) true (eq-eqb n n refl) refl);
    })
    | inr ne ↦
        let is = are k from in
        let other : k ≡ n → ⊥ = λ e. ne (sym e) in
        record {
          blind = λ y. false_from_ne_true _ (λ read. both_ways _ (is.blind y) (was_other k (λ e. is_among y e.reads) other read));
          one = λ y z wrote also. is.one y z (was_other k (writes y) other wrote) (was_other k (writes z) other also);
          flag = λ y wrote. was (λ e. (e.lsn == k) && e.identity) (is.flag y (was_other k (writes y) other wrote));
        }
  ]

  module _ (first : ℕ) (from : first ≤ n) where
    -- it is written by older entries alone no more, and others are as they were
    pub one_not_older : IsFalse (is_older first with_one x)
    one_not_older = false_from_ne_true _ (λ is. both_ways _ (not-true _ (and_parts (list_any (writes x) with_one) _ is).1)
        (new (writes_late first x) (and_from (nat_le first n) (is_among x (x ∷ [])) (le-leb first n from) (or_left (x == x) false (eq-eqb x x refl)))))

    pub one_older : (y : ℕ) → IsTrue (is_older first with_one y) → IsTrue (is_older first entries y)
    one_older y is =
        let u = and_parts (list_any (writes y) with_one) _ is in
        and_from (list_any (writes y) entries) _ (elim (split (writes y) u.0) [
          | inl old ↦ old
          | inr made ↦ absurd (both_ways _ one_not_older (subst (λ (z : ℕ). IsTrue (is_older first with_one z)) (only y made) is))
        ]) (not_from_false _ (false_from_ne_true _ (λ late. both_ways _ (not-true _ u.1) (was (writes_late first y) late))))

    pub older_one : (y : ℕ) → (y ≡ x → ⊥) → IsTrue (is_older first entries y) → IsTrue (is_older first with_one y)
    older_one y other is =
        let u = and_parts (list_any (writes y) entries) _ is in
        and_from (list_any (writes y) with_one) _ (was (writes y) u.0) (not_from_false _ (false_from_ne_true _ (λ late. elim (split (writes_late first y) late) [
          | inl old ↦ both_ways _ (not-true _ u.1) old
          | inr made ↦ other (only y (and_parts (nat_le first n) (is_among y (x ∷ [])) made).1)
        ])))

  pub one_below : (k : ℕ) → IsTrue (is_among k (lsns with_one)) → k < suc n
  one_below k there = elim (among_append k (lsns entries) (n ∷ []) (subst (λ (l : List ℕ). IsTrue (is_among k l)) (map-append (λ (e : Entry). e.lsn) entries (logged ∷ [])) there)) [
    | inl old ↦ let low = below k old in omega (arith, low)
    | inr made ↦ elim (or_cases (k == n) false made) [ inl here ↦ let e = eqb-true k n here in omega (arith, e) | inr none ↦ absurd (both_ways _ refl none) ]
  ]

-- a stronger test passes fewer of the objects
pub fewer_pass : (p q : ℕ → Bool) (objects : List ℕ) → ((y : ℕ) → IsTrue (p y) → IsTrue (q y)) → length (filter p objects) ≤ length (filter q objects)
fewer_pass p q [] so = omega arith
fewer_pass p q (y ∷ objects) so =
    let rest = fewer_pass p q objects so in
    elim (cases_Bool (p y)) [
      | inl held ↦
          let a = ap (λ (l : List ℕ). length l) (cond-true (p y) (y ∷ filter p objects) (filter p objects) held) in
          let b = ap (λ (l : List ℕ). length l) (cond-true (q y) (y ∷ filter q objects) (filter q objects) (so y held)) in
          omega (arith, rest, a, b)
      | inr out ↦
          let a = ap (λ (l : List ℕ). length l) (cond-false (p y) (y ∷ filter p objects) (filter p objects) out) in
          elim (cases_Bool (q y)) [
            | inl more ↦ let b = ap (λ (l : List ℕ). length l) (cond-true (q y) (y ∷ filter q objects) (filter q objects) more) in omega (arith, rest, a, b)
            | inr none ↦ let b = ap (λ (l : List ℕ). length l) (cond-false (q y) (y ∷ filter q objects) (filter q objects) none) in omega (arith, rest, a, b)
          ]
    ]

pub one_less_passes : (p q : ℕ → Bool) (objects : List ℕ) (x : ℕ) → ((y : ℕ) → IsTrue (p y) → IsTrue (q y)) → IsTrue (is_among x objects) → IsFalse (p x) → IsTrue (q x) → length (filter p objects) < length (filter q objects)
one_less_passes p q [] x so there out held = absurd (both_ways _ refl there)
one_less_passes p q (y ∷ objects) x so there out held = elim (or_cases (x == y) (is_among x objects) there) [
  | inl here ↦
      let e = eqb-true x y here in
      let rest = fewer_pass p q objects so in
      let a = ap (λ (l : List ℕ). length l) (cond-false (p y) (y ∷ filter p objects) (filter p objects) (subst (λ (z : ℕ). IsFalse (p z)) e out)) in
      let b = ap (λ (l : List ℕ). length l) (cond-true (q y) (y ∷ filter q objects) (filter q objects) (subst (λ (z : ℕ). IsTrue (q z)) e held)) in
      omega (arith, rest, a, b)
  | inr later ↦
      let rest = one_less_passes p q objects x so later out held in
      elim (cases_Bool (p y)) [
        | inl passes ↦
            let a = ap (λ (l : List ℕ). length l) (cond-true (p y) (y ∷ filter p objects) (filter p objects) passes) in
            let b = ap (λ (l : List ℕ). length l) (cond-true (q y) (y ∷ filter q objects) (filter q objects) (so y passes)) in
            omega (arith, rest, a, b)
        | inr fails ↦
            let a = ap (λ (l : List ℕ). length l) (cond-false (p y) (y ∷ filter p objects) (filter p objects) fails) in
            elim (cases_Bool (q y)) [
              | inl more ↦ let b = ap (λ (l : List ℕ). length l) (cond-true (q y) (y ∷ filter q objects) (filter q objects) more) in omega (arith, rest, a, b)
              | inr none ↦ let b = ap (λ (l : List ℕ). length l) (cond-false (q y) (y ∷ filter q objects) (filter q objects) none) in omega (arith, rest, a, b)
            ]
      ]
]

-- Identity writes of different objects that older entries write are logged: so many fewer are written by those alone.
pub all_logged : (objects logs : List ℕ) (first n : ℕ) (entries : List Entry) → first ≤ n → ((k : ℕ) → IsTrue (is_among k (lsns entries)) → k < n) → AreIdentitiesFrom first entries → AreApart logs
    → ((x : ℕ) → IsTrue (is_among x logs) → IsTrue (is_older first entries x) × IsTrue (is_among x objects))
    → AreIdentitiesFrom first (entries ++ identity_entries n logs) × (length logs + count_older first (entries ++ identity_entries n logs) objects ≤ count_older first entries objects)
all_logged objects [] first n entries from below are apart each =
    subst (λ (l : List Entry). AreIdentitiesFrom first l × (0 + count_older first l objects ≤ count_older first entries objects)) (sym (append-nil entries)) (are, omega arith)
all_logged objects (x ∷ logs) first n entries from below are apart each =
    let here = each x (or_left (x == x) (is_among x logs) (eq-eqb x x refl)) in
    let more = with_one entries n x below in
    let rest = all_logged objects logs first (suc n) more (omega (arith, from)) (one_below entries n x below) (one_identities entries n x below first are) apart.1
    (λ y there.
    let old = each y (or_right (y == x) (is_among y logs) there) in
    (older_one entries n x below first from y (λ same. both_ways _ apart.0 (subst (λ (z : ℕ). IsTrue (is_among z logs)) same there)) old.0, old.1)) in
    let less = one_less_passes (is_older first more) (is_older first entries) objects x (one_older entries n x below first from) here.1 (one_not_older entries n x below first from) here.0 in
    let joined : more ++ identity_entries (suc n) logs ≡ entries ++ identity_entries n (x ∷ logs) = append_assoc entries _ (identity_entries (suc n) logs) in
    subst (λ (l : List Entry). AreIdentitiesFrom first l × (suc (length logs) + count_older first l objects ≤ count_older first entries objects)) joined (rest.0, let fewer = rest.1 in omega (arith, fewer, less))
