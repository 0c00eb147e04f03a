-- What explains the slots of a copy.
use Rattle.std.proofs.Common.{◌≡◌, ◌∙◌, sym, subst, ap, ℕ, ◌<◌, ◌≤◌, Bool, not, List, [], refl, arith, inl, inr}
use Rattle.std.specs.Prelude.{IsTrue, IsFalse, ◌⊎◌, ◌&&◌, ◌==◌, nat_lt}
use Rattle.std.proofs.lemmas.Bool.{cases_lt, cases_eq, cases_Bool, both_ways, and_left, and_parts, and_from, eq-eqb, eqb-true, lt-ltb, le-ltb, ltb-true, not-true, not_from_false, false_from_ne_true, cond-true, cond-false}
use Rattle.install_order.specs.Order.{Access, IsExposed}
use Rattle.install_order.specs.Computed.{some_below}
use Rattle.install_order.specs.NodeLaws.{some-from, some-gives}
use Rattle.oper_core.specs.Cell.{Cell}
use Rattle.explain_core.specs.Explains.{Explains}
use Rattle.explain_core.specs.Backup.{backup_of, is_newer, backup_installed}

-- n reads nothing, and writes x alone
pub record IsBlind (a : Access) (n x : ℕ) : Type 0 where
  pub reads : (y : ℕ) → IsFalse (a.reads n y)
  pub only : (y : ℕ) → IsTrue (a.writes n y) → y ≡ x

module _ (a : Access) (v : ℕ → ℕ → List ℕ) (i : ℕ → Bool) (end copied : ℕ) (cells s : ℕ → Cell) (e : Explains a v i s) (within : (n : ℕ) → IsTrue (i n) → n < end)
    (origin : (x : ℕ) → x < copied → (((cells x).lsn ≡ 0) × ((cells x).value ≡ [])) ⊎ (IsTrue (i (cells x).lsn) × IsTrue (a.writes (cells x).lsn x)))
    (since : (x : ℕ) → x < copied → (cells x ≡ s x) ⊎ (((cells x).lsn < (s x).lsn) × IsBlind a (s x).lsn x)) where
  abbrev newer : ℕ → Bool
  newer = is_newer a i end copied cells s

  abbrev j : ℕ → Bool
  j = backup_installed a i end copied cells s

  abbrev b : ℕ → Cell
  b = backup_of copied cells s

  abbrev later : ℕ → ℕ → ℕ → Bool
  later n x k = nat_lt n k && (i k && a.writes k x)

  -- what is left out is a blind write of a copied object, and the last installed one that writes it
  pub newer-is : (n : ℕ) → IsTrue (newer n) → (x : ℕ) × (x < copied) × (n ≡ (s x).lsn) × ((cells x).lsn < n) × ((k : ℕ) → n < k → IsTrue (i k) → IsFalse (a.writes k x)) × IsBlind a n x
  newer-is n is =
      let g = some-gives copied (λ x. (n == (s x).lsn) && (nat_lt (cells x).lsn n && not (some_below end (later n x)))) is in
      let x = g.0 in
      let p = and_parts (n == (s x).lsn) _ g.2 in
      let q = and_parts (nat_lt (cells x).lsn n) _ p.1 in
      let here : n ≡ (s x).lsn = eqb-true n (s x).lsn p.0 in
      let low : (cells x).lsn < n = ltb-true _ _ q.0 in
      let none : IsFalse (some_below end (later n x)) = not-true _ q.1 in
      let blind : IsBlind a n x = elim (since x g.1) [
        | inl same ↦ absurd (omega (arith, low, here, ap (λ (c : Cell). c.lsn) same))
        | inr set ↦ subst (λ (k : ℕ). IsBlind a k x) (sym here) set.1
      ] in (
        x,
        g.1,
        here,
        low,
        (λ k lt there. false_from_ne_true _ (λ wr. both_ways _ none (some-from end (later n x) k (within k there) (and_from (nat_lt n k) _ (lt-ltb n k lt) (and_from (i k) _ there wr))))),
        blind,
      )

  out-cases : (n : ℕ) → IsFalse (j n) → IsFalse (i n) ⊎ IsTrue (newer n)
  out-cases n out = elim (cases_Bool (i n)) [
    | inr off ↦ inl off
    | inl there ↦ elim (cases_Bool (newer n)) [
      | inl new ↦ inr new
      | inr old ↦ absurd (both_ways _ out (and_from (i n) _ there (not_from_false _ old)))
    ]
  ]

  -- what the copy needs of an object, the slots need too
  exposed-live : (x : ℕ) → IsExposed a j x → IsExposed a i x
  exposed-live x shown p off wr =
      let r = shown p (and_left (i p) _ off) wr in
      elim (out-cases r.0 r.2) [
        | inl out ↦ (r.0, r.1, out, r.3)
        | inr new ↦ let is = newer-is r.0 new in absurd (both_ways _ (is.5.reads x) r.3)
      ]

  -- a copied object that is exposed is as its slot
  copied-same : (x : ℕ) → IsExposed a j x → x < copied → cells x ≡ s x
  copied-same x shown lt = elim (since x lt) [
    | inl same ↦ same
    | inr set ↦
        let n = (s x).lsn in
        let live = exposed-live x shown in
        let last : IsFalse (some_below end (later n x)) = false_from_ne_true _ (λ some.
        let g = some-gives end (later n x) some in
        let p = and_parts (nat_lt n g.0) _ g.2 in
        let q = and_parts (i g.0) _ p.1 in
        both_ways _ (e.last x live g.0 (ltb-true _ _ p.0) q.0) q.1) in
        let new : IsTrue (newer n) = some-from copied (λ y. (n == (s y).lsn) && (nat_lt (cells y).lsn n && not (some_below end (later n y)))) x lt
        (and_from (n == (s x).lsn) _ (eq-eqb n n refl) (and_from (nat_lt (cells x).lsn n) _ (lt-ltb _ _ set.0) (not_from_false _ last))) in
        let out : IsFalse (j n) = false_from_ne_true _ (λ there. both_ways _ (not-true _ (and_parts (i n) _ there).1) new) in
        elim (e.origin x) [
          | inl z ↦ absurd (omega (arith, z.0, set.0))
          | inr g ↦
              let r = shown n out g.1 in
              elim (out-cases r.0 r.2) [
                | inr other ↦ let is = newer-is r.0 other in absurd (both_ways _ (is.5.reads x) r.3)
                | inl off ↦ elim (cases_eq r.0 n) [
                  | inl q ↦ absurd (both_ways _ (set.1.reads x) (subst (λ (k : ℕ). IsTrue (a.reads k x)) q r.3))
                  | inr ne ↦ absurd (both_ways _ (e.closed r.0 n x off g.0 (omega (arith, r.1, ne)) g.1).0 r.3)
                ]
              ]
        ]
  ]

  split : (x : ℕ) → ((x < copied) × (b x ≡ cells x)) ⊎ ((copied ≤ x) × (b x ≡ s x))
  split x = elim (cases_lt x copied) [
    | inl lt ↦ inl (lt, cond-true (nat_lt x copied) (cells x) (s x) (lt-ltb x copied lt))
    | inr le ↦ inr (le, cond-false (nat_lt x copied) (cells x) (s x) (le-ltb x copied le))
  ]

  shown-same : (x : ℕ) → IsExposed a j x → b x ≡ s x
  shown-same x shown = elim (split x) [
    | inl c ↦ c.1 ∙ copied-same x shown c.0
    | inr c ↦ c.1
  ]

  pub Explains-copy : Explains a v j b
  Explains-copy = record {
    closed = λ o p x out there lt wr.
        let on = (and_parts (i p) _ there).0 in
        elim (out-cases o out) [
          | inl off ↦ e.closed o p x off on lt wr
          | inr new ↦
              let is = newer-is o new in (
                is.5.reads x,
                false_from_ne_true _ (λ writes. both_ways _ (is.4 p lt on) (subst (λ (y : ℕ). IsTrue (a.writes p y)) (is.5.only x writes) wr)),
              )
        ];
    origin = λ x. elim (split x) [
      | inl c ↦ subst (λ (cell : Cell). ((cell.lsn ≡ 0) × (cell.value ≡ [])) ⊎ (IsTrue (j cell.lsn) × IsTrue (a.writes cell.lsn x))) (sym c.1) (elim (origin x c.0) [
        | inl z ↦ inl z
        | inr g ↦ inr (
          and_from (i (cells x).lsn) _ g.0 (not_from_false _ (false_from_ne_true _ (λ new.
              let is = newer-is (cells x).lsn new in
              let q : x ≡ is.0 = is.5.only x g.1 in
              absurd (omega (arith, is.3, ap (λ (y : ℕ). (cells y).lsn) q))))),
          g.1,
        )
      ])
      | inr c ↦ subst (λ (cell : Cell). ((cell.lsn ≡ 0) × (cell.value ≡ [])) ⊎ (IsTrue (j cell.lsn) × IsTrue (a.writes cell.lsn x))) (sym c.1) (elim (e.origin x) [
        | inl z ↦ inl z
        | inr g ↦ inr (
          and_from (i (s x).lsn) _ g.0 (not_from_false _ (false_from_ne_true _ (λ new.
              let is = newer-is (s x).lsn new in
              let q : x ≡ is.0 = is.5.only x g.1 in
              absurd (omega (arith, is.1, c.0, q))))),
          g.1,
        )
      ])
    ];
    last = λ x shown n lt there. e.last x (exposed-live x shown) n (subst (λ (cell : Cell). cell.lsn < n) (shown-same x shown) lt) (and_parts (i n) _ there).0;
    right = λ x shown. subst (λ (cell : Cell). cell.value ≡ v cell.lsn x) (sym (shown-same x shown)) (e.right x (exposed-live x shown));
  }
