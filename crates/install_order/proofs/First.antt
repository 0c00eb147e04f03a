-- The definitions in other words are the definitions.
use Rattle.std.proofs.Common.{sym, subst, ℕ, zero, suc, ◌<◌, Bool, arith, inl, inr}
use Rattle.std.specs.Prelude.{IsTrue, IsFalse, ◌⊎◌, ◌↔◌}
use Rattle.std.proofs.lemmas.Bool.{cases_lt, cases_eq, cases_Bool, both_ways, false_from_ne_true}
use Rattle.install_order.specs.Order.{Access, IsExposed}
use Rattle.install_order.specs.Computed.{IsWithin}
use Rattle.install_order.specs.FirstReads.{IsIdle, FirstReads}

-- none below n accesses x, or there is a first that does
first : (a : Access) (installed : ℕ → Bool) (x n : ℕ) → ((o : ℕ) → o < n → IsFalse (installed o) → IsIdle a o x)
    ⊎ ((o : ℕ) × (o < n) × IsFalse (installed o) × (IsTrue (a.reads o x) ⊎ (IsFalse (a.reads o x) × IsTrue (a.writes o x))) × ((q : ℕ) → q < o → IsFalse (installed q) → IsIdle a q x))
first a i x zero = inl (λ o lt. absurd (omega arith))
first a i x (suc n) = elim (first a i x n) [
  | inr r ↦ inr (r.0, omega (arith, r.1), r.2, r.3, r.4)
  | inl none ↦ elim (cases_Bool (i n)) [
    | inl there ↦ inl (λ o lt out. elim (cases_eq o n) [ inl q ↦ absurd (both_ways _ out (subst (λ (k : ℕ). IsTrue (i k)) (sym q) there)) | inr ne ↦ none o (omega arith) out ])
    | inr out ↦ elim (cases_Bool (a.reads n x)) [
      | inl r ↦ inr (n, omega arith, out, inl r, none)
      | inr nr ↦ elim (cases_Bool (a.writes n x)) [
        | inl w ↦ inr (n, omega arith, out, inr (nr, w), none)
        | inr nw ↦ inl (λ o lt off. elim (cases_eq o n) [ inl q ↦ subst (λ (k : ℕ). IsIdle a k x) (sym q) (nr, nw) | inr ne ↦ none o (omega arith) off ])
      ]
    ]
  ]
]

pub exposed-first : (a : Access) (objects end : ℕ) (installed : ℕ → Bool) (x : ℕ) → IsWithin a objects end → IsExposed a installed x ↔ FirstReads a installed x
exposed-first a objects end i x is = (
  (λ shown. elim (first a i x end) [
    | inl none ↦ inl (λ o out. (
      false_from_ne_true _ (λ r. both_ways _ (none o (is.reads_lsn o x r) out).0 r),
      false_from_ne_true _ (λ w. both_ways _ (none o (is.writes_lsn o x w) out).1 w),
    ))
    | inr f ↦ elim f.3 [
      | inl r ↦ inr (f.0, f.2, r, f.4)
      | inr w ↦
          let r = shown f.0 f.2 w.1 in
          absurd (elim (cases_eq r.0 f.0) [
            | inl q ↦ both_ways _ w.0 (subst (λ (k : ℕ). IsTrue (a.reads k x)) q r.3)
            | inr ne ↦ both_ways _ (f.4 r.0 (omega (arith, r.1)) r.2).0 r.3
          ])
    ]
  ]),
  (λ words p out w. elim words [
    | inl none ↦ absurd (both_ways _ (none p out).1 w)
    | inr f ↦ elim (cases_lt p f.0) [
      | inl lt ↦ absurd (both_ways _ (f.3 p lt out).1 w)
      | inr ge ↦ (f.0, ge, f.1, f.2)
    ]
  ]),
)
