-- A cache after one object was set.
use Rattle.std.proofs.Common.{◌≡◌, ◌∙◌, ◌==◌, sym, ap, ℕ, List, true, false, if◌then◌else◌, inl, inr, Some, nat_eq, true≢false, ne_eqb, eq-eqb}
use Rattle.std.proofs.lemmas.Bool.{cases_Bool, cond-true, cond-false, eqb-true}
use Rattle.dirty_cache.specs.Contents.{Contents, held}

pub as_tested : (old new : Contents) (o : ℕ) (v : List ℕ) → held new o ≡ Some (record { lsn = 0; bytes = v }) → ((y : ℕ) → nat_eq o y ≡ false → held new y ≡ held old y)
    → (x : ℕ) → held new x ≡ (if x == o then Some (record { lsn = 0; bytes = v }) else held old x)
as_tested old new o v here others x = elim (cases_Bool (x == o)) [
  | inl same ↦ ap (λ (y : ℕ). held new y) (eqb-true x o same) ∙ here ∙ sym (cond-true (x == o) (Some (record { lsn = 0; bytes = v })) (held old x) same)
  | inr other ↦ others x (eq_back x o other) ∙ sym (cond-false (x == o) (Some (record { lsn = 0; bytes = v })) (held old x) other)
]
  where
    eq_back : (x o : ℕ) → (x == o) ≡ false → nat_eq o x ≡ false
    eq_back x o other = ne_eqb o x (λ same. true≢false (sym (eq-eqb x o (sym same)) ∙ other))
