-- What the answers of calls say of how they ended.
use Rattle.std.proofs.Common.{◌≡◌, ap, ◌∙◌, subst, ℕ, ◌+◌, ◌-◌, ◌≤◌, arith, refl, inl, inr, ◌⊎◌, Bool, true, false}
use Rattle.std.specs.Prelude.{IsErrAnd, Result, Ok, Err, IsErrOf, IfOk, IfErr, ◌↔◌}
use Rattle.std.proofs.lemmas.Bool.{cases_Bool}
use Rattle.std.proofs.lemmas.Result.{err_from_is_err_and}
use Rattle.disk_model.specs.declared.machine.FileNo.{FileNo}
use Rattle.log_records.specs.declared.rewrite_err.RewriteErr.{RewriteErr}
use Rattle.log_records.specs.declared.rewrite_err.RewriteErr.TheVariants.{Damaged}
use Rattle.checkpointing.specs.Left.{DamagedBy}
use Rattle.store_engine.specs.Calls.{work_of}
use Rattle.store_engine.specs.declared.work_err.WorkErr.{WorkErr}

-- a flag that is raised exactly where P holds is down, or P holds
pub unbroken_or : (broken : Bool) (P : Type 0) → (broken ≡ true) ↔ P → P ⊎ (broken ≡ false)
unbroken_or broken P so = elim (cases_Bool broken) [ inl is ↦ inl (so.0 is) | inr not ↦ inr not ]

-- a bound on a count, by the LSNs that were given meanwhile
pub bounded_so : {E : Type 0} (r : Result ℕ E) (first last entries : ℕ) → first ≤ last → IfOk r (λ n. n + first ≤ entries + last) → IfOk r (λ n. n ≤ entries + (last - first))
bounded_so (Ok n) first last entries rising bound = omega (arith, rising, bound)
bounded_so (Err e) first last entries rising bound = tt

-- a trim that reports damage
pub damaged_by : {T : Type 0} (fault : FileNo → ℕ → Type 0) (r : Result T RewriteErr) (file : FileNo) (place : ℕ) → IfErr r (DamagedBy fault) → IsErrOf r (Damaged file place) → fault file place
damaged_by {T} fault r file place told is = subst (λ (x : Result T RewriteErr). IfErr x (DamagedBy fault)) is told

-- an error that is handed on
pub error_from : {T E : Type 0} (r : Result T E) (e : E) → IsErrAnd r (λ k. k ≡ e) → r ≡ Err e
error_from r e is = let q = err_from_is_err_and r is in q.1 ∙ ap (λ x. Err x) q.2

-- a call of the engine answers as the call on its store did, which failed, or did not
pub works_err : {T E : Type 0} (from : E → WorkErr) (Says : Result T E → Type 0) (result : Result T WorkErr) (answer : Result T E) (e : E) → IsErrAnd result (λ k. k ≡ from e) → answer ≡ Err e → Says answer
    → (a : Result T E) × (result ≡ work_of from a) × Says a
works_err from Says result answer e is was says = (Err e, error_from result (from e) is, subst Says was says)

pub works_ok : {T E : Type 0} (from : E → WorkErr) (Says : Result T E → Type 0) (answer : Result T E) (value : T) → answer ≡ Ok value → Says answer → (a : Result T E) × (Ok value ≡ work_of from a) × Says a
works_ok from Says answer value was says = (Ok value, refl, subst Says was says)
