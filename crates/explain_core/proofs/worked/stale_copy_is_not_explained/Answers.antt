use Rattle.std.proofs.Common.{ℕ, zero, suc, Bool, refl, arith, inl, inr}
use Rattle.std.specs.Prelude.{IsTrue}
use Rattle.std.proofs.lemmas.Bool.{cases_Bool, both_ways}
use Rattle.install_order.specs.Order.{IsExposed}
use Rattle.explain_core.specs.ByteOps.{byte_meaning}
use Rattle.explain_core.specs.History.{accesses_of, value_at}
use Rattle.explain_core.specs.Explains.{Explains}
use Rattle.explain_core.specs.World.{step, run}
use Rattle.explain_core.specs.Backup.{backup_of}
use Rattle.explain_core.specs.Worked.{two, after_steps, copied_flushed, stale_copied}
use Rattle.explain_core.proofs.worked.stale_copy_is_not_explained.Goals as goal

-- with the first put and the swap installed, nobody else writes 0
shown : (installed : ℕ → Bool) → IsTrue (installed 1) → IsTrue (installed 3) → IsExposed (accesses_of (byte_meaning two) (after_steps copied_flushed).history) installed 0
unfolding step run
shown i first third zero out w = absurd (both_ways _ refl w)
shown i first third (suc zero) out w = absurd (both_ways _ out first)
shown i first third (suc (suc zero)) out w = absurd (both_ways _ refl w)
shown i first third (suc (suc (suc zero))) out w = absurd (both_ways _ out third)
shown i first third (suc (suc (suc (suc zero)))) out w = absurd (both_ways _ refl w)
shown i first third (suc (suc (suc (suc (suc n))))) out w = absurd (both_ways _ refl w)

-- 1 bears the LSN of the identity write, so the swap is installed, and with it the first put
unexplained : (installed : ℕ → Bool) → Explains (accesses_of (byte_meaning two) (after_steps copied_flushed).history) (value_at (byte_meaning two) (after_steps copied_flushed).history) installed (backup_of 2 stale_copied (after_steps copied_flushed).slots) → ⊥
unfolding step run
unexplained i e = elim (e.origin 1) [
  | inl z ↦ omega (arith, z.0)
  | inr g ↦ elim (cases_Bool (i 3)) [
    | inr out ↦ both_ways _ (e.closed 3 4 1 out g.0 (omega arith) refl).0 refl
    | inl third ↦ elim (cases_Bool (i 1)) [
      | inr out ↦ both_ways _ (e.closed 1 3 0 out third (omega arith) refl).1 refl
      | inl first ↦ both_ways _ (e.last 0 (shown i first third) 3 (omega arith) third) refl
    ]
  ]
]

pub returns : goal.returns
unfolding step run
returns c = record {
  cells = (refl, refl);
  rule = λ may. let one = may (omega arith) in omega (arith, one.2 1 refl, one.2 2 refl);
  unexplained = unexplained;
}
