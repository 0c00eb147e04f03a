-- With one half of a swap in its slot, no set of installed records explains the slots.
use Rattle.std.proofs.Common.{ℕ, zero, suc, Bool, refl, arith, inl, inr}
use Rattle.std.specs.Prelude.{IsTrue}
use Rattle.std.proofs.lemmas.Bool.{cases_Bool, both_ways}
use Rattle.install_order.specs.Order.{IsExposed}
use Rattle.explain_core.specs.ByteOps.{byte_meaning}
use Rattle.explain_core.specs.History.{accesses_of, value_at}
use Rattle.explain_core.specs.Explains.{Explains}
use Rattle.explain_core.specs.Worked.{two, swapped, half_flushed}

-- with the second put and the swap installed, nobody else writes 1
shown : (installed : ℕ → Bool) → IsTrue (installed 2) → IsTrue (installed 3) → IsExposed (accesses_of (byte_meaning two) swapped) installed 1
shown i second third zero out w = absurd (both_ways _ refl w)
shown i second third (suc zero) out w = absurd (both_ways _ refl w)
shown i second third (suc (suc zero)) out w = absurd (both_ways _ out second)
shown i second third (suc (suc (suc zero))) out w = absurd (both_ways _ out third)
shown i second third (suc (suc (suc (suc n)))) out w = absurd (both_ways _ refl w)

pub half-unexplained : (installed : ℕ → Bool) → Explains (accesses_of (byte_meaning two) swapped) (value_at (byte_meaning two) swapped) installed half_flushed → ⊥
half-unexplained i e = elim (e.origin 0) [
  | inl z ↦ omega (arith, z.0)
  | inr g ↦ elim (cases_Bool (i 2)) [
    | inl second ↦ both_ways _ (e.last 1 (shown i second g.0) 2 (omega arith) second) refl
    | inr out ↦ both_ways _ (e.closed 2 3 1 out g.0 (omega arith) refl).1 refl
  ]
]
