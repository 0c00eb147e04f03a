use Rattle.std.proofs.Common.{◌≡◌, ◌∙◌, sym, ap, ℕ, Option, None, Some, arith}
use Rattle.std.specs.Option.{option_copied}
use Rattle.cache_manager.proofs.beside.may_finish.Goals as goal

same_some : (a b : ℕ) → Some a ≡ Some b → a ≡ b
same_some a b e = ap (λ (o : Option ℕ). value a o) e
  where
    value : ℕ → Option ℕ → ℕ
    value d None = d
    value d (Some v) = v

pub returns-in-Some-clause-fresh : goal.returns-in-Some-clause-fresh
returns-in-Some-clause-fresh c = λ is y first low.
    let same = same_some c.in-Some.x.now y (sym (ap option_copied c.in-Some.is) ∙ c.first.ensures.value ∙ first) in
    c.is_fresh.ensures.fresh is (omega (arith, low, same))
