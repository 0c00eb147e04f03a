use Rattle.std.proofs.Common.{ℕ, ◌≤◌, List, take, get_or, sym, subst, arith}
use Rattle.std.specs.Prelude.{All}
use Rattle.std.proofs.lemmas.List.{take_more}
use Rattle.std.proofs.lemmas.List.Elements.{All-push, All-weaker}
use Rattle.checkpointing.proofs.taking.least_start.Goals as goal

pub loop-start-init : goal.loop-start-init
loop-start-init c = (omega arith, λ k d within. absurd (omega (arith, within)), λ k le all. le)

pub loop-start-preserved : goal.loop-start-preserved
loop-start-preserved c =
    let xs = c.args.starts.now in
    let i = c.loop-start.start-index in
    let s = get_or xs i (0, 0) in
    let so_far = c.loop-start.invariant in
    let least = c.min-least.result in (
      omega (arith, c.min-least.ensures, so_far.0),
      subst (λ (l : List (ℕ × ℕ)). All (λ s. least ≤ s.1) l) (sym (take_more xs i (0, 0) c.loop-start-test.true))
          (All-push (λ (s : ℕ × ℕ). least ≤ s.1) (take i xs) s
          (All-weaker (λ (s : ℕ × ℕ). c.loop-start.least ≤ s.1) (λ (s : ℕ × ℕ). least ≤ s.1) (λ s low. omega (arith, c.min-least.ensures, low)) (take i xs) so_far.1) (omega (arith, c.min-least.ensures))),
      λ k le all. let a = so_far.2 k le all in let b : k ≤ s.1 = all i (0, 0) c.loop-start-test.true in omega (arith, c.min-least.ensures, a, b),
    )
