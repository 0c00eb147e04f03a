use Rattle.std.proofs.Common.{◌≡◌, ap, sym, ◌∙◌, ℕ, ◌+◌, ◌-◌, List, [], ◌∷◌, ◌++◌}
use Rattle.script_lines.specs.Draws.{next, draw, bytes_from}
use Rattle.script_lines.proofs.Left.{one_more, bytes_left, draws_left}
use Rattle.script_lines.proofs.steps.drawn_bytes.Goals as goal

pub loop-preserved : goal.loop-preserved
loop-preserved c =
    let n = c.args.count in
    let i = c.loop.counter in
    let g = c.loop.draws in
    let done = c.loop.bytes.items in
    let all = c.loop.invariant in
    let more : c.push.new.self.items ≡ done ++ draw 256 g ∷ [] =
    c.in_ok-push.ensures.items ∙ ap (λ (d : ℕ). done ++ d ∷ []) c.draw.ensures.value in
    let rest = bytes_from (n - (i + 1)) (next g) in
    rw c.draw.ensures.next (
      one_more done (draw 256 g ∷ []) rest _ _ more (ap (λ (b : List ℕ). done ++ b) (sym (bytes_left n i g c.loop-test.true)) ∙ all.0),
      sym (draws_left n i g c.loop-test.true) ∙ all.1,
    )
