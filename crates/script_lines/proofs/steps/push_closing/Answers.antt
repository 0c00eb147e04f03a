use Rattle.std.proofs.Common.{◌≡◌, ap, sym, ◌∙◌, ℕ, ◌+◌, ◌-◌, List, [], ◌∷◌, ◌++◌, append_assoc, map, refl}
use Rattle.std.specs.Prelude.{codes}
use Rattle.std.specs.List.{flat_map, range_with_len}
use Rattle.script_lines.specs.DemoScript.{ended, get_line}
use Rattle.script_lines.proofs.Left.{one_more, range_left}
use Rattle.script_lines.proofs.steps.push_closing.Goals as goal

pub loop-object-init : goal.loop-object-init
loop-object-init c =
    one_more c.args.script.now.items (codes "force\ndrain\n") (flat_map ended (map get_line (range_with_len 0 16))) _ _ c.in_ok-extend_from_slice.ensures.items refl

pub loop-object-preserved : goal.loop-object-preserved
loop-object-preserved c =
    let x = c.loop-object.object in
    let done = c.loop-object.script.items in
    let more : c.push.new.self.items ≡ done ++ ended (get_line x) =
    c.in_ok-push.ensures.items ∙ ap (λ (s : List ℕ). s ++ 10 ∷ []) c.in_ok-push_line.ensures ∙ append_assoc done (get_line x) (10 ∷ []) in
    let rest = flat_map ended (map get_line (range_with_len (x + 1) (16 - (x + 1)))) in
    one_more done (ended (get_line x)) rest _ _ more (ap (λ (objects : List ℕ). done ++ flat_map ended (map get_line objects)) (sym (range_left 16 x c.loop-object-test.true)) ∙ c.loop-object.invariant)
