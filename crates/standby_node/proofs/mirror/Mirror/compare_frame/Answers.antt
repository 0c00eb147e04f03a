use Rattle.std.proofs.Common.{◌≡◌, ◌+◌, ◌-◌, Bool, List, ℕ, arith, drop, subst, take}
use Rattle.std.specs.Prelude.{Ok}
use Rattle.standby_node.specs.Same.{IsPayloadCompared, MirrorView}
use Rattle.standby_node.proofs.Mirrored.{same_from}
use Rattle.standby_node.proofs.mirror.Mirror.compare_frame.Goals as goal

pub returns-clause-compared : goal.returns-clause-compared
returns-clause-compared g c first bytes =
    let meaning = g.O.Oper.meaning in
    let inside = c.self.inside in
    let parts : MirrorView = record { bounds = inside.bounds; base = inside.base; codes = inside.codes.items; frames = inside.frames } in
    let codes = c.compare_payload.new.codes.items in
    let payload = take (4 + c.args.size - 4) (drop 4 c.kept.result.now) in
    let compared = subst (λ (b : Bool). IsPayloadCompared parts.base (meaning parts.bounds) parts.codes codes payload (Ok b)) c.if-not-is.false c.in_ok-is.ensures in
    let long : 4 + c.args.size - 4 ≡ c.args.size = omega arith in
    same_from meaning parts c.args.self.now c.self.view_is first bytes c.args.size codes payload (λ i. take (long i) (drop 4 (c.kept.ensures i))) compared c.pass.new.self c.pass.ensures.passed c.requires.whole
