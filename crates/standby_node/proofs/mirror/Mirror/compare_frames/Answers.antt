use Rattle.std.proofs.Common.{Bool, refl, subst, sym}
use Rattle.std.specs.Prelude.{Ok, Err}
use Rattle.oper_core.specs.declared.bounds.Bounds.{Bounds}
use Rattle.redo_pass.specs.Endings.{as_error}
use Rattle.standby_node.specs.Same.{ComparesFrame, ComparesPiece, HasCompared}
use Rattle.standby_node.proofs.Mirrored.{as_piece}
use Rattle.standby_node.proofs.mirror.Mirror.compare_frames.Goals as goal

pub returns-in_err-compare_frame-clause-compared : goal.returns-in_err-compare_frame-clause-compared
returns-in_err-compare_frame-clause-compared g c first bytes h =
    let meaning = g.O.Oper.meaning in
    let m = meaning c.args.self.now.bounds in
    let before = c.loop-size.self in
    let after = c.compare_frame.new.self in
    let same = c.loop-size.invariant.same.0 in
    let e = c.in_err-compare_frame.field-0.0 in
    let here = subst (λ (b : Bounds). HasCompared (meaning b) first bytes before) (sym same) (c.loop-size.invariant.compared first bytes h) in
    let is = subst (λ (b : Bounds). ComparesFrame (meaning b) first bytes after (Err e)) same (c.in_err-compare_frame.ensures.compared first bytes here) in
    as_error (λ r. ComparesPiece m first bytes after r) c.from_residual.result e c.from_residual.ensures.1 (as_piece m first bytes after after e refl is)

pub returns-then-not-branch-clause-compared : goal.returns-then-not-branch-clause-compared
returns-then-not-branch-clause-compared g c first bytes h =
    let meaning = g.O.Oper.meaning in
    let after = c.compare_frame.new.self in
    let same = c.loop-size.invariant.same.0 in
    let here = subst (λ (b : Bounds). HasCompared (meaning b) first bytes c.loop-size.self) (sym same) (c.loop-size.invariant.compared first bytes h) in
    subst (λ (is : Bool). ComparesFrame (meaning c.args.self.now.bounds) first bytes after (Ok is)) c.if-not-branch.true (subst (λ (b : Bounds). ComparesFrame (meaning b) first bytes after (Ok c.in_ok-compare_frame.field-0)) same (c.in_ok-compare_frame.ensures.compared first bytes here))
