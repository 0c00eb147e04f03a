use Rattle.std.proofs.Common.{sym, ap, ◌∙◌, arith}
use Rattle.std.specs.Prelude.{is_some, not}
use Rattle.app_program.specs.ProgramLaws.{step_left}
use Rattle.app_program.proofs.program.is_program.Goals as goal

pub loop-rest-preserved : goal.loop-rest-preserved
loop-rest-preserved c =
    c.loop-rest.invariant
    ∙ step_left c.loop-rest.rest.now c.split_at.result.0.now c.split_at.result.1.now (omega (arith, c.loop-rest-test.true)) c.split_at.ensures.front c.split_at.ensures.back
    (ap is_some (sym c.decode.ensures.value) ∙ c.is_none.ensures ∙ ap not c.if-is_none.false)
