use Rattle.std.proofs.Common.{sym, ◌∙◌, arith}
use Rattle.app_program.specs.ProgramLaws.{size_is}
use Rattle.app_program.proofs.program.Program.of.Goals as goal

pub returns-in-Some-clause-size : goal.returns-in-Some-clause-size
returns-in-Some-clause-size c =
    let size = size_is c.in-Some.program c.args.value.now (sym c.decode.ensures ∙ c.in-Some.is) in
    omega (arith, size)
