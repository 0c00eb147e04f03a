use Rattle.std.proofs.Common.{[], refl, sym}
use Rattle.std.proofs.lemmas.List.{append-nil}
use Rattle.shell_base.specs.HoldLaws.{always}
use Rattle.serving.proofs.hearing.read_more.Goals as goal

pub returns-in_err-piece-clause-bytes : goal.returns-in_err-piece-clause-bytes
returns-in_err-piece-clause-bytes g c told = ([], refl, always c.from_residual.result (sym (append-nil c.args.into.now.items)))
