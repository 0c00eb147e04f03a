use Rattle.disk_model.specs.declared.machine.FileNo.TheVariants.{Objects}
use Rattle.redo_check.proofs.FormLemmas.{switch_read}
use Rattle.redo_check.proofs.objects.read_switch.Goals as goal

pub returns-clause-read : goal.returns-clause-read
returns-clause-read g c files agrees = switch_read (files Objects) c.read_padded.new.into c.args.numbers (c.in_ok-read_padded.ensures.bytes files agrees)
