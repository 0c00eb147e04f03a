use Rattle.app_program.specs.ValueLaws.{value_follows}
use Rattle.app_program.proofs.machine_laws.a_value_follows_the_machine.Goals as goal

pub returns : goal.returns
returns c b code value events small bytes short fed_bytes is = value_follows b code small bytes short events value fed_bytes is
