use Rattle.std.proofs.Common.{◌∙◌, sym}
use Rattle.explain_core.specs.StableLaws.{stand-commands}
use Rattle.explain_core.proofs.OneState.{one-state}
use Rattle.explain_core.proofs.recovery.one_state.Goals as goal

pub returns : goal.returns
returns g c = record {
  commands = λ b parts h k i j s t. stand-commands (g.O.Oper.meaning b) parts h i s ∙ sym (stand-commands (g.O.Oper.meaning b) parts k j t);
  state = λ b parts h k i j x small s t. one-state (g.O.Oper.meaning b) (g.met.O.Oper.lawful b small) parts h k i j s t x;
}
