use Rattle.cache_manager.proofs.FullDrain.GoesOn.{turn_goes_on, workless_off, workless_through}
use Rattle.cache_manager.proofs.courses.a_turn_goes_on.Goals as goal

pub returns : goal.returns
returns g c = record {
  far = λ b copied most w used some through. turn_goes_on (g.O.Oper.meaning b) copied most some w used through;
  through = λ b copied most w used some. let m = g.O.Oper.meaning b in (workless_off m copied w some, workless_through m copied most w used some);
}
