use Rattle.std.proofs.Common.{ap, ◌∙◌, List, Result, Ok, false}
use Rattle.page_map.specs.Sets.{Turn}
use Rattle.range_calls.specs.Answers as answers
use Rattle.range_calls.specs.Store.{Command}
use Rattle.range_calls.specs.declared.round.Round.{Round}
use Rattle.map_client.specs.Answers.{MapErr}
use Rattle.map_client.specs.Turning.{round_of}
use Rattle.map_client.proofs.cutting.round_due.Goals as goal

pub returns-in-Ok-clause-answer : goal.returns-in-Ok-clause-answer
returns-in-Ok-clause-answer c = λ free two.
    ap (λ (l : List Command). (let r : Result Round MapErr = Ok (record { ops = l; last = false }) in r)) c.all_stored.ensures ∙ ap (λ (t : Turn). answers.told (round_of t)) (c.in-Ok.ensures free two)

pub returns-in-Err-clause-answer : goal.returns-in-Err-clause-answer
returns-in-Err-clause-answer c = λ free two. ap (λ (t : Turn). answers.told (round_of t)) (c.in-Err.ensures free two)
