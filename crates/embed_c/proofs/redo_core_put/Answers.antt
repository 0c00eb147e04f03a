use Rattle.std.specs.Prelude.{◌⊎◌}
use Rattle.op_codec.specs.AllOps.{plain}
use Rattle.op_meaning.specs.declared.plain_op.PlainOp.TheVariants.{Put}
use Rattle.embed_c.specs.Answers.{alone}
use Rattle.embed_c.specs.Calls.{DoesNothing}
use Rattle.embed_c.specs.Staging.{Runs}
use Rattle.embed_c.proofs.OnHandles.{was_closed, was_open}
use Rattle.embed_c.proofs.redo_core_put.Goals as goal

pub returns-in-None : goal.returns-in-None
returns-in-None c = was_closed (λ old new answer. Runs (plain (Put c.args.object c.args.value.now)) old new answer ⊎ DoesNothing (alone 8) old new answer) c.in-None.ensures.none c.in-None.ensures.left

pub returns-in-Some : goal.returns-in-Some
returns-in-Some c = was_open (λ old new answer. Runs (plain (Put c.args.object c.args.value.now)) old new answer ⊎ DoesNothing (alone 8) old new answer) c.in-Some.ensures.some c.deref_mut.ensures.value c.put_back.ensures c.put-answer.ensures
