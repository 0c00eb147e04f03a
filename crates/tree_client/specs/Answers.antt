-- What the calls on a tree answer: what those on a range of objects do, at the operations on nodes and a tree's refusals.
use Rattle.std.specs.Prelude.{ℕ, Option, Result, List, map}
use Rattle.btree_ops.specs.declared.node_op.NodeOp.{NodeOp}
use Rattle.op_codec.specs.AllOps.{node}
use Rattle.logical_btree.specs.Plan.{TreePlan}
use Rattle.logical_btree.specs.declared.refusal.TreeRefusal.{TreeRefusal}
use Rattle.logical_btree.specs.declared.refusal.TreeRefusal.TheVariants.{BadTree}
use Rattle.execution.specs.declared.exec_err.ExecErr.{ExecErr}
use Rattle.range_calls.specs.Answers as answers
use Rattle.range_calls.specs.Store.{Command}
use Rattle.range_calls.specs.declared.call_err.CallErr.{CallErr}
use Rattle.range_calls.specs.declared.call_err.CallErr.TheVariants.{Refused}

abbrev pub TreeErr : Type 0
TreeErr = CallErr TreeRefusal

-- a refusal as an error
abbrev pub error_of : TreeRefusal → TreeErr
error_of refusal = Refused refusal

-- a bad object
abbrev pub bad_tree : ℕ → TreeErr
bad_tree object = Refused (BadTree object)

abbrev pub told : {T : Type 0} → Result T TreeRefusal → Result T TreeErr
told answer = answers.told answer

abbrev pub cause_of : TreeErr → Option ExecErr
cause_of error = answers.cause_of error

abbrev pub cause_in : {T : Type 0} → Result T TreeErr → Option ExecErr
cause_in answer = answers.cause_in answer

abbrev pub made_of : ℕ → List NodeOp → List Command
made_of cap ops = answers.made_of cap (map node ops)

abbrev pub refused_of : ℕ → List NodeOp → Option TreeErr → Option TreeErr
refused_of cap ops planned = answers.refused_of cap ops planned

abbrev pub refused_in : ℕ → TreePlan → Option TreeErr
refused_in cap plan = answers.refused_in cap plan
