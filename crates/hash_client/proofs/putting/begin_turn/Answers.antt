use Rattle.std.proofs.Common.{ap, ◌∙◌, ℕ, suc, false}
use Rattle.op_codec.specs.AllOps.{hash}
use Rattle.hash_ops.specs.declared.hash_op.HashOp.TheVariants.{Init}
use Rattle.range_calls.specs.Free.{free_between}
use Rattle.range_calls.specs.ReadLaws.{passed}
use Rattle.range_calls.specs.Store.{state_of}
use Rattle.hash_client.proofs.PutLemmas.{made_turn, none_free, with_found}
use Rattle.hash_client.proofs.putting.begin_turn.Goals as goal

pub returns-in_err-bucket-clause-answer : goal.returns-in_err-bucket-clause-answer
returns-in_err-bucket-clause-answer g c = λ p commands holds fits.
    passed c.from_residual.result c.in_err-bucket.field-0.0 c.from_residual.ensures.1
    ∙ none_free (λ (x : ℕ). Init c.args.file.now.lo x) (free_between (state_of p commands) (suc c.args.file.now.lo) c.args.file.now.hi) c.in_err-bucket.field-0.0 (c.in_err-bucket.ensures.answer p commands holds fits)

pub returns-clause-answer : goal.returns-clause-answer
returns-clause-answer g c = λ p commands holds fits.
    ap (made_turn false) (c.hash_op-op.ensures ∙ ap (λ (x : ℕ). hash (Init x c.in_ok-bucket.bucket)) c.directory.ensures)
    ∙ with_found (λ (x : ℕ). Init c.args.file.now.lo x) (free_between (state_of p commands) (suc c.args.file.now.lo) c.args.file.now.hi) c.in_ok-bucket.bucket (c.in_ok-bucket.ensures.answer p commands holds fits)
