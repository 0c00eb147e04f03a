use Rattle.std.proofs.Common.{ap, ◌∙◌, ℕ, suc, true, false}
use Rattle.op_codec.specs.AllOps.{hash}
use Rattle.hash_ops.specs.declared.hash_op.HashOp.TheVariants.{Split}
use Rattle.range_calls.specs.Free.{free_between}
use Rattle.range_calls.specs.ReadLaws.{passed}
use Rattle.range_calls.specs.Store.{state_of}
use Rattle.hash_client.proofs.PutLemmas.{made_turn, none_free, put_roomy, put_splits, with_found}
use Rattle.hash_client.proofs.putting.put_turn.Goals as goal

pub returns-then-has_room-clause-answer : goal.returns-then-has_room-clause-answer
returns-then-has_room-clause-answer g c = λ p commands holds fits.
    ap (made_turn true) c.hash_op-put.ensures
    ∙ put_roomy c.args.pair.now.file.now.lo c.args.pair.now.key c.args.pair.now.value (free_between (state_of p commands) (suc c.args.pair.now.file.now.lo) c.args.pair.now.file.now.hi) c.args.found.object c.args.found.bucket c.if-has_room.ensures

pub returns-in_err-new-clause-answer : goal.returns-in_err-new-clause-answer
returns-in_err-new-clause-answer g c = λ p commands holds fits.
    let lo = c.args.pair.now.file.now.lo in
    let x = c.args.found.object in
    let free = free_between (state_of p commands) (suc lo) c.args.pair.now.file.now.hi in
    passed c.from_residual.result c.in_err-new.field-0.0 c.from_residual.ensures.1
    ∙ none_free (λ (new : ℕ). Split lo x new) free c.in_err-new.field-0.0 (c.in_err-new.ensures.answer p commands holds fits)
    ∙ put_splits lo c.args.pair.now.key c.args.pair.now.value free x c.args.found.bucket c.if-has_room.ensures c.if-bucket-eq-MOST_DEPTH.false

pub returns-clause-answer : goal.returns-clause-answer
returns-clause-answer g c = λ p commands holds fits.
    let lo = c.args.pair.now.file.now.lo in
    let x = c.args.found.object in
    let free = free_between (state_of p commands) (suc lo) c.args.pair.now.file.now.hi in
    ap (made_turn false) (c.hash_op-op.ensures ∙ ap (λ (d : ℕ). hash (Split d x c.in_ok-new.new)) c.directory.ensures)
    ∙ with_found (λ (new : ℕ). Split lo x new) free c.in_ok-new.new (c.in_ok-new.ensures.answer p commands holds fits)
    ∙ put_splits lo c.args.pair.now.key c.args.pair.now.value free x c.args.found.bucket c.if-has_room.ensures c.if-bucket-eq-MOST_DEPTH.false
