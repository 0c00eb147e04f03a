use Rattle.op_meaning.proofs.ReadState.{read_parts, no_state, is_state}
use Rattle.op_meaning.proofs.app_state.AppState.decode.Goals as goal

pub returns-then-output-read_u32-clause-state : goal.returns-then-output-read_u32-clause-state
returns-then-output-read_u32-clause-state c =
    let read = read_parts c.args.value.now c.read_u32-length.result c.split_at.result.0.now c.split_at.result.1.now c.if-value-lt-HEAD_BYTES.false c.read_u32-length.ensures c.if-rest-length.false c.split_at.ensures.front c.split_at.ensures.back in
    no_state c.args.value.now c.read_u32-length.result c.read_u32.result c.split_at.result.0.now c.split_at.result.1.now read c.read_u32.ensures c.if-output-read_u32.true

pub returns-clause-state : goal.returns-clause-state
returns-clause-state c =
    let read = read_parts c.args.value.now c.read_u32-length.result c.split_at.result.0.now c.split_at.result.1.now c.if-value-lt-HEAD_BYTES.false c.read_u32-length.ensures c.if-rest-length.false c.split_at.ensures.front c.split_at.ensures.back in
    is_state c.args.value.now c.read_u32-length.result c.read_u32.result c.split_at.result.0.now c.split_at.result.1.now c.read_u64.result c.read_u64-2.result read c.read_u32.ensures c.if-output-read_u32.false c.read_u64.ensures c.read_u64-2.ensures
