use Rattle.std.proofs.Common.{arith}
use Rattle.app_program.proofs.ReadState.{read_parts, no_state, is_state}
use Rattle.app_program.proofs.machine_state.MachineState.decode.Goals as goal

pub returns-then-output-read_u32-clause-state : goal.returns-then-output-read_u32-clause-state
returns-then-output-read_u32-clause-state c =
    let read = read_parts c.args.value.now c.read_u32-length.result c.split_at.result.0.now c.split_at.result.1.now c.if-value-lt-HEAD_BYTES.false c.read_u32-length.ensures c.if-rest-length.false c.split_at.ensures.front c.split_at.ensures.back in
    no_state c.args.value.now c.read_u32-length.result c.read_u32.result c.split_at.result.0.now c.split_at.result.1.now read c.read_u32.ensures c.if-output-read_u32.true

pub returns-clause-state : goal.returns-clause-state
returns-clause-state c =
    let read = read_parts c.args.value.now c.read_u32-length.result c.split_at.result.0.now c.split_at.result.1.now c.if-value-lt-HEAD_BYTES.false c.read_u32-length.ensures c.if-rest-length.false c.split_at.ensures.front c.split_at.ensures.back in
    let halted = c.if-value-gt1.false in
    is_state c.args.value.now c.read_u32-length.result c.read_u32.result c.split_at.result.0.now c.split_at.result.1.now c.read_u32-2.result c.eight_numbers.result read c.read_u32.ensures c.if-output-read_u32.false
    (omega (arith, halted)) c.read_u32-2.ensures c.eight_numbers.ensures
