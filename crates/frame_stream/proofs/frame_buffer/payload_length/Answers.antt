use Rattle.std.proofs.Common.{arith}
use Rattle.frame_stream.proofs.Buffered.{is_whole}
use Rattle.frame_stream.proofs.frame_buffer.payload_length.Goals as goal

pub returns : goal.returns
returns c =
    let n = c.read_u32-length.result in
    let some = c.if-length-eq0.false in
    let short = c.if-length-gt-MAX_PAYLOAD.false in
    let room = c.if-kept-length.false in
    let long = c.if-kept-lt-LENGTH_BYTES.false in
    is_whole c.args.kept.now n (λ i. omega (arith, c.type_inv.kept i)) c.read_u32-length.ensures (omega (arith, some), short) (omega (arith, room, long))
