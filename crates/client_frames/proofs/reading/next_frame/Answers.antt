use Rattle.std.proofs.Common.{◌≡◌, ◌∙◌, ◌++◌, ◌-◌, ℕ, List, length, take, drop, sym, ap, subst, arith, length-drop}
use Rattle.byteorder.specs.Endian.{little_number}
use Rattle.client_frames.specs.Frames.{Frame, IsFrame, frame_bytes}
use Rattle.client_frames.proofs.Read.{is_whole, up_to_end}
use Rattle.client_frames.proofs.reading.next_frame.Goals as goal

pub returns : goal.returns
returns c =
    let bytes : List ℕ = c.args.bytes.now in
    let client : ℕ = c.read_u32.result in
    let n : ℕ = c.read_u32-length.result in
    let few = c.if-bytes-lt-HEAD.false in
    let right = c.if-length-gt-MOST.false in
    let room = c.if-behind-length.false in
    let says : n ≡ little_number 4 (drop 4 bytes) = c.read_u32-length.ensures ∙ ap (little_number 4) (up_to_end 4 bytes) in
    let frame : List ℕ → Frame = λ (behind : List ℕ). record { client = client; bytes = take n behind } in
    subst (λ (behind : List ℕ). IsFrame (frame behind) × (later : List ℕ) × (bytes ≡ frame_bytes (frame behind) ++ later)) (sym (up_to_end 8 bytes))
    (is_whole bytes client n (λ i. omega (arith, c.type_inv.bytes i)) c.read_u32.ensures (omega (arith, c.read_u32.type_inv)) says (omega (arith, right))
    (omega (arith, few, room, ap length (up_to_end 8 bytes), length-drop 8 bytes)))
