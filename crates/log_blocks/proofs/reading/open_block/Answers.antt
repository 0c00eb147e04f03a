use Rattle.std.proofs.Common.{◌≡◌, ◌∙◌, ℕ, ap, sym, arith, refl, ◌∷◌, drop}
use Rattle.byteorder.specs.Endian.{little_number, little_bytes}
use Rattle.byteorder.specs.Numbers.{little_from-take}
use Rattle.log_blocks.proofs.Found.{head_read, is_broken}
use Rattle.log_blocks.proofs.reading.open_block.Goals as goal
use Rattle.log_blocks.proofs.reading.open_block.Goals.{then-len-eq0-via-then-len-eq0, then-len-eq0-via-else-len-eq0+then-len-gt-MAX_PAYLOAD, then-len-eq0-via-else-len-eq0+else-len-gt-MAX_PAYLOAD+then-room-len}

pub returns-clause-found : goal.returns-clause-found
returns-clause-found g c files agree size =
    let file = files c.args.file in
    let into = c.read_padded.new.into in
    let len : c.read_u32-len.result ≡ little_number 4 (drop 1 into) = c.read_u32-len.ensures ∙ little_from-take 0 4 4 (drop 1 into) (omega arith) in
    let head = head_read file c.args.gate into (c.in_ok-read_padded.ensures.bytes files agree) (omega (arith, size)) c.if-head-ne-OPEN.false c.in_ok-read_padded.ensures.small in
    record {
      head = head ∙ ap (λ (n : ℕ). 1 ∷ little_bytes 4 n) (sym len);
      some = omega (arith, c.if-len-eq0.false);
      short = c.if-len-gt-MAX_PAYLOAD.false;
      within = omega (arith, size, c.if-room-len.false);
    }

pub returns-then-len-eq0-clause-cause : goal.returns-then-len-eq0-clause-cause
returns-then-len-eq0-clause-cause g c = (
  refl,
  refl,
  λ files agree size.
      let file = files c.args.file in
      let into = c.read_padded.new.into in
      let len : c.read_u32-len.result ≡ little_number 4 (drop 1 into) = c.read_u32-len.ensures ∙ little_from-take 0 4 4 (drop 1 into) (omega arith) in
      is_broken file c.args.gate into (c.in_ok-read_padded.ensures.bytes files agree) c.if-head-ne-OPEN.false (λ range within. elim c.then-len-eq0.branch [
        | then-len-eq0-via-then-len-eq0 w ↦ omega (arith, len, range.0, w.if-len-eq0.true)
        | then-len-eq0-via-else-len-eq0+then-len-gt-MAX_PAYLOAD w ↦ omega (arith, len, range.1, w.if-len-gt-MAX_PAYLOAD.true)
        | then-len-eq0-via-else-len-eq0+else-len-gt-MAX_PAYLOAD+then-room-len w ↦ omega (arith, len, size, within, w.if-room-len.true)
      ]),
)
