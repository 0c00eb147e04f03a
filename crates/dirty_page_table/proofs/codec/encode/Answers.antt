use Rattle.std.proofs.Common.{◌<◌, ◌++◌, ℕ, List, length, arith}
use Rattle.std.proofs.lemmas.Grind.{common_steps}
use Rattle.byteorder.specs.Endian.{little_bytes}
use Rattle.dirty_page_table.proofs.Writing.{written_more, fits_more}
use Rattle.dirty_page_table.proofs.codec.encode.Goals as goal

pub loop-object-init : goal.loop-object-init
loop-object-init c = record {
  room = grind (arith, common_steps);
  written = grind (arith, common_steps);
  fit = λ k d h. absurd (omega arith);
}

pub loop-object-preserved : goal.loop-object-preserved
loop-object-preserved c =
    let so_far = c.loop-object.invariant in
    let starts : List (ℕ × ℕ) = c.as_slice-starts.result.now in
    let i : ℕ = c.loop-object.object-index in
    let head : List ℕ = little_bytes 8 c.args.table.now.next ++ little_bytes 4 (length starts) in
    let within : i < length starts = omega (arith, c.loop-object-test.true) in
    record {
      room = grind (arith, common_steps);
      written = written_more c.args.out.now.items head c.loop-object.out.items c.push_start.new.out.items starts i (0, 0) within so_far.written
          c.in_ok-push_start.ensures.written;
      fit = fits_more starts i (0, 0) within so_far.fit c.in_ok-push_start.ensures.fits;
    }
