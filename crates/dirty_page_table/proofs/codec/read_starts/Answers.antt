use Rattle.std.proofs.Common.{◌≡◌, ◌++◌, List, ℕ, length, subst, sym, ap, arith}
use Rattle.std.proofs.lemmas.Grind.{common_steps}
use Rattle.std.proofs.lemmas.List.Elements.{All-push}
use Rattle.std.specs.Prelude.{All}
use Rattle.std.specs.List.{flat_map}
use Rattle.dirty_page_table.specs.Codec.{FitsStart, start_code}
use Rattle.dirty_page_table.proofs.Reading.{one_more}
use Rattle.dirty_page_table.proofs.codec.read_starts.Goals as goal

pub loop-pair-preserved : goal.loop-pair-preserved
loop-pair-preserved c =
    let so_far = c.loop-pair.invariant in
    let first = c.read_start.ensures.split in
    let pushed = c.in_ok-push.ensures.items in
    record {
      count = grind (arith, common_steps);
      left = omega (arith, ap length first, so_far.left);
      split = subst (λ (starts : List (ℕ × ℕ)). c.args.bytes.now ≡ flat_map start_code starts ++ c.read_start.result.1.now) (sym pushed)
          (one_more c.args.bytes.now c.loop-pair.rest.now c.read_start.result.1.now c.loop-pair.pairs.items c.read_start.result.0 so_far.split first);
      fit = subst (All FitsStart) (sym pushed) (All-push FitsStart c.loop-pair.pairs.items c.read_start.result.0 so_far.fit c.read_start.ensures.fits);
    }
