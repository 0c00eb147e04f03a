use Rattle.std.proofs.Common.{◌∙◌, ◌-◌, ◌^◌, ℕ, List, length, min, take, ap, arith}
use Rattle.write_queue.specs.Looking.{file_after}
use Rattle.write_queue.specs.Waiting.{calls_in}
use Rattle.write_queue.proofs.Looked.{item_more}
use Rattle.write_queue.proofs.looking.size_through.Goals as goal

pub loop-call-preserved : goal.loop-call-preserved
loop-call-preserved c =
    let i = c.loop-call.call-index in
    let calls = c.args.calls.now in
    record {
      size = c.size_by-size.ensures (file_after c.args.file c.args.bytes.now (calls_in (take i calls))) c.loop-call.invariant.size
          ∙ ap (λ (l : List ℕ). min (length l) (2 ^ 64 - 1)) (item_more c.args.file c.args.bytes.now calls i _ (omega (arith, c.loop-call-test.true)) c.call-item.is);
    }
