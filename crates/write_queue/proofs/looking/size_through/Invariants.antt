use Rattle.std.proofs.Common.{◌≡◌, ◌-◌, ◌^◌, length, min, take}
use Rattle.write_queue.specs.Looking.{file_after}
use Rattle.write_queue.specs.Waiting.{calls_in}
use Rattle.write_queue.proofs.looking.size_through.Given as goal

abbrev pub invariant-loop-call : goal.invariant-loop-call
invariant-loop-call l = record {
  size : l.size ≡ min (length (file_after l.file l.bytes (calls_in (take l.call-index l.calls)))) (2 ^ 64 - 1);
}
