use Rattle.std.proofs.Common.{◌≡◌, length, take}
use Rattle.disk_model.specs.Padded.{padded}
use Rattle.write_queue.specs.Looking.{file_after}
use Rattle.write_queue.specs.Waiting.{calls_in}
use Rattle.write_queue.proofs.looking.look.Given as goal

abbrev pub invariant-loop-call : goal.invariant-loop-call
invariant-loop-call l = record {
  long : length l.into ≡ length l.fn.into;
  shows : l.into ≡ padded (file_after l.file l.bytes (calls_in (take l.call-index l.calls))) l.from (length l.fn.into);
}
