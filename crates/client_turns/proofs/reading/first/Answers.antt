use Rattle.std.proofs.Common.{Option, Result, subst}
use Rattle.client_frames.specs.Reading.{BeginsWith}
use Rattle.client_frames.specs.declared.frame.ClientFrame.{ClientFrame}
use Rattle.client_frames.specs.declared.frame.LongFrame.{LongFrame}
use Rattle.client_turns.proofs.reading.first.Goals as goal

pub returns-in-Ok : goal.returns-in-Ok
returns-in-Ok c = subst (λ (r : Result (Option ClientFrame) LongFrame). BeginsWith c.args.bytes.now r) c.in-Ok.is c.next_frame.ensures
