use Rattle.std.specs.Prelude.{◌≡◌, ◌≤◌, ◌-◌, ◌^◌, length}
use Rattle.frame_stream.specs.FrameBuffer.{taken_by}
use Rattle.standby_words.specs.Comparing.{HasMirror}
use Rattle.standby_words.proofs.FollowingLemmas.{IsTakingIn}
use Rattle.standby_words.proofs.following.follow_input.Given as goal

abbrev pub invariant-loop-piece : goal.invariant-loop-piece
invariant-loop-piece g l = record {
  told : g.S.Source.tells l.fn.input → g.S.Source.tells l.input;
  faults : g.S.Source.faults l.fn.input ≤ g.S.Source.faults l.input;
  room : length l.piece.items ≡ 65536;
  taking : (it : IsTakingIn (g.S.Source.tells l.fn.input) (g.S.Source.left l.fn.input) (g.S.Source.left l.input) (g.M.Machine.disk l.fn.machine) (g.M.Machine.disk l.machine) l.fn.standby l.standby)
      × HasMirror l.fn.same (g.M.Machine.disk l.fn.machine) l.fn.standby.engine it.bytes l.mirror;
}

abbrev pub decreases-loop-piece : goal.decreases-loop-piece
decreases-loop-piece g l = 2 ^ 40 - taken_by l.standby.frames
