use Rattle.std.specs.Prelude.{◌≡◌, List, ℕ, length}
use Rattle.frame_stream.specs.FrameBuffer.{taken_by}
use Rattle.standby_node.specs.Same.{HasCompared}
use Rattle.standby_node.proofs.mirror.Mirror.compare_frames.Given as goal

abbrev pub invariant-loop-size : goal.invariant-loop-size
invariant-loop-size g l = record {
  same : (l.self.bounds ≡ l.fn.self.bounds) × (l.self.base ≡ l.fn.self.base);
  taken : taken_by l.self.frames ≡ taken_by l.fn.self.frames;
  compared : (first : List (List ℕ)) (bytes : List ℕ) → HasCompared (g.O.Oper.meaning l.fn.self.bounds) first bytes l.fn.self → HasCompared (g.O.Oper.meaning l.fn.self.bounds) first bytes l.self;
}

abbrev pub decreases-loop-size : goal.decreases-loop-size
decreases-loop-size g l = length l.self.frames.kept
