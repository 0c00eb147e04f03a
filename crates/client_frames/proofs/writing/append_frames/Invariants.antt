use Rattle.std.proofs.Common.{◌≡◌, ℕ, List, length, take}
use Rattle.client_frames.specs.Writing.{Carries}
use Rattle.client_frames.proofs.writing.append_frames.Given as goal

-- what carries the rest completes it all, and what was there stays
abbrev pub invariant-loop-rest : goal.invariant-loop-rest
invariant-loop-rest l =
    record {
      rest : (new : List ℕ) → Carries l.client l.rest l.into.items new → Carries l.client l.bytes l.fn.into.items new;
      kept : take (length l.fn.into.items) l.into.items ≡ l.fn.into.items;
    }

abbrev pub decreases-loop-rest : goal.decreases-loop-rest
decreases-loop-rest l = length l.rest
