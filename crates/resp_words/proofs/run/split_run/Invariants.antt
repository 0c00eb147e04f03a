use Rattle.std.proofs.Common.{take}
use Rattle.resp_words.specs.Runs.{AllPass, is_kind}
use Rattle.resp_words.proofs.run.split_run.Given as goal

abbrev pub invariant-loop-place : goal.invariant-loop-place
invariant-loop-place l = AllPass (is_kind l.kind) (take l.place l.bytes)
