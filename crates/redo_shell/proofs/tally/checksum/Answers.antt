use Rattle.std.proofs.Common.{◌∙◌, ◌+◌, ◌*◌, ◌%◌, ◌^◌, ℕ, List, ap, arith}
use Rattle.std.specs.Prelude.{sum_by}
use Rattle.std.specs.List.{enumerate_from}
use Rattle.std.proofs.lemmas.List.{take_all}
use Rattle.std.proofs.lemmas.List.FromFn.{length-enumerate_from}
use Rattle.redo_shell.proofs.SumLemmas.{one_more, weigh}
use Rattle.redo_shell.proofs.tally.checksum.Goals as goal

pub loop-byte-preserved : goal.loop-byte-preserved
loop-byte-preserved c = (
  ap (λ (n : ℕ). n + 1) c.loop-byte.invariant.0,
  ap (λ (n : ℕ). (c.loop-byte.sum + (n + 1) * c.from.result % 2 ^ 64) % 2 ^ 64) c.loop-byte.invariant.0 ∙ one_more c.args.bytes.now c.loop-byte.byte-index c.loop-byte.sum c.from.result c.loop-byte-test.true c.from.ensures c.loop-byte.invariant.1,
)

pub returns : goal.returns
returns c = c.loop-byte.invariant.1 ∙ ap (λ (l : List (ℕ × ℕ)). sum_by weigh l % 2 ^ 64)
    (take_all c.loop-byte.byte-index (enumerate_from 1 c.args.bytes.now) (omega (arith, length-enumerate_from 1 c.args.bytes.now, c.loop-byte-test.false)))
