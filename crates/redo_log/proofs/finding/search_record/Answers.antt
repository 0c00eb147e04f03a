use Rattle.std.proofs.Common.{◌∙◌, ℕ, Bool, List, Option, ap, subst, sym}
use Rattle.std.specs.Prelude.{IfNone}
use Rattle.formats.specs.declared.record.Record.{Record}
use Rattle.log_blocks.specs.Payloads.{HasMore, PayloadReaderView}
use Rattle.log_records.specs.Codec.{StartsWithRecord}
use Rattle.op_codec.specs.AllOps.{AllOps, all_meaning}
use Rattle.redo_log.specs.Unreadable.{StartsWithNone}
use Rattle.redo_log.proofs.finding.search_record.Goals as goal

pub returns-then-not-branch-clause-none : goal.returns-then-not-branch-clause-none
returns-then-not-branch-clause-none g c =
    let m = all_meaning c.args.b in
    let more = subst (λ (b : Bool). HasMore c.loop-found.payloads c.read_more.new.self b) c.if-not-branch.true c.in_ok-read_more.ensures.further in
    let none = subst (λ (o : Option (Record AllOps × ℕ)). IfNone o (StartsWithNone m c.bytes.result.now)) c.in_default.is c.in_ok-found.ensures.none in (
      ap (λ (v : PayloadReaderView). v.left) more.1 ∙ more.0,
      λ r starts. none r (subst (λ (l : List ℕ). StartsWithRecord m l r) (ap (λ (v : PayloadReaderView). v.bytes) more.1 ∙ sym c.bytes.ensures.value) starts),
    )
