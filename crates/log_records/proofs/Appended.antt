-- A log of records with one record more that waits.
use Rattle.std.proofs.Common.{◌≡◌, ℕ, ◌+◌, ◌^◌, ◌≤◌, List, ◌++◌, ap, ◌∙◌, arith}
use Rattle.oper_core.specs.Meaning.{Meaning}
use Rattle.formats.specs.Records.{next_behind, IsPlaced}
use Rattle.formats.specs.declared.record.Record.{Record}
use Rattle.formats.specs.declared.record.Record.TheVariants.{Command, Identity, Checkpoint}
use Rattle.log_blocks.specs.LogView.{LogView}
use Rattle.log_records.specs.RecordLog.{RecordLogView, counts}

-- what waits, when room was made for a code and the code was added
pub pushed : (before roomy after : LogView) (bytes code : List ℕ) → roomy ≡ record before { room = roomy.room } → after ≡ record roomy { pending = roomy.pending ++ bytes; room = after.room } → bytes ≡ code
    → after ≡ record before { pending = before.pending ++ code; room = after.room }
pushed before roomy after bytes code kept is same = is ∙ (λ i. record (kept i) { pending = (kept i).pending ++ same i; room = after.room })

-- the fields of the log make its view
pub appended : {O : Type 0} (inside now : RecordLogView) (log : LogView) (next accepted : ℕ) (code : List ℕ) (new : Record O) → inside ≡ now
    → log ≡ record inside.log { pending = inside.log.pending ++ code; room = log.room } → next ≡ next_behind inside.next new → accepted ≡ inside.accepted + counts new
    → record { bounds = inside.bounds; log = log; next = next; accepted = accepted; forced = inside.forced } ≡ record now {
      log = record now.log { pending = now.log.pending ++ code; room = log.room };
      next = next_behind now.next new;
      accepted = now.accepted + counts new;
    }
appended inside now log next accepted code new same log_is next_is accepted_is =
    let logs = log_is ∙ ap (λ (v : RecordLogView). record v.log { pending = v.log.pending ++ code; room = log.room }) same in
    let nexts = next_is ∙ ap (λ (v : RecordLogView). next_behind v.next new) same in
    let counted = accepted_is ∙ ap (λ (v : RecordLogView). v.accepted + counts new) same in
    λ i. record { bounds = (same i).bounds; log = logs i; next = nexts i; accepted = counted i; forced = (same i).forced }

-- the next LSN after one record ends at 2^62
pub next_within : {O : Type 0} (m : Meaning O) (base next : ℕ) (r : Record O) → next ≤ 2 ^ 62 → IsPlaced m base next r → next_behind next r ≤ 2 ^ 62
next_within m base next (Command lsn op) small place = omega (arith, place.0, place.1)
next_within m base next (Identity lsn x value) small place = omega (arith, place.0, place.1)
next_within m base next (Checkpoint table) small place = small
