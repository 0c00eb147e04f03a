-- A trim takes its course by those of a force and of a rewrite.
use Rattle.std.proofs.Common.{◌≡◌, ◌∙◌, sym, subst, ap, ℕ, ◌<◌, ◌≤◌, List, [], arith}
use Rattle.std.specs.Prelude.{All, nat_le}
use Rattle.std.proofs.lemmas.Bool.{lt-leb, le-leb, cond-true, cond-false}
use Rattle.disk_model.specs.Disk.{Disk, IsDisk}
use Rattle.disk_model.specs.declared.machine.FileNo.{FileNo}
use Rattle.disk_model.specs.declared.machine.FileNo.TheVariants.{Objects}
use Rattle.oper_core.specs.Meaning.{Meaning, IsLawful, IsSmall}
use Rattle.oper_core.specs.declared.bounds.Bounds.{Bounds}
use Rattle.dirty_page_table.specs.declared.table.DirtyPageTable.{DirtyPageTable}
use Rattle.formats.specs.Limits.{lsn_end}
use Rattle.formats.specs.Objects.{IsObjectsFile, bounds_of}
use Rattle.formats.specs.declared.params.Params.{Params}
use Rattle.log_blocks.specs.LogView.{LogView, used_of}
use Rattle.log_records.specs.RecordLog.{RecordLogView}
use Rattle.log_records.specs.Rewriting.{FindsDamage, IsRewritable, RewriteFails}
use Rattle.log_records.specs.declared.rewrite_err.RewriteErr.{RewriteErr}
use Rattle.log_records.specs.declared.rewrite_err.RewriteErr.TheVariants.{Exhausted, DiskFault, Damaged, LogFull, Memory}
use Rattle.explain_core.specs.World.{World}
use Rattle.standing.specs.OneStable.{small_store}
use Rattle.running_store.specs.Steps.Appended.{next_lsn}
use Rattle.running_store.specs.Calls.Checkpoints.{IsCheckpointHere}
use Rattle.running_store.specs.Courses.{and_then, course, force_course}
use Rattle.running_store.specs.Courses.Stop.{Worn}
use Rattle.running_store.specs.Steps.Finished.{IsQuiet}
use Rattle.running_store.specs.Parts.{Parts, Shows, meaning_in}
use Rattle.running_store.specs.Calls.Rewrites.{IsKeptFrom, rewrite_within}
use Rattle.running_store.specs.Taking.{Ending, Takes}
use Rattle.running_store.specs.Taking.Ending.{Done, Stopped, Failed}
use Rattle.running_store.specs.Taking.Laws.{takes_both, takes_first, takes_none, takes_same, takes_stop}
use Rattle.checkpointing.specs.Checkpoints.{IsTakenBy}
use Rattle.checkpointing.specs.Courses.{trim_within}
use Rattle.checkpointing.specs.Left.{DamagedBy, IsTooLong}
use Rattle.checkpointing.proofs.Base.{base_is}
use Rattle.checkpointing.proofs.CheckpointLogs.{taken_here}

-- the log has had its last epoch
pub trim_worn : {O : Type 0} (meaning : Bounds → Meaning O) (d : Disk) (it : Parts) (most epoch told : ℕ) → told ≡ epoch → lsn_end ≤ epoch → IsDisk d → Takes meaning d d it it (λ m w used. trim_within m most epoch w used) (Stopped (Worn told))
trim_worn meaning d it most epoch told same last lawful =
    takes_same meaning d d it it (λ m w used. course [] used (Worn told)) (λ m w used. trim_within m most epoch w used) (Stopped (Worn told))
    (λ p w shows. ap (λ (k : ℕ). course [] (used_of it.log.log) (Worn k)) same ∙ sym (cond-true (nat_le lsn_end epoch) _ _ (le-leb lsn_end epoch last)))
    (takes_stop meaning d d it it (λ m w. []) (Worn told) (takes_none meaning d it lawful))

module _ {O : Type 0} (meaning : Bounds → Meaning O) (most epoch : ℕ) (early : epoch < lsn_end) (old new : Disk) (before after : Parts) where
  trims : (ending : Ending) → Takes meaning old new before after (λ m w used. and_then m w (force_course m w used) (λ v used. rewrite_within m most v used)) ending → Takes meaning old new before after (λ m w used. trim_within m most epoch w used) ending
  trims ending =
      takes_same meaning old new before after (λ m w used. and_then m w (force_course m w used) (λ v used. rewrite_within m most v used)) (λ m w used. trim_within m most epoch w used) ending
      (λ p w shows. sym (cond-false (nat_le lsn_end epoch) _ _ (lt-leb lsn_end epoch early)))

  -- the force fails
  pub trim_unforced : Takes meaning old new before after (λ m w used. force_course m w used) Failed → Takes meaning old new before after (λ m w used. trim_within m most epoch w used) Failed
  trim_unforced takes = trims Failed (takes_first meaning (λ m w used. force_course m w used) (λ m v used. rewrite_within m most v used) old new before after Failed tt takes)

  -- it is done, and then the log is rewritten, or not
  pub trim_then : (mid : Disk) (here : Parts) (ending : Ending) → IsQuiet old mid → Takes meaning old mid before here (λ m w used. force_course m w used) Done → Takes meaning mid new here after (λ m v used. rewrite_within m most v used) ending
      → Takes meaning old new before after (λ m w used. trim_within m most epoch w used) ending
  trim_then mid here ending quiet first second =
      trims ending (takes_both meaning (λ m w used. force_course m w used) (λ m v used. rewrite_within m most v used) old mid new before here after ending quiet first second)

-- the least of a checkpoint's starts and of the log's next LSN
pub record IsLeastStart (log : RecordLogView) (table : DirtyPageTable) (base : ℕ) : Type 0 where
  pub next : base ≤ log.next
  pub each : All (λ s. base ≤ s.1) table.starts
  pub greatest : (k : ℕ) → k ≤ log.next → All (λ s. k ≤ s.1) table.starts → k ≤ base

pub least_of : (log : RecordLogView) (table : DirtyPageTable) (base next : ℕ) (starts : List (ℕ × ℕ)) → next ≡ log.next → starts ≡ table.starts → base ≤ next → All (λ s. base ≤ s.1) starts → ((k : ℕ) → k ≤ next → All (λ s. k ≤ s.1) starts → k ≤ base)
    → IsLeastStart log table base
least_of log table base next starts lsn same low each greatest = record {
  next = omega (arith, low, lsn);
  each = subst (λ (l : List (ℕ × ℕ)). All (λ s. base ≤ s.1) l) same each;
  greatest = λ k below all. greatest k (omega (arith, below, lsn)) (subst (λ (l : List (ℕ × ℕ)). All (λ s. k ≤ s.1) l) (sym same) all);
}

-- from there on a log may be rewritten
pub may_rewrite : {O : Type 0} (m : Meaning O) (log : RecordLogView) (table : DirtyPageTable) (base : ℕ) → IsCheckpointHere m log table → log.log.pending ≡ [] → IsLeastStart log table base → IsRewritable m log base table
may_rewrite m log table base checkpoint none least = record {
  waits = none;
  low = least.greatest log.log.header.base checkpoint.ahead checkpoint.placed.from_base;
  high = least.next;
  place = record { next_is = checkpoint.placed.next_is; rising = checkpoint.placed.rising; there = checkpoint.placed.there; from_base = least.each; before = checkpoint.placed.before };
  grammar = checkpoint.grammar;
  short = omega (arith, checkpoint.bytes, checkpoint.few);
}

-- and of each world that is shown the log then begins there
kept_from : {O : Type 0} (meaning : Bounds → Meaning O) → ((b : Bounds) → IsSmall b → IsLawful (meaning b)) → (d : Disk) (it : Parts) (table : DirtyPageTable) → IsTakenBy meaning it table → (base : ℕ) → IsLeastStart it.log table base
    → (p : Params) (w : World O) → Shows (meaning_in meaning p) p d it w → IsKeptFrom (meaning_in meaning p) w base table
kept_from meaning lawful d it table so base least p w shows =
    let m = meaning_in meaning p in
    let law : IsLawful m = lawful (bounds_of p) (small_store p (d.reads Objects) (subst (λ (q : Params). IsObjectsFile q (d.reads Objects)) shows.store.params shows.store.laid.slots.whole)) in
    let lsn = next_lsn m p d it w shows in
    let taken = taken_here meaning table d it so p w shows in
    record {
      now = taken.now;
      starts = base_is m law w shows.running.sound it.volatile.entries shows.store.accesses table.starts taken.objects taken.least base least.each (omega (arith, least.next, lsn)) (λ k low all. least.greatest k (omega (arith, low, lsn)) all);
    }

-- so it is rewritten after the force, or not
pub trim_rewrites : {O : Type 0} (meaning : Bounds → Meaning O) (most epoch : ℕ) → epoch < lsn_end → (old new : Disk) (before after : Parts) (mid : Disk) (here : Parts) (ending : Ending) → IsQuiet old mid
    → Takes meaning old mid before here (λ m w used. force_course m w used) Done → ((b : Bounds) → IsSmall b → IsLawful (meaning b)) → (table : DirtyPageTable) → IsTakenBy meaning here table → (base : ℕ) → IsLeastStart here.log table base
    → (((p : Params) (w : World O) → Shows (meaning_in meaning p) p mid here w → IsKeptFrom (meaning_in meaning p) w base table) → Takes meaning mid new here after (λ m w used. rewrite_within m most w used) ending)
    → Takes meaning old new before after (λ m w used. trim_within m most epoch w used) ending
trim_rewrites meaning most epoch early old new before after mid here ending quiet forced lawful table so base least rewrites =
    trim_then meaning most epoch early old new before after mid here ending quiet forced (rewrites (kept_from meaning lawful mid here table so base least))

-- where there is no start it is the next LSN
pub least_next : (log : RecordLogView) (table : DirtyPageTable) (base : ℕ) → IsLeastStart log table base → table.starts ≡ [] → base ≡ log.next
least_next log table base least none =
    let high = least.greatest log.next (omega arith) (subst (λ (l : List (ℕ × ℕ)). All (λ s. log.next ≤ s.1) l) (sym none) (λ k d below. absurd (omega (arith, below)))) in omega (arith, high, least.next)

-- what is reported to be damaged, and what to be too long
pub fails_told : (rises : Type 0) (fault : FileNo → ℕ → Type 0) (length_is : ℕ → Type 0) (log : LogView) (most : ℕ) (e : RewriteErr) → RewriteFails rises fault length_is log most e → DamagedBy fault e × IsTooLong e
fails_told rises fault length_is log most DiskFault cause = (tt, tt)
fails_told rises fault length_is log most (LogFull len need limit) cause = (tt, cause.3)
fails_told rises fault length_is log most (Damaged file place) cause = (cause.0, tt)
fails_told rises fault length_is log most (Exhausted epoch) cause = (tt, tt)
fails_told rises fault length_is log most Memory cause = (tt, tt)

pub none_damaged : (e : RewriteErr) → (FindsDamage e → ⊥) → DamagedBy (λ file place. ⊥) e
none_damaged DiskFault none = tt
none_damaged (LogFull len need limit) none = tt
none_damaged (Damaged file place) none = none tt
none_damaged (Exhausted epoch) none = tt
none_damaged Memory none = tt
