-- A record with another number than the next one costs nothing.
use Rattle.std.proofs.Common.{◌≡◌, ◌∙◌, sym, subst, ap, ℕ, ◌<◌, Bool, true, false, [], refl, arith, Option, Some}
use Rattle.std.specs.Prelude.{IfSome, Result, Ok, Err}
use Rattle.disk_model.specs.Disk.{Disk, IsDisk}
use Rattle.oper_core.specs.Meaning.{Meaning}
use Rattle.oper_core.specs.declared.bounds.Bounds.{Bounds}
use Rattle.formats.specs.Records.{lsn_of}
use Rattle.formats.specs.declared.params.Params.{Params}
use Rattle.formats.specs.declared.record.Record.{Record}
use Rattle.log_blocks.specs.LogView.{used_of}
use Rattle.explain_core.specs.History.{Member}
use Rattle.explain_core.specs.World.{World, end_of}
use Rattle.running_store.specs.Steps.Appended.{next_lsn}
use Rattle.running_store.specs.Courses.{course}
use Rattle.running_store.specs.Courses.Stop.{Through}
use Rattle.running_store.specs.Laid.{Laid}
use Rattle.running_store.specs.Parts.{Parts, Shows, meaning_in, record_of}
use Rattle.running_store.specs.Taking.{Takes}
use Rattle.running_store.specs.Taking.Ending.{Done}
use Rattle.running_store.specs.Taking.Laws.{takes_none, takes_same}
use Rattle.execution.specs.Following.{HasFollowCause, IsFollowFailure, HasLsn, follow_course, judge_in, judged_course}
use Rattle.execution.specs.Judged.{Judged}
use Rattle.execution.specs.Judged.Judged.{Passed, Gap}
use Rattle.execution.specs.declared.record_err.RecordErr.{RecordErr}
use Rattle.execution.specs.declared.record_err.RecordErr.TheVariants as of_record
use Rattle.execution.proofs.Due.{as_with_lsn, due_gap, due_lower, due_next, due_or, gap_is, lsn_is, passed_is}

module _ {O : Type 0} (r : Record O) (with_lsn : HasLsn r) (next : ℕ) (said : Result Bool RecordErr) (is : IfSome (lsn_of r) (λ n. said ≡ due_or next n)) where
  -- the LSN that it has, and what is said of it
  lsn : (n : ℕ) × (lsn_of r ≡ Some n) × (said ≡ due_or next n)
  lsn =
      let found = as_with_lsn r with_lsn in
      let own : lsn_of r ≡ Some found.0 = ap lsn_of found.2 ∙ lsn_is found.0 found.1 in
      (found.0, own, subst (λ (o : Option ℕ). IfSome o (λ n. said ≡ due_or next n)) own is)

  pub said_next : said ≡ Ok true → lsn_of r ≡ Some next
  said_next so = lsn.1 ∙ (λ i. Some (due_next next lsn.0 (sym lsn.2 ∙ so) i))

  pub said_lower : said ≡ Ok false → (n : ℕ) × (lsn_of r ≡ Some n) × (n < next)
  said_lower so = (lsn.0, lsn.1, due_lower next lsn.0 (sym lsn.2 ∙ so))

  pub said_higher : (e : RecordErr) → said ≡ Err e → (n : ℕ) × (lsn_of r ≡ Some n) × (next < n) × (e ≡ of_record.Gap next n)
  said_higher e so = let gap = due_gap next lsn.0 e (sym lsn.2 ∙ so) in (lsn.0, lsn.1, gap.0, gap.1)

module _ {O : Type 0} (meaning : Bounds → Meaning O) (d : Disk) (it : Parts) (r : Record O) (with_lsn : HasLsn r) (n : ℕ) (own : lsn_of r ≡ Some n) where
  its_member : (member : Member O) × (r ≡ record_of n member)
  its_member =
      let found = as_with_lsn r with_lsn in
      let same : found.0 ≡ n = let s : Some found.0 ≡ Some n = sym (lsn_is found.0 found.1) ∙ sym (ap lsn_of found.2) ∙ own in cc s in
      (found.1, found.2 ∙ (λ i. record_of (same i) found.1))

  none_takes : (j : World O → Judged O) → ((p : Params) (w : World O) → Shows (meaning_in meaning p) p d it w → (judge_in (meaning_in meaning p) w r ≡ j w) × (judged_course (meaning_in meaning p) (j w) w (used_of it.log.log) ≡ course [] (used_of it.log.log) Through)) → IsDisk d
      → Takes meaning d d it it (λ m w used. follow_course m r w used) Done
  none_takes j same lawful = takes_same meaning d d it it (λ m w used. course [] used Through) (λ m w used. follow_course m r w used) Done
      (λ p w shows. let so = same p w shows in sym (ap (λ (k : Judged O). judged_course (meaning_in meaning p) k w (used_of it.log.log)) so.0 ∙ so.1)) (takes_none meaning d it lawful)

  module _ (p : Params) (w : World O) (shows : Shows (meaning_in meaning p) p d it w) where
    lower : n < it.log.next → judge_in (meaning_in meaning p) w r ≡ Passed
    lower low = ap (λ (s : Record O). judge_in (meaning_in meaning p) w s) its_member.1 ∙ passed_is (meaning_in meaning p) w n its_member.0 (omega (arith, low, next_lsn (meaning_in meaning p) p d it w shows))

    higher : it.log.next < n → judge_in (meaning_in meaning p) w r ≡ Gap (end_of w) n
    higher high = ap (λ (s : Record O). judge_in (meaning_in meaning p) w s) its_member.1 ∙ gap_is (meaning_in meaning p) w n its_member.0 (omega (arith, high, next_lsn (meaning_in meaning p) p d it w shows))

  -- a lower one is passed over
  module _ (low : n < it.log.next) where
    pub lower_takes : IsDisk d → Takes meaning d d it it (λ m w used. follow_course m r w used) Done
    lower_takes lawful = none_takes (λ w. Passed) (λ p w shows. (lower p w shows low, refl)) lawful

    pub lower_cause : (p : Params) (w : World O) → Shows (meaning_in meaning p) p d it w → HasFollowCause (meaning_in meaning p) w (used_of it.log.log) r (Ok false)
    lower_cause p w shows = lower p w shows low

  -- a higher one leaves a gap
  module _ (high : it.log.next < n) (e : RecordErr) (gap : e ≡ of_record.Gap it.log.next n) where
    pub higher_takes : IsDisk d → Takes meaning d d it it (λ m w used. follow_course m r w used) Done
    higher_takes lawful = none_takes (λ w. Gap (end_of w) n) (λ p w shows. (higher p w shows high, refl)) lawful

    pub higher_cause : (p : Params) (w : World O) → Shows (meaning_in meaning p) p d it w → HasFollowCause (meaning_in meaning p) w (used_of it.log.log) r (Err e)
    higher_cause p w shows =
        let next = next_lsn (meaning_in meaning p) p d it w shows in
        subst (λ (f : RecordErr). HasFollowCause (meaning_in meaning p) w (used_of it.log.log) r (Err f)) (sym gap)
        (higher p w shows high ∙ (λ i. Gap (sym next i) n))

    pub higher_failure : (m : Meaning O) (old new : Disk) (objects : Laid) → IsFollowFailure m r it.log.next old new objects e
    higher_failure m old new objects = subst (λ (f : RecordErr). IsFollowFailure m r it.log.next old new objects f) (sym gap) (own, refl, high)
