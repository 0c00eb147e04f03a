-- A record is judged by its LSN first, and one with the next LSN as the member that it is.
use Rattle.std.proofs.Common.{◌≡◌, ◌∙◌, sym, ap, ℕ, ◌<◌, Bool, true, false, refl, arith, inl, inr, Some}
use Rattle.std.specs.Prelude.{IsTrue, Result, Ok, Err, nat_lt, if◌then◌else◌}
use Rattle.std.proofs.lemmas.Bool.{cases_Bool, cases_lt, cond-true, cond-false, le-ltb, lt-ltb}
use Rattle.disk_model.specs.Disk.{Disk}
use Rattle.oper_core.specs.Meaning.{Meaning}
use Rattle.oper_core.specs.declared.bounds.Bounds.{Bounds}
use Rattle.formats.specs.declared.params.Params.{Params}
use Rattle.log_blocks.specs.LogView.{used_of}
use Rattle.oper_core.specs.State.{State}
use Rattle.formats.specs.Records.{lsn_of}
use Rattle.formats.specs.declared.record.Record.{Record}
use Rattle.formats.specs.declared.record.Record.TheVariants.{Command as Logged_command, Identity as Logged_identity, Checkpoint as Logged_checkpoint}
use Rattle.explain_core.specs.History.{Member}
use Rattle.explain_core.specs.History.Member.{Command, Identity}
use Rattle.explain_core.specs.World.{World, end_of}
use Rattle.running_store.specs.Courses.{record_length}
use Rattle.running_store.specs.Steps.Appended.{next_lsn}
use Rattle.running_store.specs.Parts.{Parts, Shows, meaning_in, record_of}
use Rattle.running_store.specs.Taking.{Ending, Takes}
use Rattle.running_store.specs.Taking.Laws.{takes_same}
use Rattle.execution.specs.Following.{HasFollowCause, HasMemberCause, HasLsn, follow_course, grown_by, judge_in, judged_course, member_course}
use Rattle.execution.specs.Judged.{Judged, judge_member, may_follow}
use Rattle.execution.specs.Judged.Judged.{Passed, Taken, Gap, Differs}
use Rattle.execution.specs.declared.record_err.RecordErr.{RecordErr}
use Rattle.execution.specs.declared.record_err.RecordErr.TheVariants as of_record

-- what is said of an LSN where the next is this one
abbrev pub due_or : ℕ → ℕ → Result Bool RecordErr
due_or next n = if nat_lt n next then Ok false else (if nat_lt next n then Err (of_record.Gap next n) else Ok true)

-- so it is the next one
pub due_next : (next n : ℕ) → due_or next n ≡ Ok true → n ≡ next
due_next next n is = elim (cases_lt n next) [
  | inl low ↦ let h : Ok false ≡ Ok true = sym (cond-true (nat_lt n next) _ _ (lt-ltb n next low)) ∙ is in cc
  | inr more ↦ elim (cases_lt next n) [
    | inl high ↦ let h : Err (of_record.Gap next n) ≡ Ok true = sym (cond-false (nat_lt n next) _ _ (le-ltb n next more) ∙ cond-true (nat_lt next n) _ _ (lt-ltb next n high)) ∙ is in cc
    | inr most ↦ omega (arith, more, most)
  ]
]

-- a lower one
pub due_lower : (next n : ℕ) → due_or next n ≡ Ok false → n < next
due_lower next n is = elim (cases_lt n next) [
  | inl low ↦ low
  | inr more ↦ elim (cases_lt next n) [
    | inl high ↦ let h : Err (of_record.Gap next n) ≡ Ok false = sym (cond-false (nat_lt n next) _ _ (le-ltb n next more) ∙ cond-true (nat_lt next n) _ _ (lt-ltb next n high)) ∙ is in cc
    | inr most ↦ let h : Ok true ≡ Ok false = sym (cond-false (nat_lt n next) _ _ (le-ltb n next more) ∙ cond-false (nat_lt next n) _ _ (le-ltb next n most)) ∙ is in cc
  ]
]

-- or a higher one
pub due_gap : (next n : ℕ) (e : RecordErr) → due_or next n ≡ Err e → (next < n) × (e ≡ of_record.Gap next n)
due_gap next n e is = elim (cases_lt n next) [
  | inl low ↦ let h : Ok false ≡ Err e = sym (cond-true (nat_lt n next) _ _ (lt-ltb n next low)) ∙ is in cc
  | inr more ↦ elim (cases_lt next n) [
    | inl high ↦ let h : Err (of_record.Gap next n) ≡ Err e = sym (cond-false (nat_lt n next) _ _ (le-ltb n next more) ∙ cond-true (nat_lt next n) _ _ (lt-ltb next n high)) ∙ is in (high, sym (cc h))
    | inr most ↦ let h : Ok true ≡ Err e = sym (cond-false (nat_lt n next) _ _ (le-ltb n next more) ∙ cond-false (nat_lt next n) _ _ (le-ltb next n most)) ∙ is in cc
  ]
]

-- a record that has an LSN is a member with it
pub as_with_lsn : {O : Type 0} (r : Record O) → HasLsn r → (lsn : ℕ) × (member : Member O) × (r ≡ record_of lsn member)
as_with_lsn (Logged_command lsn op) is = (lsn, Command op, refl)
as_with_lsn (Logged_identity lsn x value) is = (lsn, Identity x value, refl)
as_with_lsn (Logged_checkpoint table) is = absurd is

pub lsn_is : {O : Type 0} (lsn : ℕ) (member : Member O) → lsn_of (record_of lsn member) ≡ Some lsn
lsn_is lsn (Command op) = refl
lsn_is lsn (Identity x value) = refl

module _ {O : Type 0} (m : Meaning O) (w : World O) where
  abbrev values : State
  values x = (w.cache x).value

  judge_is : (lsn : ℕ) (member : Member O) → judge_in m w (record_of lsn member) ≡ judge_member m values (end_of w) lsn member
  judge_is lsn (Command op) = refl
  judge_is lsn (Identity x value) = refl

  -- another number than the next one
  pub passed_is : (lsn : ℕ) (member : Member O) → lsn < end_of w → judge_in m w (record_of lsn member) ≡ Passed
  passed_is lsn member low = judge_is lsn member ∙ cond-true (nat_lt lsn (end_of w)) _ _ (lt-ltb lsn (end_of w) low)

  pub gap_is : (lsn : ℕ) (member : Member O) → end_of w < lsn → judge_in m w (record_of lsn member) ≡ Gap (end_of w) lsn
  gap_is lsn member high = judge_is lsn member ∙ cond-false (nat_lt lsn (end_of w)) _ _ (le-ltb lsn (end_of w) (omega (arith, high))) ∙ cond-true (nat_lt (end_of w) lsn) _ _ (lt-ltb (end_of w) lsn high)

  -- the next one
  module _ (lsn : ℕ) (next : lsn ≡ end_of w) (member : Member O) where
    abbrev own : Record O
    own = record_of lsn member

    here : judge_in m w own ≡ (if may_follow m values member then Taken member else Differs lsn)
    here =
        judge_is lsn member ∙ cond-false (nat_lt lsn (end_of w)) _ _ (le-ltb lsn (end_of w) (omega (arith, next)))
        ∙ cond-false (nat_lt (end_of w) lsn) _ _ (le-ltb (end_of w) lsn (omega (arith, next)))

    taken_is : IsTrue (may_follow m values member) → judge_in m w own ≡ Taken member
    taken_is so = here ∙ cond-true (may_follow m values member) _ _ so

    differs_is : may_follow m values member ≡ false → judge_in m w own ≡ Differs lsn
    differs_is so = here ∙ cond-false (may_follow m values member) _ _ so

    -- its course is that of its member
    due_course : (used : ℕ) → member_course m member w used ≡ follow_course m own w used
    due_course used = elim (cases_Bool (may_follow m values member)) [
      | inl so ↦ cond-true (may_follow m values member) _ _ so ∙ ap (λ (j : Judged O). judged_course m j w used) (sym (taken_is so))
      | inr so ↦ cond-false (may_follow m values member) _ _ so ∙ ap (λ (j : Judged O). judged_course m j w used) (sym (differs_is so))
    ]

    -- and so is the cause of its answer
    due_taken : (used : ℕ) → HasMemberCause m w used member (Ok tt) → HasFollowCause m w used own (Ok true)
    due_taken used so = (member, grown_by m w (record_length m member), (taken_is so.0, refl), so.1)

    is_due : lsn_of own ≡ Some (end_of w)
    is_due = lsn_is lsn member ∙ (λ i. Some (next i))

    due_refused : (used : ℕ) (e : RecordErr) → HasMemberCause m w used member (Err e) → HasFollowCause m w used own (Err e)
    due_refused used (of_record.Gap expected got) so = absurd so
    due_refused used (of_record.Differs other) so = differs_is so.0 ∙ (λ i. Differs ((next ∙ sym so.1) i))
    due_refused used (of_record.LogFull held need limit) so = (member, (taken_is so.0, so.2), so.1, so.3, so.4)
    due_refused used of_record.DiskFault so = is_due
    due_refused used (of_record.Damaged file place) so = absurd so
    due_refused used of_record.Memory so = is_due

-- a call that takes the course of a member takes that of its record, where this has the next LSN
module _ {O : Type 0} (meaning : Bounds → Meaning O) (old new : Disk) (before : Parts) (lsn : ℕ) (next : lsn ≡ before.log.next) (member : Member O) where
  pub record_takes : (after : Parts) (ending : Ending) → Takes meaning old new before after (λ m w used. member_course m member w used) ending → Takes meaning old new before after (λ m w used. follow_course m (record_of lsn member) w used) ending
  record_takes after ending takes = takes_same meaning old new before after (λ m w used. member_course m member w used) (λ m w used. follow_course m (record_of lsn member) w used) ending
      (λ p w shows. let m = meaning_in meaning p in due_course m w lsn (next ∙ next_lsn m p old before w shows) member (used_of before.log.log)) takes

  module _ (p : Params) (w : World O) (shows : Shows (meaning_in meaning p) p old before w) where
    pub record_taken : HasMemberCause (meaning_in meaning p) w (used_of before.log.log) member (Ok tt) → HasFollowCause (meaning_in meaning p) w (used_of before.log.log) (record_of lsn member) (Ok true)
    record_taken so = let m = meaning_in meaning p in due_taken m w lsn (next ∙ next_lsn m p old before w shows) member (used_of before.log.log) so

    pub record_refused : (e : RecordErr) → HasMemberCause (meaning_in meaning p) w (used_of before.log.log) member (Err e) → HasFollowCause (meaning_in meaning p) w (used_of before.log.log) (record_of lsn member) (Err e)
    record_refused e so = let m = meaning_in meaning p in due_refused m w lsn (next ∙ next_lsn m p old before w shows) member (used_of before.log.log) e so
