-- The course of a command that nothing refuses, by the log in memory.
use Rattle.std.proofs.Common.{◌≡◌, ◌∙◌, sym, ap, ℕ, ◌<◌, ◌≤◌, Bool, true, false, [], ◌∷◌, arith, refl, inl, inr, ⊎_elim, Option, None, Some}
use Rattle.std.specs.Prelude.{◌^◌, nat_lt, nat_le}
use Rattle.std.proofs.lemmas.Bool.{lt-ltb, le-ltb, le-leb, lt-leb, cond-true, cond-false, cases_lt}
use Rattle.disk_model.specs.Disk.{Disk}
use Rattle.oper_core.specs.Meaning.{Meaning}
use Rattle.oper_core.specs.declared.refusal.Refusal.{Refusal}
use Rattle.formats.specs.declared.params.Params.{Params}
use Rattle.log_blocks.specs.LogView.{used_of}
use Rattle.explain_core.specs.History.Member.{Command}
use Rattle.explain_core.specs.World.{World, end_of}
use Rattle.explain_core.specs.World.Step.{Append}
use Rattle.running_store.specs.Steps.Appended.{next_lsn}
use Rattle.running_store.specs.Calls.Commands.{HasPlaceBelow, command_length, length_with}
use Rattle.running_store.specs.Courses.{Course, course, grown}
use Rattle.running_store.specs.Courses.Stop.{Through, Full, At_end}
use Rattle.running_store.specs.Courses.Growth.{growth_shown}
use Rattle.running_store.specs.Parts.{Parts, Shows}
use Rattle.execution.specs.Courses.{append_course, exec_course, needed, refusal_in, unless_refused, unplaced_steps}
use Rattle.execution.specs.Failures.{LacksPlace, needed_by}
use Rattle.execution.specs.declared.exec_err.ExecErr.TheVariants.{DiskFault, LogFull, LsnEnd}

module _ {O : Type 0} (m : Meaning O) (grouped : Bool) (limit : ℕ) (op : O) (w : World O) (used : ℕ) where
  -- a command that is refused takes no step
  pub exec_refused : (r : Refusal) → refusal_in m w op ≡ Some r → exec_course m grouped limit op w used ≡ course [] used Through
  exec_refused r is = ap (λ (o : Option Refusal). unless_refused used (append_course m grouped limit op w used) o) is

  pub exec_accepted : refusal_in m w op ≡ None → exec_course m grouped limit op w used ≡ append_course m grouped limit op w used
  exec_accepted is = ap (λ (o : Option Refusal). unless_refused used (append_course m grouped limit op w used) o) is

module _ {O : Type 0} (m : Meaning O) (p : Params) (d : Disk) (it : Parts) (w : World O) (shows : Shows m p d it w) (grouped : Bool) (limit : ℕ) (op : O) (accepted : refusal_in m w op ≡ None) where
  abbrev used : ℕ
  used = used_of it.log.log

  abbrev n : ℕ
  n = command_length m op

  abbrev whole : Course O
  whole = exec_course m grouped limit op w used

  pub long_is : length_with it.log n ≡ grown m w used n
  long_is = growth_shown m d it.log w n shows.log

  -- such a record needs as many bytes as the courses say
  pub needed_is : (g : Bool) → needed_by g it.log n ≡ needed m g w n
  needed_is true = omega (arith, long_is)
  needed_is false = refl

  lsn_is : it.log.next ≡ end_of w
  lsn_is = next_lsn m p d it w shows

  pub done_is : HasPlaceBelow limit it.log n → whole ≡ course (Append (Command op) ∷ []) (length_with it.log n) Through
  done_is place =
      let fits = place.room in
      let low = place.lsn in
      let over : nat_lt limit (grown m w used n) ≡ false = le-ltb limit (grown m w used n) (omega (arith, fits, long_is)) in
      let past : nat_le (2 ^ 62) (end_of w) ≡ false = lt-leb (2 ^ 62) (end_of w) (omega (arith, low, lsn_is)) in
      exec_accepted m grouped limit op w used accepted
      ∙ cond-false (nat_lt limit (grown m w used n)) _ _ over
      ∙ cond-false (nat_le (2 ^ 62) (end_of w)) _ _ past
      ∙ ap (λ (k : ℕ). course (Append (Command op) ∷ []) k Through) (sym long_is)

  full_is : limit < length_with it.log n → whole ≡ course (unplaced_steps m grouped w) used (Full used (needed m grouped w n) limit)
  full_is over = exec_accepted m grouped limit op w used accepted ∙ cond-true (nat_lt limit (grown m w used n)) _ _ (lt-ltb limit (grown m w used n) (omega (arith, over, long_is)))

  end_is : length_with it.log n ≤ limit → 2 ^ 62 ≤ it.log.next → whole ≡ course (unplaced_steps m grouped w) used (At_end it.log.next)
  end_is fits last =
      let over : nat_lt limit (grown m w used n) ≡ false = le-ltb limit (grown m w used n) (omega (arith, fits, long_is)) in
      exec_accepted m grouped limit op w used accepted
      ∙ cond-false (nat_lt limit (grown m w used n)) _ _ over
      ∙ cond-true (nat_le (2 ^ 62) (end_of w)) _ _ (le-leb (2 ^ 62) (end_of w) (omega (arith, last, lsn_is)))
      ∙ ap (λ (k : ℕ). course (unplaced_steps m grouped w) used (At_end k)) (sym lsn_is)

  -- the course of one that gets no place is the force, and why it gets none; where the force fails, its steps alone are told
  pub full_here : (held need most : ℕ) → LacksPlace grouped limit it.log n (LogFull held need most) → course (unplaced_steps m grouped w) used (Full held need most) ≡ whole
  full_here held need most lacks = let same = lacks.2 ∙ needed_is grouped in (λ i. course (unplaced_steps m grouped w) used (Full (lacks.1 i) (same i) (lacks.3 i))) ∙ sym (full_is lacks.0)

  pub end_here : (lsn : ℕ) → LacksPlace grouped limit it.log n (LsnEnd lsn) → course (unplaced_steps m grouped w) used (At_end lsn) ≡ whole
  end_here lsn lacks = (λ i. course (unplaced_steps m grouped w) used (At_end (lacks.2 i))) ∙ sym (end_is lacks.0 lacks.1)

  pub unforced_here : LacksPlace grouped limit it.log n DiskFault → unplaced_steps m grouped w ≡ whole.steps
  unforced_here lacks = elim (cases_lt limit (length_with it.log n)) [
    | inl over ↦ sym (ap (λ (c : Course O). c.steps) (full_is over))
    | inr fits ↦ sym (ap (λ (c : Course O). c.steps) (end_is fits (⊎_elim (λ over. absurd (omega (arith, over, fits))) (λ last. last) lacks.1)))
  ]
