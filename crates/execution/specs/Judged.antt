-- What is made of the records of another log, one after the other: each is passed over, is taken as the next member of a history,
-- or is refused.
use Rattle.std.specs.Prelude.{◌+◌, ℕ, nat_lt, bytes_eq, Bool, true, false, not, ◌&&◌, if◌then◌else◌, Option, None, Some, List, [], ◌∷◌, ◌++◌, length}
use Rattle.std.specs.Option.{is_some}
use Rattle.oper_core.specs.State.{State}
use Rattle.oper_core.specs.Meaning.{Meaning, refusal_of}
use Rattle.formats.specs.declared.record.Record.{Record}
use Rattle.formats.specs.declared.record.Record.TheVariants.{Command as Logged_command, Identity as Logged_identity, Checkpoint as Logged_checkpoint}
use Rattle.explain_core.specs.History.{Member, value_at}
use Rattle.explain_core.specs.History.Member.{Command, Identity}

-- it was there already, it comes next, its LSN leaves a gap, or it has the next LSN and is not what may come next
pub data Judged (O : Type 0) : Type 0 where
  Passed : Judged O
  Taken : (member : Member O) → Judged O
  Gap : (expected got : ℕ) → Judged O
  Differs : (lsn : ℕ) → Judged O

abbrev pub is_refused : {O : Type 0} → Judged O → Bool
is_refused Passed = false
is_refused (Taken member) = false
is_refused (Gap expected got) = true
is_refused (Differs lsn) = true

-- the history behind what was judged
abbrev pub with_judged : {O : Type 0} → List (Member O) → Judged O → List (Member O)
with_judged h Passed = h
with_judged h (Taken member) = h ++ member ∷ []
with_judged h (Gap expected got) = h
with_judged h (Differs lsn) = h

module _ {O : Type 0} (m : Meaning O) where
  -- a command may come next on these values, or an identity write, which has the value of its object
  abbrev pub may_follow : State → Member O → Bool
  may_follow s (Command op) = not (is_some (refusal_of m s op))
  may_follow s (Identity x value) = nat_lt x m.objects && bytes_eq value (s x)

  -- what is made of a member with this LSN, where the next LSN and the values are these
  abbrev pub judge_member : State → ℕ → ℕ → Member O → Judged O
  judge_member s next lsn member =
      if nat_lt lsn next then Passed else (if nat_lt next lsn then Gap next lsn else (if may_follow s member then Taken member else Differs lsn))

  -- of a record; a checkpoint has no LSN, and is passed over
  abbrev pub judge : State → ℕ → Record O → Judged O
  judge s next (Logged_command lsn op) = judge_member s next lsn (Command op)
  judge s next (Logged_identity lsn x value) = judge_member s next lsn (Identity x value)
  judge s next (Logged_checkpoint table) = Passed

  -- of a record behind a history
  abbrev pub judge_behind : List (Member O) → Record O → Judged O
  judge_behind h r = judge (λ x. value_at m h (length h) x) (length h + 1) r

  -- the history behind the records, up to the first that is refused
  abbrev pub follows : List (Member O) → List (Record O) → List (Member O)
  follows h [] = h
  follows h (r ∷ records) = if is_refused (judge_behind h r) then h else follows (with_judged h (judge_behind h r)) records

  -- the first refusal, if there is one
  abbrev pub first_refused : List (Member O) → List (Record O) → Option (Judged O)
  first_refused h [] = None
  first_refused h (r ∷ records) = if is_refused (judge_behind h r) then Some (judge_behind h r) else first_refused (with_judged h (judge_behind h r)) records
