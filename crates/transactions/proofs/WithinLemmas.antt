-- What calls stage on an engine, one after the other.
use Rattle.std.proofs.Common.{◌≡◌, ◌≤◌, ◌<◌, ◌∙◌, refl, sym, ap, subst, ℕ, ◌+◌, inl, inr, ◌⊎◌, ⊎_elim, Option, None, Some, Result, Ok, Err, List, [], ◌∷◌, ◌++◌, length, take, length-append, append_assoc, arith, MutBor}
use Rattle.std.specs.Prelude.{IsSome}
use Rattle.std.specs.Option.{option_map_or}
use Rattle.std.proofs.Math.Seq.{take-append-add, take-length, take-nil}
use Rattle.std.proofs.lemmas.List.{append-nil, take-append-le}
use Rattle.disk_model.specs.Disk.{Disk}
use Rattle.oper_core.specs.Meaning.{Meaning}
use Rattle.oper_core.specs.State.{State}
use Rattle.oper_core.specs.declared.bounds.Bounds.{Bounds}
use Rattle.oper_core.specs.declared.refusal.Refusal.{Refusal}
use Rattle.formats.specs.declared.params.Params.{Params}
use Rattle.formats.specs.declared.read_err.ReadErr.{ReadErr}
use Rattle.formats.specs.declared.read_err.ReadErr.TheVariants as of_read
use Rattle.dirty_cache.specs.Contents.{Contents, held}
use Rattle.dirty_cache.specs.declared.entry.Entry.{Entry}
use Rattle.running_store.specs.Calls.{IsFailed}
use Rattle.running_store.specs.Courses.{Stop}
use Rattle.running_store.specs.Laid.LengthLaws.{next_same}
use Rattle.running_store.specs.Laid.Lengths.{IsNextEmpty, length_at}
use Rattle.running_store.specs.Taking.{Ending}
use Rattle.running_store.specs.Taking.Ending.{Done, Short, Stopped}
use Rattle.execution.specs.declared.exec_err.ExecErr.{ExecErr}
use Rattle.execution.specs.declared.exec_err.ExecErr.TheVariants.{Refused, LogFull, LsnEnd, DiskFault, Damaged, Memory}
use Rattle.store_engine.specs.Commands.{HasFetched}
use Rattle.store_engine.specs.Engine.{EngineView, Holds, params_of}
use Rattle.store_engine.specs.Lists.{as_exec, ending_of}
use Rattle.store_engine.specs.Store.{refusal_after, state_of}
use Rattle.store_calls.specs.Laws.{GoOn}
use Rattle.store_calls.specs.Making.{Answers, Calls, HasFront, Reads, one_accepted}
use Rattle.transactions.specs.Admitted.{HasStaged}
use Rattle.transactions.specs.Staged.{IsStaged, OnlyReads, overlaid}
use Rattle.transactions.specs.Within.{HoldsWithin, StagesFront, length_in, within_view}
use Rattle.transactions.specs.declared.transaction.Transaction.{Transaction}
use Rattle.transactions.specs.declared.within.Within.{Within}
use Rattle.transactions.proofs.Reading.{fetched_reads, reads_so, reads_twice}

module _ {O : Type 0} (meaning : Bounds → Meaning O) (p : Params) where
  -- nothing is staged beside what was
  pub stages_none : (new : Disk) (before after : Within O) (commands ops : List O) (ending : Ending) → (ending ≡ Done → ops ≡ []) → IsFailed ending ⊎ HoldsWithin meaning p new after commands
      → after.transaction.now.ops.items ≡ before.transaction.now.ops.items → ((stop : Stop) → ending ≡ Stopped stop → ⊥) → StagesFront meaning p new before after commands ops ending
  stages_none new before after commands ops ending none kept same unstopped = record {
    done = 0;
    front = omega arith;
    all = λ done. sym (ap (λ (l : List O). length l) (none done));
    kept = ⊎_elim (λ failed. inl failed) (λ holds. inr (subst (λ (l : List O). HoldsWithin meaning p new after l) (sym (append-nil commands)) holds)) kept;
    staged = same ∙ sym (append-nil before.transaction.now.ops.items);
    unstopped = unstopped;
  }

  module _ (mid new : Disk) (s t u : Within O) (commands front ops : List O) (ending : Ending) where
    -- what is staged is the whole front
    whole : (first : StagesFront meaning p mid s t commands front Done) → take first.done front ≡ front
    whole first = ap (λ (n : ℕ). take n front) (first.all refl) ∙ take-length front

    pub holds_after : StagesFront meaning p mid s t commands front Done → HoldsWithin meaning p mid t (commands ++ front)
    holds_after first = ⊎_elim (λ failed. absurd failed) (λ holds. subst (λ (l : List O). HoldsWithin meaning p mid t (commands ++ l)) (whole first) holds) first.kept

    pub stages_behind : StagesFront meaning p mid s t commands front Done → StagesFront meaning p new t u (commands ++ front) ops ending → StagesFront meaning p new s u commands (front ++ ops) ending
    stages_behind first second =
        let taken : take (length front + second.done) (front ++ ops) ≡ front ++ take second.done ops = take-append-add front ops second.done in record {
          done = length front + second.done;
          front = omega (arith, second.front, length-append front ops);
          all = λ done. omega (arith, second.all done, length-append front ops);
          kept = ⊎_elim (λ failed. inl failed)
              (λ holds. inr (subst (λ (l : List O). HoldsWithin meaning p new u l) (append_assoc commands front (take second.done ops) ∙ ap (λ (l : List O). commands ++ l) (sym taken)) holds)) second.kept;
          staged = second.staged ∙ ap (λ (l : List O). l ++ take second.done ops) (first.staged ∙ ap (λ (l : List O). s.transaction.now.ops.items ++ l) (whole first))
              ∙ append_assoc s.transaction.now.ops.items front (take second.done ops) ∙ ap (λ (l : List O). s.transaction.now.ops.items ++ l) (sym taken);
          unstopped = second.unstopped;
        }

    pub stages_short : StagesFront meaning p mid s t commands front Done → StagesFront meaning p mid s t commands (front ++ ops) Short
    stages_short first =
        let taken : take first.done (front ++ ops) ≡ take first.done front = take-append-le first.done front ops first.front in record {
          done = first.done;
          front = omega (arith, first.front, length-append front ops);
          all = λ is. cc is;
          kept = ⊎_elim (λ failed. absurd failed) (λ holds. inr (subst (λ (l : List O). HoldsWithin meaning p mid t (commands ++ l)) (sym taken) holds)) first.kept;
          staged = first.staged ∙ ap (λ (l : List O). s.transaction.now.ops.items ++ l) (sym taken);
          unstopped = λ stop is. cc is;
        }

module _ {O : Type 0} (meaning : Bounds → Meaning O) (p : Params) (d : Disk) where
  -- where a front is staged, engine and files stand for it
  has_front : (s t : Within O) (commands ops : List O) (ending : Ending) → StagesFront meaning p d s t commands ops ending → IsFailed ending ⊎ HasFront (within_view meaning) p d t commands ops ending
  has_front s t commands ops ending stages = ⊎_elim (λ failed. inl failed) (λ holds. inr (record {
    done = stages.done;
    front = stages.front;
    all = stages.all;
    stopped = λ stop is. absurd (stages.unstopped stop is);
    holds = holds;
  })) stages.kept

  -- which is none of none
  has_none : (t : Within O) (commands : List O) (ending : Ending) → HasFront (within_view meaning) p d t commands [] ending → HoldsWithin meaning p d t commands
  has_none t commands ending has = subst (λ (l : List O). HoldsWithin meaning p d t l) (ap (λ (l : List O). commands ++ l) (take-nil has.done) ∙ append-nil commands) has.holds

-- a call that only reads the engine
pub within_calls : {O : Type 0} (meaning : Bounds → Meaning O) {old new : Disk} (before after : Within O) (error : Option ExecErr) → OnlyReads meaning old new before.engine.now after.engine.now (IsFailed (ending_of error))
    → after.engine.ghost_name ≡ before.engine.ghost_name → after.transaction.ghost_name ≡ before.transaction.ghost_name → Calls (within_view meaning) old new before after error
within_calls meaning before after error reads engine transaction = record {
  own = record { reads = reads; engine = engine; transaction = transaction };
  params = reads.params;
  unbroken = λ fine. ⊎_elim (λ failed. absurd (fine failed)) (λ whole. whole) reads.broken;
}

module _ {O T : Type 0} (meaning : Bounds → Meaning O) (disk : T → Disk) where
  -- calls on it go on over further ones
  pub within_goes_on : GoOn (within_view meaning) disk
  within_goes_on = record {
    calls = λ old mid new s t u error first second.
        within_calls meaning s u error (reads_twice meaning (disk old) (disk mid) (disk new) s.engine.now t.engine.now u.engine.now (IsFailed (ending_of error)) first.own.reads second.own.reads)
        (second.own.engine ∙ first.own.engine) (second.own.transaction ∙ first.own.transaction);
    refused = λ old new s t refusal calls. within_calls meaning s t None calls.own.reads calls.own.engine calls.own.transaction;
    short = λ old new s t calls. within_calls meaning s t (Some Memory) calls.own.reads calls.own.engine calls.own.transaction;
    adds = λ old mid new s t u p commands front ops ending first second all.
        let one = first all in
        stages_behind meaning p (disk mid) (disk new) s t u commands front ops ending one (second (holds_after meaning p (disk mid) (disk mid) s t t commands front [] Done one));
    cut = λ old new s t p commands front rest adds all. stages_short meaning p (disk new) (disk new) s t t commands front rest Short (adds all);
    holds = λ old new s t p commands ops all adds. holds_after meaning p (disk new) (disk new) s t t commands ops [] Done (adds all);
    front = λ old new s t p commands ops ending all adds. has_front meaning p (disk new) s t commands ops ending (adds all);
    kept = λ old new s t p commands ending all keeps. ⊎_elim (λ failed. inl failed) (λ has. inr (has_none meaning p (disk new) t commands ending has)) (has_front meaning p (disk new) s t commands [] ending (keeps p commands all));
  }

-- the log stops no read
read_unstopped : (e : Option ReadErr) (stop : Stop) → ending_of (as_exec e) ≡ Stopped stop → ⊥
read_unstopped None stop is = cc is
read_unstopped (Some of_read.DiskFault) stop is = cc is
read_unstopped (Some (of_read.Damaged file place)) stop is = cc is
read_unstopped (Some of_read.Memory) stop is = cc is

-- A call that only reads the engine, and stages nothing.
module _ {O : Type 0} (meaning : Bounds → Meaning O) (old new : Disk) (before after : Within O) (engine : after.engine.ghost_name ≡ before.engine.ghost_name) (same : after.transaction ≡ before.transaction) (e : Option ReadErr)
    (reads : OnlyReads meaning old new before.engine.now after.engine.now (IsFailed (ending_of (as_exec e)))) where
  abbrev error : Option ExecErr
  error = as_exec e

  still : (p : Params) (commands : List O) → HoldsWithin meaning p old before commands → IsFailed (ending_of error) ⊎ HoldsWithin meaning p new after commands
  still p commands all = ⊎_elim (λ failed. inl failed) (λ holds. inr (record {
    base = all.base;
    holds = holds;
    staged = subst (λ (t : MutBor (Transaction O)). IsStaged meaning p all.base t.now.ops.items t.now.bytes t.now.made) (sym same) all.staged;
    are = ap (λ (t : MutBor (Transaction O)). all.base ++ t.now.ops.items) same ∙ all.are;
  })) (reads.holds p all.base all.holds)

  pub only_read : Reads (within_view meaning) old new before after error
  only_read = record {
    calls = within_calls meaning before after error reads engine (ap (λ (t : MutBor (Transaction O)). t.ghost_name) same);
    adds = λ p commands was rest ended again. stages_none meaning p new before after commands rest (ending_of error) ended (still p commands again) (ap (λ (t : MutBor (Transaction O)). t.now.ops.items) same) (read_unstopped e);
  }

-- a fetch that fails with the disk, in the terms of calls
fetch_told : (e : Option ReadErr) → e ≡ Some of_read.DiskFault → IsFailed (ending_of (as_exec e))
fetch_told e is = subst (λ (x : Option ReadErr). IsFailed (ending_of (as_exec x))) (sym is) tt

fetch_back : (e : Option ReadErr) → IsFailed (ending_of (as_exec e)) → e ≡ Some of_read.DiskFault
fetch_back None failed = absurd failed
fetch_back (Some of_read.DiskFault) failed = refl
fetch_back (Some (of_read.Damaged file place)) failed = absurd failed
fetch_back (Some of_read.Memory) failed = absurd failed

pub fetch_reads : {O : Type 0} (meaning : Bounds → Meaning O) (old new : Disk) (before after : EngineView) (object : ℕ) (error : Option ReadErr) → HasFetched meaning old new before after object error
    → OnlyReads meaning old new before after (IsFailed (ending_of (as_exec error)))
fetch_reads meaning old new before after object error fetched =
    reads_so meaning old new before after (error ≡ Some of_read.DiskFault) (IsFailed (ending_of (as_exec error))) (fetch_told error) (fetch_back error) (fetched_reads meaning old new before after object error fetched)

-- a value that is laid over a state is the same whatever is below it
same_over : (made : Contents) (x : ℕ) (s t : State) → IsSome (held made x) ⊎ (s x ≡ t x) → overlaid made s x ≡ overlaid made t x
same_over made x s t either =
    elim (held made x) as (λ o. IsSome o ⊎ (s x ≡ t x) → option_map_or (λ (e : Entry). e.bytes) o (s x) ≡ option_map_or (λ (e : Entry). e.bytes) o (t x)) [
      | None ↦ λ below. ⊎_elim (λ no. cc no) (λ same. same) below
      | Some e ↦ λ below. refl
    ] either

-- and is that after all the commands
pub seen_is : {O : Type 0} (meaning : Bounds → Meaning O) (p : Params) (d : Disk) (within : Within O) (commands : List O) (all : HoldsWithin meaning p d within commands) (x : ℕ) (s : State)
    → IsSome (held within.transaction.now.made x) ⊎ (s x ≡ state_of meaning p all.base x) → overlaid within.transaction.now.made s x ≡ state_of meaning p commands x
seen_is {O} meaning p d within commands all x s either =
    same_over within.transaction.now.made x s (state_of meaning p all.base) either ∙ all.staged.values x ∙ ap (λ (l : List O). state_of meaning p l x) all.are

-- the lengths that are known without a read are those of the values after all the commands
length_over : (o : Option Entry) (n : ℕ) (v : List ℕ) → n ≡ length v → option_map_or (λ (e : Entry). length e.bytes) o n ≡ length (option_map_or (λ (e : Entry). e.bytes) o v)
length_over None n v is = is
length_over (Some e) n v is = refl

module _ {O : Type 0} (meaning : Bounds → Meaning O) (p : Params) (d : Disk) (within : Within O) (commands : List O) (all : HoldsWithin meaning p d within commands) where
  length_is : (x : ℕ) → length_at within.engine.now.parts.volatile.objects x ≡ length (state_of meaning p all.base x) → length_in within x ≡ length (state_of meaning p commands x)
  length_is x is =
      length_over (held within.transaction.now.made x) (length_at within.engine.now.parts.volatile.objects x) (state_of meaning p all.base x) is
      ∙ ap (λ (v : List ℕ). length v) (seen_is meaning p d within commands all x (state_of meaning p all.base) (inr refl))

  -- so the next empty object is that of these values
  pub next_is : ((x : ℕ) → x < p.objects → length_at within.engine.now.parts.volatile.objects x ≡ length (state_of meaning p all.base x)) → (from : ℕ) (found : Option ℕ)
      → IsNextEmpty (params_of within.engine.now).objects (length_in within) from found → IsNextEmpty p.objects (λ x. length (state_of meaning p commands x)) from found
  next_is lengths from found is =
      next_same p.objects (length_in within) (λ x. length (state_of meaning p commands x)) from found (λ x below. length_is x (lengths x below))
      (subst (λ (q : Params). IsNextEmpty q.objects (length_in within) from found) all.holds.shows.shows.store.params is)

-- A command that is to be staged is refused as on all the commands.
module _ {O : Type 0} (meaning : Bounds → Meaning O) (d : Disk) (before : Within O) (op : O) (p : Params) (commands : List O) (all : HoldsWithin meaning p d before commands) where
  pub there : (answer : Option Refusal) → refusal_after meaning p (all.base ++ before.transaction.now.ops.items) op ≡ answer → refusal_after meaning p commands op ≡ answer
  there answer is = ap (λ (l : List O). refusal_after meaning p l op) (sym all.are) ∙ is

  pub answers_err : (e : ExecErr) (ops : List O) (bytes : ℕ) (made : Contents) → HasStaged meaning p all.base before.transaction.now.ops.items ops bytes made op (Err e) → Answers (refusal_after meaning p commands op) (Some e)
  answers_err (Refused r) ops bytes made staged = there (Some r) staged.0
  answers_err (LogFull used need limit) ops bytes made staged = absurd staged
  answers_err (LsnEnd lsn) ops bytes made staged = absurd staged
  answers_err DiskFault ops bytes made staged = tt
  answers_err (Damaged file place) ops bytes made staged = tt
  answers_err Memory ops bytes made staged = tt

-- One command is staged, or none.
module _ {O : Type 0} (meaning : Bounds → Meaning O) (old new : Disk) (before after : Within O) (op : O) (p : Params) (commands : List O) (all : HoldsWithin meaning p old before commands) where
  abbrev refusal : Option Refusal
  refusal = refusal_after meaning p commands op

  abbrev Staged : Result (Unit {0}) ExecErr → Type 0
  Staged result = HasStaged meaning p all.base before.transaction.now.ops.items after.transaction.now.ops.items after.transaction.now.bytes after.transaction.now.made op result

  abbrev Kept : Ending → Type 0
  Kept ending = IsFailed ending ⊎ Holds meaning p new after.engine.now all.base

  pub staged_one : Kept Done → Staged (Ok tt) → (rest : List O) → rest ≡ [] → StagesFront meaning p new before after commands (one_accepted op refusal ++ rest) Done
  staged_one kept staged rest none =
      subst (λ (o : Option Refusal). StagesFront meaning p new before after commands (one_accepted op o ++ rest) Done) (sym (there meaning old before op p commands all None staged.0))
      (subst (λ (l : List O). StagesFront meaning p new before after commands (op ∷ l) Done) (sym none)
      (record {
        done = 1;
        front = omega arith;
        all = λ done. refl;
        kept = ⊎_elim (λ failed. absurd failed) (λ holds. inr (record {
          base = all.base;
          holds = holds;
          staged = staged.2;
          are = ap (λ (l : List O). all.base ++ l) staged.1 ∙ sym (append_assoc all.base before.transaction.now.ops.items (op ∷ [])) ∙ ap (λ (l : List O). l ++ op ∷ []) all.are;
        })) kept;
        staged = staged.1;
        unstopped = λ stop is. cc is;
      }))

  -- what was staged is staged still
  same_staged : (ending : Ending) → Kept ending → after.transaction.now.ops.items ≡ before.transaction.now.ops.items → IsStaged meaning p all.base after.transaction.now.ops.items after.transaction.now.bytes after.transaction.now.made
      → IsFailed ending ⊎ HoldsWithin meaning p new after commands
  same_staged ending kept same staged = ⊎_elim (λ failed. inl failed) (λ holds. inr (record {
    base = all.base;
    holds = holds;
    staged = staged;
    are = ap (λ (l : List O). all.base ++ l) same ∙ all.are;
  })) kept

  unstaged : (e : ExecErr) → Kept (ending_of (Some e)) → (after.transaction.now.ops.items ≡ before.transaction.now.ops.items) × IsStaged meaning p all.base after.transaction.now.ops.items after.transaction.now.bytes after.transaction.now.made
      → ((stop : Stop) → ending_of (Some e) ≡ Stopped stop → ⊥) → (ops : List O) → (ending_of (Some e) ≡ Done → ops ≡ []) → StagesFront meaning p new before after commands ops (ending_of (Some e))
  unstaged e kept both unstopped ops none = stages_none meaning p new before after commands ops (ending_of (Some e)) none (same_staged (ending_of (Some e)) kept both.0 both.1) both.0 unstopped

  -- where it is not staged, nothing is
  pub nothing_staged : (e : ExecErr) → Kept (ending_of (Some e)) → Staged (Err e) → (ops : List O) → (ending_of (Some e) ≡ Done → ops ≡ []) → StagesFront meaning p new before after commands ops (ending_of (Some e))
  nothing_staged (Refused r) kept staged = unstaged (Refused r) kept (staged.1, staged.2) (λ stop is. cc is)
  nothing_staged (LogFull used need limit) kept staged = absurd staged
  nothing_staged (LsnEnd lsn) kept staged = absurd staged
  nothing_staged DiskFault kept staged = unstaged DiskFault kept staged (λ stop is. cc is)
  nothing_staged (Damaged file place) kept staged = unstaged (Damaged file place) kept staged (λ stop is. cc is)
  nothing_staged Memory kept staged = unstaged Memory kept staged (λ stop is. cc is)

  pub staged_none : (e : ExecErr) → Kept (ending_of (Some e)) → Staged (Err e) → (rest : List O) → (ending_of (Some e) ≡ Done → rest ≡ []) → StagesFront meaning p new before after commands (one_accepted op refusal ++ rest) (ending_of (Some e))
  staged_none (Refused r) kept staged rest ended =
      subst (λ (o : Option Refusal). StagesFront meaning p new before after commands (one_accepted op o ++ rest) Done) (sym (there meaning old before op p commands all (Some r) staged.0)) (nothing_staged (Refused r) kept staged rest ended)
  staged_none (LogFull used need limit) kept staged rest ended = absurd staged
  staged_none (LsnEnd lsn) kept staged rest ended = absurd staged
  staged_none DiskFault kept staged rest ended = nothing_staged DiskFault kept staged (one_accepted op refusal ++ rest) (λ is. cc is)
  staged_none (Damaged file place) kept staged rest ended = nothing_staged (Damaged file place) kept staged (one_accepted op refusal ++ rest) (λ is. cc is)
  staged_none Memory kept staged rest ended = nothing_staged Memory kept staged (one_accepted op refusal ++ rest) (λ is. cc is)
