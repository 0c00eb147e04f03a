-- Calls that only read, one after the other.
use Rattle.std.proofs.Common.{◌≡◌, ◌∙◌, sym, subst, ap, ℕ, ◌+◌, ◌<◌, false, List, [], ◌∷◌, ◌++◌, map, take, length, slice_index, refl, inl, inr, ◌⊎◌, ⊎_elim, arith, Option, Some}
use Rattle.std.specs.Prelude.{IfSome}
use Rattle.std.proofs.lemmas.List.{take_more, map-append}
use Rattle.std.proofs.lemmas.Bool.{cases_Bool}
use Rattle.disk_model.specs.Disk.{Disk, IsDisk, Rises}
use Rattle.disk_model.specs.Moments.{stays_here, stays_twice}
use Rattle.oper_core.specs.Meaning.{Meaning}
use Rattle.oper_core.specs.declared.bounds.Bounds.{Bounds}
use Rattle.formats.specs.declared.params.Params.{Params}
use Rattle.formats.specs.declared.read_err.ReadErr.{ReadErr}
use Rattle.formats.specs.declared.read_err.ReadErr.TheVariants as of_read
use Rattle.execution.specs.Failures.{exec_from_read}
use Rattle.execution.specs.declared.exec_err.ExecErr.{ExecErr}
use Rattle.execution.specs.Answers.{ending_of_error}
use Rattle.running_store.specs.Calls.{IsFailed}
use Rattle.store_engine.specs.Commands.{HasFetched}
use Rattle.store_engine.specs.Engine.{EngineView, Holds}
use Rattle.store_engine.specs.Failures.{IsFetchFailure}
use Rattle.transactions.specs.Staged.{OnlyReads}

-- a fetch that fails with the disk: the disk counted that
fetch_counted : (old new : Disk) (before : EngineView) (object : ℕ) (error : Option ReadErr) → error ≡ Some of_read.DiskFault → IfSome error (IsFetchFailure old new before object) → Rises old.disk_faults new.disk_faults
fetch_counted old new before object error is cause = (subst (λ (e : Option ReadErr). IfSome e (IsFetchFailure old new before object)) is cause).1

module _ {O : Type 0} (meaning : Bounds → Meaning O) where
  -- none, and nothing failed
  pub reads_none : (d : Disk) (engine : EngineView) (failed : Type 0) → IsDisk d → engine.broken ≡ false → (failed → ⊥) → OnlyReads meaning d d engine engine failed
  reads_none d engine failed lawful fine none = record {
    kept = stays_here d lawful;
    log = refl;
    params = refl;
    group = refl;
    copied = refl;
    identities = refl;
    attached = λ is. is;
    broken = inr fine;
    fault = λ f. absurd (none f);
    holds = λ p commands holds. inr holds;
  }

  -- two, of which the first did not fail
  pub reads_twice : (old mid new : Disk) (before between after : EngineView) (failed : Type 0) → OnlyReads meaning old mid before between ⊥ → OnlyReads meaning mid new between after failed
      → OnlyReads meaning old new before after failed
  reads_twice old mid new before between after failed first second = record {
    kept = stays_twice old mid new first.kept second.kept;
    log = second.log ∙ first.log;
    params = second.params ∙ first.params;
    group = second.group ∙ first.group;
    copied = second.copied ∙ first.copied;
    identities = second.identities ∙ first.identities;
    attached = λ is. second.attached (first.attached is);
    broken = second.broken;
    fault = λ f. ((second.fault f).0, λ below. omega (arith, first.kept.time.disk_faults, (second.fault f).1 below));
    holds = λ p commands holds. ⊎_elim (λ no. absurd no) (λ there. second.holds p commands there) (first.holds p commands holds);
  }

  pub holds_still : (old mid : Disk) (before between : EngineView) → OnlyReads meaning old mid before between ⊥ → (p : Params) (commands : List O) → Holds meaning p old before commands → Holds meaning p mid between commands
  holds_still old mid before between first p commands holds = ⊎_elim (λ no. absurd no) (λ there. there) (first.holds p commands holds)

  -- a failure is told in other words
  pub reads_so : (old new : Disk) (before after : EngineView) (failed told : Type 0) → (failed → told) → (told → failed) → OnlyReads meaning old new before after failed → OnlyReads meaning old new before after told
  reads_so old new before after failed told so back reads = record {
    kept = reads.kept;
    log = reads.log;
    params = reads.params;
    group = reads.group;
    copied = reads.copied;
    identities = reads.identities;
    attached = reads.attached;
    fault = λ f. reads.fault (back f);
    broken = ⊎_elim (λ f. inl (so f)) (λ fine. inr fine) reads.broken;
    holds = λ p commands holds. ⊎_elim (λ f. inl (so f)) (λ there. inr there) (reads.holds p commands holds);
  }

  -- a fetch
  pub fetched_reads : (old new : Disk) (before after : EngineView) (object : ℕ) (error : Option ReadErr) → HasFetched meaning old new before after object error
      → OnlyReads meaning old new before after (error ≡ Some of_read.DiskFault)
  fetched_reads old new before after object error fetched = record {
    kept = fetched.call.kept;
    log = fetched.call.log;
    params = fetched.params;
    group = fetched.call.group;
    copied = fetched.call.copied;
    identities = fetched.call.identities;
    attached = fetched.call.attached;
    fault = λ f. (fetched.call.broken.1 f, fetch_counted old new before object error f fetched.cause);
    broken = elim (cases_Bool after.broken) [ inl broken ↦ inl (fetched.call.broken.0 broken) | inr fine ↦ inr fine ];
    holds = λ p commands holds. ⊎_elim (λ f. inl f) (λ shows. inr (record { world = holds.world; shows = shows; commands_are = holds.commands_are })) (fetched.shows p holds.world holds.shows);
  }

-- a fetch that fails with the disk, in the terms of a command
pub fetch_fails : (e : ReadErr) → Some e ≡ Some of_read.DiskFault → (x : ExecErr) → x ≡ exec_from_read e → IsFailed (ending_of_error x)
fetch_fails of_read.DiskFault fault x is = subst (λ (y : ExecErr). IsFailed (ending_of_error y)) (sym is) tt
fetch_fails (of_read.Damaged file place) fault x is = cc fault
fetch_fails of_read.Memory fault x is = cc fault

pub fetch_failed : (e : ReadErr) (x : ExecErr) → x ≡ exec_from_read e → IsFailed (ending_of_error x) → ◌≡◌ {A = Option ReadErr} (Some e) (Some of_read.DiskFault)
fetch_failed of_read.DiskFault x is failed = refl
fetch_failed (of_read.Damaged file place) x is failed = absurd (subst (λ (y : ExecErr). IsFailed (ending_of_error y)) is failed)
fetch_failed of_read.Memory x is failed = absurd (subst (λ (y : ExecErr). IsFailed (ending_of_error y)) is failed)

-- one value more
pub next_value : (f : ℕ → List ℕ) (xs : List ℕ) (i : ℕ) (vs : List (List ℕ)) → i < length xs → vs ≡ map f (take i xs) → vs ++ f (slice_index xs i) ∷ [] ≡ map f (take (i + 1) xs)
next_value f xs i vs within are =
    ap (λ (l : List (List ℕ)). l ++ f (slice_index xs i) ∷ []) are ∙ sym (map-append f (take i xs) (slice_index xs i ∷ [])) ∙ ap (λ (l : List ℕ). map f l) (sym (take_more xs i 0 within))
