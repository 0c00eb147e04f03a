-- A script that was run on a new store.
use Rattle.std.proofs.Common.{◌≡◌, ◌≢◌, ◌⊎◌, ⊎_elim, ◌∙◌, ◌++◌, List, ℕ, [], length, ap, refl, sym, subst}
use Rattle.std.specs.List.{flat_map}
use Rattle.disk_model.specs.Disk.{Disk, Runs, Same, SaysFront}
use Rattle.disk_model.specs.Growing.{disk_of}
use Rattle.disk_model.specs.declared.grow_mem.GrowMem.{GrowMem}
use Rattle.script_lines.specs.Grammar.{lines_of}
use Rattle.script_lines.specs.Replies.{said_line}
use Rattle.shell_base.specs.Store.{Command, IsNewStore, Opens}
use Rattle.shell_base.specs.declared.budget.Budget.TheVariants.{Usual}
use Rattle.shell_base.specs.declared.status.Status.{Status}
use Rattle.shell_base.specs.declared.status.Status.TheVariants.{Done, DoneWithRefusals, SayFault, Memory}
use Rattle.shell_base.specs.KeepLaws.{keeps_once}
use Rattle.script_run.specs.RunCalls.{IsRunCall}
use Rattle.script_run.specs.declared.tending.Tending.TheVariants.{ByHand}
use Rattle.redo_shell.specs.Demo.{demo_params, IsPlayed, SaysTotals, IsOfDemo, IsDemo}

-- what was said and added by a run that answered the whole script
pub played : {told : Type 0} {left rest : List ℕ} {new : Disk} {status : Status} (machine : GrowMem) (last : Disk) (accepted : ℕ) → IsRunCall ByHand Usual told left rest (disk_of machine) new status → told → IsNewStore demo_params (disk_of machine).reads → (disk_of machine).said ≡ []
    → (status ≡ Done) ⊎ (status ≡ DoneWithRefusals) → new.tells_files → ((commands : List Command) → Opens demo_params new commands → (last.said ≡ new.said) × (accepted ≡ length commands)) → IsPlayed (lines_of left) last.said accepted
played machine last accepted call tells fresh none done files counted =
    let on = call.script demo_params [] (record { told = tt; stands = fresh.stands }) tells in
    let all = on.complete on.first.0 on.first.1 done in
    let count = counted all.account.commands (record { told = files; stands = all.stands.0 }) in
    record {
      replies = all.replies;
      added = all.account.commands;
      answered = record {
        waits = all.waits;
        account = all.account;
        answers = all.answers;
        added_is = refl;
        machine = machine;
        new = fresh;
        first = on.first.0;
        is_first = on.first.1;
        last = all.last;
        goes = all.goes;
      };
      said_is = count.0 ∙ all.said_is ∙ ap (λ (l : List ℕ). l ++ flat_map said_line all.replies) none;
      accepted_is = count.1;
    }

-- a demo ends so, unless memory fails
in_demo : (status : Status) → (status ≡ Done) ⊎ (status ≡ SayFault) → IsOfDemo status
in_demo status ends = ⊎_elim (λ (is : status ≡ Done). subst IsOfDemo (sym is) tt) (λ (is : status ≡ SayFault). subst IsOfDemo (sym is) tt) ends

not_memory : (status : Status) → (status ≡ Done) ⊎ (status ≡ SayFault) → status ≡ Memory → ⊥
not_memory status ends memory = ⊎_elim (λ (is : status ≡ Done). cc (is, memory)) (λ (is : status ≡ SayFault). cc (is, memory)) ends

-- the line was said, or a beginning of it
pub demo_said : (seed steps : ℕ) (old new : Disk) (status : Status) (line items : List ℕ) → line ≡ items → SaysTotals seed steps items → Runs Same (SaysFront line) old new
    → (old.tells_files → status ≢ SayFault → new.said ≡ old.said ++ line) → (status ≡ Done) ⊎ (status ≡ SayFault) → IsDemo seed steps old new status
demo_said seed steps old new status line items same says runs all ends = record {
  ends = in_demo status ends;
  keeps = keeps_once old new runs;
  short = λ memory. absurd (not_memory status ends memory);
  totals = λ memory. (line, subst (λ (l : List ℕ). SaysTotals seed steps l) (sym same) says, runs, λ told done. all told (λ e. cc (done, e)));
}
