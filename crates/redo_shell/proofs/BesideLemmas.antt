-- What a call notes, by what it was asked.
use Rattle.std.proofs.Common.{◌≡◌, ◌⊎◌, Bool, List, ℕ, subst}
use Rattle.command_words.specs.Words.{Asks}
use Rattle.command_words.specs.declared.asked.Asked.{Asked}
use Rattle.command_words.specs.declared.asked.Asked.TheVariants.{Init, Run, Dump, Demo, Upgrade, Ship, Follow}
use Rattle.shell_base.specs.declared.status.Status.{Status}
use Rattle.shell_base.specs.declared.status.Status.TheVariants.{Done, DoneWithRefusals}
use Rattle.script_run.specs.Noted.{Noted, none_noted}
use Rattle.script_run.specs.StartLaws.{notes_begin}
use Rattle.redo_shell.specs.Beside.{IsNotedCall, IsNotedFor}

-- by what was asked
module _ (told : Type 0) (script : List (List ℕ)) (noted : Noted) (status : Status) where
  pub noted_for : {asked other : Asked} → asked ≡ other → IsNotedFor asked told script noted status → IsNotedFor other told script noted status
  noted_for is here = subst (λ (a : Asked). IsNotedFor a told script noted status) is here

  unless_run : {words : List (List ℕ)} (asked : Asked) → Asks words asked → IsNotedFor asked told script noted status → ((tend : Bool) → Asks words (Run tend) → ⊥) → noted ≡ none_noted
  unless_run (Run tend) asks here other = absurd (other tend asks)
  unless_run Dump asks here other = here
  unless_run (Init p) asks here other = here
  unless_run (Demo seed steps) asks here other = here
  unless_run (Upgrade q) asks here other = here
  unless_run (Ship from) asks here other = here
  unless_run (Follow same) asks here other = here

  pub noted_called : {words : List (List ℕ)} (asked : Asked) → Asks words asked → ((other : Asked) → Asks words other → asked ≡ other) → IsNotedFor asked told script noted status → IsNotedCall words told script noted status
  noted_called asked asks one here = record { run = λ tend is. noted_for (one (Run tend) is) here; other = unless_run asked asks here }

-- where nothing was done
pub none_called : {words : List (List ℕ)} {told : Type 0} {script : List (List ℕ)} {noted : Noted} (status : Status) → ((status ≡ Done) ⊎ (status ≡ DoneWithRefusals) → ⊥) → noted ≡ none_noted → IsNotedCall words told script noted status
none_called {script = script} status undone is = record {
  run = λ tend asks told. record { todo = script; front = notes_begin is; all = λ done. absurd (undone done) };
  other = λ none. is;
}
