-- What a line asks, and what a reader has found.
use Rattle.std.proofs.Common.{◌≡◌, ◌<◌, List, ℕ, length, refl, subst, sym, arith, Option, None, Some, Result, Ok, Err, IfErr, IfOk}
use Rattle.std.specs.Prelude.{replicate}
use Rattle.std.proofs.lemmas.List.{length-replicate}
use Rattle.disk_model.specs.Disk.{Disk}
use Rattle.script_lines.specs.Grammar.{IsBad, Request}
use Rattle.script_lines.specs.GrammarLaws.{long_is_bad}
use Rattle.script_lines.specs.Reading.{IsLine}
use Rattle.script_lines.specs.declared.next.Next.{Next}
use Rattle.script_lines.specs.declared.next.Next.TheVariants.{Line as Short, Long}
use Rattle.shell_base.specs.Stops.{IsCaused}
use Rattle.shell_base.specs.declared.stop.Stop.{Stop}
use Rattle.shell_base.specs.declared.stop.Stop.TheVariants.{DiskFault, Damaged, ReadFault, SayFault, BackupFault, Memory, TooLong}
use Rattle.script_run.specs.Finding.{IsLineOf}
use Rattle.script_run.specs.Replies.{IsOfBackup}
use Rattle.script_run.specs.Run.{IsCausedBeside}
use Rattle.script_run.specs.Saving.{AsksBackup}
use Rattle.script_run.proofs.GroupLemmas.{AsksOnce}

-- what a reader has found
found_line : (next : Next) (stored line : List ℕ) → next ≡ Short → IsLine next stored line → line ≡ stored
found_line next stored line is found = let here = subst (λ (n : Next). IsLine n stored line) is found in here.0

pub found_long : (next : Next) (stored line : List ℕ) → next ≡ Long → IsLine next stored line → IsBad line
found_long next stored line is found = long_is_bad line (subst (λ (n : Next). IsLine n stored line) is found)

-- what a line asks that a reader has found
pub asked_line : {E : Type 0} (next : Next) (stored : List ℕ) (result : Result (Option Request) E) → next ≡ Short → IfOk result (λ asked. IsLineOf asked stored) → IfOk result (λ asked. (line : List ℕ) → IsLine next stored line → IsLineOf asked line)
asked_line next stored (Ok asked) is asks = λ line found. subst (λ (l : List ℕ). IsLineOf asked l) (sym (found_line next stored line is found)) asks
asked_line next stored (Err error) is asks = tt

pub some_asked : {E : Type 0} (stored : List ℕ) (result : Result (Option Request) E) → IfOk result (λ asked. IsLineOf asked stored) → IfOk result (λ asked. (line : List ℕ) × IsLineOf asked line)
some_asked stored (Ok asked) asks = (stored, asks)
some_asked stored (Err error) asks = tt

-- a line that asks something is not bad
pub asks_something : (line : List ℕ) (asked : Option Request) → (asked ≡ None → ⊥) → IsLineOf asked line → IsBad line → ⊥
asks_something line None some asks bad = some refl
asks_something line (Some request) some asks bad = bad request asks

line_of : (n : ℕ) → (line : List ℕ) × (length line ≡ n)
line_of n = (replicate n 0, length-replicate n 0)

-- a line that is too long
pub long_line : (line : List ℕ) × (40000 < length line)
long_line = let (line, long) = line_of 40001 in (line, omega (arith, long))

-- a line that asks something else than a backup asks for none
pub asks_other : AsksOnce → (request : Request) → (IsOfBackup request → ⊥) → (line : List ℕ) → IsLineOf (Some request) line → AsksBackup line → ⊥
asks_other once request none line asks backup = none (subst IsOfBackup (once line backup.0 request backup.2 asks) backup.1)

-- nor does one outside the grammar
pub bad_other : (line : List ℕ) → IsLineOf None line → AsksBackup line → ⊥
bad_other line none backup = none backup.0 backup.2

-- what ends a run while such a line is answered
module _ (old new backup backed : Disk) where
  cause_beside : (stop : Stop) → IsCaused stop old new → IsCausedBeside stop old new backup backed
  cause_beside DiskFault cause = cause
  cause_beside (Damaged file place) cause = cause
  cause_beside ReadFault cause = cause
  cause_beside SayFault cause = cause
  cause_beside BackupFault cause = absurd cause
  cause_beside Memory cause = cause
  cause_beside TooLong cause = cause

  pub caused_beside : {T : Type 0} (result : Result T Stop) → IfErr result (λ stop. IsCaused stop old new) → IfErr result (λ stop. IsCausedBeside stop old new backup backed)
  caused_beside (Ok value) cause = tt
  caused_beside (Err stop) cause = cause_beside stop cause
