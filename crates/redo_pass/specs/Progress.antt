-- How far a redo has come.
use Rattle.std.specs.Prelude.{◌≡◌, ◌<◌, ⊤, ℕ, false, List, All}
use Rattle.disk_model.specs.Disk.{Files}
use Rattle.disk_model.specs.declared.machine.FileNo.TheVariants.{Objects}
use Rattle.oper_core.specs.Meaning.{Meaning}
use Rattle.formats.specs.declared.params.Params.{Params}
use Rattle.formats.specs.declared.record.Record.{Record}
use Rattle.formats.specs.declared.record.Record.TheVariants.{Command, Identity, Checkpoint}
use Rattle.write_graph.specs.Graph.{lsns}
use Rattle.explain_core.specs.Turns.{must_install, turns}
use Rattle.explain_core.specs.World.{World, run}
use Rattle.explain_core.specs.declared.marks.Marks.{Marks}
use Rattle.standing.specs.Standing.{FilesShow}
use Rattle.running_store.specs.Parts.{Volatile, ShowsVolatile}
use Rattle.running_store.specs.StoreView.{StoreView, next_of}
use Rattle.redo_pass.specs.Rising.{AreMembers}

-- so many turns of the redo of this world were taken: files and store show the world after them
pub record HasTurned {O : Type 0} (m : Meaning O) (p : Params) (files : Files) (it : Volatile) (marks : Marks) (w : World O) (turned : ℕ) : Type 0 where
  pub files_show : FilesShow m p files (run m w (turns m marks turned w))
  pub store_shows : ShowsVolatile m p (files Objects) it (run m w (turns m marks turned w))

-- some turns were taken, nothing is to be installed now, and these records are left
pub record SoFar {O : Type 0} (m : Meaning O) (p : Params) (files : Files) (it : Volatile) (marks : Marks) (w : World O) (rest : List (Record O)) : Type 0 where
  pub turned : ℕ
  pub shown : HasTurned m p files it marks w turned
  pub enough : must_install m marks (run m w (turns m marks turned w)) ≡ false
  pub members : AreMembers w.history (run m w (turns m marks turned w)).next rest

-- some turns were taken, and nothing was replayed in them
pub record IsLimiting {O : Type 0} (m : Meaning O) (p : Params) (files : Files) (it : Volatile) (marks : Marks) (w : World O) : Type 0 where
  pub turned : ℕ
  pub shown : HasTurned m p files it marks w turned
  pub next : (run m w (turns m marks turned w)).next ≡ w.next

-- the same, and nothing is to be installed now
pub record IsLimited {O : Type 0} (m : Meaning O) (p : Params) (files : Files) (it : Volatile) (marks : Marks) (w : World O) : Type 0 where
  pub limiting : IsLimiting m p files it marks w
  pub enough : must_install m marks (run m w (turns m marks limiting.turned w)) ≡ false

-- the record's LSN is one of the store's, and above those of the entries; a checkpoint has none
abbrev pub IsAbove : {O : Type 0} → StoreView → Record O → Type 0
IsAbove it (Command lsn op) = All (λ n. n < lsn) (lsns it.parts.volatile.entries) × (lsn < next_of it)
IsAbove it (Identity lsn x value) = All (λ n. n < lsn) (lsns it.parts.volatile.entries) × (lsn < next_of it)
IsAbove it (Checkpoint table) = ⊤
