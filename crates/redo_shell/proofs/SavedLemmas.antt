-- What is saved lasts.
use Rattle.std.proofs.Common.{ℕ, List}
use Rattle.disk_model.specs.Disk.{Files, Disk, IsDisk}
use Rattle.formats.specs.declared.params.Params.{Params}
use Rattle.op_codec.specs.AllOps.{all_meaning}
use Rattle.store_engine.specs.ImageLaws.{stands_begins}
use Rattle.shell_base.specs.Store.{Command, Stands}
use Rattle.redo_shell.specs.Beside.{BackupCalls, none_yet, one_more}

-- A store that is there stays as it is over several calls.
module _ {T : Type 0} (disk : T → Disk) (lawful : (t : T) → IsDisk (disk t)) (p : Params) (commands : List Command) (first : T) (told : (disk first).tells_moments) (here : (files : Files) (said : List ℕ) → (disk first).left_since (disk first).clock files said → Stands p files commands) where
  pub lasts : {last : T} → BackupCalls disk first last → (disk last).tells_moments × ((files : Files) (said : List ℕ) → (disk last).left_since (disk last).clock files said → Stands p files commands)
  lasts none_yet = (told, here)
  lasts (one_more old new next said before keeps follows) =
      let (told_old, each_old) = lasts before in
      let read = each_old (disk old).reads (disk old).said ((lawful old).as_read told_old) in
      let kept = keeps (stands_begins all_meaning read) in
      let told_next = follows.told told_old in (
        told_next,
        λ files s left. each_old files said ((kept.1 told_old).each files said (follows.within told_next files s left)),
      )
