-- The pair that an object's slots hold may be put into the target.
use Rattle.std.proofs.Common.{◌≡◌, ◌∙◌, inl, inr, ◌<◌, ℕ, List, sym, subst, arith}
use Rattle.std.proofs.lemmas.Bool.{cases_eq}
use Rattle.disk_model.specs.Disk.{Disk}
use Rattle.disk_model.specs.declared.machine.FileNo.TheVariants.{Objects}
use Rattle.oper_core.specs.Cell.{Cell}
use Rattle.oper_core.specs.Meaning.{Meaning}
use Rattle.oper_core.specs.declared.bounds.Bounds.{Bounds}
use Rattle.formats.specs.Bytes.{byte_at}
use Rattle.formats.specs.Objects.{IsObjectsFile, cell_of, holder, place_in}
use Rattle.formats.specs.declared.params.Params.{Params}
use Rattle.explain_core.specs.World.{World}
use Rattle.stable_objects.specs.SlotLaws.{closed_tells, closed_value, holder_below, open_tells}
use Rattle.running_store.specs.Parts.Joins.{stored_here}
use Rattle.store_engine.specs.Engine.{EngineView, ShowsIn}
use Rattle.backup_copy.specs.Target.{MayPut}
use Rattle.backup_copy.proofs.Shown.{objects_shown}

cell_may : (p : Params) (file : List ℕ) (x : ℕ) → IsObjectsFile p file → x < p.objects → MayPut (cell_of x file).lsn (cell_of x file).value
cell_may p file x is below =
    let place = place_in file x (holder x file) in
    elim (cases_eq (byte_at place file) 1) [
      | inl is_open ↦
          let slot = is.slots.each x (holder x file) below (holder_below x file) is_open in
          let lsn = open_tells place file is_open in
          (omega (arith, slot.is_lsn, lsn), λ none. absurd (omega (arith, slot.some, lsn, none)))
      | inr closed ↦ (omega (arith, closed_tells place file closed), λ none. closed_value place file closed)
    ]

module _ {O : Type 0} (meaning : Bounds → Meaning O) (p : Params) (d : Disk) (engine : EngineView) (w : World O) (shows : ShowsIn meaning p d engine w) where
  pub shown_may : (x lsn : ℕ) (value : List ℕ) → x < p.objects → w.slots x ≡ record { lsn = lsn; value = value } → MayPut lsn value
  shown_may x lsn value below pair =
      let file = d.reads Objects in
      let here : cell_of x file ≡ record { lsn = lsn; value = value } = sym (stored_here p file x below) ∙ shows.shows.store.slots x ∙ pair in
      subst (λ (c : Cell). MayPut c.lsn c.value) here (cell_may p file x (objects_shown meaning p d engine w shows) below)
