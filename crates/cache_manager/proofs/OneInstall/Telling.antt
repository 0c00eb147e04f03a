-- What an install tells of the steps that it took.
use Rattle.std.proofs.Common.{◌≡◌, ◌∙◌, sym, ap, ℕ, ◌+◌, ◌≤◌, List, [], ◌∷◌, length, refl, arith, Option}
use Rattle.std.specs.List.Sorted.{IsStrictlyIncreasing}
use Rattle.disk_model.specs.Disk.{Disk}
use Rattle.oper_core.specs.Meaning.{Meaning}
use Rattle.oper_core.specs.State.{is_among}
use Rattle.oper_core.specs.declared.bounds.Bounds.{Bounds}
use Rattle.formats.specs.declared.params.Params.{Params}
use Rattle.log_blocks.specs.LogView.{used_of}
use Rattle.install_order.specs.declared.entry.Entry.{Entry}
use Rattle.write_graph.specs.Graph.{lsns}
use Rattle.explain_core.specs.World.{World, Step}
use Rattle.cache_manager.specs.InstallCourses.{flushed_in, install_course}
use Rattle.running_store.specs.Kept.{IsLonger}
use Rattle.running_store.specs.Parts.{Parts, Shows, meaning_in}
use Rattle.running_store.specs.Taking.{Takes}
use Rattle.running_store.specs.Taking.Ending.{Done}
use Rattle.cache_manager.specs.Told.{IsInstall, TellsParts, listed}
use Rattle.cache_manager.specs.Upkeep.{upkeep_install}
use Rattle.cache_manager.specs.declared.install.Install.TheVariants.{Installed, Clean}
use Rattle.cache_manager.proofs.Balance.{told_counts}

pub no_items : {X : Type 0} (xs : List X) → length xs ≤ 0 → xs ≡ []
no_items [] none = refl
no_items (x ∷ xs) none = absurd (omega (arith, none))

-- a node was installed
pub told_done : {O : Type 0} (meaning : Bounds → Meaning O) (copied : ℕ) (old new : Disk) (before after : Parts) → Takes meaning old new before after (λ m w used. install_course m copied w used) Done
    → IsStrictlyIncreasing (lsns before.volatile.entries) → IsStrictlyIncreasing (lsns after.volatile.entries) → (ops : ℕ) (flushed : Option ℕ) (identities : ℕ)
    → after.log.next ≡ before.log.next + identities → length after.volatile.entries + ops ≡ length before.volatile.entries + identities
    → (p : Params) (w : World O) → Shows (meaning_in meaning p) p old before w → flushed_in (install_course (meaning_in meaning p) copied w (used_of before.log.log)).steps ≡ listed flushed
    → IsInstall (meaning_in meaning p) w (install_course (meaning_in meaning p) copied w (used_of before.log.log)).steps (Installed ops flushed identities)
told_done meaning copied old new before after takes first last ops flushed identities next entries p w shows is =
    let m = meaning_in meaning p in
    let whole = install_course m copied w (used_of before.log.log) in
    let counts = told_counts m p old new before after w whole.steps shows (takes.follows p w shows).1.shows (upkeep_install m copied w (used_of before.log.log)) first last ops identities next entries in
    (counts.0, is, counts.1)

-- there was nothing to install
module _ (before after : Parts) (n : ℕ) (longer : IsLonger n before after) (none : after.volatile.entries ≡ []) where
  none_before : before.volatile.entries ≡ []
  none_before = let empty = ap (λ (es : List Entry). length es) none in no_items before.volatile.entries (omega (arith, empty, longer.entries))

  pub told_none : {O : Type 0} (m : Meaning O) (p : Params) (d : Disk) (w : World O) (steps : List (Step O)) → Shows m p d before w → IsInstall m w steps Clean
  told_none m p d w steps shows = λ n. sym (shows.store.members n) ∙ ap (λ (es : List Entry). is_among n (lsns es)) none_before

  pub tells_none : TellsParts before after Clean
  tells_none =
      let empty = ap (λ (es : List Entry). length es) none in
      record {
        clean = (λ e. none_before, λ e. refl);
        some = λ no. absurd (no refl);
        with_lsn = omega (arith, empty, longer.entries, longer.next);
        entries = omega (arith, empty, longer.entries);
      }
