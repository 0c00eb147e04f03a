-- What a call leaves that changes the objects and their file alone.
use Rattle.std.proofs.Common.{◌≡◌, ◌∙◌, ◌<◌, ◌⊎◌, ⊎_elim, inl, inr, ℕ, true, refl, sym, subst, ap}
use Rattle.std.specs.Prelude.{All}
use Rattle.disk_model.specs.Disk.{Any, Disk, Files, In, IsDisk, Runs, Same}
use Rattle.disk_model.specs.Moments.{runs_none, runs_twice, runs_wider}
use Rattle.disk_model.specs.declared.machine.FileNo.TheVariants.{Objects}
use Rattle.write_graph.specs.Graph.{lsns}
use Rattle.running_store.specs.Calls.Fetches.{IsFetch}
use Rattle.running_store.specs.Laid.{IsLaidOn}
use Rattle.running_store.specs.StoreView.{StoreView}

-- No file but that of the objects changes, and the log stays. Unless the disk failed, the objects are laid on their file if they
-- were.
pub record IsOnObjects (old new : Disk) (before after : StoreView) : Type 0 where
  pub runs : Runs (In Objects Any) Same old new
  pub log : after.parts.log ≡ before.parts.log
  pub laid : (after.broken ≡ true) ⊎ (old.tells_files → IsLaidOn before.parts.volatile.objects (old.reads Objects) → IsLaidOn after.parts.volatile.objects (new.reads Objects))

-- The same, and each entry of the graph was there before.
pub record IsOnObjectsAlone (old new : Disk) (before after : StoreView) : Type 0 where
  pub objects : IsOnObjects old new before after
  pub entries : (k : ℕ) → All (λ n. n < k) (lsns before.parts.volatile.entries) → All (λ n. n < k) (lsns after.parts.volatile.entries)

-- nothing is done
pub objects_none : (d : Disk) (it : StoreView) → IsDisk d → IsOnObjects d d it it
objects_none d it lawful = record {
  runs = runs_none d (In Objects Any) (λ files. record { changed = tt; others = λ other ne. refl }) lawful;
  log = refl;
  laid = inr (λ told is. is);
}

-- a call that does not fail with the disk, and another after it
pub objects_twice : (old mid new : Disk) (before here after : StoreView) → (here.broken ≡ true → ⊥) → IsOnObjects old mid before here → IsOnObjects mid new here after → IsOnObjects old new before after
objects_twice old mid new before here after fine first second = record {
  runs = runs_twice old mid new (In Objects Any) (λ a b c one two. record { changed = tt; others = λ other ne. two.others other ne ∙ one.others other ne }) first.runs second.runs;
  log = second.log ∙ first.log;
  laid = ⊎_elim (λ failed. absurd (fine failed)) (λ one. ⊎_elim (λ failed. inl failed) (λ two. inr (λ told is. two (first.runs.time.files_told.0 told) (one told is))) second.laid) first.laid;
}

-- slots are read
pub objects_fetch : (old new : Disk) (before after : StoreView) (failed : Type 0) → IsFetch old new before after failed → IsOnObjects old new before after
objects_fetch old new before after failed is = record {
  runs = runs_wider old new Same (In Objects Any) (λ a b same. record { changed = tt; others = λ other ne. ap (λ (f : Files). f other) same }) is.read.stays;
  log = is.log;
  laid = inr (λ told laid. subst (λ (f : Files). IsLaidOn after.parts.volatile.objects (f Objects)) (sym (is.read.stays.reads told)) (is.read.cells told laid).1);
}

pub beside_none : (d : Disk) (it : StoreView) → IsDisk d → IsOnObjectsAlone d d it it
beside_none d it lawful = record { objects = objects_none d it lawful; entries = λ k all. all }

pub beside_twice : (old mid new : Disk) (before here after : StoreView) → (here.broken ≡ true → ⊥) → IsOnObjectsAlone old mid before here → IsOnObjectsAlone mid new here after → IsOnObjectsAlone old new before after
beside_twice old mid new before here after fine first second = record {
  objects = objects_twice old mid new before here after fine first.objects second.objects;
  entries = λ k all. second.entries k (first.entries k all);
}
