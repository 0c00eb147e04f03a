-- The objects gate of the target is opened.
use Rattle.std.proofs.Common.{◌≡◌, ◌⊎◌, ◌∙◌, inl, inr, ⊎_elim, ℕ, List, [], ◌∷◌, sym, ap, subst, arith}
use Rattle.std.proofs.lemmas.Bool.{cases_eq}
use Rattle.disk_model.specs.Disk.{Files, Disk, Runs, Stays, Same, In, Torn, IsSettled, IsSettledIn, LeavesOnly}
use Rattle.disk_model.specs.Moments.{first_call, from_reads, goes_on, stays_settled}
use Rattle.disk_model.specs.declared.machine.FileNo.{FileNo}
use Rattle.disk_model.specs.declared.machine.FileNo.TheVariants.{Objects, LogA, LogB}
use Rattle.stable_objects.specs.Making.{IsClosedFile, opened}
use Rattle.store_engine.specs.Engine.{InEachImage}
use Rattle.backup_copy.specs.Target.{AreShut, IsShutOrOpened, open_files}

-- a write of the gate that is cut short leaves it closed, or opens it
torn_open : (old new : List ℕ) → IsClosedFile old → Torn 0 1 old new → IsClosedFile new ⊎ (new ≡ opened old)
torn_open [] new closed torn = let some = closed.some in absurd (omega (arith, some))
torn_open (gate ∷ rest) [] closed torn = let long = torn.no_shorter in absurd (omega (arith, long))
torn_open (gate ∷ rest) (gate' ∷ rest') closed torn = elim (cases_eq gate' 1) [
  | inl is_open ↦ let same : rest' ≡ rest = torn.after in inr (λ i. is_open i ∷ same i)
  | inr shut ↦ inl (record { some = omega arith; closed = shut })
]

-- files that have the gate open, and all else as before
are_opened : (old new : Files) → new Objects ≡ opened (old Objects) → new LogA ≡ old LogA → new LogB ≡ old LogB → new ≡ open_files old
are_opened old new objects a b = λ i file. each file i
  where
    each : (file : FileNo) → new file ≡ open_files old file
    each Objects = objects
    each LogA = a
    each LogB = b

-- while it is synced it is closed
pub syncing : (old mid : Disk) → Stays old mid → old.tells_moments → InEachImage old AreShut → LeavesOnly old mid (IsShutOrOpened old)
syncing old mid kept told shut = first_call old mid (IsShutOrOpened old) told kept.time (λ files said left.
    let from = kept.crash told files said left in
    (inl (subst (λ (f : Files). AreShut f) (sym from.0.2) (shut.1 told from.0.0 old.said from.0.1)), from.1))

module _ (old mid : Disk) (kept : Stays old mid) (a : IsSettledIn LogA old) (b : IsSettledIn LogB old) (synced : IsSettledIn Objects mid) where
  pub settled_synced : IsSettled mid
  settled_synced Objects = synced
  settled_synced LogA = stays_settled old mid LogA kept a
  settled_synced LogB = stays_settled old mid LogB kept b

  -- at the end it is open in each image
  pub all_opened : (new : Disk) → old.tells_files → Runs (In Objects (Torn 0 1)) Same mid new → new.reads Objects ≡ opened (mid.reads Objects) → IsSettled new → InEachImage new (λ files. files ≡ open_files old.reads)
  all_opened new told run objects settled =
      let step = run.reads (kept.time.files_told.0 told) in
      let now : new.reads ≡ open_files old.reads =
      are_opened mid.reads new.reads objects (step.others LogA (λ e. cc)) (step.others LogB (λ e. cc)) ∙ ap open_files (kept.reads told) in
      (now, λ moments files said left. (λ i file. settled file moments files said left i) ∙ now)

  -- and while it is opened closed, or open
  pub opening : (new : Disk) → old.tells_moments → InEachImage old AreShut → Runs (In Objects (Torn 0 1)) Same mid new → LeavesOnly old new (IsShutOrOpened old)
  opening new told shut run =
      let files_told = kept.begins.telling told in
      let told_mid = kept.time.moments_told.0 told in
      let same : mid.reads ≡ old.reads = kept.reads files_told in
      goes_on old mid new (IsShutOrOpened old) told_mid (syncing old mid kept told shut) run.time (λ files said left.
      let from = from_reads mid new (In Objects (Torn 0 1)) Same told_mid settled_synced run.crash files said left in (
        ⊎_elim (λ closed. inl closed) (λ is_open. inr (are_opened mid.reads files is_open (from.0.others LogA (λ e. cc)) (from.0.others LogB (λ e. cc)) ∙ ap open_files same))
            (torn_open (mid.reads Objects) (files Objects) (subst (λ (f : Files). AreShut f) (sym same) shut.0) from.0.changed),
        from.1 ∙ kept.said files_told,
      ))
