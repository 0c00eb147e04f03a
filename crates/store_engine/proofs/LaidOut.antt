-- What the laying out of a store leaves at each moment.
use Rattle.std.proofs.Common.{◌≡◌, inl, inr, ℕ, List, [], sym, ◌∙◌, ap, subst}
use Rattle.disk_model.specs.Disk.{Files, Disk, Passes, Runs, Stays, Same, In, Any, Torn, IsSettled, LeavesOnly}
use Rattle.disk_model.specs.Moments.{first_call, goes_on, runs_on, weaker, from_reads, stays_settled, passes_twice}
use Rattle.disk_model.specs.declared.machine.FileNo.TheVariants.{Objects}
use Rattle.formats.specs.Bytes.{IsClosedAt}
use Rattle.formats.specs.Log.{new_header}
use Rattle.formats.specs.Objects.{BeginsStore}
use Rattle.oper_core.specs.Meaning.{Meaning}
use Rattle.oper_core.specs.declared.bounds.Bounds.{Bounds}
use Rattle.formats.specs.declared.params.Params.{Params}
use Rattle.log_blocks.specs.Creating.{LogsAlone, IsNewLog}
use Rattle.log_blocks.specs.Laws.{log_stays}
use Rattle.stable_objects.specs.GateLaws.{closed_begins, torn_begins}
use Rattle.stable_objects.specs.Making.{IsClosedFile, IsNewFile, IsClosedOrWhole}
use Rattle.store_engine.specs.Engine.{InEachImage, IsNew, IsNewStore}
use Rattle.restart.specs.Starts.{OrAtStart, then_leaves}
use Rattle.store_engine.specs.Store.{Stands}

-- the calls in a row
pub in_a_row : (old first second third : Disk) → Stays old first → Runs (In Objects (Torn 0 1)) Same first second → Runs LogsAlone Same second third → Passes old third
in_a_row old first second third kept run logs =
    passes_twice old second third logs.ends (passes_twice old first second run.ends kept.time run.time) logs.time

-- where nothing changes, no store begins that did not begin before
pub none_still : (old mid : Disk) → Stays old mid → old.tells_moments → (BeginsStore (old.reads Objects) → ⊥) → BeginsStore (mid.reads Objects) → ⊥
none_still old mid kept told none begins = none (subst (λ (f : Files). BeginsStore (f Objects)) (kept.reads (kept.begins.telling told)) begins)

-- the files of a new store stand for no commands
abbrev pub NewStand : {O : Type 0} → (Bounds → Meaning O) → Params → Type 0
NewStand meaning p = (files : Files) → IsNewFile p (files Objects) → IsNewLog files → Stands meaning p files []

module _ {O : Type 0} (meaning : Bounds → Meaning O) (p : Params) (stands_new : NewStand meaning p) where
  -- so far no store is there, or one without commands
  abbrev pub NewSoFar : Disk → Files → List ℕ → Type 0
  NewSoFar old files said = IsNew meaning p files × (said ≡ old.said)

  -- after a call that changes no image
  pub behind : (old mid new : Disk) → Stays old mid → old.tells_moments → LeavesOnly mid new (NewSoFar mid) → LeavesOnly old new (OrAtStart old (NewSoFar old))
  behind old mid new kept told leaves = then_leaves old mid new (NewSoFar old) kept told
      (weaker mid new (NewSoFar mid) (NewSoFar old) leaves (λ files said is. (is.0, is.1 ∙ kept.said (kept.begins.telling told))))

  module _ (old first : Disk) (told : old.tells_moments) (settled : IsSettled old) (none : BeginsStore (old.reads Objects) → ⊥) (kept : Stays old first) where
    looked : LeavesOnly old first (NewSoFar old)
    looked = first_call old first (NewSoFar old) told kept.time (λ files said left.
        let from = from_reads old first Same Same told settled kept.crash files said left in
        (inl (λ begins. none (subst (λ (f : Files). BeginsStore (f Objects)) from.0 begins)), from.1))

    tells : old.tells_files
    tells = kept.begins.telling told

    settled_first : IsSettled first
    settled_first file = stays_settled old first file kept (settled file)

    -- while the gate is closed
    pub closing : (second : Disk) → Runs (In Objects (Torn 0 1)) Same first second → (first.tells_files → IsClosedFile (first.reads Objects) → Stays first second) → LeavesOnly old second (NewSoFar old)
    closing second run idle =
        let told_first = kept.time.moments_told.0 told in
        let none_first = λ (begins : BeginsStore (first.reads Objects)). none (subst (λ (f : Files). BeginsStore (f Objects)) (kept.reads tells) begins) in
        goes_on old first second (NewSoFar old) told_first looked run.time (λ files said left.
        let from = from_reads first second (In Objects (Torn 0 1)) Same told_first settled_first run.crash files said left in
        let same = λ (closed : IsClosedFile (first.reads Objects)).
        ap (λ (f : Files). f Objects) (from_reads first second Same Same told_first settled_first (idle (kept.time.files_told.0 tells) closed).crash files said left).0 in
        (inl (torn_begins (first.reads Objects) (files Objects) none_first same from.0.changed), from.1 ∙ kept.said tells))

    module _ (second third : Disk) (run : Runs (In Objects (Torn 0 1)) Same first second) (idle : first.tells_files → IsClosedFile (first.reads Objects) → Stays first second)
        (settles : IsSettled first → IsSettled second) (closes : first.tells_files → IsClosedFile (second.reads Objects)) (logs : Runs LogsAlone Same second third) where
      tells_second : second.tells_files
      tells_second = run.time.files_told.0 (kept.time.files_told.0 tells)

      told_second : second.tells_moments
      told_second = run.time.moments_told.0 (kept.time.moments_told.0 told)

      closed : IsClosedFile (second.reads Objects)
      closed = closes (kept.time.files_told.0 tells)

      said_second : second.said ≡ old.said
      said_second = run.said (kept.time.files_told.0 tells) ∙ kept.said tells

      -- while the logs are made
      pub logging : LeavesOnly old third (NewSoFar old)
      logging = goes_on old second third (NewSoFar old) told_second (closing second run idle) logs.time (λ files said left.
          let from = from_reads second third LogsAlone Same told_second (settles settled_first) logs.crash files said left in
          let same : files Objects ≡ second.reads Objects = from.0 in
          (inl (closed_begins (files Objects) (subst (λ (l : List ℕ). IsClosedAt 0 l) (sym same) closed.closed)), from.1 ∙ said_second))

      new_or_none : (files : Files) (said : List ℕ) → IsClosedOrWhole third p files said → IsNewLog third.reads → NewSoFar old files said
      new_or_none files said is log =
          let silent : said ≡ old.said = is.silent ∙ logs.said tells_second ∙ said_second in elim is.objects [
            | inl closed ↦ (inl (closed_begins (files Objects) closed), silent)
            | inr whole ↦ (
              inr (stands_new files whole (log_stays _ new_header [] Any third.reads files (record { changed = tt; others = is.others }) log)),
              silent,
            )
          ]

      -- while the objects are made
      pub laying_out : (fourth : Disk) → (second.tells_files → IsNewLog third.reads) → (IsSettled second → IsSettled third)
          → (third.tells_moments → IsSettled third → IsClosedFile (third.reads Objects) → LeavesOnly third fourth (IsClosedOrWhole third p)) → LeavesOnly old fourth (NewSoFar old)
      laying_out fourth made settles_third leaves =
          let same : third.reads Objects ≡ second.reads Objects = logs.reads tells_second in
          let closed_third = subst (λ (l : List ℕ). IsClosedFile l) (sym same) closed in
          runs_on old third fourth (NewSoFar old) logging
          (weaker third fourth (IsClosedOrWhole third p) (NewSoFar old) (leaves (logs.time.moments_told.0 told_second) (settles_third (settles settled_first)) closed_third)
          (λ files said is. new_or_none files said is (made tells_second)))

  -- a store that is laid out is there after each crash
  pub laid_out : (third fourth : Disk) → third.tells_files → IsSettled fourth → Runs (In Objects Any) Same third fourth → IsNewFile p (fourth.reads Objects)
      → IsNewLog third.reads → InEachImage fourth (IsNewStore meaning p)
  laid_out third fourth told_third settled run objects log =
      let new_log = log_stays _ new_header [] Any third.reads fourth.reads (run.reads told_third) log in
      let here : IsNewStore meaning p fourth.reads = record { objects = objects; log = new_log; stands = stands_new fourth.reads objects new_log } in
      let image_is : fourth.tells_moments → (files : Files) (said : List ℕ) → fourth.left_since fourth.clock files said → files ≡ fourth.reads = λ told files said left i file. settled file told files said left i in
      (here, λ told files said left. subst (λ (f : Files). IsNewStore meaning p f) (sym (image_is told files said left)) here)
