-- What a fetch leaves to the call after it, and a call that is done to a refusal after it.
use Rattle.std.proofs.Common.{◌≡◌, ◌∙◌, sym, subst, ap, ℕ, ◌+◌, Bool, true, false, List, [], refl, arith}
use Rattle.std.specs.Prelude.{◌↔◌}
use Rattle.disk_model.specs.Disk.{Disk, Files, Stays}
use Rattle.disk_model.specs.Moments.{first_call}
use Rattle.disk_model.specs.Silent.{IsSilent}
use Rattle.disk_model.specs.declared.machine.FileNo.TheVariants.{Objects}
use Rattle.oper_core.specs.Meaning.{Meaning}
use Rattle.oper_core.specs.declared.bounds.Bounds.{Bounds}
use Rattle.formats.specs.declared.params.Params.{Params}
use Rattle.log_blocks.specs.LogView.{used_of}
use Rattle.log_records.specs.RecordLog.{RecordLogView}
use Rattle.explain_core.specs.TurnLaws.{run_none}
use Rattle.explain_core.specs.World.{World, Step}
use Rattle.standing.specs.Moments.{TakesSome, moments_none, moments_twice}
use Rattle.standing.specs.Standing.{FilesShow}
use Rattle.running_store.specs.Calls.{IsCall, Never, call_as, call_twice}
use Rattle.running_store.specs.Calls.Commands.{IsLeft}
use Rattle.running_store.specs.Courses.{Course, Stop}
use Rattle.running_store.specs.Laid.Fetched.{fetched-twice}
use Rattle.running_store.specs.Calls.Fetches.{IsFetch, fetch_call}
use Rattle.running_store.specs.Steps.Forced.{files_shown}
use Rattle.running_store.specs.Laid.Laws.{cells_twice}
use Rattle.running_store.specs.Parts.{Parts, Shows, meaning_in, parts}
use Rattle.running_store.specs.Parts.Reads.{read_shows, untaken_cells, untaken_fetched}
use Rattle.running_store.specs.StoreView.{StoreView}
use Rattle.running_store.specs.Taking.{Ending, Follows, Takes}
use Rattle.running_store.specs.Taking.Ending.{Done, Stopped}

-- what reads slots alone leaves each image as it was
pub read_moments : {O : Type 0} (m : Meaning O) (p : Params) (old new : Disk) (it : Parts) (w : World O) (steps : List (Step O)) → Shows m p old it w → Stays old new → old.tells_moments
    → TakesSome m p old new w steps
read_moments m p old new it w steps shows stays told =
    let here : FilesShow m p old.reads w = files_shown m p old it w shows in
    moments_none m p old new w steps (first_call old new (IsSilent (λ files. FilesShow m p files w) old.said) told stays.time
    (λ files said left.
    let from = stays.crash told files said left in
    let same : from.0.0 ≡ old.reads = λ i file. shows.log.keeps.settled file told from.0.0 old.said from.0.1 i in
    record { silent = from.1; holds = subst (λ (f : Files). FilesShow m p f w) (sym (from.0.2 ∙ same)) here }))

module _ (old mid : Disk) (before here : StoreView) (failed : Type 0) (is : IsFetch old mid before here failed) where
  -- parts and files show the world that they showed
  pub fetch_shows : {O : Type 0} (m : Meaning O) (p : Params) (w : World O) → Shows m p old before.parts w → Shows m p mid here.parts w
  fetch_shows m p w shows =
      let same : parts before.parts.log here.parts.volatile.objects before.parts.volatile.entries ≡ here.parts = λ i. parts (sym is.log i) here.parts.volatile.objects (sym is.entries i) in
      subst (λ (it : Parts). Shows m p mid it w) same (read_shows m p old mid before.parts here.parts.volatile.objects w is.read shows)

  -- the next call takes its course
  pub fetch_takes : {O : Type 0} (meaning : Bounds → Meaning O) (new : Disk) (after : Parts) (course : Meaning O → World O → ℕ → Course O) (ending : Ending)
      → Takes meaning mid new here.parts after course ending → Takes meaning old new before.parts after course ending
  fetch_takes {O} meaning new after course ending takes =
      let used : used_of here.parts.log.log ≡ used_of before.parts.log.log = ap (λ (l : RecordLogView). used_of l.log) is.log in
      record {
        follows = λ p w shows.
            let m = meaning_in meaning p in
            subst (λ (k : ℕ). Follows m p new after w (course m w k) ending) used (takes.follows p w (fetch_shows m p w shows));
        steps = λ told p w shows.
            let m = meaning_in meaning p in
            let steps = (course m w (used_of before.parts.log.log)).steps in
            let more = takes.steps (is.read.stays.time.moments_told.0 told) p w (fetch_shows m p w shows) in
            moments_twice m p old mid new w [] steps (is.read.stays.said shows.told) (read_moments m p old mid before.parts w [] shows is.read.stays told)
            (subst (λ (v : World O). TakesSome m p mid new v steps) (sym (run_none m w)) (subst (λ (k : ℕ). TakesSome m p mid new w (course m w k).steps) used more));
      }

-- a call after a fetch that is done
pub fetch_then : {O : Type 0} (old mid : Disk) (before here : StoreView) → IsFetch old mid before here ⊥ → (meaning : Bounds → Meaning O) (new : Disk) (after : StoreView) (n : ℕ) (stops : RecordLogView → Stop → Type 0) (ending : Ending)
    → IsCall meaning mid new here after n stops ending → IsCall meaning old new before after n stops ending
fetch_then old mid before here is meaning new after n stops ending later =
    call_as meaning old new before after (0 + n) n stops stops ending (omega arith) (λ stop ends so. so)
    (call_twice meaning old mid new before here after 0 n Never stops ending (fetch_call meaning old mid before here ⊥ Never Done is (λ failed. failed, λ failed. failed) (λ stop ends. cc) (λ failed. absurd failed)) later)

-- which leaves the store unbroken
pub fetch_unbroken : (old mid : Disk) (before here : StoreView) → IsFetch old mid before here ⊥ → here.broken ≡ false
fetch_unbroken old mid before here is = by_flag here.broken is.broken.0
  where
    by_flag : (b : Bool) → (b ≡ true → ⊥) → b ≡ false
    by_flag true none = absurd (none refl)
    by_flag false none = refl

-- a fetch that says of its failure what is the same
pub fetch_as : (old new : Disk) (before after : StoreView) (failed fails : Type 0) → failed ↔ fails → IsFetch old new before after failed → IsFetch old new before after fails
fetch_as old new before after failed fails same is = record {
  read = is.read;
  log = is.log;
  entries = is.entries;
  identities = is.identities;
  broken = (λ broken. same.0 (is.broken.0 broken), λ failing. is.broken.1 (same.1 failing));
}

-- a call that is done, before a refusal
pub call_stopped : {O : Type 0} (meaning : Bounds → Meaning O) (old new : Disk) (before after : StoreView) (n : ℕ) (stops : RecordLogView → Stop → Type 0) (stop : Stop)
    → stops after.parts.log stop → IsCall meaning old new before after n Never Done → IsCall meaning old new before after n stops (Stopped stop)
call_stopped meaning old new before after n stops stop so is = record {
  quiet = is.quiet;
  layout = is.layout;
  rising = is.rising;
  identities = is.identities;
  settled = is.settled;
  kept = is.kept;
  attached = is.attached;
  stopped = λ other ends. subst (λ (s : Stop). stops after.parts.log s) (cc ends) so;
  broken = is.broken;
  fault = is.fault;
}

-- a fetch, and then a look at what is cached, which changes nothing
pub fetch_left : (old new : Disk) (before mid after : StoreView) (failed : Type 0) → IsFetch old new before mid failed → IsLeft mid after → after.parts.log ≡ mid.parts.log → IsFetch old new before after failed
fetch_left old new before mid after failed is left log = record {
  read = record {
    stays = is.read.stays;
    fetched = fetched-twice before.parts.volatile.objects mid.parts.volatile.objects after.parts.volatile.objects is.read.fetched (untaken_fetched mid.parts after.parts left.untaken);
    cells = λ told laid.
        let file = old.reads Objects in
        let read = is.read.cells told laid in (
          cells_twice file before.parts.volatile.objects mid.parts.volatile.objects after.parts.volatile.objects is.read.fetched.slots read.0 (untaken_cells mid.parts after.parts left.untaken file),
          left.untaken.laid file read.1,
        );
  };
  log = log ∙ is.log;
  entries = left.untaken.entries ∙ is.entries;
  identities = left.counted ∙ is.identities;
  broken = (λ broken. is.broken.0 (sym left.flag ∙ broken), λ failing. left.flag ∙ is.broken.1 failing);
}
