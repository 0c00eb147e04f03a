-- A store that is made larger.
use Rattle.std.proofs.Common.{◌≡◌, ◌≢◌, ◌⊎◌, ◌+◌, ◌∙◌, inl, inr, ⊎_elim, List, ℕ, length, take, refl, ap, sym, subst, arith, None}
use Rattle.std.specs.Prelude.{⊤, Result, Err, IsErrOf}
use Rattle.std.proofs.Math.Path.{fun_ext}
use Rattle.std.proofs.lemmas.List.{take_all}
use Rattle.disk_model.specs.Disk.{Files, Disk, IsDisk, Passes, LeavesOnly, IsSettled, Runs, Same, SaysFront, Stays}
use Rattle.disk_model.specs.Moments.{first_call, runs_on, weaker}
use Rattle.disk_model.specs.Silent.{IsSilent}
use Rattle.disk_model.specs.declared.machine.FileNo.{FileNo}
use Rattle.disk_model.specs.declared.machine.FileNo.TheVariants.{Objects}
use Rattle.formats.specs.Objects.{IsObjectsFile, last_slot}
use Rattle.formats.specs.declared.layout.Layout.{Layout}
use Rattle.formats.specs.declared.params.Params.{Params}
use Rattle.restart.specs.Starts.{OrAtStart, or_weaker, from_settled}
use Rattle.restart.specs.Opening.{KeepsLayout}
use Rattle.restart.specs.WellFormed.{opens_gate}
use Rattle.op_codec.specs.AllOps.{all_meaning}
use Rattle.stable_objects.specs.Upgrades.Growing.{IsGrown, IsGrowing, IsStillOrGrown}
use Rattle.stable_objects.specs.Upgrades.Larger.{IsLarger}
use Rattle.stable_objects.specs.SlotsView.{SlotsView}
use Rattle.running_store.specs.Steps.Forced.{files_shown}
use Rattle.standing.specs.Standing.{FilesShow}
use Rattle.store_engine.specs.Engine.{EngineView, InEachImage, forced_in, params_of}
use Rattle.store_engine.specs.Grouping.{ungrouped}
use Rattle.store_engine.specs.Upgrading.{IsUncut, IsUpgrading, MayGrow, WhereIdle}
use Rattle.store_engine.specs.declared.upgrade_err.UpgradeErr.{UpgradeErr}
use Rattle.store_engine.specs.declared.upgrade_err.UpgradeErr.TheVariants.{AlreadyTwo as Already_two}
use Rattle.shell_base.specs.Judging.{JudgesFiles}
use Rattle.shell_base.specs.Notices.{damaged}
use Rattle.shell_base.specs.First.{OpeningMoment, Stage, IsFirst}
use Rattle.shell_base.specs.Open.{IsOpen, OpensFiles}
use Rattle.shell_base.specs.Status.{IsOfSecond, IsOfUnopened, IsOfUpgrade, IsOfOpened}
use Rattle.shell_base.specs.Store.{Command, Between, Holds, IsAttached, IsUpgraded, IsWellFormed, Opens, Stands, StandsInEither, meaning_in}
use Rattle.shell_base.specs.declared.budget.Budget.{Budget}
use Rattle.shell_base.specs.declared.status.Status.{Status}
use Rattle.shell_base.specs.declared.status.Status.TheVariants.{NotAStore, Damaged, DiskFault, SayFault, Memory, RestartMemory, AlreadyTwo, Smaller}
use Rattle.shell_base.specs.HoldLaws.{attached_of, each_stays, in_engine, told_by}
use Rattle.shell_base.specs.OpeningLaws.{opening_failed, start_refused}
use Rattle.store_words.specs.Cut.{Sometime, IsCutStore, SaysCut}
use Rattle.store_words.specs.Upgrading.{GrowthMoment, IsSilentUpgrade, IsUpgradeOn, IsWhyNot, KeepsPairs, LeavesEither, SaysWhyNot, ShowsOrGrows, UpgradeMoment}

-- what the files between two calls have a crash at some moment could leave
pub in_between : (P : Files → Type 0) (old mid new : Disk) → IsDisk mid → Passes old mid → Passes mid new → P mid.reads → old.tells_moments → Sometime old new P
in_between P old mid new lawful first second here told =
    let told_mid = first.moments_told.0 told in (
      mid.reads,
      mid.said,
      second.keeps told_mid old.clock mid.reads mid.said first.later (lawful.among old.clock mid.clock mid.reads mid.said first.later (omega arith) (lawful.as_read told_mid)),
      here,
    )

-- the numbers of an engine are those of its store
pub larger_in : {p q : Params} {d : Disk} {engine : EngineView} {commands : List Command} → Holds p d engine commands → IsLarger (params_of engine) q → IsLarger p q
larger_in {q = q} holds = subst (λ (r : Params). IsLarger r q) holds.shows.shows.store.params

pub larger_of : {p q : Params} {d : Disk} {engine : EngineView} {commands : List Command} → Holds p d engine commands → IsLarger p q → IsLarger (params_of engine) q
larger_of {q = q} holds = subst (λ (r : Params). IsLarger r q) (sym holds.shows.shows.store.params)

-- what is said behind changes nothing of the images
saying_steps : (P : Files → Type 0) {says : List ℕ → List ℕ → Type 0} (old mid new : Disk) → Passes old mid → LeavesOnly old mid (λ files said. P files) → Runs Same says mid new → old.tells_moments → LeavesOnly old new (λ files said. P files)
saying_steps P old mid new time first run told =
    let told_mid = time.moments_told.0 told in
    runs_on old mid new (λ files said. P files) first
    (first_call mid new (λ files said. P files) told_mid run.time (λ files said left.
    let from = run.crash told_mid files said left in
    subst P (sym from.0.2) (first.each from.0.0 mid.said (run.begins.among old.clock mid.clock from.0.0 mid.said time.later (omega arith) from.0.1))))

-- an upgrade of an open store that stands for commands, all of them forced
module _ {p q : Params} {old mid : Disk} {engine : EngineView} {commands : List Command} {answer : Result (Unit {0}) UpgradeErr} (it : IsUpgrading all_meaning old mid engine q answer) (holds : Holds p old engine commands) (all : forced_in engine ≡ length commands) where
  whole : take (forced_in engine) commands ≡ commands
  whole = take_all (forced_in engine) commands (omega (arith, all))

  told_mid : mid.tells_files
  told_mid = it.time.files_told.0 (told_by holds)

  shown_now : FilesShow (meaning_in p) p old.reads holds.world
  shown_now = files_shown (meaning_in p) p old engine.parts (ungrouped holds.world) holds.shows.shows

  abbrev slots : SlotsView
  slots = engine.parts.volatile.objects.slots

  numbers : slots.params ≡ p
  numbers = holds.shows.shows.store.params

  grows_pairs : (files : Files) → IsStillOrGrown slots q (old.reads Objects) (files Objects) → KeepsPairs p (old.reads Objects) (files Objects) ⊎ IsGrown p q (old.reads Objects) (files Objects)
  grows_pairs files (inl still) = inl (record {
    whole = subst (λ (r : Params). IsObjectsFile r (files Objects)) numbers still.are.whole;
    cells = λ x below. still.cells x (omega (arith, below, ap (λ (r : Params). r.objects) numbers));
  })
  grows_pairs files (inr grown) = inr (subst (λ (r : Params). IsGrown r q (old.reads Objects) (files Objects)) numbers grown)

  pub all_upgraded : InEachImage mid (IsUpgraded q (take (forced_in engine) commands)) → InEachImage mid (IsUpgraded q commands)
  all_upgraded = subst (λ (l : List Command). InEachImage mid (IsUpgraded q l)) whole

  -- what is done at each moment: nothing, or the store becomes the larger one
  pub nothing_done : {e : UpgradeErr} → answer ≡ Err e → (WhereIdle (Stays old mid) (Err e) → Stays old mid) → old.tells_moments → LeavesOnly old mid (λ files said. ShowsOrGrows p q holds.world files)
  nothing_done is idle told =
      let stays = idle (subst (λ (r : Result (Unit {0}) UpgradeErr). WhereIdle (Stays old mid) r) is it.idle) in
      first_call old mid (λ files said. ShowsOrGrows p q holds.world files) told stays.time (λ files said left.
      let from = stays.crash told files said left in
      let same : files ≡ old.reads = from.0.2 ∙ fun_ext (λ (n : FileNo). holds.shows.shows.log.keeps.settled n told from.0.0 old.said from.0.1) in
      inl (subst (λ (f : Files). FilesShow (meaning_in p) p f holds.world) (sym same) shown_now))

  pub it_grows : MayGrow engine q → (IsErrOf answer Already_two → ⊥) → old.tells_moments → LeavesOnly old mid (λ files said. ShowsOrGrows p q holds.world files)
  it_grows may not_two told = weaker old mid (IsGrowing old slots q) (λ files said. ShowsOrGrows p q holds.world files) (it.growing told p commands (in_engine holds)) (λ files said is. inr (record {
    there = old.reads;
    shows = shown_now;
    first = λ second. not_two ((it.version (told_by holds) (attached_of holds)).1 second);
    larger = larger_in holds may.larger;
    others = is.others;
    objects = grows_pairs files is.objects;
  }))

  -- nothing is said
  pub leaves_silent : (old.tells_moments → LeavesOnly old mid (λ files said. ShowsOrGrows p q holds.world files)) → LeavesEither p q commands holds.world old mid
  leaves_silent steps = record {
    images = λ telling. weaker old mid (IsSilent (StandsInEither p q (take (forced_in engine) commands)) old.said) (UpgradeMoment p q commands old.reads old.said) (it.images telling p commands (in_engine holds))
        (λ files said is. (subst (λ (l : List Command). StandsInEither p q l files) whole is.holds, inl is.silent));
    stands = subst (λ (l : List Command). InEachImage mid (StandsInEither p q l)) whole (it.stands p commands (in_engine holds));
    said = inl (it.quiet (told_by holds));
    steps = steps;
  }

  -- behind it a line
  module _ {new : Disk} {line : List ℕ} (run : Runs Same (SaysFront line) mid new) where
    -- that says why it was not done
    pub leaves_saying : IsWhyNot p q old.reads line → (old.tells_moments → LeavesOnly old mid (λ files said. ShowsOrGrows p q holds.world files)) → LeavesEither p q commands holds.world old new
    leaves_saying why steps =
        let quiet = it.quiet (told_by holds) in
        let before : LeavesEither p q commands holds.world old mid = leaves_silent steps in
        record {
          images = λ telling.
              let telling_mid = it.time.moments_told.0 telling in
              runs_on old mid new (UpgradeMoment p q commands old.reads old.said) (before.images telling)
              (first_call mid new (UpgradeMoment p q commands old.reads old.said) telling_mid run.time (λ files said left.
              let from = run.crash telling_mid files said left in (
                subst (λ (f : Files). StandsInEither p q commands f) (sym from.0.2) (before.stands.1 telling_mid from.0.0 mid.said from.0.1),
                inr (line, why, subst (λ (l : List ℕ). SaysFront line l said) quiet from.1),
              )));
          stands = each_stays {P = StandsInEither p q commands} run told_mid before.stands;
          said = inr (line, why, subst (λ (l : List ℕ). SaysFront line l new.said) quiet (run.said told_mid));
          steps = λ telling. saying_steps (ShowsOrGrows p q holds.world) old mid new it.time (steps telling) run telling;
        }

    -- where nothing was done the store is as it was
    pub stays_idle : {e : UpgradeErr} → answer ≡ Err e → (WhereIdle (InEachImage mid (λ files. Stands p files (take (forced_in engine) commands))) (Err e) → InEachImage mid (λ files. Stands p files (take (forced_in engine) commands))) → InEachImage new (λ files. Stands p files commands)
    stays_idle is idle =
        let there = InEachImage mid (λ files. Stands p files (take (forced_in engine) commands)) in
        let left = idle (subst (λ (r : Result (Unit {0}) UpgradeErr). WhereIdle there r) is (it.left p commands (in_engine holds))) in
        each_stays {P = λ files. Stands p files commands} run told_mid (subst (λ (l : List Command). InEachImage mid (λ files. Stands p files l)) whole left)

-- the line that says why it was not made larger may not be said
abbrev pub IsOfTwo : Status → Type 0
IsOfTwo AlreadyTwo = ⊤
IsOfTwo SayFault = ⊤
IsOfTwo status = ⊥

pub two_ends : (status : Status) → (status ≡ AlreadyTwo) ⊎ (status ≡ SayFault) → IsOfTwo status
two_ends status ends = ⊎_elim (λ (is : status ≡ AlreadyTwo). subst IsOfTwo (sym is) tt) (λ (is : status ≡ SayFault). subst IsOfTwo (sym is) tt) ends

pub two_second : (status : Status) → IsOfTwo status → IsOfSecond status
two_second AlreadyTwo of = tt
two_second SayFault of = tt
two_second status of = absurd of

pub two_upgrade : (status : Status) → IsOfTwo status → IsOfUpgrade status × IsOfOpened status
two_upgrade AlreadyTwo of = (tt, tt)
two_upgrade SayFault of = (tt, tt)
two_upgrade status of = absurd of

pub two_loud : (status : Status) → IsOfTwo status → IsSilentUpgrade status → ⊥
two_loud AlreadyTwo of silent = silent
two_loud SayFault of silent = silent
two_loud status of silent = of

abbrev pub IsOfSmaller : Status → Type 0
IsOfSmaller Smaller = ⊤
IsOfSmaller Memory = ⊤
IsOfSmaller SayFault = ⊤
IsOfSmaller status = ⊥

pub smaller_ends : (status : Status) → (status ≡ Smaller) ⊎ ((status ≡ Memory) ⊎ (status ≡ SayFault)) → IsOfSmaller status
smaller_ends status ends = ⊎_elim (λ (is : status ≡ Smaller). subst IsOfSmaller (sym is) tt)
    (λ other. ⊎_elim (λ (is : status ≡ Memory). subst IsOfSmaller (sym is) tt) (λ (is : status ≡ SayFault). subst IsOfSmaller (sym is) tt) other) ends

pub smaller_upgrade : (status : Status) → IsOfSmaller status → IsOfUpgrade status × IsOfOpened status
smaller_upgrade Smaller of = (tt, tt)
smaller_upgrade Memory of = (tt, tt)
smaller_upgrade SayFault of = (tt, tt)
smaller_upgrade status of = absurd of

pub smaller_silent : (status : Status) → IsOfSmaller status → IsSilentUpgrade status → status ≡ Memory
smaller_silent Smaller of silent = absurd silent
smaller_silent Memory of silent = refl
smaller_silent SayFault of silent = absurd silent
smaller_silent status of silent = absurd of

abbrev pub IsOfDamage : Status → Type 0
IsOfDamage Damaged = ⊤
IsOfDamage Memory = ⊤
IsOfDamage SayFault = ⊤
IsOfDamage status = ⊥

pub damage_ends : (status : Status) → (status ≡ Damaged) ⊎ ((status ≡ Memory) ⊎ (status ≡ SayFault)) → IsOfDamage status
damage_ends status ends = ⊎_elim (λ (is : status ≡ Damaged). subst IsOfDamage (sym is) tt)
    (λ other. ⊎_elim (λ (is : status ≡ Memory). subst IsOfDamage (sym is) tt) (λ (is : status ≡ SayFault). subst IsOfDamage (sym is) tt) other) ends

pub damage_upgrade : (status : Status) → IsOfDamage status → IsOfUpgrade status × IsOfOpened status
damage_upgrade Damaged of = (tt, tt)
damage_upgrade Memory of = (tt, tt)
damage_upgrade SayFault of = (tt, tt)
damage_upgrade status of = absurd of

pub damage_silent : (status : Status) → IsOfDamage status → IsSilentUpgrade status → status ≡ Memory
damage_silent Damaged of silent = absurd silent
damage_silent Memory of silent = refl
damage_silent SayFault of silent = absurd silent
damage_silent status of silent = absurd of

pub unopened_upgrade : (status : Status) → IsOfUnopened status → IsOfUpgrade status
unopened_upgrade NotAStore of = tt
unopened_upgrade Damaged of = tt
unopened_upgrade DiskFault of = tt
unopened_upgrade SayFault of = tt
unopened_upgrade Memory of = tt
unopened_upgrade RestartMemory of = tt
unopened_upgrade status of = absurd of

unopened_second : (status : Status) → IsOfUnopened status → (status ≢ NotAStore) × (status ≢ Damaged) → IsOfSecond status
unopened_second NotAStore of store = absurd (store.0 refl)
unopened_second Damaged of store = absurd (store.1 refl)
unopened_second DiskFault of store = tt
unopened_second SayFault of store = tt
unopened_second Memory of store = tt
unopened_second RestartMemory of store = tt
unopened_second status of store = absurd of

-- a call on a store that was opened judges its files so, where it does not call them damaged
pub judged_whole : {old new : Disk} (status : Status) → IsWellFormed old.reads → IsOfOpened status → (status ≡ Damaged → SaysCut old new) → JudgesFiles old new status ⊎ ((status ≡ Damaged) × SaysCut old new)
judged_whole Damaged image fine cut = inr (refl, cut refl)
judged_whole status image fine cut = inl (record {
  no_store = λ is. absurd (subst IsOfOpened is fine);
  damaged = λ is. cc is;
  store = λ image. (λ is. subst IsOfOpened is fine, λ is. cc is);
  opened = λ of. image;
  keeps = λ broken. absurd (broken image);
  memory = λ is. opens_gate all_meaning image;
  silent = λ broken is. absurd (broken image);
  unopened = λ is. absurd (subst IsOfOpened is fine);
})

-- it is said why not of files with the same layout
module _ {p q : Params} (was now : Files) (keeps : KeepsLayout (was Objects) (now Objects)) where
  why_before : {line : List ℕ} → IsWhyNot p q now line → IsWhyNot p q was line
  why_before (inl second) = inl (sym keeps.version ∙ second.0, second.1)
  why_before (inr other) = inr (⊎_elim (λ small. inl small) (λ cut. inr (cut ∙ ap (λ (l : Layout). damaged Objects (last_slot l + 9)) keeps.layout)) other)

  pub says_before : {before since said : List ℕ} → since ≡ before → SaysWhyNot p q now since said → SaysWhyNot p q was before said
  says_before quiet (inl none) = inl (none ∙ quiet)
  says_before {said = said} quiet (inr some) = inr (some.0, why_before some.1, subst (λ (l : List ℕ). SaysFront some.0 l said) quiet some.2)

module _ (p q : Params) (commands : List Command) (old : Disk) where
  abbrev At : Files → List ℕ → Type 0
  At files said = UpgradeMoment p q commands old.reads old.said files said

  -- while the store is opened the files stand for the commands in the store that was there, and nothing is said
  opens_either : {budget : Budget} (mid : Disk) → OpensFiles budget p commands old mid → old.tells_moments → LeavesOnly old mid (OrAtStart old At)
  opens_either mid files told =
      or_weaker old mid (Between p old None (length commands) (length commands) commands) At (files.images told)
      (λ f s b. let enough = b.enough in (inl (subst (λ (l : List Command). Stands p f l) (take_all b.kept commands enough) b.stands), inl b.quiet))

  start_either : Opens p old commands → At old.reads old.said
  start_either opens = (inl opens.stands, inl refl)

  pub upgrade_unopened : {budget : Budget} (mid : Disk) (status : Status) → IsDisk old → Opens p old commands → OpensFiles budget p commands old mid → IsOfUnopened status → (status ≢ NotAStore) × (status ≢ Damaged) → (status ≢ SayFault) × (status ≢ Memory) → IsUpgradeOn budget p q commands old mid status
  upgrade_unopened {budget} mid status lawful opens files of store output = record {
    images = opens_either mid files;
    from_settled = λ told settled. from_settled old mid At lawful told settled (start_either opens) (opens_either mid files told);
    stands = λ disk memory. absurd (opening_failed status of store output disk memory);
    done = λ is. absurd (subst IsOfUnopened is of);
    quiet = λ is. files.quiet;
    said = inl files.quiet;
    larger = λ is. absurd (subst IsOfUnopened is of);
    smaller = λ is. absurd (subst IsOfUnopened is of);
    already = λ is. absurd (subst IsOfUnopened is of);
    second = λ is. unopened_second status of store;
    unopened = λ told is. start_refused p commands files told;
    idle = λ is. absurd (⊎_elim (λ (e : status ≡ AlreadyTwo). subst IsOfUnopened e of) (λ (e : status ≡ Smaller). subst IsOfUnopened e of) is);
    store = store.0;
    steps = λ told first is. or_weaker old mid (OpeningMoment budget p commands old first is) (GrowthMoment budget p q commands old first is) (files.steps told first is) (λ f s here. inl here);
  }

  pub upgrade_images : {budget : Budget} (mid new : Disk) → OpensFiles budget p commands old mid → Passes old mid → KeepsLayout (old.reads Objects) (mid.reads Objects) → (mid.tells_moments → LeavesOnly mid new (UpgradeMoment p q commands mid.reads mid.said)) → old.tells_moments → LeavesOnly old new (OrAtStart old At)
  upgrade_images mid new files time keeps growing told =
      runs_on old mid new (OrAtStart old At) (opens_either mid files told)
      (weaker mid new (UpgradeMoment p q commands mid.reads mid.said) (OrAtStart old At) (growing (time.moments_told.0 told)) (λ f s here. inr (here.0, says_before old.reads mid.reads keeps files.quiet here.1)))

  pub upgrade_settled : (new : Disk) → IsDisk old → Opens p old commands → (old.tells_moments → LeavesOnly old new (OrAtStart old At)) → old.tells_moments → IsSettled old → LeavesOnly old new At
  upgrade_settled new lawful opens images told settled = from_settled old new At lawful told settled (start_either opens) (images told)

  -- the restart takes its course, and then the store is left, or grows
  pub upgrade_steps : {budget : Budget} {engine : EngineView} (mid new : Disk) → OpensFiles budget p commands old mid → IsOpen budget p commands old mid engine → Passes old mid → ((holds : Holds p mid engine commands) → LeavesEither p q commands holds.world mid new)
      → old.tells_moments → (first : Stage) → (is : IsFirst budget p commands old first) → LeavesOnly old new (OrAtStart old (GrowthMoment budget p q commands old first is))
  upgrade_steps {budget} mid new files opened time leaves told first is =
      let shown = opened.shows first is in
      runs_on old mid new (OrAtStart old (GrowthMoment budget p q commands old first is))
      (or_weaker old mid (OpeningMoment budget p commands old first is) (GrowthMoment budget p q commands old first is) (files.steps told first is) (λ f s here. inl here))
      (weaker mid new (λ f s. ShowsOrGrows p q shown.0.world f) (OrAtStart old (GrowthMoment budget p q commands old first is)) ((leaves shown.0).steps (time.moments_told.0 told))
      (λ f s here. inr (inr (subst (λ (stage : Stage). ShowsOrGrows p q stage.world f) (sym shown.1) here))))

-- an engine that is on its files, whose objects file is cut
pub cut_store : (d : Disk) (engine : EngineView) → d.tells_files → IsAttached d engine → (IsUncut d engine → ⊥) → IsCutStore d.reads
cut_store d engine told attached cut = (engine.parts.volatile.objects.slots, (attached told).0.slots, cut)
