-- What the files stand for while a store is made larger, and after it.
use Rattle.std.proofs.Common.{◌≡◌, ◌<◌, inl, inr, ℕ, List, refl, sym, ◌∙◌, ap, subst, arith, take}
use Rattle.std.specs.Prelude.{Result, Ok, Err}
use Rattle.std.proofs.lemmas.Bool.{cases_eq, eq-eqb, eqb-true}
use Rattle.disk_model.specs.Disk.{Files, Disk, IsDisk, LeavesOnly, OthersStay, IsSettled, Rises, Runs, Stays, In, Any, Same}
use Rattle.disk_model.specs.Moments.{weaker, started, stays_here, passes_none}
use Rattle.disk_model.specs.Silent.{IsSilent}
use Rattle.disk_model.specs.declared.machine.FileNo.{FileNo}
use Rattle.disk_model.specs.declared.machine.FileNo.TheVariants.{Objects}
use Rattle.oper_core.specs.Meaning.{Meaning}
use Rattle.oper_core.specs.declared.bounds.Bounds.{Bounds}
use Rattle.formats.specs.Bytes.{byte_at}
use Rattle.formats.specs.Objects.{IsObjectsFile, cell_of}
use Rattle.formats.specs.declared.form.Form.{Form}
use Rattle.formats.specs.declared.params.Params.{Params}
use Rattle.formats.specs.declared.read_err.ReadErr.{ReadErr}
use Rattle.formats.specs.declared.read_err.ReadErr.TheVariants as of_read
use Rattle.stable_objects.specs.Upgrades.Growing.{GrowsNot, IsCutAt, IsGrown, IsGrowing, IsStillOrGrown}
use Rattle.stable_objects.specs.Upgrades.Larger.{IsFirst, IsLarger}
use Rattle.stable_objects.specs.LayoutLaws.{first_in, second_in}
use Rattle.stable_objects.specs.SlotsView.{SlotsView, AreOf}
use Rattle.running_store.specs.Parts.{Shows}
use Rattle.store_engine.specs.Engine.{EngineView, Holds, InEachImage, IsAttached, Says, forced_in}
use Rattle.store_engine.specs.Grouping.{ungrouped}
use Rattle.store_engine.specs.Store.{Stands, meaning_in}
use Rattle.store_engine.specs.Upgrading.{HasUpgradeCause, IsSecond, IsTooSmall, IsUpgraded, IsUpgrading, MayGrow, StandsInEither, WhereIdle, upgrade_from_read}
use Rattle.store_engine.specs.declared.upgrade_err.UpgradeErr.{UpgradeErr}
use Rattle.store_engine.specs.declared.upgrade_err.UpgradeErr.TheVariants.{AlreadyTwo, Smaller, Damaged}
use Rattle.store_engine.proofs.Holding.{in_each}

-- the law of files of which the objects file alone changed
abbrev StandStill : {O : Type 0} → (Bounds → Meaning O) → Type 0
StandStill {O} meaning = (p : Params) (old new : Files) (commands : List O) → OthersStay Objects old new → IsObjectsFile p (new Objects)
    → ((x : ℕ) → x < p.objects → cell_of x (new Objects) ≡ cell_of x (old Objects)) → Stands meaning p old commands → Stands meaning p new commands

abbrev StandGrown : {O : Type 0} → (Bounds → Meaning O) → Type 0
StandGrown {O} meaning = (p q : Params) (old new : Files) (commands : List O) → IsLarger p q → OthersStay Objects old new → IsGrown p q (old Objects) (new Objects)
    → Stands meaning p old commands → Stands meaning q new commands

module _ {O : Type 0} (meaning : Bounds → Meaning O) (unmoved : StandStill meaning) (enlarged : StandGrown meaning) (p q : Params) (larger : IsLarger p q) (commands : List O) (old new : Files)
    (others : OthersStay Objects old new) (stands : Stands meaning p old commands) where
  pub upgraded : IsGrown p q (old Objects) (new Objects) → IsUpgraded meaning q commands new
  upgraded grown = record { second = eq-eqb (byte_at 8 (new Objects)) 50 grown.version; stands = enlarged p q old new commands larger others grown stands }

  pub in_either : (slots : SlotsView) → slots.params ≡ p → IsStillOrGrown slots q (old Objects) (new Objects) → StandsInEither meaning p q commands new
  in_either slots same (inl still) =
      inl (unmoved p old new commands others (subst (λ (r : Params). IsObjectsFile r (new Objects)) same still.are.whole) (λ x below. still.cells x (omega (arith, below, ap (λ (r : Params). r.objects) same))) stands)
  in_either slots same (inr grown) = inr (upgraded (subst (λ (r : Params). IsGrown r q (old Objects) (new Objects)) same grown))

-- The version that the file says is that of the engine's store.
module _ (slots : SlotsView) (file : List ℕ) (are : AreOf slots file) where
  pub not_first : (slots.first ≡ 32 → ⊥) → byte_at 8 file ≡ 50
  not_first other = elim (cases_eq (byte_at 8 file) 50) [
    | inl second ↦ second
    | inr first ↦ absurd (other (are.first ∙ ap (λ (f : Form). f.first) (first_in file first)))
  ]

  pub not_second : slots.first ≡ 32 → byte_at 8 file ≡ 50 → ⊥
  not_second first second = omega (arith, first, are.first, ap (λ (f : Form). f.first) (second_in file second))

-- an engine and files that stand for commands, of which the forced ones are these
module _ {O : Type 0} (meaning : Bounds → Meaning O) (unmoved : StandStill meaning) (enlarged : StandGrown meaning) (p q : Params) (old : Disk) (engine : EngineView) (commands : List O) (holds : Holds meaning p old engine commands)
    (stands : Stands meaning p old.reads (take (forced_in engine) commands)) where
  abbrev forced : List O
  forced = take (forced_in engine) commands

  shown : Shows (meaning_in meaning p) p old engine.parts (ungrouped holds.world)
  shown = holds.shows.shows

  settled : IsSettled old
  settled = shown.log.keeps.settled

  -- where nothing is done
  pub unchanged : InEachImage old (StandsInEither meaning p q forced)
  unchanged = in_each old (StandsInEither meaning p q forced) settled (inl stands)

  pub still_stands : InEachImage old (λ files. Stands meaning p files forced)
  still_stands = in_each old (λ files. Stands meaning p files forced) settled stands

  pub unchanged_images : IsDisk old → old.tells_moments → LeavesOnly old old (IsSilent (StandsInEither meaning p q forced) old.said)
  unchanged_images lawful told = started old (IsSilent (StandsInEither meaning p q forced) old.said) (λ files said left. record { silent = lawful.said_now told files said left; holds = unchanged.1 told files said left })

  pub unchanged_moments : IsDisk old → old.tells_moments → LeavesOnly old old (IsGrowing old engine.parts.volatile.objects.slots q)
  unchanged_moments lawful told = started old (IsGrowing old engine.parts.volatile.objects.slots q) (λ files said left.
      let same : files ≡ old.reads = λ i file. settled file told files said left i in
      record {
        objects = inl (record {
          are = subst (λ (f : Files). AreOf engine.parts.volatile.objects.slots (f Objects)) (sym same) shown.store.laid.slots;
          cells = λ x below. ap (λ (f : Files). cell_of x (f Objects)) same;
        });
        others = λ other is_other. ap (λ (f : Files). f other) same;
        silent = lawful.said_now told files said left;
      })

  -- where the store grows
  module _ (new : Disk) (slots : SlotsView) (same : slots ≡ engine.parts.volatile.objects.slots) (larger : IsLarger slots.params q) (run : Runs (In Objects Any) Same old new) where
    are : AreOf slots (old.reads Objects)
    are = subst (λ (v : SlotsView). AreOf v (old.reads Objects)) (sym same) shown.store.laid.slots

    numbers : slots.params ≡ p
    numbers = ap (λ (v : SlotsView). v.params) same ∙ shown.store.params

    stands_in : (files : Files) → OthersStay Objects old.reads files → IsStillOrGrown slots q (old.reads Objects) (files Objects) → StandsInEither meaning p q forced files
    stands_in files others is = in_either meaning unmoved enlarged p q (subst (λ (r : Params). IsLarger r q) numbers larger) forced old.reads files others stands slots numbers is

    pub grows_images : old.tells_moments → (old.tells_moments → IsSettled old → AreOf slots (old.reads Objects) → LeavesOnly old new (IsGrowing old slots q)) → LeavesOnly old new (IsSilent (StandsInEither meaning p q forced) old.said)
    grows_images told moments = weaker old new (IsGrowing old slots q) (IsSilent (StandsInEither meaning p q forced) old.said) (moments told settled are)
        (λ files said is. record { silent = is.silent; holds = stands_in files is.others is.objects })

    pub grows_moments : old.tells_moments → (old.tells_moments → IsSettled old → AreOf slots (old.reads Objects) → LeavesOnly old new (IsGrowing old slots q)) → LeavesOnly old new (IsGrowing old engine.parts.volatile.objects.slots q)
    grows_moments told moments = subst (λ (v : SlotsView). LeavesOnly old new (IsGrowing old v q)) same (moments told settled are)

    pub grows : (old.tells_files → AreOf slots (old.reads Objects) → IsStillOrGrown slots q (old.reads Objects) (new.reads Objects)) → (old.tells_moments → IsSettled old → AreOf slots (old.reads Objects) → LeavesOnly old new (IsGrowing old slots q))
        → InEachImage new (StandsInEither meaning p q forced)
    grows left moments = (
      stands_in new.reads (run.reads shown.told).others (left shown.told are),
      λ told files said there.
          let is = (moments (run.time.moments_told.1 told) settled are).each files said (run.ends.among old.clock new.clock files said run.time.later (omega arith) there) in
          stands_in files is.others is.objects,
    )

    pub grows_whole : (IsSettled old → IsSettled new) → (old.tells_files → AreOf slots (old.reads Objects) → IsGrown slots.params q (old.reads Objects) (new.reads Objects)) → InEachImage new (IsUpgraded meaning q forced)
    grows_whole settles grown =
        in_each new (IsUpgraded meaning q forced) (settles settled)
        (upgraded meaning unmoved enlarged p q (subst (λ (r : Params). IsLarger r q) numbers larger) forced old.reads new.reads (run.reads shown.told).others stands
        (subst (λ (r : Params). IsGrown r q (old.reads Objects) (new.reads Objects)) numbers (grown shown.told are)))

-- what an upgrade answers where the growth fails so
abbrev answer_of : ReadErr → Result (Unit {0}) UpgradeErr
answer_of e = Err (upgrade_from_read e)

growth_failed : (old new : Disk) (slots : SlotsView) (engine : EngineView) (q : Params) (e : ReadErr) → MayGrow engine q → GrowsNot old new slots e → HasUpgradeCause engine q (Rises old.disk_faults new.disk_faults) (answer_of e)
growth_failed old new slots engine q of_read.DiskFault may fails = (may, fails)
growth_failed old new slots engine q (of_read.Damaged file place) may fails = may
growth_failed old new slots engine q of_read.Memory may fails = may

no_idle : (stays : Type 0) (e : ReadErr) → WhereIdle stays (answer_of e)
no_idle stays of_read.DiskFault = tt
no_idle stays (of_read.Damaged file place) = tt
no_idle stays of_read.Memory = tt

cut_by : (old new : Disk) (slots : SlotsView) (e : ReadErr) → GrowsNot old new slots e → old.tells_files → AreOf slots (old.reads Objects) → (file : FileNo) (place : ℕ) → answer_of e ≡ Err (Damaged file place) → IsCutAt slots (old.reads Objects) file place
cut_by old new slots of_read.DiskFault fails told are file place same = absurd cc
cut_by old new slots (of_read.Damaged at spot) fails told are file place same =
    let is = fails told are in
    let there : at ≡ file = cc in
    let here : spot ≡ place = cc in
    record { cut = is.cut; file_is = sym there ∙ is.file_is; place_is = sym here ∙ is.place_is }
cut_by old new slots of_read.Memory fails told are file place same = absurd cc

no_version : (e : ReadErr) → answer_of e ≡ Err AlreadyTwo → ⊥
no_version of_read.DiskFault same = cc
no_version (of_read.Damaged file place) same = cc
no_version of_read.Memory same = cc

-- the answers of an upgrade
module _ {O : Type 0} (meaning : Bounds → Meaning O) (unmoved : StandStill meaning) (enlarged : StandGrown meaning) (q : Params) (old : Disk) (lawful : IsDisk old) (engine : EngineView)
    (says : (p : Params) (commands : List O) → Holds meaning p old engine commands → Says meaning p old engine commands) where
  abbrev own : SlotsView
  own = engine.parts.volatile.objects.slots

  now_stands : (p : Params) (commands : List O) → Holds meaning p old engine commands → Stands meaning p old.reads (take (forced_in engine) commands)
  now_stands p commands holds = (says p commands holds).images.0

  -- a file of version 2 is not that of a store of version 1
  first_alone : IsFirst own → old.tells_files → IsAttached meaning old engine → IsSecond old.reads → ⊥
  first_alone first told attached second = not_second own (old.reads Objects) (attached told).0.slots first (eqb-true (byte_at 8 (old.reads Objects)) 50 second)

  pub already_two : (IsFirst own → ⊥) → IsUpgrading meaning old old engine q (Err AlreadyTwo)
  already_two other = record {
    time = passes_none old;
    quiet = λ told. refl;
    cause = other;
    idle = stays_here old lawful;
    left = λ p commands holds. still_stands meaning unmoved enlarged p q old engine commands holds (now_stands p commands holds);
    version = λ told attached. (λ same. eq-eqb (byte_at 8 (old.reads Objects)) 50 (not_first own (old.reads Objects) (attached told).0.slots other), λ second. refl);
    damaged = λ told attached file place same. absurd cc;
    upgraded = λ p commands holds. tt;
    stands = λ p commands holds. unchanged meaning unmoved enlarged p q old engine commands holds (now_stands p commands holds);
    images = λ told p commands holds. unchanged_images meaning unmoved enlarged p q old engine commands holds (now_stands p commands holds) lawful told;
    growing = λ told p commands holds. unchanged_moments meaning unmoved enlarged p q old engine commands holds (now_stands p commands holds) lawful told;
  }

  pub too_small : (objects cap : ℕ) → IsTooSmall engine q objects cap → IsUpgrading meaning old old engine q (Err (Smaller objects cap))
  too_small objects cap small = record {
    time = passes_none old;
    quiet = λ told. refl;
    cause = small;
    idle = stays_here old lawful;
    left = λ p commands holds. still_stands meaning unmoved enlarged p q old engine commands holds (now_stands p commands holds);
    version = λ told attached. (λ same. absurd cc, λ second. absurd (first_alone small.first told attached second));
    damaged = λ told attached file place same. absurd cc;
    upgraded = λ p commands holds. tt;
    stands = λ p commands holds. unchanged meaning unmoved enlarged p q old engine commands holds (now_stands p commands holds);
    images = λ told p commands holds. unchanged_images meaning unmoved enlarged p q old engine commands holds (now_stands p commands holds) lawful told;
    growing = λ told p commands holds. unchanged_moments meaning unmoved enlarged p q old engine commands holds (now_stands p commands holds) lawful told;
  }

  -- the slots of the engine, and the machine after their growth
  module _ (slots : SlotsView) (same : slots ≡ own) (first : IsFirst slots) (larger : IsLarger slots.params q) (new : Disk) (run : Runs (In Objects Any) Same old new)
      (left : old.tells_files → AreOf slots (old.reads Objects) → IsStillOrGrown slots q (old.reads Objects) (new.reads Objects))
      (moments : old.tells_moments → IsSettled old → AreOf slots (old.reads Objects) → LeavesOnly old new (IsGrowing old slots q)) where
    may : MayGrow engine q
    may = record { first = sym (ap (λ (v : SlotsView). v.first) same) ∙ first; larger = subst (λ (v : SlotsView). IsLarger v.params q) same larger }

    pub failed : (e : ReadErr) → GrowsNot old new slots e → IsUpgrading meaning old new engine q (answer_of e)
    failed e fails = record {
      time = run.time;
      quiet = run.said;
      cause = growth_failed old new slots engine q e may fails;
      idle = no_idle (Stays old new) e;
      left = λ p commands holds. no_idle (InEachImage new (λ files. Stands meaning p files (take (forced_in engine) commands))) e;
      version = λ told attached. (λ already. absurd (no_version e already), λ second. absurd (first_alone may.first told attached second));
      damaged = λ told attached file place is. subst (λ (v : SlotsView). IsCutAt v (old.reads Objects) file place) same (cut_by old new slots e fails told (subst (λ (v : SlotsView). AreOf v (old.reads Objects)) (sym same) (attached told).0.slots) file place is);
      upgraded = λ p commands holds. tt;
      stands = λ p commands holds. grows meaning unmoved enlarged p q old engine commands holds (now_stands p commands holds) new slots same larger run left moments;
      images = λ told p commands holds. grows_images meaning unmoved enlarged p q old engine commands holds (now_stands p commands holds) new slots same larger run told moments;
      growing = λ told p commands holds. grows_moments meaning unmoved enlarged p q old engine commands holds (now_stands p commands holds) new slots same larger run told moments;
    }

    pub done : (IsSettled old → IsSettled new) → (old.tells_files → AreOf slots (old.reads Objects) → IsGrown slots.params q (old.reads Objects) (new.reads Objects)) → IsUpgrading meaning old new engine q (Ok tt)
    done settles grown = record {
      time = run.time;
      quiet = run.said;
      cause = may;
      idle = tt;
      left = λ p commands holds. tt;
      version = λ told attached. (λ already. absurd cc, λ second. absurd (first_alone may.first told attached second));
      damaged = λ told attached file place is. absurd cc;
      upgraded = λ p commands holds. grows_whole meaning unmoved enlarged p q old engine commands holds (now_stands p commands holds) new slots same larger run settles grown;
      stands = λ p commands holds. grows meaning unmoved enlarged p q old engine commands holds (now_stands p commands holds) new slots same larger run left moments;
      images = λ told p commands holds. grows_images meaning unmoved enlarged p q old engine commands holds (now_stands p commands holds) new slots same larger run told moments;
      growing = λ told p commands holds. grows_moments meaning unmoved enlarged p q old engine commands holds (now_stands p commands holds) new slots same larger run told moments;
    }
