-- Objects are made ready, their gates are opened together, and they are held and clean.
use Rattle.std.proofs.Common.{◌≡◌, ◌∙◌, ◌<◌, ℕ, ⊎_elim, true, Option, Some, List, refl, inl, inr, sym, ap, subst, arith}
use Rattle.std.specs.Prelude.{All, IsSome, IsTrue}
use Rattle.std.proofs.lemmas.Bool.{cases_Bool}
use Rattle.disk_model.specs.Disk.{Any, Disk, In, IsSettled, LeavesOnly, Runs, Same}
use Rattle.disk_model.specs.Moments.{runs_join, runs_on, weaker}
use Rattle.disk_model.specs.declared.machine.FileNo.TheVariants.{Objects}
use Rattle.oper_core.specs.Cell.{Cell}
use Rattle.oper_core.specs.State.{is_among}
use Rattle.formats.specs.Objects.{cell_of}
use Rattle.formats.specs.declared.layout.Layout.{Layout}
use Rattle.formats.specs.declared.params.Params.{Params}
use Rattle.dirty_cache.specs.Contents.{Contents, held, is_dirty}
use Rattle.dirty_cache.specs.declared.entry.Entry.{Entry as Pair}
use Rattle.stable_objects.specs.Ready.{AreHeld, AreOldOrNew, AreOldOrNewSince, AreOpened, AreReady, AreReplaced, IsReady, KeepsButGatesOf}
use Rattle.stable_objects.specs.SlotsView.{AreOf, SlotsView}
use Rattle.stable_objects.specs.Spares.{IsClosing, IsUnseen, IsUnseenSince}
use Rattle.running_store.specs.Laid.Among.{all_among}
use Rattle.running_store.specs.Parts.InUse.{dirty_held, none_some}
use Rattle.running_store.specs.Laid.{AreCached, HasClosedSpare, IsLaidOn, Laid}
use Rattle.running_store.specs.Calls.RoundCalls.{AreFilled, AreFlushed, AreLater, cached_in}
use Rattle.running_store.proofs.OfRounds.Holds.{cached_is}

module _ (old here : Disk) (before mid : Laid) (objects : List ℕ) (run : Runs (In Objects Any) Same old here) (closing : IsClosing before.slots mid.slots) (same : mid.cache ≡ before.cache) where
  abbrev p : Params
  p = before.slots.params

  abbrev pairs : ℕ → Cell
  pairs = cached_in before.cache

  pub params_are : mid.slots.params ≡ p
  params_are = ap (λ (l : Layout). l.params) closing.layout

  -- nothing is opened yet
  unseen_old : (file : List ℕ) → IsUnseen p (old.reads Objects) file → AreOldOrNew p objects pairs (old.reads Objects) file
  unseen_old file unseen = record { whole = unseen.whole; each = λ x below among. inl (unseen.cells x below); others = λ x below off. unseen.cells x below }

  pub unopened : LeavesOnly old here (IsUnseenSince old p) → LeavesOnly old here (AreOldOrNewSince old p objects pairs)
  unopened leaves =
      weaker old here (IsUnseenSince old p) (AreOldOrNewSince old p objects pairs) leaves
      (λ files said is. record { cells = unseen_old (files Objects) is.unseen; other_files = is.other_files; silent = is.silent })

  seen_later : (file : List ℕ) → IsUnseen p (old.reads Objects) (here.reads Objects) → AreOldOrNew p objects pairs (here.reads Objects) file → AreOldOrNew p objects pairs (old.reads Objects) file
  seen_later file unseen is = record {
    whole = is.whole;
    each = λ x below among. ⊎_elim (λ kept. inl (kept ∙ unseen.cells x below)) (λ new. inr new) (is.each x below among);
    others = λ x below off. is.others x below off ∙ unseen.cells x below;
  }

  module _ (later : AreLater before) (dirty : All (λ x. is_dirty before.cache x ≡ true) objects) (cached : AreCached p before.cache) (closed : All (HasClosedSpare mid) objects) (filled : old.tells_files → AreFilled mid objects (here.reads Objects)) where
    -- each has a pair
    pub found : (x : ℕ) → IsTrue (is_among x objects) → (pair : Pair) × (held before.cache x ≡ Some pair)
    found x among = dirty_held before.cache x (all_among (λ y. is_dirty before.cache y ≡ true) objects x dirty among)

    -- they are ready
    pub ready : old.tells_files → AreReady mid.slots (here.reads Objects) objects pairs
    ready told x among =
        let f = found x among in
        let pair : Pair = f.0 in
        let there : held mid.cache x ≡ Some pair = ap (λ (c : Contents). held c x) same ∙ f.1 in
        let limits = cached.each x pair f.1 in
        let newer = later x pair (all_among (λ y. is_dirty before.cache y ≡ true) objects x dirty among) f.1 in
        let none = all_among (HasClosedSpare mid) objects x closed among (subst (λ (o : Option Pair). IsSome o) (sym there) refl) in
        subst (λ (c : Cell). IsReady mid.slots (here.reads Objects) x c) (sym (cached_is before.cache x pair f.1)) (record {
          below = omega (arith, limits.0, ap (λ (q : Params). q.objects) params_are);
          closed = none;
          later = omega (arith, newer.0, closing.lsns_kept x);
          is_lsn = newer.1;
          short = omega (arith, limits.1, ap (λ (q : Params). q.cap) params_are);
          filled = filled told x pair among there none;
        })

    -- all of them are objects of the store
    pub all_below : All (λ x. x < mid.slots.params.objects) objects
    all_below = each_below objects dirty
      where
        each_below : (xs : List ℕ) → All (λ x. is_dirty before.cache x ≡ true) xs → All (λ x. x < mid.slots.params.objects) xs
        each_below xs are k d lt =
            let f = dirty_held before.cache _ (are k d lt) in
            let less = (cached.each _ f.0 f.1).0 in
            omega (arith, less, ap (λ (q : Params). q.objects) params_are)

    module _ (new : Disk) (second : Runs (In Objects (KeepsButGatesOf mid.slots objects)) Same here new) where
      pub together_any : Runs (In Objects Any) Same old new
      together_any = runs_join old here new (In Objects Any) (In Objects (KeepsButGatesOf mid.slots objects)) (In Objects Any)
          (λ a b is. is) (λ a b c x y. record { changed = tt; others = λ other ne. y.others other ne ∙ x.others other ne }) run second

      -- a crash while the gates are opened leaves any of them open
      pub together_moments : (old.tells_files → AreOf before.slots (old.reads Objects) → IsUnseen p (old.reads Objects) (here.reads Objects)) → (old.tells_files → IsLaidOn before (old.reads Objects) → IsLaidOn mid (here.reads Objects)) → (IsSettled old → IsSettled here)
          → (old.tells_moments → IsSettled old → AreOf before.slots (old.reads Objects) → LeavesOnly old here (IsUnseenSince old p))
          → (here.tells_moments → IsSettled here → AreOf mid.slots (here.reads Objects) → AreReady mid.slots (here.reads Objects) objects pairs → LeavesOnly here new (AreOldOrNewSince here mid.slots.params objects pairs))
          → old.tells_moments → IsSettled old → IsLaidOn before (old.reads Objects) → LeavesOnly old new (AreOldOrNewSince old p objects pairs)
      together_moments unseen laid settles first opens told settled are =
          let files_told = run.begins.telling told in
          let then = opens (run.time.moments_told.0 told) (settles settled) (laid files_told are).slots (ready files_told) in
          let reads = run.reads files_told in
          runs_on old here new (AreOldOrNewSince old p objects pairs) (unopened (first told settled are.slots))
          (weaker here new (AreOldOrNewSince here p objects pairs) (AreOldOrNewSince old p objects pairs) (subst (λ (q : Params). LeavesOnly here new (AreOldOrNewSince here q objects pairs)) params_are then)
          (λ files said is. record {
            cells = seen_later (files Objects) (unseen files_told are.slots) is.cells;
            other_files = λ other ne. is.other_files other ne ∙ reads.others other ne;
            silent = is.silent ∙ run.said files_told;
          }))

    -- they are held, and clean
    module _ (after : Laid) (flushed : AreFlushed mid after objects) where
      pub together_flushed : AreFlushed before after objects
      together_flushed = record {
        layout = flushed.layout ∙ closing.layout;
        lsns_kept = λ x pair among had. flushed.lsns_kept x pair among (ap (λ (c : Contents). held c x) same ∙ had);
        other_lsns = λ x off. flushed.other_lsns x off ∙ closing.lsns_kept x;
        entries = λ x among. ⊎_elim (λ kept. inl (kept ∙ ap (λ (c : Contents). held c x) same)) (λ none. inr none) (flushed.entries x among);
        clean = flushed.clean;
        others = λ x off. let is = flushed.others x off in record {
          entry = ⊎_elim (λ kept. inl (kept ∙ ap (λ (c : Contents). held c x) same)) (λ gone. inr (sym (ap (λ (c : Contents). is_dirty c x) same) ∙ gone.0, gone.1)) is.entry;
          dirty = is.dirty ∙ ap (λ (c : Contents). is_dirty c x) same;
        };
      }

      module _ (start file : List ℕ) (replaced : AreReplaced p objects pairs start file) (slots : AreOf after.slots file) where
        pub together_laid : IsLaidOn before start → IsLaidOn after file
        together_laid laid = record {
          slots = slots;
          clean = λ y other clean there. elim (cases_Bool (is_among y objects)) [
            | inl among ↦
                let had = ⊎_elim (λ kept. sym kept ∙ there) (λ none. none_some (held after.cache y) other none there) (together_flushed.entries y among) in
                replaced.each y (cached.each y other had).0 among ∙ cached_is before.cache y other had
            | inr off ↦
                let was = together_flushed.others y off in
                let had = ⊎_elim (λ kept. sym kept ∙ there) (λ gone. none_some (held after.cache y) other gone.1 there) was.entry in
                replaced.others y (cached.each y other had).0 off ∙ laid.clean y other (sym was.dirty ∙ clean) had
          ];
        }

      module _ (new : Disk)
          (any : (slots : SlotsView) (xs : List ℕ) (cells : ℕ → Cell) (a b : List ℕ) → AreOf slots a → AreReady slots a xs cells → KeepsButGatesOf slots xs a b → AreOldOrNew slots.params xs cells a b)
          (opens : (slots : SlotsView) (xs : List ℕ) (cells : ℕ → Cell) (a b : List ℕ) → AreOf slots a → AreReady slots a xs cells → KeepsButGatesOf slots xs a b → AreOpened slots xs b → (x : ℕ) → x < slots.params.objects → IsTrue (is_among x xs) → cell_of x b ≡ cells x)
          (holds : (slots then : SlotsView) (xs : List ℕ) (cells : ℕ → Cell) (a b : List ℕ) → AreOf slots a → AreReady slots a xs cells → KeepsButGatesOf slots xs a b → AreOpened slots xs b → AreHeld slots then xs cells → AreOf then b)
          (second : Runs (In Objects (KeepsButGatesOf mid.slots objects)) Same here new) (in_slots : AreHeld mid.slots after.slots objects (cached_in mid.cache)) where
        pub together_replaced : (old.tells_files → AreOf before.slots (old.reads Objects) → IsUnseen p (old.reads Objects) (here.reads Objects)) → (old.tells_files → IsLaidOn before (old.reads Objects) → IsLaidOn mid (here.reads Objects))
            → (here.tells_files → AreOf mid.slots (here.reads Objects) → AreOpened mid.slots objects (new.reads Objects))
            → old.tells_files → IsLaidOn before (old.reads Objects) → IsLaidOn after (new.reads Objects) × AreReplaced p objects pairs (old.reads Objects) (new.reads Objects)
        together_replaced unseen laid opened told are =
            let told_here = run.time.files_told.0 told in
            let there = (laid told are).slots in
            let was = unseen told are.slots in
            let keeps = (second.reads told_here).changed in
            let all_open = opened told_here there in
            let either = any mid.slots objects pairs (here.reads Objects) (new.reads Objects) there (ready told) keeps in
            let in_pairs = subst (λ (c : Contents). AreHeld mid.slots after.slots objects (cached_in c)) same in_slots in
            let slots = holds mid.slots after.slots objects pairs (here.reads Objects) (new.reads Objects) there (ready told) keeps all_open in_pairs in
            let objects_are = ap (λ (q : Params). q.objects) params_are in
            let replaced : AreReplaced p objects pairs (old.reads Objects) (new.reads Objects) = record {
              each = λ x below among. opens mid.slots objects pairs (here.reads Objects) (new.reads Objects) there (ready told) keeps all_open x (omega (arith, below, objects_are)) among;
              others = λ x below off. either.others x (omega (arith, below, objects_are)) off ∙ was.cells x below;
            } in
            (together_laid (old.reads Objects) (new.reads Objects) replaced slots are, replaced)
