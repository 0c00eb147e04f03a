-- The turns that log nothing after a record, one after the other.
use Rattle.std.proofs.Common.{◌≡◌, ◌∙◌, sym, ap, subst, ℕ, ◌+◌, ◌<◌, Bool, true, false, ◌&&◌, nat_lt, List, [], length, refl, arith, inl, inr, ⊎_elim}
use Rattle.std.specs.List.Sorted.{IsStrictlyIncreasing}
use Rattle.std.specs.Prelude.{IsTrue}
use Rattle.std.proofs.lemmas.Bool.{cases_Bool, and_from, cond-false, lt-ltb, le-ltb}
use Rattle.disk_model.specs.Disk.{Files, Disk, IsDisk, IsSettled}
use Rattle.disk_model.specs.Moments.{started}
use Rattle.disk_model.specs.declared.machine.FileNo.TheVariants.{Objects}
use Rattle.dirty_cache.specs.Contents.{AreDirty}
use Rattle.write_graph.specs.Graph.{lsns}
use Rattle.oper_core.specs.Meaning.{IsSmall, Meaning}
use Rattle.oper_core.specs.declared.bounds.Bounds.{Bounds}
use Rattle.formats.specs.Objects.{bounds_of}
use Rattle.formats.specs.declared.params.Params.{Params}
use Rattle.explain_core.specs.RoundGates.{Gate, gate_step}
use Rattle.explain_core.specs.KeptLog.{kept_stable, run_zero, turns_kept}
use Rattle.explain_core.specs.TurnLaws.{run_join, run_install, turns_none}
use Rattle.explain_core.specs.Turns.{dirty_in, has_thin, is_above, is_over, thin_turn, must_install, turns, waiting_in}
use Rattle.explain_core.specs.Sound.{IsSound}
use Rattle.explain_core.specs.World.{World, Step, step, run, IsAllStable}
use Rattle.explain_core.specs.World.Step.{Removal}
use Rattle.explain_core.specs.declared.marks.Marks.{Marks}
use Rattle.standing.specs.Moments.{TakesSome, moments_none, moments_install, moments_turns}
use Rattle.standing.specs.OneStable.{small_store}
use Rattle.standing.specs.Standing.{FilesShow}
use Rattle.running_store.specs.Calls.Beside.{IsOnObjectsAlone, beside_none, beside_twice}
use Rattle.running_store.specs.Calls.{IsCall, Never, call_none, call_twice}
use Rattle.running_store.specs.Counted.{entries_counted}
use Rattle.running_store.specs.Parts.{Volatile, ShowsVolatile, VolatileShows}
use Rattle.running_store.specs.StoreView.{StoreView}
use Rattle.running_store.specs.Taking.Ending.{Done}
use Rattle.cache_manager.specs.InstallCourses.{removals}
use Rattle.cache_manager.specs.ThinShown.{by_turn}
use Rattle.redo_pass.specs.Progress.{IsLimiting, IsLimited}
use Rattle.redo_pass.proofs.Ends.{at}

gate_next : {O : Type 0} (m : Meaning O) (w : World O) (g : Gate) → (step m w (gate_step g)).next ≡ w.next
unfolding step
gate_next m w g = refl

removal_next : {O : Type 0} (m : Meaning O) (w : World O) (node : ℕ → Bool) → (step m w (Removal node)).next ≡ w.next
unfolding step
removal_next m w node = refl

thin_next : {O : Type 0} (m : Meaning O) (most : ℕ) (v : World O) → (run m v (thin_turn m most v)).next ≡ v.next
thin_next m most v = by_turn m (λ u. u.next ≡ v.next) (λ u g same. gate_next m u g ∙ same) (λ u node same. removal_next m u node ∙ same) most v refl

never : (b : Bool) → (b && false) ≡ false
never true = refl
never false = refl

run_none : {O : Type 0} (m : Meaning O) (w : World O) → run m w [] ≡ w
unfolding run
run_none m w = refl

-- a settled machine's files and a store that show a sound world, whose members are all stable
pub store_shows_now : {O : Type 0} (m : Meaning O) (p : Params) (d : Disk) (it : Volatile) (w : World O) → d.tells_files → IsSettled d → IsSound m w → IsAllStable w → FilesShow m p d.reads w → ShowsVolatile m p (d.reads Objects) it w
    → VolatileShows m p d it w
store_shows_now m p d it w told settled sound stable files shows = record { told = told; settled = settled; sound = sound; alone = stable.1; store = shows; files = files }

must : {O : Type 0} (m : Meaning O) (marks : Marks) (v : World O) → is_over m marks v ≡ true → has_thin m v ≡ true → IsTrue (must_install m marks v)
must m marks v over thin = and_from (is_over m marks v) (has_thin m v) over thin

module _ {O : Type 0} (m : Meaning O) (p : Params) (marks : Marks) where
  -- what a crash leaves of a turn that logs nothing is what it leaves of one turn of the redo
  pub one_moments : (mid new : Disk) (v : World O) → is_over m marks v ≡ true → has_thin m v ≡ true → TakesSome m p mid new v (thin_turn m marks.most v) → TakesSome m p mid new v (turns m marks 1 v)
  one_moments mid new v over thin some = moments_install m p mid new v marks (must m marks v over thin) some

  -- and where no node is thin, it is what it leaves of none
  pub thin_moments : (mid new : Disk) (v : World O) → is_over m marks v ≡ true → TakesSome m p mid new v (thin_turn m marks.most v) → (c : ℕ) × TakesSome m p mid new v (turns m marks c v)
  thin_moments mid new v over some = elim (cases_Bool (has_thin m v)) [
    | inl thin ↦ (1, one_moments mid new v over thin some)
    | inr none ↦ (0, subst (λ (l : List (Step O)). TakesSome m p mid new v l) (cond-false (has_thin m v) _ [] none ∙ sym (turns_none m marks v)) some)
  ]

  module _ (w : World O) where
    -- none was installed yet
    pub limiting_none : (files : Files) (it : Volatile) → FilesShow m p files w → ShowsVolatile m p (files Objects) it w → IsLimiting m p files it marks w
    limiting_none files it files_show store_shows = record {
      turned = 0;
      shown = record {
        files_show = subst (λ (v : World O). FilesShow m p files v) (run_zero m marks w) files_show;
        store_shows = subst (λ (v : World O). ShowsVolatile m p (files Objects) it v) (run_zero m marks w) store_shows;
      };
      next = ap (λ (v : World O). v.next) (sym (run_zero m marks w));
    }

    pub takes_none : (old : Disk) → IsDisk old → old.tells_moments → IsSettled old → FilesShow m p old.reads w → (steps : List (Step O)) → TakesSome m p old old w steps
    takes_none old disk told settled files_show steps =
        moments_none m p old old w steps (started old _ (λ c s left. record {
          silent = disk.said_now told c s left;
          holds = subst (λ (f : Files). FilesShow m p f w) (λ i file. sym (settled file told c s left) i) files_show;
        }))

    -- few are dirty, and few wait
    pub limited_few : (files : Files) (it : Volatile) (so : IsLimiting m p files it marks w) → is_over m marks (at m marks w so.turned) ≡ false → IsLimited m p files it marks w
    limited_few files it so few = record { limiting = so; enough = ap (λ (b : Bool). b && has_thin m (at m marks w so.turned)) few }

-- So many objects are dirty in the cache, and so many entries are in the graph: so it is above the marks where the world is.
pub over_is : {O : Type 0} (m : Meaning O) (p : Params) (marks : Marks) (file : List ℕ) (it : Volatile) (w : World O) (dirty waiting : ℕ) → IsSound m w → ShowsVolatile m p file it w
    → ((listed : List ℕ) → AreDirty it.objects.cache listed → dirty_in m w ≡ length listed) → (listed : List ℕ) × AreDirty it.objects.cache listed × (dirty ≡ length listed)
    → IsStrictlyIncreasing (lsns it.entries) → waiting ≡ length it.entries → is_above marks dirty waiting ≡ is_over m marks w
over_is m p marks file it w dirty waiting sound shows counts are rising held =
    let dirty_are : dirty ≡ dirty_in m w = are.2 ∙ sym (counts are.0 are.1) in
    let waiting_are : waiting ≡ waiting_in w = held ∙ entries_counted m w sound p file it shows rising in
    λ i. is_above marks (dirty_are i) (waiting_are i)

-- Such turns were taken, one after the other: some turns of the redo of each world that was shown.
pub record HasLimited {O : Type 0} (meaning : Bounds → Meaning O) (marks : Marks) (old mid : Disk) (before now : StoreView) : Type 0 where
  pub call : IsCall meaning old mid before now 0 Never Done
  pub beside : IsOnObjectsAlone old mid before now
  pub shown : (p : Params) (w : World O) → VolatileShows (meaning (bounds_of p)) p old before.parts.volatile w → IsAllStable w
      → (so : IsLimiting (meaning (bounds_of p)) p mid.reads now.parts.volatile marks w) × (old.tells_moments → TakesSome (meaning (bounds_of p)) p old mid w (turns (meaning (bounds_of p)) marks so.turned w))

module _ {O : Type 0} {meaning : Bounds → Meaning O} {marks : Marks} {old : Disk} {before : StoreView} where
  pub limited_start : IsDisk old → before.broken ≡ false → HasLimited meaning marks old old before before
  limited_start lawful fine = record {
    call = call_none meaning old before Never lawful fine;
    beside = beside_none old before lawful;
    shown = λ p w shows stable.
        let m = meaning (bounds_of p) in
        let so = limiting_none m p marks w old.reads before.parts.volatile shows.files shows.store in
        (so, λ told. takes_none m p marks w old lawful told shows.settled shows.files (turns m marks so.turned w));
  }

  module _ {mid : Disk} {now : StoreView} (so_far : HasLimited meaning marks old mid before now)
      (sound : (b : Bounds) (w : World O) (marks : Marks) (n : ℕ) → IsSmall b → IsSound (meaning b) w → IsAllStable w → IsSound (meaning b) (run (meaning b) w (turns (meaning b) marks n w)))
      (over : (p : Params) (w : World O) → IsSound (meaning (bounds_of p)) w → ShowsVolatile (meaning (bounds_of p)) p (mid.reads Objects) now.parts.volatile w → is_over (meaning (bounds_of p)) marks w ≡ true) where
    stable_at : (p : Params) (w : World O) (n : ℕ) → IsAllStable w → IsAllStable (at (meaning (bounds_of p)) marks w n)
    stable_at p w n stable = kept_stable w (at (meaning (bounds_of p)) marks w n) (turns_kept (meaning (bounds_of p)) marks n w) stable

    -- the store shows the world after these turns
    shown_at : (p : Params) (w : World O) → VolatileShows (meaning (bounds_of p)) p old before.parts.volatile w → IsAllStable w → (so : IsLimiting (meaning (bounds_of p)) p mid.reads now.parts.volatile marks w)
        → VolatileShows (meaning (bounds_of p)) p mid now.parts.volatile (at (meaning (bounds_of p)) marks w so.turned)
    shown_at p w shows stable so =
        let m = meaning (bounds_of p) in
        store_shows_now m p mid now.parts.volatile (at m marks w so.turned) (so_far.call.quiet.time.files_told.0 shows.told) (⊎_elim (λ failed. absurd failed) (λ kept. kept shows.settled) so_far.call.settled)
        (sound (bounds_of p) w marks so.turned (small_store p (old.reads Objects) shows.files.objects) shows.sound stable) (stable_at p w so.turned stable) so.shown.files_show so.shown.store_shows

    module _ {new : Disk} (thin : mid.tells_moments → (p : Params) (w : World O) → VolatileShows (meaning (bounds_of p)) p mid now.parts.volatile w → IsAllStable w
        → TakesSome (meaning (bounds_of p)) p mid new w (thin_turn (meaning (bounds_of p)) marks.most w)) where
      -- what a crash leaves of one more call
      pub limited_moments : old.tells_moments → (p : Params) (w : World O) → VolatileShows (meaning (bounds_of p)) p old before.parts.volatile w → IsAllStable w
          → (turned : ℕ) × TakesSome (meaning (bounds_of p)) p old new w (turns (meaning (bounds_of p)) marks turned w)
      limited_moments told p w shows stable =
          let m = meaning (bounds_of p) in
          let first = so_far.shown p w shows stable in
          let so = first.0 in
          let v = at m marks w so.turned in
          let more = thin_moments m p marks mid new v (over p v (shown_at p w shows stable so).sound so.shown.store_shows) (thin (so_far.call.quiet.time.moments_told.0 told) p v (shown_at p w shows stable so) (stable_at p w so.turned stable)) in
          (so.turned + more.0, moments_turns m p old mid new w marks so.turned more.0 (so_far.call.quiet.said shows.told) (first.1 told) more.1)

      module _ (n : ℕ) (after : StoreView) (counts : (p : Params) (w : World O) → VolatileShows (meaning (bounds_of p)) p mid now.parts.volatile w → IsAllStable w → (nat_lt 0 n ≡ has_thin (meaning (bounds_of p)) w)
          × (n ≡ removals (thin_turn (meaning (bounds_of p)) marks.most w)))
          (leaves : (p : Params) (w : World O) → VolatileShows (meaning (bounds_of p)) p mid now.parts.volatile w → IsAllStable w → VolatileShows (meaning (bounds_of p)) p new after.parts.volatile (run (meaning (bounds_of p)) w (thin_turn (meaning (bounds_of p)) marks.most w))) where
        -- whether a node was thin, and the world after the turn
        tended : (p : Params) (w : World O) → VolatileShows (meaning (bounds_of p)) p old before.parts.volatile w → IsAllStable w → (so : IsLimiting (meaning (bounds_of p)) p mid.reads now.parts.volatile marks w)
            → (nat_lt 0 n ≡ has_thin (meaning (bounds_of p)) (at (meaning (bounds_of p)) marks w so.turned))
            × VolatileShows (meaning (bounds_of p)) p new after.parts.volatile (run (meaning (bounds_of p)) (at (meaning (bounds_of p)) marks w so.turned) (thin_turn (meaning (bounds_of p)) marks.most (at (meaning (bounds_of p)) marks w so.turned)))
        tended p w shows stable so =
            let v = at (meaning (bounds_of p)) marks w so.turned in
            let here = shown_at p w shows stable so in
            let all = stable_at p w so.turned stable in
            ((counts p v here all).0, leaves p v here all)

        -- there was none
        pub limited_last : n ≡ 0 → (p : Params) (w : World O) → VolatileShows (meaning (bounds_of p)) p old before.parts.volatile w → IsAllStable w → IsLimited (meaning (bounds_of p)) p new.reads after.parts.volatile marks w
        limited_last none p w shows stable =
            let m = meaning (bounds_of p) in
            let so = (so_far.shown p w shows stable).0 in
            let v = at m marks w so.turned in
            let is = tended p w shows stable so in
            let off : has_thin m v ≡ false = sym is.0 ∙ le-ltb 0 n (omega (arith, none)) in
            let here = subst (λ (u : World O). VolatileShows m p new after.parts.volatile u) (ap (run m v) (cond-false (has_thin m v) _ [] off) ∙ run_none m v) is.1 in
            record {
              limiting = record { turned = so.turned; shown = record { files_show = here.files; store_shows = here.store }; next = so.next };
              enough = ap (λ (b : Bool). is_over m marks v && b) off ∙ never (is_over m marks v);
            }

        -- or some were installed: that is one turn more
        pub limited_more : 0 < n → IsCall meaning mid new now after 0 Never Done → IsOnObjectsAlone mid new now after → HasLimited meaning marks old new before after
        limited_more some call beside = record {
          call = call_twice meaning old mid new before now after 0 0 Never Never Done so_far.call call;
          beside = beside_twice old mid new before now after (λ set. so_far.call.broken.0 set) so_far.beside beside;
          shown = λ p w shows stable.
              let m = meaning (bounds_of p) in
              let first = so_far.shown p w shows stable in
              let so = first.0 in
              let v = at m marks w so.turned in
              let above = over p v (shown_at p w shows stable so).sound so.shown.store_shows in
              let is = tended p w shows stable so in
              let thin_there : has_thin m v ≡ true = sym is.0 ∙ lt-ltb 0 n some in
              let same : run m v (thin_turn m marks.most v) ≡ at m marks w (so.turned + 1) = sym (run_install m marks v (must m marks v above thin_there)) ∙ sym (run_join m marks so.turned 1 w) in
              let here = subst (λ (u : World O). VolatileShows m p new after.parts.volatile u) same is.1 in (
                record {
                  turned = so.turned + 1;
                  shown = record { files_show = here.files; store_shows = here.store };
                  next = ap (λ (u : World O). u.next) (sym same) ∙ thin_next m marks.most v ∙ so.next;
                },
                λ told. moments_turns m p old mid new w marks so.turned 1 (so_far.call.quiet.said shows.told) (first.1 told)
                    (one_moments m p marks mid new v above thin_there (thin (so_far.call.quiet.time.moments_told.0 told) p v (shown_at p w shows stable so) (stable_at p w so.turned stable))),
              );
        }
