use Rattle.std.proofs.Common.{◌∙◌, All, List, ℕ, inl, inr, refl, subst, sym, arith}
use Rattle.std.proofs.lemmas.Bool.{cases_Bool, or_parts}
use Rattle.std.proofs.lemmas.List.{take_all}
use Rattle.disk_model.specs.Disk.{Files, In, IsSettled}
use Rattle.disk_model.specs.Moments.{runs_none, runs_then_stays}
use Rattle.disk_model.specs.declared.machine.FileNo.TheVariants.{Objects}
use Rattle.stable_objects.specs.SlotsView.{AreOf, layout_of}
use Rattle.stable_objects.specs.SpareLaws.{closing_none, closing_twice, gates_run, keeps_none, sync_settles}
use Rattle.stable_objects.specs.Spares.{IsSpareGate, KeepsButGates}
use Rattle.running_store.specs.Laid.{HasClosedSpare}
use Rattle.running_store.proofs.PrepareLemmas.{stays_closed}
use Rattle.running_store.proofs.SetLemmas.{all_next}
use Rattle.running_store.proofs.objects.Objects.close_spares.Goals as goal

pub loop-object-init : goal.loop-object-init
loop-object-init g c =
    let slots = c.args.self.now.slots in
    record {
      runs = runs_none (g.M.Machine.disk c.args.machine.now) (In Objects (KeepsButGates slots)) (λ files. record { changed = keeps_none (layout_of slots) (IsSpareGate slots) (files Objects); others = λ other ne. refl }) (g.met.M.Machine.lawful c.args.machine.now);
      slots = closing_none slots;
      cache = refl;
      closed = λ k d below. absurd (omega (arith, below));
      are = λ told are. are;
      idle = λ none settled. settled;
    }

pub loop-object-preserved : goal.loop-object-preserved
loop-object-preserved g c =
    let inv = c.loop-object.invariant in
    record {
      runs = gates_run _ _ _ _ _ inv.slots inv.runs c.close_spare.ensures.runs;
      slots = closing_twice _ _ _ inv.slots c.close_spare.ensures.slots;
      cache = c.close_spare.ensures.cache ∙ inv.cache;
      closed = all_next (HasClosedSpare c.loop-object.self) (HasClosedSpare c.close_spare.new.self) c.args.objects.now c.loop-object.object-index
          (λ x. stays_closed c.loop-object.self c.close_spare.new.self x c.close_spare.ensures.slots c.close_spare.ensures.cache) inv.closed c.loop-object-test.true c.in_ok-written.ensures.closed;
      are = λ told are. c.in_ok-written.ensures.are (inv.runs.time.files_told.0 told) (inv.are told are);
      idle = λ none settled.
          let parts = or_parts _ _ none in
          subst (λ m. IsSettled (g.M.Machine.disk m)) (sym (c.in_ok-written.ensures.idle parts.1)) (inv.idle parts.0 settled);
    }

pub returns-in_err-written-clause-runs : goal.returns-in_err-written-clause-runs
returns-in_err-written-clause-runs g c = let inv = c.loop-object.invariant in gates_run _ _ _ _ _ inv.slots inv.runs c.close_spare.ensures.runs

pub returns-in_err-written-clause-slots : goal.returns-in_err-written-clause-slots
returns-in_err-written-clause-slots g c = closing_twice _ _ _ c.loop-object.invariant.slots c.close_spare.ensures.slots

pub returns-in_err-written-clause-cause : goal.returns-in_err-written-clause-cause
returns-in_err-written-clause-cause g c is_err below = let risen = c.in_err-written.ensures.cause refl below in omega (arith, risen, c.loop-object.invariant.runs.time.disk_faults)

pub returns-in_err-sync_written-clause-runs : goal.returns-in_err-sync_written-clause-runs
returns-in_err-sync_written-clause-runs g c = runs_then_stays _ _ _ _ c.loop-object.invariant.runs c.sync_written.ensures.kept

pub returns-in_err-sync_written-clause-cause : goal.returns-in_err-sync_written-clause-cause
returns-in_err-sync_written-clause-cause g c is_err below = let risen = c.in_err-sync_written.ensures.cause refl below in omega (arith, risen, c.loop-object.invariant.runs.time.disk_faults)

pub returns-clause-runs : goal.returns-clause-runs
returns-clause-runs g c = runs_then_stays _ _ _ _ c.loop-object.invariant.runs c.sync_written.ensures.kept

pub returns-clause-are : goal.returns-clause-are
returns-clause-are g c told are =
    let inv = c.loop-object.invariant in
    subst (λ (f : Files). AreOf c.loop-object.self.slots (f Objects)) (sym (c.sync_written.ensures.kept.reads (inv.runs.time.files_told.0 told))) (inv.are told are)

pub returns-clause-settled : goal.returns-clause-settled
returns-clause-settled g c settled =
    let inv = c.loop-object.invariant in
    elim (cases_Bool c.loop-object.written) [
      | inl wrote ↦ sync_settles _ _ _ _ settled inv.runs c.sync_written.ensures.kept (c.in_ok-sync_written.ensures.settled wrote)
      | inr none ↦ subst (λ m. IsSettled (g.M.Machine.disk m)) (sym (c.sync_written.ensures.idle none)) (inv.idle none settled)
    ]

pub returns-clause-closed : goal.returns-clause-closed
returns-clause-closed g c =
    subst (λ (l : List ℕ). All (HasClosedSpare c.loop-object.self) l) (take_all c.loop-object.object-index c.args.objects.now c.loop-object-test.false) c.loop-object.invariant.closed
