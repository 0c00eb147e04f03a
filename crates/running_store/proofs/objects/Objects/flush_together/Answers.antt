use Rattle.std.proofs.Common.{◌<◌, All, List, ℕ, sym, subst}
use Rattle.disk_model.specs.Disk.{Any, Disk, In, IsSettled, LeavesOnly, Runs, Same}
use Rattle.disk_model.specs.declared.machine.FileNo.TheVariants.{Objects}
use Rattle.oper_core.specs.Cell.{Cell}
use Rattle.stable_objects.specs.Ready.{AreOldOrNewSince, AreOpened, AreReady, KeepsButGatesOf}
use Rattle.stable_objects.specs.SlotsView.{AreOf}
use Rattle.running_store.specs.Laid.{AreCached, IsLaidOn, Laid}
use Rattle.running_store.specs.Calls.RoundCalls.{cached_in}
use Rattle.running_store.proofs.OfRounds.Flushed.{all_below, together_any, together_flushed, together_moments, together_replaced, unopened}
use Rattle.running_store.proofs.objects.Objects.flush_together.Given.{Over}
use Rattle.running_store.proofs.objects.Objects.flush_together.Goals.{After-open_gates}
use Rattle.running_store.proofs.objects.Objects.flush_together.Goals as goal

-- the gates are opened
module _ (g : Over) (c : After-open_gates g) where
  abbrev old : Disk
  old = g.M.Machine.disk c.args.machine.now

  abbrev here : Disk
  here = g.M.Machine.disk c.prepare.new.machine

  abbrev new : Disk
  new = g.M.Machine.disk c.open_gates.new.machine

  abbrev before : Laid
  before = c.args.self.now

  abbrev mid : Laid
  mid = c.prepare.new.self

  abbrev objects : List ℕ
  objects = c.args.objects.now

  abbrev pairs : ℕ → Cell
  pairs = cached_in before.cache

  cached : AreCached before.slots.params before.cache
  cached = subst (λ (l : Laid). AreCached l.slots.params l.cache) c.self.view_is c.self.invariant.cached

  run : Runs (In Objects (KeepsButGatesOf mid.slots objects)) Same here new
  run = subst (λ (l : Laid). Runs (In Objects (KeepsButGatesOf l.slots objects)) Same here new) c.self-2.view_is c.open_gates.ensures.runs

  opens : here.tells_moments → IsSettled here → AreOf mid.slots (here.reads Objects) → AreReady mid.slots (here.reads Objects) objects pairs → LeavesOnly here new (AreOldOrNewSince here mid.slots.params objects pairs)
  opens =
      subst (λ (l : Laid). here.tells_moments → IsSettled here → AreOf l.slots (here.reads Objects) → AreReady l.slots (here.reads Objects) objects pairs → LeavesOnly here new (AreOldOrNewSince here l.slots.params objects pairs)) c.self-2.view_is
      (c.open_gates.ensures.any_moment pairs)

  any : Runs (In Objects Any) Same old new
  any =
      let is = c.prepare.ensures in
      let are = c.in_ok-prepare.ensures in
      together_any old here before mid objects is.runs is.slots is.cache c.requires.later c.requires.dirty cached are.closed are.filled new run

  moments : old.tells_moments → IsSettled old → IsLaidOn before (old.reads Objects) → LeavesOnly old new (AreOldOrNewSince old before.slots.params objects pairs)
  moments =
      let is = c.prepare.ensures in
      let are = c.in_ok-prepare.ensures in
      together_moments old here before mid objects is.runs is.slots is.cache c.requires.later c.requires.dirty cached are.closed are.filled new run are.unseen are.laid are.settled is.any_moment opens

pub open_gates-requires : goal.open_gates-requires
open_gates-requires g c =
    let before = c.args.self.now in
    let mid = c.prepare.new.self in
    let is = c.prepare.ensures in
    let are = c.in_ok-prepare.ensures in
    let cached = subst (λ (l : Laid). AreCached l.slots.params l.cache) c.self.view_is c.self.invariant.cached in
    let below =
    all_below (g.M.Machine.disk c.args.machine.now) (g.M.Machine.disk c.prepare.new.machine) before mid c.args.objects.now is.runs is.slots is.cache c.requires.later c.requires.dirty cached are.closed are.filled in
    record { below = subst (λ (l : Laid). All (λ x. x < l.slots.params.objects) c.args.objects.now) (sym c.self-2.view_is) below }

pub returns-in_err-prepare-clause-any_moment : goal.returns-in_err-prepare-clause-any_moment
returns-in_err-prepare-clause-any_moment g c told settled laid =
    let is = c.prepare.ensures in
    unopened (g.M.Machine.disk c.args.machine.now) (g.M.Machine.disk c.prepare.new.machine) c.args.self.now c.prepare.new.self c.args.objects.now is.runs is.slots is.cache (is.any_moment told settled laid.slots)

pub returns-in_err-open_gates-clause-runs : goal.returns-in_err-open_gates-clause-runs
returns-in_err-open_gates-clause-runs g c = any g (goal.at.returns-in_err-open_gates-clause-runs g c).After-open_gates

pub returns-in_err-open_gates-clause-any_moment : goal.returns-in_err-open_gates-clause-any_moment
returns-in_err-open_gates-clause-any_moment g c = moments g (goal.at.returns-in_err-open_gates-clause-any_moment g c).After-open_gates

pub returns-clause-runs : goal.returns-clause-runs
returns-clause-runs g c = any g (goal.at.returns-clause-runs g c).After-open_gates

pub returns-clause-any_moment : goal.returns-clause-any_moment
returns-clause-any_moment g c = moments g (goal.at.returns-clause-any_moment g c).After-open_gates

pub returns-clause-flushed : goal.returns-clause-flushed
returns-clause-flushed g c =
    let is = c.prepare.ensures in
    let are = c.in_ok-prepare.ensures in
    let at = (goal.at.returns-clause-flushed g c).After-open_gates in
    together_flushed (g.M.Machine.disk c.args.machine.now) (g.M.Machine.disk c.prepare.new.machine) c.args.self.now c.prepare.new.self c.args.objects.now is.runs is.slots is.cache c.requires.later c.requires.dirty (cached g at) are.closed are.filled
    c.hold_all.new.self c.hold_all.ensures.flushed

pub returns-clause-replaced : goal.returns-clause-replaced
returns-clause-replaced g c =
    let is = c.prepare.ensures in
    let are = c.in_ok-prepare.ensures in
    let at = (goal.at.returns-clause-replaced g c).After-open_gates in
    let law = c.ready_gates_open_alone.ensures in
    let here = g.M.Machine.disk c.prepare.new.machine in
    let opened =
    subst (λ (l : Laid). here.tells_files → AreOf l.slots (here.reads Objects) → AreOpened l.slots c.args.objects.now ((g.M.Machine.disk c.open_gates.new.machine).reads Objects)) c.self-2.view_is c.in_ok-open_gates.ensures.opened in
    together_replaced (g.M.Machine.disk c.args.machine.now) here c.args.self.now c.prepare.new.self c.args.objects.now is.runs is.slots is.cache c.requires.later c.requires.dirty (cached g at) are.closed are.filled
    c.hold_all.new.self c.hold_all.ensures.flushed (g.M.Machine.disk c.open_gates.new.machine) law.any law.opened law.held (run g at) c.hold_all.ensures.held are.unseen are.laid opened
