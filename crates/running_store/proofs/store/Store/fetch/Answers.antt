use Rattle.std.proofs.Common.{◌≡◌, ◌∙◌, ◌<◌, Bool, true, false, ap, sym, subst}
use Rattle.std.proofs.lemmas.Result.{err_from_is_err_and}
use Rattle.disk_model.specs.Disk.{Disk, Rises, Stays}
use Rattle.disk_model.specs.Moments.{stays_here}
use Rattle.running_store.specs.Calls.Faults.{has_failed, is_read_fault}
use Rattle.running_store.specs.Calls.Fetches.{IsFetch}
use Rattle.running_store.specs.Laid.{Laid}
use Rattle.running_store.specs.Parts.{parts}
use Rattle.running_store.specs.StoreView.{IsUsable, StoreView, store_params, view_of}
use Rattle.running_store.specs.Parts.Unchanged.{HasRead}
use Rattle.running_store.proofs.FetchLemmas.{handed_on, kept_read, looked_read, read_fails}
use Rattle.running_store.proofs.Inside.{fetch_inside, fetch_usable, flag_after, flag_before, usable_before}
use Rattle.running_store.proofs.store.Store.fetch.Given.{Over}
use Rattle.running_store.proofs.store.Store.fetch.Goals.{After-is_cached, After-keep, After-note, then-holds, else-holds}
use Rattle.running_store.proofs.store.Store.fetch.Goals as goal

module _ (g : Over) (c : After-is_cached g) where
  abbrev old : Disk
  old = g.M.Machine.disk c.args.machine.now

  looked : (new : Disk) → Stays old new → HasRead old new c.self.inside.objects c.is_cached.new.self
  looked new stays =
      let is = c.is_cached.ensures in
      looked_read old new c.self.inside.objects c.is_cached.new.self stays is.slots is.entries is.fetched is.laid

  slots_are : c.is_cached.new.self.slots ≡ c.args.self.now.parts.volatile.objects.slots
  slots_are = c.is_cached.ensures.slots ∙ ap (λ (s : StoreView). s.parts.volatile.objects.slots) c.self.view_is

  module _ (new : Disk) (later : Laid) (flag : Bool) (read : HasRead old new c.self.inside.objects later) where
    called : (failed : Bool) → flag ≡ failed → IsFetch old new c.args.self.now (view_of c.self.inside.log later c.self.inside.graph.entries c.self.inside.identities flag) (failed ≡ true)
    called = fetch_inside old new c.self.inside.log c.self.inside.objects later c.self.inside.graph.entries c.self.inside.identities c.self.inside.broken flag c.args.self.now c.self.view_is read

    usable : IsUsable (parts c.self.inside.log later c.self.inside.graph.entries) c.self.inside.identities
    usable =
        fetch_usable old new c.self.inside.log c.self.inside.objects later c.self.inside.graph.entries c.self.inside.identities c.self.inside.broken flag c.args.self.now c.self.view_is read
        (usable_before c.self.inside.log c.self.inside.objects c.self.inside.graph.entries c.self.inside.identities c.self.inside.broken c.args.self.now c.self.view_is c.self.invariant c.requires.unbroken)

flag : (g : Over) (c : After-note g) → c.note.new.broken ≡ has_failed is_read_fault c.read-answer.result
flag g c =
    flag_after c.self.inside.log c.self.inside.objects c.self.inside.graph.entries c.self.inside.identities c.self.inside.broken c.args.self.now c.self.view_is
    c.note.new.broken (has_failed is_read_fault c.read-answer.result) c.requires.unbroken c.note.ensures

kept : (g : Over) (c : After-keep g) → HasRead (g.M.Machine.disk c.args.machine.now) (g.M.Machine.disk c.read-answer.new.machine) c.self.inside.objects c.keep.new.self
kept g c =
    let is = c.read-answer.ensures in
    let held = c.is_cached.ensures in
    let old = g.M.Machine.disk c.args.machine.now in
    let new = g.M.Machine.disk c.read-answer.new.machine in
    kept_read old new c.self.inside.objects c.is_cached.new.self c.keep.new.self c.slots.result.now c.args.object c.in_ok-lsn.lsn c.read-answer.new.into.items c.read-answer.result
    (looked_read old new c.self.inside.objects c.is_cached.new.self is.kept held.slots held.entries held.fetched held.laid) c.slots.ensures (subst (λ (s : StoreView). c.args.object < (store_params s).objects) (sym c.self.view_is) c.requires.below) c.in_ok-lsn.was is.lsn is.value c.keep.ensures.cells c.keep.ensures.fetched

pub returns-then-is_cached-clause-call : goal.returns-then-is_cached-clause-call
returns-then-is_cached-clause-call g c =
    let at = (goal.at.returns-then-is_cached-clause-call g c).After-is_cached in
    let d = g.M.Machine.disk c.args.machine.now in
    called g at d c.is_cached.new.self c.self.inside.broken (looked g at d (stays_here d (g.met.M.Machine.lawful c.args.machine.now))) false
    (flag_before c.self.inside.log c.self.inside.objects c.self.inside.graph.entries c.self.inside.identities c.self.inside.broken c.args.self.now c.self.view_is c.requires.unbroken)

pub invariant_of-self-in_err-lsn : goal.invariant_of-self-in_err-lsn
invariant_of-self-in_err-lsn g c = λ fine.
    let at = (goal.at.invariant_of-self-in_err-lsn g c).After-is_cached in
    let new = g.M.Machine.disk c.read-answer.new.machine in
    usable g at new c.is_cached.new.self c.note.new.broken (looked g at new c.read-answer.ensures.kept)

pub returns-in_err-lsn-clause-call : goal.returns-in_err-lsn-clause-call
returns-in_err-lsn-clause-call g c =
    let at = (goal.at.returns-in_err-lsn-clause-call g c).After-is_cached in
    let new = g.M.Machine.disk c.read-answer.new.machine in
    let set = flag g (goal.at.returns-in_err-lsn-clause-call g c).After-note ∙ ap (has_failed is_read_fault) c.in_err-lsn.was in
    handed_on (g.M.Machine.disk c.args.machine.now) new c.args.self.now _ c.from_residual.result _ c.from_residual.ensures.1
    (called g at new c.is_cached.new.self c.note.new.broken (looked g at new c.read-answer.ensures.kept) _ set)

pub returns-in_err-lsn-clause-cause : goal.returns-in_err-lsn-clause-cause
returns-in_err-lsn-clause-cause g c =
    let e = err_from_is_err_and c.from_residual.result c.from_residual.ensures.1 in
    let new = g.M.Machine.disk c.read-answer.new.machine in
    rw (e.1, e.2) (read_fails (Rises (g.M.Machine.disk c.args.machine.now).disk_faults new.disk_faults) new c.args.self.now.parts.volatile.objects.slots c.slots.result.now c.args.object c.read-answer.result _
    (c.slots.ensures ∙ slots_are g (goal.at.returns-in_err-lsn-clause-cause g c).After-is_cached) c.requires.below c.in_err-lsn.was (λ none. (c.read-answer.ensures.none none).0) c.read-answer.ensures.cause)

pub invariant_of-self-2 : goal.invariant_of-self-2
invariant_of-self-2 g c = λ fine.
    usable g (goal.at.invariant_of-self-2 g c).After-is_cached (g.M.Machine.disk c.read-answer.new.machine) c.keep.new.self c.note.new.broken (kept g (goal.at.invariant_of-self-2 g c).After-keep)

pub returns-clause-call : goal.returns-clause-call
returns-clause-call g c =
    let done : has_failed is_read_fault c.if-holds.result ≡ false = elim c.if-holds.branch [
      | then-holds w ↦ ap (has_failed is_read_fault) w.result-is
      | else-holds w ↦ ap (has_failed is_read_fault) w.result-is
    ] in
    called g (goal.at.returns-clause-call g c).After-is_cached (g.M.Machine.disk c.read-answer.new.machine) c.keep.new.self c.note.new.broken (kept g (goal.at.returns-clause-call g c).After-keep) (has_failed is_read_fault c.if-holds.result)
    (flag g (goal.at.returns-clause-call g c).After-note ∙ ap (has_failed is_read_fault) c.in_ok-lsn.was ∙ sym done)
