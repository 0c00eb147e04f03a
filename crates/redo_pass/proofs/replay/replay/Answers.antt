use Rattle.std.proofs.Common.{◌≡◌, ◌∙◌, ap, sym, subst, List, ℕ}
use Rattle.std.specs.Prelude.{IfErr, OnOk}
use Rattle.disk_model.specs.Disk.{Rises}
use Rattle.disk_model.specs.declared.machine.FileNo.TheVariants.{Objects}
use Rattle.formats.specs.Objects.{bounds_of}
use Rattle.formats.specs.Reading.{FailsBy}
use Rattle.formats.specs.declared.params.Params.{Params}
use Rattle.formats.specs.declared.record.Record.{Record}
use Rattle.formats.specs.declared.record.Record.TheVariants.{Identity}
use Rattle.explain_core.specs.Sound.{IsSound}
use Rattle.explain_core.specs.World.{World}
use Rattle.running_store.specs.Calls.{IsFailed, ending_of_read}
use Rattle.running_store.specs.Laid.LongSlot.{HasLongSlot}
use Rattle.running_store.specs.Parts.{ShowsVolatile}
use Rattle.redo_pass.specs.Replayed.{IsNextRecord, IsReplay, after_record, read_by}
use Rattle.redo_pass.specs.Rising.{IsBelow}
use Rattle.redo_pass.proofs.Leaves.{replay_memory}
use Rattle.redo_pass.proofs.replay.replay.Goals as goal

pub returns-in-Command-clause-replayed : goal.returns-in-Command-clause-replayed
returns-in-Command-clause-replayed g c =
    subst (λ (r : Record g.row.O.Denot). IsReplay (g.M.Machine.disk c.args.machine.now) (g.M.Machine.disk c.replay_command.new.machine) c.args.store.now c.replay_command.new.store (λ k. IsBelow k r)
    (IsFailed (ending_of_read c.replay_command.result))) (sym c.in-Command.is) c.replay_command.ensures.replayed

pub returns-in-Command-clause-shown : goal.returns-in-Command-clause-shown
returns-in-Command-clause-shown g c = λ told.
    let before = c.args.store.now.parts.volatile in
    let after = c.replay_command.new.store.parts.volatile in
    let file = (g.M.Machine.disk c.args.machine.now).reads Objects in
    subst (λ (r : Record g.row.O.Denot). OnOk c.replay_command.result ((p : Params) (w : World g.row.O.Denot) → IsSound (g.O.Oper.meaning (bounds_of p)) w → ShowsVolatile (g.O.Oper.meaning (bounds_of p)) p file before w
    → IsNextRecord w c.args.plan.now.table r → ShowsVolatile (g.O.Oper.meaning (bounds_of p)) p file after (after_record (g.O.Oper.meaning (bounds_of p)) w r))) (sym c.in-Command.is) (c.replay_command.ensures.shown told)

pub returns-in-Command-clause-cause : goal.returns-in-Command-clause-cause
returns-in-Command-clause-cause g c =
    let old = g.M.Machine.disk c.args.machine.now in
    let new = g.M.Machine.disk c.replay_command.new.machine in
    let slots = c.args.store.now.parts.volatile.objects.slots in
    subst (λ (r : Record g.row.O.Denot). IfErr c.replay_command.result (FailsBy (Rises old.disk_faults new.disk_faults) (HasLongSlot new slots (read_by (g.O.Oper.meaning (bounds_of slots.params)) r))))
    (sym c.in-Command.is) c.replay_command.ensures.cause

pub returns-in-Identity-clause-replayed : goal.returns-in-Identity-clause-replayed
returns-in-Identity-clause-replayed g c =
    let d = g.M.Machine.disk c.args.machine.now in
    subst (λ (r : Record g.row.O.Denot). IsReplay d d c.args.store.now c.replay_identity.new.store (λ k. IsBelow k r) ⊥) (sym c.in-Identity.is)
    (replay_memory (g.met.M.Machine.lawful c.args.machine.now) c.requires.unbroken (λ none. none)
    c.replay_identity.ensures.same)

pub returns-in-Identity-clause-shown : goal.returns-in-Identity-clause-shown
returns-in-Identity-clause-shown g c = λ told p w sound shows next.
    let m = g.O.Oper.meaning (bounds_of p) in
    let file = (g.M.Machine.disk c.args.machine.now).reads Objects in
    let after = c.replay_identity.new.store.parts.volatile in
    let is : c.args.record ≡ Identity c.in-Identity.lsn c.in-Identity.object c.as_slice.result.now = c.in-Identity.is ∙ ap (λ (v : List ℕ). Identity c.in-Identity.lsn c.in-Identity.object v) (sym c.as_slice.ensures) in
    subst (λ (r : Record g.row.O.Denot). ShowsVolatile m p file after (after_record m w r)) (sym is)
    (c.in_ok-replay_identity-in-Identity.ensures.shown p file w sound shows (subst (λ (r : Record g.row.O.Denot). IsNextRecord w c.args.plan.now.table r) is next))
