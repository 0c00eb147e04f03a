use Rattle.std.proofs.Common.{◌∙◌, arith, refl, subst, sym, ℕ, ⊎_elim}
use Rattle.std.specs.Prelude.{Some, take}
use Rattle.disk_model.specs.Disk.{Files}
use Rattle.disk_model.specs.Moments.{passes_none, started}
use Rattle.disk_model.specs.Silent.{IsSilent}
use Rattle.running_store.specs.Steps.Appended.{next_lsn}
use Rattle.running_store.specs.Taking.Ending.{Done}
use Rattle.store_engine.specs.Engine.{forced_in}
use Rattle.store_engine.specs.Grouping.{ungrouped}
use Rattle.store_engine.specs.ListLaws.{all_hold}
use Rattle.store_engine.specs.Lists.{ending_of}
use Rattle.store_engine.specs.Store.{Stands, meaning_in}
use Rattle.transactions.specs.Room.{HasRoomOf}
use Rattle.transactions.proofs.Appending.{cut_lazily, still_forced, still_images}
use Rattle.transactions.proofs.Committed.{is_true, not_true}
use Rattle.transactions.proofs.RoomLemmas.{cut_off}
use Rattle.transactions.proofs.lazily.commit_lazily.Goals as goal

pub returns-then-not-has_room-clause-time : goal.returns-then-not-has_room-clause-time
returns-then-not-has_room-clause-time g c = passes_none (g.M.Machine.disk c.args.machine.now)

pub returns-then-not-has_room-clause-left : goal.returns-then-not-has_room-clause-left
returns-then-not-has_room-clause-left g c = λ p commands holds accepted bytes lsns. (
  holds,
  refl,
  λ room. not_true c.has_room.result c.if-not-has_room.true (c.has_room.ensures.seen (subst (λ (n : ℕ). HasRoomOf c.args.engine.now n) (sym bytes) room)),
)

pub returns-then-not-has_room-clause-images : goal.returns-then-not-has_room-clause-images
returns-then-not-has_room-clause-images g c = λ told p commands holds accepted bytes lsns.
    let d = g.M.Machine.disk c.args.machine.now in
    started d (IsSilent (λ (files : Files). Stands g.O.Oper.meaning p files (take (forced_in c.args.engine.now) commands)) d.said)
    (λ files said left. record { silent = (g.met.M.Machine.lawful c.args.machine.now).said_now told files said left; holds = (c.engine_stands.ensures p commands holds).images.1 told files said left })

pub returns-in-Err-clause-left : goal.returns-in-Err-clause-left
returns-in-Err-clause-left g c = λ p commands holds accepted bytes lsns.
    let disk = g.M.Machine.disk in
    let adds = c.in-Err.ensures.adds p commands holds accepted in
    let room = subst (λ (n : ℕ). HasRoomOf c.args.engine.now n) bytes (c.has_room.ensures.roomy (is_true c.has_room.result c.if-not-has_room.false)) in
    let next = next_lsn (meaning_in g.O.Oper.meaning p) p (disk c.args.machine.now) c.args.engine.now.parts (ungrouped holds.world) holds.shows.shows in (
      cut_off g.O.Oper.meaning p (disk c.args.machine.now) c.args.engine.now holds.world holds.shows c.args.ops.now.items room (omega (arith, next, lsns)) (disk c.run_all.new.machine) c.run_all.new.engine commands
          c.in-Err.e (c.in-Err.ensures.unrefused p commands holds accepted) adds,
      cut_lazily g.O.Oper.meaning p (disk c.args.machine.now) (disk c.run_all.new.machine) c.args.engine.now c.run_all.new.engine commands c.args.ops.now.items holds room lsns (ending_of (Some c.in-Err.e)) adds,
    )

pub returns-in-Err-clause-images : goal.returns-in-Err-clause-images
returns-in-Err-clause-images g c = λ told p commands holds accepted bytes lsns.
    let disk = g.M.Machine.disk in
    let room = subst (λ (n : ℕ). HasRoomOf c.args.engine.now n) bytes (c.has_room.ensures.roomy (is_true c.has_room.result c.if-not-has_room.false)) in
    still_images g.O.Oper.meaning p (disk c.args.machine.now) (disk c.run_all.new.machine) c.args.engine.now c.run_all.new.engine commands c.args.ops.now.items holds room lsns (ending_of (Some c.in-Err.e))
    (c.in-Err.ensures.adds p commands holds accepted) (λ files w. c.image_stands.ensures p files w) told

pub returns-clause-left : goal.returns-clause-left
returns-clause-left g c = λ p commands holds accepted bytes lsns.
    let disk = g.M.Machine.disk in
    let adds = c.in_default.ensures.adds p commands holds accepted in
    let room = subst (λ (n : ℕ). HasRoomOf c.args.engine.now n) bytes (c.has_room.ensures.roomy (is_true c.has_room.result c.if-not-has_room.false)) in (
      all_hold g.O.Oper.meaning (disk c.args.machine.now) (disk c.run_all.new.machine) c.args.engine.now c.run_all.new.engine p holds.world commands c.args.ops.now.items adds,
      still_forced g.O.Oper.meaning p (disk c.args.machine.now) (disk c.run_all.new.machine) c.args.engine.now c.run_all.new.engine commands c.args.ops.now.items holds room lsns Done adds (λ failed. failed)
          (⊎_elim (λ failed. absurd failed) (λ has. has) adds.kept),
    )

pub returns-clause-images : goal.returns-clause-images
returns-clause-images g c = λ told p commands holds accepted bytes lsns.
    let disk = g.M.Machine.disk in
    let room = subst (λ (n : ℕ). HasRoomOf c.args.engine.now n) bytes (c.has_room.ensures.roomy (is_true c.has_room.result c.if-not-has_room.false)) in
    still_images g.O.Oper.meaning p (disk c.args.machine.now) (disk c.run_all.new.machine) c.args.engine.now c.run_all.new.engine commands c.args.ops.now.items holds room lsns Done
    (c.in_default.ensures.adds p commands holds accepted) (λ files w. c.image_stands.ensures p files w) told

pub returns-in-Err-clause-time : goal.returns-in-Err-clause-time
returns-in-Err-clause-time g c = c.run_all.ensures.calls.call.time

pub returns-clause-time : goal.returns-clause-time
returns-clause-time g c = c.run_all.ensures.calls.call.time

pub returns-in-Err-clause-group : goal.returns-in-Err-clause-group
returns-in-Err-clause-group g c = c.run_all.ensures.calls.call.group ∙ c.requires.alone

pub returns-clause-group : goal.returns-clause-group
returns-clause-group g c = c.run_all.ensures.calls.call.group ∙ c.requires.alone
