use Rattle.std.proofs.Common.{ℕ, ap, inl, inr, subst, sym}
use Rattle.disk_model.specs.Disk.{Disk, Runs, Same, SaysFront}
use Rattle.disk_model.specs.Moments.{passes_twice}
use Rattle.store_engine.specs.Engine.{EngineView}
use Rattle.store_engine.specs.Shipping.{base_of}
use Rattle.shell_base.specs.Status.{IsOfOpened}
use Rattle.shell_base.specs.Notices.{gone}
use Rattle.shell_base.specs.Stops.{IsUndamaged}
use Rattle.shell_base.specs.Store.{IsAttached}
use Rattle.shell_base.specs.StopLaws.{damaged_status, stop_status}
use Rattle.shell_base.specs.FetchLaws.{not_a_fault}
use Rattle.shell_base.specs.HoldLaws.{attached_of, attached_said, told_by}
use Rattle.shell_base.specs.KeepLaws.{keeps_behind, keeps_once, says_once, says_twice}
use Rattle.standby_words.proofs.ShippingLemmas.{ended_counts, ended_early, ended_ship, ended_store, gone_cause, images_gone, images_none, images_part, reader_of, said_gone, said_none, said_part, same_engine, ship_done}
use Rattle.standby_words.proofs.shipping.ship_open.Goals as goal

pub say_frames-requires-clause-reads : goal.say_frames-requires-clause-reads
say_frames-requires-clause-reads g c =
    let same = same_engine c.args.engine.now c.ship.new.self c.ship.ensures.read.engine c.requires (not_a_fault c.ship.new.self.broken (λ e. cc (c.in-Ok.ensures.read.broken.0 e))) in
    reader_of same c.in-Ok.ensures.reader

pub returns-in-Ok-say_frames-clause-done : goal.returns-in-Ok-say_frames-clause-done
returns-in-Ok-say_frames-clause-done g c = λ p commands holds is.
    let same = same_engine c.args.engine.now c.ship.new.self c.ship.ensures.read.engine c.requires (not_a_fault c.ship.new.self.broken (λ e. cc (c.in-Ok.ensures.read.broken.0 e))) in
    ship_done c.in-Ok.reader holds c.ship.ensures.read.kept same c.in-Ok.ensures.reader.from_is c.in-Ok.ensures.cause (says_once (g.M.Machine.disk c.ship.new.machine) (g.M.Machine.disk c.say_frames.new.machine) c.say_frames.ensures.says.says) c.in-Ok-say_frames.ensures.all

pub returns-in-Err-Damaged-say_frames-clause-time : goal.returns-in-Err-Damaged-say_frames-clause-time
returns-in-Err-Damaged-say_frames-clause-time g c =
    let old = g.M.Machine.disk c.args.machine.now in
    let mid = g.M.Machine.disk c.say_frames.new.machine in
    let new = c.end_damaged-in-Err-Damaged-say_frames.new.machine in
    passes_twice old mid (g.M.Machine.disk new) (g.met.M.Machine.lawful new) (says_twice old (g.M.Machine.disk c.ship.new.machine) mid c.ship.ensures.read.kept c.say_frames.ensures.says.says).time c.end_damaged-in-Err-Damaged-say_frames.ensures.time

pub returns-in-Err-Damaged-say_frames-clause-keeps : goal.returns-in-Err-Damaged-say_frames-clause-keeps
returns-in-Err-Damaged-say_frames-clause-keeps g c =
    let old = g.M.Machine.disk c.args.machine.now in
    let mid = g.M.Machine.disk c.say_frames.new.machine in
    keeps_behind old mid (g.M.Machine.disk c.end_damaged-in-Err-Damaged-say_frames.new.machine) (says_twice old (g.M.Machine.disk c.ship.new.machine) mid c.ship.ensures.read.kept c.say_frames.ensures.says.says) c.end_damaged-in-Err-Damaged-say_frames.ensures.keeps

pub returns-in-Err-Damaged-say_frames-clause-store : goal.returns-in-Err-Damaged-say_frames-clause-store
returns-in-Err-Damaged-say_frames-clause-store g c = λ told attached.
    let same = same_engine c.args.engine.now c.ship.new.self c.ship.ensures.read.engine c.requires (not_a_fault c.ship.new.self.broken (λ e. cc (c.in-Ok.ensures.read.broken.0 e))) in
    let stays = c.ship.ensures.read.kept in
    let mid = g.M.Machine.disk c.ship.new.machine in
    let here = subst (λ (e : EngineView). IsAttached mid e) (sym same) (attached_said (g.M.Machine.disk c.args.machine.now) mid c.args.engine.now stays attached) in
    absurd (subst IsUndamaged c.in-Err-Damaged-say_frames.field-0-is (c.in-Err-Damaged-say_frames.ensures.undamaged (stays.time.files_told.0 told) here))

pub returns-in-Err : goal.returns-in-Err
returns-in-Err g c =
    let old = g.M.Machine.disk c.args.machine.now in
    let mid = g.M.Machine.disk c.ship.new.machine in
    let new = g.M.Machine.disk c.say_frames.new.machine in
    let stays = c.ship.ensures.read.kept in
    let same = same_engine c.args.engine.now c.ship.new.self c.ship.ensures.read.engine c.requires (not_a_fault c.ship.new.self.broken (λ e. cc (c.in-Ok.ensures.read.broken.0 e))) in
    record {
      time = passes_twice old mid new (g.met.M.Machine.lawful c.say_frames.new.machine) stays.time c.say_frames.ensures.says.says.time;
      keeps = keeps_once old new (says_twice old mid new stays c.say_frames.ensures.says.says);
      done = λ p commands holds is. absurd (ended_early c.in-Err.stop c.status.ensures (inl is));
      gone = λ p commands holds is. absurd (ended_early c.in-Err.stop c.status.ensures (inr is));
      said = λ p commands holds. said_part c.in-Ok.reader holds stays same c.in-Ok.ensures.reader.from_is c.in-Ok.ensures.cause c.say_frames.ensures.says;
      images = λ p commands holds. images_part c.in-Ok.reader holds stays same c.in-Ok.ensures.reader.from_is c.in-Ok.ensures.cause c.say_frames.ensures.says;
      store = λ told attached. ended_store c.in-Err.stop c.status.ensures (c.in-Err.ensures.undamaged (stays.time.files_told.0 told) (subst (λ (e : EngineView). IsAttached mid e) (sym same) (attached_said old mid c.args.engine.now stays attached)));
      found = subst IsOfOpened (sym c.status.ensures) (stop_status c.in-Err.stop).1;
      status = ended_ship c.in-Err.stop c.status.ensures mid new c.in-Err.ensures.cause;
      faults = ended_counts c.in-Err.stop c.status.ensures old mid new stays.time c.in-Err.ensures.cause;
    }

pub returns-in-Err-Damaged-say_frames-clause-found : goal.returns-in-Err-Damaged-say_frames-clause-found
returns-in-Err-Damaged-say_frames-clause-found g c = (damaged_status c.end_damaged-in-Err-Damaged-say_frames.result c.end_damaged-in-Err-Damaged-say_frames.ensures.status).1

pub returns-in-Ok-say_frames-clause-said : goal.returns-in-Ok-say_frames-clause-said
returns-in-Ok-say_frames-clause-said g c = λ p commands holds. said_part c.in-Ok.reader holds c.ship.ensures.read.kept (same_engine c.args.engine.now c.ship.new.self c.ship.ensures.read.engine c.requires (not_a_fault c.ship.new.self.broken (λ e. cc (c.in-Ok.ensures.read.broken.0 e)))) c.in-Ok.ensures.reader.from_is c.in-Ok.ensures.cause c.say_frames.ensures.says

pub returns-in-Ok-say_frames-clause-images : goal.returns-in-Ok-say_frames-clause-images
returns-in-Ok-say_frames-clause-images g c = λ p commands holds. images_part c.in-Ok.reader holds c.ship.ensures.read.kept (same_engine c.args.engine.now c.ship.new.self c.ship.ensures.read.engine c.requires (not_a_fault c.ship.new.self.broken (λ e. cc (c.in-Ok.ensures.read.broken.0 e)))) c.in-Ok.ensures.reader.from_is c.in-Ok.ensures.cause c.say_frames.ensures.says

pub returns-in-Err-Gone-clause-said : goal.returns-in-Err-Gone-clause-said
returns-in-Err-Gone-clause-said g c = λ p commands holds.
    let cause = gone_cause ℕ _ (base_of c.args.engine.now) c.args.from _ _ c.in-Err-Gone.base c.in-Err-Gone.field-0-is c.in-Err-Gone.ensures.cause in
    let still = ap g.M.Machine.disk (c.ship.ensures.gone cause.0).1 in
    said_gone c.args.from holds cause.0 (subst (λ (n : ℕ). Runs Same (SaysFront (gone n)) (g.M.Machine.disk c.args.machine.now) (g.M.Machine.disk c.end_numbered.new.machine)) cause.1
    (subst (λ (d : Disk). Runs Same (SaysFront (gone c.in-Err-Gone.base)) d (g.M.Machine.disk c.end_numbered.new.machine)) still c.end_numbered.ensures.runs))

pub returns-in-Err-Gone-clause-images : goal.returns-in-Err-Gone-clause-images
returns-in-Err-Gone-clause-images g c = λ p commands holds.
    let cause = gone_cause ℕ _ (base_of c.args.engine.now) c.args.from _ _ c.in-Err-Gone.base c.in-Err-Gone.field-0-is c.in-Err-Gone.ensures.cause in
    let still = ap g.M.Machine.disk (c.ship.ensures.gone cause.0).1 in
    images_gone c.args.from holds cause.0 (subst (λ (n : ℕ). Runs Same (SaysFront (gone n)) (g.M.Machine.disk c.args.machine.now) (g.M.Machine.disk c.end_numbered.new.machine)) cause.1
    (subst (λ (d : Disk). Runs Same (SaysFront (gone c.in-Err-Gone.base)) d (g.M.Machine.disk c.end_numbered.new.machine)) still c.end_numbered.ensures.runs))

pub returns-in-Err-DiskFault-clause-said : goal.returns-in-Err-DiskFault-clause-said
returns-in-Err-DiskFault-clause-said g c = λ p commands holds. said_none c.args.from holds c.ship.ensures.read.kept

pub returns-in-Err-DiskFault-clause-images : goal.returns-in-Err-DiskFault-clause-images
returns-in-Err-DiskFault-clause-images g c = λ p commands holds. images_none c.args.from holds c.ship.ensures.read.kept

pub returns-in-Err-Memory-clause-said : goal.returns-in-Err-Memory-clause-said
returns-in-Err-Memory-clause-said g c = λ p commands holds. said_none c.args.from holds c.ship.ensures.read.kept

pub returns-in-Err-Memory-clause-images : goal.returns-in-Err-Memory-clause-images
returns-in-Err-Memory-clause-images g c = λ p commands holds. images_none c.args.from holds c.ship.ensures.read.kept

pub returns-in-Err-Damaged-say_frames-clause-said : goal.returns-in-Err-Damaged-say_frames-clause-said
returns-in-Err-Damaged-say_frames-clause-said g c = λ p commands holds.
    let same = same_engine c.args.engine.now c.ship.new.self c.ship.ensures.read.engine c.requires (not_a_fault c.ship.new.self.broken (λ e. cc (c.in-Ok.ensures.read.broken.0 e))) in
    let stays = c.ship.ensures.read.kept in
    let mid = g.M.Machine.disk c.ship.new.machine in
    let here = subst (λ (e : EngineView). IsAttached mid e) (sym same) (attached_said (g.M.Machine.disk c.args.machine.now) mid c.args.engine.now stays (attached_of holds)) in
    absurd (subst IsUndamaged c.in-Err-Damaged-say_frames.field-0-is (c.in-Err-Damaged-say_frames.ensures.undamaged (stays.time.files_told.0 (told_by holds)) here))

pub returns-in-Err-Damaged-say_frames-clause-images : goal.returns-in-Err-Damaged-say_frames-clause-images
returns-in-Err-Damaged-say_frames-clause-images g c = λ p commands holds.
    let same = same_engine c.args.engine.now c.ship.new.self c.ship.ensures.read.engine c.requires (not_a_fault c.ship.new.self.broken (λ e. cc (c.in-Ok.ensures.read.broken.0 e))) in
    let stays = c.ship.ensures.read.kept in
    let mid = g.M.Machine.disk c.ship.new.machine in
    let here = subst (λ (e : EngineView). IsAttached mid e) (sym same) (attached_said (g.M.Machine.disk c.args.machine.now) mid c.args.engine.now stays (attached_of holds)) in
    absurd (subst IsUndamaged c.in-Err-Damaged-say_frames.field-0-is (c.in-Err-Damaged-say_frames.ensures.undamaged (stays.time.files_told.0 (told_by holds)) here))
