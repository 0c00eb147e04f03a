use Rattle.std.proofs.Common.{◌∙◌, ap, subst, ◌++◌, ℕ, Bool, List}
use Rattle.std.specs.Prelude.{Err, IsErrOf, Ok}
use Rattle.disk_model.specs.Disk.{Disk, Rises}
use Rattle.disk_model.specs.Moments.{stays_then}
use Rattle.formats.specs.Reading.{FailsBy}
use Rattle.formats.specs.declared.read_err.ReadErr.{ReadErr}
use Rattle.formats.specs.declared.read_err.ReadErr.TheVariants as of_read
use Rattle.frame_stream.specs.Frames.{frame}
use Rattle.log_records.specs.BlockReader.{HasGivenBlock}
use Rattle.log_records.specs.CodecLaws.{HasCodes}
use Rattle.log_records.specs.Loading.{IsTailFault}
use Rattle.store_engine.specs.Engine.{EngineView, IsEngineRead}
use Rattle.store_engine.specs.Shipping.{base_of}
use Rattle.store_engine.specs.declared.ship_err.ShipErr.TheVariants.{DiskFault}
use Rattle.store_engine.proofs.Shipped.{codes_of, damage_read, done_read, log_undamaged, read_again, read_as, read_done, read_fails, read_then, reads_on, ship_cause, ship_ended, ship_failed, ship_more, ship_started, short_read}
use Rattle.store_engine.proofs.SlotReads.{read_fails_so}
use Rattle.store_engine.proofs.engine.Engine.frames.Given.{Over}
use Rattle.store_engine.proofs.engine.Engine.frames.Goals.{After-next_shipped, After-params-params}
use Rattle.store_engine.proofs.engine.Engine.frames.Goals as goal

-- each record of its log has a code
codes : (g : Over) (c : After-params-params g) → HasCodes (g.O.Oper.meaning c.args.self.now.parts.log.bounds)
codes g c =
    subst (λ (e : EngineView). HasCodes (g.O.Oper.meaning e.parts.log.bounds)) c.self.view_is
    (codes_of g.O.Oper.meaning g.met.O.Oper.bounded g.met.O.Oper.lawful c.self.inside.store.parts (c.params-params.ensures.in_use (ap (λ (e : EngineView). e.broken) c.self.view_is ∙ c.requires.unbroken)) c.params-params.ensures.range)

pub returns-in_err-reader-clause-read : goal.returns-in_err-reader-clause-read
returns-in_err-reader-clause-read g c = read_again g.O.Oper.meaning c.from_residual.result c.in_err-reader.field-0.0 c.from_residual.ensures.1 c.in_err-reader.ensures.read

pub loop-payload-init : goal.loop-payload-init
loop-payload-init g c =
    ship_started g.O.Oper.meaning c.args.from c.in_ok-reader.reader c.args.into.now.items c.in_ok-reader.ensures.cause (read_done g.O.Oper.meaning c.in_ok-reader.reader DiskFault c.in_ok-reader.ensures.read) c.in_ok-reader.ensures.reader

pub returns-in_err-next_shipped-clause-read : goal.returns-in_err-next_shipped-clause-read
returns-in_err-next_shipped-clause-read g c =
    let e = c.in_err-next_shipped.field-0.0 in
    let so = read_fails_so {T = Bool} (Err e) in
    read_then g.O.Oper.meaning c.loop-payload.invariant.read (read_fails g.O.Oper.meaning c.from_residual-in_err-next_shipped.result e c.from_residual-in_err-next_shipped.ensures.1 (read_as g.O.Oper.meaning (so.1, so.0) c.in_err-next_shipped.ensures.read))

-- why the next call failed
failed : (g : Over) (c : After-next_shipped g) (e : ReadErr)
    → FailsBy (Rises (g.M.Machine.disk c.loop-payload.machine).disk_faults (g.M.Machine.disk c.next_shipped.new.machine).disk_faults) (IsTailFault (g.O.Oper.meaning c.loop-payload.reader.records.bounds) (g.M.Machine.disk c.next_shipped.new.machine) c.loop-payload.self.parts.log.log) e
    → FailsBy (Rises (g.M.Machine.disk c.args.machine.now).disk_faults (g.M.Machine.disk c.next_shipped.new.machine).disk_faults) (IsTailFault (g.O.Oper.meaning c.args.self.now.parts.log.bounds) (g.M.Machine.disk c.next_shipped.new.machine) c.args.self.now.parts.log.log) e
failed g c e why = ship_failed g.O.Oper.meaning c.loop-payload.invariant (g.M.Machine.disk c.next_shipped.new.machine) e why

pub returns-in_err-next_shipped-clause-undamaged : goal.returns-in_err-next_shipped-clause-undamaged
returns-in_err-next_shipped-clause-undamaged g c = λ told attached file place is.
    let at = goal.at.returns-in_err-next_shipped-clause-undamaged g c in
    let e = c.in_err-next_shipped.field-0.0 in
    let so = c.loop-payload.invariant in
    let why = failed g at.After-next_shipped e (c.in_err-next_shipped.ensures.cause so.given (reads_on g.O.Oper.meaning so)) in
    let old : Disk = g.M.Machine.disk c.args.machine.now in
    let new : Disk = g.M.Machine.disk c.next_shipped.new.machine in
    let engine = c.args.self.now in
    log_undamaged g.O.Oper.meaning engine (codes g at.After-params-params) (stays_then so.read.kept c.next_shipped.ensures.read.kept) told attached file place
    (subst (λ (k : ReadErr). FailsBy (Rises old.disk_faults new.disk_faults) (IsTailFault (g.O.Oper.meaning engine.parts.log.bounds) new engine.parts.log.log) k) (damage_read c.from_residual-in_err-next_shipped.result e file place c.from_residual-in_err-next_shipped.ensures.1 is) why)

pub returns-in_err-next_shipped-clause-cause : goal.returns-in_err-next_shipped-clause-cause
returns-in_err-next_shipped-clause-cause g c =
    let at = goal.at.returns-in_err-next_shipped-clause-cause g c in
    let e = c.in_err-next_shipped.field-0.0 in
    let so = c.loop-payload.invariant in
    ship_cause (base_of c.args.self.now) c.args.from _ _ c.from_residual-in_err-next_shipped.result e c.from_residual-in_err-next_shipped.ensures.1 so.reached (failed g at.After-next_shipped e (c.in_err-next_shipped.ensures.cause so.given (reads_on g.O.Oper.meaning so)))

pub loop-payload-preserved : goal.loop-payload-preserved
loop-payload-preserved g c =
    let so = c.loop-payload.invariant in
    let payload = c.next_shipped.new.into.items in
    let given = subst (λ (b : Bool). HasGivenBlock (g.O.Oper.meaning c.loop-payload.reader.records.bounds) (g.M.Machine.disk c.next_shipped.new.machine) c.loop-payload.self.parts.log.log c.next_shipped.new.reader so.given payload b) c.if-branch.true
    (c.in_ok-next_shipped.ensures.given so.given (reads_on g.O.Oper.meaning so)) in
    ship_more g.O.Oper.meaning so payload c.push_frame.new.into.items (read_done g.O.Oper.meaning c.in_ok-next_shipped.field-0 of_read.DiskFault c.in_ok-next_shipped.ensures.read) c.next_shipped.ensures.same.0 c.next_shipped.ensures.same.1 given
    (c.in_ok-push_frame.ensures.ok ∙ ap (λ (l : List ℕ). c.loop-payload.into.items ++ frame l) c.deref.ensures.value)

-- what was read before a frame is pushed, and at the end
read_so_far : (g : Over) (c : After-next_shipped g) (value : Bool) → IsEngineRead g.O.Oper.meaning (g.M.Machine.disk c.loop-payload.machine) (g.M.Machine.disk c.next_shipped.new.machine) c.loop-payload.self c.next_shipped.new.self (IsErrOf (Ok value) of_read.DiskFault)
    → IsEngineRead g.O.Oper.meaning (g.M.Machine.disk c.args.machine.now) (g.M.Machine.disk c.next_shipped.new.machine) c.args.self.now c.next_shipped.new.self ⊥
read_so_far g c value read = read_then g.O.Oper.meaning c.loop-payload.invariant.read (read_done g.O.Oper.meaning value of_read.DiskFault read)

pub returns-in_err-push_frame-clause-read : goal.returns-in_err-push_frame-clause-read
returns-in_err-push_frame-clause-read g c =
    short_read g.O.Oper.meaning c.from_residual-in_err-push_frame.result c.from_residual-in_err-push_frame.ensures.1
    (read_so_far g (goal.at.returns-in_err-push_frame-clause-read g c).After-next_shipped c.in_ok-next_shipped.field-0 c.in_ok-next_shipped.ensures.read)

pub returns-clause-read : goal.returns-clause-read
returns-clause-read g c = done_read g.O.Oper.meaning tt (read_so_far g (goal.at.returns-clause-read g c).After-next_shipped c.in_ok-next_shipped.field-0 c.in_ok-next_shipped.ensures.read)

pub returns-clause-frames : goal.returns-clause-frames
returns-clause-frames g c = λ told.
    let so = c.loop-payload.invariant in
    let given = subst (λ (b : Bool). HasGivenBlock (g.O.Oper.meaning c.loop-payload.reader.records.bounds) (g.M.Machine.disk c.next_shipped.new.machine) c.loop-payload.self.parts.log.log c.next_shipped.new.reader so.given c.next_shipped.new.into.items b) c.if-branch.false
    (c.in_ok-next_shipped.ensures.given so.given (reads_on g.O.Oper.meaning so)) in
    ship_ended g.O.Oper.meaning so (codes g (goal.at.returns-clause-frames g c).After-params-params) told (stays_then so.read.kept c.next_shipped.ensures.read.kept) c.next_shipped.ensures.same.0 given.0
