use Rattle.std.proofs.Common.{◌∙◌, ◌++◌, List, ℕ, Bool, ap, arith, subst}
use Rattle.disk_model.specs.Disk.{Runs, Same, SaysFront}
use Rattle.frame_stream.specs.Frames.{frame}
use Rattle.log_records.specs.BlockReader.{HasGivenBlock}
use Rattle.op_codec.specs.AllOps.{all_meaning}
use Rattle.shell_base.specs.FetchLaws.{not_a_fault}
use Rattle.shell_base.specs.HoldLaws.{rises_within}
use Rattle.standby_words.proofs.ShippingLemmas.{all_said, attached_here, block_caused, block_whole, bounds_here, more_said, none_said, part_said, reading_here, starts_shipping}
use Rattle.standby_words.proofs.shipping.say_frames.Goals as goal

pub returns-in_err-next_shipped-clause-cause : goal.returns-in_err-next_shipped-clause-cause
returns-in_err-next_shipped-clause-cause g c =
    let so_far = c.loop-payload.invariant in
    block_caused (g.M.Machine.disk c.args.machine.now) (g.M.Machine.disk c.next_shipped.new.machine) _ (λ rises. rises_within _ _ _ _ so_far.says.time.disk_faults (omega arith) rises) c.from_residual.result c.in_err-next_shipped.field-0.0 c.from_residual.ensures.1
    (c.in_err-next_shipped.ensures.cause so_far.given (reading_here so_far))

pub returns-in_err-next_shipped-clause-undamaged : goal.returns-in_err-next_shipped-clause-undamaged
returns-in_err-next_shipped-clause-undamaged g c = λ told attached.
    let so_far = c.loop-payload.invariant in
    block_whole c.from_residual.result c.in_err-next_shipped.field-0.0 c.from_residual.ensures.1
    (λ file place is. c.in_err-next_shipped.ensures.undamaged (so_far.says.time.files_told.0 told) (attached_here so_far attached) (bounds_here so_far) so_far.given (reading_here so_far) file place (cc is))

pub loop-payload-preserved : goal.loop-payload-preserved
loop-payload-preserved g c =
    let so_far = c.loop-payload.invariant in
    let read = c.next_shipped.ensures.read in
    let mid = g.M.Machine.disk c.next_shipped.new.machine in
    more_said so_far read.kept read.engine (not_a_fault c.next_shipped.new.self.broken (λ e. cc (c.in_ok-next_shipped.ensures.read.broken.0 e))) c.next_shipped.ensures.same.0 c.next_shipped.ensures.same.1 c.next_shipped.new.into.items
    (subst (λ (b : Bool). HasGivenBlock (all_meaning c.loop-payload.reader.records.bounds) mid c.loop-payload.engine.parts.log.log c.next_shipped.new.reader so_far.given c.next_shipped.new.into.items b) c.if-branch.true (c.in_ok-next_shipped.ensures.given so_far.given (reading_here so_far)))
    (subst (λ (l : List ℕ). Runs Same (SaysFront (frame l)) mid (g.M.Machine.disk c.say_frame.new.machine)) c.as_slice.ensures.value c.say_frame.ensures.says) (λ told. c.in_ok-say_frame.ensures.all told ∙ ap (λ (l : List ℕ). mid.said ++ frame l) c.as_slice.ensures.value)

pub loop-payload-init : goal.loop-payload-init
loop-payload-init g c = starts_shipping (g.met.M.Machine.lawful c.args.machine.now) c.requires.unbroken c.requires.reads

pub returns-in_err-next_shipped-clause-says : goal.returns-in_err-next_shipped-clause-says
returns-in_err-next_shipped-clause-says g c = none_said c.loop-payload.invariant c.next_shipped.ensures.read.kept

pub returns-in_err-say_frame-clause-says : goal.returns-in_err-say_frame-clause-says
returns-in_err-say_frame-clause-says g c =
    let so_far = c.loop-payload.invariant in
    let read = c.next_shipped.ensures.read in
    part_said so_far read.kept read.engine (not_a_fault c.next_shipped.new.self.broken (λ e. cc (c.in_ok-next_shipped.ensures.read.broken.0 e))) c.next_shipped.ensures.same.0 c.next_shipped.ensures.same.1 c.next_shipped.new.into.items
    (subst (λ (b : Bool). HasGivenBlock (all_meaning c.loop-payload.reader.records.bounds) (g.M.Machine.disk c.next_shipped.new.machine) c.loop-payload.engine.parts.log.log c.next_shipped.new.reader so_far.given c.next_shipped.new.into.items b) c.if-branch.true (c.in_ok-next_shipped.ensures.given so_far.given (reading_here so_far)))
    (subst (λ (l : List ℕ). Runs Same (SaysFront (frame l)) (g.M.Machine.disk c.next_shipped.new.machine) (g.M.Machine.disk c.say_frame.new.machine)) c.as_slice.ensures.value c.say_frame.ensures.says)

pub returns-clause-says : goal.returns-clause-says
returns-clause-says g c = none_said c.loop-payload.invariant c.next_shipped.ensures.read.kept

pub returns-clause-all : goal.returns-clause-all
returns-clause-all g c = λ told.
    let so_far = c.loop-payload.invariant in
    let read = c.next_shipped.ensures.read in
    all_said so_far read.kept read.engine (not_a_fault c.next_shipped.new.self.broken (λ e. cc (c.in_ok-next_shipped.ensures.read.broken.0 e))) c.next_shipped.ensures.same.0 c.next_shipped.ensures.same.1 c.next_shipped.new.into.items
    (subst (λ (b : Bool). HasGivenBlock (all_meaning c.loop-payload.reader.records.bounds) (g.M.Machine.disk c.next_shipped.new.machine) c.loop-payload.engine.parts.log.log c.next_shipped.new.reader so_far.given c.next_shipped.new.into.items b) c.if-branch.false (c.in_ok-next_shipped.ensures.given so_far.given (reading_here so_far)))
    told
