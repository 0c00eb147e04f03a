use Rattle.disk_model.specs.Disk.{IsSettled}
use Rattle.disk_model.specs.Moments.{passes_twice, stays_settled, stays_twice}
use Rattle.restart.specs.Starts.{at_start}
use Rattle.store_engine.proofs.LaidOut.{closing, logging, laying_out, laid_out, in_a_row, behind, none_still}
use Rattle.store_engine.proofs.engine.Engine.init.Goals as goal

pub returns-in_err-settle-clause-images : goal.returns-in_err-settle-clause-images
returns-in_err-settle-clause-images g c told none = at_start (g.M.Machine.disk c.args.machine.now) (g.M.Machine.disk c.settle.new.machine) _ c.settle.ensures.kept told

pub returns-in_err-begins-clause-images : goal.returns-in_err-begins-clause-images
returns-in_err-begins-clause-images g c told none = at_start (g.M.Machine.disk c.args.machine.now) (g.M.Machine.disk c.begins.new.machine) _ (stays_twice (g.M.Machine.disk c.args.machine.now) (g.M.Machine.disk c.settle.new.machine) (g.M.Machine.disk c.begins.new.machine) c.settle.ensures.kept c.begins.ensures.kept) told

pub returns-in_err-close-clause-images : goal.returns-in_err-close-clause-images
returns-in_err-close-clause-images g c told none =
    behind g.O.Oper.meaning c.args.params (c.new_files_stand_for_nothing.ensures.stands c.args.params) (g.M.Machine.disk c.args.machine.now) (g.M.Machine.disk c.settle.new.machine) (g.M.Machine.disk c.close.new.machine) c.settle.ensures.kept told
    (closing g.O.Oper.meaning c.args.params (c.new_files_stand_for_nothing.ensures.stands c.args.params) (g.M.Machine.disk c.settle.new.machine) (g.M.Machine.disk c.begins.new.machine) (c.settle.ensures.kept.time.moments_told.0 told) c.in_ok-settle.ensures.settled (none_still (g.M.Machine.disk c.args.machine.now) (g.M.Machine.disk c.settle.new.machine) c.settle.ensures.kept told none) c.begins.ensures.kept (g.M.Machine.disk c.close.new.machine) c.close.ensures.runs c.close.ensures.idle)

pub returns-in_err-create-clause-time : goal.returns-in_err-create-clause-time
returns-in_err-create-clause-time g c = in_a_row _ _ _ _ (stays_twice (g.M.Machine.disk c.args.machine.now) (g.M.Machine.disk c.settle.new.machine) (g.M.Machine.disk c.begins.new.machine) c.settle.ensures.kept c.begins.ensures.kept) c.close.ensures.runs c.create.ensures.runs

pub returns-in_err-create-clause-images : goal.returns-in_err-create-clause-images
returns-in_err-create-clause-images g c told none =
    behind g.O.Oper.meaning c.args.params (c.new_files_stand_for_nothing.ensures.stands c.args.params) (g.M.Machine.disk c.args.machine.now) (g.M.Machine.disk c.settle.new.machine) (g.M.Machine.disk c.create.new.m) c.settle.ensures.kept told
    (logging g.O.Oper.meaning c.args.params (c.new_files_stand_for_nothing.ensures.stands c.args.params) (g.M.Machine.disk c.settle.new.machine) (g.M.Machine.disk c.begins.new.machine) (c.settle.ensures.kept.time.moments_told.0 told) c.in_ok-settle.ensures.settled (none_still (g.M.Machine.disk c.args.machine.now) (g.M.Machine.disk c.settle.new.machine) c.settle.ensures.kept told none) c.begins.ensures.kept (g.M.Machine.disk c.close.new.machine) (g.M.Machine.disk c.create.new.m)
    c.close.ensures.runs c.close.ensures.idle c.in_ok-close.ensures.settled c.in_ok-close.ensures.closed c.create.ensures.runs)

pub returns-in_err-create-2-clause-time : goal.returns-in_err-create-2-clause-time
returns-in_err-create-2-clause-time g c = passes_twice _ (g.M.Machine.disk c.create.new.m) _ c.create-2.ensures.runs.ends (in_a_row _ _ _ _ (stays_twice (g.M.Machine.disk c.args.machine.now) (g.M.Machine.disk c.settle.new.machine) (g.M.Machine.disk c.begins.new.machine) c.settle.ensures.kept c.begins.ensures.kept) c.close.ensures.runs c.create.ensures.runs) c.create-2.ensures.runs.time

pub returns-in_err-create-2-clause-images : goal.returns-in_err-create-2-clause-images
returns-in_err-create-2-clause-images g c told none =
    behind g.O.Oper.meaning c.args.params (c.new_files_stand_for_nothing.ensures.stands c.args.params) (g.M.Machine.disk c.args.machine.now) (g.M.Machine.disk c.settle.new.machine) (g.M.Machine.disk c.create-2.new.machine) c.settle.ensures.kept told
    (laying_out g.O.Oper.meaning c.args.params (c.new_files_stand_for_nothing.ensures.stands c.args.params) (g.M.Machine.disk c.settle.new.machine) (g.M.Machine.disk c.begins.new.machine) (c.settle.ensures.kept.time.moments_told.0 told) c.in_ok-settle.ensures.settled (none_still (g.M.Machine.disk c.args.machine.now) (g.M.Machine.disk c.settle.new.machine) c.settle.ensures.kept told none) c.begins.ensures.kept (g.M.Machine.disk c.close.new.machine) (g.M.Machine.disk c.create.new.m)
    c.close.ensures.runs c.close.ensures.idle c.in_ok-close.ensures.settled c.in_ok-close.ensures.closed c.create.ensures.runs (g.M.Machine.disk c.create-2.new.machine)
    c.in_ok-create.ensures.made c.in_ok-create.ensures.settled c.create-2.ensures.any_moment)

pub returns-clause-time : goal.returns-clause-time
returns-clause-time g c = passes_twice _ (g.M.Machine.disk c.create.new.m) _ c.create-2.ensures.runs.ends (in_a_row _ _ _ _ (stays_twice (g.M.Machine.disk c.args.machine.now) (g.M.Machine.disk c.settle.new.machine) (g.M.Machine.disk c.begins.new.machine) c.settle.ensures.kept c.begins.ensures.kept) c.close.ensures.runs c.create.ensures.runs) c.create-2.ensures.runs.time

pub returns-clause-images : goal.returns-clause-images
returns-clause-images g c told none =
    behind g.O.Oper.meaning c.args.params (c.new_files_stand_for_nothing.ensures.stands c.args.params) (g.M.Machine.disk c.args.machine.now) (g.M.Machine.disk c.settle.new.machine) (g.M.Machine.disk c.create-2.new.machine) c.settle.ensures.kept told
    (laying_out g.O.Oper.meaning c.args.params (c.new_files_stand_for_nothing.ensures.stands c.args.params) (g.M.Machine.disk c.settle.new.machine) (g.M.Machine.disk c.begins.new.machine) (c.settle.ensures.kept.time.moments_told.0 told) c.in_ok-settle.ensures.settled (none_still (g.M.Machine.disk c.args.machine.now) (g.M.Machine.disk c.settle.new.machine) c.settle.ensures.kept told none) c.begins.ensures.kept (g.M.Machine.disk c.close.new.machine) (g.M.Machine.disk c.create.new.m)
    c.close.ensures.runs c.close.ensures.idle c.in_ok-close.ensures.settled c.in_ok-close.ensures.closed c.create.ensures.runs (g.M.Machine.disk c.create-2.new.machine)
    c.in_ok-create.ensures.made c.in_ok-create.ensures.settled c.create-2.ensures.any_moment)

pub returns-clause-settled : goal.returns-clause-settled
returns-clause-settled g c =
    let settled_first : IsSettled (g.M.Machine.disk c.begins.new.machine) = λ file. stays_settled (g.M.Machine.disk c.settle.new.machine) (g.M.Machine.disk c.begins.new.machine) file c.begins.ensures.kept (c.in_ok-settle.ensures.settled file) in
    c.in_ok-create-2.ensures.settled (c.in_ok-create.ensures.settled (c.in_ok-close.ensures.settled settled_first))

pub returns-clause-ok : goal.returns-clause-ok
returns-clause-ok g c tells =
    let first = (g.M.Machine.disk c.begins.new.machine) in
    let kept = stays_twice (g.M.Machine.disk c.args.machine.now) (g.M.Machine.disk c.settle.new.machine) (g.M.Machine.disk c.begins.new.machine) c.settle.ensures.kept c.begins.ensures.kept in
    let tells_first = kept.time.files_told.0 tells in
    let tells_second = c.close.ensures.runs.time.files_told.0 tells_first in
    let tells_third = c.create.ensures.runs.time.files_told.0 tells_second in
    let settled_second = c.in_ok-close.ensures.settled (λ file. stays_settled (g.M.Machine.disk c.settle.new.machine) first file c.begins.ensures.kept (c.in_ok-settle.ensures.settled file)) in
    laid_out g.O.Oper.meaning c.args.params (c.new_files_stand_for_nothing.ensures.stands c.args.params) (g.M.Machine.disk c.create.new.m) (g.M.Machine.disk c.create-2.new.machine) tells_third (c.in_ok-create-2.ensures.settled (c.in_ok-create.ensures.settled settled_second)) c.create-2.ensures.runs
    (c.in_ok-create-2.ensures.made tells_third) (c.in_ok-create.ensures.made tells_second)
