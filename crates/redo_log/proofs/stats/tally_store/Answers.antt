use Rattle.std.proofs.Common.{◌∙◌, ◌++◌, List, ℕ, ap, subst, sym}
use Rattle.disk_model.specs.Disk.{Files}
use Rattle.formats.specs.FirstFault.{IsDamaged}
use Rattle.op_codec.specs.AllOps.{all_meaning}
use Rattle.tool_output.specs.FaultLaws.{faults_later, stopped_counted}
use Rattle.tool_output.specs.Found.{HasStore, IsStopped}
use Rattle.tool_output.specs.Lines.{damaged, not_a_store}
use Rattle.tool_output.specs.Saying.{says_nothing, says_then}
use Rattle.redo_log.specs.Tallying.{IsTable, SaysTallyPart}
use Rattle.redo_log.proofs.CountLemmas.{unopened_tally}
use Rattle.redo_log.proofs.stats.tally_store.Goals as goal

pub returns-in-Ok-clause-keeps : goal.returns-in-Ok-clause-keeps
returns-in-Ok-clause-keeps g c = says_then (says_nothing c.read_bounds.ensures.kept) c.tally_open.ensures.keeps

pub returns-in-Ok-clause-counted : goal.returns-in-Ok-clause-counted
returns-in-Ok-clause-counted g c told done =
    let kept = c.read_bounds.ensures.kept in
    let store = subst (λ (f : Files). HasStore f c.in-Ok.b) (sym (kept.reads told)) (c.in-Ok.ensures.whole told) in
    let is = c.tally_open.ensures.counted (kept.time.files_told.0 told) store done in
    (is.0, subst (λ (f : Files). IsTable c.args.choice f is.0) (kept.reads told) is.1, is.2 ∙ ap (λ (l : List ℕ). l ++ is.0) (kept.said told))

pub returns-in-Ok-clause-no_store : goal.returns-in-Ok-clause-no_store
returns-in-Ok-clause-no_store g c told none =
    let kept = c.read_bounds.ensures.kept in
    let store = subst (λ (f : Files). HasStore f c.in-Ok.b) (sym (kept.reads told)) (c.in-Ok.ensures.whole told) in
    absurd (c.tally_open.ensures.a_store (kept.time.files_told.0 told) store none)

pub returns-in-Ok-clause-damaged : goal.returns-in-Ok-clause-damaged
returns-in-Ok-clause-damaged g c told done =
    let kept = c.read_bounds.ensures.kept in
    let store = subst (λ (f : Files). HasStore f c.in-Ok.b) (sym (kept.reads told)) (c.in-Ok.ensures.whole told) in
    let is = c.tally_open.ensures.damaged (kept.time.files_told.0 told) store done in
    (is.0, is.1, subst (λ (f : Files). IsDamaged all_meaning f is.0 is.1) (kept.reads told) is.2, is.3 ∙ ap (λ (l : List ℕ). l ++ damaged is.0 is.1) (kept.said told))

pub returns-in-Ok-clause-front : goal.returns-in-Ok-clause-front
returns-in-Ok-clause-front g c told =
    let kept = c.read_bounds.ensures.kept in
    let first = g.M.Machine.disk c.args.machine.now in
    let mid = g.M.Machine.disk c.read_bounds.new.machine in
    let new = g.M.Machine.disk c.tally_open.new.machine in
    let store = subst (λ (f : Files). HasStore f c.in-Ok.b) (sym (kept.reads told)) (c.in-Ok.ensures.whole told) in
    subst (λ (f : Files). SaysTallyPart c.args.choice f first.said new.said) (kept.reads told) (subst (λ (s : List ℕ). SaysTallyPart c.args.choice mid.reads s new.said) (kept.said told) (c.tally_open.ensures.front (kept.time.files_told.0 told) store))

pub returns-in-Ok-clause-faults : goal.returns-in-Ok-clause-faults
returns-in-Ok-clause-faults g c = faults_later (g.M.Machine.disk c.args.machine.now) (g.M.Machine.disk c.read_bounds.new.machine) (g.M.Machine.disk c.tally_open.new.machine) c.tally_open.result c.read_bounds.ensures.kept.time c.tally_open.ensures.faults

pub returns-in-Err-clause-keeps : goal.returns-in-Err-clause-keeps
returns-in-Err-clause-keeps g c = says_then (says_nothing c.read_bounds.ensures.kept) c.end_stopped.ensures.runs

pub returns-in-Err-clause-counted : goal.returns-in-Err-clause-counted
returns-in-Err-clause-counted g c told done = absurd (c.end_stopped.ensures.undone done)

pub returns-in-Err-clause-no_store : goal.returns-in-Err-clause-no_store
returns-in-Err-clause-no_store g c told none =
    let kept = c.read_bounds.ensures.kept in
    let is = c.end_stopped.ensures.no_store (kept.time.files_told.0 told) none in
    (subst (IsStopped (g.M.Machine.disk c.args.machine.now).reads) is.0 (c.in-Err.ensures.cause told), is.1 ∙ ap (λ (l : List ℕ). l ++ not_a_store) (kept.said told))

pub returns-in-Err-clause-damaged : goal.returns-in-Err-clause-damaged
returns-in-Err-clause-damaged g c told done =
    let kept = c.read_bounds.ensures.kept in
    let is = c.end_stopped.ensures.damaged (kept.time.files_told.0 told) done in
    (is.0, is.1, subst (IsStopped (g.M.Machine.disk c.args.machine.now).reads) is.2 (c.in-Err.ensures.cause told), is.3 ∙ ap (λ (l : List ℕ). l ++ damaged is.0 is.1) (kept.said told))

pub returns-in-Err-clause-front : goal.returns-in-Err-clause-front
returns-in-Err-clause-front g c told =
    let kept = c.read_bounds.ensures.kept in
    unopened_tally c.args.choice (g.M.Machine.disk c.args.machine.now).reads _ _ _ c.in-Err.stop (c.in-Err.ensures.cause told) (kept.said told) (c.end_stopped.ensures.front (kept.time.files_told.0 told))

pub returns-in-Err-clause-faults : goal.returns-in-Err-clause-faults
returns-in-Err-clause-faults g c = stopped_counted (g.M.Machine.disk c.args.machine.now) (g.M.Machine.disk c.read_bounds.new.machine) (g.M.Machine.disk c.end_stopped.new.machine) c.in-Err.stop c.end_stopped.result c.read_bounds.ensures.kept.time c.end_stopped.ensures.runs.time c.in-Err.ensures.faults c.end_stopped.ensures.faults
