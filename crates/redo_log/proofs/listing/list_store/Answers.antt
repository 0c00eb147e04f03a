use Rattle.std.proofs.Common.{◌++◌, ◌∙◌, [], List, ℕ, ap, refl, subst, sym}
use Rattle.std.proofs.lemmas.List.{append-nil}
use Rattle.disk_model.specs.Disk.{Files}
use Rattle.oper_core.specs.declared.bounds.Bounds.{Bounds}
use Rattle.op_codec.specs.AllOps.{all_meaning}
use Rattle.redo_log.specs.Fronts.{IsDamage, IsDamageSaid, SaysNoMore}
use Rattle.tool_output.specs.Lines.{damaged, not_a_store}
use Rattle.redo_log.specs.Fronts.AreLinesBefore.{of_objects}
use Rattle.redo_log.specs.Listing.{IsListed, meaning_of}
use Rattle.tool_output.specs.Found.{HasStore, IsStopped}
use Rattle.tool_output.specs.Saying.{says_nothing, says_then}
use Rattle.tool_output.specs.FaultLaws.{faults_later, stopped_counted}
use Rattle.redo_log.proofs.ListLemmas.{unopened_part}
use Rattle.redo_log.proofs.listing.list_store.Goals as goal

pub returns-in-Ok-clause-keeps : goal.returns-in-Ok-clause-keeps
returns-in-Ok-clause-keeps g c = says_then (says_nothing c.read_bounds.ensures.kept) c.list_open.ensures.keeps

pub returns-in-Ok-clause-listed : goal.returns-in-Ok-clause-listed
returns-in-Ok-clause-listed g c told done =
    let kept = c.read_bounds.ensures.kept in
    let first = g.M.Machine.disk c.args.machine.now in
    let mid = g.M.Machine.disk c.read_bounds.new.machine in
    let new = g.M.Machine.disk c.list_open.new.machine in
    let store = subst (λ (f : Files). HasStore f c.in-Ok.b) (sym (kept.reads told)) (c.in-Ok.ensures.whole told) in
    subst (λ (f : Files). IsListed c.args.choice f first.said new.said) (kept.reads told) (subst (λ (s : List ℕ). IsListed c.args.choice mid.reads s new.said) (kept.said told) (c.list_open.ensures.listed (kept.time.files_told.0 told) store done))

pub returns-in-Ok-clause-no_store : goal.returns-in-Ok-clause-no_store
returns-in-Ok-clause-no_store g c told none =
    let kept = c.read_bounds.ensures.kept in
    let store = subst (λ (f : Files). HasStore f c.in-Ok.b) (sym (kept.reads told)) (c.in-Ok.ensures.whole told) in
    absurd (c.list_open.ensures.a_store (kept.time.files_told.0 told) store none)

pub returns-in-Ok-clause-damaged : goal.returns-in-Ok-clause-damaged
returns-in-Ok-clause-damaged g c told done =
    let kept = c.read_bounds.ensures.kept in
    let first = g.M.Machine.disk c.args.machine.now in
    let mid = g.M.Machine.disk c.read_bounds.new.machine in
    let new = g.M.Machine.disk c.list_open.new.machine in
    let store = subst (λ (f : Files). HasStore f c.in-Ok.b) (sym (kept.reads told)) (c.in-Ok.ensures.whole told) in
    let m = all_meaning c.in-Ok.b in
    subst (λ (b : Bounds). IsDamageSaid c.args.choice (all_meaning b) first.reads first.said new.said) (c.in-Ok.ensures.whole told).1
    (subst (λ (f : Files). IsDamageSaid c.args.choice m f first.said new.said) (kept.reads told) (subst (λ (s : List ℕ). IsDamageSaid c.args.choice m mid.reads s new.said) (kept.said told) (c.list_open.ensures.damaged (kept.time.files_told.0 told) store done)))

pub returns-in-Err-clause-keeps : goal.returns-in-Err-clause-keeps
returns-in-Err-clause-keeps g c = says_then (says_nothing c.read_bounds.ensures.kept) c.end_stopped.ensures.runs

pub returns-in-Err-clause-listed : goal.returns-in-Err-clause-listed
returns-in-Err-clause-listed g c told done = absurd (c.end_stopped.ensures.undone done)

pub returns-in-Err-clause-no_store : goal.returns-in-Err-clause-no_store
returns-in-Err-clause-no_store g c told none =
    let kept = c.read_bounds.ensures.kept in
    let is = c.end_stopped.ensures.no_store (kept.time.files_told.0 told) none in (
      subst (IsStopped (g.M.Machine.disk c.args.machine.now).reads) is.0 (c.in-Err.ensures.cause told),
      is.1 ∙ ap (λ (l : List ℕ). l ++ not_a_store) (kept.said told),
    )

pub returns-in-Err-clause-damaged : goal.returns-in-Err-clause-damaged
returns-in-Err-clause-damaged g c told done =
    let kept = c.read_bounds.ensures.kept in
    let is = c.end_stopped.ensures.damaged (kept.time.files_told.0 told) done in
    let before = (g.M.Machine.disk c.args.machine.now).said in
    record {
      file = is.0;
      place = is.1;
      is = subst (IsStopped (g.M.Machine.disk c.args.machine.now).reads) is.2 (c.in-Err.ensures.cause told);
      lines = [];
      lines_are = let fault = c.in-Err.ensures.damage told (subst IsDamage (sym is.2) tt) in of_objects fault.0 fault.1 refl;
      said = is.3 ∙ ap (λ (l : List ℕ). l ++ damaged is.0 is.1) (kept.said told ∙ sym (append-nil before));
    }

pub returns-in-Ok-clause-faults : goal.returns-in-Ok-clause-faults
returns-in-Ok-clause-faults g c = faults_later (g.M.Machine.disk c.args.machine.now) (g.M.Machine.disk c.read_bounds.new.machine) (g.M.Machine.disk c.list_open.new.machine) c.list_open.result c.read_bounds.ensures.kept.time c.list_open.ensures.faults

pub returns-in-Err-clause-faults : goal.returns-in-Err-clause-faults
returns-in-Err-clause-faults g c = stopped_counted (g.M.Machine.disk c.args.machine.now) (g.M.Machine.disk c.read_bounds.new.machine) (g.M.Machine.disk c.end_stopped.new.machine) c.in-Err.stop c.end_stopped.result c.read_bounds.ensures.kept.time c.end_stopped.ensures.runs.time c.in-Err.ensures.faults c.end_stopped.ensures.faults

pub returns-in-Ok-clause-front : goal.returns-in-Ok-clause-front
returns-in-Ok-clause-front g c told =
    let kept = c.read_bounds.ensures.kept in
    let first = g.M.Machine.disk c.args.machine.now in
    let mid = g.M.Machine.disk c.read_bounds.new.machine in
    let new = g.M.Machine.disk c.list_open.new.machine in
    let m = all_meaning c.in-Ok.b in
    let store = subst (λ (f : Files). HasStore f c.in-Ok.b) (sym (kept.reads told)) (c.in-Ok.ensures.whole told) in
    subst (λ (b : Bounds). SaysNoMore c.args.choice (all_meaning b) first.reads first.said new.said) (c.in-Ok.ensures.whole told).1
    (subst (λ (f : Files). SaysNoMore c.args.choice m f first.said new.said) (kept.reads told) (subst (λ (s : List ℕ). SaysNoMore c.args.choice m mid.reads s new.said) (kept.said told) (c.list_open.ensures.front (kept.time.files_told.0 told) store)))

pub returns-in-Err-clause-front : goal.returns-in-Err-clause-front
returns-in-Err-clause-front g c told =
    let kept = c.read_bounds.ensures.kept in
    let files = (g.M.Machine.disk c.args.machine.now).reads in
    unopened_part c.args.choice (meaning_of files) files _ _ _ c.in-Err.stop (c.in-Err.ensures.cause told) (c.in-Err.ensures.damage told) (kept.said told) (c.end_stopped.ensures.front (kept.time.files_told.0 told))
