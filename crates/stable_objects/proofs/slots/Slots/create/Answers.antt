use Rattle.std.proofs.Common.{List, ℕ, sym, subst}
use Rattle.stable_objects.specs.Making.{params_with, IsNewFile}
use Rattle.stable_objects.proofs.Made.{run_any, keeps_any, leaves_closed, leaves_either}
use Rattle.stable_objects.proofs.slots.Slots.create.Goals as goal

pub returns-in_err-lay_out-clause-runs : goal.returns-in_err-lay_out-clause-runs
returns-in_err-lay_out-clause-runs g c = keeps_any _ _ c.lay_out.ensures.runs

pub returns-in_err-lay_out-clause-any_moment : goal.returns-in_err-lay_out-clause-any_moment
returns-in_err-lay_out-clause-any_moment g c told settled closed = leaves_closed _ _ (params_with c.args.bounds c.args.limit) told settled closed c.lay_out.ensures.runs

pub returns-in_err-open-clause-runs : goal.returns-in_err-open-clause-runs
returns-in_err-open-clause-runs g c = run_any _ _ _ c.lay_out.ensures.runs c.open.ensures.runs

pub returns-in_err-open-clause-any_moment : goal.returns-in_err-open-clause-any_moment
returns-in_err-open-clause-any_moment g c told settled closed =
    let p = params_with c.args.bounds c.args.limit in
    let first = c.lay_out.ensures.runs in
    leaves_either _ _ _ p told (leaves_closed _ _ p told settled closed first) first
    (c.in_ok-lay_out.ensures.settled settled) (c.in_ok-lay_out.ensures.laid_out (first.begins.telling told)) c.open.ensures.runs

pub returns-clause-runs : goal.returns-clause-runs
returns-clause-runs g c = run_any _ _ _ c.lay_out.ensures.runs c.open.ensures.runs

pub returns-clause-made : goal.returns-clause-made
returns-clause-made g c told =
    subst (λ (l : List ℕ). IsNewFile (params_with c.args.bounds c.args.limit) l) (sym (c.in_ok-open.ensures.opened (c.lay_out.ensures.runs.time.files_told.0 told))) (c.in_ok-lay_out.ensures.laid_out told).new

pub returns-clause-any_moment : goal.returns-clause-any_moment
returns-clause-any_moment g c told settled closed =
    let p = params_with c.args.bounds c.args.limit in
    let first = c.lay_out.ensures.runs in
    leaves_either _ _ _ p told (leaves_closed _ _ p told settled closed first) first
    (c.in_ok-lay_out.ensures.settled settled) (c.in_ok-lay_out.ensures.laid_out (first.begins.telling told)) c.open.ensures.runs
