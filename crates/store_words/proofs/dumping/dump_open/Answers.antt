use Rattle.std.proofs.Common.{⊎_elim, ◌++◌, List, ℕ, ap, subst, sym, ◌∙◌}
use Rattle.shell_base.specs.Status.{IsOfOpened}
use Rattle.shell_base.specs.Stops.{IsUndamaged}
use Rattle.shell_base.specs.StopLaws.{damaged_status, stop_status}
use Rattle.shell_base.specs.HoldLaws.{told_by, attached_of}
use Rattle.shell_base.specs.KeepLaws.{keeps_once, keeps_behind}
use Rattle.store_words.proofs.DumpLemmas.{dump_reads, dump_says, dump_begun, dump_quiet, never_done}
use Rattle.store_words.proofs.dumping.dump_open.Goals as goal

pub returns-in-Ok-clause-images : goal.returns-in-Ok-clause-images
returns-in-Ok-clause-images g c = λ p commands holds all telling.
    dump_says p (g.M.Machine.disk c.args.machine.now) (g.M.Machine.disk c.table.new.machine) (g.M.Machine.disk c.end_with.new.machine) c.args.engine.now commands c.as_slice.result.now
    c.table.ensures.kept holds all (c.as_slice.ensures.value ∙ c.in-Ok.ensures.rows p commands holds) c.end_with.ensures.runs telling

pub returns-in-Ok-clause-said : goal.returns-in-Ok-clause-said
returns-in-Ok-clause-said g c = λ p commands holds.
    dump_begun p (g.M.Machine.disk c.args.machine.now) (g.M.Machine.disk c.table.new.machine) (g.M.Machine.disk c.end_with.new.machine) commands c.as_slice.result.now (c.table.ensures.kept.said holds.shows.shows.told)
    (c.as_slice.ensures.value ∙ c.in-Ok.ensures.rows p commands holds) (c.end_with.ensures.runs.said (c.table.ensures.kept.time.files_told.0 holds.shows.shows.told))

pub returns-in-Ok-clause-all : goal.returns-in-Ok-clause-all
returns-in-Ok-clause-all g c = λ p commands holds done.
    c.end_with.ensures.all (c.table.ensures.kept.time.files_told.0 holds.shows.shows.told) (λ e. cc (done, e)) ∙ ap (λ (l : List ℕ). l ++ c.as_slice.result.now) (c.table.ensures.kept.said holds.shows.shows.told)
    ∙ ap (λ (l : List ℕ). (g.M.Machine.disk c.args.machine.now).said ++ l) (c.as_slice.ensures.value ∙ c.in-Ok.ensures.rows p commands holds)

pub returns-in-Ok-clause-keeps : goal.returns-in-Ok-clause-keeps
returns-in-Ok-clause-keeps g c = keeps_behind (g.M.Machine.disk c.args.machine.now) (g.M.Machine.disk c.table.new.machine) (g.M.Machine.disk c.end_with.new.machine) c.table.ensures.kept (keeps_once (g.M.Machine.disk c.table.new.machine) (g.M.Machine.disk c.end_with.new.machine) c.end_with.ensures.runs)

pub returns-in-Err-Damaged-clause-keeps : goal.returns-in-Err-Damaged-clause-keeps
returns-in-Err-Damaged-clause-keeps g c = keeps_behind (g.M.Machine.disk c.args.machine.now) (g.M.Machine.disk c.table.new.machine) (g.M.Machine.disk c.end_damaged.new.machine) c.table.ensures.kept c.end_damaged.ensures.keeps

pub returns-in-Err-clause-images : goal.returns-in-Err-clause-images
returns-in-Err-clause-images g c = λ p commands holds all telling. dump_reads p (g.M.Machine.disk c.args.machine.now) (g.M.Machine.disk c.table.new.machine) c.args.engine.now commands c.table.ensures.kept holds all telling

pub returns-in-Err-clause-said : goal.returns-in-Err-clause-said
returns-in-Err-clause-said g c = λ p commands holds. dump_quiet p (g.M.Machine.disk c.args.machine.now) (g.M.Machine.disk c.table.new.machine) commands (c.table.ensures.kept.said holds.shows.shows.told)

pub returns-in-Err-clause-keeps : goal.returns-in-Err-clause-keeps
returns-in-Err-clause-keeps g c = keeps_once (g.M.Machine.disk c.args.machine.now) (g.M.Machine.disk c.table.new.machine) c.table.ensures.kept

pub returns-in-Err-Damaged-clause-images : goal.returns-in-Err-Damaged-clause-images
returns-in-Err-Damaged-clause-images g c = λ p commands holds all telling.
    absurd (subst IsUndamaged c.in-Err-Damaged.field-0-is (c.in-Err-Damaged.ensures.undamaged (told_by holds) (attached_of holds)))

pub returns-in-Err-Damaged-clause-said : goal.returns-in-Err-Damaged-clause-said
returns-in-Err-Damaged-clause-said g c = λ p commands holds.
    absurd (subst IsUndamaged c.in-Err-Damaged.field-0-is (c.in-Err-Damaged.ensures.undamaged (told_by holds) (attached_of holds)))

pub returns-in-Err-Damaged-clause-all : goal.returns-in-Err-Damaged-clause-all
returns-in-Err-Damaged-clause-all g c = λ p commands holds done.
    absurd (subst IsUndamaged c.in-Err-Damaged.field-0-is (c.in-Err-Damaged.ensures.undamaged (told_by holds) (attached_of holds)))

pub returns-in-Err-clause-all : goal.returns-in-Err-clause-all
returns-in-Err-clause-all g c = λ p commands holds done. absurd (never_done c.in-Err.stop (sym c.status.ensures ∙ done))

pub returns-in-Ok-clause-found : goal.returns-in-Ok-clause-found
returns-in-Ok-clause-found g c = ⊎_elim (λ e. subst IsOfOpened (sym e) tt) (λ e. subst IsOfOpened (sym e) tt) c.end_with.ensures.status

pub returns-in-Err-Damaged-clause-found : goal.returns-in-Err-Damaged-clause-found
returns-in-Err-Damaged-clause-found g c = (damaged_status c.end_damaged.result c.end_damaged.ensures.status).1

pub returns-in-Err-clause-found : goal.returns-in-Err-clause-found
returns-in-Err-clause-found g c = subst IsOfOpened (sym c.status.ensures) (stop_status c.in-Err.stop).1
