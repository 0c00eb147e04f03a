use Rattle.std.proofs.Common.{◌≡◌, ◌<◌, ap, subst, List}
use Rattle.std.specs.Prelude.{◌^◌, IfErr, OnOk}
use Rattle.formats.specs.declared.record.Record.{Record}
use Rattle.log_records.specs.LogCopy.{copied_length, CopyFindsDamage, HoldsCopy, IsCopyWithin}
use Rattle.log_records.specs.RecordLog.{RecordLogView, Keeps}
use Rattle.running_store.specs.StoreView.{StoreView}
use Rattle.running_store.proofs.store.Store.copy_log.Given.{Over}
use Rattle.running_store.proofs.store.Store.copy_log.Goals.{After-note}
use Rattle.running_store.proofs.store.Store.copy_log.Goals as goal

-- the log of the store
log_is : (g : Over) (c : After-note g) → c.self.inside.log ≡ c.args.self.now.parts.log
log_is g c = ap (λ (s : StoreView). s.parts.log) c.self.view_is

pub returns-clause-copied : goal.returns-clause-copied
returns-clause-copied g c = λ told target_told is_new.
    subst (λ (l : RecordLogView). (stable pending : List (Record g.row.O.Denot)) → Keeps (g.O.Oper.meaning l.bounds) (g.M.Machine.disk c.args.machine.now) l stable pending
    → OnOk c.copy_to-answer.result (HoldsCopy (g.O.Oper.meaning l.bounds) l.log stable (g.T.Machine.disk c.copy_to-answer.new.target).reads)) (log_is g (goal.at.returns-clause-copied g c).After-note)
    (c.copy_to-answer.ensures.copied told target_told is_new)

pub returns-clause-within : goal.returns-clause-within
returns-clause-within g c =
    subst (λ (l : RecordLogView). OnOk c.copy_to-answer.result (IsCopyWithin (g.O.Oper.meaning l.bounds) (g.M.Machine.disk c.args.machine.now) l)) (log_is g (goal.at.returns-clause-within g c).After-note) c.copy_to-answer.ensures.within

pub returns-clause-long : goal.returns-clause-long
returns-clause-long g c = λ told.
    subst (λ (l : RecordLogView). (stable pending : List (Record g.row.O.Denot)) → Keeps (g.O.Oper.meaning l.bounds) (g.M.Machine.disk c.args.machine.now) l stable pending
    → 2 ^ 48 < copied_length (g.O.Oper.meaning l.bounds) l.log stable → c.copy_to-answer.new.target ≡ c.args.target.now) (log_is g (goal.at.returns-clause-long g c).After-note)
    (c.copy_to-answer.ensures.long told)

pub returns-clause-undamaged : goal.returns-clause-undamaged
returns-clause-undamaged g c = λ told.
    subst (λ (l : RecordLogView). (stable pending : List (Record g.row.O.Denot)) → Keeps (g.O.Oper.meaning l.bounds) (g.M.Machine.disk c.args.machine.now) l stable pending
    → IfErr c.copy_to-answer.result (λ e. CopyFindsDamage e → ⊥)) (log_is g (goal.at.returns-clause-undamaged g c).After-note)
    (c.copy_to-answer.ensures.undamaged told)
