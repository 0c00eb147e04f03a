use Rattle.std.proofs.Common.{◌≡◌, ◌∙◌, ap, subst, List, ℕ, Option, [], ◌∷◌, ◌++◌, OnOk}
use Rattle.std.specs.Option.{option_map_or}
use Rattle.dirty_cache.specs.declared.entry.Entry.{Entry}
use Rattle.store_engine.specs.Store.{state_of}
use Rattle.transactions.proofs.Reading.{reads_so}
use Rattle.transactions.proofs.seeing.push_value.Goals as goal

pub returns-in-Ok-true-clause-reads : goal.returns-in-Ok-true-clause-reads
returns-in-Ok-true-clause-reads g c =
    let disk = g.M.Machine.disk in
    reads_so g.O.Oper.meaning (disk c.args.machine.now) (disk c.see.new.machine) c.args.engine.now c.see.new.engine _ _ (λ failed. absurd failed) (λ failed. c.push_short-in-Ok-true.ensures.no_fault failed) c.in-Ok-true.ensures.reads

pub returns-in-Ok-true-clause-value : goal.returns-in-Ok-true-clause-value
returns-in-Ok-true-clause-value g c = λ p commands holds.
    let s = state_of g.O.Oper.meaning p commands c.args.object in
    let over = ap (λ (o : Option Entry). option_map_or (λ e. e.bytes) o s) c.in_default.ensures.value in
    let is = c.get.ensures.value [] ∙ c.in-Ok-true.ensures.value p commands holds c.in-Ok-true.field-0-test [] ∙ over in
    subst (λ (v : List ℕ). OnOk c.push_short-in-Ok-true.result (c.push_short-in-Ok-true.new.values ≡ c.args.values.now ++ v ∷ [])) is c.push_short-in-Ok-true.ensures.pushed

pub returns-in-Ok-false-clause-reads : goal.returns-in-Ok-false-clause-reads
returns-in-Ok-false-clause-reads g c =
    let disk = g.M.Machine.disk in
    reads_so g.O.Oper.meaning (disk c.args.machine.now) (disk c.see.new.machine) c.args.engine.now c.see.new.engine _ _ (λ failed. absurd failed) (λ none. absurd none) c.in-Ok-false.ensures.reads

pub returns-in-Err-clause-reads : goal.returns-in-Err-clause-reads
returns-in-Err-clause-reads g c =
    let disk = g.M.Machine.disk in
    reads_so g.O.Oper.meaning (disk c.args.machine.now) (disk c.see.new.machine) c.args.engine.now c.see.new.engine _ _ (λ failed. failed) (λ failed. failed) c.in-Err.ensures.reads
