use Rattle.std.proofs.Common.{[], inl, inr, refl, subst, None, Option, Some}
use Rattle.std.specs.Prelude.{IsSome}
use Rattle.dirty_cache.specs.declared.entry.Entry.{Entry}
use Rattle.formats.specs.declared.read_err.ReadErr.TheVariants.{Memory}
use Rattle.running_store.specs.Laid.{values_in}
use Rattle.transactions.proofs.Reading.{reads_none}
use Rattle.transactions.proofs.WithinLemmas.{fetch_reads, only_read, seen_is}
use Rattle.transactions.proofs.within.WithinStore.fetch.Goals as goal

pub returns-then-object-params-clause-reads : goal.returns-then-object-params-clause-reads
returns-then-object-params-clause-reads g c =
    let d = g.M.Machine.disk c.args.machine.now in
    only_read g.O.Oper.meaning d d c.args.self.now c.args.self.now refl refl None (reads_none g.O.Oper.meaning d c.args.self.now.engine.now _ (g.met.M.Machine.lawful c.args.machine.now) c.requires.unbroken (λ failed. failed))

-- a value of the overlay that is too long
pub returns-then-as_slice-params-clause-reads : goal.returns-then-as_slice-params-clause-reads
returns-then-as_slice-params-clause-reads g c =
    let d = g.M.Machine.disk c.args.machine.now in
    only_read g.O.Oper.meaning d d c.args.self.now c.args.self.now refl refl (Some Memory)
    (reads_none g.O.Oper.meaning d c.args.self.now.engine.now _ (g.met.M.Machine.lawful c.args.machine.now) c.requires.unbroken (λ failed. failed))

pub returns-in-Some-clause-reads : goal.returns-in-Some-clause-reads
returns-in-Some-clause-reads g c =
    let d = g.M.Machine.disk c.args.machine.now in
    only_read g.O.Oper.meaning d d c.args.self.now c.args.self.now refl refl None (reads_none g.O.Oper.meaning d c.args.self.now.engine.now _ (g.met.M.Machine.lawful c.args.machine.now) c.requires.unbroken (λ failed. failed))

pub returns-in-Some-clause-value : goal.returns-in-Some-clause-value
returns-in-Some-clause-value g c = λ p commands all there.
    seen_is g.O.Oper.meaning p (g.M.Machine.disk c.args.machine.now) c.args.self.now commands all c.args.object (values_in c.args.self.now.engine.now.parts.volatile.objects [])
    (inl (subst (λ (o : Option Entry). IsSome o) c.in-Some.ensures.value refl))

pub returns-in-Ok-clause-reads : goal.returns-in-Ok-clause-reads
returns-in-Ok-clause-reads g c =
    let disk = g.M.Machine.disk in
    only_read g.O.Oper.meaning (disk c.args.machine.now) (disk c.fetch.new.machine) c.args.self.now _ refl refl None
    (fetch_reads g.O.Oper.meaning (disk c.args.machine.now) (disk c.fetch.new.machine) c.args.self.now.engine.now c.fetch.new.self c.args.object None c.in-Ok.ensures.fetched)

pub returns-in-Err-clause-reads : goal.returns-in-Err-clause-reads
returns-in-Err-clause-reads g c =
    let disk = g.M.Machine.disk in
    only_read g.O.Oper.meaning (disk c.args.machine.now) (disk c.fetch.new.machine) c.args.self.now _ refl refl (Some c.in-Err.cause)
    (fetch_reads g.O.Oper.meaning (disk c.args.machine.now) (disk c.fetch.new.machine) c.args.self.now.engine.now c.fetch.new.self c.args.object (Some c.in-Err.cause) c.in-Err.ensures.fetched)

pub returns-in-Ok-clause-value : goal.returns-in-Ok-clause-value
returns-in-Ok-clause-value g c = λ p commands all there.
    seen_is g.O.Oper.meaning p (g.M.Machine.disk c.args.machine.now) c.args.self.now commands all c.args.object (values_in c.fetch.new.self.parts.volatile.objects [])
    (inr (c.in-Ok.ensures.value p all.base all.holds there []))
