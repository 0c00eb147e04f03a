use Rattle.std.proofs.Common.{◌∙◌, ◌<◌, ℕ, List, length, min, take, ap, arith}
use Rattle.disk_model.specs.Moments.{passes_none}
use Rattle.formats.specs.declared.params.Params.{Params}
use Rattle.embed.proofs.Grouped.{last_of, reads_none}
use Rattle.embed.proofs.store.Store.snapshot_value.Goals as goal

pub returns-then-is_broken-clause-time : goal.returns-then-is_broken-clause-time
returns-then-is_broken-clause-time g c = passes_none _

pub returns-then-is_given_up-clause-time : goal.returns-then-is_given_up-clause-time
returns-then-is_given_up-clause-time g c = passes_none _

pub returns-then-is_given_up-clause-reads : goal.returns-then-is_given_up-clause-reads
returns-then-is_given_up-clause-reads g c = λ unbroken. reads_none (g.M.Machine.disk c.args.self.now.machine) c.args.self.now.engine _ (g.met.M.Machine.lawful c.args.self.now.machine) unbroken (λ none. absurd none)

pub returns-then-object-params-clause-time : goal.returns-then-object-params-clause-time
returns-then-object-params-clause-time g c = passes_none _

pub returns-then-object-params-clause-reads : goal.returns-then-object-params-clause-reads
returns-then-object-params-clause-reads g c = λ unbroken. reads_none (g.M.Machine.disk c.args.self.now.machine) c.args.self.now.engine _ (g.met.M.Machine.lawful c.args.self.now.machine) unbroken (λ none. absurd none)

pub returns-then-object-params-clause-value : goal.returns-then-object-params-clause-value
returns-then-object-params-clause-value g c = λ p base commands holds it.
    omega (arith, c.if-object-params.true, ap (λ (q : Params). q.objects) c.params.ensures.value, ap (λ (q : Params). q.objects) holds.shows.shows.store.params)

pub returns-in-Err-clause-time : goal.returns-in-Err-clause-time
returns-in-Err-clause-time g c = c.value.ensures.reads.kept.time

pub returns-in-Err-clause-reads : goal.returns-in-Err-clause-reads
returns-in-Err-clause-reads g c = λ unbroken. c.in-Err.ensures.reads

pub returns-in-Some-clause-time : goal.returns-in-Some-clause-time
returns-in-Some-clause-time g c = c.value.ensures.reads.kept.time

pub returns-in-Some-clause-reads : goal.returns-in-Some-clause-reads
returns-in-Some-clause-reads g c = λ unbroken. c.in_default.ensures.reads

pub returns-in-Some-clause-value : goal.returns-in-Some-clause-value
returns-in-Some-clause-value g c = λ p base commands holds it.
    let room = length c.args.into.now in
    let there : c.args.object < p.objects = omega (arith, c.if-object-params.false, ap (λ (q : Params). q.objects) c.params.ensures.value, ap (λ (q : Params). q.objects) holds.shows.shows.store.params) in
    let value = c.as_slice.ensures ∙ last_of c.in-Some.value _ c.value.new.into c.new-values.result c.pop.new.self c.new-values.ensures (c.in_default.ensures.value p base commands holds it there) c.in-Some.ensures.some in (
      c.copy_front.ensures.count ∙ ap (λ (l : List ℕ). length l) value,
      ap (λ (n : ℕ). take (min n room) c.copy_front.new.into) c.copy_front.ensures.count ∙ c.copy_front.ensures.front ∙ ap (λ (l : List ℕ). take room l) value,
    )
