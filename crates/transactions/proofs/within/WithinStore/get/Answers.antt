use Rattle.std.proofs.Common.{ap, ◌∙◌, Option, []}
use Rattle.std.specs.Option.{option_map_or}
use Rattle.dirty_cache.specs.declared.entry.Entry.{Entry}
use Rattle.running_store.specs.Laid.{values_in}
use Rattle.transactions.proofs.within.WithinStore.get.Goals as goal

pub returns-in-None-clause-value : goal.returns-in-None-clause-value
returns-in-None-clause-value g c =
    c.get.ensures.value [] ∙ ap (λ (o : Option Entry). option_map_or (λ (e : Entry). e.bytes) o (values_in c.args.self.now.engine.now.parts.volatile.objects [] c.args.object)) c.in-None.ensures.value
