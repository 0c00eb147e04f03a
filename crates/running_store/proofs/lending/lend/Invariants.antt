use Rattle.std.proofs.Common.{◌≡◌, map, take}
use Rattle.running_store.specs.Laid.Lent.{KeepsOthers, cached_values}
use Rattle.running_store.proofs.lending.lend.Given as goal

abbrev pub invariant-loop-object : goal.invariant-loop-object
invariant-loop-object l = record {
  values : l.values ≡ map (cached_values l.fn.cache) (take l.object-index l.objects);
  kept : KeepsOthers (take l.object-index l.objects) l.fn.cache l.cache;
}
