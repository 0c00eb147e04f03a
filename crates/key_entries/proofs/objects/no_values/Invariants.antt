use Rattle.std.proofs.Common.{◌≡◌, map, take, []}
use Rattle.key_entries.proofs.objects.no_values.Given as goal

abbrev pub invariant-loop-object : goal.invariant-loop-object
invariant-loop-object l = l.values ≡ map (λ x. []) (take l._object-index l.objects)
