use Rattle.std.proofs.Common.{◌∙◌, sym}
use Rattle.std.proofs.lemmas.Map.{keys-set_value}
use Rattle.std.specs.Option.{option_map}
use Rattle.dirty_cache.specs.Places.{with_bytes}
use Rattle.dirty_cache.specs.declared.entry.Entry.{Entry}
use Rattle.dirty_cache.proofs.Swaps.{lookup-set_other, lookup-set_same}
use Rattle.dirty_cache.proofs.clean.swap_clean.Goals as goal

pub returns-in-Some-clause-entry : goal.returns-in-Some-clause-entry
returns-in-Some-clause-entry c =
    let set : Entry = record { lsn = c.in-Some.entry.now.lsn; bytes = c.swap.new.x } in
    lookup-set_same c.args.x c.in-Some.entry.now set c.args.clean.now.entries (sym c.in-Some.ensures.value) ∙ (λ i. option_map (with_bytes (c.swap.ensures.x_after i)) (c.in-Some.ensures.value i))

pub returns-in-Some-clause-others : goal.returns-in-Some-clause-others
returns-in-Some-clause-others c y apart =
    let set : Entry = record { lsn = c.in-Some.entry.now.lsn; bytes = c.swap.new.x } in
    lookup-set_other c.args.x c.in-Some.entry.now set c.args.clean.now.entries (sym c.in-Some.ensures.value) y apart

pub returns-in-Some-clause-order : goal.returns-in-Some-clause-order
returns-in-Some-clause-order c = keys-set_value _ c.args.clean.now.entries (record { lsn = c.in-Some.entry.now.lsn; bytes = c.swap.new.x })
