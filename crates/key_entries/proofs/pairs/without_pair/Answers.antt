use Rattle.std.proofs.Common.{ℕ, List, ap, ◌∙◌, []}
use Rattle.key_entries.specs.Places.{place_in}
use Rattle.key_entries.proofs.PlaceLemmas.{delete_there, delete_absent}
use Rattle.key_entries.proofs.pairs.without_pair.Goals as goal

pub returns-in-Ok : goal.returns-in-Ok
returns-in-Ok c =
    delete_there c.args.key [] c.args.pairs.items c.requires c.in-Ok.at c.remove.new.self.items (c.in-Ok.ensures.value ∙ ap (λ (l : List (List ℕ × List ℕ)). place_in c.args.key l) c.as_slice.ensures.value) c.remove.ensures.items

pub returns-in-Err : goal.returns-in-Err
returns-in-Err c = delete_absent c.args.key [] c.args.pairs.items c.requires c.in-Err.field-0 (c.in-Err.ensures.value ∙ ap (λ (l : List (List ℕ × List ℕ)). place_in c.args.key l) c.as_slice.ensures.value)
