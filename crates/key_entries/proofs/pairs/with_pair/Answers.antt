use Rattle.std.proofs.Common.{ℕ, List, ap, ◌∙◌, insert}
use Rattle.key_entries.specs.Places.{place_in}
use Rattle.key_entries.proofs.PlaceLemmas.{put_there, put_full, put_new}
use Rattle.key_entries.proofs.pairs.with_pair.Goals as goal

pub returns-then-is_full : goal.returns-then-is_full
returns-then-is_full c =
    put_full c.args.key c.args.value c.args.pairs.items c.requires c.in-Err.at (c.in-Err.ensures.value ∙ ap (λ (l : List (List ℕ × List ℕ)). place_in c.args.key l) c.as_slice.ensures.value) c.if-is_full.ensures.value

pub returns-in-Ok : goal.returns-in-Ok
returns-in-Ok c =
    put_there c.args.key c.args.value c.args.pairs.items c.requires c.in-Ok.there c.insert.new.self.items (c.in-Ok.ensures.value ∙ ap (λ (l : List (List ℕ × List ℕ)). place_in c.args.key l) c.as_slice.ensures.value)
    (c.insert.ensures.items ∙ ap (λ (l : List (List ℕ × List ℕ)). insert l c.in-Ok.there (c.args.key, c.args.value)) c.remove-old.ensures.items)

pub returns-else-is_full : goal.returns-else-is_full
returns-else-is_full c =
    put_new c.args.key c.args.value c.args.pairs.items c.requires c.in-Err.at c.insert-in-Err.new.self.items (c.in-Err.ensures.value ∙ ap (λ (l : List (List ℕ × List ℕ)). place_in c.args.key l) c.as_slice.ensures.value) c.if-is_full.ensures.value c.insert-in-Err.ensures.items
