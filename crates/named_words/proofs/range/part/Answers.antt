use Rattle.std.proofs.Common.{◌≡◌, ◌∙◌, ap, sym, false, rules, ℕ, List, [], suc, ◌-◌, length, min, take, drop, if◌then◌else◌}
use Rattle.named_words.specs.Ranges.{are_crossed, place_in}
use Rattle.named_words.proofs.Parts.{clipped}
use Rattle.named_words.proofs.range.part.Goals as goal

pub returns : goal.returns
returns c =
    let value : List ℕ = c.args.value.now in
    let p : ℕ = place_in (length value) c.args.from in
    let q : ℕ = place_in (length value) c.args.to in
    let first : c.place.result ≡ min (length value) p = search rules in
    let second : c.place-2.result ≡ min (length value) q = search rules in
    let apart : are_crossed c.args.from c.args.to ≡ false = search rules in
    c.cut.ensures
    ∙ ap (λ (n : ℕ). take (suc n - c.place.result) (drop c.place.result value)) second
    ∙ ap (λ (n : ℕ). take (suc (min (length value) q) - n) (drop n value)) first
    ∙ clipped value p q
    ∙ sym (ap (λ b. if b then [] else take (suc q - p) (drop p value)) apart)
