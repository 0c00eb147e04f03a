use Rattle.std.proofs.Common.{◌≡◌, ◌∙◌, sym, ◌++◌, ◌∷◌, [], List, ℕ}
use Rattle.std.proofs.lemmas.Bool.{cond-false, cond-true}
use Rattle.page_map.specs.Sweeps.{is_left}
use Rattle.range_calls.specs.Store.{state_of}
use Rattle.map_client.proofs.upkeep.add_left.Goals as goal

pub returns-then-not-is_left-clause-added : goal.returns-then-not-is_left-clause-added
returns-then-not-is_left-clause-added g c = λ p commands holds there.
    let check = c.args.check.now in
    let old : List ℕ = c.args.left.now.items in
    let object : ℕ = c.args.object in
    sym (cond-false (is_left check.range check.met.objects object (state_of p commands object)) (old ++ object ∷ []) old (sym (c.is_left.ensures p commands holds there) ∙ c.if-not-is_left.true))

pub returns-clause-added : goal.returns-clause-added
returns-clause-added g c = λ p commands holds there.
    let check = c.args.check.now in
    let old : List ℕ = c.args.left.now.items in
    let object : ℕ = c.args.object in
    c.in_ok-push.ensures.items ∙ sym (cond-true (is_left check.range check.met.objects object (state_of p commands object)) (old ++ object ∷ []) old (sym (c.is_left.ensures p commands holds there) ∙ c.if-not-is_left.false))
