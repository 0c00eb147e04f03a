use Rattle.std.proofs.Common.{rules, ◌≡◌, ℕ, ◌-◌, ◌==◌, false, None, Some, List, option_map, sym, ap, ◌∙◌}
use Rattle.page_map.specs.Walk.{child_in}
use Rattle.page_map.specs.declared.beside.Beside.TheVariants.{Before}
use Rattle.page_map.proofs.StepLemmas.{before_at}
use Rattle.page_map.proofs.map.Map.beside.Goals as goal

pub returns-in_err-object-2 : goal.returns-in_err-object-2
returns-in_err-object-2 c =
    let lo : ℕ = c.args.self.now.lo in
    let hi : ℕ = c.args.self.now.hi in
    let bytes : List ℕ = c.args.page.now in
    let place : ℕ = c.args.place in
    let some : (place == 0) ≡ false = search rules in
    let none : child_in lo hi bytes (place - 1) ≡ None = search rules in
    c.from_residual-in_err-object-2.ensures ∙ sym (before_at lo hi bytes place c.args.has_next c.if-has_next.false some ∙ ap (option_map Before) none)

pub returns : goal.returns
returns c =
    let lo : ℕ = c.args.self.now.lo in
    let hi : ℕ = c.args.self.now.hi in
    let bytes : List ℕ = c.args.page.now in
    let place : ℕ = c.args.place in
    let some : (place == 0) ≡ false = search rules in
    let found : child_in lo hi bytes (place - 1) ≡ Some c.in_ok-object-2.object = search rules in
    sym (before_at lo hi bytes place c.args.has_next c.if-has_next.false some ∙ ap (option_map Before) found)
