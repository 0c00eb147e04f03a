use Rattle.std.proofs.Common.{◌≡◌, List, ℕ, true, false, sym, ap, ◌∙◌}
use Rattle.page_map.specs.Map.{bytes_at}
use Rattle.page_map.specs.Splits.{all_there}
use Rattle.page_map.specs.Walk.{is_on}
use Rattle.page_map.proofs.DescentLemmas.{lacks_cells, other_level, read_too, unread}
use Rattle.page_map.proofs.descent.Descent.step.Goals as goal

pub returns-in_default : goal.returns-in_default
returns-in_default c = λ s is.
    let here : List ℕ = bytes_at c.args.map.now.lo s c.args.self.object in
    let off : is_on c.args.self.level here ≡ false = ap (λ (b : List ℕ). is_on c.args.self.level b) (sym is) ∙ sym c.in_default.ensures.there in
    unread c.args.room c.args.map.now.lo c.args.map.now.hi s c.args.key.now c.args.value.now c.args.self (other_level c.args.self.level here off)

pub returns-in_default-open : goal.returns-in_default-open
returns-in_default-open c = λ s is.
    let here : List ℕ = bytes_at c.args.map.now.lo s c.args.self.object in
    let on : is_on c.args.self.level here ≡ true = ap (λ (b : List ℕ). is_on c.args.self.level b) (sym is) ∙ sym c.in-Some.ensures.there in
    let lacks : all_there here ≡ false = ap all_there (sym (c.in-Some.ensures.page ∙ is)) ∙ sym c.in_default-open.ensures.there in
    unread c.args.room c.args.map.now.lo c.args.map.now.hi s c.args.key.now c.args.value.now c.args.self (lacks_cells c.args.self.level here on lacks)

pub returns : goal.returns
returns c = λ s is.
    let on : is_on c.args.self.level c.in-Some.page ≡ true = ap (λ (b : List ℕ). is_on c.args.self.level b) c.in-Some.ensures.page ∙ sym c.in-Some.ensures.there in
    c.down.ensures s c.args.value.now (c.in-Some.ensures.page ∙ is) (read_too c.args.self.level c.in-Some.page on (sym c.in-Some-open.ensures.there))
