use Rattle.std.proofs.Common.{None, Some, List, ℕ}
use Rattle.script_lines.specs.Grammar.{Form, Request, asks, long}
use Rattle.script_lines.proofs.ReadLemmas.{not_read_behind, read_behind, when_none, when_some}
use Rattle.script_lines.proofs.fields.map_two.Goals as goal

-- what follows the range, and what follows the first key
abbrev keys_of : (ℕ → ℕ → List ℕ → List ℕ → Request) → ℕ → ℕ → Form
keys_of make low high = long (λ key. long (λ other. asks (make low high key other)))

abbrev other_of : (ℕ → ℕ → List ℕ → List ℕ → Request) → ℕ → ℕ → List ℕ → Form
other_of make low high key = long (λ other. asks (make low high key other))

pub returns-in_default : goal.returns-in_default
returns-in_default c = λ make. c.in_default.ensures.none (keys_of make)

pub returns-in_default-2 : goal.returns-in_default-2
returns-in_default-2 c = λ make. c.in-Some.ensures.some (keys_of make) None (when_none _ c.in_default-2.is c.in_ok-first.ensures.none (other_of make c.in-Some.low c.in-Some.high))

pub returns-in_default-3 : goal.returns-in_default-3
returns-in_default-3 c = λ make.
    c.in-Some.ensures.some (keys_of make) None (when_some _ _ c.in-Some-2.is c.in_ok-first.ensures.some (other_of make c.in-Some.low c.in-Some.high) None
    (when_none _ c.in_default-3.is c.in_ok-second.ensures.none (λ other. asks (make c.in-Some.low c.in-Some.high c.in-Some-2.first other))))

pub returns-then-is_none : goal.returns-then-is_none
returns-then-is_none c = λ make.
    let all = make c.in-Some.low c.in-Some.high c.in-Some-2.first c.in-Some-3.second in
    c.in-Some.ensures.some (keys_of make) None (when_some _ _ c.in-Some-2.is c.in_ok-first.ensures.some (other_of make c.in-Some.low c.in-Some.high) None
    (not_read_behind (other_of make c.in-Some.low c.in-Some.high c.in-Some-2.first) _ _ all c.no_field.result c.if-is_none.ensures
    (when_some _ _ c.in-Some-3.is c.in_ok-second.ensures.some (λ other. asks (make c.in-Some.low c.in-Some.high c.in-Some-2.first other))) (c.no_field.ensures all)))

pub returns : goal.returns
returns c = λ make.
    let all = make c.in-Some.low c.in-Some.high c.in-Some-2.first c.in-Some-3.second in
    c.in-Some.ensures.some (keys_of make) (Some all) (when_some _ _ c.in-Some-2.is c.in_ok-first.ensures.some (other_of make c.in-Some.low c.in-Some.high) (Some all)
    (read_behind (other_of make c.in-Some.low c.in-Some.high c.in-Some-2.first) _ _ all c.no_field.result c.if-is_none.ensures
    (when_some _ _ c.in-Some-3.is c.in_ok-second.ensures.some (λ other. asks (make c.in-Some.low c.in-Some.high c.in-Some-2.first other))) (c.no_field.ensures all)))
