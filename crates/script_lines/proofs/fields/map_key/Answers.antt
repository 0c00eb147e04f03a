use Rattle.std.proofs.Common.{None, Some, List, ℕ}
use Rattle.script_lines.specs.Grammar.{Form, Request, asks, long}
use Rattle.script_lines.proofs.ReadLemmas.{not_read_behind, read_behind, when_none, when_some}
use Rattle.script_lines.proofs.fields.map_key.Goals as goal

-- what follows the range
abbrev key_of : (ℕ → ℕ → List ℕ → Request) → ℕ → ℕ → Form
key_of make low high = long (λ key. asks (make low high key))

pub returns-in_default : goal.returns-in_default
returns-in_default c = λ make. c.in_default.ensures.none (key_of make)

pub returns-in_default-2 : goal.returns-in_default-2
returns-in_default-2 c = λ make. c.in-Some.ensures.some (key_of make) None (when_none _ c.in_default-2.is c.in_ok-key.ensures.none (λ key. asks (make c.in-Some.low c.in-Some.high key)))

pub returns-then-is_none : goal.returns-then-is_none
returns-then-is_none c = λ make.
    let all = make c.in-Some.low c.in-Some.high c.in-Some-2.key in
    c.in-Some.ensures.some (key_of make) None (not_read_behind (key_of make c.in-Some.low c.in-Some.high) _ _ all c.no_field.result c.if-is_none.ensures
    (when_some _ _ c.in-Some-2.is c.in_ok-key.ensures.some (λ key. asks (make c.in-Some.low c.in-Some.high key))) (c.no_field.ensures all))

pub returns : goal.returns
returns c = λ make.
    let all = make c.in-Some.low c.in-Some.high c.in-Some-2.key in
    c.in-Some.ensures.some (key_of make) (Some all) (read_behind (key_of make c.in-Some.low c.in-Some.high) _ _ all c.no_field.result c.if-is_none.ensures
    (when_some _ _ c.in-Some-2.is c.in_ok-key.ensures.some (λ key. asks (make c.in-Some.low c.in-Some.high key))) (c.no_field.ensures all))
