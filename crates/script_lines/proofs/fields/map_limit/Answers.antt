use Rattle.std.proofs.Common.{None, Some, List, ℕ}
use Rattle.script_lines.specs.Grammar.{Form, Request, asks, long, number}
use Rattle.script_lines.proofs.ReadLemmas.{when_none, when_some}
use Rattle.script_lines.proofs.fields.map_limit.Goals as goal

-- what follows the range, and what follows the first key
abbrev keys_of : (ℕ → ℕ → List ℕ → List ℕ → ℕ → Request) → ℕ → ℕ → Form
keys_of make low high = long (λ from. long (λ to. number (λ limit. asks (make low high from to limit))))

abbrev to_of : (ℕ → ℕ → List ℕ → List ℕ → ℕ → Request) → ℕ → ℕ → List ℕ → Form
to_of make low high from = long (λ to. number (λ limit. asks (make low high from to limit)))

pub returns-in_default : goal.returns-in_default
returns-in_default c = λ make. c.in_default.ensures.none (keys_of make)

pub returns-in_default-2 : goal.returns-in_default-2
returns-in_default-2 c = λ make. c.in-Some.ensures.some (keys_of make) None (when_none _ c.in_default-2.is c.in_ok-from.ensures.none (to_of make c.in-Some.low c.in-Some.high))

pub returns-in_default-3 : goal.returns-in_default-3
returns-in_default-3 c = λ make.
    c.in-Some.ensures.some (keys_of make) None (when_some _ _ c.in-Some-2.is c.in_ok-from.ensures.some (to_of make c.in-Some.low c.in-Some.high) None
    (when_none _ c.in_default-3.is c.in_ok-to.ensures.none (λ to. number (λ limit. asks (make c.in-Some.low c.in-Some.high c.in-Some-2.from to limit)))))

pub returns-in_default-one_number : goal.returns-in_default-one_number
returns-in_default-one_number c = λ make.
    c.in-Some.ensures.some (keys_of make) None (when_some _ _ c.in-Some-2.is c.in_ok-from.ensures.some (to_of make c.in-Some.low c.in-Some.high) None
    (when_some _ _ c.in-Some-3.is c.in_ok-to.ensures.some (λ to. number (λ limit. asks (make c.in-Some.low c.in-Some.high c.in-Some-2.from to limit))) None
    (c.in_default-one_number.ensures (make c.in-Some.low c.in-Some.high c.in-Some-2.from c.in-Some-3.to))))

pub returns : goal.returns
returns c = λ make.
    let all = make c.in-Some.low c.in-Some.high c.in-Some-2.from c.in-Some-3.to c.in-Some-one_number.limit in
    c.in-Some.ensures.some (keys_of make) (Some all) (when_some _ _ c.in-Some-2.is c.in_ok-from.ensures.some (to_of make c.in-Some.low c.in-Some.high) (Some all)
    (when_some _ _ c.in-Some-3.is c.in_ok-to.ensures.some (λ to. number (λ limit. asks (make c.in-Some.low c.in-Some.high c.in-Some-2.from to limit))) (Some all)
    (c.in-Some-one_number.ensures (make c.in-Some.low c.in-Some.high c.in-Some-2.from c.in-Some-3.to))))
