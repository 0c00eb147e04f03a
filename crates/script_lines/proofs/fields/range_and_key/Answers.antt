use Rattle.std.proofs.Common.{None, Some}
use Rattle.script_lines.specs.Grammar.{asks, number, short}
use Rattle.script_lines.proofs.ReadLemmas.{no_number, number_read}
use Rattle.script_lines.proofs.fields.range_and_key.Goals as goal

pub returns-in_err-high : goal.returns-in_err-high
returns-in_err-high c = rw c.from_residual-in_err-high.ensures (λ make.
    number_read (λ low. number (λ high. short (λ key. asks (make low high key)))) _ _ c.in_ok-low.low None c.in_ok-low.ensures.some c.in_ok-low.ensures.small
    (no_number (λ high. short (λ key. asks (make c.in_ok-low.low high key))) _ c.in_err-high.ensures.none))

pub returns-in_err-key : goal.returns-in_err-key
returns-in_err-key c = rw c.from_residual-in_err-key.ensures (λ make.
    number_read (λ low. number (λ high. short (λ key. asks (make low high key)))) _ _ c.in_ok-low.low None c.in_ok-low.ensures.some c.in_ok-low.ensures.small
    (number_read (λ high. short (λ key. asks (make c.in_ok-low.low high key))) _ _ c.in_ok-high.high None c.in_ok-high.ensures.some c.in_ok-high.ensures.small
    (c.in_err-key.ensures (make c.in_ok-low.low c.in_ok-high.high))))

pub returns : goal.returns
returns c = λ make.
    let all = make c.in_ok-low.low c.in_ok-high.high c.in_ok-key.key in
    number_read (λ low. number (λ high. short (λ key. asks (make low high key)))) _ _ c.in_ok-low.low (Some all) c.in_ok-low.ensures.some c.in_ok-low.ensures.small
    (number_read (λ high. short (λ key. asks (make c.in_ok-low.low high key))) _ _ c.in_ok-high.high (Some all) c.in_ok-high.ensures.some c.in_ok-high.ensures.small
    (c.in_ok-key.ensures (make c.in_ok-low.low c.in_ok-high.high)))
