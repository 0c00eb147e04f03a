use Rattle.std.proofs.Common.{None}
use Rattle.script_lines.specs.Grammar.{number}
use Rattle.script_lines.proofs.ReadLemmas.{no_number, number_read}
use Rattle.script_lines.proofs.fields.next_range.Goals as goal

pub returns-in_err-low-clause-none : goal.returns-in_err-low-clause-none
returns-in_err-low-clause-none c = rw c.from_residual.ensures (λ form. no_number (λ low. number (λ high. form low high)) _ c.in_err-low.ensures.none)

pub returns-in_err-high-clause-none : goal.returns-in_err-high-clause-none
returns-in_err-high-clause-none c = rw c.from_residual-in_err-high.ensures (λ form.
    number_read (λ low. number (λ high. form low high)) _ _ c.in_ok-low.low None c.in_ok-low.ensures.some c.in_ok-low.ensures.small
    (no_number (λ high. form c.in_ok-low.low high) _ c.in_err-high.ensures.none))

pub returns-clause-some : goal.returns-clause-some
returns-clause-some c = λ form given read.
    number_read (λ low. number (λ high. form low high)) _ _ c.in_ok-low.low given c.in_ok-low.ensures.some c.in_ok-low.ensures.small
    (number_read (λ high. form c.in_ok-low.low high) _ _ c.in_ok-high.high given c.in_ok-high.ensures.some c.in_ok-high.ensures.small read)
