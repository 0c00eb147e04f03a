use Rattle.std.proofs.Common.{None, Some}
use Rattle.script_lines.specs.Grammar.{asks, short}
use Rattle.script_lines.proofs.ReadLemmas.{short_read}
use Rattle.script_lines.proofs.fields.two_shorts.Goals as goal

pub returns-in_err-second : goal.returns-in_err-second
returns-in_err-second c = rw c.from_residual-in_err-second.ensures (λ make.
    short_read (λ key. short (λ other. asks (make key other))) _ _ _ c.in_ok-first.first None c.in_ok-field.ensures.some c.in_ok-first.ensures.some (c.in_err-second.ensures (make c.in_ok-first.first)))

pub returns : goal.returns
returns c = λ make. short_read (λ key. short (λ other. asks (make key other))) _ _ _ c.in_ok-first.first (Some (make c.in_ok-first.first c.in_ok-second.second)) c.in_ok-field.ensures.some
    c.in_ok-first.ensures.some (c.in_ok-second.ensures (make c.in_ok-first.first))
