use Rattle.std.proofs.Common.{List, ℕ, subst, sym}
use Rattle.script_lines.specs.Grammar.{SaysLong}
use Rattle.script_lines.proofs.ReadLemmas.{long_read, no_long, none_long, too_many, when_none, when_some}
use Rattle.script_lines.proofs.fields.next_text.Goals as goal

pub returns-in_default-clause-none : goal.returns-in_default-clause-none
returns-in_default-clause-none c = λ form. none_long form _ c.in_default.ensures.none

pub returns-in_default-2-clause-none : goal.returns-in_default-2-clause-none
returns-in_default-2-clause-none c = λ form. no_long form _ _ _ c.in-Some.ensures.some (λ bytes says. when_none _ c.in_default-2.is c.in_ok-bytes.ensures.none bytes says.0)

pub returns-in_default-new-clause-none : goal.returns-in_default-new-clause-none
returns-in_default-new-clause-none c = λ form. no_long form _ _ _ c.in-Some.ensures.some
    (too_many c.in-Some.field.now c.in-Some-2.bytes.items (when_some _ _ c.in-Some-2.is c.in_ok-bytes.ensures.some) (sym c.in_default-new.ensures.there))

pub returns-clause-some : goal.returns-clause-some
returns-clause-some c = λ form given read. long_read form _ _ _ c.in-Some-new.long given c.in-Some.ensures.some
    (subst (λ (b : List ℕ). SaysLong b c.in-Some.field.now) (sym c.in-Some-new.ensures.value) (when_some _ _ c.in-Some-2.is c.in_ok-bytes.ensures.some, sym c.in-Some-new.ensures.there)) read
