use Rattle.std.proofs.Common.{None, Some, subst, sym}
use Rattle.script_lines.specs.Grammar.{IsHex, asks, fields_of, hex}
use Rattle.script_lines.proofs.ReadLemmas.{hex_read, no_hex_read, nothing_behind, nothing_read, number_read, something_read, when_none, when_some}
use Rattle.script_lines.proofs.fields.object_and_value.Goals as goal

pub returns-then-is_none : goal.returns-then-is_none
returns-then-is_none c = λ make. number_read (λ x. hex (λ bytes. asks (make x bytes))) _ _ c.in-Some.object None c.in-Some.ensures.some c.in-Some.ensures.small
    (nothing_behind (λ bytes. asks (make c.in-Some.object bytes)) _ _ _ c.in-Some-next_field.ensures.some
    (λ bytes. nothing_read (Some (asks (make c.in-Some.object bytes))) (fields_of c.in-Some-next_field.rest.now) (λ _. make c.in-Some.object bytes) c.no_field.result c.if-is_none.ensures
    (c.no_field.ensures (make c.in-Some.object bytes))))

pub returns-in_default-2 : goal.returns-in_default-2
returns-in_default-2 c = λ make. number_read (λ x. hex (λ bytes. asks (make x bytes))) _ _ c.in-Some.object None c.in-Some.ensures.some c.in-Some.ensures.small
    (no_hex_read (λ bytes. asks (make c.in-Some.object bytes)) _ _ _ c.in-Some-next_field.ensures.some (when_none _ c.in_default-2.is c.in_ok-bytes.ensures.none))

pub returns : goal.returns
returns c = λ make.
    let all = make c.in-Some.object c.new.result in
    number_read (λ x. hex (λ bytes. asks (make x bytes))) _ _ c.in-Some.object (Some all) c.in-Some.ensures.some c.in-Some.ensures.small
    (hex_read (λ bytes. asks (make c.in-Some.object bytes)) _ _ _ c.new.result (Some all) c.in-Some-next_field.ensures.some
    (subst (IsHex c.in-Some-next_field.hex.now) (sym c.new.ensures) (when_some _ _ c.in-Some-2.is c.in_ok-bytes.ensures.some))
    (something_read (Some (asks all)) (fields_of c.in-Some-next_field.rest.now) all c.no_field.result c.if-is_none.ensures (c.no_field.ensures all)))
