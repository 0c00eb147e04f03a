use Rattle.std.proofs.Common.{◌≡◌, ◌+◌, ◌∙◌, ap, arith, sym}
use Rattle.std.specs.Int.{from_bool}
use Rattle.std.specs.Option.{option_len}
use Rattle.dirty_cache.specs.Places.{count_of}
use Rattle.dirty_cache.proofs.Counts.{count-replaced, from_bool-is_some, option_len-le, count-le-length}
use Rattle.dirty_cache.proofs.places.Places.replace.Goals as goal

pub overflow_add-self : goal.overflow_add-self
overflow_add-self c =
    omega (arith, c.self.invariant.0, count-le-length c.self.inside.places.entries, c.len-places.ensures.len, c.len-places.ensures.small, c.from-more.ensures, ap from_bool c.is_some.ensures, from_bool-is_some c.args.entry, option_len-le c.args.entry)

counted : (c : goal.After-self-3-1) → count_of (c.get_mut.follows.lender c.replace-before.new.dest).entries + option_len c.in_ok-place.place.now ≡ count_of c.self.inside.places.entries + option_len c.replace-before.new.dest
counted c =
    count-replaced c.args.x c.self.inside.places.entries _ c.in_ok-place.place.now c.replace-before.new.dest (sym c.in_ok-place.ensures.value) (c.get_mut.follows.holds c.replace-before.new.dest).0

pub invariant_of-self-2 : goal.invariant_of-self-2
invariant_of-self-2 c =
    (omega (arith, counted c, c.self.invariant.0, c.from-more.ensures, ap from_bool c.is_some.ensures, from_bool-is_some c.args.entry, ap option_len c.replace-before.ensures.after, c.from.ensures, ap from_bool c.is_some-2.ensures, from_bool-is_some c.replace-before.result, ap option_len c.replace-before.ensures.value), (c.get_mut.follows.holds c.replace-before.new.dest).4)

pub returns-clause-count : goal.returns-clause-count
returns-clause-count c =
    rw (← c.self.view_is) (ap (λ n. count_of (c.get_mut.follows.lender c.replace-before.new.dest).entries + n) (ap option_len c.replace-before.ensures.value) ∙ counted c ∙ ap (λ o. count_of c.self.inside.places.entries + option_len o) c.replace-before.ensures.after)
