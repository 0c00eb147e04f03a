use Rattle.std.proofs.Common.{◌≡◌, ◌∙◌, ap, sym}
use Rattle.dirty_cache.specs.Places.{count_of}
use Rattle.dirty_cache.proofs.Counts.{count-made}
use Rattle.dirty_cache.proofs.places.Places.make.Goals as goal

counted : (c : goal.Joined-branch-2) → count_of c.insert.new.self.entries ≡ count_of c.self.inside.places.entries
counted c =
    ap count_of c.in_ok-insert.ensures.entries ∙ count-made c.args.x c.self.inside.places.entries (sym c.contains_key.ensures ∙ c.if-contains_key.false)

pub invariant_of-self-2 : goal.invariant_of-self-2
invariant_of-self-2 c = (c.self.invariant.0 ∙ sym (counted c), c.in_ok-insert.ensures.unique)

pub returns-clause-count : goal.returns-clause-count
returns-clause-count c = rw (← c.self.view_is) (counted c)
