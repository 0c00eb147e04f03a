use Rattle.std.proofs.Common.{◌∙◌, sym}
use Rattle.std.specs.Prelude.{IsSome, is_some}
use Rattle.dirty_cache.specs.Contents.{held}
use Rattle.running_store.specs.Parts.InUse.{cached_pair}
use Rattle.running_store.proofs.objects.Objects.close_spare.Goals as goal

-- what is cached is of an object that there is
pub close_spare-requires : goal.close_spare-requires
close_spare-requires g c =
    let cached : IsSome (held c.self.inside.cache c.args.object) = (λ i. is_some (held (c.self.view_is i).cache c.args.object)) ∙ sym c.holds.ensures ∙ c.if-holds.true in
    let found = cached_pair (held c.self.inside.cache c.args.object) cached in
    (c.self.invariant.cached.each c.args.object found.0 found.1).0
