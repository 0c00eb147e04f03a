use Rattle.std.proofs.Common.{◌∙◌, ap, nat_eq}
use Rattle.std.specs.Map.{lookup}
use Rattle.dirty_cache.proofs.Lookups.{lookup-removed, length-removed-le}
use Rattle.dirty_cache.proofs.Same.{same}
use Rattle.dirty_cache.proofs.cache.Cache.set.Goals as goal

pub returns-clause-others : goal.returns-clause-others
returns-clause-others c y apart =
    rw (← c.self.view_is) (same _ _ y (c.replace.ensures.others y apart) (ap (λ l. lookup (nat_eq y) l.entries) c.pop.ensures.entries ∙ lookup-removed c.args.x y apart c.self.inside.clean.entries))

pub returns-clause-clean : goal.returns-clause-clean
returns-clause-clean c =
    rw (← c.self.view_is, c.pop.ensures.entries) (length-removed-le (nat_eq c.args.x) c.self.inside.clean.entries)
