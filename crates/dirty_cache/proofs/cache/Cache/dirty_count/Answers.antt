use Rattle.std.proofs.Common.{sym, ◌∙◌}
use Rattle.dirty_cache.specs.Contents.{contents}
use Rattle.dirty_cache.proofs.Counts.{are_dirty}
use Rattle.dirty_cache.proofs.cache.Cache.dirty_count.Goals as goal

pub returns-clause-each : goal.returns-clause-each
returns-clause-each c =
    let all = are_dirty (contents c.self.inside.dirty c.self.inside.clean.entries c.self.inside.clean.cap) c.count.ensures.apart in
    rw (← c.self.view_is) (all.0, all.1, c.count.ensures.count ∙ sym all.2)
