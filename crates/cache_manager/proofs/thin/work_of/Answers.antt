use Rattle.std.proofs.Common.{rules, ◌≡◌}
use Rattle.std.specs.List.{filter}
use Rattle.std.proofs.lemmas.Fn.{filter_same}
use Rattle.dirty_cache.specs.Contents.{is_dirty}
use Rattle.running_store.specs.Parts.{volatile}
use Rattle.cache_manager.proofs.ThinNode.Nodes.{work_listed}
use Rattle.cache_manager.proofs.thin.work_of.Goals as goal

pub returns : goal.returns
returns c = λ node named.
    let kept : c.retain.new.self.items ≡ filter (is_dirty c.args.objects.now.cache) c.in_ok-work.work.items = filter_same _ _ _ (λ x b f' k. search rules) _ _ c.retain.ensures.filtered in
    work_listed (volatile c.args.objects.now c.args.graph.now.entries) node c.in_ok-work.work.items c.retain.new.self.items (c.in_ok-work.ensures node named) kept
