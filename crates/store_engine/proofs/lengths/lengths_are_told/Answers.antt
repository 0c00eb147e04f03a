use Rattle.std.proofs.Common.{◌≡◌, ◌∙◌, ap, sym, subst, ℕ, ◌<◌, List, length}
use Rattle.disk_model.specs.declared.machine.FileNo.TheVariants.{Objects}
use Rattle.formats.specs.Objects.{bounds_of}
use Rattle.formats.specs.declared.params.Params.{Params}
use Rattle.running_store.specs.Laid.LengthLaws.{length_told, next_same}
use Rattle.running_store.specs.Laid.Lengths.{IsNextEmpty, length_at}
use Rattle.store_engine.specs.Engine.{Holds}
use Rattle.store_engine.specs.Store.{state_of}
use Rattle.store_engine.proofs.Holding.{holds_map}
use Rattle.store_engine.proofs.lengths.lengths_are_told.Given.{Over}
use Rattle.store_engine.proofs.lengths.lengths_are_told.Goals as goal

module _ (g : Over) (c : goal.After-live_cache_is_the_map g) (p : Params) (commands : List g.row.O.Denot) (holds : Holds g.O.Oper.meaning p (g.M.Machine.disk c.args.machine.now) c.args.engine.now commands) where
  told : (x : ℕ) → x < p.objects → length_at c.args.engine.now.parts.volatile.objects x ≡ length (state_of g.O.Oper.meaning p commands x)
  told x below =
      length_told ((g.M.Machine.disk c.args.machine.now).reads Objects) c.args.engine.now.parts.volatile.objects x holds.shows.shows.store.laid (subst (λ (q : Params). x < q.objects) (sym holds.shows.shows.store.params) below)
      ∙ ap length (holds_map g.O.Oper.meaning p (g.M.Machine.disk c.args.machine.now) c.args.engine.now commands holds (λ w x. c.live_cache_is_the_map.ensures (bounds_of p) w x) x below)

pub returns-clause-lengths : goal.returns-clause-lengths
returns-clause-lengths g c = λ p commands holds. told g c p commands holds

pub returns-clause-next : goal.returns-clause-next
returns-clause-next g c = λ p commands holds from found first.
    next_same p.objects _ _ from found (told g c p commands holds)
    (subst (λ (q : Params). IsNextEmpty q.objects (length_at c.args.engine.now.parts.volatile.objects) from found) holds.shows.shows.store.params first)
