use Rattle.std.proofs.Common.{◌≡◌, ◌∙◌, ap, subst, ℕ, arith}
use Rattle.std.specs.Prelude.{IfOk}
use Rattle.running_store.specs.Parts.{meaning_in}
use Rattle.running_store.specs.StoreView.{log_length}
use Rattle.running_store.specs.Taking.Laws.{takes_same}
use Rattle.cache_manager.specs.Endings.{ending_of}
use Rattle.cache_manager.specs.InstallCourses.{removals, round_limit, turn_course}
use Rattle.cache_manager.specs.Told.{installed}
use Rattle.cache_manager.proofs.FullDrain.TurnTaken.{limit_is}
use Rattle.cache_manager.proofs.draining.take_full_turn.Goals as goal

pub take_turn-requires-clause-some : goal.take_turn-requires-clause-some
take_turn-requires-clause-some g c = omega (arith, c.objects_within-most.ensures)

pub returns-clause-takes : goal.returns-clause-takes
returns-clause-takes g c =
    let meaning = g.O.Oper.meaning in
    let copied = c.args.copied in
    let most = c.objects_within-most.result in
    let used = log_length c.args.store.now in
    takes_same meaning (g.M.Machine.disk c.args.machine.now) (g.M.Machine.disk c.take_turn.new.machine) c.args.store.now.parts c.take_turn.new.store.parts
    (λ m w used. turn_course m copied most w used) (λ m w used. turn_course m copied (round_limit m) w used) (ending_of c.take_turn.result)
    (λ p w shows. ap (λ (k : ℕ). turn_course (meaning_in meaning p) copied k w used) (limit_is meaning g.met.O.Oper.bounded most p c.params.result c.objects_within-most.ensures (c.params.ensures.value ∙ shows.store.params)))
    c.take_turn.ensures.takes

pub returns-clause-count : goal.returns-clause-count
returns-clause-count g c = λ p w shows.
    let meaning = g.O.Oper.meaning in
    let m = meaning_in meaning p in
    let same = limit_is meaning g.met.O.Oper.bounded c.objects_within-most.result p c.params.result c.objects_within-most.ensures (c.params.ensures.value ∙ shows.store.params) in
    subst (λ (k : ℕ). IfOk c.take_turn.result (λ found. installed found ≡ removals (turn_course m c.args.copied k w (log_length c.args.store.now)).steps)) same (c.take_turn.ensures.count p w shows)
