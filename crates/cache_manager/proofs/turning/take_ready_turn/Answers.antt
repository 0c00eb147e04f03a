use Rattle.std.proofs.Common.{◌≡◌, ◌∙◌, sym, subst, ap, ℕ, ◌+◌, ◌-◌, List, [], refl, arith}
use Rattle.oper_core.specs.Meaning.{Meaning}
use Rattle.formats.specs.Limits.{log_limit}
use Rattle.formats.specs.declared.params.Params.{Params}
use Rattle.install_order.specs.declared.entry.Entry.{Entry}
use Rattle.write_graph.specs.Graph.{IsLeast, NamesMinimal}
use Rattle.explain_core.specs.World.{World, run}
use Rattle.running_store.specs.Calls.Laws.{IsLogging, logging_none, logging_twice, unbroken_after}
use Rattle.running_store.specs.Calls.{Never, call_none}
use Rattle.running_store.specs.Courses.{Course, course}
use Rattle.running_store.specs.Courses.Stop.{Through}
use Rattle.running_store.specs.Kept.{StopsAt}
use Rattle.running_store.specs.Parts.{Shows, meaning_in}
use Rattle.running_store.specs.StoreView.{log_length, logged_since}
use Rattle.running_store.specs.Taking.{Ending, Takes}
use Rattle.running_store.specs.Taking.Ending.{Done}
use Rattle.running_store.specs.Taking.Laws.{takes_none, takes_same}
use Rattle.cache_manager.specs.Endings.{err_cuts, same_ends}
use Rattle.cache_manager.specs.InstallCourses.{first_course, ready_turn, removals, workless_nodes}
use Rattle.cache_manager.proofs.ToLog.DirtyLogs.{logs_none, logs_twice}
use Rattle.cache_manager.proofs.FullDrain.TurnTaken.{chosen, ready_is, ready_none, ready_removes, takes_chosen, takes_cut}
use Rattle.cache_manager.proofs.turning.take_ready_turn.Given.{Over}
use Rattle.cache_manager.proofs.turning.take_ready_turn.Goals.{After-install_first}
use Rattle.cache_manager.proofs.turning.take_ready_turn.Goals as goal

pub install_first-requires-clause-least : goal.install_first-requires-clause-least
install_first-requires-clause-least g c = subst (λ (es : List Entry). IsLeast (NamesMinimal es) c.in-Some.name) c.graph.ensures c.in-Some.ensures.some

-- there is nothing to install
pub returns-in_default-clause-call : goal.returns-in_default-clause-call
returns-in_default-clause-call g c =
    let d = g.M.Machine.disk c.args.machine.now in
    let it = c.args.store.now in
    logging_none g.O.Oper.meaning d d it it (StopsAt log_limit) Done refl (call_none g.O.Oper.meaning d it Never (g.met.M.Machine.lawful c.args.machine.now) c.requires.unbroken)

pub returns-in_default-clause-takes : goal.returns-in_default-clause-takes
returns-in_default-clause-takes g c =
    let meaning = g.O.Oper.meaning in
    let d = g.M.Machine.disk c.args.machine.now in
    let it = c.args.store.now.parts in
    let copied = c.args.copied in
    let most = c.args.most in
    let none = sym c.graph.ensures ∙ c.in_default.ensures.none in
    takes_same meaning d d it it (λ m w used. course [] used Through) (λ m w used. ready_turn m copied most w used) Done
    (λ p w shows. sym (ready_none (meaning_in meaning p) copied most p d it w shows none (log_length c.args.store.now))) (takes_none meaning d it (g.met.M.Machine.lawful c.args.machine.now))

pub returns-in_default-clause-count : goal.returns-in_default-clause-count
returns-in_default-clause-count g c = λ p w shows.
    let m = meaning_in g.O.Oper.meaning p in
    let none = sym c.graph.ensures ∙ c.in_default.ensures.none in
    sym (ap (λ (k : Course _). removals k.steps) (ready_none m c.args.copied c.args.most p (g.M.Machine.disk c.args.machine.now) c.args.store.now.parts w shows none (log_length c.args.store.now)))

pub returns-in_default-clause-tells : goal.returns-in_default-clause-tells
returns-in_default-clause-tells g c = (sym c.graph.ensures ∙ c.in_default.ensures.none, refl)

pub returns-in_default-clause-logs : goal.returns-in_default-clause-logs
returns-in_default-clause-logs g c = logs_none c.args.store.now.parts

pub returns-in_default-clause-most : goal.returns-in_default-clause-most
returns-in_default-clause-most g c = omega arith

-- a round or an install, and nodes behind it
module _ (g : Over) (c : After-install_first g) where
  abbrev first : Meaning g.row.O.Denot → World g.row.O.Denot → ℕ → Course g.row.O.Denot
  first m w used = first_course m c.args.copied c.args.most w used

  abbrev number : Meaning g.row.O.Denot → World g.row.O.Denot → ℕ → ℕ
  number m w used = removals (first m w used).steps

  abbrev rest : ℕ → Meaning g.row.O.Denot → World g.row.O.Denot → ℕ → Course g.row.O.Denot
  rest k m w used = workless_nodes m (c.args.most - k) w used

  least : IsLeast (NamesMinimal c.args.store.now.parts.volatile.entries) c.in-Some.name
  least = subst (λ (es : List Entry). IsLeast (NamesMinimal es) c.in-Some.name) c.graph.ensures c.in-Some.ensures.some

  module _ (p : Params) (w : World g.row.O.Denot) (shows : Shows (meaning_in g.O.Oper.meaning p) p (g.M.Machine.disk c.args.machine.now) c.args.store.now.parts w) where
    abbrev m : Meaning g.row.O.Denot
    m = meaning_in g.O.Oper.meaning p

    -- they are the turn
    are_turn : chosen g.O.Oper.meaning first number rest m w (log_length c.args.store.now) ≡ ready_turn m c.args.copied c.args.most w (log_length c.args.store.now)
    are_turn = ready_is g.O.Oper.meaning g.met.O.Oper.lawful c.last_blind_write_is_alone.ensures c.args.copied c.args.most (g.M.Machine.disk c.args.machine.now) c.args.store.now.parts c.in-Some.name least p w shows (log_length c.args.store.now)

    -- so many nodes, and so many behind them
    removed : let u = first m w (log_length c.args.store.now) in
        u.stop ≡ Through → removals (ready_turn m c.args.copied c.args.most w (log_length c.args.store.now)).steps ≡ removals u.steps + removals (rest (removals u.steps) m (run m w u.steps) u.used).steps
    removed = ready_removes g.O.Oper.meaning g.met.O.Oper.lawful c.last_blind_write_is_alone.ensures c.args.copied c.args.most (g.M.Machine.disk c.args.machine.now) c.args.store.now.parts c.in-Some.name least p w shows (log_length c.args.store.now)

-- the first is cut short
pub returns-in_err-first-clause-call : goal.returns-in_err-first-clause-call
returns-in_err-first-clause-call g c =
    subst (λ (k : Ending). IsLogging g.O.Oper.meaning (g.M.Machine.disk c.args.machine.now) (g.M.Machine.disk c.install_first.new.machine) c.args.store.now c.install_first.new.store (StopsAt log_limit) k)
    (same_ends c.from_residual.result c.in_err-first.field-0.0 c.from_residual.ensures.1) c.in_err-first.ensures.call

pub returns-in_err-first-clause-takes : goal.returns-in_err-first-clause-takes
returns-in_err-first-clause-takes g c =
    let at = (goal.at.returns-in_err-first-clause-takes g c).After-install_first in
    let meaning = g.O.Oper.meaning in
    let old = g.M.Machine.disk c.args.machine.now in
    let new = g.M.Machine.disk c.install_first.new.machine in
    let before = c.args.store.now.parts in
    let after = c.install_first.new.store.parts in
    let e = c.in_err-first.field-0.0 in
    subst (λ (k : Ending). Takes meaning old new before after (λ m w used. ready_turn m c.args.copied c.args.most w used) k) (same_ends c.from_residual.result e c.from_residual.ensures.1)
    (takes_same meaning old new before after (chosen meaning (first g at) (number g at) (rest g at)) (λ m w used. ready_turn m c.args.copied c.args.most w used) _ (are_turn g at)
    (takes_cut meaning (first g at) (number g at) (rest g at) old new before after _ (err_cuts e) c.in_err-first.ensures.takes))

pub finish_all_workless-requires : goal.finish_all_workless-requires
finish_all_workless-requires g c =
    let before = c.args.store.now in
    let here = c.install_first.new.store in
    record { unbroken = unbroken_after g.O.Oper.meaning _ _ before here (logged_since before here) (StopsAt log_limit) c.in_ok-first.ensures.call }

-- the disk fails behind it
pub returns-in_err-more-clause-call : goal.returns-in_err-more-clause-call
returns-in_err-more-clause-call g c =
    let meaning = g.O.Oper.meaning in
    let mid = g.M.Machine.disk c.install_first.new.machine in
    let new = g.M.Machine.disk c.finish_all_workless.new.machine in
    let here = c.install_first.new.store in
    let after = c.finish_all_workless.new.store in
    let old = g.M.Machine.disk c.args.machine.now in
    subst (λ (k : Ending). IsLogging meaning old new c.args.store.now after (StopsAt log_limit) k) (same_ends c.from_residual-in_err-more.result c.in_err-more.field-0.0 c.from_residual-in_err-more.ensures.1)
    (logging_twice meaning old mid new c.args.store.now here after (StopsAt log_limit) _ c.in_ok-first.ensures.call
    (logging_none meaning mid new here after (StopsAt log_limit) _ c.finish_all_workless.ensures.next c.in_err-more.ensures.call))

pub returns-in_err-more-clause-takes : goal.returns-in_err-more-clause-takes
returns-in_err-more-clause-takes g c =
    let at = (goal.at.returns-in_err-more-clause-takes g c).After-install_first in
    let meaning = g.O.Oper.meaning in
    let old = g.M.Machine.disk c.args.machine.now in
    let mid = g.M.Machine.disk c.install_first.new.machine in
    let new = g.M.Machine.disk c.finish_all_workless.new.machine in
    let before = c.args.store.now.parts in
    let here = c.install_first.new.store.parts in
    let after = c.finish_all_workless.new.store.parts in
    let done = c.in_ok-first.ensures in
    subst (λ (k : Ending). Takes meaning old new before after (λ m w used. ready_turn m c.args.copied c.args.most w used) k) (same_ends c.from_residual-in_err-more.result c.in_err-more.field-0.0 c.from_residual-in_err-more.ensures.1)
    (takes_same meaning old new before after (chosen meaning (first g at) (number g at) (rest g at)) (λ m w used. ready_turn m c.args.copied c.args.most w used) _ (are_turn g at)
    (takes_chosen meaning (first g at) (number g at) (rest g at) old new before after _ mid here c.in_ok-first.first done.count done.call.quiet done.takes c.in_err-more.ensures.takes))

-- it is done
pub returns-clause-call : goal.returns-clause-call
returns-clause-call g c =
    let meaning = g.O.Oper.meaning in
    let mid = g.M.Machine.disk c.install_first.new.machine in
    let new = g.M.Machine.disk c.finish_all_workless.new.machine in
    let here = c.install_first.new.store in
    let after = c.finish_all_workless.new.store in
    logging_twice meaning (g.M.Machine.disk c.args.machine.now) mid new c.args.store.now here after (StopsAt log_limit) Done c.in_ok-first.ensures.call
    (logging_none meaning mid new here after (StopsAt log_limit) Done c.finish_all_workless.ensures.next c.in_ok-more.ensures.call)

pub returns-clause-takes : goal.returns-clause-takes
returns-clause-takes g c =
    let at = (goal.at.returns-clause-takes g c).After-install_first in
    let meaning = g.O.Oper.meaning in
    let old = g.M.Machine.disk c.args.machine.now in
    let mid = g.M.Machine.disk c.install_first.new.machine in
    let new = g.M.Machine.disk c.finish_all_workless.new.machine in
    let before = c.args.store.now.parts in
    let here = c.install_first.new.store.parts in
    let after = c.finish_all_workless.new.store.parts in
    let done = c.in_ok-first.ensures in
    takes_same meaning old new before after (chosen meaning (first g at) (number g at) (rest g at)) (λ m w used. ready_turn m c.args.copied c.args.most w used) Done (are_turn g at)
    (takes_chosen meaning (first g at) (number g at) (rest g at) old new before after Done mid here c.in_ok-first.first done.count done.call.quiet done.takes c.in_ok-more.ensures.takes)

pub returns-clause-count : goal.returns-clause-count
returns-clause-count g c = λ p w shows.
    let at = (goal.at.returns-clause-count g c).After-install_first in
    let m = meaning_in g.O.Oper.meaning p in
    let n = c.in_ok-first.first in
    let u = first g at m w (log_length c.args.store.now) in
    let taken = c.in_ok-first.ensures.takes.follows p w shows in
    let count = c.in_ok-first.ensures.count p w shows in
    let more = c.in_ok-more.ensures.count p (run m w u.steps) taken.1.shows ∙ (λ i. removals (rest g at (count i) m (run m w u.steps) (taken.1.used i)).steps) in
    (λ i. count i + more i) ∙ sym (removed g at p w shows taken.0)

pub returns-clause-tells : goal.returns-clause-tells
returns-clause-tells g c =
    let told = c.in_ok-first.ensures.tells in
    let next = c.finish_all_workless.ensures.next in
    let fewer = c.in_ok-more.ensures.fewer in
    (omega (arith, told.0), omega (arith, told.1, next), omega (arith, told.2, next, fewer), told.3)

pub returns-clause-most : goal.returns-clause-most
returns-clause-most g c = omega (arith, c.in_ok-first.ensures.most, c.in_ok-more.ensures.most)

pub returns-clause-logs : goal.returns-clause-logs
returns-clause-logs g c = logs_twice c.args.store.now.parts c.install_first.new.store.parts c.finish_all_workless.new.store.parts c.in_ok-first.ensures.logs c.in_ok-more.ensures.logs
