use Rattle.std.proofs.Common.{◌≡◌, ◌∙◌, sym, subst, ap, ℕ, List, [], ◌∷◌, length, refl, arith, Option, None, Some}
use Rattle.std.specs.Prelude.{IfOk, OnOk, Result, Ok, Err}
use Rattle.oper_core.specs.Meaning.{Meaning}
use Rattle.formats.specs.Limits.{log_limit}
use Rattle.install_order.specs.declared.entry.Entry.{Entry}
use Rattle.explain_core.specs.World.{World, run}
use Rattle.running_store.specs.Calls.Laws.{IsLogging, logging_twice, unbroken_after}
use Rattle.running_store.specs.Courses.{Course}
use Rattle.running_store.specs.Kept.{IsLonger, StopsAt}
use Rattle.running_store.specs.Parts.{Parts, meaning_in}
use Rattle.running_store.specs.StoreView.{log_length, logged_since}
use Rattle.running_store.specs.Taking.{Ending, Takes}
use Rattle.running_store.specs.Taking.Laws.{both, takes_both, takes_first, takes_same}
use Rattle.cache_manager.specs.Endings.{ending_of, err_cuts, same_ends}
use Rattle.cache_manager.specs.InstallCourses.{identities, readied, ready_turn, removals, turn_course}
use Rattle.cache_manager.specs.LogsDirty.{LogsDirty}
use Rattle.cache_manager.specs.Told.{TellsTurn, installed}
use Rattle.cache_manager.proofs.FullDrain.TurnTaken.{turn_removes}
use Rattle.cache_manager.proofs.ToLog.DirtyLogs.{logs_twice}
use Rattle.cache_manager.proofs.turning.take_turn.Given.{Over}
use Rattle.cache_manager.proofs.turning.take_turn.Goals.{After-make_ready}
use Rattle.cache_manager.proofs.turning.take_turn.Goals as goal

-- a turn behind what is logged before it tells what the whole does
no_entries : (entries : List Entry) → length entries ≡ 0 → entries ≡ []
no_entries [] none = refl
no_entries (e ∷ entries) none = absurd (omega (arith, none))

tells_behind : (before here after : Parts) (n : ℕ) → IsLonger n before here → (before.volatile.entries ≡ [] → here ≡ before) → (found : Option ℕ) → TellsTurn here after found → TellsTurn before after found
tells_behind before here after n longer same None told =
    let long = longer.entries in
    let empty = no_entries before.volatile.entries (omega (arith, long, ap (λ (es : List Entry). length es) told.0)) in
    (empty, told.1 ∙ same empty)
tells_behind before here after n longer same (Some k) told =
    let long = longer.entries in
    let next = longer.next in
    (told.0, omega (arith, told.1, next), omega (arith, told.2, next, long), λ none. told.3 (ap (λ (it : Parts). it.volatile.entries) (same none) ∙ none))

turn_tells : {E : Type 0} (r : Result (Option ℕ) E) (before here after : Parts) (n : ℕ) → IsLonger n before here → (before.volatile.entries ≡ [] → here ≡ before) → IfOk r (TellsTurn here after) → IfOk r (TellsTurn before after)
turn_tells (Ok found) before here after n longer same told = tells_behind before here after n longer same found told
turn_tells (Err e) before here after n longer same told = tt

turn_logs : {T E : Type 0} (r : Result T E) (before here after : Parts) → LogsDirty before here → OnOk r (LogsDirty here after) → OnOk r (LogsDirty before after)
turn_logs (Ok value) before here after one two = logs_twice before here after one two
turn_logs (Err e) before here after one two = tt

module _ (g : Over) (c : After-make_ready g) where
  abbrev logging : Meaning g.row.O.Denot → World g.row.O.Denot → ℕ → Course g.row.O.Denot
  logging m w used = identities m (readied m c.args.copied c.args.most w) w used

  abbrev rest : Meaning g.row.O.Denot → World g.row.O.Denot → ℕ → Course g.row.O.Denot
  rest m w used = ready_turn m c.args.copied c.args.most w used

  are_turn : (m : Meaning g.row.O.Denot) (w : World g.row.O.Denot) (used : ℕ) → both g.O.Oper.meaning logging rest m w used ≡ turn_course m c.args.copied c.args.most w used
  are_turn m w used = refl

-- what is logged first is cut short
pub returns-in_err-make_ready-clause-call : goal.returns-in_err-make_ready-clause-call
returns-in_err-make_ready-clause-call g c =
    subst (λ (k : Ending). IsLogging g.O.Oper.meaning (g.M.Machine.disk c.args.machine.now) (g.M.Machine.disk c.make_ready.new.machine) c.args.store.now c.make_ready.new.store (StopsAt log_limit) k)
    (same_ends c.from_residual.result c.in_err-make_ready.field-0.0 c.from_residual.ensures.1) c.in_err-make_ready.ensures.call

pub returns-in_err-make_ready-clause-takes : goal.returns-in_err-make_ready-clause-takes
returns-in_err-make_ready-clause-takes g c =
    let at = (goal.at.returns-in_err-make_ready-clause-takes g c).After-make_ready in
    let meaning = g.O.Oper.meaning in
    let old = g.M.Machine.disk c.args.machine.now in
    let new = g.M.Machine.disk c.make_ready.new.machine in
    let before = c.args.store.now.parts in
    let after = c.make_ready.new.store.parts in
    let e = c.in_err-make_ready.field-0.0 in
    subst (λ (k : Ending). Takes meaning old new before after (λ m w used. turn_course m c.args.copied c.args.most w used) k) (same_ends c.from_residual.result e c.from_residual.ensures.1)
    (takes_same meaning old new before after (both meaning (logging g at) (rest g at)) (λ m w used. turn_course m c.args.copied c.args.most w used) _ (λ p w shows. are_turn g at (meaning_in meaning p) w (log_length c.args.store.now))
    (takes_first meaning (logging g at) (rest g at) old new before after _ (err_cuts e) c.in_err-make_ready.ensures.takes))

pub take_ready_turn-requires-clause-unbroken : goal.take_ready_turn-requires-clause-unbroken
take_ready_turn-requires-clause-unbroken g c =
    let before = c.args.store.now in
    let here = c.make_ready.new.store in
    unbroken_after g.O.Oper.meaning _ _ before here (logged_since before here) (StopsAt log_limit) c.in_ok-make_ready.ensures.call

-- a turn follows
pub returns-clause-call : goal.returns-clause-call
returns-clause-call g c =
    logging_twice g.O.Oper.meaning (g.M.Machine.disk c.args.machine.now) (g.M.Machine.disk c.make_ready.new.machine) (g.M.Machine.disk c.take_ready_turn.new.machine) c.args.store.now c.make_ready.new.store c.take_ready_turn.new.store (StopsAt log_limit) (ending_of c.take_ready_turn.result)
    c.in_ok-make_ready.ensures.call c.take_ready_turn.ensures.call

pub returns-clause-takes : goal.returns-clause-takes
returns-clause-takes g c =
    let at = (goal.at.returns-clause-takes g c).After-make_ready in
    let meaning = g.O.Oper.meaning in
    let old = g.M.Machine.disk c.args.machine.now in
    let mid = g.M.Machine.disk c.make_ready.new.machine in
    let new = g.M.Machine.disk c.take_ready_turn.new.machine in
    let before = c.args.store.now.parts in
    let here = c.make_ready.new.store.parts in
    let after = c.take_ready_turn.new.store.parts in
    let done = c.in_ok-make_ready.ensures in
    takes_same meaning old new before after (both meaning (logging g at) (rest g at)) (λ m w used. turn_course m c.args.copied c.args.most w used) (ending_of c.take_ready_turn.result) (λ p w shows. are_turn g at (meaning_in meaning p) w (log_length c.args.store.now))
    (takes_both meaning (logging g at) (rest g at) old mid new before here after (ending_of c.take_ready_turn.result) done.call.quiet done.takes c.take_ready_turn.ensures.takes)

pub returns-clause-count : goal.returns-clause-count
returns-clause-count g c = λ p w shows.
    let at = (goal.at.returns-clause-count g c).After-make_ready in
    let m = meaning_in g.O.Oper.meaning p in
    let one = logging g at m w (log_length c.args.store.now) in
    let v = run m w one.steps in
    let taken = c.in_ok-make_ready.ensures.takes.follows p w shows in
    let same = ap (λ (k : ℕ). removals (rest g at m v k).steps) taken.1.used ∙ sym (turn_removes m c.args.copied c.args.most w (log_length c.args.store.now) taken.0) in
    subst (λ (k : ℕ). IfOk c.take_ready_turn.result (λ found. installed found ≡ k)) same (c.take_ready_turn.ensures.count p v taken.1.shows)

pub returns-clause-tells : goal.returns-clause-tells
returns-clause-tells g c =
    let longer = c.in_ok-make_ready.ensures.logged in
    turn_tells c.take_ready_turn.result c.args.store.now.parts c.make_ready.new.store.parts c.take_ready_turn.new.store.parts longer.0 longer.1 c.in_ok-make_ready.ensures.none c.take_ready_turn.ensures.tells

pub returns-clause-logs : goal.returns-clause-logs
returns-clause-logs g c = turn_logs c.take_ready_turn.result c.args.store.now.parts c.make_ready.new.store.parts c.take_ready_turn.new.store.parts c.in_ok-make_ready.ensures.logs c.take_ready_turn.ensures.logs
