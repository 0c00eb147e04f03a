use Rattle.std.proofs.Common.{◌≡◌, ◌∙◌, sym, subst, ap, ℕ, List, [], refl, arith, Option, None, Some}
use Rattle.std.specs.List.Sorted.{IsStrictlyIncreasing}
use Rattle.install_order.specs.declared.entry.Entry.{Entry}
use Rattle.write_graph.specs.Graph.{lsns}
use Rattle.oper_core.specs.Meaning.{IsSmall}
use Rattle.oper_core.specs.declared.bounds.Bounds.{Bounds}
use Rattle.explain_core.specs.World.{run}
use Rattle.running_store.specs.Calls.Laws.{IsLogging, logging_none, logging_twice, unbroken_after}
use Rattle.running_store.specs.Calls.{Never, call_none}
use Rattle.running_store.specs.Courses.{Course, course}
use Rattle.cache_manager.specs.InstallCourses.{drain_course, removals, round_limit, turn_course}
use Rattle.running_store.specs.Courses.Stop.{Through}
use Rattle.running_store.specs.Kept.{StopsAt}
use Rattle.formats.specs.Limits.{log_limit}
use Rattle.running_store.specs.Parts.{Parts, meaning_in}
use Rattle.running_store.specs.Taking.Rests.{rest_next, rest_same}
use Rattle.running_store.specs.Running.{KeepsSound}
use Rattle.running_store.specs.StoreView.{log_length, logged_since}
use Rattle.running_store.specs.Taking.{Ending, Takes}
use Rattle.running_store.specs.Taking.Ending.{Done}
use Rattle.running_store.specs.Taking.Laws.{both, takes_both, takes_first, takes_none, takes_same}
use Rattle.cache_manager.specs.Endings.{err_cuts, same_ends}
use Rattle.cache_manager.specs.Told.{TellsTurn, installed}
use Rattle.cache_manager.proofs.ToLog.DirtyLogs.{logs_few, logs_none, logs_twice}
use Rattle.cache_manager.proofs.FullDrain.Taken.{all_clean, drained, few_entries, removes, turns}
use Rattle.cache_manager.proofs.OneRound.Goes.{MayRound}
use Rattle.cache_manager.proofs.draining.drain.Goals as goal

-- what a turn tells that installed nodes, and one that found none
some_told : (before after : Parts) (found : Option ℕ) (n : ℕ) → found ≡ Some n → TellsTurn before after found → TellsTurn before after (Some n)
some_told before after found n is told = subst (λ (o : Option ℕ). TellsTurn before after o) is told

none_told : (before after : Parts) (found : Option ℕ) → found ≡ None → TellsTurn before after found → TellsTurn before after None
none_told before after found is told = subst (λ (o : Option ℕ). TellsTurn before after o) is told

pub loop-n-init : goal.loop-n-init
loop-n-init g c =
    let d = g.M.Machine.disk c.args.machine.now in
    let it = c.args.store.now in
    let used = (c.params-params.ensures.in_use c.requires.unbroken).store in
    let same = c.graph.ensures in
    let few = few_entries it.parts.log.next it.parts.volatile.entries (subst (λ (es : List Entry). IsStrictlyIncreasing (lsns es)) same c.len-held.ensures.rising) used.above in
    record {
      call = logging_none g.O.Oper.meaning d d it it (StopsAt log_limit) Done refl (call_none g.O.Oper.meaning d it Never (g.met.M.Machine.lawful c.args.machine.now) c.requires.unbroken);
      bounded = omega arith;
      logs = logs_none it.parts;
      counted = omega (arith, few, used.low);
      rest = λ new after ending takes. takes;
      removed = λ p w shows. (w, shows, omega arith);
    }

pub take_full_turn-requires : goal.take_full_turn-requires
take_full_turn-requires g c = record { unbroken = unbroken_after g.O.Oper.meaning _ _ c.args.store.now c.loop-n.store (logged_since c.args.store.now c.loop-n.store) (StopsAt log_limit) c.loop-n.invariant.call }

pub loop-n-preserved : goal.loop-n-preserved
loop-n-preserved g c =
    let meaning = g.O.Oper.meaning in
    let disk = g.M.Machine.disk in
    let keep : (b : Bounds) → IsSmall b → KeepsSound (g.O.Oper.meaning b) = λ b small v taken sound may. c.every_run_keeps.ensures.from_sound b v taken small sound may in
    let rounds : (b : Bounds) → IsSmall b → MayRound (g.O.Oper.meaning b) = λ b small may most v is stable. c.a_round_may_be_taken.ensures b may most v small is.sound stable in
    let alone = c.last_blind_write_is_alone.ensures in
    let copied = c.args.copied in
    let before = c.args.store.now in
    let here = c.loop-n.store in
    let after = c.take_full_turn.new.store in
    let now = c.loop-n.machine in
    let so_far = c.loop-n.invariant in
    let done = c.in_ok-n.ensures in
    let tells = some_told here.parts after.parts _ c.in-Some.n c.in-Some.is done.tells in
    let low = (c.params-params-in-Some.ensures.in_use (unbroken_after meaning (disk now) (disk c.take_full_turn.new.machine) here after (logged_since here after) (StopsAt log_limit) done.call)).store.low in
    record {
      call = logging_twice meaning (disk c.args.machine.now) (disk now) (disk c.take_full_turn.new.machine) before here after (StopsAt log_limit) Done so_far.call done.call;
      bounded = omega (arith, so_far.bounded, tells.2);
      logs = logs_twice before.parts here.parts after.parts so_far.logs done.logs;
      counted = omega (arith, so_far.counted, tells.1, tells.2, low);
      rest = rest_next disk meaning c.args.machine.now now before.parts here.parts (λ m w used. drain_course m copied w used) (λ m v used. turn_course m copied (round_limit m) v used) (λ m v used. drain_course m copied v used)
          c.take_full_turn.new.machine after.parts done.call.quiet done.takes
          (rest_same disk meaning c.args.machine.now now before.parts here.parts (λ m w used. drain_course m copied w used) (λ m v used. drain_course m copied v used)
          (both meaning (λ m v used. turn_course m copied (round_limit m) v used) (λ m v used. drain_course m copied v used))
          (λ p v shows. sym (turns meaning g.met.O.Oper.lawful keep rounds alone copied (disk now) here.parts p v shows)) so_far.rest);
      removed = λ p w shows.
          let m = meaning_in meaning p in
          let u = so_far.removed p w shows in
          let one = turn_course m copied (round_limit m) u.0 (log_length here) in
          let taken = done.takes.follows p u.0 u.1 in
          let less = removes meaning g.met.O.Oper.lawful keep rounds alone copied (disk now) here.parts p u.0 u.1 taken.0 in
          let same = ap (λ (k : ℕ). removals (drain_course m copied (run m u.0 one.steps) k).steps) taken.1.used in
          let count = sym (ap (λ (o : Option ℕ). installed o) c.in-Some.is) ∙ done.count p u.0 u.1 in
          (run m u.0 one.steps, taken.1.shows, omega (arith, u.2, less, same, count));
    }

pub returns-in_err-n-clause-call : goal.returns-in_err-n-clause-call
returns-in_err-n-clause-call g c =
    let disk = g.M.Machine.disk in
    let before = c.args.store.now in
    let after = c.take_full_turn.new.store in
    subst (λ (k : Ending). IsLogging g.O.Oper.meaning (disk c.args.machine.now) (disk c.take_full_turn.new.machine) before after (StopsAt log_limit) k) (same_ends c.from_residual.result c.in_err-n.field-0.0 c.from_residual.ensures.1)
    (logging_twice g.O.Oper.meaning (disk c.args.machine.now) (disk c.loop-n.machine) (disk c.take_full_turn.new.machine) before c.loop-n.store after (StopsAt log_limit) _ c.loop-n.invariant.call c.in_err-n.ensures.call)

pub returns-in_err-n-clause-takes : goal.returns-in_err-n-clause-takes
returns-in_err-n-clause-takes g c =
    let meaning = g.O.Oper.meaning in
    let disk = g.M.Machine.disk in
    let keep : (b : Bounds) → IsSmall b → KeepsSound (g.O.Oper.meaning b) = λ b small v taken sound may. c.every_run_keeps.ensures.from_sound b v taken small sound may in
    let rounds : (b : Bounds) → IsSmall b → MayRound (g.O.Oper.meaning b) = λ b small may most v is stable. c.a_round_may_be_taken.ensures b may most v small is.sound stable in
    let copied = c.args.copied in
    let here = c.loop-n.store.parts in
    let after = c.take_full_turn.new.store.parts in
    let now = disk c.loop-n.machine in
    let later = disk c.take_full_turn.new.machine in
    let e = c.in_err-n.field-0.0 in
    subst (λ (k : Ending). Takes meaning (disk c.args.machine.now) later c.args.store.now.parts after (λ m w used. drain_course m copied w used) k) (same_ends c.from_residual.result e c.from_residual.ensures.1)
    (c.loop-n.invariant.rest c.take_full_turn.new.machine after _
    (takes_same meaning now later here after (both meaning (λ m v used. turn_course m copied (round_limit m) v used) (λ m v used. drain_course m copied v used)) (λ m v used. drain_course m copied v used) _
    (λ p v shows. sym (turns meaning g.met.O.Oper.lawful keep rounds c.last_blind_write_is_alone.ensures copied now here p v shows))
    (takes_first meaning (λ m v used. turn_course m copied (round_limit m) v used) (λ m v used. drain_course m copied v used) now later here after _ (err_cuts e) c.in_err-n.ensures.takes)))

pub returns-clause-call : goal.returns-clause-call
returns-clause-call g c =
    let disk = g.M.Machine.disk in
    logging_twice g.O.Oper.meaning (disk c.args.machine.now) (disk c.loop-n.machine) (disk c.take_full_turn.new.machine) c.args.store.now c.loop-n.store c.take_full_turn.new.store (StopsAt log_limit) Done
    c.loop-n.invariant.call c.in_ok-n.ensures.call

pub returns-clause-takes : goal.returns-clause-takes
returns-clause-takes g c =
    let meaning = g.O.Oper.meaning in
    let keep : (b : Bounds) → IsSmall b → KeepsSound (g.O.Oper.meaning b) = λ b small v taken sound may. c.every_run_keeps.ensures.from_sound b v taken small sound may in
    let rounds : (b : Bounds) → IsSmall b → MayRound (g.O.Oper.meaning b) = λ b small may most v is stable. c.a_round_may_be_taken.ensures b may most v small is.sound stable in
    let alone = c.last_blind_write_is_alone.ensures in
    let copied = c.args.copied in
    let here = c.loop-n.store.parts in
    let after = c.take_full_turn.new.store.parts in
    let now = g.M.Machine.disk c.loop-n.machine in
    let later = g.M.Machine.disk c.take_full_turn.new.machine in
    let done = c.in_ok-n.ensures in
    let told = none_told here after _ c.in_default.is done.tells in
    let empty : after.volatile.entries ≡ [] = ap (λ (k : Parts). k.volatile.entries) told.1 ∙ told.0 in
    c.loop-n.invariant.rest c.take_full_turn.new.machine after Done
    (takes_same meaning now later here after (both meaning (λ m v used. turn_course m copied (round_limit m) v used) (λ m v used. drain_course m copied v used)) (λ m v used. drain_course m copied v used) Done
    (λ p v shows. sym (turns meaning g.met.O.Oper.lawful keep rounds alone copied now here p v shows))
    (takes_both meaning (λ m v used. turn_course m copied (round_limit m) v used) (λ m v used. drain_course m copied v used) now later later here after after Done done.call.quiet done.takes
    (takes_same meaning later later after after (λ m v used. course [] used Through) (λ m v used. drain_course m copied v used) Done
    (λ p v shows. sym (drained meaning g.met.O.Oper.lawful keep rounds alone copied later after p v shows empty)) (takes_none meaning later after (g.met.M.Machine.lawful c.take_full_turn.new.machine)))))

pub returns-clause-count : goal.returns-clause-count
returns-clause-count g c = λ p w shows.
    let meaning = g.O.Oper.meaning in
    let keep : (b : Bounds) → IsSmall b → KeepsSound (g.O.Oper.meaning b) = λ b small v taken sound may. c.every_run_keeps.ensures.from_sound b v taken small sound may in
    let rounds : (b : Bounds) → IsSmall b → MayRound (g.O.Oper.meaning b) = λ b small may most v is stable. c.a_round_may_be_taken.ensures b may most v small is.sound stable in
    let here = c.loop-n.store.parts in
    let u = c.loop-n.invariant.removed p w shows in
    let told = none_told here c.take_full_turn.new.store.parts _ c.in_default.is c.in_ok-n.ensures.tells in
    let none = ap (λ (k : Course _). removals k.steps) (drained meaning g.met.O.Oper.lawful keep rounds c.last_blind_write_is_alone.ensures c.args.copied (g.M.Machine.disk c.loop-n.machine) here p u.0 u.1 told.0) in
    omega (arith, u.2, none)

pub returns-clause-bounded : goal.returns-clause-bounded
returns-clause-bounded g c =
    let told = none_told c.loop-n.store.parts c.take_full_turn.new.store.parts _ c.in_default.is c.in_ok-n.ensures.tells in
    let next = ap (λ (k : Parts). k.log.next) told.1 in
    omega (arith, c.loop-n.invariant.bounded, next)

pub returns-clause-drained : goal.returns-clause-drained
returns-clause-drained g c =
    let told = none_told c.loop-n.store.parts c.take_full_turn.new.store.parts _ c.in_default.is c.in_ok-n.ensures.tells in
    ap (λ (k : Parts). k.volatile.entries) told.1 ∙ told.0

pub returns-clause-clean : goal.returns-clause-clean
returns-clause-clean g c = λ p w shows.
    let m = meaning_in g.O.Oper.meaning p in
    let done = c.in_ok-n.ensures in
    let after = c.take_full_turn.new.store.parts in
    let u = c.loop-n.invariant.removed p w shows in
    let told = none_told c.loop-n.store.parts after _ c.in_default.is done.tells in
    all_clean m p (g.M.Machine.disk c.take_full_turn.new.machine) after (run m u.0 (turn_course m c.args.copied (round_limit m) u.0 (log_length c.loop-n.store)).steps) (done.takes.follows p u.0 u.1).1.shows
    (ap (λ (k : Parts). k.volatile.entries) told.1 ∙ told.0)

pub returns-clause-few : goal.returns-clause-few
returns-clause-few g c = λ objects dirty.
    let before = c.args.store.now.parts in
    let after = c.take_full_turn.new.store.parts in
    let told = none_told c.loop-n.store.parts after _ c.in_default.is c.in_ok-n.ensures.tells in
    let next = ap (λ (k : Parts). k.log.next) told.1 in
    let used = (c.params-params.ensures.in_use c.requires.unbroken).store in
    let logs = logs_twice before c.loop-n.store.parts after c.loop-n.invariant.logs c.in_ok-n.ensures.logs in
    let few = logs_few before after logs used.above objects dirty in
    omega (arith, c.loop-n.invariant.bounded, next, few)
