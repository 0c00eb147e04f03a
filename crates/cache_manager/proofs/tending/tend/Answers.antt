use Rattle.std.proofs.Common.{◌≡◌, ◌∙◌, sym, subst, ap, ℕ, ◌≤◌, length, arith, Option, None, Some, refl}
use Rattle.std.specs.Prelude.{IfOk, max}
use Rattle.formats.specs.Limits.{log_limit}
use Rattle.running_store.specs.Calls.Laws.{IsLogging}
use Rattle.running_store.specs.Kept.{StopsAt}
use Rattle.running_store.specs.Parts.{Parts, meaning_in}
use Rattle.running_store.specs.StoreView.{log_length}
use Rattle.running_store.specs.Taking.{Ending, Takes}
use Rattle.running_store.specs.Taking.Ending.{Done}
use Rattle.cache_manager.specs.Endings.{ending_of_error, same_ends}
use Rattle.cache_manager.specs.InstallCourses.{removals, turn_course}
use Rattle.cache_manager.specs.Told.{TellsTend, TellsTurn, installed}
use Rattle.cache_manager.proofs.tending.tend.Goals as goal

-- what a turn tells, by the number of its nodes
told : (most : ℕ) (before after : Parts) (found : Option ℕ) → TellsTurn before after found → installed found ≤ most → TellsTend most before after (installed found)
told most before after None tells few = record {
  none = ((λ e. tells.0), (λ e. refl));
  still = λ e. tells.1;
  few = few;
  rising = let same = ap (λ (k : Parts). k.log.next) tells.1 in omega (arith, same);
  left = let same = ap (λ (k : Parts). k.log.next) tells.1 in let kept = ap (λ (k : Parts). length k.volatile.entries) tells.1 in omega (arith, same, kept);
}
told most before after (Some n) tells few = record {
  none = ((λ e. absurd (omega (arith, e, tells.0))), (λ e. absurd (tells.3 e)));
  still = λ e. absurd (omega (arith, e, tells.0));
  few = few;
  rising = tells.1;
  left = tells.2;
}

-- there is no memory, the disk fails, or the log is full
pub returns-in_err-found-clause-call : goal.returns-in_err-found-clause-call
returns-in_err-found-clause-call g c =
    let disk = g.M.Machine.disk in
    subst (λ (k : Ending). IsLogging g.O.Oper.meaning (disk c.args.machine.now) (disk c.take_turn.new.machine) c.args.store.now c.take_turn.new.store (StopsAt log_limit) k)
    (same_ends c.from_residual.result c.in_err-found.field-0.0 c.from_residual.ensures.1) c.in_err-found.ensures.call

pub returns-in_err-found-clause-takes : goal.returns-in_err-found-clause-takes
returns-in_err-found-clause-takes g c =
    let meaning = g.O.Oper.meaning in
    let old = g.M.Machine.disk c.args.machine.now in
    let new = g.M.Machine.disk c.take_turn.new.machine in
    let before = c.args.store.now.parts in
    let after = c.take_turn.new.store.parts in
    let copied = c.args.copied in
    subst (λ (k : Ending). Takes meaning old new before after (λ m w used. turn_course m copied (max 1 c.args.most) w used) k) (same_ends c.from_residual.result c.in_err-found.field-0.0 c.from_residual.ensures.1)
    (subst (λ (k : ℕ). Takes meaning old new before after (λ m w used. turn_course m copied k w used) (ending_of_error c.in_err-found.field-0.0)) c.one_or_more-most.ensures c.in_err-found.ensures.takes)

-- it is done
pub returns-clause-call : goal.returns-clause-call
returns-clause-call g c = c.in_ok-found.ensures.call

pub returns-clause-takes : goal.returns-clause-takes
returns-clause-takes g c =
    let copied = c.args.copied in
    subst (λ (k : ℕ). Takes g.O.Oper.meaning (g.M.Machine.disk c.args.machine.now) (g.M.Machine.disk c.take_turn.new.machine) c.args.store.now.parts c.take_turn.new.store.parts (λ m w used. turn_course m copied k w used) Done)
    c.one_or_more-most.ensures c.in_ok-found.ensures.takes

pub returns-clause-count : goal.returns-clause-count
returns-clause-count g c = λ p w shows.
    c.count_of.ensures ∙ subst (λ (k : ℕ). installed c.in_ok-found.found ≡ removals (turn_course (meaning_in g.O.Oper.meaning p) c.args.copied k w (log_length c.args.store.now)).steps) c.one_or_more-most.ensures (c.in_ok-found.ensures.count p w shows)

pub returns-clause-tells : goal.returns-clause-tells
returns-clause-tells g c =
    let before = c.args.store.now.parts in
    let after = c.take_turn.new.store.parts in
    subst (λ (n : ℕ). TellsTend (max 1 c.args.most) before after n) (sym c.count_of.ensures)
    (subst (λ (k : ℕ). TellsTend k before after (installed c.in_ok-found.found)) c.one_or_more-most.ensures (told c.one_or_more-most.result before after c.in_ok-found.found c.in_ok-found.ensures.tells c.in_ok-found.ensures.most))
