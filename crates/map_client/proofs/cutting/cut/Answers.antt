use Rattle.std.proofs.Common.{sym, ap, ◌∙◌, subst, ℕ, suc, ◌-◌, Option, Result, Ok}
use Rattle.formats.specs.Objects.{bounds_of}
use Rattle.execution.specs.declared.exec_err.ExecErr.{ExecErr}
use Rattle.call_plans.specs.Free.{free_from}
use Rattle.page_map.specs.Cutting.{due_seen}
use Rattle.page_map.specs.Sets.{cut_turn, due_in}
use Rattle.page_map.specs.Splits.{Due}
use Rattle.range_calls.specs.Answers as answers
use Rattle.store_calls.specs.Making.{Reads}
use Rattle.range_calls.specs.ReadLaws.{answers_passed, passed}
use Rattle.range_calls.specs.Store.{state_of}
use Rattle.map_client.specs.Turning.{round_of}
use Rattle.map_client.proofs.CutLemmas.{cut_bad}
use Rattle.map_client.proofs.cutting.cut.Goals as goal

pub returns-in_err-due-clause-answer : goal.returns-in_err-due-clause-answer
returns-in_err-due-clause-answer g c = λ p commands holds room.
    let pair = c.args.pair.now in
    let lo = pair.map.now.lo in
    let hi = pair.map.now.hi in
    let s = state_of p commands in
    let e = c.in_err-due.field-0.0 in
    let free = free_from s (suc lo) (hi - lo) in
    let due = due_in (bounds_of p) lo hi pair.key pair.value s in
    answers_passed c.from_residual.result e (answers.told (round_of (cut_turn lo free due))) (passed c.from_residual.result e c.from_residual.ensures.1)
    (λ done. cut_bad lo free due e (c.in_err-due.ensures.bad p commands holds room done))

pub returns-clause-reads : goal.returns-clause-reads
returns-clause-reads g c =
    subst (λ (e : Option ExecErr). Reads g.S.Store.view (g.M.Machine.disk c.args.machine.now) (g.M.Machine.disk c.due.new.machine) c.args.store.now c.due.new.store e) (sym c.round_due.ensures.found) c.in_ok-due.ensures.reads

pub returns-clause-answer : goal.returns-clause-answer
returns-clause-answer g c = λ p commands holds room done.
    let pair = c.args.pair.now in
    let lo = pair.map.now.lo in
    let hi = pair.map.now.hi in
    let s = state_of p commands in
    let free = free_from s (suc lo) (hi - lo) in
    c.round_due.ensures.answer free (c.first_free-first.ensures p commands (c.reads_go_on.ensures.holds p c.args.machine.now c.due.new.machine c.args.store.now c.due.new.store commands c.in_ok-due.ensures.reads holds))
    ∙ ap (λ (x : ℕ). answers.told (round_of (cut_turn x free (Ok (due_seen c.in_ok-due.due))))) c.root.ensures
    ∙ sym (ap (λ (d : Result Due ℕ). answers.told (round_of (cut_turn lo free d))) (c.in_ok-due.ensures.found p commands holds room))
