use Rattle.std.proofs.Common.{◌≡◌, refl, sym, ap, ◌∙◌, subst, ℕ, suc, ◌-◌, List, Option, Ok, arith}
use Rattle.formats.specs.Objects.{bounds_of}
use Rattle.formats.specs.declared.params.Params.{Params}
use Rattle.execution.specs.declared.exec_err.ExecErr.{ExecErr}
use Rattle.op_codec.specs.AllOps.{hash}
use Rattle.call_plans.specs.Free.{free_from}
use Rattle.hash_file.specs.Find.{Met, find_bucket, found, unused}
use Rattle.hash_file.specs.Plan.{put_next, put_on}
use Rattle.store_calls.specs.Making.{Reads}
use Rattle.range_calls.specs.ReadLaws.{answers_passed, passed}
use Rattle.range_calls.specs.Store.{state_of}
use Rattle.range_calls.specs.Turns.{turn_answer}
use Rattle.hash_client.specs.Finding.{met_answer}
use Rattle.hash_client.specs.declared.finding.Found.{Found}
use Rattle.hash_client.proofs.FindLemmas.{bad_met, found_met, unused_met}
use Rattle.hash_client.proofs.PutLemmas.{bad_turn, free_is}
use Rattle.hash_client.proofs.putting.NewPairTurns.next_turn.Goals as goal

pub returns-in_err-met-clause-answer : goal.returns-in_err-met-clause-answer
returns-in_err-met-clause-answer g c = λ p commands holds.
    let s = state_of p commands in
    let lo = c.args.self.now.file.now.lo in
    let hi = c.args.self.now.file.now.hi in
    let key = c.args.self.now.key in
    answers_passed c.from_residual.result c.in_err-met.field-0.0 (turn_answer hash (put_next (bounds_of p) lo hi key c.args.self.now.value s)) (passed c.from_residual.result c.in_err-met.field-0.0 c.from_residual.ensures.1)
    (λ done. bad_turn (bounds_of p) lo hi s key c.args.self.now.value c.in_err-met.field-0.0 (bad_met (find_bucket lo hi s key) c.in_err-met.field-0.0 (c.in_err-met.ensures.answer p commands holds done)))

pub returns-in-Some-clause-reads : goal.returns-in-Some-clause-reads
returns-in-Some-clause-reads g c =
    subst (λ (e : Option ExecErr). Reads g.S.Store.view (g.M.Machine.disk c.args.machine.now) (g.M.Machine.disk c.find_bucket.new.machine) c.args.store.now c.find_bucket.new.store e) (sym c.put_turn.ensures.found) c.in_ok-met.ensures.reads

pub returns-in-None-clause-reads : goal.returns-in-None-clause-reads
returns-in-None-clause-reads g c =
    subst (λ (e : Option ExecErr). Reads g.S.Store.view (g.M.Machine.disk c.args.machine.now) (g.M.Machine.disk c.find_bucket.new.machine) c.args.store.now c.find_bucket.new.store e) (sym c.begin_turn.ensures.found) c.in_ok-met.ensures.reads

pub returns-in-Some-clause-answer : goal.returns-in-Some-clause-answer
returns-in-Some-clause-answer g c = λ p commands holds done.
    let s = state_of p commands in
    let lo = c.args.self.now.file.now.lo in
    let hi = c.args.self.now.file.now.hi in
    let key = c.args.self.now.key in
    let told = subst (λ (o : Option Found). Ok o ≡ met_answer (find_bucket lo hi s key)) c.in-Some.is (c.in_ok-met.ensures.answer p commands holds refl) in
    let fits = ap (λ (q : Params). q.objects) (g.S.Store.view.numbers p (g.M.Machine.disk c.args.machine.now) c.args.store.now commands holds) in
    c.put_turn.ensures.answer p commands (c.reads_go_on.ensures.holds p c.args.machine.now c.find_bucket.new.machine c.args.store.now c.find_bucket.new.store commands c.in_ok-met.ensures.reads holds) (omega (arith, c.requires.there, fits))
    ∙ ap (λ (l : List ℕ). turn_answer hash (put_on lo key c.args.self.now.value l (found c.in-Some.found.object c.in-Some.found.bucket))) (free_is s lo hi)
    ∙ sym (ap (λ (m : Met). turn_answer hash (put_on lo key c.args.self.now.value (free_from s (suc lo) (hi - lo)) m)) (found_met (find_bucket lo hi s key) c.in-Some.found told))

pub returns-in-None-clause-answer : goal.returns-in-None-clause-answer
returns-in-None-clause-answer g c = λ p commands holds done.
    let s = state_of p commands in
    let lo = c.args.self.now.file.now.lo in
    let hi = c.args.self.now.file.now.hi in
    let key = c.args.self.now.key in
    let told = subst (λ (o : Option Found). Ok o ≡ met_answer (find_bucket lo hi s key)) c.in-None.is (c.in_ok-met.ensures.answer p commands holds refl) in
    let fits = ap (λ (q : Params). q.objects) (g.S.Store.view.numbers p (g.M.Machine.disk c.args.machine.now) c.args.store.now commands holds) in
    c.begin_turn.ensures.answer p commands (c.reads_go_on.ensures.holds p c.args.machine.now c.find_bucket.new.machine c.args.store.now c.find_bucket.new.store commands c.in_ok-met.ensures.reads holds) (omega (arith, c.requires.there, fits))
    ∙ ap (λ (l : List ℕ). turn_answer hash (put_on lo key c.args.self.now.value l unused)) (free_is s lo hi)
    ∙ sym (ap (λ (m : Met). turn_answer hash (put_on lo key c.args.self.now.value (free_from s (suc lo) (hi - lo)) m)) (unused_met (find_bucket lo hi s key) told))
