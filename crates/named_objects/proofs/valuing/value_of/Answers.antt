use Rattle.std.proofs.Common.{◌≡◌, sym, ap, ◌∙◌, ℕ, List, Option, Some, Ok, Err, option_map}
use Rattle.std.specs.Prelude.{nat_lt}
use Rattle.std.proofs.lemmas.Bool.{cond-false, cond-true}
use Rattle.std.proofs.lemmas.Result.{IfOk-weaker}
use Rattle.formats.specs.Objects.{bounds_of}
use Rattle.formats.specs.declared.params.Params.{Params}
use Rattle.running_store.specs.Taking.Ending.{Done}
use Rattle.store_engine.specs.Lists.{ending_of}
use Rattle.range_calls.specs.JoinLaws.{not_refused, reads_then}
use Rattle.range_calls.specs.ReadLaws.{passed, refused_passed}
use Rattle.range_calls.specs.Store.{state_of}
use Rattle.map_client.specs.Answers.{bad_map, cause_of}
use Rattle.named_objects.specs.Answers.{valued}
use Rattle.named_objects.proofs.valuing.value_of.Goals as goal

pub returns-in_err-there-clause-refused : goal.returns-in_err-there-clause-refused
returns-in_err-there-clause-refused g c = λ p commands holds.
    let e = c.in_err-there.field-0.0 in
    refused_passed c.from_residual.result e (λ x. ending_of (cause_of x) ≡ Done → valued (bounds_of p) c.args.map.now.lo (state_of p commands) (Ok (Some c.args.object)) ≡ Err x)
    (passed c.from_residual.result e c.from_residual.ensures.1) (λ done. absurd (c.in_err-there.ensures.failed done))

pub returns-then-not-there-clause-refused : goal.returns-then-not-there-clause-refused
returns-then-not-there-clause-refused g c = λ p commands holds done.
    let same = ap (λ (q : Params). nat_lt c.args.object q.objects) (g.S.Store.view.numbers p (g.M.Machine.disk c.args.machine.now) c.args.store.now commands holds) in
    let past : nat_lt c.args.object p.objects ≡ _ = sym same ∙ sym c.in_ok-there.ensures.there ∙ c.if-not-there.true in
    cond-false (nat_lt c.args.object p.objects) (Ok (Some (state_of p commands c.args.object))) (Err (bad_map c.args.map.now.lo)) past ∙ ap (λ x. Err (bad_map x)) (sym c.root.ensures)

pub returns-clause-reads : goal.returns-clause-reads
returns-clause-reads g c =
    reads_then g.S.Store.view g.M.Machine.disk c.reads_run_short.ensures c.args.machine.now c.see.new.machine c.args.store.now c.see.new.store c.copied.result c.in_ok-there.ensures.reads c.copied.ensures.memory

pub returns-clause-found : goal.returns-clause-found
returns-clause-found g c = λ p commands holds.
    let same = ap (λ (q : Params). nat_lt c.args.object q.objects) (g.S.Store.view.numbers p (g.M.Machine.disk c.args.machine.now) c.args.store.now commands holds) in
    let within = sym same ∙ sym c.in_ok-there.ensures.there ∙ c.if-not-there.false in
    let value : c.get.result.now ≡ state_of p commands c.args.object = c.get.ensures.value ∙ c.in_ok-there.ensures.value p commands holds c.if-not-there.false in
    let told = cond-true (nat_lt c.args.object p.objects) (Ok (Some (state_of p commands c.args.object))) (Err (bad_map c.args.map.now.lo)) within in
    IfOk-weaker c.copied.result (λ copy. option_map (λ v. v.items) copy ≡ Some c.get.result.now)
    (λ copy. valued (bounds_of p) c.args.map.now.lo (state_of p commands) (Ok (Some c.args.object)) ≡ Ok (option_map (λ v. v.items) copy))
    (λ copy is. told ∙ ap (λ (v : List ℕ). Ok (Some v)) (sym value) ∙ ap (λ (o : Option (List ℕ)). Ok o) (sym is)) c.copied.ensures.value

pub returns-clause-refused : goal.returns-clause-refused
returns-clause-refused g c = λ p commands holds.
    not_refused c.copied.result (λ e. valued (bounds_of p) c.args.map.now.lo (state_of p commands) (Ok (Some c.args.object)) ≡ Err e) c.copied.ensures.memory
