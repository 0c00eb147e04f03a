use Rattle.std.proofs.Common.{◌≤◌, ◌+◌, ◌∙◌, ap, subst, sym, List, ℕ, [], ◌∷◌, length, length-append, All, map, ⊎_elim}
use Rattle.std.proofs.lemmas.List.{take_all}
use Rattle.std.proofs.lemmas.List.Elements.{All-push}
use Rattle.formats.specs.declared.params.Params.{Params}
use Rattle.store_engine.specs.Engine.{params_of}
use Rattle.store_engine.specs.Store.{state_of}
use Rattle.transactions.specs.Staged.{overlaid}
use Rattle.transactions.proofs.Reading.{holds_still, next_value, reads_so, reads_twice}
use Rattle.transactions.proofs.seeing.values_of.Goals as goal

pub returns-in-Err-clause-reads : goal.returns-in-Err-clause-reads
returns-in-Err-clause-reads g c =
    let disk = g.M.Machine.disk in
    reads_so g.O.Oper.meaning (disk c.args.machine.now) (disk c.push_value.new.machine) c.args.engine.now c.push_value.new.engine _ _ (λ failed. failed) (λ failed. failed)
    (reads_twice g.O.Oper.meaning (disk c.args.machine.now) (disk c.loop-object.machine) (disk c.push_value.new.machine) c.args.engine.now c.loop-object.engine c.push_value.new.engine _ c.loop-object.invariant.reads c.in-Err.ensures.reads)

pub loop-object-preserved : goal.loop-object-preserved
loop-object-preserved g c =
    let disk = g.M.Machine.disk in
    let so_far = c.loop-object.invariant in
    let cap = (params_of c.args.engine.now).cap in
    let pushed = c.in_default.ensures.pushed in
    let short : length pushed.0 ≤ cap = subst (λ (p : Params). length pushed.0 ≤ p.cap) so_far.reads.params pushed.2 in
    record {
      unbroken = ⊎_elim (λ failed. absurd failed) (λ fine. fine) c.in_default.ensures.reads.broken;
      reads = reads_twice g.O.Oper.meaning (disk c.args.machine.now) (disk c.loop-object.machine) (disk c.push_value.new.machine) c.args.engine.now c.loop-object.engine c.push_value.new.engine _ so_far.reads c.in_default.ensures.reads;
      count = ap length pushed.1 ∙ length-append c.loop-object.values (pushed.0 ∷ []) ∙ ap (λ (n : ℕ). n + 1) so_far.count;
      short = subst (λ (l : List (List ℕ)). All (λ v. length v ≤ cap) l) (sym pushed.1) (All-push (λ v. length v ≤ cap) c.loop-object.values pushed.0 so_far.short short);
      values = λ p commands holds.
          c.in_default.ensures.value p commands (holds_still g.O.Oper.meaning (disk c.args.machine.now) (disk c.loop-object.machine) c.args.engine.now c.loop-object.engine so_far.reads p commands holds)
          ∙ next_value (overlaid c.args.made.now (state_of g.O.Oper.meaning p commands)) c.args.objects.now c.loop-object.object-index c.loop-object.values c.loop-object-test.true (so_far.values p commands holds);
    }

pub returns-clause-reads : goal.returns-clause-reads
returns-clause-reads g c =
    let disk = g.M.Machine.disk in
    reads_so g.O.Oper.meaning (disk c.args.machine.now) (disk c.loop-object.machine) c.args.engine.now c.loop-object.engine _ _ (λ failed. absurd failed) (λ none. absurd none) c.loop-object.invariant.reads

pub returns-clause-values : goal.returns-clause-values
returns-clause-values g c = λ p commands holds.
    c.loop-object.invariant.values p commands holds
    ∙ ap (λ (l : List ℕ). map (overlaid c.args.made.now (state_of g.O.Oper.meaning p commands)) l) (take_all c.loop-object.object-index c.args.objects.now c.loop-object-test.false)
