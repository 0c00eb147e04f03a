use Rattle.std.proofs.Common.{◌≡◌, ◌<◌, ◌∙◌, sym, ap, subst, ℕ, None, Some, inl, inr, arith, true≢false}
use Rattle.std.specs.Prelude.{◌==◌}
use Rattle.std.proofs.lemmas.Bool.{cases_lt, eqb-true}
use Rattle.formats.specs.declared.params.Params.{Params}
use Rattle.transactions.specs.Within.{length_in}
use Rattle.transactions.proofs.WithinLemmas.{next_is}
use Rattle.transactions.proofs.within.WithinStore.next_empty.Goals as goal

pub loop-object-preserved : goal.loop-object-preserved
loop-object-preserved g c = λ x above below zero.
    let long = length_in c.args.self.now in
    elim (cases_lt x c.loop-object.object) [
      | inl earlier ↦ c.loop-object.invariant x above earlier zero
      | inr later ↦
          let same : x ≡ c.loop-object.object = omega (arith, below, later) in
          true≢false (sym (ap (λ (n : ℕ). n == 0) (subst (λ (y : ℕ). long y ≡ 0) same zero)) ∙ sym c.is_empty.ensures ∙ c.if-is_empty.false)
    ]

pub returns-then-is_empty : goal.returns-then-is_empty
returns-then-is_empty g c = λ p commands all.
    let long = length_in c.args.self.now in
    let object = c.loop-object.object in
    next_is g.O.Oper.meaning p (g.M.Machine.disk c.args.machine.now) c.args.self.now commands all (c.lengths_are_told.ensures.lengths p all.base all.holds) c.args.from (Some object) (record {
      below = subst (λ (q : Params). object < q.objects) c.params-object-end.ensures.value c.loop-object-test.true;
      above = c.loop-object.auto.object;
      here = eqb-true (long object) 0 (sym c.is_empty.ensures ∙ c.if-is_empty.true);
      least = c.loop-object.invariant;
    })

pub returns : goal.returns
returns g c = λ p commands all.
    next_is g.O.Oper.meaning p (g.M.Machine.disk c.args.machine.now) c.args.self.now commands all (c.lengths_are_told.ensures.lengths p all.base all.holds) c.args.from None
    (λ x above below. c.loop-object.invariant x above (omega (arith, below, c.loop-object-test.false, ap (λ (q : Params). q.objects) c.params-object-end.ensures.value)))
