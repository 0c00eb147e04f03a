use Rattle.std.proofs.Common.{◌≡◌, ◌<◌, ℕ, length, sym, ap, subst, arith}
use Rattle.std.proofs.lemmas.Bool.Decides.{nat_tests}
use Rattle.script_lines.specs.Reading.{ReadsOn}
use Rattle.script_lines.proofs.LineLemmas.{takes_on, line_goes_on, line_is_taken, line_ends_input, input_ends, run_less}
use Rattle.script_lines.proofs.reader.LineReader.next.Goals as goal

pub returns-in_err-fill-clause-takes : goal.returns-in_err-fill-clause-takes
returns-in_err-fill-clause-takes g c = λ told. takes_on (c.loop-self.invariant.takes told) (c.fill.ensures.takes (c.loop-self.invariant.told told))

pub returns-then-is_empty-clause-takes : goal.returns-then-is_empty-clause-takes
returns-then-is_empty-clause-takes g c = λ told. takes_on (c.loop-self.invariant.takes told) (c.fill.ensures.takes (c.loop-self.invariant.told told))

pub returns-else-is_empty-clause-takes : goal.returns-else-is_empty-clause-takes
returns-else-is_empty-clause-takes g c = λ told. takes_on (c.loop-self.invariant.takes told) (c.fill.ensures.takes (c.loop-self.invariant.told told))

pub returns-in_err-take_run-clause-takes : goal.returns-in_err-take_run-clause-takes
returns-in_err-take_run-clause-takes g c = λ told.
    let t = takes_on (c.loop-self.invariant.takes told) (c.fill.ensures.takes (c.loop-self.invariant.told told)) in
    subst (λ (n : ℕ). ReadsOn (g.S.Source.left c.args.input.now) (g.S.Source.left c.fill.new.input) c.args.self.now.taken n) (sym c.take_run.ensures.taken) t

pub returns-then-branch-clause-takes : goal.returns-then-branch-clause-takes
returns-then-branch-clause-takes g c = λ told.
    let t = takes_on (c.loop-self.invariant.takes told) (c.fill.ensures.takes (c.loop-self.invariant.told told)) in
    subst (λ (n : ℕ). ReadsOn (g.S.Source.left c.args.input.now) (g.S.Source.left c.fill.new.input) c.args.self.now.taken n) (sym c.take_run.ensures.taken) t

pub returns-then-is_empty-clause-next : goal.returns-then-is_empty-clause-next
returns-then-is_empty-clause-next g c = λ told.
    let told_now = c.loop-self.invariant.told told in
    let over = c.fill.ensures.end told_now (cc (c.in_ok-fill.was, c.if-not-branch.true)) in
    let none : length c.fill.new.self.line ≡ 0 = grind (arith, nat_tests, c.if-is_empty.ensures, ap length c.line.ensures) in
    input_ends _ _ _ _ (c.loop-self.invariant.taken told) c.fill.ensures.line (c.fill.ensures.same told_now) over none

pub returns-else-is_empty-clause-next : goal.returns-else-is_empty-clause-next
returns-else-is_empty-clause-next g c = λ told.
    let told_now = c.loop-self.invariant.told told in
    let over = c.fill.ensures.end told_now (cc (c.in_ok-fill.was, c.if-not-branch.true)) in
    let some : 0 < length c.fill.new.self.line = grind (arith, nat_tests, c.if-is_empty.ensures, ap length c.line.ensures) in
    line_ends_input _ _ _ _ (c.loop-self.invariant.taken told) c.fill.ensures.line (c.fill.ensures.same told_now) over some c.found.ensures

pub returns-then-branch-clause-next : goal.returns-then-branch-clause-next
returns-then-branch-clause-next g c = λ told.
    let told_now = c.loop-self.invariant.told told in
    line_is_taken _ _ _ (c.loop-self.invariant.taken told) c.fill.ensures.line (c.fill.ensures.same told_now) c.in_ok-take_run.ensures.run c.if-branch.true c.found-then-branch.ensures

pub returns-else-is_empty-clause-less : goal.returns-else-is_empty-clause-less
returns-else-is_empty-clause-less g c = λ other.
    let some : 0 < length c.fill.new.self.line = grind (arith, nat_tests, c.if-is_empty.ensures, ap length c.line.ensures) in
    omega (arith, c.loop-self.invariant.less, c.fill.ensures.measure, ap length c.fill.ensures.line, some)

pub returns-then-branch-clause-less : goal.returns-then-branch-clause-less
returns-then-branch-clause-less g c = λ other.
    let there = c.fill.ensures.there (cc (c.in_ok-fill.was, c.if-not-branch.false)) in
    omega (arith, c.loop-self.invariant.less, c.fill.ensures.measure, c.in_ok-take_run.ensures.less there)

pub loop-self-preserved : goal.loop-self-preserved
loop-self-preserved g c = record {
  told = λ told. c.fill.ensures.told (c.loop-self.invariant.told told);
  taken = λ told.
      let told_now = c.loop-self.invariant.told told in
      line_goes_on _ _ _ (c.loop-self.invariant.taken told) c.fill.ensures.line (c.fill.ensures.same told_now) c.in_ok-take_run.ensures.run c.if-branch.false;
  takes = λ told.
      let t = takes_on (c.loop-self.invariant.takes told) (c.fill.ensures.takes (c.loop-self.invariant.told told)) in
      subst (λ (n : ℕ). ReadsOn (g.S.Source.left c.args.input.now) (g.S.Source.left c.fill.new.input) c.args.self.now.taken n) (sym c.take_run.ensures.taken) t;
  less = omega (arith, c.loop-self.invariant.less, c.fill.ensures.measure, ap length c.fill.ensures.line, run_less c.in_ok-take_run.ensures.run c.take_run.ensures.taken);
  later = omega (arith, c.loop-self.invariant.later, c.fill.ensures.later);
}
