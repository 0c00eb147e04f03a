use Rattle.std.proofs.Common.{◌++◌, [], arith, refl, sym, subst, ℕ, List}
use Rattle.script_lines.specs.Grammar.{lines_of}
use Rattle.script_lines.specs.Reading.{still_to_give}
use Rattle.graph_view.specs.declared.draw_error.DrawError.TheVariants as errors
use Rattle.graph_view.proofs.LineLemmas.{AreRead, all_read, counted_since, few_begin, handed_on, is_cause, line_less, none_read, not_counted, one_read, read_cause, takes_on}
use Rattle.install_order.specs.declared.entry.Entry.{Entry}
use Rattle.graph_view.proofs.drawing.read_lines.Goals as goal

pub loop-line-init : goal.loop-line-init
loop-line-init g c = record {
  told = λ told. told;
  read = λ told.
      let all = g.S.Source.left c.args.input.now in
      subst (λ (ahead : List ℕ). AreRead (lines_of all) (lines_of (ahead ++ all)) 1 c.args.commands.now) (sym c.requires.fresh)
      (subst (λ (entries : List Entry). AreRead (lines_of all) (lines_of all) 1 entries) (sym c.requires.empty) (none_read (lines_of all)));
  takes = λ told. record { bytes = []; front = refl; count = c.requires.unread };
  few = few_begin c.args.lines.now c.requires.fresh c.requires.unread;
  later = omega arith;
}

pub loop-line-preserved : goal.loop-line-preserved
loop-line-preserved g c = record {
  told = λ told. c.next_asked.ensures.told (c.loop-line.invariant.told told);
  read = λ told. one_read _ _ _ _ _ _ _ _ (c.loop-line.invariant.read told) (c.in_ok-asked.ensures.next (c.loop-line.invariant.told told)) c.in-Some.is c.in_ok-add_asked-in-Some.ensures.ok;
  takes = λ told. takes_on _ _ _ 0 _ _ (c.loop-line.invariant.takes told) (c.next_asked.ensures.takes (c.loop-line.invariant.told told));
  few =
      let less = line_less (still_to_give c.next_asked.new.lines) (still_to_give c.loop-line.lines) _ _ c.in_ok-asked.ensures.less c.in-Some.is in
      omega (arith, c.loop-line.invariant.few, less);
  later = omega (arith, c.loop-line.invariant.later, c.next_asked.ensures.later);
}

pub returns-in_err-asked-clause-cause : goal.returns-in_err-asked-clause-cause
returns-in_err-asked-clause-cause g c = λ told. handed_on c.from_residual.result (errors.Read c.in_err-asked.field-0.0) _ c.from_residual.ensures.1
    (read_cause _ _ _ c.in_err-asked.field-0.0 (takes_on _ _ _ 0 _ _ (c.loop-line.invariant.takes told) (c.next_asked.ensures.takes (c.loop-line.invariant.told told))) c.in_err-asked.ensures.long)

pub returns-in_err-asked-clause-faults : goal.returns-in_err-asked-clause-faults
returns-in_err-asked-clause-faults g c = handed_on c.from_residual.result (errors.Read c.in_err-asked.field-0.0) _ c.from_residual.ensures.1
    (counted_since _ _ _ c.in_err-asked.field-0.0 c.loop-line.invariant.later c.in_err-asked.ensures.faults)

pub returns-in_err-add_asked-in-Some-clause-faults : goal.returns-in_err-add_asked-in-Some-clause-faults
returns-in_err-add_asked-in-Some-clause-faults g c = handed_on c.from_residual-in_err-add_asked-in-Some.result c.in_err-add_asked-in-Some.field-0.0 _ c.from_residual-in_err-add_asked-in-Some.ensures.1
    (not_counted _ _ _ _ c.in_err-add_asked-in-Some.field-0.0 c.in_err-add_asked-in-Some.ensures.err)

pub returns-in_err-add_asked-in-Some-clause-cause : goal.returns-in_err-add_asked-in-Some-clause-cause
returns-in_err-add_asked-in-Some-clause-cause g c = λ told.
    handed_on c.from_residual-in_err-add_asked-in-Some.result c.in_err-add_asked-in-Some.field-0.0 _ c.from_residual-in_err-add_asked-in-Some.ensures.1
    (is_cause (g.S.Source.left c.args.input.now) _ _ _ _ _ _ _ (c.loop-line.invariant.read told) (c.in_ok-asked.ensures.next (c.loop-line.invariant.told told)) c.in-Some.is c.in_err-add_asked-in-Some.ensures.err)

pub returns-in-None-clause-entries : goal.returns-in-None-clause-entries
returns-in-None-clause-entries g c = λ told. all_read _ _ _ _ _ _ (c.loop-line.invariant.read told) (c.in_ok-asked.ensures.next (c.loop-line.invariant.told told)) c.in-None.is
