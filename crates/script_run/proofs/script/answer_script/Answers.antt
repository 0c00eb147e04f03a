use Rattle.std.proofs.Common.{◌++◌, ◌∙◌, List, ℕ, [], ◌∷◌, Ok, false, refl, ap, sym, subst, arith}
use Rattle.std.proofs.lemmas.Result.{IfOk-from_err}
use Rattle.disk_model.specs.Moments.{passes_none, passes_twice}
use Rattle.explain_core.specs.RunLaws.{begins-all}
use Rattle.script_lines.specs.Grammar.{lines_of}
use Rattle.script_lines.specs.Reading.{IsLine, ReadsOn}
use Rattle.shell_base.specs.First.{stage_of}
use Rattle.shell_base.specs.HoldLaws.{told_by}
use Rattle.script_run.specs.Noted.{Noted, NotesFront}
use Rattle.script_run.proofs.TendedRuns.{ends_in_tending, ends_in_tending_beside, tended_beside, tended_going, tended_time}
use Rattle.script_run.proofs.BackupLemmas.{FreshBeside, answering_of, ends_here_beside, ends_in_finish_beside, ends_in_line_beside, goes_on_beside, goes_to_beside, next_beside, opened_beside}
use Rattle.script_run.proofs.NotedLemmas.{line_taken, notes_on, notes_to}
use Rattle.script_run.specs.StartLaws.{notes_begin}
use Rattle.script_run.specs.Run.{FreshGoing}
use Rattle.script_run.proofs.RunLemmas.{opened, goes_to, with_next, goes_on, ends_here, ends_in_line, ends_in_finish, completes}
use Rattle.script_run.proofs.ScriptLemmas.{few_begin, takes_on, next_line, ended, input_end, too_much, whole_uncut, finish_stops, finish_uncut, line_stops, line_not_long, line_undamaged, tending_not_long, tending_stops, tending_undamaged}
use Rattle.script_run.proofs.script.answer_script.Goals as goal

pub returns-in_err-lines-clause-answers : goal.returns-in_err-lines-clause-answers
returns-in_err-lines-clause-answers g c = λ p commands holds all alone told.
    ends_here (opened c.standing_files_meet_their_format.ensures.few (lines_of (g.S.Source.left c.args.input.now)) (g.met.M.Machine.lawful c.args.machine.now) holds all alone refl)

pub returns-in_err-lines-clause-backup : goal.returns-in_err-lines-clause-backup
returns-in_err-lines-clause-backup g c = λ p commands holds all alone none told.
    ends_here_beside g.T.Machine.disk (opened_beside g.T.Machine.disk c.args.backup.now c.standing_files_meet_their_format.ensures.few (lines_of (g.S.Source.left c.args.input.now)) (g.met.M.Machine.lawful c.args.machine.now) holds all alone none refl)

pub returns-in_err-lines-clause-some : goal.returns-in_err-lines-clause-some
returns-in_err-lines-clause-some g c = (
  [],
  λ p commands holds all alone. (ends_here (opened c.standing_files_meet_their_format.ensures.few [] (g.met.M.Machine.lawful c.args.machine.now) holds all alone refl), IfOk-from_err c.from_residual.result _ c.from_residual.ensures.0),
  λ p commands holds all alone none. ends_here_beside g.T.Machine.disk (opened_beside g.T.Machine.disk c.args.backup.now c.standing_files_meet_their_format.ensures.few [] (g.met.M.Machine.lawful c.args.machine.now) holds all alone none refl),
)

pub loop-lines-init : goal.loop-lines-init
loop-lines-init g c = record {
  told = λ told. told;
  unbroken = c.requires.sound;
  attached = λ attached. attached;
  time = passes_none (g.M.Machine.disk c.args.machine.now);
  going = λ p commands holds all alone told.
      subst (λ (l : List ℕ). FreshGoing c.args.tending p (stage_of c.args.engine.now holds.world) (g.M.Machine.disk c.args.machine.now) (g.M.Machine.disk c.args.machine.now) c.args.engine.now c.new-pace.result commands (lines_of (g.S.Source.left c.args.input.now)) (lines_of (l ++ g.S.Source.left c.args.input.now)) false)
      (sym c.in_ok-lines.ensures.0) (opened c.standing_files_meet_their_format.ensures.few (lines_of (g.S.Source.left c.args.input.now)) (g.met.M.Machine.lawful c.args.machine.now) holds all alone c.new-pace.ensures);
  backup_time = passes_none (g.T.Machine.disk c.args.backup.now);
  beside = λ p commands holds all alone none told.
      subst (λ (l : List ℕ). FreshBeside c.args.tending g.T.Machine.disk c.args.backup.now c.args.backup.now p (stage_of c.args.engine.now holds.world) (g.M.Machine.disk c.args.machine.now) (g.M.Machine.disk c.args.machine.now) c.args.engine.now c.new-pace.result commands (lines_of (g.S.Source.left c.args.input.now)) (lines_of (l ++ g.S.Source.left c.args.input.now)) false)
      (sym c.in_ok-lines.ensures.0) (opened_beside g.T.Machine.disk c.args.backup.now c.standing_files_meet_their_format.ensures.few (lines_of (g.S.Source.left c.args.input.now)) (g.met.M.Machine.lawful c.args.machine.now) holds all alone none c.new-pace.ensures);
  some = (
    [],
    λ p commands holds all alone. opened c.standing_files_meet_their_format.ensures.few [] (g.met.M.Machine.lawful c.args.machine.now) holds all alone c.new-pace.ensures,
    λ p commands holds all alone none. opened_beside g.T.Machine.disk c.args.backup.now c.standing_files_meet_their_format.ensures.few [] (g.met.M.Machine.lawful c.args.machine.now) holds all alone none c.new-pace.ensures,
  );
  reads = omega arith;
  takes = λ told. record { bytes = []; front = refl; count = omega (arith, c.in_ok-lines.ensures.1) };
  noted = λ told.
      subst (λ (l : List ℕ). NotesFront (lines_of (g.S.Source.left c.args.input.now)) (lines_of (l ++ g.S.Source.left c.args.input.now)) c.args.notes.now) (sym c.in_ok-lines.ensures.0) (notes_begin c.requires.fresh);
  lines = few_begin c.in_ok-lines.lines c.in_ok-lines.ensures.0 c.in_ok-lines.ensures.1 (ap (λ (n : Noted). n.lines) c.requires.fresh);
}

pub returns-in_err-tend : goal.returns-in_err-tend
returns-in_err-tend g c = record {
  time = (tended_time (g.met.M.Machine.lawful c.tend.new.machine) c.loop-lines.invariant.time c.tend.ensures);
  backup_time = c.loop-lines.invariant.backup_time;
  answers = λ p commands holds all alone told. ends_in_tending c.standing_files_meet_their_format.ensures.few c.loop-lines.invariant.time _ (c.loop-lines.invariant.going p commands holds all alone told) c.in_err-tend.ensures;
  complete = λ p commands holds all alone told. IfOk-from_err c.from_residual-in_err-tend.result _ c.from_residual-in_err-tend.ensures.0;
  backup = λ p commands holds all alone none told. ends_in_tending_beside c.standing_files_meet_their_format.ensures.few c.loop-lines.invariant.time g.T.Machine.disk (c.loop-lines.invariant.beside p commands holds all alone none told) c.in_err-tend.ensures;
  some =
      let (script, so_far, beside) = c.loop-lines.invariant.some in (
        script,
        λ p commands holds all alone. (ends_in_tending c.standing_files_meet_their_format.ensures.few c.loop-lines.invariant.time _ (so_far p commands holds all alone) c.in_err-tend.ensures, IfOk-from_err c.from_residual-in_err-tend.result _ c.from_residual-in_err-tend.ensures.0),
        λ p commands holds all alone none. ends_in_tending_beside c.standing_files_meet_their_format.ensures.few c.loop-lines.invariant.time g.T.Machine.disk (beside p commands holds all alone none) c.in_err-tend.ensures,
      );
  input = λ told. record { todo = _; front = c.loop-lines.invariant.noted told; all = IfOk-from_err c.from_residual-in_err-tend.result _ c.from_residual-in_err-tend.ensures.0 };
  cause = tending_stops (g.M.Machine.disk c.tend.new.machine) (g.S.Source.faults c.args.input.now) (g.S.Source.faults c.loop-lines.input) (g.T.Machine.disk c.args.backup.now) (g.T.Machine.disk c.loop-lines.backup) c.loop-lines.invariant.time c.from_residual-in_err-tend.result c.in_err-tend.field-0.0 c.from_residual-in_err-tend.ensures.1 c.in_err-tend.ensures.cause;
  undamaged = λ told attached. tending_undamaged c.from_residual-in_err-tend.result c.in_err-tend.field-0.0 c.from_residual-in_err-tend.ensures.1 (c.in_err-tend.ensures.undamaged (c.loop-lines.invariant.time.files_told.0 told) (c.loop-lines.invariant.attached attached));
  too_long = λ told long. absurd (tending_not_long (g.M.Machine.disk c.loop-lines.machine) (g.M.Machine.disk c.tend.new.machine) c.from_residual-in_err-tend.result c.in_err-tend.field-0.0 c.from_residual-in_err-tend.ensures.1 c.in_err-tend.ensures.cause long);
}

pub answer_next-requires-clause-few : goal.answer_next-requires-clause-few
answer_next-requires-clause-few g c = omega (arith, c.loop-lines.invariant.lines, c.in_ok-next.ensures.less c.in_default.not-End)

pub returns-in_err-lines-clause-input : goal.returns-in_err-lines-clause-input
returns-in_err-lines-clause-input g c = λ told. record { todo = _; front = notes_begin c.requires.fresh; all = IfOk-from_err c.from_residual.result _ c.from_residual.ensures.0 }

pub returns-in_err-next-clause-answers : goal.returns-in_err-next-clause-answers
returns-in_err-next-clause-answers g c = λ p commands holds all alone told. ends_here (tended_going c.standing_files_meet_their_format.ensures.few c.loop-lines.invariant.time (c.loop-lines.invariant.going p commands holds all alone told) c.in_ok-tend.ensures)

pub returns-in_err-next-clause-backup : goal.returns-in_err-next-clause-backup
returns-in_err-next-clause-backup g c = λ p commands holds all alone none told. ends_here_beside g.T.Machine.disk (tended_beside c.standing_files_meet_their_format.ensures.few c.loop-lines.invariant.time g.T.Machine.disk (λ w steps copies may shows same. c.copies_go_on.ensures.steps p c.loop-lines.machine c.tend.new.machine c.loop-lines.engine c.tend.new.engine w steps steps c.loop-lines.backup copies may (begins-all steps) shows same) (c.loop-lines.invariant.beside p commands holds all alone none told) c.in_ok-tend.ensures)

pub returns-in_err-next-clause-some : goal.returns-in_err-next-clause-some
returns-in_err-next-clause-some g c =
    let (script, so_far, beside) = c.loop-lines.invariant.some in (
      script,
      λ p commands holds all alone. (ends_here (tended_going c.standing_files_meet_their_format.ensures.few c.loop-lines.invariant.time (so_far p commands holds all alone) c.in_ok-tend.ensures), IfOk-from_err c.from_residual-in_err-next.result _ c.from_residual-in_err-next.ensures.0),
      λ p commands holds all alone none. ends_here_beside g.T.Machine.disk (tended_beside c.standing_files_meet_their_format.ensures.few c.loop-lines.invariant.time g.T.Machine.disk (λ w steps copies may shows same. c.copies_go_on.ensures.steps p c.loop-lines.machine c.tend.new.machine c.loop-lines.engine c.tend.new.engine w steps steps c.loop-lines.backup copies may (begins-all steps) shows same) (beside p commands holds all alone none) c.in_ok-tend.ensures),
    )

pub returns-in_err-next-clause-input : goal.returns-in_err-next-clause-input
returns-in_err-next-clause-input g c = λ told. record { todo = _; front = c.loop-lines.invariant.noted told; all = IfOk-from_err c.from_residual-in_err-next.result _ c.from_residual-in_err-next.ensures.0 }

pub returns-in_err-next-clause-too_long : goal.returns-in_err-next-clause-too_long
returns-in_err-next-clause-too_long g c = λ told long.
    let all = takes_on (c.loop-lines.invariant.takes told) (c.next.ensures.takes (c.loop-lines.invariant.told told)) in
    let full = c.in_err-next.ensures.long (cc (too_much c.from_residual-in_err-next.result c.in_err-next.field-0.0 c.from_residual-in_err-next.ensures.1 long)) in
    subst (λ (n : ℕ). ReadsOn (g.S.Source.left c.args.input.now) (g.S.Source.left c.next.new.input) 0 n) full all

pub returns-in_err-refusing-in_default : goal.returns-in_err-refusing-in_default
returns-in_err-refusing-in_default g c = record {
  time = passes_twice (g.M.Machine.disk c.args.machine.now) (g.M.Machine.disk c.tend.new.machine) (g.M.Machine.disk c.answer_next.new.machine) (g.met.M.Machine.lawful c.answer_next.new.machine) (tended_time (g.met.M.Machine.lawful c.tend.new.machine) c.loop-lines.invariant.time c.tend.ensures) c.answer_next.ensures.answered.time;
  answers = λ p commands holds all alone told.
      let so_far = tended_going c.standing_files_meet_their_format.ensures.few c.loop-lines.invariant.time (c.loop-lines.invariant.going p commands holds all alone told) c.in_ok-tend.ensures in
      let l = next_line c.in_ok-next.next _ _ _ (c.in_ok-next.ensures.next (c.loop-lines.invariant.told told)) c.in_default.not-End in
      let here = goes_to (l.0 ∷ _) so_far l.2 in
      let is_line = subst (λ (s : List ℕ). IsLine c.in_ok-next.next s l.0) (sym c.line.ensures) l.1 in
      ends_in_line c.standing_files_meet_their_format.ensures.few l.0 here (tended_time (g.met.M.Machine.lawful c.tend.new.machine) c.loop-lines.invariant.time c.tend.ensures) c.in_err-refusing-in_default.was (answering_of c.answer_next.result (c.answer_next.ensures.answered.answers c.args.backup.now p here.account.commands l.0 is_line here.holds));
  backup_time = passes_twice (g.T.Machine.disk c.args.backup.now) (g.T.Machine.disk c.loop-lines.backup) (g.T.Machine.disk c.answer_next.new.backup) (g.met.T.Machine.lawful c.answer_next.new.backup) c.loop-lines.invariant.backup_time c.answer_next.ensures.answered.backup_time;
  backup = λ p commands holds all alone none told.
      let so_far = tended_beside c.standing_files_meet_their_format.ensures.few c.loop-lines.invariant.time g.T.Machine.disk (λ w steps copies may shows same. c.copies_go_on.ensures.steps p c.loop-lines.machine c.tend.new.machine c.loop-lines.engine c.tend.new.engine w steps steps c.loop-lines.backup copies may (begins-all steps) shows same) (c.loop-lines.invariant.beside p commands holds all alone none told) c.in_ok-tend.ensures in
      let l = next_line c.in_ok-next.next _ _ _ (c.in_ok-next.ensures.next (c.loop-lines.invariant.told told)) c.in_default.not-End in
      let here = goes_to_beside g.T.Machine.disk (l.0 ∷ _) so_far l.2 in
      let is_line = subst (λ (s : List ℕ). IsLine c.in_ok-next.next s l.0) (sym c.line.ensures) l.1 in
      ends_in_line_beside g.T.Machine.disk c.standing_files_meet_their_format.ensures.few l.0 here (tended_time (g.met.M.Machine.lawful c.tend.new.machine) c.loop-lines.invariant.time c.tend.ensures) c.loop-lines.invariant.backup_time
      (c.answer_next.ensures.answered.answers c.args.backup.now p here.going.account.commands l.0 is_line here.going.holds) (c.answer_next.ensures.answered.idle l.0 is_line) c.in_err-refusing-in_default.was;
  complete = λ p commands holds all alone told. IfOk-from_err c.from_residual-in_err-refusing-in_default.result _ c.from_residual-in_err-refusing-in_default.ensures.0;
  some =
      let (script, so_far, beside) = c.loop-lines.invariant.some in
      let (line, it) = c.answer_next.ensures.some c.in_default.not-End in (
        script ++ line ∷ [],
        λ p commands holds all alone.
            let here = tended_going c.standing_files_meet_their_format.ensures.few c.loop-lines.invariant.time (so_far p commands holds all alone) c.in_ok-tend.ensures in (
              ends_in_line c.standing_files_meet_their_format.ensures.few line (with_next line here) (tended_time (g.met.M.Machine.lawful c.tend.new.machine) c.loop-lines.invariant.time c.tend.ensures) c.in_err-refusing-in_default.was (answering_of c.answer_next.result (it.answers c.args.backup.now p here.account.commands line refl here.holds)),
              IfOk-from_err c.from_residual-in_err-refusing-in_default.result _ c.from_residual-in_err-refusing-in_default.ensures.0,
            ),
        λ p commands holds all alone none.
            let here = next_beside g.T.Machine.disk line (tended_beside c.standing_files_meet_their_format.ensures.few c.loop-lines.invariant.time g.T.Machine.disk (λ w steps copies may shows same. c.copies_go_on.ensures.steps p c.loop-lines.machine c.tend.new.machine c.loop-lines.engine c.tend.new.engine w steps steps c.loop-lines.backup copies may (begins-all steps) shows same) (beside p commands holds all alone none) c.in_ok-tend.ensures) in
            ends_in_line_beside g.T.Machine.disk c.standing_files_meet_their_format.ensures.few line here (tended_time (g.met.M.Machine.lawful c.tend.new.machine) c.loop-lines.invariant.time c.tend.ensures) c.loop-lines.invariant.backup_time (it.answers c.args.backup.now p here.going.account.commands line refl here.going.holds) (it.idle line refl)
            c.in_err-refusing-in_default.was,
      );
  input = λ told.
      let l = next_line c.in_ok-next.next _ _ _ (c.in_ok-next.ensures.next (c.loop-lines.invariant.told told)) c.in_default.not-End in
      let is_line = subst (λ (s : List ℕ). IsLine c.in_ok-next.next s l.0) (sym c.line.ensures) l.1 in
      let front = notes_to c.answer_next.result l.0 c.answer_next.ensures.noted is_line l.2 (c.loop-lines.invariant.noted told) in
      record { todo = front.0; front = front.1; all = IfOk-from_err c.from_residual-in_err-refusing-in_default.result _ c.from_residual-in_err-refusing-in_default.ensures.0 };
  cause = line_stops (g.M.Machine.disk c.answer_next.new.machine) (g.T.Machine.disk c.answer_next.new.backup) (g.S.Source.faults c.args.input.now) (g.S.Source.faults c.next.new.input) (tended_time (g.met.M.Machine.lawful c.tend.new.machine) c.loop-lines.invariant.time c.tend.ensures) c.loop-lines.invariant.backup_time c.from_residual-in_err-refusing-in_default.result c.answer_next.result
      c.in_err-refusing-in_default.field-0.0 c.from_residual-in_err-refusing-in_default.ensures.1 c.in_err-refusing-in_default.was c.answer_next.ensures.answered.cause;
  undamaged = λ told attached. line_undamaged c.from_residual-in_err-refusing-in_default.result c.answer_next.result c.in_err-refusing-in_default.field-0.0 c.from_residual-in_err-refusing-in_default.ensures.1 c.in_err-refusing-in_default.was
      (c.answer_next.ensures.answered.undamaged ((tended_time (g.met.M.Machine.lawful c.tend.new.machine) c.loop-lines.invariant.time c.tend.ensures).files_told.0 told) (c.in_ok-tend.ensures.attached (c.loop-lines.invariant.attached attached)));
  too_long = λ told long. absurd (line_not_long c.from_residual-in_err-refusing-in_default.result c.answer_next.result c.in_err-refusing-in_default.field-0.0 (g.M.Machine.disk c.tend.new.machine) (g.M.Machine.disk c.answer_next.new.machine)
      (g.T.Machine.disk c.loop-lines.backup) (g.T.Machine.disk c.answer_next.new.backup) c.from_residual-in_err-refusing-in_default.ensures.1 c.in_err-refusing-in_default.was c.answer_next.ensures.answered.cause long);
}

pub loop-lines-preserved : goal.loop-lines-preserved
loop-lines-preserved g c = record {
  told = λ told. c.next.ensures.told (c.loop-lines.invariant.told told);
  unbroken = c.in_ok-refusing-in_default.ensures.answered.unbroken;
  attached = λ attached. c.in_ok-refusing-in_default.ensures.answered.attached (c.in_ok-tend.ensures.attached (c.loop-lines.invariant.attached attached));
  time = passes_twice (g.M.Machine.disk c.args.machine.now) (g.M.Machine.disk c.tend.new.machine) (g.M.Machine.disk c.answer_next.new.machine) (g.met.M.Machine.lawful c.answer_next.new.machine) (tended_time (g.met.M.Machine.lawful c.tend.new.machine) c.loop-lines.invariant.time c.tend.ensures) c.answer_next.ensures.answered.time;
  going = λ p commands holds all alone told.
      let so_far = tended_going c.standing_files_meet_their_format.ensures.few c.loop-lines.invariant.time (c.loop-lines.invariant.going p commands holds all alone told) c.in_ok-tend.ensures in
      let l = next_line c.in_ok-next.next _ _ _ (c.in_ok-next.ensures.next (c.loop-lines.invariant.told told)) c.in_default.not-End in
      let here = goes_to (l.0 ∷ _) so_far l.2 in
      let is_line = subst (λ (s : List ℕ). IsLine c.in_ok-next.next s l.0) (sym c.line.ensures) l.1 in
      goes_on c.standing_files_meet_their_format.ensures.few c.a_line_asks_one_thing.ensures l.0 here (tended_time (g.met.M.Machine.lawful c.tend.new.machine) c.loop-lines.invariant.time c.tend.ensures) c.in_ok-refusing-in_default.was (answering_of c.answer_next.result (c.answer_next.ensures.answered.answers c.args.backup.now p here.account.commands l.0 is_line here.holds));
  backup_time = passes_twice (g.T.Machine.disk c.args.backup.now) (g.T.Machine.disk c.loop-lines.backup) (g.T.Machine.disk c.answer_next.new.backup) (g.met.T.Machine.lawful c.answer_next.new.backup) c.loop-lines.invariant.backup_time c.answer_next.ensures.answered.backup_time;
  beside = λ p commands holds all alone none told.
      let so_far = tended_beside c.standing_files_meet_their_format.ensures.few c.loop-lines.invariant.time g.T.Machine.disk (λ w steps copies may shows same. c.copies_go_on.ensures.steps p c.loop-lines.machine c.tend.new.machine c.loop-lines.engine c.tend.new.engine w steps steps c.loop-lines.backup copies may (begins-all steps) shows same) (c.loop-lines.invariant.beside p commands holds all alone none told) c.in_ok-tend.ensures in
      let l = next_line c.in_ok-next.next _ _ _ (c.in_ok-next.ensures.next (c.loop-lines.invariant.told told)) c.in_default.not-End in
      let here = goes_to_beside g.T.Machine.disk (l.0 ∷ _) so_far l.2 in
      let is_line = subst (λ (s : List ℕ). IsLine c.in_ok-next.next s l.0) (sym c.line.ensures) l.1 in
      goes_on_beside g.T.Machine.disk c.standing_files_meet_their_format.ensures.few l.0 here (tended_time (g.met.M.Machine.lawful c.tend.new.machine) c.loop-lines.invariant.time c.tend.ensures) c.loop-lines.invariant.backup_time
      (c.answer_next.ensures.answered.answers c.args.backup.now p here.going.account.commands l.0 is_line here.going.holds) (c.answer_next.ensures.answered.idle l.0 is_line) c.a_line_asks_one_thing.ensures c.in_ok-refusing-in_default.was;
  some =
      let (script, so_far, beside) = c.loop-lines.invariant.some in
      let (line, it) = c.answer_next.ensures.some c.in_default.not-End in (
        script ++ line ∷ [],
        λ p commands holds all alone.
            let here = tended_going c.standing_files_meet_their_format.ensures.few c.loop-lines.invariant.time (so_far p commands holds all alone) c.in_ok-tend.ensures in
            goes_on c.standing_files_meet_their_format.ensures.few c.a_line_asks_one_thing.ensures line (with_next line here) (tended_time (g.met.M.Machine.lawful c.tend.new.machine) c.loop-lines.invariant.time c.tend.ensures) c.in_ok-refusing-in_default.was (answering_of c.answer_next.result (it.answers c.args.backup.now p here.account.commands line refl here.holds)),
        λ p commands holds all alone none.
            let here = next_beside g.T.Machine.disk line (tended_beside c.standing_files_meet_their_format.ensures.few c.loop-lines.invariant.time g.T.Machine.disk (λ w steps copies may shows same. c.copies_go_on.ensures.steps p c.loop-lines.machine c.tend.new.machine c.loop-lines.engine c.tend.new.engine w steps steps c.loop-lines.backup copies may (begins-all steps) shows same) (beside p commands holds all alone none) c.in_ok-tend.ensures) in
            goes_on_beside g.T.Machine.disk c.standing_files_meet_their_format.ensures.few line here (tended_time (g.met.M.Machine.lawful c.tend.new.machine) c.loop-lines.invariant.time c.tend.ensures) c.loop-lines.invariant.backup_time (it.answers c.args.backup.now p here.going.account.commands line refl here.going.holds) (it.idle line refl)
            c.a_line_asks_one_thing.ensures c.in_ok-refusing-in_default.was,
      );
  reads = omega (arith, c.loop-lines.invariant.reads, c.next.ensures.later);
  takes = λ told. takes_on (c.loop-lines.invariant.takes told) (c.next.ensures.takes (c.loop-lines.invariant.told told));
  noted = λ told.
      let l = next_line c.in_ok-next.next _ _ _ (c.in_ok-next.ensures.next (c.loop-lines.invariant.told told)) c.in_default.not-End in
      let is_line = subst (λ (s : List ℕ). IsLine c.in_ok-next.next s l.0) (sym c.line.ensures) l.1 in
      notes_on l.0 (line_taken _ c.in_ok-refusing-in_default.was c.answer_next.ensures.noted) is_line l.2 (c.loop-lines.invariant.noted told);
  lines = omega (arith, c.loop-lines.invariant.lines, c.in_ok-next.ensures.less c.in_default.not-End, (line_taken _ c.in_ok-refusing-in_default.was c.answer_next.ensures.noted).lines);
}

pub returns-in_err-close_script-clause-answers : goal.returns-in_err-close_script-clause-answers
returns-in_err-close_script-clause-answers g c = λ p commands holds all alone told.
    let so_far = tended_going c.standing_files_meet_their_format.ensures.few c.loop-lines.invariant.time (c.loop-lines.invariant.going p commands holds all alone told) c.in_ok-tend.ensures in
    let over = ended c.in_ok-next.next _ _ _ (c.in_ok-next.ensures.next (c.loop-lines.invariant.told told)) c.in-End.is in
    let here = goes_to [] so_far over in
    ends_in_finish c.standing_files_meet_their_format.ensures.few (finish_uncut c.from_residual-in_err-close_script.result c.in_err-close_script.field-0.0 c.from_residual-in_err-close_script.ensures.1 c.in_err-close_script.ensures.cause.0) here (tended_time (g.met.M.Machine.lawful c.tend.new.machine) c.loop-lines.invariant.time c.tend.ensures) (c.close_script.ensures.quiet (told_by here.holds)) (λ telling. c.close_script.ensures.images p here.account.commands here.holds telling)
    (λ telling. c.close_script.ensures.steps telling p here.holds.world here.holds.shows)

pub returns-in_err-close_script-clause-backup : goal.returns-in_err-close_script-clause-backup
returns-in_err-close_script-clause-backup g c = λ p commands holds all alone none told.
    let so_far = tended_beside c.standing_files_meet_their_format.ensures.few c.loop-lines.invariant.time g.T.Machine.disk (λ w steps copies may shows same. c.copies_go_on.ensures.steps p c.loop-lines.machine c.tend.new.machine c.loop-lines.engine c.tend.new.engine w steps steps c.loop-lines.backup copies may (begins-all steps) shows same) (c.loop-lines.invariant.beside p commands holds all alone none told) c.in_ok-tend.ensures in
    let over = ended c.in_ok-next.next _ _ _ (c.in_ok-next.ensures.next (c.loop-lines.invariant.told told)) c.in-End.is in
    let here = goes_to_beside g.T.Machine.disk [] so_far over in
    ends_in_finish_beside g.T.Machine.disk here (tended_time (g.met.M.Machine.lawful c.tend.new.machine) c.loop-lines.invariant.time c.tend.ensures) (c.close_script.ensures.quiet (told_by here.going.holds)) (λ telling. c.close_script.ensures.images p here.going.account.commands here.going.holds telling)

pub returns-in_err-close_script-clause-some : goal.returns-in_err-close_script-clause-some
returns-in_err-close_script-clause-some g c =
    let (script, so_far, beside) = c.loop-lines.invariant.some in (
      script,
      λ p commands holds all alone.
          let here = tended_going c.standing_files_meet_their_format.ensures.few c.loop-lines.invariant.time (so_far p commands holds all alone) c.in_ok-tend.ensures in (
            ends_in_finish c.standing_files_meet_their_format.ensures.few (finish_uncut c.from_residual-in_err-close_script.result c.in_err-close_script.field-0.0 c.from_residual-in_err-close_script.ensures.1 c.in_err-close_script.ensures.cause.0) here (tended_time (g.met.M.Machine.lawful c.tend.new.machine) c.loop-lines.invariant.time c.tend.ensures) (c.close_script.ensures.quiet (told_by here.holds)) (λ telling. c.close_script.ensures.images p here.account.commands here.holds telling)
                (λ telling. c.close_script.ensures.steps telling p here.holds.world here.holds.shows),
            IfOk-from_err c.from_residual-in_err-close_script.result _ c.from_residual-in_err-close_script.ensures.0,
          ),
      λ p commands holds all alone none.
          let here = tended_beside c.standing_files_meet_their_format.ensures.few c.loop-lines.invariant.time g.T.Machine.disk (λ w steps copies may shows same. c.copies_go_on.ensures.steps p c.loop-lines.machine c.tend.new.machine c.loop-lines.engine c.tend.new.engine w steps steps c.loop-lines.backup copies may (begins-all steps) shows same) (beside p commands holds all alone none) c.in_ok-tend.ensures in
          ends_in_finish_beside g.T.Machine.disk here (tended_time (g.met.M.Machine.lawful c.tend.new.machine) c.loop-lines.invariant.time c.tend.ensures) (c.close_script.ensures.quiet (told_by here.going.holds)) (λ telling. c.close_script.ensures.images p here.going.account.commands here.going.holds telling),
    )

pub returns-clause-some : goal.returns-clause-some
returns-clause-some g c =
    let (script, so_far, beside) = c.loop-lines.invariant.some in (
      script,
      λ p commands holds all alone.
          let here = tended_going c.standing_files_meet_their_format.ensures.few c.loop-lines.invariant.time (so_far p commands holds all alone) c.in_ok-tend.ensures in
          let (after, forced, emptied) = c.in_ok-close_script.ensures.forced p here.account.commands here.holds in
          let quiet = c.close_script.ensures.quiet (told_by here.holds) in (
            ends_in_finish c.standing_files_meet_their_format.ensures.few (whole_uncut _) here (tended_time (g.met.M.Machine.lawful c.tend.new.machine) c.loop-lines.invariant.time c.tend.ensures) quiet (λ telling. c.close_script.ensures.images p here.account.commands here.holds telling)
                (λ telling. c.close_script.ensures.steps telling p here.holds.world here.holds.shows),
            completes here quiet forced after emptied (c.in_ok-close_script.ensures.follows p here.holds.world here.holds.shows),
          ),
      λ p commands holds all alone none.
          let here = tended_beside c.standing_files_meet_their_format.ensures.few c.loop-lines.invariant.time g.T.Machine.disk (λ w steps copies may shows same. c.copies_go_on.ensures.steps p c.loop-lines.machine c.tend.new.machine c.loop-lines.engine c.tend.new.engine w steps steps c.loop-lines.backup copies may (begins-all steps) shows same) (beside p commands holds all alone none) c.in_ok-tend.ensures in
          ends_in_finish_beside g.T.Machine.disk here (tended_time (g.met.M.Machine.lawful c.tend.new.machine) c.loop-lines.invariant.time c.tend.ensures) (c.close_script.ensures.quiet (told_by here.going.holds)) (λ telling. c.close_script.ensures.images p here.going.account.commands here.going.holds telling),
    )

pub returns-clause-answers : goal.returns-clause-answers
returns-clause-answers g c = λ p commands holds all alone told.
    let so_far = tended_going c.standing_files_meet_their_format.ensures.few c.loop-lines.invariant.time (c.loop-lines.invariant.going p commands holds all alone told) c.in_ok-tend.ensures in
    let over = ended c.in_ok-next.next _ _ _ (c.in_ok-next.ensures.next (c.loop-lines.invariant.told told)) c.in-End.is in
    let here = goes_to [] so_far over in
    ends_in_finish c.standing_files_meet_their_format.ensures.few (whole_uncut _) here (tended_time (g.met.M.Machine.lawful c.tend.new.machine) c.loop-lines.invariant.time c.tend.ensures) (c.close_script.ensures.quiet (told_by here.holds)) (λ telling. c.close_script.ensures.images p here.account.commands here.holds telling)
    (λ telling. c.close_script.ensures.steps telling p here.holds.world here.holds.shows)

pub returns-clause-backup : goal.returns-clause-backup
returns-clause-backup g c = λ p commands holds all alone none told.
    let so_far = tended_beside c.standing_files_meet_their_format.ensures.few c.loop-lines.invariant.time g.T.Machine.disk (λ w steps copies may shows same. c.copies_go_on.ensures.steps p c.loop-lines.machine c.tend.new.machine c.loop-lines.engine c.tend.new.engine w steps steps c.loop-lines.backup copies may (begins-all steps) shows same) (c.loop-lines.invariant.beside p commands holds all alone none told) c.in_ok-tend.ensures in
    let over = ended c.in_ok-next.next _ _ _ (c.in_ok-next.ensures.next (c.loop-lines.invariant.told told)) c.in-End.is in
    let here = goes_to_beside g.T.Machine.disk [] so_far over in
    ends_in_finish_beside g.T.Machine.disk here (tended_time (g.met.M.Machine.lawful c.tend.new.machine) c.loop-lines.invariant.time c.tend.ensures) (c.close_script.ensures.quiet (told_by here.going.holds)) (λ telling. c.close_script.ensures.images p here.going.account.commands here.going.holds telling)

pub returns-clause-complete : goal.returns-clause-complete
returns-clause-complete g c = λ p commands holds all alone told.
    let so_far = tended_going c.standing_files_meet_their_format.ensures.few c.loop-lines.invariant.time (c.loop-lines.invariant.going p commands holds all alone told) c.in_ok-tend.ensures in
    let over = ended c.in_ok-next.next _ _ _ (c.in_ok-next.ensures.next (c.loop-lines.invariant.told told)) c.in-End.is in
    let here = goes_to [] so_far over in
    let (after, forced, emptied) = c.in_ok-close_script.ensures.forced p here.account.commands here.holds in
    completes here (c.close_script.ensures.quiet (told_by here.holds)) forced after emptied (c.in_ok-close_script.ensures.follows p here.holds.world here.holds.shows)

pub returns-in_err-close_script-clause-input : goal.returns-in_err-close_script-clause-input
returns-in_err-close_script-clause-input g c = λ told. record { todo = _; front = c.loop-lines.invariant.noted told; all = IfOk-from_err c.from_residual-in_err-close_script.result _ c.from_residual-in_err-close_script.ensures.0 }

pub returns-clause-input : goal.returns-clause-input
returns-clause-input g c = λ told.
    let here = c.loop-lines.invariant.told told in
    let read = input_end c.in_ok-next.next _ _ c.next.new.self.ahead (g.S.Source.left c.args.input.now) (g.S.Source.left c.next.new.input) c.next.new.self.taken (c.in_ok-next.ensures.next here) c.in-End.is
    (takes_on (c.loop-lines.invariant.takes told) (c.next.ensures.takes here)) (c.next.ensures.before (c.in_ok-next.was ∙ ap (λ n. Ok n) c.in-End.is)) in
    record { todo = _; front = c.loop-lines.invariant.noted told; all = (ended c.in_ok-next.next _ _ _ (c.in_ok-next.ensures.next here) c.in-End.is, read.0, read.1) }

pub returns-in_err-close_script-clause-cause : goal.returns-in_err-close_script-clause-cause
returns-in_err-close_script-clause-cause g c =
    finish_stops c.from_residual-in_err-close_script.result c.in_err-close_script.field-0.0 (g.M.Machine.disk c.args.machine.now) (g.M.Machine.disk c.tend.new.machine) (g.M.Machine.disk c.close_script.new.machine) (g.S.Source.faults c.args.input.now)
    (g.S.Source.faults c.next.new.input) (g.T.Machine.disk c.args.backup.now) (g.T.Machine.disk c.loop-lines.backup) c.from_residual-in_err-close_script.ensures.1 c.in_err-close_script.ensures.cause.0 (tended_time (g.met.M.Machine.lawful c.tend.new.machine) c.loop-lines.invariant.time c.tend.ensures) c.in_err-close_script.ensures.cause.1

pub answer_next-requires-clause-sound : goal.answer_next-requires-clause-sound
answer_next-requires-clause-sound g c = c.in_ok-tend.ensures.unbroken

pub close_script-requires : goal.close_script-requires
close_script-requires g c = c.in_ok-tend.ensures.unbroken

pub returns-in_err-next-clause-time : goal.returns-in_err-next-clause-time
returns-in_err-next-clause-time g c = (tended_time (g.met.M.Machine.lawful c.tend.new.machine) c.loop-lines.invariant.time c.tend.ensures)

pub returns-in_err-close_script-clause-time : goal.returns-in_err-close_script-clause-time
returns-in_err-close_script-clause-time g c =
    passes_twice (g.M.Machine.disk c.args.machine.now) (g.M.Machine.disk c.tend.new.machine) (g.M.Machine.disk c.close_script.new.machine) (g.met.M.Machine.lawful c.close_script.new.machine)
    (tended_time (g.met.M.Machine.lawful c.tend.new.machine) c.loop-lines.invariant.time c.tend.ensures) c.close_script.ensures.time

pub returns-clause-time : goal.returns-clause-time
returns-clause-time g c =
    passes_twice (g.M.Machine.disk c.args.machine.now) (g.M.Machine.disk c.tend.new.machine) (g.M.Machine.disk c.close_script.new.machine) (g.met.M.Machine.lawful c.close_script.new.machine)
    (tended_time (g.met.M.Machine.lawful c.tend.new.machine) c.loop-lines.invariant.time c.tend.ensures) c.close_script.ensures.time

pub tend-requires : goal.tend-requires
tend-requires g c = c.loop-lines.invariant.unbroken
