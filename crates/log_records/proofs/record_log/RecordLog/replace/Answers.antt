use Rattle.std.proofs.Common.{rules, ◌≡◌, ◌≢◌, ◌+◌, ◌<◌, ◌^◌, ◌∙◌, ◌++◌, [], ◌∷◌, List, ℕ, map, refl, sym, ap, subst, arith}
use Rattle.std.proofs.lemmas.Result.{err_from_is_err_and}
use Rattle.disk_model.specs.Disk.{HoldsAt, In, IsSettledIn, Runs, Same, Torn}
use Rattle.disk_model.specs.declared.machine.FileNo.{FileNo}
use Rattle.oper_core.specs.Meaning.{IsSmall}
use Rattle.formats.specs.InForce.{other_of}
use Rattle.formats.specs.Log.{IsClosedLog}
use Rattle.formats.specs.Records.{IsRecordLog, payload_of, records_of}
use Rattle.formats.specs.declared.record.Record.TheVariants.{Checkpoint}
use Rattle.log_blocks.specs.LogView.{LogView}
use Rattle.log_blocks.specs.Reading.{fails_on, none_told}
use Rattle.log_blocks.specs.Rewriting.{IsPrepared, KeepsClosed, next_header}
use Rattle.log_blocks.specs.Writing.{LogWriterView, rewritten_to}
use Rattle.log_records.specs.CodecLaws.{has_codes}
use Rattle.log_records.specs.RecordLog.{IsCounted, RecordLogView}
use Rattle.log_records.specs.Rewriting.{in_full_blocks, new_payloads, from_lsn}
use Rattle.log_records.proofs.Copies.{planned_beside, rises_since}
use Rattle.log_records.proofs.LoadLemmas.{found_stable}
use Rattle.log_records.proofs.Replaced.{HasClosed, IsClosing, closing_old, closing_run, ending_keeps, ending_partly, ending_run, is_plan, no_fault_beside, refused_writing, writing_old, writing_run, written_settled}
use Rattle.log_records.proofs.Rewrites.{Rewrites, new_commands, old_partly}
use Rattle.log_records.proofs.record_log.RecordLog.replace.Goals as goal

pub write_log-requires-clause-apart : goal.write_log-requires-clause-apart
write_log-requires-clause-apart g c =
    subst (λ (w : LogWriterView). c.args.self.now.log.active ≢ w.file) (sym c.requires.out_is) c.requires.apart

pub write_log-requires-clause-new : goal.write_log-requires-clause-new
write_log-requires-clause-new g c =
    let file = ap (λ (w : LogWriterView). w.file) c.requires.out_is in
    c.requires.out_is ∙ (λ i. record { file = sym file i; place = 1; bytes = [] })

pub write_log-requires-clause-epoch : goal.write_log-requires-clause-epoch
write_log-requires-clause-epoch g c =
    c.requires.epoch

pub write_log-requires-clause-planned : goal.write_log-requires-clause-planned
write_log-requires-clause-planned g c =
    let old = g.M.Machine.disk c.args.m.now in
    let one = g.M.Machine.disk c.begin_rewrite.new.machine in
    let now = c.args.self.now in
    let b = now.bounds in
    let m = g.O.Oper.meaning b in
    let closed = subst (λ (v : RecordLogView). HasClosed old one v.log) c.self.view_is (record { run = c.begin_rewrite.ensures.runs; idle = c.begin_rewrite.ensures.idle }) in
    planned_beside m old one (other_of now.log.active) now.log c.args.base (Checkpoint c.args.table ∷ []) c.args.new c.requires.apart closed.run c.requires.planned

pub write_log-requires-clause-grammar : goal.write_log-requires-clause-grammar
write_log-requires-clause-grammar g c =
    c.requires.may.grammar

pub write_log-requires-clause-fits : goal.write_log-requires-clause-fits
write_log-requires-clause-fits g c =
    c.requires.within

pub end_rewrite-requires-clause-waits : goal.end_rewrite-requires-clause-waits
end_rewrite-requires-clause-waits g c =
    subst (λ (v : RecordLogView). v.log.pending ≡ []) (sym c.self.view_is) c.requires.may.waits

pub end_rewrite-requires-clause-epoch : goal.end_rewrite-requires-clause-epoch
end_rewrite-requires-clause-epoch g c =
    subst (λ (v : RecordLogView). v.log.header.epoch < 2 ^ 62) (sym c.self.view_is) c.requires.epoch

pub end_rewrite-requires-clause-place : goal.end_rewrite-requires-clause-place
end_rewrite-requires-clause-place g c =
    omega (arith, c.in_ok-end.ensures.end, c.requires.within)

pub invariant_of-self-2 : goal.invariant_of-self-2
invariant_of-self-2 g c =
    let now = c.args.self.now in
    let m = g.O.Oper.meaning now.bounds in
    let planned = c.requires.planned in
    let may = c.requires.may in
    let inside = c.self.inside in
    let was = subst (λ (v : RecordLogView). IsCounted v.bounds v.log.header v.accepted v.next) c.self.view_is c.self.invariant in
    let below = new_commands m now.log.header c.args.base planned.records was.in_range planned.all.placed may.low in
    subst (λ (l : LogView). IsCounted inside.bounds l.header inside.accepted inside.next) (sym c.in_ok-end_rewrite.ensures.rewritten) (record {
      small = c.self.invariant.small;
      in_range = record {
        epoch_low = omega arith;
        epoch_high = omega (arith, c.requires.epoch, ap (λ (v : RecordLogView). v.log.header.epoch) c.self.view_is);
        base_low = omega (arith, was.in_range.base_low, may.low);
        base_high = omega (arith, may.high, was.last);
        commands = omega (arith, planned.commands, below);
      };
      base = omega (arith, may.high, ap (λ (v : RecordLogView). v.next) c.self.view_is);
      last = c.self.invariant.last;
      count = c.self.invariant.count;
    })

pub returns-in_err-begin_rewrite : goal.returns-in_err-begin_rewrite
returns-in_err-begin_rewrite g c =
    let old = g.M.Machine.disk c.args.m.now in
    let one = g.M.Machine.disk c.begin_rewrite.new.machine in
    let now = c.args.self.now in
    let b = now.bounds in
    let m = g.O.Oper.meaning b in
    let closed = subst (λ (v : RecordLogView). HasClosed old one v.log) c.self.view_is (record { run = c.begin_rewrite.ensures.runs; idle = c.begin_rewrite.ensures.idle }) in
    let p = err_from_is_err_and c.from_residual.result c.from_residual.ensures.1 in
    record {
      runs = closing_run old one now.log closed;
      any_moment = λ told stable keeps. old_partly m old one now.log c.args.base c.args.table stable (closing_old m old now stable keeps told one closed);
      acknowledged = search rules;
      settled = search rules;
      rewritten = search rules;
      kept = search rules;
      refused = rw (p.1, p.2) (λ apart. absurd (apart refl));
      undamaged = λ told stable keeps. rw (p.1, p.2) (λ found. found);
      cause = rw (p.1, p.2) (c.in_err-begin_rewrite.ensures.cause refl);
    }

pub returns-in_err-end : goal.returns-in_err-end
returns-in_err-end g c =
    let old = g.M.Machine.disk c.args.m.now in
    let one = g.M.Machine.disk c.begin_rewrite.new.machine in
    let now = c.args.self.now in
    let b = now.bounds in
    let m = g.O.Oper.meaning b in
    let closed = subst (λ (v : RecordLogView). HasClosed old one v.log) c.self.view_is (record { run = c.begin_rewrite.ensures.runs; idle = c.begin_rewrite.ensures.idle }) in
    let two = g.M.Machine.disk c.write_log.new.m in
    let file : c.args.out.file ≡ other_of now.log.active = ap (λ (w : LogWriterView). w.file) c.requires.out_is in
    let run = subst (λ (f : FileNo). Runs (In f KeepsClosed) Same one two) file c.write_log.ensures.runs in
    let closing : IsClosing old one now.log = record {
      begun = closed;
      closed = subst (λ (v : RecordLogView). old.tells_files → IsClosedLog (one.reads (other_of v.log.active))) c.self.view_is c.in_ok-begin_rewrite.ensures.closed;
      settled = c.in_ok-begin_rewrite.ensures.settled;
    } in
    let p = err_from_is_err_and c.from_residual-in_err-end.result c.from_residual-in_err-end.ensures.1 in
    record {
      runs = writing_run old one two now.log closed run;
      any_moment = λ told stable keeps. old_partly m old two now.log c.args.base c.args.table stable (writing_old m old now stable keeps told one two closing run);
      acknowledged = search rules;
      settled = search rules;
      rewritten = search rules;
      kept = search rules;
      refused = rw (p.1, p.2) (λ apart. refused_writing m old one two now closing run (subst (λ (f : FileNo). IsSettledIn f two) file (c.in_err-end.ensures.refused apart)));
      undamaged = λ told stable keeps.
          let small : IsSmall b = subst (λ (v : RecordLogView). IsSmall v.bounds) c.self.view_is c.self.invariant.small in
          let codes = has_codes m b small (g.met.O.Oper.bounded b) (g.met.O.Oper.lawful b small) in
          rw (p.1, p.2) (none_told _ _ c.in_err-end.field-0.0 (no_fault_beside m codes old two now stable keeps told (writing_run old one two now.log closed run)) c.in_err-end.ensures.cause);
      cause = rw (p.1, p.2) (fails_on _ _ _ _ c.in_err-end.field-0.0 (rises_since old one two closed.run.time.disk_faults) (λ f place there. there) c.in_err-end.ensures.cause);
    }

pub returns-in_err-end_rewrite : goal.returns-in_err-end_rewrite
returns-in_err-end_rewrite g c =
    let old = g.M.Machine.disk c.args.m.now in
    let one = g.M.Machine.disk c.begin_rewrite.new.machine in
    let now = c.args.self.now in
    let b = now.bounds in
    let m = g.O.Oper.meaning b in
    let closed = subst (λ (v : RecordLogView). HasClosed old one v.log) c.self.view_is (record { run = c.begin_rewrite.ensures.runs; idle = c.begin_rewrite.ensures.idle }) in
    let two = g.M.Machine.disk c.write_log.new.m in
    let file : c.args.out.file ≡ other_of now.log.active = ap (λ (w : LogWriterView). w.file) c.requires.out_is in
    let run = subst (λ (f : FileNo). Runs (In f KeepsClosed) Same one two) file c.write_log.ensures.runs in
    let fin = g.M.Machine.disk c.end_rewrite.new.machine in
    let last = subst (λ (v : RecordLogView). Runs (In (other_of v.log.active) (Torn 0 1)) Same two fin) c.self.view_is c.end_rewrite.ensures.runs in
    let p = err_from_is_err_and c.from_residual-in_err-end_rewrite.result c.from_residual-in_err-end_rewrite.ensures.1 in
    record {
      runs = ending_run old one two fin now.log closed run last;
      any_moment = λ told stable keeps.
          let closing : IsClosing old one now.log = record {
            begun = closed;
            closed = subst (λ (v : RecordLogView). old.tells_files → IsClosedLog (one.reads (other_of v.log.active))) c.self.view_is c.in_ok-begin_rewrite.ensures.closed;
            settled = c.in_ok-begin_rewrite.ensures.settled;
          } in
          let here = subst (λ (f : FileNo). IsSettledIn f two) file c.in_ok-end.ensures.settled in
          let small : IsSmall b = subst (λ (v : RecordLogView). IsSmall v.bounds) c.self.view_is c.self.invariant.small in
          let codes = has_codes m b small (g.met.O.Oper.bounded b) (g.met.O.Oper.lawful b small) in
          let told_files = closed.run.begins.telling told in
          let is : Rewrites m old now c.args.base c.args.table stable = record { keeps = keeps; may = c.requires.may } in
          let plan = is_plan m old now.log c.args.base c.args.table stable c.args.new c.requires.planned (found_stable m codes old old now stable [] c.requires.planned.records keeps (closed.run.begins.agreeing told_files) c.requires.planned.all) in
          let told_one = closed.run.time.files_told.0 told_files in
          let holds = subst (λ (f : List ℕ). IsRecordLog m now.log.header keeps.groups f) (sym ((closed.run.reads told_files).others now.log.active c.requires.apart)) keeps.file in
          let prepared = subst (λ (f : FileNo). IsPrepared (next_header now.log c.args.base c.args.new.commands) (map (payload_of m) (in_full_blocks m (from_lsn c.args.base (records_of keeps.groups) ++ Checkpoint c.args.table ∷ []))) (two.reads f)) file
          (c.in_ok-end.ensures.prepared told_one (subst (λ (f : FileNo). IsClosedLog (one.reads f)) (sym file) (closing.closed told_files)) keeps.groups holds) in
          ending_partly m old now c.args.base c.args.table stable is c.args.new plan c.requires.epoch one two fin closing run here prepared last told;
      acknowledged = search rules;
      settled = search rules;
      rewritten = search rules;
      kept = rw p.1 (ap (λ (l : LogView). record { bounds = c.self.inside.bounds; log = l; next = c.self.inside.next; accepted = c.self.inside.accepted; forced = c.self.inside.forced }) c.in_err-end_rewrite.ensures.kept ∙ c.self.view_is);
      refused = rw (p.1, p.2) (λ apart. absurd (apart refl));
      undamaged = λ told stable keeps. rw (p.1, p.2) (λ found. found);
      cause = rw (p.1, p.2) (rises_since old two (g.M.Machine.disk c.end_rewrite.new.machine) (omega (arith, closed.run.time.disk_faults, run.time.disk_faults)) (c.in_err-end_rewrite.ensures.cause refl));
    }

pub returns : goal.returns
returns g c =
    let old = g.M.Machine.disk c.args.m.now in
    let one = g.M.Machine.disk c.begin_rewrite.new.machine in
    let now = c.args.self.now in
    let b = now.bounds in
    let m = g.O.Oper.meaning b in
    let closed = subst (λ (v : RecordLogView). HasClosed old one v.log) c.self.view_is (record { run = c.begin_rewrite.ensures.runs; idle = c.begin_rewrite.ensures.idle }) in
    let two = g.M.Machine.disk c.write_log.new.m in
    let file : c.args.out.file ≡ other_of now.log.active = ap (λ (w : LogWriterView). w.file) c.requires.out_is in
    let run = subst (λ (f : FileNo). Runs (In f KeepsClosed) Same one two) file c.write_log.ensures.runs in
    let fin = g.M.Machine.disk c.end_rewrite.new.machine in
    let last = subst (λ (v : RecordLogView). Runs (In (other_of v.log.active) (Torn 0 1)) Same two fin) c.self.view_is c.end_rewrite.ensures.runs in
    let closing : IsClosing old one now.log = record {
      begun = closed;
      closed = subst (λ (v : RecordLogView). old.tells_files → IsClosedLog (one.reads (other_of v.log.active))) c.self.view_is c.in_ok-begin_rewrite.ensures.closed;
      settled = c.in_ok-begin_rewrite.ensures.settled;
    } in
    let here = subst (λ (f : FileNo). IsSettledIn f two) file c.in_ok-end.ensures.settled in
    let small : IsSmall b = subst (λ (v : RecordLogView). IsSmall v.bounds) c.self.view_is c.self.invariant.small in
    let codes = has_codes m b small (g.met.O.Oper.bounded b) (g.met.O.Oper.lawful b small) in
    let after_is : _ ≡ record now { log = rewritten_to now.log c.args.base c.args.new.commands c.in_ok-end.end } = λ i. record (c.self.view_is i) { log = (c.in_ok-end_rewrite.ensures.rewritten ∙ ap (λ (v : RecordLogView). rewritten_to v.log c.args.base c.args.new.commands c.in_ok-end.end) c.self.view_is) i } in
    record {
      runs = ending_run old one two fin now.log closed run last;
      any_moment = λ told stable keeps.
          let told_files = closed.run.begins.telling told in
          let is : Rewrites m old now c.args.base c.args.table stable = record { keeps = keeps; may = c.requires.may } in
          let plan = is_plan m old now.log c.args.base c.args.table stable c.args.new c.requires.planned (found_stable m codes old old now stable [] c.requires.planned.records keeps (closed.run.begins.agreeing told_files) c.requires.planned.all) in
          let told_one = closed.run.time.files_told.0 told_files in
          let holds = subst (λ (f : List ℕ). IsRecordLog m now.log.header keeps.groups f) (sym ((closed.run.reads told_files).others now.log.active c.requires.apart)) keeps.file in
          let prepared = subst (λ (f : FileNo). IsPrepared (next_header now.log c.args.base c.args.new.commands) (map (payload_of m) (in_full_blocks m (from_lsn c.args.base (records_of keeps.groups) ++ Checkpoint c.args.table ∷ []))) (two.reads f)) file
          (c.in_ok-end.ensures.prepared told_one (subst (λ (f : FileNo). IsClosedLog (one.reads f)) (sym file) (closing.closed told_files)) keeps.groups holds) in
          ending_partly m old now c.args.base c.args.table stable is c.args.new plan c.requires.epoch one two fin closing run here prepared last told;
      acknowledged = λ told stable keeps.
          let told_files = told in
          let is : Rewrites m old now c.args.base c.args.table stable = record { keeps = keeps; may = c.requires.may } in
          let plan = is_plan m old now.log c.args.base c.args.table stable c.args.new c.requires.planned (found_stable m codes old old now stable [] c.requires.planned.records keeps (closed.run.begins.agreeing told_files) c.requires.planned.all) in
          let told_one = closed.run.time.files_told.0 told_files in
          let holds = subst (λ (f : List ℕ). IsRecordLog m now.log.header keeps.groups f) (sym ((closed.run.reads told_files).others now.log.active c.requires.apart)) keeps.file in
          let prepared = subst (λ (f : FileNo). IsPrepared (next_header now.log c.args.base c.args.new.commands) (map (payload_of m) (in_full_blocks m (from_lsn c.args.base (records_of keeps.groups) ++ Checkpoint c.args.table ∷ []))) (two.reads f)) file
          (c.in_ok-end.ensures.prepared told_one (subst (λ (f : FileNo). IsClosedLog (one.reads f)) (sym file) (closing.closed told_files)) keeps.groups holds) in
          let told_two = run.time.files_told.0 told_one in
          let settled = c.in_ok-end_rewrite.ensures.settled (written_settled one two (other_of now.log.active) (closing.settled keeps.settled) run here) in
          let opened = subst (λ (v : RecordLogView). In (other_of v.log.active) (HoldsAt 0 (1 ∷ [])) two.reads fin.reads) c.self.view_is (c.in_ok-end_rewrite.ensures.opened told_two) in
          ending_keeps m old now c.args.base c.args.table stable is c.args.new plan c.requires.epoch one two fin closing run here prepared last told _ c.in_ok-end.end c.in_ok-end.ensures.end after_is settled opened;
      settled = λ settled.
          let closing : IsClosing old one now.log = record {
            begun = closed;
            closed = subst (λ (v : RecordLogView). old.tells_files → IsClosedLog (one.reads (other_of v.log.active))) c.self.view_is c.in_ok-begin_rewrite.ensures.closed;
            settled = c.in_ok-begin_rewrite.ensures.settled;
          } in
          c.in_ok-end_rewrite.ensures.settled (written_settled one two (other_of now.log.active) (closing.settled settled) run here);
      rewritten =
          let m = g.O.Oper.meaning now.bounds in
          let planned = c.requires.planned in
          let plan = is_plan m (g.M.Machine.disk c.args.m.now) now.log c.args.base c.args.table planned.records c.args.new planned refl in
          (new_payloads m c.args.base c.args.table planned.records, c.args.new.commands, after_is ∙ ap (λ (n : ℕ). record now { log = rewritten_to now.log c.args.base c.args.new.commands n }) (c.in_ok-end.ensures.end ∙ plan.end));
      kept = search rules;
      refused = search rules;
      undamaged = search rules;
      cause = search rules;
    }
