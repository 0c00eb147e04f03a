use Rattle.std.proofs.Common.{◌+◌, ◌++◌, ◌∙◌, ℕ, List, length, take, refl, sym, ap, subst, arith, length-drop}
use Rattle.std.proofs.lemmas.List.{append-nil, take_all}
use Rattle.oper_core.specs.LittleEndian.{slice_from}
use Rattle.disk_model.specs.Disk.{In, Runs, Same}
use Rattle.disk_model.specs.Moments.{runs_none}
use Rattle.disk_model.specs.declared.machine.FileNo.{FileNo}
use Rattle.log_blocks.specs.Rewriting.{KeepsClosed}
use Rattle.log_blocks.specs.Writing.{HasPut}
use Rattle.log_blocks.specs.RewriteLaws.{keeps_none, keeps_twice}
use Rattle.log_blocks.proofs.Written.{put_more}
use Rattle.log_blocks.proofs.log_writer.LogWriter.put.Goals as goal

pub loop-taken-init : goal.loop-taken-init
loop-taken-init g c =
    let d = g.M.Machine.disk c.args.machine.now in
    record {
      kept = runs_none d (In c.args.self.now.file KeepsClosed) (keeps_none c.args.self.now.file) (g.met.M.Machine.lawful c.args.machine.now);
      file = refl;
      so_far = λ told front has. subst (λ (l : List ℕ). HasPut d c.args.self.now l) (sym (append-nil front)) has;
      end = omega arith;
      within = omega arith;
    }

pub loop-taken-preserved : goal.loop-taken-preserved
loop-taken-preserved g c =
    let inv = c.loop-taken.invariant in
    let first = g.M.Machine.disk c.args.machine.now in
    let now = g.M.Machine.disk c.loop-taken.machine in
    let new = g.M.Machine.disk c.put_some.new.machine in
    let bytes = c.args.bytes.now in
    let taken = c.loop-taken.taken in
    record {
      kept = keeps_twice first now new c.args.self.now.file inv.kept (subst (λ (f : FileNo). Runs (In f KeepsClosed) Same now new) inv.file c.put_some.ensures.runs);
      file = c.put_some.ensures.file ∙ inv.file;
      so_far = λ told front has.
          subst (λ (l : List ℕ). HasPut new c.put_some.new.self l) (put_more front bytes _ taken c.in_ok-n.n (slice_from taken bytes))
          (c.in_ok-n.ensures.put (inv.kept.time.files_told.0 told) (front ++ take taken bytes) (inv.so_far told front has));
      end = omega (arith, inv.end, c.in_ok-n.ensures.end);
      within = omega (arith, c.in_ok-n.ensures.some.1, ap length (slice_from taken bytes), length-drop taken bytes, c.loop-taken-test.true);
    }

pub returns-in_err-n-clause-runs : goal.returns-in_err-n-clause-runs
returns-in_err-n-clause-runs g c =
    let inv = c.loop-taken.invariant in
    let now = g.M.Machine.disk c.loop-taken.machine in
    let new = g.M.Machine.disk c.put_some.new.machine in
    keeps_twice (g.M.Machine.disk c.args.machine.now) now new c.args.self.now.file inv.kept (subst (λ (f : FileNo). Runs (In f KeepsClosed) Same now new) inv.file c.put_some.ensures.runs)

pub returns-clause-put : goal.returns-clause-put
returns-clause-put g c told front has =
    let inv = c.loop-taken.invariant in
    let bytes = c.args.bytes.now in
    subst (λ (l : List ℕ). HasPut (g.M.Machine.disk c.loop-taken.machine) c.loop-taken.self (front ++ l)) (take_all c.loop-taken.taken bytes (omega (arith, c.loop-taken-test.false))) (inv.so_far told front has)
