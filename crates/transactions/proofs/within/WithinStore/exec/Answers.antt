use Rattle.std.proofs.Common.{refl, None, Some, []}
use Rattle.transactions.proofs.WithinLemmas.{answers_err, nothing_staged, staged_none, staged_one, there, within_calls}
use Rattle.transactions.proofs.within.WithinStore.exec.Goals as goal

pub returns-in-Ok : goal.returns-in-Ok
returns-in-Ok g c =
    let disk = g.M.Machine.disk in
    let reads = c.in-Ok.ensures.reads in record {
      makes = record {
        calls = within_calls g.O.Oper.meaning c.args.self.now _ None reads refl refl;
        adds = λ p commands was rest ended again.
            staged_one g.O.Oper.meaning (disk c.args.machine.now) (disk c.exec.new.machine) c.args.self.now _ c.args.op p commands again (reads.holds p again.base again.holds)
            (c.in-Ok.ensures.staged p again.base again.holds again.staged) rest (ended refl);
      };
      answers = λ p commands all.
          there g.O.Oper.meaning (disk c.args.machine.now) c.args.self.now c.args.op p commands all None (c.in-Ok.ensures.staged p all.base all.holds all.staged).0;
      keeps = tt;
    }

pub returns-in-Err : goal.returns-in-Err
returns-in-Err g c =
    let disk = g.M.Machine.disk in
    let reads = c.in-Err.ensures.reads in record {
      makes = record {
        calls = within_calls g.O.Oper.meaning c.args.self.now _ (Some c.in-Err.cause) reads refl refl;
        adds = λ p commands was rest ended again.
            staged_none g.O.Oper.meaning (disk c.args.machine.now) (disk c.exec.new.machine) c.args.self.now _ c.args.op p commands again c.in-Err.cause (reads.holds p again.base again.holds)
            (c.in-Err.ensures.staged p again.base again.holds again.staged) rest ended;
      };
      answers = λ p commands all.
          answers_err g.O.Oper.meaning (disk c.args.machine.now) c.args.self.now c.args.op p commands all c.in-Err.cause c.exec.new.self.ops.items c.exec.new.self.bytes c.exec.new.self.made
          (c.in-Err.ensures.staged p all.base all.holds all.staged);
      keeps = λ p commands all.
          nothing_staged g.O.Oper.meaning (disk c.args.machine.now) (disk c.exec.new.machine) c.args.self.now _ c.args.op p commands all c.in-Err.cause (reads.holds p all.base all.holds)
          (c.in-Err.ensures.staged p all.base all.holds all.staged) [] (λ done. refl);
    }
