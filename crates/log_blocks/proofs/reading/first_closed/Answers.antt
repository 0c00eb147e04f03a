use Rattle.std.proofs.Common.{◌≡◌, ◌<◌, ◌+◌, ℕ, subst, arith, Option, Some, []}
use Rattle.disk_model.specs.Moments.{agreed_before, stays_here, stays_twice}
use Rattle.std.specs.Prelude.{IfSome}
use Rattle.std.proofs.lemmas.Result.{err_from_is_err_and}
use Rattle.log_blocks.specs.Reading.{FoundAt}
use Rattle.log_blocks.proofs.Causes.{at_gate}
use Rattle.log_blocks.proofs.ReadTo.{read_none, read_more}
use Rattle.log_blocks.proofs.reading.first_closed.Goals as goal

pub loop-len-init : goal.loop-len-init
loop-len-init g c = record {
  kept = stays_here (g.M.Machine.disk c.args.machine.now) (g.met.M.Machine.lawful c.args.machine.now);
  inside = c.requires;
  so_far = λ files agree size. ([], read_none (files c.args.file));
}

pub loop-len-preserved : goal.loop-len-preserved
loop-len-preserved g c =
    let old = g.M.Machine.disk c.args.machine.now in
    let mid = g.M.Machine.disk c.loop-len.machine in
    let new = g.M.Machine.disk c.open_block.new.machine in
    let inv = c.loop-len.invariant in
    let within = λ (is : c.in_ok-len.field-0 ≡ Some c.in-Some.len). subst (λ (o : Option ℕ). IfSome o (λ len. c.loop-len.gate + 5 + len < c.args.size)) is c.in_ok-len.ensures.within in
    record {
      kept = stays_twice old mid new inv.kept c.open_block.ensures.kept;
      inside = omega (arith, within c.in-Some.is);
      so_far = λ files agree size.
          let read = inv.so_far files (agreed_before c.open_block.ensures.kept files agree) size in
          let head = subst (λ (o : Option ℕ). FoundAt c.loop-len.gate (files c.args.file) o) c.in-Some.is (c.in_ok-len.ensures.found files agree size) in
          (_, read_more (files c.args.file) c.loop-len.gate c.in-Some.len read.0 read.1 head);
    }

pub returns-in_err-len-clause-cause : goal.returns-in_err-len-clause-cause
returns-in_err-len-clause-cause g c =
    let inv = c.loop-len.invariant in
    let p = err_from_is_err_and c.from_residual.result c.from_residual.ensures.1 in
    rw (p.1, p.2) (at_gate (g.M.Machine.disk c.args.machine.now) (g.M.Machine.disk c.loop-len.machine) (g.M.Machine.disk c.open_block.new.machine) c.args.file c.args.size c.loop-len.gate c.in_err-len.field-0.0 inv.kept c.open_block.ensures.kept inv.so_far c.in_err-len.ensures.cause)

pub returns-clause-end : goal.returns-clause-end
returns-clause-end g c files agree size =
    let read = c.loop-len.invariant.so_far files (agreed_before c.open_block.ensures.kept files agree) size in
    let closed = subst (λ (o : Option ℕ). FoundAt c.loop-len.gate (files c.args.file) o) c.in_default.is (c.in_ok-len.ensures.found files agree size) in
    record { payloads = read.0; read = read.1; closed = closed }
