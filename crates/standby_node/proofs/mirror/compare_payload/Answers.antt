use Rattle.std.proofs.Common.{◌∙◌, arith, take}
use Rattle.std.specs.Prelude.{Err}
use Rattle.redo_pass.specs.Endings.{as_error}
use Rattle.standby_node.specs.Same.{IsPayloadCompared}
use Rattle.standby_node.proofs.Compared.{left_bytes, next_more, next_unlike, next_within, no_part, part_broken, whole_part}
use Rattle.standby_node.proofs.mirror.compare_payload.Goals as goal

pub loop-at-init : goal.loop-at-init
loop-at-init g c = record { part = no_part c.args.base (g.O.Oper.meaning c.args.b) c.args.codes.now.items c.args.payload.now; within = omega arith }

pub loop-at-preserved : goal.loop-at-preserved
loop-at-preserved g c =
    let base = c.args.base in
    let m = g.O.Oper.meaning c.args.b in
    let payload = c.args.payload.now in
    let at = c.loop-at.at in
    let part = c.loop-at.invariant.part in
    let left = left_bytes base m payload at in
    record {
      part = next_more base m c.args.codes.now.items c.loop-at.codes.items payload at part _ left c.in_ok-lsn.field-0 c.in-Some.lsn c.in-Some.n c.in-Some.is c.in_ok-lsn.ensures.some c.compare_code.new.codes.items c.in_ok-compare_code-in-Some.ensures;
      within = (next_within base m c.args.codes.now.items c.loop-at.codes.items payload at part _ left c.in_ok-lsn.field-0 c.in-Some.lsn c.in-Some.n c.in-Some.is c.in_ok-lsn.ensures.some).1;
    }

pub loop-at-smaller : goal.loop-at-smaller
loop-at-smaller g c =
    let base = c.args.base in
    let m = g.O.Oper.meaning c.args.b in
    let payload = c.args.payload.now in
    let at = c.loop-at.at in
    let within = next_within base m c.args.codes.now.items c.loop-at.codes.items payload at c.loop-at.invariant.part _ (left_bytes base m payload at) c.in_ok-lsn.field-0 c.in-Some.lsn c.in-Some.n c.in-Some.is c.in_ok-lsn.ensures.some in
    omega (arith, within.0, within.1)

pub returns-in_err-compare_code-in-Some : goal.returns-in_err-compare_code-in-Some
returns-in_err-compare_code-in-Some g c =
    let base = c.args.base in
    let m = g.O.Oper.meaning c.args.b in
    let payload = c.args.payload.now in
    let at = c.loop-at.at in
    let last = c.compare_code.new.codes.items in
    let e = c.in_err-compare_code-in-Some.field-0.0 in
    as_error (λ r. IsPayloadCompared base m c.args.codes.now.items last payload r) c.from_residual-in_err-compare_code-in-Some.result e c.from_residual-in_err-compare_code-in-Some.ensures.1
    (next_unlike base m c.args.codes.now.items c.loop-at.codes.items payload at c.loop-at.invariant.part _ (left_bytes base m payload at) c.in_ok-lsn.field-0 c.in-Some.lsn c.in-Some.n c.in-Some.is c.in_ok-lsn.ensures.some last last e c.in_err-compare_code-in-Some.ensures)

pub returns-in-None : goal.returns-in-None
returns-in-None g c =
    let m = g.O.Oper.meaning c.args.b in
    part_broken c.args.base m (λ bytes first second one two. c.one_record.ensures c.args.b bytes first second c.requires.small one two) c.args.codes.now.items c.loop-at.codes.items c.truncate.new.self.items c.args.payload.now c.loop-at.at c.loop-at.invariant.part c.loop-at-test.true _
    (left_bytes c.args.base m c.args.payload.now c.loop-at.at) c.in_ok-lsn.field-0 c.in-None.is c.in_ok-lsn.ensures.none (c.truncate.ensures.items ∙ (λ i. take ((c.len-before.ensures ∙ c.args.codes.now.ok.0) i) c.loop-at.codes.items))

pub returns : goal.returns
returns g c = whole_part c.args.base (g.O.Oper.meaning c.args.b) c.args.codes.now.items c.loop-at.codes.items c.args.payload.now c.loop-at.at c.loop-at.invariant.part (omega (arith, c.loop-at-test.false))
