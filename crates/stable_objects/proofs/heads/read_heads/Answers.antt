use Rattle.std.proofs.Common.{rules, [], ◌∷◌, length, ap, arith, length-append}
use Rattle.std.proofs.lemmas.Result.{err_from_is_err_and}
use Rattle.disk_model.specs.Moments.{agreed_before, stays_twice}
use Rattle.disk_model.specs.declared.machine.FileNo.TheVariants.{Objects}
use Rattle.stable_objects.specs.Heads.{IsPairFault, HasPairFault}
use Rattle.stable_objects.proofs.HeadBytes.{more_pairs}
use Rattle.stable_objects.proofs.Found.{moved}
use Rattle.stable_objects.proofs.heads.read_heads.Goals as goal

pub returns-in_err-push-clause-kept : goal.returns-in_err-push-clause-kept
returns-in_err-push-clause-kept g c = stays_twice _ _ _ c.loop-object.invariant.kept c.read_pair.ensures.kept

pub returns-in_err-push-2-clause-kept : goal.returns-in_err-push-2-clause-kept
returns-in_err-push-2-clause-kept g c = stays_twice _ _ _ c.loop-object.invariant.kept c.read_pair.ensures.kept

pub returns-in_err-push-3-clause-kept : goal.returns-in_err-push-3-clause-kept
returns-in_err-push-3-clause-kept g c = stays_twice _ _ _ c.loop-object.invariant.kept c.read_pair.ensures.kept

pub returns-in_err-pair-clause-cause : goal.returns-in_err-pair-clause-cause
returns-in_err-pair-clause-cause g c =
    let inv = c.loop-object.invariant in
    let a = c.args in
    let x = c.loop-object.object in
    let e = err_from_is_err_and c.from_residual-in_err-pair.result c.from_residual-in_err-pair.ensures.1 in
    rw (e.1, e.2) (moved (g.M.Machine.disk a.machine.now) (g.M.Machine.disk c.loop-object.machine) (g.M.Machine.disk c.read_pair.new.machine) (λ file at. IsPairFault a.layout x a.size file at) (λ file at. HasPairFault a.layout a.size file at) _
    inv.kept
    (λ files agree at fault. record { x = x; below = search; heads = c.loop-object.heads.items; before = λ y less. (inv.pairs files (agreed_before c.read_pair.ensures.kept files agree) y less).pair; fault = fault })
    c.in_err-pair.ensures.cause)

pub loop-object-preserved : goal.loop-object-preserved
loop-object-preserved g c =
    let inv = c.loop-object.invariant in
    let heads = c.loop-object.heads.items in
    let half = c.push.new.self.items in
    let whole = c.push-in-loop-object.new.self.items in
    let lengths = c.loop-object.lengths.items in
    let more = c.push-in-loop-object-2.new.self.items in
    let pair = c.in_ok-pair.pair in
    let one = pair.first in
    let other = pair.second in
    let first = c.in_ok-push.ensures.items in
    let second = c.in_ok-push-2.ensures.items in
    let third = c.in_ok-push-3.ensures.items in
    record {
      kept = stays_twice _ _ _ inv.kept c.read_pair.ensures.kept;
      shows = c.in_ok-pair.ensures.shows;
      count = omega (arith, inv.count, ap length first, ap length second, length-append heads (one ∷ []), length-append half (other ∷ []));
      counted = omega (arith, inv.counted, ap length third, length-append lengths (pair.long ∷ []));
      pairs = λ files agree.
          more_pairs c.args.layout c.args.size c.loop-object.object (files Objects) heads half whole lengths more one other pair.long inv.count inv.counted (inv.pairs files (agreed_before c.read_pair.ensures.kept files agree)) (c.in_ok-pair.ensures.read files agree) first second third;
    }

pub returns-clause-read : goal.returns-clause-read
returns-clause-read g c files agree x below = c.loop-object.invariant.pairs files agree x (search rules)
