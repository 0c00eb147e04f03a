use Rattle.std.proofs.Common.{◌≡◌, add-one, arith, get_or, true}
use Rattle.std.proofs.lemmas.Grind.{common_steps}
use Rattle.resp_words.specs.Runs.{is_kind}
use Rattle.resp_words.proofs.Runs.{pass_more}
use Rattle.resp_words.proofs.run.split_run.Goals as goal

pub loop-place-preserved : goal.loop-place-preserved
loop-place-preserved c =
    let has : is_kind c.args.kind (get_or c.args.bytes.now c.loop-place.place 0) ≡ true = let e = c.has.ensures in let f = c.if-not-has.ensures in grind (arith, common_steps) in
    rw add-one (pass_more (is_kind c.args.kind) c.args.bytes.now c.loop-place.place (omega (arith, c.loop-place-test.true)) c.loop-place.invariant has)
