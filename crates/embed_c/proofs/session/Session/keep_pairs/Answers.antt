use Rattle.std.proofs.Common.{arith, Err, Ok, ap, refl}
use Rattle.embed_c.specs.declared.answer.Answer.{Answer}
use Rattle.embed_c.proofs.OnMaps.{kept_as}
use Rattle.embed_c.proofs.session.Session.keep_pairs.Goals as goal

pub returns-in-Ok : goal.returns-in-Ok
returns-in-Ok c = kept_as c.args.made (Ok c.in-Ok.pairs) c.in-Ok.is (record {
  count = omega (arith, c.len.ensures);
  pairs = refl;
  others = refl;
  number = refl;
  detail = ap (λ (a : Answer). a.detail) c.done.ensures;
  store = refl;
  taken = refl;
  staging = refl;
  snapshot = refl;
})

pub returns-in-Err : goal.returns-in-Err
returns-in-Err c = kept_as c.args.made (Err c.in-Err.cause) c.in-Err.is (record {
  count = tt;
  pairs = refl;
  others = refl;
  number = ap (λ (a : Answer). a.number) c.of_map-answer.ensures;
  detail = ap (λ (a : Answer). a.detail) c.of_map-answer.ensures;
  store = refl;
  taken = refl;
  staging = refl;
  snapshot = refl;
})
