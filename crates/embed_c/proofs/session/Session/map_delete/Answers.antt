use Rattle.std.proofs.Common.{nat_le, true, ap, refl, subst}
use Rattle.page_map.specs.Map.{Range}
use Rattle.embed_c.specs.Answers.{told}
use Rattle.embed_c.specs.PageMaps.{map_delete, of_map}
use Rattle.embed_c.specs.Ranges.{Does, GivesNothing, OnRange, Stages}
use Rattle.embed_c.specs.Within.{OnStaging}
use Rattle.embed_c.specs.declared.answer.Answer.{Answer}
use Rattle.embed_c.proofs.Named.{all_named, fails_by, no_range, passes_by}
use Rattle.embed_c.proofs.session.Session.map_delete.Goals as goal

pub returns-in_default : goal.returns-in_default
returns-in_default c = no_range (OnRange (map_delete c.args.range.low c.args.range.high c.args.key.now) (told of_map) GivesNothing) c.args.self.now c.refuse.new.self c.refuse.result (nat_le c.args.range.low c.args.range.high) true
    (fails_by (record { lo = c.args.range.low; hi = c.args.range.high }) (nat_le c.args.range.low c.args.range.high) c.map.result c.in_default.is c.map.ensures) c.refuse.ensures

pub returns : goal.returns
returns c =
    let named = passes_by (record { lo = c.args.range.low; hi = c.args.range.high }) (nat_le c.args.range.low c.args.range.high) c.map.result c.in-Some.map c.in-Some.is c.map.ensures in
    all_named (OnRange (map_delete c.args.range.low c.args.range.high c.args.key.now) (told of_map) GivesNothing) c.args.self.now _ _ (nat_le c.args.range.low c.args.range.high) true named.0 refl (record {
      made = c.delete_in_map.result;
      is = record {
        store = subst (λ (r : Range). OnStaging (Does (map_delete r.lo r.hi c.args.key.now)) (Stages (map_delete r.lo r.hi c.args.key.now)) c.args.self.now.store c.delete_in_map.new.self.store c.args.self.now.staging c.delete_in_map.new.self.staging c.delete_in_map.result) named.1 c.delete_in_map.ensures.store;
        untaken = c.delete_in_map.ensures.untaken;
        taken = c.delete_in_map.ensures.taken;
        pairs = c.delete_in_map.ensures.pairs;
        snapshot = c.delete_in_map.ensures.snapshot;
      };
      given = tt;
      number = ap (λ (a : Answer). a.number) c.map_answer-answer.ensures;
      detail = ap (λ (a : Answer). a.detail) c.map_answer-answer.ensures;
    })
