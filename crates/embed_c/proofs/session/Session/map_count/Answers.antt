use Rattle.std.proofs.Common.{nat_le, true, ℕ, List, Option, ap, option_map, refl}
use Rattle.page_map.specs.Map.{Range}
use Rattle.embed_c.specs.Answers.{told}
use Rattle.embed_c.specs.PageMaps as maps
use Rattle.embed_c.specs.PageMaps.{TellsMany, keys_from, map_count, of_map}
use Rattle.embed_c.specs.Ranges.{Does, OnRange, Stages}
use Rattle.embed_c.specs.Within.{OnStaging}
use Rattle.embed_c.specs.declared.answer.Answer.{Answer}
use Rattle.embed_c.proofs.Named.{all_named, fails_by, no_range, passes_by}
use Rattle.embed_c.proofs.OnMaps.{at_both}
use Rattle.embed_c.proofs.session.Session.map_count.Goals as goal

pub returns-in_default : goal.returns-in_default
returns-in_default c = no_range (OnRange (map_count c.args.range.low c.args.range.high (keys_from c.args.from.now c.args.to.now)) (told of_map) (λ made. TellsMany made c.args.count.now)) c.args.self.now c.refuse.new.self c.refuse.result (nat_le c.args.range.low c.args.range.high) true
    (fails_by (record { lo = c.args.range.low; hi = c.args.range.high }) (nat_le c.args.range.low c.args.range.high) c.map.result c.in_default.is c.map.ensures) c.refuse.ensures

pub returns : goal.returns
returns c =
    let named = passes_by (record { lo = c.args.range.low; hi = c.args.range.high }) (nat_le c.args.range.low c.args.range.high) c.map.result c.in-Some.map c.in-Some.is c.map.ensures in
    all_named (OnRange (map_count c.args.range.low c.args.range.high (keys_from c.args.from.now c.args.to.now)) (told of_map) (λ made. TellsMany made c.put_many.new.count)) c.args.self.now _ _ (nat_le c.args.range.low c.args.range.high) true named.0 refl (record {
      made = c.count_in_map-made.result;
      is = record {
        store = at_both (λ (r : Range) (to : Option (List ℕ)). OnStaging (Does (map_count r.lo r.hi (record { from = c.args.from.now; to = to }))) (Stages (map_count r.lo r.hi (record { from = c.args.from.now; to = to }))) c.args.self.now.store c.count_in_map-made.new.self.store c.args.self.now.staging c.count_in_map-made.new.self.staging c.count_in_map-made.result) c.in-Some.map (record { lo = c.args.range.low; hi = c.args.range.high }) (option_map (λ end. end.now) c.end_of.result) (maps.end_of c.args.to.now)
            named.1 c.end_of.ensures c.count_in_map-made.ensures.store;
        untaken = c.count_in_map-made.ensures.untaken;
        taken = c.count_in_map-made.ensures.taken;
        pairs = c.count_in_map-made.ensures.pairs;
        snapshot = c.count_in_map-made.ensures.snapshot;
      };
      given = c.put_many.ensures;
      number = ap (λ (a : Answer). a.number) c.map_answer-answer.ensures;
      detail = ap (λ (a : Answer). a.detail) c.map_answer-answer.ensures;
    })
