use Rattle.std.proofs.Common.{nat_le, true, ap, refl, subst}
use Rattle.page_map.specs.Map.{Range}
use Rattle.embed_c.specs.PageMaps.{bytes_of, map_get, of_map, seen_as}
use Rattle.embed_c.specs.Ranges.{Does, OnRange, Stages, TellsFound, told_found}
use Rattle.embed_c.specs.Within.{OnStaging}
use Rattle.embed_c.specs.declared.answer.Answer.{Answer}
use Rattle.embed_c.proofs.Named.{all_named, fails_by, no_range, passes_by}
use Rattle.embed_c.proofs.session.Session.map_get.Goals as goal

pub returns-in_default : goal.returns-in_default
returns-in_default c = no_range (OnRange (map_get c.args.range.low c.args.range.high c.args.key.now) (told_found of_map) (λ made. TellsFound made c.args.into.now c.args.into.now c.args.length.now)) c.args.self.now c.refuse.new.self c.refuse.result (nat_le c.args.range.low c.args.range.high) true
    (fails_by (record { lo = c.args.range.low; hi = c.args.range.high }) (nat_le c.args.range.low c.args.range.high) c.map.result c.in_default.is c.map.ensures) c.refuse.ensures

pub returns : goal.returns
returns c =
    let named = passes_by (record { lo = c.args.range.low; hi = c.args.range.high }) (nat_le c.args.range.low c.args.range.high) c.map.result c.in-Some.map c.in-Some.is c.map.ensures in
    all_named (OnRange (map_get c.args.range.low c.args.range.high c.args.key.now) (told_found of_map) (λ made. TellsFound made c.args.into.now c.put_value.new.into c.put_value.new.length)) c.args.self.now _ _ (nat_le c.args.range.low c.args.range.high) true named.0 refl (record {
      made = seen_as bytes_of c.get_in_map-made.result;
      is = record {
        store = subst (λ (r : Range). OnStaging (Does (map_get r.lo r.hi c.args.key.now)) (Stages (map_get r.lo r.hi c.args.key.now)) c.args.self.now.store c.get_in_map-made.new.self.store c.args.self.now.staging c.get_in_map-made.new.self.staging (seen_as bytes_of c.get_in_map-made.result)) named.1 c.get_in_map-made.ensures.store;
        untaken = c.get_in_map-made.ensures.untaken;
        taken = c.get_in_map-made.ensures.taken;
        pairs = c.get_in_map-made.ensures.pairs;
        snapshot = c.get_in_map-made.ensures.snapshot;
      };
      given = c.put_value.ensures;
      number = ap (λ (a : Answer). a.number) c.map_found-answer.ensures;
      detail = ap (λ (a : Answer). a.detail) c.map_found-answer.ensures;
    })
