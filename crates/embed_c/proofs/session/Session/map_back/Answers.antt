use Rattle.std.proofs.Common.{nat_le, true, ℕ, List, Option, option_map, refl}
use Rattle.page_map.specs.Map.{Range}
use Rattle.embed_c.specs.PageMaps as maps
use Rattle.embed_c.specs.PageMaps.{IsFound, keys_from, map_back, pairs_of, seen_as}
use Rattle.embed_c.specs.Ranges.{Does, Stages}
use Rattle.embed_c.specs.Within.{IsMade}
use Rattle.embed_c.proofs.Named.{all_named, fails_by, no_range, passes_by}
use Rattle.embed_c.proofs.OnMaps.{at_both, found_so}
use Rattle.embed_c.proofs.session.Session.map_back.Goals as goal

pub returns-in_default : goal.returns-in_default
returns-in_default c = no_range (IsFound (map_back c.args.range.low c.args.range.high (keys_from c.args.from.now c.args.to.now) c.args.most) c.args.count.now) c.args.self.now c.refuse.new.self c.refuse.result (nat_le c.args.range.low c.args.range.high) true
    (fails_by (record { lo = c.args.range.low; hi = c.args.range.high }) (nat_le c.args.range.low c.args.range.high) c.map.result c.in_default.is c.map.ensures) c.refuse.ensures

pub returns : goal.returns
returns c =
    let named = passes_by (record { lo = c.args.range.low; hi = c.args.range.high }) (nat_le c.args.range.low c.args.range.high) c.map.result c.in-Some.map c.in-Some.is c.map.ensures in
    all_named (IsFound (map_back c.args.range.low c.args.range.high (keys_from c.args.from.now c.args.to.now) c.args.most) c.keep_pairs.new.count) c.args.self.now _ _ (nat_le c.args.range.low c.args.range.high) true named.0 refl
    (found_so (map_back c.args.range.low c.args.range.high (keys_from c.args.from.now c.args.to.now) c.args.most) c.args.self.now c.back_in_map-made.new.self c.keep_pairs.new.self (seen_as pairs_of c.back_in_map-made.result) c.keep_pairs.new.count c.keep_pairs.result
    (at_both (λ (r : Range) (to : Option (List ℕ)). IsMade (Does (map_back r.lo r.hi (record { from = c.args.from.now; to = to }) c.args.most)) (Stages (map_back r.lo r.hi (record { from = c.args.from.now; to = to }) c.args.most)) c.args.self.now c.back_in_map-made.new.self (seen_as pairs_of c.back_in_map-made.result)) c.in-Some.map (record { lo = c.args.range.low; hi = c.args.range.high }) (option_map (λ end. end.now) c.end_of.result) (maps.end_of c.args.to.now) named.1 c.end_of.ensures c.back_in_map-made.ensures)
    c.keep_pairs.ensures)
