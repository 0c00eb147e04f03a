use Rattle.std.proofs.Common.{nat_le, true, refl, subst}
use Rattle.page_map.specs.Map.{Range}
use Rattle.embed_c.specs.PageMaps.{IsFound, map_next, pairs_of, seen_as}
use Rattle.embed_c.specs.Ranges.{Does, Stages}
use Rattle.embed_c.specs.Within.{IsMade}
use Rattle.embed_c.proofs.Named.{all_named, fails_by, no_range, passes_by}
use Rattle.embed_c.proofs.OnMaps.{found_so}
use Rattle.embed_c.proofs.session.Session.map_next.Goals as goal

pub returns-in_default : goal.returns-in_default
returns-in_default c = no_range (IsFound (map_next c.args.range.low c.args.range.high c.args.key.now) c.args.count.now) c.args.self.now c.refuse.new.self c.refuse.result (nat_le c.args.range.low c.args.range.high) true
    (fails_by (record { lo = c.args.range.low; hi = c.args.range.high }) (nat_le c.args.range.low c.args.range.high) c.map.result c.in_default.is c.map.ensures) c.refuse.ensures

pub returns : goal.returns
returns c =
    let named = passes_by (record { lo = c.args.range.low; hi = c.args.range.high }) (nat_le c.args.range.low c.args.range.high) c.map.result c.in-Some.map c.in-Some.is c.map.ensures in
    all_named (IsFound (map_next c.args.range.low c.args.range.high c.args.key.now) c.keep_pairs.new.count) c.args.self.now _ _ (nat_le c.args.range.low c.args.range.high) true named.0 refl
    (found_so (map_next c.args.range.low c.args.range.high c.args.key.now) c.args.self.now c.next_in_map-made.new.self c.keep_pairs.new.self (seen_as pairs_of c.next_in_map-made.result) c.keep_pairs.new.count c.keep_pairs.result
    (subst (λ (r : Range). IsMade (Does (map_next r.lo r.hi c.args.key.now)) (Stages (map_next r.lo r.hi c.args.key.now)) c.args.self.now c.next_in_map-made.new.self (seen_as pairs_of c.next_in_map-made.result)) named.1 c.next_in_map-made.ensures)
    c.keep_pairs.ensures)
