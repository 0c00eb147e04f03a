use Rattle.std.proofs.Common.{nat_le, true, ℕ, List, ap, inl, refl}
use Rattle.page_map.specs.Map.{Range}
use Rattle.embed_c.specs.PageMaps.{Sets, map_set}
use Rattle.embed_c.specs.Ranges.{Does, Stages}
use Rattle.embed_c.specs.Within.{OnStaging}
use Rattle.embed_c.specs.declared.answer.Answer.{Answer}
use Rattle.embed_c.proofs.Named.{all_named, at_names, fails_by, no_range, passes_by}
use Rattle.embed_c.proofs.OnMaps.{not_copied}
use Rattle.embed_c.proofs.session.Session.map_set.Goals as goal

pub returns-in_default : goal.returns-in_default
returns-in_default c = no_range (Sets c.args.range.low c.args.range.high c.args.key.now c.args.value.now) c.args.self.now c.refuse.new.self c.refuse.result (nat_le c.args.range.low c.args.range.high) true
    (fails_by (record { lo = c.args.range.low; hi = c.args.range.high }) (nat_le c.args.range.low c.args.range.high) c.map.result c.in_default.is c.map.ensures) c.refuse.ensures

pub returns-in-Ok : goal.returns-in-Ok
returns-in-Ok c =
    let named = passes_by (record { lo = c.args.range.low; hi = c.args.range.high }) (nat_le c.args.range.low c.args.range.high) c.map.result c.in-Some.map c.in-Some.is c.map.ensures in
    let pair = c.in-Ok.ensures.texts in
    all_named (Sets c.args.range.low c.args.range.high c.args.key.now c.args.value.now) c.args.self.now _ _ (nat_le c.args.range.low c.args.range.high) true named.0 refl (inl (record {
      made = c.set_in_map.result;
      is = record {
        store = at_names (λ (r : Range) k v. OnStaging (Does (map_set r.lo r.hi k v)) (Stages (map_set r.lo r.hi k v)) c.args.self.now.store c.set_in_map.new.self.store c.args.self.now.staging c.set_in_map.new.self.staging c.set_in_map.result) c.in-Some.map (record { lo = c.args.range.low; hi = c.args.range.high }) c.in-Ok.pair.0 c.args.key.now c.in-Ok.pair.1 c.args.value.now
            named.1 (ap (λ (p : List ℕ × List ℕ). p.0) pair) (ap (λ (p : List ℕ × List ℕ). p.1) pair) c.set_in_map.ensures.store;
        untaken = c.set_in_map.ensures.untaken;
        taken = c.set_in_map.ensures.taken;
        pairs = c.set_in_map.ensures.pairs;
        snapshot = c.set_in_map.ensures.snapshot;
      };
      given = tt;
      number = ap (λ (a : Answer). a.number) c.map_answer-answer.ensures;
      detail = ap (λ (a : Answer). a.detail) c.map_answer-answer.ensures;
    }))

pub returns-in-Err : goal.returns-in-Err
returns-in-Err c =
    let named = passes_by (record { lo = c.args.range.low; hi = c.args.range.high }) (nat_le c.args.range.low c.args.range.high) c.map.result c.in-Some.map c.in-Some.is c.map.ensures in
    all_named (Sets c.args.range.low c.args.range.high c.args.key.now c.args.value.now) c.args.self.now _ _ (nat_le c.args.range.low c.args.range.high) true named.0 refl
    (not_copied c.args.range.low c.args.range.high c.args.key.now c.args.value.now c.args.self.now c.refuse-in-Err.new.self c.refuse-in-Err.result c.in-Err.number c.in-Err.ensures.cause c.refuse-in-Err.ensures)
