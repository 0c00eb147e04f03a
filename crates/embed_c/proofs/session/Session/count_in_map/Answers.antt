use Rattle.std.proofs.Common.{ℕ, Result, option_map, refl, subst}
use Rattle.formats.specs.Objects.{bounds_of}
use Rattle.map_client.specs.Answers.{MapErr}
use Rattle.map_client.specs.Ranging.{count_told}
use Rattle.range_calls.specs.Store.{state_of}
use Rattle.embed_c.specs.PageMaps.{map_count}
use Rattle.embed_c.specs.Ranges.{Does, Stages}
use Rattle.embed_c.proofs.Untaken.{untaken}
use Rattle.embed_c.proofs.WithinCalls.{made_inside, made_outside, reads_so, reads_within, seen_itself}
use Rattle.embed_c.proofs.session.Session.count_in_map.Goals as goal

pub returns-in-None : goal.returns-in-None
returns-in-None c = let e = c.map_count.ensures in record {
  store = made_outside (Does (map_count c.args.map.now.lo c.args.map.now.hi (record { from = c.args.from.now; to = option_map (λ end. end.now) c.args.to }))) (Stages (map_count c.args.map.now.lo c.args.map.now.hi (record { from = c.args.from.now; to = option_map (λ end. end.now) c.args.to }))) c.args.self.now.store c.map_count.new.self c.map_count.result c.in-None.is
      (subst (λ (s : Result ℕ MapErr). Does (map_count c.args.map.now.lo c.args.map.now.hi (record { from = c.args.from.now; to = option_map (λ end. end.now) c.args.to })) c.args.self.now.store c.map_count.new.self s) (seen_itself c.map_count.result)
      (reads_so (λ n. n) (λ p commands. count_told (bounds_of p) c.args.map.now.lo c.args.map.now.hi (state_of p commands) (record { from = c.args.from.now; to = option_map (λ end. end.now) c.args.to })) c.args.self.now.store c.map_count.new.self c.map_count.result
      e.calls e.adds e.found e.refused e.broken));
  untaken = untaken e.time;
  taken = refl;
  pairs = refl;
  snapshot = refl;
}

pub returns-in-Some : goal.returns-in-Some
returns-in-Some c = record {
  store = made_inside (Does (map_count c.args.map.now.lo c.args.map.now.hi (record { from = c.args.from.now; to = option_map (λ end. end.now) c.args.to }))) (Stages (map_count c.args.map.now.lo c.args.map.now.hi (record { from = c.args.from.now; to = option_map (λ end. end.now) c.args.to }))) c.args.self.now.store c.map_count_within.new.self c.map_count_within.result {u = c.map_count_within.new.transaction} c.in-Some.is
      (subst (λ (s : Result ℕ MapErr). Stages (map_count c.args.map.now.lo c.args.map.now.hi (record { from = c.args.from.now; to = option_map (λ end. end.now) c.args.to })) c.args.self.now.store c.map_count_within.new.self c.in-Some.transaction c.map_count_within.new.transaction s) (seen_itself c.map_count_within.result)
      (reads_within (λ n. n) (λ p commands. count_told (bounds_of p) c.args.map.now.lo c.args.map.now.hi (state_of p commands) (record { from = c.args.from.now; to = option_map (λ end. end.now) c.args.to })) c.args.self.now.store c.map_count_within.new.self c.in-Some.transaction c.map_count_within.new.transaction c.map_count_within.result
      c.map_count_within.ensures));
  untaken = untaken c.map_count_within.ensures.time;
  taken = refl;
  pairs = refl;
  snapshot = refl;
}
