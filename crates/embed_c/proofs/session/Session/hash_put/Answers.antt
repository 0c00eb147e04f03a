use Rattle.std.proofs.Common.{nat_lt, ◌&&◌, ℕ, List, ap}
use Rattle.key_entries.specs.Short.{is_short}
use Rattle.hash_file.specs.Find.{Range}
use Rattle.embed_c.specs.Answers.{told}
use Rattle.embed_c.specs.Ranges.{Does, GivesNothing, OnRange, Stages, hash_put, of_hash}
use Rattle.embed_c.specs.Within.{OnStaging}
use Rattle.embed_c.specs.declared.answer.Answer.{Answer}
use Rattle.embed_c.proofs.Named.{all_named, at_names, fails_by, no_key, no_range, passes_by}
use Rattle.embed_c.proofs.session.Session.hash_put.Goals as goal

pub returns-in_default : goal.returns-in_default
returns-in_default c = no_range (OnRange (hash_put c.args.range.low c.args.range.high c.args.key.now c.args.value.now) (told of_hash) GivesNothing) c.args.self.now c.refuse.new.self c.refuse.result (nat_lt c.args.range.low c.args.range.high) (is_short c.args.key.now && is_short c.args.value.now)
    (fails_by (record { lo = c.args.range.low; hi = c.args.range.high }) (nat_lt c.args.range.low c.args.range.high) c.file.result c.in_default.is c.file.ensures) c.refuse.ensures

pub returns-in_default-both : goal.returns-in_default-both
returns-in_default-both c =
    let named = passes_by (record { lo = c.args.range.low; hi = c.args.range.high }) (nat_lt c.args.range.low c.args.range.high) c.file.result c.in-Some.file c.in-Some.is c.file.ensures in
    no_key (OnRange (hash_put c.args.range.low c.args.range.high c.args.key.now c.args.value.now) (told of_hash) GivesNothing) c.args.self.now c.refuse-in_default-both.new.self c.refuse-in_default-both.result (nat_lt c.args.range.low c.args.range.high) (is_short c.args.key.now && is_short c.args.value.now)
    named.0 (fails_by (c.args.key.now, c.args.value.now) (is_short c.args.key.now && is_short c.args.value.now) c.both.result c.in_default-both.is c.both.ensures) c.refuse-in_default-both.ensures

pub returns : goal.returns
returns c =
    let named = passes_by (record { lo = c.args.range.low; hi = c.args.range.high }) (nat_lt c.args.range.low c.args.range.high) c.file.result c.in-Some.file c.in-Some.is c.file.ensures in
    let keys = passes_by (c.args.key.now, c.args.value.now) (is_short c.args.key.now && is_short c.args.value.now) c.both.result c.in-Some-both.names c.in-Some-both.is c.both.ensures in
    all_named (OnRange (hash_put c.args.range.low c.args.range.high c.args.key.now c.args.value.now) (told of_hash) GivesNothing) c.args.self.now _ _ (nat_lt c.args.range.low c.args.range.high) (is_short c.args.key.now && is_short c.args.value.now) named.0 keys.0 (record {
      made = c.put_in_hash.result;
      is = record {
        store = at_names (λ (r : Range) k v. OnStaging (Does (hash_put r.lo r.hi k v)) (Stages (hash_put r.lo r.hi k v)) c.args.self.now.store c.put_in_hash.new.self.store c.args.self.now.staging c.put_in_hash.new.self.staging c.put_in_hash.result) c.in-Some.file (record { lo = c.args.range.low; hi = c.args.range.high }) c.in-Some-both.names.0 c.args.key.now c.in-Some-both.names.1 c.args.value.now
            named.1 (ap (λ (p : List ℕ × List ℕ). p.0) keys.1) (ap (λ (p : List ℕ × List ℕ). p.1) keys.1) c.put_in_hash.ensures.store;
        untaken = c.put_in_hash.ensures.untaken;
        taken = c.put_in_hash.ensures.taken;
        pairs = c.put_in_hash.ensures.pairs;
        snapshot = c.put_in_hash.ensures.snapshot;
      };
      given = tt;
      number = ap (λ (a : Answer). a.number) c.hash_answer-answer.ensures;
      detail = ap (λ (a : Answer). a.detail) c.hash_answer-answer.ensures;
    })
