use Rattle.std.proofs.Common.{nat_lt, ap}
use Rattle.key_entries.specs.Short.{is_short}
use Rattle.hash_file.specs.Find.{Range}
use Rattle.embed_c.specs.Ranges.{Does, OnRange, Stages, TellsFound, hash_get, of_hash, told_found}
use Rattle.embed_c.specs.Within.{OnStaging}
use Rattle.embed_c.specs.declared.answer.Answer.{Answer}
use Rattle.embed_c.proofs.Named.{all_named, at_name, fails_by, no_key, no_range, passes_by}
use Rattle.embed_c.proofs.session.Session.hash_get.Goals as goal

pub returns-in_default : goal.returns-in_default
returns-in_default c = no_range (OnRange (hash_get c.args.range.low c.args.range.high c.args.key.now) (told_found of_hash) (λ made. TellsFound made c.args.into.now c.args.into.now c.args.length.now)) c.args.self.now c.refuse.new.self c.refuse.result (nat_lt c.args.range.low c.args.range.high) (is_short c.args.key.now)
    (fails_by (record { lo = c.args.range.low; hi = c.args.range.high }) (nat_lt c.args.range.low c.args.range.high) c.file.result c.in_default.is c.file.ensures) c.refuse.ensures

pub returns-in_default-new : goal.returns-in_default-new
returns-in_default-new c =
    let named = passes_by (record { lo = c.args.range.low; hi = c.args.range.high }) (nat_lt c.args.range.low c.args.range.high) c.file.result c.in-Some.file c.in-Some.is c.file.ensures in
    no_key (OnRange (hash_get c.args.range.low c.args.range.high c.args.key.now) (told_found of_hash) (λ made. TellsFound made c.args.into.now c.args.into.now c.args.length.now)) c.args.self.now c.refuse-in_default-new.new.self c.refuse-in_default-new.result (nat_lt c.args.range.low c.args.range.high) (is_short c.args.key.now)
    named.0 (fails_by c.args.key.now (is_short c.args.key.now) c.new.result c.in_default-new.is c.new.ensures) c.refuse-in_default-new.ensures

pub returns : goal.returns
returns c =
    let named = passes_by (record { lo = c.args.range.low; hi = c.args.range.high }) (nat_lt c.args.range.low c.args.range.high) c.file.result c.in-Some.file c.in-Some.is c.file.ensures in
    let keys = passes_by c.args.key.now (is_short c.args.key.now) c.new.result c.in-Some-new.key c.in-Some-new.is c.new.ensures in
    all_named (OnRange (hash_get c.args.range.low c.args.range.high c.args.key.now) (told_found of_hash) (λ made. TellsFound made c.args.into.now c.put_found.new.into c.put_found.new.length)) c.args.self.now _ _ (nat_lt c.args.range.low c.args.range.high) (is_short c.args.key.now) named.0 keys.0 (record {
      made = c.get_in_hash-made.result;
      is = record {
        store = at_name (λ (r : Range) k. OnStaging (Does (hash_get r.lo r.hi k)) (Stages (hash_get r.lo r.hi k)) c.args.self.now.store c.get_in_hash-made.new.self.store c.args.self.now.staging c.get_in_hash-made.new.self.staging c.get_in_hash-made.result) c.in-Some.file (record { lo = c.args.range.low; hi = c.args.range.high }) c.in-Some-new.key c.args.key.now
            named.1 keys.1 c.get_in_hash-made.ensures.store;
        untaken = c.get_in_hash-made.ensures.untaken;
        taken = c.get_in_hash-made.ensures.taken;
        pairs = c.get_in_hash-made.ensures.pairs;
        snapshot = c.get_in_hash-made.ensures.snapshot;
      };
      given = c.put_found.ensures;
      number = ap (λ (a : Answer). a.number) c.hash_found-answer.ensures;
      detail = ap (λ (a : Answer). a.detail) c.hash_found-answer.ensures;
    })
