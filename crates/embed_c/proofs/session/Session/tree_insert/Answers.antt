use Rattle.std.proofs.Common.{nat_le, ◌&&◌, ℕ, List, ap}
use Rattle.key_entries.specs.Short.{is_short}
use Rattle.logical_btree.specs.Walk.{Range}
use Rattle.embed_c.specs.Answers.{told}
use Rattle.embed_c.specs.Ranges.{Does, GivesNothing, OnRange, Stages, of_tree, tree_insert}
use Rattle.embed_c.specs.Within.{OnStaging}
use Rattle.embed_c.specs.declared.answer.Answer.{Answer}
use Rattle.embed_c.proofs.Named.{all_named, at_names, fails_by, no_key, no_range, passes_by}
use Rattle.embed_c.proofs.session.Session.tree_insert.Goals as goal

pub returns-in_default : goal.returns-in_default
returns-in_default c = no_range (OnRange (tree_insert c.args.range.low c.args.range.high c.args.key.now c.args.value.now) (told of_tree) GivesNothing) c.args.self.now c.refuse.new.self c.refuse.result (nat_le c.args.range.low c.args.range.high) (is_short c.args.key.now && is_short c.args.value.now)
    (fails_by (record { lo = c.args.range.low; hi = c.args.range.high }) (nat_le c.args.range.low c.args.range.high) c.tree.result c.in_default.is c.tree.ensures) c.refuse.ensures

pub returns-in_default-both : goal.returns-in_default-both
returns-in_default-both c =
    let named = passes_by (record { lo = c.args.range.low; hi = c.args.range.high }) (nat_le c.args.range.low c.args.range.high) c.tree.result c.in-Some.tree c.in-Some.is c.tree.ensures in
    no_key (OnRange (tree_insert c.args.range.low c.args.range.high c.args.key.now c.args.value.now) (told of_tree) GivesNothing) c.args.self.now c.refuse-in_default-both.new.self c.refuse-in_default-both.result (nat_le c.args.range.low c.args.range.high) (is_short c.args.key.now && is_short c.args.value.now)
    named.0 (fails_by (c.args.key.now, c.args.value.now) (is_short c.args.key.now && is_short c.args.value.now) c.both.result c.in_default-both.is c.both.ensures) c.refuse-in_default-both.ensures

pub returns : goal.returns
returns c =
    let named = passes_by (record { lo = c.args.range.low; hi = c.args.range.high }) (nat_le c.args.range.low c.args.range.high) c.tree.result c.in-Some.tree c.in-Some.is c.tree.ensures in
    let keys = passes_by (c.args.key.now, c.args.value.now) (is_short c.args.key.now && is_short c.args.value.now) c.both.result c.in-Some-both.names c.in-Some-both.is c.both.ensures in
    all_named (OnRange (tree_insert c.args.range.low c.args.range.high c.args.key.now c.args.value.now) (told of_tree) GivesNothing) c.args.self.now _ _ (nat_le c.args.range.low c.args.range.high) (is_short c.args.key.now && is_short c.args.value.now) named.0 keys.0 (record {
      made = c.insert_in_tree.result;
      is = record {
        store = at_names (λ (r : Range) k v. OnStaging (Does (tree_insert r.lo r.hi k v)) (Stages (tree_insert r.lo r.hi k v)) c.args.self.now.store c.insert_in_tree.new.self.store c.args.self.now.staging c.insert_in_tree.new.self.staging c.insert_in_tree.result) c.in-Some.tree (record { lo = c.args.range.low; hi = c.args.range.high }) c.in-Some-both.names.0 c.args.key.now c.in-Some-both.names.1 c.args.value.now
            named.1 (ap (λ (p : List ℕ × List ℕ). p.0) keys.1) (ap (λ (p : List ℕ × List ℕ). p.1) keys.1) c.insert_in_tree.ensures.store;
        untaken = c.insert_in_tree.ensures.untaken;
        taken = c.insert_in_tree.ensures.taken;
        pairs = c.insert_in_tree.ensures.pairs;
        snapshot = c.insert_in_tree.ensures.snapshot;
      };
      given = tt;
      number = ap (λ (a : Answer). a.number) c.tree_answer-answer.ensures;
      detail = ap (λ (a : Answer). a.detail) c.tree_answer-answer.ensures;
    })
