use Rattle.std.proofs.Common.{nat_le, ap}
use Rattle.key_entries.specs.Short.{is_short}
use Rattle.logical_btree.specs.Walk.{Range}
use Rattle.embed_c.specs.Answers.{told}
use Rattle.embed_c.specs.Ranges.{Does, GivesNothing, OnRange, Stages, of_tree, tree_delete}
use Rattle.embed_c.specs.Within.{OnStaging}
use Rattle.embed_c.specs.declared.answer.Answer.{Answer}
use Rattle.embed_c.proofs.Named.{all_named, at_name, fails_by, no_key, no_range, passes_by}
use Rattle.embed_c.proofs.session.Session.tree_delete.Goals as goal

pub returns-in_default : goal.returns-in_default
returns-in_default c = no_range (OnRange (tree_delete c.args.range.low c.args.range.high c.args.key.now) (told of_tree) GivesNothing) c.args.self.now c.refuse.new.self c.refuse.result (nat_le c.args.range.low c.args.range.high) (is_short c.args.key.now)
    (fails_by (record { lo = c.args.range.low; hi = c.args.range.high }) (nat_le c.args.range.low c.args.range.high) c.tree.result c.in_default.is c.tree.ensures) c.refuse.ensures

pub returns-in_default-new : goal.returns-in_default-new
returns-in_default-new c =
    let named = passes_by (record { lo = c.args.range.low; hi = c.args.range.high }) (nat_le c.args.range.low c.args.range.high) c.tree.result c.in-Some.tree c.in-Some.is c.tree.ensures in
    no_key (OnRange (tree_delete c.args.range.low c.args.range.high c.args.key.now) (told of_tree) GivesNothing) c.args.self.now c.refuse-in_default-new.new.self c.refuse-in_default-new.result (nat_le c.args.range.low c.args.range.high) (is_short c.args.key.now)
    named.0 (fails_by c.args.key.now (is_short c.args.key.now) c.new.result c.in_default-new.is c.new.ensures) c.refuse-in_default-new.ensures

pub returns : goal.returns
returns c =
    let named = passes_by (record { lo = c.args.range.low; hi = c.args.range.high }) (nat_le c.args.range.low c.args.range.high) c.tree.result c.in-Some.tree c.in-Some.is c.tree.ensures in
    let keys = passes_by c.args.key.now (is_short c.args.key.now) c.new.result c.in-Some-new.key c.in-Some-new.is c.new.ensures in
    all_named (OnRange (tree_delete c.args.range.low c.args.range.high c.args.key.now) (told of_tree) GivesNothing) c.args.self.now _ _ (nat_le c.args.range.low c.args.range.high) (is_short c.args.key.now) named.0 keys.0 (record {
      made = c.delete_in_tree.result;
      is = record {
        store = at_name (λ (r : Range) k. OnStaging (Does (tree_delete r.lo r.hi k)) (Stages (tree_delete r.lo r.hi k)) c.args.self.now.store c.delete_in_tree.new.self.store c.args.self.now.staging c.delete_in_tree.new.self.staging c.delete_in_tree.result) c.in-Some.tree (record { lo = c.args.range.low; hi = c.args.range.high }) c.in-Some-new.key c.args.key.now
            named.1 keys.1 c.delete_in_tree.ensures.store;
        untaken = c.delete_in_tree.ensures.untaken;
        taken = c.delete_in_tree.ensures.taken;
        pairs = c.delete_in_tree.ensures.pairs;
        snapshot = c.delete_in_tree.ensures.snapshot;
      };
      given = tt;
      number = ap (λ (a : Answer). a.number) c.tree_answer-answer.ensures;
      detail = ap (λ (a : Answer). a.detail) c.tree_answer-answer.ensures;
    })
