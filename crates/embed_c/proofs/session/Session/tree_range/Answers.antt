use Rattle.std.proofs.Common.{arith, ◌&&◌, nat_le, ℕ, List, Ok, Err, ap, refl}
use Rattle.key_entries.specs.Short.{is_short}
use Rattle.logical_btree.specs.Walk.{Range}
use Rattle.embed_c.specs.Ranges.{Does, IsRanged, Stages, tree_range}
use Rattle.embed_c.specs.Within.{OnStaging}
use Rattle.embed_c.specs.declared.answer.Answer.{Answer}
use Rattle.embed_c.specs.declared.pairs.Pairs.{Pairs}
use Rattle.embed_c.proofs.Named.{all_named, at_names, fails_by, no_key, no_range, passes_by}
use Rattle.embed_c.proofs.session.Session.tree_range.Goals as goal

pub returns-in_default : goal.returns-in_default
returns-in_default c = no_range (IsRanged c.args.range.low c.args.range.high c.args.from.now c.args.to.now c.args.count.now) c.args.self.now c.refuse.new.self c.refuse.result (nat_le c.args.range.low c.args.range.high) (is_short c.args.from.now && is_short c.args.to.now)
    (fails_by (record { lo = c.args.range.low; hi = c.args.range.high }) (nat_le c.args.range.low c.args.range.high) c.tree.result c.in_default.is c.tree.ensures) c.refuse.ensures

pub returns-in_default-both : goal.returns-in_default-both
returns-in_default-both c =
    let named = passes_by (record { lo = c.args.range.low; hi = c.args.range.high }) (nat_le c.args.range.low c.args.range.high) c.tree.result c.in-Some.tree c.in-Some.is c.tree.ensures in
    no_key (IsRanged c.args.range.low c.args.range.high c.args.from.now c.args.to.now c.args.count.now) c.args.self.now c.refuse-in_default-both.new.self c.refuse-in_default-both.result (nat_le c.args.range.low c.args.range.high) (is_short c.args.from.now && is_short c.args.to.now)
    named.0 (fails_by (c.args.from.now, c.args.to.now) (is_short c.args.from.now && is_short c.args.to.now) c.both.result c.in_default-both.is c.both.ensures) c.refuse-in_default-both.ensures

pub returns-in-Ok : goal.returns-in-Ok
returns-in-Ok c =
    let named = passes_by (record { lo = c.args.range.low; hi = c.args.range.high }) (nat_le c.args.range.low c.args.range.high) c.tree.result c.in-Some.tree c.in-Some.is c.tree.ensures in
    let keys = passes_by (c.args.from.now, c.args.to.now) (is_short c.args.from.now && is_short c.args.to.now) c.both.result c.in-Some-both.ends c.in-Some-both.is c.both.ensures in
    let done = c.in-Ok.ensures in
    all_named (IsRanged c.args.range.low c.args.range.high c.args.from.now c.args.to.now c.len.result) c.args.self.now _ _ (nat_le c.args.range.low c.args.range.high) (is_short c.args.from.now && is_short c.args.to.now) named.0 keys.0 (record {
      made = Ok c.in-Ok.pairs.items;
      store = at_names (λ (r : Range) k v. OnStaging (Does (tree_range r.lo r.hi k v)) (Stages (tree_range r.lo r.hi k v)) c.args.self.now.store c.range_in_tree.new.self.store c.args.self.now.staging c.range_in_tree.new.self.staging (Ok c.in-Ok.pairs.items)) c.in-Some.tree (record { lo = c.args.range.low; hi = c.args.range.high }) c.in-Some-both.ends.0 c.args.from.now c.in-Some-both.ends.1 c.args.to.now
          named.1 (ap (λ (p : List ℕ × List ℕ). p.0) keys.1) (ap (λ (p : List ℕ × List ℕ). p.1) keys.1) done.store;
      count = omega (arith, c.len.ensures);
      pairs = refl;
      others = ap (λ (p : Pairs). p.of_map) done.pairs;
      snapshot = done.snapshot;
      number = refl;
      detail = ap (λ (a : Answer). a.detail) c.done.ensures;
      untaken = done.untaken;
      taken = done.taken;
    })

pub returns-in-Err : goal.returns-in-Err
returns-in-Err c =
    let named = passes_by (record { lo = c.args.range.low; hi = c.args.range.high }) (nat_le c.args.range.low c.args.range.high) c.tree.result c.in-Some.tree c.in-Some.is c.tree.ensures in
    let keys = passes_by (c.args.from.now, c.args.to.now) (is_short c.args.from.now && is_short c.args.to.now) c.both.result c.in-Some-both.ends c.in-Some-both.is c.both.ensures in
    let failed = c.in-Err.ensures in
    all_named (IsRanged c.args.range.low c.args.range.high c.args.from.now c.args.to.now c.args.count.now) c.args.self.now _ _ (nat_le c.args.range.low c.args.range.high) (is_short c.args.from.now && is_short c.args.to.now) named.0 keys.0 (record {
      made = Err c.in-Err.cause;
      store = at_names (λ (r : Range) k v. OnStaging (Does (tree_range r.lo r.hi k v)) (Stages (tree_range r.lo r.hi k v)) c.args.self.now.store c.range_in_tree.new.self.store c.args.self.now.staging c.range_in_tree.new.self.staging (Err c.in-Err.cause)) c.in-Some.tree (record { lo = c.args.range.low; hi = c.args.range.high }) c.in-Some-both.ends.0 c.args.from.now c.in-Some-both.ends.1 c.args.to.now
          named.1 (ap (λ (p : List ℕ × List ℕ). p.0) keys.1) (ap (λ (p : List ℕ × List ℕ). p.1) keys.1) failed.store;
      count = tt;
      pairs = ap (λ (p : Pairs). p.of_tree.items) failed.pairs;
      others = ap (λ (p : Pairs). p.of_map) failed.pairs;
      snapshot = failed.snapshot;
      number = ap (λ (a : Answer). a.number) c.of_tree-answer.ensures;
      detail = ap (λ (a : Answer). a.detail) c.of_tree-answer.ensures;
      untaken = failed.untaken;
      taken = failed.taken;
    })
