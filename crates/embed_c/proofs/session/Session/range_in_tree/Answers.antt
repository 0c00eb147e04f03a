use Rattle.std.proofs.Common.{refl}
use Rattle.formats.specs.Objects.{bounds_of}
use Rattle.logical_btree.specs.Plan.{range_answer}
use Rattle.range_calls.specs.Answers.{told}
use Rattle.range_calls.specs.Store.{state_of}
use Rattle.embed_c.specs.PageMaps.{pairs_of, seen_as}
use Rattle.embed_c.specs.Ranges.{Does, Stages, tree_range}
use Rattle.embed_c.proofs.Untaken.{untaken}
use Rattle.embed_c.proofs.WithinCalls.{made_inside, made_outside, reads_so, reads_within, said_as, told_so}
use Rattle.embed_c.proofs.session.Session.range_in_tree.Goals as goal

pub returns-in-None : goal.returns-in-None
returns-in-None c = let e = c.tree_range.ensures in record {
  store = made_outside (Does (tree_range c.args.tree.now.lo c.args.tree.now.hi c.args.from.now c.args.to.now)) (Stages (tree_range c.args.tree.now.lo c.args.tree.now.hi c.args.from.now c.args.to.now)) c.args.self.now.store c.tree_range.new.self (seen_as pairs_of c.tree_range.result) c.in-None.is
      (reads_so pairs_of (λ p commands. told (range_answer (bounds_of p) c.args.tree.now.lo c.args.tree.now.hi (state_of p commands) c.args.from.now c.args.to.now)) c.args.self.now.store c.tree_range.new.self c.tree_range.result e.calls e.adds
      (λ p commands holds. told_so pairs_of (range_answer (bounds_of p) c.args.tree.now.lo c.args.tree.now.hi (state_of p commands) c.args.from.now c.args.to.now) c.tree_range.result (e.pairs p commands holds)) e.refused e.broken);
  untaken = untaken e.time;
  taken = refl;
  pairs = refl;
  snapshot = refl;
}

pub returns-in-Some : goal.returns-in-Some
returns-in-Some c = record {
  store = made_inside (Does (tree_range c.args.tree.now.lo c.args.tree.now.hi c.args.from.now c.args.to.now)) (Stages (tree_range c.args.tree.now.lo c.args.tree.now.hi c.args.from.now c.args.to.now)) c.args.self.now.store c.tree_range_within.new.self (seen_as pairs_of c.tree_range_within.result) {u = c.tree_range_within.new.transaction} c.in-Some.is
      (reads_within pairs_of (λ p commands. told (range_answer (bounds_of p) c.args.tree.now.lo c.args.tree.now.hi (state_of p commands) c.args.from.now c.args.to.now)) c.args.self.now.store c.tree_range_within.new.self c.in-Some.transaction c.tree_range_within.new.transaction c.tree_range_within.result
      (said_as (λ p commands both. (told_so pairs_of (range_answer (bounds_of p) c.args.tree.now.lo c.args.tree.now.hi (state_of p commands) c.args.from.now c.args.to.now) c.tree_range_within.result both.0, both.1)) c.tree_range_within.ensures));
  untaken = untaken c.tree_range_within.ensures.time;
  taken = refl;
  pairs = refl;
  snapshot = refl;
}
