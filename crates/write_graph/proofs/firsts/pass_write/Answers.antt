use Rattle.std.proofs.Common.{length, nat_eq, refl, arith}
use Rattle.indexmap.specs.IndexMap.{get}
use Rattle.write_graph.proofs.Led.{is-some}
use Rattle.write_graph.proofs.FirstWriters.{passed-some, passed-below, passing-on, passing-smaller}
use Rattle.write_graph.proofs.firsts.pass_write.Goals as goal

pub writers-init : goal.writers-init
writers-init c = (record { passed = c.requires.passed; others = λ y ne. refl }, omega arith)

pub first_within-requires : goal.first_within-requires
first_within-requires c i at =
    let links = c.args.links.now in
    omega (arith, passed-below c.args.entries.now.items links.graph links.rows c.args.node c.args.x i (get nat_eq c.writers.firsts) c.requires.linked c.writers.invariant.0.passed at, c.requires.linked.slots)

pub next_writer-next-requires-clause-writes : goal.next_writer-next-requires-clause-writes
next_writer-next-requires-clause-writes c = (passed-some c.args.entries.now.items c.args.links.now.graph c.args.node c.args.x c.in-Some.slot (get nat_eq c.writers.firsts) c.writers.invariant.0.passed c.in-Some.ensures.0).0

pub set_first-requires : goal.set_first-requires
set_first-requires c = is-some (get nat_eq c.writers.firsts c.args.x) c.in-Some.slot c.in-Some.ensures.0

pub writers-smaller : goal.writers-smaller
writers-smaller c =
    let entries = c.args.entries.now.items in
    let links = c.args.links.now in
    let below = passed-below entries links.graph links.rows c.args.node c.args.x c.in-Some.slot (get nat_eq c.writers.firsts) c.requires.linked c.writers.invariant.0.passed c.in-Some.ensures.0 in
    passing-smaller entries links.graph c.args.x c.in-Some.slot (length entries) c.next_writer-next.result (get nat_eq c.writers.firsts) (get nat_eq c.set_first.new.firsts) below c.in-Some.ensures.0 c.next_writer-next.ensures c.set_first.ensures.first

pub writers-preserved : goal.writers-preserved
writers-preserved c =
    let g = c.args.links.now.graph in
    (passing-on c.args.entries.now.items g c.args.node c.args.x c.in-Some.slot c.next_writer-next.result (get nat_eq c.args.firsts.now) (get nat_eq c.writers.firsts) (get nat_eq c.set_first.new.firsts) c.writers.invariant.0 c.in-Some.ensures.0 c.in-Some.ensures.1 c.next_writer-next.ensures c.set_first.ensures.first, omega (arith, c.writers.invariant.1, c.set_first.ensures.room))
