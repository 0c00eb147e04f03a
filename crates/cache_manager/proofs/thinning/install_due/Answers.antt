use Rattle.std.proofs.Common.{◌≡◌, sym, subst, ap, ℕ, ◌<◌, ◌^◌, true, List, length, refl, arith}
use Rattle.std.specs.Prelude.{All}
use Rattle.std.proofs.lemmas.List.Elements.{All-weaker}
use Rattle.install_order.specs.declared.entry.Entry.{Entry}
use Rattle.write_graph.specs.Graph.{lsns}
use Rattle.dirty_cache.specs.Contents.{is_dirty}
use Rattle.explain_core.specs.Turns.{free_round}
use Rattle.running_store.specs.Calls.Beside.{beside_none, beside_twice}
use Rattle.running_store.specs.Calls.Laws.{call_short, unbroken_after}
use Rattle.running_store.specs.Calls.{IsCall, Never, call_none, call_twice, ending_of_store}
use Rattle.running_store.specs.Laid.{Laid}
use Rattle.running_store.specs.Parts.{Volatile, meaning_in, volatile}
use Rattle.running_store.specs.Parts.Stored.{stays_shown}
use Rattle.running_store.specs.Taking.Ending.{Done, Failed}
use Rattle.running_store.specs.declared.store_err.StoreErr.TheVariants.{DiskFault, Memory}
use Rattle.cache_manager.specs.DueNodes.{IsRoundFrom}
use Rattle.cache_manager.specs.Endings.{at_err}
use Rattle.cache_manager.specs.RoundNodes.{NameMinimal}
use Rattle.cache_manager.proofs.OneRound.Taken.{round_dirty, round_few, round_has, round_minimal}
use Rattle.cache_manager.proofs.ThinRounds.{free_count, free_moments, free_shown, free_unflushed}
use Rattle.cache_manager.proofs.thinning.install_due.Given.{Over}
use Rattle.cache_manager.proofs.thinning.install_due.Goals.{In_ok-round}
use Rattle.cache_manager.proofs.thinning.install_due.Goals as goal

all_done : Done ≡ Done
all_done = refl

-- what is said of the objects and the entries of a store, as its methods answer them
round_here : (laid : Laid) (es : List Entry) (it : Volatile) (most : ℕ) (names objects : List ℕ) → laid ≡ it.objects → es ≡ it.entries → IsRoundFrom (volatile laid es) 0 most 0 names objects → IsRoundFrom it 0 most 0 names objects
round_here laid es it most names objects same entries is = subst (λ (k : Volatile). IsRoundFrom k 0 most 0 names objects) (λ i. volatile (same i) (entries i)) is

-- the round that is chosen
chosen : (g : Over) (c : In_ok-round g) → IsRoundFrom c.args.store.now.parts.volatile 0 c.args.most 0 c.in_ok-round.round.names.items c.in_ok-round.round.objects.items
chosen g c = round_here c.objects.result.now c.graph.result.now.entries c.args.store.now.parts.volatile c.args.most c.in_ok-round.round.names.items c.in_ok-round.round.objects.items c.objects.ensures c.graph.ensures c.in_ok-round.ensures

pub choose_round-requires : goal.choose_round-requires
choose_round-requires g c =
    let it = c.args.store.now in
    let used = (c.params-params.ensures.in_use c.requires.unbroken).store in
    record { low = subst (λ (es : List Entry). All (λ n. n < 2 ^ 62) (lsns es)) (sym c.graph.ensures) (All-weaker (λ n. n < it.parts.log.next) (λ n. n < 2 ^ 62) (λ n lt. omega (arith, lt, used.low)) (lsns it.parts.volatile.entries) used.above) }

pub flush_together-requires-clause-dirty : goal.flush_together-requires-clause-dirty
flush_together-requires-clause-dirty g c =
    let at = (goal.at.flush_together-requires-clause-dirty g c).In_ok-round in
    let it = c.args.store.now.parts.volatile in
    subst (λ (l : List ℕ). All (λ x. is_dirty it.objects.cache x ≡ true) l) (sym c.as_slice.ensures.value) (round_dirty it 0 c.args.most 0 c.in_ok-round.round.names.items c.in_ok-round.round.objects.items (chosen g at))

pub remove_nodes-requires-clause-unbroken : goal.remove_nodes-requires-clause-unbroken
remove_nodes-requires-clause-unbroken g c = unbroken_after g.O.Oper.meaning _ _ c.args.store.now c.flush_together.new.self 0 Never c.in_ok-flush_together.ensures.call

pub remove_nodes-requires-clause-minimal : goal.remove_nodes-requires-clause-minimal
remove_nodes-requires-clause-minimal g c =
    let at = (goal.at.remove_nodes-requires-clause-minimal g c).In_ok-round in
    let it = c.args.store.now.parts.volatile in
    subst (λ (es : List Entry). NameMinimal es c.as_slice-2.result.now) (sym c.flush_together.ensures.entries)
    (subst (λ (l : List ℕ). NameMinimal it.entries l) (sym c.as_slice-2.ensures.value) (round_minimal it 0 c.args.most 0 c.in_ok-round.round.names.items c.in_ok-round.round.objects.items (chosen g at)))

-- there is no memory for it
pub returns-in_err-round-clause-call : goal.returns-in_err-round-clause-call
returns-in_err-round-clause-call g c =
    let d = g.M.Machine.disk c.args.machine.now in
    let it = c.args.store.now in
    at_err (λ r. IsCall g.O.Oper.meaning d d it it 0 Never (ending_of_store r)) c.from_residual.result Memory c.from_residual.ensures.1
    (call_short g.O.Oper.meaning d d it it 0 Never (call_none g.O.Oper.meaning d it Never (g.met.M.Machine.lawful c.args.machine.now) c.requires.unbroken))

pub returns-in_err-round-clause-beside : goal.returns-in_err-round-clause-beside
returns-in_err-round-clause-beside g c = beside_none (g.M.Machine.disk c.args.machine.now) c.args.store.now (g.met.M.Machine.lawful c.args.machine.now)

pub returns-in_err-round-clause-steps : goal.returns-in_err-round-clause-steps
returns-in_err-round-clause-steps g c = λ told p w shows stable.
    let m = meaning_in g.O.Oper.meaning p in
    stays_shown m p (g.M.Machine.disk c.args.machine.now) c.args.store.now.parts.volatile w (free_round m c.args.most w) (g.met.M.Machine.lawful c.args.machine.now) told shows

-- the disk fails
pub returns-in_err-flush_together-clause-call : goal.returns-in_err-flush_together-clause-call
returns-in_err-flush_together-clause-call g c =
    at_err (λ r. IsCall g.O.Oper.meaning (g.M.Machine.disk c.args.machine.now) (g.M.Machine.disk c.flush_together.new.machine) c.args.store.now c.flush_together.new.self 0 Never (ending_of_store r)) c.from_residual-in_err-flush_together.result DiskFault
    c.from_residual-in_err-flush_together.ensures.1 c.in_err-flush_together.ensures.call

pub returns-in_err-flush_together-clause-steps : goal.returns-in_err-flush_together-clause-steps
returns-in_err-flush_together-clause-steps g c = λ told p w shows stable.
    let at = (goal.at.returns-in_err-flush_together-clause-steps g c).In_ok-round in
    let before = c.args.store.now in
    let names = c.in_ok-round.round.names.items in
    let objects = c.as_slice.result.now in
    let is = subst (λ (l : List ℕ). IsRoundFrom before.parts.volatile 0 c.args.most 0 names l) (sym c.as_slice.ensures.value) (chosen g at) in
    free_unflushed g.O.Oper.meaning g.met.O.Oper.lawful c.a_round_may_be_taken.ensures c.last_blind_write_is_alone.ensures c.args.most (g.M.Machine.disk c.args.machine.now) before names objects is p w shows
    (g.M.Machine.disk c.flush_together.new.machine) (λ gates same. c.flush_together.ensures.steps told p w gates shows same)

pub returns-in_err-remove_nodes-clause-call : goal.returns-in_err-remove_nodes-clause-call
returns-in_err-remove_nodes-clause-call g c =
    let old = g.M.Machine.disk c.args.machine.now in
    let new = g.M.Machine.disk c.remove_nodes.new.machine in
    at_err (λ r. IsCall g.O.Oper.meaning old new c.args.store.now c.remove_nodes.new.store 0 Never (ending_of_store r)) c.from_residual-in_err-remove_nodes.result DiskFault c.from_residual-in_err-remove_nodes.ensures.1
    (call_twice g.O.Oper.meaning old (g.M.Machine.disk c.flush_together.new.machine) new c.args.store.now c.flush_together.new.self c.remove_nodes.new.store 0 0 Never Never Failed c.in_ok-flush_together.ensures.call c.in_err-remove_nodes.ensures.call)

pub returns-in_err-remove_nodes-clause-beside : goal.returns-in_err-remove_nodes-clause-beside
returns-in_err-remove_nodes-clause-beside g c =
    beside_twice (g.M.Machine.disk c.args.machine.now) (g.M.Machine.disk c.flush_together.new.machine) (g.M.Machine.disk c.remove_nodes.new.machine) c.args.store.now c.flush_together.new.self c.remove_nodes.new.store
    (λ set. c.in_ok-flush_together.ensures.call.broken.0 set) c.flush_together.ensures.beside c.in_err-remove_nodes.ensures.beside

pub returns-in_err-remove_nodes-clause-steps : goal.returns-in_err-remove_nodes-clause-steps
returns-in_err-remove_nodes-clause-steps g c = λ told p w shows stable.
    let at = (goal.at.returns-in_err-remove_nodes-clause-steps g c).In_ok-round in
    let before = c.args.store.now in
    let names = c.as_slice-2.result.now in
    let objects = c.as_slice.result.now in
    let is = subst (λ (l : List ℕ). IsRoundFrom before.parts.volatile 0 c.args.most 0 l objects) (sym c.as_slice-2.ensures.value)
    (subst (λ (l : List ℕ). IsRoundFrom before.parts.volatile 0 c.args.most 0 c.in_ok-round.round.names.items l) (sym c.as_slice.ensures.value) (chosen g at)) in
    free_moments g.O.Oper.meaning g.met.O.Oper.lawful c.a_round_may_be_taken.ensures c.last_blind_write_is_alone.ensures c.args.most (g.M.Machine.disk c.args.machine.now) before names objects is p w shows stable
    (g.M.Machine.disk c.flush_together.new.machine) (g.M.Machine.disk c.remove_nodes.new.machine) c.flush_together.new.self c.remove_nodes.new.store c.flush_together.ensures.entries
    (λ gates same may. c.in_ok-flush_together.ensures.shows p w gates shows same may) Failed c.in_err-remove_nodes.ensures told c.in_ok-flush_together.ensures.call.quiet
    (λ gates same. c.flush_together.ensures.steps told p w gates shows same)

-- it is done
pub returns-clause-call : goal.returns-clause-call
returns-clause-call g c =
    call_twice g.O.Oper.meaning (g.M.Machine.disk c.args.machine.now) (g.M.Machine.disk c.flush_together.new.machine) (g.M.Machine.disk c.remove_nodes.new.machine) c.args.store.now c.flush_together.new.self c.remove_nodes.new.store 0 0 Never Never Done
    c.in_ok-flush_together.ensures.call c.in_ok-remove_nodes.ensures.call

pub returns-clause-beside : goal.returns-clause-beside
returns-clause-beside g c =
    beside_twice (g.M.Machine.disk c.args.machine.now) (g.M.Machine.disk c.flush_together.new.machine) (g.M.Machine.disk c.remove_nodes.new.machine) c.args.store.now c.flush_together.new.self c.remove_nodes.new.store
    (λ set. c.in_ok-flush_together.ensures.call.broken.0 set) c.flush_together.ensures.beside c.in_ok-remove_nodes.ensures.beside

pub returns-clause-shows : goal.returns-clause-shows
returns-clause-shows g c = λ p w shows stable.
    let at = (goal.at.returns-clause-shows g c).In_ok-round in
    let before = c.args.store.now in
    let names = c.as_slice-2.result.now in
    let objects = c.as_slice.result.now in
    let is = subst (λ (l : List ℕ). IsRoundFrom before.parts.volatile 0 c.args.most 0 l objects) (sym c.as_slice-2.ensures.value)
    (subst (λ (l : List ℕ). IsRoundFrom before.parts.volatile 0 c.args.most 0 c.in_ok-round.round.names.items l) (sym c.as_slice.ensures.value) (chosen g at)) in
    free_shown g.O.Oper.meaning g.met.O.Oper.lawful c.a_round_may_be_taken.ensures c.last_blind_write_is_alone.ensures c.args.most (g.M.Machine.disk c.args.machine.now) before names objects is p w shows stable
    (g.M.Machine.disk c.flush_together.new.machine) (g.M.Machine.disk c.remove_nodes.new.machine) c.flush_together.new.self c.remove_nodes.new.store c.flush_together.ensures.entries
    (λ gates same may. c.in_ok-flush_together.ensures.shows p w gates shows same may) Done c.in_ok-remove_nodes.ensures all_done

pub returns-clause-steps : goal.returns-clause-steps
returns-clause-steps g c = λ told p w shows stable.
    let at = (goal.at.returns-clause-steps g c).In_ok-round in
    let before = c.args.store.now in
    let names = c.as_slice-2.result.now in
    let objects = c.as_slice.result.now in
    let is = subst (λ (l : List ℕ). IsRoundFrom before.parts.volatile 0 c.args.most 0 l objects) (sym c.as_slice-2.ensures.value)
    (subst (λ (l : List ℕ). IsRoundFrom before.parts.volatile 0 c.args.most 0 c.in_ok-round.round.names.items l) (sym c.as_slice.ensures.value) (chosen g at)) in
    free_moments g.O.Oper.meaning g.met.O.Oper.lawful c.a_round_may_be_taken.ensures c.last_blind_write_is_alone.ensures c.args.most (g.M.Machine.disk c.args.machine.now) before names objects is p w shows stable
    (g.M.Machine.disk c.flush_together.new.machine) (g.M.Machine.disk c.remove_nodes.new.machine) c.flush_together.new.self c.remove_nodes.new.store c.flush_together.ensures.entries
    (λ gates same may. c.in_ok-flush_together.ensures.shows p w gates shows same may) Done c.in_ok-remove_nodes.ensures told c.in_ok-flush_together.ensures.call.quiet
    (λ gates same. c.flush_together.ensures.steps told p w gates shows same)

pub returns-clause-count : goal.returns-clause-count
returns-clause-count g c = λ p w shows.
    let at = (goal.at.returns-clause-count g c).In_ok-round in
    let many = free_count g.O.Oper.meaning g.met.O.Oper.lawful c.a_round_may_be_taken.ensures c.last_blind_write_is_alone.ensures c.args.most (g.M.Machine.disk c.args.machine.now) c.args.store.now c.in_ok-round.round.names.items c.in_ok-round.round.objects.items (chosen g at) p w shows in
    omega (arith, many, c.in_ok-round.round.names.ok.0)

pub returns-clause-few : goal.returns-clause-few
returns-clause-few g c =
    let at = (goal.at.returns-clause-few g c).In_ok-round in
    let few = round_few c.args.store.now.parts.volatile 0 c.args.most 0 c.in_ok-round.round.names.items c.in_ok-round.round.objects.items (chosen g at) in
    let same = ap (λ (es : List Entry). length es) c.flush_together.ensures.entries in
    let long = ap (λ (l : List ℕ). length l) c.as_slice-2.ensures.value in
    (omega (arith, few, c.in_ok-round.round.names.ok.0), omega (arith, c.in_ok-remove_nodes.ensures.fewer all_done, same, long, c.in_ok-round.round.names.ok.0))

pub returns-clause-some : goal.returns-clause-some
returns-clause-some g c = λ most k due.
    let at = (goal.at.returns-clause-some g c).In_ok-round in
    let some = round_has c.args.store.now.parts.volatile 0 c.args.most c.in_ok-round.round.names.items c.in_ok-round.round.objects.items (chosen g at) most k due.0 due.1 in
    omega (arith, some, c.in_ok-round.round.names.ok.0)
