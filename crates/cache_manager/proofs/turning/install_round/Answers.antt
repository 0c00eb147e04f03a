use Rattle.std.proofs.Common.{◌≡◌, ◌∙◌, sym, subst, ap, ℕ, ◌<◌, ◌^◌, true, List, length, refl, arith}
use Rattle.std.specs.Prelude.{All}
use Rattle.std.proofs.lemmas.List.Elements.{All-weaker}
use Rattle.oper_core.specs.Meaning.{IsSmall}
use Rattle.oper_core.specs.declared.bounds.Bounds.{Bounds}
use Rattle.install_order.specs.declared.entry.Entry.{Entry}
use Rattle.write_graph.specs.Graph.{lsns}
use Rattle.dirty_cache.specs.Contents.{is_dirty}
use Rattle.log_records.specs.RecordLog.{RecordLogView}
use Rattle.running_store.specs.Calls.Laws.{call_short, unbroken_after}
use Rattle.running_store.specs.Calls.{IsCall, Never, call_none, call_twice}
use Rattle.running_store.specs.Laid.{Laid}
use Rattle.running_store.specs.Parts.{Volatile, volatile}
use Rattle.running_store.specs.Running.{KeepsSound}
use Rattle.running_store.specs.Taking.{Takes}
use Rattle.running_store.specs.Taking.Ending.{Done, Failed}
use Rattle.running_store.specs.Taking.Laws.{takes_nothing}
use Rattle.cache_manager.specs.DueNodes.{IsRoundFrom}
use Rattle.cache_manager.specs.Endings.{at_err, ending_of}
use Rattle.cache_manager.specs.InstallCourses.{round_course}
use Rattle.cache_manager.specs.RoundNodes.{NameMinimal}
use Rattle.cache_manager.specs.declared.install_err.InstallErr.TheVariants.{DiskFault, Memory}
use Rattle.cache_manager.proofs.ToLog.DirtyLogs.{logs_flushed, logs_twice}
use Rattle.cache_manager.proofs.OneRound.Goes.{MayRound}
use Rattle.cache_manager.proofs.OneRound.Taken.{are_gates, gates_in, how_many, round_dirty, round_few, round_has, round_minimal, takes_round, takes_unflushed, takes_unremoved}
use Rattle.cache_manager.proofs.turning.install_round.Given.{Over}
use Rattle.cache_manager.proofs.turning.install_round.Goals.{In_ok-round}
use Rattle.cache_manager.proofs.turning.install_round.Goals as goal

-- what is said of the objects and the entries of a store, as its methods answer them
round_here : (laid : Laid) (es : List Entry) (it : Volatile) (copied most : ℕ) (names objects : List ℕ) → laid ≡ it.objects → es ≡ it.entries → IsRoundFrom (volatile laid es) copied most 0 names objects → IsRoundFrom it copied most 0 names objects
round_here laid es it copied most names objects same entries is = subst (λ (k : Volatile). IsRoundFrom k copied most 0 names objects) (λ i. volatile (same i) (entries i)) is

all_done : Done ≡ Done
all_done = refl

-- the round that is chosen
chosen : (g : Over) (c : In_ok-round g) → IsRoundFrom c.args.store.now.parts.volatile c.args.copied c.args.most 0 c.in_ok-round.round.names.items c.in_ok-round.round.objects.items
chosen g c = round_here c.objects.result.now c.graph.result.now.entries c.args.store.now.parts.volatile c.args.copied c.args.most c.in_ok-round.round.names.items c.in_ok-round.round.objects.items c.objects.ensures c.graph.ensures c.in_ok-round.ensures

keep : (g : Over) (c : In_ok-round g) (b : Bounds) → IsSmall b → KeepsSound (g.O.Oper.meaning b)
keep g c b small v taken sound may = c.every_run_keeps.ensures.from_sound b v taken small sound may

rounds : (g : Over) (c : In_ok-round g) (b : Bounds) → IsSmall b → MayRound (g.O.Oper.meaning b)
rounds g c b small may most v is stable = c.a_round_may_be_taken.ensures b may most v small is.sound stable

pub choose_round-requires : goal.choose_round-requires
choose_round-requires g c =
    let it = c.args.store.now in
    let used = (c.params-params.ensures.in_use c.requires.unbroken).store in
    record { low = subst (λ (es : List Entry). All (λ n. n < 2 ^ 62) (lsns es)) (sym c.graph.ensures) (All-weaker (λ n. n < it.parts.log.next) (λ n. n < 2 ^ 62) (λ n lt. omega (arith, lt, used.low)) (lsns it.parts.volatile.entries) used.above) }

pub flush_round-requires-clause-dirty : goal.flush_round-requires-clause-dirty
flush_round-requires-clause-dirty g c =
    let at = (goal.at.flush_round-requires-clause-dirty g c).In_ok-round in
    let it = c.args.store.now.parts.volatile in
    subst (λ (l : List ℕ). All (λ x. is_dirty it.objects.cache x ≡ true) l) (sym c.as_slice.ensures.value) (round_dirty it c.args.copied c.args.most 0 c.in_ok-round.round.names.items c.in_ok-round.round.objects.items (chosen g at))

pub remove_nodes-requires-clause-unbroken : goal.remove_nodes-requires-clause-unbroken
remove_nodes-requires-clause-unbroken g c = unbroken_after g.O.Oper.meaning _ _ c.args.store.now c.flush_round.new.self 0 Never c.in_ok-flush_round.ensures.call

pub remove_nodes-requires-clause-minimal : goal.remove_nodes-requires-clause-minimal
remove_nodes-requires-clause-minimal g c =
    let at = (goal.at.remove_nodes-requires-clause-minimal g c).In_ok-round in
    let it = c.args.store.now.parts.volatile in
    subst (λ (es : List Entry). NameMinimal es c.as_slice-2.result.now) (sym c.in_ok-flush_round.ensures.entries)
    (subst (λ (l : List ℕ). NameMinimal it.entries l) (sym c.as_slice-2.ensures.value) (round_minimal it c.args.copied c.args.most 0 c.in_ok-round.round.names.items c.in_ok-round.round.objects.items (chosen g at)))

-- there is no memory for it
pub returns-in_err-round-clause-call : goal.returns-in_err-round-clause-call
returns-in_err-round-clause-call g c =
    let d = g.M.Machine.disk c.args.machine.now in
    let it = c.args.store.now in
    at_err (λ r. IsCall g.O.Oper.meaning d d it it 0 Never (ending_of r)) c.from_residual.result Memory c.from_residual.ensures.1
    (call_short g.O.Oper.meaning d d it it 0 Never (call_none g.O.Oper.meaning d it Never (g.met.M.Machine.lawful c.args.machine.now) c.requires.unbroken))

pub returns-in_err-round-clause-takes : goal.returns-in_err-round-clause-takes
returns-in_err-round-clause-takes g c =
    let d = g.M.Machine.disk c.args.machine.now in
    let it = c.args.store.now.parts in
    let copied = c.args.copied in
    let most = c.args.most in
    at_err (λ r. Takes g.O.Oper.meaning d d it it (λ m w used. round_course m copied most w used) (ending_of r)) c.from_residual.result Memory c.from_residual.ensures.1
    (takes_nothing g.O.Oper.meaning d it (g.met.M.Machine.lawful c.args.machine.now) (λ m w used. round_course m copied most w used))

-- the disk fails
pub returns-in_err-flush_round-clause-call : goal.returns-in_err-flush_round-clause-call
returns-in_err-flush_round-clause-call g c =
    at_err (λ r. IsCall g.O.Oper.meaning (g.M.Machine.disk c.args.machine.now) (g.M.Machine.disk c.flush_round.new.machine) c.args.store.now c.flush_round.new.self 0 Never (ending_of r)) c.from_residual-in_err-flush_round.result DiskFault
    c.from_residual-in_err-flush_round.ensures.1 c.in_err-flush_round.ensures.call

pub returns-in_err-flush_round-clause-takes : goal.returns-in_err-flush_round-clause-takes
returns-in_err-flush_round-clause-takes g c =
    let at = (goal.at.returns-in_err-flush_round-clause-takes g c).In_ok-round in
    let meaning = g.O.Oper.meaning in
    let old = g.M.Machine.disk c.args.machine.now in
    let new = g.M.Machine.disk c.flush_round.new.machine in
    let before = c.args.store.now in
    let after = c.flush_round.new.self.parts in
    let copied = c.args.copied in
    let most = c.args.most in
    let names = c.in_ok-round.round.names.items in
    let objects = c.as_slice.result.now in
    let is = subst (λ (l : List ℕ). IsRoundFrom before.parts.volatile copied most 0 names l) (sym c.as_slice.ensures.value) (chosen g at) in
    let alone = c.last_blind_write_is_alone.ensures in
    at_err (λ r. Takes meaning old new before.parts after (λ m w used. round_course m copied most w used) (ending_of r)) c.from_residual-in_err-flush_round.result DiskFault c.from_residual-in_err-flush_round.ensures.1
    (takes_unflushed meaning g.met.O.Oper.lawful (keep g at) (rounds g at) alone copied most old before names objects is new after
    (c.in_err-flush_round.ensures.takes (λ m w. gates_in meaning g.met.O.Oper.lawful (keep g at) (rounds g at) alone copied most old before names objects is m w)
    (are_gates meaning g.met.O.Oper.lawful (keep g at) (rounds g at) alone copied most old before names objects is)))

pub returns-in_err-flush_round-clause-next : goal.returns-in_err-flush_round-clause-next
returns-in_err-flush_round-clause-next g c = c.flush_round.ensures.next

pub returns-in_err-remove_nodes-clause-call : goal.returns-in_err-remove_nodes-clause-call
returns-in_err-remove_nodes-clause-call g c =
    let old = g.M.Machine.disk c.args.machine.now in
    let new = g.M.Machine.disk c.remove_nodes.new.machine in
    at_err (λ r. IsCall g.O.Oper.meaning old new c.args.store.now c.remove_nodes.new.store 0 Never (ending_of r)) c.from_residual-in_err-remove_nodes.result DiskFault c.from_residual-in_err-remove_nodes.ensures.1
    (call_twice g.O.Oper.meaning old (g.M.Machine.disk c.flush_round.new.machine) new c.args.store.now c.flush_round.new.self c.remove_nodes.new.store 0 0 Never Never Failed c.in_ok-flush_round.ensures.call c.in_err-remove_nodes.ensures.call)

pub returns-in_err-remove_nodes-clause-takes : goal.returns-in_err-remove_nodes-clause-takes
returns-in_err-remove_nodes-clause-takes g c =
    let at = (goal.at.returns-in_err-remove_nodes-clause-takes g c).In_ok-round in
    let meaning = g.O.Oper.meaning in
    let old = g.M.Machine.disk c.args.machine.now in
    let mid = g.M.Machine.disk c.flush_round.new.machine in
    let new = g.M.Machine.disk c.remove_nodes.new.machine in
    let before = c.args.store.now in
    let here = c.flush_round.new.self in
    let after = c.remove_nodes.new.store in
    let copied = c.args.copied in
    let most = c.args.most in
    let names = c.as_slice-2.result.now in
    let objects = c.as_slice.result.now in
    let is = subst (λ (l : List ℕ). IsRoundFrom before.parts.volatile copied most 0 l objects) (sym c.as_slice-2.ensures.value)
    (subst (λ (l : List ℕ). IsRoundFrom before.parts.volatile copied most 0 c.in_ok-round.round.names.items l) (sym c.as_slice.ensures.value) (chosen g at)) in
    let alone = c.last_blind_write_is_alone.ensures in
    let lawful = g.met.O.Oper.lawful in
    at_err (λ r. Takes meaning old new before.parts after.parts (λ m w used. round_course m copied most w used) (ending_of r)) c.from_residual-in_err-remove_nodes.result DiskFault c.from_residual-in_err-remove_nodes.ensures.1
    (takes_unremoved meaning lawful (keep g at) (rounds g at) alone copied most old before names objects is mid new here after c.in_ok-flush_round.ensures.call.quiet
    (c.in_ok-flush_round.ensures.takes (λ m w. gates_in meaning lawful (keep g at) (rounds g at) alone copied most old before names objects is m w) (are_gates meaning lawful (keep g at) (rounds g at) alone copied most old before names objects is))
    c.in_ok-flush_round.ensures.entries c.in_err-remove_nodes.ensures)

pub returns-in_err-remove_nodes-clause-next : goal.returns-in_err-remove_nodes-clause-next
returns-in_err-remove_nodes-clause-next g c = ap (λ (l : RecordLogView). l.next) c.in_err-remove_nodes.ensures.beside.objects.log ∙ c.flush_round.ensures.next

-- it is done
pub returns-clause-call : goal.returns-clause-call
returns-clause-call g c =
    call_twice g.O.Oper.meaning (g.M.Machine.disk c.args.machine.now) (g.M.Machine.disk c.flush_round.new.machine) (g.M.Machine.disk c.remove_nodes.new.machine) c.args.store.now c.flush_round.new.self c.remove_nodes.new.store 0 0 Never Never Done
    c.in_ok-flush_round.ensures.call c.in_ok-remove_nodes.ensures.call

pub returns-clause-takes : goal.returns-clause-takes
returns-clause-takes g c =
    let at = (goal.at.returns-clause-takes g c).In_ok-round in
    let meaning = g.O.Oper.meaning in
    let old = g.M.Machine.disk c.args.machine.now in
    let mid = g.M.Machine.disk c.flush_round.new.machine in
    let new = g.M.Machine.disk c.remove_nodes.new.machine in
    let before = c.args.store.now in
    let here = c.flush_round.new.self in
    let after = c.remove_nodes.new.store in
    let copied = c.args.copied in
    let most = c.args.most in
    let names = c.as_slice-2.result.now in
    let objects = c.as_slice.result.now in
    let is = subst (λ (l : List ℕ). IsRoundFrom before.parts.volatile copied most 0 l objects) (sym c.as_slice-2.ensures.value)
    (subst (λ (l : List ℕ). IsRoundFrom before.parts.volatile copied most 0 c.in_ok-round.round.names.items l) (sym c.as_slice.ensures.value) (chosen g at)) in
    let alone = c.last_blind_write_is_alone.ensures in
    let lawful = g.met.O.Oper.lawful in
    takes_round meaning lawful (keep g at) (rounds g at) alone copied most old before names objects is mid new here after c.in_ok-flush_round.ensures.call.quiet
    (c.in_ok-flush_round.ensures.takes (λ m w. gates_in meaning lawful (keep g at) (rounds g at) alone copied most old before names objects is m w) (are_gates meaning lawful (keep g at) (rounds g at) alone copied most old before names objects is))
    c.in_ok-flush_round.ensures.entries c.in_ok-remove_nodes.ensures

pub returns-clause-count : goal.returns-clause-count
returns-clause-count g c = λ p w shows.
    let at = (goal.at.returns-clause-count g c).In_ok-round in
    let names = c.in_ok-round.round.names.items in
    let many = how_many g.O.Oper.meaning g.met.O.Oper.lawful (keep g at) (rounds g at) c.last_blind_write_is_alone.ensures c.args.copied c.args.most (g.M.Machine.disk c.args.machine.now) c.args.store.now names c.in_ok-round.round.objects.items (chosen g at) p w shows in
    omega (arith, many, c.in_ok-round.round.names.ok.0)

pub returns-clause-next : goal.returns-clause-next
returns-clause-next g c = ap (λ (l : RecordLogView). l.next) c.in_ok-remove_nodes.ensures.beside.objects.log ∙ c.flush_round.ensures.next

pub returns-clause-fewer : goal.returns-clause-fewer
returns-clause-fewer g c =
    let same = ap (λ (es : List Entry). length es) c.in_ok-flush_round.ensures.entries in
    let long = ap (λ (l : List ℕ). length l) c.as_slice-2.ensures.value in
    omega (arith, c.in_ok-remove_nodes.ensures.fewer all_done, same, long, c.in_ok-round.round.names.ok.0)

pub returns-clause-most : goal.returns-clause-most
returns-clause-most g c =
    let at = (goal.at.returns-clause-most g c).In_ok-round in
    let few = round_few c.args.store.now.parts.volatile c.args.copied c.args.most 0 c.in_ok-round.round.names.items c.in_ok-round.round.objects.items (chosen g at) in
    omega (arith, few, c.in_ok-round.round.names.ok.0)

pub returns-clause-some : goal.returns-clause-some
returns-clause-some g c = λ most k due.
    let at = (goal.at.returns-clause-some g c).In_ok-round in
    let it = c.args.store.now.parts.volatile in
    let some = round_has it c.args.copied c.args.most c.in_ok-round.round.names.items c.in_ok-round.round.objects.items (chosen g at) most k due.0 due.1 in
    omega (arith, some, c.in_ok-round.round.names.ok.0)

pub returns-clause-logs : goal.returns-clause-logs
returns-clause-logs g c =
    let before = c.args.store.now.parts in
    let here = c.flush_round.new.self.parts in
    logs_twice before here c.remove_nodes.new.store.parts (logs_flushed before here c.as_slice.result.now c.flush_round.ensures.next c.in_ok-flush_round.ensures.entries c.in_ok-flush_round.ensures.flushed) (c.in_ok-remove_nodes.ensures.logs all_done)
