use Rattle.std.proofs.Common.{◌≡◌, sym, subst, ℕ, ◌<◌, ◌^◌, All, List, arith}
use Rattle.std.specs.Prelude.{IfSome, IfNone}
use Rattle.std.proofs.lemmas.Bool.Decides.{nat_tests}
use Rattle.std.proofs.lemmas.List.Elements.{All-weaker}
use Rattle.disk_model.specs.declared.machine.FileNo.TheVariants.{Objects}
use Rattle.install_order.specs.declared.entry.Entry.{Entry}
use Rattle.write_graph.specs.Graph.{lsns}
use Rattle.explain_core.specs.Turns.{thin_turn}
use Rattle.running_store.specs.Calls.Beside.{beside_none}
use Rattle.running_store.specs.Calls.Laws.{call_short}
use Rattle.running_store.specs.Calls.{IsCall, Never, call_none, ending_of_store}
use Rattle.running_store.specs.Laid.{Laid}
use Rattle.running_store.specs.Parts.{Volatile, meaning_in, volatile}
use Rattle.running_store.specs.Parts.Stored.{stays_shown}
use Rattle.running_store.specs.declared.store_err.StoreErr.TheVariants.{DiskFault, Memory}
use Rattle.cache_manager.specs.Endings.{at_err}
use Rattle.cache_manager.specs.Thin.{IsLeastThin, NamesThin}
use Rattle.cache_manager.proofs.ThinTurns.{max_left, no_count, no_turn, none_in, one_in, removal_count, removal_moments, removal_shown, round_count, round_moments, round_shown, thin_is_due}
use Rattle.cache_manager.proofs.ThinNode.Worlds.{store_lawful}
use Rattle.cache_manager.proofs.thinning.tend_thin.Given.{Over}
use Rattle.cache_manager.proofs.thinning.tend_thin.Goals.{In-Some, In_default}
use Rattle.cache_manager.proofs.thinning.tend_thin.Goals as goal

-- what is said of the objects and the entries of a store, as its methods answer them
same_store : (laid : Laid) (es : List Entry) (it : Volatile) → laid ≡ it.objects → es ≡ it.entries → volatile laid es ≡ it
same_store laid es it objects entries = λ i. volatile (objects i) (entries i)

pub least_thin-requires : goal.least_thin-requires
least_thin-requires g c =
    let it = c.args.store.now in
    let used = (c.params-params.ensures.in_use c.requires.unbroken).store in
    record { low = subst (λ (es : List Entry). All (λ n. n < 2 ^ 62) (lsns es)) (sym c.graph.ensures) (All-weaker (λ n. n < it.parts.log.next) (λ n. n < 2 ^ 62) (λ n lt. omega (arith, lt, used.low)) (lsns it.parts.volatile.entries) used.above) }

-- there is no memory for it
pub returns-in_err-thin-clause-call : goal.returns-in_err-thin-clause-call
returns-in_err-thin-clause-call g c =
    let d = g.M.Machine.disk c.args.machine.now in
    let it = c.args.store.now in
    at_err (λ r. IsCall g.O.Oper.meaning d d it it 0 Never (ending_of_store r)) c.from_residual.result Memory c.from_residual.ensures.1
    (call_short g.O.Oper.meaning d d it it 0 Never (call_none g.O.Oper.meaning d it Never (g.met.M.Machine.lawful c.args.machine.now) c.requires.unbroken))

pub returns-in_err-thin-clause-beside : goal.returns-in_err-thin-clause-beside
returns-in_err-thin-clause-beside g c = beside_none (g.M.Machine.disk c.args.machine.now) c.args.store.now (g.met.M.Machine.lawful c.args.machine.now)

pub returns-in_err-thin-clause-steps : goal.returns-in_err-thin-clause-steps
returns-in_err-thin-clause-steps g c = λ told p w shows stable.
    let m = meaning_in g.O.Oper.meaning p in
    stays_shown m p (g.M.Machine.disk c.args.machine.now) c.args.store.now.parts.volatile w (thin_turn m c.args.most w) (g.met.M.Machine.lawful c.args.machine.now) told shows

-- no node is thin
pub returns-in_default-clause-call : goal.returns-in_default-clause-call
returns-in_default-clause-call g c = call_none g.O.Oper.meaning (g.M.Machine.disk c.args.machine.now) c.args.store.now Never (g.met.M.Machine.lawful c.args.machine.now) c.requires.unbroken

pub returns-in_default-clause-beside : goal.returns-in_default-clause-beside
returns-in_default-clause-beside g c = beside_none (g.M.Machine.disk c.args.machine.now) c.args.store.now (g.met.M.Machine.lawful c.args.machine.now)

pub returns-in_default-clause-steps : goal.returns-in_default-clause-steps
returns-in_default-clause-steps g c = λ told p w shows stable.
    let m = meaning_in g.O.Oper.meaning p in
    stays_shown m p (g.M.Machine.disk c.args.machine.now) c.args.store.now.parts.volatile w (thin_turn m c.args.most w) (g.met.M.Machine.lawful c.args.machine.now) told shows

none : (g : Over) (c : In_default g) → (n : ℕ) → NamesThin c.args.store.now.parts.volatile n → ⊥
none g c =
    let it = c.args.store.now.parts.volatile in
    subst (λ (k : Volatile). (n : ℕ) → NamesThin k n → ⊥) (same_store c.objects.result.now c.graph.result.now.entries it c.objects.ensures c.graph.ensures)
    (subst (λ (o : _). IfNone o ((n : ℕ) → NamesThin (volatile c.objects.result.now c.graph.result.now.entries) n → ⊥)) c.in_default.is c.in_ok-thin.ensures.none)

pub returns-in_default-clause-shows : goal.returns-in_default-clause-shows
returns-in_default-clause-shows g c = λ p w shows stable.
    let m = meaning_in g.O.Oper.meaning p in
    let d = g.M.Machine.disk c.args.machine.now in
    let it = c.args.store.now.parts.volatile in
    let lawful = store_lawful g.O.Oper.meaning g.met.O.Oper.lawful p (d.reads Objects) it w shows.store in
    no_turn m lawful p d it w shows stable (none g (goal.at.returns-in_default-clause-shows g c).In_default) c.args.most

pub returns-in_default-clause-count : goal.returns-in_default-clause-count
returns-in_default-clause-count g c = λ p w shows stable.
    let m = meaning_in g.O.Oper.meaning p in
    let d = g.M.Machine.disk c.args.machine.now in
    let it = c.args.store.now.parts.volatile in
    let lawful = store_lawful g.O.Oper.meaning g.met.O.Oper.lawful p (d.reads Objects) it w shows.store in
    no_count m lawful p d it w shows stable (none g (goal.at.returns-in_default-clause-count g c).In_default) c.args.most

-- the thin node that is found
thin : (g : Over) (c : In-Some g) → IsLeastThin c.args.store.now.parts.volatile c.in-Some.thin.name c.in-Some.thin.work.items
thin g c =
    let it = c.args.store.now.parts.volatile in
    subst (λ (k : Volatile). IsLeastThin k c.in-Some.thin.name c.in-Some.thin.work.items) (same_store c.objects.result.now c.graph.result.now.entries it c.objects.ensures c.graph.ensures)
    (subst (λ (o : _). IfSome o (λ thin. IsLeastThin (volatile c.objects.result.now c.graph.result.now.entries) thin.name thin.work.items)) c.in-Some.is c.in_ok-thin.ensures.some)

-- it has nothing to flush
pub finish-requires-clause-named : goal.finish-requires-clause-named
finish-requires-clause-named g c = let least = (thin g (goal.at.finish-requires-clause-named g c).In-Some).least.0 in (least.0, least.1.named, least.1.no_edge)

pub returns-in_err-finish-clause-call : goal.returns-in_err-finish-clause-call
returns-in_err-finish-clause-call g c =
    at_err (λ r. IsCall g.O.Oper.meaning (g.M.Machine.disk c.args.machine.now) (g.M.Machine.disk c.finish.new.machine) c.args.store.now c.finish.new.self 0 Never (ending_of_store r))
    c.from_residual-in_err-finish.result DiskFault c.from_residual-in_err-finish.ensures.1 c.in_err-finish.ensures.call

pub returns-in_err-finish-clause-steps : goal.returns-in_err-finish-clause-steps
returns-in_err-finish-clause-steps g c = λ told p w shows stable.
    let least = thin g (goal.at.returns-in_err-finish-clause-steps g c).In-Some in
    let d = g.M.Machine.disk c.args.machine.now in
    let it = c.args.store.now.parts.volatile in
    let lawful = store_lawful g.O.Oper.meaning g.met.O.Oper.lawful p (d.reads Objects) it w shows.store in
    removal_moments (meaning_in g.O.Oper.meaning p) lawful p d it w shows stable c.in-Some.thin.name c.in-Some.thin.work.items least c.args.most (none_in c.in-Some.thin.work.items (grind (arith, nat_tests, c.if-is_empty.ensures)))
    (g.M.Machine.disk c.finish.new.machine) (λ s. c.finish.ensures.steps told p w s shows)

pub returns-then-is_empty-clause-steps : goal.returns-then-is_empty-clause-steps
returns-then-is_empty-clause-steps g c = λ told p w shows stable.
    let least = thin g (goal.at.returns-then-is_empty-clause-steps g c).In-Some in
    let d = g.M.Machine.disk c.args.machine.now in
    let it = c.args.store.now.parts.volatile in
    let lawful = store_lawful g.O.Oper.meaning g.met.O.Oper.lawful p (d.reads Objects) it w shows.store in
    removal_moments (meaning_in g.O.Oper.meaning p) lawful p d it w shows stable c.in-Some.thin.name c.in-Some.thin.work.items least c.args.most (none_in c.in-Some.thin.work.items (grind (arith, nat_tests, c.if-is_empty.ensures)))
    (g.M.Machine.disk c.finish.new.machine) (λ s. c.finish.ensures.steps told p w s shows)

pub returns-then-is_empty-clause-shows : goal.returns-then-is_empty-clause-shows
returns-then-is_empty-clause-shows g c = λ p w shows stable.
    let least = thin g (goal.at.returns-then-is_empty-clause-shows g c).In-Some in
    let d = g.M.Machine.disk c.args.machine.now in
    let it = c.args.store.now.parts.volatile in
    let lawful = store_lawful g.O.Oper.meaning g.met.O.Oper.lawful p (d.reads Objects) it w shows.store in
    removal_shown (meaning_in g.O.Oper.meaning p) lawful p d it w shows stable c.in-Some.thin.name c.in-Some.thin.work.items least c.args.most (none_in c.in-Some.thin.work.items (grind (arith, nat_tests, c.if-is_empty.ensures)))
    (g.M.Machine.disk c.finish.new.machine) c.finish.new.self.parts.volatile (λ s named allowed. c.in_ok-finish.ensures.shows p w s shows named allowed)

pub returns-then-is_empty-clause-count : goal.returns-then-is_empty-clause-count
returns-then-is_empty-clause-count g c = λ p w shows stable.
    let least = thin g (goal.at.returns-then-is_empty-clause-count g c).In-Some in
    let d = g.M.Machine.disk c.args.machine.now in
    let it = c.args.store.now.parts.volatile in
    let lawful = store_lawful g.O.Oper.meaning g.met.O.Oper.lawful p (d.reads Objects) it w shows.store in
    removal_count (meaning_in g.O.Oper.meaning p) lawful p d it w shows stable c.in-Some.thin.name c.in-Some.thin.work.items least c.args.most (none_in c.in-Some.thin.work.items (grind (arith, nat_tests, c.if-is_empty.ensures)))

pub returns-then-is_empty-clause-few : goal.returns-then-is_empty-clause-few
returns-then-is_empty-clause-few g c =
    let least = (thin g (goal.at.returns-then-is_empty-clause-few g c).In-Some).least.0 in
    (max_left 1 c.args.most, omega (arith, (c.in_ok-finish.ensures.entries least.0 least.1.named).1))

-- it has one object to flush
pub returns-clause-shows : goal.returns-clause-shows
returns-clause-shows g c = λ p w shows stable.
    let least = thin g (goal.at.returns-clause-shows g c).In-Some in
    let d = g.M.Machine.disk c.args.machine.now in
    let it = c.args.store.now.parts.volatile in
    let items = c.in-Some.thin.work.items in
    let lawful = store_lawful g.O.Oper.meaning g.met.O.Oper.lawful p (d.reads Objects) it w shows.store in
    let one = one_in items (grind (arith, nat_tests, c.if-is_empty.ensures)) least.few in
    round_shown (meaning_in g.O.Oper.meaning p) lawful p d it w shows stable c.in-Some.thin.name items least c.args.most one.0 one.1 c.one_or_more.result c.one_or_more.ensures
    c.install_due.result (g.M.Machine.disk c.install_due.new.machine) c.install_due.new.store.parts.volatile (c.install_due.ensures.shows p w shows stable)

pub returns-clause-steps : goal.returns-clause-steps
returns-clause-steps g c = λ told p w shows stable.
    let least = thin g (goal.at.returns-clause-steps g c).In-Some in
    let d = g.M.Machine.disk c.args.machine.now in
    let it = c.args.store.now.parts.volatile in
    let items = c.in-Some.thin.work.items in
    let lawful = store_lawful g.O.Oper.meaning g.met.O.Oper.lawful p (d.reads Objects) it w shows.store in
    let one = one_in items (grind (arith, nat_tests, c.if-is_empty.ensures)) least.few in
    round_moments (meaning_in g.O.Oper.meaning p) lawful p d it w shows stable c.in-Some.thin.name items least c.args.most one.0 one.1 c.one_or_more.result c.one_or_more.ensures
    (g.M.Machine.disk c.install_due.new.machine) (c.install_due.ensures.steps told p w shows stable)

pub returns-clause-count : goal.returns-clause-count
returns-clause-count g c = λ p w shows stable.
    let least = thin g (goal.at.returns-clause-count g c).In-Some in
    let d = g.M.Machine.disk c.args.machine.now in
    let it = c.args.store.now.parts.volatile in
    let items = c.in-Some.thin.work.items in
    let lawful = store_lawful g.O.Oper.meaning g.met.O.Oper.lawful p (d.reads Objects) it w shows.store in
    let one = one_in items (grind (arith, nat_tests, c.if-is_empty.ensures)) least.few in
    let low : 0 < c.one_or_more.result = omega (arith, max_left 1 c.args.most, c.one_or_more.ensures) in
    round_count (meaning_in g.O.Oper.meaning p) lawful p d it w shows stable c.in-Some.thin.name items least c.args.most one.0 one.1 c.one_or_more.result c.one_or_more.ensures
    c.install_due.result (c.install_due.ensures.count p w shows) (c.install_due.ensures.some low c.in-Some.thin.name (thin_is_due it c.in-Some.thin.name one.0 items least one.1))
