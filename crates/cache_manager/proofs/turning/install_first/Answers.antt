use Rattle.std.proofs.Common.{◌≡◌, ◌∙◌, sym, subst, ap, ℕ, ◌+◌, ◌<◌, ◌≤◌, List, [], refl, arith, length}
use Rattle.std.specs.Prelude.{IfOk, Result, Ok, Err, Some}
use Rattle.std.proofs.lemmas.Bool.{both_ways}
use Rattle.oper_core.specs.Meaning.{Meaning}
use Rattle.oper_core.specs.State.{is_among}
use Rattle.formats.specs.Limits.{log_limit}
use Rattle.formats.specs.declared.params.Params.{Params}
use Rattle.install_order.specs.declared.entry.Entry.{Entry}
use Rattle.write_graph.specs.Graph.{IsLeast, NamesMinimal, lsns}
use Rattle.explain_core.specs.World.{World}
use Rattle.running_store.specs.Calls.Laws.{IsLogging, call_short, logging_none}
use Rattle.running_store.specs.Calls.{Never, call_none}
use Rattle.running_store.specs.Courses.{Course}
use Rattle.running_store.specs.Kept.{StopsAt}
use Rattle.running_store.specs.Laid.{Laid}
use Rattle.running_store.specs.Parts.{Parts, Shows, Volatile, meaning_in, volatile}
use Rattle.running_store.specs.StoreView.{log_length}
use Rattle.running_store.specs.Taking.{Ending, Takes}
use Rattle.running_store.specs.Taking.Ending.{Short}
use Rattle.running_store.specs.Taking.Laws.{takes_nothing, takes_same}
use Rattle.cache_manager.specs.DueNodes.{NamesDue}
use Rattle.cache_manager.specs.Endings.{ending_of, same_ends, short_ends}
use Rattle.cache_manager.specs.InstallCourses.{first_course, install_course, removals, round_course}
use Rattle.cache_manager.specs.Told.{TellsParts, TellsTurn}
use Rattle.cache_manager.specs.declared.install.Install.{Install}
use Rattle.cache_manager.proofs.Removal.Members.{round_removes}
use Rattle.cache_manager.proofs.FullDrain.TurnTaken.{alone_removes, first_alone, first_due}
use Rattle.cache_manager.proofs.turning.install_first.Given.{Over}
use Rattle.cache_manager.proofs.turning.install_first.Goals.{In_ok-due}
use Rattle.cache_manager.proofs.turning.install_first.Goals as goal

-- what is said of the objects and the entries of a store, as its methods answer them
due_here : (laid : Laid) (es : List Entry) (it : Volatile) (copied n : ℕ) → laid ≡ it.objects → es ≡ it.entries → NamesDue (volatile laid es) copied n → NamesDue it copied n
due_here laid es it copied n objects entries is = subst (λ (k : Volatile). NamesDue k copied n) (λ i. volatile (objects i) (entries i)) is

not_due_here : (laid : Laid) (es : List Entry) (it : Volatile) (copied n : ℕ) → laid ≡ it.objects → es ≡ it.entries → (NamesDue (volatile laid es) copied n → ⊥) → NamesDue it copied n → ⊥
not_due_here laid es it copied n objects entries none = subst (λ (k : Volatile). NamesDue k copied n → ⊥) (λ i. volatile (objects i) (entries i)) none

-- there is an entry
some_entry : (before : Parts) (n : ℕ) → IsLeast (NamesMinimal before.volatile.entries) n → before.volatile.entries ≡ [] → ⊥
some_entry before n least none = both_ways _ (ap (λ (es : List Entry). is_among n (lsns es)) none) least.0.1.held

-- so the install is of a node
some_installed : (before after : Parts) (n : ℕ) (install : Install) → IsLeast (NamesMinimal before.volatile.entries) n → TellsParts before after install
    → (before.log.next ≤ after.log.next) × (length after.volatile.entries + 1 + before.log.next ≤ length before.volatile.entries + after.log.next)
some_installed before after n install least tells =
    let some = tells.some (λ clean. some_entry before n least (tells.clean.0 clean)) in
    (omega (arith, tells.with_lsn), omega (arith, some, tells.with_lsn, tells.entries))

-- what a round tells
round_tells : {E : Type 0} (r : Result ℕ E) (before after : Parts) → (before.volatile.entries ≡ [] → ⊥) → after.log.next ≡ before.log.next → IfOk r (λ n. 0 < n) → IfOk r (λ n. length after.volatile.entries + n ≤ length before.volatile.entries) → IfOk r (λ n. TellsTurn before after (Some n))
round_tells (Ok n) before after entry next some fewer = (some, omega (arith, next), omega (arith, next, fewer), entry)
round_tells (Err e) before after entry next some fewer = tt

pub is_due-requires : goal.is_due-requires
is_due-requires g c = subst (λ (es : List Entry). NamesMinimal es c.args.name) (sym c.graph.ensures) c.requires.least.0

-- there is no memory
pub returns-in_err-due-clause-call : goal.returns-in_err-due-clause-call
returns-in_err-due-clause-call g c =
    let d = g.M.Machine.disk c.args.machine.now in
    let it = c.args.store.now in
    subst (λ (k : Ending). IsLogging g.O.Oper.meaning d d it it (StopsAt log_limit) k) (short_ends c.from_residual.result c.from_residual.ensures.1)
    (logging_none g.O.Oper.meaning d d it it (StopsAt log_limit) Short refl (call_short g.O.Oper.meaning d d it it 0 Never (call_none g.O.Oper.meaning d it Never (g.met.M.Machine.lawful c.args.machine.now) c.requires.unbroken)))

pub returns-in_err-due-clause-takes : goal.returns-in_err-due-clause-takes
returns-in_err-due-clause-takes g c =
    let d = g.M.Machine.disk c.args.machine.now in
    let it = c.args.store.now.parts in
    let copied = c.args.copied in
    let most = c.args.most in
    subst (λ (k : Ending). Takes g.O.Oper.meaning d d it it (λ m w used. first_course m copied most w used) k) (short_ends c.from_residual.result c.from_residual.ensures.1)
    (takes_nothing g.O.Oper.meaning d it (g.met.M.Machine.lawful c.args.machine.now) (λ m w used. first_course m copied most w used))

-- a round
module _ (g : Over) (c : In_ok-due g) where
  abbrev before : Parts
  before = c.args.store.now.parts

  due : NamesDue (volatile c.objects.result.now c.graph.result.now.entries) c.args.copied c.args.name → NamesDue before.volatile c.args.copied c.args.name
  due is = due_here c.objects.result.now c.graph.result.now.entries before.volatile c.args.copied c.args.name c.objects.ensures c.graph.ensures is

  not_due : (NamesDue (volatile c.objects.result.now c.graph.result.now.entries) c.args.copied c.args.name → ⊥) → NamesDue before.volatile c.args.copied c.args.name → ⊥
  not_due none = not_due_here c.objects.result.now c.graph.result.now.entries before.volatile c.args.copied c.args.name c.objects.ensures c.graph.ensures none

  module _ (p : Params) (w : World g.row.O.Denot) (shows : Shows (meaning_in g.O.Oper.meaning p) p (g.M.Machine.disk c.args.machine.now) before w) where
    abbrev m : Meaning g.row.O.Denot
    m = meaning_in g.O.Oper.meaning p

    round_first : NamesDue before.volatile c.args.copied c.args.name → round_course m c.args.copied c.args.most w (log_length c.args.store.now) ≡ first_course m c.args.copied c.args.most w (log_length c.args.store.now)
    round_first is = sym (first_due g.O.Oper.meaning g.met.O.Oper.lawful c.last_blind_write_is_alone.ensures c.args.copied c.args.most (g.M.Machine.disk c.args.machine.now) before c.args.name c.requires.least p w shows is (log_length c.args.store.now))

    install_first_is : (NamesDue before.volatile c.args.copied c.args.name → ⊥) → install_course m c.args.copied w (log_length c.args.store.now) ≡ first_course m c.args.copied c.args.most w (log_length c.args.store.now)
    install_first_is none = sym (first_alone g.O.Oper.meaning g.met.O.Oper.lawful c.last_blind_write_is_alone.ensures c.args.copied c.args.most (g.M.Machine.disk c.args.machine.now) before c.args.name c.requires.least p w shows none (log_length c.args.store.now))

pub returns-then-due-clause-call : goal.returns-then-due-clause-call
returns-then-due-clause-call g c =
    logging_none g.O.Oper.meaning (g.M.Machine.disk c.args.machine.now) (g.M.Machine.disk c.install_round.new.machine) c.args.store.now c.install_round.new.store (StopsAt log_limit) (ending_of c.install_round.result) c.install_round.ensures.next c.install_round.ensures.call

pub returns-then-due-clause-takes : goal.returns-then-due-clause-takes
returns-then-due-clause-takes g c =
    let at = (goal.at.returns-then-due-clause-takes g c).In_ok-due in
    takes_same g.O.Oper.meaning (g.M.Machine.disk c.args.machine.now) (g.M.Machine.disk c.install_round.new.machine) c.args.store.now.parts c.install_round.new.store.parts (λ m w used. round_course m c.args.copied c.args.most w used) (λ m w used. first_course m c.args.copied c.args.most w used) (ending_of c.install_round.result)
    (λ p w shows. round_first g at p w shows (due g at (c.in_ok-due.ensures.due c.if-due.true))) c.install_round.ensures.takes

pub returns-then-due-clause-count : goal.returns-then-due-clause-count
returns-then-due-clause-count g c = λ p w shows.
    let at = (goal.at.returns-then-due-clause-count g c).In_ok-due in
    let m = meaning_in g.O.Oper.meaning p in
    let same = sym (round_removes m c.args.copied c.args.most w) ∙ ap (λ (k : Course _). removals k.steps) (round_first g at p w shows (due g at (c.in_ok-due.ensures.due c.if-due.true))) in
    subst (λ (k : ℕ). IfOk c.install_round.result (λ n. n ≡ k)) same (c.install_round.ensures.count p w shows)

pub returns-then-due-clause-tells : goal.returns-then-due-clause-tells
returns-then-due-clause-tells g c =
    let at = (goal.at.returns-then-due-clause-tells g c).In_ok-due in
    let before = c.args.store.now.parts in
    round_tells c.install_round.result before c.install_round.new.store.parts (some_entry before c.args.name c.requires.least) c.install_round.ensures.next
    (c.install_round.ensures.some c.requires.some c.args.name (due g at (c.in_ok-due.ensures.due c.if-due.true))) c.install_round.ensures.fewer

-- an install that is cut short
pub returns-in_err-install_one-clause-call : goal.returns-in_err-install_one-clause-call
returns-in_err-install_one-clause-call g c =
    subst (λ (k : Ending). IsLogging g.O.Oper.meaning (g.M.Machine.disk c.args.machine.now) (g.M.Machine.disk c.install_one.new.machine) c.args.store.now c.install_one.new.store (StopsAt log_limit) k)
    (same_ends c.from_residual-in_err-install_one.result c.in_err-install_one.field-0.0 c.from_residual-in_err-install_one.ensures.1) c.in_err-install_one.ensures.call

pub returns-in_err-install_one-clause-takes : goal.returns-in_err-install_one-clause-takes
returns-in_err-install_one-clause-takes g c =
    let at = (goal.at.returns-in_err-install_one-clause-takes g c).In_ok-due in
    let meaning = g.O.Oper.meaning in
    let old = g.M.Machine.disk c.args.machine.now in
    let new = g.M.Machine.disk c.install_one.new.machine in
    let after = c.install_one.new.store.parts in
    subst (λ (k : Ending). Takes meaning old new c.args.store.now.parts after (λ m w used. first_course m c.args.copied c.args.most w used) k) (same_ends c.from_residual-in_err-install_one.result c.in_err-install_one.field-0.0 c.from_residual-in_err-install_one.ensures.1)
    (takes_same meaning old new c.args.store.now.parts after (λ m w used. install_course m c.args.copied w used) (λ m w used. first_course m c.args.copied c.args.most w used) _
    (λ p w shows. install_first_is g at p w shows (not_due g at (c.in_ok-due.ensures.not_due c.if-due.false))) c.in_err-install_one.ensures.takes)

-- an install
pub returns-clause-takes : goal.returns-clause-takes
returns-clause-takes g c =
    let at = (goal.at.returns-clause-takes g c).In_ok-due in
    takes_same g.O.Oper.meaning (g.M.Machine.disk c.args.machine.now) (g.M.Machine.disk c.install_one.new.machine) c.args.store.now.parts c.install_one.new.store.parts (λ m w used. install_course m c.args.copied w used) (λ m w used. first_course m c.args.copied c.args.most w used) _
    (λ p w shows. install_first_is g at p w shows (not_due g at (c.in_ok-due.ensures.not_due c.if-due.false))) c.in_ok-install_one.ensures.takes

pub returns-clause-count : goal.returns-clause-count
returns-clause-count g c = λ p w shows.
    let at = (goal.at.returns-clause-count g c).In_ok-due in
    let used = log_length c.args.store.now in
    sym (alone_removes g.O.Oper.meaning g.met.O.Oper.lawful c.last_blind_write_is_alone.ensures c.args.copied c.args.most (g.M.Machine.disk c.args.machine.now) c.args.store.now.parts c.args.name c.requires.least p w shows (not_due g at (c.in_ok-due.ensures.not_due c.if-due.false)) used
    (c.in_ok-install_one.ensures.takes.follows p w shows).0)

pub returns-clause-tells : goal.returns-clause-tells
returns-clause-tells g c =
    let before = c.args.store.now.parts in
    let told = some_installed before c.install_one.new.store.parts c.args.name _ c.requires.least c.in_ok-install_one.ensures.tells in
    (omega arith, told.0, told.1, some_entry before c.args.name c.requires.least)
