use Rattle.std.proofs.Common.{◌≡◌, sym, subst, ap, refl}
use Rattle.std.specs.Result.{result_err}
use Rattle.oper_core.specs.Meaning.{FitsReads, IsInGrammar}
use Rattle.running_store.specs.Calls.Commands.{IsLeft}
use Rattle.running_store.specs.Laid.Lent.{inputs_in}
use Rattle.running_store.specs.Parts.{Parts, meaning_in, parts}
use Rattle.running_store.specs.StoreView.{StoreView, store_params, view_of}
use Rattle.running_store.specs.Parts.Unchanged.{IsUntaken}
use Rattle.running_store.proofs.Commanded.{left_usable}
use Rattle.running_store.proofs.Inside.{usable_before}
use Rattle.running_store.proofs.LentLemmas.{inputs_same}
use Rattle.running_store.proofs.store.Store.check_command.Given.{Over}
use Rattle.running_store.proofs.store.Store.check_command.Goals.{After-check}
use Rattle.running_store.proofs.store.Store.check_command.Goals as goal

pub check-requires-clause-grammar : goal.check-requires-clause-grammar
check-requires-clause-grammar g c = subst (λ (s : StoreView). IsInGrammar (meaning_in g.O.Oper.meaning (store_params s)) c.args.op.now) (sym c.self.view_is) c.requires.grammar

pub check-requires-clause-fits : goal.check-requires-clause-fits
check-requires-clause-fits g c =
    subst (λ (s : StoreView). FitsReads (meaning_in g.O.Oper.meaning (store_params s)) c.args.op.now (inputs_in s.parts.volatile.objects.cache ((meaning_in g.O.Oper.meaning (store_params s)).reads c.args.op.now) c.args.copies.now)) (sym c.self.view_is) c.requires.fits

module _ (g : Over) (c : After-check g) where
  abbrev before : Parts
  before = parts c.self.inside.log c.self.inside.objects c.self.inside.graph.entries

  abbrev after : Parts
  after = parts c.self.inside.log c.check.new.self c.self.inside.graph.entries

  untaken : IsUntaken before after
  untaken = let is = c.check.ensures in record { log = refl; slots = is.slots; held = is.entries; dirty = is.fetched.dirty; laid = is.laid; entries = refl }

pub invariant_of-self : goal.invariant_of-self
invariant_of-self g c = λ fine.
    let at = (goal.at.invariant_of-self g c).After-check in
    left_usable (before g at) (after g at) c.self.inside.identities
    (usable_before c.self.inside.log c.self.inside.objects c.self.inside.graph.entries c.self.inside.identities c.self.inside.broken c.args.self.now c.self.view_is c.self.invariant c.requires.unbroken) (untaken g at)

pub returns-clause-answer : goal.returns-clause-answer
returns-clause-answer g c =
    subst (λ (s : StoreView). result_err c.check.result ≡ (meaning_in g.O.Oper.meaning (store_params s)).check c.args.op.now (inputs_in s.parts.volatile.objects.cache ((meaning_in g.O.Oper.meaning (store_params s)).reads c.args.op.now) c.args.copies.now))
    c.self.view_is c.check.ensures.answer

pub returns-clause-left : goal.returns-clause-left
returns-clause-left g c =
    let at = (goal.at.returns-clause-left g c).After-check in
    subst (λ (s : StoreView). IsLeft s (view_of c.self.inside.log c.check.new.self c.self.inside.graph.entries c.self.inside.identities c.self.inside.broken)) c.self.view_is (record { untaken = untaken g at; counted = refl; flag = refl })

pub returns-clause-log : goal.returns-clause-log
returns-clause-log g c = ap (λ (s : StoreView). s.parts.log) c.self.view_is

pub returns-clause-same : goal.returns-clause-same
returns-clause-same g c = λ objects.
    subst (λ (s : StoreView). inputs_in c.check.new.self.cache objects c.args.copies.now ≡ inputs_in s.parts.volatile.objects.cache objects c.args.copies.now) c.self.view_is
    (inputs_same c.self.inside.objects.cache c.check.new.self.cache c.check.ensures.entries objects c.args.copies.now)
