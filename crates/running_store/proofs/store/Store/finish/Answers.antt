use Rattle.std.proofs.Common.{◌∙◌, ◌∷◌, [], ap, sym, subst, List}
use Rattle.formats.specs.Objects.{bounds_of}
use Rattle.dirty_cache.specs.Contents.{is_dirty}
use Rattle.install_order.specs.declared.entry.Entry.{Entry}
use Rattle.write_graph.specs.Graph.{IsNodeNamed, NamesMinimal}
use Rattle.explain_core.specs.RunLaws.{allowed-front}
use Rattle.explain_core.specs.World.{run}
use Rattle.explain_core.specs.World.Step.{Removal}
use Rattle.standing.specs.Moments.{moments_longer}
use Rattle.running_store.specs.Courses.{flush_steps}
use Rattle.running_store.specs.Parts.{VolatileShows, volatile}
use Rattle.running_store.specs.StoreView.{StoreView}
use Rattle.running_store.proofs.FlushLemmas.{removal_beside, removal_call, removal_shown, removal_usable}
use Rattle.running_store.proofs.store.Store.finish.Goals as goal

pub remove_minimal-requires : goal.remove_minimal-requires
remove_minimal-requires g c = subst (λ (l : List Entry). NamesMinimal l c.args.n) (sym c.flush.ensures.entries ∙ ap (λ (s : StoreView). s.parts.volatile.entries) (sym c.self.view_is)) c.requires.named

pub invariant_of-self : goal.invariant_of-self
invariant_of-self g c = λ fine.
    let named = subst (λ (l : List Entry). NamesMinimal l c.args.n) (sym c.flush.ensures.entries ∙ ap (λ (s : StoreView). s.parts.volatile.entries) (sym c.self.view_is)) c.requires.named in
    removal_usable c.self.inside.log c.self.inside.objects c.self.inside.graph.entries c.remove_minimal.new.self.entries c.self.inside.identities c.self.inside.broken c.flush.new.self c.self.view_is
    named.0 (c.remove_minimal.ensures.entries named.0 named.1) (c.self.invariant fine)

pub returns-clause-call : goal.returns-clause-call
returns-clause-call g c =
    let named = subst (λ (l : List Entry). NamesMinimal l c.args.n) (sym c.flush.ensures.entries ∙ ap (λ (s : StoreView). s.parts.volatile.entries) (sym c.self.view_is)) c.requires.named in
    removal_call c.self.inside.log c.self.inside.objects c.self.inside.graph.entries c.remove_minimal.new.self.entries c.self.inside.identities c.self.inside.broken c.flush.new.self c.self.view_is
    named.0 (c.remove_minimal.ensures.entries named.0 named.1) (g.M.Machine.disk c.args.machine.now) (g.M.Machine.disk c.flush.new.machine) c.args.self.now g.O.Oper.meaning c.in_ok-flush.ensures.call

pub returns-clause-beside : goal.returns-clause-beside
returns-clause-beside g c =
    let named = subst (λ (l : List Entry). NamesMinimal l c.args.n) (sym c.flush.ensures.entries ∙ ap (λ (s : StoreView). s.parts.volatile.entries) (sym c.self.view_is)) c.requires.named in
    removal_beside c.self.inside.log c.self.inside.objects c.self.inside.graph.entries c.remove_minimal.new.self.entries c.self.inside.identities c.self.inside.broken c.flush.new.self c.self.view_is
    named.0 (c.remove_minimal.ensures.entries named.0 named.1) (g.M.Machine.disk c.args.machine.now) (g.M.Machine.disk c.flush.new.machine) c.args.self.now c.flush.ensures.beside

pub returns-clause-shows : goal.returns-clause-shows
returns-clause-shows g c = λ p w node shows named allowed.
    let m = g.O.Oper.meaning (bounds_of p) in
    let new = g.M.Machine.disk c.flush.new.machine in
    let work = c.args.work.now in
    let same = sym c.flush.ensures.entries ∙ ap (λ (s : StoreView). s.parts.volatile.entries) (sym c.self.view_is) in
    let front = allowed-front m w (flush_steps m node work) (Removal node ∷ []) allowed in
    removal_shown m p new w node work (volatile c.self.inside.objects c.self.inside.graph.entries) c.remove_minimal.new.self.entries
    (subst (λ (s : StoreView). VolatileShows m p new s.parts.volatile (run m w (flush_steps m node work))) (sym c.self.view_is) (c.in_ok-flush.ensures.shows p w node shows front.0))
    (c.remove_minimal.ensures.entries node (subst (λ (l : List Entry). IsNodeNamed l c.args.n node) same named)) allowed (λ v sound may. c.removal_keeps.ensures (bounds_of p) v node sound may)

pub returns-clause-steps : goal.returns-clause-steps
returns-clause-steps g c = λ told p w node shows.
    let m = g.O.Oper.meaning (bounds_of p) in
    moments_longer m p (g.M.Machine.disk c.args.machine.now) (g.M.Machine.disk c.flush.new.machine) w (flush_steps m node c.args.work.now) (Removal node ∷ []) (c.flush.ensures.steps told p w node shows)

pub returns-in_err-flush-clause-steps : goal.returns-in_err-flush-clause-steps
returns-in_err-flush-clause-steps g c = λ told p w node shows.
    let m = g.O.Oper.meaning (bounds_of p) in
    moments_longer m p (g.M.Machine.disk c.args.machine.now) (g.M.Machine.disk c.flush.new.machine) w (flush_steps m node c.args.work.now) (Removal node ∷ []) (c.flush.ensures.steps told p w node shows)

pub returns-clause-dirty : goal.returns-clause-dirty
returns-clause-dirty g c = λ y dirty. c.in_ok-flush.ensures.dirty y (ap (λ (s : StoreView). is_dirty s.parts.volatile.objects.cache y) (sym c.self.view_is) ∙ dirty)
