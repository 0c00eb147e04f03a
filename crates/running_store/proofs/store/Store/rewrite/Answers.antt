use Rattle.std.proofs.Common.{sym, subst, ◌<◌}
use Rattle.std.specs.Prelude.{IfErr, ◌^◌}
use Rattle.disk_model.specs.Disk.{Disk, Rises}
use Rattle.log_records.specs.Loading.{IsTailFault}
use Rattle.log_records.specs.Rewriting.{FindsDamage, IsNewLength, IsRewritable, RewriteFails}
use Rattle.running_store.specs.Kept.{HasLog}
use Rattle.running_store.specs.StoreView.{StoreView, view_of}
use Rattle.running_store.proofs.Inside.{usable_before}
use Rattle.running_store.proofs.OfRewrites.Ends.{EndsRewrite, all_stable_of, rewrite_ends}
use Rattle.running_store.proofs.store.Store.rewrite.Given.{Over}
use Rattle.running_store.proofs.store.Store.rewrite.Goals.{After-note}
use Rattle.running_store.proofs.store.Store.rewrite.Goals as goal

module _ (g : Over) (c : After-note g) where
  abbrev old : Disk
  old = g.M.Machine.disk c.args.machine.now

  abbrev new : Disk
  new = g.M.Machine.disk c.rewrite-answer.new.m

  may : IsRewritable (g.O.Oper.meaning c.self.inside.log.bounds) c.self.inside.log c.args.base c.args.table
  may = subst (λ (s : StoreView). IsRewritable (g.O.Oper.meaning s.parts.log.bounds) s.parts.log c.args.base c.args.table) (sym c.self.view_is) c.requires.rewritable

  ends : EndsRewrite g.O.Oper.meaning old new c.args.self.now (view_of c.rewrite-answer.new.self c.self.inside.objects c.self.inside.graph.entries c.self.inside.identities c.note.new.broken) c.args.base c.args.table c.args.most c.rewrite-answer.result
  ends =
      let log = c.self.inside.log in
      let objects = c.self.inside.objects in
      let entries = c.self.inside.graph.entries in
      let used = usable_before log objects entries c.self.inside.identities c.self.inside.broken c.args.self.now c.self.view_is c.self.invariant c.requires.unbroken in
      let is = c.rewrite-answer.ensures in
      rewrite_ends g.O.Oper.meaning old new log objects entries c.self.inside.identities c.self.inside.broken c.note.new.broken c.args.self.now c.self.view_is c.requires.unbroken used c.args.base c.args.table c.args.most may is.runs
      (subst (λ (s : StoreView). s.parts.log.log.header.epoch < 2 ^ 62) (sym c.self.view_is) c.requires.epoch) c.header_gate_keeps.ensures is.any_moment
      c.rewrite-answer.new.self c.rewrite-answer.result (IsTailFault (g.O.Oper.meaning log.bounds) new log.log) c.note.ensures is.acknowledged is.settled is.rewritten is.ends is.cause

pub invariant_of-self : goal.invariant_of-self
invariant_of-self g c = λ fine. (ends g (goal.at.invariant_of-self g c).After-note).usable

pub returns-clause-call : goal.returns-clause-call
returns-clause-call g c = (ends g (goal.at.returns-clause-call g c).After-note).call

pub returns-clause-takes : goal.returns-clause-takes
returns-clause-takes g c = (ends g (goal.at.returns-clause-takes g c).After-note).takes

pub returns-clause-rewritten : goal.returns-clause-rewritten
returns-clause-rewritten g c = (ends g (goal.at.returns-clause-rewritten g c).After-note).rewritten

pub returns-clause-undamaged : goal.returns-clause-undamaged
returns-clause-undamaged g c =
    let at = (goal.at.returns-clause-undamaged g c).After-note in
    let log = c.self.inside.log in
    subst (λ (s : StoreView). (old g at).tells_files → HasLog (g.O.Oper.meaning s.parts.log.bounds) (old g at) s.parts.log → IfErr c.rewrite-answer.result (λ e. FindsDamage e → ⊥)) c.self.view_is
    (λ told has. c.rewrite-answer.ensures.undamaged told has.stable (all_stable_of (g.O.Oper.meaning log.bounds) (old g at) log (may g at).waits has))

pub returns-clause-cause : goal.returns-clause-cause
returns-clause-cause g c =
    let at = (goal.at.returns-clause-cause g c).After-note in
    subst (λ (s : StoreView). IfErr c.rewrite-answer.result (RewriteFails (Rises (old g at).disk_faults (new g at).disk_faults) (IsTailFault (g.O.Oper.meaning s.parts.log.bounds) (new g at) s.parts.log.log)
    (IsNewLength (g.O.Oper.meaning s.parts.log.bounds) (old g at) s.parts.log c.args.base c.args.table) s.parts.log.log c.args.most)) c.self.view_is c.rewrite-answer.ensures.cause
