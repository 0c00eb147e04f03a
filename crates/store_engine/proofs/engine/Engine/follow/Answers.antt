use Rattle.std.proofs.Common.{◌∙◌, ◌≤◌, ap, subst, sym, Some}
use Rattle.std.specs.Prelude.{IfSome}
use Rattle.disk_model.specs.Disk.{Disk}
use Rattle.formats.specs.declared.layout.Layout.{Layout}
use Rattle.running_store.specs.StoreView.{next_of}
use Rattle.execution.specs.Following.{IsFollowable}
use Rattle.store_engine.specs.Engine.{EngineView, engine_of, params_of}
use Rattle.store_engine.specs.Following.{HasFollowed}
use Rattle.store_engine.specs.Store.{meaning_in}
use Rattle.store_engine.proofs.Calls.{as_alone, begun_still}
use Rattle.store_engine.proofs.Followed.{has_followed}
use Rattle.store_engine.proofs.engine.Engine.follow.Goals as goal

pub follow-requires : goal.follow-requires
follow-requires g c = record {
  unbroken = ap (λ (e : EngineView). e.broken) c.self.view_is ∙ c.requires.unbroken;
  logged = subst (λ (e : EngineView). IsFollowable (meaning_in g.O.Oper.meaning (params_of e)) c.args.logged) (sym c.self.view_is) (record { with_lsn = c.requires.with_lsn; grammar = c.requires.grammar; short = c.requires.short });
}

pub invariant_of-self : goal.invariant_of-self
invariant_of-self g c = record {
  begun = λ fine.
      begun_still c.self.inside.group (next_of c.self.inside.store) (next_of c.follow.new.store) c.follow.ensures.call.rising
      (c.self.invariant.begun (ap (λ (e : EngineView). e.broken) c.self.view_is ∙ c.requires.unbroken));
  few = subst (λ (l : Layout). IfSome c.self.inside.copied (λ n. n ≤ l.params.objects)) (sym c.follow.ensures.call.layout) c.self.invariant.few;
}

pub returns-clause-followed : goal.returns-clause-followed
returns-clause-followed g c =
    let old : Disk = g.M.Machine.disk c.args.machine.now in
    let new : Disk = g.M.Machine.disk c.follow.new.machine in
    as_alone c.self.inside.store c.follow.new.store c.self.inside.group c.self.inside.copied c.args.self.now c.self.view_is c.requires.alone (λ before after. HasFollowed g.O.Oper.meaning old new before after c.args.logged c.follow.result)
    (has_followed g.O.Oper.meaning old new c.self.inside.store c.follow.new.store c.self.inside.copied c.args.logged c.follow.result (record {
      call = c.follow.ensures.call;
      takes = c.follow.ensures.takes;
      in_world = λ p w. c.follow.ensures.in_world p w;
      untaken = c.follow.ensures.untaken;
      quiet = c.follow.ensures.quiet;
      cause = c.follow.ensures.cause;
    }))

pub returns-clause-idle : goal.returns-clause-idle
returns-clause-idle g c = λ other.
    let still = c.follow.ensures.idle (λ next. other (next ∙ ap (λ (e : EngineView). Some e.parts.log.next) c.self.view_is)) in
    (still.0, ap (λ s. engine_of s c.self.inside.group c.self.inside.copied) still.1 ∙ c.self.view_is)
