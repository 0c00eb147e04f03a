use Rattle.std.proofs.Common.{◌≡◌, ◌∙◌, ap, sym, subst, ◌<◌, arith, ⊎_elim}
use Rattle.std.specs.Prelude.{Result}
use Rattle.std.specs.Result.{result_err}
use Rattle.std.proofs.lemmas.Bool.{lt-ltb}
use Rattle.disk_model.specs.Disk.{Disk}
use Rattle.formats.specs.Objects.{bounds_of}
use Rattle.formats.specs.declared.params.Params.{Params}
use Rattle.formats.specs.declared.read_err.ReadErr.{ReadErr}
use Rattle.stable_objects.specs.SlotsView.{SlotsView}
use Rattle.redo_pass.specs.Endings.{as_error}
use Rattle.store_engine.specs.Commands.{HasFetched}
use Rattle.store_engine.specs.Engine.{EngineView, Holds, engine_of, params_of}
use Rattle.store_engine.specs.Lists.{AreCalls, as_exec}
use Rattle.store_engine.proofs.Fetching.{fetched_of, fetched_value}
use Rattle.store_engine.proofs.ListMachines.{calls_fetched}
use Rattle.store_engine.proofs.Ways.{unbroken_or}
use Rattle.store_engine.proofs.engine.Engine.fetch.Given.{Over}
use Rattle.store_engine.proofs.engine.Engine.fetch.Goals.{After-fetch}
use Rattle.store_engine.proofs.engine.Engine.fetch.Goals as goal

pub fetch-requires : goal.fetch-requires
fetch-requires g c = record {
  unbroken = ap (λ (e : EngineView). e.broken) c.self.view_is ∙ c.requires.unbroken;
  below = omega (arith, c.if-object-params.false, ap (λ (q : Params). q.objects) c.params.ensures.value, ap (λ (e : EngineView). (params_of e).objects) c.self.view_is);
}

module _ (g : Over) (c : After-fetch g) where
  abbrev old : Disk
  old = g.M.Machine.disk c.args.machine.now

  abbrev new : Disk
  new = g.M.Machine.disk c.fetch.new.machine

  abbrev after : EngineView
  after = engine_of c.fetch.new.self c.self.inside.group c.self.inside.copied

  below : c.args.object < (params_of (engine_of c.self.inside.store c.self.inside.group c.self.inside.copied)).objects
  below = omega (arith, c.if-object-params.false, ap (λ (q : Params). q.objects) c.params.ensures.value, ap (λ (e : EngineView). (params_of e).objects) c.self.view_is)

  fetched : (r : Result (Unit {0}) ReadErr) → c.fetch.result ≡ r → HasFetched g.O.Oper.meaning old new c.args.self.now after c.args.object (result_err r)
  fetched r is =
      subst (λ (q : Result _ ReadErr). HasFetched g.O.Oper.meaning old new c.args.self.now after c.args.object (result_err q)) is
      (subst (λ (e : EngineView). HasFetched g.O.Oper.meaning old new e after c.args.object (result_err c.fetch.result)) c.self.view_is
      (fetched_of g.O.Oper.meaning old new c.self.inside.store c.fetch.new.self c.self.inside.group c.self.inside.copied c.args.object c.fetch.result c.fetch.ensures.call below c.fetch.ensures.cause))

pub returns-in_err-fetch-clause-fetched : goal.returns-in_err-fetch-clause-fetched
returns-in_err-fetch-clause-fetched g c =
    let at = (goal.at.returns-in_err-fetch-clause-fetched g c).After-fetch in
    as_error (λ r. HasFetched g.O.Oper.meaning (old g at) (new g at) c.args.self.now (after g at) c.args.object (result_err r)) c.from_residual.result c.in_err-fetch.field-0.0 c.from_residual.ensures.1 (fetched g at _ c.in_err-fetch.was)

pub returns-in_err-fetch-clause-calls : goal.returns-in_err-fetch-clause-calls
returns-in_err-fetch-clause-calls g c =
    let at = (goal.at.returns-in_err-fetch-clause-calls g c).After-fetch in
    as_error (λ r. AreCalls g.O.Oper.meaning (old g at) (new g at) c.args.self.now (after g at) (as_exec (result_err r))) c.from_residual.result c.in_err-fetch.field-0.0 c.from_residual.ensures.1
    (calls_fetched g.O.Oper.meaning (old g at) (new g at) c.args.self.now (after g at) c.args.object _ (fetched g at _ c.in_err-fetch.was))

pub returns-clause-fetched : goal.returns-clause-fetched
returns-clause-fetched g c = fetched g (goal.at.returns-clause-fetched g c).After-fetch _ c.in_ok-fetch.was

pub returns-clause-calls : goal.returns-clause-calls
returns-clause-calls g c =
    let at = (goal.at.returns-clause-calls g c).After-fetch in
    calls_fetched g.O.Oper.meaning (old g at) (new g at) c.args.self.now (after g at) c.args.object _ (fetched g at _ c.in_ok-fetch.was)

pub returns-clause-there : goal.returns-clause-there
returns-clause-there g c =
    let at = (goal.at.returns-clause-there g c).After-fetch in
    sym (lt-ltb c.args.object (params_of c.args.self.now).objects (subst (λ (e : EngineView). c.args.object < (params_of e).objects) c.self.view_is (below g at)))

pub returns-clause-value : goal.returns-clause-value
returns-clause-value g c = λ p commands holds there.
    let at = (goal.at.returns-clause-value g c).After-fetch in
    let is_fine = ⊎_elim (λ bad. cc bad) (λ fine. fine) (unbroken_or c.fetch.new.self.broken _ c.in_ok-fetch.ensures.call.broken) in
    let here = subst (λ (s : SlotsView). c.args.object < s.params.objects) (sym c.fetch.ensures.call.read.fetched.slots) (below g at) in
    fetched_value g.O.Oper.meaning (old g at) (new g at) c.self.inside.store c.fetch.new.self c.self.inside.group c.self.inside.copied _ c.fetch.ensures.call p (λ w x. c.live_cache_is_the_map.ensures (bounds_of p) w x) commands is_fine
    (subst (λ (e : EngineView). Holds g.O.Oper.meaning p (old g at) e commands) (sym c.self.view_is) holds) c.args.object here c.in_ok-fetch.ensures.cached
