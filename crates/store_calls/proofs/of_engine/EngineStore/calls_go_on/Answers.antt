use Rattle.std.proofs.Common.{inl, inr, ⊎_elim}
use Rattle.store_engine.specs.ListLaws.{all_hold, refused_calls}
use Rattle.store_calls.proofs.EngineRuns.{calls_short, engine_calls, has_front}
use Rattle.store_calls.proofs.of_engine.EngineStore.calls_go_on.Goals as goal

pub returns : goal.returns
returns g c =
    let disk = g.M.Machine.disk in
    let meaning = g.O.Oper.meaning in record {
      calls = λ old mid new s t u error first second. engine_calls meaning (c.calls_go_on.ensures old mid new s t u error first.own second.own);
      refused = λ old new s t refusal calls. engine_calls meaning (refused_calls meaning (disk old) (disk new) s t refusal calls.own);
      short = λ old new s t calls. engine_calls meaning (calls_short meaning calls.own);
      adds = λ old mid new s t u p commands front ops ending first second w shows are. c.fronts_are_joined.ensures old mid new s t u p w commands front ops ending (first w shows are) second;
      cut = λ old new s t p commands front rest adds w shows are. c.fetch_goes_on.ensures.memory old new s t p w commands front rest (adds w shows are);
      holds = λ old new s t p commands ops held adds. all_hold meaning (disk old) (disk new) s t p held.world commands ops (adds held.world held.shows held.commands_are);
      front = λ old new s t p commands ops ending held adds. has_front meaning p commands ops ending held.world (adds held.world held.shows held.commands_are);
      kept = λ old new s t p commands ending held keeps. ⊎_elim (λ failed. inl failed) (λ is. inr is.holds) (keeps.holds p commands held);
    }
