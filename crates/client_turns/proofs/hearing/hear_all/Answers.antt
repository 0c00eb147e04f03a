use Rattle.std.proofs.Common.{◌∙◌, ℕ, List, [], refl, subst}
use Rattle.std.proofs.lemmas.Result.{IfOk-from_err}
use Rattle.client_sessions.specs.Events.{Begins, Tells}
use Rattle.client_sessions.specs.Taking.{LeavesFewer, TellsNext}
use Rattle.client_sessions.specs.declared.heard.Heard.{Heard}
use Rattle.client_sessions.specs.declared.heard.Heard.TheVariants.{Command, Refused, Rest}
use Rattle.client_turns.specs.Within.{GoesOn}
use Rattle.client_turns.proofs.Brought.{begins_more, tells_all}
use Rattle.client_turns.proofs.Turned.{goes_more, goes_none, goes_serves, hearing_more, serves_later}
use Rattle.client_turns.proofs.hearing.hear_all.Goals as goal

pub loop-behind-init : goal.loop-behind-init
loop-behind-init g c = record {
  count = refl;
  goes = λ origin was holds. (
    was,
    holds,
    λ service said all is.
        goes_none service said all (λ events. Begins service.limits c.args.client c.args.bytes.now events c.args.bytes.now) was c.args.sessions.now c.args.out.now.items refl is.going,
  );
}

pub returns-in_err-behind : goal.returns-in_err-behind
returns-in_err-behind g c origin was holds =
    let here = c.loop-behind in
    let at = here.invariant.goes origin was holds in
    let one = c.in_err-behind.ensures.hears origin at.0 at.1 in
    record {
      next = one.next;
      counts = one.counts;
      stands = IfOk-from_err c.from_residual.result _ c.from_residual.ensures.0;
      is = λ service said all is.
          let it = at.2 service said all is in
          let hearing = hearing_more service said all c.args.client c.args.bytes.now here.rest.now c.args.out.now.items here.out.items was at.0 c.args.sessions.now here.sessions is it in
          (serves_later service one.next said it.forced it.on (one.is service it.forced it.done hearing).0, IfOk-from_err c.from_residual.result _ c.from_residual.ensures.0);
    }

pub loop-behind-preserved : goal.loop-behind-preserved
loop-behind-preserved g c = record {
  count = c.in_ok-behind.ensures.count ∙ c.loop-behind.invariant.count;
  goes = λ origin was holds.
      let here = c.loop-behind in
      let client : ℕ = c.args.client in
      let bytes : List ℕ = c.args.bytes.now in
      let rest : List ℕ = here.rest.now in
      let at = here.invariant.goes origin was holds in
      let one = c.in_ok-behind.ensures.hears origin at.0 at.1 in
      let behind : List ℕ = c.in-Command.behind.now in (
        one.next,
        one.stands,
        λ service said all is.
            let it = at.2 service said all is in
            let hearing = hearing_more service said all client bytes rest c.args.out.now.items here.out.items was at.0 c.args.sessions.now here.sessions is it in
            let two = subst (λ (h : Heard). GoesOn service it.forced it.done (λ events. TellsNext service.limits client rest h events) at.0 one.next c.hear_next.new.sessions c.hear_next.new.out.items)
            c.in-Command.is (one.is service it.forced it.done hearing).1 in
            goes_more service said all (λ events. Begins service.limits client bytes events rest) (λ events. TellsNext service.limits client rest (Command c.in-Command.behind) events)
            (λ events. Begins service.limits client bytes events behind) was at.0 one.next here.sessions c.hear_next.new.sessions here.out.items c.hear_next.new.out.items it
            (λ es ms first more. begins_more service.limits client bytes rest behind es ms first more.0) two,
      );
}

pub returns-in-Rest : goal.returns-in-Rest
returns-in-Rest g c origin was holds =
    let here = c.loop-behind in
    let client : ℕ = c.args.client in
    let bytes : List ℕ = c.args.bytes.now in
    let rest : List ℕ = here.rest.now in
    let at = here.invariant.goes origin was holds in
    let one = c.in_ok-behind.ensures.hears origin at.0 at.1 in
    record {
      next = one.next;
      counts = one.counts;
      stands = one.stands;
      is = λ service said all is.
          let it = at.2 service said all is in
          let hearing = hearing_more service said all client bytes rest c.args.out.now.items here.out.items was at.0 c.args.sessions.now here.sessions is it in
          let two = subst (λ (h : Heard). GoesOn service it.forced it.done (λ events. TellsNext service.limits client rest h events) at.0 one.next c.hear_next.new.sessions c.hear_next.new.out.items)
          c.in-Rest.is (one.is service it.forced it.done hearing).1 in
          let all_told = goes_more service said all (λ events. Begins service.limits client bytes events rest) (λ events. TellsNext service.limits client rest Rest events)
          (λ events. Tells service.limits client bytes events rest) was at.0 one.next here.sessions c.hear_next.new.sessions here.out.items c.hear_next.new.out.items it
          (λ es ms first more. tells_all service.limits client bytes rest rest es ms first more) two in
          (goes_serves service said all (λ events. Tells service.limits client bytes events rest) was one.next c.hear_next.new.sessions c.hear_next.new.out.items all_told, all_told);
    }

pub returns-in-Refused : goal.returns-in-Refused
returns-in-Refused g c origin was holds =
    let here = c.loop-behind in
    let client : ℕ = c.args.client in
    let bytes : List ℕ = c.args.bytes.now in
    let rest : List ℕ = here.rest.now in
    let at = here.invariant.goes origin was holds in
    let one = c.in_ok-behind.ensures.hears origin at.0 at.1 in
    record {
      next = one.next;
      counts = one.counts;
      stands = one.stands;
      is = λ service said all is.
          let it = at.2 service said all is in
          let hearing = hearing_more service said all client bytes rest c.args.out.now.items here.out.items was at.0 c.args.sessions.now here.sessions is it in
          let two = subst (λ (h : Heard). GoesOn service it.forced it.done (λ events. TellsNext service.limits client rest h events) at.0 one.next c.hear_next.new.sessions c.hear_next.new.out.items)
          c.in-Refused.is (one.is service it.forced it.done hearing).1 in
          let all_told = goes_more service said all (λ events. Begins service.limits client bytes events rest) (λ events. TellsNext service.limits client rest Refused events)
          (λ events. Tells service.limits client bytes events []) was at.0 one.next here.sessions c.hear_next.new.sessions here.out.items c.hear_next.new.out.items it
          (λ es ms first more. tells_all service.limits client bytes rest [] es ms first more) two in
          (goes_serves service said all (λ events. Tells service.limits client bytes events []) was one.next c.hear_next.new.sessions c.hear_next.new.out.items all_told, all_told);
    }

pub loop-behind-smaller : goal.loop-behind-smaller
loop-behind-smaller g c = subst (λ (h : Heard). LeavesFewer c.loop-behind.rest.now h) c.in-Command.is c.in_ok-behind.ensures.fewer
