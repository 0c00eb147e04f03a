use Rattle.std.proofs.Common.{ℕ, List, [], ◌∷◌, refl, sym, subst}
use Rattle.std.specs.Borrow.{Bor}
use Rattle.std.proofs.lemmas.Result.{IfOk-from_err}
use Rattle.named_words.specs.Forms.{texts}
use Rattle.resp_words.specs.Commands.{IsCommand}
use Rattle.client_sessions.specs.Calls.{IsHeard}
use Rattle.client_sessions.specs.Events.{Happen, IsRefused, bad, command}
use Rattle.client_sessions.specs.Laws.{keeps_same}
use Rattle.client_sessions.specs.Taking.{Takes, TellsNext}
use Rattle.client_sessions.specs.declared.heard.Heard.TheVariants as next
use Rattle.client_sessions.specs.declared.session_limits.SessionLimits.{SessionLimits}
use Rattle.client_sessions.specs.declared.taken.Taken.{Taken}
use Rattle.client_sessions.proofs.Answered.{answered_none, answered_one, answered_settled}
use Rattle.client_sessions.proofs.Bytes.{command_next}
use Rattle.client_sessions.proofs.Slots.{same_large}
use Rattle.client_sessions.proofs.sessions.Sessions.hear.Goals as goal

pub returns-in_err-words-clause-heard : goal.returns-in_err-words-clause-heard
returns-in_err-words-clause-heard g c origin was holds =
    record { next = was; counts = g.met.S.NamedStore.lawful.counts c.args.store.now origin was holds; stands = IfOk-from_err c.from_residual.result _ c.from_residual.ensures.0; is = (keeps_same was, IfOk-from_err c.from_residual.result _ c.from_residual.ensures.0) }

pub returns-in_err-obey-in-Command-clause-heard : goal.returns-in_err-obey-in-Command-clause-heard
returns-in_err-obey-in-Command-clause-heard g c origin was holds =
    let one = c.in_err-obey-in-Command.ensures.done origin was holds in
    record { next = one.next; counts = one.counts; stands = IfOk-from_err c.from_residual-in_err-obey-in-Command.result _ c.from_residual-in_err-obey-in-Command.ensures.0; is = (one.is.0, IfOk-from_err c.from_residual-in_err-obey-in-Command.result _ c.from_residual-in_err-obey-in-Command.ensures.0) }

pub returns-in_ok-obey-in-Command-clause-large : goal.returns-in_ok-obey-in-Command-clause-large
returns-in_ok-obey-in-Command-clause-large g c = c.in_ok-obey-in-Command.ensures.large

pub returns-in_ok-obey-in-Command-clause-fewer : goal.returns-in_ok-obey-in-Command-clause-fewer
returns-in_ok-obey-in-Command-clause-fewer g c =
    let limits : SessionLimits = c.args.self.now.limits in
    let bytes : List ℕ = c.args.bytes.now in
    let told = subst (λ (t : Taken). Takes limits bytes t) c.in-Command.is c.in_ok-words.ensures in
    let means = subst (λ (l : List (Bor (List ℕ))). IsCommand limits.commands told.0 (texts l)) (sym c.deref.ensures.value) told.1 in
    (command_next limits c.args.client bytes told.0 c.in-Command.behind.now (texts c.deref.result.now) means told.2 told.3).1

pub returns-in_ok-obey-in-Command-clause-heard : goal.returns-in_ok-obey-in-Command-clause-heard
returns-in_ok-obey-in-Command-clause-heard g c origin was holds =
    let one = c.in_ok-obey-in-Command.ensures.done origin was holds in
    let old = c.args.self.now in
    let limits : SessionLimits = old.limits in
    let at : ℕ = c.args.client in
    let bytes : List ℕ = c.args.bytes.now in
    let words = texts c.deref.result.now in
    let told = subst (λ (t : Taken). Takes limits bytes t) c.in-Command.is c.in_ok-words.ensures in
    let means = subst (λ (l : List (Bor (List ℕ))). IsCommand limits.commands told.0 (texts l)) (sym c.deref.ensures.value) told.1 in
    let heard : IsHeard (λ events. TellsNext limits c.args.client c.args.bytes.now (next.Command c.in-Command.behind) events) (Happen was.sizes limits) was one.next old c.obey.new.self c.args.out.now.items c.obey.new.out.items = record {
      events = command at words ∷ [];
      told = command_next limits at bytes told.0 c.in-Command.behind.now words means told.2 told.3;
      answered = answered_one was.sizes limits (command at words) was one.next old c.obey.new.self c.args.out.now.items c.obey.new.out.items one.is.1;
    } in
    record { next = one.next; counts = one.counts; stands = one.stands; is = (one.is.0, heard) }

pub returns-in-Rest-clause-large : goal.returns-in-Rest-clause-large
returns-in-Rest-clause-large g c = same_large c.args.self.now

pub returns-in-Rest-clause-heard : goal.returns-in-Rest-clause-heard
returns-in-Rest-clause-heard g c origin was holds =
    let old = c.args.self.now in
    let limits : SessionLimits = old.limits in
    let told = subst (λ (t : Taken). Takes limits c.args.bytes.now t) c.in-Rest.is c.in_ok-words.ensures in
    let heard : IsHeard (λ events. TellsNext limits c.args.client c.args.bytes.now next.Rest events) (Happen was.sizes limits) was was old old c.args.out.now.items c.args.out.now.items = record { events = []; told = (told.0, told.1, refl); answered = answered_none was.sizes limits was old c.args.out.now.items } in
    record { next = was; counts = g.met.S.NamedStore.lawful.counts c.args.store.now origin was holds; stands = holds; is = (keeps_same was, heard) }

pub returns-in_err-dismiss-in-Refused-clause-heard : goal.returns-in_err-dismiss-in-Refused-clause-heard
returns-in_err-dismiss-in-Refused-clause-heard g c origin was holds =
    record { next = was; counts = g.met.S.NamedStore.lawful.counts c.args.store.now origin was holds; stands = IfOk-from_err c.from_residual-in_err-dismiss-in-Refused.result _ c.from_residual-in_err-dismiss-in-Refused.ensures.0; is = (keeps_same was, IfOk-from_err c.from_residual-in_err-dismiss-in-Refused.result _ c.from_residual-in_err-dismiss-in-Refused.ensures.0) }

pub returns-in_ok-dismiss-in-Refused-clause-large : goal.returns-in_ok-dismiss-in-Refused-clause-large
returns-in_ok-dismiss-in-Refused-clause-large g c = c.in_ok-dismiss-in-Refused.ensures.large

pub returns-in_ok-dismiss-in-Refused-clause-heard : goal.returns-in_ok-dismiss-in-Refused-clause-heard
returns-in_ok-dismiss-in-Refused-clause-heard g c origin was holds =
    let old = c.args.self.now in
    let limits : SessionLimits = old.limits in
    let at : ℕ = c.args.client in
    let bytes : List ℕ = c.args.bytes.now in
    let text : List ℕ = c.deref-in-Refused.result.now in
    let refused = subst (λ (t : Taken). Takes limits bytes t) c.in-Refused.is c.in_ok-words.ensures in
    let heard : IsHeard (λ events. TellsNext limits c.args.client c.args.bytes.now next.Refused events) (Happen was.sizes limits) was was old c.dismiss.new.self c.args.out.now.items c.dismiss.new.out.items = record {
      events = bad at text ∷ [];
      told = (refl, subst (λ (l : List ℕ). IsRefused limits bytes l) (sym c.deref-in-Refused.ensures.value) refused, refl);
      answered = answered_settled was.sizes limits (bad at text) was old c.dismiss.new.self c.args.out.now.items c.dismiss.new.out.items c.in_ok-dismiss-in-Refused.ensures;
    } in
    record { next = was; counts = g.met.S.NamedStore.lawful.counts c.args.store.now origin was holds; stands = holds; is = (keeps_same was, heard) }
