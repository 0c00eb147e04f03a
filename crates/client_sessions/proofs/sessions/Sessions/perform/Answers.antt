use Rattle.std.proofs.Common.{ℕ, List, Vec, Global, map, subst, sym}
use Rattle.std.proofs.lemmas.Result.{IfOk-from_err}
use Rattle.named_words.specs.Requests.{asked_of_names}
use Rattle.client_sessions.specs.Standing.{Performs}
use Rattle.client_sessions.proofs.Nows.{named_done, note_large}
use Rattle.client_sessions.proofs.sessions.Sessions.perform.Goals as goal

pub returns-in_err-touched-clause-done : goal.returns-in_err-touched-clause-done
returns-in_err-touched-clause-done g c origin was holds =
    let one = c.in_err-touched.ensures origin was holds in
    record { next = one.next; counts = one.counts; stands = IfOk-from_err c.from_residual.result _ c.from_residual.ensures.0; is = (one.is.0, IfOk-from_err c.from_residual.result _ c.from_residual.ensures.0) }

pub returns-clause-large : goal.returns-clause-large
returns-clause-large g c = note_large c.args.self.now c.note.new.self (map (λ name. name.items) c.as_slice.result.now) c.note.ensures.clients c.note.ensures.limits

pub returns-clause-done : goal.returns-clause-done
returns-clause-done g c origin was holds =
    let one = c.in_ok-touched.ensures origin was holds in
    let asked = asked_of_names c.args.request in
    let x : List ℕ = c.args.into.now.items in
    let y : List ℕ = c.perform.new.into.items in
    let performs = subst (λ (names : List (Vec ℕ Global)). Performs asked was one.next (map (λ name. name.items) names) x y) (sym c.as_slice.ensures.value) one.is.1 in
    record {
      next = one.next;
      counts = one.counts;
      stands = one.stands;
      is = (one.is.0, named_done asked was one.next c.args.self.now c.note.new.self (map (λ name. name.items) c.as_slice.result.now) x y performs c.note.ensures.clients c.note.ensures.came c.note.ensures.limits);
    }
