use Rattle.std.proofs.Common.{refl}
use Rattle.std.specs.Vec.{with_item}
use Rattle.named_words.specs.Forms.{texts}
use Rattle.client_sessions.specs.Sessions.{Client}
use Rattle.client_sessions.specs.Steps.{step_of}
use Rattle.client_sessions.specs.Words.{sorted_seen, step_seen}
use Rattle.client_sessions.proofs.Slots.{step_set}
use Rattle.client_sessions.proofs.sessions.Sessions.step.Goals as goal

pub returns-clause-is : goal.returns-clause-is
returns-clause-is c =
    let old = c.args.self.now in
    let at = c.args.client in
    let one = c.step.new.self in
    step_set old (record old { sessions = with_item old.sessions at one }) at c.index_mut-session.result.now one (λ (client : Client). step_of old.limits client (texts c.args.words.now) (sorted_seen c.args.sorted))
    (step_seen c.in_ok-step.step) c.requires c.index_mut-session.ensures.value refl refl c.in_ok-step.ensures
