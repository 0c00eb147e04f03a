use Rattle.std.proofs.Common.{◌∙◌, ℕ, List, ap, sym, subst}
use Rattle.std.specs.Prelude.{slice_set}
use Rattle.std.proofs.lemmas.Result.{IfOk-from_err}
use Rattle.client_frames.specs.Frames.{Frame, seen}
use Rattle.client_sessions.specs.Calls.{IsSettled}
use Rattle.client_sessions.specs.Events.{Happens, gone}
use Rattle.client_sessions.specs.declared.sessions.Sessions.{Sessions}
use Rattle.named_words.specs.Effects.{Sizes}
use Rattle.client_turns.specs.Within.{rests_of}
use Rattle.client_turns.proofs.Moments.{serves_same}
use Rattle.client_turns.proofs.Turned.{left_there, read_gone}
use Rattle.client_turns.proofs.desk.Desk.hear_end.Goals as goal

pub returns-in_err-part : goal.returns-in_err-part
returns-in_err-part g c origin was holds =
    record { next = was; counts = g.met.S.NamedStore.lawful.counts c.args.store.now origin was holds; stands = IfOk-from_err c.from_residual.result _ c.from_residual.ensures.0; is = λ service said all ahead is. (serves_same service was said is.going.serves, IfOk-from_err c.from_residual.result _ c.from_residual.ensures.0) }

pub returns : goal.returns
returns g c origin was holds =
    let s = c.args.self.now in
    let t = c.keep.new.self in
    let frame : Frame = seen c.args.frame in
    let x : List ℕ = c.args.out.now.items in
    let y : List ℕ = c.part.new.out.items in
    let set = c.keep.ensures.rests ∙ ap (λ (l : List ℕ). slice_set (rests_of s) frame.client l) c.new.ensures.items in
    let it = subst (λ (u : Sessions). IsSettled (λ server frames new. (sizes : Sizes) → Happens sizes s.sessions.limits (gone frame.client) server frames new) s.sessions u x y) (sym c.keep.ensures.sessions) c.in_ok-part.ensures in
    record {
      next = was;
      counts = g.met.S.NamedStore.lawful.counts c.args.store.now origin was holds;
      stands = holds;
      is = λ service said all ahead is. (serves_same service was said is.going.serves, read_gone service said all ahead x y frame was s t is c.requires.is (left_there s frame.client c.requires.rest) c.requires.none set it);
    }
