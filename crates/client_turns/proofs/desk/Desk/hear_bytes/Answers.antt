use Rattle.std.proofs.Common.{◌≡◌, ◌∙◌, ◌++◌, ℕ, List, sym, subst}
use Rattle.std.proofs.lemmas.Result.{IfOk-from_err}
use Rattle.client_frames.specs.Frames.{Frame, seen}
use Rattle.client_sessions.specs.Events.{Tells, rest_at}
use Rattle.client_sessions.specs.declared.sessions.Sessions.{Sessions}
use Rattle.client_turns.specs.Within.{GoesOn, rests_of}
use Rattle.client_turns.proofs.Moments.{serves_same}
use Rattle.client_turns.proofs.Turned.{hearing_bytes, left_there, read_bytes}
use Rattle.client_turns.proofs.desk.Desk.hear_bytes.Goals as goal

pub returns-in_err-bytes : goal.returns-in_err-bytes
returns-in_err-bytes g c origin was holds =
    record { next = was; counts = g.met.S.NamedStore.lawful.counts c.args.store.now origin was holds; stands = IfOk-from_err c.from_residual.result _ c.from_residual.ensures.0; is = λ service said all ahead is. (serves_same service was said is.going.serves, IfOk-from_err c.from_residual.result _ c.from_residual.ensures.0) }

pub returns-in_err-left : goal.returns-in_err-left
returns-in_err-left g c origin was holds =
    let one = c.in_err-left.ensures origin was holds in
    record {
      next = one.next;
      counts = one.counts;
      stands = IfOk-from_err c.from_residual-in_err-left.result _ c.from_residual-in_err-left.ensures.0;
      is = λ service said all ahead is. (
        (one.is service said all
            (hearing_bytes service said all ahead c.deref.result.now c.args.out.now.items (seen c.args.frame) was c.args.self.now
            is c.requires.is c.requires.rest c.requires.some (c.deref.ensures.value ∙ c.in_ok-bytes.ensures))).0,
        IfOk-from_err c.from_residual-in_err-left.result _ c.from_residual-in_err-left.ensures.0,
      );
    }

pub returns-in_err-kept : goal.returns-in_err-kept
returns-in_err-kept g c origin was holds =
    let one = c.in_ok-left.ensures origin was holds in
    record {
      next = one.next;
      counts = one.counts;
      stands = IfOk-from_err c.from_residual-in_err-kept.result _ c.from_residual-in_err-kept.ensures.0;
      is = λ service said all ahead is. (
        (one.is service said all
            (hearing_bytes service said all ahead c.deref.result.now c.args.out.now.items (seen c.args.frame) was c.args.self.now
            is c.requires.is c.requires.rest c.requires.some (c.deref.ensures.value ∙ c.in_ok-bytes.ensures))).0,
        IfOk-from_err c.from_residual-in_err-kept.result _ c.from_residual-in_err-kept.ensures.0,
      );
    }

pub returns : goal.returns
returns g c origin was holds =
    let one = c.in_ok-left.ensures origin was holds in
    let b = one.next in
    let s = c.args.self.now in
    let t = c.keep.new.self in
    let frame : Frame = seen c.args.frame in
    let x : List ℕ = c.args.out.now.items in
    let y : List ℕ = c.hear_all.new.out.items in
    let bytes : List ℕ = rest_at (rests_of s) frame.client ++ frame.bytes in
    let same : c.deref.result.now ≡ bytes = c.deref.ensures.value ∙ c.in_ok-bytes.ensures in
    let left : List ℕ = c.in_ok-left.left.now in
    record {
      next = b;
      counts = one.counts;
      stands = one.stands;
      is = λ service said all ahead is.
          let both = one.is service said all
          (hearing_bytes service said all ahead c.deref.result.now c.args.out.now.items (seen c.args.frame) was c.args.self.now
          is c.requires.is c.requires.rest c.requires.some (c.deref.ensures.value ∙ c.in_ok-bytes.ensures)) in
          let it = subst (λ (l : List ℕ). GoesOn service said all (λ events. Tells service.limits frame.client l events left) was b c.hear_all.new.sessions y) same both.1 in
          let on = subst (λ (l : List ℕ). GoesOn service said all (λ events. Tells service.limits frame.client bytes events l) was b c.hear_all.new.sessions y) (sym c.in_ok-kept.ensures.items) it in (
            both.0,
            read_bytes service said all ahead c.in_ok-kept.kept.items x y frame was b s t is c.requires.is (left_there s frame.client c.requires.rest) c.requires.some c.keep.ensures.rests
                (subst (λ (u : Sessions). GoesOn service said all (λ events. Tells service.limits frame.client bytes events c.in_ok-kept.kept.items) was b u y) (sym c.keep.ensures.sessions) on),
          );
    }
