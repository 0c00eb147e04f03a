use Rattle.std.proofs.Common.{ℕ, List, Ok, Option, ap, arith, length, length-append, sym, subst}
use Rattle.std.proofs.lemmas.Result.{IfOk-from_err}
use Rattle.client_frames.specs.Frames.{frame_bytes, seen}
use Rattle.client_frames.specs.Reading.{BeginsWith, IsUnfinished}
use Rattle.client_frames.specs.declared.frame.ClientFrame.{ClientFrame}
use Rattle.client_turns.specs.Within.{IsReading, ReadsOn}
use Rattle.client_turns.proofs.Brought.{behind_fewer, behind_frame}
use Rattle.client_turns.proofs.Turned.{reads_more, reads_none, reads_serves, serves_later}
use Rattle.client_turns.proofs.desk.Desk.hear_frames.Goals as goal

pub hear_frame-requires : goal.hear_frame-requires
hear_frame-requires g c =
    let found = subst (λ (o : Option ClientFrame). BeginsWith c.loop-frame.rest.now (Ok o)) c.in-Some.is c.in_ok-frame.ensures in
    found.0

pub behind-rest-requires : goal.behind-rest-requires
behind-rest-requires g c =
    let found = subst (λ (o : Option ClientFrame). BeginsWith c.loop-frame.rest.now (Ok o)) c.in-Some.is c.in_ok-frame.ensures in
    omega (arith, c.size.ensures, ap length found.2, length-append (frame_bytes (seen c.in-Some.frame)) found.1)

pub loop-frame-smaller : goal.loop-frame-smaller
loop-frame-smaller g c =
    let found = subst (λ (o : Option ClientFrame). BeginsWith c.loop-frame.rest.now (Ok o)) c.in-Some.is c.in_ok-frame.ensures in
    behind_fewer c.loop-frame.rest.now found.1 c.behind-rest.result.now (seen c.in-Some.frame) c.size.result found.2 c.size.ensures c.behind-rest.ensures

pub returns-clause-unfinished : goal.returns-clause-unfinished
returns-clause-unfinished g c =
    let found = subst (λ (o : Option ClientFrame). BeginsWith c.loop-frame.rest.now (Ok o)) c.in_default.is c.in_ok-frame.ensures in
    subst (λ (l : List ℕ). IsUnfinished l) (sym c.in_ok-from_slice.ensures.items) found.0

pub loop-frame-init : goal.loop-frame-init
loop-frame-init g c origin was holds = (was, holds, λ service said all is. reads_none service said all c.args.bytes.now c.args.out.now.items was c.args.self.now is)

pub loop-frame-preserved : goal.loop-frame-preserved
loop-frame-preserved g c origin was holds =
    let here = c.loop-frame in
    let at = here.invariant origin was holds in
    let one = c.in_ok-hear_frame.ensures origin at.0 at.1 in
    let d = one.next in
    let found = subst (λ (o : Option ClientFrame). BeginsWith here.rest.now (Ok o)) c.in-Some.is c.in_ok-frame.ensures in
    let y : List ℕ = c.hear_frame.new.out.items in (
      d,
      one.stands,
      λ service said all is.
          let it = at.2 service said all is in
          let reading = subst (λ (l : List ℕ). IsReading service it.forced it.done l at.0 here.self here.out.items) found.2 it.reading in
          let next = reads_more service said here.rest.now found.1 here.out.items y at.0 d here.self c.hear_frame.new.self it (one.is service it.forced it.done found.1 reading).1 in
          subst (λ (l : List ℕ). ReadsOn service said l d c.hear_frame.new.self y) (sym (behind_frame here.rest.now found.1 c.behind-rest.result.now (seen c.in-Some.frame) c.size.result found.2 c.size.ensures c.behind-rest.ensures)) next,
    )

pub returns-in_err-hear_frame-clause-reads : goal.returns-in_err-hear_frame-clause-reads
returns-in_err-hear_frame-clause-reads g c origin was holds =
    let here = c.loop-frame in
    let at = here.invariant origin was holds in
    let one = c.in_err-hear_frame.ensures origin at.0 at.1 in
    let found = subst (λ (o : Option ClientFrame). BeginsWith here.rest.now (Ok o)) c.in-Some.is c.in_ok-frame.ensures in
    record {
      next = one.next;
      counts = one.counts;
      stands = IfOk-from_err c.from_residual-in_err-hear_frame.result _ c.from_residual-in_err-hear_frame.ensures.0;
      is = λ service said all is.
          let it = at.2 service said all is in
          let reading = subst (λ (l : List ℕ). IsReading service it.forced it.done l at.0 here.self here.out.items) found.2 it.reading in
          (serves_later service one.next said it.forced it.on (one.is service it.forced it.done found.1 reading).0, IfOk-from_err c.from_residual-in_err-hear_frame.result _ c.from_residual-in_err-hear_frame.ensures.0);
    }

pub returns-in_err-frame-clause-reads : goal.returns-in_err-frame-clause-reads
returns-in_err-frame-clause-reads g c origin was holds =
    let here = c.loop-frame in
    let at = here.invariant origin was holds in
    record {
      next = at.0;
      counts = g.met.S.NamedStore.lawful.counts here.store origin at.0 at.1;
      stands = IfOk-from_err c.from_residual.result _ c.from_residual.ensures.0;
      is = λ service said all is. (reads_serves service said here.rest.now here.out.items at.0 here.self (at.2 service said all is), IfOk-from_err c.from_residual.result _ c.from_residual.ensures.0);
    }

pub returns-in_err-from_slice-clause-reads : goal.returns-in_err-from_slice-clause-reads
returns-in_err-from_slice-clause-reads g c origin was holds =
    let here = c.loop-frame in
    let at = here.invariant origin was holds in
    record {
      next = at.0;
      counts = g.met.S.NamedStore.lawful.counts here.store origin at.0 at.1;
      stands = IfOk-from_err c.from_residual-in_err-from_slice.result _ c.from_residual-in_err-from_slice.ensures.0;
      is = λ service said all is. (reads_serves service said here.rest.now here.out.items at.0 here.self (at.2 service said all is), IfOk-from_err c.from_residual-in_err-from_slice.result _ c.from_residual-in_err-from_slice.ensures.0);
    }

pub returns-clause-reads : goal.returns-clause-reads
returns-clause-reads g c origin was holds =
    let here = c.loop-frame in
    let at = here.invariant origin was holds in
    record {
      next = at.0;
      counts = g.met.S.NamedStore.lawful.counts here.store origin at.0 at.1;
      stands = at.1;
      is = λ service said all is.
          let it = at.2 service said all is in (
            reads_serves service said here.rest.now here.out.items at.0 here.self it,
            subst (λ (l : List ℕ). ReadsOn service said l at.0 here.self here.out.items) (sym c.in_ok-from_slice.ensures.items) it,
          );
    }
