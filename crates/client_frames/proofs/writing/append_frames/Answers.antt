use Rattle.std.proofs.Common.{◌≡◌, ◌∙◌, ◌++◌, ◌<◌, ◌^◌, ℕ, List, length, sym, subst, arith}
use Rattle.std.proofs.lemmas.List.{take-append-drop}
use Rattle.std.proofs.lemmas.Result.{on_ok_weaker}
use Rattle.client_frames.specs.Frames.{frame_bytes}
use Rattle.client_frames.specs.Writing.{Carries}
use Rattle.client_frames.proofs.Written.{carries_last, carries_more, kept_more, some_of}
use Rattle.client_frames.proofs.writing.append_frames.Goals as goal

pub loop-rest-preserved : goal.loop-rest-preserved
loop-rest-preserved c =
    let client : ℕ = c.args.client in
    let rest : List ℕ = c.loop-rest.rest.now in
    let piece : List ℕ = c.split_at.result.0.now in
    let behind : List ℕ = c.split_at.result.1.now in
    let old : List ℕ = c.loop-rest.into.items in
    let mid : List ℕ = c.append_frame.new.into.items in
    let is : mid ≡ old ++ frame_bytes (record { client = client; bytes = piece }) = c.in_ok-append_frame.ensures.ok in
    let long : length piece ≡ 2 ^ 16 = c.split_at.ensures.front_len in
    let whole : piece ++ behind ≡ rest = (λ i. c.split_at.ensures.front i ++ c.split_at.ensures.back i) ∙ take-append-drop (2 ^ 16) rest in
    record {
      rest = λ new more. c.loop-rest.invariant.rest new
          (subst (λ (l : List ℕ). Carries client l old new) whole (carries_more client piece behind old mid new (omega (arith, long)) (omega (arith, long)) is more));
      kept = kept_more c.args.into.now.items old mid (frame_bytes (record { client = client; bytes = piece })) c.loop-rest.invariant.kept is;
    }

pub returns-clause-ok : goal.returns-clause-ok
returns-clause-ok c =
    let client : ℕ = c.args.client in
    let rest : List ℕ = c.loop-rest.rest.now in
    let old : List ℕ = c.loop-rest.into.items in
    let some : 0 < length rest = some_of rest (sym c.is_empty.ensures ∙ c.if-is_empty.false) in
    on_ok_weaker c.append_frame-2.result (λ is. c.loop-rest.invariant.rest c.append_frame-2.new.into.items
    (carries_last client rest old c.append_frame-2.new.into.items some (omega (arith, c.loop-rest-test.false)) is)) c.append_frame-2.ensures.ok
