-- The frame in hand, of which some records were followed.
use Rattle.std.proofs.Common.{◌≡◌, ◌∙◌, sym, subst, ap, ℕ, ◌+◌, ◌-◌, ◌<◌, ◌≤◌, List, [], ◌∷◌, ◌++◌, length, take, drop, refl, arith, inr, ⊎_elim, append_assoc, length-append, length-drop, Option, None, Some}
use Rattle.std.specs.Prelude.{Ok}
use Rattle.std.specs.List.{AllByRecursion}
use Rattle.std.proofs.Math.Seq.{drop-append_seam, take-append_seam}
use Rattle.std.proofs.lemmas.List.{append-nil, drop-append-le, drop-drop}
use Rattle.oper_core.specs.Meaning.{Meaning}
use Rattle.formats.specs.Log.{IsPayload}
use Rattle.formats.specs.Records.{payload_of, record_code}
use Rattle.formats.specs.declared.record.Record.{Record}
use Rattle.formats.specs.declared.record.Record.TheVariants.{Command as Logged_command, Identity as Logged_identity, Checkpoint as Logged_checkpoint}
use Rattle.frame_stream.specs.Frames.{IsUnfinished, frame}
use Rattle.frame_stream.specs.FrameBuffer.{BeginsWith}
use Rattle.frame_stream.specs.Laws.{frame_cancel, length-frame}
use Rattle.log_records.specs.Codec.{StartsWithRecord}
use Rattle.log_records.specs.RecordLaws.{payload_push}
use Rattle.execution.specs.Following.{HasLsn}
use Rattle.standby_node.specs.Feeding.{ComeNext}
use Rattle.standby_node.specs.Standby.{BeginsWithFrameOf, HasBegun, IsWithinFrame, MayBeShipped, StandbyView}
use Rattle.standby_node.specs.Steps.{HasWholeFrame, IsReading, left_of}

-- of the payload of a whole frame these bytes were not followed
pub left_is : (s : StandbyView) (size : ℕ) (whole : HasWholeFrame s size) → s.done ≤ size → left_of s size ≡ drop s.done whole.0
left_is s size whole within =
    let payload = whole.0 in
    let later = whole.1 in
    let rest : List ℕ = drop s.done payload in
    let count : size - s.done ≡ length rest = omega (arith, whole.3, length-drop s.done payload, within) in
    let behind : drop (4 + s.done) s.frames.kept ≡ rest ++ later = sym (drop-drop s.done 4 s.frames.kept) ∙ ap (λ (l : List ℕ). drop s.done (drop 4 l)) whole.4 ∙ drop-append-le s.done payload later (omega (arith, within, whole.3)) in
    (λ i. take (count i) (behind i)) ∙ take-append_seam rest later

-- all its bytes came
pub whole_long : (s : StandbyView) (size : ℕ) → HasWholeFrame s size → 4 + size ≤ length s.frames.kept
whole_long s size whole = omega (arith, ap (λ (l : List ℕ). length l) whole.4, length-append (frame whole.0) whole.1, length-frame whole.0, whole.3)

-- what was read where a frame may begin
pub whole_read : (s : StandbyView) (found : Option ℕ) (size : ℕ) → found ≡ Some size → IsReading s (Ok found) → HasWholeFrame s size
whole_read s found size is reading = subst (λ (o : Option ℕ). IsReading s (Ok o)) is reading

pub none_read : (s : StandbyView) (found : Option ℕ) → found ≡ None → IsReading s (Ok found) → BeginsWith s.frames.kept (Ok None)
none_read s found is reading = subst (λ (o : Option ℕ). IsReading s (Ok o)) is reading

-- of its payload no more bytes were followed than it has
pub within_whole : (s : StandbyView) (size : ℕ) → IsWithinFrame s.frames.kept s.done → HasWholeFrame s size → s.done ≤ size
within_whole s size within whole = ⊎_elim (λ none. omega (arith, none))
    (λ (it : (payload : List ℕ) × (later : List ℕ) × IsPayload payload × (s.frames.kept ≡ frame payload ++ later) × (s.done ≤ length payload)).
    let same = (frame_cancel whole.0 it.0 whole.1 it.1 whole.2 it.2 (sym whole.4 ∙ it.3)).0 in
    omega (arith, it.4, whole.3, ap (λ (l : List ℕ). length l) same)) within

-- and of no frame some, where none is whole
pub none_within : (s : StandbyView) → IsWithinFrame s.frames.kept s.done → IsUnfinished s.frames.kept → s.done ≡ 0
none_within s within none =
    ⊎_elim (λ zero. zero) (λ (it : (payload : List ℕ) × (later : List ℕ) × IsPayload payload × (s.frames.kept ≡ frame payload ++ later) × (s.done ≤ length payload)). absurd (none it.0 it.1 it.2 it.3)) within

-- so they come next
pub comes_next : (s : StandbyView) (size : ℕ) → HasWholeFrame s size → s.done < size → ComeNext s (left_of s size)
comes_next s size whole left = record {
  payload = whole.0;
  later = whole.1;
  is_payload = whole.2;
  stands = whole.4;
  left = omega (arith, left, whole.3);
  rest_is = left_is s size whole (omega (arith, left));
}

module _ {O : Type 0} (m : Meaning O) where
  shipped_more : (begun : List (Record O)) (r : Record O) → AllByRecursion (MayBeShipped m) begun → MayBeShipped m r → AllByRecursion (MayBeShipped m) (begun ++ r ∷ [])
  shipped_more [] r all one = (one, tt)
  shipped_more (first ∷ begun) r all one = (all.0, shipped_more begun r all.1 one)

  pub no_code : (r : Record O) (records : List (Record O)) → payload_of m (r ∷ records) ≡ [] → ⊥
  no_code (Logged_command lsn op) records none = cc
  no_code (Logged_identity lsn x value) records none = cc
  no_code (Logged_checkpoint table) records none = cc

  -- between two frames no record was followed
  pub none_begun : (kept : List ℕ) (begun : List (Record O)) → HasBegun m kept 0 begun → begun ≡ []
  none_begun kept [] has = refl
  none_begun kept (r ∷ begun) has = absurd (no_code r begun (no_bytes (payload_of m (r ∷ begun)) (sym has.count)))
    where
      no_bytes : (l : List ℕ) → length l ≡ 0 → l ≡ []
      no_bytes [] is = refl
      no_bytes (b ∷ l) is = absurd (omega (arith, is))

  module _ (s : StandbyView) (size : ℕ) (whole : HasWholeFrame s size) (left : s.done < size) (r : Record O) (starts : StartsWithRecord m (left_of s size) r) where
    code_next : drop s.done whole.0 ≡ record_code m r ++ starts.rest
    code_next = sym (left_is s size whole (omega (arith, left))) ∙ starts.split

    -- a record ends within the payload
    pub ends_within : s.done + length (record_code m r) ≤ size
    ends_within = omega (arith, whole.3, left, length-drop s.done whole.0, ap (λ (l : List ℕ). length l) code_next, length-append (record_code m r) starts.rest)

  module _ (s : StandbyView) (begun : List (Record O)) (has : HasBegun m s.frames.kept s.done begun) (size : ℕ) (whole : HasWholeFrame s size) where
    -- the payload is the codes of the records that were followed, and the rest
    pub payload_is : whole.0 ≡ payload_of m begun ++ drop s.done whole.0
    payload_is = subst (λ (n : ℕ). whole.0 ≡ payload_of m begun ++ drop n whole.0) (sym has.count) (by_code (payload_of m begun) refl)
      where
        by_code : (code : List ℕ) → payload_of m begun ≡ code → whole.0 ≡ code ++ drop (length code) whole.0
        by_code [] is = refl
        by_code (b ∷ code) is =
            let front = has.front (omega (arith, has.count, ap (λ (l : List ℕ). length l) is)) in
            let rest = front.0 in
            let same : whole.0 ≡ (b ∷ code) ++ rest = (frame_cancel whole.0 (payload_of m begun ++ rest) whole.1 front.1 whole.2 front.2 (sym whole.4 ∙ front.3)).0 ∙ ap (λ (l : List ℕ). l ++ rest) is in
            same ∙ ap (λ (l : List ℕ). (b ∷ code) ++ l) (sym (drop-append_seam (b ∷ code) rest) ∙ ap (λ (l : List ℕ). drop (length (b ∷ code)) l) (sym same))

    -- where all of it was followed the frame is that of these records
    pub whole_begun : s.done ≡ size → BeginsWithFrameOf m s.frames.kept begun
    whole_begun all =
        let none : drop s.done whole.0 ≡ [] = nothing (drop s.done whole.0) (omega (arith, length-drop s.done whole.0, all, whole.3)) in
        let same : whole.0 ≡ payload_of m begun = payload_is ∙ ap (λ (l : List ℕ). payload_of m begun ++ l) none ∙ append-nil (payload_of m begun) in
        (whole.1, subst IsPayload same whole.2, whole.4 ∙ ap (λ (l : List ℕ). frame l ++ whole.1) same)
      where
        nothing : (l : List ℕ) → length l ≡ 0 → l ≡ []
        nothing [] is = refl
        nothing (b ∷ l) is = absurd (omega (arith, is))

    -- and else it is not
    pub not_whole : s.done < size → BeginsWithFrameOf m s.frames.kept begun → ⊥
    not_whole left is =
        let same = (frame_cancel whole.0 (payload_of m begun) whole.1 is.0 whole.2 is.1 (sym whole.4 ∙ is.2)).0 in
        omega (arith, left, ap (λ (l : List ℕ). length l) same, has.count, whole.3)

    -- a record more
    module _ (left : s.done < size) (r : Record O) (starts : StartsWithRecord m (left_of s size) r) (with_lsn : HasLsn r) where
      payload_more : whole.0 ≡ payload_of m (begun ++ r ∷ []) ++ starts.rest
      payload_more =
          payload_is ∙ ap (λ (l : List ℕ). payload_of m begun ++ l) (code_next s size whole left r starts) ∙ sym (append_assoc (payload_of m begun) (record_code m r) starts.rest)
          ∙ ap (λ (l : List ℕ). l ++ starts.rest) (sym (payload_push m begun r))

      pub begun_more : HasBegun m s.frames.kept (s.done + length (record_code m r)) (begun ++ r ∷ [])
      begun_more = record {
        count = omega (arith, has.count, ap (λ (l : List ℕ). length l) (payload_push m begun r), length-append (payload_of m begun) (record_code m r));
        within = inr (whole.0, whole.1, whole.2, whole.4, omega (arith, ends_within s size whole left r starts, whole.3));
        front = λ some. (starts.rest, whole.1, subst IsPayload payload_more whole.2, whole.4 ∙ ap (λ (l : List ℕ). frame l ++ whole.1) payload_more);
        shipped = shipped_more begun r has.shipped (starts.in_grammar, with_lsn);
      }
