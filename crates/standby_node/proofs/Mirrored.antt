-- The whole frames of a stream are compared, one after the other.
use Rattle.std.proofs.Common.{◌≡◌, ◌∙◌, sym, subst, ap, ℕ, ◌+◌, ◌-◌, ◌<◌, ◌≤◌, List, [], ◌∷◌, ◌++◌, length, take, drop, refl, arith, append_assoc, length-append}
use Rattle.std.specs.Prelude.{Some, true, false, Ok, Err}
use Rattle.std.specs.List.{AllByRecursion}
use Rattle.std.proofs.Math.Seq.{take-append_seam}
use Rattle.oper_core.specs.Meaning.{Meaning}
use Rattle.oper_core.specs.declared.bounds.Bounds.{Bounds}
use Rattle.formats.specs.Log.{IsPayload}
use Rattle.formats.specs.Records.{records_of}
use Rattle.formats.specs.declared.record.Record.{Record}
use Rattle.frame_stream.specs.Frames.{frame, frames}
use Rattle.frame_stream.specs.FrameBuffer.{BeginsWith, FrameBufferView, HasPassed}
use Rattle.frame_stream.specs.Laws.{frame_cancel, length-frame}
use Rattle.standby_node.specs.Same.{AreSame, BeginsNoFrame, ComparesFrame, ComparesPiece, HasCompared, IsPayloadCompared, IsUnlikeIn, IsUnlikeWithin, MirrorView, Unlike, with_all}
use Rattle.standby_node.specs.Same.Unlike.{other, gone}
use Rattle.standby_node.specs.Standby.{AreFramesOf, IsFrameOf}
use Rattle.standby_node.specs.declared.compare_err.CompareErr.{CompareErr}
use Rattle.standby_node.specs.declared.compare_err.CompareErr.TheVariants.{Differs, Unknown, Memory}
use Rattle.standby_node.proofs.Compared.{all_joined, same_joined}
use Rattle.standby_node.proofs.Ends.{frames_join, records_more}

-- the payload of a whole frame, where it stands
pub payload_there : (kept : List ℕ) (size : ℕ) (whole : BeginsWith kept (Ok (Some size))) → take size (drop 4 kept) ≡ whole.0
payload_there kept size whole = (λ i. take (whole.3 i) (drop 4 (whole.4 i))) ∙ take-append_seam whole.0 whole.1

pub frame_long : (kept : List ℕ) (size : ℕ) → BeginsWith kept (Ok (Some size)) → 4 + size ≤ length kept
frame_long kept size whole = omega (arith, ap (λ (l : List ℕ). length l) whole.4, length-append (frame whole.0) whole.1, length-frame whole.0, whole.3)

module _ {O : Type 0} (m : Meaning O) (first : List (List ℕ)) (bytes : List ℕ) (it : MirrorView) (size : ℕ) (whole : BeginsWith it.frames.kept (Ok (Some size))) (h : HasCompared m first bytes it) (codes : List (List ℕ)) (payload : List ℕ) (payload_is : payload ≡ whole.0) where
  -- all records of the next frame are the same
  pub frame_same : IsPayloadCompared it.base m it.codes codes payload (Ok true) → (frames : FrameBufferView) → ((payloads : List (List ℕ)) → HasPassed bytes payloads it.frames → HasPassed bytes (payloads ++ whole.0 ∷ []) frames)
      → HasCompared m first bytes (record it { codes = codes; frames = frames })
  frame_same compared frames passed =
      let records = compared.0 in
      let before = records_of h.groups in
      let all = records_more h.groups records in
      record {
        payloads = h.payloads ++ whole.0 ∷ [];
        groups = h.groups ++ records ∷ [];
        passed = passed h.payloads h.passed;
        frames_are = frames_join m h.payloads (whole.0 ∷ []) h.groups (records ∷ []) h.frames_are (subst (λ (l : List ℕ). IsFrameOf m l records) payload_is compared.1, tt);
        same = subst (λ (rs : List (Record O)). AreSame it.base m first rs) (sym all) (same_joined it.base m first before records h.same (subst (λ (l : List (List ℕ)). AreSame it.base m l records) h.codes_are compared.2));
        codes_are = compared.3 ∙ ap (λ (l : List (List ℕ)). with_all it.base m l records) h.codes_are ∙ sym (all_joined it.base m first before records) ∙ ap (λ (rs : List (Record O)). with_all it.base m first rs) (sym all);
      }

  -- it is none of records
  pub no_frame_of : IsPayloadCompared it.base m it.codes codes payload (Ok false) → HasCompared m first bytes (record it { codes = codes }) × BeginsNoFrame m it.frames.kept
  no_frame_of compared = (
    record { payloads = h.payloads; groups = h.groups; passed = h.passed; frames_are = h.frames_are; same = h.same; codes_are = compared.0 ∙ h.codes_are },
    λ other later records is_payload is stands. compared.1 records (subst (λ (l : List ℕ). IsFrameOf m l records) (sym (frame_cancel whole.0 other whole.1 later whole.2 is_payload (sym whole.4 ∙ stands)).0 ∙ sym payload_is) is),
  )

  unlike_frame : (why : Unlike) → IsUnlikeWithin it.base m it.codes payload why → IsUnlikeIn it.base m first bytes why
  unlike_frame why unlike = record {
    payloads = h.payloads;
    groups = h.groups;
    payload = whole.0;
    more = whole.1;
    whole = h.passed.whole;
    frames_are = h.frames_are;
    is_payload = whole.2;
    split = h.passed.is ∙ ap (λ (l : List ℕ). frames h.payloads ++ l) whole.4;
    same = h.same;
    unlike = subst (λ (l : List (List ℕ)). IsUnlikeWithin it.base m l whole.0 why) h.codes_are (subst (λ (l : List ℕ). IsUnlikeWithin it.base m it.codes l why) payload_is unlike);
  }

  -- or one of them is not
  pub frame_unlike : (e : CompareErr) → IsPayloadCompared it.base m it.codes codes payload (Err e) → ComparesFrame m first bytes (record it { codes = codes }) (Err e)
  frame_unlike (Differs n) compared = unlike_frame (other n) compared
  frame_unlike (Unknown n) compared = unlike_frame (gone n) compared
  frame_unlike Memory compared = tt

pub same_from : {O : Type 0} (meaning : Bounds → Meaning O) (parts now : MirrorView) → parts ≡ now → (first : List (List ℕ)) (bytes : List ℕ) (size : ℕ) (codes : List (List ℕ)) (payload : List ℕ) → payload ≡ take size (drop 4 parts.frames.kept)
    → IsPayloadCompared parts.base (meaning parts.bounds) parts.codes codes payload (Ok true) → (frames : FrameBufferView)
    → ((bytes payload later : List ℕ) (payloads : List (List ℕ)) → HasPassed bytes payloads parts.frames → IsPayload payload → size ≡ length payload → parts.frames.kept ≡ frame payload ++ later → HasPassed bytes (payloads ++ payload ∷ []) frames)
    → BeginsWith now.frames.kept (Ok (Some size)) → HasCompared (meaning now.bounds) first bytes now → HasCompared (meaning now.bounds) first bytes (record parts { codes = codes; frames = frames })
same_from meaning parts now view first bytes size codes payload payload_is compared frames passed =
    subst (λ (s : MirrorView). BeginsWith s.frames.kept (Ok (Some size)) → HasCompared (meaning s.bounds) first bytes s → HasCompared (meaning s.bounds) first bytes (record parts { codes = codes; frames = frames })) view
    (λ whole h. frame_same (meaning parts.bounds) first bytes parts size whole h codes payload (payload_is ∙ payload_there parts.frames.kept size whole) compared frames (λ payloads before. passed bytes whole.0 whole.1 payloads before whole.2 whole.3 whole.4))

-- a frame that was compared is one of the piece that came
module _ {O : Type 0} (m : Meaning O) where
  pub as_piece : (first : List (List ℕ)) (bytes : List ℕ) (one other : MirrorView) (e : CompareErr) → other.base ≡ one.base → ComparesFrame m first bytes one (Err e) → ComparesPiece m first bytes other (Err e)
  as_piece first bytes one last (Differs n) base is = subst (λ (b : ℕ). IsUnlikeIn b m first bytes (other n)) (sym base) is
  as_piece first bytes one last (Unknown n) base is = subst (λ (b : ℕ). IsUnlikeIn b m first bytes (gone n)) (sym base) is
  as_piece first bytes one last Memory base is = tt

  -- a piece more came
  pub with_piece : (first : List (List ℕ)) (bytes piece : List ℕ) (it : MirrorView) → HasCompared m first bytes it → (frames : FrameBufferView) → ((bytes : List ℕ) (payloads : List (List ℕ)) → HasPassed bytes payloads it.frames → HasPassed (bytes ++ piece) payloads frames) → HasCompared m first (bytes ++ piece) (record it { frames = frames })
  with_piece first bytes piece it h frames passed = record { payloads = h.payloads; groups = h.groups; passed = passed bytes h.payloads h.passed; frames_are = h.frames_are; same = h.same; codes_are = h.codes_are }
