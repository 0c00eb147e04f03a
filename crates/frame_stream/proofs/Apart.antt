-- Frames one after the other, told apart by their lengths.
use Rattle.std.proofs.Common.{◌≡◌, ◌∙◌, sym, ap, ℕ, List, [], ◌∷◌, ◌++◌, refl, append_assoc}
use Rattle.std.specs.List.{AllByRecursion}
use Rattle.formats.specs.Log.{IsPayload}
use Rattle.frame_stream.specs.Frames.{frame, frames, IsUnfinished, Splits}
use Rattle.frame_stream.specs.Laws.{frame_cancel}

pub one_way : (ps qs : List (List ℕ)) (x y : List ℕ) → AllByRecursion IsPayload ps → AllByRecursion IsPayload qs → IsUnfinished x → IsUnfinished y → frames ps ++ x ≡ frames qs ++ y → (ps ≡ qs) × (x ≡ y)
one_way [] [] x y all_p all_q none_x none_y same = (refl, same)
one_way [] (q ∷ qs) x y all_p all_q none_x none_y same = absurd (none_x q (frames qs ++ y) all_q.0 (same ∙ append_assoc (frame q) (frames qs) y))
one_way (p ∷ ps) [] x y all_p all_q none_x none_y same = absurd (none_y p (frames ps ++ x) all_p.0 (sym same ∙ append_assoc (frame p) (frames ps) x))
one_way (p ∷ ps) (q ∷ qs) x y all_p all_q none_x none_y same =
    let first = frame_cancel p q (frames ps ++ x) (frames qs ++ y) all_p.0 all_q.0 (sym (append_assoc (frame p) (frames ps) x) ∙ same ∙ append_assoc (frame q) (frames qs) y) in
    let more = one_way ps qs x y all_p.1 all_q.1 none_x none_y first.1 in
    ((λ i. first.0 i ∷ more.0 i), more.1)

pub frames_append : (ps qs : List (List ℕ)) → frames (ps ++ qs) ≡ frames ps ++ frames qs
frames_append [] qs = refl
frames_append (p ∷ ps) qs = ap (λ (l : List ℕ). frame p ++ l) (frames_append ps qs) ∙ sym (append_assoc (frame p) (frames ps) (frames qs))

pub all_append : (ps qs : List (List ℕ)) → AllByRecursion IsPayload ps → AllByRecursion IsPayload qs → AllByRecursion IsPayload (ps ++ qs)
all_append [] qs a b = b
all_append (p ∷ ps) qs a b = (a.0, all_append ps qs a.1 b)

pub in_pieces : (bytes piece : List ℕ) (payloads more : List (List ℕ)) (rest last : List ℕ) → Splits bytes payloads rest → Splits (rest ++ piece) more last → Splits (bytes ++ piece) (payloads ++ more) last
in_pieces bytes piece payloads more rest last a b = record {
  is = ap (λ (l : List ℕ). l ++ piece) a.is ∙ append_assoc (frames payloads) rest piece ∙ ap (λ (l : List ℕ). frames payloads ++ l) b.is
      ∙ sym (append_assoc (frames payloads) (frames more) last) ∙ ap (λ (l : List ℕ). l ++ last) (sym (frames_append payloads more));
  whole = all_append payloads more a.whole b.whole;
  unfinished = b.unfinished;
}
