-- How far a reader of redo starts has come.
use Rattle.std.proofs.Common.{◌≡◌, inl, inr, ◌<◌, ◌≤◌, ◌+◌, ℕ, List, [], ◌∷◌, ◌++◌, length, get_or, map, take, sym, ap, ◌∙◌, subst, arith, length-append}
use Rattle.std.specs.List.Sorted.{IsStrictlyIncreasing}
use Rattle.std.proofs.lemmas.List.{take_more, get_or-take, get_or-map, length-take-le, map-append, length-map}
use Rattle.std.proofs.lemmas.List.Elements.{All-push}
use Rattle.std.proofs.Math.ListN.{get_or-append}
use Rattle.std.proofs.Math.Seq.{drop-append_seam}
use Rattle.std.proofs.lemmas.List.{get_or-drop}
use Rattle.std.proofs.lemmas.Bool.{cases_lt}
use Rattle.log_records.specs.Loading.{IsStart, AreStarts}

abbrev objects_of : List (ℕ × ℕ) → List ℕ
objects_of starts = map (λ s. s.0) starts

-- these are redo starts, and this object is the least above theirs
pub record AreSeen (objects base next least : ℕ) (starts : List (ℕ × ℕ)) : Type 0 where
  pub are : AreStarts objects base next starts
  pub above : (k : ℕ) → k < length starts → get_or (objects_of starts) k 0 < least
  pub lowest : (x : ℕ) → ((k : ℕ) → k + 1 ≡ length starts → get_or (objects_of starts) k 0 < x) → least ≤ x

module _ (objects base next : ℕ) where
  at_front : (xs : List ℕ) (x k : ℕ) → k < length xs → get_or (xs ++ x ∷ []) k 0 ≡ get_or xs k 0
  at_front xs x k less = get_or-append xs (x ∷ []) 0 k less

  at_end : (xs : List ℕ) (x k : ℕ) → k ≡ length xs → get_or (xs ++ x ∷ []) k 0 ≡ x
  at_end xs x k is = ap (λ (n : ℕ). get_or (xs ++ x ∷ []) n 0) (is ∙ omega arith) ∙ sym (get_or-drop (length xs) (xs ++ x ∷ []) 0 0) ∙ ap (λ (l : List ℕ). get_or l 0 0) (drop-append_seam xs (x ∷ []))

  -- one pair more, after all of these
  seen_more : (least : ℕ) (starts : List (ℕ × ℕ)) (s : ℕ × ℕ) → AreSeen objects base next least starts → IsStart objects base next least s → AreSeen objects base next (s.0 + 1) (starts ++ s ∷ [])
  seen_more least starts s seen is =
      let xs = objects_of starts in
      let all : objects_of (starts ++ s ∷ []) ≡ xs ++ s.0 ∷ [] = map-append (λ (p : ℕ × ℕ). p.0) starts (s ∷ []) in
      let long : length xs ≡ length starts = length-map starts (λ (p : ℕ × ℕ). p.0) in
      let more : length (xs ++ s.0 ∷ []) ≡ length xs + 1 = length-append xs (s.0 ∷ []) in
      let longer : length (starts ++ s ∷ []) ≡ length starts + 1 = length-append starts (s ∷ []) in
      record {
        are = record {
          rising = subst IsStrictlyIncreasing (sym all) (λ k less. elim (cases_lt (k + 1) (length xs)) [
            | inl inside ↦ omega (arith, seen.are.rising k inside, at_front xs s.0 k (omega (arith, inside)), at_front xs s.0 (k + 1) inside)
            | inr past ↦ omega (arith, seen.above k (omega (arith, less, more, long)), at_front xs s.0 k (omega (arith, less, more)), at_end xs s.0 (k + 1) (omega (arith, less, more, past)), is.0)
          ]);
          there = All-push (λ (p : ℕ × ℕ). p.0 < objects) starts s seen.are.there is.1;
          from_base = All-push (λ (p : ℕ × ℕ). base ≤ p.1) starts s seen.are.from_base is.2;
          before = All-push (λ (p : ℕ × ℕ). p.1 < next) starts s seen.are.before is.3;
        };
        above = λ k less. elim (cases_lt k (length starts)) [
          | inl inside ↦ omega (arith, seen.above k inside, is.0, ap (λ (l : List ℕ). get_or l k 0) all, at_front xs s.0 k (omega (arith, inside, long)))
          | inr past ↦ omega (arith, ap (λ (l : List ℕ). get_or l k 0) all, at_end xs s.0 k (omega (arith, less, past, long, longer)))
        ];
        lowest = λ x last. omega (arith, last (length starts) (sym longer), ap (λ (l : List ℕ). get_or l (length starts) 0) all, at_end xs s.0 (length starts) (sym long));
      }

  -- the next pair of a list is one more
  pub seen_next : (least : ℕ) (starts : List (ℕ × ℕ)) (i : ℕ) (d : ℕ × ℕ) → i < length starts → AreSeen objects base next least (take i starts) → IsStart objects base next least (get_or starts i d)
      → AreSeen objects base next ((get_or starts i d).0 + 1) (take (i + 1) starts)
  seen_next least starts i d within seen is =
      subst (λ (l : List (ℕ × ℕ)). AreSeen objects base next ((get_or starts i d).0 + 1) l) (sym (take_more starts i d within)) (seen_more least (take i starts) (get_or starts i d) seen is)

  -- of redo starts each pair is one
  pub is_next : (least : ℕ) (starts : List (ℕ × ℕ)) (i : ℕ) (d : ℕ × ℕ) → i < length starts → AreSeen objects base next least (take i starts) → AreStarts objects base next starts
      → IsStart objects base next least (get_or starts i d)
  is_next least starts i d within seen are =
      let here : get_or (objects_of starts) i 0 ≡ (get_or starts i d).0 = get_or-map (λ (p : ℕ × ℕ). p.0) starts i d 0 within in
      let long : length (objects_of starts) ≡ length starts = length-map starts (λ (p : ℕ × ℕ). p.0) in
      let taken : length (take i starts) ≡ i = length-take-le i starts (omega (arith, within)) in (
        seen.lowest (get_or starts i d).0 (λ k last.
            let next_is : k + 1 ≡ i = last ∙ taken in
            omega (
              arith,
              are.rising k (omega (arith, within, next_is, long)),
              ap (λ (n : ℕ). get_or (objects_of starts) n 0) next_is,
              here,
              get_or-map (λ (p : ℕ × ℕ). p.0) (take i starts) k d 0 (omega (arith, last)),
              get_or-map (λ (p : ℕ × ℕ). p.0) starts k d 0 (omega (arith, within, next_is)),
              ap (λ (p : ℕ × ℕ). p.0) (get_or-take i starts k d (omega (arith, next_is))),
            )),
        are.there i d within,
        are.from_base i d within,
        are.before i d within,
      )
