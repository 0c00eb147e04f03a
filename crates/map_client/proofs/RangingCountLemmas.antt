-- What the leaf of a key says of a count from that key on.
use Rattle.std.proofs.Common.{◌≡◌, ◌<◌, ◌≤◌, refl, sym, ap, ◌∙◌, ℕ, suc, ◌+◌, ◌-◌, arith, Bool, true, false, if◌then◌else◌, Option, None, Some, Result, Ok, Err, List, option_map}
use Rattle.std.specs.Prelude.{nat_lt}
use Rattle.std.proofs.lemmas.Bool.{cond-false, cond-true, le-ltb, lt-ltb}
use Rattle.oper_core.specs.State.{State}
use Rattle.oper_core.specs.declared.bounds.Bounds.{Bounds}
use Rattle.key_entries.specs.EntryLaws.{if_some, same_some}
use Rattle.page_map.specs.Map.{Span, bytes_at, is_below}
use Rattle.page_map.specs.Ranges.{Stop, and_count, count_answer, count_at, count_from, from_end, stop, under_key}
use Rattle.page_map.specs.Ranges as ranges
use Rattle.page_map.specs.Steps.{Places, places_in}
use Rattle.page_map.specs.Walk.{is_on}
use Rattle.range_calls.specs.declared.call_err.CallErr.TheVariants.{Refused}
use Rattle.map_client.specs.Answers.{MapErr, bad_map, or_bad, told}
use Rattle.map_client.specs.Ranging.{count_of, count_on, count_told}
use Rattle.map_client.specs.RangingWay.{CountGoesOn, CountIsBad, IsOnWay}
use Rattle.map_client.specs.declared.call_refusal.CallRefusal.TheVariants.{NoObject}
use Rattle.map_client.proofs.WalkLemmas.{was_bad, was_read}

module _ (lo hi : ℕ) (s : State) (span : Span) where
  abbrev at : ℕ → List ℕ
  at x = bytes_at lo s x

  abbrev on : ℕ → Span → Result ℕ ℕ
  on n = count_from lo hi s n

  -- a count goes on at the leaf where there are keys to count, or else is none
  leaf_next : (n : ℕ) → is_below span.from span.to ≡ true → on (suc n) span ≡ count_at lo hi s (on n) span (stop lo hi s (under_key span.from))
  leaf_next n asked = cond-true (is_below span.from span.to) (count_at lo hi s (on n) span (stop lo hi s (under_key span.from))) (Ok 0) asked

  pub none_counted : is_below span.from span.to ≡ false → (n : ℕ) → on (suc n) span ≡ and_count 0 (from_end 0 (on n) span None)
  none_counted none n = cond-false (is_below span.from span.to) (count_at lo hi s (on n) span (stop lo hi s (under_key span.from))) (Ok 0) none

  -- the way to the leaf is bad
  pub way_is_bad : is_below span.from span.to ≡ true → (e : MapErr) → told (stop lo hi s (under_key span.from)) ≡ Err e → (n : ℕ) → told (on (suc n) span) ≡ Err e
  way_is_bad asked e is n = ap told (leaf_next n asked) ∙ by_stop (stop lo hi s (under_key span.from)) is
    where
      by_stop : (r : Result Stop ℕ) → told r ≡ Err e → told (count_at lo hi s (on n) span r) ≡ Err e
      by_stop (Ok leaf) same = cc
      by_stop (Err bad) same = cc same

  module _ (x : ℕ) (from : List ℕ) (end : Option (List ℕ)) (way : IsOnWay lo hi s (under_key span.from) 0 x (record { from = from; to = end })) (asked : is_below span.from span.to ≡ true) where
    abbrev leaf : Stop
    leaf = record { object = x; span = record { from = from; to = end } }

    abbrev counted : ℕ → Option Places → Result ℕ ℕ
    counted n places = ranges.count_on lo hi s (on n) span leaf (ranges.or_bad x places)

    to_leaf : (n : ℕ) → on (suc n) span ≡ count_at lo hi s (on n) span (if is_on 0 (at x) then Ok leaf else Err x)
    to_leaf n = leaf_next n asked ∙ ap (count_at lo hi s (on n) span) way.goes_on

    -- its pairs are counted, or it is bad
    pub leaf_counted : (count : ℕ) → Ok count ≡ or_bad x (count_on (at x) span end) → (n : ℕ) → on (suc n) span ≡ and_count count (from_end 0 (on n) span end)
    leaf_counted count is n =
        let there = if_some (is_on 0 (at x)) (option_map count_of (places_in (at x) span end)) count (was_read x (count_on (at x) span end) count is) in
        let here : Result Stop ℕ = Ok leaf in
        to_leaf n ∙ ap (count_at lo hi s (on n) span) (cond-true (is_on 0 (at x)) here (Err x) there.0) ∙ by_places (places_in (at x) span end) there.1
      where
        by_places : (places : Option Places) → option_map count_of places ≡ Some count → counted n places ≡ and_count count (from_end 0 (on n) span end)
        by_places None same = cc
        by_places (Some places) same = ap (λ (k : ℕ). and_count k (from_end 0 (on n) span end)) (same_some places.count count same)

    pub leaf_is_bad : (e : MapErr) → Err e ≡ or_bad x (count_on (at x) span end) → (n : ℕ) → told (on (suc n) span) ≡ Err e
    leaf_is_bad e is n =
        let bad = was_bad x (count_on (at x) span end) e is in
        ap told (to_leaf n) ∙ by_page (is_on 0 (at x)) bad.0 ∙ ap (λ (o : MapErr). Err o) (sym bad.1)
      where
        by_places : (places : Option Places) → option_map count_of places ≡ None → told (counted n places) ≡ Err (bad_map x)
        by_places None same = refl
        by_places (Some places) same = cc

        by_page : (t : Bool) → (if t then option_map count_of (places_in (at x) span end) else None) ≡ None → told (count_at lo hi s (on n) span (if t then Ok leaf else Err x)) ≡ Err (bad_map x)
        by_page true same = by_places (places_in (at x) span end) same
        by_page false same = refl

-- ---- leaf by leaf

both_counts : (one two : ℕ) (r : Result ℕ ℕ) → and_count one (and_count two r) ≡ and_count (one + two) r
both_counts one two (Err bad) = refl
both_counts one two (Ok n) = let same : one + (two + n) ≡ one + two + n = omega arith in ap (λ (k : ℕ). (let r : Result ℕ ℕ = Ok k in r)) same

-- a count is so much so far, and the rest is counted from a key on, over so many leaves at most
module _ (lo hi : ℕ) (s : State) (to : Option (List ℕ)) (all : Result ℕ ℕ) (from : List ℕ) (total : ℕ) where
  abbrev here : Span
  here = record { from = from; to = to }

  abbrev rest : ℕ → Result ℕ ℕ
  rest n = count_from lo hi s n here

  module _ (left : ℕ) (so_far : all ≡ and_count total (rest left)) where
    one_more : 0 < left → all ≡ and_count total (rest (suc (left - 1)))
    one_more some = let same : left ≡ suc (left - 1) = omega (arith, some) in so_far ∙ ap (λ (n : ℕ). and_count total (rest n)) same

    pub next_counted : 0 < left → (count : ℕ) (next : Option (List ℕ)) → CountGoesOn lo hi s here count next → all ≡ and_count (total + count) (from_end 0 (count_from lo hi s (left - 1)) here next)
    next_counted some count next goes = one_more some ∙ ap (and_count total) (goes (left - 1)) ∙ both_counts total count (from_end 0 (count_from lo hi s (left - 1)) here next)

    pub count_is_bad : 0 < left → (e : MapErr) → CountIsBad lo hi s here e → told all ≡ Err e
    count_is_bad some e bad = ap told (one_more some) ∙ by_rest (rest (suc (left - 1))) (bad (left - 1))
      where
        by_rest : (r : Result ℕ ℕ) → told r ≡ Err e → told (and_count total r) ≡ Err e
        by_rest (Ok n) same = cc
        by_rest (Err x) same = same

-- where it goes on depends on the end of the span alone
pub same_end : {A : Type 0} (none : A) (on : Span → Result A ℕ) (one two : List ℕ) (to end : Option (List ℕ)) → from_end none on (record { from = one; to = to }) end ≡ from_end none on (record { from = two; to = to }) end
same_end none on one two to None = refl
same_end none on one two to (Some key) = refl

-- where no leaf is left, or none may be looked at, it is all
module _ (lo hi : ℕ) (s : State) (span : Span) (all : Result ℕ ℕ) (total : ℕ) where
  only_total : all ≡ and_count total (Ok 0) → all ≡ Ok total
  only_total is = let same : total + 0 ≡ total = omega arith in is ∙ ap (λ (k : ℕ). (let r : Result ℕ ℕ = Ok k in r)) same

  pub no_next : (left : ℕ) (next : Option (List ℕ)) → next ≡ None → all ≡ and_count total (from_end 0 (count_from lo hi s left) span next) → all ≡ Ok total
  no_next left next none is = only_total (is ∙ ap (λ (o : Option (List ℕ)). and_count total (from_end 0 (count_from lo hi s left) span o)) none)

  pub none_left : (left : ℕ) (next : Option (List ℕ)) → left ≡ 0 → all ≡ and_count total (from_end 0 (count_from lo hi s left) span next) → all ≡ Ok total
  none_left left next none is = only_total (is ∙ ap (λ (n : ℕ). and_count total (from_end 0 (count_from lo hi s n) span next)) none ∙ ap (and_count total) (nothing next))
    where
      nothing : (o : Option (List ℕ)) → from_end 0 (count_from lo hi s 0) span o ≡ Ok 0
      nothing None = refl
      nothing (Some key) = refl

-- ---- what the call answers

module _ (b : Bounds) (lo hi : ℕ) (s : State) (span : Span) where
  pub count_past : b.objects ≤ hi → count_told b lo hi s span ≡ Err (Refused NoObject)
  count_past past = cond-false (nat_lt hi b.objects) (told (count_answer lo hi s span)) (Err (Refused NoObject)) (le-ltb hi b.objects past)

  pub count_within : hi < b.objects → count_told b lo hi s span ≡ told (count_answer lo hi s span)
  count_within within = cond-true (nat_lt hi b.objects) (told (count_answer lo hi s span)) (Err (Refused NoObject)) (lt-ltb hi b.objects within)
