-- Pairs that are read leaf by leaf, and what the calls answer.
use Rattle.std.proofs.Common.{◌≡◌, ◌<◌, ◌≤◌, refl, sym, ap, ◌∙◌, ℕ, suc, Option, None, Some, Result, Ok, Err, List, [], ◌∷◌}
use Rattle.std.specs.Prelude.{nat_lt, option_to_list, slice_get, take}
use Rattle.std.proofs.lemmas.Bool.{cond-false, cond-true, le-ltb, lt-ltb}
use Rattle.std.proofs.lemmas.List.{append-nil}
use Rattle.oper_core.specs.State.{State}
use Rattle.oper_core.specs.declared.bounds.Bounds.{Bounds}
use Rattle.page_ops.specs.Page.{Cell}
use Rattle.page_map.specs.Map.{Span}
use Rattle.page_map.specs.Ranges.{and_then, back_answer, back_from, from_end, range_answer, range_from}
use Rattle.range_calls.specs.declared.call_err.CallErr.TheVariants.{Refused}
use Rattle.map_client.specs.Answers.{MapErr, told}
use Rattle.map_client.specs.Ranging.{back_told, range_told}
use Rattle.map_client.specs.RangingWay.{before}
use Rattle.map_client.specs.declared.call_refusal.CallRefusal.TheVariants.{NoObject}

-- over so many leaves it goes on behind one of them
module _ (read : ℕ → Result (List Cell) ℕ) (so_far : List Cell) (leaves left : ℕ) (more : leaves ≡ suc left) where
  pub goes_to : (pairs : List Cell) (rest : ℕ → Result (List Cell) ℕ) → ((n : ℕ) → and_then (Ok so_far) (read (suc n)) ≡ and_then (Ok pairs) (rest n)) → and_then (Ok so_far) (read leaves) ≡ and_then (Ok pairs) (rest left)
  goes_to pairs rest goes = ap (λ (n : ℕ). and_then (Ok so_far) (read n)) more ∙ goes left

  pub meets_bad : (e : MapErr) → ((n : ℕ) → told (read (suc n)) ≡ Err e) → told (and_then (Ok so_far) (read leaves)) ≡ Err e
  meets_bad e bad = ap (λ (n : ℕ). told (and_then (Ok so_far) (read n))) more ∙ by_rest (read (suc left)) (bad left)
    where
      by_rest : (r : Result (List Cell) ℕ) → told r ≡ Err e → told (and_then (Ok so_far) r) ≡ Err e
      by_rest (Ok pairs) is = cc is
      by_rest (Err x) is = is

-- where nothing follows, it is all
pub all_read : (pairs : List Cell) (rest : Result (List Cell) ℕ) → rest ≡ Ok [] → and_then (Ok pairs) rest ≡ Ok pairs
all_read pairs rest none = ap (and_then (Ok pairs)) none ∙ ap (λ (l : List Cell). (let r : Result (List Cell) ℕ = Ok l in r)) (append-nil pairs)

-- and where nothing was read before, it is the rest
pub none_before : (r : Result (List Cell) ℕ) → and_then (Ok []) r ≡ r
none_before (Ok pairs) = refl
none_before (Err x) = refl

pub no_end : (on : Span → Result (List Cell) ℕ) (span : Span) (next : Option (List ℕ)) → next ≡ None → from_end [] on span next ≡ Ok []
no_end on span next none = ap (from_end [] on span) none

pub no_begin : (on : Span → Result (List Cell) ℕ) (span : Span) (begin : Option (List ℕ)) → begin ≡ None → before on span begin ≡ Ok []
no_begin on span begin none = ap (before on span) none

-- where it goes on depends on one end of the span alone
pub same_begin : (on : Span → Result (List Cell) ℕ) (from : List ℕ) (one two begin : Option (List ℕ)) → before on (record { from = from; to = one }) begin ≡ before on (record { from = from; to = two }) begin
same_begin on from one two None = refl
same_begin on from one two (Some key) = refl

-- no leaf is left that may be looked at
module _ (lo hi : ℕ) (s : State) (left leaves : ℕ) (span : Span) (none : leaves ≡ 0) where
  pub no_leaf_behind : (next : Option (List ℕ)) → from_end [] (range_from lo hi s leaves left) span next ≡ Ok []
  no_leaf_behind next = ap (λ (n : ℕ). from_end [] (range_from lo hi s n left) span next) none ∙ nothing next
    where
      nothing : (o : Option (List ℕ)) → from_end [] (range_from lo hi s 0 left) span o ≡ Ok []
      nothing None = refl
      nothing (Some key) = refl

  pub no_leaf_before : (begin : Option (List ℕ)) → before (back_from lo hi s leaves left) span begin ≡ Ok []
  no_leaf_before begin = ap (λ (n : ℕ). before (back_from lo hi s n left) span begin) none ∙ nothing begin
    where
      nothing : (o : Option (List ℕ)) → before (back_from lo hi s 0 left) span o ≡ Ok []
      nothing None = refl
      nothing (Some key) = refl

-- ---- what the calls answer

module _ (b : Bounds) (lo hi : ℕ) (s : State) (span : Span) (most : ℕ) where
  pub range_past : b.objects ≤ hi → range_told b lo hi s span most ≡ Err (Refused NoObject)
  range_past past = cond-false (nat_lt hi b.objects) (told (range_answer lo hi s span most)) (Err (Refused NoObject)) (le-ltb hi b.objects past)

  pub range_within : hi < b.objects → range_told b lo hi s span most ≡ told (range_answer lo hi s span most)
  range_within within = cond-true (nat_lt hi b.objects) (told (range_answer lo hi s span most)) (Err (Refused NoObject)) (lt-ltb hi b.objects within)

  pub back_past : b.objects ≤ hi → back_told b lo hi s span most ≡ Err (Refused NoObject)
  back_past past = cond-false (nat_lt hi b.objects) (told (back_answer lo hi s span most)) (Err (Refused NoObject)) (le-ltb hi b.objects past)

  pub back_within : hi < b.objects → back_told b lo hi s span most ≡ told (back_answer lo hi s span most)
  back_within within = cond-true (nat_lt hi b.objects) (told (back_answer lo hi s span most)) (Err (Refused NoObject)) (lt-ltb hi b.objects within)

-- the first of some pairs
pub one_pair : (pairs : List Cell) (first : Option Cell) → first ≡ slice_get (take 1 pairs) 0 → take 1 pairs ≡ option_to_list first
one_pair [] first is = ap option_to_list (sym is)
one_pair (pair ∷ pairs) first is = ap option_to_list (sym is)
