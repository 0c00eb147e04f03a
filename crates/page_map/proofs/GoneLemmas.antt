-- Two children beside each other become one: the page above names the one that stays in the place of both.
use Rattle.std.proofs.Common.{◌≡◌, ◌≢◌, ℕ, zero, suc, ◌+◌, ◌<◌, ◌≤◌, Bool, List, [], ◌∷◌, ◌++◌, T, map, flat_map, length, take, drop, is_lt, refl, sym, ap, ◌∙◌, arith, append_assoc}
use Rattle.std.specs.Prelude.{IsTrue}
use Rattle.std.specs.List.{list_all}
use Rattle.std.specs.FinMap.Entries.{below_all, is_sorted}
use Rattle.oper_core.specs.LittleEndian.{length-little_bytes}
use Rattle.key_entries.specs.Entries.{byte_order}
use Rattle.key_entries.specs.EntryLaws.{both_true, true_both}
use Rattle.key_entries.specs.KeyLaws.{both, first, second}
use Rattle.page_ops.specs.Page.{Cell}
use Rattle.page_ops.specs.Seen.{child_cell}
use Rattle.page_ops.specs.OnCells.{key_at, replaced}
use Rattle.page_map.specs.Map.{Span, Each, Share, times}
use Rattle.page_map.specs.Splits.{cell_size, size_of}
use Rattle.page_map.proofs.MapLemmas.{IsAt, span_of, times_both, upper, upper_within}
use Rattle.page_map.proofs.CutLemmas.{pair_size}

abbrev pub with_one : {Child : Type 0} → ℕ → Child → List (List ℕ × Child) → List (List ℕ × Child)
with_one i kid [] = []
with_one zero kid (c ∷ []) = c ∷ []
with_one zero kid (c ∷ d ∷ children) = (c.0, kid) ∷ children
with_one (suc i) kid (c ∷ children) = c ∷ with_one i kid children

-- a change of two behind the first cell
replaced_later : (c : Cell) (i : ℕ) (new cells : List Cell) → replaced (suc i) 2 new (c ∷ cells) ≡ c ∷ replaced i 2 new cells
replaced_later c i new cells = let far : suc i + 2 ≡ suc (i + 2) = omega arith in ap (λ (n : ℕ). c ∷ (take i cells ++ (new ++ drop n (c ∷ cells)))) far

module _ {Child : Type 0} where
  -- the span of both
  abbrev pub joined_span : Span → List (List ℕ × Child) → ℕ → Span
  joined_span span children i = record { from = (span_of span children i).from; to = (span_of span children (suc i)).to }

  pub share_one : (In : Span → Child → Type 0) (span : Span) (children : List (List ℕ × Child)) (i : ℕ) (a b kid : Child) → IsAt i a children → IsAt (suc i) b children → Share In span children
      → In (joined_span span children i) kid → Share In span (with_one i kid children)
  share_one In span [] i a b kid one two share new = absurd one
  share_one In span (c ∷ []) zero a b kid one two share new = absurd two
  share_one In span (c ∷ []) (suc i) a b kid one two share new = absurd one
  share_one In span (c ∷ d ∷ []) zero a b kid one two share new = (share.0, new)
  share_one In span (c ∷ d ∷ e ∷ children) zero a b kid one two share new = (share.0, upper_within span d.0 e.0 share.1 share.3.1, new, share.3.3)
  share_one In span (c ∷ d ∷ []) (suc i) a b kid one two share new = absurd two
  share_one In span (c ∷ d ∷ e ∷ children) (suc zero) a b kid one two share new =
      (share.0, share.1, share.2, share_one In (upper span d.0) (d ∷ e ∷ children) zero a b kid one two share.3 new)
  share_one In span (c ∷ d ∷ e ∷ children) (suc (suc i)) a b kid one two share new =
      (share.0, share.1, share.2, share_one In (upper span d.0) (d ∷ e ∷ children) (suc i) a b kid one two share.3 new)

  pub each_one : (P : Child → Type 0) (children : List (List ℕ × Child)) (i : ℕ) (kid : Child) → Each P children → P kid → Each P (with_one i kid children)
  each_one P [] i kid all new = tt
  each_one P (c ∷ []) zero kid all new = all
  each_one P (c ∷ d ∷ children) zero kid all new = (new, all.1.1)
  each_one P (c ∷ children) (suc i) kid all new = (all.0, each_one P children i kid all.1 new)

  pub each_by : (P : Child → Type 0) (children : List (List ℕ × Child)) → ((j : ℕ) (child : Child) → IsAt j child children → P child) → Each P children
  each_by P [] all = tt
  each_by P (c ∷ children) all = (all 0 c.1 refl, each_by P children (λ j child at. all (suc j) child at))

  pub each_one_but : (P : Child → Type 0) (children : List (List ℕ × Child)) (i : ℕ) (kid : Child) → suc i < length children → ((j : ℕ) (child : Child) → IsAt j child children → j ≢ i → j ≢ suc i → P child) → P kid
      → Each P (with_one i kid children)
  each_one_but P [] i kid inside all new = absurd (omega (arith, inside))
  each_one_but P (c ∷ []) i kid inside all new = absurd (omega (arith, inside))
  each_one_but P (c ∷ d ∷ children) zero kid inside all new =
      (new, each_by P children (λ j child at. all (suc (suc j)) child at (λ e. absurd (omega (arith, e))) (λ e. absurd (omega (arith, e)))))
  each_one_but P (c ∷ d ∷ children) (suc i) kid inside all new = (
    all 0 c.1 refl (λ e. absurd (omega (arith, e))) (λ e. absurd (omega (arith, e))),
    each_one_but P (d ∷ children) i kid (omega (arith, inside)) (λ j child at one two. all (suc j) child at (λ e. one (omega (arith, e))) (λ e. two (omega (arith, e)))) new,
  )

  pub keys_one : (test : List ℕ → Bool) (children : List (List ℕ × Child)) (i : ℕ) (kid : Child) → IsTrue (list_all (λ c. test c.0) children) → IsTrue (list_all (λ c. test c.0) (with_one i kid children))
  keys_one test [] i kid all = refl
  keys_one test (c ∷ []) zero kid all = all
  keys_one test (c ∷ d ∷ children) zero kid all =
      let one = both_true (test c.0) (list_all (λ c. test c.0) (d ∷ children)) all in
      true_both (test c.0) (list_all (λ c. test c.0) children) one.0 (both_true (test d.0) (list_all (λ c. test c.0) children) one.1).1
  keys_one test (c ∷ children) (suc i) kid all =
      let one = both_true (test c.0) (list_all (λ c. test c.0) children) all in
      true_both (test c.0) (list_all (λ c. test c.0) (with_one i kid children)) one.0 (keys_one test children i kid one.1)

  pub pairs_one : (pairs : Child → List Cell) (children : List (List ℕ × Child)) (i : ℕ) (a b kid : Child) → IsAt i a children → IsAt (suc i) b children → pairs a ++ pairs b ≡ pairs kid
      → flat_map (λ c. pairs c.1) (with_one i kid children) ≡ flat_map (λ c. pairs c.1) children
  pairs_one pairs [] i a b kid one two both = absurd one
  pairs_one pairs (c ∷ []) zero a b kid one two both = absurd two
  pairs_one pairs (c ∷ d ∷ children) zero a b kid one two both =
      let rest : List Cell = flat_map (λ c. pairs c.1) children in
      ap (λ (l : List Cell). l ++ rest) (sym both) ∙ append_assoc (pairs a) (pairs b) rest ∙ (λ k. pairs (sym one k) ++ (pairs (sym two k) ++ rest))
  pairs_one pairs (c ∷ children) (suc i) a b kid one two both = ap (λ (l : List Cell). pairs c.1 ++ l) (pairs_one pairs children i a b kid one two both)

  pub times_one : (objects : Child → List ℕ) (y : ℕ) (children : List (List ℕ × Child)) (i : ℕ) (a b kid gone : Child) → IsAt i a children → IsAt (suc i) b children
      → times y (objects a) + times y (objects b) ≡ times y (objects kid) + times y (objects gone)
      → times y (flat_map (λ c. objects c.1) (with_one i kid children)) + times y (objects gone) ≡ times y (flat_map (λ c. objects c.1) children)
  times_one objects y [] i a b kid gone one two both = absurd one
  times_one objects y (c ∷ []) zero a b kid gone one two both = absurd two
  times_one objects y (c ∷ d ∷ children) zero a b kid gone one two both =
      let rest : List ℕ = flat_map (λ c. objects c.1) children in
      omega (
        arith,
        both,
        times_both y (objects kid) rest,
        times_both y (objects c.1) (objects d.1 ++ rest),
        times_both y (objects d.1) rest,
        ap (λ (k : Child). times y (objects k)) one,
        ap (λ (k : Child). times y (objects k)) two,
      )
  times_one objects y (c ∷ children) (suc i) a b kid gone one two both =
      omega (
        arith,
        times_one objects y children i a b kid gone one two both,
        times_both y (objects c.1) (flat_map (λ c. objects c.1) (with_one i kid children)),
        times_both y (objects c.1) (flat_map (λ c. objects c.1) children),
      )

  module _ (root : Child → ℕ) where
    abbrev cells_of : List (List ℕ × Child) → List Cell
    cells_of children = map (λ c. child_cell c.0 (root c.1)) children

    pub cells_one : (children : List (List ℕ × Child)) (past : List Cell) (i : ℕ) (a b kid : Child) → IsAt i a children → IsAt (suc i) b children
        → cells_of (with_one i kid children) ++ past ≡ replaced i 2 (child_cell (key_at (cells_of children ++ past) i) (root kid) ∷ []) (cells_of children ++ past)
    cells_one [] past i a b kid one two = absurd one
    cells_one (c ∷ []) past zero a b kid one two = absurd two
    cells_one (c ∷ d ∷ children) past zero a b kid one two = refl
    cells_one (c ∷ children) past (suc i) a b kid one two =
        ap (λ (l : List Cell). child_cell c.0 (root c.1) ∷ l) (cells_one children past i a b kid one two)
        ∙ sym (replaced_later (child_cell c.0 (root c.1)) i (child_cell (key_at (cells_of children ++ past) i) (root kid) ∷ []) (cells_of children ++ past))

    below_one : (x : List ℕ) (children : List (List ℕ × Child)) (past : List Cell) (i : ℕ) (kid : Child) → T (below_all byte_order x (cells_of children ++ past))
        → T (below_all byte_order x (cells_of (with_one i kid children) ++ past))
    below_one x [] past i kid all = all
    below_one x (c ∷ []) past zero kid all = all
    below_one x (c ∷ d ∷ children) past zero kid all =
        let others : List Cell = cells_of children ++ past in
        both (is_lt (byte_order x c.0)) (below_all byte_order x others) (first (is_lt (byte_order x c.0)) (below_all byte_order x (child_cell d.0 (root d.1) ∷ others)) all)
        (second (is_lt (byte_order x d.0)) (below_all byte_order x others) (second (is_lt (byte_order x c.0)) (below_all byte_order x (child_cell d.0 (root d.1) ∷ others)) all))
    below_one x (c ∷ children) past (suc i) kid all =
        let others : List Cell = cells_of children ++ past in
        both (is_lt (byte_order x c.0)) (below_all byte_order x (cells_of (with_one i kid children) ++ past)) (first (is_lt (byte_order x c.0)) (below_all byte_order x others) all)
        (below_one x children past i kid (second (is_lt (byte_order x c.0)) (below_all byte_order x others) all))

    pub rise_one : (children : List (List ℕ × Child)) (past : List Cell) (i : ℕ) (kid : Child) → T (is_sorted byte_order (cells_of children ++ past)) → T (is_sorted byte_order (cells_of (with_one i kid children) ++ past))
    rise_one [] past i kid rise = rise
    rise_one (c ∷ []) past zero kid rise = rise
    rise_one (c ∷ d ∷ children) past zero kid rise =
        let others : List Cell = cells_of children ++ past in
        let next : List Cell = child_cell d.0 (root d.1) ∷ others in
        both (below_all byte_order c.0 others) (is_sorted byte_order others)
        (second (is_lt (byte_order c.0 d.0)) (below_all byte_order c.0 others) (first (below_all byte_order c.0 next) (is_sorted byte_order next) rise))
        (second (below_all byte_order d.0 others) (is_sorted byte_order others) (second (below_all byte_order c.0 next) (is_sorted byte_order next) rise))
    rise_one (c ∷ children) past (suc i) kid rise =
        let others : List Cell = cells_of children ++ past in
        let new : List Cell = cells_of (with_one i kid children) ++ past in
        both (below_all byte_order c.0 new) (is_sorted byte_order new) (below_one c.0 children past i kid (first (below_all byte_order c.0 others) (is_sorted byte_order others) rise))
        (rise_one children past i kid (second (below_all byte_order c.0 others) (is_sorted byte_order others) rise))

    same_size : (key : List ℕ) (x y : ℕ) → cell_size (child_cell key x) ≡ cell_size (child_cell key y)
    same_size key x y = omega (arith, pair_size (child_cell key x), pair_size (child_cell key y), length-little_bytes 4 x, length-little_bytes 4 y)

    pub size_one : (children : List (List ℕ × Child)) (past : List Cell) (i : ℕ) (kid : Child) → size_of (cells_of (with_one i kid children) ++ past) ≤ size_of (cells_of children ++ past)
    size_one [] past i kid = omega arith
    size_one (c ∷ []) past zero kid = omega arith
    size_one (c ∷ d ∷ children) past zero kid = omega (arith, same_size c.0 (root kid) (root c.1))
    size_one (c ∷ children) past (suc i) kid = omega (arith, size_one children past i kid)

    pub two_inside : (children : List (List ℕ × Child)) (past : List Cell) (i : ℕ) (b : Child) → IsAt (suc i) b children → i + 2 ≤ length (cells_of children ++ past)
    two_inside [] past i b two = absurd two
    two_inside (c ∷ []) past zero b two = absurd two
    two_inside (c ∷ []) past (suc i) b two = absurd two
    two_inside (c ∷ d ∷ children) past zero b two = omega arith
    two_inside (c ∷ d ∷ children) past (suc i) b two = omega (arith, two_inside (d ∷ children) past i b two)

  -- a child at a place
  pub child_there : (children : List (List ℕ × Child)) (i : ℕ) → i < length children → (child : Child) × IsAt i child children
  child_there [] i inside = absurd (omega (arith, inside))
  child_there (c ∷ children) zero inside = (c.1, refl)
  child_there (c ∷ children) (suc i) inside = child_there children i (omega (arith, inside))
