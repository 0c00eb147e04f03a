-- A child becomes two: the page above names the new one behind it.
use Rattle.std.proofs.Common.{◌≡◌, ◌⊎◌, inl, inr, ℕ, zero, suc, ◌+◌, ◌<◌, ◌==◌, Bool, true, not, List, [], ◌∷◌, ◌++◌, T, map, flat_map, length, take, drop, Ordering, is_lt, refl, sym, ap, ◌∙◌, subst, arith, append_assoc, slice_index_or, length-append}
use Rattle.std.specs.Prelude.{IsTrue, nat_lt}
use Rattle.std.specs.List.{list_all}
use Rattle.std.specs.Ordering.{ordering_reverse}
use Rattle.std.specs.FinMap.Entries.{by_order, below_all, put, is_sorted, is_sorted-put}
use Rattle.std.specs.Cmp.Lexicographic.{nat_list_cmp_total}
use Rattle.std.proofs.lemmas.Bool.{eq-eqb, lt-ltb, or_left, or_right}
use Rattle.std.proofs.lemmas.List.{length-map}
use Rattle.byteorder.specs.Endian.{little_bytes}
use Rattle.key_entries.specs.Entries.{byte_order}
use Rattle.key_entries.specs.EntryLaws.{both_true, true_both}
use Rattle.key_entries.specs.KeyLaws.{first, second, both, less_if}
use Rattle.page_ops.specs.Page.{Cell}
use Rattle.page_ops.specs.Seen.{child_cell}
use Rattle.page_ops.specs.OnCells.{key_at, replaced, has_above, may_precede}
use Rattle.page_map.specs.Map.{Span, is_below, is_within, Each, all_past, Share, times}
use Rattle.page_map.proofs.MapLemmas.{below_both, not_both, turned, less_is, within_parts, parts_within, lower, upper, lower_within, past_is_above, IsAt, span_of, times_both, with_child}

abbrev pub with_two : {Child : Type 0} → ℕ → Child → List ℕ → Child → List (List ℕ × Child) → List (List ℕ × Child)
with_two i left key right [] = []
with_two zero left key right (c ∷ children) = (c.0, left) ∷ (key, right) ∷ children
with_two (suc i) left key right (c ∷ children) = c ∷ with_two i left key right children

-- ---- cells

-- a key stands before a place: nothing stands there, or a cell with a greater key
abbrev pub Precedes : List Cell → ℕ → List ℕ → Type 0
Precedes cells i key = (length cells ≡ i) ⊎ ((i < length cells) × (is_lt (byte_order key (key_at cells i)) ≡ true))

precedes_later : (c : Cell) (cells : List Cell) (i : ℕ) (key : List ℕ) → Precedes cells i key → Precedes (c ∷ cells) (suc i) key
precedes_later c cells i key (inl e) = inl (ap suc e)
precedes_later c cells i key (inr e) = inr (omega (arith, e.0), e.1)

precedes_earlier : (c : Cell) (cells : List Cell) (i : ℕ) (key : List ℕ) → Precedes (c ∷ cells) (suc i) key → Precedes cells i key
precedes_earlier c cells i key (inl e) = inl (omega (arith, e))
precedes_earlier c cells i key (inr e) = inr (omega (arith, e.0), e.1)

pub may_go : (cells : List Cell) (i : ℕ) (key : List ℕ) → Precedes cells i key → IsTrue (may_precede cells i key)
may_go cells i key (inl e) = or_left (length cells == i) (has_above cells i key) (eq-eqb (length cells) i e)
may_go cells i key (inr e) = or_right (length cells == i) (has_above cells i key) (true_both (nat_lt i (length cells)) (is_lt (byte_order key (key_at cells i))) (lt-ltb i (length cells) e.0) e.1)

put_first : (key value : List ℕ) (cells : List Cell) → Precedes cells 0 key → put byte_order key value cells ≡ (key, value) ∷ cells
put_first key value [] precedes = refl
put_first key value (c ∷ cells) (inl e) = cc
put_first key value (c ∷ cells) (inr e) =
    ap (λ (o : Ordering). by_order o ((key, value) ∷ c ∷ cells) ((c.0, value) ∷ cells) (c ∷ put byte_order key value cells)) (less_is (byte_order key c.0) e.1)

put_behind : (key value : List ℕ) (c : Cell) (cells : List Cell) → is_lt (byte_order c.0 key) ≡ true → put byte_order key value (c ∷ cells) ≡ c ∷ put byte_order key value cells
put_behind key value c cells above =
    ap (λ (o : Ordering). by_order o ((key, value) ∷ c ∷ cells) ((c.0, value) ∷ cells) (c ∷ put byte_order key value cells))
    (turned key c.0 ∙ ap ordering_reverse (less_is (byte_order c.0 key) above))

pub below_at : (x : List ℕ) (cells : List Cell) (i : ℕ) → T (below_all byte_order x cells) → i < length cells → is_lt (byte_order x (key_at cells i)) ≡ true
below_at x [] i all inside = absurd (omega (arith, inside))
below_at x (c ∷ cells) zero all inside = ap is_lt (less_if (byte_order x c.0) (first (is_lt (byte_order x c.0)) (below_all byte_order x cells) all))
below_at x (c ∷ cells) (suc i) all inside = below_at x cells i (second (is_lt (byte_order x c.0)) (below_all byte_order x cells) all) (omega (arith, inside))

abbrev cell_at : List Cell → ℕ → Cell
cell_at cells i = slice_index_or cells i ([], [])

-- a change behind the first cell
replaced_later : (c : Cell) (i : ℕ) (new cells : List Cell) → replaced (suc i) 1 new (c ∷ cells) ≡ c ∷ replaced i 1 new cells
replaced_later c i new cells = let far : suc i + 1 ≡ suc (i + 1) = omega arith in ap (λ (n : ℕ). c ∷ (take i cells ++ (new ++ drop n (c ∷ cells)))) far

-- a cell whose key comes next behind a place stands there in order
put_next : (key value : List ℕ) (cells : List Cell) (i : ℕ) → T (is_sorted byte_order cells) → i < length cells → is_lt (byte_order (key_at cells i) key) ≡ true → Precedes cells (suc i) key
    → replaced i 1 (cell_at cells i ∷ (key, value) ∷ []) cells ≡ put byte_order key value cells
put_next key value [] i rise inside above precedes = absurd (omega (arith, inside))
put_next key value (c ∷ cells) zero rise inside above precedes =
    ap (λ (l : List Cell). c ∷ l) (sym (put_first key value cells (precedes_earlier c cells 0 key precedes))) ∙ sym (put_behind key value c cells above)
put_next key value (c ∷ cells) (suc i) rise inside above precedes =
    let low : i < length cells = omega (arith, inside) in
    let less : is_lt (byte_order c.0 key) ≡ true = below_both c.0 (key_at cells i) key (below_at c.0 cells i (first (below_all byte_order c.0 cells) (is_sorted byte_order cells) rise) low) above in
    replaced_later c i (cell_at cells i ∷ (key, value) ∷ []) cells
    ∙ ap (λ (l : List Cell). c ∷ l) (put_next key value cells i (second (below_all byte_order c.0 cells) (is_sorted byte_order cells) rise) low above (precedes_earlier c cells (suc i) key precedes))
    ∙ sym (put_behind key value c cells less)

-- ---- children

module _ {Child : Type 0} where
  pub at_inside : (children : List (List ℕ × Child)) (i : ℕ) (child : Child) → IsAt i child children → i < length children
  at_inside [] i child at = absurd at
  at_inside (c ∷ children) zero child at = omega arith
  at_inside (c ∷ children) (suc i) child at = omega (arith, at_inside children i child at)

  pub pairs_two : (pairs : Child → List Cell) (children : List (List ℕ × Child)) (i : ℕ) (child left : Child) (key : List ℕ) (right : Child) → IsAt i child children
      → pairs left ++ pairs right ≡ pairs child → flat_map (λ c. pairs c.1) (with_two i left key right children) ≡ flat_map (λ c. pairs c.1) children
  pairs_two pairs [] i child left key right at both = absurd at
  pairs_two pairs (c ∷ children) zero child left key right at both =
      let rest : List Cell = flat_map (λ c. pairs c.1) children in
      sym (append_assoc (pairs left) (pairs right) rest) ∙ ap (λ (l : List Cell). l ++ rest) (both ∙ ap pairs (sym at))
  pairs_two pairs (c ∷ children) (suc i) child left key right at both = ap (λ (l : List Cell). pairs c.1 ++ l) (pairs_two pairs children i child left key right at both)

  pub times_two : (objects : Child → List ℕ) (x : ℕ) (children : List (List ℕ × Child)) (i : ℕ) (child left : Child) (key : List ℕ) (right : Child) → IsAt i child children
      → times x (flat_map (λ c. objects c.1) (with_two i left key right children)) + times x (objects child) ≡ times x (flat_map (λ c. objects c.1) children) + times x (objects left) + times x (objects right)
  times_two objects x [] i child left key right at = absurd at
  times_two objects x (c ∷ children) zero child left key right at =
      let rest : List ℕ = flat_map (λ c. objects c.1) children in
      omega (arith, times_both x (objects left) (objects right ++ rest), times_both x (objects right) rest, times_both x (objects c.1) rest, ap (λ (k : Child). times x (objects k)) at)
  times_two objects x (c ∷ children) (suc i) child left key right at =
      omega (
        arith,
        times_two objects x children i child left key right at,
        times_both x (objects c.1) (flat_map (λ c. objects c.1) (with_two i left key right children)),
        times_both x (objects c.1) (flat_map (λ c. objects c.1) children),
      )

  pub each_two : (P : Child → Type 0) (children : List (List ℕ × Child)) (i : ℕ) (left : Child) (key : List ℕ) (right : Child) → Each P (with_child i left children) → P right → Each P (with_two i left key right children)
  each_two P [] i left key right all new = tt
  each_two P (c ∷ children) zero left key right all new = (all.0, (new, all.1))
  each_two P (c ∷ children) (suc i) left key right all new = (all.0, each_two P children i left key right all.1 new)

  pub keys_two : (test : List ℕ → Bool) (children : List (List ℕ × Child)) (i : ℕ) (left : Child) (key : List ℕ) (right : Child) → IsTrue (list_all (λ c. test c.0) children) → IsTrue (test key)
      → IsTrue (list_all (λ c. test c.0) (with_two i left key right children))
  keys_two test [] i left key right all new = refl
  keys_two test (c ∷ children) zero left key right all new =
      let parts = both_true (test c.0) (list_all (λ c. test c.0) children) all in
      true_both (test c.0) (list_all (λ c. test c.0) ((key, right) ∷ children)) parts.0 (true_both (test key) (list_all (λ c. test c.0) children) new parts.1)
  keys_two test (c ∷ children) (suc i) left key right all new =
      let parts = both_true (test c.0) (list_all (λ c. test c.0) children) all in
      true_both (test c.0) (list_all (λ c. test c.0) (with_two i left key right children)) parts.0 (keys_two test children i left key right parts.1 new)

  -- the spans: the two share that of the child
  module _ (In : Span → Child → Type 0) where
    pub shared_two : (span : Span) (children : List (List ℕ × Child)) (i : ℕ) (child left : Child) (key : List ℕ) (right : Child) → IsAt i child children → Share In span children
        → IsTrue (is_within (span_of span children i) key) → In (lower (span_of span children i) key) left → In (upper (span_of span children i) key) right → Share In span (with_two i left key right children)
    shared_two span [] i child left key right at share within one two = absurd share
    shared_two span (c ∷ []) zero child left key right at share within one two = (share.0, within, one, (refl, two))
    shared_two span (c ∷ []) (suc i) child left key right at share within one two = absurd at
    shared_two span (c ∷ d ∷ children) zero child left key right at share within one two =
        let ends = within_parts (lower span d.0) key within in
        (share.0, lower_within span d.0 key share.1 within, one, (refl, parts_within (upper span key) d.0 (not_both key d.0 ends.1) (within_parts span d.0 share.1).1, two, share.3))
    shared_two span (c ∷ d ∷ children) (suc zero) child left key right at share within one two =
        (share.0, share.1, share.2, shared_two (upper span d.0) (d ∷ children) zero child left key right at share.3 within one two)
    shared_two span (c ∷ d ∷ children) (suc (suc i)) child left key right at share within one two =
        (share.0, share.1, share.2, shared_two (upper span d.0) (d ∷ children) (suc i) child left key right at share.3 within one two)

  -- the cells
  module _ (In : Span → Child → Type 0) (root : Child → ℕ) where
    abbrev cells_of : List (List ℕ × Child) → List Cell
    cells_of children = map (λ c. child_cell c.0 (root c.1)) children

    pub from_is : (span : Span) (children : List (List ℕ × Child)) (past : List Cell) (i : ℕ) (child : Child) → IsAt i child children → Share In span children
        → key_at (cells_of children ++ past) i ≡ (span_of span children i).from
    from_is span [] past i child at share = absurd share
    from_is span (c ∷ []) past zero child at share = share.0
    from_is span (c ∷ []) past (suc i) child at share = absurd at
    from_is span (c ∷ d ∷ children) past zero child at share = share.0
    from_is span (c ∷ d ∷ children) past (suc i) child at share = from_is (upper span d.0) (d ∷ children) past i child at share.3

    pub cell_is : (children : List (List ℕ × Child)) (past : List Cell) (i : ℕ) (child : Child) → IsAt i child children
        → cell_at (cells_of children ++ past) i ≡ child_cell (key_at (cells_of children ++ past) i) (root child)
    cell_is [] past i child at = absurd at
    cell_is (c ∷ children) past zero child at = ap (λ (k : Child). child_cell c.0 (root k)) at
    cell_is (c ∷ children) past (suc i) child at = cell_is children past i child at

    -- a key of the child's span stands before the next cell
    pub precedes_next : (span : Span) (children : List (List ℕ × Child)) (past : List Cell) (i : ℕ) (child : Child) (key : List ℕ) → IsAt i child children → Share In span children → IsTrue (all_past span past)
        → IsTrue (is_below key (span_of span children i).to) → Precedes (cells_of children ++ past) (suc i) key
    precedes_next span [] past i child key at share all below = absurd share
    precedes_next span (c ∷ []) [] zero child key at share all below = inl refl
    precedes_next span (c ∷ []) (p ∷ past) zero child key at share all below =
        inr (omega arith, past_is_above key p.0 span.to below (both_true (not (is_below p.0 span.to)) (all_past span past) all).0)
    precedes_next span (c ∷ []) past (suc i) child key at share all below = absurd at
    precedes_next span (c ∷ d ∷ children) past zero child key at share all below = inr (omega arith, below)
    precedes_next span (c ∷ d ∷ children) past (suc i) child key at share all below =
        precedes_later (child_cell c.0 (root c.1)) (cells_of (d ∷ children) ++ past) (suc i) key (precedes_next (upper span d.0) (d ∷ children) past i child key at share.3 all below)

    pub cells_two : (children : List (List ℕ × Child)) (past : List Cell) (i : ℕ) (child left : Child) (key : List ℕ) (right : Child) → IsAt i child children
        → cells_of (with_two i left key right children) ++ past
        ≡ replaced i 1 (child_cell (key_at (cells_of children ++ past) i) (root left) ∷ child_cell key (root right) ∷ []) (cells_of children ++ past)
    cells_two [] past i child left key right at = absurd at
    cells_two (c ∷ children) past zero child left key right at = refl
    cells_two (c ∷ children) past (suc i) child left key right at =
        ap (λ (l : List Cell). child_cell c.0 (root c.1) ∷ l) (cells_two children past i child left key right at)
        ∙ sym (replaced_later (child_cell c.0 (root c.1)) i (child_cell (key_at (cells_of children ++ past) i) (root left) ∷ child_cell key (root right) ∷ []) (cells_of children ++ past))

    module _ (span : Span) (children : List (List ℕ × Child)) (past : List Cell) (i : ℕ) (child left : Child) (key : List ℕ) (right : Child) (at : IsAt i child children) (share : Share In span children)
        (all : IsTrue (all_past span past)) (above : is_lt (byte_order (span_of span children i).from key) ≡ true) (below : IsTrue (is_below key (span_of span children i).to)) (same : root left ≡ root child)
        (rise : T (is_sorted byte_order (cells_of children ++ past))) where
      abbrev cells : List Cell
      cells = cells_of children ++ past

      pub above_cell : is_lt (byte_order (key_at cells i) key) ≡ true
      above_cell = ap (λ (k : List ℕ). is_lt (byte_order k key)) (from_is span children past i child at share) ∙ above

      pub cell_inside : i < length cells
      cell_inside = omega (arith, at_inside children i child at, length-append (cells_of children) past, length-map children (λ (c : List ℕ × Child). child_cell c.0 (root c.1)))

      pub put_two : cells_of (with_two i left key right children) ++ past ≡ put byte_order key (little_bytes 4 (root right)) cells
      put_two =
          cells_two children past i child left key right at
          ∙ ap (λ (c : Cell). replaced i 1 (c ∷ child_cell key (root right) ∷ []) cells) (ap (child_cell (key_at cells i)) same ∙ sym (cell_is children past i child at))
          ∙ put_next key (little_bytes 4 (root right)) cells i rise cell_inside above_cell (precedes_next span children past i child key at share all below)

      pub two_rise : T (is_sorted byte_order (cells_of (with_two i left key right children) ++ past))
      two_rise = subst (λ (l : List Cell). T (is_sorted byte_order l)) (sym put_two) (is_sorted-put byte_order nat_list_cmp_total key (little_bytes 4 (root right)) cells rise)
