-- The walk from leaf to leaf reads the pairs of the map in a span.
use Rattle.std.proofs.Common.{◌≡◌, ◌⊎◌, inl, inr, ℕ, zero, suc, ◌+◌, ◌-◌, ◌^◌, ◌<◌, ◌≤◌, Bool, true, false, cond, not, ◌&&◌, if◌then◌else◌, Option, None, Some, Result, Ok, List, [], ◌∷◌, ◌++◌, T, length, take, reverse, is_lt, refl, sym, ap, ◌∙◌, subst, arith, append_assoc, true≢false, flat_map}
use Rattle.std.specs.Prelude.{IsTrue, nat_lt}
use Rattle.std.specs.List.{list_all}
use Rattle.std.specs.Cmp.Lexicographic.{nat_list_cmp_total}
use Rattle.std.specs.FinMap.{entries, entries_sorted, get-entries, get-from_entries}
use Rattle.std.specs.FinMap.Entries.{below_all, is_sorted, same_entries}
use Rattle.std.proofs.lemmas.List.{append-nil, length-append, length-reverse, reverse-append}
use Rattle.std.proofs.lemmas.List.Concat.{flat_map-append}
use Rattle.std.proofs.lemmas.List.Elements.{filter-append}
use Rattle.std.proofs.lemmas.Bool.{ltb-false}
use Rattle.oper_core.specs.State.{State}
use Rattle.key_entries.specs.Entries.{byte_order}
use Rattle.key_entries.specs.EntryLaws.{both_true, same_some}
use Rattle.key_entries.specs.KeyLaws.{both, first, second, same_key}
use Rattle.page_ops.specs.Page.{Cell}
use Rattle.page_ops.specs.Reading.{level_in}
use Rattle.page_ops.specs.Search.{last_under}
use Rattle.page_map.specs.Map.{Span, Leaf, Tree, IsHeld, Each, Share, StandIn, Holds, IsMap, all_keys, all_within, bytes_at, content_of, is_below, is_within, one_if, pairs_in, root_of}
use Rattle.page_map.specs.Reads.{back_of, count_of, range_of}
use Rattle.page_map.specs.Ranges.{Stop, and_count, and_then, back_answer, back_at, back_from, back_on, count_answer, count_at, count_from, count_on, falling, from_end, or_bad, pairs_at, places_at, range_answer, range_at, range_from, range_on, stop, stop_from, under_key}
use Rattle.page_map.specs.Splits.{front_of}
use Rattle.page_map.specs.Steps.{Places, first_places, last_below, last_places}
use Rattle.page_map.proofs.MapLemmas.{Searches, all_both, below_both, below_through, ends_too, in_all, lower, not_below_itself, not_true, pairs_within, root_held, upper, wider, within_parts}
use Rattle.page_map.proofs.CutLemmas.{ReadsCells, front_is, not_below_none, sorted_parts}
use Rattle.page_map.proofs.TreeLemmas.{HoldsChild}
use Rattle.page_map.proofs.WayLemmas.{from_below}
use Rattle.page_map.proofs.LeafLemmas.{EndsIn, IsAmong, Stops, front_below, leaf_pairs, leaves, leaves_are_few, leaves_pairs, leaves_share, leaves_within, below_end, last_in, picks_below, picks_under, rest_share, share_key, starts, stop_found, under_held}
use Rattle.page_map.proofs.StepLemmas.{Finds, falling_is, first_held, kept, last_held, places_held, places_of}

-- ---- the pairs of a tree rise

below_cons : (x : List ℕ) (cells : List Cell) → IsTrue (list_all (λ c. is_lt (byte_order x c.0)) cells) → T (below_all byte_order x cells)
below_cons x [] all = tt
below_cons x (c ∷ cells) all =
    let parts = both_true (is_lt (byte_order x c.0)) (list_all (λ c. is_lt (byte_order x c.0)) cells) all in
    both (is_lt (byte_order x c.0)) (below_all byte_order x cells) (subst (λ (b : Bool). T b) (sym parts.0) tt) (below_cons x cells parts.1)

above_all : (x : List ℕ) (cells : List Cell) → T (below_all byte_order x cells) → IsTrue (list_all (λ c. is_lt (byte_order x c.0)) cells)
above_all x [] all = refl
above_all x (c ∷ cells) all =
    let here : is_lt (byte_order x c.0) ≡ true = truly (is_lt (byte_order x c.0)) (first (is_lt (byte_order x c.0)) (below_all byte_order x cells) all) in
    ap (λ (b : Bool). b && list_all (λ c. is_lt (byte_order x c.0)) cells) here ∙ above_all x cells (second (is_lt (byte_order x c.0)) (below_all byte_order x cells) all)
  where
    truly : (b : Bool) → T b → b ≡ true
    truly true t = refl
    truly false t = absurd t

-- cells that rise below a key, and others that rise from it on
sorted_both : (key : List ℕ) (a b : List Cell) → T (is_sorted byte_order a) → T (is_sorted byte_order b) → IsTrue (list_all (λ c. is_lt (byte_order c.0 key)) a)
    → IsTrue (list_all (λ c. not (is_lt (byte_order c.0 key))) b) → T (is_sorted byte_order (a ++ b))
sorted_both key [] b one two low high = two
sorted_both key (c ∷ a) b one two low high =
    let parts = both_true (is_lt (byte_order c.0 key)) (list_all (λ c. is_lt (byte_order c.0 key)) a) low in
    let near : IsTrue (list_all (λ d. is_lt (byte_order c.0 d.0)) a) = above_all c.0 a (first (below_all byte_order c.0 a) (is_sorted byte_order a) one) in
    let far : IsTrue (list_all (λ d. is_lt (byte_order c.0 d.0)) b) =
    wider (λ k. not (is_lt (byte_order k key))) (λ k. is_lt (byte_order c.0 k)) (λ k e. below_through c.0 key k parts.0 (not_true (is_lt (byte_order k key)) e)) b high in
    both (below_all byte_order c.0 (a ++ b)) (is_sorted byte_order (a ++ b)) (below_cons c.0 (a ++ b) (all_both (λ k. is_lt (byte_order c.0 k)) a b near far))
    (sorted_both key a b (second (below_all byte_order c.0 a) (is_sorted byte_order a) one) two parts.1 high)

module _ (lo hi : ℕ) (s : State) where
  module _ {Child : Type 0} (In : Span → Child → Type 0) (Held : Child → Type 0) (pairs : Child → List Cell) (inside : (span : Span) (child : Child) → In span child → IsTrue (all_within span (pairs child)))
      (rises : (span : Span) (child : Child) → Held child → In span child → T (is_sorted byte_order (pairs child))) (all_inside : (span : Span) (children : List (List ℕ × Child)) → Share In span children
      → IsTrue (all_within span (flat_map (λ c. pairs c.1) children))) where
    children_rise : (span : Span) (children : List (List ℕ × Child)) → Each Held children → Share In span children → T (is_sorted byte_order (flat_map (λ c. pairs c.1) children))
    children_rise span [] held share = absurd share
    children_rise span (c ∷ []) held share = subst (λ (l : List Cell). T (is_sorted byte_order l)) (sym (append-nil (pairs c.1))) (rises span c.1 held.0 share.1)
    children_rise span (c ∷ d ∷ children) held share =
        let others : List Cell = flat_map (λ c. pairs c.1) (d ∷ children) in
        sorted_both d.0 (pairs c.1) others (rises (lower span d.0) c.1 held.0 share.2) (children_rise (upper span d.0) (d ∷ children) held.1 share.3)
        (wider (is_within (lower span d.0)) (λ k. is_lt (byte_order k d.0)) (λ k e. (within_parts (lower span d.0) k e).1) (pairs c.1) (inside (lower span d.0) c.1 share.2))
        (wider (is_within (upper span d.0)) (λ k. not (is_lt (byte_order k d.0))) (λ k e. (both_true (not (is_lt (byte_order k d.0))) (is_below k span.to) e).0) others
        (all_inside (upper span d.0) (d ∷ children) share.3))

  pub pairs_rise : (level : ℕ) (span : Span) (t : Tree level) → Holds lo hi s level t → StandIn level span t → T (is_sorted byte_order (pairs_in level t))
  pairs_rise zero span t holds stand = (sorted_parts t.cells t.past holds.rise).0
  pairs_rise (suc level) span t holds stand =
      children_rise (StandIn level) (HoldsChild lo hi s level) (pairs_in level) (pairs_within level) (λ span child held stands. pairs_rise level span child held.1 stands)
      (λ span children share. pairs_within (suc level) span (record { object = 0; children = children; past = [] }) (share, refl)) span t.children holds.1 stand.0

  -- they are the entries of the map
  pub entries_are : (is : IsMap lo hi s) → entries (content_of is) ≡ pairs_in is.level is.tree
  entries_are is =
      let pairs : List Cell = pairs_in is.level is.tree in
      same_entries byte_order nat_list_cmp_total same_key (entries (content_of is)) pairs (entries_sorted (content_of is)) (pairs_rise is.level all_keys is.tree is.holds is.stand)
      (λ q. sym (get-entries (content_of is) q) ∙ get-from_entries nat_list_cmp_total pairs q)

-- ---- what is kept of a list

kept_both : (w : Span) (a b : List Cell) → kept w (a ++ b) ≡ kept w a ++ kept w b
kept_both w a b = filter-append (λ (c : Cell). is_within w c.0) a b

none_kept : (w : Span) (test : List ℕ → Bool) → ((key : List ℕ) → IsTrue (test key) → is_within w key ≡ false) → (cells : List Cell) → IsTrue (list_all (λ c. test c.0) cells) → kept w cells ≡ []
none_kept w test out [] all = refl
none_kept w test out (c ∷ cells) all =
    let parts = both_true (test c.0) (list_all (λ c. test c.0) cells) all in
    ap (λ (b : Bool). cond b (c ∷ kept w cells) (kept w cells)) (out c.0 parts.0) ∙ none_kept w test out cells parts.1

same_kept : (w v : Span) (test : List ℕ → Bool) → ((key : List ℕ) → IsTrue (test key) → is_within w key ≡ is_within v key) → (cells : List Cell) → IsTrue (list_all (λ c. test c.0) cells) → kept w cells ≡ kept v cells
same_kept w v test same [] all = refl
same_kept w v test same (c ∷ cells) all =
    let parts = both_true (test c.0) (list_all (λ c. test c.0) cells) all in
    (λ k. cond (same c.0 parts.0 k) (c ∷ same_kept w v test same cells parts.1 k) (same_kept w v test same cells parts.1 k))

any_key : (cells : List Cell) → IsTrue (list_all (λ c. true) cells)
any_key [] = refl
any_key (c ∷ cells) = any_key cells

take_both : {A : Type 0} (n : ℕ) (a b : List A) → take n (a ++ b) ≡ take n a ++ take (n - length a) b
take_both zero a b = let none : 0 ≡ 0 - length a = omega arith in ap (λ (k : ℕ). take k b) none
take_both (suc n) [] b = let same : suc n ≡ suc n - 0 = omega arith in ap (λ (k : ℕ). take k b) same
take_both {A = A} (suc n) (x ∷ a) b =
    let same : n - length a ≡ suc n - suc (length a) = omega arith in
    ap (λ (l : List A). x ∷ l) (take_both n a b ∙ ap (λ (k : ℕ). take n a ++ take k b) same)

not_reached : (key : List ℕ) (w : Span) → is_lt (byte_order key w.from) ≡ true → is_within w key ≡ false
not_reached key w e = ap (λ (b : Bool). not b && is_below key w.to) e

and_false : (b : Bool) → (b && false) ≡ false
and_false true = refl
and_false false = refl

not_inside : (key : List ℕ) (w : Span) → is_below key w.to ≡ false → is_within w key ≡ false
not_inside key w e = ap (λ (b : Bool). not (is_lt (byte_order key w.from)) && b) e ∙ and_false (not (is_lt (byte_order key w.from)))

past_end : (from key : List ℕ) (to : Option (List ℕ)) → is_lt (byte_order key from) ≡ false → is_below from to ≡ false → is_below key to ≡ false
past_end from key None reached none = absurd (true≢false none)
past_end from key (Some end) reached none =
    elim (is_lt (byte_order key end)) as (λ t. is_lt (byte_order key end) ≡ t → t ≡ false) [
      | true ↦ λ e. absurd (true≢false (sym (below_through key end from e none) ∙ reached))
      | false ↦ λ e. refl
    ] refl

-- of a span that ends where it begins nothing is kept
empty_span : (w : Span) → is_below w.from w.to ≡ false → (key : List ℕ) → is_within w key ≡ false
empty_span w none key =
    elim (is_lt (byte_order key w.from)) as (λ t. is_lt (byte_order key w.from) ≡ t → is_within w key ≡ false) [
      | true ↦ λ e. not_reached key w e
      | false ↦ λ e. not_inside key w (past_end w.from key w.to e none)
    ] refl

none_in : (w : Span) → is_below w.from w.to ≡ false → (cells : List Cell) → kept w cells ≡ []
none_in w none cells = none_kept w (λ key. true) (λ key u. empty_span w none key) cells (any_key cells)

nothing_asked : (most : ℕ) (w : Span) → (nat_lt 0 most && is_below w.from w.to) ≡ false → (most ≡ 0) ⊎ ((cells : List Cell) → kept w cells ≡ [])
nothing_asked most w none =
    elim (nat_lt 0 most) as (λ t. nat_lt 0 most ≡ t → (t && is_below w.from w.to) ≡ false → (most ≡ 0) ⊎ ((cells : List Cell) → kept w cells ≡ [])) [
      | true ↦ λ e f. inr (none_in w f)
      | false ↦ λ e f. inl (omega (arith, ltb-false 0 most e))
    ] refl none

-- a key from another on that is above a third is not below that
later_too : (key from low : List ℕ) → is_lt (byte_order low from) ≡ true → is_lt (byte_order key from) ≡ false → is_lt (byte_order key low) ≡ false
later_too key from low less reached =
    elim (is_lt (byte_order key low)) as (λ t. is_lt (byte_order key low) ≡ t → t ≡ false) [
      | true ↦ λ e. absurd (true≢false (sym (below_both key low from e less) ∙ reached))
      | false ↦ λ e. refl
    ] refl

-- ---- how many leaves are still to come

-- the leaves that begin above a key
abbrev ahead : List ℕ → List (List ℕ × Leaf) → ℕ
ahead key [] = 0
ahead key (c ∷ xs) = one_if (is_lt (byte_order key c.0)) + ahead key xs

ahead_most : (key : List ℕ) (xs : List (List ℕ × Leaf)) → ahead key xs ≤ length xs
ahead_most key [] = omega arith
ahead_most key (c ∷ xs) =
    elim (is_lt (byte_order key c.0)) as (λ t. one_if t + ahead key xs ≤ suc (length xs)) [ true ↦ omega (arith, ahead_most key xs) | false ↦ omega (arith, ahead_most key xs) ]

ahead_first : (key : List ℕ) (xs : List (List ℕ × Leaf)) → Share (StandIn zero) all_keys xs → ahead key xs < length xs
ahead_first key [] share = absurd share
ahead_first key (c ∷ xs) share =
    omega (arith, ahead_most key xs, ap one_if (ap (λ (k : List ℕ). is_lt (byte_order key k)) (share_key (StandIn zero) all_keys c xs share) ∙ not_below_none key))

ahead_fewer : (q k : List ℕ) → is_lt (byte_order q k) ≡ true → (xs : List (List ℕ × Leaf)) → ahead k xs ≤ ahead q xs
ahead_fewer q k less [] = omega arith
ahead_fewer q k less (c ∷ xs) =
    elim (is_lt (byte_order k c.0)) as (λ t. is_lt (byte_order k c.0) ≡ t → one_if t + ahead k xs ≤ one_if (is_lt (byte_order q c.0)) + ahead q xs) [
      | true ↦ λ e. omega (arith, ap one_if (below_both q k c.0 less e), ahead_fewer q k less xs)
      | false ↦ λ e. omega (arith, ahead_fewer q k less xs)
    ] refl

ahead_less : (q : List ℕ) (front : List (List ℕ × Leaf)) (y : List ℕ × Leaf) (back : List (List ℕ × Leaf)) → is_lt (byte_order q y.0) ≡ true → ahead y.0 (front ++ y ∷ back) < ahead q (front ++ y ∷ back)
ahead_less q [] y back less = omega (arith, ap one_if (not_below_itself y.0), ap one_if less, ahead_fewer q y.0 less back)
ahead_less q (c ∷ front) y back less =
    let xs : List (List ℕ × Leaf) = front ++ y ∷ back in
    elim (is_lt (byte_order y.0 c.0)) as (λ t. is_lt (byte_order y.0 c.0) ≡ t → one_if t + ahead y.0 xs < one_if (is_lt (byte_order q c.0)) + ahead q xs) [
      | true ↦ λ e. omega (arith, ap one_if (below_both q y.0 c.0 less e), ahead_less q front y back less)
      | false ↦ λ e. omega (arith, ahead_less q front y back less)
    ] refl

-- and those that begin below an end
abbrev before : Option (List ℕ) → List (List ℕ × Leaf) → ℕ
before end [] = 0
before end (c ∷ xs) = one_if (is_below c.0 end) + before end xs

before_most : (end : Option (List ℕ)) (xs : List (List ℕ × Leaf)) → before end xs ≤ length xs
before_most end [] = omega arith
before_most end (c ∷ xs) = elim (is_below c.0 end) as (λ t. one_if t + before end xs ≤ suc (length xs)) [ true ↦ omega (arith, before_most end xs) | false ↦ omega (arith, before_most end xs) ]

before_fewer : (key : List ℕ) (end : Option (List ℕ)) → IsTrue (is_below key end) → (xs : List (List ℕ × Leaf)) → before (Some key) xs ≤ before end xs
before_fewer key end less [] = omega arith
before_fewer key end less (c ∷ xs) =
    elim (is_lt (byte_order c.0 key)) as (λ t. is_lt (byte_order c.0 key) ≡ t → one_if t + before (Some key) xs ≤ one_if (is_below c.0 end) + before end xs) [
      | true ↦ λ e. omega (arith, ap one_if (ends_too c.0 key end e less), before_fewer key end less xs)
      | false ↦ λ e. omega (arith, before_fewer key end less xs)
    ] refl

before_less : (end : Option (List ℕ)) (front : List (List ℕ × Leaf)) (y : List ℕ × Leaf) (back : List (List ℕ × Leaf)) → IsTrue (is_below y.0 end) → before (Some y.0) (front ++ y ∷ back) < before end (front ++ y ∷ back)
before_less end [] y back less = omega (arith, ap one_if (not_below_itself y.0), ap one_if less, before_fewer y.0 end less back)
before_less end (c ∷ front) y back less =
    let xs : List (List ℕ × Leaf) = front ++ y ∷ back in
    elim (is_lt (byte_order c.0 y.0)) as (λ t. is_lt (byte_order c.0 y.0) ≡ t → one_if t + before (Some y.0) xs < one_if (is_below c.0 end) + before end xs) [
      | true ↦ λ e. omega (arith, ap one_if (ends_too c.0 y.0 end e less), before_less end front y back less)
      | false ↦ λ e. omega (arith, before_less end front y back less)
    ] refl

-- ---- one leaf of a walk

module _ (searches : Searches) (finds : Finds) (reads : ReadsCells) (lo hi : ℕ) (small : hi < 2 ^ 32) (s : State) (is : IsMap lo hi s) where
  abbrev level : ℕ
  level = is.level

  abbrev t : Tree level
  t = is.tree

  abbrev pairs : List Cell
  pairs = pairs_in level t

  abbrev all : List (List ℕ × Leaf)
  all = leaves level [] t

  share : Share (StandIn zero) all_keys all
  share = leaves_share level all_keys t is.stand

  few : length all ≤ suc hi - lo
  few = leaves_are_few lo hi s level [] t (omega (arith, is.root)) (omega (arith, is.root, is.order)) is.holds is.once

  stop_is : (choose : List ℕ → Option ℕ) → stop lo hi s choose ≡ stop_from lo hi s choose level (root_of level t) all_keys
  stop_is choose =
      let top : level_in (bytes_at lo s lo) ≡ level = ap (λ (x : ℕ). level_in (bytes_at lo s x)) (sym is.root) ∙ ap level_in (root_held searches lo hi small s [] level t is.holds).code in
      (λ k. stop_from lo hi s choose (top k) (sym is.root k) all_keys)

  module _ (at : Stop) (among : IsAmong searches reads lo hi small s level all_keys t at) (w : Span) where
    abbrev cells : List Cell
    cells = among.leaf.cells

    abbrev here : List ℕ × Leaf
    here = (at.span.from, among.leaf)

    abbrev front : List Cell
    front = leaf_pairs among.front

    abbrev back : List Cell
    back = leaf_pairs among.back

    share_here : Share (StandIn zero) all_keys (among.front ++ here ∷ among.back)
    share_here = subst (λ (l : List (List ℕ × Leaf)). Share (StandIn zero) all_keys l) among.split share

    pairs_are : pairs ≡ leaf_pairs (among.front ++ here ∷ among.back)
    pairs_are = leaves_pairs level [] t ∙ ap leaf_pairs among.split

    parts : pairs ≡ front ++ (cells ++ back)
    parts = pairs_are ∙ flat_map-append (λ (c : List ℕ × Leaf). c.1.cells) among.front (here ∷ among.back)

    below_here : IsTrue (list_all (λ c. is_lt (byte_order c.0 at.span.from)) front)
    below_here = front_below all_keys among.front here among.back share_here

    abbrev in_page : List Cell
    in_page = cells ++ among.leaf.past

    held_there : IsHeld 0 (bytes_at lo s at.object) in_page
    held_there = subst (λ (x : ℕ). IsHeld 0 (bytes_at lo s x) in_page) (sym among.object) among.held

    front_cells : front_of at.span.to in_page ≡ cells
    front_cells = front_is at.span.to cells among.leaf.past (wider (is_within at.span) (λ k. is_below k at.span.to) (λ k e. (within_parts at.span k e).1) cells among.stands.0) among.stands.1

    -- where its pairs in the span stand, and the first of them and the last ones
    abbrev places : Places
    places = places_of searches finds reads (bytes_at lo s at.object) in_page held_there w at.span.to

    places_are : places_at lo hi s w at ≡ Ok places
    places_are = ap (or_bad at.object) (places_held searches finds reads (bytes_at lo s at.object) in_page held_there w at.span.to)

    count_kept : places.count ≡ length (kept w cells)
    count_kept = ap (λ (l : List Cell). length (kept w l)) front_cells

    first_read : (most : ℕ) → pairs_at lo hi s at (first_places most places) ≡ Ok (take most (kept w cells))
    first_read most =
        ap (or_bad at.object) (first_held searches finds reads (bytes_at lo s at.object) in_page held_there w at.span.to most)
        ∙ ap (λ (l : List Cell). Ok (take most (kept w l))) front_cells

    last_read : (most : ℕ) → falling (pairs_at lo hi s at (last_places most places)) ≡ Ok (take most (reverse (kept w cells)))
    last_read most =
        ap (λ (o : Option (List Cell)). falling (or_bad at.object o)) (last_held searches finds reads (bytes_at lo s at.object) in_page held_there w at.span.to most)
        ∙ ap (λ (l : List Cell). Ok l) (falling_is most (kept w (front_of at.span.to in_page)) ∙ ap (λ (l : List Cell). take most (reverse (kept w l))) front_cells)

    -- from a key in it on: its pairs, and then those from its end on
    abbrev behind : Option (List ℕ) → List Cell
    behind None = []
    behind (Some key) = kept (record { from = key; to = w.to }) pairs

    module _ (within : IsTrue (is_within at.span w.from)) where
      none_before : kept w front ≡ []
      none_before =
          none_kept w (λ k. is_lt (byte_order k at.span.from)) (λ key e. not_reached key w (below_through key at.span.from w.from e (within_parts at.span w.from within).0)) front below_here

      ends_above : (key : List ℕ) → at.span.to ≡ Some key → is_lt (byte_order w.from key) ≡ true
      ends_above key e = ap (is_below w.from) (sym e) ∙ (within_parts at.span w.from within).1

      kept_here : kept w (front ++ (cells ++ [])) ≡ kept w cells
      kept_here = kept_both w front (cells ++ []) ∙ ap (λ (l : List Cell). l ++ kept w (cells ++ [])) none_before ∙ ap (kept w) (append-nil cells)

      next_kept : (y : List ℕ × Leaf) (others : List (List ℕ × Leaf)) → at.span.to ≡ Some y.0 → Share (StandIn zero) all_keys (among.front ++ here ∷ y ∷ others) → pairs ≡ leaf_pairs (among.front ++ here ∷ y ∷ others)
          → kept w pairs ≡ kept w cells ++ behind (Some y.0)
      next_kept y others to share' split =
          let v : Span = record { from = y.0; to = w.to } in
          let first : List (List ℕ × Leaf) = among.front ++ here ∷ [] in
          let a : List Cell = leaf_pairs first in
          let b : List Cell = leaf_pairs (y ∷ others) in
          let order : is_lt (byte_order w.from y.0) ≡ true = ends_above y.0 to in
          let turn : first ++ y ∷ others ≡ among.front ++ here ∷ y ∷ others = append_assoc among.front (here ∷ []) (y ∷ others) in
          let shared : Share (StandIn zero) all_keys (first ++ y ∷ others) = subst (λ (l : List (List ℕ × Leaf)). Share (StandIn zero) all_keys l) (sym turn) share' in
          let low : IsTrue (list_all (λ c. is_lt (byte_order c.0 y.0)) a) = front_below all_keys first y others shared in
          let high : IsTrue (all_within (upper all_keys y.0) b) = leaves_within (upper all_keys y.0) (y ∷ others) (rest_share (StandIn zero) all_keys first y others shared) in
          let all_is : pairs ≡ a ++ b = split ∙ ap leaf_pairs (sym turn) ∙ flat_map-append (λ (c : List ℕ × Leaf). c.1.cells) first (y ∷ others) in
          let first_is : kept w a ≡ kept w cells = ap (kept w) (flat_map-append (λ (c : List ℕ × Leaf). c.1.cells) among.front (here ∷ [])) ∙ kept_here in
          let rest_is : kept w b ≡ kept v b =
          same_kept w v (is_within (upper all_keys y.0))
          (λ key e.
          let reached : is_lt (byte_order key y.0) ≡ false = (within_parts (upper all_keys y.0) key e).0 in
          ap (λ (t : Bool). not t && is_below key w.to) (later_too key y.0 w.from order reached ∙ sym reached)) b high in
          let behind_is : kept v pairs ≡ kept v b =
          ap (kept v) all_is ∙ kept_both v a b ∙ ap (λ (l : List Cell). l ++ kept v b) (none_kept v (λ k. is_lt (byte_order k y.0)) (λ key e. not_reached key v e) a low) in
          ap (kept w) all_is ∙ kept_both w a b ∙ (λ k. first_is k ++ (rest_is ∙ sym behind_is) k)

      kept_on : (others : List (List ℕ × Leaf)) (o : Option (List ℕ)) → starts others None ≡ o → at.span.to ≡ o → Share (StandIn zero) all_keys (among.front ++ here ∷ others) → pairs ≡ leaf_pairs (among.front ++ here ∷ others)
          → kept w pairs ≡ kept w cells ++ behind o
      kept_on [] None e to share' split = ap (kept w) (split ∙ flat_map-append (λ (c : List ℕ × Leaf). c.1.cells) among.front (here ∷ [])) ∙ kept_here ∙ sym (append-nil (kept w cells))
      kept_on [] (Some key) e to share' split = cc
      kept_on (y ∷ others) None e to share' split = cc
      kept_on (y ∷ others) (Some key) e to share' split =
          subst (λ (o : Option (List ℕ)). kept w pairs ≡ kept w cells ++ behind o) e (next_kept y others (to ∙ sym e) share' split)

      forward : (o : Option (List ℕ)) → at.span.to ≡ o → kept w pairs ≡ kept w cells ++ behind o
      forward o e = kept_on among.back o (sym among.ends ∙ e) e share_here pairs_are

      fewer_on : (others : List (List ℕ × Leaf)) (key : List ℕ) → starts others None ≡ Some key → at.span.to ≡ Some key → ahead key (among.front ++ here ∷ others) < ahead w.from (among.front ++ here ∷ others)
      fewer_on [] key e to = cc
      fewer_on (y ∷ others) key e to =
          let first : List (List ℕ × Leaf) = among.front ++ here ∷ [] in
          let turn : first ++ y ∷ others ≡ among.front ++ here ∷ y ∷ others = append_assoc among.front (here ∷ []) (y ∷ others) in
          let less : ahead y.0 (among.front ++ here ∷ y ∷ others) < ahead w.from (among.front ++ here ∷ y ∷ others) =
          subst (λ (l : List (List ℕ × Leaf)). ahead y.0 l < ahead w.from l) turn (ahead_less w.from first y others (ends_above y.0 (to ∙ sym e))) in
          subst (λ (k : List ℕ). ahead k (among.front ++ here ∷ y ∷ others) < ahead w.from (among.front ++ here ∷ y ∷ others)) (same_some y.0 key e) less

      fewer_ahead : (key : List ℕ) → at.span.to ≡ Some key → ahead key all < ahead w.from all
      fewer_ahead key e = subst (λ (l : List (List ℕ × Leaf)). ahead key l < ahead w.from l) (sym among.split) (fewer_on among.back key (sym among.ends ∙ e) e)

    -- back from an end in it: its pairs, and before them those below its beginning
    module _ (ends : EndsIn w.to at.span) where
      abbrev lower_span : Span
      lower_span = record { from = w.from; to = Some at.span.from }

      none_after : (others : List (List ℕ × Leaf)) → at.span.to ≡ starts others None → Share (StandIn zero) all_keys (among.front ++ here ∷ others) → kept w (leaf_pairs others) ≡ []
      none_after [] to share' = refl
      none_after (y ∷ others) to share' =
          let first : List (List ℕ × Leaf) = among.front ++ here ∷ [] in
          let shared : Share (StandIn zero) all_keys (first ++ y ∷ others) =
          subst (λ (l : List (List ℕ × Leaf)). Share (StandIn zero) all_keys l) (sym (append_assoc among.front (here ∷ []) (y ∷ others))) share' in
          none_kept w (is_within (upper all_keys y.0))
          (λ key e.
          not_inside key w
          (elim (is_below key w.to) as (λ t. is_below key w.to ≡ t → t ≡ false) [
            | true ↦ λ f. absurd (true≢false (sym (ap (is_below key) (sym to) ∙ ends.ends key f) ∙ (within_parts (upper all_keys y.0) key e).0))
            | false ↦ λ f. refl
          ] refl)) (leaf_pairs (y ∷ others)) (leaves_within (upper all_keys y.0) (y ∷ others) (rest_share (StandIn zero) all_keys first y others shared))

      same_before : kept w front ≡ kept lower_span front
      same_before =
          same_kept w lower_span (λ k. is_lt (byte_order k at.span.from))
          (λ key e. ap (λ (t : Bool). not (is_lt (byte_order key w.from)) && t) (ends_too key at.span.from w.to e ends.begins ∙ sym e)) front below_here

      none_from : kept lower_span (cells ++ back) ≡ []
      none_from =
          none_kept lower_span (is_within (upper all_keys at.span.from)) (λ key e. not_inside key lower_span (within_parts (upper all_keys at.span.from) key e).0) (cells ++ back)
          (leaves_within (upper all_keys at.span.from) (here ∷ among.back) (rest_share (StandIn zero) all_keys among.front here among.back share_here))

      backward : kept w pairs ≡ kept lower_span pairs ++ kept w cells
      backward =
          let rest : kept lower_span pairs ≡ kept lower_span front =
          ap (kept lower_span) parts ∙ kept_both lower_span front (cells ++ back) ∙ ap (λ (l : List Cell). kept lower_span front ++ l) none_from ∙ append-nil (kept lower_span front) in
          let mine : kept w (cells ++ back) ≡ kept w cells =
          kept_both w cells back ∙ ap (λ (l : List Cell). kept w cells ++ l) (none_after among.back among.ends share_here) ∙ append-nil (kept w cells) in
          ap (kept w) parts ∙ kept_both w front (cells ++ back) ∙ (λ k. (same_before ∙ sym rest) k ++ mine k)

      fewer_before : before (Some at.span.from) all < before w.to all
      fewer_before = subst (λ (l : List (List ℕ × Leaf)). before (Some at.span.from) l < before w.to l) (sym among.split) (before_less w.to among.front here among.back ends.begins)

  -- ---- the whole walk

  begins_at : (key : List ℕ) (span : Span) → IsTrue (is_within span key) → IsTrue (is_below span.from span.to)
  begins_at key span within = from_below span key within

  abbrev StopsAt : List ℕ → Type 0
  StopsAt key = Stops searches reads lo hi small s (under_key key) (last_under key) (under_held searches reads lo hi small s key) (λ span. IsTrue (is_within span key)) (begins_at key) (picks_under searches reads lo hi small s key (begins_at key)) level all_keys t

  stop_at : (key : List ℕ) → StopsAt key
  stop_at key =
      stop_found searches reads lo hi small s (under_key key) (last_under key) (under_held searches reads lo hi small s key) (λ span. IsTrue (is_within span key)) (begins_at key) (picks_under searches reads lo hi small s key (begins_at key)) level all_keys t is.holds is.stand
      (in_all key)

  begins_before : (end : Option (List ℕ)) (span : Span) → EndsIn end span → IsTrue (is_below span.from span.to)
  begins_before end span ends = ends.ends span.from ends.begins

  abbrev StopsBefore : Option (List ℕ) → Type 0
  StopsBefore end = Stops searches reads lo hi small s (last_below end) (last_in end) (below_end searches finds reads lo hi small s end) (EndsIn end) (begins_before end) (picks_below searches finds reads lo hi small s end (begins_before end)) level all_keys t

  stop_before : (end : Option (List ℕ)) → IsTrue (is_below [] end) → StopsBefore end
  stop_before end some =
      stop_found searches reads lo hi small s (last_below end) (last_in end) (below_end searches finds reads lo hi small s end) (EndsIn end) (begins_before end) (picks_below searches finds reads lo hi small s end (begins_before end)) level all_keys t is.holds is.stand
      (record { begins = some; ends = λ key inside. refl })

  -- a span that is not empty ends above the empty key
  some_below : (key : List ℕ) (end : Option (List ℕ)) → IsTrue (is_below key end) → IsTrue (is_below [] end)
  some_below key None below = refl
  some_below key (Some []) below = absurd (true≢false (sym below ∙ not_below_none key))
  some_below key (Some (b ∷ end)) below = refl

  range_step : (n most : ℕ) (w : Span) → ((m : ℕ) (v : Span) → ahead v.from all < n → range_from lo hi s n m v ≡ Ok (take m (kept v pairs))) → ahead w.from all < suc n
      → range_at lo hi s (range_from lo hi s n) most w (stop lo hi s (under_key w.from)) ≡ Ok (take most (kept w pairs))
  range_step n most w rest low =
      let found = stop_at w.from in
      let at : Stop = found.stop in
      let mine : List Cell = kept w found.among.leaf.cells in
      ap (range_at lo hi s (range_from lo hi s n) most w) (stop_is (under_key w.from) ∙ found.is)
      ∙ ap (range_on lo hi s (range_from lo hi s n) most w at) (places_are at found.among w)
      ∙ (λ k. and_then (first_read at found.among w most k) (from_end [] (range_from lo hi s n (most - count_kept at found.among w k)) w at.span.to))
      ∙ ends at.span.to refl
    where
      ends : (o : Option (List ℕ)) → (stop_at w.from).stop.span.to ≡ o
          → and_then (Ok (take most (kept w (stop_at w.from).among.leaf.cells))) (from_end [] (range_from lo hi s n (most - length (kept w (stop_at w.from).among.leaf.cells))) w o) ≡ Ok (take most (kept w pairs))
      ends None e =
          let mine : List Cell = kept w (stop_at w.from).among.leaf.cells in
          ap (λ (l : List Cell). Ok l) (append-nil (take most mine) ∙ ap (take most) (sym (forward (stop_at w.from).stop (stop_at w.from).among w (stop_at w.from).good None e ∙ append-nil mine)))
      ends (Some key) e =
          let found = stop_at w.from in
          let mine : List Cell = kept w found.among.leaf.cells in
          let v : Span = record { from = key; to = w.to } in
          ap (and_then (Ok (take most mine))) (rest (most - length mine) v (omega (arith, low, fewer_ahead found.stop found.among w found.good key e)))
          ∙ ap (λ (l : List Cell). Ok l) (sym (take_both most mine (kept v pairs)) ∙ ap (take most) (sym (forward found.stop found.among w found.good (Some key) e)))

  none_taken : {A : Type 0} (most : ℕ) (l : List A) → (most ≡ 0) ⊎ (l ≡ []) → take most l ≡ []
  none_taken most l (inl none) = ap (λ (n : ℕ). take n l) none
  none_taken zero l (inr none) = refl
  none_taken (suc most) l (inr none) = ap (take (suc most)) none

  range_is : (n most : ℕ) (w : Span) → ahead w.from all < n → range_from lo hi s n most w ≡ Ok (take most (kept w pairs))
  range_is zero most w low = absurd (omega (arith, low))
  range_is (suc n) most w low =
      elim (nat_lt 0 most && is_below w.from w.to) as (λ g. (nat_lt 0 most && is_below w.from w.to) ≡ g
      → (if g then range_at lo hi s (range_from lo hi s n) most w (stop lo hi s (under_key w.from)) else Ok []) ≡ Ok (take most (kept w pairs))) [
        | true ↦ λ e. range_step n most w (range_is n) low
        | false ↦ λ e. ap (λ (l : List Cell). Ok l) (sym (none_taken most (kept w pairs) (asked (nothing_asked most w e))))
      ] refl
    where
      asked : (most ≡ 0) ⊎ ((cells : List Cell) → kept w cells ≡ []) → (most ≡ 0) ⊎ (kept w pairs ≡ [])
      asked (inl none) = inl none
      asked (inr none) = inr (none pairs)

  count_step : (n : ℕ) (w : Span) → ((v : Span) → ahead v.from all < n → count_from lo hi s n v ≡ Ok (length (kept v pairs))) → ahead w.from all < suc n
      → count_at lo hi s (count_from lo hi s n) w (stop lo hi s (under_key w.from)) ≡ Ok (length (kept w pairs))
  count_step n w rest low =
      let found = stop_at w.from in
      ap (count_at lo hi s (count_from lo hi s n) w) (stop_is (under_key w.from) ∙ found.is)
      ∙ ap (count_on lo hi s (count_from lo hi s n) w found.stop) (places_are found.stop found.among w)
      ∙ ap (λ (k : ℕ). and_count k (from_end 0 (count_from lo hi s n) w found.stop.span.to)) (count_kept found.stop found.among w)
      ∙ ends found.stop.span.to refl
    where
      ends : (o : Option (List ℕ)) → (stop_at w.from).stop.span.to ≡ o
          → and_count (length (kept w (stop_at w.from).among.leaf.cells)) (from_end 0 (count_from lo hi s n) w o) ≡ Ok (length (kept w pairs))
      ends None e =
          let mine : List Cell = kept w (stop_at w.from).among.leaf.cells in
          ap (λ (k : ℕ). Ok k) (omega (arith, ap (λ (l : List Cell). length l) (forward (stop_at w.from).stop (stop_at w.from).among w (stop_at w.from).good None e), length-append mine []))
      ends (Some key) e =
          let found = stop_at w.from in
          let mine : List Cell = kept w found.among.leaf.cells in
          let v : Span = record { from = key; to = w.to } in
          ap (and_count (length mine)) (rest v (omega (arith, low, fewer_ahead found.stop found.among w found.good key e)))
          ∙ ap (λ (k : ℕ). Ok k) (sym (length-append mine (kept v pairs)) ∙ ap (λ (l : List Cell). length l) (sym (forward found.stop found.among w found.good (Some key) e)))

  count_is : (n : ℕ) (w : Span) → ahead w.from all < n → count_from lo hi s n w ≡ Ok (length (kept w pairs))
  count_is zero w low = absurd (omega (arith, low))
  count_is (suc n) w low =
      elim (is_below w.from w.to) as (λ g. is_below w.from w.to ≡ g → (if g then count_at lo hi s (count_from lo hi s n) w (stop lo hi s (under_key w.from)) else Ok 0) ≡ Ok (length (kept w pairs))) [
        | true ↦ λ e. count_step n w (count_is n) low
        | false ↦ λ e. ap (λ (l : List Cell). Ok (length l)) (sym (none_in w e pairs))
      ] refl

  back_step : (n most : ℕ) (w : Span) (some : IsTrue (is_below w.from w.to))
      → ((m : ℕ) (v : Span) → before v.to all ≤ n → back_from lo hi s n m v ≡ Ok (take m (reverse (kept v pairs)))) → before w.to all ≤ suc n
      → back_at lo hi s (back_from lo hi s n) most w (stop lo hi s (last_below w.to)) ≡ Ok (take most (reverse (kept w pairs)))
  back_step n most w some rest low =
      let found = stop_before w.to (some_below w.from w.to some) in
      let at : Stop = found.stop in
      let mine : List Cell = kept w found.among.leaf.cells in
      let v : Span = record { from = w.from; to = Some at.span.from } in
      ap (back_at lo hi s (back_from lo hi s n) most w) (stop_is (last_below w.to) ∙ found.is)
      ∙ ap (back_on lo hi s (back_from lo hi s n) most w at) (places_are at found.among w)
      ∙ (λ k. and_then (last_read at found.among w most k) (back_from lo hi s n (most - count_kept at found.among w k) v))
      ∙ ap (and_then (Ok (take most (reverse mine)))) (rest (most - length mine) v (omega (arith, low, fewer_before at found.among w found.good)))
      ∙ ap (λ (k : ℕ). Ok (take most (reverse mine) ++ take (most - k) (reverse (kept v pairs)))) (sym (length-reverse mine))
      ∙ ap (λ (l : List Cell). Ok l)
      (sym (take_both most (reverse mine) (reverse (kept v pairs))) ∙ ap (take most) (sym (reverse-append (kept v pairs) mine)) ∙ ap (λ (l : List Cell). take most (reverse l)) (sym (backward at found.among w found.good)))

  none_left : (w : Span) → IsTrue (is_below w.from w.to) → before w.to all ≤ 0 → ⊥
  none_left w some low =
      let found = stop_before w.to (some_below w.from w.to some) in
      absurd (omega (arith, low, fewer_before found.stop found.among w found.good))

  nothing_back : (most : ℕ) (w : Span) → (nat_lt 0 most && is_below w.from w.to) ≡ false → [] ≡ take most (reverse (kept w pairs))
  nothing_back most w e = sym (none_taken most (reverse (kept w pairs)) (asked (nothing_asked most w e)))
    where
      asked : (most ≡ 0) ⊎ ((cells : List Cell) → kept w cells ≡ []) → (most ≡ 0) ⊎ (reverse (kept w pairs) ≡ [])
      asked (inl none) = inl none
      asked (inr none) = inr (ap (λ (l : List Cell). reverse l) (none pairs))

  back_is : (n most : ℕ) (w : Span) → before w.to all ≤ n → back_from lo hi s n most w ≡ Ok (take most (reverse (kept w pairs)))
  back_is zero most w low =
      elim (nat_lt 0 most && is_below w.from w.to) as (λ g. (nat_lt 0 most && is_below w.from w.to) ≡ g → ◌≡◌ {A = Result (List Cell) ℕ} (Ok []) (Ok (take most (reverse (kept w pairs))))) [
        | true ↦ λ e. absurd (none_left w (both_true (nat_lt 0 most) (is_below w.from w.to) e).1 low)
        | false ↦ λ e. ap (λ (l : List Cell). Ok l) (nothing_back most w e)
      ] refl
  back_is (suc n) most w low =
      elim (nat_lt 0 most && is_below w.from w.to) as (λ g. (nat_lt 0 most && is_below w.from w.to) ≡ g
      → (if g then back_at lo hi s (back_from lo hi s n) most w (stop lo hi s (last_below w.to)) else Ok []) ≡ Ok (take most (reverse (kept w pairs)))) [
        | true ↦ λ e. back_step n most w (both_true (nat_lt 0 most) (is_below w.from w.to) e).1 (back_is n) low
        | false ↦ λ e. ap (λ (l : List Cell). Ok l) (nothing_back most w e)
      ] refl

  -- ---- what the map has

  pub range_read : (w : Span) (most : ℕ) → range_answer lo hi s w most ≡ Ok (range_of (content_of is) w most)
  range_read w most =
      range_is (suc hi - lo) most w (omega (arith, few, ahead_first w.from all share)) ∙ ap (λ (l : List Cell). Ok (take most (kept w l))) (sym (entries_are lo hi s is))

  pub back_read : (w : Span) (most : ℕ) → back_answer lo hi s w most ≡ Ok (back_of (content_of is) w most)
  back_read w most =
      back_is (suc hi - lo) most w (omega (arith, few, before_most w.to all)) ∙ ap (λ (l : List Cell). Ok (take most (reverse (kept w l)))) (sym (entries_are lo hi s is))

  pub count_read : (w : Span) → count_answer lo hi s w ≡ Ok (count_of (content_of is) w)
  count_read w = count_is (suc hi - lo) w (omega (arith, few, ahead_first w.from all share)) ∙ ap (λ (l : List Cell). Ok (length (kept w l))) (sym (entries_are lo hi s is))
