-- What is found in the two halves of a page that was cut.
use Rattle.std.proofs.Common.{◌≡◌, ℕ, zero, suc, ◌+◌, ◌<◌, Bool, true, false, if◌then◌else◌, Option, None, Some, List, [], ◌∷◌, ◌++◌, T, map, length, take, drop, take_at, Ordering, Less, Equal, Greater, is_lt, refl, sym, ap, ◌∙◌, subst, arith, true≢false}
use Rattle.std.specs.Ordering.{ordering_reverse}
use Rattle.std.specs.FinMap.Entries.{by_order, below_all, is_sorted, put}
use Rattle.key_entries.specs.Entries.{byte_order}
use Rattle.key_entries.specs.EntryLaws.{same_some}
use Rattle.key_entries.specs.KeyLaws.{first, same_key, second}
use Rattle.page_ops.specs.Page.{Cell}
use Rattle.page_ops.specs.Seen.{child_cell}
use Rattle.page_ops.specs.OnCells.{key_at}
use Rattle.page_ops.specs.Search.{last_under, next_under, place_for}
use Rattle.page_map.specs.Map.{Span}
use Rattle.page_map.proofs.MapLemmas.{IsAt, below_both, lower, not_below_through, not_both, span_of, turned, upper}
use Rattle.page_map.proofs.TwoLemmas.{below_at, with_two}

-- ---- a leaf that is cut where a key stands: the pair comes into one half

cells_rise : (c : Cell) (cells : List Cell) → T (is_sorted byte_order (c ∷ cells)) → T (below_all byte_order c.0 cells) × T (is_sorted byte_order cells)
cells_rise c cells rise = (first (below_all byte_order c.0 cells) (is_sorted byte_order cells) rise, second (below_all byte_order c.0 cells) (is_sorted byte_order cells) rise)

-- the first of some cells, and the others
pub place_first : (key : List ℕ) (c : Cell) (cells : List Cell) → is_lt (byte_order c.0 key) ≡ true → place_for key (c ∷ cells) ≡ suc (place_for key cells)
place_first key c cells below = ap (λ (t : Bool). if t then suc (place_for key cells) else 0) below

pub place_none : (key : List ℕ) (c : Cell) (cells : List Cell) → is_lt (byte_order c.0 key) ≡ false → place_for key (c ∷ cells) ≡ 0
place_none key c cells reached = ap (λ (t : Bool). if t then suc (place_for key cells) else 0) reached

pub put_by : (key value : List ℕ) (c : Cell) (cells : List Cell) (o : Ordering) → byte_order key c.0 ≡ o
    → put byte_order key value (c ∷ cells) ≡ by_order o ((key, value) ∷ c ∷ cells) ((c.0, value) ∷ cells) (c ∷ put byte_order key value cells)
put_by key value c cells o e = ap (λ (o : Ordering). by_order o ((key, value) ∷ c ∷ cells) ((c.0, value) ∷ cells) (c ∷ put byte_order key value cells)) e

abbrev lows : List ℕ → List Cell → List Cell
lows key cells = take (place_for key cells) cells

abbrev highs : List ℕ → List Cell → List Cell
highs key cells = drop (place_for key cells) cells

lows_first : (key : List ℕ) (c : Cell) (cells : List Cell) → is_lt (byte_order c.0 key) ≡ true → lows key (c ∷ cells) ≡ c ∷ lows key cells
lows_first key c cells below = ap (λ (n : ℕ). take n (c ∷ cells)) (place_first key c cells below)

lows_none : (key : List ℕ) (c : Cell) (cells : List Cell) → is_lt (byte_order c.0 key) ≡ false → lows key (c ∷ cells) ≡ []
lows_none key c cells reached = ap (λ (n : ℕ). take n (c ∷ cells)) (place_none key c cells reached)

highs_first : (key : List ℕ) (c : Cell) (cells : List Cell) → is_lt (byte_order c.0 key) ≡ true → highs key (c ∷ cells) ≡ highs key cells
highs_first key c cells below = ap (λ (n : ℕ). drop n (c ∷ cells)) (place_first key c cells below)

highs_none : (key : List ℕ) (c : Cell) (cells : List Cell) → is_lt (byte_order c.0 key) ≡ false → highs key (c ∷ cells) ≡ c ∷ cells
highs_none key c cells reached = ap (λ (n : ℕ). drop n (c ∷ cells)) (place_none key c cells reached)

-- a pair below the key of the cut comes into the first half
pub put_low : (cut key value : List ℕ) (cells : List Cell) → is_lt (byte_order key cut) ≡ true → put byte_order key value (lows cut cells) ≡ lows cut (put byte_order key value cells)
put_low cut key value [] low = sym (lows_first cut (key, value) [] low)
put_low cut key value (c ∷ cells) low =
    elim (byte_order key c.0) as (λ o. byte_order key c.0 ≡ o → put byte_order key value (lows cut (c ∷ cells)) ≡ lows cut (put byte_order key value (c ∷ cells))) [
      | Less ↦ λ e.
          elim (is_lt (byte_order c.0 cut)) as (λ t. is_lt (byte_order c.0 cut) ≡ t → put byte_order key value (lows cut (c ∷ cells)) ≡ lows cut (put byte_order key value (c ∷ cells))) [
            | true ↦ λ below.
                ap (put byte_order key value) (lows_first cut c cells below) ∙ put_by key value c (lows cut cells) Less e
                ∙ sym (ap (lows cut) (put_by key value c cells Less e) ∙ lows_first cut (key, value) (c ∷ cells) low ∙ ap (λ (l : List Cell). (key, value) ∷ l) (lows_first cut c cells below))
            | false ↦ λ reached.
                ap (put byte_order key value) (lows_none cut c cells reached)
                ∙ sym (ap (lows cut) (put_by key value c cells Less e) ∙ lows_first cut (key, value) (c ∷ cells) low ∙ ap (λ (l : List Cell). (key, value) ∷ l) (lows_none cut c cells reached))
          ] refl
      | Equal ↦ λ e.
          let below : is_lt (byte_order c.0 cut) ≡ true = ap (λ (k : List ℕ). is_lt (byte_order k cut)) (sym (same_key key c.0 e)) ∙ low in
          ap (put byte_order key value) (lows_first cut c cells below) ∙ put_by key value c (lows cut cells) Equal e
          ∙ sym (ap (lows cut) (put_by key value c cells Equal e) ∙ lows_first cut (c.0, value) cells below)
      | Greater ↦ λ e.
          let above : is_lt (byte_order c.0 key) ≡ true = ap is_lt (turned c.0 key ∙ ap ordering_reverse e) in
          let below : is_lt (byte_order c.0 cut) ≡ true = below_both c.0 key cut above low in
          ap (put byte_order key value) (lows_first cut c cells below) ∙ put_by key value c (lows cut cells) Greater e ∙ ap (λ (l : List Cell). c ∷ l) (put_low cut key value cells low)
          ∙ sym (ap (lows cut) (put_by key value c cells Greater e) ∙ lows_first cut c (put byte_order key value cells) below)
    ] refl

-- a key that is above one which is not below another is not below that
reached_too : (key c cut : List ℕ) → is_lt (byte_order key cut) ≡ false → is_lt (byte_order key c) ≡ true → is_lt (byte_order c cut) ≡ false
reached_too key c cut reached above =
    elim (is_lt (byte_order c cut)) as (λ t. is_lt (byte_order c cut) ≡ t → t ≡ false) [
      | true ↦ λ e. sym (below_both key c cut above e) ∙ reached
      | false ↦ λ e. refl
    ] refl

-- and another one into the second
pub put_high : (cut key value : List ℕ) (cells : List Cell) → is_lt (byte_order key cut) ≡ false → put byte_order key value (highs cut cells) ≡ highs cut (put byte_order key value cells)
put_high cut key value [] high = sym (highs_none cut (key, value) [] high)
put_high cut key value (c ∷ cells) high =
    elim (byte_order key c.0) as (λ o. byte_order key c.0 ≡ o → put byte_order key value (highs cut (c ∷ cells)) ≡ highs cut (put byte_order key value (c ∷ cells))) [
      | Less ↦ λ e.
          let reached : is_lt (byte_order c.0 cut) ≡ false = reached_too key c.0 cut high (ap is_lt e) in
          ap (put byte_order key value) (highs_none cut c cells reached) ∙ put_by key value c cells Less e
          ∙ sym (ap (highs cut) (put_by key value c cells Less e) ∙ highs_none cut (key, value) (c ∷ cells) high)
      | Equal ↦ λ e.
          let reached : is_lt (byte_order c.0 cut) ≡ false = ap (λ (k : List ℕ). is_lt (byte_order k cut)) (sym (same_key key c.0 e)) ∙ high in
          ap (put byte_order key value) (highs_none cut c cells reached) ∙ put_by key value c cells Equal e
          ∙ sym (ap (highs cut) (put_by key value c cells Equal e) ∙ highs_none cut (c.0, value) cells reached)
      | Greater ↦ λ e.
          elim (is_lt (byte_order c.0 cut)) as (λ t. is_lt (byte_order c.0 cut) ≡ t → put byte_order key value (highs cut (c ∷ cells)) ≡ highs cut (put byte_order key value (c ∷ cells))) [
            | true ↦ λ below.
                ap (put byte_order key value) (highs_first cut c cells below) ∙ put_high cut key value cells high
                ∙ sym (ap (highs cut) (put_by key value c cells Greater e) ∙ highs_first cut c (put byte_order key value cells) below)
            | false ↦ λ reached.
                ap (put byte_order key value) (highs_none cut c cells reached) ∙ put_by key value c cells Greater e
                ∙ sym (ap (highs cut) (put_by key value c cells Greater e) ∙ highs_none cut c (put byte_order key value cells) reached)
          ] refl
    ] refl

-- a key between two neighbours stands before the second
pub place_is : (key : List ℕ) (cells : List Cell) (m : ℕ) → T (is_sorted byte_order cells) → suc m < length cells → is_lt (byte_order (key_at cells m) key) ≡ true → is_lt (byte_order (key_at cells (suc m)) key) ≡ false
    → place_for key cells ≡ suc m
place_is key [] m rise inside below reached = absurd (omega (arith, inside))
place_is key (c ∷ []) m rise inside below reached = absurd (omega (arith, inside))
place_is key (c ∷ d ∷ cells) zero rise inside below reached = place_first key c (d ∷ cells) below ∙ ap suc (place_none key d cells reached)
place_is key (c ∷ d ∷ cells) (suc m) rise inside below reached =
    let parts = cells_rise c (d ∷ cells) rise in
    let less : is_lt (byte_order c.0 key) ≡ true = below_both c.0 (key_at (d ∷ cells) m) key (below_at c.0 (d ∷ cells) m parts.0 (omega (arith, inside))) below in
    place_first key c (d ∷ cells) less ∙ ap suc (place_is key (d ∷ cells) m parts.1 (omega (arith, inside)) below reached)

-- ---- an inner page that is cut at a child: the way goes to one half

-- of cells the last under a key, where the first is under it
under_first : (q : List ℕ) (c : Cell) (cells : List Cell) (j : ℕ) → last_under q (c ∷ cells) ≡ Some j → (is_lt (byte_order q c.0) ≡ false) × (next_under (last_under q cells) ≡ Some j)
under_first q c cells j e =
    elim (is_lt (byte_order q c.0)) as (λ t. (if t then None else next_under (last_under q cells)) ≡ Some j → (t ≡ false) × (next_under (last_under q cells) ≡ Some j)) [
      | true ↦ λ e. cc
      | false ↦ λ e. (refl, e)
    ] e

pub under_with : (q : List ℕ) (c : Cell) (cells : List Cell) → is_lt (byte_order q c.0) ≡ false → last_under q (c ∷ cells) ≡ next_under (last_under q cells)
under_with q c cells e = ap (λ (t : Bool). if t then None else next_under (last_under q cells)) e

pub under_above : (q : List ℕ) (c : Cell) (cells : List Cell) → is_lt (byte_order q c.0) ≡ true → last_under q (c ∷ cells) ≡ None
under_above q c cells e = ap (λ (t : Bool). if t then None else next_under (last_under q cells)) e

next_some : (o : Option ℕ) (j : ℕ) → next_under o ≡ Some (suc j) → o ≡ Some j
next_some None j e = absurd (omega (arith, same_some 0 (suc j) e))
next_some (Some i) j e = ap (λ (n : ℕ). Some n) (omega (arith, same_some (suc i) (suc j) e))

next_none : (o : Option ℕ) → next_under o ≡ Some 0 → o ≡ None
next_none None e = refl
next_none (Some i) e = absurd (omega (arith, same_some (suc i) 0 e))

-- a key below the first cell is below each
below_place_of : (q : List ℕ) (d : Cell) (cells : List Cell) (k : ℕ) → T (is_sorted byte_order (d ∷ cells)) → k < length (d ∷ cells) → is_lt (byte_order q d.0) ≡ true → is_lt (byte_order q (key_at (d ∷ cells) k)) ≡ true
below_place_of q d cells zero rise inside less = less
below_place_of q d cells (suc k) rise inside less = below_both q d.0 (key_at cells k) less (below_at d.0 cells k (cells_rise d cells rise).0 (omega (arith, inside)))

some_next : (o : Option ℕ) → next_under o ≡ None → ⊥
some_next None e = cc
some_next (Some i) e = cc

suc_both : (k j : ℕ) → suc k + j ≡ suc (k + j)
suc_both k j = omega arith

-- a cell is under a key that is not below some cell
not_above : (q : List ℕ) (d : Cell) (cells : List Cell) (k : ℕ) → T (is_sorted byte_order (d ∷ cells)) → k < length (d ∷ cells) → is_lt (byte_order q (key_at (d ∷ cells) k)) ≡ false → last_under q (d ∷ cells) ≡ None → ⊥
not_above q d cells k rise inside high none =
    elim (is_lt (byte_order q d.0)) as (λ t. is_lt (byte_order q d.0) ≡ t → ⊥) [
      | true ↦ λ e. absurd (true≢false (sym (below_place_of q d cells k rise inside e) ∙ high))
      | false ↦ λ e. some_next (last_under q cells) (sym (under_with q d cells e) ∙ none)
    ] refl

-- where none is under a key, none of the first cells is
none_taken : (q : List ℕ) (k : ℕ) (cells : List Cell) → last_under q cells ≡ None → last_under q (take k cells) ≡ None
none_taken q zero cells none = refl
none_taken q (suc k) [] none = refl
none_taken q (suc k) (c ∷ cells) none =
    elim (is_lt (byte_order q c.0)) as (λ t. (if t then None else next_under (last_under q cells)) ≡ None → (if t then None else next_under (last_under q (take k cells))) ≡ None) [
      | true ↦ λ e. refl
      | false ↦ λ e. absurd (some_next (last_under q cells) e)
    ] none

-- what is found among the first cells is found without those behind them
pub under_front : (q : List ℕ) (cells past : List Cell) (j : ℕ) → j < length cells → last_under q (cells ++ past) ≡ Some j → last_under q cells ≡ Some j
under_front q [] past j inside e = absurd (omega (arith, inside))
under_front q (c ∷ cells) past zero inside e =
    let here = under_first q c (cells ++ past) 0 e in
    under_with q c cells here.0 ∙ ap next_under (ap (last_under q) (sym (take_at cells past (length cells) refl)) ∙ none_taken q (length cells) (cells ++ past) (next_none (last_under q (cells ++ past)) here.1))
under_front q (c ∷ cells) past (suc j) inside e =
    let here = under_first q c (cells ++ past) (suc j) e in
    under_with q c cells here.0 ∙ ap next_under (under_front q cells past j (omega (arith, inside)) (next_some (last_under q (cells ++ past)) j here.1))

-- a key below that of the cut is found among the first cells
pub under_low : (q : List ℕ) (k : ℕ) (cells : List Cell) (j : ℕ) → k < length cells → is_lt (byte_order q (key_at cells k)) ≡ true → last_under q cells ≡ Some j
    → (last_under q (take k cells) ≡ Some j) × (j < k)
under_low q k [] j inside low e = absurd (omega (arith, inside))
under_low q zero (c ∷ cells) j inside low e = absurd (true≢false (sym low ∙ (under_first q c cells j e).0))
under_low q (suc k) (c ∷ cells) zero inside low e =
    let here = under_first q c cells 0 e in
    (under_with q c (take k cells) here.0 ∙ ap next_under (none_taken q k cells (next_none (last_under q cells) here.1)), omega arith)
under_low q (suc k) (c ∷ cells) (suc j) inside low e =
    let here = under_first q c cells (suc j) e in
    let rest = under_low q k cells j (omega (arith, inside)) low (next_some (last_under q cells) j here.1) in
    (under_with q c (take k cells) here.0 ∙ ap next_under rest.0, omega (arith, rest.1))

-- and another one among the others
pub record IsHigh (q : List ℕ) (k : ℕ) (cells : List Cell) (j : ℕ) : Type 0 where
  pub behind : ℕ
  pub sum : k + behind ≡ j
  pub under : last_under q (drop k cells) ≡ Some behind

pub under_high : (q : List ℕ) (k : ℕ) (cells : List Cell) (j : ℕ) → T (is_sorted byte_order cells) → k < length cells → is_lt (byte_order q (key_at cells k)) ≡ false → last_under q cells ≡ Some j → IsHigh q k cells j
under_high q zero cells j rise inside high e = record { behind = j; sum = omega arith; under = e }
under_high q (suc k) [] j rise inside high e = absurd (omega (arith, inside))
under_high q (suc k) (c ∷ []) j rise inside high e = absurd (omega (arith, inside))
under_high q (suc k) (c ∷ d ∷ cells) zero rise inside high e =
    let none = next_none (last_under q (d ∷ cells)) (under_first q c (d ∷ cells) 0 e).1 in
    absurd (not_above q d cells k (cells_rise c (d ∷ cells) rise).1 (omega (arith, inside)) high none)
under_high q (suc k) (c ∷ d ∷ cells) (suc j) rise inside high e =
    let rest = under_high q k (d ∷ cells) j (cells_rise c (d ∷ cells) rise).1 (omega (arith, inside)) high (next_some (last_under q (d ∷ cells)) j (under_first q c (d ∷ cells) (suc j) e).1) in
    record { behind = rest.behind; sum = omega (arith, rest.sum); under = rest.under }

-- ---- the place of a cut, without the pair

-- a pair from the key of the cut on does not move its place
pub place_kept : (cut key value : List ℕ) (cells : List Cell) → is_lt (byte_order key cut) ≡ false → place_for cut (put byte_order key value cells) ≡ place_for cut cells
place_kept cut key value [] high = place_none cut (key, value) [] high
place_kept cut key value (c ∷ cells) high =
    elim (byte_order key c.0) as (λ o. byte_order key c.0 ≡ o → place_for cut (put byte_order key value (c ∷ cells)) ≡ place_for cut (c ∷ cells)) [
      | Less ↦ λ e.
          ap (place_for cut) (put_by key value c cells Less e) ∙ place_none cut (key, value) (c ∷ cells) high
          ∙ sym (place_none cut c cells (not_below_through c.0 key cut (not_both key c.0 (ap is_lt e)) high))
      | Equal ↦ λ e. ap (place_for cut) (put_by key value c cells Equal e)
      | Greater ↦ λ e. ap (place_for cut) (put_by key value c cells Greater e) ∙ ap (λ (n : ℕ). if is_lt (byte_order c.0 cut) then suc n else 0) (place_kept cut key value cells high)
    ] refl

-- where a pair before it leaves cells behind the place, they were there
pub place_stays : (cut key value : List ℕ) (cells : List Cell) → is_lt (byte_order key cut) ≡ true → place_for cut (put byte_order key value cells) < length (put byte_order key value cells) → place_for cut cells < length cells
place_stays cut key value [] low inside = absurd (omega (arith, inside, place_first cut (key, value) [] low))
place_stays cut key value (c ∷ cells) low inside =
    elim (byte_order key c.0) as (λ o. byte_order key c.0 ≡ o → place_for cut (c ∷ cells) < suc (length cells)) [
      | Less ↦ λ e.
          let is = put_by key value c cells Less e in
          omega (arith, inside, ap (place_for cut) is, ap (λ (l : List Cell). length l) is, place_first cut (key, value) (c ∷ cells) low)
      | Equal ↦ λ e.
          let is = put_by key value c cells Equal e in
          let same : place_for cut ((c.0, value) ∷ cells) ≡ place_for cut (c ∷ cells) = refl in
          omega (arith, inside, ap (place_for cut) is, ap (λ (l : List Cell). length l) is, same)
      | Greater ↦ λ e.
          let is = put_by key value c cells Greater e in
          let rest : List Cell = put byte_order key value cells in
          elim (is_lt (byte_order c.0 cut)) as (λ t. is_lt (byte_order c.0 cut) ≡ t → place_for cut (c ∷ cells) < suc (length cells)) [
            | true ↦ λ below.
                let behind = place_stays cut key value cells low (omega (arith, inside, ap (place_for cut) is, ap (λ (l : List Cell). length l) is, place_first cut c rest below)) in
                omega (arith, behind, place_first cut c cells below)
            | false ↦ λ above. omega (arith, place_none cut c cells above)
          ] refl
    ] refl

-- ---- children of the halves, with their spans

module _ {Child : Type 0} (root : Child → ℕ) where
  abbrev cells_of : List (List ℕ × Child) → List Cell
  cells_of children = map (λ c. child_cell c.0 (root c.1)) children

  pub at_low : (children : List (List ℕ × Child)) (k j : ℕ) (child : Child) → j < k → IsAt j child children → IsAt j child (take k children)
  at_low [] k j child low at = absurd at
  at_low (c ∷ children) zero j child low at = absurd (omega (arith, low))
  at_low (c ∷ children) (suc k) zero child low at = at
  at_low (c ∷ children) (suc k) (suc j) child low at = at_low children k j child (omega (arith, low)) at

  pub at_high : (children : List (List ℕ × Child)) (k j : ℕ) (child : Child) → IsAt (k + j) child children → IsAt j child (drop k children)
  at_high children zero j child at = subst (λ (n : ℕ). IsAt n child children) (omega arith) at
  at_high [] (suc k) j child at = absurd at
  at_high (c ∷ children) (suc k) j child at = at_high children k j child (subst (λ (n : ℕ). IsAt n child (c ∷ children)) (suc_both k j) at)

  pub end_low : (span : Span) (children : List (List ℕ × Child)) (k j : ℕ) → j < k → k < length children
      → (span_of (lower span (key_at (cells_of children) k)) (take k children) j).to ≡ (span_of span children j).to
  end_low span [] k j low inside = absurd (omega (arith, inside))
  end_low span (c ∷ children) zero j low inside = absurd (omega (arith, low))
  end_low span (c ∷ []) (suc k) j low inside = absurd (omega (arith, inside))
  end_low span (c ∷ d ∷ children) (suc zero) zero low inside = refl
  end_low span (c ∷ d ∷ children) (suc zero) (suc j) low inside = absurd (omega (arith, low))
  end_low span (c ∷ d ∷ children) (suc (suc k)) zero low inside = refl
  end_low span (c ∷ d ∷ children) (suc (suc k)) (suc j) low inside = end_low (upper span d.0) (d ∷ children) (suc k) j (omega (arith, low)) (omega (arith, inside))

  end_same : (span other : Span) (children : List (List ℕ × Child)) (j : ℕ) → span.to ≡ other.to → (span_of span children j).to ≡ (span_of other children j).to
  end_same span other [] j same = same
  end_same span other (c ∷ []) j same = same
  end_same span other (c ∷ d ∷ children) zero same = refl
  end_same span other (c ∷ d ∷ children) (suc j) same = end_same (upper span d.0) (upper other d.0) (d ∷ children) j same

  pub end_high : (span : Span) (children : List (List ℕ × Child)) (key : List ℕ) (k j : ℕ) → k < length children → (span_of (upper span key) (drop k children) j).to ≡ (span_of span children (k + j)).to
  end_high span children key zero j inside = let none : j ≡ 0 + j = omega arith in end_same (upper span key) span children j refl ∙ ap (λ (n : ℕ). (span_of span children n).to) none
  end_high span [] key (suc k) j inside = absurd (omega (arith, inside))
  end_high span (c ∷ []) key (suc k) j inside = absurd (omega (arith, inside))
  end_high span (c ∷ d ∷ children) key (suc k) j inside =
      end_high (upper span d.0) (d ∷ children) key k j (omega (arith, inside)) ∙ ap (λ (n : ℕ). (span_of span (c ∷ d ∷ children) n).to) (sym (suc_both k j))

  -- ---- two in the place of one: the way goes to one of them
  pub under_two : (q : List ℕ) (children : List (List ℕ × Child)) (past : List Cell) (i : ℕ) (child left : Child) (key : List ℕ) (right : Child) → IsAt i child children → last_under q (cells_of children ++ past) ≡ Some i
      → last_under q (cells_of (with_two i left key right children) ++ past) ≡ (if is_lt (byte_order q key) then Some i else Some (suc i))
  under_two q [] past i child left key right at e = absurd at
  under_two q (c ∷ children) past zero child left key right at e =
      let here = under_first q (child_cell c.0 (root c.1)) (cells_of children ++ past) 0 e in
      let none = next_none (last_under q (cells_of children ++ past)) here.1 in
      under_with q (child_cell c.0 (root left)) (child_cell key (root right) ∷ (cells_of children ++ past)) here.0
      ∙ elim (is_lt (byte_order q key)) as (λ t. next_under (if t then None else next_under (last_under q (cells_of children ++ past))) ≡ (if t then Some 0 else Some 1)) [
        | true ↦ refl
        | false ↦ ap (λ (o : Option ℕ). next_under (next_under o)) none
      ]
  under_two q (c ∷ children) past (suc i) child left key right at e =
      let here = under_first q (child_cell c.0 (root c.1)) (cells_of children ++ past) (suc i) e in
      under_with q (child_cell c.0 (root c.1)) (cells_of (with_two i left key right children) ++ past) here.0
      ∙ ap next_under (under_two q children past i child left key right at (next_some (last_under q (cells_of children ++ past)) i here.1))
      ∙ elim (is_lt (byte_order q key)) as (λ t. next_under (if t then Some i else Some (suc i)) ≡ (if t then Some (suc i) else Some (suc (suc i)))) [ true ↦ refl | false ↦ refl ]

  pub at_left : (children : List (List ℕ × Child)) (i : ℕ) (child left : Child) (key : List ℕ) (right : Child) → IsAt i child children → IsAt i left (with_two i left key right children)
  at_left [] i child left key right at = absurd at
  at_left (c ∷ children) zero child left key right at = refl
  at_left (c ∷ children) (suc i) child left key right at = at_left children i child left key right at

  pub at_right : (children : List (List ℕ × Child)) (i : ℕ) (child left : Child) (key : List ℕ) (right : Child) → IsAt i child children → IsAt (suc i) right (with_two i left key right children)
  at_right [] i child left key right at = absurd at
  at_right (c ∷ children) zero child left key right at = refl
  at_right (c ∷ children) (suc i) child left key right at = at_right children i child left key right at

  pub end_left : (span : Span) (children : List (List ℕ × Child)) (i : ℕ) (child left : Child) (key : List ℕ) (right : Child) → IsAt i child children → (span_of span (with_two i left key right children) i).to ≡ Some key
  end_left span [] i child left key right at = absurd at
  end_left span (c ∷ children) zero child left key right at = refl
  end_left span (c ∷ []) (suc i) child left key right at = absurd at
  end_left span (c ∷ d ∷ children) (suc zero) child left key right at = end_left (upper span d.0) (d ∷ children) zero child left key right at
  end_left span (c ∷ d ∷ children) (suc (suc i)) child left key right at = end_left (upper span d.0) (d ∷ children) (suc i) child left key right at

  pub end_right : (span : Span) (children : List (List ℕ × Child)) (i : ℕ) (child left : Child) (key : List ℕ) (right : Child) → IsAt i child children
      → (span_of span (with_two i left key right children) (suc i)).to ≡ (span_of span children i).to
  end_right span [] i child left key right at = absurd at
  end_right span (c ∷ []) zero child left key right at = refl
  end_right span (c ∷ d ∷ children) zero child left key right at = refl
  end_right span (c ∷ []) (suc i) child left key right at = absurd at
  end_right span (c ∷ d ∷ children) (suc zero) child left key right at = end_right (upper span d.0) (d ∷ children) zero child left key right at
  end_right span (c ∷ d ∷ children) (suc (suc i)) child left key right at = end_right (upper span d.0) (d ∷ children) (suc i) child left key right at
