-- The way to the leaf of a key, as the search for the page that is cut first goes it.
use Rattle.std.proofs.Common.{◌≡◌, ℕ, zero, suc, ◌+◌, ◌*◌, ◌^◌, ◌<◌, ◌≤◌, Bool, true, false, if◌then◌else◌, Option, None, Some, List, [], ◌∷◌, map, length, is_lt, refl, sym, ap, ◌∙◌, subst, arith, true≢false, option_map}
use Rattle.std.specs.Prelude.{⊤, IsTrue, nat_lt}
use Rattle.std.specs.List.{list_all}
use Rattle.std.specs.Cmp.{both_ways}
use Rattle.std.proofs.lemmas.List.{append-nil}
use Rattle.std.proofs.lemmas.Bool.{le-ltb, lt-ltb, ltb-true}
use Rattle.byteorder.specs.Endian.{little_bytes, little_number}
use Rattle.oper_core.specs.LittleEndian.{little_number-little_bytes}
use Rattle.oper_core.specs.State.{State}
use Rattle.key_entries.specs.Entries.{byte_order}
use Rattle.key_entries.specs.EntryLaws.{true_both}
use Rattle.page_ops.specs.Page.{Cell}
use Rattle.page_ops.specs.Seen.{child_cell}
use Rattle.page_ops.specs.OnCells.{key_at}
use Rattle.page_ops.specs.Search.{last_under}
use Rattle.page_map.specs.Map.{Span, is_below, is_within, Tree, root_of, cells_in, IsHeld, bytes_at, all_past, Share, StandIn}
use Rattle.page_map.specs.Splits.{Split, Due, fits, asks, granted, ask_above, cells_read, child_at, due_from, due_under, end_of, front_of, inner_split}
use Rattle.page_map.proofs.MapLemmas.{below_through, within_parts, upper, IsAt, span_of}
use Rattle.page_map.proofs.CutLemmas.{ReadsCells, cells_are, front_is}
use Rattle.page_map.proofs.TreeLemmas.{live_in}
use Rattle.page_map.proofs.TwoLemmas.{cell_is}

-- a key above one that is not below the beginning of a span
pub above_from : (from low key : List ℕ) → is_lt (byte_order low from) ≡ false → is_lt (byte_order low key) ≡ true → is_lt (byte_order from key) ≡ true
above_from from low key reached above =
    elim (is_lt (byte_order from key)) as (λ t. is_lt (byte_order from key) ≡ t → t ≡ true) [
      | true ↦ λ e. refl
      | false ↦ λ e. absurd (true≢false (sym (below_through low key from above e) ∙ reached))
    ] refl

-- a key that is not above one which ends before
pub ends_with : (key high : List ℕ) (to : Option (List ℕ)) → is_lt (byte_order high key) ≡ false → IsTrue (is_below high to) → IsTrue (is_below key to)
ends_with key high None reached below = refl
ends_with key high (Some end) reached below =
    elim (is_lt (byte_order key end)) as (λ t. is_lt (byte_order key end) ≡ t → t ≡ true) [
      | true ↦ λ e. refl
      | false ↦ λ e. absurd (true≢false (sym (below_through high end key below e) ∙ reached))
    ] refl

pub from_below : (span : Span) (key : List ℕ) → IsTrue (is_within span key) → IsTrue (is_below span.from span.to)
from_below span key within = let ends = within_parts span key within in ends_with span.from key span.to ends.0 ends.1

pub lt_suc : (a b : ℕ) → nat_lt (suc a) (suc b) ≡ nat_lt a b
lt_suc a b = both_ways (nat_lt (suc a) (suc b)) (nat_lt a b) (λ e. lt-ltb a b (omega (arith, ltb-true (suc a) (suc b) e))) (λ e. lt-ltb (suc a) (suc b) (omega (arith, ltb-true a b e)))

module _ {Child : Type 0} (In : Span → Child → Type 0) (root : Child → ℕ) where
  abbrev cells_of : List (List ℕ × Child) → List Cell
  cells_of children = map (λ c. child_cell c.0 (root c.1)) children

  -- the keys of children end with the span
  pub keys_below : (span : Span) (children : List (List ℕ × Child)) → Share In span children → IsTrue (is_below span.from span.to) → IsTrue (list_all (λ c. is_below c.0 span.to) (cells_of children))
  keys_below span [] share below = absurd share
  keys_below span (c ∷ []) share below = true_both (is_below c.0 span.to) true (subst (λ (k : List ℕ). IsTrue (is_below k span.to)) (sym share.0) below) refl
  keys_below span (c ∷ d ∷ children) share below =
      true_both (is_below c.0 span.to) (list_all (λ c. is_below c.0 span.to) (cells_of (d ∷ children))) (subst (λ (k : List ℕ). IsTrue (is_below k span.to)) (sym share.0) below)
      (keys_below (upper span d.0) (d ∷ children) share.3 (within_parts span d.0 share.1).1)

  -- the span of a child ends at the key of the next one
  pub end_is : (span : Span) (children : List (List ℕ × Child)) (i : ℕ) (child : Child) → IsAt i child children → end_of (cells_of children) i span.to ≡ (span_of span children i).to
  end_is span [] i child at = absurd at
  end_is span (c ∷ []) zero child at = ap (λ (t : Bool). if t then Some (key_at (cells_of (c ∷ [])) 1) else span.to) (le-ltb 1 1 (omega arith))
  end_is span (c ∷ []) (suc i) child at = absurd at
  end_is span (c ∷ d ∷ children) zero child at = ap (λ (t : Bool). if t then Some d.0 else span.to) (lt-ltb 1 (length (cells_of (c ∷ d ∷ children))) (omega arith))
  end_is span (c ∷ d ∷ children) (suc i) child at =
      ap (λ (t : Bool). if t then Some (key_at (cells_of (d ∷ children)) (suc i)) else span.to) (lt_suc (suc i) (length (cells_of (d ∷ children))))
      ∙ end_is (upper span d.0) (d ∷ children) i child at

-- ---- one page down

-- the cells of an inner page that are within its span are its children
pub front_live : (level : ℕ) (span : Span) (t : Tree (suc level)) → Share (StandIn level) span t.children → IsTrue (all_past span t.past) → IsTrue (is_below span.from span.to)
    → front_of span.to (cells_in (suc level) t) ≡ live_in (suc level) t
front_live level span t share past below = front_is span.to (live_in (suc level) t) t.past (keys_below (StandIn level) (root_of level) span t.children share below) past

-- a cell tells its child, and where its span ends
pub child_is : (hi : ℕ) → hi < 2 ^ 32 → (level : ℕ) (t : Tree (suc level)) (i : ℕ) (child : Tree level) → IsAt i child t.children → root_of level child ≤ hi → child_at (cells_in (suc level) t) i ≡ root_of level child
child_is hi small level t i child at low =
    ap (λ (c : Cell). little_number 4 c.1) (cell_is (StandIn level) (root_of level) t.children t.past i child at) ∙ ap (little_number 4) (sym (append-nil (little_bytes 4 (root_of level child))))
    ∙ little_number-little_bytes 4 (root_of level child) [] (omega (arith, small, low))

pub child_ends : (level : ℕ) (span : Span) (t : Tree (suc level)) → Share (StandIn level) span t.children → IsTrue (all_past span t.past) → IsTrue (is_below span.from span.to) → (i : ℕ) (child : Tree level)
    → IsAt i child t.children → end_of (front_of span.to (cells_in (suc level) t)) i span.to ≡ (span_of span t.children i).to
child_ends level span t share past below i child at =
    ap (λ (l : List Cell). end_of l i span.to) (front_live level span t share past below) ∙ end_is (StandIn level) (root_of level) span t.children i child at

-- pages below others come first; of one page, that its cells past the span go
abbrev pub rank : Split → ℕ
rank w = 2 * w.level + (if w.has_past then 1 else 0)

-- nothing is due, or a page that comes before
abbrev pub IsLess : ℕ → Due → Type 0
IsLess n fits = ⊤
IsLess n (asks w) = ⊥
IsLess n (granted w q i) = rank w < n

module _ (reads : ReadsCells) (lo hi : ℕ) (small : hi < 2 ^ 32) (room : ℕ) (key value : List ℕ) (s : State) where
  abbrev pub due_at : (level : ℕ) → ℕ → Option (List ℕ) → Option Due
  due_at level x to = due_from room lo s key value level x to

  pub page_cells : (level x : ℕ) (cells : List Cell) → IsHeld level (bytes_at lo s x) cells → cells_read (bytes_at lo s x) ≡ cells
  page_cells level x cells held = ap cells_read held.code ∙ cells_are reads level cells held.short

  -- what is due at an inner page, by what is due at the child of the key
  pub due_down : (level : ℕ) (span : Span) (t : Tree (suc level)) → IsHeld (suc level) (bytes_at lo s t.object) (cells_in (suc level) t) → Share (StandIn level) span t.children → IsTrue (all_past span t.past)
      → IsTrue (is_below span.from span.to) → (i : ℕ) (child : Tree level) → IsAt i child t.children → last_under key (cells_in (suc level) t) ≡ Some i → root_of level child ≤ hi
      → due_at (suc level) t.object span.to
      ≡ option_map (ask_above room (length (bytes_at lo s t.object)) t.object i (inner_split t.object (suc level) (cells_in (suc level) t) (live_in (suc level) t)))
      (due_at level (root_of level child) (span_of span t.children i).to)
  due_down level span t held share past below i child at under low =
      let size : ℕ = length (bytes_at lo s t.object) in
      let all : List Cell = cells_in (suc level) t in
      let live : List Cell = live_in (suc level) t in
      let front : front_of span.to all ≡ live = front_live level span t share past below in
      let beside : child_at all i ≡ root_of level child = child_is hi small level t i child at low in
      let end : end_of live i span.to ≡ (span_of span t.children i).to = end_is (StandIn level) (root_of level) span t.children i child at in
      ap (λ (l : List Cell). due_under room lo s key value (due_at level) (suc level) t.object span.to l (last_under key l)) (page_cells (suc level) t.object all held)
      ∙ ap (due_under room lo s key value (due_at level) (suc level) t.object span.to all) under
      ∙ ap (λ (l : List Cell). option_map (ask_above room size t.object i (inner_split t.object (suc level) all l)) (due_at level (child_at all i) (end_of l i span.to))) front
      ∙ (λ k. option_map (ask_above room size t.object i (inner_split t.object (suc level) all live)) (due_at level (beside k) (end k)))

  -- from an object on, what is due is less
  pub record Settled (n level x : ℕ) (to : Option (List ℕ)) : Type 0 where
    pub due : Due
    pub comes : due_at level x to ≡ Some due
    pub less : IsLess n due

  less_stays : (n size x i : ℕ) (own : Split) (d : Due) → IsLess n d → ask_above room size x i own d ≡ d
  less_stays n size x i own fits less = refl
  less_stays n size x i own (asks w) less = absurd less
  less_stays n size x i own (granted w q j) less = refl

  pub settled_up : (n level : ℕ) (span : Span) (t : Tree (suc level)) → IsHeld (suc level) (bytes_at lo s t.object) (cells_in (suc level) t) → Share (StandIn level) span t.children → IsTrue (all_past span t.past)
      → IsTrue (is_below span.from span.to) → (i : ℕ) (child : Tree level) → IsAt i child t.children → last_under key (cells_in (suc level) t) ≡ Some i → root_of level child ≤ hi
      → Settled n level (root_of level child) (span_of span t.children i).to → Settled n (suc level) t.object span.to
  settled_up n level span t held share past below i child at under low rest =
      let size : ℕ = length (bytes_at lo s t.object) in
      let own : Split = inner_split t.object (suc level) (cells_in (suc level) t) (live_in (suc level) t) in
      record {
        due = rest.due;
        comes =
            due_down level span t held share past below i child at under low ∙ ap (option_map (ask_above room size t.object i own)) rest.comes
            ∙ ap (λ (d : Due). Some d) (less_stays n size t.object i own rest.due rest.less);
        less = rest.less;
      }
