-- Behind a cut, what is due comes before: the half that the key goes to has room.
use Rattle.std.proofs.Common.{◌≡◌, ◌≢◌, ℕ, zero, suc, ◌+◌, ◌*◌, ◌/◌, ◌^◌, ◌<◌, ◌≤◌, Bool, true, false, if◌then◌else◌, Option, Some, List, [], ◌∷◌, ◌++◌, T, flat_map, length, take, drop, is_lt, refl, sym, ap, ◌∙◌, subst, arith, option_map}
use Rattle.std.specs.Prelude.{IsTrue, nat_lt, nat_le}
use Rattle.std.specs.FinMap.Entries.{is_sorted, put}
use Rattle.std.proofs.lemmas.List.{append-nil, length-map}
use Rattle.std.proofs.lemmas.Bool.{leb-true, le-leb, le-ltb}
use Rattle.oper_core.specs.State.{State}
use Rattle.key_entries.specs.Entries.{byte_order}
use Rattle.key_entries.specs.EntryLaws.{both_true}
use Rattle.page_ops.specs.Page.{Cell}
use Rattle.page_ops.specs.Seen.{child_cell}
use Rattle.page_ops.specs.Search.{last_under}
use Rattle.page_map.specs.Map.{Span, is_below, is_within, Tree, root_of, pairs_in, cells_in, IsHeld, bytes_at, Holds, all_past, Share, StandIn, objects_in, times}
use Rattle.page_map.specs.Splits.{Split, Due, fits, asks, granted, ask_above, cells_read, due_in_leaf, front_of, has_room, inner_split, leaf_split, size_of}
use Rattle.page_map.specs.Sets.{is_short_key}
use Rattle.page_map.proofs.MapLemmas.{child_found, each_at, held_again, lower, pairs_within, span_of, upper, IsAt, among, one_here, within_parts}
use Rattle.page_map.proofs.CutLemmas.{ReadsCells, all_weaker, front_is, page_size}
use Rattle.page_map.proofs.TreeLemmas.{HoldsChild, bare, first_cells, first_part, last_cells, last_part, live_in, whole_is}
use Rattle.page_map.proofs.TwoLemmas.{at_inside}
use Rattle.page_map.proofs.HalfLemmas.{at_high, at_low, end_high, end_low, under_front, under_high, under_low}
use Rattle.page_map.proofs.WayLemmas.{IsLess, Settled, due_at, due_down, from_below, page_cells, rank}
use Rattle.page_map.proofs.PlaceLemmas.{SameAt, root_reached, share_at}
use Rattle.page_map.proofs.DueLemmas.{IsAsked, IsPassed, none_past}

pub rank_low : (w : Split) → rank w ≤ 2 * w.level + 1
rank_low w = elim w.has_past as (λ p. 2 * w.level + (if p then 1 else 0) ≤ 2 * w.level + 1) [ true ↦ omega arith | false ↦ omega arith ]

module _ (reads : ReadsCells) (lo hi : ℕ) (small : hi < 2 ^ 32) (room : ℕ) (key value : List ℕ) (s new : State) where
  -- what is due below a page is the same where no page of it has changed
  pub due_same : (level : ℕ) (span : Span) (t : Tree level) → Holds lo hi s level t → StandIn level span t → IsTrue (is_within span key)
      → ((y : ℕ) → 1 ≤ times y (objects_in level t) → SameAt lo hi s new y)
      → due_at reads lo hi small room key value new level (root_of level t) span.to ≡ due_at reads lo hi small room key value s level (root_of level t) span.to
  due_same zero span t holds stand within same = ap (λ (v : List ℕ). Some (due_in_leaf room t.object key value span.to (cells_read v))) (same t.object (root_reached zero t))
  due_same (suc level) span t holds stand within same =
      let found =
      child_found (StandIn level) (HoldsChild lo hi s level) (root_of level) (pairs_in level) (pairs_within level) key span t.children t.past stand.0 holds.1 stand.1 within in
      let here : SameAt lo hi s new t.object = same t.object (root_reached (suc level) t) in
      let held : IsHeld (suc level) (bytes_at lo new t.object) (cells_in (suc level) t) =
      held_again (suc level) (bytes_at lo s t.object) (bytes_at lo new t.object) (cells_in (suc level) t) (cells_in (suc level) t) holds.0 here refl in
      let ends = from_below span key within in
      let low : root_of level found.child ≤ hi = leb-true (root_of level found.child) hi (both_true (nat_lt lo (root_of level found.child)) (nat_le (root_of level found.child) hi) found.held.0).1 in
      let below =
      due_same level (span_of span t.children found.place) found.child found.held.1 found.stands found.within
      (λ y there. same y (omega (arith, there, among (objects_in level) y t.children found.place found.child found.at))) in
      let own : Split = inner_split t.object (suc level) (cells_in (suc level) t) (live_in (suc level) t) in
      due_down reads lo hi small room key value new level span t held stand.0 stand.1 ends found.place found.child found.at found.under low
      ∙ (λ k. option_map (ask_above room (length (here k)) t.object found.place own) (below k))
      ∙ sym (due_down reads lo hi small room key value s level span t holds.0 stand.0 stand.1 ends found.place found.child found.at found.under low)

  -- what a child of one half asks for is granted there
  grants : (l x j size : ℕ) (own w v : Split) → IsTrue (has_room room size v.key) → v.level ≡ l → w.level ≡ suc l → (d : Option Due) → d ≡ Some (asks v)
      → (e : Due) × (option_map (ask_above room size x j own) d ≡ Some e) × IsLess (rank w) e
  grants l x j size own w v roomy one two d is = (
    granted v x j,
    ap (option_map (ask_above room size x j own)) is ∙ ap (λ (t : Bool). Some (if t then granted v x j else asks own)) roomy,
    omega (arith, rank_low v, one, two),
  )

  -- a leaf with room for the pair
  leaf_half : (n x : ℕ) (to : Option (List ℕ)) (cells : List Cell) → IsHeld 0 (bytes_at lo new x) cells → 4 + size_of (put byte_order key value cells) ≤ room → Settled reads lo hi small room key value new n 0 x to
  leaf_half n x to cells held roomy = record {
    due = fits;
    comes =
        ap (λ (c : List Cell). Some (due_in_leaf room x key value to c)) (page_cells reads lo hi small room key value new 0 x cells held)
        ∙ ap (λ (t : Bool). Some (if t then fits else asks (leaf_split x to key value cells (front_of to cells)))) (le-leb (4 + size_of (put byte_order key value cells)) room roomy);
    less = tt;
  }

  -- an inner page with room for the name
  inner_half : (l : ℕ) (inner : Span) (p : Tree (suc l)) → IsHeld (suc l) (bytes_at lo new p.object) (cells_in (suc l) p) → Share (StandIn l) inner p.children → IsTrue (all_past inner p.past)
      → IsTrue (is_below inner.from inner.to) → (j : ℕ) (z : Tree l) → IsAt j z p.children → last_under key (cells_in (suc l) p) ≡ Some j → root_of l z ≤ hi → (w v : Split)
      → due_at reads lo hi small room key value new l (root_of l z) (span_of inner p.children j).to ≡ Some (asks v) → IsTrue (is_short_key room v.key) → v.level ≡ l → w.level ≡ suc l
      → 4 + size_of (cells_in (suc l) p) + room / 8 ≤ room → Settled reads lo hi small room key value new (rank w) (suc l) p.object inner.to
  inner_half l inner p held share past ends j z at under low w v is short one two size =
      let bytes : List ℕ = bytes_at lo new p.object in
      let own : Split = inner_split p.object (suc l) (cells_in (suc l) p) (live_in (suc l) p) in
      let roomy : IsTrue (has_room room (length bytes) v.key) =
      le-leb (length bytes + (length v.key + 8)) room
      (omega (arith, size, ap (λ (b : List ℕ). length b) held.code, page_size (suc l) (cells_in (suc l) p), leb-true (8 * (length v.key + 8)) room short)) in
      let granted_there = grants l p.object j (length bytes) own w v roomy one two (due_at reads lo hi small room key value new l (root_of l z) (span_of inner p.children j).to) is in
      record { due = granted_there.0; comes = due_down reads lo hi small room key value new l inner p held share past ends j z at under low ∙ granted_there.1; less = granted_there.2 }

  -- what the child of the key asks for is the same
  still_asks : (l : ℕ) (span : Span) (child : Tree (suc l)) → Holds lo hi s (suc l) child → StandIn (suc l) span child → ((y : ℕ) → times y (objects_in (suc l) child) ≤ 1)
      → ((y : ℕ) → 1 ≤ times y (objects_in (suc l) child) → y ≢ child.object → SameAt lo hi s new y) → (passed : IsPassed lo hi s room key value l span child)
      → due_at reads lo hi small room key value new l (root_of l passed.child) (span_of span child.children passed.place).to ≡ Some (asks passed.split)
  still_asks l span child holds stand once same passed =
      let all : List ℕ = flat_map (λ c. objects_in l c.1) child.children in
      due_same l (span_of span child.children passed.place) passed.child (each_at (HoldsChild lo hi s l) child.children passed.place passed.child passed.at holds.1).1
      (share_at (StandIn l) span child.children passed.place passed.child passed.at stand.0) passed.within
      (λ y there.
      let inside = among (objects_in l) y child.children passed.place passed.child passed.at in
      same y (omega (arith, there, inside)) (λ e. absurd (omega (arith, there, inside, once y, ap (λ (o : ℕ). times y (o ∷ all)) (sym e), one_here y all))))
      ∙ passed.comes

  passed_low : (l : ℕ) (span : Span) (child : Tree (suc l)) → Holds lo hi s (suc l) child → (passed : IsPassed lo hi s room key value l span child) → root_of l passed.child ≤ hi
  passed_low l span child holds passed =
      let x : ℕ = root_of l passed.child in
      leb-true x hi (both_true (nat_lt lo x) (nat_le x hi) (each_at (HoldsChild lo hi s l) child.children passed.place passed.child passed.at holds.1).0).1

  module _ (w : Split) (clean : w.has_past ≡ false) where
    pub left_settles : (l : ℕ) (span : Span) (child : Tree l) → IsAsked lo hi s room key value l span child w → Holds lo hi s l child → StandIn l span child → ((y : ℕ) → times y (objects_in l child) ≤ 1)
        → ((y : ℕ) → 1 ≤ times y (objects_in l child) → y ≢ root_of l child → SameAt lo hi s new y) → (x : ℕ) → IsHeld l (bytes_at lo new x) (take w.place (live_in l child) ++ [])
        → is_lt (byte_order key w.key) ≡ true → Settled reads lo hi small room key value new (rank w) l x (Some w.key)
    left_settles zero span child asked holds stand once same x held low =
        leaf_half (rank w) x (Some w.key) (take w.place child.cells ++ []) held
        (omega (arith, (asked.halves clean).0 low, ap (λ (c : List Cell). size_of (put byte_order key value c)) (append-nil (take w.place child.cells))))
    left_settles (suc l) span child asked holds stand once same x held low =
        let halves = asked.halves clean in
        let cut = asked.cut clean in
        let passed = asked.why in
        let k : ℕ = w.place in
        let live : List Cell = live_in (suc l) child in
        let alone : cells_in (suc l) child ≡ live =
        whole_is (suc l) child ∙ ap (λ (c : List Cell). live ++ c) (none_past (suc l) child (sym asked.past_is ∙ clean)) ∙ append-nil live in
        let found = under_low key k live passed.place halves.inside (ap (λ (q : List ℕ). is_lt (byte_order key q)) (sym halves.key_is) ∙ low) (ap (last_under key) (sym alone) ∙ passed.under) in
        let p : Tree (suc l) = first_part (suc l) x k [] child in
        let cells : cells_in (suc l) p ≡ take k live ++ [] = first_cells (suc l) x k [] child in
        let inside : k < length child.children = omega (arith, halves.inside, length-map child.children (λ (c : List ℕ × Tree l). child_cell c.0 (root_of l c.1))) in
        let end : (span_of (lower span w.key) (take k child.children) passed.place).to ≡ (span_of span child.children passed.place).to =
        ap (λ (q : List ℕ). (span_of (lower span q) (take k child.children) passed.place).to) halves.key_is ∙ end_low (root_of l) span child.children k passed.place found.1 inside in
        inner_half l (lower span w.key) p (held_again (suc l) (bytes_at lo new x) (bytes_at lo new x) (take k live ++ []) (cells_in (suc l) p) held refl cells) (cut.before x [] refl).0 refl cut.above
        passed.place passed.child (at_low (root_of l) child.children k passed.place passed.child found.1 passed.at) (ap (last_under key) (cells ∙ append-nil (take k live)) ∙ found.0) (passed_low l span child holds passed) w passed.split
        (ap (due_at reads lo hi small room key value new l (root_of l passed.child)) end ∙ still_asks l span child holds stand once same passed) passed.key_short passed.level_is asked.level_is
        (omega (arith, halves.first, ap size_of (cells ∙ append-nil (take k live))))

    pub right_settles : (l : ℕ) (span : Span) (child : Tree l) → IsAsked lo hi s room key value l span child w → Holds lo hi s l child → StandIn l span child → ((y : ℕ) → times y (objects_in l child) ≤ 1)
        → ((y : ℕ) → 1 ≤ times y (objects_in l child) → y ≢ root_of l child → SameAt lo hi s new y) → (x : ℕ) → IsHeld l (bytes_at lo new x) (drop w.place (live_in l child))
        → is_lt (byte_order key w.key) ≡ false → Settled reads lo hi small room key value new (rank w) l x span.to
    right_settles zero span child asked holds stand once same x held high = leaf_half (rank w) x span.to (drop w.place child.cells) held ((asked.halves clean).1 high)
    right_settles (suc l) span child asked holds stand once same x held high =
        let halves = asked.halves clean in
        let cut = asked.cut clean in
        let passed = asked.why in
        let k : ℕ = w.place in
        let live : List Cell = live_in (suc l) child in
        let alone : cells_in (suc l) child ≡ live =
        whole_is (suc l) child ∙ ap (λ (c : List Cell). live ++ c) (none_past (suc l) child (sym asked.past_is ∙ clean)) ∙ append-nil live in
        let rise : T (is_sorted byte_order live) = subst (λ (c : List Cell). T (is_sorted byte_order c)) alone holds.0.rise in
        let found = under_high key k live passed.place rise halves.inside (ap (λ (q : List ℕ). is_lt (byte_order key q)) (sym halves.key_is) ∙ high) (ap (last_under key) (sym alone) ∙ passed.under) in
        let p : Tree (suc l) = last_part (suc l) x k child in
        let cells : cells_in (suc l) p ≡ drop k live = last_cells (suc l) x k child in
        let inside : k < length child.children = omega (arith, halves.inside, length-map child.children (λ (c : List ℕ × Tree l). child_cell c.0 (root_of l c.1))) in
        let end : (span_of (upper span w.key) (drop k child.children) found.behind).to ≡ (span_of span child.children passed.place).to =
        end_high (root_of l) span child.children w.key k found.behind inside ∙ ap (λ (n : ℕ). (span_of span child.children n).to) found.sum in
        inner_half l (upper span w.key) p (held_again (suc l) (bytes_at lo new x) (bytes_at lo new x) (drop k live) (cells_in (suc l) p) held refl cells) (cut.from x).0 refl cut.below
        found.behind passed.child (at_high (root_of l) child.children k found.behind passed.child (subst (λ (n : ℕ). IsAt n passed.child child.children) (sym found.sum) passed.at)) (ap (last_under key) cells ∙ found.under)
        (passed_low l span child holds passed) w passed.split
        (ap (due_at reads lo hi small room key value new l (root_of l passed.child)) end ∙ still_asks l span child holds stand once same passed) passed.key_short passed.level_is asked.level_is
        (omega (arith, halves.last, ap size_of cells))

  -- ---- a page whose cells past its span have gone

  -- what is due there comes before, where there is room above for the same name
  pub record IsBareDue (n level x : ℕ) (to : Option (List ℕ)) (name : List ℕ) : Type 0 where
    pub due : Due
    pub comes : due_at reads lo hi small room key value new level x to ≡ Some due
    pub goes : (size q i : ℕ) (own : Split) → IsTrue (has_room room size name) → IsLess n (ask_above room size q i own due)

  asks_again : (n : ℕ) (w : Split) (name : List ℕ) → w.key ≡ name → rank w < n → (size q i : ℕ) (own : Split) → IsTrue (has_room room size name) → IsLess n (ask_above room size q i own (asks w))
  asks_again n w name same less size q i own roomy =
      subst (λ (t : Bool). IsLess n (if t then granted w q i else asks own)) (sym (ap (has_room room size) same ∙ roomy)) less

  no_past_now : (n : ℕ) → ◌≡◌ {A = ℕ} (if nat_lt n n then 1 else 0) 0
  no_past_now n = ap (λ (t : Bool). if t then 1 else 0) (le-ltb n n (omega arith))

  pub bare_settles : (w : Split) → w.has_past ≡ true → (l : ℕ) (span : Span) (child : Tree l) → IsAsked lo hi s room key value l span child w → Holds lo hi s l child → StandIn l span child
      → ((y : ℕ) → times y (objects_in l child) ≤ 1) → ((y : ℕ) → 1 ≤ times y (objects_in l child) → y ≢ root_of l child → SameAt lo hi s new y) → IsTrue (is_below span.from span.to)
      → IsHeld l (bytes_at lo new (root_of l child)) (live_in l child) → IsBareDue (rank w) l (root_of l child) span.to w.key
  bare_settles w has zero span child asked holds stand once same ends held =
      let x : ℕ = child.object in
      let cells : List Cell = child.cells in
      let size : ℕ = 4 + size_of (put byte_order key value cells) in
      let front : front_of span.to cells ≡ cells =
      ap (front_of span.to) (sym (append-nil cells))
      ∙ front_is span.to cells [] (all_weaker (λ c. is_within span c.0) (λ c. is_below c.0 span.to) (λ c e. (within_parts span c.0 e).1) cells stand.0) refl in
      let again : Split = leaf_split x span.to key value cells cells in
      let comes : due_at reads lo hi small room key value new 0 x span.to ≡ Some (if nat_le size room then fits else asks again) =
      ap (λ (c : List Cell). Some (due_in_leaf room x key value span.to c)) (page_cells reads lo hi small room key value new 0 x cells held)
      ∙ ap (λ (c : List Cell). Some (if nat_le size room then fits else asks (leaf_split x span.to key value cells c))) front in
      let ranks : rank w ≡ 2 * w.level + 1 = ap (λ (t : Bool). 2 * w.level + (if t then 1 else 0)) has in
      elim (nat_le size room) as (λ t. due_at reads lo hi small room key value new 0 x span.to ≡ Some (if t then fits else asks again) → IsBareDue (rank w) 0 x span.to w.key) [
        | true ↦ λ is. record { due = fits; comes = is; goes = λ size q i own roomy. tt }
        | false ↦ λ is. record { due = asks again; comes = is; goes = asks_again (rank w) again w.key (sym asked.name_is) (omega (arith, no_past_now (length cells), ranks)) }
      ] comes
  bare_settles w has (suc l) span child asked holds stand once same ends held =
      let x : ℕ = child.object in
      let live : List Cell = live_in (suc l) child in
      let passed = asked.why in
      let p : Tree (suc l) = bare (suc l) child in
      let past : List Cell = child.past in
      let under : last_under key (cells_in (suc l) p) ≡ Some passed.place =
      ap (last_under key) (append-nil live) ∙ under_front key live past passed.place (omega (arith, at_inside child.children passed.place passed.child passed.at, length-map child.children (λ (c : List ℕ × Tree l). child_cell c.0 (root_of l c.1)))) passed.under in
      let held_bare : IsHeld (suc l) (bytes_at lo new x) (cells_in (suc l) p) = held_again (suc l) (bytes_at lo new x) (bytes_at lo new x) live (cells_in (suc l) p) held refl (append-nil live) in
      let size : ℕ = length (bytes_at lo new x) in
      let v : Split = passed.split in
      let again : Split = inner_split x (suc l) (cells_in (suc l) p) live in
      let comes : due_at reads lo hi small room key value new (suc l) x span.to ≡ Some (if has_room room size v.key then granted v x passed.place else asks again) =
      due_down reads lo hi small room key value new l span p held_bare stand.0 refl ends passed.place passed.child passed.at under (passed_low l span child holds passed)
      ∙ ap (option_map (ask_above room size x passed.place again)) (still_asks l span child holds stand once same passed) in
      let ranks : rank w ≡ 2 * w.level + 1 = ap (λ (t : Bool). 2 * w.level + (if t then 1 else 0)) has in
      let none : ◌≡◌ {A = ℕ} (if again.has_past then 1 else 0) 0 =
      ap (λ (n : ℕ). if nat_lt (length live) n then 1 else 0) (ap (λ (c : List Cell). length c) (append-nil live)) ∙ no_past_now (length live) in
      elim (has_room room size v.key) as (λ t. due_at reads lo hi small room key value new (suc l) x span.to ≡ Some (if t then granted v x passed.place else asks again)
      → IsBareDue (rank w) (suc l) x span.to w.key) [
        | true ↦ λ is. record {
          due = granted v x passed.place;
          comes = is;
          goes = λ size q i own roomy. omega (arith, rank_low v, passed.level_is, asked.level_is, ranks);
        }
        | false ↦ λ is. record { due = asks again; comes = is; goes = asks_again (rank w) again w.key (sym asked.name_is) (omega (arith, none, ranks, asked.level_is)) }
      ] comes
