-- What comes next in a set: on a map that calls keep, commands that keep it, the command that puts the pair in, or a refusal by its cause.
use Rattle.std.proofs.Common.{◌≡◌, ◌≢◌, inl, inr, ℕ, zero, suc, ◌+◌, ◌-◌, ◌*◌, ◌^◌, ◌<◌, ◌≤◌, ◌==◌, Bool, true, false, ◌&&◌, ◌||◌, if◌then◌else◌, Option, None, Some, Ok, List, [], ◌∷◌, ◌++◌, length, take, unwrap_or, refl, sym, ap, ◌∙◌, subst, arith, length-append}
use Rattle.std.specs.Prelude.{IsTrue, nat_lt, nat_le}
use Rattle.std.specs.FinMap.{from_entries, insert}
use Rattle.std.specs.FinMap.Entries.{put}
use Rattle.std.proofs.lemmas.Bool.{leb-true, leb-false, le-ltb, ltb-true, ltb-false}
use Rattle.oper_core.specs.State.{State}
use Rattle.oper_core.specs.Meaning.{Accepts, after, read_values}
use Rattle.oper_core.specs.declared.bounds.Bounds.{Bounds}
use Rattle.key_entries.specs.Entries.{byte_order}
use Rattle.key_entries.specs.EntryLaws.{both_true, same_some}
use Rattle.key_entries.specs.Pairs.{has}
use Rattle.call_plans.specs.Laws.{after_all}
use Rattle.call_plans.specs.Plan.{Plan}
use Rattle.call_plans.specs.Free.{free_from}
use Rattle.call_plans.specs.FreeLaws.{first_free}
use Rattle.page_ops.specs.Page.{Cell, page_of}
use Rattle.page_ops.specs.Reading.{level_in}
use Rattle.page_ops.specs.Search.{place_for}
use Rattle.page_ops.specs.Effects.{made_by, where_short}
use Rattle.page_ops.specs.Operation.{page_meaning, value_made, written_by}
use Rattle.page_ops.specs.OperationLaws.{short_made}
use Rattle.page_ops.specs.declared.page_op.PageOp.{PageOp}
use Rattle.page_ops.specs.declared.page_op.PageOp.TheVariants.{Put, Set, Part, Keep, TurnTwo, Root}
use Rattle.page_map.specs.Deletes.{IsFull, NoneIsEmpty}
use Rattle.page_map.specs.Map.{IsHeld, Tree, StandIn, all_keys, all_past, bytes_at, cells_in, content_of, root_of}
use Rattle.page_map.specs.Plan.{Admits, set_at}
use Rattle.page_map.specs.Walk.{walk}
use Rattle.page_map.specs.Splits.{Split, Due, fits, asks, granted, bad_from, cells_read, due_from, has_room, size_of}
use Rattle.page_map.specs.Sets.{Turn, does, ends, refuses, Inserts, IsCause, IsKept, IsTurn, Keeps, child_split, is_pair, is_short_key, is_short_pair, room_of, cut_turn, due_in, by_turn, length_with, put_turn, root_split, set_by, set_from, set_plan, set_turn, Sets, unless_bad}
use Rattle.page_map.specs.declared.refusal.MapRefusal.{MapRefusal}
use Rattle.page_map.specs.declared.refusal.MapRefusal.TheVariants.{BadMap, MapFull, TooLong}
use Rattle.page_map.proofs.MapLemmas.{HasCells, Needs, Searches, IsLeafFor, in_all, map_leaf, root_held, walk_is}
use Rattle.page_map.proofs.CutLemmas.{ReadsCells, cells_are, page_size}
use Rattle.page_map.proofs.ChangeLemmas.{Changes, found_place, read_as, set_content, set_fits, set_is_done, set_op, stands, whole}
use Rattle.page_map.proofs.TreeLemmas.{live_in, past_in, whole_is}
use Rattle.page_map.proofs.OpLemmas.{fits_room, room_low}
use Rattle.page_map.proofs.WayLemmas.{IsLess, Settled, rank}
use Rattle.page_map.proofs.SettleLemmas.{rank_low}
use Rattle.page_map.proofs.FullLemmas.{full_two}
use Rattle.page_map.proofs.DueLemmas.{DueFound, IsAsked, IsDue, IsGranted, due_found, none_past}
use Rattle.page_map.proofs.RoomLemmas.{length_is, none_bad}
use Rattle.page_map.proofs.TurnLemmas.{IsTree, cut_full, cut_keeps, cut_settles, kept_by, made3, page_fits, root_full, root_keeps, root_settles, top_pairs, top_tree, tree_of, trim_full, trim_keeps, trim_settles, trim_tree}

-- no cell is past the span of the root
nothing_past : (past : List Cell) → IsTrue (all_past all_keys past) → past ≡ []
nothing_past [] all = refl
nothing_past (c ∷ past) all = cc

pub root_ends : (level : ℕ) (t : Tree level) → StandIn level all_keys t → past_in level t ≡ []
root_ends zero t stand = nothing_past t.past stand.1
root_ends (suc level) t stand = nothing_past t.past stand.1

none_empty : (level : ℕ) (t : Tree level) → HasCells level t → NoneIsEmpty level t
none_empty zero t some = tt
none_empty (suc level) t none = none

pub all_after : (b : Bounds) (ops others : List PageOp) (s : State) → after_all (page_meaning b) s (ops ++ others) ≡ after_all (page_meaning b) (after_all (page_meaning b) s ops) others
all_after b [] others s = refl
all_after b (op ∷ ops) others s = all_after b ops others (after (page_meaning b) s op)

-- a free object of a range behind its first
pub record IsFreeIn (lo hi : ℕ) (s : State) (x : ℕ) : Type 0 where
  pub above : lo < x
  pub low : x ≤ hi
  pub empty : s x ≡ []

free_first : (lo hi : ℕ) (s : State) → lo ≤ hi → (x : ℕ) (free : List ℕ) → free_from s (suc lo) (hi - lo) ≡ x ∷ free → IsFreeIn lo hi s x
free_first lo hi s order x free e =
    let found = first_free s (hi - lo) (suc lo) x free e in
    record { above = omega (arith, found.above); low = omega (arith, found.ends, order); empty = found.empty }

free_second : (lo hi : ℕ) (s : State) → lo ≤ hi → (x y : ℕ) (free : List ℕ) → free_from s (suc lo) (hi - lo) ≡ x ∷ y ∷ free → IsFreeIn lo hi s y × (x < y)
free_second lo hi s order x y free e =
    let found = first_free s (hi - lo) (suc lo) x (y ∷ free) e in
    let next = first_free s found.others (suc x) y free found.rest_is in
    (record { above = omega (arith, found.above, next.above); low = omega (arith, found.ends, next.ends, order); empty = next.empty }, omega (arith, next.above))

-- a value that a command writes fits a store of these bounds
pub fits_too : (b : Bounds) (s : State) (op : PageOp) → ((x : ℕ) → length (s x) ≤ b.cap) → (x : ℕ) → length (after (page_meaning b) s op x) ≤ b.cap
fits_too b s op low x =
    let made = where_short b.cap (made_by op (read_values (page_meaning b) s op)) in
    elim (x == written_by op) as (λ t. length (if t || false then (if t then value_made made else []) else s x) ≤ b.cap) [
      | true ↦ short_made b.cap (made_by op (read_values (page_meaning b) s op))
      | false ↦ low x
    ]

module _ (searches : Searches) (changes : Changes) (reads : ReadsCells) (b : Bounds) (lo hi : ℕ) (small : hi < 2 ^ 32) (admits : Admits b hi) (s : State) (is : IsKept b lo hi s) (key value : List ℕ) where
  abbrev room : ℕ
  room = room_of b.cap

  abbrev level : ℕ
  level = is.map.level

  abbrev t : Tree level
  t = is.map.tree

  abbrev free : List ℕ
  free = free_from s (suc lo) (hi - lo)

  abbrev here : IsLeafFor searches lo hi small s key level all_keys t
  here = map_leaf searches lo hi small s key is.map

  abbrev leaf : ℕ
  leaf = here.leaf.object

  tree : IsTree b lo hi s level t
  tree = tree_of b lo hi s is

  -- ---- turns that cut a page

  -- what is due on a map
  abbrev due_of : State → Option Due
  due_of new = due_from room lo new key value (level_in (bytes_at lo new lo)) lo None

  -- behind a turn what is due is less
  abbrev LessAt : ℕ → State → Type 0
  LessAt n new = (d : Due) × (due_of new ≡ Some d) × IsLess n d

  less_at : (new : State) (l : ℕ) (p : Tree l) (n : ℕ) → IsTree b lo hi new l p → Settled reads lo hi small room key value new n l (root_of l p) None → LessAt n new
  less_at new l p n made settled =
      let held = root_held searches lo hi small new key l p made.holds in
      let top : level_in (bytes_at lo new lo) ≡ l = ap (λ (x : ℕ). level_in (bytes_at lo new x)) (sym made.root) ∙ ap level_in held.code in
      (settled.due, (λ k. due_from room lo new key value (top k) (sym made.root k) None) ∙ settled.comes, settled.less)

  abbrev pub rank_of : Due → ℕ
  rank_of fits = 0
  rank_of (asks w) = rank w
  rank_of (granted w q i) = rank w

  pub record Cuts (n : ℕ) (ops : List PageOp) : Type 0 where
    pub keeps : Keeps b lo hi s is ops
    pub next : IsKept b lo hi (after_all (page_meaning b) s ops)
    pub same : content_of next.map ≡ content_of is.map
    pub less : LessAt n (after_all (page_meaning b) s ops)
    pub few : length ops ≤ 3
    pub needs : Needs key 2 level t → Needs key 2 next.map.level next.map.tree

  -- where no leaf was without cells but that of the key, none is behind the command
  abbrev pub Fills : PageOp → Type 0
  Fills op = Needs key 2 level t → IsFull b lo hi (after (page_meaning b) s op)

  abbrev pub Goes : ℕ → Turn → Type 0
  Goes n (does ops) = Cuts n ops
  Goes n (ends op) = Inserts b lo hi s is key value op × Fills op
  Goes n (refuses r) = IsCause b lo hi s is key value r

  child_turn : (w : Split) (q i : ℕ) → IsGranted reads lo hi small s room key value leaf level all_keys t w q i → w.has_past ≡ false → (free' : List ℕ) → free ≡ free' → Goes (rank w) (child_split w q i free')
  child_turn w q i given clean [] e = inl (omega (arith, ap (λ (l : List ℕ). length l) e))
  child_turn w q i given clean (new ∷ rest) e =
      let one = free_first lo hi s is.map.order new rest e in
      let none = none_past given.l given.child (sym given.asked.past_is ∙ clean) in
      let roomy = subst (λ (y : ℕ). IsTrue (has_room room (length (bytes_at lo s y)) w.key)) given.object given.room_is in
      let made =
      made3 changes reads b lo hi small admits key value s level t tree given.l given.inner given.page given.place i given.child given.at none w (given.asked.cut clean) given.asked.key_short roomy new one.above one.low one.empty in
      subst (λ (ops : List PageOp). Cuts (rank w) ops)
      (λ k. Part new (sym given.asked.object k) w.place (sym given.asked.count k) ∷ TurnTwo (sym given.object k) i 1 (sym given.asked.object k) w.key new ∷ Keep (sym given.asked.object k) w.place ∷ [])
      (record {
        keeps = cut_keeps changes reads b lo hi small admits key value s level t tree given.l given.inner given.page given.place i given.child given.at none w (given.asked.cut clean) given.asked.key_short roomy new one.above one.low one.empty is refl;
        next = kept_by b lo hi _ level made.made made.is;
        same = ap from_entries made.pairs;
        less =
            less_at _ level made.made (rank w) made.is
            (cut_settles changes reads b lo hi small admits key value s level t tree given.l given.inner given.page given.place i given.child given.at none w (given.asked.cut clean) given.asked.key_short roomy new one.above one.low one.empty
            given.asked clean given.under given.ends);
        few = omega arith;
        needs =
            cut_full changes reads b lo hi small admits key value s level t tree given.l given.inner given.page given.place i given.child given.at none w (given.asked.cut clean) given.asked.key_short roomy new one.above one.low one.empty
            given.asked clean given.under given.ends;
      })

  trim_turn : (w : Split) (q i : ℕ) → IsGranted reads lo hi small s room key value leaf level all_keys t w q i → w.has_past ≡ true → Cuts (rank w) (Keep w.object w.count ∷ [])
  trim_turn w q i given there =
      let made = trim_tree changes reads b lo hi small admits key value s level t tree given.l given.inner given.page given.place i given.child given.at in
      subst (λ (ops : List PageOp). Cuts (rank w) ops) (λ k. Keep (sym given.asked.object k) (sym given.asked.count k) ∷ [])
      (record {
        keeps = trim_keeps changes reads b lo hi small admits key value s level t tree given.l given.inner given.page given.place i given.child given.at is refl;
        next = kept_by b lo hi _ level made.made made.is;
        same = ap from_entries made.pairs;
        less =
            less_at _ level made.made (rank w) made.is
            (trim_settles changes reads b lo hi small admits key value s level t tree given.l given.inner given.page given.place i given.child given.at w given.asked there given.under given.within given.ends
            (subst (λ (y : ℕ). IsTrue (has_room room (length (bytes_at lo s y)) w.key)) given.object given.room_is));
        few = omega arith;
        needs =
            trim_full changes reads b lo hi small admits key value s level t tree given.l given.inner given.page given.place i given.child given.at w given.asked there given.under given.within given.ends
            (subst (λ (y : ℕ). IsTrue (has_room room (length (bytes_at lo s y)) w.key)) given.object given.room_is);
      })

  root_turn : (w : Split) → IsAsked lo hi s room key value level all_keys t w → (free' : List ℕ) → free ≡ free' → Goes (rank w) (root_split w free')
  root_turn w asked [] e = inl (omega (arith, ap (λ (l : List ℕ). length l) e))
  root_turn w asked (left ∷ []) e = inl (omega (arith, ap (λ (l : List ℕ). length l) e))
  root_turn w asked (left ∷ right ∷ rest) e =
      let one = free_first lo hi s is.map.order left (right ∷ rest) e in
      let two = free_second lo hi s is.map.order left right rest e in
      let none = root_ends level t is.map.stand in
      let clean : w.has_past ≡ false =
      asked.past_is
      ∙ le-ltb (length (live_in level t)) (length (cells_in level t))
      (omega (arith, ap (λ (l : List Cell). length l) (whole_is level t), length-append (live_in level t) (past_in level t), ap (λ (l : List Cell). length l) none)) in
      let object : w.object ≡ lo = asked.object ∙ is.map.root in
      elim (nat_lt w.level 255) as (λ c. nat_lt w.level 255 ≡ c → Goes (rank w) (if c
      then does (Part left w.object 0 w.place ∷ Part right w.object w.place w.count ∷ Root w.object (suc w.level) left w.key right ∷ []) else refuses MapFull)) [
        | true ↦ λ c.
            let apart : left ≢ right = λ f. absurd (omega (arith, two.1, f)) in
            let levels : level < 255 = omega (arith, ltb-true w.level 255 c, asked.level_is) in
            let made =
            top_tree changes reads b lo hi small admits key value s level t tree none (asked.some clean) w (asked.cut clean) asked.key_short left right one.above one.low one.empty two.0.above two.0.low two.0.empty apart levels in
            subst (λ (ops : List PageOp). Cuts (rank w) ops)
            (λ k. Part left (sym object k) 0 w.place ∷ Part right (sym object k) w.place (sym asked.count k) ∷ Root (sym object k) (suc (sym asked.level_is k)) left w.key right ∷ [])
            (record {
              keeps =
                  root_keeps changes reads b lo hi small admits key value s level t tree none (asked.some clean) w (asked.cut clean) asked.key_short left right one.above one.low one.empty two.0.above two.0.low two.0.empty apart levels is refl;
              next = kept_by b lo hi _ (suc level) _ made;
              same =
                  ap from_entries
                  (top_pairs changes reads b lo hi small admits key value s level t tree none (asked.some clean) w (asked.cut clean) asked.key_short left right one.above one.low one.empty two.0.above two.0.low two.0.empty apart levels);
              less =
                  less_at _ (suc level) _ (rank w) made
                  (root_settles changes reads b lo hi small admits key value s level t tree none (asked.some clean) w (asked.cut clean) asked.key_short left right one.above one.low one.empty two.0.above two.0.low two.0.empty apart levels
                  asked clean);
              few = omega arith;
              needs =
                  root_full changes reads b lo hi small admits key value s level t tree none (asked.some clean) w (asked.cut clean) asked.key_short left right one.above one.low one.empty two.0.above two.0.low two.0.empty apart levels
                  asked clean;
            })
        | false ↦ λ c. inr (omega (arith, ltb-false w.level 255 c, asked.level_is))
      ] refl

  -- ---- the command of a set

  abbrev op : PageOp
  op = set_op searches changes lo hi small b s key is.map (has key (whole searches changes lo hi small b s key is.map)) value

  top_level : level_in (bytes_at lo s lo) ≡ level
  top_level = ap (λ (x : ℕ). level_in (bytes_at lo s x)) (sym is.map.root) ∙ ap level_in (root_held searches lo hi small s key level t is.map.holds).code

  module _ (pair : is_pair room (key, value) ≡ true) where
    short_pair : IsTrue (is_short_pair room (key, value))
    short_pair = (both_true (is_short_pair room (key, value)) (nat_lt 0 (length key) && nat_le (length key) 1023) pair).0

    key_length : length key < 65536
    key_length =
        let part = both_true (is_short_key room key) (nat_le (4 * length value) room) short_pair in
        omega (arith, leb-true (8 * (length key + 8)) room part.0, room_low b.cap)

    value_length : length value < 65536
    value_length =
        let part = both_true (is_short_key room key) (nat_le (4 * length value) room) short_pair in
        omega (arith, leb-true (4 * length value) room part.1, room_low b.cap)

    abbrev cells : List Cell
    cells = whole searches changes lo hi small b s key is.map

    -- how long the leaf becomes
    abbrev new_size : ℕ
    new_size = 4 + size_of (put byte_order key value cells)

    read : cells_read (bytes_at lo s leaf) ≡ cells
    read = ap cells_read here.held.code ∙ cells_are reads 0 cells here.held.short

    -- where the leaf has room it is accepted
    accepted : new_size ≤ room → Accepts (page_meaning b) s op
    accepted roomy =
        set_fits searches changes lo hi small b s key is.map value admits key_length value_length
        (fits_room (length (page_of 0 (put byte_order key value cells))) b.cap (omega (arith, roomy, page_size 0 (put byte_order key value cells))))

    puts_in : Accepts (page_meaning b) s op → Inserts b lo hi s is key value op × Fills op
    puts_in accepted =
        let done = set_is_done searches changes lo hi small b s key is.map value accepted in
        let kept : IsKept b lo hi (after (page_meaning b) s op) = record { map = done.0; short = done.2 room short_pair is.short; values_fit = fits_too b s op is.values_fit } in (
          record { accepted = accepted; kept = kept; content = set_content searches changes lo hi small b s key is.map value op done },
          λ needs. record { kept = kept; full = none_empty done.0.level done.0.tree (done.5 refl needs) },
        )

    cut_goes : (d : Due) → IsDue reads lo hi small s room key value leaf level all_keys t d → room < new_size → Goes (rank_of d) (cut_turn lo free (Ok d))
    cut_goes fits roomy full = absurd (omega (arith, roomy, full, ap (λ (l : List Cell). size_of (put byte_order key value l)) read))
    cut_goes (asks w) asked full = root_turn w asked free refl
    cut_goes (granted w q i) given full =
        elim w.has_past as (λ p. w.has_past ≡ p → Goes (rank w) (if p then does (Keep w.object w.count ∷ []) else child_split w q i free)) [
          | true ↦ λ p. trim_turn w q i given p
          | false ↦ λ p. child_turn w q i given p free refl
        ] refl

    pages_fit : (x level : ℕ) (cells : List Cell) → IsHeld level (bytes_at lo s x) cells → 4 + size_of cells ≤ room
    pages_fit x level cells held =
        let low : 8 * (length key + 8) ≤ room = leb-true (8 * (length key + 8)) room (both_true (is_short_key room key) (nat_le (4 * length value) room) short_pair).0 in
        elim (read_as lo s x) [
          | inl same ↦ omega (arith, page_fits b lo hi s is.values_fit x level cells (same ∙ held.code) held.short, page_size level cells)
          | inr empty ↦ omega (arith, ap (λ (v : List ℕ). length v) (sym held.code ∙ empty.1), page_size level cells, page_size 0 [], low)
        ]

    found : DueFound reads lo hi small s room key value leaf level all_keys t
    found =
        due_found reads lo hi small s room key value leaf searches short_pair pages_fit level all_keys t is.map.holds is.map.stand is.short (in_all key) here.walk

    due_root : due_of s ≡ Some found.due
    due_root = (λ k. due_from room lo s key value (top_level k) (sym is.map.root k) None) ∙ found.comes

    none_is_bad : bad_from lo hi s key (level_in (bytes_at lo s lo)) lo ≡ None
    none_is_bad =
        (λ k. bad_from lo hi s key (top_level k) (sym is.map.root k)) ∙ none_bad searches reads lo hi small s key level all_keys t is.map.holds is.map.stand (in_all key)

    due_is : due_in b lo hi key value s ≡ Ok found.due
    due_is = λ k. unless_bad lo (none_is_bad k) (due_root k)

    -- the turn, by the room in the leaf
    abbrev turn_by : Bool → Turn
    turn_by roomy = if roomy then ends op else cut_turn lo free (Ok found.due)

    turn_is : set_turn b lo hi key value s ≡ turn_by (nat_le new_size room)
    turn_is =
        let place : ℕ = place_for key cells in
        let size : length_with (bytes_at lo s leaf) key value place ≡ new_size = length_is changes reads key value (bytes_at lo s leaf) cells here.held in
        let put_in : set_at leaf (bytes_at lo s leaf) key value place ≡ op =
        ap (λ (there : Bool). if there then Set leaf place value else Put leaf place key value) (stands searches changes lo hi small b s key is.map) in
        ap (λ (p : Bool). if p then set_by b lo hi key value s (walk lo hi s key) else refuses TooLong) pair
        ∙ ap (set_by b lo hi key value s) (walk_is searches lo hi small s key is.map)
        ∙ ap (put_turn b lo hi key value s leaf) (found_place searches changes lo hi small b s key is.map)
        ∙ (λ k. if nat_le (size k) room then ends (put_in k) else cut_turn lo free (due_is k))

    by_room : (P : Turn → Type 0) → (new_size ≤ room → P (ends op)) → (room < new_size → P (cut_turn lo free (Ok found.due))) → P (set_turn b lo hi key value s)
    by_room P roomy full =
        subst P (sym turn_is)
        (elim (nat_le new_size room) as (λ t. nat_le new_size room ≡ t → P (turn_by t)) [
          | true ↦ λ e. roomy (leb-true new_size room e)
          | false ↦ λ e. full (leb-false new_size room e)
        ] refl)

    set_goes : Goes (rank_of found.due) (set_turn b lo hi key value s)
    set_goes = by_room (Goes (rank_of found.due)) (λ roomy. puts_in (accepted roomy)) (cut_goes found.due found.is)

    -- what is due at first
    first_rank : (d : Due) → IsDue reads lo hi small s room key value leaf level all_keys t d → rank_of d ≤ 2 * level + 1
    first_rank fits roomy = omega arith
    first_rank (asks w) asked = omega (arith, rank_low w, asked.level_is)
    first_rank (granted w q i) given = omega (arith, rank_low w, given.asked.level_is, given.place.depth)

    at_first : rank_of found.due ≤ 2 * level + 1
    at_first = first_rank found.due found.is

  only_turn : (n : ℕ) (r : Turn) → Goes n r → IsTurn b lo hi s is key value r
  only_turn n (does ops) goes = goes.keeps
  only_turn n (ends last) goes = goes.0
  only_turn n (refuses r) goes = goes

  pub set_is_turn : IsTurn b lo hi s is key value (set_turn b lo hi key value s)
  set_is_turn =
      elim (is_pair room (key, value)) as (λ p. is_pair room (key, value) ≡ p → IsTurn b lo hi s is key value (set_turn b lo hi key value s)) [
        | true ↦ λ p. only_turn (rank_of (found p).due) (set_turn b lo hi key value s) (set_goes p)
        | false ↦ λ p.
            subst (λ (r : Turn). IsTurn b lo hi s is key value r)
            (sym (ap (λ (q : Bool). if q then set_by b lo hi key value s (walk lo hi s key) else refuses TooLong) p)) p
      ] refl

-- ---- turns one after the other

module _ (b : Bounds) (lo hi : ℕ) (key value : List ℕ) where
  abbrev SetsAt : (s : State) → IsKept b lo hi s → List PageOp → Option MapRefusal → ℕ → Type 0
  SetsAt s is commands refusal most = Sets b lo hi s is key value (record { commands = commands; refusal = refusal }) most

  fewer : (s : State) (is : IsKept b lo hi s) (commands : List PageOp) (refusal : Option MapRefusal) (n m : ℕ) → SetsAt s is commands refusal n → n ≤ m → SetsAt s is commands refusal m
  fewer s is commands refusal n m sets less = record {
    accepted = sets.accepted;
    kept = sets.kept;
    before = sets.before;
    done = sets.done;
    refused = sets.refused;
    few = omega (arith, sets.few, less);
  }

  abbrev kept_alone : (s : State) → IsKept b lo hi s → (k : ℕ) → IsKept b lo hi (after_all (page_meaning b) s (take k []))
  kept_alone s is zero = is
  kept_alone s is (suc k) = is

  refused_at : (s : State) (is : IsKept b lo hi s) (r : MapRefusal) → IsCause b lo hi s is key value r → SetsAt s is [] (Some r) 0
  refused_at s is r cause = record {
    accepted = tt;
    kept = kept_alone s is;
    before = λ k less. absurd (omega (arith, less));
    done = λ e. cc;
    refused = λ q e. (refl, subst (λ (q : MapRefusal). IsCause b lo hi s is key value q) (ap (λ o. unwrap_or o r) e) cause);
    few = omega arith;
  }

  abbrev kept_one : (s : State) → IsKept b lo hi s → (last : PageOp) → IsKept b lo hi (after (page_meaning b) s last) → (k : ℕ) → IsKept b lo hi (after_all (page_meaning b) s (take k (last ∷ [])))
  kept_one s is last next zero = is
  kept_one s is last next (suc zero) = next
  kept_one s is last next (suc (suc k)) = next

  before_one : (s : State) (is : IsKept b lo hi s) (last : PageOp) (next : IsKept b lo hi (after (page_meaning b) s last)) (k : ℕ) → k < 1 → content_of (kept_one s is last next k).map ≡ content_of is.map
  before_one s is last next zero less = refl
  before_one s is last next (suc k) less = absurd (omega (arith, less))

  ended_at : (s : State) (is : IsKept b lo hi s) (last : PageOp) → Inserts b lo hi s is key value last → SetsAt s is (last ∷ []) None 1
  ended_at s is last puts = record {
    accepted = (puts.accepted, tt);
    kept = kept_one s is last puts.kept;
    before = before_one s is last puts.kept;
    done = λ e. puts.content;
    refused = λ q e. cc;
    few = omega arith;
  }

  module _ (s : State) (is : IsKept b lo hi s) (op : PageOp) (accepted : Accepts (page_meaning b) s op) (next : IsKept b lo hi (after (page_meaning b) s op)) (same : content_of next.map ≡ content_of is.map)
      (commands : List PageOp) (refusal : Option MapRefusal) (most : ℕ) (rest : SetsAt (after (page_meaning b) s op) next commands refusal most) where
    abbrev kept_with : (k : ℕ) → IsKept b lo hi (after_all (page_meaning b) s (take k (op ∷ commands)))
    kept_with zero = is
    kept_with (suc k) = rest.kept k

    before_with : (k : ℕ) → k < suc (length commands) → content_of (kept_with k).map ≡ content_of is.map
    before_with zero less = refl
    before_with (suc k) less = rest.before k (omega (arith, less)) ∙ same

    with_op : (n : ℕ) → suc most ≤ n → SetsAt s is (op ∷ commands) refusal n
    with_op n less = record {
      accepted = (accepted, rest.accepted);
      kept = kept_with;
      before = before_with;
      done = λ e. rest.done e ∙ ap (λ m. insert m key value) same;
      refused = λ r e. ((rest.refused r e).0 ∙ same, (rest.refused r e).1);
      few = omega (arith, rest.few, less);
    }

  with_same : (s : State) (is next : IsKept b lo hi s) → content_of next.map ≡ content_of is.map → (commands : List PageOp) (refusal : Option MapRefusal) (most n : ℕ) → SetsAt s next commands refusal most → most ≤ n
      → SetsAt s is commands refusal n
  with_same s is next same commands refusal most n rest less = record {
    accepted = rest.accepted;
    kept = rest.kept;
    before = λ k inside. rest.before k inside ∙ same;
    done = λ e. rest.done e ∙ ap (λ m. insert m key value) same;
    refused = λ r e. ((rest.refused r e).0 ∙ same, (rest.refused r e).1);
    few = omega (arith, rest.few, less);
  }

  with_ops : (ops : List PageOp) (s : State) (is : IsKept b lo hi s) → Keeps b lo hi s is ops → (next : IsKept b lo hi (after_all (page_meaning b) s ops)) → content_of next.map ≡ content_of is.map
      → (commands : List PageOp) (refusal : Option MapRefusal) (most n : ℕ) → SetsAt (after_all (page_meaning b) s ops) next commands refusal most → length ops + most ≤ n → SetsAt s is (ops ++ commands) refusal n
  with_ops [] s is keeps next same commands refusal most n rest less = with_same s is next same commands refusal most n rest (omega (arith, less))
  with_ops (op ∷ ops) s is keeps next same commands refusal most n rest less =
      let tail : Keeps b lo hi (after (page_meaning b) s op) (keeps.kept 1) ops =
      record { accepted = keeps.accepted.1; kept = λ k. keeps.kept (suc k); content = λ k. keeps.content (suc k) ∙ sym (keeps.content 1) } in
      with_op s is op keeps.accepted.0 (keeps.kept 1) (keeps.content 1) (ops ++ commands) refusal (length ops + most)
      (with_ops ops (after (page_meaning b) s op) (keeps.kept 1) tail next (same ∙ sym (keeps.content 1)) commands refusal most (length ops + most) rest (omega arith)) n (omega (arith, less))

module _ (searches : Searches) (changes : Changes) (reads : ReadsCells) (b : Bounds) (lo hi : ℕ) (small : hi < 2 ^ 32) (admits : Admits b hi) (key value : List ℕ) where
  module _ (pair : is_pair (room_of b.cap) (key, value) ≡ true) where
    abbrev found_at : (s : State) (is : IsKept b lo hi s) → DueFound reads lo hi small s (room_of b.cap) key value (leaf searches changes reads b lo hi small admits s is key value) is.map.level all_keys is.map.tree
    found_at s is = found searches changes reads b lo hi small admits s is key value pair

    abbrev planned : ℕ → State → Plan PageOp MapRefusal
    planned n s = set_from b lo hi key value n s

    abbrev rank_at : (s : State) → IsKept b lo hi s → Due → ℕ
    rank_at s is = rank_of searches changes reads b lo hi small admits s is key value

    abbrev op_at : (s : State) → IsKept b lo hi s → PageOp
    op_at s is = op searches changes reads b lo hi small admits s is key value

    abbrev GoesAt : (s : State) → IsKept b lo hi s → ℕ → Turn → Type 0
    GoesAt s is = Goes searches changes reads b lo hi small admits s is key value

    -- the rest of a call, of n turns
    abbrev IsRest : ℕ → Type 0
    IsRest n =
        (k : ℕ) (s : State) (is : IsKept b lo hi s) (d : Due) → due_of searches changes reads b lo hi small admits s is key value s ≡ Some d → IsLess k d → k < n → Sets b lo hi s is key value (planned n s) (3 * k + 1)

    abbrev behind : ℕ → State → List PageOp → Plan PageOp MapRefusal
    behind n s ops = planned n (after_all (page_meaning b) s ops)

    one_turn : (n m k : ℕ) (s : State) (is : IsKept b lo hi s) → IsRest n → (r : Turn) → GoesAt s is k r → k < m → k < n → Sets b lo hi s is key value (by_turn b lo hi (behind n s) r) (3 * m + 1)
    one_turn n m k s is rest (does ops) goes less low =
        let plan : Plan PageOp MapRefusal = behind n s ops in
        with_ops b lo hi key value ops s is goes.keeps goes.next goes.same plan.commands plan.refusal (3 * k + 1) (3 * m + 1)
        (rest k (after_all (page_meaning b) s ops) goes.next goes.less.0 goes.less.1 goes.less.2 low) (omega (arith, goes.few, less))
    one_turn n m k s is rest (ends op) goes less low = fewer b lo hi key value s is (op ∷ []) None 1 (3 * m + 1) (ended_at b lo hi key value s is op goes.0) (omega arith)
    one_turn n m k s is rest (refuses r) goes less low = fewer b lo hi key value s is [] (Some r) 0 (3 * m + 1) (refused_at b lo hi key value s is r goes) (omega arith)

    -- the turn of what is due, where the leaf has no room
    cut_due : (n k : ℕ) (s : State) (is : IsKept b lo hi s) → IsRest n → (d : Due) → GoesAt s is (rank_at s is d) (cut_turn lo (free_from s (suc lo) (hi - lo)) (Ok d)) → IsLess k d → k < suc n
        → Sets b lo hi s is key value (by_turn b lo hi (behind n s) (cut_turn lo (free_from s (suc lo) (hi - lo)) (Ok d))) (3 * k + 1)
    cut_due n k s is rest fits goes less low = fewer b lo hi key value s is [] (Some (BadMap lo)) 0 (3 * k + 1) (refused_at b lo hi key value s is (BadMap lo) goes) (omega arith)
    cut_due n k s is rest (asks w) goes less low = absurd less
    cut_due n k s is rest (granted w q i) goes less low =
        one_turn n k (rank w) s is rest (cut_turn lo (free_from s (suc lo) (hi - lo)) (Ok (granted w q i))) goes less (omega (arith, less, low))

    by_due : (n k : ℕ) (s : State) (is : IsKept b lo hi s) → IsRest n → IsLess k (found_at s is).due → k < suc n → Sets b lo hi s is key value (planned (suc n) s) (3 * k + 1)
    by_due n k s is rest less low =
        by_room searches changes reads b lo hi small admits s is key value pair (λ r. Sets b lo hi s is key value (by_turn b lo hi (behind n s) r) (3 * k + 1))
        (λ roomy.
        fewer b lo hi key value s is (op_at s is ∷ []) None 1 (3 * k + 1)
        (ended_at b lo hi key value s is (op_at s is)
        (puts_in searches changes reads b lo hi small admits s is key value pair (accepted searches changes reads b lo hi small admits s is key value pair roomy)).0) (omega arith))
        (λ full.
        cut_due n k s is rest (found_at s is).due (cut_goes searches changes reads b lo hi small admits s is key value pair (found_at s is).due (found_at s is).is full) less low)

    sets_from : (n : ℕ) → IsRest n
    sets_from zero k s is d comes less low = absurd (omega (arith, low))
    sets_from (suc n) k s is d comes less low =
        let here = found_at s is in
        let same : d ≡ here.due = same_some d here.due (sym comes ∙ due_root searches changes reads b lo hi small admits s is key value pair) in
        by_due n k s is (sets_from n) (subst (λ (d : Due). IsLess k d) same less) low

    sets_pair : (s : State) (is : IsKept b lo hi s) → Sets b lo hi s is key value (set_plan b lo hi key value s) (6 * is.map.level + 7)
    sets_pair s is =
        let n : ℕ = 2 * is.map.level + 2 in
        let first = at_first searches changes reads b lo hi small admits s is key value pair in
        let here = found_at s is in
        let fuel : suc n ≡ 2 * level_in (bytes_at lo s lo) + 3 = omega (arith, top_level searches changes reads b lo hi small admits s is key value) in
        let bound : 3 * n + 1 ≡ 6 * is.map.level + 7 = omega arith in
        subst (λ (most : ℕ). Sets b lo hi s is key value (set_plan b lo hi key value s) most) bound
        (subst (λ (k : ℕ). Sets b lo hi s is key value (planned k s) (3 * n + 1)) fuel
        (one_turn n n (rank_at s is here.due) s is (sets_from n) (set_turn b lo hi key value s) (set_goes searches changes reads b lo hi small admits s is key value pair) (omega (arith, first)) (omega (arith, first))))

    -- ---- where the call is done no leaf is left without cells

    abbrev Filled : State → Plan PageOp MapRefusal → Type 0
    Filled s plan = plan.refusal ≡ None → IsFull b lo hi (after_all (page_meaning b) s plan.commands)

    abbrev FillsRest : ℕ → Type 0
    FillsRest n =
        (k : ℕ) (s : State) (is : IsKept b lo hi s) (d : Due) → due_of searches changes reads b lo hi small admits s is key value s ≡ Some d → IsLess k d → k < n → Needs key 2 is.map.level is.map.tree → Filled s (planned n s)

    fills_turn : (n k : ℕ) (s : State) (is : IsKept b lo hi s) → FillsRest n → (r : Turn) → GoesAt s is k r → k < n → Needs key 2 is.map.level is.map.tree → Filled s (by_turn b lo hi (behind n s) r)
    fills_turn n k s is rest (does ops) goes low needs = λ done.
        subst (λ (new : State). IsFull b lo hi new) (sym (all_after b ops (behind n s ops).commands s))
        (rest k (after_all (page_meaning b) s ops) goes.next goes.less.0 goes.less.1 goes.less.2 low (goes.needs needs) done)
    fills_turn n k s is rest (ends op) goes low needs = λ done. goes.1 needs
    fills_turn n k s is rest (refuses r) goes low needs = λ done. cc

    fills_due : (n k : ℕ) (s : State) (is : IsKept b lo hi s) → FillsRest n → (d : Due) → GoesAt s is (rank_at s is d) (cut_turn lo (free_from s (suc lo) (hi - lo)) (Ok d)) → IsLess k d → k < suc n
        → Needs key 2 is.map.level is.map.tree → Filled s (by_turn b lo hi (behind n s) (cut_turn lo (free_from s (suc lo) (hi - lo)) (Ok d)))
    fills_due n k s is rest fits goes less low needs = λ done. cc
    fills_due n k s is rest (asks w) goes less low needs = absurd less
    fills_due n k s is rest (granted w q i) goes less low needs =
        fills_turn n (rank w) s is rest (cut_turn lo (free_from s (suc lo) (hi - lo)) (Ok (granted w q i))) goes (omega (arith, less, low)) needs

    fills_from : (n : ℕ) → FillsRest n
    fills_from zero k s is d comes less low needs = absurd (omega (arith, low))
    fills_from (suc n) k s is d comes less low needs =
        let here = found_at s is in
        let same : d ≡ here.due = same_some d here.due (sym comes ∙ due_root searches changes reads b lo hi small admits s is key value pair) in
        by_room searches changes reads b lo hi small admits s is key value pair (λ r. Filled s (by_turn b lo hi (behind n s) r))
        (λ roomy done. (puts_in searches changes reads b lo hi small admits s is key value pair (accepted searches changes reads b lo hi small admits s is key value pair roomy)).1 needs)
        (λ full.
        fills_due n k s is (fills_from n) here.due (cut_goes searches changes reads b lo hi small admits s is key value pair here.due here.is full) (subst (λ (d : Due). IsLess k d) same less) low needs)

    fills_pair : (s : State) (is : IsKept b lo hi s) → Needs key 2 is.map.level is.map.tree → Filled s (set_plan b lo hi key value s)
    fills_pair s is needs =
        let n : ℕ = 2 * is.map.level + 2 in
        let first = at_first searches changes reads b lo hi small admits s is key value pair in
        let here = found_at s is in
        let fuel : suc n ≡ 2 * level_in (bytes_at lo s lo) + 3 = omega (arith, top_level searches changes reads b lo hi small admits s is key value) in
        subst (λ (k : ℕ). Filled s (planned k s)) fuel
        (fills_turn n (rank_at s is here.due) s is (fills_from n) (set_turn b lo hi key value s) (set_goes searches changes reads b lo hi small admits s is key value pair) (omega (arith, first)) needs)

  -- a call with a key or a value that is too long
  too_long : (s : State) → is_pair (room_of b.cap) (key, value) ≡ false → (set_plan b lo hi key value s).refusal ≡ Some TooLong
  too_long s p =
      let n : ℕ = 2 * level_in (bytes_at lo s lo) + 2 in
      let fuel : suc n ≡ 2 * level_in (bytes_at lo s lo) + 3 = omega arith in
      (λ k. (set_from b lo hi key value (sym fuel k) s).refusal)
      ∙ ap (λ (q : Bool). (by_turn b lo hi (λ ops. set_from b lo hi key value n (after_all (page_meaning b) s ops)) (if q then set_by b lo hi key value s (walk lo hi s key) else refuses TooLong)).refusal) p

  pub set_fills : (s : State) (is : IsKept b lo hi s) → NoneIsEmpty is.map.level is.map.tree → (set_plan b lo hi key value s).refusal ≡ None → IsFull b lo hi (after_all (page_meaning b) s (set_plan b lo hi key value s).commands)
  set_fills s is none =
      elim (is_pair (room_of b.cap) (key, value)) as (λ p. is_pair (room_of b.cap) (key, value) ≡ p → (set_plan b lo hi key value s).refusal ≡ None → IsFull b lo hi (after_all (page_meaning b) s (set_plan b lo hi key value s).commands)) [
        | true ↦ λ p. fills_pair p s is (full_two key is.map.level is.map.tree none)
        | false ↦ λ p done. absurd (refused_not (sym (too_long s p) ∙ done))
      ] refl
    where
      refused_not : Some TooLong ≡ None → ⊥
      refused_not e = cc

  pub set_is_planned : (s : State) (is : IsKept b lo hi s) → Sets b lo hi s is key value (set_plan b lo hi key value s) (6 * is.map.level + 7)
  set_is_planned s is =
      elim (is_pair (room_of b.cap) (key, value)) as (λ p. is_pair (room_of b.cap) (key, value) ≡ p → Sets b lo hi s is key value (set_plan b lo hi key value s) (6 * is.map.level + 7)) [
        | true ↦ λ p. sets_pair p s is
        | false ↦ λ p.
            let fuel : suc (2 * level_in (bytes_at lo s lo) + 2) ≡ 2 * level_in (bytes_at lo s lo) + 3 = omega arith in
            let turn : refuses TooLong ≡ set_turn b lo hi key value s =
            sym (ap (λ (q : Bool). if q then set_by b lo hi key value s (walk lo hi s key) else refuses TooLong) p) in
            let n : ℕ = 2 * level_in (bytes_at lo s lo) + 2 in
            subst (λ (k : ℕ). Sets b lo hi s is key value (set_from b lo hi key value k s) (6 * is.map.level + 7)) fuel
            (subst (λ (r : Turn). Sets b lo hi s is key value (by_turn b lo hi (λ ops. set_from b lo hi key value n (after_all (page_meaning b) s ops)) r) (6 * is.map.level + 7)) turn
            (fewer b lo hi key value s is [] (Some TooLong) 0 (6 * is.map.level + 7) (refused_at b lo hi key value s is TooLong p) (omega arith)))
      ] refl
