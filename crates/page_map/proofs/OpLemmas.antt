-- A command that makes a page which fits is accepted, and writes it.
use Rattle.std.proofs.Common.{◌≡◌, ◌≢◌, inl, inr, ℕ, suc, ◌+◌, ◌-◌, ◌^◌, ◌<◌, ◌≤◌, ◌==◌, Bool, true, false, not, ◌&&◌, ◌||◌, if◌then◌else◌, Option, None, Some, Result, Ok, Err, List, [], ◌∷◌, All, map, length, take, is_lt, refl, sym, ap, ◌∙◌, subst, arith}
use Rattle.std.specs.Prelude.{IsTrue, nat_lt, nat_le}
use Rattle.std.specs.List.{list_all}
use Rattle.std.specs.Result.{result_err}
use Rattle.std.proofs.lemmas.Bool.{ne_eqb, leb-true, leb-false, le-leb, lt-ltb}
use Rattle.std.proofs.lemmas.List.Elements.{All-cons, All-nil}
use Rattle.oper_core.specs.State.{State, with_values}
use Rattle.oper_core.specs.Meaning.{Accepts, after, or_else}
use Rattle.oper_core.specs.declared.bounds.Bounds.{Bounds}
use Rattle.oper_core.specs.declared.refusal.Refusal.{Refusal}
use Rattle.oper_core.specs.declared.refusal.Refusal.TheVariants.{NoPages, TooLarge}
use Rattle.key_entries.specs.Entries.{byte_order}
use Rattle.key_entries.specs.EntryLaws.{true_both}
use Rattle.key_entries.specs.Objects.{are_apart, named}
use Rattle.key_entries.specs.ObjectLaws.{named_by}
use Rattle.page_ops.specs.Page.{Cell, Page, page_code, page_of, AreShort}
use Rattle.page_ops.specs.Reading.{between, level_in}
use Rattle.page_ops.specs.Seen.{child_cell}
use Rattle.page_ops.specs.Effects.{to_fill, where_kind, where_places}
use Rattle.page_ops.specs.OnCells.{IsShortPage, code_of, key_at, replaced, has_below, has_run, may_precede, made_on, on_cells, where_fits, with_cells, written_on}
use Rattle.page_ops.specs.Operation.{fits_code, objects_of, page_meaning, read_by, shape_of, written_by}
use Rattle.page_ops.specs.declared.page_op.PageOp.{PageOp}
use Rattle.page_ops.specs.declared.page_op.PageOp.TheVariants.{Part, Keep, Turn, TurnTwo, Root, Free}
use Rattle.page_map.specs.Map.{bytes_at}
use Rattle.page_map.specs.Plan.{Admits}
use Rattle.page_map.specs.Splits.{size_of}
use Rattle.page_map.specs.Sets.{room_of}
use Rattle.page_map.proofs.ChangeLemmas.{Changes, read_as, written_there, written_else}
use Rattle.page_map.proofs.CutLemmas.{page_size}
use Rattle.page_map.proofs.TwoLemmas.{Precedes, may_go}

-- ---- the room of a page

pub room_cap : (cap : ℕ) → room_of cap ≤ cap
room_cap cap =
    elim (nat_le cap 65535) as (λ t. nat_le cap 65535 ≡ t → (if t then cap else 65535) ≤ cap) [
      | true ↦ λ e. omega arith
      | false ↦ λ e. omega (arith, leb-false cap 65535 e)
    ] refl

pub room_low : (cap : ℕ) → room_of cap < 65536
room_low cap =
    elim (nat_le cap 65535) as (λ t. nat_le cap 65535 ≡ t → (if t then cap else 65535) < 65536) [
      | true ↦ λ e. omega (arith, leb-true cap 65535 e)
      | false ↦ λ e. omega arith
    ] refl

pub room_fits : (n cap : ℕ) → n ≤ cap → n < 65536 → n ≤ room_of cap
room_fits n cap low short =
    elim (nat_le cap 65535) as (λ t. n ≤ (if t then cap else 65535)) [ true ↦ low | false ↦ omega (arith, short) ]

pub fits_room : (n cap : ℕ) → n ≤ room_of cap → IsTrue (nat_le n cap && nat_lt n 65536)
fits_room n cap low =
    true_both (nat_le n cap) (nat_lt n 65536) (le-leb n cap (omega (arith, low, room_cap cap))) (lt-ltb n 65536 (omega (arith, low, room_low cap)))

-- ---- states

module _ (lo : ℕ) (s new : State) (x level : ℕ) (cells : List Cell) (is : new ≡ with_values s (x ∷ []) (page_of level cells ∷ [])) where
  pub value_there : new x ≡ page_of level cells
  value_there = ap (λ (t : State). t x) is ∙ written_there s x (page_of level cells)

  pub value_else : (y : ℕ) → y ≢ x → new y ≡ s y
  value_else y apart = ap (λ (t : State). t y) is ∙ written_else s x y (page_of level cells) apart

  pub bytes_there : bytes_at lo new x ≡ page_of level cells
  bytes_there =
      ap (λ (v : List ℕ). if x == lo then to_fill v else v) value_there
      ∙ elim (x == lo) as (λ t. (if t then to_fill (page_of level cells) else page_of level cells) ≡ page_of level cells) [ true ↦ refl | false ↦ refl ]

  pub bytes_else : (y : ℕ) → y ≢ x → bytes_at lo new y ≡ bytes_at lo s y
  bytes_else y apart = ap (λ (v : List ℕ). if y == lo then to_fill v else v) (value_else y apart)

  pub fits_after : (cap : ℕ) → ((y : ℕ) → length (s y) ≤ cap) → length (page_of level cells) ≤ cap → (y : ℕ) → length (new y) ≤ cap
  fits_after cap fits short y =
      let value : List ℕ = page_of level cells in
      let here : length (with_values s (x ∷ []) (value ∷ []) y) ≤ cap =
      elim (y == x) as (λ t. length (if t || false then (if t then value else []) else s y) ≤ cap) [ true ↦ short | false ↦ fits y ] in
      omega (arith, here, ap (λ (t : State). length (t y)) is)

-- a page that is not the root is read as it stands
pub read_child : (lo : ℕ) (s : State) (x : ℕ) → x ≢ lo → s x ≡ bytes_at lo s x
read_child lo s x apart = sym (ap (λ (t : Bool). if t then to_fill (s x) else s x) (ne_eqb x lo apart))

-- and so is an inner page
pub read_inner : (lo : ℕ) (s : State) (x level : ℕ) (cells : List Cell) → bytes_at lo s x ≡ page_of (suc level) cells → s x ≡ page_of (suc level) cells
read_inner lo s x level cells is = elim (read_as lo s x) [
  | inl same ↦ same ∙ is
  | inr none ↦ absurd (omega (arith, ap level_in (sym none.1 ∙ is)))
]

-- ---- commands

pub record IsWritten (b : Bounds) (s : State) (op : PageOp) (level : ℕ) (cells : List Cell) : Type 0 where
  pub accepted : Accepts (page_meaning b) s op
  pub after_is : after (page_meaning b) s op ≡ with_values s (written_by op ∷ []) (page_of level cells ∷ [])
  pub short : AreShort cells
  pub size : length (page_of level cells) ≤ room_of b.cap

module _ (changes : Changes) (b : Bounds) (hi : ℕ) (small : hi < 2 ^ 32) (admits : Admits b hi) (s : State) where
  op_written : (op : PageOp) (pages : List Page) (level : ℕ) (cells : List Cell) → map s (read_by op) ≡ map page_code pages → All IsShortPage pages → length pages ≡ length (read_by op)
      → on_cells op pages ≡ with_cells level cells → length (page_of level cells) ≤ room_of b.cap
      → IsTrue (list_all (λ x. nat_lt x b.objects) (objects_of op)) → IsTrue (are_apart (objects_of op)) → IsTrue (fits_code op) → IsWritten b s op level cells
  op_written op pages level cells values shorts count is size below apart fits =
      let value : List ℕ = page_of level cells in
      let made : made_on b.cap op pages ≡ Ok value =
      ap (λ (o : _). where_fits b.cap (code_of o)) is ∙ ap (λ (t : Bool). if t then Ok value else Err TooLarge) (fits_room (length value) b.cap size) in
      let shape : shape_of b op ≡ None =
      ap (λ (t : Bool). if t then named b.objects (objects_of op) (fits_code op) else Some NoPages) admits.more ∙ named_by b.objects (objects_of op) (fits_code op) below apart fits in
      let check : (page_meaning b).check op (map s (read_by op)) ≡ None = ap ((page_meaning b).check op) values ∙ changes.check b op pages shorts count ∙ ap result_err made in
      record {
        accepted = ap (λ (o : Option Refusal). or_else o ((page_meaning b).check op (map s (read_by op)))) shape ∙ check;
        after_is =
            ap (with_values s (written_by op ∷ []))
            (ap ((page_meaning b).effect op) values ∙ changes.effect b op pages shorts count ∙ ap (λ (r : Result (List ℕ) Refusal). written_on r ∷ []) made);
        short = changes.short (record { level = level; cells = cells }) (omega (arith, size, room_low b.cap));
        size = size;
      }

  one_short : (level : ℕ) (cells : List Cell) → AreShort cells → All IsShortPage (record { level = level; cells = cells } ∷ [])
  one_short level cells short = All-cons IsShortPage (record { level = level; cells = cells }) [] short (All-nil IsShortPage)

  there : (x : ℕ) → x ≤ hi → IsTrue (nat_lt x b.objects)
  there x low = lt-ltb x b.objects (omega (arith, low, admits.objects))

  object_fits : (x : ℕ) → x ≤ hi → IsTrue (nat_lt x (256 ^ 4))
  object_fits x low = lt-ltb x (256 ^ 4) (omega (arith, low, small))

  place_fits : (n : ℕ) (cells : List Cell) → AreShort cells → n ≤ length cells → IsTrue (nat_lt n (256 ^ 2))
  place_fits n cells short low = lt-ltb n (256 ^ 2) (omega (arith, short, low))

  one_below : (x : ℕ) → x ≤ hi → IsTrue (nat_lt x b.objects && true)
  one_below x low = true_both (nat_lt x b.objects) true (there x low) refl

  -- cells of a page, as a page of their own
  pub part_done : (new x m n level : ℕ) (cells part : List Cell) → s x ≡ page_of level cells → AreShort cells → length (page_of level cells) ≤ room_of b.cap → new ≢ x → new ≤ hi → x ≤ hi
      → m ≤ n → n ≤ length cells → between m n cells ≡ part → size_of part ≤ size_of cells → IsWritten b s (Part new x m n) level part
  part_done new x m n level cells part read short size apart new_low x_low order inside is less =
      op_written (Part new x m n) (record { level = level; cells = cells } ∷ []) level part (ap (λ (v : List ℕ). v ∷ []) read) (one_short level cells short) refl
      (ap (λ (t : Bool). where_places t (with_cells level (between m n cells))) (true_both (nat_le m n) (nat_le n (length cells)) (le-leb m n order) (le-leb n (length cells) inside))
      ∙ ap (with_cells level) is)
      (omega (arith, size, less, page_size level cells, page_size level part))
      (true_both (nat_lt new b.objects) (nat_lt x b.objects && true) (there new new_low) (one_below x x_low))
      (ap (λ (t : Bool). not (t || false) && true) (ne_eqb new x apart))
      (true_both (nat_lt new (256 ^ 4)) (nat_lt x (256 ^ 4) && (nat_lt m (256 ^ 2) && nat_lt n (256 ^ 2))) (object_fits new new_low)
      (true_both (nat_lt x (256 ^ 4)) (nat_lt m (256 ^ 2) && nat_lt n (256 ^ 2)) (object_fits x x_low)
      (true_both (nat_lt m (256 ^ 2)) (nat_lt n (256 ^ 2)) (place_fits m cells short (omega (arith, order, inside))) (place_fits n cells short inside))))

  -- the first cells stay
  pub keep_done : (x n level : ℕ) (cells part : List Cell) → s x ≡ page_of level cells → AreShort cells → length (page_of level cells) ≤ room_of b.cap → x ≤ hi → n ≤ length cells → take n cells ≡ part
      → size_of part ≤ size_of cells → IsWritten b s (Keep x n) level part
  keep_done x n level cells part read short size x_low inside is less =
      let all : n - 0 ≡ n = omega arith in
      op_written (Keep x n) (record { level = level; cells = cells } ∷ []) level part (ap (λ (v : List ℕ). v ∷ []) read) (one_short level cells short) refl
      (ap (λ (t : Bool). where_places t (with_cells level (between 0 n cells))) (true_both (nat_le 0 n) (nat_le n (length cells)) (le-leb 0 n (omega arith)) (le-leb n (length cells) inside))
      ∙ ap (λ (k : ℕ). with_cells level (take k cells)) all ∙ ap (with_cells level) is)
      (omega (arith, size, less, page_size level cells, page_size level part))
      (one_below x x_low) refl
      (true_both (nat_lt x (256 ^ 4)) (nat_lt n (256 ^ 2)) (object_fits x x_low) (place_fits n cells short inside))

  -- a page names one more child behind another
  pub two_done : (q i x : ℕ) (key : List ℕ) (new level : ℕ) (cells target : List Cell) → s q ≡ page_of (suc level) cells → AreShort cells → q ≤ hi → x ≤ hi → new ≤ hi → i < length cells
      → is_lt (byte_order (key_at cells i) key) ≡ true → Precedes cells (suc i) key → length key < 65536 → target ≡ replaced i 1 (child_cell (key_at cells i) x ∷ child_cell key new ∷ []) cells
      → length (page_of (suc level) target) ≤ room_of b.cap → IsWritten b s (TurnTwo q i 1 x key new) (suc level) target
  two_done q i x key new level cells target read short q_low x_low new_low inside above precedes key_short is size =
      let next : i + 1 ≡ suc i = omega arith in
      let run : IsTrue (has_run cells i 1) = true_both (nat_lt 0 1) (nat_le (i + 1) (length cells)) (lt-ltb 0 1 (omega arith)) (le-leb (i + 1) (length cells) (omega (arith, inside))) in
      let below : IsTrue (has_below cells i key) = true_both (nat_lt i (length cells)) (is_lt (byte_order (key_at cells i) key)) (lt-ltb i (length cells) inside) above in
      let goes : IsTrue (may_precede cells (i + 1) key) = subst (λ (k : ℕ). IsTrue (may_precede cells k key)) (sym next) (may_go cells (suc i) key precedes) in
      let places : IsTrue (has_run cells i 1 && (has_below cells i key && may_precede cells (i + 1) key)) =
      true_both (has_run cells i 1) (has_below cells i key && may_precede cells (i + 1) key) run (true_both (has_below cells i key) (may_precede cells (i + 1) key) below goes) in
      let made : List Cell = replaced i 1 (child_cell (key_at cells i) x ∷ child_cell key new ∷ []) cells in
      let tail : Bool = nat_lt (length key) 65536 && nat_lt new (256 ^ 4) in
      op_written (TurnTwo q i 1 x key new) (record { level = suc level; cells = cells } ∷ []) (suc level) target (ap (λ (v : List ℕ). v ∷ []) read) (one_short (suc level) cells short) refl
      ((λ k. where_kind (not (ne_eqb (suc level) 0 (λ e. absurd (omega (arith, e))) k)) (where_places (places k) (with_cells (suc level) made))) ∙ ap (with_cells (suc level)) (sym is))
      size (one_below q q_low) refl
      (true_both (nat_lt q (256 ^ 4)) (nat_lt i (256 ^ 2) && (nat_lt 1 (256 ^ 2) && (nat_lt x (256 ^ 4) && tail))) (object_fits q q_low)
      (true_both (nat_lt i (256 ^ 2)) (nat_lt 1 (256 ^ 2) && (nat_lt x (256 ^ 4) && tail)) (place_fits i cells short (omega (arith, inside)))
      (true_both (nat_lt 1 (256 ^ 2)) (nat_lt x (256 ^ 4) && tail) (lt-ltb 1 (256 ^ 2) (omega arith))
      (true_both (nat_lt x (256 ^ 4)) tail (object_fits x x_low)
      (true_both (nat_lt (length key) 65536) (nat_lt new (256 ^ 4)) (lt-ltb (length key) 65536 key_short) (object_fits new new_low))))))

  -- an inner page over two
  pub root_done : (x level left : ℕ) (key : List ℕ) (right : ℕ) → x ≤ hi → left ≤ hi → right ≤ hi → level < 256 → length key < 65536
      → length (page_of level (child_cell [] left ∷ child_cell key right ∷ [])) ≤ room_of b.cap → IsWritten b s (Root x level left key right) level (child_cell [] left ∷ child_cell key right ∷ [])
  root_done x level left key right x_low left_low right_low level_low key_short size =
      let tail : Bool = nat_lt (length key) 65536 && nat_lt right (256 ^ 4) in
      op_written (Root x level left key right) [] level (child_cell [] left ∷ child_cell key right ∷ []) refl (All-nil IsShortPage) refl refl size (one_below x x_low) refl
      (true_both (nat_lt x (256 ^ 4)) (nat_lt level (256 ^ 1) && (nat_lt left (256 ^ 4) && tail)) (object_fits x x_low)
      (true_both (nat_lt level (256 ^ 1)) (nat_lt left (256 ^ 4) && tail) (lt-ltb level (256 ^ 1) (omega (arith, level_low)))
      (true_both (nat_lt left (256 ^ 4)) tail (object_fits left left_low)
      (true_both (nat_lt (length key) 65536) (nat_lt right (256 ^ 4)) (lt-ltb (length key) 65536 key_short) (object_fits right right_low)))))

  -- two cells become one with another child
  pub turn_done : (q i x level : ℕ) (cells target : List Cell) → s q ≡ page_of (suc level) cells → AreShort cells → length (page_of (suc level) cells) ≤ room_of b.cap → q ≤ hi → x ≤ hi → i + 2 ≤ length cells
      → target ≡ replaced i 2 (child_cell (key_at cells i) x ∷ []) cells → size_of target ≤ size_of cells → IsWritten b s (Turn q i 2 x) (suc level) target
  turn_done q i x level cells target read short size q_low x_low inside is less =
      let run : IsTrue (has_run cells i 2) = true_both (nat_lt 0 2) (nat_le (i + 2) (length cells)) (lt-ltb 0 2 (omega arith)) (le-leb (i + 2) (length cells) inside) in
      let made : List Cell = replaced i 2 (child_cell (key_at cells i) x ∷ []) cells in
      op_written (Turn q i 2 x) (record { level = suc level; cells = cells } ∷ []) (suc level) target (ap (λ (v : List ℕ). v ∷ []) read) (one_short (suc level) cells short) refl
      ((λ k. where_kind (not (ne_eqb (suc level) 0 (λ e. absurd (omega (arith, e))) k)) (where_places (run k) (with_cells (suc level) made))) ∙ ap (with_cells (suc level)) (sym is))
      (omega (arith, size, less, page_size (suc level) cells, page_size (suc level) target)) (one_below q q_low) refl
      (true_both (nat_lt q (256 ^ 4)) (nat_lt i (256 ^ 2) && (nat_lt 2 (256 ^ 2) && nat_lt x (256 ^ 4))) (object_fits q q_low)
      (true_both (nat_lt i (256 ^ 2)) (nat_lt 2 (256 ^ 2) && nat_lt x (256 ^ 4)) (place_fits i cells short (omega (arith, inside)))
      (true_both (nat_lt 2 (256 ^ 2)) (nat_lt x (256 ^ 4)) (lt-ltb 2 (256 ^ 2) (omega arith)) (object_fits x x_low))))

  -- an object is given back
  pub free_done : (x : ℕ) → x ≤ hi → Accepts (page_meaning b) s (Free x) × (after (page_meaning b) s (Free x) ≡ with_values s (x ∷ []) ([] ∷ []))
  free_done x low =
      let made : made_on b.cap (Free x) [] ≡ Ok [] = ap (λ (t : Bool). if t then Ok [] else Err TooLarge) (true_both (nat_le 0 b.cap) (nat_lt 0 65536) (le-leb 0 b.cap (omega arith)) (lt-ltb 0 65536 (omega arith))) in
      let shape : shape_of b (Free x) ≡ None =
      ap (λ (t : Bool). if t then named b.objects (x ∷ []) (fits_code (Free x)) else Some NoPages) admits.more ∙ named_by b.objects (x ∷ []) (fits_code (Free x)) (one_below x low) refl (object_fits x low) in
      let check : (page_meaning b).check (Free x) [] ≡ None = changes.check b (Free x) [] (All-nil IsShortPage) refl ∙ ap result_err made in (
        ap (λ (o : Option Refusal). or_else o ((page_meaning b).check (Free x) [])) shape ∙ check,
        ap (with_values s (x ∷ [])) (changes.effect b (Free x) [] (All-nil IsShortPage) refl ∙ ap (λ (r : Result (List ℕ) Refusal). written_on r ∷ []) made),
      )
