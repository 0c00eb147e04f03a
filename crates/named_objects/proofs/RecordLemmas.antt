-- How long the records of commands are.
use Rattle.std.proofs.Common.{◌≡◌, ◌≤◌, refl, ap, subst, arith, ℕ, zero, suc, ◌+◌, ◌*◌, Bool, true, false, ◌&&◌, if◌then◌else◌, None, Some, Ok, Err, List, [], ◌∷◌, length, length-append, map}
use Rattle.std.specs.Prelude.{⊤, IsTrue, nat_le, nat_lt}
use Rattle.std.specs.Result.{result_err}
use Rattle.std.proofs.lemmas.Bool.{leb-true, ltb-true}
use Rattle.std.proofs.lemmas.Nat.{mul-le}
use Rattle.oper_core.specs.State.{State}
use Rattle.oper_core.specs.declared.refusal.Refusal.TheVariants.{TooLarge}
use Rattle.oper_core.specs.Meaning.{after, read_values}
use Rattle.oper_core.specs.MeaningLaws.{or_else-none}
use Rattle.formats.specs.Objects.{bounds_of}
use Rattle.formats.specs.declared.params.Params.{Params}
use Rattle.call_plans.specs.Laws.{AllAccepted}
use Rattle.key_entries.specs.EntryLaws.{both_true}
use Rattle.op_codec.specs.AllOps.{page}
use Rattle.page_ops.specs.Effects.{Made, first, has_cells, is_short, made_by, page as made_page, to_fill, where_kind, where_places, where_short}
use Rattle.page_ops.specs.Formats.{object, text}
use Rattle.page_ops.specs.Layout.{Layout, part_of, size}
use Rattle.page_ops.specs.Operation.{op_code, page_meaning}
use Rattle.page_ops.specs.Page.{Cell, cell_code, cells_code}
use Rattle.page_ops.specs.Reading.{count_in, ends_before, goes_in, has_cell, is_inner, is_leaf, key_of, level_in, stands_below}
use Rattle.page_ops.specs.Seen.{child_cell}
use Rattle.page_ops.specs.declared.page_op.PageOp.{PageOp}
use Rattle.page_ops.specs.declared.page_op.PageOp.TheVariants.{Absorb, Delete, Free, Join, Keep, Part, Put, Root, Set, Turn, TurnTwo}
use Rattle.page_map.specs.Map.{Holds, IsMap, Tree, bytes_at, root_of}
use Rattle.page_map.specs.Sets.{room_of}
use Rattle.named_objects.specs.Giving.{changed, fresh}
use Rattle.named_objects.specs.Records.{given_bytes, levels_of, page_most, record_bytes}
use Rattle.named_objects.specs.declared.given.Given.{Given}
use Rattle.named_objects.specs.declared.given.Given.TheVariants.{Bytes, CopyOf, Longer}

-- ---- commands on pages

-- so many bytes have the new cells of a page that is made, where one is
abbrev HasNew : ℕ → Made → Type 0
HasNew n (Ok (Some layout)) = n ≤ length (cells_code layout.new)
HasNew n (Ok None) = ⊥
HasNew n (Err r) = ⊤

where_has : (n : ℕ) (kind places : Bool) (made : Made) → HasNew n made → HasNew n (where_kind kind (where_places places made))
where_has n true true made has = has
where_has n true false made has = tt
where_has n false places made has = tt

one_cell : (key value : List ℕ) → length (cells_code ((key, value) ∷ [])) ≡ 2 + length key + length value
one_cell key value = omega (arith, length-append (cell_code (key, value)) [], length-append key value)

two_cells : (first second : Cell) → length (cells_code (first ∷ second ∷ [])) ≡ 4 + length first.0 + length first.1 + length second.0 + length second.1
two_cells first second =
    omega (arith, length-append (cell_code first) (cells_code (second ∷ [])), length-append (cell_code second) [], length-append first.0 first.1, length-append second.0 second.1)

module _ (cap : ℕ) where
  size_fits : (layout : Layout) → IsTrue (is_short cap layout) → size layout ≤ room_of cap
  size_fits layout short =
      let parts = both_true (nat_le (size layout) cap) (nat_lt (size layout) 65536) short in
      let low = leb-true (size layout) cap parts.0 in
      let small = ltb-true (size layout) 65536 parts.1 in
      elim (nat_le cap 65535) as (λ t. size layout ≤ (if t then cap else 65535)) [
        | true ↦ low
        | false ↦ omega (arith, small)
      ]

  -- new cells that are made fit a page, with its head
  new_fits : (n : ℕ) (made : Made) → HasNew n made → result_err (where_short cap made) ≡ None → n + 4 ≤ room_of cap
  new_fits n (Err r) has accepted = cc
  new_fits n (Ok None) has accepted = absurd has
  new_fits n (Ok (Some layout)) has accepted =
      elim (is_short cap layout) as (λ t. is_short cap layout ≡ t → (let made : Made = if t then Ok (Some layout) else Err TooLarge in result_err made ≡ None) → n + 4 ≤ room_of cap) [
        | true ↦ λ short e. let whole = size_fits layout short in omega (arith, whole, has)
        | false ↦ λ short e. cc
      ] refl accepted

  -- the texts of an operation that is accepted stand in the page that it makes
  code_fits : (op : PageOp) (values : List (List ℕ)) → result_err (where_short cap (made_by op values)) ≡ None → length (op_code op) ≤ room_of cap + 17
  code_fits (Put x i key value) values accepted =
      let bytes = to_fill (first values) in
      let n = 2 + length key + length value in
      let long = one_cell key value in
      let made : Made = made_page 0 (part_of bytes 0 i) ((key, value) ∷ []) (part_of bytes i (count_in bytes)) in
      let fits = new_fits n (made_by (Put x i key value) values) (where_has n (is_leaf bytes) (goes_in bytes i key) made (omega (arith, long))) accepted in
      let code = length-append key (text.code value) in
      omega (arith, fits, code)
  code_fits (Set x i value) values accepted =
      let bytes = first values in
      let n = length value in
      let long = one_cell (key_of bytes i) value in
      let made : Made = made_page 0 (part_of bytes 0 i) ((key_of bytes i, value) ∷ []) (part_of bytes (i + 1) (count_in bytes)) in
      let fits = new_fits n (made_by (Set x i value) values) (where_has n (is_leaf bytes) (has_cell bytes i) made (omega (arith, long))) accepted in
      omega (arith, fits)
  code_fits (TurnTwo x i r child key second) values accepted =
      let bytes = first values in
      let n = length key in
      let long = two_cells (child_cell (key_of bytes i) child) (child_cell key second) in
      let made : Made = made_page (level_in bytes) (part_of bytes 0 i) (child_cell (key_of bytes i) child ∷ child_cell key second ∷ []) (part_of bytes (i + r) (count_in bytes)) in
      let places = has_cells bytes i r && (stands_below bytes i key && ends_before bytes (i + r) key) in
      let fits = new_fits n (made_by (TurnTwo x i r child key second) values) (where_has n (is_inner bytes) places made (omega (arith, long))) accepted in
      let code = length-append key (object.code second) in
      omega (arith, fits, code)
  code_fits (Root x level left key right) values accepted =
      let n = length key in
      let long = two_cells (child_cell [] left) (child_cell key right) in
      let fits = new_fits n (made_by (Root x level left key right) values) (omega (arith, long)) accepted in
      let code = length-append key (object.code right) in
      omega (arith, fits, code)
  code_fits (Delete x i) values accepted = omega arith
  code_fits (Part new x i j) values accepted = omega arith
  code_fits (Absorb x y t) values accepted = omega arith
  code_fits (Join new x y i j) values accepted = omega arith
  code_fits (Keep x n) values accepted = omega arith
  code_fits (Turn x i r child) values accepted = omega arith
  code_fits (Free x) values accepted = omega arith

-- ---- lists of them

one_more : (a b n m : ℕ) → a ≤ m → b ≤ n * m → a + b ≤ suc n * m
one_more a b n m first rest = omega (arith, first, rest)

below_both : (a b c : ℕ) → a ≤ b → b ≤ c → a ≤ c
below_both a b c first second = omega (arith, first, second)

module _ (p : Params) where
  each_fits : (s : State) (ops : List PageOp) → AllAccepted (page_meaning (bounds_of p)) s ops → record_bytes p (map page ops) ≤ length ops * page_most p.cap
  each_fits s [] accepted = omega arith
  each_fits s (op ∷ ops) accepted =
      let m = page_meaning (bounds_of p) in
      let values = read_values m s op in
      let checked = or_else-none (m.shape op) (m.check op values) accepted.0 in
      let code = code_fits p.cap op values checked.1 in
      one_more (9 + length (op_code op)) (record_bytes p (map page ops)) (length ops) (page_most p.cap) (omega (arith, code)) (each_fits (after m s op) ops accepted.1)

  -- so many commands on pages that are accepted
  pub pages_fit : (s : State) (ops : List PageOp) (most : ℕ) → AllAccepted (page_meaning (bounds_of p)) s ops → length ops ≤ most → record_bytes p (map page ops) ≤ most * page_most p.cap
  pages_fit s ops most accepted few =
      below_both (record_bytes p (map page ops)) (length ops * page_most p.cap) (most * page_most p.cap) (each_fits s ops accepted)
      (mul-le (length ops) (page_most p.cap) most (page_most p.cap) few (omega arith))

  -- ---- what a name is given

  pub changed_fits : (given : Given) (x : ℕ) → record_bytes p (changed given x ∷ []) ≤ given_bytes given
  changed_fits (Bytes value) x = omega arith
  changed_fits (CopyOf y) x = omega arith
  changed_fits (Longer y) x = omega arith

  pub fresh_fits : (given : Given) (x : ℕ) → record_bytes p (fresh given x ∷ []) ≤ given_bytes given
  fresh_fits (Bytes value) x = omega arith
  fresh_fits (CopyOf y) x = omega arith
  fresh_fits (Longer y) x = omega arith

-- ---- levels

level_at : (lo hi : ℕ) (s : State) (level : ℕ) (t : Tree level) → Holds lo hi s level t → level_in (bytes_at lo s (root_of level t)) ≡ level
level_at lo hi s zero t holds = ap level_in holds.code
level_at lo hi s (suc level) t holds = ap level_in holds.0.code

-- those above the leaves of a map
pub levels_are : (lo hi : ℕ) (s : State) (is : IsMap lo hi s) → levels_of lo s ≡ is.level
levels_are lo hi s is = subst (λ (x : ℕ). level_in (bytes_at lo s x) ≡ is.level) is.root (level_at lo hi s is.level is.tree is.holds)
