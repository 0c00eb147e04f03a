-- What the operations on pages of a map make of bytes.
use Rattle.std.proofs.Common.{◌<◌, ℕ, suc, ◌+◌, ◌-◌, Bool, true, false, None, Some, Ok, Err, List, [], ◌∷◌, ◌++◌, All, length, drop, arith}
use Rattle.std.specs.Prelude.{⊤, ◌&&◌, IfOk, IfSome, flat_map, if◌then◌else◌, nat_le}
use Rattle.std.proofs.lemmas.List.Elements.{All-cons, All-nil}
use Rattle.byteorder.specs.Endian.{little_bytes, little_number}
use Rattle.oper_core.specs.declared.bounds.Bounds.{Bounds}
use Rattle.oper_core.specs.declared.refusal.Refusal.TheVariants.{TooLarge}
use Rattle.page_ops.specs.Formats.{absorb_format, join_format, object, part_format, place_format, put_format, root_format, set_format, text, turn_format, turn_two_format}
use Rattle.page_ops.specs.Effects.{Made, are_alike, first, has_cells, is_short, lesser, made_by, other, part_made, to_fill, where_kind, where_places, where_short}
use Rattle.page_ops.specs.Layout.{Cells, Layout, back_at, built, cells_of, count_of, moved, new_at, no_cells, part_of, places_of}
use Rattle.page_ops.specs.Operation.{op_code, page_meaning, value_made}
use Rattle.page_ops.specs.Page.{Cell, cell_code, cells_code, places_from}
use Rattle.page_ops.specs.Reading.{between, cell_bytes, count_in, ends_before, goes_in, has_cell, is_inner, is_leaf, key_of, level_in, opens, place_of, stands_below}
use Rattle.page_ops.specs.Seen.{child_cell}
use Rattle.page_ops.specs.declared.page_op.PageOp.{PageOp}
use Rattle.page_ops.specs.declared.page_op.PageOp.TheVariants.{Put, Set, Delete, Part, Absorb, Join, Keep, Turn, TurnTwo, Root, Free}
use Rattle.app_program.specs.OneCode.{AreBytes}
use Rattle.app_steps.proofs.ByteLists.{bytes_append, bytes_back, bytes_cons, bytes_drop, bytes_front, bytes_take, flat_bytes, no_bytes, number_bytes, numbers_bytes, one_value, value_bytes}

-- ---- codes

-- the texts of an operation, and the level of a root, are bytes
abbrev pub HasBytes : PageOp → Type 0
HasBytes (Put x i key value) = AreBytes key × AreBytes value
HasBytes (Set x i value) = AreBytes value
HasBytes (TurnTwo x i r child key second) = AreBytes key
HasBytes (Root x level left key right) = (level < 256) × AreBytes key
HasBytes op = ⊤

text_bytes : (bytes : List ℕ) → AreBytes bytes → AreBytes (text.code bytes)
text_bytes bytes are = bytes_append (little_bytes 2 (length bytes)) bytes (number_bytes 2 (length bytes)) are

text_back : (bytes : List ℕ) → AreBytes (text.code bytes) → AreBytes bytes
text_back bytes are = bytes_back (little_bytes 2 (length bytes)) bytes are

-- a number in front of bytes
numbered : (n x : ℕ) (rest : List ℕ) → AreBytes rest → AreBytes (little_bytes n x ++ rest)
numbered n x rest are = bytes_append (little_bytes n x) rest (number_bytes n x) are

keyed : (key : List ℕ) (child : ℕ) → AreBytes key → AreBytes (text.code key ++ little_bytes 4 child)
keyed key child are = bytes_append (text.code key) (little_bytes 4 child) (text_bytes key are) (number_bytes 4 child)

body_bytes : (op : PageOp) → HasBytes op → AreBytes (drop 1 (op_code op))
body_bytes (Put x i key value) has =
    numbered 4 x (little_bytes 2 i ++ (text.code key ++ text.code value))
    (numbered 2 i (text.code key ++ text.code value) (bytes_append (text.code key) (text.code value) (text_bytes key has.0) (text_bytes value has.1)))
body_bytes (Set x i value) has = numbered 4 x (little_bytes 2 i ++ text.code value) (numbered 2 i (text.code value) (text_bytes value has))
body_bytes (Delete x i) has = numbered 4 x (little_bytes 2 i) (number_bytes 2 i)
body_bytes (Part new x i j) has =
    numbered 4 new (little_bytes 4 x ++ (little_bytes 2 i ++ little_bytes 2 j)) (numbered 4 x (little_bytes 2 i ++ little_bytes 2 j) (numbered 2 i (little_bytes 2 j) (number_bytes 2 j)))
body_bytes (Absorb x y t) has = numbered 4 x (little_bytes 4 y ++ little_bytes 2 t) (numbered 4 y (little_bytes 2 t) (number_bytes 2 t))
body_bytes (Join new x y i j) has =
    numbered 4 new (little_bytes 4 x ++ (little_bytes 4 y ++ (little_bytes 2 i ++ little_bytes 2 j)))
    (numbered 4 x (little_bytes 4 y ++ (little_bytes 2 i ++ little_bytes 2 j)) (numbered 4 y (little_bytes 2 i ++ little_bytes 2 j) (numbered 2 i (little_bytes 2 j) (number_bytes 2 j))))
body_bytes (Keep x n) has = numbered 4 x (little_bytes 2 n) (number_bytes 2 n)
body_bytes (Turn x i r child) has =
    numbered 4 x (little_bytes 2 i ++ (little_bytes 2 r ++ little_bytes 4 child)) (numbered 2 i (little_bytes 2 r ++ little_bytes 4 child) (numbered 2 r (little_bytes 4 child) (number_bytes 4 child)))
body_bytes (TurnTwo x i r child key second) has =
    numbered 4 x (little_bytes 2 i ++ (little_bytes 2 r ++ (little_bytes 4 child ++ (text.code key ++ little_bytes 4 second))))
    (numbered 2 i (little_bytes 2 r ++ (little_bytes 4 child ++ (text.code key ++ little_bytes 4 second)))
    (numbered 2 r (little_bytes 4 child ++ (text.code key ++ little_bytes 4 second)) (numbered 4 child (text.code key ++ little_bytes 4 second) (keyed key second has))))
body_bytes (Root x level left key right) has =
    numbered 4 x (level ∷ (little_bytes 4 left ++ (text.code key ++ little_bytes 4 right)))
    (bytes_cons level (little_bytes 4 left ++ (text.code key ++ little_bytes 4 right)) has.0 (numbered 4 left (text.code key ++ little_bytes 4 right) (keyed key right has.1)))
body_bytes (Free x) has = number_bytes 4 x

-- a tag is a byte
tag_low : (op : PageOp) → AreBytes (drop 1 (op_code op)) → AreBytes (op_code op)
tag_low (Put x i key value) are = bytes_cons 21 (put_format.code (x, (i, (key, value)))) (omega arith) are
tag_low (Set x i value) are = bytes_cons 22 (set_format.code (x, (i, value))) (omega arith) are
tag_low (Delete x i) are = bytes_cons 23 (place_format.code (x, i)) (omega arith) are
tag_low (Part new x i j) are = bytes_cons 24 (part_format.code (new, (x, (i, j)))) (omega arith) are
tag_low (Absorb x y t) are = bytes_cons 25 (absorb_format.code (x, (y, t))) (omega arith) are
tag_low (Join new x y i j) are = bytes_cons 26 (join_format.code (new, (x, (y, (i, j))))) (omega arith) are
tag_low (Keep x n) are = bytes_cons 27 (place_format.code (x, n)) (omega arith) are
tag_low (Turn x i r child) are = bytes_cons 28 (turn_format.code (x, (i, (r, child)))) (omega arith) are
tag_low (TurnTwo x i r child key second) are = bytes_cons 29 (turn_two_format.code (x, (i, (r, (child, (key, second)))))) (omega arith) are
tag_low (Root x level left key right) are = bytes_cons 30 (root_format.code (x, (level, (left, (key, right))))) (omega arith) are
tag_low (Free x) are = bytes_cons 31 (object.code x) (omega arith) are

pub page_code_bytes : (op : PageOp) → HasBytes op → AreBytes (op_code op)
page_code_bytes op has = tag_low op (body_bytes op has)

bytes_in : (op : PageOp) → AreBytes (op_code op) → HasBytes op
bytes_in (Put x i key value) are =
    let texts = bytes_back (little_bytes 2 i) (text.code key ++ text.code value) (bytes_back (little_bytes 4 x) (little_bytes 2 i ++ (text.code key ++ text.code value)) (λ k. are (suc k))) in
    (text_back key (bytes_front (text.code key) (text.code value) texts), text_back value (bytes_back (text.code key) (text.code value) texts))
bytes_in (Set x i value) are =
    text_back value (bytes_back (little_bytes 2 i) (text.code value) (bytes_back (little_bytes 4 x) (little_bytes 2 i ++ text.code value) (λ k. are (suc k))))
bytes_in (Delete x i) are = tt
bytes_in (Part new x i j) are = tt
bytes_in (Absorb x y t) are = tt
bytes_in (Join new x y i j) are = tt
bytes_in (Keep x n) are = tt
bytes_in (Turn x i r child) are = tt
bytes_in (TurnTwo x i r child key second) are =
    let last : List ℕ = text.code key ++ little_bytes 4 second in
    let after_object = bytes_back (little_bytes 4 x) (little_bytes 2 i ++ (little_bytes 2 r ++ (little_bytes 4 child ++ last))) (λ k. are (suc k)) in
    let after_place = bytes_back (little_bytes 2 i) (little_bytes 2 r ++ (little_bytes 4 child ++ last)) after_object in
    let after_count = bytes_back (little_bytes 2 r) (little_bytes 4 child ++ last) after_place in
    text_back key (bytes_front (text.code key) (little_bytes 4 second) (bytes_back (little_bytes 4 child) last after_count))
bytes_in (Root x level left key right) are =
    let last : List ℕ = text.code key ++ little_bytes 4 right in
    let after_object = bytes_back (little_bytes 4 x) (level ∷ (little_bytes 4 left ++ last)) (λ k. are (suc k)) in
    (after_object 0, text_back key (bytes_front (text.code key) (little_bytes 4 right) (bytes_back (little_bytes 4 left) last (λ k. after_object (suc k)))))
bytes_in (Free x) are = tt

-- ---- pages

record IsOfBytes (page : Layout) : Type 0 where
  level : page.level < 256
  front : AreBytes page.front.bytes
  new : All (λ c. AreBytes (cell_code c)) page.new
  back : AreBytes page.back.bytes

moved_bytes : (from at : ℕ) (places : List ℕ) → AreBytes (moved from at places)
moved_bytes from at [] = no_bytes
moved_bytes from at (place ∷ places) = numbered 2 (at + (place - from)) (moved from at places) (moved_bytes from at places)

built_bytes : (page : Layout) → IsOfBytes page → AreBytes (built page)
built_bytes page is =
    let news : List ℕ = flat_map (little_bytes 2) (places_from (new_at page) page.new) in
    let behind : List ℕ = moved page.back.from (back_at page) page.back.places in
    let cells = bytes_append page.front.bytes (cells_code page.new ++ page.back.bytes) is.front (bytes_append (cells_code page.new) page.back.bytes (flat_bytes cell_code page.new is.new) is.back) in
    let places = bytes_append (moved page.front.from 4 page.front.places) (news ++ behind) (moved_bytes page.front.from 4 page.front.places)
    (bytes_append news behind (numbers_bytes 2 (places_from (new_at page) page.new)) (moved_bytes page.back.from (back_at page) page.back.places)) in
    let body : List ℕ = little_bytes 2 (count_of page) ++ (cells_of page ++ places_of page) in
    bytes_cons 5 (page.level ∷ body) (omega arith)
    (bytes_cons page.level body is.level (numbered 2 (count_of page) (cells_of page ++ places_of page) (bytes_append (cells_of page) (places_of page) cells places)))

-- what is made is a page of bytes, the empty value, or nothing
abbrev IsMade : Made → Type 0
IsMade made = IfOk made (λ page. IfSome page IsOfBytes)

-- it is made where the values are pages of the kind that is asked, with cells at the places that are named
checked : (kind places : Bool) (page : Layout) → IsOfBytes page → IsMade (where_kind kind (where_places places (Ok (Some page))))
checked true true page is = is
checked true false page is = tt
checked false places page is = tt

-- bytes of a page that is read
between_bytes : (from to : ℕ) (bytes : List ℕ) → AreBytes bytes → AreBytes (between from to bytes)
between_bytes from to bytes are = bytes_take (to - from) (drop from bytes) (bytes_drop from bytes are)

part_bytes : (i j : ℕ) (bytes : List ℕ) → AreBytes bytes → AreBytes (part_of bytes i j).bytes
part_bytes i j bytes are = between_bytes (place_of bytes i) (place_of bytes j) bytes are

key_bytes : (i : ℕ) (bytes : List ℕ) → AreBytes bytes → AreBytes (key_of bytes i)
key_bytes i bytes are =
    let cell : List ℕ = cell_bytes bytes i in
    bytes_take (little_number 2 cell) (drop 2 cell) (bytes_drop 2 cell (between_bytes (place_of bytes i) (place_of bytes (suc i)) bytes are))

cell_of_bytes : (key beside : List ℕ) → AreBytes key → AreBytes beside → AreBytes (cell_code (key, beside))
cell_of_bytes key beside one two = numbered 2 (length key) (key ++ beside) (bytes_append key beside one two)

child_bytes : (key : List ℕ) (child : ℕ) → AreBytes key → AreBytes (cell_code (child_cell key child))
child_bytes key child are = cell_of_bytes key (little_bytes 4 child) are (number_bytes 4 child)

abbrev AreCells : List Cell → Type 0
AreCells cells = All (λ c. AreBytes (cell_code c)) cells

none_new : AreCells []
none_new = All-nil (λ c. AreBytes (cell_code c))

one_new : (c : Cell) → AreBytes (cell_code c) → AreCells (c ∷ [])
one_new c are = All-cons (λ c. AreBytes (cell_code c)) c [] are none_new

two_new : (c d : Cell) → AreBytes (cell_code c) → AreBytes (cell_code d) → AreCells (c ∷ d ∷ [])
two_new c d one two = All-cons (λ c. AreBytes (cell_code c)) c (d ∷ []) one (one_new d two)

laid : (level : ℕ) (front : Cells) (new : List Cell) (back : Cells) → level < 256 → AreBytes front.bytes → AreCells new → AreBytes back.bytes
    → IsOfBytes (record { level = level; front = front; new = new; back = back })
laid level front new back low one cells two = record { level = low; front = one; new = cells; back = two }

-- new cells between some of a page that is read
changed : (level i j : ℕ) (new : List Cell) (bytes : List ℕ) → level < 256 → AreBytes bytes → AreCells new
    → IsOfBytes (record { level = level; front = part_of bytes 0 i; new = new; back = part_of bytes j (count_in bytes) })
changed level i j new bytes low are cells =
    laid level (part_of bytes 0 i) new (part_of bytes j (count_in bytes)) low (part_bytes 0 i bytes are) cells (part_bytes j (count_in bytes) bytes are)

filled : (bytes : List ℕ) → AreBytes bytes → AreBytes (to_fill bytes)
filled [] are = bytes_cons 5 (0 ∷ 0 ∷ 0 ∷ []) (omega arith) (bytes_cons 0 (0 ∷ 0 ∷ []) (omega arith) (bytes_cons 0 (0 ∷ []) (omega arith) (bytes_cons 0 [] (omega arith) no_bytes)))
filled (b ∷ bytes) are = are

parted_bytes : (i j : ℕ) (bytes : List ℕ) → AreBytes bytes → IsMade (part_made i j bytes)
parted_bytes i j bytes are =
    checked (opens bytes) (nat_le i j && nat_le j (count_in bytes)) _ (laid (level_in bytes) (part_of bytes i j) [] no_cells (are 1) (part_bytes i j bytes are) none_new no_bytes)

-- cells of one page in front of those of another
joined : (i j k l : ℕ) (bytes others : List ℕ) → AreBytes bytes → AreBytes others
    → IsOfBytes (record { level = level_in bytes; front = part_of bytes i j; new = []; back = part_of others k l })
joined i j k l bytes others are also =
    laid (level_in bytes) (part_of bytes i j) [] (part_of others k l) (are 1) (part_bytes i j bytes are) none_new (part_bytes k l others also)

made_bytes : (op : PageOp) (values : List (List ℕ)) → HasBytes op → All AreBytes values → IsMade (made_by op values)
made_bytes (Put x i key value) values has all =
    let bytes : List ℕ = to_fill (first values) in
    let are : AreBytes bytes = filled (first values) (value_bytes 0 values all) in
    checked (is_leaf bytes) (goes_in bytes i key) _ (changed 0 i i ((key, value) ∷ []) bytes (omega arith) are (one_new (key, value) (cell_of_bytes key value has.0 has.1)))
made_bytes (Set x i value) values has all =
    let bytes : List ℕ = first values in
    let are : AreBytes bytes = value_bytes 0 values all in
    let key : List ℕ = key_of bytes i in
    let new : AreCells ((key, value) ∷ []) = one_new (key, value) (cell_of_bytes key value (key_bytes i bytes are) has) in
    checked (is_leaf bytes) (has_cell bytes i) _ (changed 0 i (i + 1) ((key, value) ∷ []) bytes (omega arith) are new)
made_bytes (Delete x i) values has all =
    let bytes : List ℕ = first values in
    checked (is_leaf bytes) (has_cell bytes i) _ (changed 0 i (i + 1) [] bytes (omega arith) (value_bytes 0 values all) none_new)
made_bytes (Part new x i j) values has all = parted_bytes i j (first values) (value_bytes 0 values all)
made_bytes (Absorb x y t) values has all =
    let bytes : List ℕ = first values in
    let others : List ℕ = other values in
    checked (are_alike bytes others) (nat_le t (count_in others)) _ (joined 0 (count_in bytes) 0 t bytes others (value_bytes 0 values all) (value_bytes 1 values all))
made_bytes (Join new x y i j) values has all =
    let bytes : List ℕ = first values in
    let others : List ℕ = other values in
    let n : ℕ = count_in bytes in
    checked (are_alike bytes others) (nat_le i j && nat_le j (n + count_in others)) _
    (joined (lesser i n) (lesser j n) (i - n) (j - n) bytes others (value_bytes 0 values all) (value_bytes 1 values all))
made_bytes (Keep x n) values has all = parted_bytes 0 n (first values) (value_bytes 0 values all)
made_bytes (Turn x i r child) values has all =
    let bytes : List ℕ = first values in
    let are : AreBytes bytes = value_bytes 0 values all in
    let key : List ℕ = key_of bytes i in
    let new : AreCells (child_cell key child ∷ []) = one_new (child_cell key child) (child_bytes key child (key_bytes i bytes are)) in
    checked (is_inner bytes) (has_cells bytes i r) _ (changed (level_in bytes) i (i + r) (child_cell key child ∷ []) bytes (are 1) are new)
made_bytes (TurnTwo x i r child key second) values has all =
    let bytes : List ℕ = first values in
    let are : AreBytes bytes = value_bytes 0 values all in
    let old : List ℕ = key_of bytes i in
    let new : AreCells (child_cell old child ∷ child_cell key second ∷ []) =
    two_new (child_cell old child) (child_cell key second) (child_bytes old child (key_bytes i bytes are)) (child_bytes key second has) in
    checked (is_inner bytes) (has_cells bytes i r && (stands_below bytes i key && ends_before bytes (i + r) key)) _
    (changed (level_in bytes) i (i + r) (child_cell old child ∷ child_cell key second ∷ []) bytes (are 1) are new)
made_bytes (Root x level left key right) values has all =
    let cells = two_new (child_cell [] left) (child_cell key right) (child_bytes [] left no_bytes) (child_bytes key right has.1) in
    laid level no_cells (child_cell [] left ∷ child_cell key right ∷ []) no_cells has.0 no_bytes cells no_bytes
made_bytes (Free x) values has all = tt

short_made : (cap : ℕ) (made : Made) → IsMade made → IsMade (where_short cap made)
short_made cap (Ok (Some page)) is = by_test (is_short cap page) where
  by_test : (t : Bool) → IsMade (if t then Ok (Some page) else Err TooLarge)
  by_test true = is
  by_test false = tt
short_made cap (Ok None) is = tt
short_made cap (Err r) is = tt

value_of_bytes : (made : Made) → IsMade made → AreBytes (value_made made)
value_of_bytes (Ok (Some page)) is = built_bytes page is
value_of_bytes (Ok None) is = no_bytes
value_of_bytes (Err r) is = no_bytes

pub page_bytes : (b : Bounds) (op : PageOp) (values : List (List ℕ)) → AreBytes ((page_meaning b).code op) → All AreBytes values → All AreBytes ((page_meaning b).effect op values)
page_bytes b op values code all =
    let made : Made = where_short b.cap (made_by op values) in
    one_value (value_made made) (value_of_bytes made (short_made b.cap (made_by op values) (made_bytes op values (bytes_in op code) all)))
