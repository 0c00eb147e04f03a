-- What every operation of the grammar meets.
use Rattle.std.proofs.Common.{◌≡◌, ◌≤◌, ◌<◌, ℕ, ◌+◌, ◌*◌, Bool, true, false, not, if◌then◌else◌, Option, None, Some, Ok, Err, List, [], ◌∷◌, ◌++◌, All, length, refl, sym, ap, ◌∙◌, subst, arith, option_map, length-append}
use Rattle.std.specs.Prelude.{IsTrue, flat_map, nat_eq, nat_lt, nat_le}
use Rattle.std.specs.Result.{result_err}
use Rattle.std.specs.List.{IsDistinct, list_all}
use Rattle.std.proofs.lemmas.List.Elements.{All-nil}
use Rattle.std.proofs.lemmas.Bool.{le-leb, leb-true}
use Rattle.byteorder.specs.Endian.{little_bytes}
use Rattle.oper_core.specs.State.{is_among}
use Rattle.oper_core.specs.Meaning.{HasBounds, AreWithin, IsInGrammar, IsLawful, IsSmall, Widens}
use Rattle.oper_core.specs.Family.{IsTagged}
use Rattle.oper_core.specs.declared.bounds.Bounds.{Bounds}
use Rattle.oper_core.specs.declared.refusal.Refusal.TheVariants.{NoPages, TooLarge}
use Rattle.key_entries.specs.EntryLaws.{AreBytes, bytes_behind, both_true, true_both, if_true, map_some, same_some}
use Rattle.key_entries.specs.CodeLaws.{chosen}
use Rattle.key_entries.specs.Objects.{are_apart, named}
use Rattle.key_entries.specs.ObjectLaws.{named_tells, IsNamed, named_wider, below_all, distinct, one_fits}
use Rattle.page_ops.specs.Page.{Cell, cell_code, cells_code, places_from}
use Rattle.page_ops.specs.Layout.{Layout, moved, cells_of, places_of, back_at, new_at, built, size}
use Rattle.page_ops.specs.Effects.{Made, made_by, is_short, where_short}
use Rattle.page_ops.specs.Formats.{Format, byte, text, both, object, place, put_format, set_format, place_format, part_format, absorb_format, join_format, turn_format, turn_two_format, root_format}
use Rattle.page_ops.specs.FormatLaws.{IsExact, byte_exact, number_exact, text_exact, both_exact}
use Rattle.page_ops.specs.Operation.{objects_of, written_by, read_by, fits_code, op_code, made_of, op_in, shape_of, value_made, page_meaning, is_page_tag}
use Rattle.page_ops.specs.declared.page_op.PageOp.{PageOp}
use Rattle.page_ops.specs.declared.page_op.PageOp.TheVariants.{Put, Set, Delete, Part, Absorb, Join, Keep, Turn, TurnTwo, Root, Free}

-- ---- the objects

reads_below : (n : ℕ) (op : PageOp) → IsTrue (list_all (λ x. nat_lt x n) (objects_of op)) → All (λ x. x < n) (read_by op)
reads_below n (Put x i key value) e = below_all n (x ∷ []) e
reads_below n (Set x i value) e = below_all n (x ∷ []) e
reads_below n (Delete x i) e = below_all n (x ∷ []) e
reads_below n (Part new x i j) e = below_all n (x ∷ []) (both_true (nat_lt new n) (list_all (λ x. nat_lt x n) (x ∷ [])) e).1
reads_below n (Absorb x other t) e = below_all n (x ∷ other ∷ []) e
reads_below n (Join new x other i j) e = below_all n (x ∷ other ∷ []) (both_true (nat_lt new n) (list_all (λ x. nat_lt x n) (x ∷ other ∷ [])) e).1
reads_below n (Keep x t) e = below_all n (x ∷ []) e
reads_below n (Turn x i r child) e = below_all n (x ∷ []) e
reads_below n (TurnTwo x i r child key second) e = below_all n (x ∷ []) e
reads_below n (Root x level left key right) e = All-nil (λ x. x < n)
reads_below n (Free x) e = All-nil (λ x. x < n)

reads_apart : (op : PageOp) → IsTrue (are_apart (objects_of op)) → IsDistinct nat_eq (read_by op)
reads_apart (Put x i key value) e = distinct (x ∷ []) e
reads_apart (Set x i value) e = distinct (x ∷ []) e
reads_apart (Delete x i) e = distinct (x ∷ []) e
reads_apart (Part new x i j) e = distinct (x ∷ []) (both_true (not (is_among new (x ∷ []))) (are_apart (x ∷ [])) e).1
reads_apart (Absorb x other t) e = distinct (x ∷ other ∷ []) e
reads_apart (Join new x other i j) e = distinct (x ∷ other ∷ []) (both_true (not (is_among new (x ∷ other ∷ []))) (are_apart (x ∷ other ∷ [])) e).1
reads_apart (Keep x t) e = distinct (x ∷ []) e
reads_apart (Turn x i r child) e = distinct (x ∷ []) e
reads_apart (TurnTwo x i r child key second) e = distinct (x ∷ []) e
reads_apart (Root x level left key right) e = distinct [] refl
reads_apart (Free x) e = distinct [] refl

-- the object that is written stands first
first_below : (n x : ℕ) (xs : List ℕ) → IsTrue (list_all (λ x. nat_lt x n) (x ∷ xs)) → All (λ x. x < n) (x ∷ [])
first_below n x xs e = below_all n (x ∷ []) (true_both (nat_lt x n) true (both_true (nat_lt x n) (list_all (λ x. nat_lt x n) xs) e).0 refl)

written_below : (n : ℕ) (op : PageOp) → IsTrue (list_all (λ x. nat_lt x n) (objects_of op)) → All (λ x. x < n) (written_by op ∷ [])
written_below n (Put x i key value) e = first_below n x [] e
written_below n (Set x i value) e = first_below n x [] e
written_below n (Delete x i) e = first_below n x [] e
written_below n (Part new x i j) e = first_below n new (x ∷ []) e
written_below n (Absorb x other t) e = first_below n x (other ∷ []) e
written_below n (Join new x other i j) e = first_below n new (x ∷ other ∷ []) e
written_below n (Keep x t) e = first_below n x [] e
written_below n (Turn x i r child) e = first_below n x [] e
written_below n (TurnTwo x i r child key second) e = first_below n x [] e
written_below n (Root x level left key right) e = first_below n x [] e
written_below n (Free x) e = first_below n x [] e

-- ---- how long a page is

moved_length : (from at : ℕ) (places : List ℕ) → length (moved from at places) ≡ 2 * length places
moved_length from at [] = refl
moved_length from at (p ∷ places) = let rest = moved_length from at places in omega (arith, rest)

new_length : (at : ℕ) (cells : List Cell) → length (flat_map (little_bytes 2) (places_from at cells)) ≡ 2 * length cells
new_length at [] = refl
new_length at (c ∷ cells) = let rest = new_length (at + length (cell_code c)) cells in omega (arith, rest)

pub built_length : (page : Layout) → length (built page) ≡ size page
built_length page =
    let front = moved_length page.front.from 4 page.front.places in
    let new = new_length (new_at page) page.new in
    let back = moved_length page.back.from (back_at page) page.back.places in
    let news : List ℕ = flat_map (little_bytes 2) (places_from (new_at page) page.new) in
    let behind : List ℕ = moved page.back.from (back_at page) page.back.places in
    omega (
      arith,
      front,
      new,
      back,
      length-append (cells_of page) (places_of page),
      length-append page.front.bytes (cells_code page.new ++ page.back.bytes),
      length-append (cells_code page.new) page.back.bytes,
      length-append (moved page.front.from 4 page.front.places) (news ++ behind),
      length-append news behind,
    )

-- ---- what is made fits

pub short_made : (cap : ℕ) (r : Made) → length (value_made (where_short cap r)) ≤ cap
short_made cap (Err r) = omega arith
short_made cap (Ok None) = omega arith
short_made cap (Ok (Some page)) =
    elim (is_short cap page) as (λ t. is_short cap page ≡ t → length (value_made (if t then Ok (Some page) else Err TooLarge)) ≤ cap) [
      | true ↦ λ short. let parts = both_true (nat_le (size page) cap) (nat_lt (size page) 65536) short in omega (arith, built_length page, leb-true (size page) cap parts.0)
      | false ↦ λ short. omega arith
    ] refl

-- what is short under a cap is short under a greater one
pub short_wider : (n m : ℕ) (r : Made) → n ≤ m → result_err (where_short n r) ≡ None → where_short m r ≡ where_short n r
short_wider n m (Err refusal) least e = cc
short_wider n m (Ok None) least e = refl
short_wider n m (Ok (Some page)) least e =
    elim (is_short n page) as (λ t. is_short n page ≡ t → result_err (if t then Ok (Some page) else Err TooLarge) ≡ None → where_short m (Ok (Some page)) ≡ (if t then Ok (Some page) else Err TooLarge)) [
      | true ↦ λ short e.
          let parts = both_true (nat_le (size page) n) (nat_lt (size page) 65536) short in
          if_true (is_short m page) (Ok (Some page)) (Err TooLarge)
          (true_both (nat_le (size page) m) (nat_lt (size page) 65536) (le-leb (size page) m (omega (arith, leb-true (size page) n parts.0, least))) parts.1)
      | false ↦ λ short e. cc
    ] refl e

-- ---- codes

put_exact : IsExact put_format
put_exact = both_exact object (both place (both text text)) (number_exact 4) (both_exact place (both text text) (number_exact 2) (both_exact text text text_exact text_exact))

set_exact : IsExact set_format
set_exact = both_exact object (both place text) (number_exact 4) (both_exact place text (number_exact 2) text_exact)

place_exact : IsExact place_format
place_exact = both_exact object place (number_exact 4) (number_exact 2)

part_exact : IsExact part_format
part_exact = both_exact object (both object (both place place)) (number_exact 4) (both_exact object (both place place) (number_exact 4) (both_exact place place (number_exact 2) (number_exact 2)))

absorb_exact : IsExact absorb_format
absorb_exact = both_exact object place_format (number_exact 4) place_exact

join_exact : IsExact join_format
join_exact = both_exact object part_format (number_exact 4) part_exact

turn_exact : IsExact turn_format
turn_exact = both_exact object (both place (both place object)) (number_exact 4) (both_exact place (both place object) (number_exact 2) (both_exact place object (number_exact 2) (number_exact 4)))

keyed : IsExact (both object (both text object))
keyed = both_exact object (both text object) (number_exact 4) (both_exact text object text_exact (number_exact 4))

turn_two_exact : IsExact turn_two_format
turn_two_exact =
    both_exact object (both place (both place (both object (both text object)))) (number_exact 4)
    (both_exact place (both place (both object (both text object))) (number_exact 2) (both_exact place (both object (both text object)) (number_exact 2) keyed))

root_exact : IsExact root_format
root_exact = both_exact object (both byte (both object (both text object))) (number_exact 4) (both_exact byte (both object (both text object)) byte_exact keyed)

-- an operation that fits its code is read back
module _ {X : Type 0} (format : Format X) (exact : IsExact format) (make : X → PageOp) where
  made_found : (x : X) (rest : List ℕ) → IsTrue (format.fits x) → made_of format make (format.code x ++ rest) ≡ Some (make x)
  made_found x rest fits = ap (λ (o : Option (X × List ℕ)). option_map (λ t. make t.0) o) (exact.found x rest fits)

pub op_found : (op : PageOp) (rest : List ℕ) → IsTrue (fits_code op) → op_in (op_code op ++ rest) ≡ Some op
op_found (Put x i key value) rest fits = made_found put_format put_exact (λ t. Put t.0 t.1.0 t.1.1.0 t.1.1.1) (x, (i, (key, value))) rest fits
op_found (Set x i value) rest fits = made_found set_format set_exact (λ t. Set t.0 t.1.0 t.1.1) (x, (i, value)) rest fits
op_found (Delete x i) rest fits = made_found place_format place_exact (λ t. Delete t.0 t.1) (x, i) rest fits
op_found (Part new x i j) rest fits = made_found part_format part_exact (λ t. Part t.0 t.1.0 t.1.1.0 t.1.1.1) (new, (x, (i, j))) rest fits
op_found (Absorb x other t) rest fits = made_found absorb_format absorb_exact (λ t. Absorb t.0 t.1.0 t.1.1) (x, (other, t)) rest fits
op_found (Join new x other i j) rest fits = made_found join_format join_exact (λ t. Join t.0 t.1.0 t.1.1.0 t.1.1.1.0 t.1.1.1.1) (new, (x, (other, (i, j)))) rest fits
op_found (Keep x n) rest fits = made_found place_format place_exact (λ t. Keep t.0 t.1) (x, n) rest fits
op_found (Turn x i r child) rest fits = made_found turn_format turn_exact (λ t. Turn t.0 t.1.0 t.1.1.0 t.1.1.1) (x, (i, (r, child))) rest fits
op_found (TurnTwo x i r child key second) rest fits =
    made_found turn_two_format turn_two_exact (λ t. TurnTwo t.0 t.1.0 t.1.1.0 t.1.1.1.0 t.1.1.1.1.0 t.1.1.1.1.1) (x, (i, (r, (child, (key, second))))) rest fits
op_found (Root x level left key right) rest fits =
    made_found root_format root_exact (λ t. Root t.0 t.1.0 t.1.1.0 t.1.1.1.0 t.1.1.1.1) (x, (level, (left, (key, right)))) rest fits
op_found (Free x) rest fits = made_found object (number_exact 4) Free x rest fits

-- the operation that is read is there
pub record IsOpAt (bytes : List ℕ) (op : PageOp) : Type 0 where
  pub rest : List ℕ
  pub split : bytes ≡ op_code op ++ rest

module _ {X : Type 0} (format : Format X) (exact : IsExact format) (make : X → PageOp) (tag : ℕ) (code : (x : X) → op_code (make x) ≡ tag ∷ format.code x) where
  made_begins : (body : List ℕ) (op : PageOp) → AreBytes body → made_of format make body ≡ Some op → IsOpAt (tag ∷ body) op
  made_begins body op are is =
      let found = map_some (λ (t : X × List ℕ). make t.0) (format.read body) op is in
      let stands = exact.begins body found.0.0 found.0.1 are found.1 in
      let split : tag ∷ body ≡ op_code (make found.0.0) ++ found.0.1 =
      ap (λ (l : List ℕ). tag ∷ l) stands.split ∙ ap (λ (l : List ℕ). l ++ found.0.1) (sym (code found.0.0)) in
      subst (λ (op : PageOp). IsOpAt (tag ∷ body) op) found.2 (record { rest = found.0.1; split = split })

pub op_begins : (bytes : List ℕ) (op : PageOp) → AreBytes bytes → op_in bytes ≡ Some op → IsOpAt bytes op
op_begins [] op are is = cc
op_begins (tag ∷ body) op are is =
    let inside : AreBytes body = bytes_behind 1 (tag ∷ body) are in
    chosen IsOpAt tag 21 body (made_of put_format (λ t. Put t.0 t.1.0 t.1.1.0 t.1.1.1) body) _ op is (λ e. made_begins put_format put_exact (λ t. Put t.0 t.1.0 t.1.1.0 t.1.1.1) 21 (λ t. refl) body op inside e)
    (λ e. chosen IsOpAt tag 22 body (made_of set_format (λ t. Set t.0 t.1.0 t.1.1) body) _ op e (λ e. made_begins set_format set_exact (λ t. Set t.0 t.1.0 t.1.1) 22 (λ t. refl) body op inside e)
    (λ e. chosen IsOpAt tag 23 body (made_of place_format (λ t. Delete t.0 t.1) body) _ op e (λ e. made_begins place_format place_exact (λ t. Delete t.0 t.1) 23 (λ t. refl) body op inside e)
    (λ e. chosen IsOpAt tag 24 body (made_of part_format (λ t. Part t.0 t.1.0 t.1.1.0 t.1.1.1) body) _ op e (λ e. made_begins part_format part_exact (λ t. Part t.0 t.1.0 t.1.1.0 t.1.1.1) 24 (λ t. refl) body op inside e)
    (λ e. chosen IsOpAt tag 25 body (made_of absorb_format (λ t. Absorb t.0 t.1.0 t.1.1) body) _ op e (λ e. made_begins absorb_format absorb_exact (λ t. Absorb t.0 t.1.0 t.1.1) 25 (λ t. refl) body op inside e)
    (λ e. chosen IsOpAt tag 26 body (made_of join_format (λ t. Join t.0 t.1.0 t.1.1.0 t.1.1.1.0 t.1.1.1.1) body) _ op e (λ e. made_begins join_format join_exact (λ t. Join t.0 t.1.0 t.1.1.0 t.1.1.1.0 t.1.1.1.1) 26 (λ t. refl) body op inside e)
    (λ e. chosen IsOpAt tag 27 body (made_of place_format (λ t. Keep t.0 t.1) body) _ op e (λ e. made_begins place_format place_exact (λ t. Keep t.0 t.1) 27 (λ t. refl) body op inside e)
    (λ e. chosen IsOpAt tag 28 body (made_of turn_format (λ t. Turn t.0 t.1.0 t.1.1.0 t.1.1.1) body) _ op e (λ e. made_begins turn_format turn_exact (λ t. Turn t.0 t.1.0 t.1.1.0 t.1.1.1) 28 (λ t. refl) body op inside e)
    (λ e. chosen IsOpAt tag 29 body (made_of turn_two_format (λ t. TurnTwo t.0 t.1.0 t.1.1.0 t.1.1.1.0 t.1.1.1.1.0 t.1.1.1.1.1) body) _ op e (λ e. made_begins turn_two_format turn_two_exact (λ t. TurnTwo t.0 t.1.0 t.1.1.0 t.1.1.1.0 t.1.1.1.1.0 t.1.1.1.1.1) 29 (λ t. refl) body op inside e)
    (λ e. chosen IsOpAt tag 30 body (made_of root_format (λ t. Root t.0 t.1.0 t.1.1.0 t.1.1.1.0 t.1.1.1.1) body) _ op e (λ e. made_begins root_format root_exact (λ t. Root t.0 t.1.0 t.1.1.0 t.1.1.1.0 t.1.1.1.1) 30 (λ t. refl) body op inside e)
    (λ e. chosen IsOpAt tag 31 body (made_of object Free body) None op e (λ e. made_begins object (number_exact 4) Free 31 (λ t. refl) body op inside e) (λ e. cc)))))))))))

-- ---- the laws

-- what the grammar says of an operation
grammar_tells : (b : Bounds) (op : PageOp) → shape_of b op ≡ None → IsTrue b.more × IsNamed b.objects (objects_of op) (fits_code op)
grammar_tells b op e =
    elim b.more as (λ t. (if t then named b.objects (objects_of op) (fits_code op) else Some NoPages) ≡ None → IsTrue t × IsNamed b.objects (objects_of op) (fits_code op)) [
      | true ↦ λ e. (refl, named_tells b.objects (objects_of op) (fits_code op) e)
      | false ↦ λ e. cc
    ] e

-- an operation of the grammar whose code bytes begin with is the one that is read
pub only_op : (b : Bounds) (bytes rest : List ℕ) (op : PageOp) → bytes ≡ op_code op ++ rest → IsInGrammar (page_meaning b) op → op_in bytes ≡ Some op
only_op b bytes rest op split grammar = ap op_in split ∙ op_found op rest (grammar_tells b op grammar).1.keys

pub page_bounded : (b : Bounds) → HasBounds b (page_meaning b)
page_bounded b = record { objects = refl; cap = refl }

pub page_lawful : (b : Bounds) → IsSmall b → IsLawful (page_meaning b)
page_lawful b small = record {
  writes_some = λ op e. omega arith;
  reads_below = λ op e. reads_below b.objects op (grammar_tells b op e).1.below;
  reads_apart = λ op e. reads_apart op (grammar_tells b op e).1.apart;
  writes_below = λ op e. written_below b.objects op (grammar_tells b op e).1.below;
  writes_apart = λ op e. distinct (written_by op ∷ []) refl;
  made = λ op values e fits. (refl, one_fits b.cap (value_made (where_short b.cap (made_by op values))) (short_made b.cap (made_by op values)));
  encodable = λ op e. refl;
  one_code = λ first second bytes one two.
      same_some first second (sym (only_op b bytes one.rest first one.split one.in_grammar) ∙ only_op b bytes two.rest second two.split two.in_grammar);
}

wider_shape : (b c : Bounds) (op : PageOp) → AreWithin b c → shape_of b op ≡ None → shape_of c op ≡ None
wider_shape b c op within e =
    let told = grammar_tells b op e in
    let more : c.more ≡ true = within.more told.0 in
    let named_there : named b.objects (objects_of op) (fits_code op) ≡ None =
    sym (ap (λ (t : Bool). if t then named b.objects (objects_of op) (fits_code op) else Some NoPages) told.0) ∙ e in
    ap (λ (t : Bool). if t then named c.objects (objects_of op) (fits_code op) else Some NoPages) more
    ∙ named_wider b.objects c.objects (objects_of op) (fits_code op) within.objects named_there

pub page_widens : (b c : Bounds) → AreWithin b c → Widens (page_meaning b) (page_meaning c)
page_widens b c within = record {
  reads = λ op. refl;
  writes = λ op. refl;
  code = λ op. refl;
  in_grammar = λ op e. wider_shape b c op within e;
  accepted = λ op values grammar fits e. ap result_err (short_wider b.cap c.cap (made_by op values) within.cap e) ∙ e;
  effect = λ op values grammar fits e. ap (λ (r : Made). value_made r ∷ []) (short_wider b.cap c.cap (made_by op values) within.cap e);
}

-- each code begins with a tag of the family
pub page_tagged : (b : Bounds) → IsTagged is_page_tag (page_meaning b)
page_tagged b (Put x i key value) = refl
page_tagged b (Set x i value) = refl
page_tagged b (Delete x i) = refl
page_tagged b (Part new x i j) = refl
page_tagged b (Absorb x other t) = refl
page_tagged b (Join new x other i j) = refl
page_tagged b (Keep x n) = refl
page_tagged b (Turn x i r child) = refl
page_tagged b (TurnTwo x i r child key second) = refl
page_tagged b (Root x level left key right) = refl
page_tagged b (Free x) = refl
