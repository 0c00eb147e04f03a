-- What every operation of the table meets.
use Rattle.std.proofs.Common.{◌≡◌, ◌≢◌, ◌+◌, ◌*◌, ◌<◌, ◌≤◌, ◌^◌, ◌⊎◌, inl, inr, ℕ, not, Bool, true, false, Option, None, Some, unwrap_or, is_some, List, [], ◌∷◌, ◌++◌, length, map, take, drop, slice_index, refl, sym, ap, subst, ◌∙◌, arith, append_assoc, length-append}
use Rattle.std.specs.Prelude.{nat_eq, nat_le, nat_lt, All, flat_map}
use Rattle.std.specs.List.{IsDistinct, AllByRecursion, list_all}
use Rattle.std.proofs.lemmas.List.Elements.{All-append, All-cons, All-nil, All-head, All-tail, All-get_or, All-same, All-weaker}
use Rattle.std.proofs.lemmas.List.{length-map, take_at}
use Rattle.std.proofs.lemmas.Map.Keys.{IsDistinct-cons, IsDistinct-from_apart}
use Rattle.std.proofs.lemmas.Bool.{le-leb, leb-true, lt-ltb, ltb-true, and_parts, or_parts, not-true}
use Rattle.byteorder.specs.Endian.{little_bytes}
use Rattle.oper_core.specs.LittleEndian.{length-little_bytes, little_bytes-split}
use Rattle.oper_core.specs.State.{is_among}
use Rattle.oper_core.specs.Meaning.{HasBounds, AreWithin, IsInGrammar, IsLawful, IsSmall, StartsWithCode, Widens, unless}
use Rattle.oper_core.specs.MeaningLaws.{or_else-none, or_else-both, unless-none}
use Rattle.oper_core.specs.declared.bounds.Bounds.{Bounds}
use Rattle.oper_core.specs.declared.refusal.Refusal.{Refusal}
use Rattle.oper_core.specs.declared.refusal.Refusal.TheVariants.{NoObject, Same, TooLarge}
use Rattle.op_rows.specs.Rows.{Names, Row, all_numbers, are_apart, first, if_applicable, named, names_code, names_shape, numbers_code, rows_meaning, second, text_code, text_of}

-- ---- what names say

-- these are none of the objects, or all of them, or one
abbrev pub IsPart : List ℕ → List ℕ → Type 0
IsPart some objects = (some ≡ []) ⊎ ((some ≡ objects) ⊎ ((i : ℕ) × (i < length objects) × (some ≡ slice_index objects i ∷ [])))

part_all : (P : ℕ → Type 0) (some objects : List ℕ) → IsPart some objects → All P objects → All P some
part_all P some objects (inl none) each = All-same P some [] none (All-nil P)
part_all P some objects (inr (inl all)) each = All-same P some objects all each
part_all P some objects (inr (inr one)) each =
    All-same P some (slice_index objects one.0 ∷ []) one.2 (All-cons P (slice_index objects one.0) [] (All-get_or P objects one.0 0 one.1 each) (All-nil P))

pub none_apart : IsDistinct nat_eq []
none_apart = IsDistinct-from_apart nat_eq [] (λ i j d lt within. absurd (omega arith))

pub one_apart : (x : ℕ) → IsDistinct nat_eq (x ∷ [])
one_apart x = IsDistinct-cons nat_eq x [] tt none_apart

part_apart : (some objects : List ℕ) → IsPart some objects → IsDistinct nat_eq objects → IsDistinct nat_eq some
part_apart some objects (inl none) apart = subst (IsDistinct nat_eq) (sym none) none_apart
part_apart some objects (inr (inl all)) apart = subst (IsDistinct nat_eq) (sym all) apart
part_apart some objects (inr (inr one)) apart = subst (IsDistinct nat_eq) (sym one.2) (one_apart (slice_index objects one.0))

-- every number is below the bound
pub below : (n : ℕ) (xs : List ℕ) → list_all (λ x. nat_lt x n) xs ≡ true → All (λ x. x < n) xs
below n [] e = All-nil (λ x. x < n)
below n (x ∷ xs) e =
    let parts = and_parts (nat_lt x n) (list_all (λ x. nat_lt x n) xs) e in
    All-cons (λ x. x < n) x xs (ltb-true x n parts.0) (below n xs parts.1)

-- and then below a larger one
below_more : (n m : ℕ) (xs : List ℕ) → n ≤ m → All (λ x. x < n) xs → list_all (λ x. nat_lt x m) xs ≡ true
below_more n m [] more each = refl
below_more n m (x ∷ xs) more each =
    let first = All-head (λ x. x < n) x xs each in
    rw (lt-ltb x m (omega (arith, first))) (below_more n m xs more (All-tail (λ x. x < n) x xs each))

other_of_none : (x : ℕ) (xs : List ℕ) → is_among x xs ≡ false → AllByRecursion (λ y. nat_eq x y ≡ false) xs
other_of_none x [] e = tt
other_of_none x (y ∷ xs) e = let parts = or_parts (nat_eq x y) (is_among x xs) e in (parts.0, other_of_none x xs parts.1)

apart_from_test : (xs : List ℕ) → are_apart xs ≡ true → IsDistinct nat_eq xs
apart_from_test [] e = none_apart
apart_from_test (x ∷ xs) e =
    let parts = and_parts (not (is_among x xs)) (are_apart xs) e in
    IsDistinct-cons nat_eq x xs (other_of_none x xs (not-true (is_among x xs) parts.0)) (apart_from_test xs parts.1)

-- what is named in the grammar
pub record IsNamed (n : ℕ) (objects numbers : List ℕ) : Type 0 where
  pub there : All (λ x. x < n) objects
  pub apart : IsDistinct nat_eq objects
  pub fit : All (λ x. x < 2 ^ 32) numbers

pub named_by : (b : Bounds) (objects numbers : List ℕ) → named b objects numbers ≡ None → IsNamed b.objects objects numbers
named_by b objects numbers e =
    let tests = or_else-none (unless (list_all (λ x. nat_lt x b.objects) objects) NoObject) _ e in
    let others = or_else-none (unless (are_apart objects) Same) _ tests.1 in
    record {
      there = below b.objects objects (unless-none _ _ tests.0);
      apart = apart_from_test objects (unless-none _ _ others.0);
      fit = below (2 ^ 32) numbers (unless-none _ _ others.1);
    }

-- the objects of fewer are there among more
named_wider : (b c : Bounds) (objects numbers : List ℕ) → AreWithin b c → named b objects numbers ≡ None → named c objects numbers ≡ None
named_wider b c objects numbers within e =
    let tests = or_else-none (unless (list_all (λ x. nat_lt x b.objects) objects) NoObject) _ e in
    let there = below_more b.objects c.objects objects within.objects (named_by b objects numbers e).there in
    or_else-both (unless (list_all (λ x. nat_lt x c.objects) objects) NoObject) _ (ap (λ (test : Bool). unless test NoObject) there) tests.1

-- ---- values

-- values that are not too long
pub one_short : (cap : ℕ) (v : List ℕ) → length v ≤ cap → All (λ w. length w ≤ cap) (v ∷ [])
one_short cap v short = All-cons (λ w. length w ≤ cap) v [] short (All-nil (λ w. length w ≤ cap))

pub two_short : (cap : ℕ) (v w : List ℕ) → length v ≤ cap → length w ≤ cap → All (λ z. length z ≤ cap) (v ∷ w ∷ [])
two_short cap v w short also = All-cons (λ z. length z ≤ cap) v (w ∷ []) short (one_short cap w also)

-- the values that are read are short, also where there are none
pub first_short : (cap : ℕ) (values : List (List ℕ)) → All (λ v. length v ≤ cap) values → length (first values) ≤ cap
first_short cap [] short = omega arith
first_short cap (v ∷ values) short = All-head (λ v. length v ≤ cap) v values short

pub second_short : (cap : ℕ) (values : List (List ℕ)) → All (λ v. length v ≤ cap) values → length (second values) ≤ cap
second_short cap [] short = omega arith
second_short cap (v ∷ values) short = first_short cap values (All-tail (λ v. length v ≤ cap) v values short)

-- as many empty values
abbrev nothing_of : List (List ℕ) → List (List ℕ)
nothing_of made = map (λ v. []) made

empty_short : (cap : ℕ) (made : List (List ℕ)) → All (λ w. length w ≤ cap) (nothing_of made)
empty_short cap [] = All-nil (λ w. length w ≤ cap)
empty_short cap (v ∷ made) = All-cons (λ w. length w ≤ cap) [] (nothing_of made) (omega arith) (empty_short cap made)

if_applicable-short : (cap : ℕ) (r : Option Refusal) (made : List (List ℕ)) → (r ≡ None → All (λ w. length w ≤ cap) made)
    → All (λ w. length w ≤ cap) (if_applicable r made)
if_applicable-short cap None made short = short refl
if_applicable-short cap (Some r) made short = empty_short cap made

if_applicable-count : (r : Option Refusal) (made : List (List ℕ)) → length (if_applicable r made) ≡ length made
if_applicable-count None made = refl
if_applicable-count (Some r) made = length-map made (λ v. [])

-- as many empty values as objects
empty_each : (made : List (List ℕ)) (objects : List ℕ) → length made ≡ length objects → nothing_of made ≡ map (λ x. []) objects
empty_each [] [] count = refl
empty_each [] (x ∷ objects) count = absurd (omega (arith, count))
empty_each (v ∷ made) [] count = absurd (omega (arith, count))
empty_each (v ∷ made) (x ∷ objects) count = ap (λ (rest : List (List ℕ)). [] ∷ rest) (empty_each made objects (omega (arith, count)))

-- ---- codes

-- what fits one cap fits a larger one
pub fits_more : (n cap more : ℕ) → cap ≤ more → unless (nat_le n cap) TooLarge ≡ None → unless (nat_le n more) TooLarge ≡ None
fits_more n cap more le e = let fits = leb-true n cap (unless-none (nat_le n cap) TooLarge e) in rw (le-leb n more (omega (arith, fits))) refl

-- as many numbers with the same bytes in front are the same numbers, and so is what stands after them
numbers_split : (xs ys rest more : List ℕ) → length xs ≡ length ys → All (λ x. x < 2 ^ 32) xs → All (λ x. x < 2 ^ 32) ys
    → flat_map (little_bytes 4) xs ++ rest ≡ flat_map (little_bytes 4) ys ++ more → (xs ≡ ys) × (rest ≡ more)
numbers_split [] [] rest more count fit also same = (refl, same)
numbers_split [] (y ∷ ys) rest more count fit also same = absurd (omega (arith, count))
numbers_split (x ∷ xs) [] rest more count fit also same = absurd (omega (arith, count))
numbers_split (x ∷ xs) (y ∷ ys) rest more count fit also same =
    let beside : (z : ℕ) (zs behind : List ℕ) → flat_map (little_bytes 4) (z ∷ zs) ++ behind ≡ little_bytes 4 z ++ (flat_map (little_bytes 4) zs ++ behind) =
    λ z zs behind. append_assoc (little_bytes 4 z) (flat_map (little_bytes 4) zs) behind in
    let first = All-head (λ x. x < 2 ^ 32) in
    let others = All-tail (λ x. x < 2 ^ 32) in
    let split = little_bytes-split 4 x y _ _ (first x xs fit) (first y ys also) (sym (beside x xs rest) ∙ same ∙ beside y ys more) in
    let numbers = numbers_split xs ys rest more (omega (arith, count)) (others x xs fit) (others y ys also) split.1 in
    (λ i. split.0 i ∷ numbers.0 i, numbers.1)

-- a number has four bytes
pub length_numbers : (xs : List ℕ) → length (flat_map (little_bytes 4) xs) ≡ 4 * length xs
length_numbers [] = refl
length_numbers (x ∷ xs) = omega (arith, length-append (little_bytes 4 x) (flat_map (little_bytes 4) xs), length-little_bytes 4 x, length_numbers xs)

-- how many bytes a code has
pub length_code : (names : Names) → length (names_code names) ≡ 1 + 4 * (length names.objects + length names.numbers) + length (text_code names.text)
length_code names =
    let numbers = length_numbers (all_numbers names) in
    omega (arith, length-append (numbers_code names.tag (all_numbers names)) (text_code names.text), numbers, length-append names.objects names.numbers)

-- two texts, or none twice, with the same bytes in front are the same
text_split : (text other : Option (List ℕ)) (rest more : List ℕ) → is_some text ≡ is_some other
    → length (unwrap_or text []) < 2 ^ 32 → length (unwrap_or other []) < 2 ^ 32
    → text_code text ++ rest ≡ text_code other ++ more → text ≡ other
text_split None None rest more kind short also same = refl
text_split None (Some w) rest more kind short also same = cc
text_split (Some v) None rest more kind short also same = cc
text_split (Some v) (Some w) rest more kind short also same =
    let lengths = little_bytes-split 4 (length v) (length w) (v ++ rest) (w ++ more) short also
    (sym (append_assoc (little_bytes 4 (length v)) v rest) ∙ same ∙ append_assoc (little_bytes 4 (length w)) w more) in
    ap Some (sym (take_at v rest (length v) refl) ∙ ap (take (length v)) lengths.1 ∙ take_at w more (length v) (sym lengths.0))

-- each of its numbers has four bytes, and so has the length of its text
pub record FitsCode (names : Names) : Type 0 where
  pub numbers : All (λ x. x < 2 ^ 32) (all_numbers names)
  pub text : length (text_of names) < 2 ^ 32

-- ---- rows

-- what each row meets by itself
pub record IsRow (row : Row) : Type 0 where
  pub reads : IsPart row.names.reads row.names.objects
  pub writes : IsPart row.names.writes row.names.objects
  pub writes_some : 0 < length row.names.writes
  -- a value for each object that it writes, none too long where nothing is refused
  pub made : (values : List (List ℕ)) → length (row.made values) ≡ length row.names.writes
  pub short : (b : Bounds) (values : List (List ℕ)) → length (text_of row.names) ≤ b.cap → All (λ v. length v ≤ b.cap) values
      → row.check b values ≡ None → All (λ v. length v ≤ b.cap) (row.made values)
  -- a larger cap refuses nothing more
  pub wider : (b c : Bounds) → b.cap ≤ c.cap → (values : List (List ℕ)) → row.check b values ≡ None → row.check c values ≡ None

-- what makes a table lawful: the tag tells how many numbers there are, and whether there is a text, and the tag with
-- these tells the operation
pub record AreRows {O : Type 0} (row : O → Row) : Type 0 where
  pub each : (op : O) → IsRow (row op)
  pub count : (p q : O) → (row p).names.tag ≡ (row q).names.tag → length (all_numbers (row p).names) ≡ length (all_numbers (row q).names)
  pub kind : (p q : O) → (row p).names.tag ≡ (row q).names.tag → is_some (row p).names.text ≡ is_some (row q).names.text
  pub same : (p q : O) → (row p).names.tag ≡ (row q).names.tag → all_numbers (row p).names ≡ all_numbers (row q).names
      → (row p).names.text ≡ (row q).names.text → p ≡ q

module _ {O : Type 0} (row : O → Row) where
  -- the bounds are those of the meaning
  pub rows_bounded : (b : Bounds) → HasBounds b (rows_meaning row b)
  rows_bounded b = record { objects = refl; cap = refl }

  -- what is named in the grammar, and the text is not too long
  pub shape_says : (b : Bounds) (op : O) → IsInGrammar (rows_meaning row b) op
      → IsNamed b.objects (row op).names.objects (row op).names.numbers × (length (text_of (row op).names) ≤ b.cap)
  shape_says b op e =
      let tests = or_else-none (named b (row op).names.objects (row op).names.numbers) (unless (nat_le (length (text_of (row op).names)) b.cap) TooLarge) e in
      (named_by b (row op).names.objects (row op).names.numbers tests.0, leb-true (length (text_of (row op).names)) b.cap (unless-none _ _ tests.1))

  in_grammar_fits : (b : Bounds) → IsSmall b → (op : O) → IsInGrammar (rows_meaning row b) op → FitsCode (row op).names
  in_grammar_fits b small op e =
      let says = shape_says b op e in
      let objects = small.objects in
      let cap = small.cap in
      record {
        numbers = All-append (λ x. x < 2 ^ 32) (row op).names.objects (row op).names.numbers
            (All-weaker (λ x. x < b.objects) (λ x. x < 2 ^ 32) (λ x there. omega (arith, there, objects)) (row op).names.objects says.0.there) says.0.fit;
        text = let short = says.1 in omega (arith, short, cap);
      }

  -- a code beside what follows it
  pub beside : (op : O) (rest : List ℕ)
      → names_code (row op).names ++ rest ≡ numbers_code (row op).names.tag (all_numbers (row op).names) ++ (text_code (row op).names.text ++ rest)
  beside op rest = append_assoc (numbers_code (row op).names.tag (all_numbers (row op).names)) (text_code (row op).names.text) rest

  module _ (are : AreRows row) where
    -- two operations whose codes begin the same bytes are one
    one_beginning : (p q : O) (bytes rest more : List ℕ) → FitsCode (row p).names → FitsCode (row q).names
        → bytes ≡ names_code (row p).names ++ rest → bytes ≡ names_code (row q).names ++ more → p ≡ q
    one_beginning p q bytes rest more fits also one two =
        let codes = sym (beside p rest) ∙ sym one ∙ two ∙ beside q more in
        let tags : (row p).names.tag ≡ (row q).names.tag = ap (λ (l : List ℕ). slice_index l 0) codes in
        let numbers = numbers_split (all_numbers (row p).names) (all_numbers (row q).names) (text_code (row p).names.text ++ rest) (text_code (row q).names.text ++ more)
        (are.count p q tags) fits.numbers also.numbers (ap (drop 1) codes) in
        are.same p q tags numbers.0 (text_split (row p).names.text (row q).names.text rest more (are.kind p q tags) fits.text also.text numbers.1)

    one_code_of_rows : (b : Bounds) → IsSmall b → (p q : O) (bytes : List ℕ) → StartsWithCode (rows_meaning row b) bytes p → StartsWithCode (rows_meaning row b) bytes q → p ≡ q
    one_code_of_rows b small p q bytes one two =
        one_beginning p q bytes one.rest two.rest (in_grammar_fits b small p one.in_grammar) (in_grammar_fits b small q two.in_grammar) one.split two.split

    -- where bytes begin with the code of an operation that is not in the grammar, they begin with none of the grammar
    pub no_other : (b : Bounds) → IsSmall b → (p q : O) (bytes rest : List ℕ) → FitsCode (row p).names → bytes ≡ names_code (row p).names ++ rest
        → names_shape b (row p).names ≢ None → StartsWithCode (rows_meaning row b) bytes q → ⊥
    no_other b small p q bytes rest fits split refused begins =
        let one = one_beginning p q bytes rest begins.rest fits (in_grammar_fits b small q begins.in_grammar) split begins.split in
        refused (ap (λ (op : O). names_shape b (row op).names) one ∙ begins.in_grammar)

    pub rows_lawful : (b : Bounds) → IsSmall b → IsLawful (rows_meaning row b)
    rows_lawful b small = record {
      writes_some = λ op e. (are.each op).writes_some;
      reads_below = λ op e. part_all (λ x. x < b.objects) (row op).names.reads (row op).names.objects (are.each op).reads (shape_says b op e).0.there;
      reads_apart = λ op e. part_apart (row op).names.reads (row op).names.objects (are.each op).reads (shape_says b op e).0.apart;
      writes_below = λ op e. part_all (λ x. x < b.objects) (row op).names.writes (row op).names.objects (are.each op).writes (shape_says b op e).0.there;
      writes_apart = λ op e. part_apart (row op).names.writes (row op).names.objects (are.each op).writes (shape_says b op e).0.apart;
      made = λ op values e fits. (
        if_applicable-count ((row op).check b values) ((row op).made values) ∙ (are.each op).made values,
        if_applicable-short b.cap ((row op).check b values) ((row op).made values) ((are.each op).short b values (shape_says b op e).1 fits.short),
      );
      encodable = λ op e.
          let short = (shape_says b op e).1 in
          let cap = small.cap in
          lt-ltb (length (text_of (row op).names)) (2 ^ 32) (omega (arith, short, cap));
      one_code = one_code_of_rows b small;
    }

    pub rows_widen : (b c : Bounds) → AreWithin b c → Widens (rows_meaning row b) (rows_meaning row c)
    rows_widen b c within = record {
      reads = λ op. refl;
      writes = λ op. refl;
      code = λ op. refl;
      in_grammar = λ op e.
          let tests = or_else-none (named b (row op).names.objects (row op).names.numbers) (unless (nat_le (length (text_of (row op).names)) b.cap) TooLarge) e in
          or_else-both (named c (row op).names.objects (row op).names.numbers) (unless (nat_le (length (text_of (row op).names)) c.cap) TooLarge)
          (named_wider b c (row op).names.objects (row op).names.numbers within tests.0)
          (fits_more (length (text_of (row op).names)) b.cap c.cap within.cap tests.1);
      accepted = λ op values e fits accepted. (are.each op).wider b c within.cap values accepted;
      effect = λ op values e fits accepted.
          ap (λ (r : Option Refusal). if_applicable r ((row op).made values)) ((are.each op).wider b c within.cap values accepted ∙ sym accepted);
    }

    -- what is refused makes every object that it writes empty
    pub rows_refused : (b : Bounds) (op : O) (values : List (List ℕ)) (r : Refusal) → (rows_meaning row b).check op values ≡ Some r
        → (rows_meaning row b).effect op values ≡ map (λ x. []) ((rows_meaning row b).writes op)
    rows_refused b op values r e =
        ap (λ (refusal : Option Refusal). if_applicable refusal ((row op).made values)) e ∙ empty_each ((row op).made values) (row op).names.writes ((are.each op).made values)
