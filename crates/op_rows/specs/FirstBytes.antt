-- When bytes begin with the code of no operation of a table.
use Rattle.std.proofs.Common.{◌≡◌, ◌≢◌, ℕ, Bool, Option, None, Some, Result, Ok, Err, is_some, unwrap_or, true, IfNone, List, [], ◌∷◌, ◌++◌, length, slice_index, slice_get, sym, ap, ◌∙◌, subst, arith, true≢false}
use Rattle.std.specs.Result.{result_err, is_err}
use Rattle.oper_core.specs.Family.{IsTagged}
use Rattle.oper_core.specs.Meaning.{StartsWithCode}
use Rattle.oper_core.specs.declared.bounds.Bounds.{Bounds}
use Rattle.op_rows.specs.Rows.{Row, all_numbers, numbers_code, rows_meaning, text_code}
use Rattle.op_rows.specs.RowLaws.{beside}

-- an error is a refusal
pub is_refused : {A E : Type 0} (r : Result A E) → true ≡ is_err r → result_err r ≢ None
is_refused (Ok x) e none = true≢false e
is_refused (Err x) e none = cc

-- the first byte
pub first_byte : (tag : ℕ) (bytes : List ℕ) → Some tag ≡ slice_get bytes 0 → slice_index bytes 0 ≡ tag
first_byte tag [] e = cc
first_byte tag (byte ∷ bytes) e = sym (ap (λ (o : Option ℕ). unwrap_or o 0) e)

-- the bytes begin with no code of this tag and so many numbers
abbrev pub NoneOf : ℕ → ℕ → List ℕ → Type 0
NoneOf tag n bytes = (xs rest : List ℕ) → length xs ≡ n → bytes ≢ numbers_code tag xs ++ rest

pub none_of_one : (tag : ℕ) (bytes : List ℕ) → ((x : ℕ) (rest : List ℕ) → bytes ≢ numbers_code tag (x ∷ []) ++ rest) → NoneOf tag 1 bytes
none_of_one tag bytes none [] rest size = absurd (omega (arith, size))
none_of_one tag bytes none (x ∷ []) rest size = none x rest
none_of_one tag bytes none (x ∷ y ∷ more) rest size = absurd (omega (arith, size))

pub none_of_two : (tag : ℕ) (bytes : List ℕ) → ((x y : ℕ) (rest : List ℕ) → bytes ≢ numbers_code tag (x ∷ y ∷ []) ++ rest) → NoneOf tag 2 bytes
none_of_two tag bytes none [] rest size = absurd (omega (arith, size))
none_of_two tag bytes none (x ∷ []) rest size = absurd (omega (arith, size))
none_of_two tag bytes none (x ∷ y ∷ []) rest size = none x y rest
none_of_two tag bytes none (x ∷ y ∷ z ∷ more) rest size = absurd (omega (arith, size))

pub none_of_three : (tag : ℕ) (bytes : List ℕ) → ((x y z : ℕ) (rest : List ℕ) → bytes ≢ numbers_code tag (x ∷ y ∷ z ∷ []) ++ rest) → NoneOf tag 3 bytes
none_of_three tag bytes none [] rest size = absurd (omega (arith, size))
none_of_three tag bytes none (x ∷ []) rest size = absurd (omega (arith, size))
none_of_three tag bytes none (x ∷ y ∷ []) rest size = absurd (omega (arith, size))
none_of_three tag bytes none (x ∷ y ∷ z ∷ []) rest size = none x y z rest
none_of_three tag bytes none (x ∷ y ∷ z ∷ w ∷ more) rest size = absurd (omega (arith, size))

module _ {O : Type 0} (row : O → Row) (has_tag : ℕ → Bool) (tagged : (b : Bounds) → IsTagged has_tag (rows_meaning row b))
    (count_of : ℕ → ℕ) (count_is : (op : O) → length (all_numbers (row op).names) ≡ count_of (row op).names.tag) (b : Bounds) (bytes : List ℕ) where
  -- no operation of the grammar has a code that the bytes begin with
  abbrev pub NoOp : Type 0
  NoOp = (op : O) → StartsWithCode (rows_meaning row b) bytes op → ⊥

  -- the tag of the operation that they begin with is the first byte
  pub tag_is : (op : O) → StartsWithCode (rows_meaning row b) bytes op → (row op).names.tag ≡ slice_index bytes 0
  tag_is op begins = sym (ap (λ (l : List ℕ). slice_index l 0) (begins.split ∙ beside row op begins.rest))

  -- what begins with no code of its tag and numbers begins with none
  none_reads : (tag : ℕ) → slice_index bytes 0 ≡ tag → NoneOf tag (count_of tag) bytes → NoOp
  none_reads tag is none op begins =
      let numbers : List ℕ = all_numbers (row op).names in
      let behind : List ℕ = text_code (row op).names.text ++ begins.rest in
      let same = tag_is op begins ∙ is in
      none numbers behind (count_is op ∙ ap count_of same) (begins.split ∙ beside row op begins.rest ∙ ap (λ (t : ℕ). numbers_code t numbers ++ behind) same)

  -- what begins with no tag of the table begins with no code
  pub no_tag : (tag : ℕ) (found : Option O) → slice_index bytes 0 ≡ tag → has_tag tag ≢ true → found ≡ None → IfNone found NoOp
  no_tag tag found is other none =
      subst (λ (o : Option O). IfNone o NoOp) (sym none) (λ op begins. other (ap has_tag (sym is ∙ sym (tag_is op begins)) ∙ tagged b op))

  -- where the numbers after the tag are not there, none is found
  pub none_found : {N : Type 0} (P : Type 0) (tag : ℕ) (numbers : Option N) (found result : Option O) → slice_index bytes 0 ≡ tag
      → found ≡ result → is_some result ≡ is_some numbers → IfNone numbers P → (P → NoneOf tag (count_of tag) bytes) → IfNone found NoOp
  none_found P tag None found None is e same none gives = subst (λ (o : Option O). IfNone o NoOp) (sym e) (none_reads tag is (gives none))
  none_found P tag None found (Some op) is e same none gives = absurd (true≢false same)
  none_found P tag (Some n) found None is e same none gives = absurd (true≢false (sym same))
  none_found P tag (Some n) found (Some op) is e same none gives = subst (λ (o : Option O). IfNone o NoOp) (sym e) tt
