-- The operations of two families meet the laws, since each family does, and the two share no tag.
use Rattle.std.proofs.Common.{◌≡◌, ◌≤◌, ◌<◌, ℕ, Bool, true, false, ◌||◌, None, List, [], ◌∷◌, ◌++◌, All, length, refl, sym, ap, ◌∙◌, subst, true≢false}
use Rattle.std.specs.Prelude.{IsTrue, nat_eq}
use Rattle.std.specs.List.{IsDistinct}
use Rattle.oper_core.specs.Meaning.{Meaning, FitsReads, HasBounds, IsInGrammar, IsLawful, StartsWithCode, Widens}
use Rattle.oper_core.specs.Family.{IsTagged, begins_with}
use Rattle.op_codec.specs.Sum.{either_tag, sum_meaning}
use Rattle.oper_core.specs.declared.bounds.Bounds.{Bounds}
use Rattle.op_codec.specs.declared.sum.Sum.{Sum}
use Rattle.op_codec.specs.declared.sum.Sum.TheVariants.{First, Second}

-- the first byte of a list with a tag in front is that tag
front : (has_tag : ℕ → Bool) (code rest : List ℕ) → begins_with has_tag code ≡ true → begins_with has_tag (code ++ rest) ≡ true
front has_tag [] rest e = cc
front has_tag (tag ∷ code) rest e = e

-- no bytes begin with a tag of two families that share none
pub none_of_both : (first second : ℕ → Bool) → ((tag : ℕ) → first tag ≡ true → second tag ≡ false) → (bytes : List ℕ)
    → begins_with first bytes ≡ true → begins_with second bytes ≡ true → ⊥
none_of_both first second apart [] one two = cc
none_of_both first second apart (tag ∷ bytes) one two = true≢false (sym two ∙ apart tag one)

left_true : (a b : Bool) → a ≡ true → (a || b) ≡ true
left_true true b e = refl
left_true false b e = cc

right_true : (a b : Bool) → b ≡ true → (a || b) ≡ true
right_true true b e = refl
right_true false b e = e

first_tag : (first second : ℕ → Bool) (bytes : List ℕ) → begins_with first bytes ≡ true → begins_with (either_tag first second) bytes ≡ true
first_tag first second [] e = cc
first_tag first second (tag ∷ bytes) e = left_true (first tag) (second tag) e

second_tag : (first second : ℕ → Bool) (bytes : List ℕ) → begins_with second bytes ≡ true → begins_with (either_tag first second) bytes ≡ true
second_tag first second [] e = cc
second_tag first second (tag ∷ bytes) e = right_true (first tag) (second tag) e

-- bytes that begin with a code begin with a tag of its family
pub tag_in : {O : Type 0} (m : Meaning O) (has_tag : ℕ → Bool) → IsTagged has_tag m → (bytes : List ℕ) (op : O)
    → StartsWithCode m bytes op → begins_with has_tag bytes ≡ true
tag_in m has_tag tagged bytes op begins =
    ap (begins_with has_tag) begins.split ∙ front has_tag (m.code op) begins.rest (tagged op)

-- values that fit under one of two equal caps
as_short : (n m : ℕ) (values : List (List ℕ)) → n ≡ m → All (λ v. length v ≤ n) values → All (λ v. length v ≤ m) values
as_short n m values same short = subst (λ (k : ℕ). All (λ v. length v ≤ k) values) same short

as_below : (n m : ℕ) (objects : List ℕ) → n ≡ m → All (λ x. x < n) objects → All (λ x. x < m) objects
as_below n m objects same below = subst (λ (k : ℕ). All (λ x. x < k) objects) same below

module _ {A B : Type 0} (first : Bounds → Meaning A) (second : Bounds → Meaning B) where
  abbrev both : Bounds → Meaning (Sum A B)
  both = sum_meaning first second

  -- the bounds are those of the meaning
  pub sum_bounded : (b : Bounds) → HasBounds b (both b)
  sum_bounded b = record { objects = refl; cap = refl }

  -- values that fit what an operation reads fit it in its family
  pub fits_first : (b : Bounds) → HasBounds b (first b) → (op : A) (values : List (List ℕ)) → FitsReads (both b) (First op) values → FitsReads (first b) op values
  fits_first b has op values fits = record { count = fits.count; short = as_short b.cap (first b).cap values (sym has.cap) fits.short }

  pub fits_second : (b : Bounds) → HasBounds b (second b) → (op : B) (values : List (List ℕ)) → FitsReads (both b) (Second op) values → FitsReads (second b) op values
  fits_second b has op values fits = record { count = fits.count; short = as_short b.cap (second b).cap values (sym has.cap) fits.short }

  -- bytes that begin with its code do so in its family
  pub begins_first : (b : Bounds) (bytes : List ℕ) (op : A) → StartsWithCode (both b) bytes (First op) → StartsWithCode (first b) bytes op
  begins_first b bytes op begins = record { rest = begins.rest; split = begins.split; in_grammar = begins.in_grammar }

  pub begins_second : (b : Bounds) (bytes : List ℕ) (op : B) → StartsWithCode (both b) bytes (Second op) → StartsWithCode (second b) bytes op
  begins_second b bytes op begins = record { rest = begins.rest; split = begins.split; in_grammar = begins.in_grammar }

  module _ (b : Bounds) (has : HasBounds b (first b)) (has' : HasBounds b (second b)) where
    module _ (laws : IsLawful (first b)) (laws' : IsLawful (second b)) where
      writes_some : (op : Sum A B) → IsInGrammar (both b) op → 0 < length ((both b).writes op)
      writes_some (First op) e = laws.writes_some op e
      writes_some (Second op) e = laws'.writes_some op e

      reads_below : (op : Sum A B) → IsInGrammar (both b) op → All (λ x. x < b.objects) ((both b).reads op)
      reads_below (First op) e = as_below (first b).objects b.objects ((first b).reads op) has.objects (laws.reads_below op e)
      reads_below (Second op) e = as_below (second b).objects b.objects ((second b).reads op) has'.objects (laws'.reads_below op e)

      writes_below : (op : Sum A B) → IsInGrammar (both b) op → All (λ x. x < b.objects) ((both b).writes op)
      writes_below (First op) e = as_below (first b).objects b.objects ((first b).writes op) has.objects (laws.writes_below op e)
      writes_below (Second op) e = as_below (second b).objects b.objects ((second b).writes op) has'.objects (laws'.writes_below op e)

      reads_apart : (op : Sum A B) → IsInGrammar (both b) op → IsDistinct nat_eq ((both b).reads op)
      reads_apart (First op) e = laws.reads_apart op e
      reads_apart (Second op) e = laws'.reads_apart op e

      writes_apart : (op : Sum A B) → IsInGrammar (both b) op → IsDistinct nat_eq ((both b).writes op)
      writes_apart (First op) e = laws.writes_apart op e
      writes_apart (Second op) e = laws'.writes_apart op e

      encodable : (op : Sum A B) → IsInGrammar (both b) op → IsTrue ((both b).is_encodable op)
      encodable (First op) e = laws.encodable op e
      encodable (Second op) e = laws'.encodable op e

      made : (op : Sum A B) (values : List (List ℕ)) → IsInGrammar (both b) op → FitsReads (both b) op values
          → (length ((both b).effect op values) ≡ length ((both b).writes op)) × All (λ v. length v ≤ b.cap) ((both b).effect op values)
      made (First op) values e fits =
          let is = laws.made op values e (fits_first b has op values fits) in
          (is.0, as_short (first b).cap b.cap ((first b).effect op values) has.cap is.1)
      made (Second op) values e fits =
          let is = laws'.made op values e (fits_second b has' op values fits) in
          (is.0, as_short (second b).cap b.cap ((second b).effect op values) has'.cap is.1)

      module _ (tag tag' : ℕ → Bool) (tagged : IsTagged tag (first b)) (tagged' : IsTagged tag' (second b))
          (apart : (t : ℕ) → tag t ≡ true → tag' t ≡ false) where
        one_code : (p q : Sum A B) (bytes : List ℕ) → StartsWithCode (both b) bytes p → StartsWithCode (both b) bytes q → p ≡ q
        one_code (First p) (First q) bytes one two = ap First (laws.one_code p q bytes (begins_first b bytes p one) (begins_first b bytes q two))
        one_code (Second p) (Second q) bytes one two = ap Second (laws'.one_code p q bytes (begins_second b bytes p one) (begins_second b bytes q two))
        one_code (First p) (Second q) bytes one two =
            absurd (none_of_both tag tag' apart bytes (tag_in (first b) tag tagged bytes p (begins_first b bytes p one)) (tag_in (second b) tag' tagged' bytes q (begins_second b bytes q two)))
        one_code (Second p) (First q) bytes one two =
            absurd (none_of_both tag tag' apart bytes (tag_in (first b) tag tagged bytes q (begins_first b bytes q two)) (tag_in (second b) tag' tagged' bytes p (begins_second b bytes p one)))

        pub sum_lawful : IsLawful (both b)
        sum_lawful = record {
          writes_some = writes_some;
          reads_below = reads_below;
          reads_apart = reads_apart;
          writes_below = writes_below;
          writes_apart = writes_apart;
          made = made;
          encodable = encodable;
          one_code = one_code;
        }

  -- each code begins with a tag of one of the two
  pub sum_tagged : (b : Bounds) (tag tag' : ℕ → Bool) → IsTagged tag (first b) → IsTagged tag' (second b) → IsTagged (either_tag tag tag') (both b)
  sum_tagged b tag tag' tagged tagged' (First op) = first_tag tag tag' ((first b).code op) (tagged op)
  sum_tagged b tag tag' tagged tagged' (Second op) = second_tag tag tag' ((second b).code op) (tagged' op)

  -- what wider bounds leave of an operation is said by its family
  module _ (b c : Bounds) (has : HasBounds b (first b)) (has' : HasBounds b (second b)) (wider : Widens (first b) (first c)) (wider' : Widens (second b) (second c)) where
    wider_reads : (op : Sum A B) → (both c).reads op ≡ (both b).reads op
    wider_reads (First op) = wider.reads op
    wider_reads (Second op) = wider'.reads op

    wider_writes : (op : Sum A B) → (both c).writes op ≡ (both b).writes op
    wider_writes (First op) = wider.writes op
    wider_writes (Second op) = wider'.writes op

    wider_code : (op : Sum A B) → (both c).code op ≡ (both b).code op
    wider_code (First op) = wider.code op
    wider_code (Second op) = wider'.code op

    wider_grammar : (op : Sum A B) → IsInGrammar (both b) op → IsInGrammar (both c) op
    wider_grammar (First op) e = wider.in_grammar op e
    wider_grammar (Second op) e = wider'.in_grammar op e

    wider_accepted : (op : Sum A B) (values : List (List ℕ)) → IsInGrammar (both b) op → FitsReads (both b) op values → (both b).check op values ≡ None → (both c).check op values ≡ None
    wider_accepted (First op) values e fits accepted = wider.accepted op values e (fits_first b has op values fits) accepted
    wider_accepted (Second op) values e fits accepted = wider'.accepted op values e (fits_second b has' op values fits) accepted

    wider_effect : (op : Sum A B) (values : List (List ℕ)) → IsInGrammar (both b) op → FitsReads (both b) op values → (both b).check op values ≡ None
        → (both c).effect op values ≡ (both b).effect op values
    wider_effect (First op) values e fits accepted = wider.effect op values e (fits_first b has op values fits) accepted
    wider_effect (Second op) values e fits accepted = wider'.effect op values e (fits_second b has' op values fits) accepted

    pub sum_widens : Widens (both b) (both c)
    sum_widens = record {
      reads = wider_reads;
      writes = wider_writes;
      code = wider_code;
      in_grammar = wider_grammar;
      accepted = wider_accepted;
      effect = wider_effect;
    }
