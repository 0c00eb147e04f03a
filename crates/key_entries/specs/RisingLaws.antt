-- Entries whose keys rise are read exactly where their code is.
use Rattle.std.proofs.Common.{◌≡◌, ◌≤◌, ℕ, zero, suc, ◌*◌, Bool, true, false, ◌&&◌, T, Ordering, Less, is_lt, Option, None, Some, List, [], ◌∷◌, All, length, drop, refl, sym, ap, ◌∙◌, subst, arith, option_map, option_and_then}
use Rattle.std.specs.Prelude.{IsTrue}
use Rattle.std.specs.FinMap.Entries.{is_sorted, below_all}
use Rattle.std.proofs.lemmas.List.Elements.{All-cons, All-head, All-nil, All-tail}
use Rattle.key_entries.specs.Short.{is_short, short_code, short_in}
use Rattle.key_entries.specs.Entries.{Field, AreEntries, byte_order, short_field, beside, entry_code, entry_in, entries_code, entries_in, rising}
use Rattle.key_entries.specs.EntryLaws.{IsExact, AreBytes, if_some, if_true, and_then_some, map_some, same_some, short_begins, entries_found, entries_are, entries_small}

pub truth : (b : Bool) → T b → IsTrue b
truth true t = refl
truth false t = absurd t

holds : (b : Bool) → IsTrue b → T b
holds b e = subst T (sym e) tt

module _ {X : Type 0} (field : Field X) (exact : IsExact field) where
  -- entries of a node are read back
  pub rising_found : (es : List (List ℕ × X)) → AreEntries field es → option_and_then rising (entries_in field (length es) (entries_code field es)) ≡ Some es
  rising_found es are =
      ap (λ (o : Option (List (List ℕ × X))). option_and_then rising o) (entries_found field exact es are.short are.fit)
      ∙ if_true (is_sorted byte_order es) (Some es) None (truth (is_sorted byte_order es) are.rise)

  -- entries that are read, and rise, are those of a node
  pub record AreReadFrom (n : ℕ) (bytes : List ℕ) (es : List (List ℕ × X)) : Type 0 where
    pub split : bytes ≡ entries_code field es
    pub count : length es ≡ n
    pub entries : AreEntries field es

  pub rising_read : (n : ℕ) (bytes : List ℕ) (es : List (List ℕ × X)) → n ≤ 7 → AreBytes bytes → option_and_then rising (entries_in field n bytes) ≡ Some es → AreReadFrom n bytes es
  rising_read n bytes es few are is =
      let read = and_then_some rising (entries_in field n bytes) es is in
      let tests = if_some (is_sorted byte_order read.0) (Some read.0) es read.2 in
      let same : read.0 ≡ es = same_some read.0 es tests.1 in
      let all = entries_are field exact n bytes read.0 are read.1 in
      subst (λ (es : List (List ℕ × X)). AreReadFrom n bytes es) same
      (record {
        split = all.split;
        count = all.count;
        entries = record { few = omega (arith, all.count, few); short = all.short; fit = all.fit; rise = holds (is_sorted byte_order read.0) tests.0 };
      })

  pub rising_small : (n : ℕ) (bytes : List ℕ) (es : List (List ℕ × X)) → option_and_then rising (entries_in field n bytes) ≡ Some es
      → (length es ≡ n) × (length (entries_code field es) ≤ 66 * n)
  rising_small n bytes es is =
      let read = and_then_some rising (entries_in field n bytes) es is in
      let tests = if_some (is_sorted byte_order read.0) (Some read.0) es read.2 in
      subst (λ (es : List (List ℕ × X)). (length es ≡ n) × (length (entries_code field es) ≤ 66 * n)) (same_some read.0 es tests.1)
      (entries_small field exact n bytes read.0 read.1)

-- entries that are read are short, and their fields what a reader of fields answers, whatever numbers stand where bytes should
module _ {X : Type 0} (field : Field X) (P : X → Type 0) (reads : (bytes : List ℕ) (x : X) → field.read bytes ≡ Some x → P x) where
  pub record AreRead (n : ℕ) (es : List (List ℕ × X)) : Type 0 where
    pub count : length es ≡ n
    pub short : All (λ e. IsTrue (is_short e.0)) es
    pub fit : All (λ e. P e.1) es

  entry_read : (bytes : List ℕ) (e : List ℕ × X) → entry_in field bytes ≡ Some e → IsTrue (is_short e.0) × P e.1
  entry_read bytes e is =
      let key = and_then_some (beside field bytes) (short_in bytes) e is in
      let value = map_some (λ x. (key.0, x)) (field.read (drop (length (short_code key.0)) bytes)) e key.2 in
      subst (λ (e : List ℕ × X). IsTrue (is_short e.0) × P e.1) value.2 ((short_begins bytes key.0 key.1).1, reads (drop (length (short_code key.0)) bytes) value.0 value.1)

  entries_read : (n : ℕ) (bytes : List ℕ) (es : List (List ℕ × X)) → entries_in field n bytes ≡ Some es → AreRead n es
  entries_read zero [] es is = subst (AreRead 0) (same_some [] es is) (record { count = refl; short = All-nil (λ e. IsTrue (is_short e.0)); fit = All-nil (λ e. P e.1) })
  entries_read zero (b ∷ bytes) es is = cc
  entries_read (suc n) bytes es is =
      let first = and_then_some (λ e. option_map (λ es. e ∷ es) (entries_in field n (drop (length (entry_code field e)) bytes))) (entry_in field bytes) es is in
      let rest = map_some (λ es. first.0 ∷ es) (entries_in field n (drop (length (entry_code field first.0)) bytes)) es first.2 in
      let one = entry_read bytes first.0 first.1 in
      let others = entries_read n (drop (length (entry_code field first.0)) bytes) rest.0 rest.1 in
      subst (AreRead (suc n)) rest.2
      (record { count = ap suc others.count; short = All-cons (λ e. IsTrue (is_short e.0)) first.0 rest.0 one.0 others.short; fit = All-cons (λ e. P e.1) first.0 rest.0 one.1 others.fit })

  pub rising_known : (n : ℕ) (bytes : List ℕ) (es : List (List ℕ × X)) → option_and_then rising (entries_in field n bytes) ≡ Some es → AreRead n es × T (is_sorted byte_order es)
  rising_known n bytes es is =
      let read = and_then_some rising (entries_in field n bytes) es is in
      let tests = if_some (is_sorted byte_order read.0) (Some read.0) es read.2 in
      subst (λ (es : List (List ℕ × X)). AreRead n es × T (is_sorted byte_order es)) (same_some read.0 es tests.1)
      (entries_read n bytes read.0 read.1, holds (is_sorted byte_order read.0) tests.0)

pub pairs_known : (n : ℕ) (bytes : List ℕ) (es : List (List ℕ × List ℕ)) → n ≤ 7 → option_and_then rising (entries_in short_field n bytes) ≡ Some es → AreEntries short_field es
pairs_known n bytes es few is =
    let known = rising_known short_field (λ v. IsTrue (is_short v)) (λ bytes x e. (short_begins bytes x e).1) n bytes es is in
    record { few = omega (arith, known.0.count, few); short = known.0.short; fit = known.0.fit; rise = known.1 }

empty_less : (key : List ℕ) → IsTrue (is_short key) → byte_order [] key ≡ Less
empty_less [] short = cc
empty_less (b ∷ key) short = refl

-- no short key is at or below the empty one
pub empty_below : {X : Type 0} (es : List (List ℕ × X)) → All (λ e. IsTrue (is_short e.0)) es → below_all byte_order [] es ≡ true
empty_below [] short = refl
empty_below (e ∷ es) short =
    ap (λ (o : Ordering). is_lt o && below_all byte_order [] es) (empty_less e.0 (All-head (λ e. IsTrue (is_short e.0)) e es short))
    ∙ empty_below es (All-tail (λ e. IsTrue (is_short e.0)) e es short)
