-- A reader of entries finds exactly those that were written.
use Rattle.std.proofs.Common.{◌≡◌, ◌≤◌, ◌<◌, ℕ, zero, suc, ◌+◌, ◌*◌, ◌^◌, Bool, true, false, ◌&&◌, if◌then◌else◌, Option, None, Some, unwrap_or, List, [], ◌∷◌, ◌++◌, All, length, take, drop, slice_index, refl, sym, ap, ◌∙◌, subst, arith, append_assoc, option_map, option_and_then, length-append, take-append-drop, get_or-drop}
use Rattle.std.specs.Prelude.{IsTrue, nat_le, nat_lt}
use Rattle.std.proofs.Math.Seq.{drop-append_seam}
use Rattle.std.proofs.lemmas.List.{take_at, length-take-le}
use Rattle.std.proofs.lemmas.List.Elements.{All-cons, All-nil, All-head, All-tail}
use Rattle.std.proofs.lemmas.Bool.{le-leb, leb-true, lt-ltb, ltb-true}
use Rattle.byteorder.specs.Endian.{little_bytes, little_number}
use Rattle.byteorder.specs.Numbers.{little_from-lt}
use Rattle.oper_core.specs.LittleEndian.{length-little_bytes, little_number-little_bytes, little_bytes-front}
use Rattle.key_entries.specs.Short.{is_short, short_code, short_in}
use Rattle.key_entries.specs.Entries.{Field, short_field, child_field, child_in, entry_code, entries_code, beside, entry_in, entries_in}

-- each item is a byte
abbrev pub AreBytes : List ℕ → Type 0
AreBytes bytes = (i : ℕ) → slice_index bytes i < 256

pub bytes_behind : (n : ℕ) (bytes : List ℕ) → AreBytes bytes → AreBytes (drop n bytes)
bytes_behind n bytes are i = rw get_or-drop (are (n + i))

-- what the parts of a test say
pub both_true : (a b : Bool) → IsTrue (a && b) → IsTrue a × IsTrue b
both_true true true e = (refl, refl)
both_true true false e = cc
both_true false b e = cc

pub true_both : (a b : Bool) → IsTrue a → IsTrue b → IsTrue (a && b)
true_both true true e f = refl
true_both true false e f = cc
true_both false b e f = cc

pub if_some : {A : Type 0} (b : Bool) (o : Option A) (y : A) → (if b then o else None) ≡ Some y → IsTrue b × (o ≡ Some y)
if_some true o y e = (refl, e)
if_some false o y e = cc

pub if_true : {A : Type 0} (b : Bool) (o p : A) → IsTrue b → (if b then o else p) ≡ o
if_true true o p e = refl
if_true false o p e = cc

pub and_then_some : {A B : Type 0} (f : A → Option B) (o : Option A) (y : B) → option_and_then f o ≡ Some y → (x : A) × (o ≡ Some x) × (f x ≡ Some y)
and_then_some f None y e = cc
and_then_some f (Some x) y e = (x, refl, e)

pub map_some : {A B : Type 0} (f : A → B) (o : Option A) (y : B) → option_map f o ≡ Some y → (x : A) × (o ≡ Some x) × (f x ≡ y)
map_some f None y e = cc
map_some f (Some x) y e = (x, refl, ap (λ o. unwrap_or o (f x)) e)

pub same_some : {A : Type 0} (x y : A) → Some x ≡ Some y → x ≡ y
same_some x y e = ap (λ o. unwrap_or o x) e

-- a field is read exactly where its code is
pub record IsExact {X : Type 0} (field : Field X) : Type 0 where
  pub found : (x : X) (rest : List ℕ) → IsTrue (field.fits x) → field.read (field.code x ++ rest) ≡ Some x
  pub begins : (bytes : List ℕ) (x : X) → AreBytes bytes → field.read bytes ≡ Some x
      → (bytes ≡ field.code x ++ drop (length (field.code x)) bytes) × IsTrue (field.fits x)
  pub small : (bytes : List ℕ) (x : X) → field.read bytes ≡ Some x → length (field.code x) ≤ 33

-- a list of bytes splits after its front
pub split_off : (front rest bytes : List ℕ) → bytes ≡ front ++ rest → bytes ≡ front ++ drop (length front) bytes
split_off front rest bytes e = e ∙ ap (λ (l : List ℕ). front ++ l) (sym (drop-append_seam front rest) ∙ ap (λ (l : List ℕ). drop (length front) l) (sym e))

pub short_found : (x rest : List ℕ) → IsTrue (is_short x) → short_in (short_code x ++ rest) ≡ Some x
short_found x rest fits =
    let size = both_true (nat_le 1 (length x)) (nat_le (length x) 32) fits in
    let room : length x ≤ length (x ++ rest) = omega (arith, length-append x rest) in
    if_true (nat_le 1 (length x) && (nat_le (length x) 32 && nat_le (length x) (length (x ++ rest)))) (Some (take (length x) (x ++ rest))) None
    (true_both _ _ size.0 (true_both _ _ size.1 (le-leb (length x) (length (x ++ rest)) room)))
    ∙ ap (λ (l : List ℕ). Some l) (take_at x rest (length x) refl)

-- the short list that is read is there, with its length in front
record IsShortHead (n : ℕ) (rest x : List ℕ) : Type 0 where
  some : 1 ≤ n
  few : n ≤ 32
  room : n ≤ length rest
  taken : x ≡ take n rest

short_head : (n : ℕ) (rest x : List ℕ) → short_in (n ∷ rest) ≡ Some x → IsShortHead n rest x
short_head n rest x e =
    let tests = if_some (nat_le 1 n && (nat_le n 32 && nat_le n (length rest))) (Some (take n rest)) x e in
    let outer = both_true (nat_le 1 n) (nat_le n 32 && nat_le n (length rest)) tests.0 in
    let last = both_true (nat_le n 32) (nat_le n (length rest)) outer.1 in
    record {
      some = leb-true 1 n outer.0;
      few = leb-true n 32 last.0;
      room = leb-true n (length rest) last.1;
      taken = sym (same_some (take n rest) x tests.1);
    }

pub short_begins : (bytes x : List ℕ) → short_in bytes ≡ Some x → (bytes ≡ short_code x ++ drop (length (short_code x)) bytes) × IsTrue (is_short x)
short_begins [] x e = cc
short_begins (n ∷ rest) x e =
    let head = short_head n rest x e in
    let size : length x ≡ n = ap length head.taken ∙ length-take-le n rest head.room in
    let body : rest ≡ x ++ drop n rest = sym (take-append-drop n rest) ∙ ap (λ (l : List ℕ). l ++ drop n rest) (sym head.taken) in (
      split_off (short_code x) (drop n rest) (n ∷ rest) (ap (λ (k : ℕ). k ∷ rest) (sym size) ∙ ap (λ (l : List ℕ). length x ∷ l) body),
      true_both (nat_le 1 (length x)) (nat_le (length x) 32) (le-leb 1 (length x) (omega (arith, head.some, size))) (le-leb (length x) 32 (omega (arith, head.few, size))),
    )

pub short_bounds : (x : List ℕ) → IsTrue (is_short x) → (1 ≤ length x) × (length x ≤ 32)
short_bounds x fits =
    let size = both_true (nat_le 1 (length x)) (nat_le (length x) 32) fits in (leb-true 1 (length x) size.0, leb-true (length x) 32 size.1)

pub short_exact : IsExact short_field
short_exact = record {
  found = short_found;
  begins = λ bytes x are e. short_begins bytes x e;
  small = λ bytes x e. let size = short_bounds x (short_begins bytes x e).1 in omega (arith, size.1);
}

pub child_found : (x : ℕ) (rest : List ℕ) → IsTrue (nat_lt x (2 ^ 32)) → child_in (little_bytes 4 x ++ rest) ≡ Some x
child_found x rest fits =
    let room : 4 ≤ length (little_bytes 4 x ++ rest) = omega (arith, length-append (little_bytes 4 x) rest, length-little_bytes 4 x) in
    if_true (nat_le 4 (length (little_bytes 4 x ++ rest))) (Some (little_number 4 (little_bytes 4 x ++ rest))) None (le-leb 4 (length (little_bytes 4 x ++ rest)) room)
    ∙ ap (λ (n : ℕ). Some n) (little_number-little_bytes 4 x rest (ltb-true x (2 ^ 32) fits))

pub child_begins : (bytes : List ℕ) (x : ℕ) → AreBytes bytes → child_in bytes ≡ Some x
    → (bytes ≡ little_bytes 4 x ++ drop (length (little_bytes 4 x)) bytes) × IsTrue (nat_lt x (2 ^ 32))
child_begins bytes x are e =
    let tests = if_some (nat_le 4 (length bytes)) (Some (little_number 4 bytes)) x e in
    let number : little_number 4 bytes ≡ x = same_some (little_number 4 bytes) x tests.1 in
    let front : bytes ≡ little_bytes 4 (little_number 4 bytes) ++ drop 4 bytes = little_bytes-front 4 bytes (leb-true 4 (length bytes) tests.0) are in (
      split_off (little_bytes 4 x) (drop 4 bytes) bytes (front ∙ ap (λ (n : ℕ). little_bytes 4 n ++ drop 4 bytes) number),
      lt-ltb x (2 ^ 32) (omega (arith, little_from-lt 0 4 bytes are, number)),
    )

pub child_exact : IsExact child_field
child_exact = record {
  found = child_found;
  begins = child_begins;
  small = λ bytes x e. omega (arith, length-little_bytes 4 x);
}

module _ {X : Type 0} (field : Field X) (exact : IsExact field) where
  -- an entry of the grammar is read back
  pub entry_found : (e : List ℕ × X) (rest : List ℕ) → IsTrue (is_short e.0) → IsTrue (field.fits e.1) → entry_in field (entry_code field e ++ rest) ≡ Some e
  entry_found e rest short fits =
      let bytes = entry_code field e ++ rest in
      let split : bytes ≡ short_code e.0 ++ (field.code e.1 ++ rest) = append_assoc (short_code e.0) (field.code e.1) rest in
      let key : short_in bytes ≡ Some e.0 = ap short_in split ∙ short_found e.0 (field.code e.1 ++ rest) short in
      let behind : drop (length (short_code e.0)) bytes ≡ field.code e.1 ++ rest =
      ap (λ (l : List ℕ). drop (length (short_code e.0)) l) split ∙ drop-append_seam (short_code e.0) (field.code e.1 ++ rest) in
      ap (λ (o : Option (List ℕ)). option_and_then (beside field bytes) o) key
      ∙ ap (λ (l : List ℕ). option_map (λ (x : X). (e.0, x)) (field.read l)) behind
      ∙ ap (λ (o : Option X). option_map (λ (x : X). (e.0, x)) o) (exact.found e.1 rest fits)

  -- the entry that is read is there
  pub record IsEntryAt (bytes : List ℕ) (e : List ℕ × X) : Type 0 where
    pub begins : bytes ≡ entry_code field e ++ drop (length (entry_code field e)) bytes
    pub short : IsTrue (is_short e.0)
    pub fits : IsTrue (field.fits e.1)

  pub entry_begins : (bytes : List ℕ) (e : List ℕ × X) → AreBytes bytes → entry_in field bytes ≡ Some e → IsEntryAt bytes e
  entry_begins bytes e are is =
      let found = and_then_some (beside field bytes) (short_in bytes) e is in
      let key : List ℕ = found.0 in
      let front = short_begins bytes key found.1 in
      let behind : List ℕ = drop (length (short_code key)) bytes in
      let besides = map_some (λ (x : X). (key, x)) (field.read behind) e found.2 in
      let x : X = besides.0 in
      let next = exact.begins behind x (bytes_behind (length (short_code key)) bytes are) besides.1 in
      let whole : bytes ≡ entry_code field (key, x) ++ drop (length (field.code x)) behind =
      front.0 ∙ ap (λ (l : List ℕ). short_code key ++ l) next.0 ∙ sym (append_assoc (short_code key) (field.code x) (drop (length (field.code x)) behind)) in
      subst (λ (e : List ℕ × X). IsEntryAt bytes e) besides.2
      (record {
        begins = split_off (entry_code field (key, x)) (drop (length (field.code x)) behind) bytes whole;
        short = front.1;
        fits = next.1;
      })

  -- entries of the grammar are read back
  pub entries_found : (es : List (List ℕ × X)) → All (λ e. IsTrue (is_short e.0)) es → All (λ e. IsTrue (field.fits e.1)) es
      → entries_in field (length es) (entries_code field es) ≡ Some es
  entries_found [] short fit = refl
  entries_found (e ∷ es) short fit =
      let bytes = entry_code field e ++ entries_code field es in
      let first = entry_found e (entries_code field es) (All-head (λ e. IsTrue (is_short e.0)) e es short) (All-head (λ e. IsTrue (field.fits e.1)) e es fit) in
      let others = entries_found es (All-tail (λ e. IsTrue (is_short e.0)) e es short) (All-tail (λ e. IsTrue (field.fits e.1)) e es fit) in
      let behind : drop (length (entry_code field e)) bytes ≡ entries_code field es = drop-append_seam (entry_code field e) (entries_code field es) in
      ap (λ (o : Option (List ℕ × X)). option_and_then (λ (e : List ℕ × X). option_map (λ (es : List (List ℕ × X)). e ∷ es) (entries_in field (length es) (drop (length (entry_code field e)) bytes))) o) first
      ∙ ap (λ (l : List ℕ). option_map (λ (es : List (List ℕ × X)). e ∷ es) (entries_in field (length es) l)) behind
      ∙ ap (λ (o : Option (List (List ℕ × X))). option_map (λ (es : List (List ℕ × X)). e ∷ es) o) others

  -- the entries that are read are the bytes
  pub record AreEntriesOf (n : ℕ) (bytes : List ℕ) (es : List (List ℕ × X)) : Type 0 where
    pub split : bytes ≡ entries_code field es
    pub count : length es ≡ n
    pub short : All (λ e. IsTrue (is_short e.0)) es
    pub fit : All (λ e. IsTrue (field.fits e.1)) es

  pub entries_are : (n : ℕ) (bytes : List ℕ) (es : List (List ℕ × X)) → AreBytes bytes → entries_in field n bytes ≡ Some es → AreEntriesOf n bytes es
  entries_are zero [] es are is =
      subst (λ (es : List (List ℕ × X)). AreEntriesOf zero [] es) (same_some [] es is)
      (record { split = refl; count = refl; short = All-nil (λ e. IsTrue (is_short e.0)); fit = All-nil (λ e. IsTrue (field.fits e.1)) })
  entries_are zero (b ∷ bytes) es are is = cc
  entries_are (suc n) bytes es are is =
      let found = and_then_some (λ (e : List ℕ × X). option_map (λ (es : List (List ℕ × X)). e ∷ es) (entries_in field n (drop (length (entry_code field e)) bytes))) (entry_in field bytes) es is in
      let e : List ℕ × X = found.0 in
      let at = entry_begins bytes e are found.1 in
      let behind : List ℕ = drop (length (entry_code field e)) bytes in
      let others = map_some (λ (es : List (List ℕ × X)). e ∷ es) (entries_in field n behind) es found.2 in
      let rest = entries_are n behind others.0 (bytes_behind (length (entry_code field e)) bytes are) others.1 in
      subst (λ (es : List (List ℕ × X)). AreEntriesOf (suc n) bytes es) others.2
      (record {
        split = at.begins ∙ ap (λ (l : List ℕ). entry_code field e ++ l) rest.split;
        count = ap suc rest.count;
        short = All-cons (λ e. IsTrue (is_short e.0)) e others.0 at.short rest.short;
        fit = All-cons (λ e. IsTrue (field.fits e.1)) e others.0 at.fits rest.fit;
      })

  -- so many entries have at most so many bytes
  pub entries_small : (n : ℕ) (bytes : List ℕ) (es : List (List ℕ × X)) → entries_in field n bytes ≡ Some es
      → (length es ≡ n) × (length (entries_code field es) ≤ 66 * n)
  entries_small zero [] es is =
      subst (λ (es : List (List ℕ × X)). (length es ≡ 0) × (length (entries_code field es) ≤ 0)) (same_some [] es is) (refl, omega arith)
  entries_small zero (b ∷ bytes) es is = cc
  entries_small (suc n) bytes es is =
      let found = and_then_some (λ (e : List ℕ × X). option_map (λ (es : List (List ℕ × X)). e ∷ es) (entries_in field n (drop (length (entry_code field e)) bytes))) (entry_in field bytes) es is in
      let e : List ℕ × X = found.0 in
      let behind : List ℕ = drop (length (entry_code field e)) bytes in
      let others = map_some (λ (es : List (List ℕ × X)). e ∷ es) (entries_in field n behind) es found.2 in
      let rest = entries_small n behind others.0 others.1 in
      let parts = and_then_some (beside field bytes) (short_in bytes) e found.1 in
      let besides = map_some (λ (x : X). (parts.0, x)) (field.read (drop (length (short_code parts.0)) bytes)) e parts.2 in
      let key = short_bounds parts.0 (short_begins bytes parts.0 parts.1).1 in
      let narrow = exact.small (drop (length (short_code parts.0)) bytes) besides.0 besides.1 in
      let size : length (entry_code field (parts.0, besides.0)) ≤ 66 = omega (arith, length-append (short_code parts.0) (field.code besides.0), key.1, narrow) in
      let whole : length (entry_code field e) ≤ 66 = subst (λ (e : List ℕ × X). length (entry_code field e) ≤ 66) besides.2 size in
      subst (λ (es : List (List ℕ × X)). (length es ≡ suc n) × (length (entries_code field es) ≤ 66 * suc n)) others.2
      (ap suc rest.0, omega (arith, length-append (entry_code field e) (entries_code field others.0), whole, rest.1))
