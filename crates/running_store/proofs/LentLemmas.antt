-- Values are lent from the cache, and come back.
use Rattle.std.proofs.Common.{◌≡◌, ◌∙◌, ℕ, zero, suc, ◌+◌, ◌<◌, ◌≤◌, ◌==◌, ◌||◌, Bool, true, false, inl, inr, List, [], ◌∷◌, ◌++◌, Option, None, Some, IsSome, nat_eq, length, map, take, slice_index, get_or, if◌then◌else◌, refl, sym, ap, subst, arith}
use Rattle.std.specs.Cmp.{nat_eq_equiv}
use Rattle.std.specs.List.{IsDistinct}
use Rattle.std.specs.Option.{option_map}
use Rattle.std.specs.Prelude.{All, OnErr, OnOk, Result, Ok, Err}
use Rattle.std.proofs.lemmas.Bool.{cases_Bool, ne_eqb}
use Rattle.std.proofs.lemmas.Bool.Decides.{eqb_tells}
use Rattle.std.proofs.lemmas.List.{map-append, take_more}
use Rattle.std.proofs.lemmas.List.Elements.{All-from_recursion, All-head, All-map, All-tail}
use Rattle.std.proofs.lemmas.Map.Keys.{IsDistinct-head, IsDistinct-tail}
use Rattle.formats.specs.Objects.{cell_of}
use Rattle.oper_core.specs.Cell.{Cell}
use Rattle.oper_core.specs.Meaning.{KeepsUnwritten}
use Rattle.oper_core.specs.State.{State, is_among, value_for}
use Rattle.dirty_cache.specs.Contents.{Contents, held, IsSwapped, KeepsRooms}
use Rattle.dirty_cache.specs.Places.{bytes_or, with_bytes}
use Rattle.dirty_cache.specs.declared.entry.Entry.{Entry}
use Rattle.running_store.specs.Laid.{KeepsCells, Laid, cell_or, values_in}
use Rattle.running_store.specs.Laid.Lent.{KeepsOthers, cached_values, inputs_in}

pub or_false : (a b : Bool) → (a || b) ≡ false → (a ≡ false) × (b ≡ false)
or_false true b h = cc
or_false false b h = (refl, h)

-- no object is among none; one that is not among some, with another in front or behind, is not among these, nor that other
pub among_front : (o : ℕ) (front : List ℕ) (x : ℕ) → is_among x (o ∷ front) ≡ false → (is_among x front ≡ false) × ((x == o) ≡ false)
among_front o front x h = let both = or_false (x == o) (is_among x front) h in (both.1, both.0)

pub among_behind : (o : ℕ) (front : List ℕ) (x : ℕ) → is_among x (front ++ o ∷ []) ≡ false → (is_among x front ≡ false) × ((x == o) ≡ false)
among_behind o [] x h = (refl, (or_false (x == o) false h).0)
among_behind o (f ∷ front) x h =
    let both = or_false (x == f) (is_among x (front ++ o ∷ [])) h in
    let rest = among_behind o front x both.1 in
    ((λ i. both.0 i || rest.0 i), rest.1)

-- of objects of which none comes twice, none is among those before it
pub apart_before : (objects : List ℕ) (i : ℕ) → IsDistinct nat_eq objects → i < length objects → is_among (slice_index objects i) (take i objects) ≡ false
apart_before [] i apart within = absurd (omega (arith, within))
apart_before (x ∷ xs) zero apart within = refl
apart_before (x ∷ xs) (suc i) apart within =
    let other : nat_eq x (slice_index xs i) ≡ false = All-from_recursion (λ y. nat_eq x y ≡ false) xs (IsDistinct-head nat_eq x xs apart) i 0 (omega (arith, within)) in
    let rest = apart_before xs i (IsDistinct-tail nat_eq x xs apart) (omega (arith, within)) in
    λ j. (nat_eq_equiv.symm (slice_index xs i) x ∙ other) j || rest j

-- entries of one LSN
abbrev id_of : Option Entry → Option ℕ
id_of h = option_map (λ e. e.lsn) h

id_kept : (bytes : List ℕ) (h : Option Entry) → id_of (option_map (with_bytes bytes) h) ≡ id_of h
id_kept bytes None = refl
id_kept bytes (Some e) = refl

some_same : (a b : Option Entry) → id_of a ≡ id_of b → IsSome b → IsSome a
some_same None None same some = some
some_same None (Some e) same some = cc
some_same (Some e) b same some = refl

entry_same : (a b : Option Entry) → id_of a ≡ id_of b → (IsSome b → bytes_or a [] ≡ bytes_or b []) → a ≡ b
entry_same None None same bytes = refl
entry_same None (Some f) same bytes = cc
entry_same (Some e) None same bytes = cc
entry_same (Some e) (Some f) same bytes =
    let lsn : e.lsn ≡ f.lsn = cc same in
    let value = bytes refl in
    λ i. Some (record { lsn = lsn i; bytes = value i })

bytes_set : (bytes : List ℕ) (h : Option Entry) → IsSome h → bytes_or (option_map (with_bytes bytes) h) [] ≡ bytes
bytes_set bytes None some = cc
bytes_set bytes (Some e) some = refl

-- nothing changes
pub keeps_all : (objects : List ℕ) (cache : Contents) → KeepsOthers objects cache cache
keeps_all objects cache = record { lsns_kept = λ x. refl; others = λ x other. refl; dirty = λ x. refl; rooms = λ y room. room }

module _ {old now new : Contents} {front : List ℕ} {o : ℕ} {bytes : List ℕ} (before : KeepsOthers front old now) (swapped : IsSwapped now new o bytes) where
  -- the value of another object is changed too
  pub keeps_more : (objects : List ℕ) → ((x : ℕ) → is_among x objects ≡ false → (is_among x front ≡ false) × ((x == o) ≡ false)) → KeepsRooms now new → KeepsOthers objects old new
  keeps_more objects apart rooms = record {
    lsns_kept = λ x. elim (eqb_tells o x) [
      | inl same ↦ subst (λ (y : ℕ). id_of (held new y) ≡ id_of (held old y)) same.1 (ap id_of swapped.entry ∙ id_kept bytes (held now o) ∙ before.lsns_kept o)
      | inr other ↦ ap id_of (swapped.others x other.0) ∙ before.lsns_kept x
    ];
    others = λ x out. let both = apart x out in swapped.others x (nat_eq_equiv.symm o x ∙ both.1) ∙ before.others x both.0;
    dirty = λ x. swapped.dirty x ∙ before.dirty x;
    rooms = λ y room. rooms y (before.rooms y room);
  }

  -- values that come back from the back stand in their places, and so does one more
  pub back_more : (rest : List (List ℕ)) → ((x : ℕ) → is_among x front ≡ true → IsSome (held old x) → cached_values now x ≡ value_for x front rest)
      → (x : ℕ) → is_among x (o ∷ front) ≡ true → IsSome (held old x) → cached_values new x ≡ value_for x (o ∷ front) (bytes ∷ rest)
  back_more rest back x there some = elim (eqb_tells x o) [
    | inl same ↦
        let here : IsSome (held now o) = some_same (held now o) (held old o) (before.lsns_kept o) (subst (λ (y : ℕ). IsSome (held old y)) same.1 some) in
        subst (λ (y : ℕ). cached_values new y ≡ bytes) (sym same.1) (ap (λ (h : Option Entry). bytes_or h []) swapped.entry ∙ bytes_set bytes (held now o) here)
        ∙ sym (ap (λ (b : Bool). if b then bytes else value_for x front rest) same.0)
    | inr other ↦
        ap (λ (h : Option Entry). bytes_or h []) (swapped.others x (ne_eqb o x (λ is. other.1 (sym is))))
        ∙ back x (sym (ap (λ (b : Bool). b || is_among x front) other.0) ∙ there) some
        ∙ sym (ap (λ (b : Bool). if b then bytes else value_for x front rest) other.0)
  ]

-- the value of one object more is lent
pub lent_more : (f : State) (objects : List ℕ) (values : List (List ℕ)) (v : List ℕ) (i : ℕ) → i < length objects → values ≡ map f (take i objects) → v ≡ f (slice_index objects i) → values ++ v ∷ [] ≡ map f (take (i + 1) objects)
lent_more f objects values v i within so_far is =
    (λ j. so_far j ++ is j ∷ []) ∙ sym (map-append f (take i objects) (slice_index objects i ∷ [])) ∙ ap (map f) (sym (take_more objects i 0 within))

-- beside an object stands its value
pub beside : (f : State) (objects : List ℕ) (x : ℕ) → is_among x objects ≡ true → value_for x objects (map f objects) ≡ f x
beside f [] x there = cc
beside f (o ∷ objects) x there = elim (eqb_tells x o) [
  | inl same ↦ ap (λ (b : Bool). if b then f o else value_for x objects (map f objects)) same.0 ∙ ap f (sym same.1)
  | inr other ↦ ap (λ (b : Bool). if b then f o else value_for x objects (map f objects)) other.0 ∙ beside f objects x (sym (ap (λ (b : Bool). b || is_among x objects) other.0) ∙ there)
]

-- the value of an object that is not written
pub unwritten : (reads writes : List ℕ) (old new : List (List ℕ)) (x : ℕ) → KeepsUnwritten reads writes old new → length old ≡ length reads → is_among x writes ≡ false → is_among x reads ≡ true
    → value_for x reads new ≡ value_for x reads old
unwritten [] writes old new x keeps count out there = cc
unwritten (r ∷ reads) writes [] new x keeps count out there = absurd (omega (arith, count))
unwritten (r ∷ reads) writes (a ∷ old) [] x keeps count out there = absurd (omega (arith, keeps.count))
unwritten (r ∷ reads) writes (a ∷ old) (b ∷ new) x keeps count out there = elim (eqb_tells x r) [
  | inl same ↦
      ap (λ (t : Bool). if t then b else value_for x reads new) same.0
      ∙ keeps.same 0 (omega arith) (subst (λ (y : ℕ). is_among y writes ≡ false) same.1 out)
      ∙ sym (ap (λ (t : Bool). if t then a else value_for x reads old) same.0)
  | inr other ↦
      ap (λ (t : Bool). if t then b else value_for x reads new) other.0
      ∙ unwritten reads writes old new x (record { count = omega (arith, keeps.count); same = λ k below. keeps.same (suc k) (omega (arith, below)) }) (omega (arith, count)) out (sym (ap (λ (t : Bool). t || is_among x reads) other.0) ∙ there)
      ∙ sym (ap (λ (t : Bool). if t then a else value_for x reads old) other.0)
]

-- values were lent, and those of objects that are not written come back
pub lent_back : (reads written : List ℕ) (values : List (List ℕ)) (old lent new : Contents) → KeepsOthers reads old lent → KeepsOthers reads lent new
    → ((x : ℕ) → is_among x reads ≡ true → IsSome (held lent x) → cached_values new x ≡ value_for x reads values)
    → ((x : ℕ) → is_among x written ≡ false → is_among x reads ≡ true → value_for x reads values ≡ cached_values old x) → KeepsOthers written old new
lent_back reads written values old lent new there again back same = record {
  lsns_kept = λ x. again.lsns_kept x ∙ there.lsns_kept x;
  others = λ x out. elim (cases_Bool (is_among x reads)) [
    | inl among ↦ entry_same (held new x) (held old x) (again.lsns_kept x ∙ there.lsns_kept x) (λ some. back x among (some_same (held lent x) (held old x) (there.lsns_kept x) some) ∙ same x out among)
    | inr other ↦ again.others x other ∙ there.others x other
  ];
  dirty = λ x. again.dirty x ∙ there.dirty x;
  rooms = λ y room. again.rooms y (there.rooms y room);
}

-- objects that keep their pairs keep their values
pub values_kept : (file : List ℕ) (old new : Laid) (objects : List ℕ) → All (λ x. x < old.slots.params.objects) objects → KeepsCells file old new → map (values_in new file) objects ≡ map (values_in old file) objects
values_kept file old new [] below keeps = refl
values_kept file old new (x ∷ xs) below keeps =
    let first : values_in new file x ≡ values_in old file x = ap (λ (c : Cell). c.value) (keeps x (All-head (λ y. y < old.slots.params.objects) x xs below)) in
    let rest = values_kept file old new xs (All-tail (λ y. y < old.slots.params.objects) x xs below) keeps in
    λ i. first i ∷ rest i

-- the values of objects that are cached are cached
pub values_cached : (file : List ℕ) (laid : Laid) (objects : List ℕ) → All (λ x. IsSome (held laid.cache x)) objects → map (cached_values laid.cache) objects ≡ map (values_in laid file) objects
values_cached file laid [] some = refl
values_cached file laid (x ∷ xs) some =
    let first : cached_values laid.cache x ≡ values_in laid file x = by_entry (held laid.cache x) (All-head (λ y. IsSome (held laid.cache y)) x xs some) in
    let rest = values_cached file laid xs (All-tail (λ y. IsSome (held laid.cache y)) x xs some) in
    λ i. first i ∷ rest i
  where
    by_entry : (h : Option Entry) → IsSome h → bytes_or h [] ≡ (cell_or h (cell_of x file)).value
    by_entry None some = cc
    by_entry (Some e) some = refl

-- what a command reads is the same where the same is cached
pub inputs_same : (old new : Contents) → ((x : ℕ) → held new x ≡ held old x) → (objects : List ℕ) (copies : Option (List (List ℕ))) → inputs_in new objects copies ≡ inputs_in old objects copies
inputs_same old new same objects None = ap (λ (f : State). map f objects) (λ i x. bytes_or (same x i) [])
inputs_same old new same objects (Some copies) = refl

-- values that are short are short in their list
pub cached_short : (cap : ℕ) (cache : Contents) (objects : List ℕ) → ((x : ℕ) → length (cached_values cache x) ≤ cap) → All (λ v. length v ≤ cap) (map (cached_values cache) objects)
cached_short cap cache objects short = All-map (λ v. length v ≤ cap) (cached_values cache) objects (λ k d below. short (get_or objects k d))

-- what follows from both answers
pub either_way : {T E P Q R : Type 0} (r : Result T E) → OnOk r P → OnErr r Q → (P → R) → (Q → R) → R
either_way (Ok v) p q f g = f p
either_way (Err e) p q f g = g q

-- what holds anyway
pub on_err : {T E P : Type 0} (r : Result T E) → P → OnErr r P
on_err (Ok v) p = tt
on_err (Err e) p = p
