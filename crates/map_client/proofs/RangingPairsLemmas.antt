-- Pairs that are read cell by cell, and what a leaf says of a range from a key on, and of one back from an end.
use Rattle.std.proofs.Common.{◌≡◌, inl, inr, ◌<◌, refl, sym, ap, ◌∙◌, subst, ℕ, zero, suc, ◌+◌, ◌-◌, arith, append_assoc, Bool, true, false, if◌then◌else◌, Option, None, Some, Result, Ok, Err, List, [], ◌∷◌, ◌++◌, reverse, option_and_then, option_map}
use Rattle.std.specs.Prelude.{◌&&◌, IfErr, nat_lt}
use Rattle.std.proofs.lemmas.Bool.{cond-false, cond-true}
use Rattle.std.proofs.lemmas.List.{append-nil, reverse-append}
use Rattle.disk_model.specs.Disk.{Disk}
use Rattle.oper_core.specs.State.{State}
use Rattle.key_entries.specs.EntryLaws.{same_some}
use Rattle.page_ops.specs.Page.{Cell}
use Rattle.page_ops.specs.Reading.{beside_of, has_cell, key_of}
use Rattle.page_map.specs.Map.{Span, bytes_at, is_below}
use Rattle.page_map.specs.Ranges.{Stop, and_then, back_at, back_from, back_on, falling, from_end, range_at, range_from, range_on, stop, under_key}
use Rattle.page_map.specs.Ranges as ranges
use Rattle.page_map.specs.Steps.{Places, cells_at, cells_from, first_places, last_below, last_places, places_in}
use Rattle.page_map.specs.Walk.{is_on}
use Rattle.range_calls.specs.JoinLaws.{memory_is_short}
use Rattle.range_calls.specs.Joining.{ReadsShort}
use Rattle.range_calls.specs.Store.{Command}
use Rattle.store_calls.specs.Making.{Reads}
use Rattle.store_calls.specs.View.{View}
use Rattle.running_store.specs.Taking.Ending.{Done}
use Rattle.store_engine.specs.Lists.{ending_of}
use Rattle.map_client.specs.Answers.{MapErr, bad_map, cause_in, cause_of, told}
use Rattle.map_client.specs.Ranging.{Fails, behind, cells_behind, pairs_on, with_left}
use Rattle.map_client.specs.RangingWay.{BackGoesOn, BackIsBad, IsOnWay, RangeGoesOn, RangeIsBad}
use Rattle.map_client.specs.declared.order.Order.TheVariants.{Rising, Falling}

-- ---- why pairs are not read

pub fails_so : {Bad Other : Type 0} (object : ℕ) (e : MapErr) → (Bad → Other) → Fails object Bad e → Fails object Other e
fails_so object e so (inl memory) = inl memory
fails_so object e so (inr bad) = inr (so bad.0, bad.1)

-- memory that ran out is no refusal, so the object is bad
pub is_bad : {Bad : Type 0} (object : ℕ) (e : MapErr) → Fails object Bad e → ending_of (cause_of e) ≡ Done → Bad × (e ≡ bad_map object)
is_bad object e (inl memory) done = absurd (memory_is_short e memory done)
is_bad object e (inr bad) done = bad

-- what lacks something lacks what is the same
pub fails_same : {U T : Type 0} (object : ℕ) (r : Result U MapErr) (one two : Option T) → one ≡ two → IfErr r (λ e. Fails object (one ≡ None) e) → IfErr r (λ e. Fails object (two ≡ None) e)
fails_same object (Ok value) one two same fails = tt
fails_same object (Err e) one two same fails = fails_so object e (λ none. sym same ∙ none) fails

pub lacks_same : {U T : Type 0} (object : ℕ) (r : Result U MapErr) (one two : Option T) → one ≡ two → IfErr r (λ e. Fails object (one ≡ None) e)
    → IfErr r (λ e. ending_of (cause_of e) ≡ Done → (two ≡ None) × (e ≡ bad_map object))
lacks_same object (Ok value) one two same fails = tt
lacks_same object (Err e) one two same fails = is_bad object e (fails_so object e (λ none. sym same ∙ none) fails)

-- calls that only read, and then read an object to its end or not
pub reads_or_fails : {S T U : Type 0} (view : View Command S) (Bad : Type 0) (disk : T → Disk) → ReadsShort view disk → (old now : T) (first last : S) (object : ℕ) (r : Result U MapErr)
    → Reads view (disk old) (disk now) first last None → IfErr r (λ e. Fails object Bad e) → Reads view (disk old) (disk now) first last (cause_in r)
reads_or_fails view Bad disk short old now first last object (Ok value) reads fails = reads
reads_or_fails view Bad disk short old now first last object (Err e) reads (inl memory) =
    subst (λ (x : MapErr). Reads view (disk old) (disk now) first last (cause_of x)) (sym memory) (short old now first last reads)
reads_or_fails view Bad disk short old now first last object (Err e) reads (inr bad) = subst (λ (x : MapErr). Reads view (disk old) (disk now) first last (cause_of x)) (sym bad.1) reads

-- ---- cell by cell

same_front : (old new read : List Cell) (cell : Cell) → new ≡ old ++ cell ∷ [] → Some (old ++ cell ∷ read) ≡ Some (new ++ read)
same_front old new read cell is = ap (λ (l : List Cell). (let o : Option (List Cell) = Some l in o)) (sym (append_assoc old (cell ∷ []) read) ∙ ap (λ (l : List Cell). l ++ read) (sym is))

none_read : (others : List Cell) (o : Option (List Cell)) → behind others o ≡ None → o ≡ None
none_read others None is = refl
none_read others (Some read) is = cc is

none_back : (o : Option (List Cell)) → option_map reverse o ≡ None → o ≡ None
none_back None is = refl
none_back (Some read) is = cc is

module _ (bytes : List ℕ) where
  abbrev cell : ℕ → Cell
  cell i = (key_of bytes i, beside_of bytes i)

  abbrev on_front : ℕ → Option (List Cell) → Option (List Cell)
  on_front i o = option_map (λ cells. cell i ∷ cells) o

  abbrev on_back : ℕ → Option (List Cell) → Option (List Cell)
  on_back i o = option_map (λ cells. cells ++ cell i ∷ []) o

  -- the first of some cells
  first_taken : (i n : ℕ) (old new : List Cell) → has_cell bytes i ≡ true → new ≡ old ++ cell i ∷ [] → behind old (cells_from bytes i (suc n)) ≡ behind new (cells_from bytes (suc i) n)
  first_taken i n old new there is =
      ap (behind old) (cond-true (has_cell bytes i) (on_front i (cells_from bytes (suc i) n)) None there) ∙ by_rest (cells_from bytes (suc i) n)
    where
      by_rest : (o : Option (List Cell)) → behind old (on_front i o) ≡ behind new o
      by_rest None = refl
      by_rest (Some cells) = same_front old new cells (cell i) is

  -- the last of some cells
  last_read : (i n j : ℕ) → j ≡ i + n → cells_from bytes i (suc n) ≡ (if has_cell bytes j then on_back j (cells_from bytes i n) else None)
  last_read i zero j is =
      let same : i ≡ j = omega (arith, is) in
      (λ k. if has_cell bytes (same k) then on_front (same k) (Some []) else None) ∙ one (has_cell bytes j)
    where
      one : (t : Bool) → (if t then on_front j (Some []) else None) ≡ (if t then on_back j (Some []) else None)
      one true = refl
      one false = refl
  last_read i (suc n) j is =
      let next : j ≡ suc i + n = omega (arith, is) in
      ap (λ (o : Option (List Cell)). if has_cell bytes i then on_front i o else None) (last_read (suc i) n j next) ∙ both (has_cell bytes i) (has_cell bytes j) (cells_from bytes (suc i) n)
    where
      both : (t u : Bool) (o : Option (List Cell)) → (if t then on_front i (if u then on_back j o else None) else None) ≡ (if u then on_back j (if t then on_front i o else None) else None)
      both true true None = refl
      both true true (Some cells) = refl
      both true false o = refl
      both false true o = refl
      both false false o = refl

  last_taken : (i n : ℕ) (old new : List Cell) → has_cell bytes (i + n) ≡ true → new ≡ old ++ cell (i + n) ∷ []
      → behind old (option_map reverse (cells_from bytes i (suc n))) ≡ behind new (option_map reverse (cells_from bytes i n))
  last_taken i n old new there is =
      ap (λ (o : Option (List Cell)). behind old (option_map reverse o)) (last_read i n (i + n) refl ∙ cond-true (has_cell bytes (i + n)) (on_back (i + n) (cells_from bytes i n)) None there)
      ∙ by_rest (cells_from bytes i n)
    where
      by_rest : (o : Option (List Cell)) → behind old (option_map reverse (on_back (i + n) o)) ≡ behind new (option_map reverse o)
      by_rest None = refl
      by_rest (Some cells) =
          ap (λ (l : List Cell). (let o : Option (List Cell) = Some (old ++ l) in o)) (reverse-append cells (cell (i + n) ∷ [])) ∙ same_front old new (reverse cells) (cell (i + n)) is

  -- so far, from the first on
  module _ (first count i : ℕ) (start old : List Cell) (so_far : behind start (cells_from bytes first count) ≡ behind old (cells_from bytes (first + i) (count - i))) where
    one_more : i < count → behind start (cells_from bytes first count) ≡ behind old (cells_from bytes (first + i) (suc (count - (i + 1))))
    one_more some = let same : count - i ≡ suc (count - (i + 1)) = omega (arith, some) in so_far ∙ ap (λ (n : ℕ). behind old (cells_from bytes (first + i) n)) same

    pub rising_taken : (new : List Cell) → i < count → has_cell bytes (first + i) ≡ true → new ≡ old ++ cell (first + i) ∷ []
        → behind start (cells_from bytes first count) ≡ behind new (cells_from bytes (first + (i + 1)) (count - (i + 1)))
    rising_taken new some there is =
        let next : suc (first + i) ≡ first + (i + 1) = omega arith in
        one_more some ∙ first_taken (first + i) (count - (i + 1)) old new there is ∙ ap (λ (j : ℕ). behind new (cells_from bytes j (count - (i + 1)))) next

    pub rising_missing : i < count → has_cell bytes (first + i) ≡ false → cells_from bytes first count ≡ None
    rising_missing some lacks =
        none_read start (cells_from bytes first count)
        (one_more some ∙ ap (behind old) (cond-false (has_cell bytes (first + i)) (on_front (first + i) (cells_from bytes (suc (first + i)) (count - (i + 1)))) None lacks))

    pub rising_done : count - i ≡ 0 → behind start (cells_from bytes first count) ≡ Some old
    rising_done none = so_far ∙ ap (λ (n : ℕ). behind old (cells_from bytes (first + i) n)) none ∙ ap (λ (l : List Cell). (let o : Option (List Cell) = Some l in o)) (append-nil old)

  -- so far, from the last on
  module _ (first count left : ℕ) (start old : List Cell) (so_far : behind start (option_map reverse (cells_from bytes first count)) ≡ behind old (option_map reverse (cells_from bytes first left))) where
    one_less : 0 < left → behind start (option_map reverse (cells_from bytes first count)) ≡ behind old (option_map reverse (cells_from bytes first (suc (left - 1))))
    one_less some = let same : left ≡ suc (left - 1) = omega (arith, some) in so_far ∙ ap (λ (n : ℕ). behind old (option_map reverse (cells_from bytes first n))) same

    pub falling_taken : (new : List Cell) → 0 < left → has_cell bytes (first + (left - 1)) ≡ true → new ≡ old ++ cell (first + (left - 1)) ∷ []
        → behind start (option_map reverse (cells_from bytes first count)) ≡ behind new (option_map reverse (cells_from bytes first (left - 1)))
    falling_taken new some there is = one_less some ∙ last_taken first (left - 1) old new there is

    pub falling_missing : 0 < left → has_cell bytes (first + (left - 1)) ≡ false → option_map reverse (cells_from bytes first count) ≡ None
    falling_missing some lacks =
        none_read start (option_map reverse (cells_from bytes first count))
        (one_less some ∙ ap (λ (o : Option (List Cell)). behind old (option_map reverse o))
        (last_read first (left - 1) (first + (left - 1)) refl ∙ cond-false (has_cell bytes (first + (left - 1))) (on_back (first + (left - 1)) (cells_from bytes first (left - 1))) None lacks))

    pub falling_done : left ≡ 0 → behind start (option_map reverse (cells_from bytes first count)) ≡ Some old
    falling_done none = so_far ∙ ap (λ (n : ℕ). behind old (option_map reverse (cells_from bytes first n))) none ∙ ap (λ (l : List Cell). (let o : Option (List Cell) = Some l in o)) (append-nil old)

-- with how many more may follow
pub none_left : (others : List Cell) (left : ℕ) (o : Option (List Cell)) → o ≡ None → option_map (with_left others left) o ≡ None
none_left others left o none = ap (option_map (with_left others left)) none

-- ---- a leaf

and_assoc : (one two : List Cell) (r : Result (List Cell) ℕ) → and_then (Ok one) (and_then (Ok two) r) ≡ and_then (Ok (one ++ two)) r
and_assoc one two (Err bad) = refl
and_assoc one two (Ok others) = ap (λ (l : List Cell). (let r : Result (List Cell) ℕ = Ok l in r)) (sym (append_assoc one two others))

-- its cells, and then the rest
cells_go_on : (so_far pairs : List Cell) (most left x : ℕ) (rest : ℕ → Result (List Cell) ℕ) (o : Option (List Cell)) → option_map (with_left so_far most) o ≡ Some (pairs, left)
    → and_then (Ok so_far) (and_then (ranges.or_bad x o) (rest most)) ≡ and_then (Ok pairs) (rest left)
cells_go_on so_far pairs most left x rest None is = cc is
cells_go_on so_far pairs most left x rest (Some cells) is =
    let parts : (so_far ++ cells, most) ≡ (pairs, left) = same_some (so_far ++ cells, most) (pairs, left) is in
    and_assoc so_far cells (rest most) ∙ (λ k. and_then (Ok (parts k).0) (rest (parts k).1))

cells_are_bad : (so_far : List Cell) (most x : ℕ) (rest : Result (List Cell) ℕ) (o : Option (List Cell)) → option_map (with_left so_far most) o ≡ None → told (and_then (ranges.or_bad x o) rest) ≡ Err (bad_map x)
cells_are_bad so_far most x rest None is = refl
cells_are_bad so_far most x rest (Some cells) is = cc is

falling_same : (x : ℕ) (o : Option (List Cell)) → falling (ranges.or_bad x o) ≡ ranges.or_bad x (option_map reverse o)
falling_same x None = refl
falling_same x (Some cells) = refl

module _ (lo hi : ℕ) (s : State) (span : Span) (most : ℕ) where
  abbrev at : ℕ → List ℕ
  at x = bytes_at lo s x

  abbrev is_asked : Bool
  is_asked = nat_lt 0 most && is_below span.from span.to

  -- ---- a range

  module _ (n : ℕ) where
    abbrev on : ℕ → Span → Result (List Cell) ℕ
    on = range_from lo hi s n

    abbrev from_leaf : Result Stop ℕ → Result (List Cell) ℕ
    from_leaf r = range_at lo hi s on most span r

    range_next : is_asked ≡ true → range_from lo hi s (suc n) most span ≡ from_leaf (stop lo hi s (under_key span.from))
    range_next asked = cond-true is_asked (from_leaf (stop lo hi s (under_key span.from))) (Ok []) asked

    range_stop_bad : (r : Result Stop ℕ) (e : MapErr) → told r ≡ Err e → told (from_leaf r) ≡ Err e
    range_stop_bad (Ok leaf) e is = cc is
    range_stop_bad (Err bad) e is = cc is

    module _ (x : ℕ) (own : Span) where
      abbrev leaf : Stop
      leaf = record { object = x; span = own }

      abbrev rest : ℕ → Result (List Cell) ℕ
      rest left = from_end [] (on left) span own.to

      module _ (so_far : List Cell) where
        abbrev taken : Option Places → Option (List Cell × ℕ)
        taken o = option_and_then (cells_behind Rising (at x) so_far most) o

        range_read : (pairs : List Cell) (left : ℕ) (t : Bool) → taken (if t then places_in (at x) span own.to else None) ≡ Some (pairs, left)
            → and_then (Ok so_far) (from_leaf (if t then Ok leaf else Err x)) ≡ and_then (Ok pairs) (rest left)
        range_read pairs left false is = cc is
        range_read pairs left true is = by_places (places_in (at x) span own.to) is
          where
            by_places : (o : Option Places) → taken o ≡ Some (pairs, left) → and_then (Ok so_far) (range_on lo hi s on most span leaf (ranges.or_bad x o)) ≡ and_then (Ok pairs) (rest left)
            by_places None same = cc same
            by_places (Some places) same = cells_go_on so_far pairs (most - places.count) left x rest (cells_at (at x) (first_places most places)) same

        range_read_bad : (t : Bool) → taken (if t then places_in (at x) span own.to else None) ≡ None → told (from_leaf (if t then Ok leaf else Err x)) ≡ Err (bad_map x)
        range_read_bad false is = refl
        range_read_bad true is = by_places (places_in (at x) span own.to) is
          where
            by_places : (o : Option Places) → taken o ≡ None → told (range_on lo hi s on most span leaf (ranges.or_bad x o)) ≡ Err (bad_map x)
            by_places None same = refl
            by_places (Some places) same = cells_are_bad so_far (most - places.count) x (rest (most - places.count)) (cells_at (at x) (first_places most places)) same

  pub range_ends : is_asked ≡ false → (so_far : List Cell) → RangeGoesOn lo hi s span so_far most so_far most None
  range_ends none so_far n = ap (and_then (Ok so_far)) (cond-false is_asked (from_leaf n (stop lo hi s (under_key span.from))) (Ok []) none)

  pub range_way_bad : is_asked ≡ true → (e : MapErr) → told (stop lo hi s (under_key span.from)) ≡ Err e → RangeIsBad lo hi s span most e
  range_way_bad asked e is n = ap told (range_next n asked) ∙ range_stop_bad n (stop lo hi s (under_key span.from)) e is

  module _ (x : ℕ) (own : Span) (way : IsOnWay lo hi s (under_key span.from) 0 x own) (asked : is_asked ≡ true) (so_far : List Cell) where
    to_leaf : (n : ℕ) → range_from lo hi s (suc n) most span ≡ from_leaf n (if is_on 0 (at x) then Ok (leaf n x own) else Err x)
    to_leaf n = range_next n asked ∙ ap (from_leaf n) way.goes_on

    pub range_gathered : (pairs : List Cell) (left : ℕ) → pairs_on Rising (at x) span own.to so_far most ≡ Some (pairs, left) → RangeGoesOn lo hi s span so_far most pairs left own.to
    range_gathered pairs left is n = ap (and_then (Ok so_far)) (to_leaf n) ∙ range_read n x own so_far pairs left (is_on 0 (at x)) is

    pub range_leaf_bad : (e : MapErr) → (pairs_on Rising (at x) span own.to so_far most ≡ None) × (e ≡ bad_map x) → RangeIsBad lo hi s span most e
    range_leaf_bad e bad n = ap told (to_leaf n) ∙ range_read_bad n x own so_far (is_on 0 (at x)) bad.0 ∙ ap (λ (o : MapErr). Err o) (sym bad.1)

  -- ---- and one back

  module _ (n : ℕ) where
    abbrev reads_back : ℕ → Span → Result (List Cell) ℕ
    reads_back = back_from lo hi s n

    abbrev back_leaf : Result Stop ℕ → Result (List Cell) ℕ
    back_leaf r = back_at lo hi s reads_back most span r

    back_next : is_asked ≡ true → back_from lo hi s (suc n) most span ≡ back_leaf (stop lo hi s (last_below span.to))
    back_next asked = cond-true is_asked (back_leaf (stop lo hi s (last_below span.to))) (Ok []) asked

    back_stop_bad : (r : Result Stop ℕ) (e : MapErr) → told r ≡ Err e → told (back_leaf r) ≡ Err e
    back_stop_bad (Ok leaf) e is = cc is
    back_stop_bad (Err bad) e is = cc is

    module _ (x : ℕ) (own : Span) where
      abbrev last_leaf : Stop
      last_leaf = record { object = x; span = own }

      abbrev rest_back : ℕ → Result (List Cell) ℕ
      rest_back left = reads_back left (record { from = span.from; to = Some own.from })

      module _ (so_far : List Cell) where
        abbrev taken_back : Option Places → Option (List Cell × ℕ)
        taken_back o = option_and_then (cells_behind Falling (at x) so_far most) o

        back_read : (pairs : List Cell) (left : ℕ) (t : Bool) → taken_back (if t then places_in (at x) span own.to else None) ≡ Some (pairs, left)
            → and_then (Ok so_far) (back_leaf (if t then Ok last_leaf else Err x)) ≡ and_then (Ok pairs) (rest_back left)
        back_read pairs left false is = cc is
        back_read pairs left true is = by_places (places_in (at x) span own.to) is
          where
            by_places : (o : Option Places) → taken_back o ≡ Some (pairs, left) → and_then (Ok so_far) (back_on lo hi s reads_back most span last_leaf (ranges.or_bad x o)) ≡ and_then (Ok pairs) (rest_back left)
            by_places None same = cc same
            by_places (Some places) same =
                ap (λ (r : Result (List Cell) ℕ). and_then (Ok so_far) (and_then r (rest_back (most - places.count)))) (falling_same x (cells_at (at x) (last_places most places)))
                ∙ cells_go_on so_far pairs (most - places.count) left x rest_back (option_map reverse (cells_at (at x) (last_places most places))) same

        back_read_bad : (t : Bool) → taken_back (if t then places_in (at x) span own.to else None) ≡ None → told (back_leaf (if t then Ok last_leaf else Err x)) ≡ Err (bad_map x)
        back_read_bad false is = refl
        back_read_bad true is = by_places (places_in (at x) span own.to) is
          where
            by_places : (o : Option Places) → taken_back o ≡ None → told (back_on lo hi s reads_back most span last_leaf (ranges.or_bad x o)) ≡ Err (bad_map x)
            by_places None same = refl
            by_places (Some places) same =
                ap (λ (r : Result (List Cell) ℕ). told (and_then r (rest_back (most - places.count)))) (falling_same x (cells_at (at x) (last_places most places)))
                ∙ cells_are_bad so_far (most - places.count) x (rest_back (most - places.count)) (option_map reverse (cells_at (at x) (last_places most places))) same

  pub back_ends : is_asked ≡ false → (so_far : List Cell) → BackGoesOn lo hi s span so_far most so_far most None
  back_ends none so_far n = ap (and_then (Ok so_far)) (cond-false is_asked (back_leaf n (stop lo hi s (last_below span.to))) (Ok []) none)

  pub back_way_bad : is_asked ≡ true → (e : MapErr) → told (stop lo hi s (last_below span.to)) ≡ Err e → BackIsBad lo hi s span most e
  back_way_bad asked e is n = ap told (back_next n asked) ∙ back_stop_bad n (stop lo hi s (last_below span.to)) e is

  module _ (x : ℕ) (own : Span) (way : IsOnWay lo hi s (last_below span.to) 0 x own) (asked : is_asked ≡ true) (so_far : List Cell) where
    to_last_leaf : (n : ℕ) → back_from lo hi s (suc n) most span ≡ back_leaf n (if is_on 0 (at x) then Ok (last_leaf n x own) else Err x)
    to_last_leaf n = back_next n asked ∙ ap (back_leaf n) way.goes_on

    pub back_gathered : (pairs : List Cell) (left : ℕ) → pairs_on Falling (at x) span own.to so_far most ≡ Some (pairs, left) → BackGoesOn lo hi s span so_far most pairs left (Some own.from)
    back_gathered pairs left is n = ap (and_then (Ok so_far)) (to_last_leaf n) ∙ back_read n x own so_far pairs left (is_on 0 (at x)) is

    pub back_leaf_bad : (e : MapErr) → (pairs_on Falling (at x) span own.to so_far most ≡ None) × (e ≡ bad_map x) → BackIsBad lo hi s span most e
    back_leaf_bad e bad n = ap told (to_last_leaf n) ∙ back_read_bad n x own so_far (is_on 0 (at x)) bad.0 ∙ ap (λ (o : MapErr). Err o) (sym bad.1)
