-- The names that are read from a directory are those that there are.
use Rattle.std.proofs.Common.{◌≡◌, ◌<◌, ◌^◌, inl, inr, refl, sym, ap, ◌∙◌, subst, true≢false, ℕ, Bool, true, false, cond, ◌&&◌, ◌||◌, T, Option, None, Some, is_some, List, [], ◌∷◌, map, option_map}
use Rattle.std.specs.Prelude.{nat_le}
use Rattle.std.specs.Cmp.Lexicographic.{nat_list_cmp_total}
use Rattle.std.specs.FinMap.{FinMap, contains_key-keys, entries, entries-from_sorted, entries_sorted, from_entries, from_sorted, get, get-entries, get-from_entries, keys, nat_cmp-IsAntisymmetric, same_map, slice_cmp-IsAntisymmetric}
use Rattle.std.specs.FinMap.Entries.{below_all, find, find-where_key, is_sorted, is_sorted-where_key}
use Rattle.std.specs.List.{AllByRecursion, filter, list_any}
use Rattle.std.specs.Ordering.{eq_by_cmp, is_lt}
use Rattle.std.specs.declared.cmp.Ordering.TheVariants.{Equal}
use Rattle.key_entries.specs.Entries.{byte_order}
use Rattle.oper_core.specs.State.{State}
use Rattle.oper_core.specs.declared.bounds.Bounds.{Bounds}
use Rattle.page_ops.specs.Page.{Cell}
use Rattle.page_map.specs.Map.{is_within}
use Rattle.page_map.specs.Reads.{pairs_of}
use Rattle.named_words.specs.Effects.{Names, names_from, place_of}
use Rattle.name_ranges.specs.Directory.{Directory, IsDirectory, from_place, key_of, name_in, number_in}
use Rattle.name_ranges.specs.Listing.{in_order, names_read}
use Rattle.name_ranges.specs.Named.{IsNamed, directory_of}
use Rattle.name_ranges.proofs.Directories.{one_key, tells, tied, untied}
use Rattle.name_ranges.proofs.Places.{keys_in_order}

-- ---- the keys of a map do not depend on its values

module _ {X : Type 0} where
  abbrev alone : List (List ℕ × X) → List (List ℕ × Bool)
  alone [] = []
  alone (e ∷ es) = (e.0, true) ∷ alone es

  alone_below : (k : List ℕ) (es : List (List ℕ × X)) → below_all byte_order k (alone es) ≡ below_all byte_order k es
  alone_below k [] = refl
  alone_below k (e ∷ es) = ap (λ t. is_lt (byte_order k e.0) && t) (alone_below k es)

  alone_sorted : (es : List (List ℕ × X)) → is_sorted byte_order (alone es) ≡ is_sorted byte_order es
  alone_sorted [] = refl
  alone_sorted (e ∷ es) = λ i. alone_below e.0 es i && alone_sorted es i

  alone_keys : (es : List (List ℕ × X)) → map (λ (e : List ℕ × Bool). e.0) (alone es) ≡ map (λ (e : List ℕ × X). e.0) es
  alone_keys [] = refl
  alone_keys (e ∷ es) = ap (λ (l : List (List ℕ)). e.0 ∷ l) (alone_keys es)

  abbrev there : Option X → Option Bool
  there None = None
  there (Some x) = Some true

  alone_found : (q : List ℕ) (es : List (List ℕ × X)) → find byte_order q (alone es) ≡ there (find byte_order q es)
  alone_found q [] = refl
  alone_found q (e ∷ es) = elim (eq_by_cmp byte_order q e.0) as (λ t. cond t (Some true) (find byte_order q (alone es)) ≡ there (cond t (Some e.1) (find byte_order q es))) [ true ↦ refl | false ↦ alone_found q es ]

  -- a map of the same keys, all of which have true
  module _ (m : FinMap byte_order X) where
    marked : FinMap byte_order Bool
    marked = from_sorted (alone (entries m))

    sorted : T (is_sorted byte_order (alone (entries m)))
    sorted = subst T (sym (alone_sorted (entries m))) (entries_sorted m)

    entries_marked : entries marked ≡ alone (entries m)
    unfolding marked
    entries_marked = entries-from_sorted byte_order (alone (entries m)) sorted

    keys_marked : keys marked ≡ keys m
    keys_marked = ap (map (λ (e : List ℕ × Bool). e.0)) entries_marked ∙ alone_keys (entries m)

    get_marked : (q : List ℕ) → get marked q ≡ there (get m q)
    get_marked q = get-entries marked q ∙ ap (find byte_order q) entries_marked ∙ alone_found q (entries m) ∙ ap there (sym (get-entries m q))

same_there : {X Y : Type 0} (o : Option X) (r : Option Y) → is_some o ≡ is_some r → there o ≡ there r
same_there None None e = refl
same_there None (Some y) e = absurd (true≢false (sym e))
same_there (Some x) None e = absurd (true≢false e)
same_there (Some x) (Some y) e = refl

same_keys : {X Y : Type 0} (m : FinMap byte_order X) (n : FinMap byte_order Y) → ((q : List ℕ) → is_some (get m q) ≡ is_some (get n q)) → keys m ≡ keys n
same_keys m n same =
    sym (keys_marked m)
    ∙ ap keys (same_map nat_list_cmp_total (slice_cmp-IsAntisymmetric nat_cmp-IsAntisymmetric) (marked m) (marked n) (λ q. get_marked m q ∙ same_there (get m q) (get n q) (same q) ∙ sym (get_marked n q)))
    ∙ keys_marked n

-- ---- those of some names

filter_keys : (test : List ℕ → Bool) (es : List (List ℕ × List ℕ)) → map (λ (e : List ℕ × List ℕ). e.0) (filter (λ e. test e.0) es) ≡ filter test (map (λ (e : List ℕ × List ℕ). e.0) es)
filter_keys test [] = refl
filter_keys test (e ∷ es) =
    elim (test e.0) as (λ t. map (λ (e : List ℕ × List ℕ). e.0) (cond t (e ∷ filter (λ e. test e.0) es) (filter (λ e. test e.0) es)) ≡ cond t (e.0 ∷ filter test (map (λ (e : List ℕ × List ℕ). e.0) es)) (filter test (map (λ (e : List ℕ × List ℕ). e.0) es))) [
      | true ↦ ap (λ (l : List (List ℕ)). e.0 ∷ l) (filter_keys test es)
      | false ↦ filter_keys test es
    ]

module _ (names : Names) (test : List ℕ → Bool) where
  -- the names that pass a test, with their values
  kept : Names
  kept = from_sorted (filter (λ e. test e.0) (entries names))

  entries_kept : entries kept ≡ filter (λ e. test e.0) (entries names)
  unfolding kept
  entries_kept = entries-from_sorted byte_order (filter (λ e. test e.0) (entries names)) (is_sorted-where_key byte_order test (entries names) (entries_sorted names))

  kept_keys : keys kept ≡ filter test (keys names)
  kept_keys = ap (map (λ (e : List ℕ × List ℕ). e.0)) entries_kept ∙ filter_keys test (entries names)

  get_kept : (q : List ℕ) → get kept q ≡ cond (test q) (get names q) None
  get_kept q =
      get-entries kept q ∙ ap (find byte_order q) entries_kept
      ∙ find-where_key byte_order test q (λ x e. ap test (sym (slice_cmp-IsAntisymmetric nat_cmp-IsAntisymmetric q x e))) (entries names)
      ∙ ap (λ o. cond (test q) o None) (sym (get-entries names q))

or_later : (a b : Bool) → b ≡ true → (a || b) ≡ true
or_later true b e = refl
or_later false b e = e

-- each pair of a directory has the key of its name
whole_in : (d : Directory) (es : List Cell) → ((key : List ℕ) → list_any (eq_by_cmp byte_order key) (map (λ (e : Cell). e.0) es) ≡ true → key ≡ key_of (name_in key)) → AllByRecursion (λ (e : Cell). e.0 ≡ key_of (name_in e.0)) es
whole_in d [] each = tt
whole_in d (e ∷ es) each = (
  each e.0 (ap (λ t. t || list_any (eq_by_cmp byte_order e.0) (map (λ (f : Cell). f.0) es)) (tied e.0)),
  whole_in d es (λ key is. each key (or_later (eq_by_cmp byte_order key e.0) (list_any (eq_by_cmp byte_order key) (map (λ (f : Cell). f.0) es)) is)),
)

some_there : (o : Option (List ℕ)) → is_some o ≡ true → (v : List ℕ) × (o ≡ Some v)
some_there None e = absurd (true≢false (sym e))
some_there (Some v) e = (v, refl)

all_whole : (hi objects : ℕ) (d : Directory) → IsDirectory hi objects d → AllByRecursion (λ (e : Cell). e.0 ≡ key_of (name_in e.0)) (entries d)
all_whole hi objects d is = whole_in d (entries d) (λ key among. let found = some_there (get d key) (contains_key-keys d key ∙ among) in (is.whole key found.0 found.1).0)

-- a name ties with that of a key where the key of the name ties with it
tie : (q key : List ℕ) → key ≡ key_of (name_in key) → eq_by_cmp byte_order q (name_in key) ≡ eq_by_cmp byte_order (key_of q) key
tie q key whole = elim (tells q (name_in key)) [
  | inl same ↦ ap (λ n. eq_by_cmp byte_order n (name_in key)) same ∙ tied (name_in key) ∙ sym (ap (λ n. eq_by_cmp byte_order (key_of n) key) same ∙ ap (eq_by_cmp byte_order (key_of (name_in key))) whole ∙ tied (key_of (name_in key)))
  | inr apart ↦ untied q (name_in key) apart ∙ sym (untied (key_of q) key (λ same. apart (one_key q (name_in key) (same ∙ whole))))
]

-- a name is among those that are read where its key is
is_read : (test : List ℕ → Bool) (q : List ℕ) (es : List Cell) → AllByRecursion (λ (e : Cell). e.0 ≡ key_of (name_in e.0)) es
    → is_some (find byte_order q (map (λ (n : List ℕ). (n, true)) (names_read (filter (λ (e : Cell). test e.0) es)))) ≡ is_some (find byte_order (key_of q) (filter (λ (e : Cell). test e.0) es))
is_read test q [] whole = refl
is_read test q (e ∷ es) whole =
    let rest = is_read test q es whole.1 in
    elim (test e.0) as (λ t. is_some (find byte_order q (map (λ (n : List ℕ). (n, true)) (names_read (cond t (e ∷ filter (λ (e : Cell). test e.0) es) (filter (λ (e : Cell). test e.0) es))))) ≡ is_some (find byte_order (key_of q) (cond t (e ∷ filter (λ (e : Cell). test e.0) es) (filter (λ (e : Cell). test e.0) es)))) [
      | true ↦
          ap (λ t. is_some (cond t (Some true) (find byte_order q (map (λ (n : List ℕ). (n, true)) (names_read (filter (λ (e : Cell). test e.0) es)))))) (tie q e.0 whole.0)
          ∙ elim (eq_by_cmp byte_order (key_of q) e.0) as (λ u. is_some (cond u (Some true) (find byte_order q (map (λ (n : List ℕ). (n, true)) (names_read (filter (λ (e : Cell). test e.0) es))))) ≡ is_some (cond u (Some e.1) (find byte_order (key_of q) (filter (λ (e : Cell). test e.0) es)))) [ true ↦ refl | false ↦ rest ]
      | false ↦ rest
    ]

same_some_there : (s : State) (o : Option (List ℕ)) → is_some (option_map s (option_map number_in o)) ≡ is_some o
same_some_there s None = refl
same_some_there s (Some number) = refl

module _ (b : Bounds) (lo hi : ℕ) (s : State) (names : Names) (is : IsNamed b lo hi s names) (place : ℕ) (small : place < 2 ^ 64) where
  abbrev d : Directory
  d = directory_of is

  is_within_tied : (x y : List ℕ) → byte_order x y ≡ Equal → is_within (from_place place) y ≡ is_within (from_place place) x
  is_within_tied x y e = ap (is_within (from_place place)) (sym (slice_cmp-IsAntisymmetric nat_cmp-IsAntisymmetric x y e))

  there_read : (q : List ℕ) → is_some (get (from_entries {R = byte_order} (map (λ (n : List ℕ). (n, true)) (names_read (pairs_of d (from_place place))))) q) ≡ is_some (cond (nat_le place (place_of q)) (get d (key_of q)) None)
  there_read q =
      ap is_some (get-from_entries nat_list_cmp_total (map (λ (n : List ℕ). (n, true)) (names_read (pairs_of d (from_place place)))) q)
      ∙ is_read (is_within (from_place place)) q (entries d) (all_whole hi b.objects d is.directory)
      ∙ ap is_some (find-where_key byte_order (is_within (from_place place)) (key_of q) (λ x e. is_within_tied (key_of q) x e) (entries d))
      ∙ (λ i. is_some (cond (keys_in_order q place small i) (sym (get-entries d (key_of q)) i) None))

  there_named : (q : List ℕ) → is_some (get (kept names (λ name. nat_le place (place_of name))) q) ≡ is_some (cond (nat_le place (place_of q)) (get d (key_of q)) None)
  there_named q =
      ap is_some (get_kept names (λ name. nat_le place (place_of name)) q)
      ∙ elim (nat_le place (place_of q)) as (λ t. is_some (cond t (get names q) None) ≡ is_some (cond t (get d (key_of q)) None)) [
        | true ↦ ap is_some (is.value q) ∙ same_some_there s (get d (key_of q))
        | false ↦ refl
      ]

  pub names_are_read : names_from names place ≡ in_order (names_read (pairs_of d (from_place place)))
  names_are_read =
      sym (kept_keys names (λ name. nat_le place (place_of name)))
      ∙ same_keys (kept names (λ name. nat_le place (place_of name))) (from_entries {R = byte_order} (map (λ (n : List ℕ). (n, true)) (names_read (pairs_of d (from_place place))))) (λ q. there_named q ∙ sym (there_read q))
