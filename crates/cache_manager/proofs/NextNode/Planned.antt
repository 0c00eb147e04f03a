-- The object that a plan keeps is the longest of the work, and what it logs is the rest.
use Rattle.std.proofs.Common.{◌≡◌, ◌∙◌, sym, subst, ap, ℕ, zero, suc, ◌+◌, ◌<◌, ◌≤◌, Bool, false, List, [], ◌∷◌, length, map, refl, arith, inl, inr, true, Option, None, Some, ◌⊎◌}
use Rattle.std.specs.Prelude.{⊤, ◌==◌, ◌||◌, All, not, IfSome, IsNone, IsTrue, nat_lt, nat_le, slice_get, slice_index}
use Rattle.std.specs.List.{filter}
use Rattle.std.specs.List.Sorted.{IsStrictlyIncreasing}
use Rattle.std.proofs.lemmas.Bool.{cases_Bool, both_ways, false_from_ne_true, lt-ltb, or_cases, or_left, or_right, eq-eqb, eqb-true, ltb-true, ltb-false, leb-true, le-leb, cond-true, cond-false}
use Rattle.std.proofs.lemmas.List.Elements.{All-filter, All-head, All-tail}
use Rattle.disk_model.specs.Disk.{Disk}
use Rattle.disk_model.specs.declared.machine.FileNo.TheVariants.{Objects}
use Rattle.formats.specs.Objects.{cell_of}
use Rattle.formats.specs.declared.params.Params.{Params}
use Rattle.dirty_cache.specs.Contents.{is_dirty}
use Rattle.dirty_cache.specs.declared.entry.Entry.{Entry as Pair}
use Rattle.oper_core.specs.Cell.{Cell}
use Rattle.oper_core.specs.State.{is_among}
use Rattle.oper_core.specs.Meaning.{Meaning, IsLawful}
use Rattle.identity_writes.specs.Plan.{IsKeptBeside, but_kept}
use Rattle.explain_core.specs.Sound.{IsSound}
use Rattle.explain_core.specs.Turns.{has_work}
use Rattle.explain_core.specs.World.{World, work_of}
use Rattle.running_store.specs.Courses.{cached_length}
use Rattle.cache_manager.specs.InstallCourses.{counted, longest, longest_of, not_copied, but_longest, next_node, work, work_in}
use Rattle.running_store.specs.Parts.Joins.{cached_shown}
use Rattle.running_store.specs.Laid.{cell_or, values_in}
use Rattle.running_store.specs.Parts.{Parts, Shows}
use Rattle.running_store.specs.Parts.InUse.{dirty_held}
use Rattle.cache_manager.proofs.OneInstall.Goes.{many_logged}
use Rattle.cache_manager.proofs.Lists.{AreApart, among_filter, filter_among, among_counted, longest_among, copied_some}
use Rattle.cache_manager.proofs.NextNode.WorkOf.{in_work, work_in_it}

-- each object is above those before it
abbrev pub Rises : List ℕ → Type 0
Rises [] = ⊤
Rises (x ∷ xs) = ((y : ℕ) → IsTrue (is_among y xs) → x < y) × Rises xs

pub rises_filter : (p : ℕ → Bool) (xs : List ℕ) → Rises xs → Rises (filter p xs)
rises_filter p [] rises = tt
rises_filter p (x ∷ xs) rises = elim (cases_Bool (p x)) [
  | inl held ↦ subst Rises (sym (cond-true (p x) (x ∷ filter p xs) (filter p xs) held)) ((λ y there. rises.0 y (among_filter p xs y there).0), rises_filter p xs rises.1)
  | inr left ↦ subst Rises (sym (cond-false (p x) (x ∷ filter p xs) (filter p xs) left)) (rises_filter p xs rises.1)
]

pub rises_counted : (k n : ℕ) → Rises (counted k n)
rises_counted k zero = tt
rises_counted k (suc n) = ((λ y there. let r = among_counted (suc k) n y there in omega (arith, r.0)), rises_counted (suc k) n)

-- an object of a list stands at some place
among_at : (y : ℕ) (xs : List ℕ) → IsTrue (is_among y xs) → (k : ℕ) × (k < length xs) × (slice_index xs k ≡ y)
among_at y [] there = absurd (both_ways _ refl there)
among_at y (x ∷ xs) there = elim (or_cases (y == x) (is_among y xs) there) [
  | inl here ↦ (0, omega arith, sym (eqb-true y x here))
  | inr later ↦ let r = among_at y xs later in (suc r.0, omega (arith, r.1), r.2)
]

at_among : (xs : List ℕ) (k : ℕ) → k < length xs → IsTrue (is_among (slice_index xs k) xs)
at_among [] k lt = absurd (omega (arith, lt))
at_among (x ∷ xs) zero lt = or_left (x == x) (is_among x xs) (eq-eqb x x refl)
at_among (x ∷ xs) (suc k) lt = or_right (slice_index xs k == x) (is_among (slice_index xs k) xs) (at_among xs k (omega (arith, lt)))

found_at : (xs : List ℕ) (k x : ℕ) → slice_get xs k ≡ Some x → (k < length xs) × (slice_index xs k ≡ x)
found_at [] k x found = cc
found_at (y ∷ xs) zero x found = let is : Some y ≡ Some x = found in (omega arith, cc is)
found_at (y ∷ xs) (suc k) x found = let r = found_at xs k x found in (omega (arith, r.0), r.1)

-- rising LSNs, by places, rise
pub rises_from_increasing : (xs : List ℕ) → IsStrictlyIncreasing xs → Rises xs
rises_from_increasing [] up = tt
rises_from_increasing (x ∷ xs) up =
    let rest = rises_from_increasing xs (λ k lt. let next : suc k + 1 ≡ suc (k + 1) = omega arith in subst (λ (j : ℕ). slice_index xs k < slice_index (x ∷ xs) j) next (up (suc k) (omega (arith, lt)))) in
    (first xs rest (λ lt. up 0 (omega (arith, lt))), rest)
  where
    first : (ys : List ℕ) → Rises ys → (1 ≤ length ys → x < slice_index ys 0) → (y : ℕ) → IsTrue (is_among y ys) → x < y
    first [] rises next y there = absurd (both_ways _ refl there)
    first (z ∷ ys) rises next y there =
        let low = next (omega arith) in
        elim (or_cases (y == z) (is_among y ys) there) [
          | inl here ↦ let e = eqb-true y z here in omega (arith, low, e)
          | inr later ↦ let up_more = rises.0 y later in omega (arith, low, up_more)
        ]

-- rising lists of the same objects are one
pub rises_same : (xs ys : List ℕ) → Rises xs → Rises ys → ((x : ℕ) → IsTrue (is_among x xs) → IsTrue (is_among x ys)) → ((x : ℕ) → IsTrue (is_among x ys) → IsTrue (is_among x xs)) → xs ≡ ys
rises_same [] [] a b to from = refl
rises_same [] (y ∷ ys) a b to from = absurd (both_ways _ refl (from y (or_left (y == y) (is_among y ys) (eq-eqb y y refl))))
rises_same (x ∷ xs) [] a b to from = absurd (both_ways _ refl (to x (or_left (x == x) (is_among x xs) (eq-eqb x x refl))))
rises_same (x ∷ xs) (y ∷ ys) a b to from =
    let low : x ≤ y = least x xs y a (from y (or_left (y == y) (is_among y ys) (eq-eqb y y refl))) in
    let high : y ≤ x = least y ys x b (to x (or_left (x == x) (is_among x xs) (eq-eqb x x refl))) in
    let same : x ≡ y = omega (arith, low, high) in
    let rest : xs ≡ ys = rises_same xs ys a.1 b.1
    (λ z there. rest_of z y ys (to z (or_right (z == x) (is_among z xs) there)) (let up = a.0 z there in omega (arith, up, same)))
    (λ z there. rest_of z x xs (from z (or_right (z == y) (is_among z ys) there)) (let up = b.0 z there in omega (arith, up, same))) in
    (λ i. same i ∷ rest i)
  where
    least : (a : ℕ) (rest : List ℕ) (z : ℕ) → Rises (a ∷ rest) → IsTrue (is_among z (a ∷ rest)) → a ≤ z
    least a rest z rises there = elim (or_cases (z == a) (is_among z rest) there) [
      | inl here ↦ let e = eqb-true z a here in omega (arith, e)
      | inr later ↦ let up = rises.0 z later in omega (arith, up)
    ]

    rest_of : (z a : ℕ) (rest : List ℕ) → IsTrue (is_among z (a ∷ rest)) → a < z → IsTrue (is_among z rest)
    rest_of z a rest there above = elim (or_cases (z == a) (is_among z rest) there) [
      | inl here ↦ let e = eqb-true z a here in absurd (omega (arith, e, above))
      | inr later ↦ later
    ]

-- where all are copied none is left
none_left : (copied : ℕ) (objects : List ℕ) → All (λ x. x < copied) objects → not_copied copied objects ≡ []
none_left copied [] all = refl
none_left copied (x ∷ objects) all =
    let low = All-head (λ x. x < copied) x objects all in
    cond-false (nat_le copied x) (x ∷ not_copied copied objects) (not_copied copied objects) (false_from_ne_true _ (λ late. let high = leb-true copied x late in absurd (omega (arith, low, high))))
    ∙ none_left copied objects (All-tail (λ x. x < copied) x objects all)

module _ (lengths : ℕ → ℕ) where
  -- no object is longer, and none as long has a lesser number
  record IsLongest (objects : List ℕ) (x : ℕ) : Type 0 where
    most : (y : ℕ) → IsTrue (is_among y objects) → lengths y ≤ lengths x
    least : (y : ℕ) → IsTrue (is_among y objects) → lengths y ≡ lengths x → x ≤ y

  both_longest : (x y : ℕ) (objects : List ℕ) → IsTrue (is_among x objects) → IsTrue (is_among y objects) → IsLongest objects x → IsLongest objects y → x ≡ y
  both_longest x y objects in_x in_y a b =
      let low = a.most y in_y in
      let high = b.most x in_x in
      let same : lengths y ≡ lengths x = omega (arith, low, high) in
      let first = a.least y in_y same in
      let second = b.least x in_x (sym same) in
      omega (arith, first, second)

  longest_is : (s : ℕ) (xs : List ℕ) → Rises (s ∷ xs) → IsLongest (s ∷ xs) (longest lengths s xs)
  longest_is s [] rises = record {
    most = λ y there. let e = only y s there in omega (arith, ap lengths e);
    least = λ y there same. let e = only y s there in omega (arith, e);
  }
    where
      only : (y s : ℕ) → IsTrue ((y == s) || false) → y ≡ s
      only y s there = elim (or_cases (y == s) false there) [ inl here ↦ eqb-true y s here | inr none ↦ absurd (both_ways _ refl none) ]
  longest_is s (z ∷ xs) rises = elim (cases_Bool (nat_lt (lengths s) (lengths z))) [
    | inl longer ↦
        let e : longest lengths s (z ∷ xs) ≡ longest lengths z xs = ap (λ (k : ℕ). longest lengths k xs) (cond-true (nat_lt (lengths s) (lengths z)) z s longer) in
        subst (IsLongest (s ∷ z ∷ xs)) (sym e) (with_shorter (longest lengths z xs) (ltb-true (lengths s) (lengths z) longer) (longest_is z xs rises.1))
    | inr not_longer ↦
        let e : longest lengths s (z ∷ xs) ≡ longest lengths s xs = ap (λ (k : ℕ). longest lengths k xs) (cond-false (nat_lt (lengths s) (lengths z)) z s not_longer) in
        subst (IsLongest (s ∷ z ∷ xs)) (sym e) (with_later (longest lengths s xs) (ltb-false (lengths s) (lengths z) not_longer)
        (longest_is s xs ((λ y there. rises.0 y (or_right (y == z) (is_among y xs) there)), rises.1.1)))
  ]
    where
      with_shorter : (l : ℕ) → lengths s < lengths z → IsLongest (z ∷ xs) l → IsLongest (s ∷ z ∷ xs) l
      with_shorter l short is =
          let top = is.most z (or_left (z == z) (is_among z xs) (eq-eqb z z refl)) in
          record {
            most = λ y there. elim (or_cases (y == s) (is_among y (z ∷ xs)) there) [
              | inl here ↦ let e = ap lengths (eqb-true y s here) in omega (arith, e, short, top)
              | inr later ↦ is.most y later
            ];
            least = λ y there same. elim (or_cases (y == s) (is_among y (z ∷ xs)) there) [
              | inl here ↦ let e = ap lengths (eqb-true y s here) in absurd (omega (arith, e, short, top, same))
              | inr later ↦ is.least y later same
            ];
          }

      with_later : (l : ℕ) → lengths z ≤ lengths s → IsLongest (s ∷ xs) l → IsLongest (s ∷ z ∷ xs) l
      with_later l short is =
          let in_s : IsTrue (is_among s (s ∷ xs)) = or_left (s == s) (is_among s xs) (eq-eqb s s refl) in
          let top = is.most s in_s in
          record {
            most = λ y there. elim (or_cases (y == s) (is_among y (z ∷ xs)) there) [
              | inl here ↦ is.most y (or_left (y == s) (is_among y xs) here)
              | inr later ↦ elim (or_cases (y == z) (is_among y xs) later) [
                | inl at_z ↦ let e = ap lengths (eqb-true y z at_z) in omega (arith, e, short, top)
                | inr behind ↦ is.most y (or_right (y == s) (is_among y xs) behind)
              ]
            ];
            least = λ y there same. elim (or_cases (y == s) (is_among y (z ∷ xs)) there) [
              | inl here ↦ is.least y (or_left (y == s) (is_among y xs) here) same
              | inr later ↦ elim (or_cases (y == z) (is_among y xs) later) [
                | inl at_z ↦
                    let e = eqb-true y z at_z in
                    let low = is.least s in_s (omega (arith, ap lengths e, same, short, top)) in
                    let up = rises.0 y later in
                    omega (arith, low, up)
                | inr behind ↦ is.least y (or_right (y == s) (is_among y xs) behind) same
              ]
            ];
          }

  mapped_at : (xs : List ℕ) (k : ℕ) → k < length xs → slice_index (map lengths xs) k ≡ lengths (slice_index xs k)
  mapped_at [] k lt = absurd (omega (arith, lt))
  mapped_at (x ∷ xs) zero lt = refl
  mapped_at (x ∷ xs) (suc k) lt = mapped_at xs k (omega (arith, lt))

  kept_is : (copied : ℕ) (objects : List ℕ) (x : ℕ) → IsKeptBeside copied objects (map lengths objects) x → IsTrue (is_among x (not_copied copied objects)) × IsLongest (not_copied copied objects) x
  kept_is copied objects x kept =
      let found = found_at objects kept.place x kept.here in
      let own : slice_index (map lengths objects) kept.place ≡ lengths x = mapped_at objects kept.place found.0 ∙ ap lengths found.1 in (
        filter_among (λ y. nat_le copied y) objects x (subst (λ (z : ℕ). IsTrue (is_among z objects)) found.1 (at_among objects kept.place found.0)) (le-leb copied x kept.late),
        record {
          most = λ y there.
              let u = among_filter (λ y. nat_le copied y) objects y there in
              let p = among_at y objects u.0 in
              let here : slice_index (map lengths objects) p.0 ≡ lengths y = mapped_at objects p.0 p.1 ∙ ap lengths p.2 in
              let top = kept.longest p.0 p.1 (let late = leb-true copied y u.1 in omega (arith, late, p.2)) in
              omega (arith, top, here, own);
          least = λ y there same.
              let u = among_filter (λ y. nat_le copied y) objects y there in
              let p = among_at y objects u.0 in
              let here : slice_index (map lengths objects) p.0 ≡ lengths y = mapped_at objects p.0 p.1 ∙ ap lengths p.2 in
              let low = kept.least p.0 p.1 (let late = leb-true copied y u.1 in omega (arith, late, p.2)) (here ∙ same ∙ sym own) in
              omega (arith, low, p.2);
        },
      )

  longest_kept : (copied : ℕ) (x : ℕ) (objects : List ℕ) → Rises objects → IsTrue (is_among x objects) → IsLongest objects x → Some x ≡ longest_of lengths objects
  longest_kept copied x [] rises there is = absurd (both_ways _ refl there)
  longest_kept copied x (a ∷ xs) rises there is = ap (λ (k : ℕ). Some k) (both_longest x (longest lengths a xs) (a ∷ xs) there (longest_among lengths a xs) is (longest_is a xs rises))

  -- what a plan keeps of rising objects is the longest of those that are not copied
  planned_keep : (copied : ℕ) (objects : List ℕ) (keep : Option ℕ) → Rises objects → IfSome keep (IsKeptBeside copied objects (map lengths objects)) → (IsNone keep → All (λ x. x < copied) objects)
      → keep ≡ longest_of lengths (not_copied copied objects)
  planned_keep copied objects None rises kept all = sym (ap (longest_of lengths) (none_left copied objects (all refl)))
  planned_keep copied objects (Some x) rises kept all = let is = kept_is copied objects x kept in longest_kept copied x (not_copied copied objects) (rises_filter (λ y. nat_le copied y) objects rises) is.0 is.1

  -- so what it logs are all but that one
  pub planned_others : (copied : ℕ) (objects logged : List ℕ) (keep : Option ℕ) → IsStrictlyIncreasing objects → IfSome keep (IsKeptBeside copied objects (map lengths objects)) → (IsNone keep → All (λ x. x < copied) objects)
      → logged ≡ but_kept keep objects → logged ≡ but_longest copied lengths objects
  planned_others copied objects logged keep up kept all is = is ∙ ap (λ (o : Option ℕ). but_kept o objects) (planned_keep copied objects keep (rises_from_increasing objects up) kept all)

-- of a node's work in a world
module _ {O : Type 0} (m : Meaning O) (lawful : IsLawful m) (w : World O) (sound : IsSound m w) where
  -- rising objects that are its work are those of the list
  pub listed_in : (node : ℕ → Bool) (objects : List ℕ) → IsStrictlyIncreasing objects → ((x : ℕ) → IsTrue (is_among x objects) → work_of m w node x) → ((x : ℕ) → work_of m w node x → IsTrue (is_among x objects)) → objects ≡ work_in m w node
  listed_in node objects up due listed =
      rises_same objects (work_in m w node) (rises_from_increasing objects up) (rises_filter (has_work m w node) (counted 0 m.objects) (rises_counted 0 m.objects))
      (λ x there. work_in_it m lawful w sound node x (due x there)) (λ x there. listed x (in_work m lawful w sound node x there))

  -- and so are those of the next node
  pub work_listed : (objects : List ℕ) → IsStrictlyIncreasing objects → ((x : ℕ) → IsTrue (is_among x objects) → work_of m w (next_node m w) x) → ((x : ℕ) → work_of m w (next_node m w) x → IsTrue (is_among x objects)) → objects ≡ work m w
  work_listed objects up due listed = listed_in (next_node m w) objects up due listed

pub rises_apart : (xs : List ℕ) → Rises xs → AreApart xs
rises_apart [] rises = tt
rises_apart (x ∷ xs) rises = (false_from_ne_true _ (λ there. let up = rises.0 x there in absurd (omega (arith, up))), rises_apart xs rises.1)

-- what is logged of two objects or more, or where the first is copied, is one object at least
pub logged_some : (copied : ℕ) (lengths : ℕ → ℕ) (work logged : List ℕ) → IsStrictlyIncreasing work → (1 < length work) ⊎ ((x : ℕ) × (slice_get work 0 ≡ Some x) × (x < copied))
    → logged ≡ but_longest copied lengths work → 1 ≤ length logged
logged_some copied lengths work logged up (inl many) is =
    let some = many_logged copied lengths work (rises_apart work (rises_from_increasing work up)) (lt-ltb 1 (length work) many) in
    omega (arith, some, ap length is)
logged_some copied lengths work logged up (inr one) is =
    let found = found_at work 0 one.0 one.1 in
    let there = subst (λ (z : ℕ). IsTrue (is_among z work)) found.1 (at_among work 0 found.0) in
    let some = copied_some copied lengths work one.0 there one.2 in
    omega (arith, some, ap length is)

-- what is logged is of the objects
pub others_all : (P : ℕ → Type 0) (work logged : List ℕ) (keep : Option ℕ) → logged ≡ but_kept keep work → All P work → All P logged
others_all P work logged None is all = subst (λ (l : List ℕ). All P l) (sym is) all
others_all P work logged (Some x) is all = subst (λ (l : List ℕ). All P l) (sym is) (All-filter (λ (y : ℕ). not (y == x)) P work all)

-- the lengths that are read of dirty objects are those of the world
pub lengths_shown : {O : Type 0} (m : Meaning O) (p : Params) (d : Disk) (it : Parts) (w : World O) → Shows m p d it w → (work : List ℕ) → All (λ x. is_dirty it.volatile.objects.cache x ≡ true) work
    → map (λ x. length (values_in it.volatile.objects (d.reads Objects) x)) work ≡ map (cached_length m w) work
lengths_shown m p d it w shows [] all = refl
lengths_shown m p d it w shows (x ∷ work) all =
    let P : ℕ → Type 0 = λ y. is_dirty it.volatile.objects.cache y ≡ true in
    let found = dirty_held it.volatile.objects.cache x (All-head P x work all) in
    let file = d.reads Objects in
    let value = ap (λ (o : Option Pair). (cell_or o (cell_of x file)).value) found.1 ∙ ap (λ (c : Cell). c.value) (sym (cached_shown m p file it.volatile w shows.store x found.0 found.1)) in
    let rest = lengths_shown m p d it w shows work (All-tail P x work all) in
    λ i. length (value i) ∷ rest i
