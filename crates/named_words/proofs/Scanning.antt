-- A name that stays is answered by a scan.
use Rattle.std.proofs.Common.{◌≡◌, ◌≤◌, inl, inr, ◌∙◌, sym, ap, arith, ℕ, Bool, true, false, cond, ◌||◌, ◌==◌, nat_le, nat_lt, is_some, List, [], ◌∷◌}
use Rattle.std.proofs.lemmas.Bool.Decides.{nat_tests}
use Rattle.std.proofs.lemmas.Slice.Eq.{bytes_eq-Decides}
use Rattle.std.specs.Cmp.Lexicographic.{texts_ties}
use Rattle.std.specs.FinMap.{contains_key-keys, get, keys}
use Rattle.std.specs.List.{AllByRecursion, filter, list_any}
use Rattle.std.specs.Str.{bytes_eq}
use Rattle.named_words.specs.Effects.{Names, cursor_behind, names_from, place_of}
use Rattle.named_words.specs.Scans.{Scans, is_answered, is_on}
use Rattle.named_words.proofs.Matching.{one_of, or_second}
use Rattle.named_words.proofs.Parts.{either_way}

module _ (name : List ℕ) where
  in_keys : (names : Names) → is_some (get names name) ≡ true → is_on name (keys names) ≡ true
  in_keys names there = (λ i. list_any (λ x. texts_ties name x i) (keys names)) ∙ sym (contains_key-keys names name) ∙ there

  with_one : (b : Bool) (x : List ℕ) (page : List (List ℕ)) → is_on name page ≡ true → is_on name (cond b (x ∷ page) page) ≡ true
  with_one true x page is = or_second (bytes_eq name x) (is_on name page) is
  with_one false x page is = is

  -- a test that the name passes keeps it
  is_kept : (test : List ℕ → Bool) (page : List (List ℕ)) → test name ≡ true → is_on name page ≡ true → is_on name (filter test page) ≡ true
  is_kept test [] passes is = is
  is_kept test (x ∷ page) passes is = elim (one_of (bytes_eq name x) (is_on name page) is) [
    | inl here ↦
        let kept : test x ≡ true = ap test (sym ((bytes_eq-Decides name x).0 here)) ∙ passes in
        ap (λ b. is_on name (cond b (x ∷ filter test page) (filter test page))) kept ∙ ap (λ b. b || is_on name (filter test page)) here
    | inr later ↦ with_one (test x) x (filter test page) (is_kept test page passes later)
  ]

  at_most : (m n : ℕ) → m ≤ n → nat_le m n ≡ true
  at_most m n low = grind (arith, nat_tests, low)

  first_page : (page : List (List ℕ)) (pages : List (List (List ℕ))) → is_on name page ≡ true → is_answered name (page ∷ pages) ≡ true
  first_page page pages is = ap (λ b. b || is_answered name pages) is

  -- from a cursor on that is not behind the name
  pub is_found : (cursor : ℕ) (calls : List (Names × ℕ)) (pages : List (List (List ℕ))) → cursor ≤ place_of name → Scans cursor calls pages
      → AllByRecursion (λ call. is_some (get call.0 name) ≡ true) calls → is_answered name pages ≡ true
  is_found cursor [] pages low scans there = absurd scans
  is_found cursor (call ∷ calls) [] low scans there = absurd scans
  is_found cursor (call ∷ calls) (page ∷ pages) low scans there =
      let from = names_from call.0 cursor in
      let next = cursor_behind call.1 from in
      let here : is_on name from ≡ true = is_kept (λ n. nat_le cursor (place_of n)) (keys call.0) (at_most cursor (place_of name) low) (in_keys call.0 there.0) in
      let shown : (next == 0 || nat_lt (place_of name) next) ≡ true → is_answered name (page ∷ pages) ≡ true =
      λ test. first_page page pages (ap (is_on name) scans.0 ∙ is_kept (λ n. next == 0 || nat_lt (place_of n) next) from test here) in
      elim scans.1 [
        | inl over ↦ shown (ap (λ n. n == 0 || nat_lt (place_of name) next) over)
        | inr on ↦ elim (either_way (nat_lt (place_of name) next)) [
          | inl before ↦ shown (or_second (next == 0) (nat_lt (place_of name) next) before)
          | inr behind ↦ or_second (is_on name page) (is_answered name pages) (is_found next calls pages (grind (arith, nat_tests, behind)) on.1 there.1)
        ]
      ]
