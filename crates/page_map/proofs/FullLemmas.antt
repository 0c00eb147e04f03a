-- While a set cuts pages no leaf becomes empty but that of its key, and no only child.
use Rattle.std.proofs.Common.{◌≡◌, ◌≢◌, ◌⊎◌, inl, inr, ℕ, zero, suc, ◌+◌, ◌-◌, ◌<◌, ◌≤◌, true, false, if◌then◌else◌, Option, Some, List, [], ◌∷◌, ◌++◌, T, length, take, drop, is_lt, refl, sym, ap, ◌∙◌, subst, arith, length-drop}
use Rattle.std.specs.FinMap.Entries.{is_sorted}
use Rattle.std.proofs.lemmas.List.{append-nil, length-map}
use Rattle.oper_core.specs.State.{State}
use Rattle.key_entries.specs.Entries.{byte_order}
use Rattle.key_entries.specs.EntryLaws.{same_some}
use Rattle.page_ops.specs.Page.{Cell}
use Rattle.page_ops.specs.Search.{last_under}
use Rattle.page_ops.specs.Seen.{child_cell}
use Rattle.page_map.specs.Deletes.{NoneIsEmpty}
use Rattle.page_map.specs.Map.{Span, Tree, cells_in, root_of}
use Rattle.page_map.specs.Splits.{Split}
use Rattle.page_map.proofs.DueLemmas.{IsAsked}
use Rattle.page_map.proofs.GoneLemmas.{each_by}
use Rattle.page_map.proofs.HalfLemmas.{under_front, under_high, under_low, under_two}
use Rattle.page_map.proofs.MapLemmas.{HasCells, IsAt, Needs, each_at, at_new, at_other, cells_again, with_child}
use Rattle.page_map.proofs.TreeLemmas.{bare, first_cells, first_part, last_cells, last_part, live_in}
use Rattle.page_map.proofs.TwoLemmas.{at_inside, with_two}

-- ---- children by their places

module _ {Child : Type 0} where
  at_taken : (children : List (List ℕ × Child)) (k i : ℕ) (kid : Child) → IsAt i kid (take k children) → IsAt i kid children × (i < k)
  at_taken children zero i kid at = absurd at
  at_taken [] (suc k) i kid at = absurd at
  at_taken (c ∷ children) (suc k) zero kid at = (at, omega arith)
  at_taken (c ∷ children) (suc k) (suc i) kid at = let rest = at_taken children k i kid at in (rest.0, omega (arith, rest.1))

  at_dropped : (children : List (List ℕ × Child)) (k i : ℕ) (kid : Child) → IsAt i kid (drop k children) → IsAt (k + i) kid children
  at_dropped children zero i kid at = let same : i ≡ 0 + i = omega arith in subst (λ (n : ℕ). IsAt n kid children) same at
  at_dropped [] (suc k) i kid at = absurd at
  at_dropped (c ∷ children) (suc k) i kid at =
      let next : suc (k + i) ≡ suc k + i = omega arith in subst (λ (n : ℕ). IsAt n kid (c ∷ children)) next (at_dropped children k i kid at)

  taken_few : (k : ℕ) (children : List (List ℕ × Child)) → length (take k children) ≤ length children
  taken_few zero children = omega arith
  taken_few (suc k) [] = omega arith
  taken_few (suc k) (c ∷ children) = omega (arith, taken_few k children)

  -- each that stands there where two have come in the place of one
  two_all : (P : ℕ → Child → Type 0) (children : List (List ℕ × Child)) (i : ℕ) (left : Child) (key : List ℕ) (right : Child) → P i left → P (suc i) right
      → ((j k : ℕ) (kid : Child) → IsAt k kid children → k ≢ i → j ≢ i → j ≢ suc i → P j kid) → (j : ℕ) (kid : Child) → IsAt j kid (with_two i left key right children) → P j kid
  two_all P [] i left key right one two others j kid at = absurd at
  two_all P (c ∷ children) zero left key right one two others zero kid at = subst (P 0) at one
  two_all P (c ∷ children) zero left key right one two others (suc zero) kid at = subst (P 1) at two
  two_all P (c ∷ children) zero left key right one two others (suc (suc j)) kid at =
      others (suc (suc j)) (suc j) kid at (λ e. absurd (omega (arith, e))) (λ e. absurd (omega (arith, e))) (λ e. absurd (omega (arith, e)))
  two_all P (c ∷ children) (suc i) left key right one two others zero kid at =
      others 0 0 kid at (λ e. absurd (omega (arith, e))) (λ e. absurd (omega (arith, e))) (λ e. absurd (omega (arith, e)))
  two_all P (c ∷ children) (suc i) left key right one two others (suc j) kid at =
      two_all (λ n. P (suc n)) children i left key right one two
      (λ n k other there apart low high. others (suc n) (suc k) other there (λ e. apart (omega (arith, e))) (λ e. low (omega (arith, e))) (λ e. high (omega (arith, e)))) j kid at

  module _ (On Off : Child → Type 0) where
    -- one child is on the way to a key, and the others are off it
    abbrev pub Kids : Option ℕ → List (List ℕ × Child) → Type 0
    Kids under children = (j : ℕ) (kid : Child) → IsAt j kid children → (under ≡ Some j → On kid) × (under ≢ Some j → Off kid)

    module _ (children : List (List ℕ × Child)) (k : ℕ) where
      kids_first : (j : ℕ) → Kids (Some j) children → Kids (Some j) (take k children)
      kids_first j kids = λ i kid at. kids i kid (at_taken children k i kid at).0

      off_last : (j : ℕ) → j < k → Kids (Some j) children → (i : ℕ) (kid : Child) → IsAt i kid (drop k children) → Off kid
      off_last j low kids i kid at = (kids (k + i) kid (at_dropped children k i kid at)).1 (λ e. absurd (omega (arith, low, same_some j (k + i) e)))

      off_first : (j : ℕ) → Kids (Some (k + j)) children → (i : ℕ) (kid : Child) → IsAt i kid (take k children) → Off kid
      off_first j kids i kid at = let there = at_taken children k i kid at in (kids i kid there.0).1 (λ e. absurd (omega (arith, there.1, same_some (k + j) i e)))

      kids_last : (j : ℕ) → Kids (Some (k + j)) children → Kids (Some j) (drop k children)
      kids_last j kids = λ i kid at.
          let both = kids (k + i) kid (at_dropped children k i kid at) in
          (λ e. both.0 (ap (λ (n : ℕ). Some (k + n)) (same_some j i e)), λ apart. both.1 (λ e. apart (ap (λ (n : ℕ). Some n) (omega (arith, same_some (k + j) (k + i) e)))))

-- ---- pages on the way to a key

module _ (key : List ℕ) where
  -- a page on the way: its leaves have cells, but for that of the key
  abbrev On : (level : ℕ) → Tree level → Type 0
  On level t = Needs key 2 level t

  abbrev under : (level : ℕ) → Tree (suc level) → Option ℕ
  under level t = last_under key (cells_in (suc level) t)

  to_kids : (level : ℕ) (t : Tree (suc level)) → On (suc level) t → (length t.children ≤ 1) ⊎ Kids (On level) (HasCells level) (under level t) t.children
  to_kids zero t (inl few) = inl few
  to_kids zero t (inr each) = inr (λ i leaf at. (λ e. tt, each i leaf at))
  to_kids (suc level) t needs = inr needs

  from_kids : (level : ℕ) (t : Tree (suc level)) → Kids (On level) (HasCells level) (under level t) t.children → On (suc level) t
  from_kids zero t kids = inr (λ i leaf at apart. (kids i leaf at).1 apart)
  from_kids (suc level) t kids = kids

  all_off : (level : ℕ) (t : Tree (suc level)) → ((i : ℕ) (kid : Tree level) → IsAt i kid t.children → HasCells level kid) → HasCells (suc level) t
  all_off zero t all = inr (each_by (HasCells zero) t.children all)
  all_off (suc level) t all = each_by (HasCells (suc level)) t.children all

  pub full_two : (level : ℕ) (t : Tree level) → NoneIsEmpty level t → On level t
  full_two zero t full = tt
  full_two (suc zero) t (inl few) = inl few
  full_two (suc zero) t (inr each) = inr (λ i leaf at apart. each_at (HasCells zero) t.children i leaf at each)
  full_two (suc (suc level)) t full = λ i child at. let below = each_at (NoneIsEmpty (suc level)) t.children i child at full in (λ here. full_two (suc level) child below, λ apart. below)

  -- a child off the way has cells
  off_way : (level : ℕ) (t : Tree (suc level)) (i : ℕ) (child : Tree level) → IsAt i child t.children → under level t ≡ Some i → On (suc level) t → (k : ℕ) (kid : Tree level) → IsAt k kid t.children → k ≢ i → HasCells level kid
  off_way level t i child at is needs k kid there apart = elim (to_kids level t needs) [
    | inl few ↦ absurd (apart (omega (arith, few, at_inside t.children i child at, at_inside t.children k kid there)))
    | inr kids ↦ (kids k kid there).1 (λ e. apart (same_some k i (sym e ∙ is)))
  ]

  -- the one on the way needs as few
  pub on_way : (level : ℕ) (t : Tree (suc level)) (i : ℕ) (child : Tree level) → IsAt i child t.children → under level t ≡ Some i → On (suc level) t → On level child
  on_way zero t i child at is needs = tt
  on_way (suc level) t i child at is needs = (needs i child at).0 is

  -- another page in the place of that on the way
  pub one_needs : (level : ℕ) (t : Tree (suc level)) (i : ℕ) (child new : Tree level) → IsAt i child t.children → root_of level new ≡ root_of level child → under level t ≡ Some i → On (suc level) t → (On level child → On level new)
      → On (suc level) (record { object = t.object; children = with_child i new t.children; past = t.past })
  one_needs level t i child new at root is needs goes =
      let other : Tree (suc level) = record { object = t.object; children = with_child i new t.children; past = t.past } in
      let same : under level other ≡ Some i = ap (λ (l : List Cell). last_under key (l ++ t.past)) (cells_again (root_of level) t.children i child new at root) ∙ is in
      from_kids level other (λ j kid there. (
        λ e.
            let here : j ≡ i = same_some j i (sym e ∙ same) in
            subst (On level) (at_new t.children i new kid (subst (λ (p : ℕ). IsAt p kid (with_child i new t.children)) here there)) (goes (on_way level t i child at is needs)),
        λ apart.
            let off : j ≢ i = λ e. apart (same ∙ ap (λ (p : ℕ). Some p) (sym e)) in
            off_way level t i child at is needs j kid (at_other t.children i j new kid there off) off,
      ))

  -- two pages in the place of one
  pub two_needs : (level : ℕ) (t : Tree (suc level)) (i : ℕ) (child left : Tree level) (cut : List ℕ) (right : Tree level) → IsAt i child t.children → under level t ≡ Some i → On (suc level) t
      → (is_lt (byte_order key cut) ≡ true → On level left × HasCells level right) × (is_lt (byte_order key cut) ≡ false → HasCells level left × On level right)
      → On (suc level) (record { object = t.object; children = with_two i left cut right t.children; past = t.past })
  two_needs level t i child left cut right at is needs halves =
      let other : Tree (suc level) = record { object = t.object; children = with_two i left cut right t.children; past = t.past } in
      let P : ℕ → Tree level → Type 0 = λ j kid. (under level other ≡ Some j → On level kid) × (under level other ≢ Some j → HasCells level kid) in
      let off = off_way level t i child at is needs in
      elim (is_lt (byte_order key cut)) as (λ b. is_lt (byte_order key cut) ≡ b → under level other ≡ (if b then Some i else Some (suc i)) → On (suc level) other) [
        | true ↦ λ e goes.
            let half = halves.0 e in
            from_kids level other
            (two_all P t.children i left cut right (λ f. half.0, λ apart. absurd (apart goes)) (λ f. absurd (omega (arith, same_some i (suc i) (sym goes ∙ f))), λ apart. half.1)
            (λ j k kid there apart low high. (λ f. absurd (low (same_some j i (sym f ∙ goes))), λ g. off k kid there apart)))
        | false ↦ λ e goes.
            let half = halves.1 e in
            from_kids level other
            (two_all P t.children i left cut right (λ f. absurd (omega (arith, same_some (suc i) i (sym goes ∙ f))), λ apart. half.0) (λ f. half.1, λ apart. absurd (apart goes))
            (λ j k kid there apart low high. (λ f. absurd (high (same_some j (suc i) (sym f ∙ goes))), λ g. off k kid there apart)))
      ] refl (under_two (root_of level) key t.children t.past i child left cut right at is)

  -- a root above two pages
  pub top_needs : (level : ℕ) (t : Tree (suc level)) (left : Tree level) (cut : List ℕ) (right : Tree level) → t.children ≡ ([], left) ∷ (cut, right) ∷ []
      → under level t ≡ (if is_lt (byte_order key cut) then Some 0 else Some 1)
      → (is_lt (byte_order key cut) ≡ true → On level left × HasCells level right) × (is_lt (byte_order key cut) ≡ false → HasCells level left × On level right) → On (suc level) t
  top_needs level t left cut right are goes halves =
      from_kids level t
      (subst (λ (l : List (List ℕ × Tree level)). Kids (On level) (HasCells level) (under level t) l) (sym are)
      (elim (is_lt (byte_order key cut)) as (λ b. is_lt (byte_order key cut) ≡ b → under level t ≡ (if b then Some 0 else Some 1) → Kids (On level) (HasCells level) (under level t) (([], left) ∷ (cut, right) ∷ [])) [
        | true ↦ λ e goes. both (halves.0 e).0 (halves.0 e).1 goes
        | false ↦ λ e goes. also (halves.1 e).0 (halves.1 e).1 goes
      ] refl goes))
    where
      both : On level left → HasCells level right → under level t ≡ Some 0 → Kids (On level) (HasCells level) (under level t) (([], left) ∷ (cut, right) ∷ [])
      both one two goes zero kid at = (λ f. subst (On level) at one, λ apart. absurd (apart goes))
      both one two goes (suc zero) kid at = (λ f. absurd (omega (arith, same_some 0 1 (sym goes ∙ f))), λ apart. subst (HasCells level) at two)
      both one two goes (suc (suc j)) kid at = absurd at

      also : HasCells level left → On level right → under level t ≡ Some 1 → Kids (On level) (HasCells level) (under level t) (([], left) ∷ (cut, right) ∷ [])
      also one two goes zero kid at = (λ f. absurd (omega (arith, same_some 1 0 (sym goes ∙ f))), λ apart. subst (HasCells level) at one)
      also one two goes (suc zero) kid at = (λ f. subst (On level) at two, λ apart. absurd (apart goes))
      also one two goes (suc (suc j)) kid at = absurd at

  -- ---- the halves of a page that is cut

  module _ (lo hi : ℕ) (s : State) (room : ℕ) (value : List ℕ) (x y : ℕ) where
    abbrev Asked : (level : ℕ) → Span → Tree level → Split → Type 0
    Asked level span t w = IsAsked lo hi s room key value level span t w

    -- the half on the way needs as few, and the other one has cells
    abbrev AreCut : (level : ℕ) → Tree level → ℕ → List ℕ → Type 0
    AreCut level t k cut =
        (is_lt (byte_order key cut) ≡ true → On level (first_part level x k [] t) × HasCells level (last_part level y k t))
        × (is_lt (byte_order key cut) ≡ false → HasCells level (first_part level x k [] t) × On level (last_part level y k t))

    live_under : (level : ℕ) (span : Span) (t : Tree (suc level)) (w : Split) (asked : Asked (suc level) span t w) → last_under key (live_in (suc level) t) ≡ Some asked.why.place
    live_under level span t w asked =
        under_front key (live_in (suc level) t) t.past asked.why.place
        (omega (arith, at_inside t.children asked.why.place asked.why.child asked.why.at, length-map t.children (λ (c : List ℕ × Tree level). child_cell c.0 (root_of level c.1)))) asked.why.under

    module _ (level : ℕ) (span : Span) (t : Tree (suc level)) (w : Split) (asked : Asked (suc level) span t w) (clean : w.has_past ≡ false) (rise : T (is_sorted byte_order (live_in (suc level) t))) where
      abbrev live : List Cell
      live = live_in (suc level) t

      abbrev k : ℕ
      k = w.place

      first_under : under level (first_part (suc level) x k [] t) ≡ last_under key (take k live)
      first_under = ap (last_under key) (first_cells (suc level) x k [] t ∙ append-nil (take k live))

      last_is_under : under level (last_part (suc level) y k t) ≡ last_under key (drop k live)
      last_is_under = ap (last_under key) (last_cells (suc level) y k t)

      by_kids : Kids (On level) (HasCells level) (Some asked.why.place) t.children → AreCut (suc level) t k w.key
      by_kids kids =
          let half = asked.halves clean in
          let way = live_under level span t w asked in (
            λ low.
                let found = under_low key k live asked.why.place half.inside (ap (λ (c : List ℕ). is_lt (byte_order key c)) (sym half.key_is) ∙ low) way in (
                  from_kids level (first_part (suc level) x k [] t)
                      (subst (λ (o : Option ℕ). Kids (On level) (HasCells level) o (take k t.children)) (sym (first_under ∙ found.0)) (kids_first (On level) (HasCells level) t.children k asked.why.place kids)),
                  all_off level (last_part (suc level) y k t) (off_last (On level) (HasCells level) t.children k asked.why.place found.1 kids),
                ),
            λ high.
                let found = under_high key k live asked.why.place rise half.inside (ap (λ (c : List ℕ). is_lt (byte_order key c)) (sym half.key_is) ∙ high) way in
                let there : Kids (On level) (HasCells level) (Some (k + found.behind)) t.children = subst (λ (n : ℕ). Kids (On level) (HasCells level) (Some n) t.children) (sym found.sum) kids in (
                  all_off level (first_part (suc level) x k [] t) (off_first (On level) (HasCells level) t.children k found.behind there),
                  from_kids level (last_part (suc level) y k t)
                      (subst (λ (o : Option ℕ). Kids (On level) (HasCells level) o (drop k t.children)) (sym (last_is_under ∙ found.under)) (kids_last (On level) (HasCells level) t.children k found.behind there)),
                ),
          )

    pub cut_needs : (level : ℕ) (span : Span) (t : Tree level) (w : Split) → Asked level span t w → w.has_past ≡ false → T (is_sorted byte_order (live_in level t)) → On level t → AreCut level t w.place w.key
    cut_needs zero span t w asked clean rise needs = (λ low. (tt, (asked.halves clean).2 low), λ high. ((asked.halves clean).3 high, tt))
    cut_needs (suc zero) span t w asked clean rise needs = elim (to_kids zero t needs) [
      | inl few ↦
          let first : length (take w.place t.children) ≤ 1 = omega (arith, few, taken_few w.place t.children) in
          let last : length (drop w.place t.children) ≤ 1 = omega (arith, few, length-drop w.place t.children) in
          (λ low. (inl first, inl last), λ high. (inl first, inl last))
      | inr kids ↦ by_kids zero span t w asked clean rise (subst (λ (o : Option ℕ). Kids (On zero) (HasCells zero) o t.children) asked.why.under kids)
    ]
    cut_needs (suc (suc level)) span t w asked clean rise needs = by_kids (suc level) span t w asked clean rise (subst (λ (o : Option ℕ). Kids (On (suc level)) (HasCells (suc level)) o t.children) asked.why.under needs)

    -- without the cells past its span a page needs as few
    pub bare_needs : (level : ℕ) (span : Span) (t : Tree level) (w : Split) → Asked level span t w → On level t → On level (bare level t)
    bare_needs zero span t w asked needs = tt
    bare_needs (suc level) span t w asked needs = again level t (asked.why.under ∙ sym (ap (last_under key) (append-nil (live_in (suc level) t)) ∙ live_under level span t w asked)) needs
      where
        again : (level : ℕ) (t : Tree (suc level)) → under level t ≡ under level (bare (suc level) t) → On (suc level) t → On (suc level) (bare (suc level) t)
        again zero t same (inl few) = inl few
        again zero t same (inr each) = inr (λ i leaf at apart. each i leaf at (λ e. apart (sym same ∙ e)))
        again (suc level) t same needs = subst (λ (o : Option ℕ). Kids (On (suc level)) (HasCells (suc level)) o t.children) same needs
