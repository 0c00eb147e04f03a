-- What the place of a key says of a list of entries.
use Rattle.std.proofs.Common.{◌≡◌, ◌≤◌, ◌<◌, ℕ, zero, suc, ◌+◌, ◌==◌, Bool, true, false, not, ◌&&◌, cond, if◌then◌else◌, T, None, Some, is_some, Result, Ok, Err, List, [], ◌∷◌, length, drop, insert, remove, get_or, refl, sym, ap, ◌∙◌, subst, arith, drop-cons, option_map, Ordering, Less, Equal, Greater, is_lt, is_eq}
use Rattle.std.specs.FinMap.Entries.{by_order, put, find, is_sorted, below_all}
use Rattle.key_entries.specs.Entries.{byte_order, listed}
use Rattle.key_entries.specs.Places.{one_on, place_in}
use Rattle.key_entries.specs.Pairs.{has, without, with_pair, without_pair}
use Rattle.key_entries.specs.KeyLaws.{first, second, less_if, same_key, below_less}

-- so many places on
abbrev pub moved : ℕ → Result ℕ ℕ → Result ℕ ℕ
moved n (Ok i) = Ok (n + i)
moved n (Err i) = Err (n + i)

moved_none : (r : Result ℕ ℕ) → r ≡ moved 0 r
moved_none (Ok i) = let e : i ≡ 0 + i = omega arith in ap (λ (k : ℕ). Ok k) e
moved_none (Err i) = let e : i ≡ 0 + i = omega arith in ap (λ (k : ℕ). Err k) e

moved_more : (n : ℕ) (r : Result ℕ ℕ) → moved n (one_on r) ≡ moved (n + 1) r
moved_more n (Ok i) = let e : n + suc i ≡ n + 1 + i = omega arith in ap (λ (k : ℕ). Ok k) e
moved_more n (Err i) = let e : n + suc i ≡ n + 1 + i = omega arith in ap (λ (k : ℕ). Err k) e

-- it is the place of a key that is there
abbrev pub is_there : Result ℕ ℕ → Bool
is_there (Ok i) = true
is_there (Err i) = false

there_behind : (r : Result ℕ ℕ) → is_there r ≡ is_there (one_on r)
there_behind (Ok i) = refl
there_behind (Err i) = refl

module _ {X : Type 0} where
  -- what was passed so far, and then what the rest says
  pub IsPassed : List ℕ → List (List ℕ × X) → ℕ → Type 0
  IsPassed key es i = place_in key es ≡ moved i (place_in key (drop i es))

  pub passed_none : (key : List ℕ) (es : List (List ℕ × X)) → IsPassed key es 0
  unfolding IsPassed
  passed_none key es = moved_none (place_in key es)

  at_place : (key : List ℕ) (es : List (List ℕ × X)) (i : ℕ) (d : List ℕ × X) (o : Ordering) → i < length es → byte_order key (get_or es i d).0 ≡ o
      → place_in key (drop i es) ≡ by_order o (Err 0) (Ok 0) (one_on (place_in key (drop (suc i) es)))
  at_place key es i d o within is =
      ap (λ (l : List (List ℕ × X)). place_in key l) (drop-cons es i d within)
      ∙ ap (λ (o : Ordering). by_order o (Err 0) (Ok 0) (one_on (place_in key (drop (suc i) es)))) is

  pub passed_more : (key : List ℕ) (es : List (List ℕ × X)) (i : ℕ) (d : List ℕ × X) → IsPassed key es i → i < length es → byte_order key (get_or es i d).0 ≡ Greater
      → IsPassed key es (i + 1)
  unfolding IsPassed
  passed_more key es i d so_far within is =
      let next : suc i ≡ i + 1 = omega arith in
      so_far ∙ ap (λ (r : Result ℕ ℕ). moved i r) (at_place key es i d Greater within is) ∙ moved_more i (place_in key (drop (suc i) es))
      ∙ ap (λ (k : ℕ). moved (i + 1) (place_in key (drop k es))) next

  pub passed_less : (key : List ℕ) (es : List (List ℕ × X)) (i : ℕ) (d : List ℕ × X) → IsPassed key es i → i < length es → byte_order key (get_or es i d).0 ≡ Less
      → Err i ≡ place_in key es
  unfolding IsPassed
  passed_less key es i d so_far within is =
      let here : i + 0 ≡ i = omega arith in
      sym (so_far ∙ ap (λ (r : Result ℕ ℕ). moved i r) (at_place key es i d Less within is) ∙ ap (λ (k : ℕ). Err k) here)

  pub passed_equal : (key : List ℕ) (es : List (List ℕ × X)) (i : ℕ) (d : List ℕ × X) → IsPassed key es i → i < length es → byte_order key (get_or es i d).0 ≡ Equal
      → Ok i ≡ place_in key es
  unfolding IsPassed
  passed_equal key es i d so_far within is =
      let here : i + 0 ≡ i = omega arith in
      sym (so_far ∙ ap (λ (r : Result ℕ ℕ). moved i r) (at_place key es i d Equal within is) ∙ ap (λ (k : ℕ). Ok k) here)

  past : (n : ℕ) (es : List (List ℕ × X)) → length es ≤ n → drop n es ≡ []
  past zero [] short = refl
  past zero (e ∷ es) short = absurd (omega arith)
  past (suc n) [] short = refl
  past (suc n) (e ∷ es) short = past n es (omega arith)

  pub passed_all : (key : List ℕ) (es : List (List ℕ × X)) (i : ℕ) → IsPassed key es i → length es ≡ i → Err (length es) ≡ place_in key es
  unfolding IsPassed
  passed_all key es i so_far all =
      let here : i + 0 ≡ length es = omega (arith, all) in
      sym (so_far ∙ ap (λ (l : List (List ℕ × X)). moved i (place_in key l)) (past i es (omega (arith, all))) ∙ ap (λ (k : ℕ). Err k) here)

  -- the entries with this one at that place
  abbrev pub placed : List ℕ → X → List (List ℕ × X) → Result ℕ ℕ → List (List ℕ × X)
  placed key x es (Ok i) = insert (remove es i) i (key, x)
  placed key x es (Err i) = insert es i (key, x)

  placed_behind : (key : List ℕ) (x : X) (e : List ℕ × X) (es : List (List ℕ × X)) (r : Result ℕ ℕ) → e ∷ placed key x es r ≡ placed key x (e ∷ es) (one_on r)
  placed_behind key x e es (Ok i) = refl
  placed_behind key x e es (Err i) = refl

  pub put_placed : (key : List ℕ) (x : X) (es : List (List ℕ × X)) → put byte_order key x es ≡ placed key x es (place_in key es)
  put_placed key x [] = refl
  put_placed key x (e ∷ es) =
      elim (byte_order key e.0) as (λ o. byte_order key e.0 ≡ o → by_order o ((key, x) ∷ e ∷ es) ((e.0, x) ∷ es) (e ∷ put byte_order key x es) ≡ placed key x (e ∷ es) (by_order o (Err 0) (Ok 0) (one_on (place_in key es)))) [
        | Less ↦ λ is. refl
        | Equal ↦ λ is. ap (λ (k : List ℕ). (k, x) ∷ es) (sym (same_key key e.0 is))
        | Greater ↦ λ is. ap (λ (l : List (List ℕ × X)). e ∷ l) (put_placed key x es) ∙ placed_behind key x e es (place_in key es)
      ] refl

  -- a key below all is not found
  pub not_found : (key : List ℕ) (es : List (List ℕ × X)) → T (below_all byte_order key es) → find byte_order key es ≡ None
  not_found key [] below = refl
  not_found key (e ∷ es) below =
      ap (λ (o : Ordering). cond (is_eq o) (Some e.1) (find byte_order key es)) (less_if (byte_order key e.0) (first (is_lt (byte_order key e.0)) (below_all byte_order key es) below))
      ∙ not_found key es (second (is_lt (byte_order key e.0)) (below_all byte_order key es) below)

  pub all_kept : (key : List ℕ) (es : List (List ℕ × X)) → T (below_all byte_order key es) → without key es ≡ es
  all_kept key [] below = refl
  all_kept key (e ∷ es) below =
      ap (λ (o : Ordering). cond (not (is_eq o)) (e ∷ without key es) (without key es)) (less_if (byte_order key e.0) (first (is_lt (byte_order key e.0)) (below_all byte_order key es) below))
      ∙ ap (λ (l : List (List ℕ × X)). e ∷ l) (all_kept key es (second (is_lt (byte_order key e.0)) (below_all byte_order key es) below))

  pub has_place : (key : List ℕ) (es : List (List ℕ × X)) → T (is_sorted byte_order es) → has key es ≡ is_there (place_in key es)
  has_place key [] sorted = refl
  has_place key (e ∷ es) sorted =
      let below = first (below_all byte_order e.0 es) (is_sorted byte_order es) sorted in
      let rest = second (below_all byte_order e.0 es) (is_sorted byte_order es) sorted in
      elim (byte_order key e.0) as (λ o. byte_order key e.0 ≡ o → is_some (cond (is_eq o) (Some e.1) (find byte_order key es)) ≡ is_there (by_order o (Err 0) (Ok 0) (one_on (place_in key es)))) [
        | Less ↦ λ is. ap is_some (not_found key es (below_less key e.0 es is below))
        | Equal ↦ λ is. refl
        | Greater ↦ λ is. has_place key es rest ∙ there_behind (place_in key es)
      ] refl

  -- the entries without that place
  abbrev pub left_out : List (List ℕ × X) → Result ℕ ℕ → List (List ℕ × X)
  left_out es (Ok i) = remove es i
  left_out es (Err i) = es

  left_behind : (e : List ℕ × X) (es : List (List ℕ × X)) (r : Result ℕ ℕ) → e ∷ left_out es r ≡ left_out (e ∷ es) (one_on r)
  left_behind e es (Ok i) = refl
  left_behind e es (Err i) = refl

  pub without_place : (key : List ℕ) (es : List (List ℕ × X)) → T (is_sorted byte_order es) → without key es ≡ left_out es (place_in key es)
  without_place key [] sorted = refl
  without_place key (e ∷ es) sorted =
      let below = first (below_all byte_order e.0 es) (is_sorted byte_order es) sorted in
      let rest = second (below_all byte_order e.0 es) (is_sorted byte_order es) sorted in
      elim (byte_order key e.0) as (λ o. byte_order key e.0 ≡ o → cond (not (is_eq o)) (e ∷ without key es) (without key es) ≡ left_out (e ∷ es) (by_order o (Err 0) (Ok 0) (one_on (place_in key es)))) [
        | Less ↦ λ is. ap (λ (l : List (List ℕ × X)). e ∷ l) (all_kept key es (below_less key e.0 es is below))
        | Equal ↦ λ is. subst (λ (k : List ℕ). without k es ≡ es) (sym (same_key key e.0 is)) (all_kept e.0 es below)
        | Greater ↦ λ is. ap (λ (l : List (List ℕ × X)). e ∷ l) (without_place key es rest) ∙ left_behind e es (place_in key es)
      ] refl

module _ (key value : List ℕ) (pairs : List (List ℕ × List ℕ)) (sorted : T (is_sorted byte_order pairs)) where
  put_some : (there full : Bool) → has key pairs ≡ there → (length pairs == 7) ≡ full
      → with_pair key value pairs ≡ (if not there && full then None else Some (put byte_order key value pairs))
  put_some there full is_there is_full =
      ap (λ (b : Bool). if not b && length pairs == 7 then None else Some (put byte_order key value pairs)) is_there
      ∙ ap (λ (b : Bool). if not there && b then None else Some (put byte_order key value pairs)) is_full

  pub put_there : (i : ℕ) (after : List (List ℕ × List ℕ)) → Ok i ≡ place_in key pairs → after ≡ insert (remove pairs i) i (key, value)
      → Some (listed after) ≡ option_map listed (with_pair key value pairs)
  put_there i after place is =
      let there : has key pairs ≡ true = has_place key pairs sorted ∙ ap is_there (sym place) in
      let all : after ≡ put byte_order key value pairs = is ∙ ap (λ (r : Result ℕ ℕ). placed key value pairs r) place ∙ sym (put_placed key value pairs) in
      ap (λ (l : List (List ℕ × List ℕ)). Some (listed l)) all
      ∙ ap (λ o. option_map listed o) (sym (put_some true (length pairs == 7) there refl))

  absent : (i : ℕ) → Err i ≡ place_in key pairs → has key pairs ≡ false
  absent i place = has_place key pairs sorted ∙ ap is_there (sym place)

  pub put_full : (i : ℕ) → Err i ≡ place_in key pairs → true ≡ (length pairs == 7) → None ≡ option_map listed (with_pair key value pairs)
  put_full i place full = ap (λ o. option_map listed o) (sym (put_some false true (absent i place) (sym full)))

  pub put_new : (i : ℕ) (after : List (List ℕ × List ℕ)) → Err i ≡ place_in key pairs → false ≡ (length pairs == 7) → after ≡ insert pairs i (key, value)
      → Some (listed after) ≡ option_map listed (with_pair key value pairs)
  put_new i after place full is =
      let all : after ≡ put byte_order key value pairs = is ∙ ap (λ (r : Result ℕ ℕ). placed key value pairs r) place ∙ sym (put_placed key value pairs) in
      ap (λ (l : List (List ℕ × List ℕ)). Some (listed l)) all
      ∙ ap (λ o. option_map listed o) (sym (put_some false false (absent i place) (sym full)))

  pub delete_there : (i : ℕ) (after : List (List ℕ × List ℕ)) → Ok i ≡ place_in key pairs → after ≡ remove pairs i → Some (listed after) ≡ option_map listed (without_pair key pairs)
  delete_there i after place is =
      let there : has key pairs ≡ true = has_place key pairs sorted ∙ ap is_there (sym place) in
      let all : after ≡ without key pairs = is ∙ ap (λ (r : Result ℕ ℕ). left_out pairs r) place ∙ sym (without_place key pairs sorted) in
      ap (λ (l : List (List ℕ × List ℕ)). Some (listed l)) all
      ∙ ap (λ (b : Bool). option_map listed (if b then Some (without key pairs) else None)) (sym there)

  pub delete_absent : (i : ℕ) → Err i ≡ place_in key pairs → None ≡ option_map listed (without_pair key pairs)
  delete_absent i place = ap (λ (b : Bool). option_map listed (if b then Some (without key pairs) else None)) (sym (absent i place))
