-- What a look-up finds once an entry is put, taken out, or moved to the front.
use Rattle.std.proofs.Common.{◌≡◌, ℕ, zero, suc, ◌-◌, ◌<◌, ◌≤◌, Bool, true, false, ◌⊎◌, inl, inr, List, [], ◌∷◌, take, length, Option, None, Some, IsSome, is_some, nat_eq, cond, refl, sym, ap, subst, arith, ◌∙◌, true≢false}
use Rattle.std.proofs.lemmas.Bool.{eqb-true}
use Rattle.std.specs.Cmp.{nat_eq_equiv}
use Rattle.std.specs.Option.{option_map, option_map_or}
use Rattle.std.specs.Map.{lookup, lookup_entry, remove_entry}
use Rattle.lru.specs.LruCache.{LruCache, promoted, put_entries}

-- a number that is x is not y
other : (x y z : ℕ) → nat_eq x y ≡ false → nat_eq x z ≡ true → nat_eq y z ≡ false
other x y z apart same = nat_eq_equiv.symm y z ∙ sym (nat_eq_equiv.congr x z y same) ∙ apart

take_all : {X : Type 0} (n : ℕ) (es : List X) → length es ≤ n → take n es ≡ es
take_all zero [] h = refl
take_all zero (e ∷ es) h = absurd (omega (arith, h))
take_all (suc n) [] h = refl
take_all (suc n) (e ∷ es) h = ap (λ l. e ∷ l) (take_all n es (omega (arith, h)))

module _ {X : Type 0} (test : ℕ → Bool) where
  -- a look-up finds the value of the entry that passes
  looked_up : (es : List (ℕ × X)) → lookup test es ≡ option_map (λ e. e.1) (lookup_entry test es)
  looked_up [] = refl
  looked_up (e ∷ es) = elim (test e.0) as (λ b. cond b (Some e.1) (lookup test es) ≡ option_map (λ f. f.1) (cond b (Some e) (lookup_entry test es))) [
    | true ↦ refl
    | false ↦ looked_up es
  ]

  passes : (es : List (ℕ × X)) (e : ℕ × X) → lookup_entry test es ≡ Some e → test e.0 ≡ true
  passes [] e h = cc
  passes (f ∷ es) e h = (elim (test f.0) as (λ b. test f.0 ≡ b → test e.0 ≡ true) [
    | true ↦ λ t. let h' = rw t at h in let same : f ≡ e = cc in subst (λ g. test g.0 ≡ true) same t
    | false ↦ λ t. passes es e (rw t at h)
  ]) refl

  length-removed : (es : List (ℕ × X)) (e : ℕ × X) → lookup_entry test es ≡ Some e → suc (length (remove_entry test es)) ≡ length es
  length-removed [] e h = cc
  length-removed (f ∷ es) e h = (elim (test f.0) as (λ b. test f.0 ≡ b → suc (length (cond b es (f ∷ remove_entry test es))) ≡ suc (length es)) [
    | true ↦ λ t. refl
    | false ↦ λ t. ap suc (length-removed es e (rw t at h))
  ]) refl

  pub length-removed-le : (es : List (ℕ × X)) → length (remove_entry test es) ≤ length es
  length-removed-le [] = omega arith
  length-removed-le (e ∷ es) = elim (test e.0) as (λ b. length (cond b es (e ∷ remove_entry test es)) ≤ suc (length es)) [
    | true ↦ omega arith
    | false ↦ omega (arith, length-removed-le es)
  ]

  removed_absent : (es : List (ℕ × X)) → lookup_entry test es ≡ None → remove_entry test es ≡ es
  removed_absent [] h = refl
  removed_absent (f ∷ es) h = (elim (test f.0) as (λ b. test f.0 ≡ b → cond b es (f ∷ remove_entry test es) ≡ f ∷ es) [
    | true ↦ λ t. let h' = rw t at h in cc
    | false ↦ λ t. ap (λ l. f ∷ l) (removed_absent es (rw t at h))
  ]) refl

  lookup-taken : (n : ℕ) (es : List (ℕ × X)) → (lookup test (take n es) ≡ lookup test es) ⊎ (lookup test (take n es) ≡ None)
  lookup-taken zero es = inr refl
  lookup-taken (suc n) [] = inl refl
  lookup-taken (suc n) (e ∷ es) = elim (test e.0) as (λ b. (cond b (Some e.1) (lookup test (take n es)) ≡ cond b (Some e.1) (lookup test es)) ⊎ (cond b (Some e.1) (lookup test (take n es)) ≡ None)) [
    | true ↦ inl refl
    | false ↦ lookup-taken n es
  ]

-- what `put` leaves, by the entry that it finds
abbrev put : {X : Type 0} → LruCache ℕ X → ℕ → X → Option (ℕ × X) → List (ℕ × X)
put c x v o = option_map_or (λ e. (e.0, v) ∷ remove_entry (nat_eq x) c.entries) o ((x, v) ∷ take (c.cap - 1) c.entries)

module _ {X : Type 0} (x y : ℕ) (apart : nat_eq x y ≡ false) where
  -- another object's entry stays where one is taken out
  pub lookup-removed : (es : List (ℕ × X)) → lookup (nat_eq y) (remove_entry (nat_eq x) es) ≡ lookup (nat_eq y) es
  lookup-removed [] = refl
  lookup-removed (e ∷ es) = (elim (nat_eq x e.0) as (λ b. nat_eq x e.0 ≡ b → lookup (nat_eq y) (cond b es (e ∷ remove_entry (nat_eq x) es)) ≡ lookup (nat_eq y) (e ∷ es)) [
    | true ↦ λ t. sym (ap (λ b. cond b (Some e.1) (lookup (nat_eq y) es)) (other x y e.0 apart t))
    | false ↦ λ t. ap (cond (nat_eq y e.0) (Some e.1)) (lookup-removed es)
  ]) refl

  module _ (c : LruCache ℕ X) (v : X) where
    behind : (k : ℕ) (es : List (ℕ × X)) → nat_eq y k ≡ false → lookup (nat_eq y) ((k, v) ∷ es) ≡ lookup (nat_eq y) es
    behind k es h = ap (λ b. cond b (Some v) (lookup (nat_eq y) es)) h

    replaced : (e : ℕ × X) → lookup_entry (nat_eq x) c.entries ≡ Some e → lookup (nat_eq y) (put c x v (Some e)) ≡ lookup (nat_eq y) c.entries
    replaced e h = behind e.0 (remove_entry (nat_eq x) c.entries) (other x y e.0 apart (passes (nat_eq x) c.entries e h)) ∙ lookup-removed c.entries

    added : lookup (nat_eq y) (put c x v None) ≡ lookup (nat_eq y) (take (c.cap - 1) c.entries)
    added = behind x (take (c.cap - 1) c.entries) (nat_eq_equiv.symm y x ∙ apart)

    put_cases : (o : Option (ℕ × X)) → lookup_entry (nat_eq x) c.entries ≡ o → (lookup (nat_eq y) (put c x v o) ≡ lookup (nat_eq y) c.entries) ⊎ (lookup (nat_eq y) (put c x v o) ≡ None)
    put_cases None h = elim (lookup-taken (nat_eq y) (c.cap - 1) c.entries) [ inl kept ↦ inl (added ∙ kept) | inr gone ↦ inr (added ∙ gone) ]
    put_cases (Some e) h = inl (replaced e h)

    -- another object's entry stays where one is put, or is pushed out
    pub lookup-put : (lookup (nat_eq y) (put_entries nat_eq c x v) ≡ lookup (nat_eq y) c.entries) ⊎ (lookup (nat_eq y) (put_entries nat_eq c x v) ≡ None)
    lookup-put = put_cases (lookup_entry (nat_eq x) c.entries) refl

    roomy_cases : (length c.entries < c.cap) ⊎ IsSome (lookup (nat_eq x) c.entries) → (o : Option (ℕ × X)) → lookup_entry (nat_eq x) c.entries ≡ o → lookup (nat_eq y) (put c x v o) ≡ lookup (nat_eq y) c.entries
    roomy_cases (inl room) None h = added ∙ ap (lookup (nat_eq y)) (take_all (c.cap - 1) c.entries (omega (arith, room)))
    roomy_cases (inr there) None h = absurd (true≢false (sym there ∙ ap is_some (looked_up (nat_eq x) c.entries ∙ ap (option_map (λ e. e.1)) h)))
    roomy_cases r (Some e) h = replaced e h

    -- none is pushed out where there is room, or where x is there
    pub lookup-put-roomy : (length c.entries < c.cap) ⊎ IsSome (lookup (nat_eq x) c.entries) → lookup (nat_eq y) (put_entries nat_eq c x v) ≡ lookup (nat_eq y) c.entries
    lookup-put-roomy r = roomy_cases r (lookup_entry (nat_eq x) c.entries) refl

module _ {X : Type 0} (x : ℕ) (es : List (ℕ × X)) where
  abbrev to_front : Option (ℕ × X) → List (ℕ × X)
  to_front o = option_map_or (λ e. e ∷ remove_entry (nat_eq x) es) o es

  at_front : (y : ℕ) (e : ℕ × X) → lookup_entry (nat_eq x) es ≡ Some e → (b : Bool) → nat_eq x y ≡ b → lookup (nat_eq y) (to_front (Some e)) ≡ lookup (nat_eq y) es
  at_front y e h true same = let passed = passes (nat_eq x) es e h in
      subst (λ z. lookup (nat_eq z) (to_front (Some e)) ≡ lookup (nat_eq z) es) (eqb-true x y same)
      (ap (λ b. cond b (Some e.1) (lookup (nat_eq x) (remove_entry (nat_eq x) es))) passed ∙ sym (looked_up (nat_eq x) es ∙ ap (option_map (λ f. f.1)) h))
  at_front y e h false apart =
      ap (λ b. cond b (Some e.1) (lookup (nat_eq y) (remove_entry (nat_eq x) es))) (other x y e.0 apart (passes (nat_eq x) es e h)) ∙ lookup-removed x y apart es

  front_cases : (y : ℕ) (o : Option (ℕ × X)) → lookup_entry (nat_eq x) es ≡ o → lookup (nat_eq y) (to_front o) ≡ lookup (nat_eq y) es
  front_cases y None h = refl
  front_cases y (Some e) h = at_front y e h (nat_eq x y) refl

  -- each look-up finds the same once an entry is moved to the front
  pub lookup-promoted : (y : ℕ) → lookup (nat_eq y) (promoted (nat_eq x) es) ≡ lookup (nat_eq y) es
  lookup-promoted y = front_cases y (lookup_entry (nat_eq x) es) refl

  length_cases : (o : Option (ℕ × X)) → lookup_entry (nat_eq x) es ≡ o → length (to_front o) ≡ length es
  length_cases None h = refl
  length_cases (Some e) h = length-removed (nat_eq x) es e h

  pub length-promoted : length (promoted (nat_eq x) es) ≡ length es
  length-promoted = length_cases (lookup_entry (nat_eq x) es) refl

  used_cases : (o : Option (ℕ × X)) → lookup_entry (nat_eq x) es ≡ o → to_front o ≡ option_map_or (λ v. (x, v) ∷ remove_entry (nat_eq x) es) (option_map (λ e. e.1) o) es
  used_cases None h = refl
  used_cases (Some e) h = ap (λ k. (k, e.1) ∷ remove_entry (nat_eq x) es) (sym (eqb-true x e.0 (passes (nat_eq x) es e h)))

  -- an entry is moved to the front under its object
  pub promoted-used : promoted (nat_eq x) es ≡ option_map_or (λ v. (x, v) ∷ remove_entry (nat_eq x) es) (lookup (nat_eq x) es) es
  promoted-used = used_cases (lookup_entry (nat_eq x) es) refl ∙ ap (λ o. option_map_or (λ v. (x, v) ∷ remove_entry (nat_eq x) es) o es) (sym (looked_up (nat_eq x) es))

module _ {X : Type 0} (c : LruCache ℕ X) (x : ℕ) (v : X) (some : 0 < c.cap) where
  front_of : (n : ℕ) (es : List (ℕ × X)) → 0 < n → (x, v) ∷ take (n - 1) es ≡ take n ((x, v) ∷ es)
  front_of zero es h = absurd (omega (arith, h))
  front_of (suc n) es h = ap (λ k. (x, v) ∷ take k es) (omega arith)

  order_cases : (o : Option (ℕ × X)) → lookup_entry (nat_eq x) c.entries ≡ o → length (put c x v o) ≤ c.cap → put c x v o ≡ take c.cap ((x, v) ∷ remove_entry (nat_eq x) c.entries)
  order_cases None h within = front_of c.cap c.entries some ∙ ap (λ l. take c.cap ((x, v) ∷ l)) (sym (removed_absent (nat_eq x) c.entries h))
  order_cases (Some e) h within =
      ap (λ k. (k, v) ∷ remove_entry (nat_eq x) c.entries) (sym (eqb-true x e.0 (passes (nat_eq x) c.entries e h))) ∙ sym (take_all c.cap ((x, v) ∷ remove_entry (nat_eq x) c.entries) within)

  -- the entry put is in front of the others, and the last leaves where there are too many
  pub put-order : length (put_entries nat_eq c x v) ≤ c.cap → put_entries nat_eq c x v ≡ take c.cap ((x, v) ∷ remove_entry (nat_eq x) c.entries)
  put-order = order_cases (lookup_entry (nat_eq x) c.entries) refl
