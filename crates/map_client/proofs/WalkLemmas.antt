-- The way to a leaf, one page after the other.
use Rattle.std.proofs.Common.{◌≡◌, ◌≤◌, ◌<◌, refl, sym, ap, ◌∙◌, subst, ℕ, zero, suc, ◌+◌, ◌-◌, ◌==◌, Bool, true, false, if◌then◌else◌, Option, None, Some, Result, Ok, Err, List, arith}
use Rattle.std.specs.Prelude.{◌&&◌, nat_le, nat_lt, IfErr, IfSome}
use Rattle.std.proofs.lemmas.Bool.{cond-false, cond-true, leb-true, le-ltb, lt-ltb}
use Rattle.oper_core.specs.State.{State}
use Rattle.oper_core.specs.declared.bounds.Bounds.{Bounds}
use Rattle.key_entries.specs.EntryLaws.{both_true, if_some, same_some}
use Rattle.page_ops.specs.Reading.{child_of, found_in, level_in, opens, under}
use Rattle.page_map.specs.Map.{bytes_at, is_child}
use Rattle.page_map.specs.Walk.{child_for, get_answer, get_at, get_in, is_on, names_child, on_from, walk, walk_from}
use Rattle.range_calls.specs.declared.call_err.CallErr.TheVariants.{Refused}
use Rattle.map_client.specs.Answers.{MapErr, bad_map, get_told, or_bad, told}
use Rattle.map_client.specs.declared.call_refusal.CallRefusal.TheVariants.{NoObject}
use Rattle.map_client.specs.Reading.{child_on, found_on, level_of}

-- what an answer says of what was read
pub was_read : {T : Type 0} (x : ℕ) (o : Option T) (found : T) → Ok found ≡ or_bad x o → o ≡ Some found
was_read x None found is = cc
was_read x (Some other) found is = cc is

pub was_bad : {T : Type 0} (x : ℕ) (o : Option T) (e : MapErr) → Err e ≡ or_bad x o → (o ≡ None) × (e ≡ bad_map x)
was_bad x None e is = (refl, cc is)
was_bad x (Some other) e is = cc

pub if_err_then : {X Y : Type 0} (r : Result X Y) (P Q : Y → Type 0) → ((y : Y) → P y → Q y) → IfErr r P → IfErr r Q
if_err_then (Ok x) P Q goes holds = tt
if_err_then (Err y) P Q goes holds = goes y holds

pub none_opens : (bytes : List ℕ) → level_of bytes ≡ None → opens bytes ≡ false
none_opens bytes is = elim (opens bytes) as (λ t. (if t then Some (level_in bytes) else None) ≡ None → t ≡ false) [ true ↦ λ e. cc | false ↦ λ e. refl ] is

module _ (lo hi : ℕ) (bytes : List ℕ) where
  -- a child stands in the range
  pub child_within : (place : Option ℕ) (child : ℕ) → child_for lo hi bytes place ≡ Some child → child ≤ hi
  child_within None child e = cc
  child_within (Some i) child e =
      let c : ℕ = child_of bytes i in
      let named = if_some (names_child bytes i && is_child lo hi c) (Some c) child e in
      let inside = both_true (names_child bytes i) (is_child lo hi c) named.0 in
      subst (λ (y : ℕ). y ≤ hi) (same_some c child named.1) (leb-true c hi (both_true (nat_lt lo c) (nat_le c hi) inside.1).1)

  pub found_within : (place o : Option ℕ) → o ≡ child_for lo hi bytes place → IfSome o (λ child. child ≤ hi)
  found_within place None is = tt
  found_within place (Some child) is = child_within place child (sym is)

module _ (lo hi : ℕ) (s : State) (key : List ℕ) where
  abbrev at : ℕ → List ℕ
  at x = bytes_at lo s x

  no_page : (level x : ℕ) → opens (at x) ≡ false → walk_from lo hi s key level x ≡ Err x
  no_page zero x shut = ap (λ (t : Bool). if t && (level_in (at x) == 0) then Ok x else Err x) shut
  no_page (suc level) x shut = ap (λ (t : Bool). if t && (level_in (at x) == suc level) then on_from (walk_from lo hi s key level) x (child_for lo hi (at x) (under (at x) key)) else Err x) shut

  -- the root is no page
  pub root_bad : level_of (at lo) ≡ None → walk lo hi s key ≡ Err lo
  root_bad none = no_page (level_in (at lo)) lo (none_opens (at lo) none)

  -- the way begins on its level
  pub root_level : (level : ℕ) → level_of (at lo) ≡ Some level → walk lo hi s key ≡ walk_from lo hi s key level lo
  root_level level some =
      let begun = if_some (opens (at lo)) (Some (level_in (at lo))) level some in
      ap (λ (l : ℕ). walk_from lo hi s key l lo) (same_some (level_in (at lo)) level begun.1)

  -- it goes on below a page, or ends there
  pub child_found : (level x child : ℕ) → child_on lo hi (suc level) (at x) key ≡ Some child → walk_from lo hi s key (suc level) x ≡ walk_from lo hi s key level child
  child_found level x child is =
      let on = if_some (is_on (suc level) (at x)) (child_for lo hi (at x) (under (at x) key)) child is in
      cond-true (is_on (suc level) (at x)) (on_from (walk_from lo hi s key level) x (child_for lo hi (at x) (under (at x) key))) (Err x) on.0
      ∙ ap (on_from (walk_from lo hi s key level) x) on.1

  pub child_bad : (level x : ℕ) → child_on lo hi (suc level) (at x) key ≡ None → walk_from lo hi s key (suc level) x ≡ Err x
  child_bad level x is =
      elim (is_on (suc level) (at x)) as (λ t. (if t then child_for lo hi (at x) (under (at x) key) else None) ≡ None
      → (if t then on_from (walk_from lo hi s key level) x (child_for lo hi (at x) (under (at x) key)) else Err x) ≡ Err x) [
        | true ↦ λ e. ap (on_from (walk_from lo hi s key level) x) e
        | false ↦ λ e. refl
      ] is

  -- what is found in the leaf at its end
  pub leaf_found : (x : ℕ) (found : Option (List ℕ)) → found_on (at x) key ≡ Some found → get_at lo s key (walk_from lo hi s key 0 x) ≡ Ok found
  leaf_found x found is =
      let on = if_some (is_on 0 (at x)) (found_in (at x) key) found is in
      ap (get_at lo s key) (cond-true (is_on 0 (at x)) (Ok x) (Err x) on.0) ∙ ap (get_in key x) on.1

  pub leaf_bad : (x : ℕ) → found_on (at x) key ≡ None → get_at lo s key (walk_from lo hi s key 0 x) ≡ Err x
  leaf_bad x is =
      elim (is_on 0 (at x)) as (λ t. (if t then found_in (at x) key else None) ≡ None → get_at lo s key (if t then Ok x else Err x) ≡ Err x) [
        | true ↦ λ e. ap (get_in key x) e
        | false ↦ λ e. refl
      ] is

  -- the same with what a call has found: the root's level, or no page there
  pub begins : (level : ℕ) → Ok level ≡ or_bad lo (level_of (at lo)) → walk lo hi s key ≡ walk_from lo hi s key level lo
  begins level is = root_level level (was_read lo (level_of (at lo)) level is)

  pub begins_bad : (e : MapErr) → Err e ≡ or_bad lo (level_of (at lo)) → told (walk lo hi s key) ≡ Err e
  begins_bad e is = let bad = was_bad lo (level_of (at lo)) e is in ap told (root_bad bad.0) ∙ ap (λ (o : MapErr). Err o) (sym bad.1)

  module _ (levels step x : ℕ) where
    one_less : step < levels → levels - step ≡ suc (levels - (step + 1))
    one_less left = omega (arith, left)

    -- a child, or a bad page, so many levels above the leaf
    pub goes_below : (child : ℕ) → step < levels → Ok child ≡ or_bad x (child_on lo hi (levels - step) (at x) key)
        → walk_from lo hi s key (levels - step) x ≡ walk_from lo hi s key (levels - (step + 1)) child
    goes_below child left is =
        let less = one_less left in
        ap (λ (n : ℕ). walk_from lo hi s key n x) less
        ∙ child_found (levels - (step + 1)) x child (ap (λ (n : ℕ). child_on lo hi n (at x) key) (sym less) ∙ was_read x (child_on lo hi (levels - step) (at x) key) child is)

    pub meets_bad : (e : MapErr) → step < levels → Err e ≡ or_bad x (child_on lo hi (levels - step) (at x) key) → told (walk_from lo hi s key (levels - step) x) ≡ Err e
    meets_bad e left is =
        let less = one_less left in
        let bad = was_bad x (child_on lo hi (levels - step) (at x) key) e is in
        ap (λ (n : ℕ). told (walk_from lo hi s key n x)) less
        ∙ ap told (child_bad (levels - (step + 1)) x (ap (λ (n : ℕ). child_on lo hi n (at x) key) (sym less) ∙ bad.0))
        ∙ ap (λ (o : MapErr). Err o) (sym bad.1)

  -- what a get answers: where the range ends past the last object, where the way is bad, and at the leaf
  module _ (b : Bounds) where
    pub get_past : b.objects ≤ hi → get_told b lo hi s key ≡ Err (Refused NoObject)
    get_past past = cond-false (nat_lt hi b.objects) (told (get_answer lo hi s key)) (Err (Refused NoObject)) (le-ltb hi b.objects past)

    module _ (within : hi < b.objects) where
      get_within : get_told b lo hi s key ≡ told (get_answer lo hi s key)
      get_within = cond-true (nat_lt hi b.objects) (told (get_answer lo hi s key)) (Err (Refused NoObject)) (lt-ltb hi b.objects within)

      pub get_bad : (e : MapErr) → told (walk lo hi s key) ≡ Err e → get_told b lo hi s key ≡ Err e
      get_bad e is = get_within ∙ way_bad (walk lo hi s key) is
        where
          way_bad : (r : Result ℕ ℕ) → told r ≡ Err e → told (get_at lo s key r) ≡ Err e
          way_bad (Ok x) same = cc
          way_bad (Err bad) same = cc same

      pub get_leaf : (leaf : ℕ) → walk lo hi s key ≡ walk_from lo hi s key 0 leaf → (r : Result (Option (List ℕ)) MapErr) → told (get_at lo s key (walk_from lo hi s key 0 leaf)) ≡ r → get_told b lo hi s key ≡ r
      get_leaf leaf way r is = get_within ∙ ap (λ (w : Result ℕ ℕ). told (get_at lo s key w)) way ∙ is
