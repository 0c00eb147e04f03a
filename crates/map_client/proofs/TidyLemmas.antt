-- Tidying, as calls find it page by page.
use Rattle.std.proofs.Common.{◌≡◌, ◌≤◌, ◌<◌, refl, sym, ap, ◌∙◌, subst, ℕ, zero, suc, ◌+◌, ◌-◌, ◌==◌, Bool, true, false, if◌then◌else◌, Option, None, Some, Result, Ok, Err, List, [], ◌∷◌, map, length, option_map, arith}
use Rattle.std.specs.Prelude.{◌&&◌, is_some, option_and_then}
use Rattle.std.proofs.lemmas.Bool.{cond-true, eqb-true}
use Rattle.std.proofs.lemmas.List.{map-append}
use Rattle.oper_core.specs.State.{State}
use Rattle.oper_core.specs.Meaning.{after}
use Rattle.oper_core.specs.declared.bounds.Bounds.{Bounds}
use Rattle.formats.specs.Objects.{bounds_of}
use Rattle.formats.specs.declared.params.Params.{Params}
use Rattle.key_entries.specs.EntryLaws.{if_some, same_some, true_both}
use Rattle.call_plans.specs.Laws.{after_all}
use Rattle.call_plans.specs.Plan.{Plan, refused_by}
use Rattle.op_codec.specs.AllOps.{all_meaning, page}
use Rattle.page_ops.specs.Operation.{page_meaning}
use Rattle.page_ops.specs.Reading.{count_in, level_in, opens, under}
use Rattle.page_ops.specs.declared.page_op.PageOp.{PageOp}
use Rattle.page_map.specs.Deletes as deletes
use Rattle.page_map.specs.Deletes.{by_tidying, child_goes, delete_by, else_root, front_at, gives_way, leaf_goes, on_way, root_goes, tidied, tidy_from, tidy_plan, tidy_turn, when_empty}
use Rattle.page_map.specs.Map.{bytes_at}
use Rattle.page_map.specs.Ranges as ranges
use Rattle.page_map.specs.Steps.{Step, before_in, beside_in, both_under, ended, next_end, only_child, step_in, step_to, step_under, with_beside}
use Rattle.page_map.specs.Walk.{child_in, is_on}
use Rattle.page_map.specs.declared.beside.Beside.{Beside}
use Rattle.page_map.specs.declared.beside.Beside.TheVariants.{Next, Before, Only}
use Rattle.page_map.specs.declared.refusal.MapRefusal.{MapRefusal}
use Rattle.range_calls.specs.Answers as answers
use Rattle.range_calls.specs.RoundLaws.{and_then, begins_behind, tried_append}
use Rattle.range_calls.specs.Rounds.{behind, by_round, in_rounds, rounds_from, tried}
use Rattle.range_calls.specs.Store.{Command, meaning_in, state_of}
use Rattle.range_calls.specs.declared.call_err.CallErr.TheVariants.{Refused}
use Rattle.range_calls.specs.declared.round.Round.{Round}
use Rattle.map_client.specs.Answers.{MapErr, bad_map, or_bad, told}
use Rattle.map_client.specs.Changing.{closed_by, delete_comes, delete_made, delete_of, in_store, made_unless, out_plan, tidy_made}
use Rattle.map_client.specs.Ranging.{step_on}
use Rattle.map_client.specs.Reading.{level_of}
use Rattle.map_client.specs.Tidying.{StandsIn, both_on, leaf_at, leaf_turn, only_child_of, stored, taken_on, takes_on}
use Rattle.map_client.specs.Turning.{tidy_round}
use Rattle.map_client.specs.declared.call_refusal.CallRefusal.{CallRefusal}
use Rattle.map_client.specs.declared.call_refusal.CallRefusal.TheVariants.{Map}
use Rattle.map_client.proofs.SetLemmas.{after_pages, level_is}
use Rattle.map_client.proofs.WalkLemmas.{child_within, none_opens, was_bad}

pub some_level : (level : ℕ) → (level ≡ 0 → ⊥) → 0 < level
some_level zero some = absurd (some refl)
some_level (suc n) some = omega arith

-- what is found ends at a bad object
pub bad_stored : (r : Result (List PageOp) ℕ) (e : MapErr) → told r ≡ Err e → Err e ≡ stored r
bad_stored (Ok ops) e is = cc
bad_stored (Err bad) e is = let same : e ≡ bad_map bad = cc is in ap (λ (x : MapErr). (let r : Result (List Command) MapErr = Err x in r)) same

module _ (lo hi : ℕ) (bytes : List ℕ) (to : Option (List ℕ)) where
  kept_child : (i child : ℕ) (o : Option (Option (List ℕ))) (step : Step) → option_map (step_to bytes i child) o ≡ Some step → child ≡ step.object
  kept_child i child None step e = cc
  kept_child i child (Some end) step e = ap (λ (x : Step). x.object) (same_some (step_to bytes i child end) step e)

  in_within : (i : ℕ) (o : Option ℕ) → ((c : ℕ) → o ≡ Some c → c ≤ hi) → (step : Step) → option_and_then (λ child. option_map (step_to bytes i child) (next_end bytes to i)) o ≡ Some step → step.object ≤ hi
  in_within i None within step e = cc
  in_within i (Some c) within step e = subst (λ (y : ℕ). y ≤ hi) (kept_child i c (next_end bytes to i) step e) (within c refl)

  under_within : (o : Option ℕ) (step : Step) → option_and_then (step_in lo hi bytes to) o ≡ Some step → step.object ≤ hi
  under_within None step e = cc
  under_within (Some i) step e = in_within i (child_in lo hi bytes i) (λ c is. child_within lo hi bytes (Some i) c is) step e

  -- a step goes to an object of the range
  pub step_within : (level : ℕ) (key : List ℕ) (step : Step) → step_on lo hi level bytes to key ≡ Some step → step.object ≤ hi
  step_within level key step is = under_within (under bytes key) step (if_some (is_on level bytes) (step_under lo hi bytes to key) step is).1

  named_before : (o : Option ℕ) → ((c : ℕ) → o ≡ Some c → c ≤ hi) → (beside : Beside) → option_map Before o ≡ Some beside → StandsIn hi beside
  named_before None within beside e = cc
  named_before (Some c) within beside e = subst (StandsIn hi) (same_some (Before c) beside e) (within c refl)

  before_within : (i : ℕ) (beside : Beside) → before_in lo hi bytes i ≡ Some beside → StandsIn hi beside
  before_within zero beside e = subst (StandsIn hi) (same_some Only beside e) tt
  before_within (suc i) beside e = named_before (child_in lo hi bytes i) (λ c is. child_within lo hi bytes (Some i) c is) beside e

  named_next : (o : Option ℕ) (beside : Beside) → option_map Next o ≡ Some beside → StandsIn hi beside
  named_next None beside e = cc
  named_next (Some c) beside e = subst (StandsIn hi) (same_some (Next c) beside e) tt

  beside_within : (i : ℕ) (t : Bool) (beside : Beside) → beside_in lo hi bytes i t ≡ Some beside → StandsIn hi beside
  beside_within i true beside e = named_next (child_in lo hi bytes (suc i)) beside e
  beside_within i false beside e = before_within i beside e

  pair_within : (first : Step) → first.object ≤ hi → (o : Option Beside) → ((b : Beside) → o ≡ Some b → StandsIn hi b) → (step : Step) (beside : Beside) → option_map {U = Step × Beside} (λ b. (first, b)) o ≡ Some (step, beside)
      → (step.object ≤ hi) × StandsIn hi beside
  pair_within first below None within step beside e = cc
  pair_within first below (Some b) within step beside e =
      let same : (first, b) ≡ (step, beside) = same_some (first, b) (step, beside) e in
      (subst (λ (x : Step). x.object ≤ hi) (ap (λ (x : Step × Beside). x.0) same) below, subst (StandsIn hi) (ap (λ (x : Step × Beside). x.1) same) (within b refl))

  by_step : (o : Option Step) → ((x : Step) → o ≡ Some x → x.object ≤ hi) → (step : Step) (beside : Beside) → option_and_then (with_beside lo hi bytes to) o ≡ Some (step, beside) → (step.object ≤ hi) × StandsIn hi beside
  by_step None within step beside e = cc
  by_step (Some first) within step beside e =
      pair_within first (within first refl) (beside_in lo hi bytes first.place (is_some first.end)) (λ b is. beside_within first.place (is_some first.end) b is) step beside e

  pub both_within : (key : List ℕ) (step : Step) (beside : Beside) → both_on lo hi bytes to key ≡ Some (step, beside) → (step.object ≤ hi) × StandsIn hi beside
  both_within key step beside is =
      by_step (step_under lo hi bytes to key) (λ x e. under_within (under bytes key) x e) step beside (if_some (is_on 1 bytes) (both_under lo hi bytes to key) (step, beside) is).1

pub some_mapped : {T U : Type 0} (f : T → U) (o : Option T) → is_some o ≡ is_some (option_map f o)
some_mapped f None = refl
some_mapped f (Some x) = refl

-- what is read in the page above a leaf, part by part
pub both_is : (lo hi : ℕ) (bytes opened : List ℕ) (to : Option (List ℕ)) (key : List ℕ) (step : Step) (beside : Option Beside) → is_on 1 bytes ≡ true → opened ≡ bytes → Some step ≡ step_under lo hi opened to key
    → beside ≡ beside_in lo hi opened step.place (is_some step.end) → option_map (λ b. (step, b)) beside ≡ both_on lo hi bytes to key
both_is lo hi bytes opened to key step beside on same is also =
    ap (option_map (λ b. (step, b))) also ∙ ap (option_and_then (with_beside lo hi opened to)) is
    ∙ ap (λ (l : List ℕ). both_under lo hi l to key) same ∙ sym (cond-true (is_on 1 bytes) (both_under lo hi bytes to key) None on)

module _ (lo hi : ℕ) (s : State) where
  abbrev at : ℕ → List ℕ
  at x = bytes_at lo s x

  module _ (key : List ℕ) where
    abbrev way : ℕ → ℕ → Option (List ℕ) → Result (List PageOp) ℕ
    way level x to = tidy_from lo hi s key level x to

    way_found : (level x : ℕ) (to : Option (List ℕ)) (step : Step) → step_on lo hi (suc (suc level)) (at x) to key ≡ Some step → way (suc (suc level)) x to ≡ way (suc level) step.object (ended to step.end)
    way_found level x to step is =
        let there = if_some (is_on (suc (suc level)) (at x)) (step_under lo hi (at x) to key) step is in
        cond-true (is_on (suc (suc level)) (at x)) (on_way (way (suc level)) x to (step_under lo hi (at x) to key)) (Err x) there.0
        ∙ ap (on_way (way (suc level)) x to) there.1

    way_bad : (level x : ℕ) (to : Option (List ℕ)) → step_on lo hi (suc (suc level)) (at x) to key ≡ None → way (suc (suc level)) x to ≡ Err x
    way_bad level x to is =
        elim (is_on (suc (suc level)) (at x)) as (λ t. (if t then step_under lo hi (at x) to key else None) ≡ None
        → (if t then on_way (way (suc level)) x to (step_under lo hi (at x) to key) else Err x) ≡ Err x) [
          | true ↦ λ e. ap (on_way (way (suc level)) x to) e
          | false ↦ λ e. refl
        ] is

    module _ (levels i x : ℕ) (to : Option (List ℕ)) (left : i < levels - 1) where
      two_more : levels - i ≡ suc (suc (levels - (i + 2)))
      two_more = omega (arith, left)

      one_more : levels - (i + 1) ≡ suc (levels - (i + 2))
      one_more = omega (arith, left)

      -- so many levels above the leaf the way goes on, or meets a bad page
      pub goes_below : (step : Step) → step_on lo hi (levels - i) (at x) to key ≡ Some step → way (levels - i) x to ≡ way (levels - (i + 1)) step.object (ended to step.end)
      goes_below step is =
          ap (λ (n : ℕ). way n x to) two_more
          ∙ way_found (levels - (i + 2)) x to step (ap (λ (n : ℕ). step_on lo hi n (at x) to key) (sym two_more) ∙ is)
          ∙ ap (λ (n : ℕ). way n step.object (ended to step.end)) (sym one_more)

      pub meets_bad : (e : MapErr) → step_on lo hi (levels - i) (at x) to key ≡ None → e ≡ bad_map x → told (way (levels - i) x to) ≡ Err e
      meets_bad e is same =
          ap (λ (n : ℕ). told (way n x to)) two_more
          ∙ ap told (way_bad (levels - (i + 2)) x to (ap (λ (n : ℕ). step_on lo hi n (at x) to key) (sym two_more) ∙ is))
          ∙ ap (λ (o : MapErr). Err o) (sym same)

    -- the leaf under the page above it
    as_read : (q : ℕ) (step : Step) (beside : Beside) → gives_way lo hi s q step beside ≡ gives_way lo hi s q (leaf_at step.place step.object step.from) beside
    as_read q step Only = refl
    as_read q step (Next other) = refl
    as_read q step (Before other) = refl

    pub leaf_found : (x : ℕ) (to : Option (List ℕ)) (step : Step) (beside : Beside) → both_on lo hi (at x) to key ≡ Some (step, beside)
        → way 1 x to ≡ leaf_turn lo hi s x step.place step.object step.from (ended to step.end) beside
    leaf_found x to step beside is =
        let there = if_some (is_on 1 (at x)) (both_under lo hi (at x) to key) (step, beside) is in
        cond-true (is_on 1 (at x)) (leaf_goes lo hi s x to (both_under lo hi (at x) to key)) (Err x) there.0
        ∙ ap (leaf_goes lo hi s x to) there.1
        ∙ ap (λ (r : Result (List PageOp) ℕ). when_empty step.object r (front_at lo hi s (ended to step.end) step.object)) (as_read x step beside)

    pub leaf_bad : (x : ℕ) (to : Option (List ℕ)) → both_on lo hi (at x) to key ≡ None → way 1 x to ≡ Err x
    leaf_bad x to is =
        elim (is_on 1 (at x)) as (λ t. (if t then both_under lo hi (at x) to key else None) ≡ None
        → (if t then leaf_goes lo hi s x to (both_under lo hi (at x) to key) else Err x) ≡ Err x) [
          | true ↦ λ e. ap (leaf_goes lo hi s x to) e
          | false ↦ λ e. refl
        ] is

    -- the root is no page
    pub root_bad : (level : ℕ) → opens (at lo) ≡ false → way level lo None ≡ Err lo
    root_bad zero shut = ap (λ (t : Bool). if t && (level_in (at lo) == 0) then Ok [] else Err lo) shut
    root_bad (suc zero) shut = ap (λ (t : Bool). if t && (level_in (at lo) == 1) then leaf_goes lo hi s lo None (both_under lo hi (at lo) None key) else Err lo) shut
    root_bad (suc (suc level)) shut =
        ap (λ (t : Bool). if t && (level_in (at lo) == suc (suc level)) then on_way (way (suc level)) lo None (step_under lo hi (at lo) None key) else Err lo) shut

  -- a leaf with cells, and one without
  module _ (above place object : ℕ) (from : List ℕ) (to : Option (List ℕ)) (beside : Beside) where
    abbrev turn : Result (List PageOp) ℕ
    turn = leaf_turn lo hi s above place object from to beside

    abbrev given : Result (List PageOp) ℕ
    given = gives_way lo hi s above (leaf_at place object from) beside

    full : (count : ℕ) → (count ≡ 0 → ⊥) → when_empty object given (Some count) ≡ Ok []
    full zero some = absurd (some refl)
    full (suc n) some = refl

    pub turn_full : (count : ℕ) → (count ≡ 0 → ⊥) → front_at lo hi s to object ≡ Some count → turn ≡ Ok []
    turn_full count some is = ap (when_empty object given) is ∙ full count some

    pub turn_empty : (count : ℕ) → count ≡ 0 → front_at lo hi s to object ≡ Some count → turn ≡ given
    turn_empty count none is = ap (when_empty object given) is ∙ ap (λ (n : ℕ). when_empty object given (Some n)) none

    pub turn_bad : front_at lo hi s to object ≡ None → turn ≡ Err object
    turn_bad is = ap (when_empty object given) is

  -- commands that are found in a page, or the object as a bad one
  abbrev pub stored_at : ℕ → Option (List PageOp) → Result (List Command) MapErr
  stored_at x o = or_bad x (option_map (map page) o)

  as_found : (x : ℕ) (o : Option (List PageOp)) → stored (ranges.or_bad x o) ≡ stored_at x o
  as_found x None = refl
  as_found x (Some ops) = refl

  pub other_is : (above place object other : ℕ) (from : List ℕ) → stored (gives_way lo hi s above (leaf_at place object from) (Before other)) ≡ stored_at other (takes_on above (place - 1) other object (at other) from)
  other_is above place object other from = as_found other (takes_on above (place - 1) other object (at other) from)

  pub taken_is : (level child : ℕ) → stored (child_goes lo hi s level (Some (Some child))) ≡ stored_at child (taken_on level lo child (at child))
  taken_is level child =
      elim (is_on level (at child)) as (λ t. stored (if t then Ok (deletes.root_takes lo child (count_in (at child))) else Err child) ≡ stored_at child (if t then Some (deletes.root_takes lo child (count_in (at child))) else None)) [
        | true ↦ refl
        | false ↦ refl
      ]

  -- the root and its one child
  root_step : (levels : ℕ) → 0 < levels → root_goes lo hi s levels ≡ child_goes lo hi s (levels - 1) (only_child lo hi (at lo))
  root_step zero some = absurd (omega (arith, some))
  root_step (suc n) some = ap (λ (m : ℕ). child_goes lo hi s m (only_child lo hi (at lo))) (let less : n ≡ suc n - 1 = omega arith in less)

  pub root_found : (levels : ℕ) → 0 < levels → opens (at lo) ≡ true → (o : Option (Option ℕ)) → only_child_of lo hi (at lo) ≡ o → root_goes lo hi s levels ≡ child_goes lo hi s (levels - 1) o
  root_found levels some opened o is =
      root_step levels some ∙ ap (child_goes lo hi s (levels - 1)) (sym (cond-true (opens (at lo)) (only_child lo hi (at lo)) None opened) ∙ is)

  named_child : (o : Option ℕ) → ((c : ℕ) → o ≡ Some c → c ≤ hi) → (child : ℕ) → option_map Some o ≡ Some (Some child) → child ≤ hi
  named_child None within child e = cc
  named_child (Some c) within child e = subst (λ (y : ℕ). y ≤ hi) (same_some c child (same_some (Some c) (Some child) e)) (within c refl)

  pub only_within : (child : ℕ) → only_child_of lo hi (at lo) ≡ Some (Some child) → child ≤ hi
  only_within child is = by_count (count_in (at lo) == 1) (if_some (opens (at lo)) (only_child lo hi (at lo)) (Some child) is).1
    where
      by_count : (t : Bool) → (if t then option_map Some (child_in lo hi (at lo) 0) else Some None) ≡ Some (Some child) → child ≤ hi
      by_count true e = named_child (child_in lo hi (at lo) 0) (λ c same. child_within lo hi (at lo) (Some 0) c same) child e
      by_count false e = cc

  -- a round, by what is found
  abbrev pub round_told : Result (List Command) MapErr → Result Round MapErr
  round_told (Ok ops) = Ok (record { ops = ops; last = false })
  round_told (Err e) = Err e

  pub as_round : (r : Result (List PageOp) ℕ) → round_told (stored r) ≡ answers.told (tidy_round r)
  as_round (Ok ops) = refl
  as_round (Err bad) = refl

  module _ (level : ℕ) where
    pub leaf_round : (r : Result (List PageOp) ℕ) (ops : List Command) → Ok ops ≡ stored r → (length ops == 0) ≡ false → round_told (Ok ops) ≡ answers.told (tidy_round (else_root lo hi s level r))
    leaf_round (Err bad) ops is some = cc
    leaf_round (Ok []) ops is some = let none : ops ≡ [] = cc is in absurd (true_is_not (ap (λ (l : List Command). length l == 0) (sym none) ∙ some))
      where
        true_is_not : true ≡ false → ⊥
        true_is_not e = cc e
    leaf_round (Ok (op ∷ l)) ops is some = ap round_told is

    pub leaf_none : (r : Result (List PageOp) ℕ) (ops : List Command) → Ok ops ≡ stored r → (length ops == 0) ≡ true → else_root lo hi s level r ≡ root_goes lo hi s level
    leaf_none (Err bad) ops is none = cc
    leaf_none (Ok []) ops is none = refl
    leaf_none (Ok (op ∷ l)) ops is none =
        let more : ops ≡ page op ∷ map page l = cc is in
        let long : length ops ≡ suc (length (map page l)) = ap (λ (c : List Command). length c) more in
        let short = eqb-true (length ops) 0 none in
        absurd (omega (arith, long, short))

    pub leaf_ends : (r : Result (List PageOp) ℕ) (e : MapErr) → Err e ≡ stored r → round_told (Err e) ≡ answers.told (tidy_round (else_root lo hi s level r))
    leaf_ends (Err bad) e is = ap round_told is
    leaf_ends (Ok ops) e is = cc

module _ (b : Bounds) (lo hi : ℕ) (key : List ℕ) where
  abbrev next : State → Result Round CallRefusal
  next s = tidy_round (tidy_turn lo hi s key)

  pub rounds_are_turns : (n : ℕ) (s : State) → rounds_from (all_meaning b) next n s ≡ in_store (tidied b lo hi key n s)
  rounds_are_turns zero s = refl
  rounds_are_turns (suc n) s = by_next (tidy_turn lo hi s key) (rounds_are_turns n)
    where
      by_next : (x : Result (List PageOp) ℕ) → ((t : State) → rounds_from (all_meaning b) next n t ≡ in_store (tidied b lo hi key n t)) → by_round (λ ops. rounds_from (all_meaning b) next n (after_all (all_meaning b) s ops)) (tidy_round x)
          ≡ in_store (by_tidying (λ ops. tidied b lo hi key n (after_all (page_meaning b) s ops)) x)
      by_next (Ok ops) on =
          let rest : Plan PageOp MapRefusal = tidied b lo hi key n (after_all (page_meaning b) s ops) in
          ap (λ (t : State). behind (map page ops) (rounds_from (all_meaning b) next n t)) (after_pages b s ops)
          ∙ ap (behind (map page ops)) (on (after_all (page_meaning b) s ops))
          ∙ (λ i. record { commands = sym (map-append page ops rest.commands) i; refusal = option_map Map rest.refusal })
      by_next (Err bad) on = refl

module _ (lo hi : ℕ) (key : List ℕ) where
  -- a root that is no page, and one that is a leaf
  pub shut_turn : (s : State) (e : MapErr) → Err e ≡ or_bad lo (level_of (bytes_at lo s lo)) → Err e ≡ answers.told (tidy_round (tidy_turn lo hi s key))
  shut_turn s e is =
      let bad = was_bad lo (level_of (bytes_at lo s lo)) e is in
      let level : ℕ = level_in (bytes_at lo s lo) in
      ap (λ (x : MapErr). (let r : Result Round MapErr = Err x in r)) bad.1
      ∙ sym (ap (λ (r : Result (List PageOp) ℕ). answers.told (tidy_round (else_root lo hi s level r))) (root_bad lo hi s key level (none_opens (bytes_at lo s lo) bad.0)))

  module _ (s : State) (level : ℕ) (is : level_of (bytes_at lo s lo) ≡ Some level) where
    pub root_opens : opens (bytes_at lo s lo) ≡ true
    root_opens = (if_some (opens (bytes_at lo s lo)) (Some (level_in (bytes_at lo s lo))) level is).0

    -- the turn begins on the root's level
    pub turn_begins : tidy_turn lo hi s key ≡ else_root lo hi s level (tidy_from lo hi s key level lo None)
    turn_begins = ap (λ (n : ℕ). else_root lo hi s n (tidy_from lo hi s key n lo None)) (sym (level_is (bytes_at lo s lo) level is))

    pub leaf_turns : level ≡ 0 → Ok [] ≡ tidy_turn lo hi s key
    leaf_turns none =
        let bytes = bytes_at lo s lo in
        let on : is_on 0 bytes ≡ true = true_both (opens bytes) (level_in bytes == 0) root_opens (ap (λ (n : ℕ). n == 0) (sym (level_is bytes level is) ∙ none)) in
        sym (turn_begins ∙ ap (λ (n : ℕ). else_root lo hi s n (tidy_from lo hi s key n lo None)) none ∙ ap (else_root lo hi s 0) (cond-true (is_on 0 bytes) (Ok []) (Err lo) on))

-- in so many rounds
pub rounds_made : (lo hi : ℕ) (key : List ℕ) (p : Params) (commands : List Command) (level : ℕ) → level_of (bytes_at lo (state_of p commands) lo) ≡ Some level
    → in_rounds (λ b s. tidy_round (tidy_turn lo hi s key)) (level + 2) p commands ≡ tidy_made lo hi key p commands
rounds_made lo hi key p commands level is =
    let s : State = state_of p commands in
    ap (tried p s) (rounds_are_turns (bounds_of p) lo hi key (level + 2) s)
    ∙ ap (λ (n : ℕ). tried p s (in_store (tidied (bounds_of p) lo hi key (n + 2) s))) (level_is (bytes_at lo s lo) level is)

-- tidying that meets a bad root
pub shut_made : (lo hi : ℕ) (key : List ℕ) (p : Params) (commands : List Command) (e : MapErr) → Err e ≡ or_bad lo (level_of (bytes_at lo (state_of p commands) lo)) → tidy_made lo hi key p commands ≡ refused_by e
shut_made lo hi key p commands e is =
    let s : State = state_of p commands in
    let level : ℕ = level_in (bytes_at lo s lo) in
    let bad = was_bad lo (level_of (bytes_at lo s lo)) e is in
    let some : level + 2 ≡ suc (suc level) = omega arith in
    let turn : tidy_turn lo hi s key ≡ Err lo = ap (else_root lo hi s level) (root_bad lo hi s key level (none_opens (bytes_at lo s lo) bad.0)) in
    ap (λ (n : ℕ). tried p s (in_store (tidied (bounds_of p) lo hi key n s))) some
    ∙ ap (λ (r : Result (List PageOp) ℕ). tried p s (in_store (by_tidying (λ ops. tidied (bounds_of p) lo hi key (suc level) (after_all (page_meaning (bounds_of p)) s ops)) r))) turn
    ∙ ap (λ (x : MapErr). (let q : Plan Command MapErr = refused_by x in q)) (sym bad.1)

module _ (lo hi : ℕ) (key : List ℕ) (p : Params) (s : State) where
  abbrev pub rest : State → Plan Command MapErr
  rest t = tried p t (in_store (tidy_plan (bounds_of p) lo hi key t))

  -- the command that takes the key out, and then those that tidy
  pub then_tidied : (found : Result (Option PageOp) ℕ) → (let q = tried p s (out_plan (delete_of found)) in and_then q (rest (after_all (meaning_in p) s q.commands))) ≡ tried p s (in_store (delete_by (bounds_of p) lo hi key s found))
  then_tidied (Err bad) = refl
  then_tidied (Ok None) = refl
  then_tidied (Ok (Some op)) =
      let t : State = after (page_meaning (bounds_of p)) s op in
      let q : Plan Command CallRefusal = in_store (tidy_plan (bounds_of p) lo hi key t) in
      begins_behind p s (page op ∷ []) rest ∙ tried_append p s (page op ∷ []) q.commands (option_map Refused q.refusal)

module _ (lo hi : ℕ) (key : List ℕ) (p : Params) (commands : List Command) where
  -- what comes of a delete where the store is closed, and where it is open
  pub closed_comes : (refusal : CallRefusal) → closed_by (bounds_of p) hi ≡ Some refusal → delete_comes lo hi key p commands ≡ refused_by (Refused refusal)
  closed_comes refusal is = ap (λ (o : Option CallRefusal). made_unless o (delete_made lo hi key p commands)) is

  pub open_comes : closed_by (bounds_of p) hi ≡ None → delete_comes lo hi key p commands ≡ delete_made lo hi key p commands
  open_comes is = ap (λ (o : Option CallRefusal). made_unless o (delete_made lo hi key p commands)) is
