-- A sweep frees what is not reached.
use Rattle.std.proofs.Common.{◌≡◌, ℕ, zero, suc, ◌+◌, ◌-◌, ◌^◌, ◌<◌, ◌≤◌, ◌==◌, Bool, true, false, not, ◌&&◌, ◌||◌, if◌then◌else◌, Result, Ok, List, [], ◌∷◌, filter, map, refl, sym, ap, ◌∙◌, subst, arith, true≢false}
use Rattle.std.specs.Prelude.{⊤, nat_le}
use Rattle.std.specs.FinMap.{from_entries}
use Rattle.std.proofs.lemmas.Bool.{eq-eqb, eqb-false, eqb-true, le-leb, leb-true}
use Rattle.oper_core.specs.State.{State}
use Rattle.oper_core.specs.Meaning.{after}
use Rattle.oper_core.specs.declared.bounds.Bounds.{Bounds}
use Rattle.key_entries.specs.EntryLaws.{both_true, true_both}
use Rattle.call_plans.specs.Free.{is_empty, objects_from}
use Rattle.call_plans.specs.Laws.{after_all}
use Rattle.page_ops.specs.Operation.{page_meaning}
use Rattle.page_ops.specs.declared.page_op.PageOp.{PageOp}
use Rattle.page_ops.specs.declared.page_op.PageOp.TheVariants.{Free}
use Rattle.page_map.specs.Checks.{Met, is_new, met_on}
use Rattle.page_map.specs.Map.{Range, Tree, content_of, objects_in, pairs_in, one_if, times}
use Rattle.page_map.specs.Plan.{Admits}
use Rattle.page_map.specs.Sets.{IsKept, Keeps}
use Rattle.page_map.specs.Sweeps.{Sweeps, is_left, left_over, sweep_behind, sweep_plan}
use Rattle.page_map.proofs.ChangeLemmas.{Changes}
use Rattle.page_map.proofs.CheckLemmas.{check_complete}
use Rattle.page_map.proofs.CutLemmas.{ReadsCells}
use Rattle.page_map.proofs.MapLemmas.{Searches, one_here}
use Rattle.page_map.proofs.OpLemmas.{free_done}
use Rattle.page_map.proofs.PlaceLemmas.{root_reached}
use Rattle.page_map.proofs.TidyLemmas.{over_free}
use Rattle.page_map.proofs.TurnLemmas.{IsTree, keeps_more, keeps_none, kept_by, tree_of}

abbrev frees : List ℕ → List PageOp
frees xs = map (λ x. Free x) xs

-- objects of a range that are not among those that are reached
abbrev AreOut : ℕ → List ℕ → List ℕ → Type 0
AreOut hi reached [] = ⊤
AreOut hi reached (x ∷ xs) = (x ≤ hi) × (times x reached ≡ 0) × AreOut hi reached xs

empty_is : (v : List ℕ) → is_empty v ≡ true → v ≡ []
empty_is [] e = refl
empty_is (b ∷ v) e = absurd (true≢false (sym e))

module _ (range : Range) (reached : List ℕ) (s : State) where
  abbrev test : ℕ → Bool
  test x = is_left range reached x (s x)

  all_out : (n a : ℕ) → AreOut range.hi reached (filter test (objects_from a n))
  all_out zero a = tt
  all_out (suc n) a =
      elim (test a) as (λ t. test a ≡ t → AreOut range.hi reached (if t then a ∷ filter test (objects_from (suc a) n) else filter test (objects_from (suc a) n))) [
        | true ↦ λ e.
            let new = (both_true (is_new range reached a) (not (is_empty (s a))) e).0 in
            let inner = both_true (nat_le range.lo a) (nat_le a range.hi && (times a reached == 0)) new in
            let last = both_true (nat_le a range.hi) (times a reached == 0) inner.1 in
            (leb-true a range.hi last.0, eqb-true (times a reached) 0 last.1, all_out n (suc a))
        | false ↦ λ e. all_out n (suc a)
      ] refl

  -- an object that is left over is among them
  is_among : (n a k : ℕ) → k < n → test (a + k) ≡ true → 1 ≤ times (a + k) (filter test (objects_from a n))
  is_among zero a k low e = absurd (omega (arith, low))
  is_among (suc n) a zero low e =
      let same : a + 0 ≡ a = omega arith in
      let here : test a ≡ true = ap test (sym same) ∙ e in
      let rest : List ℕ = filter test (objects_from (suc a) n) in
      let some : 1 ≤ times (a + 0) (a ∷ rest) = omega (arith, one_here a rest, ap (λ (x : ℕ). times x (a ∷ rest)) same) in
      subst (λ (t : Bool). 1 ≤ times (a + 0) (if t then a ∷ rest else rest)) (sym here) some
  is_among (suc n) a (suc k) low e =
      let next : suc a + k ≡ a + suc k = omega arith in
      let rest : List ℕ = filter test (objects_from (suc a) n) in
      let there : 1 ≤ times (a + suc k) rest = subst (λ (x : ℕ). 1 ≤ times x rest) next (is_among n (suc a) k (omega (arith, low)) (ap test next ∙ e)) in
      elim (test a) as (λ t. 1 ≤ times (a + suc k) (if t then a ∷ rest else rest)) [
        | true ↦ omega (arith, there)
        | false ↦ there
      ]

module _ (searches : Searches) (changes : Changes) (reads : ReadsCells) (b : Bounds) (lo hi : ℕ) (small : hi < 2 ^ 32) (admits : Admits b hi) where
  abbrev range : Range
  range = record { lo = lo; hi = hi }

  abbrev freed : State → List ℕ → State
  freed s xs = after_all (page_meaning b) s (frees xs)

  -- what each command does
  one_freed : (s : State) (x : ℕ) → x ≤ hi → (y : ℕ) → after (page_meaning b) s (Free x) y ≡ (if (y == x) || false then (if y == x then [] else []) else s y)
  one_freed s x low y = ap (λ (t : State). t y) (free_done changes b hi small admits s x low).1

  stays_empty : (s : State) (x : ℕ) → x ≤ hi → (y : ℕ) → s y ≡ [] → after (page_meaning b) s (Free x) y ≡ []
  stays_empty s x low y none =
      one_freed s x low y
      ∙ elim (y == x) as (λ t. (if t || false then (if t then [] else []) else s y) ≡ []) [ true ↦ refl | false ↦ none ]

  all_stay : (reached xs : List ℕ) (s : State) → AreOut hi reached xs → (y : ℕ) → s y ≡ [] → freed s xs y ≡ []
  all_stay reached [] s out y none = none
  all_stay reached (x ∷ xs) s out y none = all_stay reached xs (after (page_meaning b) s (Free x)) out.2 y (stays_empty s x out.0 y none)

  all_freed : (reached xs : List ℕ) (s : State) → AreOut hi reached xs → (y : ℕ) → 1 ≤ times y xs → freed s xs y ≡ []
  all_freed reached [] s out y there = absurd (omega (arith, there))
  all_freed reached (x ∷ xs) s out y there =
      elim (x == y) as (λ t. (x == y) ≡ t → freed s (x ∷ xs) y ≡ []) [
        | true ↦ λ e.
            all_stay reached xs (after (page_meaning b) s (Free x)) out.2 y
            (one_freed s x out.0 y ∙ ap (λ (t : Bool). if t || false then (if t then [] else []) else s y) (eq-eqb y x (sym (eqb-true x y e))))
        | false ↦ λ e. all_freed reached xs (after (page_meaning b) s (Free x)) out.2 y (omega (arith, there, ap one_if e))
      ] refl

  -- the pages stay
  still : (level : ℕ) (t : Tree level) (xs : List ℕ) (s : State) → AreOut hi (objects_in level t) xs → IsTree b lo hi s level t → IsTree b lo hi (freed s xs) level t
  still level t [] s out tree = tree
  still level t (x ∷ xs) s out tree =
      still level t xs (after (page_meaning b) s (Free x)) out.2 (over_free searches changes reads b lo hi small admits [] s x out.0 level t out.1 tree).1

  all_keep : (level : ℕ) (t : Tree level) (xs : List ℕ) (s : State) (is : IsKept b lo hi s) → AreOut hi (objects_in level t) xs → IsTree b lo hi s level t → from_entries (pairs_in level t) ≡ content_of is.map → Keeps b lo hi s is (frees xs)
  all_keep level t [] s is out tree same = keeps_none b lo hi s is
  all_keep level t (x ∷ xs) s is out tree same =
      let one = over_free searches changes reads b lo hi small admits [] s x out.0 level t out.1 tree in
      let next : State = after (page_meaning b) s (Free x) in
      keeps_more b lo hi s is (Free x) (frees xs) one.0 (kept_by b lo hi next level t one.1) same (all_keep level t xs next (kept_by b lo hi next level t one.1) out.2 one.1 refl)

  module _ (s : State) (is : IsKept b lo hi s) where
    abbrev reached : List ℕ
    reached = objects_in is.map.level is.map.tree

    abbrev left : List ℕ
    left = left_over range reached s

    outside : AreOut hi reached left
    outside = all_out range reached s (hi - lo) (suc lo)

    root_met : 1 ≤ times lo reached
    root_met = omega (arith, root_reached is.map.level is.map.tree, ap (λ (x : ℕ). times x reached) is.map.root)

    -- an object that is not reached is empty behind it
    swept : (x : ℕ) → lo ≤ x → x ≤ hi → times x reached ≡ 0 → freed s left x ≡ []
    swept x low high none =
        elim (is_empty (s x)) as (λ t. is_empty (s x) ≡ t → freed s left x ≡ []) [
          | true ↦ λ e. all_stay reached left s outside x (empty_is (s x) e)
          | false ↦ λ e.
              let apart : lo < x = above x low none in
              let place : suc lo + (x - suc lo) ≡ x = omega (arith, apart) in
              let new : is_new range reached x ≡ true =
              true_both (nat_le lo x) (nat_le x hi && (times x reached == 0)) (le-leb lo x low) (true_both (nat_le x hi) (times x reached == 0) (le-leb x hi high) (eq-eqb (times x reached) 0 none)) in
              let held : is_left range reached x (s x) ≡ true = true_both (is_new range reached x) (not (is_empty (s x))) new (ap not e) in
              all_freed reached left s outside x
              (subst (λ (y : ℕ). 1 ≤ times y left) place
              (is_among range reached s (hi - lo) (suc lo) (x - suc lo) (omega (arith, apart, high)) (ap (λ (y : ℕ). is_left range reached y (s y)) place ∙ held)))
        ] refl
      where
        above : (x : ℕ) → lo ≤ x → times x reached ≡ 0 → lo < x
        above x low none =
            elim (lo == x) as (λ t. (lo == x) ≡ t → lo < x) [
              | true ↦ λ e. absurd (omega (arith, root_met, none, ap (λ (y : ℕ). times y reached) (eqb-true lo x e)))
              | false ↦ λ e. omega (arith, low, eqb-false lo x e)
            ] refl

    swept_by : Sweeps b lo hi s is (sweep_behind range s (Ok (met_on is.map)))
    swept_by =
        let tree : IsTree b lo hi s is.map.level is.map.tree = tree_of b lo hi s is in
        let next = still is.map.level is.map.tree left s outside tree in
        record {
          whole = refl;
          keeps = all_keep is.map.level is.map.tree left s is outside tree refl;
          kept = kept_by b lo hi (freed s left) is.map.level is.map.tree next;
          content = refl;
          swept = swept;
        }

    pub sweep_is : Sweeps b lo hi s is (sweep_plan range s)
    sweep_is = subst (λ (r : Result Met ℕ). Sweeps b lo hi s is (sweep_behind range s r)) (sym (check_complete reads range small s is.map)) swept_by
