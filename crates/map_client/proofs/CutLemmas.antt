-- The page that is cut, as it is searched for.
use Rattle.std.proofs.Common.{◌≡◌, ap, ◌∙◌, ℕ, suc, ◌+◌, ◌-◌, Option, None, Some, Result, Ok, Err, List, ◌∷◌, take, arith}
use Rattle.std.specs.Prelude.{⊤}
use Rattle.oper_core.specs.State.{State}
use Rattle.call_plans.specs.Free.{free_from}
use Rattle.page_map.specs.Cutting.{GoesOn, two_of}
use Rattle.page_map.specs.Sets.{cut_turn}
use Rattle.page_map.specs.Splits.{Due}
use Rattle.page_map.specs.declared.descent.Descent.{Descent}
use Rattle.page_map.specs.declared.further.Further.{Further}
use Rattle.page_map.specs.declared.further.Further.TheVariants.{Bad, On, Found}
use Rattle.range_calls.specs.Answers as answers
use Rattle.range_calls.specs.Free.{IsLeastFree, free_between}
use Rattle.range_calls.specs.declared.round.Round.{Round}
use Rattle.map_client.specs.Answers.{MapErr, bad_map, told}
use Rattle.map_client.specs.Turning.{GoesDown, round_of}

pub goes_down : (room lo hi : ℕ) (s : State) (key value : List ℕ) (d : Descent) (f : Further) → GoesOn room lo hi s key value d f → GoesDown hi d f
goes_down room lo hi s key value d Bad goes = tt
goes_down room lo hi s key value d (On next) goes = (goes.1, goes.2)
goes_down room lo hi s key value d (Found due) goes = tt

-- a search that meets a bad object
pub cut_bad : (lo : ℕ) (free : List ℕ) (due : Result Due ℕ) (e : MapErr) → told due ≡ Err e → Err e ≡ answers.told (round_of (cut_turn lo free due))
cut_bad lo free (Ok due) e is = cc
cut_bad lo free (Err bad) e is = let same : e ≡ bad_map bad = cc is in ap (λ (x : MapErr). (let r : Result Round MapErr = Err x in r)) same

module _ (s : State) (hi : ℕ) where
  -- the first two free objects
  abbrev Second : Option ℕ → Option ℕ → Type 0
  Second None second = ⊤
  Second (Some x) second = IsLeastFree s (x + 1) hi second

  second_is : (x : ℕ) (second : Option ℕ) → IsLeastFree s (x + 1) hi second → take 2 (x ∷ free_between s (suc x) hi) ≡ two_of (Some x) second
  second_is x None is = ap (λ (l : List ℕ). take 2 (x ∷ l)) (ap (λ (y : ℕ). free_between s y hi) (let next : suc x ≡ x + 1 = omega arith in next) ∙ is)
  second_is x (Some y) is = ap (λ (l : List ℕ). take 2 (x ∷ l)) (ap (λ (z : ℕ). free_between s z hi) (let next : suc x ≡ x + 1 = omega arith in next) ∙ is)

  by_first : (lo : ℕ) (first second : Option ℕ) → IsLeastFree s (lo + 1) hi first → Second first second → take 2 (free_between s (lo + 1) hi) ≡ two_of first second
  by_first lo None second is more = ap (take 2) is
  by_first lo (Some x) second is more = ap (take 2) is ∙ second_is x second more

  pub first_two : (lo : ℕ) (first second : Option ℕ) → IsLeastFree s (lo + 1) hi first → Second first second → take 2 (free_from s (suc lo) (hi - lo)) ≡ two_of first second
  first_two lo first second is more =
      let next : suc lo ≡ lo + 1 = omega arith in
      let count : hi - lo ≡ suc hi - (lo + 1) = omega arith in
      ap (λ (n : ℕ). take 2 (free_from s (suc lo) n)) count ∙ ap (λ (x : ℕ). take 2 (free_from s x (suc hi - (lo + 1)))) next ∙ by_first lo first second is more
