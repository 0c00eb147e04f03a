-- What a pace finds due is modest.
use Rattle.std.proofs.Common.{◌≡◌, ◌∙◌, ◌≤◌, ap, sym, subst, arith, ℕ, Bool, true, false, Option, None, Some}
use Rattle.std.proofs.lemmas.Bool.{le-ltb}
use Rattle.std.specs.Prelude.{◌^◌, ◌/◌, ◌==◌, ◌&&◌, ◌||◌, not, min, nat_le, nat_lt, if◌then◌else◌, IfSome}
use Rattle.formats.specs.declared.params.Params.{Params}
use Rattle.checkpointing.specs.Courses.{IsModest}
use Rattle.store_engine.specs.Paces.{charged, due_at, full_round, is_urgent, wants_trim, wants_turn}
use Rattle.store_engine.specs.declared.load.Load.{Load}
use Rattle.store_engine.specs.declared.pace.Pace.{Pace}

within : (b : Bool) (n most : ℕ) → n ≤ most → IfSome (if b then Some n else None) (λ k. k ≤ most)
within true n most le = le
within false n most le = tt

module _ (pace : Pace) (at : Load) (p : Params) where
  -- of an empty log no trim is due
  untrimmed : at.used ≡ 0 → wants_trim pace at ≡ false
  untrimmed empty = ap (λ (b : Bool). b && ((nat_le pace.from at.used || (at.uninstalled == 0)) && (is_urgent at || (nat_le at.dirty at.round && not (wants_turn pace at))))) (ap (λ (n : ℕ). nat_lt (at.limit / 3) n) empty ∙ le-ltb (at.limit / 3) 0 (omega arith))

  turn_within : at.round ≡ full_round p → IfSome (due_at pace at).turn (λ most. most ≤ full_round p)
  turn_within round = within (wants_turn pace at) at.round (full_round p) (omega (arith, round))

  pub is_modest : (copied : Option ℕ) (used : ℕ) → at.used ≡ charged copied used → at.round ≡ full_round p → IsModest p copied used (due_at pace at)
  is_modest None used is round = record {
    trim = within (wants_trim pace at) (min (2 ^ 20) (at.used / 2)) (min (2 ^ 20) (used / 2)) (subst (λ (n : ℕ). min (2 ^ 20) (at.used / 2) ≤ min (2 ^ 20) (n / 2)) is (omega arith));
    beside = tt;
    turn = turn_within round;
  }
  is_modest (Some copied) used is round =
      let none : (due_at pace at).trim ≡ None = ap (λ (b : Bool). if b then Some (min (2 ^ 20) (at.used / 2)) else None) (untrimmed is) in
      record {
        trim = subst (λ (o : Option ℕ). IfSome o (λ most. most ≤ min (2 ^ 20) (used / 2))) (sym none) tt;
        beside = none;
        turn = turn_within round;
      }
