-- A check of a range, page by page.
use Rattle.std.proofs.Common.{◌≡◌, ◌<◌, ◌≤◌, ◌==◌, ℕ, Bool, true, false, ◌&&◌, Result, Ok, Err, List, ap}
use Rattle.std.specs.Prelude.{nat_le, nat_lt}
use Rattle.std.proofs.lemmas.Bool.{cond-false, cond-true, le-ltb, leb-true, lt-ltb}
use Rattle.oper_core.specs.State.{State}
use Rattle.oper_core.specs.declared.bounds.Bounds.{Bounds}
use Rattle.key_entries.specs.EntryLaws.{both_true}
use Rattle.page_map.specs.Checks.{Checking, Met, check, fits, is_met, is_new}
use Rattle.page_map.specs.Map.{Range, times}
use Rattle.page_map.specs.declared.awaited.Awaited.{Awaited}
use Rattle.range_calls.specs.declared.call_err.CallErr.TheVariants.{Refused}
use Rattle.map_client.specs.Answers.{MapErr, told}
use Rattle.map_client.specs.Checking.{check_told, counts}
use Rattle.map_client.specs.declared.call_refusal.CallRefusal.TheVariants.{NoObject}

-- an object that was met before
pub unmet : (x : Awaited) (bytes : List ℕ) (c : Checking) → is_new c.range c.met.objects x.object ≡ false → is_met x bytes c ≡ false
unmet x bytes c e = ap (λ (t : Bool). t && fits c.range x bytes) e

pub check_past : (b : Bounds) (range : Range) (s : State) → b.objects ≤ range.hi → check_told b range s ≡ Err (Refused NoObject)
check_past b range s past = cond-false (nat_lt range.hi b.objects) (told (counts (check range s))) (Err (Refused NoObject)) (le-ltb range.hi b.objects past)

pub check_within : (b : Bounds) (range : Range) (s : State) → range.hi < b.objects → check_told b range s ≡ told (counts (check range s))
check_within b range s within = cond-true (nat_lt range.hi b.objects) (told (counts (check range s))) (Err (Refused NoObject)) (lt-ltb range.hi b.objects within)

-- a bad object is told as one
pub bad_told : (r : Result Met ℕ) (e : MapErr) → told r ≡ Err e → told (counts r) ≡ Err e
bad_told (Ok met) e is = cc
bad_told (Err bad) e is = cc is

-- a new object is one of the range
pub in_range : (range : Range) (met : List ℕ) (x : ℕ) → is_new range met x ≡ true → x ≤ range.hi
in_range range met x e = leb-true x range.hi (both_true (nat_le x range.hi) (times x met == 0) (both_true (nat_le range.lo x) (nat_le x range.hi && (times x met == 0)) e).1).0

pub not_ok : {A : Type 0} (e : MapErr) (a : A) → ◌≡◌ {A = Result A MapErr} (Err e) (Ok a) → ⊥
not_ok e a is = cc

-- the level that is told
pub level_told : (n m : ℕ) → ◌≡◌ {A = Result ℕ MapErr} (Ok n) (Ok m) → n ≡ m
level_told n m e = ap (λ (r : Result ℕ MapErr). number r) e
  where
    number : Result ℕ MapErr → ℕ
    number (Ok k) = k
    number (Err bad) = n
