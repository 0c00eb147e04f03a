-- What calls that were cut short have left is taken away.
use Rattle.std.proofs.Common.{◌≡◌, ◌<◌, ◌≤◌, refl, sym, ap, ◌∙◌, ℕ, suc, ◌+◌, ◌-◌, Bool, true, false, not, if◌then◌else◌, Option, None, Some, Result, Ok, Err, List, [], ◌∷◌, ◌++◌, append_assoc, append-nil, filter, length, map, arith}
use Rattle.std.specs.Prelude.{IfOk, nat_lt}
use Rattle.std.proofs.lemmas.Bool.{cond-false, cond-true, ltb-false, ltb-true}
use Rattle.formats.specs.Objects.{bounds_of}
use Rattle.formats.specs.declared.params.Params.{Params}
use Rattle.oper_core.specs.State.{State}
use Rattle.running_store.specs.Laid.Lengths.{IsFirstEmpty}
use Rattle.call_plans.specs.Free.{is_empty, objects_from}
use Rattle.call_plans.specs.Plan.{Plan, refused_by}
use Rattle.op_codec.specs.AllOps.{page}
use Rattle.page_map.specs.Checks.{Met, check}
use Rattle.page_map.specs.Map.{Range}
use Rattle.page_map.specs.Sweeps.{left_over, sweep_behind, sweep_plan}
use Rattle.page_map.specs.declared.refusal.MapRefusal.{MapRefusal}
use Rattle.page_ops.specs.declared.page_op.PageOp.{PageOp}
use Rattle.page_ops.specs.declared.page_op.PageOp.TheVariants.{Free}
use Rattle.range_calls.specs.Rounds.{tried, tried_all}
use Rattle.range_calls.specs.Store.{Command, state_of}
use Rattle.range_calls.specs.declared.call_err.CallErr.TheVariants.{Refused}
use Rattle.map_client.specs.Answers.{MapErr, told}
use Rattle.map_client.specs.Changing.{closed_by, in_store, made_unless, sweep_comes, sweep_made, tidy_comes, tidy_made}
use Rattle.map_client.specs.declared.call_refusal.CallRefusal.{CallRefusal}

module _ (lo hi : ℕ) (p : Params) (commands : List Command) where
  -- what comes of these calls where the store is closed, and where it is open
  pub closed_sweep : (refusal : CallRefusal) → closed_by (bounds_of p) hi ≡ Some refusal → sweep_comes lo hi p commands ≡ refused_by (Refused refusal)
  closed_sweep refusal is = ap (λ (o : Option CallRefusal). made_unless o (sweep_made lo hi p commands)) is

  pub open_sweep : closed_by (bounds_of p) hi ≡ None → sweep_comes lo hi p commands ≡ sweep_made lo hi p commands
  open_sweep is = ap (λ (o : Option CallRefusal). made_unless o (sweep_made lo hi p commands)) is

module _ (lo hi : ℕ) (key : List ℕ) (p : Params) (commands : List Command) where
  pub closed_tidy : (refusal : CallRefusal) → closed_by (bounds_of p) hi ≡ Some refusal → tidy_comes lo hi key p commands ≡ refused_by (Refused refusal)
  closed_tidy refusal is = ap (λ (o : Option CallRefusal). made_unless o (tidy_made lo hi key p commands)) is

  pub open_tidy : closed_by (bounds_of p) hi ≡ None → tidy_comes lo hi key p commands ≡ tidy_made lo hi key p commands
  open_tidy is = ap (λ (o : Option CallRefusal). made_unless o (tidy_made lo hi key p commands)) is

-- an object holds something where the first empty one comes behind it, or there is none
pub some_held : (v : List ℕ) → (length v ≡ 0 → ⊥) → true ≡ not (is_empty v)
some_held [] some = absurd (some refl)
some_held (b ∷ v) some = refl

none_held : (v : List ℕ) → length v ≡ 0 → false ≡ not (is_empty v)
none_held [] none = refl
none_held (b ∷ v) none = absurd (omega (arith, none))

pub first_held : (s : State) (objects x y : ℕ) → IsFirstEmpty objects (λ z. length (s z)) x y → nat_lt x y ≡ not (is_empty (s x))
first_held s objects x y first = by_bool (nat_lt x y) refl
  where
    by_bool : (b : Bool) → nat_lt x y ≡ b → b ≡ not (is_empty (s x))
    by_bool true is = some_held (s x) (first.least x (omega arith) (ltb-true x y is))
    by_bool false is =
        let same : x ≡ y = omega (arith, first.above, ltb-false x y is) in
        none_held (s x) (ap (λ (z : ℕ). length (s z)) same ∙ first.here)

-- one object more is looked at: it is left over, or not
module _ (test : ℕ → Bool) (front : List ℕ) (above hi : ℕ) (below : above < hi) where
  abbrev Rest : ℕ → List ℕ
  Rest x = filter test (objects_from (suc x) (hi - x))

  next : Rest above ≡ (if test (above + 1) then (above + 1) ∷ Rest (above + 1) else Rest (above + 1))
  next =
      let count : hi - above ≡ suc (hi - (above + 1)) = omega (arith, below) in
      let one : suc above ≡ above + 1 = omega arith in
      ap (λ (n : ℕ). filter test (objects_from (suc above) n)) count ∙ ap (λ (x : ℕ). filter test (objects_from x (suc (hi - (above + 1))))) one

  one_left : true ≡ test (above + 1) → (front ++ (above + 1) ∷ []) ++ Rest (above + 1) ≡ front ++ Rest above
  one_left is =
      append_assoc front ((above + 1) ∷ []) (Rest (above + 1))
      ∙ ap (λ (l : List ℕ). front ++ l) (sym (next ∙ cond-true (test (above + 1)) ((above + 1) ∷ Rest (above + 1)) (Rest (above + 1)) (sym is)))

  none_left : false ≡ test (above + 1) → front ++ Rest (above + 1) ≡ front ++ Rest above
  none_left is = ap (λ (l : List ℕ). front ++ l) (sym (next ∙ cond-false (test (above + 1)) ((above + 1) ∷ Rest (above + 1)) (Rest (above + 1)) (sym is)))

  pub looked : (pushed : List ℕ) → pushed ≡ (if test (above + 1) then front ++ (above + 1) ∷ [] else front) → pushed ++ Rest (above + 1) ≡ front ++ Rest above
  looked pushed is = by_test (test (above + 1)) refl is
    where
      by_test : (t : Bool) → t ≡ test (above + 1) → pushed ≡ (if t then front ++ (above + 1) ∷ [] else front) → pushed ++ Rest (above + 1) ≡ front ++ Rest above
      by_test true so e = ap (λ (l : List ℕ). l ++ Rest (above + 1)) e ∙ one_left so
      by_test false so e = ap (λ (l : List ℕ). l ++ Rest (above + 1)) e ∙ none_left so

-- none is left to look at
pub all_looked : (test : ℕ → Bool) (front all : List ℕ) (above hi : ℕ) → hi ≤ above → front ++ filter test (objects_from (suc above) (hi - above)) ≡ all → front ≡ all
all_looked test front all above hi past is =
    let none : hi - above ≡ 0 = omega (arith, past) in
    sym (append-nil front) ∙ ap (λ (n : ℕ). front ++ filter test (objects_from (suc above) n)) (sym none) ∙ is

-- what a sweep plans, by what the check finds
pub plan_of : (range : Range) (s : State) (met : Met) (left : List ℕ) → check range s ≡ Ok met → left ≡ left_over range met.objects s
    → sweep_plan range s ≡ record { commands = map (λ x. Free x) left; refusal = None }
plan_of range s met left is same =
    ap (sweep_behind range s) is ∙ ap (λ (l : List ℕ). (let q : Plan PageOp MapRefusal = record { commands = map (λ x. Free x) l; refusal = None } in q)) (sym same)

-- a range that is no map is refused
pub bad_plan : (p : Params) (range : Range) (commands : List Command) (e : MapErr) → told (check range (state_of p commands)) ≡ Err e → sweep_made range.lo range.hi p commands ≡ refused_by e
bad_plan p range commands e is = by_check (check range (state_of p commands)) is
  where
    error_in : Result Met MapErr → MapErr
    error_in (Ok met) = e
    error_in (Err x) = x

    by_check : (r : Result Met ℕ) → told r ≡ Err e → tried p (state_of p commands) (in_store (sweep_behind range (state_of p commands) r)) ≡ refused_by e
    by_check (Ok met) same = cc
    by_check (Err bad) same = ap (λ (r : Result Met MapErr). (let q : Plan Command MapErr = refused_by (error_in r) in q)) same

stored : (xs : List ℕ) → map page (map (λ x. Free x) xs) ≡ map (λ x. page (Free x)) xs
stored [] = refl
stored (x ∷ xs) = ap (λ (ops : List Command). page (Free x) ∷ ops) (stored xs)

-- the commands of a sweep, in the store
pub swept_made : (p : Params) (range : Range) (commands : List Command) (left slice : List ℕ) → slice ≡ left → sweep_plan range (state_of p commands) ≡ record { commands = map (λ x. Free x) left; refusal = None }
    → tried_all p (state_of p commands) (map (λ x. page (Free x)) slice) None ≡ sweep_made range.lo range.hi p commands
swept_made p range commands left slice same is =
    ap (λ (xs : List ℕ). (let q : Plan Command MapErr = tried_all p (state_of p commands) (map (λ x. page (Free x)) xs) None in q)) same ∙ ap (λ (ops : List Command). (let q : Plan Command MapErr = tried_all p (state_of p commands) ops None in q)) (sym (stored left))
    ∙ ap (λ (plan : Plan PageOp MapRefusal). tried p (state_of p commands) (in_store plan)) (sym is)

pub plan_all : {I : Type 0} (range : Range) (s : State) (met : Met) (r : Result I MapErr) (items : I → List ℕ) → check range s ≡ Ok met → IfOk r (λ left. items left ≡ left_over range met.objects s)
    → IfOk r (λ left. sweep_plan range s ≡ record { commands = map (λ x. Free x) (items left); refusal = None })
plan_all range s met (Ok left) items is same = plan_of range s met (items left) is same
plan_all range s met (Err e) items is same = tt
