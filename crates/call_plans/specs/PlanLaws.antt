-- What holds of every plan, from what holds of its steps.
use Rattle.std.proofs.Common.{◌≡◌, ◌<◌, ℕ, zero, suc, Some, unwrap_or, List, [], ◌∷◌, length, take, refl, ap, ◌∙◌, subst, arith, inl, inr}
use Rattle.oper_core.specs.State.{State}
use Rattle.oper_core.specs.Meaning.{Meaning, after, Accepts, refusal_of}
use Rattle.oper_core.specs.declared.refusal.Refusal.TheVariants.{TooLarge}
use Rattle.call_plans.specs.Plan.{Next, goes_on, ends, refuses, IsNext, Plan, refused_by, one_command, plan_next, plan_from}
use Rattle.call_plans.specs.Laws.{AllAccepted, FirstTooLarge, EndsWith, Acts, after_all}

module _ {O R : Type 0} (m : Meaning O) (next : State → Next O R) where
  -- each command is accepted, if each is that comes next
  pub all_accepted : ((s : State) (op : O) → IsNext next s op → Accepts m s op) → (n : ℕ) (s : State) → AllAccepted m s (plan_from m next n s).commands
  all_accepted each zero s = tt
  all_accepted each (suc n) s =
      elim (next s) as (λ t. next s ≡ t → AllAccepted m s (plan_next (λ op. plan_from m next n (after m s op)) t).commands) [
        | goes_on op ↦ λ is. (each s op (inl is), all_accepted each n (after m s op))
        | ends op ↦ λ is. (each s op (inr is), tt)
        | refuses r ↦ λ is. tt
      ] refl

  pub first_too_large : ((s : State) (op : O) → IsNext next s op → refusal_of m s op ≡ Some TooLarge) → (n : ℕ) (s : State) → FirstTooLarge m s (plan_from m next n s).commands
  first_too_large each zero s = tt
  first_too_large each (suc n) s =
      elim (next s) as (λ t. next s ≡ t → FirstTooLarge m s (plan_next (λ op. plan_from m next n (after m s op)) t).commands) [
        | goes_on op ↦ λ is. each s op (inl is)
        | ends op ↦ λ is. each s op (inr is)
        | refuses r ↦ λ is. tt
      ] refl

  -- of a call whose every command but the last comes closer to the end
  module _ (IsLast : O → Type 0) (left : State → ℕ) (goes : (s : State) (op : O) → next s ≡ goes_on op → left (after m s op) < left s) (last : (s : State) (op : O) → next s ≡ ends op → IsLast op) where
    pub plan_ends : (n : ℕ) (s : State) → left s < n → EndsWith IsLast (plan_from m next n s)
    plan_ends zero s few = absurd (omega (arith, few))
    plan_ends (suc n) s few =
        elim (next s) as (λ t. next s ≡ t → EndsWith IsLast (plan_next (λ op. plan_from m next n (after m s op)) t)) [
          | goes_on op ↦ λ comes none. let rest = plan_ends n (after m s op) (omega (arith, goes s op comes, few)) none in (rest.0, rest.1, op ∷ rest.2, ap (λ (l : List O). op ∷ l) rest.3)
          | ends op ↦ λ comes none. (op, last s op comes, [], refl)
          | refuses r ↦ λ comes none. cc
        ] refl

  -- of a call whose commands keep what the range is: why it is refused
  module _ (Is : State → Type 0) (P : R → Type 0) (goes : (s : State) (op : O) → Is s → next s ≡ goes_on op → Is (after m s op)) (why : (s : State) (r : R) → Is s → next s ≡ refuses r → P r) where
    pub plan_refuses : (n : ℕ) (s : State) → Is s → (r : R) → (plan_from m next n s).refusal ≡ Some r → P r
    plan_refuses zero s is r e = cc
    plan_refuses (suc n) s is r e =
        elim (next s) as (λ t. next s ≡ t → (plan_next (λ op. plan_from m next n (after m s op)) t).refusal ≡ Some r → P r) [
          | goes_on op ↦ λ comes e. plan_refuses n (after m s op) (goes s op is comes) r e
          | ends op ↦ λ comes e. cc
          | refuses q ↦ λ comes e. subst P (ap (λ o. unwrap_or o q) e) (why s q is comes)
        ] refl e

-- of a call whose commands keep what the range is, and but for the last its content
module _ {O : Type 0} (m : Meaning O) {C : Type 0} (Is : State → Type 0) (content : State → C) (change : C → C) where
  pub record StepKeeps (s : State) (op : O) : Type 0 where
    pub kept : Is (after m s op)
    pub same : content (after m s op) ≡ content s

  pub record StepEnds (s : State) (op : O) : Type 0 where
    pub kept : Is (after m s op)
    pub changed : content (after m s op) ≡ change (content s)

  after_one : {R : Type 0} (s : State) (op : O) (plan : Plan O R) → StepKeeps s op → Is s → Acts m Is content (after m s op) change plan
      → Acts m Is content s change (record { commands = op ∷ plan.commands; refusal = plan.refusal })
  after_one s op plan step is rest = record {
    kept = λ k. elim k as (λ k. Is (after_all m s (take k (op ∷ plan.commands)))) [ zero ↦ is | suc k ↦ rest.kept k ];
    before = λ k within. elim k as (λ k. k < suc (length plan.commands) → content (after_all m s (take k (op ∷ plan.commands))) ≡ content s) [
      | zero ↦ λ within. refl
      | suc k ↦ λ within. rest.before k (omega (arith, within)) ∙ step.same
    ] within;
    done = λ e. rest.done e ∙ ap change step.same;
    refused = λ r e. rest.refused r e ∙ step.same;
  }

  pub the_last : {R : Type 0} (s : State) (op : O) → StepEnds s op → Is s → Acts m Is content s change (one_command {R = R} op)
  the_last s op step is = record {
    kept = λ k. elim k as (λ k. Is (after_all m s (take k (op ∷ [])))) [ zero ↦ is | suc k ↦ elim k as (λ k. Is (after_all m s (take (suc k) (op ∷ [])))) [ zero ↦ step.kept | suc k ↦ step.kept ] ];
    before = λ k within. elim k as (λ k. k < 1 → content (after_all m s (take k (op ∷ []))) ≡ content s) [ zero ↦ λ within. refl | suc k ↦ λ within. absurd (omega (arith, within)) ] within;
    done = λ e. step.changed;
    refused = λ r e. cc;
  }

  pub no_command : {R : Type 0} (s : State) (r : R) → Is s → Acts m Is content s change (refused_by r)
  no_command s r is = record {
    kept = λ k. elim k as (λ k. Is (after_all m s (take k []))) [ zero ↦ is | suc k ↦ is ];
    before = λ k within. absurd (omega (arith, within));
    done = λ e. cc;
    refused = λ r e. refl;
  }

  module _ {R : Type 0} (next : State → Next O R) (left : State → ℕ)
      (goes : (s : State) (op : O) → Is s → next s ≡ goes_on op → StepKeeps s op × (left (after m s op) < left s)) (last : (s : State) (op : O) → Is s → next s ≡ ends op → StepEnds s op) where
    pub plan_acts : (n : ℕ) (s : State) → Is s → left s < n → Acts m Is content s change (plan_from m next n s)
    plan_acts zero s is few = absurd (omega (arith, few))
    plan_acts (suc n) s is few =
        elim (next s) as (λ t. next s ≡ t → Acts m Is content s change (plan_next (λ op. plan_from m next n (after m s op)) t)) [
          | goes_on op ↦ λ comes.
              let step = goes s op is comes in
              after_one s op (plan_from m next n (after m s op)) step.0 is (plan_acts n (after m s op) step.0.kept (omega (arith, step.1, few)))
          | ends op ↦ λ comes. the_last s op (last s op is comes) is
          | refuses r ↦ λ comes. no_command s r is
        ] refl
