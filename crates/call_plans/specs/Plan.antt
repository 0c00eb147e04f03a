-- What a call on a range of objects stands for: commands, one after the other, and why it is refused at their end, if it is.
use Rattle.std.specs.Prelude.{◌≡◌, ◌⊎◌, ℕ, zero, suc, Option, None, Some, List, [], ◌∷◌}
use Rattle.oper_core.specs.State.{State}
use Rattle.oper_core.specs.Meaning.{Meaning, after}

-- what comes next in a call: a command, after which it begins again, or the command that ends it, or a refusal
pub data Next (O R : Type 0) : Type 0 where
  goes_on : O → Next O R
  ends : O → Next O R
  refuses : R → Next O R

pub record Plan (O R : Type 0) : Type 0 where
  pub commands : List O
  pub refusal : Option R

module _ {O R : Type 0} where
  -- it is the command that comes next
  abbrev pub IsNext : (State → Next O R) → State → O → Type 0
  IsNext next s op = (next s ≡ goes_on op) ⊎ (next s ≡ ends op)

  -- a call without a command
  abbrev pub refused_by : R → Plan O R
  refused_by r = record { commands = []; refusal = Some r }

  -- a call of one command
  abbrev pub one_command : O → Plan O R
  one_command op = record { commands = op ∷ []; refusal = None }

  abbrev pub with_command : O → Plan O R → Plan O R
  with_command op plan = record { commands = op ∷ plan.commands; refusal = plan.refusal }

  abbrev pub plan_next : (O → Plan O R) → Next O R → Plan O R
  plan_next rest (goes_on op) = with_command op (rest op)
  plan_next rest (ends op) = one_command op
  plan_next rest (refuses r) = refused_by r

  -- the plan of a call that says at each state what comes next, of at most n steps
  abbrev pub plan_from : Meaning O → (State → Next O R) → ℕ → State → Plan O R
  plan_from m next zero s = record { commands = []; refusal = None }
  plan_from m next (suc n) s = plan_next (λ op. plan_from m next n (after m s op)) (next s)
