-- What a plan does to a state, and to the map that a range stands for.
use Rattle.std.specs.Prelude.{◌≡◌, ⊤, ℕ, ◌≤◌, ◌<◌, None, Some, List, [], ◌∷◌, ◌++◌, take, length, fold}
use Rattle.oper_core.specs.State.{State}
use Rattle.oper_core.specs.Meaning.{Meaning, after, Accepts, refusal_of}
use Rattle.oper_core.specs.declared.refusal.Refusal.TheVariants.{TooLarge}
use Rattle.call_plans.specs.Plan.{Plan}

-- a plan that is not refused ends with such a command
abbrev pub EndsWith : {O R : Type 0} → (O → Type 0) → Plan O R → Type 0
EndsWith {O} IsLast plan = plan.refusal ≡ None → (last : O) × IsLast last × (front : List O) × (plan.commands ≡ front ++ last ∷ [])

-- the objects from one to another have the same values in both states
abbrev pub AreAlike : ℕ → ℕ → State → State → Type 0
AreAlike lo hi s t = (x : ℕ) → lo ≤ x → x ≤ hi → t x ≡ s x

-- what a state is, and its content, depend on these objects alone
abbrev pub DependOn : {C : Type 0} → ℕ → ℕ → (State → Type 0) → (State → C) → Type 0
DependOn lo hi Is content = (s t : State) → AreAlike lo hi s t → Is s → Is t × (content t ≡ content s)

module _ {O : Type 0} (m : Meaning O) where
  -- the state after commands, one after the other
  abbrev pub after_all : State → List O → State
  after_all s commands = fold (after m) s commands

  -- each command is accepted on the state that those before it leave
  abbrev pub AllAccepted : State → List O → Type 0
  AllAccepted s [] = ⊤
  AllAccepted s (op ∷ ops) = Accepts m s op × AllAccepted (after m s op) ops

  -- the first command is refused as too large
  abbrev pub FirstTooLarge : State → List O → Type 0
  FirstTooLarge s [] = ⊤
  FirstTooLarge s (op ∷ ops) = refusal_of m s op ≡ Some TooLarge

  -- The commands of a call keep what the range is, each but the last keeps its content, and all together make the change
  -- of the content; where the call is refused at their end, all keep it. So a call that is cut short anywhere leaves the
  -- old content or the new one.
  pub record Acts {C R : Type 0} (Is : State → Type 0) (content : State → C) (s : State) (change : C → C) (plan : Plan O R) : Type 0 where
    pub kept : (k : ℕ) → Is (after_all s (take k plan.commands))
    pub before : (k : ℕ) → k < length plan.commands → content (after_all s (take k plan.commands)) ≡ content s
    pub done : plan.refusal ≡ None → content (after_all s plan.commands) ≡ change (content s)
    pub refused : (r : R) → plan.refusal ≡ Some r → content (after_all s plan.commands) ≡ content s
