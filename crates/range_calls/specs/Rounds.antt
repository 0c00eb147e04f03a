-- Calls that find at each moment the commands that come next, all of them on one state. The store may refuse any of them.
use Rattle.std.specs.Prelude.{◌≡◌, ◌==◌, ◌||◌, ℕ, zero, suc, Bool, true, Option, None, Some, Result, Ok, Err, List, [], ◌∷◌, ◌++◌, length, if◌then◌else◌, option_map}
use Rattle.std.specs.Result.{result_err}
use Rattle.disk_model.specs.Disk.{Disk}
use Rattle.oper_core.specs.State.{State}
use Rattle.oper_core.specs.Meaning.{Meaning, after, refusal_of}
use Rattle.oper_core.specs.declared.refusal.Refusal.{Refusal}
use Rattle.oper_core.specs.declared.bounds.Bounds.{Bounds}
use Rattle.formats.specs.Objects.{bounds_of}
use Rattle.formats.specs.declared.params.Params.{Params}
use Rattle.running_store.specs.Taking.Ending.{Done}
use Rattle.execution.specs.declared.exec_err.ExecErr.TheVariants as exec
use Rattle.store_engine.specs.Lists.{ending_of}
use Rattle.store_calls.specs.Making.{Makes}
use Rattle.store_calls.specs.View.{View}
use Rattle.call_plans.specs.Laws.{after_all}
use Rattle.call_plans.specs.Plan.{Plan, refused_by, with_command}
use Rattle.range_calls.specs.Answers.{cause_in}
use Rattle.range_calls.specs.Store.{Command, meaning_in, state_of}
use Rattle.range_calls.specs.declared.call_err.CallErr.{CallErr}
use Rattle.range_calls.specs.declared.call_err.CallErr.TheVariants.{Refused, Exec}
use Rattle.range_calls.specs.declared.round.Round.{Round}

module _ {O R : Type 0} where
  abbrev pub no_plan : Plan O R
  no_plan = record { commands = []; refusal = None }

  -- these commands, and a plan behind them
  abbrev pub behind : List O → Plan O R → Plan O R
  behind front plan = record { commands = front ++ plan.commands; refusal = plan.refusal }

module _ {R : Type 0} where
  -- the commands of a round, and those of the rounds behind it, unless it is the last
  abbrev pub by_round : (List Command → Plan Command R) → Result Round R → Plan Command R
  by_round rest (Ok round) = behind round.ops (if round.last then no_plan else rest round.ops)
  by_round rest (Err refusal) = refused_by refusal

  -- the plan of a call that says at each state which commands come next, of at most n rounds
  abbrev pub rounds_from : Meaning Command → (State → Result Round R) → ℕ → State → Plan Command R
  rounds_from m next zero s = no_plan
  rounds_from m next (suc n) s = by_round (λ ops. rounds_from m next n (after_all m s ops)) (next s)

  -- it ends the call: as the last, or as one without commands, behind which all are without
  abbrev pub is_last_round : Result Round R → Bool
  is_last_round (Ok round) = round.last || (length round.ops == 0)
  is_last_round (Err refusal) = true

module _ {R : Type 0} (p : Params) where
  -- a command, and what comes of those behind it, where it is accepted; else its refusal is answered
  abbrev pub if_accepted : Command → Plan Command (CallErr R) → Option Refusal → Plan Command (CallErr R)
  if_accepted op rest None = with_command op rest
  if_accepted op rest (Some refusal) = refused_by (Exec (exec.Refused refusal))

  -- what comes of commands: they are made as far as each is accepted; where all are, the answer is the one that is planned
  abbrev pub tried_all : State → List Command → Option (CallErr R) → Plan Command (CallErr R)
  tried_all s [] planned = record { commands = []; refusal = planned }
  tried_all s (op ∷ ops) planned = if_accepted op (tried_all (after (meaning_in p) s op) ops planned) (refusal_of (meaning_in p) s op)

  -- what comes of a plan
  abbrev pub tried : State → Plan Command R → Plan Command (CallErr R)
  tried s plan = tried_all s plan.commands (option_map Refused plan.refusal)

  -- what comes of a round alone
  abbrev pub tried_round : State → Result Round R → Plan Command (CallErr R)
  tried_round s (Ok round) = tried_all s round.ops None
  tried_round s (Err refusal) = refused_by (Refused refusal)

-- what comes of the plan of a call by rounds, in a store with these commands
abbrev pub in_rounds : {R : Type 0} → (Bounds → State → Result Round R) → ℕ → Params → List Command → Plan Command (CallErr R)
in_rounds next most p commands = tried p (state_of p commands) (rounds_from (meaning_in p) (next (bounds_of p)) most (state_of p commands))

module _ {R S : Type 0} (view : View Command S) (old new : Disk) (before after : S) where
  -- What a call leaves and answers on every machine; where the store stands for commands this is a function of them.
  pub record Comes {T : Type 0} (plan : Params → List Command → Plan Command (CallErr R)) (result : Result T (CallErr R)) : Type 0 where
    pub makes : Makes view old new before after (λ p commands. (plan p commands).commands) (cause_in result)
    pub answer : (p : Params) (commands : List Command) → view.holds p old before commands → ending_of (cause_in result) ≡ Done → result_err result ≡ (plan p commands).refusal
