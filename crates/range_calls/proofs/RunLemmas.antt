-- A command that may be refused.
use Rattle.std.proofs.Common.{◌≡◌, refl, sym, ap, Option, None, Some, List, [], ◌∷◌}
use Rattle.oper_core.specs.Meaning.{refusal_of}
use Rattle.oper_core.specs.declared.refusal.Refusal.{Refusal}
use Rattle.formats.specs.declared.params.Params.{Params}
use Rattle.running_store.specs.Taking.Ending.{Done}
use Rattle.execution.specs.declared.exec_err.ExecErr.{ExecErr}
use Rattle.execution.specs.declared.exec_err.ExecErr.TheVariants.{Refused, LogFull, LsnEnd, DiskFault, Damaged, Memory}
use Rattle.store_engine.specs.Lists.{ending_of}
use Rattle.store_calls.specs.Making.{Answers, one_accepted}
use Rattle.call_plans.specs.Plan.{Plan}
use Rattle.range_calls.specs.Rounds.{if_accepted, no_plan, tried_all}
use Rattle.range_calls.specs.Store.{Command, meaning_in, state_of}
use Rattle.range_calls.specs.declared.call_err.CallErr.{CallErr}
use Rattle.range_calls.specs.declared.call_err.CallErr.TheVariants.{Exec}

module _ (R : Type 0) (p : Params) (commands : List Command) (op : Command) where
  abbrev refusal : Option Refusal
  refusal = refusal_of (meaning_in p) (state_of p commands) op

  -- what comes of it alone
  abbrev pub alone : Plan Command (CallErr R)
  alone = tried_all p (state_of p commands) (op ∷ []) None

  abbrev by : Option Refusal → Plan Command (CallErr R)
  by told = if_accepted p op no_plan told

  pub alone_made : one_accepted op refusal ≡ alone.commands
  alone_made = by_refusal refusal
    where
      by_refusal : (told : Option Refusal) → one_accepted op told ≡ (by told).commands
      by_refusal None = refl
      by_refusal (Some r) = refl

  pub alone_done : refusal ≡ None → None ≡ alone.refusal
  alone_done accepted = sym (ap (λ (told : Option Refusal). (by told).refusal) accepted)

  pub alone_err : (e : ExecErr) → Answers refusal (Some e) → ending_of (Some e) ≡ Done → Some (Exec e) ≡ alone.refusal
  alone_err (Refused r) refused is = sym (ap (λ (told : Option Refusal). (by told).refusal) refused)
  alone_err (LogFull used need limit) answers is = cc
  alone_err (LsnEnd number) answers is = cc
  alone_err DiskFault answers is = cc
  alone_err (Damaged file place) answers is = cc
  alone_err Memory answers is = cc
