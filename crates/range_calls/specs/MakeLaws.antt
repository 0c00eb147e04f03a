-- One command of a plan.
use Rattle.std.proofs.Common.{◌≡◌, ◌≤◌, ◌<◌, sym, ap, ◌∙◌, inl, inr, ℕ, Option, None, Some, List, [], ◌∷◌}
use Rattle.std.specs.Prelude.{nat_le}
use Rattle.std.proofs.lemmas.Bool.{cases_lt, cond-true, cond-false, le-leb, lt-leb}
use Rattle.oper_core.specs.declared.refusal.Refusal.{Refusal}
use Rattle.oper_core.specs.declared.refusal.Refusal.TheVariants.{TooLarge}
use Rattle.formats.specs.declared.params.Params.{Params}
use Rattle.key_entries.specs.EntryLaws.{same_some}
use Rattle.op_codec.specs.AllOps.{all_meaning}
use Rattle.running_store.specs.Taking.Ending.{Done}
use Rattle.execution.specs.declared.exec_err.ExecErr.{ExecErr}
use Rattle.execution.specs.declared.exec_err.ExecErr.TheVariants.{Refused, LogFull, LsnEnd, DiskFault, Damaged, Memory}
use Rattle.store_engine.specs.Store.{refusal_after}
use Rattle.store_engine.specs.Lists.{ending_of}
use Rattle.store_calls.specs.Making.{Answers, one_accepted}
use Rattle.range_calls.specs.Answers.{made_of, refused_of}
use Rattle.range_calls.specs.Due.{IsDue}
use Rattle.range_calls.specs.Store.{Command, state_of}
use Rattle.range_calls.specs.declared.call_err.CallErr.{CallErr}
use Rattle.range_calls.specs.declared.call_err.CallErr.TheVariants.{Exec}

pub made_wide : (cap : ℕ) (ops : List Command) → 1024 ≤ cap → made_of cap ops ≡ ops
made_wide cap ops wide = cond-true (nat_le 1024 cap) ops [] (le-leb 1024 cap wide)

pub made_narrow : (cap : ℕ) (ops : List Command) → cap < 1024 → made_of cap ops ≡ []
made_narrow cap ops narrow = cond-false (nat_le 1024 cap) ops [] (lt-leb 1024 cap narrow)

-- of no commands none is made
pub made_none : (cap : ℕ) → made_of cap [] ≡ []
made_none cap = elim (cases_lt cap 1024) [
  | inl narrow ↦ made_narrow cap [] narrow
  | inr wide ↦ made_wide cap [] wide
]

module _ {O R : Type 0} (cap : ℕ) (op : O) (ops : List O) (planned : Option (CallErr R)) where
  pub refused_wide : 1024 ≤ cap → refused_of cap (op ∷ ops) planned ≡ planned
  refused_wide wide = cond-true (nat_le 1024 cap) planned (Some (Exec (Refused TooLarge))) (le-leb 1024 cap wide)

  pub refused_narrow : cap < 1024 → refused_of cap (op ∷ ops) planned ≡ Some (Exec (Refused TooLarge))
  refused_narrow narrow = cond-false (nat_le 1024 cap) planned (Some (Exec (Refused TooLarge))) (lt-leb 1024 cap narrow)

module _ (p : Params) (commands : List Command) (op : Command) (due : IsDue p (state_of p commands) op) where
  abbrev refusal : Option Refusal
  refusal = refusal_after all_meaning p commands op

  -- what is made of it
  pub due_made : one_accepted op refusal ≡ made_of p.cap (op ∷ [])
  due_made = elim (cases_lt p.cap 1024) [
    | inl narrow ↦ ap (λ (o : Option Refusal). one_accepted op o) (due.narrow narrow) ∙ sym (made_narrow p.cap (op ∷ []) narrow)
    | inr wide ↦ ap (λ (o : Option Refusal). one_accepted op o) (due.wide wide) ∙ sym (made_wide p.cap (op ∷ []) wide)
  ]

  -- what it answers
  pub due_done : {R : Type 0} → refusal ≡ None → (let none : Option (CallErr R) = None in none ≡ refused_of p.cap (op ∷ []) none)
  due_done {R} accepted = elim (cases_lt p.cap 1024) [
    | inl narrow ↦ absurd (cc (accepted, due.narrow narrow))
    | inr wide ↦ sym (refused_wide {R = R} p.cap op [] None wide)
  ]

  pub due_err : {R : Type 0} (e : ExecErr) → Answers refusal (Some e) → ending_of (Some e) ≡ Done → (let none : Option (CallErr R) = None in Some (Exec e) ≡ refused_of p.cap (op ∷ []) none)
  due_err {R} (Refused r) refused is = elim (cases_lt p.cap 1024) [
    | inl narrow ↦
        ap (λ (q : Refusal). (let told : Option (CallErr R) = Some (Exec (Refused q)) in told)) (same_some r TooLarge (sym refused ∙ due.narrow narrow))
        ∙ sym (refused_narrow {R = R} p.cap op [] None narrow)
    | inr wide ↦ absurd (cc (refused, due.wide wide))
  ]
  due_err {R} (LogFull used need limit) answers is = cc
  due_err {R} (LsnEnd number) answers is = cc
  due_err {R} DiskFault answers is = cc
  due_err {R} (Damaged file place) answers is = cc
  due_err {R} Memory answers is = cc
