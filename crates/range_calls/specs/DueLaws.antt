-- The command that comes next is due, where those of its plan are accepted.
use Rattle.std.proofs.Common.{◌≡◌, ◌≤◌, ◌<◌, ◌⊎◌, inl, inr, ℕ, suc, true, false, Ok, Err, Result, List, [], ◌∷◌, length, refl, sym, ap, ◌∙◌, subst}
use Rattle.std.specs.Prelude.{IfOk, IsTrue, nat_le}
use Rattle.std.proofs.lemmas.Bool.{le-leb}
use Rattle.oper_core.specs.State.{State}
use Rattle.oper_core.specs.Meaning.{Meaning, after, refusal_of}
use Rattle.formats.specs.Objects.{bounds_of}
use Rattle.formats.specs.declared.params.Params.{Params}
use Rattle.key_entries.specs.EntryLaws.{true_both}
use Rattle.key_entries.specs.Short.{is_short}
use Rattle.op_codec.specs.AllOps.{all_meaning}
use Rattle.running_store.specs.Taking.Ending.{Done}
use Rattle.store_engine.specs.Lists.{ending_of}
use Rattle.call_plans.specs.Plan.{Next, goes_on, ends, refuses, IsNext, Plan, one_command, plan_next, plan_from}
use Rattle.call_plans.specs.Laws.{AllAccepted, FirstTooLarge}
use Rattle.range_calls.specs.Answers.{cause_in}
use Rattle.range_calls.specs.Due.{IsDue}
use Rattle.range_calls.specs.Store.{Command}
use Rattle.range_calls.specs.Turns.{turn_answer}
use Rattle.range_calls.specs.declared.call_err.CallErr.{CallErr}
use Rattle.range_calls.specs.declared.turn.Turn.{Turn}

-- the first command of commands that are accepted
pub first_due : {O : Type 0} (kind : O → Command) (m : Meaning O) (p : Params) (s : State) → ((op : O) → refusal_of (all_meaning (bounds_of p)) s (kind op) ≡ refusal_of m s op)
    → (commands : List O) (op : O) (more : List O) → commands ≡ op ∷ more
    → (1024 ≤ p.cap → AllAccepted m s commands) → (p.cap < 1024 → FirstTooLarge m s commands) → IsDue p s (kind op)
first_due {O} kind m p s means commands op more is accepted large = record {
  wide = λ wide. means op ∙ (subst (λ (l : List O). AllAccepted m s l) is (accepted wide)).0;
  narrow = λ narrow. means op ∙ subst (λ (l : List O). FirstTooLarge m s l) is (large narrow);
}

-- the command of a plan that has one
pub one_due : {O R : Type 0} (kind : O → Command) (m : Meaning O) (p : Params) (s : State) → ((op : O) → refusal_of (all_meaning (bounds_of p)) s (kind op) ≡ refusal_of m s op)
    → (plan : Plan O R) (op : O) → plan ≡ one_command op → (command : Command) → command ≡ kind op
    → (1024 ≤ p.cap → AllAccepted m s plan.commands) → (p.cap < 1024 → FirstTooLarge m s plan.commands) → IsDue p s command
one_due {O} {R} kind m p s means plan op is command same accepted large =
    subst (λ (o : Command). IsDue p s o) (sym same) (first_due kind m p s means plan.commands op [] (ap (λ (q : Plan O R). q.commands) is) accepted large)

-- the command that comes next in a plan
pub next_due : {O R : Type 0} (kind : O → Command) (m : Meaning O) (next : State → Next O R) (p : Params) (n : ℕ) (s : State)
    → ((op : O) → refusal_of (all_meaning (bounds_of p)) s (kind op) ≡ refusal_of m s op)
    → (1024 ≤ p.cap → AllAccepted m s (plan_from m next (suc n) s).commands) → (p.cap < 1024 → FirstTooLarge m s (plan_from m next (suc n) s).commands)
    → (op : O) → IsNext next s op → IsDue p s (kind op)
next_due {O} {R} kind m next p n s means accepted large op (inl is) =
    first_due kind m p s means (plan_from m next (suc n) s).commands op (plan_from m next n (after m s op)).commands
    (ap (λ (x : Next O R). (plan_next (λ op. plan_from m next n (after m s op)) x).commands) is) accepted large
next_due {O} {R} kind m next p n s means accepted large op (inr is) =
    first_due kind m p s means (plan_from m next (suc n) s).commands op []
    (ap (λ (x : Next O R). (plan_next (λ op. plan_from m next n (after m s op)) x).commands) is) accepted large

-- that of a turn
pub turn_due : {O R : Type 0} (kind : O → Command) (p : Params) (s : State) (x : Next O R) → ((op : O) → (x ≡ goes_on op) ⊎ (x ≡ ends op) → IsDue p s (kind op))
    → (r : Result Turn (CallErr R)) → (ending_of (cause_in r) ≡ Done → r ≡ turn_answer kind x) → IfOk r (λ turn. IsDue p s turn.op)
turn_due {O} {R} kind p s x due (Err e) answer = tt
turn_due {O} {R} kind p s x due (Ok turn) answer = by_next x due (answer refl)
  where
    by_next : (x : Next O R) → ((op : O) → (x ≡ goes_on op) ⊎ (x ≡ ends op) → IsDue p s (kind op)) → Ok turn ≡ turn_answer kind x → IsDue p s turn.op
    by_next (goes_on op) due is =
        let same : turn ≡ record { op = kind op; last = false } = cc is in
        subst (λ (t : Turn). IsDue p s t.op) (sym same) (due op (inl refl))
    by_next (ends op) due is =
        let same : turn ≡ record { op = kind op; last = true } = cc is in
        subst (λ (t : Turn). IsDue p s t.op) (sym same) (due op (inr refl))
    by_next (refuses refusal) due is = cc

-- a key, or a value, of so many bytes is short
pub short_is : (bytes : List ℕ) → 1 ≤ length bytes → length bytes ≤ 32 → IsTrue (is_short bytes)
short_is bytes some few = true_both (nat_le 1 (length bytes)) (nat_le (length bytes) 32) (le-leb 1 (length bytes) some) (le-leb (length bytes) 32 few)
