-- Why a step of an application is refused.
use Rattle.std.proofs.Common.{◌≡◌, sym, ap, ℕ, Bool, true, false, inl, inr, List, Option, None, Some, unwrap_or, length, arith}
use Rattle.std.specs.Prelude.{◌⊎◌, ◌&&◌, nat_le, nat_lt, is_some}
use Rattle.std.proofs.lemmas.Bool.{le-leb}
use Rattle.oper_core.specs.Meaning.{or_else, unless}
use Rattle.oper_core.specs.declared.refusal.Refusal.{Refusal}
use Rattle.oper_core.specs.declared.refusal.Refusal.TheVariants.{NoObject, NotApp, NoInput, TooLarge}
use Rattle.formats.specs.declared.params.Params.{Params}
use Rattle.op_meaning.specs.AppState.{app_of, state_in}
use Rattle.op_codec.specs.AllOps.{AllOps, all_meaning}
use Rattle.store_engine.specs.Store.{refusal_after, state_of}
use Rattle.app_steps.specs.Steps.{step_of}

same_refusal : (r s : Refusal) → Some r ≡ Some s → s ≡ r
same_refusal r s e = sym (ap (λ (o : Option Refusal). unwrap_or o r) e)

-- the tests of a step, one after the other: is there the object, is there room for nothing, is it an application, has it input
first_failed : (there room state input : Bool) (r : Refusal) → room ≡ true
    → or_else (or_else (or_else (unless there NoObject) None) (unless room TooLarge)) (or_else (unless state NotApp) (unless input NoInput)) ≡ Some r
    → (r ≡ NoObject) ⊎ ((r ≡ NotApp) ⊎ (r ≡ NoInput))
first_failed false room state input r ok e = inl (same_refusal NoObject r e)
first_failed true false state input r ok e = cc ok
first_failed true true false input r ok e = inr (inl (same_refusal NotApp r e))
first_failed true true true false r ok e = inr (inr (same_refusal NoInput r e))
first_failed true true true true r ok e = cc e

pub why_refused : (p : Params) (commands : List AllOps) (app : ℕ) (r : Refusal) → refusal_after all_meaning p commands (step_of app) ≡ Some r
    → (r ≡ NoObject) ⊎ ((r ≡ NotApp) ⊎ (r ≡ NoInput))
why_refused p commands app r e =
    let v = state_of all_meaning p commands app in
    first_failed (nat_lt app p.objects && true) (nat_le 0 p.cap) (is_some (state_in v)) (nat_lt 0 (length (app_of v).input)) r (le-leb 0 p.cap (omega arith)) e
