-- The value of an object on which a machine runs is that machine's: however feeds and steps alternate, it does what the
-- program does on all that was fed.
use Rattle.std.proofs.Common.{◌≡◌, ◌<◌, ◌≤◌, ℕ, ◌^◌, true, if◌then◌else◌, Option, None, Some, is_some, unwrap_or, List, [], ◌∷◌, length, refl, sym, subst, ap, ◌∙◌, arith}
use Rattle.std.specs.Prelude.{is_none, nat_le, option_and_then}
use Rattle.std.proofs.lemmas.Bool.{leb-true}
use Rattle.oper_core.specs.Meaning.{IsSmall}
use Rattle.oper_core.specs.MeaningLaws.{or_else-none, unless-none}
use Rattle.oper_core.specs.declared.bounds.Bounds.{Bounds}
use Rattle.oper_core.specs.declared.refusal.Refusal.{Refusal}
use Rattle.oper_core.specs.declared.refusal.Refusal.TheVariants.{NoInput, NotCode, TooLarge}
use Rattle.app_program.specs.CodeLaws.{state_in-state_code}
use Rattle.app_program.specs.FitLaws.{IsFit, fed_fit, new_fit, step_fit}
use Rattle.app_program.specs.History.{FeedsBytes, Event, all_fed, all_happened, runs_on_all, step_count, value_after, value_after_all}
use Rattle.app_program.specs.History.Event.{Feeding, Stepping}
use Rattle.app_program.specs.Machine.{Machine, machine, new_machine, step}
use Rattle.app_program.specs.MachineLaws.{first_of, same_some}
use Rattle.app_program.specs.OneCode.{AreBytes}
use Rattle.app_program.specs.Program.{program_in, program_of}
use Rattle.app_program.specs.State.{HasDone, fed, machine_of, state_code, state_in}
use Rattle.app_program.specs.StateLaws.{output_within}
use Rattle.app_program.specs.Table.{feed_check, size_check, state_check, step_check, stepped}
use Rattle.app_program.specs.TableLaws.{can_step}

-- what is there where nothing is refused
not_refused : {A : Type 0} (o : Option Refusal) (x y : A) → (if is_none o then Some x else None) ≡ Some y → (o ≡ None) × (x ≡ y)
not_refused None x y e = (refl, same_some x y e)
not_refused (Some r) x y e = cc

-- what is there is what stands in for it
some_of : (o : Option Machine) (other : Machine) → is_some o ≡ true → o ≡ Some (unwrap_or o other)
some_of None other e = cc
some_of (Some m) other e = refl

-- the value is the state of this machine, whose numbers fit their bytes
pub record IsOf (value : List ℕ) (m : Machine) : Type 0 where
  pub state : state_in value ≡ Some m
  pub fit : IsFit m

-- a machine's own code is
code_is_of : (m : Machine) (value : List ℕ) → state_code m ≡ value → IsFit m → IsOf value m
code_is_of m value is fit = record { state = ap state_in (sym is) ∙ state_in-state_code m fit.numbers; fit = fit }

module _ (b : Bounds) (code : List ℕ) (small : IsSmall b) (bytes : AreBytes code) (short : length code ≤ b.cap) where
  room : (m : Machine) → size_check b m ≡ None → length (state_code m) ≤ b.cap
  room m e = leb-true (length (state_code m)) b.cap (unless-none (nat_le (length (state_code m)) b.cap) TooLarge e)

  -- the value after an accepted feed is that of the machine with more input
  after_feed : (a : List ℕ) (m : Machine) (x value : List ℕ) → IsOf a m → AreBytes x → value_after b code a (Feeding x) ≡ Some value → IsOf value (fed m x)
  after_feed a m x value is fed_bytes e =
      let told = not_refused (feed_check b a x) (state_code (fed (machine_of a) x)) value e in
      let same : machine_of a ≡ m = ap (λ (o : Option Machine). unwrap_or o (new_machine [])) is.state in
      let here : state_code (fed m x) ≡ value = ap (λ (t : Machine). state_code (fed t x)) (sym same) ∙ told.1 in
      let fits : length (state_code (fed m x)) ≤ b.cap = subst (λ (t : Machine). length (state_code (fed t x)) ≤ b.cap) same
      (room (fed (machine_of a) x) (or_else-none (state_check a) (size_check b (fed (machine_of a) x)) told.0).1) in
      code_is_of (fed m x) value here (fed_fit m x is.fit fed_bytes (omega (arith, fits, small.cap)))

  -- and after an accepted step it is that of the machine after one
  pub after_step : (a : List ℕ) (m : Machine) (value : List ℕ) → IsOf a m → value_after b code a Stepping ≡ Some value → (n : Machine) × (step (program_of code) m ≡ Some n) × IsOf value n
  after_step a m value is e =
      let told = not_refused (step_check b a code) (state_code (stepped a code)) value e in
      let can = can_step b a code told.0 in
      let same : machine_of a ≡ m = ap (λ (o : Option Machine). unwrap_or o (new_machine [])) is.state in
      let n : Machine = stepped a code in
      let one : step (program_of code) (machine_of a) ≡ Some n =
      some_of (step (program_of code) (machine_of a)) (machine_of a) (unless-none (is_some (step (program_of code) (machine_of a))) NoInput can.input) in
      let does : step (program_of code) m ≡ Some n = ap (λ (t : Machine). step (program_of code) t) (sym same) ∙ one in
      let program = unless-none (is_some (program_in code)) NotCode can.code in
      let fits = room n can.size in
      let limit = small.cap in
      let output : length n.output < 2 ^ 32 = omega (arith, output_within n, fits, limit) in
      (n, does, code_is_of n value told.1 (step_fit code m n bytes program (omega (arith, short, limit)) is.fit does output))

  -- after several events it is that of the machine to which they happened
  follows : (events : List Event) (a : List ℕ) (m : Machine) (value : List ℕ) → IsOf a m → FeedsBytes events → value_after_all b code a events ≡ Some value
      → (n : Machine) × (all_happened (program_of code) m events ≡ Some n) × IsOf value n
  follows [] a m value is fed_bytes e = (m, refl, subst (λ (v : List ℕ). IsOf v m) (same_some a value e) is)
  follows (Feeding x ∷ events) a m value is fed_bytes e =
      let at = first_of (λ v. value_after_all b code v events) (value_after b code a (Feeding x)) value e in
      follows events at.0 (fed m x) value (after_feed a m x at.0 is fed_bytes.0 at.1) fed_bytes.1 at.2
  follows (Stepping ∷ events) a m value is fed_bytes e =
      let at = first_of (λ v. value_after_all b code v events) (value_after b code a Stepping) value e in
      let one = after_step a m at.0 is at.1 in
      let rest = follows events at.0 one.0 value one.2 fed_bytes at.2 in
      (rest.0, ap (option_and_then (λ n. all_happened (program_of code) n events)) one.1 ∙ rest.1, rest.2)

  -- so a value that is empty at first is that of the machine that did as many steps on all that was fed
  pub runs_on_fed : (events : List Event) (value : List ℕ) → FeedsBytes events → value_after_all b code [] events ≡ Some value
      → (m : Machine) × IsOf value m × (machine (program_of code) (all_fed events) (step_count events) ≡ Some m)
  runs_on_fed events value fed_bytes e =
      let end = follows events [] (new_machine []) value (record { state = refl; fit = new_fit }) fed_bytes e in
      (end.0, end.2, runs_on_all (program_of code) events end.0 end.1)

  pub value_follows : (events : List Event) (value : List ℕ) → FeedsBytes events → value_after_all b code [] events ≡ Some value
      → HasDone code (all_fed events) (step_count events) value
  value_follows events value fed_bytes e =
      let end = runs_on_fed events value fed_bytes e in
      (end.0, end.1.state, end.2)
