-- So many steps of an application read as many bytes of its input.
use Rattle.std.proofs.Common.{◌≡◌, ◌∙◌, sym, ap, ℕ, zero, suc, ◌+◌, ◌*◌, ◌%◌, ◌^◌, ◌<◌, ◌≤◌, Bool, true, false, inl, inr, List, [], ◌∷◌, ◌++◌, length, take, drop, replicate, refl, Option, None, Some, arith, append_assoc, length-append}
use Rattle.std.specs.Prelude.{◌&&◌, ◌||◌, ◌==◌, nat_le, nat_lt, min, is_some, unwrap_or, if◌then◌else◌}
use Rattle.std.specs.List.{fold}
use Rattle.std.proofs.Math.Nat.{eq-zero-or-pos, mod-add-mod, mod-eq_of_lt}
use Rattle.std.proofs.lemmas.Bool.{eq-eqb, le-leb, lt-ltb}
use Rattle.std.proofs.lemmas.List.{append-nil}
use Rattle.std.proofs.lemmas.List.Sums.{fold-append}
use Rattle.oper_core.specs.State.{State, start, with_values}
use Rattle.oper_core.specs.Meaning.{after, or_else, unless}
use Rattle.oper_core.specs.declared.refusal.Refusal.{Refusal}
use Rattle.oper_core.specs.declared.refusal.Refusal.TheVariants.{NoObject, NotApp, NoInput, TooLarge}
use Rattle.formats.specs.declared.params.Params.{Params}
use Rattle.op_meaning.specs.AppState.{Application, app_of, new_application, state_code, state_in, stepped}
use Rattle.op_meaning.specs.AppStateLaws.{state_in-state_code}
use Rattle.op_rows.specs.Rows.{if_applicable}
use Rattle.op_meaning.specs.Table.{exec_check}
use Rattle.op_codec.specs.AllOps.{AllOps, all_meaning}
use Rattle.store_engine.specs.Store.{meaning_in, refusal_after, state_of}
use Rattle.app_steps.specs.Runs.{IsRunnable, after_steps, has_read, read_byte}
use Rattle.app_steps.specs.Steps.{step_of, steps_accepted}
use Rattle.app_steps.proofs.Counting.{none_count, step_counts}

-- ---- one application

-- after a step so many steps more are one step more
one_more_on : (k steps sum : ℕ) (input output : List ℕ) → 0 < length input
    → has_read k (stepped (record { steps = steps; sum = sum; input = input; output = output })) ≡ has_read (suc k) (record { steps = steps; sum = sum; input = input; output = output })
one_more_on k steps sum [] output some = absurd (omega arith)
one_more_on k steps sum (byte ∷ input) output some =
    let next = (sum * 31 + byte) % 2 ^ 64 in
    let read = fold read_byte (record { sum = next; output = output ++ (next % 256) ∷ [] }) (take k input) in
    let count : ((steps + 1) % 2 ^ 64 + k) % 2 ^ 64 ≡ (steps + suc k) % 2 ^ 64 = mod-add-mod (steps + 1) (2 ^ 64) k ∙ ap (λ (n : ℕ). n % 2 ^ 64) (omega arith) in
    λ i. record { steps = count i; sum = read.sum; input = drop k input; output = read.output }

pub read_on : (k : ℕ) (s : Application) → 0 < length s.input → has_read k (stepped s) ≡ has_read (suc k) s
read_on k s some = one_more_on k s.steps s.sum s.input s.output some

-- no step reads nothing
pub read_none : (s : Application) → s.steps < 2 ^ 64 → has_read 0 s ≡ s
read_none s small = λ i. record { steps = same i; sum = s.sum; input = s.input; output = s.output }
  where
    zero_more : s.steps + 0 ≡ s.steps
    zero_more = omega arith

    same : (s.steps + 0) % 2 ^ 64 ≡ s.steps
    same = ap (λ (n : ℕ). n % 2 ^ 64) zero_more ∙ mod-eq_of_lt small

-- a step takes a byte of the input, and puts one out
shorter : (steps sum : ℕ) (input output : List ℕ) → 0 < length input
    → (suc (length (stepped (record { steps = steps; sum = sum; input = input; output = output })).input) ≡ length input)
    × (length (stepped (record { steps = steps; sum = sum; input = input; output = output })).output ≡ suc (length output))
shorter steps sum [] output some = absurd (omega arith)
shorter steps sum (byte ∷ input) output some = (refl, length-append output ((sum * 31 + byte) % 2 ^ 64 % 256 ∷ []) ∙ omega arith)

small_numbers : (steps sum : ℕ) (input output : List ℕ) → 0 < length input
    → ((stepped (record { steps = steps; sum = sum; input = input; output = output })).steps < 2 ^ 64) × ((stepped (record { steps = steps; sum = sum; input = input; output = output })).sum < 2 ^ 64)
small_numbers steps sum [] output some = absurd (omega arith)
small_numbers steps sum (byte ∷ input) output some = (omega arith, omega arith)

runnable_on : (s : Application) → IsRunnable s → 0 < length s.input → IsRunnable (stepped s)
runnable_on s is some =
    let short = shorter s.steps s.sum s.input s.output some in
    let small = small_numbers s.steps s.sum s.input s.output some in
    record {
      fits = record { steps = small.0; sum = small.1; input = omega (arith, short.0, is.fits.input); output = omega (arith, short.0, short.1, is.short) };
      short = omega (arith, short.0, short.1, is.short);
    }

pub steps_read : (k : ℕ) (s : Application) → s.steps < 2 ^ 64 → k ≤ length s.input → after_steps k s ≡ has_read k s
steps_read zero s small enough = sym (read_none s small)
steps_read (suc k) s small enough =
    let some : 0 < length s.input = omega (arith, enough) in
    steps_read k (stepped s) (small_numbers s.steps s.sum s.input s.output some).0 (omega (arith, enough, (shorter s.steps s.sum s.input s.output some).0)) ∙ read_on k s some

-- ---- on the map

module _ (p : Params) (app : ℕ) (there : app < p.objects) where
  abbrev op : AllOps
  op = step_of app

  abbrev Has : List AllOps → Application → Type 0
  Has commands s = state_in (state_of all_meaning p commands app) ≡ Some s

  in_grammar : (meaning_in all_meaning p).shape op ≡ None
  in_grammar =
      ap (λ (b : Bool). or_else (or_else (unless (b && true) NoObject) None) (unless (nat_le 0 p.cap) TooLarge)) (lt-ltb app p.objects there)
      ∙ ap (λ (b : Bool). unless b TooLarge) (le-leb 0 p.cap (omega arith))

  -- what is told of a state that was found
  abbrev check_of : Option Application → Option Refusal
  check_of o = or_else (unless (is_some o) NotApp) (unless (nat_lt 0 (length (unwrap_or o new_application).input)) NoInput)

  -- with some input a step is accepted
  accepted : (commands : List AllOps) (s : Application) → Has commands s → 0 < length s.input → exec_check (state_of all_meaning p commands app) ≡ None
  accepted commands s has some = ap check_of has ∙ ap (λ (b : Bool). unless b NoInput) (lt-ltb 0 (length s.input) some)

  pub none_refused : (commands : List AllOps) (s : Application) → Has commands s → 0 < length s.input → refusal_after all_meaning p commands op ≡ None
  none_refused commands s has some =
      ap (λ (o : Option Refusal). or_else o (exec_check (state_of all_meaning p commands app))) in_grammar ∙ accepted commands s has some

  -- with none it is refused
  refused : (commands : List AllOps) (s : Application) → Has commands s → length s.input ≡ 0 → refusal_after all_meaning p commands op ≡ Some NoInput
  refused commands s has none =
      ap (λ (o : Option Refusal). or_else o (exec_check (state_of all_meaning p commands app))) in_grammar
      ∙ ap check_of has ∙ ap (λ (n : ℕ). unless (nat_lt 0 n) NoInput) none

  -- the value after a step
  value_on : (commands : List AllOps) (s : Application) → Has commands s → 0 < length s.input → state_of all_meaning p (commands ++ op ∷ []) app ≡ state_code (stepped s)
  value_on commands s has some =
      let m = meaning_in all_meaning p in
      let v = state_of all_meaning p commands app in
      let same : app == app ≡ true = eq-eqb app app refl in
      let made : if_applicable (exec_check v) (state_code (stepped (app_of v)) ∷ []) ≡ state_code (stepped s) ∷ [] =
      ap (λ (o : Option Refusal). if_applicable o (state_code (stepped (app_of v)) ∷ [])) (accepted commands s has some)
      ∙ ap (λ (o : Option Application). state_code (stepped (unwrap_or o new_application)) ∷ []) has in
      ap (λ (t : State). t app) (fold-append (after m) start commands (op ∷ []))
      ∙ ap (λ (values : List (List ℕ)). with_values (state_of all_meaning p commands) (app ∷ []) values app) made
      ∙ ap (λ (b : Bool). if (b || false) then (if b then state_code (stepped s) else []) else v) same

  pub state_on : (commands : List AllOps) (s : Application) → IsRunnable s → Has commands s → 0 < length s.input → Has (commands ++ op ∷ []) (stepped s)
  state_on commands s is has some = ap state_in (value_on commands s has some) ∙ state_in-state_code (stepped s) (runnable_on s is some).fits

  -- the state after so many steps
  pub state_read : (k : ℕ) (commands : List AllOps) (s : Application) → IsRunnable s → Has commands s → k ≤ length s.input → Has (commands ++ replicate k op) (has_read k s)
  state_read zero commands s is has enough =
      ap (λ (l : List AllOps). state_in (state_of all_meaning p l app)) (append-nil commands) ∙ has ∙ ap (λ (t : Application). Some t) (sym (read_none s is.fits.steps))
  state_read (suc k) commands s is has enough =
      let some : 0 < length s.input = omega (arith, enough) in
      let rest = state_read k (commands ++ op ∷ []) (stepped s) (runnable_on s is some) (state_on commands s is has some) (omega (arith, enough, (shorter s.steps s.sum s.input s.output some).0)) in
      ap (λ (l : List AllOps). state_in (state_of all_meaning p l app)) (sym (append_assoc commands (op ∷ []) (replicate k op))) ∙ rest ∙ ap (λ (t : Application). Some t) (read_on k s some)

  -- as many steps are accepted as there are bytes of input, and at most so many as are asked for
  pub as_many : (n : ℕ) (commands : List AllOps) (s : Application) → IsRunnable s → Has commands s → steps_accepted p commands op n ≡ min n (length s.input)
  as_many zero commands s is has = omega arith
  as_many (suc n) commands s is has = elim (eq-zero-or-pos (length s.input)) [
    | inl none ↦ none_count p commands op NoInput (refused commands s has none) (suc n) ∙ omega (arith, none)
    | inr some ↦
        let short = (shorter s.steps s.sum s.input s.output some).0 in
        step_counts p commands op n (none_refused commands s has some)
        ∙ ap suc (as_many n (commands ++ op ∷ []) (stepped s) (runnable_on s is some) (state_on commands s is has some))
        ∙ omega (arith, short)
  ]
