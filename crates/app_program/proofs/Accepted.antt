-- When a step is accepted.
use Rattle.std.proofs.Common.{◌≡◌, ◌≤◌, ℕ, Bool, false, Option, None, Some, is_some, unwrap_or, List, length, if◌then◌else◌, slice_get, refl, ap, ◌∙◌}
use Rattle.std.specs.Prelude.{nat_le, option_and_then}
use Rattle.std.specs.Int.{from_bool}
use Rattle.op_rows.specs.Rows.{listed_number}
use Rattle.std.proofs.lemmas.Bool.{le-leb}
use Rattle.oper_core.specs.Meaning.{unless}
use Rattle.oper_core.specs.declared.bounds.Bounds.{Bounds}
use Rattle.oper_core.specs.declared.refusal.Refusal.TheVariants.{Halted, NoInput, NotCode, TooLarge}
use Rattle.app_program.specs.Machine.{Machine, done, next, step}
use Rattle.app_program.specs.Program.{program_in, program_of}
use Rattle.app_program.specs.State.{machine_of, state_code}
use Rattle.app_program.specs.Table.{state_check, step_check}
use Rattle.app_program.specs.TableLaws.{not_refused}
use Rattle.app_program.specs.declared.instruction.Instruction.{Instruction}

pub accepted : (b : Bounds) (a p : List ℕ) (i : Instruction) (n : Machine) → state_check a ≡ None → unless (is_some (program_in p)) NotCode ≡ None
    → (machine_of a).halted ≡ false → slice_get (program_of p) (machine_of a).pc ≡ Some i → done (machine_of a) i ≡ Some n → length (state_code n) ≤ b.cap
    → step_check b a p ≡ None
accepted b a p i n state code goes_on there does room =
    let m : Machine = machine_of a in
    let at : next (program_of p) m ≡ Some i = ap (λ (h : Bool). if h then None else slice_get (program_of p) m.pc) goes_on ∙ there in
    let one : step (program_of p) m ≡ Some n = ap (option_and_then (done m)) at ∙ does in
    not_refused b a p (record {
      state = state;
      code = code;
      next = ap (λ (o : Option Instruction). unless (is_some o) Halted) at;
      input = ap (λ (o : Option Machine). unless (is_some o) NoInput) one;
      size = ap (λ (o : Option Machine). unless (nat_le (length (state_code (unwrap_or o m))) b.cap) TooLarge) one
          ∙ ap (λ (t : Bool). unless t TooLarge) (le-leb (length (state_code n)) b.cap room);
    })

-- a byte counts one, and none nothing
pub counted : (put : Option ℕ) → from_bool (is_some put) ≡ length (listed_number put)
counted None = refl
counted (Some byte) = refl
