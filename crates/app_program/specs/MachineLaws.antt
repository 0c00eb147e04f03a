-- A machine that can do a step does the same with more input behind.
use Rattle.std.proofs.Common.{◌≡◌, ℕ, zero, suc, Option, None, Some, unwrap_or, List, [], ◌∷◌, ◌++◌, refl, ap, ◌∙◌}
use Rattle.std.specs.Prelude.{option_and_then}
use Rattle.app_program.specs.Machine.{Machine, done, machine, new_machine, next, step, taking}
use Rattle.app_program.specs.State.{fed}
use Rattle.app_program.specs.declared.instruction.Instruction.{Instruction}
use Rattle.app_program.specs.declared.instruction.Instruction.TheVariants.{Halt, Set, Add, Multiply, Subtract, Input, Output, Jump, JumpIfZero}

-- what has an answer had one before
pub first_of : {A B : Type 0} (f : A → Option B) (o : Option A) (y : B) → option_and_then f o ≡ Some y → (x : A) × (o ≡ Some x) × (f x ≡ Some y)
first_of f None y e = cc
first_of f (Some x) y e = (x, refl, e)

pub same_some : {A : Type 0} (x y : A) → Some x ≡ Some y → x ≡ y
same_some x y e = ap (λ o. unwrap_or o x) e

module _ (x : List ℕ) where
  taken_more : (m n : Machine) (r : ℕ) (input : List ℕ) → taking m r input ≡ Some n → taking (fed m x) r (input ++ x) ≡ Some (fed n x)
  taken_more m n r [] e = cc
  taken_more m n r (byte ∷ left) e = ap (λ t. Some (fed t x)) (same_some _ n e)

  done_more : (m n : Machine) (i : Instruction) → done m i ≡ Some n → done (fed m x) i ≡ Some (fed n x)
  done_more m n (Input r) e = taken_more m n r m.input e
  done_more m n Halt e = ap (λ t. Some (fed t x)) (same_some _ n e)
  done_more m n (Set r k) e = ap (λ t. Some (fed t x)) (same_some _ n e)
  done_more m n (Add r s) e = ap (λ t. Some (fed t x)) (same_some _ n e)
  done_more m n (Multiply r s) e = ap (λ t. Some (fed t x)) (same_some _ n e)
  done_more m n (Subtract r s) e = ap (λ t. Some (fed t x)) (same_some _ n e)
  done_more m n (Output r) e = ap (λ t. Some (fed t x)) (same_some _ n e)
  done_more m n (Jump place) e = ap (λ t. Some (fed t x)) (same_some _ n e)
  done_more m n (JumpIfZero r place) e = ap (λ t. Some (fed t x)) (same_some _ n e)

  pub step_more : (program : List Instruction) (m n : Machine) → step program m ≡ Some n → step program (fed m x) ≡ Some (fed n x)
  step_more program m n e =
      let at = first_of (done m) (next program m) n e in
      ap (option_and_then (done (fed m x))) at.1 ∙ done_more m n at.0 at.2

  -- and so it does k steps
  pub machine_more : (program : List Instruction) (input : List ℕ) (k : ℕ) (m : Machine) → machine program input k ≡ Some m
      → machine program (input ++ x) k ≡ Some (fed m x)
  machine_more program input zero m e = ap (λ t. Some (fed t x)) (same_some (new_machine input) m e)
  machine_more program input (suc k) m e =
      let at = first_of (step program) (machine program input k) m e in
      ap (option_and_then (step program)) (machine_more program input k at.0 at.1) ∙ step_more program at.0 m at.2

-- one step more
pub machine_next : (program : List Instruction) (input : List ℕ) (k : ℕ) (m n : Machine) → machine program input k ≡ Some m → step program m ≡ Some n
    → machine program input (suc k) ≡ Some n
machine_next program input k m n e one = ap (option_and_then (step program)) e ∙ one
