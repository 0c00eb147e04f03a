-- A program and its bytes: where each instruction stands.
use Rattle.std.proofs.Common.{◌≡◌, ◌<◌, ◌≤◌, ◌⊎◌, inl, inr, ℕ, zero, suc, ◌+◌, ◌*◌, Bool, true, false, Option, None, Some, is_some, unwrap_or, List, [], ◌∷◌, length, drop, take, slice_get, refl, sym, ap, ◌∙◌, arith}
use Rattle.std.specs.Prelude.{◌&&◌, ◌==◌}
use Rattle.std.proofs.lemmas.Option.{slice_get_past}
use Rattle.std.proofs.lemmas.List.{drop-drop, length-drop}
use Rattle.app_program.specs.Program.{IsProgram, followed, instruction_in, program_in, program_of}
use Rattle.app_program.specs.declared.instruction.Instruction.{Instruction}

-- the first instruction stands in the first eight bytes
pub program_step : (bytes : List ℕ) → 8 ≤ length bytes → program_in bytes ≡ followed (instruction_in bytes) (program_in (drop 8 bytes))
program_step (a ∷ b ∷ c ∷ d ∷ e ∷ f ∷ g ∷ h ∷ more) long = refl
program_step bytes long = absurd (omega (arith, long))

-- and no more than these are looked at
pub instruction_front : (bytes : List ℕ) → 8 ≤ length bytes → instruction_in (take 8 bytes) ≡ instruction_in bytes
instruction_front (a ∷ b ∷ c ∷ d ∷ e ∷ f ∷ g ∷ h ∷ more) long = refl
instruction_front bytes long = absurd (omega (arith, long))

-- fewer than eight bytes are a program where there are none
pub program_end : (bytes : List ℕ) → length bytes < 8 → is_some (program_in bytes) ≡ (length bytes == 0)
program_end (a ∷ b ∷ c ∷ d ∷ e ∷ f ∷ g ∷ h ∷ more) short = absurd (omega (arith, short))
program_end bytes short = refl

-- both are there, or there is nothing
pub both_there : (first : Option Instruction) (others : Option (List Instruction)) → is_some (followed first others) ≡ (is_some first && is_some others)
both_there None others = refl
both_there (Some i) None = refl
both_there (Some i) (Some more) = refl

-- how a program begins
pub record Begins (bytes : List ℕ) (first : Instruction) (more : List Instruction) : Type 0 where
  pub long : 8 ≤ length bytes
  pub front : instruction_in bytes ≡ Some first
  pub behind : program_in (drop 8 bytes) ≡ Some more

same_some : {A : Type 0} (x y : A) → Some x ≡ Some y → x ≡ y
same_some x y e = ap (λ o. unwrap_or o x) e

followed_is : (first : Option Instruction) (others : Option (List Instruction)) (p : List Instruction) → followed first others ≡ Some p
    → (i : Instruction) × (more : List Instruction) × (p ≡ i ∷ more) × (first ≡ Some i) × (others ≡ Some more)
followed_is None others p e = cc
followed_is (Some i) None p e = cc
followed_is (Some i) (Some more) p e = (i, more, sym (same_some (i ∷ more) p e), refl, refl)

-- a program is empty, or begins with an instruction
program_cases : (bytes : List ℕ) (p : List Instruction) → program_in bytes ≡ Some p
    → ((bytes ≡ []) × (p ≡ [])) ⊎ ((i : Instruction) × (more : List Instruction) × (p ≡ i ∷ more) × Begins bytes i more)
program_cases [] p e = inl (refl, sym (same_some [] p e))
program_cases (a ∷ b ∷ c ∷ d ∷ f ∷ g ∷ h ∷ j ∷ rest) p e =
    let is = followed_is (instruction_in (a ∷ b ∷ c ∷ d ∷ f ∷ g ∷ h ∷ j ∷ [])) (program_in rest) p e in
    inr (is.0, is.1, is.2, record { long = omega arith; front = is.3; behind = is.4 })
program_cases bytes p e = cc

-- an instruction has eight bytes
pub size_is : (p : List Instruction) (bytes : List ℕ) → program_in bytes ≡ Some p → length bytes ≡ 8 * length p
size_is [] bytes e = elim (program_cases bytes [] e) [
  | inl none ↦ ap length none.0
  | inr some ↦ cc (some.2)
]
size_is (i ∷ p) bytes e = elim (program_cases bytes (i ∷ p) e) [
  | inl none ↦ cc (none.1)
  | inr some ↦
      let long = some.3.long in
      let rest = size_is p (drop 8 bytes) (some.3.behind ∙ ap (λ (q : List Instruction). Some (drop 1 q)) (sym some.2)) in
      omega (arith, long, rest, length-drop 8 bytes)
]

-- the instruction of a number stands behind so many others
get_is : (p : List Instruction) (bytes : List ℕ) (n : ℕ) → program_in bytes ≡ Some p → n < length p → slice_get p n ≡ instruction_in (drop (8 * n) bytes)
get_is [] bytes n e within = absurd (omega (arith, within))
get_is (i ∷ p) bytes zero e within = elim (program_cases bytes (i ∷ p) e) [
  | inl none ↦ cc (none.1)
  | inr some ↦ ap (λ (q : List Instruction). slice_get q 0) some.2 ∙ sym some.3.front
]
get_is (i ∷ p) bytes (suc n) e within = elim (program_cases bytes (i ∷ p) e) [
  | inl none ↦ cc (none.1)
  | inr some ↦
      let behind = some.3.behind ∙ ap (λ (q : List Instruction). Some (drop 1 q)) (sym some.2) in
      let place : 8 + 8 * n ≡ 8 * suc n = omega arith in
      get_is p (drop 8 bytes) n behind (omega (arith, within)) ∙ ap instruction_in (drop-drop (8 * n) 8 bytes ∙ ap (λ (k : ℕ). drop k bytes) place)
]

is_program : (bytes : List ℕ) → IsProgram bytes → program_in bytes ≡ Some (program_of bytes)
is_program bytes is = some_of (program_in bytes) is where
  some_of : (o : Option (List Instruction)) → is_some o ≡ true → o ≡ Some (unwrap_or o [])
  some_of None e = cc
  some_of (Some p) e = refl

pub program_size : (bytes : List ℕ) → IsProgram bytes → length bytes ≡ 8 * length (program_of bytes)
program_size bytes is = size_is (program_of bytes) bytes (is_program bytes is)

pub get_within : (bytes : List ℕ) (n : ℕ) → IsProgram bytes → 8 * n + 8 ≤ length bytes → slice_get (program_of bytes) n ≡ instruction_in (drop (8 * n) bytes)
get_within bytes n is within = get_is (program_of bytes) bytes n (is_program bytes is) (omega (arith, within, program_size bytes is))

pub get_past : (bytes : List ℕ) (n : ℕ) → IsProgram bytes → length bytes < 8 * n + 8 → slice_get (program_of bytes) n ≡ None
get_past bytes n is past = slice_get_past (program_of bytes) n (omega (arith, past, program_size bytes is))

-- where the first instruction is there, the bytes are a program where those behind it are
pub step_left : (bytes front behind : List ℕ) → 8 ≤ length bytes → front ≡ take 8 bytes → behind ≡ drop 8 bytes → is_some (instruction_in front) ≡ true
    → is_some (program_in bytes) ≡ is_some (program_in behind)
step_left bytes front behind long first rest there =
    let is : is_some (instruction_in bytes) ≡ true = ap is_some (sym (ap instruction_in first ∙ instruction_front bytes long)) ∙ there in
    ap is_some (program_step bytes long) ∙ both_there (instruction_in bytes) (program_in (drop 8 bytes))
    ∙ ap (λ (b : Bool). b && is_some (program_in (drop 8 bytes))) is ∙ ap (λ (l : List ℕ). is_some (program_in l)) (sym rest)

-- and where it is not, they are none
pub step_fails : (bytes front : List ℕ) → 8 ≤ length bytes → front ≡ take 8 bytes → is_some (instruction_in front) ≡ false → is_some (program_in bytes) ≡ false
step_fails bytes front long first not =
    let is : is_some (instruction_in bytes) ≡ false = ap is_some (sym (ap instruction_in first ∙ instruction_front bytes long)) ∙ not in
    ap is_some (program_step bytes long) ∙ both_there (instruction_in bytes) (program_in (drop 8 bytes))
    ∙ ap (λ (b : Bool). b && is_some (program_in (drop 8 bytes))) is
