-- Each row of the table is lawful, and the table tells operations apart.
use Rattle.std.proofs.Common.{◌≡◌, ◌≤◌, ℕ, List, [], length, slice_index, refl, sym, ap, ◌∙◌, inl, inr, arith}
use Rattle.std.specs.Prelude.{Option, None, Some, true, is_some, unwrap_or, nat_le}
use Rattle.std.proofs.lemmas.Bool.{leb-true}
use Rattle.oper_core.specs.Meaning.{unless}
use Rattle.oper_core.specs.Family.{IsTagged}
use Rattle.oper_core.specs.declared.bounds.Bounds.{Bounds}
use Rattle.oper_core.specs.MeaningLaws.{or_else-none, or_else-both, unless-none}
use Rattle.oper_core.specs.declared.refusal.Refusal.TheVariants.{Halted, NoInput, NotApp, NotCode, TooLarge}
use Rattle.op_rows.specs.Rows.{all_numbers, first, second}
use Rattle.op_rows.specs.RowLaws.{AreRows, IsRow, first_short, fits_more, one_short}
use Rattle.app_program.specs.Machine.{Machine, new_machine, step}
use Rattle.app_program.specs.Program.{program_in, program_of}
use Rattle.app_program.specs.State.{fed, machine_of, state_code, state_in}
use Rattle.app_program.specs.StateLaws.{state_within}
use Rattle.app_program.specs.Table.{has_next, is_program_tag, program_meaning, program_row, size_check, state_check, step_check, stepped}
use Rattle.app_program.specs.declared.program_op.ProgramOp.{ProgramOp}
use Rattle.app_program.specs.declared.program_op.ProgramOp.TheVariants.{Step, Feed, Drain}

-- where the value is a state, it is that of the machine
pub is_state : (a : List ℕ) → state_check a ≡ None → state_in a ≡ Some (machine_of a)
is_state a e = some_of (state_in a) (unless-none (is_some (state_in a)) NotApp e) where
  some_of : (o : Option Machine) → is_some o ≡ true → o ≡ Some (unwrap_or o (new_machine []))
  some_of None e = cc
  some_of (Some m) e = refl

-- the new state of a machine is not too long
fits : (b : Bounds) (m : Machine) → size_check b m ≡ None → length (state_code m) ≤ b.cap
fits b m e = leb-true (length (state_code m)) b.cap (unless-none (nat_le (length (state_code m)) b.cap) TooLarge e)

-- what a step that is not refused says
pub record CanStep (b : Bounds) (a p : List ℕ) : Type 0 where
  pub state : state_check a ≡ None
  pub code : unless (is_some (program_in p)) NotCode ≡ None
  pub next : unless (has_next a p) Halted ≡ None
  pub input : unless (is_some (step (program_of p) (machine_of a))) NoInput ≡ None
  pub size : size_check b (stepped a p) ≡ None

pub can_step : (b : Bounds) (a p : List ℕ) → step_check b a p ≡ None → CanStep b a p
can_step b a p e =
    let states = or_else-none (state_check a) _ e in
    let codes = or_else-none (unless (is_some (program_in p)) NotCode) _ states.1 in
    let nexts = or_else-none (unless (has_next a p) Halted) _ codes.1 in
    let inputs = or_else-none (unless (is_some (step (program_of p) (machine_of a))) NoInput) (size_check b (stepped a p)) nexts.1 in
    record { state = states.0; code = codes.0; next = nexts.0; input = inputs.0; size = inputs.1 }

pub not_refused : (b : Bounds) (a p : List ℕ) → CanStep b a p → step_check b a p ≡ None
not_refused b a p can =
    or_else-both (state_check a) _ can.state
    (or_else-both (unless (is_some (program_in p)) NotCode) _ can.code
    (or_else-both (unless (has_next a p) Halted) _ can.next
    (or_else-both (unless (is_some (step (program_of p) (machine_of a))) NoInput) (size_check b (stepped a p)) can.input can.size)))

step_is_row : (a p : ℕ) → IsRow (program_row (Step a p))
step_is_row a p = record {
  reads = inr (inl refl);
  writes = inr (inr (0, omega arith, refl));
  writes_some = omega arith;
  made = λ values. refl;
  short = λ b values text short e.
      let m = stepped (first values) (second values) in
      one_short b.cap (state_code m) (fits b m (can_step b (first values) (second values) e).size);
  wider = λ b c le values e.
      let can = can_step b (first values) (second values) e in
      not_refused c (first values) (second values) (record {
        state = can.state;
        code = can.code;
        next = can.next;
        input = can.input;
        size = fits_more (length (state_code (stepped (first values) (second values)))) b.cap c.cap le can.size;
      });
}

feed_is_row : (a x : ℕ) → IsRow (program_row (Feed a x))
feed_is_row a x = record {
  reads = inr (inl refl);
  writes = inr (inr (0, omega arith, refl));
  writes_some = omega arith;
  made = λ values. refl;
  short = λ b values text short e.
      let m = fed (machine_of (first values)) (second values) in
      one_short b.cap (state_code m) (fits b m (or_else-none (state_check (first values)) (size_check b m) e).1);
  wider = λ b c le values e.
      let m = fed (machine_of (first values)) (second values) in
      let tests = or_else-none (state_check (first values)) (size_check b m) e in
      or_else-both (state_check (first values)) (size_check c m) tests.0 (fits_more (length (state_code m)) b.cap c.cap le tests.1);
}

drain_is_row : (a x : ℕ) → IsRow (program_row (Drain a x))
drain_is_row a x = record {
  reads = inr (inr (0, omega arith, refl));
  writes = inr (inr (1, omega arith, refl));
  writes_some = omega arith;
  made = λ values. refl;
  short = λ b values text short e.
      let fits = first_short b.cap values short in
      let within = state_within (first values) (machine_of (first values)) (is_state (first values) e) in
      one_short b.cap (machine_of (first values)).output (omega (arith, fits, within));
  wider = λ b c le values e. e;
}

is_row : (op : ProgramOp) → IsRow (program_row op)
is_row (Step a p) = step_is_row a p
is_row (Feed a x) = feed_is_row a x
is_row (Drain a x) = drain_is_row a x

-- two numbers stand after each tag
abbrev pub count_of : ℕ → ℕ
count_of tag = 2

pub count_is : (op : ProgramOp) → length (all_numbers (program_row op).names) ≡ 2
count_is (Step a p) = refl
count_is (Feed a x) = refl
count_is (Drain a x) = refl

-- and no text
no_text : (op : ProgramOp) → (program_row op).names.text ≡ None
no_text (Step a p) = refl
no_text (Feed a x) = refl
no_text (Drain a x) = refl

same_op : (p q : ProgramOp) → (program_row p).names.tag ≡ (program_row q).names.tag → all_numbers (program_row p).names ≡ all_numbers (program_row q).names
    → (program_row p).names.text ≡ (program_row q).names.text → p ≡ q
same_op (Step a p) (Step a' p') tags e text = λ i. Step (slice_index (e i) 0) (slice_index (e i) 1)
same_op (Feed a x) (Feed a' x') tags e text = λ i. Feed (slice_index (e i) 0) (slice_index (e i) 1)
same_op (Drain a x) (Drain a' x') tags e text = λ i. Drain (slice_index (e i) 0) (slice_index (e i) 1)
same_op p q tags e text = absurd (omega (arith, tags))

pub are_program_rows : AreRows program_row
are_program_rows = record {
  each = is_row;
  count = λ p q tags. count_is p ∙ sym (count_is q);
  kind = λ p q tags. ap is_some (no_text p ∙ sym (no_text q));
  same = same_op;
}

-- each code begins with a tag of the table
pub program_tagged : (b : Bounds) → IsTagged is_program_tag (program_meaning b)
program_tagged b (Step a p) = refl
program_tagged b (Feed a x) = refl
program_tagged b (Drain a x) = refl
