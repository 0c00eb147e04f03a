-- What the operations of a table make of bytes.
use Rattle.std.proofs.Common.{◌<◌, ◌==◌, ℕ, suc, ◌+◌, ◌*◌, ◌/◌, ◌%◌, ◌^◌, Bool, true, false, ◌&&◌, cond, Option, None, Some, unwrap_or, List, [], ◌∷◌, ◌++◌, All, length, take, drop, map, slice_index, arith, option_and_then}
use Rattle.std.specs.Prelude.{IfSome, flat_map, nat_le}
use Rattle.std.specs.Int.{from_bool}
use Rattle.std.specs.List.{range_with_len}
use Rattle.std.specs.Ordering.{is_gt}
use Rattle.std.proofs.lemmas.List.Elements.{All-cons, All-head, All-nil, All-tail}
use Rattle.byteorder.specs.Endian.{little_bytes}
use Rattle.oper_core.specs.declared.bounds.Bounds.{Bounds}
use Rattle.oper_core.specs.declared.refusal.Refusal.{Refusal}
use Rattle.op_rows.specs.Rows.{first, if_applicable, names_code, numbers_code, second}
use Rattle.op_meaning.specs.AppState as apps
use Rattle.op_meaning.specs.AppState.{Application}
use Rattle.op_meaning.specs.Order.{byte_order, in_order, placed, record_at, records}
use Rattle.op_meaning.specs.Table.{plain_meaning, plain_row}
use Rattle.op_meaning.specs.declared.plain_op.PlainOp.{PlainOp}
use Rattle.op_meaning.specs.declared.plain_op.PlainOp.TheVariants.{Put, Copy, Append, Cut, Sort, Swap, Exec, AppRead, AppWrite}
use Rattle.app_program.specs.Machine.{Machine, done, new_machine, next, register, taking}
use Rattle.app_program.specs.OneCode.{AreBytes}
use Rattle.app_program.specs.Program.{program_of}
use Rattle.app_program.specs.State.{fed, head_code, input_length, machine_of, output_length, state_code}
use Rattle.app_program.specs.Table.{program_meaning, program_row, stepped}
use Rattle.app_program.specs.declared.instruction.Instruction.{Instruction}
use Rattle.app_program.specs.declared.instruction.Instruction.TheVariants.{Halt, Set, Add, Multiply, Subtract, Input, Output, Jump, JumpIfZero}
use Rattle.app_program.specs.declared.program_op.ProgramOp.{ProgramOp}
use Rattle.app_program.specs.declared.program_op.ProgramOp.TheVariants.{Step, Feed, Drain}
use Rattle.app_steps.proofs.ByteLists.{bytes_append, bytes_back, bytes_cons, bytes_drop, bytes_take, concat_bytes, empty_values, no_bytes, number_bytes, numbers_bytes, one_value, two_values, value_bytes}

-- where nothing is made, values are empty
made_bytes : (r : Option Refusal) (made : List (List ℕ)) → All AreBytes made → All AreBytes (if_applicable r made)
made_bytes None made all = all
made_bytes (Some r) made all = empty_values made

-- ---- sorted records

records_bytes : (w : ℕ) (x : List ℕ) (places : List ℕ) → AreBytes x → All AreBytes (map (record_at w x) places)
records_bytes w x [] are = All-nil AreBytes
records_bytes w x (i ∷ places) are =
    All-cons AreBytes (record_at w x i) (map (record_at w x) places) (bytes_take w (drop (i * w) x) (bytes_drop (i * w) x are)) (records_bytes w x places are)

placed_bytes : (r : List ℕ) (rs : List (List ℕ)) → AreBytes r → All AreBytes rs → All AreBytes (placed r rs)
placed_bytes r [] are all = one_value r are
placed_bytes r (s ∷ rs) are all =
    elim (is_gt (byte_order r s)) as (λ b. All AreBytes (cond b (s ∷ placed r rs) (r ∷ s ∷ rs))) [
      | true ↦ All-cons AreBytes s (placed r rs) (All-head AreBytes s rs all) (placed_bytes r rs are (All-tail AreBytes s rs all))
      | false ↦ All-cons AreBytes r (s ∷ rs) are all
    ]

sorted_bytes : (rs : List (List ℕ)) → All AreBytes rs → All AreBytes (in_order rs)
sorted_bytes [] all = All-nil AreBytes
sorted_bytes (r ∷ rs) all = placed_bytes r (in_order rs) (All-head AreBytes r rs all) (sorted_bytes rs (All-tail AreBytes r rs all))

-- ---- applications

-- what an application has before it and after it are bytes
record HasBytes (s : Application) : Type 0 where
  input : AreBytes s.input
  output : AreBytes s.output

app_new : HasBytes apps.new_application
app_new = record { input = no_bytes; output = no_bytes }

app_bytes : (value : List ℕ) → AreBytes value → HasBytes (apps.app_of value)
app_bytes [] are = app_new
app_bytes (byte ∷ value) are =
    by_test (length (byte ∷ value) == 24 + apps.input_length (byte ∷ value) + apps.output_length (byte ∷ value)) _ (record {
      input = bytes_take (apps.input_length (byte ∷ value)) (drop 20 (byte ∷ value)) (bytes_drop 20 (byte ∷ value) are);
      output = bytes_drop (24 + apps.input_length (byte ∷ value)) (byte ∷ value) are;
    })
  where
    by_test : (b : Bool) (s : Application) → HasBytes s → HasBytes (unwrap_or (cond b (Some s) None) apps.new_application)
    by_test true s has = has
    by_test false s has = app_new

app_code : (s : Application) → HasBytes s → AreBytes (apps.state_code s)
app_code s has =
    let output = little_bytes 4 (length s.output) ++ s.output in
    let input = little_bytes 4 (length s.input) ++ (s.input ++ output) in
    bytes_append (little_bytes 8 s.steps) (little_bytes 8 s.sum ++ input) (number_bytes 8 s.steps)
    (bytes_append (little_bytes 8 s.sum) input (number_bytes 8 s.sum)
    (bytes_append (little_bytes 4 (length s.input)) (s.input ++ output) (number_bytes 4 (length s.input))
    (bytes_append s.input output has.input (bytes_append (little_bytes 4 (length s.output)) s.output (number_bytes 4 (length s.output)) has.output))))

low : (n : ℕ) → n % 256 < 256
low n = omega arith

app_stepped : (s : Application) (input : List ℕ) → HasBytes s → AreBytes input → HasBytes (apps.step_with s input)
app_stepped s [] has are = has
app_stepped s (byte ∷ input) has are = record {
  input = λ i. are (suc i);
  output =
      let sum : ℕ = (s.sum * 31 + byte) % 2 ^ 64 in bytes_append s.output (sum % 256 ∷ []) has.output (bytes_cons (sum % 256) [] (low sum) no_bytes);
}

app_fed : (s : Application) (x : List ℕ) → HasBytes s → AreBytes x → HasBytes (apps.fed s x)
app_fed s x has are = record { input = bytes_append s.input x has.input are; output = has.output }

plain_made : (op : PlainOp) (values : List (List ℕ)) → AreBytes (names_code (plain_row op).names) → All AreBytes values → All AreBytes ((plain_row op).made values)
plain_made (Put x v) values code all =
    one_value v (bytes_back (little_bytes 4 (length v)) v (bytes_back (numbers_code 1 (x ∷ [])) (little_bytes 4 (length v) ++ v) code))
plain_made (Copy x y) values code all = one_value (first values) (value_bytes 0 values all)
plain_made (Append x y) values code all = one_value (second values ++ first values) (bytes_append (second values) (first values) (value_bytes 1 values all) (value_bytes 0 values all))
plain_made (Cut x y k) values code all = two_values (take k (first values)) (drop k (first values)) (bytes_take k (first values) (value_bytes 0 values all)) (bytes_drop k (first values) (value_bytes 0 values all))
plain_made (Sort x y w) values code all =
    one_value _ (concat_bytes (in_order (records w (first values))) (sorted_bytes (records w (first values)) (records_bytes w (first values) (range_with_len 0 (length (first values) / w)) (value_bytes 0 values all))))
plain_made (Swap x y) values code all = two_values (second values) (first values) (value_bytes 1 values all) (value_bytes 0 values all)
plain_made (Exec a) values code all =
    let s = apps.app_of (first values) in
    let has = app_bytes (first values) (value_bytes 0 values all) in
    one_value _ (app_code (apps.stepped s) (app_stepped s s.input has has.input))
plain_made (AppRead a x) values code all =
    let s = apps.app_of (first values) in
    one_value _ (app_code (apps.fed s (second values)) (app_fed s (second values) (app_bytes (first values) (value_bytes 0 values all)) (value_bytes 1 values all)))
plain_made (AppWrite a x) values code all = one_value _ (app_bytes (first values) (value_bytes 0 values all)).output

pub plain_bytes : (b : Bounds) (op : PlainOp) (values : List (List ℕ)) → AreBytes ((plain_meaning b).code op) → All AreBytes values → All AreBytes ((plain_meaning b).effect op values)
plain_bytes b op values code all = made_bytes ((plain_row op).check b values) ((plain_row op).made values) (plain_made op values code all)

-- ---- programs

-- what a machine has before it and after it are bytes
record IsOfBytes (m : Machine) : Type 0 where
  input : AreBytes m.input
  output : AreBytes m.output

machine_bytes : (value : List ℕ) → AreBytes value → IsOfBytes (machine_of value)
machine_bytes [] are = record { input = no_bytes; output = no_bytes }
machine_bytes (byte ∷ value) are =
    let v : List ℕ = byte ∷ value in
    by_test ((length v == 77 + input_length v + output_length v) && nat_le (slice_index v 4) 1) _ (record {
      input = bytes_take (input_length v) (drop 73 v) (bytes_drop 73 v are);
      output = bytes_drop (77 + input_length v) v are;
    })
  where
    by_test : (b : Bool) (m : Machine) → IsOfBytes m → IsOfBytes (unwrap_or (cond b (Some m) None) (new_machine []))
    by_test true m is = is
    by_test false m is = record { input = no_bytes; output = no_bytes }

one_or_zero : (b : Bool) → from_bool b < 256
one_or_zero true = omega arith
one_or_zero false = omega arith

machine_code : (m : Machine) → IsOfBytes m → AreBytes (state_code m)
machine_code m is =
    let output = little_bytes 4 (length m.output) ++ m.output in
    let registers = flat_map (little_bytes 8) m.registers in
    bytes_append (head_code m) (little_bytes 4 (length m.input) ++ (m.input ++ output))
    (bytes_append (little_bytes 4 m.pc) (from_bool m.halted ∷ registers) (number_bytes 4 m.pc)
    (bytes_cons (from_bool m.halted) registers (one_or_zero m.halted) (numbers_bytes 8 m.registers)))
    (bytes_append (little_bytes 4 (length m.input)) (m.input ++ output) (number_bytes 4 (length m.input))
    (bytes_append m.input output is.input (bytes_append (little_bytes 4 (length m.output)) m.output (number_bytes 4 (length m.output)) is.output)))

taken_bytes : (m : Machine) (r : ℕ) (input : List ℕ) → IsOfBytes m → AreBytes input → IfSome (taking m r input) IsOfBytes
taken_bytes m r [] is are = tt
taken_bytes m r (byte ∷ left) is are = record { input = λ i. are (suc i); output = is.output }

done_bytes : (m : Machine) (i : Instruction) → IsOfBytes m → IfSome (done m i) IsOfBytes
done_bytes m Halt is = record { input = is.input; output = is.output }
done_bytes m (Set r n) is = record { input = is.input; output = is.output }
done_bytes m (Add r s) is = record { input = is.input; output = is.output }
done_bytes m (Multiply r s) is = record { input = is.input; output = is.output }
done_bytes m (Subtract r s) is = record { input = is.input; output = is.output }
done_bytes m (Input r) is = taken_bytes m r m.input is is.input
done_bytes m (Output r) is = record { input = is.input; output = bytes_append m.output (register m r % 256 ∷ []) is.output (bytes_cons (register m r % 256) [] (low (register m r)) no_bytes) }
done_bytes m (Jump place) is = record { input = is.input; output = is.output }
done_bytes m (JumpIfZero r place) is = record { input = is.input; output = is.output }

stepped_bytes : (m : Machine) (o : Option Instruction) → IsOfBytes m → IsOfBytes (unwrap_or (option_and_then (done m) o) m)
stepped_bytes m None is = is
stepped_bytes m (Some i) is = or_same (done m i) (done_bytes m i is) where
  or_same : (o : Option Machine) → IfSome o IsOfBytes → IsOfBytes (unwrap_or o m)
  or_same None none = is
  or_same (Some n) some = some

machine_fed : (m : Machine) (x : List ℕ) → IsOfBytes m → AreBytes x → IsOfBytes (fed m x)
machine_fed m x is are = record { input = bytes_append m.input x is.input are; output = is.output }

program_made : (op : ProgramOp) (values : List (List ℕ)) → All AreBytes values → All AreBytes ((program_row op).made values)
program_made (Step a p) values all =
    let m = machine_of (first values) in
    one_value _ (machine_code (stepped (first values) (second values)) (stepped_bytes m (next (program_of (second values)) m) (machine_bytes (first values) (value_bytes 0 values all))))
program_made (Feed a x) values all =
    let m = machine_of (first values) in
    one_value _ (machine_code (fed m (second values)) (machine_fed m (second values) (machine_bytes (first values) (value_bytes 0 values all)) (value_bytes 1 values all)))
program_made (Drain a x) values all = one_value _ (machine_bytes (first values) (value_bytes 0 values all)).output

pub program_bytes : (b : Bounds) (op : ProgramOp) (values : List (List ℕ)) → All AreBytes values → All AreBytes ((program_meaning b).effect op values)
program_bytes b op values all = made_bytes ((program_row op).check b values) ((program_row op).made values) (program_made op values all)
