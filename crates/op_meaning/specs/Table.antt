-- The operations on plain values and on applications, one row each: x and y are the values that the objects X and Y have
-- before.
use Rattle.std.specs.Prelude.{◌+◌, ◌%◌, ◌==◌, ◌&&◌, not, nat_le, nat_lt, Option, None, Some, Bool, List, ℕ, [], ◌∷◌, ◌++◌, length, take, drop}
use Rattle.std.specs.List.{concat}
use Rattle.oper_core.specs.Meaning.{Meaning, or_else, unless}
use Rattle.oper_core.specs.declared.bounds.Bounds.{Bounds}
use Rattle.oper_core.specs.declared.refusal.Refusal.{Refusal}
use Rattle.oper_core.specs.declared.refusal.Refusal.TheVariants.{BadPlace, BadWidth, NoInput, TooLarge}
use Rattle.op_meaning.specs.AppState.{app_check, app_of, fed, state_code, stepped}
use Rattle.op_meaning.specs.Order.{records, in_order}
use Rattle.op_rows.specs.Rows.{Row, first, objects_alone, rows_meaning, second, with_number}
use Rattle.op_meaning.specs.declared.plain_op.PlainOp.{PlainOp}
use Rattle.op_meaning.specs.declared.plain_op.PlainOp.TheVariants.{Put, Copy, Append, Cut, Sort, Swap, Exec, AppRead, AppWrite}

-- the refusals on values

-- both together are not too long
abbrev pub append_check : Bounds → List ℕ → List ℕ → Option Refusal
append_check b x y = unless (nat_le (length x + length y) b.cap) TooLarge

-- there are so many bytes
abbrev pub cut_check : ℕ → List ℕ → Option Refusal
cut_check place x = unless (nat_le place (length x)) BadPlace

-- records of this width fill the value, and the width is not 0
abbrev pub sort_check : ℕ → List ℕ → Option Refusal
sort_check width x = unless (not (width == 0) && (length x % width == 0)) BadWidth

-- the application has some input
abbrev pub exec_check : List ℕ → Option Refusal
exec_check value = or_else (app_check value) (unless (nat_lt 0 (length (app_of value).input)) NoInput)

-- its state is not too long with x
abbrev pub app_read_check : Bounds → List ℕ → List ℕ → Option Refusal
app_read_check b value x = or_else (app_check value) (unless (nat_le (length (state_code (fed (app_of value) x))) b.cap) TooLarge)

abbrev pub plain_row : PlainOp → Row
-- put X v: X becomes v
plain_row (Put x v) = record {
  names = record { tag = 1; objects = x ∷ []; numbers = []; text = Some v; reads = []; writes = x ∷ [] };
  check = λ b values. None;
  made = λ values. v ∷ [];
}
-- copy X Y: Y becomes x
plain_row (Copy x y) = record {
  names = objects_alone 2 (x ∷ y ∷ []) (x ∷ []) (y ∷ []);
  check = λ b values. None;
  made = λ values. first values ∷ [];
}
-- append X Y: Y becomes y and then x, where both together are not too long
plain_row (Append x y) = record {
  names = objects_alone 3 (x ∷ y ∷ []) (x ∷ y ∷ []) (y ∷ []);
  check = λ b values. append_check b (first values) (second values);
  made = λ values. (second values ++ first values) ∷ [];
}
-- cut X Y k: X becomes the first k bytes of x, and Y the rest, where x has so many
plain_row (Cut x y k) = record {
  names = with_number 4 (x ∷ y ∷ []) k (x ∷ []) (x ∷ y ∷ []);
  check = λ b values. cut_check k (first values);
  made = λ values. take k (first values) ∷ drop k (first values) ∷ [];
}
-- sort X Y w: Y becomes the records of w bytes of x, in byte order, where w is not 0 and such records fill x
plain_row (Sort x y w) = record {
  names = with_number 5 (x ∷ y ∷ []) w (x ∷ []) (y ∷ []);
  check = λ b values. sort_check w (first values);
  made = λ values. concat (in_order (records w (first values))) ∷ [];
}
-- swap X Y: the values are exchanged
plain_row (Swap x y) = record {
  names = objects_alone 6 (x ∷ y ∷ []) (x ∷ y ∷ []) (x ∷ y ∷ []);
  check = λ b values. None;
  made = λ values. second values ∷ first values ∷ [];
}
-- exec A: the application does a step, where it has some input
plain_row (Exec a) = record {
  names = objects_alone 7 (a ∷ []) (a ∷ []) (a ∷ []);
  check = λ b values. exec_check (first values);
  made = λ values. state_code (stepped (app_of (first values))) ∷ [];
}
-- aread A X: x is added to the application's input, where its state is not too long then
plain_row (AppRead a x) = record {
  names = objects_alone 8 (a ∷ x ∷ []) (a ∷ x ∷ []) (a ∷ []);
  check = λ b values. app_read_check b (first values) (second values);
  made = λ values. state_code (fed (app_of (first values)) (second values)) ∷ [];
}
-- awrite A X: X becomes the application's output
plain_row (AppWrite a x) = record {
  names = objects_alone 9 (a ∷ x ∷ []) (a ∷ []) (x ∷ []);
  check = λ b values. app_check (first values);
  made = λ values. (app_of (first values)).output ∷ [];
}

abbrev pub plain_meaning : Bounds → Meaning PlainOp
plain_meaning = rows_meaning plain_row

-- the tags of these operations
abbrev pub is_plain_tag : ℕ → Bool
is_plain_tag tag = nat_le 1 tag && nat_le tag 9
