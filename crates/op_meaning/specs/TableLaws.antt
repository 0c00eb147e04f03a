-- Each row of the table is lawful, and the table tells operations apart.
use Rattle.std.proofs.Common.{◌<◌, ◌≡◌, ℕ, ◌+◌, List, [], ◌++◌, ◌==◌, if◌then◌else◌, length, take, drop, slice_index, refl, sym, ap, ◌∙◌, inl, inr, arith, length-append, length-drop, length-take}
use Rattle.std.specs.Prelude.{Option, None, Some, true, is_some, unwrap_or, nat_le, nat_lt}
use Rattle.std.specs.List.{concat}
use Rattle.std.proofs.lemmas.Bool.{leb-true, ltb-true}
use Rattle.oper_core.specs.Meaning.{unless}
use Rattle.oper_core.specs.Family.{IsTagged}
use Rattle.oper_core.specs.declared.bounds.Bounds.{Bounds}
use Rattle.oper_core.specs.MeaningLaws.{or_else-none, or_else-both, unless-none}
use Rattle.oper_core.specs.declared.refusal.Refusal.TheVariants.{NotApp, NoInput, TooLarge}
use Rattle.op_meaning.specs.Order.{records, in_order}
use Rattle.op_meaning.specs.OrderLaws.{length-sorted}
use Rattle.op_rows.specs.Rows.{all_numbers, first, second}
use Rattle.op_meaning.specs.AppState.{Application, app_check, app_of, fed, new_application, state_code, state_in, stepped}
use Rattle.op_meaning.specs.AppStateLaws.{length-state, length-stepped, state_within}
use Rattle.op_rows.specs.RowLaws.{AreRows, IsRow, first_short, fits_more, one_short, second_short, two_short}
use Rattle.op_meaning.specs.Table.{exec_check, is_plain_tag, plain_meaning, plain_row}
use Rattle.op_meaning.specs.declared.plain_op.PlainOp.{PlainOp}
use Rattle.op_meaning.specs.declared.plain_op.PlainOp.TheVariants.{Put, Copy, Append, Cut, Sort, Swap, Exec, AppRead, AppWrite}

put_is_row : (x : ℕ) (v : List ℕ) → IsRow (plain_row (Put x v))
put_is_row x v = record {
  reads = inl refl;
  writes = inr (inl refl);
  writes_some = omega arith;
  made = λ values. refl;
  short = λ b values text short e. one_short b.cap v text;
  wider = λ b c le values e. e;
}

copy_is_row : (x y : ℕ) → IsRow (plain_row (Copy x y))
copy_is_row x y = record {
  reads = inr (inr (0, omega arith, refl));
  writes = inr (inr (1, omega arith, refl));
  writes_some = omega arith;
  made = λ values. refl;
  short = λ b values text short e. one_short b.cap (first values) (first_short b.cap values short);
  wider = λ b c le values e. e;
}

append_is_row : (x y : ℕ) → IsRow (plain_row (Append x y))
append_is_row x y = record {
  reads = inr (inl refl);
  writes = inr (inr (1, omega arith, refl));
  writes_some = omega arith;
  made = λ values. refl;
  short = λ b values text short e.
      let fits = leb-true (length (first values) + length (second values)) b.cap (unless-none _ _ e) in
      one_short b.cap (second values ++ first values) (omega (arith, fits, length-append (second values) (first values)));
  wider = λ b c le values e. fits_more (length (first values) + length (second values)) b.cap c.cap le e;
}

cut_is_row : (x y k : ℕ) → IsRow (plain_row (Cut x y k))
cut_is_row x y k = record {
  reads = inr (inr (0, omega arith, refl));
  writes = inr (inl refl);
  writes_some = omega arith;
  made = λ values. refl;
  short = λ b values text short e.
      let x : List ℕ = first values in
      let fits = first_short b.cap values short in
      two_short b.cap (take k x) (drop k x) (omega (arith, fits, length-take k x)) (omega (arith, fits, length-drop k x));
  wider = λ b c le values e. e;
}

sort_is_row : (x y w : ℕ) → IsRow (plain_row (Sort x y w))
sort_is_row x y w = record {
  reads = inr (inr (0, omega arith, refl));
  writes = inr (inr (1, omega arith, refl));
  writes_some = omega arith;
  made = λ values. refl;
  short = λ b values text short e.
      let fits = first_short b.cap values short in
      one_short b.cap (concat (in_order (records w (first values)))) (omega (arith, fits, length-sorted w (first values)));
  wider = λ b c le values e. e;
}

swap_is_row : (x y : ℕ) → IsRow (plain_row (Swap x y))
swap_is_row x y = record {
  reads = inr (inl refl);
  writes = inr (inl refl);
  writes_some = omega arith;
  made = λ values. refl;
  short = λ b values text short e. two_short b.cap (second values) (first values) (second_short b.cap values short) (first_short b.cap values short);
  wider = λ b c le values e. e;
}

-- ---- applications

-- where the value is a state, it is that of the application
pub is_app : (value : List ℕ) → app_check value ≡ None → state_in value ≡ Some (app_of value)
is_app value e = some_of (state_in value) (unless-none (is_some (state_in value)) NotApp e) where
  some_of : (o : Option Application) → is_some o ≡ true → o ≡ Some (unwrap_or o new_application)
  some_of None e = cc
  some_of (Some s) e = refl

pub has_input : (value : List ℕ) → exec_check value ≡ None → (app_check value ≡ None) × (0 < length (app_of value).input)
has_input value e =
    let tests = or_else-none (app_check value) (unless (nat_lt 0 (length (app_of value).input)) NoInput) e in
    (tests.0, ltb-true 0 (length (app_of value).input) (unless-none (nat_lt 0 (length (app_of value).input)) NoInput tests.1))

exec_is_row : (a : ℕ) → IsRow (plain_row (Exec a))
exec_is_row a = record {
  reads = inr (inl refl);
  writes = inr (inl refl);
  writes_some = omega arith;
  made = λ values. refl;
  short = λ b values text short e.
      let value : List ℕ = first values in
      let fits = first_short b.cap values short in
      let ready = has_input value e in
      let size = length-state value (app_of value) (is_app value ready.0) ready.1 in
      one_short b.cap (state_code (stepped (app_of value))) (omega (arith, fits, size, length-stepped (app_of value) ready.1));
  wider = λ b c le values e. e;
}

app_read_is_row : (a x : ℕ) → IsRow (plain_row (AppRead a x))
app_read_is_row a x = record {
  reads = inr (inl refl);
  writes = inr (inr (0, omega arith, refl));
  writes_some = omega arith;
  made = λ values. refl;
  short = λ b values text short e.
      let code : List ℕ = state_code (fed (app_of (first values)) (second values)) in
      let tests = or_else-none (app_check (first values)) (unless (nat_le (length code) b.cap) TooLarge) e in
      one_short b.cap code (leb-true (length code) b.cap (unless-none (nat_le (length code) b.cap) TooLarge tests.1));
  wider = λ b c le values e.
      let code : List ℕ = state_code (fed (app_of (first values)) (second values)) in
      let tests = or_else-none (app_check (first values)) (unless (nat_le (length code) b.cap) TooLarge) e in
      or_else-both (app_check (first values)) (unless (nat_le (length code) c.cap) TooLarge) tests.0 (fits_more (length code) b.cap c.cap le tests.1);
}

app_write_is_row : (a x : ℕ) → IsRow (plain_row (AppWrite a x))
app_write_is_row a x = record {
  reads = inr (inr (0, omega arith, refl));
  writes = inr (inr (1, omega arith, refl));
  writes_some = omega arith;
  made = λ values. refl;
  short = λ b values text short e.
      let fits = first_short b.cap values short in
      let within = state_within (first values) (app_of (first values)) (is_app (first values) e) in
      one_short b.cap (app_of (first values)).output (omega (arith, fits, within));
  wider = λ b c le values e. e;
}

-- ---- the table

is_row : (op : PlainOp) → IsRow (plain_row op)
is_row (Put x v) = put_is_row x v
is_row (Copy x y) = copy_is_row x y
is_row (Append x y) = append_is_row x y
is_row (Cut x y k) = cut_is_row x y k
is_row (Sort x y w) = sort_is_row x y w
is_row (Swap x y) = swap_is_row x y
is_row (Exec a) = exec_is_row a
is_row (AppRead a x) = app_read_is_row a x
is_row (AppWrite a x) = app_write_is_row a x

-- how many numbers stand after a tag
abbrev pub count_of : ℕ → ℕ
count_of tag = if tag == 1 then 1 else (if tag == 4 then 3 else (if tag == 5 then 3 else (if tag == 7 then 1 else 2)))

pub count_is : (op : PlainOp) → length (all_numbers (plain_row op).names) ≡ count_of (plain_row op).names.tag
count_is (Put x v) = refl
count_is (Copy x y) = refl
count_is (Append x y) = refl
count_is (Cut x y k) = refl
count_is (Sort x y w) = refl
count_is (Swap x y) = refl
count_is (Exec a) = refl
count_is (AppRead a x) = refl
count_is (AppWrite a x) = refl

-- a text stands after the tag 1 alone
kind_is : (op : PlainOp) → is_some (plain_row op).names.text ≡ ((plain_row op).names.tag == 1)
kind_is (Put x v) = refl
kind_is (Copy x y) = refl
kind_is (Append x y) = refl
kind_is (Cut x y k) = refl
kind_is (Sort x y w) = refl
kind_is (Swap x y) = refl
kind_is (Exec a) = refl
kind_is (AppRead a x) = refl
kind_is (AppWrite a x) = refl

same_op : (p q : PlainOp) → (plain_row p).names.tag ≡ (plain_row q).names.tag → all_numbers (plain_row p).names ≡ all_numbers (plain_row q).names
    → (plain_row p).names.text ≡ (plain_row q).names.text → p ≡ q
same_op (Put x v) (Put x' v') tags e text = λ i. Put (slice_index (e i) 0) (unwrap_or (text i) [])
same_op (Copy x y) (Copy x' y') tags e text = λ i. Copy (slice_index (e i) 0) (slice_index (e i) 1)
same_op (Append x y) (Append x' y') tags e text = λ i. Append (slice_index (e i) 0) (slice_index (e i) 1)
same_op (Cut x y k) (Cut x' y' k') tags e text = λ i. Cut (slice_index (e i) 0) (slice_index (e i) 1) (slice_index (e i) 2)
same_op (Sort x y w) (Sort x' y' w') tags e text = λ i. Sort (slice_index (e i) 0) (slice_index (e i) 1) (slice_index (e i) 2)
same_op (Swap x y) (Swap x' y') tags e text = λ i. Swap (slice_index (e i) 0) (slice_index (e i) 1)
same_op (Exec a) (Exec a') tags e text = λ i. Exec (slice_index (e i) 0)
same_op (AppRead a x) (AppRead a' x') tags e text = λ i. AppRead (slice_index (e i) 0) (slice_index (e i) 1)
same_op (AppWrite a x) (AppWrite a' x') tags e text = λ i. AppWrite (slice_index (e i) 0) (slice_index (e i) 1)
same_op p q tags e text = absurd (omega (arith, tags))

pub are_plain_rows : AreRows plain_row
are_plain_rows = record {
  each = is_row;
  count = λ p q tags. count_is p ∙ ap count_of tags ∙ sym (count_is q);
  kind = λ p q tags. kind_is p ∙ ap (λ (tag : ℕ). tag == 1) tags ∙ sym (kind_is q);
  same = same_op;
}

-- each code begins with a tag of the table
pub plain_tagged : (b : Bounds) → IsTagged is_plain_tag (plain_meaning b)
plain_tagged b (Put x v) = refl
plain_tagged b (Copy x y) = refl
plain_tagged b (Append x y) = refl
plain_tagged b (Cut x y k) = refl
plain_tagged b (Sort x y w) = refl
plain_tagged b (Swap x y) = refl
plain_tagged b (Exec a) = refl
plain_tagged b (AppRead a x) = refl
plain_tagged b (AppWrite a x) = refl
