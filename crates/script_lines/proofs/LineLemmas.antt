-- A line is what stands before the first newline.
use Rattle.std.proofs.Common.{◌≡◌, ◌≢◌, ◌+◌, ◌-◌, ◌≤◌, ◌<◌, ◌++◌, List, ℕ, [], ◌∷◌, zero, suc, length, take, drop, length-take, length-append, append_assoc, refl, ap, ◌∙◌, sym, subst, arith, Bool, true, false, if◌then◌else◌, ◌==◌, nat_le, min, inl, inr, position, Some, None}
use Rattle.std.proofs.lemmas.Bool.Decides.{nat_tests}
use Rattle.std.proofs.lemmas.Bool.{cases_lt}
use Rattle.std.proofs.lemmas.List.{append-nil, take_all}
use Rattle.script_lines.specs.Grammar.{lines_of, before_first}
use Rattle.script_lines.specs.Reader.{Reader, unread}
use Rattle.script_lines.specs.Reading.{IsNext, ReadsOn, IsPlain, TakesRun, still_to_give}
use Rattle.script_lines.proofs.PlaceLemmas.{split_at, plain_front, plain_all}
use Rattle.script_lines.specs.declared.next.Next.{Next}
use Rattle.script_lines.specs.declared.next.Next.TheVariants.{Line, Long, End}

step_other : (byte : ℕ) (rest : List ℕ) → byte ≢ 10 → lines_of (byte ∷ rest) ≡ before_first byte (lines_of rest)
step_other byte rest other = grind (arith, nat_tests)

line_ends : (bytes rest : List ℕ) → IsPlain bytes → lines_of (bytes ++ 10 ∷ rest) ≡ bytes ∷ lines_of rest
line_ends [] rest plain = refl
line_ends (byte ∷ bytes) rest plain = step_other byte (bytes ++ 10 ∷ rest) plain.0 ∙ ap (before_first byte) (line_ends bytes rest plain.1)

last_line : (bytes : List ℕ) → IsPlain bytes → 0 < length bytes → lines_of bytes ≡ bytes ∷ []
last_line [] plain some = absurd (omega arith)
last_line (byte ∷ []) plain some = step_other byte [] plain.0
last_line (byte ∷ b ∷ bytes) plain some = step_other byte (b ∷ bytes) plain.0 ∙ ap (before_first byte) (last_line (b ∷ bytes) plain.1 (omega arith))

plain_both : (front back : List ℕ) → IsPlain front → IsPlain back → IsPlain (front ++ back)
plain_both [] back one two = two
plain_both (byte ∷ front) back one two = (one.0, plain_both front back one.1 two)

-- the bytes that were taken so far, all of one line
pub record Taken (old now stored : List ℕ) : Type 0 where
  pub bytes : List ℕ
  pub front : old ≡ bytes ++ now
  pub plain : IsPlain bytes
  pub kept : stored ≡ take 40001 bytes

pub takes_on : {a b c : List ℕ} {x y z : ℕ} → ReadsOn a b x y → ReadsOn b c y z → ReadsOn a c x z
takes_on p q = record {
  bytes = p.bytes ++ q.bytes;
  front = p.front ∙ ap (λ l. p.bytes ++ l) q.front ∙ sym (append_assoc p.bytes q.bytes _);
  count = omega (arith, length-append p.bytes q.bytes, p.count, q.count);
}

take_again : (n : ℕ) (xs ys : List ℕ) → take n (take n xs ++ ys) ≡ take n (xs ++ ys)
take_again zero xs ys = refl
take_again (suc n) [] ys = refl
take_again (suc n) (x ∷ xs) ys = ap (λ (l : List ℕ). x ∷ l) (take_again n xs ys)

-- a run of bytes without a newline
takes_run : {old : List ℕ} (now stored run rest next : List ℕ) → Taken old now stored → now ≡ run ++ rest → IsPlain run → next ≡ take 40001 (stored ++ run) → Taken old rest next
takes_run {old} now stored run rest next t is plain pushed = record {
  bytes = t.bytes ++ run;
  front = t.front ∙ ap (λ (l : List ℕ). t.bytes ++ l) is ∙ sym (append_assoc t.bytes run rest);
  plain = plain_both t.bytes run t.plain plain;
  kept = pushed ∙ ap (λ (l : List ℕ). take 40001 (l ++ run)) t.kept ∙ take_again 40001 t.bytes run;
}

le_true : (a b : ℕ) → nat_le a b ≡ true → a ≤ b
le_true a b is = grind (arith, nat_tests)

le_false : (a b : ℕ) → nat_le a b ≡ false → b < a
le_false a b is = grind (arith, nat_tests)

-- which line it is, by whether what was stored of it is short
abbrev pub found_by : Bool → Next
found_by short = if short then Line else Long

is_found : (short : Bool) (old bytes stored rest : List ℕ) → short ≡ nat_le (length stored) 40000 → stored ≡ take 40001 bytes → lines_of old ≡ bytes ∷ lines_of rest → IsNext (found_by short) stored old rest
is_found true old bytes stored rest short kept line =
    let few : length stored ≤ 40000 = le_true (length stored) 40000 (sym short) in
    let fits : length bytes ≤ 40000 = omega (arith, few, ap length kept, length-take 40001 bytes) in
    (bytes, (sym (kept ∙ take_all 40001 bytes (omega (arith, fits))), fits), line)
is_found false old bytes stored rest short kept line =
    let many : 40000 < length stored = le_false (length stored) 40000 (sym short) in
    (bytes, omega (arith, many, ap length kept, length-take 40001 bytes), line)

-- a newline ends the line
line_found : {old : List ℕ} (now stored rest : List ℕ) → Taken old now stored → now ≡ 10 ∷ rest → IsNext (found_by (nat_le (length stored) 40000)) stored old rest
line_found {old} now stored rest t is =
    is_found _ old t.bytes stored rest refl t.kept (ap lines_of (t.front ∙ ap (λ (l : List ℕ). t.bytes ++ l) is) ∙ line_ends t.bytes rest t.plain)

-- so does the end of input
line_at_end : {old : List ℕ} (now stored rest : List ℕ) → Taken old now stored → now ≡ [] → rest ≡ [] → 0 < length stored → IsNext (found_by (nat_le (length stored) 40000)) stored old rest
line_at_end {old} now stored rest t none over some =
    let full : 0 < length t.bytes = omega (arith, some, ap length t.kept, length-take 40001 t.bytes) in
    is_found _ old t.bytes stored rest refl t.kept
    (ap lines_of (t.front ∙ ap (λ (l : List ℕ). t.bytes ++ l) none ∙ append-nil t.bytes) ∙ last_line t.bytes t.plain full ∙ ap (λ (l : List ℕ). t.bytes ∷ lines_of l) (sym over))

empty_is_nil : (bytes : List ℕ) → length bytes ≡ 0 → bytes ≡ []
empty_is_nil [] empty = refl
empty_is_nil (b ∷ bytes) empty = absurd (omega arith)

none_at_end : {old : List ℕ} (now stored rest : List ℕ) → Taken old now stored → now ≡ [] → rest ≡ [] → length stored ≡ 0 → IsNext End stored old rest
none_at_end {old} now stored rest t none over empty =
    let nothing : length t.bytes ≡ 0 = omega (arith, ap length t.kept, length-take 40001 t.bytes, empty) in
    (ap lines_of (t.front ∙ ap (λ (l : List ℕ). t.bytes ++ l) none ∙ append-nil t.bytes ∙ empty_is_nil t.bytes nothing), ap lines_of over)

-- as much of a run is stored as there is room for
pub stored_front : (limit : ℕ) (old run : List ℕ) (count : ℕ) → length old ≤ limit → count ≡ min (length run) (limit - length old) → old ++ take count run ≡ take limit (old ++ run)
stored_front limit old run count few is = elim (cases_lt (limit - length old) (length run)) [
  | inl part ↦ sym (front_and_part old run count limit (omega (arith, is, part, few)))
  | inr all ↦
      let fits : length run ≤ count = omega (arith, is, all) in
      ap (λ (l : List ℕ). old ++ l) (take_all count run fits) ∙ sym (take_all limit (old ++ run) (omega (arith, length-append old run, all, few)))
]
  where
    front_and_part : (xs ys : List ℕ) (k n : ℕ) → n ≡ length xs + k → take n (xs ++ ys) ≡ xs ++ take k ys
    front_and_part [] ys k n is = ap (λ (m : ℕ). take m ys) (omega (arith, is))
    front_and_part (x ∷ xs) ys k zero is = absurd (omega arith)
    front_and_part (x ∷ xs) ys k (suc n) is = ap (λ (l : List ℕ). x ∷ l) (front_and_part xs ys k n (omega (arith, is)))

drop_sum : (xs : List ℕ) (i k j : ℕ) → j ≡ i + k → drop k (drop i xs) ≡ drop j xs
drop_sum xs zero k j is = ap (λ (m : ℕ). drop m xs) (omega (arith, is))
drop_sum xs (suc i) k zero is = absurd (omega arith)
drop_sum [] (suc i) zero (suc j) is = refl
drop_sum [] (suc i) (suc k) (suc j) is = refl
drop_sum (x ∷ xs) (suc i) k (suc j) is = drop_sum xs i k j (omega (arith, is))

drop_of_take : (xs : List ℕ) (n k m : ℕ) → m ≡ n - k → drop k (take n xs) ≡ take m (drop k xs)
drop_of_take xs n zero m is = ap (λ (k : ℕ). take k xs) (omega (arith, is))
drop_of_take [] zero (suc k) zero is = refl
drop_of_take [] zero (suc k) (suc m) is = refl
drop_of_take [] (suc n) (suc k) zero is = refl
drop_of_take [] (suc n) (suc k) (suc m) is = refl
drop_of_take (x ∷ xs) zero (suc k) zero is = refl
drop_of_take (x ∷ xs) zero (suc k) (suc m) is = absurd (omega arith)
drop_of_take (x ∷ xs) (suc n) (suc k) m is = drop_of_take xs n k m (omega (arith, is))

unread_behind : (piece : List ℕ) (start stop k : ℕ) → drop k (unread piece start stop) ≡ unread piece (start + k) stop
unread_behind piece start stop k =
    drop_of_take (drop start piece) (stop - start) k (stop - (start + k)) (omega arith) ∙ ap (λ (l : List ℕ). take (stop - (start + k)) l) (drop_sum piece start k (start + k) refl)

-- a run up to a newline
pub run_to_newline : (old new : Reader) (piece stored : List ℕ) (start stop place : ℕ) → old.ahead ≡ unread piece start stop → old.line ≡ stored
    → position (λ b. b == 10) (unread piece start stop) ≡ Some place → new.ahead ≡ unread piece (start + (place + 1)) stop
    → new.line ≡ take 40001 (stored ++ take place (unread piece start stop)) → TakesRun old new true
run_to_newline old new piece stored start stop place ahead line is behind pushed = record {
  run = take place (unread piece start stop);
  plain = plain_front (unread piece start stop) place is;
  front = ahead ∙ split_at 10 (unread piece start stop) place is
      ∙ ap (λ (l : List ℕ). take place (unread piece start stop) ++ 10 ∷ l) (unread_behind piece start stop (place + 1) ∙ sym behind);
  line = pushed ∙ ap (λ (l : List ℕ). take 40001 (l ++ take place (unread piece start stop))) (sym line);
}

-- a run without a newline
pub run_of_all : (old new : Reader) (run stored : List ℕ) → old.ahead ≡ run → old.line ≡ stored → position (λ b. b == 10) run ≡ None → new.ahead ≡ []
    → new.line ≡ take 40001 (stored ++ run) → TakesRun old new false
run_of_all old new run stored ahead line is over pushed = record {
  run = run;
  plain = plain_all run is;
  front = ahead ∙ sym (append-nil run) ∙ ap (λ (l : List ℕ). run ++ l) (sym over);
  line = pushed ∙ ap (λ (l : List ℕ). take 40001 (l ++ run)) (sym line);
}

-- nothing is unread from the end on
pub none_unread : (piece : List ℕ) (stop : ℕ) → unread piece stop stop ≡ []
none_unread piece stop = let none : stop - stop ≡ 0 = omega arith in ap (λ (n : ℕ). take n (drop stop piece)) none

shorter : (ahead run rest : List ℕ) (ends : Bool) → ahead ≡ run ++ (if ends then 10 ∷ rest else rest) → length run + length rest ≤ length ahead
shorter ahead run rest true is = omega (arith, ap length is, length-append run (10 ∷ rest))
shorter ahead run rest false is = omega (arith, ap length is, length-append run rest)

-- a run leaves less to give, by what the line has more
pub run_less : {old new : Reader} {ended : Bool} → TakesRun old new ended → new.taken ≡ old.taken → still_to_give new + length new.line ≤ still_to_give old + length old.line
run_less {old} {new} {ended} t same = omega (arith, same, shorter old.ahead t.run new.ahead ended t.front, ap length t.line, length-take 40001 (old.line ++ t.run), length-append old.line t.run)

run_in : (ahead run more left now : List ℕ) → ahead ++ left ≡ now → ahead ≡ run ++ more → now ≡ run ++ (more ++ left)
run_in ahead run more left now same front = sym same ∙ ap (λ (l : List ℕ). l ++ left) front ∙ append_assoc run more left

stored_then : {stored : List ℕ} {before after : Reader} {ended : Bool} → before.line ≡ stored → (r : TakesRun before after ended) → after.line ≡ take 40001 (stored ++ r.run)
stored_then line r = r.line ∙ ap (λ (l : List ℕ). take 40001 (l ++ r.run)) line

-- a run without a newline is taken, and the line goes on
pub line_goes_on : {old : List ℕ} (now stored left : List ℕ) {before after : Reader} {ended : Bool} → Taken old now stored → before.line ≡ stored → before.ahead ++ left ≡ now
    → TakesRun before after ended → ended ≡ false → Taken old (after.ahead ++ left) after.line
line_goes_on now stored left {before} {after} t line same run is =
    let r = subst (λ (e : Bool). TakesRun before after e) is run in
    takes_run now stored r.run (after.ahead ++ left) after.line t (run_in before.ahead r.run after.ahead left now same r.front) r.plain (stored_then line r)

-- a run up to a newline is taken, and ends the line
pub line_is_taken : {old : List ℕ} (now stored left : List ℕ) {before after : Reader} {ended : Bool} {next : Next} → Taken old now stored → before.line ≡ stored → before.ahead ++ left ≡ now
    → TakesRun before after ended → ended ≡ true → next ≡ found_by (nat_le (length after.line) 40000) → IsNext next after.line old (after.ahead ++ left)
line_is_taken {old} now stored left {before} {after} t line same run is which =
    let r = subst (λ (e : Bool). TakesRun before after e) is run in
    let rest = 10 ∷ (after.ahead ++ left) in
    let more = takes_run now stored r.run rest after.line t (run_in before.ahead r.run (10 ∷ after.ahead) left now same r.front) r.plain (stored_then line r) in
    subst (λ (n : Next). IsNext n after.line old (after.ahead ++ left)) (sym which) (line_found rest after.line (after.ahead ++ left) more refl)

-- the input ends after some bytes of a line
pub line_ends_input : {old : List ℕ} (now stored rest line : List ℕ) {next : Next} → Taken old now stored → line ≡ stored → rest ≡ now → rest ≡ [] → 0 < length line
    → next ≡ found_by (nat_le (length line) 40000) → IsNext next line old rest
line_ends_input {old} now stored rest line t same left over some which =
    let there = subst (λ (l : List ℕ). Taken old now l) (sym same) t in
    subst (λ (n : Next). IsNext n line old rest) (sym which) (line_at_end now line rest there (sym left ∙ over) over some)

-- the input ends after no byte
pub input_ends : {old : List ℕ} (now stored rest line : List ℕ) → Taken old now stored → line ≡ stored → rest ≡ now → rest ≡ [] → length line ≡ 0 → IsNext End line old rest
input_ends {old} now stored rest line t same left over none =
    none_at_end now line rest (subst (λ (l : List ℕ). Taken old now l) (sym same) t) (sym left ∙ over) over none
