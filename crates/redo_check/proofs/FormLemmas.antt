-- Where things stand in an objects file, from its header.
use Rattle.std.proofs.Common.{◌≡◌, ◌+◌, ◌++◌, ◌∙◌, [], List, ℕ, ap, append_assoc, arith, refl, sym}
use Rattle.std.specs.Prelude.{Bool, None, Option, Some, false, true, nat_le, nat_lt, ◌&&◌, if◌then◌else◌}
use Rattle.std.proofs.lemmas.Bool.{and_from, and_left, and_right, cond-false, cond-true}
use Rattle.std.proofs.lemmas.List.{append-nil}
use Rattle.disk_model.specs.Padded.{get_or-padded, padded}
use Rattle.formats.specs.Bytes.{byte_at, number_at}
use Rattle.formats.specs.Objects.{bounds_of, first_form, form_in, is_second, is_set, params_at, second_form}
use Rattle.formats.specs.declared.form.Form.{Form}
use Rattle.formats.specs.declared.params.Params.{Params}
use Rattle.oper_core.specs.declared.bounds.Bounds.{Bounds}
use Rattle.redo_check.specs.Files.{behind_lines, bounds_after, bounds_said, objects_lines, version_of}
use Rattle.redo_check.specs.Lines.{has_cap, has_count, head_lines, is_placed, numbers_lines}
use Rattle.redo_check.specs.Slots.{slots_lines}

abbrev older_in : List ℕ → Bounds
older_in head = record { objects = number_at 4 9 head; cap = number_at 4 13 head; more = false }

-- version 1
pub form_first : (head : List ℕ) → is_second head ≡ false → form_in head ≡ first_form
unfolding form_in
form_first head is = cond-false (is_second head) (second_form (older_in head)) first_form is

-- version 2
pub form_second : (head : List ℕ) → is_second head ≡ true → form_in head ≡ second_form (older_in head)
unfolding form_in
form_second head is = cond-true (is_second head) (second_form (older_in head)) first_form is

abbrev fits : Form → Bool
fits form = nat_le form.older.objects 4096 && nat_le form.older.cap 16384

pub placed_first : (head : List ℕ) → is_second head ≡ false → is_placed head ≡ true
placed_first head is = ap fits (form_first head is) ∙ refl

pub placed_second : (head : List ℕ) (older : Bounds) → is_second head ≡ true → older ≡ record { objects = number_at 4 9 head; cap = number_at 4 13 head; more = false }
    → (second_form older ≡ form_in head) × (is_placed head ≡ (nat_le older.objects 4096 && nat_le older.cap 16384))
placed_second head older is same = (
  ap second_form same ∙ sym (form_second head is),
  ap fits (form_second head is) ∙ ap (λ (b : Bounds). fits (second_form b)) (sym same),
)

-- the switch, in a byte that was read
pub switch_read : (file bytes : List ℕ) (numbers : ℕ) → bytes ≡ padded file (numbers + 3) 1 → nat_lt 0 (byte_at 0 bytes) ≡ is_set numbers file
switch_read file bytes numbers read =
    let spot : numbers + 3 + 0 ≡ numbers + 3 = omega arith in
    ap (λ (b : ℕ). nat_lt 0 b) (ap (λ (l : List ℕ). byte_at 0 l) read ∙ get_or-padded file (numbers + 3) 1 0 (omega arith) ∙ ap (λ (k : ℕ). byte_at k file) spot)

-- the version by the header alone: it is the first, or does not say where the numbers stand
pub version_first : (head file : List ℕ) → is_second head ≡ false → version_of head file ≡ 1
version_first head file first = cond-false (is_second head) (if is_placed head && is_set (form_in head).numbers file then 3 else 2) 1 first

second_by : (head file : List ℕ) → is_second head ≡ true → version_of head file ≡ (if is_placed head && is_set (form_in head).numbers file then 3 else 2)
second_by head file second = cond-true (is_second head) (if is_placed head && is_set (form_in head).numbers file then 3 else 2) 1 second

pub version_unplaced : (head file : List ℕ) → is_second head ≡ true → is_placed head ≡ false → version_of head file ≡ 2
version_unplaced head file second none =
    second_by head file second ∙ cond-false (is_placed head && is_set (form_in head).numbers file) 3 2 (and_left (is_placed head) (is_set (form_in head).numbers file) none)

-- and by the switch
module _ (head file : List ℕ) (form : Form) (second : is_second head ≡ true) (is : form ≡ form_in head) (placed : is_placed head ≡ true) where
  pub version_third : is_set form.numbers file ≡ true → version_of head file ≡ 3
  version_third some =
      let test = and_from (is_placed head) (is_set (form_in head).numbers file) placed (ap (λ (f : Form). is_set f.numbers file) (sym is) ∙ some) in
      second_by head file second ∙ cond-true (is_placed head && is_set (form_in head).numbers file) 3 2 test

  pub version_second : is_set form.numbers file ≡ false → version_of head file ≡ 2
  version_second none =
      let test = and_right (is_placed head) (is_set (form_in head).numbers file) (ap (λ (f : Form). is_set f.numbers file) (sym is) ∙ none) in
      second_by head file second ∙ cond-false (is_placed head && is_set (form_in head).numbers file) 3 2 test

-- the lines of the numbers that were read
numbers_said : (form : Form) (file bytes : List ℕ) (p : Params) (old text : List ℕ) → bytes ≡ padded file form.numbers 12 → p ≡ params_at 0 bytes → text ≡ old ++ numbers_lines form p
    → text ≡ old ++ numbers_lines form (params_at 0 (padded file form.numbers 12))
numbers_said form file bytes p old text read is said = said ∙ ap (λ (q : Params). old ++ numbers_lines form q) (is ∙ ap (params_at 0) read)

-- where N and CAP do not say where the slots stand
pub behind_none : (form : Form) (file bytes : List ℕ) (p : Params) (test : Bool) (old text : List ℕ) → bytes ≡ padded file form.numbers 12 → p ≡ params_at 0 bytes → test ≡ (has_count form p && has_cap form p)
    → test ≡ false → text ≡ old ++ numbers_lines form p → text ≡ old ++ behind_lines form file
behind_none form file bytes p test old text read is tested no_slots said =
    let q = params_at 0 (padded file form.numbers 12) in
    let same : p ≡ q = is ∙ ap (params_at 0) read in
    let none : (has_count form q && has_cap form q) ≡ false = ap (λ (r : Params). has_count form r && has_cap form r) (sym same) ∙ sym tested ∙ no_slots in
    numbers_said form file bytes p old text read is said
    ∙ ap (λ (l : List ℕ). old ++ l) (sym (append-nil (numbers_lines form q)) ∙ ap (λ (l : List ℕ). numbers_lines form q ++ l) (sym (cond-false (has_count form q && has_cap form q) (slots_lines (record { params = q; first = form.first }) file) [] none)))

-- where they do
pub behind_some : (form : Form) (file bytes : List ℕ) (p : Params) (test : Bool) (old mid text : List ℕ) → bytes ≡ padded file form.numbers 12 → p ≡ params_at 0 bytes → test ≡ (has_count form p && has_cap form p)
    → test ≡ true → mid ≡ old ++ numbers_lines form p → text ≡ mid ++ slots_lines (record { params = p; first = form.first }) file → text ≡ old ++ behind_lines form file
behind_some form file bytes p test old mid text read is tested some said more =
    let q = params_at 0 (padded file form.numbers 12) in
    let same : p ≡ q = is ∙ ap (params_at 0) read in
    let slots = slots_lines (record { params = q; first = form.first }) file in
    let there : (has_count form q && has_cap form q) ≡ true = ap (λ (r : Params). has_count form r && has_cap form r) (sym same) ∙ sym tested ∙ some in
    more ∙ (λ i. numbers_said form file bytes p old mid read is said i ++ slots_lines (record { params = same i; first = form.first }) file)
    ∙ append_assoc old (numbers_lines form q) slots ∙ ap (λ (l : List ℕ). old ++ (numbers_lines form q ++ l)) (sym (cond-true (has_count form q && has_cap form q) slots [] there))

-- the lines of the header and the version that were read
headed : (file head : List ℕ) (version : ℕ) (old text : List ℕ) → head ≡ padded file 0 17 → version ≡ version_of head file → text ≡ old ++ head_lines version head
    → text ≡ old ++ head_lines (version_of (padded file 0 17) file) (padded file 0 17)
headed file head version old text read version_is said =
    let same : version ≡ version_of (padded file 0 17) file = version_is ∙ ap (λ (h : List ℕ). version_of h file) read in
    said ∙ λ i. old ++ head_lines (same i) (read i)

-- the header, where it does not say where the numbers stand
pub head_alone : (file head : List ℕ) (version : ℕ) (old text : List ℕ) → head ≡ padded file 0 17 → version ≡ version_of head file → is_placed head ≡ false → text ≡ old ++ head_lines version head
    → text ≡ old ++ objects_lines file
head_alone file head version old text read version_is none said =
    let h = padded file 0 17 in
    let lines = head_lines (version_of h file) h in
    headed file head version old text read version_is said
    ∙ ap (λ (l : List ℕ). old ++ l) (sym (append-nil lines) ∙ ap (λ (l : List ℕ). lines ++ l) (sym (cond-false (is_placed h) (behind_lines (form_in h) file) [] (ap is_placed (sym read) ∙ none))))

-- and where it does
pub head_and_more : (file head : List ℕ) (version : ℕ) (form : Form) (old mid text : List ℕ) → head ≡ padded file 0 17 → version ≡ version_of head file → form ≡ form_in head → is_placed head ≡ true
    → mid ≡ old ++ head_lines version head → text ≡ mid ++ behind_lines form file → text ≡ old ++ objects_lines file
head_and_more file head version form old mid text read version_is is placed said more =
    let h = padded file 0 17 in
    let lines = head_lines (version_of h file) h in
    let form_is : form ≡ form_in h = is ∙ ap form_in read in
    more ∙ (λ i. headed file head version old mid read version_is said i ++ behind_lines (form_is i) file)
    ∙ append_assoc old lines (behind_lines (form_in h) file)
    ∙ ap (λ (l : List ℕ). old ++ (lines ++ l)) (sym (cond-true (is_placed h) (behind_lines (form_in h) file) [] (ap is_placed (sym read) ∙ placed)))

-- the bounds that the numbers do not say
pub bounds_none : (form : Form) (file bytes : List ℕ) (p : Params) (test : Bool) → bytes ≡ padded file form.numbers 12 → p ≡ params_at 0 bytes → test ≡ (has_count form p && has_cap form p) → test ≡ false
    → None ≡ bounds_after form file
bounds_none form file bytes p test read is tested none =
    let q = params_at 0 (padded file form.numbers 12) in
    let same : p ≡ q = is ∙ ap (params_at 0) read in
    sym (cond-false (has_count form q && has_cap form q) (Some (bounds_of q)) None (ap (λ (r : Params). has_count form r && has_cap form r) (sym same) ∙ sym tested ∙ none))

-- and those that they say
pub bounds_some : (form : Form) (file bytes : List ℕ) (p : Params) (test : Bool) → bytes ≡ padded file form.numbers 12 → p ≡ params_at 0 bytes → test ≡ (has_count form p && has_cap form p) → test ≡ true
    → Some (bounds_of p) ≡ bounds_after form file
bounds_some form file bytes p test read is tested some =
    let q = params_at 0 (padded file form.numbers 12) in
    let same : p ≡ q = is ∙ ap (params_at 0) read in
    ap (λ (r : Params). Some (bounds_of r)) same
    ∙ sym (cond-true (has_count form q && has_cap form q) (Some (bounds_of q)) None (ap (λ (r : Params). has_count form r && has_cap form r) (sym same) ∙ sym tested ∙ some))

-- the bounds of a file whose header does not say where the numbers stand
pub bounds_alone : (file head : List ℕ) → head ≡ padded file 0 17 → is_placed head ≡ false → None ≡ bounds_said file
bounds_alone file head read none =
    let h = padded file 0 17 in
    sym (cond-false (is_placed h) (bounds_after (form_in h) file) None (ap is_placed (sym read) ∙ none))

-- and where it does
pub bounds_on : (file head : List ℕ) (form : Form) (found : Option Bounds) → head ≡ padded file 0 17 → form ≡ form_in head → is_placed head ≡ true → found ≡ bounds_after form file → found ≡ bounds_said file
bounds_on file head form found read is placed said =
    let h = padded file 0 17 in
    said ∙ ap (λ (f : Form). bounds_after f file) (is ∙ ap form_in read) ∙ sym (cond-true (is_placed h) (bounds_after (form_in h) file) None (ap is_placed (sym read) ∙ placed))
