-- What the bytes that were read say of the file.
use Rattle.std.proofs.Common.{◌≡◌, ◌≢◌, ◌<◌, ◌≤◌, ◌+◌, ◌-◌, ◌*◌, ℕ, List, [], ◌∷◌, length, get_or, take, drop, replicate, refl, sym, ◌∙◌, ap, subst, arith, length-take, length-drop}
use Rattle.std.specs.Prelude.{codes, Bool, true, false, not}
use Rattle.std.specs.Str.{bytes_eq}
use Rattle.std.proofs.lemmas.Slice.Eq.{bytes_eq-Decides}
use Rattle.std.proofs.Common.{inl, inr}
use Rattle.std.proofs.lemmas.Bool.{cases_lt}
use Rattle.byteorder.specs.Numbers.{little_from-take}
use Rattle.std.proofs.lemmas.List.{get_or-drop, get_or-take, get_or_past, take-take, take-append-le, drop-take}
use Rattle.byteorder.specs.Endian.{little_number}
use Rattle.disk_model.specs.Disk.{Files, Disk, Stays, Rises}
use Rattle.disk_model.specs.Moments.{agreed_before}
use Rattle.disk_model.specs.Padded.{padded, get_or-padded}
use Rattle.disk_model.specs.declared.machine.FileNo.TheVariants.{Objects}
use Rattle.formats.specs.Bytes.{number_at, IsOpenAt, IsClosedAt}
use Rattle.formats.specs.Objects.{BeginsStore, IsInRange, IsInForm, IsObjectsFile, second_form, form_in, params_at, params_in, layout_in, last_slot}
use Rattle.formats.specs.FirstFault.{stops, goes_on, check_moved, NoMore, HeadChecks, NumberChecks}
use Rattle.formats.specs.declared.form.Form.{Form}
use Rattle.formats.specs.declared.layout.Layout.{Layout}
use Rattle.formats.specs.Reading.{FailsBy}
use Rattle.formats.specs.declared.params.Params.{Params}
use Rattle.formats.specs.declared.read_err.ReadErr.{ReadErr}
use Rattle.formats.specs.declared.read_err.ReadErr.TheVariants as of_read
use Rattle.stable_objects.specs.SlotGates.{slot_gate}
use Rattle.stable_objects.specs.Reading.{FailsAt, HasForm, HasHeader, IsDamagedAt, IsNoDamage, OpensNot, open_from_read, opens_not}
use Rattle.stable_objects.specs.LayoutLaws.{second_in, form_same, params_at_same}
use Rattle.stable_objects.specs.Laws.{gate_is_open, no_fault, first_is_fault}
use Rattle.stable_objects.specs.declared.open_err.OpenErr.{OpenErr}
use Rattle.stable_objects.specs.declared.open_err.OpenErr.TheVariants.{NotAStore, DiskFault, Damaged, Memory}
use Rattle.stable_objects.proofs.Bytes.{number_same}

-- the numbers in what is read are those of the file
pub number_read : (file : List ℕ) (place n at k : ℕ) → at + k ≤ n → number_at k at (padded file place n) ≡ number_at k (place + at) file
number_read file place n at k within =
    let bytes = padded file place n in
    number_same 0 k (drop at bytes) (drop (place + at) file) (λ j low high.
    let spot : place + (at + j) ≡ place + at + j = omega arith in
    get_or-drop at bytes j 0 ∙ get_or-padded file place n (at + j) (omega (arith, high, within)) ∙ ap (λ (i : ℕ). get_or file i 0) spot ∙ sym (get_or-drop (place + at) file j 0))

-- the numbers that were read are those of the file
pub numbers_read : (file bytes : List ℕ) (place : ℕ) → bytes ≡ padded file place 12 → params_at 0 bytes ≡ params_at place file
numbers_read file bytes place is =
    ap (λ (l : List ℕ). params_at 0 l) is
    ∙ params_at_same 0 place (padded file place 12) file (λ k at within.
    let spot : 0 + at ≡ at = omega arith in
    ap (λ (p : ℕ). number_at k p (padded file place 12)) spot ∙ number_read file place 12 at k within)

-- the form of what was read is the file's
form_read : (file : List ℕ) → form_in (padded file 0 17) ≡ form_in file
form_read file = form_same (padded file 0 17) file (get_or-padded file 0 17 8 (omega arith)) (number_read file 0 17 9 4 (omega arith)) (number_read file 0 17 13 4 (omega arith))

-- a file of eight bytes has those that were read
eight_read : (file : List ℕ) → 8 ≤ length file → take 7 (drop 1 (padded file 0 17)) ≡ take 7 (drop 1 file)
eight_read file there =
    let head = padded file 0 17 in
    let eight : take 8 head ≡ take 8 file =
    take-append-le 8 (take 17 file) (replicate (17 - length (take 17 file)) 0) (omega (arith, there, length-take 17 file)) ∙ take-take 8 17 file (omega arith) in
    sym (drop-take 1 7 head) ∙ ap (λ (l : List ℕ). drop 1 l) eight ∙ drop-take 1 7 file

-- where the file has the magic, so has what was read
magic_read : (file : List ℕ) → take 7 (drop 1 file) ≡ codes "RDOOBJ0" → take 7 (drop 1 (padded file 0 17)) ≡ codes "RDOOBJ0"
magic_read file is = eight_read file (omega (arith, ap length is, length-take 7 (drop 1 file), length-drop 1 file)) ∙ is

-- and the other way: the last byte of the magic is not 0, so the file reaches to it
magic_there : (file : List ℕ) → take 7 (drop 1 (padded file 0 17)) ≡ codes "RDOOBJ0" → take 7 (drop 1 file) ≡ codes "RDOOBJ0"
magic_there file is =
    let head = padded file 0 17 in
    let last : get_or file 7 0 ≡ 48 = sym (get_or-padded file 0 17 7 (omega arith)) ∙ sym (get_or-drop 1 head 6 0) ∙ sym (get_or-take 7 (drop 1 head) 6 0 (omega arith)) ∙ ap (λ (l : List ℕ). get_or l 6 0) is in
    elim (cases_lt 7 (length file)) [
      | inl there ↦ sym (eight_read file there) ∙ is
      | inr short ↦ absurd (omega (arith, last, get_or_past file 7 0 short))
    ]

-- the first check of a header that was read that fails is the file's
checks_read : (file : List ℕ) (behind : ℕ → Type 0) (place : ℕ) → HeadChecks (padded file 0 17) NoMore place → HeadChecks file behind place
checks_read file behind place fault =
    let form = form_read file in
    check_moved 1 place (magic_there file) (magic_read file)
    (check_moved 9 place (subst (λ (f : Form). f.older.objects ≤ 4096) form) (subst (λ (f : Form). f.older.objects ≤ 4096) (sym form))
    (check_moved 13 place (subst (λ (f : Form). f.older.cap ≤ 16384) form) (subst (λ (f : Form). f.older.cap ≤ 16384) (sym form)) (λ never. absurd never)))
    fault

-- the first byte that was read is the file's
gate_read : (file head : List ℕ) → head ≡ padded file 0 17 → get_or head 0 0 ≡ get_or file 0 0
gate_read file head is = ap (λ (l : List ℕ). get_or l 0 0) is ∙ get_or-padded file 0 17 0 (omega arith)

pub damaged_read : (file head : List ℕ) (place : ℕ) → head ≡ padded file 0 17 → IsOpenAt 0 head → HeadChecks head NoMore place → IsDamagedAt file place
damaged_read file head place is is_open fault = record {
  gate = sym (gate_read file head is) ∙ is_open;
  fault = checks_read file _ place (subst (λ (l : List ℕ). HeadChecks l NoMore place) is fault);
}

pub closed_read : (file head : List ℕ) → head ≡ padded file 0 17 → IsClosedAt 0 head → IsClosedAt 0 file
closed_read file head is closed is_open = closed (gate_read file head is ∙ is_open)

pub open_read : (file head : List ℕ) (form : Form) → head ≡ padded file 0 17 → IsOpenAt 0 head → HasForm head form → IsOpenAt 0 file × HasForm file form
open_read file head form is is_open has =
    let here : HasForm (padded file 0 17) form = subst (λ (l : List ℕ). HasForm l form) is has in
    (sym (gate_read file head is) ∙ is_open, record { magic = magic_there file here.magic; is = here.is ∙ form_read file; known = here.known })

-- a number read from the rest of some bytes
pub number_slice : (bytes : List ℕ) (n at : ℕ) → length bytes ≡ n → at + 4 ≤ n → little_number 4 (take (length bytes - at) (drop at bytes)) ≡ number_at 4 at bytes
number_slice bytes n at whole within = little_from-take 0 4 (length bytes - at) (drop at bytes) (omega (arith, whole, within))

-- after numbers without a fault
numbers_behind : (form : Form) (p : Params) (behind : ℕ → Type 0) (place : ℕ) → IsInRange p → IsInForm form p → behind place → NumberChecks form p behind place
numbers_behind form p behind place is fits later = goes_on ((is.some, fits.objects), fits.no_fewer, fits.more) (goes_on ((is.low, fits.cap), fits.no_shorter) (goes_on (is.least, is.limit) later))

-- after a header and numbers without a fault
pub behind_header : (file : List ℕ) (behind : ℕ → Type 0) (place : ℕ) → take 7 (drop 1 file) ≡ codes "RDOOBJ0" → IsInRange (params_in file) → IsInForm (form_in file) (params_in file) → behind place
    → HeadChecks file (NumberChecks (form_in file) (params_in file) behind) place
behind_header file behind place name is fits later = goes_on name (goes_on fits.older_objects (goes_on fits.older_cap (numbers_behind (form_in file) (params_in file) behind place is fits later)))

-- the first check of the numbers that fails is the file's
pub number_damage : (file : List ℕ) (form : Form) (place : ℕ) → IsOpenAt 0 file → HasForm file form → NumberChecks form (params_at form.numbers file) NoMore place → IsDamagedAt file place
number_damage file form place is_open has fault =
    let here : NumberChecks (form_in file) (params_in file) NoMore place = subst (λ (f : Form). NumberChecks f (params_at f.numbers file) NoMore place) has.is fault in
    record {
      gate = is_open;
      fault = goes_on has.magic (goes_on (subst (λ (f : Form). f.older.objects ≤ 4096) has.is has.known.older_objects) (goes_on (subst (λ (f : Form). f.older.cap ≤ 16384) has.is has.known.older_cap)
          (check_moved (form_in file).numbers place (λ is. is) (λ is. is)
          (check_moved ((form_in file).numbers + 4) place (λ is. is) (λ is. is)
          (check_moved ((form_in file).numbers + 8) place (λ is. is) (λ is. is) (λ never. absurd never)))
          here)));
    }

-- version 2, with these bounds
pub second_here : (head : List ℕ) (objects cap : ℕ) → get_or head 8 0 ≡ 50 → objects ≡ number_at 4 9 head → cap ≡ number_at 4 13 head → second_form (record { objects = objects; cap = cap; more = false }) ≡ form_in head
second_here head objects cap version is_objects is_cap = (λ i. second_form (record { objects = is_objects i; cap = is_cap i; more = false })) ∙ sym (second_in head version)

-- what a test of two lists says
pub differ : (xs ys : List ℕ) (b : Bool) → b ≡ not (bytes_eq xs ys) → b ≡ true → xs ≢ ys
differ xs ys b test is same = let equal = (bytes_eq-Decides xs ys).1 same in cc

not_false : (b : Bool) → not b ≡ false → b ≡ true
not_false true is = refl
not_false false is = cc

pub agree : (xs ys : List ℕ) (b : Bool) → b ≡ not (bytes_eq xs ys) → b ≡ false → xs ≡ ys
agree xs ys b test is = (bytes_eq-Decides xs ys).0 (not_false (bytes_eq xs ys) (sym test ∙ is))

-- an open gate and the magic begin a store
begins : (file : List ℕ) → IsOpenAt 0 file → take 7 (drop 1 file) ≡ codes "RDOOBJ0" → BeginsStore file
begins [] is_open name = absurd (omega (arith, is_open))
begins (gate ∷ rest) is_open name = λ i. is_open i ∷ name i

-- what was read of the header and the numbers, in a file of this form
module _ (file : List ℕ) (form : Form) (p : Params) (is_open : IsOpenAt 0 file) (has : HasForm file form) (is : p ≡ params_at form.numbers file) (in_range : IsInRange p) (fits : IsInForm form p) where
  same_params : params_in file ≡ p
  same_params = ap (λ (f : Form). params_at f.numbers file) (sym has.is) ∙ sym is

  same : layout_in file ≡ record { params = p; first = form.first }
  same = λ i. record { params = same_params i; first = (sym has.is i).first }

  fits_here : IsInForm (form_in file) p
  fits_here = subst (λ (f : Form). IsInForm f p) has.is fits

  -- it reaches to the last slot
  pub header_read : last_slot (record { params = p; first = form.first }) < length file → HasHeader (record { params = p; first = form.first }) file
  header_read within = record { begins = begins file is_open has.magic; is = same; in_range = in_range; in_form = fits_here; whole = within }

  -- or is too short
  pub cut_short : length file ≤ last_slot (record { params = p; first = form.first }) → IsDamagedAt file 0
  cut_short short = record {
    gate = is_open;
    fault = behind_header file _ 0 has.magic (subst IsInRange (sym same_params) in_range) (subst (λ (q : Params). IsInForm (form_in file) q) (sym same_params) fits_here)
        (stops refl (λ within. let reach = subst (λ (l : Layout). length file ≤ last_slot l) (sym same) short in omega (arith, within, reach)));
  }

-- the last of all slots, counted through the file
pub last_gate : (layout : Layout) → IsInRange layout.params → slot_gate layout (2 * layout.params.objects - 1) ≡ last_slot layout
last_gate layout in_range =
    let same : 2 * layout.params.objects - 1 ≡ 2 * (layout.params.objects - 1) + 1 = omega (arith, in_range.some) in ap (λ (k : ℕ). slot_gate layout k) same

-- over a whole file, only the disk or the memory fails
pub only_the_disk : (rises : Type 0) (agrees : Files → Type 0) (files : Files) (p : Params) (e : OpenErr) → agrees files → IsObjectsFile p (files Objects)
    → OpensNot ((files : Files) → agrees files → IsClosedAt 0 (files Objects)) (FailsBy rises (FailsAt (λ place. (files : Files) → agrees files → IsDamagedAt (files Objects) place))) e → IsNoDamage e
only_the_disk rises agrees files p NotAStore agree is fails = fails files agree (gate_is_open p (files Objects) is)
only_the_disk rises agrees files p DiskFault agree is fails = tt
only_the_disk rises agrees files p (Damaged number place) agree is fails = no_fault p (files Objects) place is (first_is_fault (files Objects) place (fails.1 files agree).fault)
only_the_disk rises agrees files p Memory agree is fails = tt

-- why a call failed, for a caller who knows more of the fault
pub handed_on : (rises rises' : Type 0) (P Q : ℕ → Type 0) (e : ReadErr) → (rises → rises') → ((place : ℕ) → P place → Q place) → FailsBy rises (FailsAt P) e → FailsBy rises' (FailsAt Q) e
handed_on rises rises' P Q of_read.DiskFault risen more fails = risen fails
handed_on rises rises' P Q (of_read.Damaged file place) risen more fails = (fails.0, more place fails.1)
handed_on rises rises' P Q of_read.Memory risen more fails = fails

-- and after calls that changed nothing
pub moved : (old mid new : Disk) (P Q : List ℕ → ℕ → Type 0) (e : ReadErr) → Stays old mid → ((files : Files) → new.agrees files → (place : ℕ) → P (files Objects) place → Q (files Objects) place)
    → FailsBy (Rises mid.disk_faults new.disk_faults) (FailsAt (λ place. (files : Files) → new.agrees files → P (files Objects) place)) e
    → FailsBy (Rises old.disk_faults new.disk_faults) (FailsAt (λ place. (files : Files) → new.agrees files → Q (files Objects) place)) e
moved old mid new P Q e stays more fails = handed_on _ _ _ _ e (λ risen below. let rose = risen below in omega (arith, rose, stays.time.disk_faults)) (λ place there files agree. more files agree place (there files agree)) fails

-- why the numbers could not be read, for a caller who knows the form
pub numbers_failed : (old mid new : Disk) (form : Form) (e : ReadErr) → Stays old mid → Stays mid new → ((files : Files) → mid.agrees files → IsOpenAt 0 (files Objects) × HasForm (files Objects) form)
    → FailsBy (Rises mid.disk_faults new.disk_faults) (FailsAt (λ place. (files : Files) → new.agrees files → NumberChecks form (params_at form.numbers (files Objects)) NoMore place)) e
    → OpensNot ((files : Files) → new.agrees files → IsClosedAt 0 (files Objects)) (FailsBy (Rises old.disk_faults new.disk_faults) (FailsAt (λ place. (files : Files) → new.agrees files → IsDamagedAt (files Objects) place))) (open_from_read e)
numbers_failed old mid new form e first second has fails = opens_not _ (FailsBy (Rises old.disk_faults new.disk_faults) (FailsAt (λ place. (files : Files) → new.agrees files → IsDamagedAt (files Objects) place))) e
    (moved old mid new (λ file place. NumberChecks form (params_at form.numbers file) NoMore place) IsDamagedAt e first
    (λ files agree place fault. let here = has files (agreed_before second files agree) in number_damage (files Objects) form place here.0 here.1 fault)
    fails)
