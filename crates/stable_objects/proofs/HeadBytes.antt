-- What the heads that were read say of the slots.
use Rattle.std.proofs.Common.{◌≡◌, ◌≢◌, ◌<◌, ◌≤◌, ◌+◌, ◌-◌, ◌*◌, ℕ, List, [], ◌∷◌, ◌++◌, length, get_or, take, drop, refl, sym, ◌∙◌, ap, subst, arith, inl, inr, length-append, length-take, length-drop}
use Rattle.std.specs.Prelude.{true, false, cond, nat_lt}
use Rattle.std.proofs.lemmas.Bool.{cases_eq, cases_lt, cond-true, cond-false, eq-eqb, ne_eqb}
use Rattle.std.proofs.lemmas.List.{ext_get_or, get_or-drop, get_or-take, get_or_append_left, get_or_push}
use Rattle.byteorder.specs.Endian.{little_number}
use Rattle.byteorder.specs.Numbers.{little_from-take}
use Rattle.disk_model.specs.Disk.{Files, Disk, Stays, Rises}
use Rattle.disk_model.specs.Padded.{padded, length-padded, get_or-padded}
use Rattle.disk_model.specs.Moments.{agreed_before, stays_twice}
use Rattle.disk_model.specs.declared.machine.FileNo.TheVariants.{Objects}
use Rattle.formats.specs.Bytes.{byte_at, number_at, IsOpenAt, IsClosedAt}
use Rattle.formats.specs.Objects.{IsInRange, IsInForm, IsWholeSlot, form_in, params_in, layout_in, slot_place, place_in, holder, cell_at, cell_of, lsn_at, length_at, value_at, open_lsn, last_slot}
use Rattle.formats.specs.FirstFault.{Checks, stops, goes_on, HasLsnWithin, HasValue, AreApart, PairChecks}
use Rattle.formats.specs.Reading.{FailsBy}
use Rattle.formats.specs.declared.layout.Layout.{Layout}
use Rattle.formats.specs.declared.params.Params.{Params}
use Rattle.formats.specs.declared.read_err.ReadErr.{ReadErr}
use Rattle.stable_objects.specs.SlotsView.{AreOf}
use Rattle.stable_objects.specs.Heads.{head_at, IsRead, IsReadAt, IsHeadFault, no_lsn, too_long, IsPair, IsWholePair, IsPairFault, in_first, in_second, alike, ArePairs, AreWholePairs, HasPairFault, open_length, held_length}
use Rattle.stable_objects.specs.Reading.{FailsAt, HasHeader, IsDamagedAt, OpensNot, open_from_read, opens_not}
use Rattle.stable_objects.specs.Laws.{start_is_open, magic_stands}
use Rattle.stable_objects.specs.SlotLaws.{closed_tells, open_tells, closed_value, open_value, holder_below}
use Rattle.stable_objects.proofs.Found.{number_read, behind_header, moved}

-- the head that was read is the file's
pub head_read : (file bytes : List ℕ) (place : ℕ) → bytes ≡ padded file place 13 → head_at 0 bytes ≡ head_at place file
head_read file bytes place is =
    let read = padded file place 13 in
    let spot : place + 0 ≡ place = omega arith in
    let gate : byte_at 0 read ≡ byte_at place file = get_or-padded file place 13 0 (omega arith) ∙ ap (λ (i : ℕ). byte_at i file) spot in
    let number = number_read file place 13 1 8 (omega arith) in
    let length_is = number_read file place 13 9 4 (omega arith) in
    ap (λ (l : List ℕ). head_at 0 l) is ∙ (λ i. record { gate = gate i; lsn = number i; long = length_is i })

-- some of the bytes that were read are those of the file from their place on
pub part_read : (file bytes : List ℕ) (place from n : ℕ) → bytes ≡ padded file place (length bytes) → from + n ≤ length bytes → take n (drop from bytes) ≡ padded file (place + from) n
part_read file bytes place from n is within =
    let part = take n (drop from bytes) in
    let long : length part ≡ n = omega (arith, within, length-take n (drop from bytes), length-drop from bytes) in
    ext_get_or 0 part (padded file (place + from) n) (long ∙ sym (length-padded file (place + from) n)) (λ i less.
    let low : i < n = omega (arith, less, long) in
    let spot : place + (from + i) ≡ place + from + i = omega arith in
    get_or-take n (drop from bytes) i 0 low ∙ get_or-drop from bytes i 0 ∙ ap (λ (l : List ℕ). get_or l (from + i) 0) is
    ∙ get_or-padded file place (length bytes) (from + i) (omega (arith, low, within)) ∙ ap (λ (j : ℕ). get_or file j 0) spot ∙ sym (get_or-padded file (place + from) n i low))

-- a number read from the rest of the bytes
pub number_behind : (n at : ℕ) (bytes : List ℕ) → at + n ≤ length bytes → little_number n (take (length bytes - at) (drop at bytes)) ≡ number_at n at bytes
number_behind n at bytes within = little_from-take 0 n (length bytes - at) (drop at bytes) (omega (arith, within))

-- a head that was read reports a number exactly where its gate is open
pub open_head : (layout : Layout) (x s size lsn : ℕ) (file : List ℕ) → IsReadAt layout x s size file lsn → lsn ≢ 0 → IsOpenAt (slot_place layout x s) file × (lsn ≡ lsn_at (slot_place layout x s) file)
open_head layout x s size lsn file read some =
    let is : lsn ≡ open_lsn (slot_place layout x s) file = read.is in
    elim (cases_eq (byte_at (slot_place layout x s) file) 1) [
      | inl is_open ↦ (is_open, is ∙ open_tells (slot_place layout x s) file is_open)
      | inr closed ↦ absurd (some (is ∙ closed_tells (slot_place layout x s) file closed))
    ]

-- the two reads of an object's heads
pub slot_read : (layout : Layout) (size n : ℕ) (file heads : List ℕ) (x s : ℕ) → ArePairs layout size file n heads → x < n → s < 2 → IsReadAt layout x s size file (get_or heads (2 * x + s) 0)
slot_read layout size n file heads x s pairs below two = elim (cases_eq s 0) [
  | inl first ↦ subst (λ (k : ℕ). IsReadAt layout x k size file (get_or heads (2 * x + k) 0)) (sym first) (pairs x below).first_read
  | inr other ↦
      let second : 1 ≡ s = omega (arith, two, other) in
      subst (λ (k : ℕ). IsReadAt layout x k size file (get_or heads (2 * x + k) 0)) second (pairs x below).second_read
]

-- one pair more
pub more_pairs : (layout : Layout) (size n : ℕ) (file heads half whole lengths more : List ℕ) (first second long : ℕ) → length heads ≡ 2 * n → length lengths ≡ n → AreWholePairs layout size file n heads lengths
    → IsWholePair layout n size file first second long → half ≡ heads ++ first ∷ [] → whole ≡ half ++ second ∷ [] → more ≡ lengths ++ long ∷ [] → AreWholePairs layout size file (n + 1) whole more
more_pairs layout size n file heads half whole lengths more first second long count counted pairs pair half_is whole_is more_is x less =
    let half_long : length half ≡ 2 * n + 1 = omega (arith, count, ap length half_is, length-append heads (first ∷ [])) in
    let before : (i : ℕ) → i < 2 * n + 1 → get_or half i 0 ≡ get_or whole i 0 =
    λ i low. sym (ap (λ (l : List ℕ). get_or l i 0) whole_is ∙ get_or_append_left half (second ∷ []) 0 i (omega (arith, half_long, low))) in
    let early : (i : ℕ) → i < 2 * n → get_or heads i 0 ≡ get_or whole i 0 =
    λ i low. sym (ap (λ (l : List ℕ). get_or l i 0) half_is ∙ get_or_append_left heads (first ∷ []) 0 i (omega (arith, count, low))) ∙ before i (omega (arith, low)) in
    elim (cases_lt x n) [
      | inl low ↦
          let there : get_or lengths x 0 ≡ get_or more x 0 = sym (ap (λ (l : List ℕ). get_or l x 0) more_is ∙ get_or_append_left lengths (long ∷ []) 0 x (omega (arith, counted, low))) in
          ap_pair layout x size file _ _ _ _ _ _ (early (2 * x + 0) (omega (arith, low))) (early (2 * x + 1) (omega (arith, low))) there (pairs x low)
      | inr high ↦
          let here : n ≡ x = omega (arith, less, high) in
          let a : first ≡ get_or whole (2 * n + 0) 0 = sym (ap (λ (l : List ℕ). get_or l (2 * n + 0) 0) half_is ∙ get_or_push heads first 0 (2 * n + 0) (omega (arith, count))) ∙ before (2 * n + 0) (omega arith) in
          let b : second ≡ get_or whole (2 * n + 1) 0 = sym (ap (λ (l : List ℕ). get_or l (2 * n + 1) 0) whole_is ∙ get_or_push half second 0 (2 * n + 1) half_long) in
          let c : long ≡ get_or more n 0 = sym (ap (λ (l : List ℕ). get_or l n 0) more_is ∙ get_or_push lengths long 0 n counted) in
          subst (λ (y : ℕ). IsWholePair layout y size file (get_or whole (2 * y + 0) 0) (get_or whole (2 * y + 1) 0) (get_or more y 0)) here (ap_pair layout n size file _ _ _ _ _ _ a b c pair)
    ]
  where
    ap_pair : (layout : Layout) (x size : ℕ) (file : List ℕ) (a a' b b' c c' : ℕ) → a ≡ a' → b ≡ b' → c ≡ c' → IsWholePair layout x size file a b c → IsWholePair layout x size file a' b' c'
    ap_pair layout x size file a a' b b' c c' first second long is =
        subst (λ (n : ℕ). IsWholePair layout x size file a' b' n) long (subst (λ (n : ℕ). IsWholePair layout x size file a' n c) second (subst (λ (n : ℕ). IsWholePair layout x size file n b c) first is))

-- a head that was read passes its checks
module _ (cap place size lsn : ℕ) (file : List ℕ) (read : IsRead cap place size (head_at place file) lsn) where
  pub lsn_passes : HasLsnWithin place file
  lsn_passes is_open = let fits = read.fits is_open in (fits.some, omega (arith, fits.is_lsn))

  pub value_passes : size ≡ length file → HasValue cap place file
  value_passes is is_open = let fits = read.fits is_open in (fits.short, λ some. omega (arith, fits.within some, is))

-- the first fault of a head is that of its checks
head_checks : (cap at size place : ℕ) (file : List ℕ) (behind : ℕ → Type 0) → size ≡ length file → IsHeadFault cap at size (head_at at file) place
    → Checks (at + 1) (HasLsnWithin at file) (Checks (at + 9) (HasValue cap at file) behind) place
head_checks cap at size place file behind is (no_lsn is_open wrong) = stops refl (λ has. wrong (has is_open))
head_checks cap at size place file behind is (too_long is_open number wrong) =
    goes_on (λ _. number) (stops refl (λ has. let value = has is_open in wrong value.0 (λ some. omega (arith, value.1 some, is))))

-- the LSNs of a pair differ
pub pair_apart : (layout : Layout) (x size first second : ℕ) (file : List ℕ) → IsPair layout x size file first second → AreApart (slot_place layout x 0) (slot_place layout x 1) file
pair_apart layout x size first second file pair one_open other_open same =
    let one : first ≡ lsn_at (slot_place layout x 0) file = pair.first_read.is ∙ open_tells (slot_place layout x 0) file one_open in
    let other : second ≡ lsn_at (slot_place layout x 1) file = pair.second_read.is ∙ open_tells (slot_place layout x 1) file other_open in
    let some = (pair.first_read.fits one_open).some in
    pair.apart (λ none. omega (arith, none, one, some)) (one ∙ same ∙ sym other)

module _ (file : List ℕ) (x size : ℕ) (is : size ≡ length file) where
  -- the first fault of a pair is that of its checks
  pair_checks : (place : ℕ) → IsPairFault (layout_in file) x size file place → PairChecks file x place
  pair_checks _ (in_first place fault) = head_checks (params_in file).cap (slot_place (layout_in file) x 0) size place file _ is fault
  pair_checks _ (in_second lsn place read fault) =
      goes_on (lsn_passes (params_in file).cap (slot_place (layout_in file) x 0) size lsn file read) (goes_on (value_passes (params_in file).cap (slot_place (layout_in file) x 0) size lsn file read is)
      (head_checks (params_in file).cap (slot_place (layout_in file) x 1) size place file _ is fault))
  pair_checks _ (alike lsn some first second) =
      let one = open_head (layout_in file) x 0 size lsn file first some in
      let other = open_head (layout_in file) x 1 size lsn file second some in
      goes_on (lsn_passes (params_in file).cap (slot_place (layout_in file) x 0) size lsn file first) (goes_on (value_passes (params_in file).cap (slot_place (layout_in file) x 0) size lsn file first is)
      (goes_on (lsn_passes (params_in file).cap (slot_place (layout_in file) x 1) size lsn file second) (goes_on (value_passes (params_in file).cap (slot_place (layout_in file) x 1) size lsn file second is)
      (stops refl (λ apart. apart one.0 other.0 (sym one.1 ∙ other.1))))))

  -- a pair without a fault passes them
  pair_passes : (first second place : ℕ) → IsPair (layout_in file) x size file first second → PairChecks file x place → ⊥
  pair_passes first second place pair (stops _ wrong) = wrong (lsn_passes (params_in file).cap (slot_place (layout_in file) x 0) size first file pair.first_read)
  pair_passes first second place pair (goes_on _ (stops _ wrong)) = wrong (value_passes (params_in file).cap (slot_place (layout_in file) x 0) size first file pair.first_read is)
  pair_passes first second place pair (goes_on _ (goes_on _ (stops _ wrong))) = wrong (lsn_passes (params_in file).cap (slot_place (layout_in file) x 1) size second file pair.second_read)
  pair_passes first second place pair (goes_on _ (goes_on _ (goes_on _ (stops _ wrong)))) = wrong (value_passes (params_in file).cap (slot_place (layout_in file) x 1) size second file pair.second_read is)
  pair_passes first second place pair (goes_on _ (goes_on _ (goes_on _ (goes_on _ (stops _ wrong))))) = wrong (pair_apart (layout_in file) x size first second file pair)
  pair_passes first second place pair (goes_on _ (goes_on _ (goes_on _ (goes_on _ (goes_on _ never))))) = never

pub slots_damage : (layout : Layout) (file : List ℕ) (size place : ℕ) → HasHeader layout file → size ≡ length file → HasPairFault layout size file place → IsDamagedAt file place
slots_damage layout file size place header is found =
    let here : HasPairFault (layout_in file) size file place = subst (λ (l : Layout). HasPairFault l size file place) (sym header.is) found in
    let same : layout.params ≡ params_in file = ap (λ (l : Layout). l.params) (sym header.is) in
    record {
      gate = start_is_open file header.begins;
      fault = behind_header file _ place (magic_stands file header.begins) (subst IsInRange same header.in_range) (subst (λ (q : Params). IsInForm (form_in file) q) same header.in_form)
          (goes_on (subst (λ (l : Layout). last_slot l < length file) (sym header.is) header.whole) (record {
            x = here.x;
            below = here.below;
            before = λ y other less. pair_passes file y size is _ _ other (here.before y less);
            fault = pair_checks file here.x size is place here.fault;
          }));
    }

-- which of two lengths is that of the object
pub held_is : (layout : Layout) (x first second one other : ℕ) (file : List ℕ) → one ≡ open_length (head_at (slot_place layout x 0) file) → other ≡ open_length (head_at (slot_place layout x 1) file)
    → cond (nat_lt first second) other one ≡ held_length layout x file first second
held_is layout x first second one other file one_is other_is = elim (nat_lt first second) as (λ b. cond b other one ≡ open_length (head_at (slot_place layout x (cond b 1 0)) file)) [
  | true ↦ other_is
  | false ↦ one_is
]

-- the value of an open slot that is whole is as long as its head says
value_long : (cap place : ℕ) (file : List ℕ) → IsWholeSlot cap place file → length (value_at place file) ≡ length_at place file
value_long cap place file whole = elim (cases_eq (length_at place file) 0) [
  | inl none ↦ omega (arith, none, length-take (length_at place file) (drop (place + 13) file))
  | inr some ↦ omega (arith, whole.within (omega (arith, some)), length-take (length_at place file) (drop (place + 13) file), length-drop (place + 13) file)
]

-- and a closed one has none
open_long : (cap place : ℕ) (file : List ℕ) → (IsOpenAt place file → IsWholeSlot cap place file) → open_length (head_at place file) ≡ length (cell_at place file).value
open_long cap place file whole = elim (cases_eq (byte_at place file) 1) [
  | inl is_open ↦ cond-true _ (length_at place file) 0 (eq-eqb (byte_at place file) 1 is_open) ∙ sym (value_long cap place file (whole is_open)) ∙ sym (ap length (open_value place file is_open))
  | inr closed ↦ cond-false _ (length_at place file) 0 (ne_eqb (byte_at place file) 1 closed) ∙ sym (ap length (closed_value place file closed))
]

-- the length that was read is that of the value which the object holds
held_long : (file : List ℕ) (x size first second long : ℕ) → IsWholePair (layout_in file) x size file first second long
    → ((s : ℕ) → s < 2 → IsOpenAt (place_in file x s) file → IsWholeSlot (params_in file).cap (place_in file x s) file) → long ≡ length (cell_of x file).value
held_long file x size first second long read whole =
    let one : first ≡ open_lsn (place_in file x 0) file = read.pair.first_read.is in
    let other : second ≡ open_lsn (place_in file x 1) file = read.pair.second_read.is in
    read.long_is
    ∙ ap (λ (n : ℕ). held_length (layout_in file) x file n second) one
    ∙ ap (λ (n : ℕ). held_length (layout_in file) x file (open_lsn (place_in file x 0) file) n) other
    ∙ open_long (params_in file).cap (place_in file x (holder x file)) file (whole (holder x file) (holder_below x file))

loaded_here : (file heads lengths : List ℕ) (size : ℕ) → HasHeader (layout_in file) file → size ≡ length file → AreWholePairs (layout_in file) size file (params_in file).objects heads lengths
    → AreOf (record { params = params_in file; first = (form_in file).first; heads = heads; lengths = lengths }) file
loaded_here file heads lengths size header is wholes =
    let layout = layout_in file in
    let pairs : ArePairs layout size file layout.params.objects heads = λ x below. (wholes x below).pair in
    let read : (x s : ℕ) → x < layout.params.objects → s < 2 → IsReadAt layout x s size file (get_or heads (2 * x + s) 0) = λ x s below two. slot_read layout size layout.params.objects file heads x s pairs below two in
    let each : (x s : ℕ) → x < layout.params.objects → s < 2 → IsOpenAt (place_in file x s) file → IsWholeSlot layout.params.cap (place_in file x s) file =
    λ x s below two is_open.
    let fits = (read x s below two).fits is_open in
    record { some = fits.some; is_lsn = fits.is_lsn; short = fits.short; within = λ some. omega (arith, fits.within some, is) } in
    record {
      whole = record {
        begins = header.begins;
        params = refl;
        in_range = header.in_range;
        in_form = header.in_form;
        whole = header.whole;
        slots = record {
          each = each;
          apart = λ x below. pair_apart layout x size _ _ file (pairs x below);
        };
      };
      first = refl;
      heads = λ x s below two. (read x s below two).is;
      lengths = λ x below. held_long file x size _ _ _ (wholes x below) (λ s. λ two. each x s below two);
    }

-- without a fault the slots are those of the file
pub loaded : (layout : Layout) (file heads lengths : List ℕ) (size : ℕ) → HasHeader layout file → size ≡ length file → AreWholePairs layout size file layout.params.objects heads lengths
    → AreOf (record { params = layout.params; first = layout.first; heads = heads; lengths = lengths }) file
loaded layout file heads lengths size header is pairs = subst (λ (l : Layout). AreOf (record { params = l.params; first = l.first; heads = heads; lengths = lengths }) file) header.is
    (loaded_here file heads lengths size (subst (λ (l : Layout). HasHeader l file) (sym header.is) header) is (subst (λ (l : Layout). AreWholePairs l size file l.params.objects heads lengths) (sym header.is) pairs))

-- why the heads could not be read, for a caller who knows the header and the size
pub heads_failed : (old mid last new : Disk) (layout : Layout) (size : ℕ) (e : ReadErr) → Stays old mid → Stays mid last → Stays last new → ((files : Files) → mid.agrees files → HasHeader layout (files Objects)) → ((files : Files) → last.agrees files → size ≡ length (files Objects))
    → FailsBy (Rises last.disk_faults new.disk_faults) (FailsAt (λ place. (files : Files) → new.agrees files → HasPairFault layout size (files Objects) place)) e
    → OpensNot ((files : Files) → new.agrees files → IsClosedAt 0 (files Objects)) (FailsBy (Rises old.disk_faults new.disk_faults) (FailsAt (λ place. (files : Files) → new.agrees files → IsDamagedAt (files Objects) place))) (open_from_read e)
heads_failed old mid last new layout size e first second third header long_is fails = opens_not _ (FailsBy (Rises old.disk_faults new.disk_faults) (FailsAt (λ place. (files : Files) → new.agrees files → IsDamagedAt (files Objects) place))) e
    (moved old last new (λ file place. HasPairFault layout size file place) IsDamagedAt e (stays_twice old mid last first second)
    (λ files agree place found.
    let then = agreed_before third files agree in
    slots_damage layout (files Objects) size place (header files (agreed_before second files then)) (long_is files then) found)
    fails)
