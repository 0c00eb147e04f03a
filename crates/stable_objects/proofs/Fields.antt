-- What the header and the numbers that are written say.
use Rattle.std.proofs.Common.{◌≡◌, inl, ◌<◌, ◌≤◌, ◌+◌, ◌^◌, ℕ, List, ◌∷◌, ◌++◌, length, get_or, take, drop, refl, sym, ◌∙◌, ap, arith, take-append-drop, append_assoc, length-append, length-drop}
use Rattle.std.specs.Prelude.{codes, Bool, true, false, nat_lt}
use Rattle.std.proofs.lemmas.Bool.{cond-true, cond-false}
use Rattle.std.proofs.lemmas.List.{get_or-drop, drop-drop, drop_at}
use Rattle.byteorder.specs.Endian.{little_bytes, little_number}
use Rattle.oper_core.specs.LittleEndian.{length-little_bytes, little_number-little_bytes}
use Rattle.disk_model.specs.Disk.{HoldsAt}
use Rattle.formats.specs.Bytes.{byte_at, number_at}
use Rattle.formats.specs.Objects.{IsInRange, first_form, second_form, form_in, is_set, switch, params_at, number_fields, header_fields}
use Rattle.formats.specs.declared.form.Form.{Form}
use Rattle.formats.specs.declared.params.Params.{Params}
use Rattle.stable_objects.specs.Layouts.{fits_first, no_store}
use Rattle.stable_objects.specs.LayoutLaws.{first_in, second_in, four_bytes}
use Rattle.stable_objects.specs.Making.{HasFields}
use Rattle.stable_objects.proofs.Bytes.{written_read}
use Rattle.stable_objects.proofs.Outside.{held_agrees, read_same, number_stays}

pub length-number_fields : (p : Params) → length (number_fields p) ≡ 12
length-number_fields p = omega (
  arith,
  length-append (little_bytes 3 p.objects) (switch p.more ∷ (little_bytes 4 p.cap ++ little_bytes 4 p.limit)),
  length-append (little_bytes 4 p.cap) (little_bytes 4 p.limit),
  length-little_bytes 3 p.objects,
  length-little_bytes 4 p.cap,
  length-little_bytes 4 p.limit,
)

pub length-header_fields : (version : ℕ) (p : Params) → length (header_fields version p) ≡ 20
length-header_fields version p = omega (arith, length-number_fields p)

-- what was written stands at its place
pub stands_behind : (at : ℕ) (bytes old new : List ℕ) → HoldsAt at bytes old new → drop at new ≡ bytes ++ drop (length bytes) (drop at new)
stands_behind at bytes old new holds =
    sym (take-append-drop (length bytes) (drop at new))
    ∙ ap (λ (l : List ℕ). l ++ drop (length bytes) (drop at new)) (ap (λ (l : List ℕ). take (length bytes) (drop at l)) holds ∙ written_read at bytes old)

-- three numbers that their bytes hold
pub record AreSmall (p : Params) : Type 0 where
  pub objects : p.objects < 2 ^ 24
  pub cap : p.cap < 2 ^ 32
  pub limit : p.limit < 2 ^ 32

pub small_range : (p : Params) → IsInRange p → AreSmall p
small_range p is = record { objects = omega (arith, is.objects); cap = omega (arith, is.cap); limit = omega (arith, is.limit) }

-- the numbers stand at their places
module _ (p : Params) (small : AreSmall p) (place : ℕ) (file rest : List ℕ) (is : drop place file ≡ number_fields p ++ rest) where
  abbrev object_bytes : List ℕ
  object_bytes = little_bytes 3 p.objects

  abbrev cap_bytes : List ℕ
  cap_bytes = little_bytes 4 p.cap

  abbrev limit_bytes : List ℕ
  limit_bytes = little_bytes 4 p.limit

  from_objects : drop place file ≡ object_bytes ++ switch p.more ∷ (cap_bytes ++ (limit_bytes ++ rest))
  from_objects =
      is
      ∙ append_assoc object_bytes (switch p.more ∷ (cap_bytes ++ limit_bytes)) rest
      ∙ ap (λ (l : List ℕ). object_bytes ++ switch p.more ∷ l) (append_assoc cap_bytes limit_bytes rest)

  from_switch : drop (place + 3) file ≡ switch p.more ∷ (cap_bytes ++ (limit_bytes ++ rest))
  from_switch = sym (drop-drop 3 place file) ∙ ap (λ (l : List ℕ). drop 3 l) from_objects ∙ drop_at object_bytes (switch p.more ∷ (cap_bytes ++ (limit_bytes ++ rest))) 3 (length-little_bytes 3 p.objects)

  from_cap : drop (place + 4) file ≡ cap_bytes ++ (limit_bytes ++ rest)
  from_cap =
      let split : place + 3 + 1 ≡ place + 4 = omega arith in
      ap (λ (n : ℕ). drop n file) (sym split) ∙ sym (drop-drop 1 (place + 3) file) ∙ ap (λ (l : List ℕ). drop 1 l) from_switch

  from_limit : drop (place + 8) file ≡ limit_bytes ++ rest
  from_limit =
      let split : place + 4 + 4 ≡ place + 8 = omega arith in
      ap (λ (n : ℕ). drop n file) (sym split) ∙ sym (drop-drop 4 (place + 4) file) ∙ ap (λ (l : List ℕ). drop 4 l) from_cap ∙ drop_at cap_bytes (limit_bytes ++ rest) 4 (length-little_bytes 4 p.cap)

  objects_stand : number_at 3 place file ≡ p.objects
  objects_stand = ap (λ (l : List ℕ). little_number 3 l) from_objects ∙ little_number-little_bytes 3 p.objects (switch p.more ∷ (cap_bytes ++ (limit_bytes ++ rest))) small.objects

  switched : (more : Bool) → nat_lt 0 (switch more) ≡ more
  switched true = refl
  switched false = refl

  switch_stands : is_set place file ≡ p.more
  switch_stands =
      let spot : place + 3 + 0 ≡ place + 3 = omega arith in
      let byte : byte_at (place + 3) file ≡ switch p.more = ap (λ (j : ℕ). byte_at j file) (sym spot) ∙ sym (get_or-drop (place + 3) file 0 0) ∙ ap (λ (l : List ℕ). get_or l 0 0) from_switch in
      ap (λ (b : ℕ). nat_lt 0 b) byte ∙ switched p.more

  cap_stands : number_at 4 (place + 4) file ≡ p.cap
  cap_stands = ap (λ (l : List ℕ). little_number 4 l) from_cap ∙ little_number-little_bytes 4 p.cap (limit_bytes ++ rest) small.cap

  limit_stands : number_at 4 (place + 8) file ≡ p.limit
  limit_stands = ap (λ (l : List ℕ). little_number 4 l) from_limit ∙ little_number-little_bytes 4 p.limit rest small.limit

  pub numbers_stand : params_at place file ≡ p
  numbers_stand = λ i. record { objects = objects_stand i; cap = cap_stands i; limit = limit_stands i; more = switch_stands i }

-- the magic, the version and three numbers stand in the header
module _ (version : ℕ) (p : Params) (small : AreSmall p) (old new : List ℕ) (holds : HoldsAt 1 (header_fields version p) old new) where
  split : drop 1 new ≡ header_fields version p ++ drop (length (header_fields version p)) (drop 1 new)
  split = stands_behind 1 (header_fields version p) old new holds

  pub magic_stands : take 7 (drop 1 new) ≡ codes "RDOOBJ0"
  magic_stands = ap (λ (l : List ℕ). take 7 l) split

  pub version_stands : byte_at 8 new ≡ version
  version_stands = sym (get_or-drop 1 new 7 0) ∙ ap (λ (l : List ℕ). get_or l 7 0) split

  pub header_stands : params_at 9 new ≡ p
  header_stands = numbers_stand p small 9 new (drop (length (header_fields version p)) (drop 1 new)) (sym (drop-drop 8 1 new) ∙ ap (λ (l : List ℕ). drop 8 l) split)

-- a header of version 1
pub first_fields : (p : Params) (old new : List ℕ) → IsInRange p → fits_first p ≡ true → HoldsAt 1 (header_fields 49 p) old new → HasFields p new
first_fields p old new is fits holds =
    let version = version_stands 49 p (small_range p is) old new holds in
    let form : form_in new ≡ first_form = first_in new (λ second. omega (arith, version, second)) in
    record {
      magic = magic_stands 49 p (small_range p is) old new holds;
      form = form ∙ sym (cond-true (fits_first p) first_form (second_form no_store) fits);
      params = ap (λ (f : Form). params_at f.numbers new) form ∙ header_stands 49 p (small_range p is) old new holds;
    }

abbrev pub no_numbers : Params
no_numbers = record { objects = 0; cap = 0; limit = 0; more = false }

-- one of version 2, and its numbers
pub second_fields : (p : Params) (old mid new : List ℕ) → IsInRange p → fits_first p ≡ false → HoldsAt 1 (header_fields 50 no_numbers) old mid → HoldsAt 32 (number_fields p) mid new → HasFields p new
second_fields p old mid new is large first second =
    let small : AreSmall no_numbers = record { objects = omega arith; cap = omega arith; limit = omega arith } in
    let agrees = held_agrees 32 (number_fields p) mid new second in
    let long : 21 ≤ length mid = header_long mid (stands_behind 1 (header_fields 50 no_numbers) old mid first) in
    let stays : (k place : ℕ) → place + k ≤ 21 → number_at k place new ≡ number_at k place mid = λ k place within. number_stays 32 (length (number_fields p)) mid new agrees place k (inl (omega (arith, within), omega (arith, within, long))) in
    let version : byte_at 8 new ≡ 50 = agrees.before 8 (omega (arith, long)) (omega arith) ∙ version_stands 50 no_numbers small old mid first in
    let header : params_at 9 mid ≡ no_numbers = header_stands 50 no_numbers small old mid first in
    let objects : number_at 4 9 new ≡ 0 = stays 4 9 (omega arith) ∙ four_bytes 9 mid (ap (λ (q : Params). q.more) header) ∙ ap (λ (q : Params). q.objects) header in
    let cap : number_at 4 13 new ≡ 0 = stays 4 13 (omega arith) ∙ ap (λ (q : Params). q.cap) header in
    let form : form_in new ≡ second_form no_store = second_in new version ∙ (λ i. second_form (record { objects = objects i; cap = cap i; more = false })) in
    record {
      magic = read_same 32 (length (number_fields p)) mid new agrees 1 7 (inl (omega arith, omega (arith, long))) ∙ magic_stands 50 no_numbers small old mid first;
      form = form ∙ sym (cond-false (fits_first p) first_form (second_form no_store) large);
      params = ap (λ (f : Form). params_at f.numbers new) form ∙ numbers_stand p (small_range p is) 32 new (drop (length (number_fields p)) (drop 32 new)) (stands_behind 32 (number_fields p) mid new second);
    }
  where
    header_long : (file : List ℕ) → drop 1 file ≡ header_fields 50 no_numbers ++ drop (length (header_fields 50 no_numbers)) (drop 1 file) → 21 ≤ length file
    header_long file split = omega (arith, ap length split, length-append (header_fields 50 no_numbers) (drop (length (header_fields 50 no_numbers)) (drop 1 file)), length-header_fields 50 no_numbers, length-drop 1 file)
