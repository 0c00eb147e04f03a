-- What is seen of the two logs, and which is chosen.
use Rattle.std.proofs.Common.{◌≡◌, ◌≢◌, ◌⊎◌, inl, ◌<◌, inr, ℕ, List, [], ◌∷◌, ◌++◌, length, get_or, take, drop, refl, sym, ◌∙◌, ap, subst, arith, Option, Some, None, take-append-drop}
use Rattle.std.specs.Prelude.{IfSome}
use Rattle.std.proofs.lemmas.List.{take_at, drop_more}
use Rattle.disk_model.specs.Disk.{Files, Disk, Stays, Rises}
use Rattle.disk_model.specs.Moments.{agreed_before}
use Rattle.disk_model.specs.Padded.{padded, get_or-padded}
use Rattle.disk_model.specs.declared.machine.FileNo.{FileNo}
use Rattle.disk_model.specs.declared.machine.FileNo.TheVariants.{Objects, LogA, LogB}
use Rattle.formats.specs.Bytes.{byte_at, IsOpenAt}
use Rattle.formats.specs.InForce.{other_of, HasHeader, IsPassive, IsInForce}
use Rattle.formats.specs.Log.{Header, header_bytes, IsHeader, IsWholeLog, IsClosedLog}
use Rattle.formats.specs.Image.{IsBlockFault}
use Rattle.formats.specs.FirstFault.{NoMore, LogChecks, IsFirstHeaderFault, opened, IsFineLog, IsFirstLogFault, in_log_a, in_log_b, at_block}
use Rattle.log_blocks.specs.Choosing.{SeenIn, IsChosen}
use Rattle.log_blocks.specs.Laws.{length-header_bytes}
use Rattle.formats.specs.Reading.{FailsBy}
use Rattle.formats.specs.declared.read_err.ReadErr.{ReadErr}
use Rattle.log_blocks.specs.Reading.{fails_on, header_of, EndsBlocks}
use Rattle.log_blocks.specs.declared.seen.Seen.{Seen}
use Rattle.log_blocks.proofs.HeaderBytes.{checks_read, opened_by}
use Rattle.log_blocks.proofs.ReadTo.{whole_log}

pub is_empty : (file : List ℕ) (n : ℕ) → n ≡ length file → n ≡ 0 → file ≡ []
is_empty [] n long none = refl
is_empty (b ∷ rest) n long none = absurd (omega (arith, long, none))

-- a closed gate that is read is one of the file
pub closed_read : (file into : List ℕ) (n : ℕ) → into ≡ padded file 0 33 → (get_or into 0 0 ≡ 1 → ⊥) → n ≡ length file → (n ≡ 0 → ⊥) → IsClosedLog file
closed_read [] into n is closed long some = some long
closed_read (g ∷ rest) into n is closed long some = λ opened. closed (ap (λ (l : List ℕ). get_or l 0 0) is ∙ get_or-padded (g ∷ rest) 0 33 0 (omega arith) ∙ opened)

-- 33 bytes of a header, and one after
pub header_stands : (h : Header) (file : List ℕ) → IsHeader h → take 33 file ≡ header_bytes h → 33 < length file → HasHeader h file
header_stands h file is front within = record {
  in_range = is;
  gate = byte_at 33 file;
  rest = drop 34 file;
  split = sym (take-append-drop 33 file) ∙ ap (λ (l : List ℕ). l ++ drop 33 file) front ∙ ap (λ (l : List ℕ). header_bytes h ++ l) (drop_more file 33 0 within);
}

pub front_of : (h : Header) (file : List ℕ) → HasHeader h file → take 33 file ≡ header_bytes h
front_of h file has = ap (λ (l : List ℕ). take 33 l) has.split ∙ take_at (header_bytes h) (has.gate ∷ has.rest) 33 (length-header_bytes h)

-- a file that is open, beside one that is passive
pub chosen_at : (files : Files) (seen : Seen) (file : FileNo) → seen.file ≡ file → file ≢ Objects → IsPassive seen.header.epoch (files (other_of file)) → SeenIn (files file) (Some seen) → IsChosen files seen
chosen_at files seen file is a_log other has = record {
  in_force = subst (λ (f : FileNo). IsInForce f seen.header.epoch files) (sym is) (record { a_log = a_log; other = other });
  header = subst (λ (f : FileNo). HasHeader (header_of seen.header) (files f)) (sym is) has.0;
  size = has.1 ∙ ap (λ (f : FileNo). length (files f)) (sym is);
}

pub chosen_first : (files : Files) (first second : Seen) → first.file ≡ LogA → SeenIn (files LogA) (Some first) → SeenIn (files LogB) (Some second) → second.header.epoch < first.header.epoch → IsChosen files first
chosen_first files first second is a b less = chosen_at files first LogA is (λ e. cc) (inr (header_of second.header, b.0, less)) a

pub file_is : (file : FileNo) (found : Option Seen) → IfSome found (λ seen. (33 < seen.size) × IsHeader (header_of seen.header) × (seen.file ≡ file)) → IfSome found (λ seen. seen.file ≡ file)
file_is file None inside = tt
file_is file (Some seen) inside = inside.2

inside_one : (found : Option Seen) (file : FileNo) (seen : Seen) → IfSome found (λ s. (33 < s.size) × IsHeader (header_of s.header) × (s.file ≡ file)) → found ≡ Some seen → 33 < seen.size
inside_one found file seen inside is = (subst (λ (o : Option Seen). IfSome o (λ s. (33 < s.size) × IsHeader (header_of s.header) × (s.file ≡ file))) is inside).0

pub inside_of : (a b : Option Seen) (seen : Seen) → IfSome a (λ s. (33 < s.size) × IsHeader (header_of s.header) × (s.file ≡ LogA)) → IfSome b (λ s. (33 < s.size) × IsHeader (header_of s.header) × (s.file ≡ LogB))
    → (a ≡ Some seen) ⊎ (b ≡ Some seen) → 33 < seen.size
inside_of a b seen in_a in_b (inl is) = inside_one a LogA seen in_a is
inside_of a b seen in_a in_b (inr is) = inside_one b LogB seen in_b is

-- a log file that was seen has no fault by itself
pub fine : (file : List ℕ) (found : Option Seen) → SeenIn file found → IsFineLog file
fine file None seen = inl seen
fine file (Some found) seen = inr (header_of found.header, seen.0)

-- what is read of a header is wrong
pub by_header : (old now new : Disk) → Stays old now → (e : ReadErr) (file : FileNo) (into : List ℕ) → ((files : Files) → new.agrees files → into ≡ padded (files file) 0 33) → IsOpenAt 0 into
    → FailsBy ⊥ (λ f place. (f ≡ file) × LogChecks into NoMore place) e
    → FailsBy (Rises old.disk_faults new.disk_faults) (λ f place. (f ≡ file) × ((files : Files) → new.agrees files → IsFirstHeaderFault (files file) place)) e
by_header old now new kept e file into read is_open fails = fails_on _ _ _ _ e (λ never. absurd never)
    (λ f place there. (
      there.0,
      λ files agree.
          let same = read files agree in
          let here = subst (λ (l : List ℕ). LogChecks l NoMore place) same there.1 in
          opened place (opened_by (files file) into same is_open) (checks_read (files file) _ place here),
    ))
    fails

module _ (old now new : Disk) (kept : Stays old now) (e : ReadErr) where
  abbrev Fails : Type 0
  Fails = FailsBy (Rises old.disk_faults new.disk_faults) (λ file place. (files : Files) → new.agrees files → IsFirstLogFault files file place) e

  risen : Rises now.disk_faults new.disk_faults → Rises old.disk_faults new.disk_faults
  risen later below = omega (arith, later below, kept.time.disk_faults)

  -- the first log shows it
  pub by_first : FailsBy (Rises now.disk_faults new.disk_faults) (λ f place. (f ≡ LogA) × ((files : Files) → new.agrees files → IsFirstHeaderFault (files LogA) place)) e → Fails
  by_first fails = fails_on _ _ _ _ e risen
      (λ f place there files agree. subst (λ (x : FileNo). IsFirstLogFault files x place) (sym there.0) (in_log_a place (there.1 files agree)))
      fails

  -- or the second, beside a first that was seen
  pub by_second : (a : Option Seen) → Stays now new → ((files : Files) → now.agrees files → SeenIn (files LogA) a)
      → FailsBy (Rises now.disk_faults new.disk_faults) (λ f place. (f ≡ LogB) × ((files : Files) → new.agrees files → IsFirstHeaderFault (files LogB) place)) e → Fails
  by_second a last seen fails = fails_on _ _ _ _ e risen
      (λ f place there files agree. subst (λ (x : FileNo). IsFirstLogFault files x place) (sym there.0)
      (in_log_b place (fine (files LogA) a (seen files (agreed_before last files agree))) (there.1 files agree)))
      fails

  pub by_block : (seen : Seen) → Stays now new → ((files : Files) → now.agrees files → IsChosen files seen)
      → FailsBy (Rises now.disk_faults new.disk_faults) (λ f place. (f ≡ seen.file) × ((files : Files) → new.agrees files → seen.size ≡ length (files seen.file) → IsBlockFault (files seen.file) place)) e → Fails
  by_block seen last chosen fails = fails_on _ _ _ _ e risen
      (λ f place there files agree.
      let is = chosen files (agreed_before last files agree) in
      subst (λ (x : FileNo). IsFirstLogFault files x place) (sym there.0) (at_block seen.file (header_of seen.header) place is.in_force is.header (there.1 files agree is.size)))
      fails

-- the log that was chosen is whole
pub whole_chosen : (h : Header) (file : List ℕ) (gate size : ℕ) → HasHeader h file → size ≡ length file → 33 < size → (ends : EndsBlocks file gate) → IsWholeLog h ends.payloads file
whole_chosen h file gate size has long inside ends = whole_log h file gate has.in_range (front_of h file has) (omega (arith, long, inside)) ends
