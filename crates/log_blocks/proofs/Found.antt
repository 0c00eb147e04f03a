-- What the bytes at a place say of the file.
use Rattle.std.proofs.Common.{◌≡◌, ◌<◌, ◌≤◌, ◌+◌, ◌^◌, ℕ, suc, List, [], ◌∷◌, length, get_or, drop, sym, ◌∙◌, ap, subst, arith}
use Rattle.std.proofs.lemmas.List.{get_or-drop, take_all}
use Rattle.byteorder.specs.Endian.{little_bytes, little_number}
use Rattle.disk_model.specs.Disk.{read_of}
use Rattle.disk_model.specs.Padded.{padded, get_or-padded, length-read_of, padded-within}
use Rattle.formats.specs.Bytes.{number_at}
use Rattle.log_blocks.specs.Reading.{IsBroken}
use Rattle.oper_core.specs.LittleEndian.{little_bytes-little_number}
use Rattle.formats.specs.Image.{IsWithin}
use Rattle.log_blocks.specs.Numbers.{number_same}

-- the numbers in what is read are those of the file
pub number_read : (file : List ℕ) (place n k at : ℕ) → at + k ≤ n → number_at k at (padded file place n) ≡ number_at k (place + at) file
number_read file place n k at within = number_same 0 k (drop at (padded file place n)) (drop (place + at) file)
    (λ j low high. get_or-drop at (padded file place n) j 0 ∙ get_or-padded file place n (at + j) (omega arith) ∙ ap (λ (m : ℕ). get_or file m 0) (omega arith) ∙ sym (get_or-drop (place + at) file j 0))

-- five bytes that begin with an open gate are a block's head
head_bytes : (xs : List ℕ) → length xs ≡ 5 → get_or xs 0 0 ≡ 1 → ((k : ℕ) → get_or xs k 0 < 256) → xs ≡ 1 ∷ little_bytes 4 (little_number 4 (drop 1 xs))
head_bytes [] long first small = absurd (omega arith)
head_bytes (b ∷ xs) long first small =
    let rest : xs ≡ little_bytes 4 (little_number 4 xs) = sym (take_all 4 xs (omega arith)) ∙ sym (little_bytes-little_number 4 xs (omega arith) (λ k. small (suc k))) in
    λ i. first i ∷ rest i

-- the head of a block that is read whole
pub head_read : (file : List ℕ) (gate : ℕ) (into : List ℕ) → into ≡ padded file gate 5 → gate + 5 ≤ length file → get_or into 0 0 ≡ 1 → ((k : ℕ) → get_or into k 0 < 256)
    → read_of file gate 5 ≡ 1 ∷ little_bytes 4 (little_number 4 (drop 1 into))
head_read file gate into is within open_gate small =
    let read = is ∙ padded-within file gate 5 within in
    sym read ∙ head_bytes into (ap length read ∙ length-read_of file gate 5 within) open_gate small

-- an open gate whose length or block is wrong
pub is_broken : (file : List ℕ) (gate : ℕ) (into : List ℕ) → into ≡ padded file gate 5 → get_or into 0 0 ≡ 1
    → (IsWithin 1 (2 ^ 30) (little_number 4 (drop 1 into)) → gate + 1 + 4 + little_number 4 (drop 1 into) < length file → ⊥) → IsBroken gate file
is_broken file gate into is open_gate wrong =
    let number : little_number 4 (drop 1 into) ≡ number_at 4 (gate + 1) file = ap (λ (l : List ℕ). little_number 4 (drop 1 l)) is ∙ number_read file gate 5 4 1 (omega arith) in
    record {
      open_gate = ap (λ (n : ℕ). get_or file n 0) (omega arith) ∙ sym (get_or-padded file gate 5 0 (omega arith)) ∙ ap (λ (l : List ℕ). get_or l 0 0) (sym is) ∙ open_gate;
      broken = subst (λ (n : ℕ). IsWithin 1 (2 ^ 30) n → gate + 1 + 4 + n < length file → ⊥) number wrong;
    }
