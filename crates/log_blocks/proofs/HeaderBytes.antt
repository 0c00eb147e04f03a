-- What the bytes of a header are.
use Rattle.std.proofs.Common.{◌≡◌, ◌<◌, ◌≤◌, ◌+◌, ◌^◌, ℕ, List, [], ◌∷◌, ◌++◌, length, get_or, take, drop, inl, inr, sym, ◌∙◌, ap, subst, arith, append_assoc, length-take, length-drop, take-append-drop}
use Rattle.std.specs.Prelude.{codes}
use Rattle.std.proofs.lemmas.List.{take_all, drop-drop, get_or-drop, get_or-take, get_or_past, same_lists, append-nil}
use Rattle.std.proofs.lemmas.Bool.{cases_lt}
use Rattle.std.proofs.lemmas.Grind.{get_or_default_zero}
use Rattle.oper_core.specs.LittleEndian.{little_bytes-little_number}
use Rattle.byteorder.specs.Endian.{little_bytes}
use Rattle.disk_model.specs.Padded.{padded, get_or-padded, padded-within, length-padded}
use Rattle.formats.specs.Bytes.{number_at, byte_at, IsOpenAt}
use Rattle.formats.specs.Image.{IsWithin}
use Rattle.formats.specs.FirstFault.{goes_on, check_moved, NoMore, LogChecks}
use Rattle.formats.specs.Log.{Header, IsHeader, header_bytes}
use Rattle.log_blocks.specs.Laws.{epoch_stands, base_stands, commands_stand}
use Rattle.log_blocks.proofs.Found.{number_read}

-- eight bytes at a place are those of their number
eight : (head : List ℕ) (at : ℕ) → at + 8 ≤ length head → ((i : ℕ) → get_or head i 0 < 256) → take 8 (drop at head) ≡ little_bytes 8 (number_at 8 at head)
eight head at within small =
    sym (little_bytes-little_number 8 (drop at head) (omega (arith, length-drop at head)) (λ i. subst (λ (n : ℕ). n < 256) (sym (get_or-drop at head i 0)) (small (at + i))))

-- n bytes, and what follows them
cut : (n at : ℕ) (head : List ℕ) → drop at head ≡ take n (drop at head) ++ drop (at + n) head
cut n at head = sym (take-append-drop n (drop at head)) ∙ ap (λ (l : List ℕ). take n (drop at head) ++ l) (drop-drop n at head)

-- 33 bytes that begin with an open gate and the magic are those of a header
pub header_is : (head : List ℕ) (h : Header) → length head ≡ 33 → ((i : ℕ) → get_or head i 0 < 256) → get_or head 0 0 ≡ 1 → take 8 (drop 1 head) ≡ codes "RDOLOG01"
    → h.epoch ≡ number_at 8 9 head → h.base ≡ number_at 8 17 head → h.commands ≡ number_at 8 25 head → head ≡ header_bytes h
header_is [] h long small open_gate has_magic e b k = absurd (omega arith)
header_is (g ∷ xs) h long small open_gate has_magic e b k =
    let head = g ∷ xs in
    let epochs = eight head 9 (omega arith) small ∙ ap (λ (n : ℕ). little_bytes 8 n) (sym e) in
    let bases = eight head 17 (omega arith) small ∙ ap (λ (n : ℕ). little_bytes 8 n) (sym b) in
    let counts = eight head 25 (omega arith) small ∙ ap (λ (n : ℕ). little_bytes 8 n) (sym k) in
    let last : drop 25 head ≡ little_bytes 8 h.commands = sym (take_all 8 (drop 25 head) (omega (arith, length-drop 25 head))) ∙ counts in
    let third : drop 17 head ≡ little_bytes 8 h.base ++ little_bytes 8 h.commands = cut 8 17 head ∙ ap (λ (l : List ℕ). l ++ drop 25 head) bases ∙ ap (λ (l : List ℕ). little_bytes 8 h.base ++ l) last in
    let second : drop 9 head ≡ little_bytes 8 h.epoch ++ (little_bytes 8 h.base ++ little_bytes 8 h.commands) =
    cut 8 9 head ∙ ap (λ (l : List ℕ). l ++ drop 17 head) epochs ∙ ap (λ (l : List ℕ). little_bytes 8 h.epoch ++ l) third in
    let behind : xs ≡ codes "RDOLOG01" ++ (little_bytes 8 h.epoch ++ (little_bytes 8 h.base ++ little_bytes 8 h.commands)) =
    cut 8 1 head ∙ ap (λ (l : List ℕ). l ++ drop 9 head) has_magic ∙ ap (λ (l : List ℕ). codes "RDOLOG01" ++ l) second in
    (λ i. open_gate i ∷ behind i) ∙ ap (λ (l : List ℕ). 1 ∷ (codes "RDOLOG01" ++ l)) (sym (append_assoc (little_bytes 8 h.epoch) (little_bytes 8 h.base) (little_bytes 8 h.commands)))

-- what is read of the file's first bytes
module _ (file : List ℕ) where
  abbrev head : List ℕ
  head = padded file 0 33

  byte_stands : (i : ℕ) → i < 33 → get_or head i 0 ≡ byte_at i file
  byte_stands i less = get_or-padded file 0 33 i less ∙ ap (λ (n : ℕ). byte_at n file) (omega arith)

  number_stands : (n : ℕ) → n + 8 ≤ 33 → number_at 8 n head ≡ number_at 8 n file
  number_stands n within = number_read file 0 33 8 n within ∙ ap (λ (k : ℕ). number_at 8 k file) (omega arith)

  -- a file of nine bytes has those that were read
  nine_stand : 9 ≤ length file → take 8 (drop 1 head) ≡ take 8 (drop 1 file)
  nine_stand there =
      let one = take 8 (drop 1 head) in
      let two = take 8 (drop 1 file) in
      let long : length two ≡ 8 = omega (arith, there, length-take 8 (drop 1 file), length-drop 1 file) in
      let also : length one ≡ 8 = omega (arith, length-take 8 (drop 1 head), length-drop 1 head, length-padded file 0 33) in
      same_lists one two (also ∙ sym long) (λ k d less.
      let small : k < 8 = omega (arith, less, also) in
      get_or_default_zero one k d less ∙ get_or-take 8 (drop 1 head) k 0 small ∙ get_or-drop 1 head k 0 ∙ byte_stands (1 + k) (omega arith)
      ∙ sym (get_or-drop 1 file k 0) ∙ sym (get_or-take 8 (drop 1 file) k 0 small) ∙ sym (get_or_default_zero two k d (omega (arith, long, small))))

  -- a file with a magic is long enough for it
  magic_stands : take 8 (drop 1 file) ≡ codes "RDOLOG01" → take 8 (drop 1 head) ≡ codes "RDOLOG01"
  magic_stands is = nine_stand (omega (arith, ap length is, length-take 8 (drop 1 file), length-drop 1 file)) ∙ is

  opens : IsOpenAt 0 head → IsOpenAt 0 file
  opens is = sym (byte_stands 0 (omega arith)) ∙ is

  -- and one whose first bytes have it, padded with zeros, has it: its last byte is not 0
  magic_there : take 8 (drop 1 head) ≡ codes "RDOLOG01" → take 8 (drop 1 file) ≡ codes "RDOLOG01"
  magic_there is =
      let last : byte_at 8 file ≡ 49 = sym (byte_stands 8 (omega arith)) ∙ sym (get_or-drop 1 head 7 0) ∙ sym (get_or-take 8 (drop 1 head) 7 0 (omega arith)) ∙ ap (λ (l : List ℕ). get_or l 7 0) is in
      elim (cases_lt 8 (length file)) [
        | inl there ↦ sym (nine_stand there) ∙ is
        | inr short ↦ absurd (omega (arith, last, get_or_past file 8 0 short))
      ]

  -- the first check of what is read that fails is the file's
  pub checks_read : (behind : ℕ → Type 0) (place : ℕ) → LogChecks head NoMore place → LogChecks file behind place
  checks_read behind place fault =
      let first = number_stands 9 (omega arith) in
      let second = number_stands 17 (omega arith) in
      let third = number_stands 25 (omega arith) in
      check_moved 1 place magic_there magic_stands
      (check_moved 9 place (subst (λ (n : ℕ). IsWithin 1 (2 ^ 62) n) first) (subst (λ (n : ℕ). IsWithin 1 (2 ^ 62) n) (sym first))
      (check_moved 17 place (subst (λ (n : ℕ). IsWithin 1 (2 ^ 62) n) second) (subst (λ (n : ℕ). IsWithin 1 (2 ^ 62) n) (sym second))
      (check_moved 25 place (λ less. omega (arith, less, second, third)) (λ less. omega (arith, less, second, third)) (λ never. absurd never))))
      fault

  -- after a header that was read
  pub behind_header : (h : Header) (into : List ℕ) (behind : ℕ → Type 0) (place : ℕ) → into ≡ head → IsHeader h → into ≡ header_bytes h → behind place → LogChecks file behind place
  behind_header h into behind place read is fields later =
      let whole : head ≡ header_bytes h ++ [] = sym read ∙ fields ∙ sym (append-nil (header_bytes h)) in
      let first = sym (number_stands 9 (omega arith)) ∙ ap (λ (l : List ℕ). number_at 8 9 l) whole ∙ epoch_stands h is [] in
      let second = sym (number_stands 17 (omega arith)) ∙ ap (λ (l : List ℕ). number_at 8 17 l) whole ∙ base_stands h is [] in
      let third = sym (number_stands 25 (omega arith)) ∙ ap (λ (l : List ℕ). number_at 8 25 l) whole ∙ commands_stand h is [] in
      goes_on (magic_there (ap (λ (l : List ℕ). take 8 (drop 1 l)) (sym read ∙ fields)))
      (goes_on (omega (arith, first, is.epoch_low), omega (arith, first, is.epoch_high))
      (goes_on (omega (arith, second, is.base_low), omega (arith, second, is.base_high))
      (goes_on (omega (arith, second, third, is.commands)) later)))

  pub front_stands : 33 < length file → head ≡ take 33 file
  front_stands within = padded-within file 0 33 (omega arith)

  -- the gate that is read is that of the file
  pub opened_by : (into : List ℕ) → into ≡ head → IsOpenAt 0 into → IsOpenAt 0 file
  opened_by into is opened = opens (ap (λ (l : List ℕ). get_or l 0 0) (sym is) ∙ opened)
