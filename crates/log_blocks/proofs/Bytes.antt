-- What the two writes of a force may leave of a log file's bytes.
use Rattle.std.proofs.Common.{◌≡◌, ◌⊎◌, ◌<◌, inl, inr, ℕ, ◌+◌, ◌-◌, min, List, [], ◌∷◌, ◌++◌, length, get_or, take, drop, replicate, sym, ◌∙◌, ap, subst, arith, append_assoc, length-append, take-append-drop}
use Rattle.std.proofs.lemmas.List.{take_at, drop_at, drop_more, append-nil}
use Rattle.std.proofs.lemmas.Bool.{cases_eq}
use Rattle.disk_model.specs.Disk.{HoldsAt, Torn}
use Rattle.formats.specs.Log.{Header, header_bytes, blocks, end_of, IsLog}
use Rattle.log_blocks.specs.Forcing.{block_body, with_block}
use Rattle.log_blocks.specs.Laws.{blocks-push, with_block-some}

-- a force moves the next gate by what it writes
pub next_place : (payloads : List (List ℕ)) (payload : List ℕ) → 0 < length payload → end_of payloads + length (block_body payload) ≡ end_of (with_block payloads payload)
next_place payloads payload some =
    rw (with_block-some payloads payload some, blocks-push payloads payload)
    (simp length-append (omega arith))

module _ (front : List ℕ) (gate at : ℕ) (tail : List ℕ) (place : at ≡ length front) where
  abbrev old : List ℕ
  old = front ++ gate ∷ tail

  long : length old ≡ at + 1 + length tail
  long = omega (arith, length-append front (gate ∷ tail), place)

  front_and_gate : length (front ++ gate ∷ []) ≡ at + 1
  front_and_gate = omega (arith, length-append front (gate ∷ []), place)

  split : old ≡ (front ++ gate ∷ []) ++ tail
  split = sym (append_assoc front (gate ∷ []) tail)

  take_gate : take (at + 1) old ≡ front ++ gate ∷ []
  take_gate = ap (λ (l : List ℕ). take (at + 1) l) split ∙ take_at (front ++ gate ∷ []) tail (at + 1) front_and_gate

  drop_gate : drop (at + 1) old ≡ tail
  drop_gate = ap (λ (l : List ℕ). drop (at + 1) l) split ∙ drop_at (front ++ gate ∷ []) tail (at + 1) front_and_gate

  no_gap : (n : ℕ) → n ≡ 0 → replicate {A = ℕ} n 0 ≡ []
  no_gap n is = ap (λ (k : ℕ). replicate {A = ℕ} k 0) is

  -- the front and the gate stand in each outcome of a write after the gate
  pub torn_behind : (n : ℕ) (c : List ℕ) → Torn (at + 1) n old c → (rest : List ℕ) × (c ≡ front ++ gate ∷ rest)
  torn_behind n c torn =
      let reach : min (at + 1) (length old) ≡ at + 1 = omega (arith, long) in
      let same : take (at + 1) c ≡ front ++ gate ∷ [] = subst (λ (k : ℕ). take k c ≡ take (at + 1) old) reach torn.before ∙ take_gate in
      (drop (at + 1) c, sym (take-append-drop (at + 1) c) ∙ ap (λ (l : List ℕ). l ++ drop (at + 1) c) same ∙ append_assoc front (gate ∷ []) (drop (at + 1) c))

  pub held_behind : (bytes c : List ℕ) → HoldsAt (at + 1) bytes old c → (rest : List ℕ) × (c ≡ front ++ gate ∷ (bytes ++ rest))
  held_behind bytes c holds =
      let rest = drop (at + 1 + length bytes) old in
      let gap : take (at + 1) old ++ replicate {A = ℕ} (at + 1 - length old) 0 ≡ front ++ gate ∷ [] =
      ap (λ (l : List ℕ). take (at + 1) old ++ l) (no_gap (at + 1 - length old) (omega (arith, long))) ∙ append-nil (take (at + 1) old) ∙ take_gate in
      (rest, holds ∙ ap (λ (l : List ℕ). l ++ bytes ++ rest) gap ∙ append_assoc (front ++ gate ∷ []) bytes rest ∙ append_assoc front (gate ∷ []) (bytes ++ rest))

  take_front : take at old ≡ front
  take_front = take_at front (gate ∷ tail) at (sym place)

  -- all but the gate stands in each outcome of a write of the gate
  pub torn_gate : (c : List ℕ) → Torn at 1 old c → (g : ℕ) × (c ≡ front ++ g ∷ tail)
  torn_gate c torn =
      let reach : min at (length old) ≡ at = omega (arith, long) in
      let same : take at c ≡ front = subst (λ (k : ℕ). take k c ≡ take at old) reach torn.before ∙ take_front in
      let rest : drop at c ≡ get_or c at 0 ∷ tail =
      drop_more c at 0 (omega (arith, torn.no_shorter, long)) ∙ ap (λ (l : List ℕ). get_or c at 0 ∷ l) (torn.after ∙ drop_gate) in
      (get_or c at 0, sym (take-append-drop at c) ∙ ap (λ (l : List ℕ). l ++ drop at c) same ∙ ap (λ (l : List ℕ). front ++ l) rest)

  pub held_gate : (g : ℕ) (c : List ℕ) → HoldsAt at (g ∷ []) old c → c ≡ front ++ g ∷ tail
  held_gate g c holds =
      let gap : take at old ++ replicate {A = ℕ} (at - length old) 0 ≡ front =
      ap (λ (l : List ℕ). take at old ++ l) (no_gap (at - length old) (omega (arith, long))) ∙ append-nil (take at old) ∙ take_front in
      holds ∙ ap (λ (l : List ℕ). l ++ (g ∷ []) ++ drop (at + 1) old) gap ∙ ap (λ (l : List ℕ). front ++ (g ∷ []) ++ l) drop_gate ∙ append_assoc front (g ∷ []) tail

-- with the gate open, one block more
pub opened : (header : Header) (payloads : List (List ℕ)) (payload rest c : List ℕ) → c ≡ (header_bytes header ++ blocks payloads) ++ 1 ∷ (block_body payload ++ rest) → IsLog header (payloads ++ payload ∷ []) c
opened header payloads payload rest c is = record {
  gate = 0;
  rest = rest;
  split = is ∙ sym whole;
  closed = omega arith;
}
  where
    whole : (header_bytes header ++ blocks (payloads ++ payload ∷ [])) ++ 0 ∷ rest ≡ (header_bytes header ++ blocks payloads) ++ 1 ∷ (block_body payload ++ rest)
    whole = rw (blocks-push payloads payload) (simp append_assoc)

-- whatever the gate is
pub either : (header : Header) (payloads : List (List ℕ)) (payload rest c : List ℕ) (g : ℕ) → c ≡ (header_bytes header ++ blocks payloads) ++ g ∷ (block_body payload ++ rest) → IsLog header payloads c ⊎ IsLog header (payloads ++ payload ∷ []) c
either header payloads payload rest c g is = elim (cases_eq g 1) [
  | inl is_open ↦ inr (opened header payloads payload rest c (is ∙ ap (λ (k : ℕ). (header_bytes header ++ blocks payloads) ++ k ∷ (block_body payload ++ rest)) is_open))
  | inr closed ↦ inl (record { gate = g; rest = block_body payload ++ rest; split = is; closed = closed })
]
