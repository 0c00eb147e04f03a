-- Laws of the bytes of a log: how long they are, that they name one header and one list of payloads, and that a whole
-- log has no fault.
use Rattle.std.proofs.Common.{◌≡◌, ◌≢◌, inl, inr, ◌<◌, ◌+◌, ℕ, List, [], ◌∷◌, ◌++◌, length, get_or, take, drop, refl, sym, ◌∙◌, ap, subst, arith, append_assoc, length-append}
use Rattle.std.specs.Prelude.{All}
use Rattle.std.proofs.lemmas.Bool.{cases_lt}
use Rattle.std.proofs.lemmas.List.{append-nil, append_cancel_left, take_at, drop_at, drop-drop}
use Rattle.std.proofs.lemmas.List.Elements.{All-push, All-head, All-tail}
use Rattle.byteorder.specs.Endian.{little_bytes, little_number}
use Rattle.byteorder.specs.Numbers.{length-bytes_low_first, little_number-reads_back}
use Rattle.formats.specs.Bytes.{number_at, IsOpenAt}
use Rattle.formats.specs.InForce.{HasHeader, IsPassive, IsInForce, HoldsLog}
use Rattle.formats.specs.Log.{Header, header_bytes, block, blocks, end_of, IsHeader, IsPayload, IsWholeLog, IsClosedLog}
use Rattle.disk_model.specs.Disk.{Files, In}
use Rattle.disk_model.specs.declared.machine.FileNo.{FileNo}
use Rattle.disk_model.specs.declared.machine.FileNo.TheVariants.{Objects, LogA, LogB}
use Rattle.log_blocks.specs.Forcing.{with_block}
use Rattle.formats.specs.Image.{IsHeaderFault, magic, epoch, base, commands, short, IsBlockFault, IsLogFault, no_byte, in_header, none_open, one_epoch, in_block}
use Rattle.formats.specs.FirstFault.{stops, goes_on, one_check, NoMore, HeaderChecks, IsFineLog, IsFirstHeaderFault, no_bytes, opened, IsFirstLogFault, in_log_a, in_log_b, both_closed, same_epoch, at_block}

-- a header is 33 bytes
pub length-header_bytes : (h : Header) → length (header_bytes h) ≡ 33
length-header_bytes h = omega (
  arith,
  length-append (little_bytes 8 h.epoch ++ little_bytes 8 h.base) (little_bytes 8 h.commands),
  length-append (little_bytes 8 h.epoch) (little_bytes 8 h.base),
  length-bytes_low_first 0 8 h.epoch,
  length-bytes_low_first 0 8 h.base,
  length-bytes_low_first 0 8 h.commands,
)

-- a block is five bytes longer than its payload
pub length-block : (payload : List ℕ) → length (block payload) ≡ 5 + length payload
length-block payload = omega (arith, length-append (little_bytes 4 (length payload)) payload, length-bytes_low_first 0 4 (length payload))

-- one payload more is one block more after the others
pub blocks-push : (payloads : List (List ℕ)) (payload : List ℕ) → blocks (payloads ++ payload ∷ []) ≡ blocks payloads ++ block payload
blocks-push [] payload = append-nil (block payload)
blocks-push (p ∷ payloads) payload = ap (λ (l : List ℕ). block p ++ l) (blocks-push payloads payload) ∙ sym (append_assoc (block p) (blocks payloads) (block payload))

-- one with a byte is one more
pub with_block-some : (payloads : List (List ℕ)) (payload : List ℕ) → 0 < length payload → with_block payloads payload ≡ payloads ++ payload ∷ []
with_block-some payloads [] some = absurd (omega arith)
with_block-some payloads (b ∷ bs) some = refl

-- payloads with one more are payloads
pub all_push : (payloads : List (List ℕ)) (payload : List ℕ) → All IsPayload payloads → IsPayload payload → All IsPayload (payloads ++ payload ∷ [])
all_push payloads payload all is = All-push IsPayload payloads payload all is

-- the numbers of a header stand at their places
module _ (h : Header) (is : IsHeader h) (rest : List ℕ) where
  abbrev epoch_bytes : List ℕ
  epoch_bytes = little_bytes 8 h.epoch

  abbrev base_bytes : List ℕ
  base_bytes = little_bytes 8 h.base

  abbrev command_bytes : List ℕ
  command_bytes = little_bytes 8 h.commands

  from_epoch : drop 9 (header_bytes h ++ rest) ≡ epoch_bytes ++ (base_bytes ++ (command_bytes ++ rest))
  from_epoch = append_assoc (epoch_bytes ++ base_bytes) command_bytes rest ∙ append_assoc epoch_bytes base_bytes (command_bytes ++ rest)

  from_base : drop 17 (header_bytes h ++ rest) ≡ base_bytes ++ (command_bytes ++ rest)
  from_base = sym (drop-drop 8 9 (header_bytes h ++ rest)) ∙ ap (λ (l : List ℕ). drop 8 l) from_epoch ∙ drop_at epoch_bytes (base_bytes ++ (command_bytes ++ rest)) 8 (length-bytes_low_first 0 8 h.epoch)

  from_commands : drop 25 (header_bytes h ++ rest) ≡ command_bytes ++ rest
  from_commands = sym (drop-drop 8 17 (header_bytes h ++ rest)) ∙ ap (λ (l : List ℕ). drop 8 l) from_base ∙ drop_at base_bytes (command_bytes ++ rest) 8 (length-bytes_low_first 0 8 h.base)

  pub epoch_stands : number_at 8 9 (header_bytes h ++ rest) ≡ h.epoch
  epoch_stands = ap (λ (l : List ℕ). little_number 8 l) from_epoch ∙ little_number-reads_back 8 h.epoch (base_bytes ++ (command_bytes ++ rest)) (omega (arith, is.epoch_high))

  pub base_stands : number_at 8 17 (header_bytes h ++ rest) ≡ h.base
  base_stands = ap (λ (l : List ℕ). little_number 8 l) from_base ∙ little_number-reads_back 8 h.base (command_bytes ++ rest) (omega (arith, is.base_high))

  pub commands_stand : number_at 8 25 (header_bytes h ++ rest) ≡ h.commands
  commands_stand = ap (λ (l : List ℕ). little_number 8 l) from_commands ∙ little_number-reads_back 8 h.commands rest (omega (arith, is.base_high, is.commands))

-- the same bytes are of one header
pub one_header : (h k : Header) (x y : List ℕ) → IsHeader h → IsHeader k → header_bytes h ++ x ≡ header_bytes k ++ y → h ≡ k
one_header h k x y is_h is_k same =
    let epochs = sym (epoch_stands h is_h x) ∙ ap (λ (l : List ℕ). number_at 8 9 l) same ∙ epoch_stands k is_k y in
    let bases = sym (base_stands h is_h x) ∙ ap (λ (l : List ℕ). number_at 8 17 l) same ∙ base_stands k is_k y in
    let counts = sym (commands_stand h is_h x) ∙ ap (λ (l : List ℕ). number_at 8 25 l) same ∙ commands_stand k is_k y in
    λ i. record { epoch = epochs i; base = bases i; commands = counts i }

-- what follows a block's gate begins with its length
pub length_stands : (payload rest : List ℕ) → IsPayload payload → little_number 4 (drop 1 (block payload ++ rest)) ≡ length payload
length_stands payload rest is =
    ap (λ (l : List ℕ). little_number 4 l) (append_assoc (little_bytes 4 (length payload)) payload rest)
    ∙ little_number-reads_back 4 (length payload) (payload ++ rest) (omega (arith, is.short))

-- the same bytes begin with one block
block_cancel : (p q x y : List ℕ) → IsPayload p → IsPayload q → block p ++ x ≡ block q ++ y → (p ≡ q) × (x ≡ y)
block_cancel p q x y is_p is_q same =
    let long : length p ≡ length q = sym (length_stands p x is_p) ∙ ap (λ (l : List ℕ). little_number 4 (drop 1 l)) same ∙ length_stands q y is_q in
    let behind : (p' x' : List ℕ) → drop 5 (block p' ++ x') ≡ p' ++ x' = λ (p' x' : List ℕ).
    ap (λ (l : List ℕ). drop 4 l) (append_assoc (little_bytes 4 (length p')) p' x') ∙ drop_at (little_bytes 4 (length p')) (p' ++ x') 4 (length-bytes_low_first 0 4 (length p')) in
    let tails : p ++ x ≡ q ++ y = sym (behind p x) ∙ ap (λ (l : List ℕ). drop 5 l) same ∙ behind q y in (
      sym (take_at p x (length p) refl) ∙ ap (λ (l : List ℕ). take (length p) l) tails ∙ take_at q y (length p) (sym long),
      sym (drop_at p x (length p) refl) ∙ ap (λ (l : List ℕ). drop (length p) l) tails ∙ drop_at q y (length p) (sym long),
    )

first_byte : (a b : ℕ) (x y : List ℕ) → a ∷ x ≡ b ∷ y → a ≡ b
first_byte a b x y same = ap (λ (l : List ℕ). get_or l 0 0) same

-- the same bytes are of one list of blocks, up to the first closed gate
one_list : (ps qs : List (List ℕ)) (g h : ℕ) (x y : List ℕ) → All IsPayload ps → All IsPayload qs → g ≢ 1 → h ≢ 1 → blocks ps ++ g ∷ x ≡ blocks qs ++ h ∷ y → ps ≡ qs
one_list [] [] g h x y all_p all_q closed_g closed_h same = refl
one_list [] (q ∷ qs) g h x y all_p all_q closed_g closed_h same = absurd (closed_g (first_byte g 1 x _ same))
one_list (p ∷ ps) [] g h x y all_p all_q closed_g closed_h same = absurd (closed_h (sym (first_byte 1 h _ y same)))
one_list (p ∷ ps) (q ∷ qs) g h x y all_p all_q closed_g closed_h same =
    let both = block_cancel p q (blocks ps ++ g ∷ x) (blocks qs ++ h ∷ y) (All-head IsPayload p ps all_p) (All-head IsPayload q qs all_q)
    (sym (append_assoc (block p) (blocks ps) (g ∷ x)) ∙ same ∙ append_assoc (block q) (blocks qs) (h ∷ y)) in
    let rest = one_list ps qs g h x y (All-tail IsPayload p ps all_p) (All-tail IsPayload q qs all_q) closed_g closed_h both.1 in
    λ i. both.0 i ∷ rest i

-- a file holds one header and one list of payloads
pub one_log : (h k : Header) (ps qs : List (List ℕ)) (file : List ℕ) → IsWholeLog h ps file → IsWholeLog k qs file → (h ≡ k) × (ps ≡ qs)
one_log h k ps qs file a b =
    let front : (header : Header) (payloads : List (List ℕ)) (is : IsWholeLog header payloads file) → file ≡ header_bytes header ++ (blocks payloads ++ is.log.gate ∷ is.log.rest) =
    λ (header : Header) (payloads : List (List ℕ)) (is : IsWholeLog header payloads file). is.log.split ∙ append_assoc (header_bytes header) (blocks payloads) (is.log.gate ∷ is.log.rest) in
    let same = sym (front h ps a) ∙ front k qs b in
    let headers = one_header h k _ _ a.in_range b.in_range same in
    let behind = append_cancel_left (header_bytes h) (blocks ps ++ a.log.gate ∷ a.log.rest) (blocks qs ++ b.log.gate ∷ b.log.rest)
    (same ∙ ap (λ (header : Header). header_bytes header ++ (blocks qs ++ b.log.gate ∷ b.log.rest)) (sym headers)) in
    (headers, one_list ps qs _ _ _ _ a.whole b.whole a.log.closed b.log.closed behind)

-- a whole block, and something after it
record Ahead (bytes : List ℕ) : Type 0 where
  payload : List ℕ
  rest : List ℕ
  is_payload : IsPayload payload
  split : bytes ≡ block payload ++ rest
  some : 0 < length rest

-- an open gate after some of the blocks is the gate of the next one
ahead : (ps qs : List (List ℕ)) (g : ℕ) (x y : List ℕ) → All IsPayload ps → All IsPayload qs → g ≢ 1 → blocks ps ++ g ∷ x ≡ blocks qs ++ 1 ∷ y → Ahead (1 ∷ y)
ahead [] [] g x y all_p all_q closed same = absurd (closed (first_byte g 1 x y same))
ahead [] (q ∷ qs) g x y all_p all_q closed same = absurd (closed (first_byte g 1 x _ same))
ahead (p ∷ ps) [] g x y all_p all_q closed same = record {
  payload = p;
  rest = blocks ps ++ g ∷ x;
  is_payload = All-head IsPayload p ps all_p;
  split = sym same ∙ append_assoc (block p) (blocks ps) (g ∷ x);
  some = omega (arith, length-append (blocks ps) (g ∷ x));
}
ahead (p ∷ ps) (q ∷ qs) g x y all_p all_q closed same =
    let both = block_cancel p q (blocks ps ++ g ∷ x) (blocks qs ++ 1 ∷ y) (All-head IsPayload p ps all_p) (All-head IsPayload q qs all_q)
    (sym (append_assoc (block p) (blocks ps) (g ∷ x)) ∙ same ∙ append_assoc (block q) (blocks qs) (1 ∷ y)) in
    ahead ps qs g x y (All-tail IsPayload p ps all_p) (All-tail IsPayload q qs all_q) closed both.1

-- where a block fault is, no whole block stands
not_ahead : (file : List ℕ) (place : ℕ) (fault : IsBlockFault file place) → Ahead (1 ∷ fault.rest) → ⊥
not_ahead file place fault next =
    let front : length (fault.header ++ blocks fault.payloads) ≡ end_of fault.payloads = omega (arith, length-append fault.header (blocks fault.payloads), fault.long) in
    let from : drop (end_of fault.payloads) file ≡ 1 ∷ fault.rest = ap (λ (l : List ℕ). drop (end_of fault.payloads) l) fault.split ∙ drop_at (fault.header ++ blocks fault.payloads) (1 ∷ fault.rest) (end_of fault.payloads) front in
    let there : drop place file ≡ drop 1 (block next.payload ++ next.rest) =
    ap (λ (n : ℕ). drop n file) fault.here ∙ sym (drop-drop 1 (end_of fault.payloads) file) ∙ ap (λ (l : List ℕ). drop 1 l) (from ∙ next.split) in
    let number : number_at 4 place file ≡ length next.payload = ap (λ (l : List ℕ). little_number 4 l) there ∙ length_stands next.payload next.rest next.is_payload in
    let long : length file ≡ end_of fault.payloads + (5 + length next.payload + length next.rest) = omega (
      arith,
      ap length fault.split,
      length-append (fault.header ++ blocks fault.payloads) (1 ∷ fault.rest),
      front,
      ap length next.split,
      length-append (block next.payload) next.rest,
      length-block next.payload,
    ) in
    fault.broken (omega (arith, number, next.is_payload.some), omega (arith, number, next.is_payload.short)) (omega (arith, number, long, fault.here, next.some))

-- a whole log has no fault in its blocks
pub no_block_fault : (h : Header) (ps : List (List ℕ)) (file : List ℕ) (place : ℕ) → IsWholeLog h ps file → IsBlockFault file place → ⊥
no_block_fault h ps file place is fault =
    let split = fault.split ∙ append_assoc fault.header (blocks fault.payloads) (1 ∷ fault.rest) in
    let same : header_bytes h ++ (blocks ps ++ is.log.gate ∷ is.log.rest) ≡ fault.header ++ (blocks fault.payloads ++ 1 ∷ fault.rest) =
    sym (append_assoc (header_bytes h) (blocks ps) (is.log.gate ∷ is.log.rest)) ∙ sym is.log.split ∙ split in
    let behind : blocks ps ++ is.log.gate ∷ is.log.rest ≡ blocks fault.payloads ++ 1 ∷ fault.rest =
    sym (drop_at (header_bytes h) (blocks ps ++ is.log.gate ∷ is.log.rest) 33 (length-header_bytes h)) ∙ ap (λ (l : List ℕ). drop 33 l) same ∙ drop_at fault.header (blocks fault.payloads ++ 1 ∷ fault.rest) 33 fault.long in
    not_ahead file place fault (ahead ps fault.payloads is.log.gate is.log.rest fault.rest is.whole fault.whole is.log.closed behind)

-- the same bytes are of one list of blocks, up to the first open gate after which no whole block stands
one_open : (ps qs : List (List ℕ)) (x y : List ℕ) → All IsPayload ps → All IsPayload qs → blocks ps ++ 1 ∷ x ≡ blocks qs ++ 1 ∷ y → (Ahead (1 ∷ x) → ⊥) → (Ahead (1 ∷ y) → ⊥) → ps ≡ qs
one_open [] [] x y all_p all_q same none_x none_y = refl
one_open [] (q ∷ qs) x y all_p all_q same none_x none_y = absurd (none_x (record {
  payload = q;
  rest = blocks qs ++ 1 ∷ y;
  is_payload = All-head IsPayload q qs all_q;
  split = same ∙ append_assoc (block q) (blocks qs) (1 ∷ y);
  some = omega (arith, length-append (blocks qs) (1 ∷ y));
}))
one_open (p ∷ ps) [] x y all_p all_q same none_x none_y = absurd (none_y (record {
  payload = p;
  rest = blocks ps ++ 1 ∷ x;
  is_payload = All-head IsPayload p ps all_p;
  split = sym same ∙ append_assoc (block p) (blocks ps) (1 ∷ x);
  some = omega (arith, length-append (blocks ps) (1 ∷ x));
}))
one_open (p ∷ ps) (q ∷ qs) x y all_p all_q same none_x none_y =
    let both = block_cancel p q (blocks ps ++ 1 ∷ x) (blocks qs ++ 1 ∷ y) (All-head IsPayload p ps all_p) (All-head IsPayload q qs all_q)
    (sym (append_assoc (block p) (blocks ps) (1 ∷ x)) ∙ same ∙ append_assoc (block q) (blocks qs) (1 ∷ y)) in
    let rest = one_open ps qs x y (All-tail IsPayload p ps all_p) (All-tail IsPayload q qs all_q) both.1 none_x none_y in
    λ i. both.0 i ∷ rest i

-- the blocks of a file break at one place
pub one_block_fault : (file : List ℕ) (p q : ℕ) → IsBlockFault file p → IsBlockFault file q → p ≡ q
one_block_fault file p q a b =
    let behind : (place : ℕ) (f : IsBlockFault file place) → drop 33 file ≡ blocks f.payloads ++ 1 ∷ f.rest =
    λ place f. ap (λ (l : List ℕ). drop 33 l) (f.split ∙ append_assoc f.header (blocks f.payloads) (1 ∷ f.rest)) ∙ drop_at f.header (blocks f.payloads ++ 1 ∷ f.rest) 33 f.long in
    let same = one_open a.payloads b.payloads a.rest b.rest a.whole b.whole (sym (behind p a) ∙ behind q b) (not_ahead file p a) (not_ahead file q b) in
    a.here ∙ ap (λ (l : List (List ℕ)). end_of l + 1) same ∙ sym b.here

-- a file with a header has no fault in it
pub no_fault_of_header : (h : Header) (file : List ℕ) (place : ℕ) → HasHeader h file → IsHeaderFault file place → ⊥
no_fault_of_header h file place has fault = none place (subst (λ (l : List ℕ). IsHeaderFault l place) has.split fault)
  where
    behind : List ℕ
    behind = has.gate ∷ has.rest

    none : (place : ℕ) → IsHeaderFault (header_bytes h ++ behind) place → ⊥
    none _ (magic is_open other) = other refl
    none _ (epoch is_open out) = let n = epoch_stands h has.in_range behind in out (omega (arith, n, has.in_range.epoch_low), omega (arith, n, has.in_range.epoch_high))
    none _ (base is_open out) = let n = base_stands h has.in_range behind in out (omega (arith, n, has.in_range.base_low), omega (arith, n, has.in_range.base_high))
    none _ (commands is_open over) = let n = base_stands h has.in_range behind in let k = commands_stand h has.in_range behind in omega (arith, n, k, over, has.in_range.commands)
    none _ (short is_open cut) = omega (arith, cut, length-append (header_bytes h) behind, length-header_bytes h)

-- a whole log has its header
pub has_header : (h : Header) (ps : List (List ℕ)) (file : List ℕ) → IsWholeLog h ps file → HasHeader h file
has_header h [] file is = record { in_range = is.in_range; gate = is.log.gate; rest = is.log.rest; split = is.log.split ∙ append_assoc (header_bytes h) [] (is.log.gate ∷ is.log.rest) }
has_header h (p ∷ ps) file is = record {
  in_range = is.in_range;
  gate = 1;
  rest = drop 1 (blocks (p ∷ ps) ++ is.log.gate ∷ is.log.rest);
  split = is.log.split ∙ append_assoc (header_bytes h) (blocks (p ∷ ps)) (is.log.gate ∷ is.log.rest);
}

-- a whole log has no fault in its header
pub no_header_fault : (h : Header) (ps : List (List ℕ)) (file : List ℕ) (place : ℕ) → IsWholeLog h ps file → IsHeaderFault file place → ⊥
no_header_fault h ps file place is fault = no_fault_of_header h file place (has_header h ps file is) fault

-- a file with a header has one
pub same_header : (h k : Header) (file : List ℕ) → HasHeader h file → HasHeader k file → h ≡ k
same_header h k file a b = one_header h k (a.gate ∷ a.rest) (b.gate ∷ b.rest) a.in_range b.in_range (sym a.split ∙ b.split)

-- a file with a header is not closed
pub not_closed : (h : Header) (file : List ℕ) → HasHeader h file → IsClosedLog file → ⊥
not_closed h file has closed = (subst IsClosedLog has.split closed) refl

-- nor empty
pub not_empty : (h : Header) (file : List ℕ) → HasHeader h file → file ≡ [] → ⊥
not_empty h file has none = omega (arith, ap length (sym has.split ∙ none))

-- beside a log in force, a file with a header has a smaller epoch
pub smaller : (n : ℕ) (h : Header) (file : List ℕ) → IsPassive n file → HasHeader h file → h.epoch < n
smaller n h file (inl closed) has = absurd (not_closed h file has closed)
smaller n h file (inr other) has = omega (arith, other.2, ap (λ (k : Header). k.epoch) (same_header h other.0 file has other.1))

-- a fault of a header is one after an open gate
opens_by : (file : List ℕ) (place : ℕ) → IsHeaderFault file place → IsOpenAt 0 file
opens_by file _ (magic is_open other) = is_open
opens_by file _ (epoch is_open out) = is_open
opens_by file _ (base is_open out) = is_open
opens_by file _ (commands is_open over) = is_open
opens_by file _ (short is_open cut) = is_open

-- a file with no log in force has no fault that a reader looks for
passive_sound : (n : ℕ) (file : List ℕ) (place : ℕ) → IsPassive n file → IsHeaderFault file place → ⊥
passive_sound n [] place (inl closed) fault = closed
passive_sound n (g ∷ rest) place (inl closed) fault = closed (opens_by (g ∷ rest) place fault)
passive_sound n file place (inr other) fault = no_fault_of_header other.0 file place other.1 fault

passive_some : (n : ℕ) (file : List ℕ) → IsPassive n file → file ≡ [] → ⊥
passive_some n file (inl closed) none = subst IsClosedLog none closed
passive_some n file (inr other) none = not_empty other.0 file other.1 none

-- two headers of logs in force, each of which is beside the other
not_both : (h k : Header) (a b : List ℕ) → HasHeader h a → HasHeader k b → IsPassive h.epoch b → IsPassive k.epoch a → ⊥
not_both h k a b has_h has_k beside_h beside_k = omega (arith, smaller h.epoch k b beside_h has_k, smaller k.epoch h a beside_k has_h)

-- files with a log in force, whole, have no fault
pub no_log_fault : (active : FileNo) (h : Header) (ps : List (List ℕ)) (files : Files) (file : FileNo) (place : ℕ) → HoldsLog active h ps files → IsLogFault files file place → ⊥
no_log_fault Objects h ps files _ _ is fault = is.in_force.a_log refl
no_log_fault LogA h ps files _ _ is (no_byte Objects a_log none) = a_log refl
no_log_fault LogA h ps files _ _ is (no_byte LogA a_log none) = not_empty h (files LogA) (has_header h ps (files LogA) is.log) none
no_log_fault LogA h ps files _ _ is (no_byte LogB a_log none) = passive_some h.epoch (files LogB) is.in_force.other none
no_log_fault LogB h ps files _ _ is (no_byte Objects a_log none) = a_log refl
no_log_fault LogB h ps files _ _ is (no_byte LogA a_log none) = passive_some h.epoch (files LogA) is.in_force.other none
no_log_fault LogB h ps files _ _ is (no_byte LogB a_log none) = not_empty h (files LogB) (has_header h ps (files LogB) is.log) none
no_log_fault LogA h ps files _ _ is (in_header Objects place a_log fault) = a_log refl
no_log_fault LogA h ps files _ _ is (in_header LogA place a_log fault) = no_header_fault h ps (files LogA) place is.log fault
no_log_fault LogA h ps files _ _ is (in_header LogB place a_log fault) = passive_sound h.epoch (files LogB) place is.in_force.other fault
no_log_fault LogB h ps files _ _ is (in_header Objects place a_log fault) = a_log refl
no_log_fault LogB h ps files _ _ is (in_header LogA place a_log fault) = passive_sound h.epoch (files LogA) place is.in_force.other fault
no_log_fault LogB h ps files _ _ is (in_header LogB place a_log fault) = no_header_fault h ps (files LogB) place is.log fault
no_log_fault LogA h ps files _ _ is (none_open a b) = not_closed h (files LogA) (has_header h ps (files LogA) is.log) a
no_log_fault LogB h ps files _ _ is (none_open a b) = not_closed h (files LogB) (has_header h ps (files LogB) is.log) b
no_log_fault LogA h ps files _ _ is (one_epoch j k has_j has_k same) =
    omega (arith, same, smaller h.epoch k (files LogB) is.in_force.other has_k, ap (λ (x : Header). x.epoch) (same_header h j (files LogA) (has_header h ps (files LogA) is.log) has_j))
no_log_fault LogB h ps files _ _ is (one_epoch j k has_j has_k same) =
    omega (arith, same, smaller h.epoch j (files LogA) is.in_force.other has_j, ap (λ (x : Header). x.epoch) (same_header h k (files LogB) (has_header h ps (files LogB) is.log) has_k))
no_log_fault LogA h ps files _ _ is (in_block Objects k place in_force has fault) = in_force.a_log refl
no_log_fault LogA h ps files _ _ is (in_block LogA k place in_force has fault) = no_block_fault h ps (files LogA) place is.log fault
no_log_fault LogA h ps files _ _ is (in_block LogB k place in_force has fault) = not_both h k (files LogA) (files LogB) (has_header h ps (files LogA) is.log) has is.in_force.other in_force.other
no_log_fault LogB h ps files _ _ is (in_block Objects k place in_force has fault) = in_force.a_log refl
no_log_fault LogB h ps files _ _ is (in_block LogA k place in_force has fault) = not_both h k (files LogB) (files LogA) (has_header h ps (files LogB) is.log) has is.in_force.other in_force.other
no_log_fault LogB h ps files _ _ is (in_block LogB k place in_force has fault) = no_block_fault h ps (files LogB) place is.log fault

-- what changes in the active file alone leaves it in force
pub in_force_stays : (active : FileNo) (n : ℕ) (change : List ℕ → List ℕ → Type 0) (old new : Files) → In active change old new → IsInForce active n old → IsInForce active n new
in_force_stays Objects n change old new is in_force = absurd (in_force.a_log refl)
in_force_stays LogA n change old new is in_force = record { a_log = in_force.a_log; other = subst (IsPassive n) (sym (is.others LogB (λ e. cc))) in_force.other }
in_force_stays LogB n change old new is in_force = record { a_log = in_force.a_log; other = subst (IsPassive n) (sym (is.others LogA (λ e. cc))) in_force.other }

-- a file with a header that is in force is that of the log in force
pub one_place : (active other : FileNo) (h k : Header) (ps : List (List ℕ)) (files : Files) → HoldsLog active h ps files → IsInForce other k.epoch files → HasHeader k (files other) → other ≡ active
one_place Objects other h k ps files a b has = absurd (a.in_force.a_log refl)
one_place LogA Objects h k ps files a b has = absurd (b.a_log refl)
one_place LogB Objects h k ps files a b has = absurd (b.a_log refl)
one_place LogA LogA h k ps files a b has = refl
one_place LogB LogB h k ps files a b has = refl
one_place LogA LogB h k ps files a b has = absurd (not_both h k (files LogA) (files LogB) (has_header h ps (files LogA) a.log) has a.in_force.other b.other)
one_place LogB LogA h k ps files a b has = absurd (not_both h k (files LogB) (files LogA) (has_header h ps (files LogB) a.log) has a.in_force.other b.other)

-- files hold one log in force
pub one_in_force : (active other : FileNo) (h k : Header) (ps qs : List (List ℕ)) (files : Files) → HoldsLog active h ps files → HoldsLog other k qs files → (active ≡ other) × (h ≡ k) × (ps ≡ qs)
one_in_force Objects other h k ps qs files a b = absurd (a.in_force.a_log refl)
one_in_force LogA Objects h k ps qs files a b = absurd (b.in_force.a_log refl)
one_in_force LogB Objects h k ps qs files a b = absurd (b.in_force.a_log refl)
one_in_force LogA LogA h k ps qs files a b = let same = one_log h k ps qs (files LogA) a.log b.log in (refl, same.0, same.1)
one_in_force LogB LogB h k ps qs files a b = let same = one_log h k ps qs (files LogB) a.log b.log in (refl, same.0, same.1)
one_in_force LogA LogB h k ps qs files a b = absurd (not_both h k (files LogA) (files LogB) (has_header h ps (files LogA) a.log) (has_header k qs (files LogB) b.log) a.in_force.other b.in_force.other)
one_in_force LogB LogA h k ps qs files a b = absurd (not_both h k (files LogB) (files LogA) (has_header h ps (files LogB) a.log) (has_header k qs (files LogA) b.log) a.in_force.other b.in_force.other)

-- what changes no log leaves the one in force
pub log_stays : (active : FileNo) (h : Header) (ps : List (List ℕ)) (change : List ℕ → List ℕ → Type 0) (old new : Files) → In Objects change old new → HoldsLog active h ps old → HoldsLog active h ps new
log_stays Objects h ps change old new is log = absurd (log.in_force.a_log refl)
log_stays LogA h ps change old new is log = record {
  in_force = record { a_log = log.in_force.a_log; other = subst (IsPassive h.epoch) (sym (is.others LogB (λ e. cc))) log.in_force.other };
  log = subst (IsWholeLog h ps) (sym (is.others LogA (λ e. cc))) log.log;
}
log_stays LogB h ps change old new is log = record {
  in_force = record { a_log = log.in_force.a_log; other = subst (IsPassive h.epoch) (sym (is.others LogA (λ e. cc))) log.in_force.other };
  log = subst (IsWholeLog h ps) (sym (is.others LogB (λ e. cc))) log.log;
}

-- the first check of an open header that fails is a fault of it
checks_fault : (file : List ℕ) (place : ℕ) → IsOpenAt 0 file → HeaderChecks file place → IsHeaderFault file place
checks_fault file place is_open (stops at wrong) = subst (λ (n : ℕ). IsHeaderFault file n) (sym at) (magic is_open wrong)
checks_fault file place is_open (goes_on _ (stops at wrong)) = subst (λ (n : ℕ). IsHeaderFault file n) (sym at) (epoch is_open wrong)
checks_fault file place is_open (goes_on _ (goes_on _ (stops at wrong))) = subst (λ (n : ℕ). IsHeaderFault file n) (sym at) (base is_open wrong)
checks_fault file place is_open (goes_on _ (goes_on _ (goes_on _ (stops at wrong)))) = elim (cases_lt (number_at 8 25 file) (number_at 8 17 file)) [
  | inl less ↦ absurd (wrong less)
  | inr more ↦ subst (λ (n : ℕ). IsHeaderFault file n) (sym at) (commands is_open more)
]
checks_fault file place is_open (goes_on _ (goes_on _ (goes_on _ (goes_on _ (stops at wrong))))) = elim (cases_lt 33 (length file)) [
  | inl less ↦ absurd (wrong less)
  | inr more ↦ subst (λ (n : ℕ). IsHeaderFault file n) (sym at) (short is_open (omega (arith, more)))
]
checks_fault file place is_open (goes_on _ (goes_on _ (goes_on _ (goes_on _ (goes_on _ never))))) = absurd never

header_fault_is : (files : Files) (file : FileNo) (place : ℕ) → file ≢ Objects → IsFirstHeaderFault (files file) place → IsLogFault files file place
header_fault_is files file _ a_log (no_bytes none) = no_byte file a_log none
header_fault_is files file _ a_log (opened place is_open fault) = in_header file place a_log (checks_fault (files file) place is_open fault)

-- the first check of the logs that fails is a fault of them
pub first_is_log_fault : (files : Files) (file : FileNo) (place : ℕ) → IsFirstLogFault files file place → IsLogFault files file place
first_is_log_fault files _ _ (in_log_a place fault) = header_fault_is files LogA place (λ e. cc) fault
first_is_log_fault files _ _ (in_log_b place fine fault) = header_fault_is files LogB place (λ e. cc) fault
first_is_log_fault files _ _ (both_closed a b) = none_open a b
first_is_log_fault files _ _ (same_epoch a b has_a has_b same) = one_epoch a b has_a has_b same
first_is_log_fault files _ _ (at_block active header place in_force has fault) = in_block active header place in_force has fault

-- files with a log in force, whole, pass all their checks
pub no_first_log_fault : (active : FileNo) (h : Header) (ps : List (List ℕ)) (files : Files) (file : FileNo) (place : ℕ) → HoldsLog active h ps files → IsFirstLogFault files file place → ⊥
no_first_log_fault active h ps files file place is fault = no_log_fault active h ps files file place is (first_is_log_fault files file place fault)

-- a log file that has no fault by itself passes its checks
fine_passes : (file : List ℕ) (place : ℕ) → IsFineLog file → IsFirstHeaderFault file place → ⊥
fine_passes [] _ (inl closed) fault = closed
fine_passes (g ∷ rest) _ (inl closed) (no_bytes none) = absurd (omega (arith, ap length none))
fine_passes (g ∷ rest) _ (inl closed) (opened place is_open fault) = closed is_open
fine_passes file _ (inr other) (no_bytes none) = not_empty other.0 file other.1 none
fine_passes file _ (inr other) (opened place is_open fault) = no_fault_of_header other.0 file place other.1 (checks_fault file place is_open fault)

one_header_fault : (file : List ℕ) (p q : ℕ) → IsFirstHeaderFault file p → IsFirstHeaderFault file q → p ≡ q
one_header_fault file _ _ (no_bytes none) (no_bytes also) = refl
one_header_fault file _ _ (no_bytes none) (opened q is_open b) = let here = subst (λ (l : List ℕ). IsOpenAt 0 l) none is_open in absurd (omega (arith, here))
one_header_fault file _ _ (opened p is_open a) (no_bytes none) = let here = subst (λ (l : List ℕ). IsOpenAt 0 l) none is_open in absurd (omega (arith, here))
one_header_fault file _ _ (opened p is_open a) (opened q also b) =
    let never : NoMore p → NoMore q → p ≡ q = λ none. absurd none in
    one_check 1 p q (one_check 9 p q (one_check 17 p q (one_check 25 p q (one_check 33 p q never)))) a b

passive_fine : (n : ℕ) (file : List ℕ) → IsPassive n file → IsFineLog file
passive_fine n file (inl closed) = inl closed
passive_fine n file (inr other) = inr (other.0, other.1)

-- beside a log in force with its header, both files have no fault by themselves
both_fine : (active : FileNo) (h : Header) (files : Files) → IsInForce active h.epoch files → HasHeader h (files active) → IsFineLog (files LogA) × IsFineLog (files LogB)
both_fine Objects h files in_force has = absurd (in_force.a_log refl)
both_fine LogA h files in_force has = (inr (h, has), passive_fine h.epoch (files LogB) in_force.other)
both_fine LogB h files in_force has = (passive_fine h.epoch (files LogA) in_force.other, inr (h, has))

-- two logs in force are one
pub one_active : (a b : FileNo) (h k : Header) (files : Files) → IsInForce a h.epoch files → HasHeader h (files a) → IsInForce b k.epoch files → HasHeader k (files b) → a ≡ b
one_active Objects b h k files in_a has_a in_b has_b = absurd (in_a.a_log refl)
one_active LogA Objects h k files in_a has_a in_b has_b = absurd (in_b.a_log refl)
one_active LogB Objects h k files in_a has_a in_b has_b = absurd (in_b.a_log refl)
one_active LogA LogA h k files in_a has_a in_b has_b = refl
one_active LogB LogB h k files in_a has_a in_b has_b = refl
one_active LogA LogB h k files in_a has_a in_b has_b = absurd (not_both h k (files LogA) (files LogB) has_a has_b in_a.other in_b.other)
one_active LogB LogA h k files in_a has_a in_b has_b = absurd (not_both h k (files LogB) (files LogA) has_a has_b in_a.other in_b.other)

-- beside a log in force not both are closed, and no other has its epoch
not_both_closed : (active : FileNo) (h : Header) (files : Files) → IsInForce active h.epoch files → HasHeader h (files active) → IsClosedLog (files LogA) → IsClosedLog (files LogB) → ⊥
not_both_closed Objects h files in_force has a b = in_force.a_log refl
not_both_closed LogA h files in_force has a b = not_closed h (files LogA) has a
not_both_closed LogB h files in_force has a b = not_closed h (files LogB) has b

not_same_epoch : (active : FileNo) (h j k : Header) (files : Files) → IsInForce active h.epoch files → HasHeader h (files active) → HasHeader j (files LogA) → HasHeader k (files LogB) → j.epoch ≡ k.epoch → ⊥
not_same_epoch Objects h j k files in_force has has_j has_k same = in_force.a_log refl
not_same_epoch LogA h j k files in_force has has_j has_k same =
    omega (arith, same, smaller h.epoch k (files LogB) in_force.other has_k, ap (λ (x : Header). x.epoch) (same_header h j (files LogA) has has_j))
not_same_epoch LogB h j k files in_force has has_j has_k same =
    omega (arith, same, smaller h.epoch j (files LogA) in_force.other has_j, ap (λ (x : Header). x.epoch) (same_header h k (files LogB) has has_k))

-- the first check of the logs that fails is one
pub one_log_fault : (files : Files) (f g : FileNo) (p q : ℕ) → IsFirstLogFault files f p → IsFirstLogFault files g q → (f ≡ g) × (p ≡ q)
one_log_fault files _ _ _ _ (in_log_a p a) (in_log_a q b) = (refl, one_header_fault (files LogA) p q a b)
one_log_fault files _ _ _ _ (in_log_a p a) (in_log_b q also b) = absurd (fine_passes (files LogA) p also a)
one_log_fault files _ _ _ _ (in_log_a p a) (both_closed u v) = absurd (fine_passes (files LogA) p (inl u) a)
one_log_fault files _ _ _ _ (in_log_a p a) (same_epoch j l has_j has_l alike) = absurd (fine_passes (files LogA) p (inr (j, has_j)) a)
one_log_fault files _ _ _ _ (in_log_a p a) (at_block y k q in_y has_y b) = absurd (fine_passes (files LogA) p (both_fine y k files in_y has_y).0 a)
one_log_fault files _ _ _ _ (in_log_b p fine a) (in_log_a q b) = absurd (fine_passes (files LogA) q fine b)
one_log_fault files _ _ _ _ (in_log_b p fine a) (in_log_b q also b) = (refl, one_header_fault (files LogB) p q a b)
one_log_fault files _ _ _ _ (in_log_b p fine a) (both_closed u v) = absurd (fine_passes (files LogB) p (inl v) a)
one_log_fault files _ _ _ _ (in_log_b p fine a) (same_epoch j l has_j has_l alike) = absurd (fine_passes (files LogB) p (inr (l, has_l)) a)
one_log_fault files _ _ _ _ (in_log_b p fine a) (at_block y k q in_y has_y b) = absurd (fine_passes (files LogB) p (both_fine y k files in_y has_y).1 a)
one_log_fault files _ _ _ _ (both_closed s t) (in_log_a q b) = absurd (fine_passes (files LogA) q (inl s) b)
one_log_fault files _ _ _ _ (both_closed s t) (in_log_b q also b) = absurd (fine_passes (files LogB) q (inl t) b)
one_log_fault files _ _ _ _ (both_closed s t) (both_closed u v) = (refl, refl)
one_log_fault files _ _ _ _ (both_closed s t) (same_epoch j l has_j has_l alike) = absurd (not_closed j (files LogA) has_j s)
one_log_fault files _ _ _ _ (both_closed s t) (at_block y k q in_y has_y b) = absurd (not_both_closed y k files in_y has_y s t)
one_log_fault files _ _ _ _ (same_epoch h k has_h has_k same) (in_log_a q b) = absurd (fine_passes (files LogA) q (inr (h, has_h)) b)
one_log_fault files _ _ _ _ (same_epoch h k has_h has_k same) (in_log_b q also b) = absurd (fine_passes (files LogB) q (inr (k, has_k)) b)
one_log_fault files _ _ _ _ (same_epoch h k has_h has_k same) (both_closed u v) = absurd (not_closed h (files LogA) has_h u)
one_log_fault files _ _ _ _ (same_epoch h k has_h has_k same) (same_epoch j l has_j has_l alike) = (refl, refl)
one_log_fault files _ _ _ _ (same_epoch h k has_h has_k same) (at_block y n q in_y has_y b) = absurd (not_same_epoch y n h k files in_y has_y has_h has_k same)
one_log_fault files _ _ _ _ (at_block x h p in_x has_x a) (in_log_a q b) = absurd (fine_passes (files LogA) q (both_fine x h files in_x has_x).0 b)
one_log_fault files _ _ _ _ (at_block x h p in_x has_x a) (in_log_b q also b) = absurd (fine_passes (files LogB) q (both_fine x h files in_x has_x).1 b)
one_log_fault files _ _ _ _ (at_block x h p in_x has_x a) (both_closed u v) = absurd (not_both_closed x h files in_x has_x u v)
one_log_fault files _ _ _ _ (at_block x h p in_x has_x a) (same_epoch j l has_j has_l alike) = absurd (not_same_epoch x h j l files in_x has_x has_j has_l alike)
one_log_fault files _ _ _ _ (at_block x h p in_x has_x a) (at_block y k q in_y has_y b) =
    let same = one_active x y h k files in_x has_x in_y has_y in
    (same, one_block_fault (files x) p q a (subst (λ (f : FileNo). IsBlockFault (files f) q) (sym same) b))
