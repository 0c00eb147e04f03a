-- How far the blocks of a log are read.
use Rattle.std.proofs.Common.{◌≡◌, ◌<◌, ◌+◌, inl, inr, ℕ, List, [], ◌∷◌, ◌++◌, length, take, drop, refl, sym, ◌∙◌, ap, arith, append_assoc, length-append, length-take, take-append-drop}
use Rattle.std.proofs.lemmas.List.{append-nil, drop_more, get_or_past, drop-drop}
use Rattle.std.proofs.lemmas.List.Elements.{All-nil}
use Rattle.std.proofs.Math.Seq.{take-add}
use Rattle.std.proofs.lemmas.Bool.{cases_lt}
use Rattle.byteorder.specs.Endian.{little_bytes}
use Rattle.disk_model.specs.Disk.{read_of}
use Rattle.formats.specs.Bytes.{byte_at, IsOpenAt}
use Rattle.formats.specs.Log.{Header, header_bytes, block, blocks, IsHeader, IsPayload, IsWholeLog}
use Rattle.formats.specs.Image.{IsBlockFault}
use Rattle.log_blocks.specs.Reading.{IsReadTo, IsBlockHead, IsBroken, EndsBlocks}
use Rattle.log_blocks.specs.Laws.{blocks-push, all_push, length-block}
use Rattle.disk_model.specs.Padded.{length-read_of}

pub read_none : (file : List ℕ) → IsReadTo file 33 []
read_none file = record { whole = All-nil IsPayload; here = refl; front = sym (append-nil (take 33 file)); within = λ first. first }

-- one block more
pub read_more : (file : List ℕ) (gate len : ℕ) (payloads : List (List ℕ)) → IsReadTo file gate payloads → IsBlockHead gate len file → IsReadTo file (gate + (5 + len)) (payloads ++ read_of file (gate + 5) len ∷ [])
read_more file gate len payloads r h =
    let payload = read_of file (gate + 5) len in
    let long : length payload ≡ len = length-read_of file (gate + 5) len (omega (arith, h.within)) in
    let behind : drop 5 (drop gate file) ≡ drop (gate + 5) file = drop-drop 5 gate file in
    let next : take (5 + len) (drop gate file) ≡ block payload =
    take-add 5 len (drop gate file) ∙ ap (λ (l : List ℕ). l ++ take len (drop 5 (drop gate file))) h.head
    ∙ ap (λ (l : List ℕ). (1 ∷ little_bytes 4 len) ++ take len l) behind ∙ ap (λ (n : ℕ). (1 ∷ little_bytes 4 n) ++ payload) (sym long) in
    record {
      whole = all_push payloads payload r.whole (record { some = omega (arith, long, h.some); short = omega (arith, long, h.short) });
      here = omega (arith, r.here, ap length (blocks-push payloads payload), length-append (blocks payloads) (block payload), length-block payload, long);
      front = take-add gate (5 + len) file ∙ ap (λ (l : List ℕ). l ++ take (5 + len) (drop gate file)) r.front ∙ ap (λ (l : List ℕ). (take 33 file ++ blocks payloads) ++ l) next
          ∙ append_assoc (take 33 file) (blocks payloads) (block payload) ∙ ap (λ (l : List ℕ). take 33 file ++ l) (sym (blocks-push payloads payload));
      within = λ first. omega (arith, h.within);
    }

-- the file is what was read, the byte at the gate, and a rest
parts : (file : List ℕ) (gate : ℕ) (payloads : List (List ℕ)) → IsReadTo file gate payloads → gate < length file → file ≡ (take 33 file ++ blocks payloads) ++ byte_at gate file ∷ drop (gate + 1) file
parts file gate payloads r within =
    sym (take-append-drop gate file) ∙ ap (λ (l : List ℕ). l ++ drop gate file) r.front ∙ ap (λ (l : List ℕ). (take 33 file ++ blocks payloads) ++ l) (drop_more file gate 0 within)

-- after a header in its format, up to a closed gate
pub whole_log : (h : Header) (file : List ℕ) (gate : ℕ) → IsHeader h → take 33 file ≡ header_bytes h → 33 < length file → (e : EndsBlocks file gate) → IsWholeLog h e.payloads file
whole_log h file gate is front first e = record {
  in_range = is;
  log = record {
    gate = byte_at gate file;
    rest = drop (gate + 1) file;
    split = parts file gate e.payloads e.read (e.read.within first) ∙ ap (λ (l : List ℕ). (l ++ blocks e.payloads) ++ byte_at gate file ∷ drop (gate + 1) file) front;
    closed = e.closed;
  };
  whole = e.read.whole;
}

-- a gate that is open stands in the file
open_within : (file : List ℕ) (gate : ℕ) → IsOpenAt gate file → gate < length file
open_within file gate is = elim (cases_lt gate (length file)) [
  | inl within ↦ within
  | inr past ↦ absurd (omega (arith, sym is ∙ get_or_past file gate 0 past))
]

pub block_fault : (file : List ℕ) (gate : ℕ) (payloads : List (List ℕ)) → IsReadTo file gate payloads → IsBroken gate file → IsBlockFault file (gate + 1)
block_fault file gate payloads r b =
    let within = open_within file gate b.open_gate in
    record {
      header = take 33 file;
      payloads = payloads;
      rest = drop (gate + 1) file;
      split = parts file gate payloads r within ∙ ap (λ (n : ℕ). (take 33 file ++ blocks payloads) ++ n ∷ drop (gate + 1) file) b.open_gate;
      long = omega (arith, length-take 33 file, r.here, within);
      whole = r.whole;
      here = omega (arith, r.here);
      broken = b.broken;
    }
