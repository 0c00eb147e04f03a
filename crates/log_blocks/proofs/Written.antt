-- What is put into a new log, and what of it is written.
use Rattle.std.proofs.Common.{◌≡◌, ◌≢◌, ◌≤◌, ◌+◌, ◌-◌, ℕ, List, [], ◌∷◌, ◌++◌, length, get_or, take, drop, min, replicate, refl, sym, ◌∙◌, ap, subst, arith, append_assoc, length-append, take-add}
use Rattle.std.proofs.lemmas.List.{append-nil, get_or-take, take_at}
use Rattle.disk_model.specs.Disk.{Disk, HoldsAt, In, Runs, Same, Torn}
use Rattle.disk_model.specs.Moments.{runs_wider}
use Rattle.disk_model.specs.declared.machine.FileNo.{FileNo}
use Rattle.formats.specs.Log.{Header, header_fields, blocks, IsClosedLog}
use Rattle.log_blocks.specs.Rewriting.{IsFront, IsPrepared, KeepsClosed}
use Rattle.log_blocks.specs.Writing.{LogWriterView, HasPut}

-- a write after the header gate keeps it closed
torn_keeps : (at n : ℕ) (old new : List ℕ) → 1 ≤ at → Torn at n old new → KeepsClosed old new
torn_keeps at n [] new le torn closed = absurd closed
torn_keeps at n (g ∷ rest) [] le torn closed = absurd (omega (arith, torn.no_shorter))
torn_keeps at n (g ∷ rest) (b ∷ more) le torn closed =
    let same : b ≡ g = sym (get_or-take (min at (length (g ∷ rest))) (b ∷ more) 0 0 (omega (arith, le))) ∙ ap (λ (l : List ℕ). get_or l 0 0) torn.before ∙ get_or-take at (g ∷ rest) 0 0 le in
    λ is. closed (sym same ∙ is)

pub keeps_write : (old new : Disk) (file : FileNo) (at n : ℕ) → 1 ≤ at → Runs (In file (Torn at n)) Same old new → Runs (In file KeepsClosed) Same old new
keeps_write old new file at n le run = runs_wider old new (In file (Torn at n)) (In file KeepsClosed) (λ a b is. record { changed = torn_keeps at n (a file) (b file) le is.changed; others = is.others }) run

-- bytes written right after a front make it longer
front_grows : (front bytes a c : List ℕ) (at : ℕ) → at ≡ length front → IsFront front a → HoldsAt at bytes a c → IsFront (front ++ bytes) c
front_grows front bytes a c at here begins holds =
    let long : length a ≡ length front + length begins.0 = ap length begins.1 ∙ length-append front begins.0 in
    let none : at - length a ≡ 0 = omega (arith, long, here) in
    let before : take at a ≡ front = ap (λ (l : List ℕ). take at l) begins.1 ∙ take_at front begins.0 at (sym here) in
    let gap : take at a ++ replicate {A = ℕ} (at - length a) 0 ≡ front = ap (λ (k : ℕ). take at a ++ replicate {A = ℕ} k 0) none ∙ append-nil (take at a) ∙ before in
    (drop (at + length bytes) a, holds ∙ ap (λ (l : List ℕ). (l ++ bytes) ++ drop (at + length bytes) a) gap)

-- a closed file begins with its gate
gate_front : (a : List ℕ) → IsClosedLog a → IsFront (get_or a 0 0 ∷ []) a
gate_front [] closed = absurd closed
gate_front (g ∷ rest) closed = (rest, refl)

-- the bytes in memory are written
pub written_out : (old new : Disk) (it : LogWriterView) (bytes rest front : List ℕ) (place : ℕ) → bytes ≡ it.bytes → rest ≡ [] → place ≡ it.place + length it.bytes → HasPut old it front
    → HoldsAt it.place bytes (old.reads it.file) (new.reads it.file) → HasPut new (record { file = it.file; place = place; bytes = rest }) front
written_out old new it bytes rest front place same none here has holds = record {
  written = front;
  front_is = sym (append-nil front) ∙ ap (λ (l : List ℕ). front ++ l) (sym none);
  place = omega (arith, here, has.place, ap length has.front_is, length-append has.written it.bytes);
  stands = subst (λ (l : List ℕ). IsFront l (new.reads it.file)) (ap (λ (l : List ℕ). has.written ++ l) same ∙ sym has.front_is)
      (front_grows has.written bytes (old.reads it.file) (new.reads it.file) it.place has.place has.stands holds);
}

-- further bytes are in memory
pub put_behind : (d : Disk) (it : LogWriterView) (bytes more front : List ℕ) → bytes ≡ it.bytes ++ more → HasPut d it front → HasPut d (record it { bytes = bytes }) (front ++ more)
put_behind d it bytes more front same has = record {
  written = has.written;
  front_is = ap (λ (l : List ℕ). l ++ more) has.front_is ∙ append_assoc has.written it.bytes more ∙ ap (λ (l : List ℕ). has.written ++ l) (sym same);
  place = has.place;
  stands = has.stands;
}

-- further bytes of those that are put one after the other
pub put_more : (front bytes piece : List ℕ) (taken n : ℕ) → piece ≡ drop taken bytes → (front ++ take taken bytes) ++ take n piece ≡ front ++ take (taken + n) bytes
put_more front bytes piece taken n is =
    append_assoc front (take taken bytes) (take n piece) ∙ ap (λ (l : List ℕ). front ++ (take taken bytes ++ take n l)) is ∙ ap (λ (l : List ℕ). front ++ l) (sym (take-add taken n bytes))

-- a closed file, of which only the gate was put
pub put_gate : (d : Disk) (file : FileNo) → IsClosedLog (d.reads file) → HasPut d (record { file = file; place = 1; bytes = [] }) (get_or (d.reads file) 0 0 ∷ [])
put_gate d file closed = record {
  written = get_or (d.reads file) 0 0 ∷ [];
  front_is = refl;
  place = refl;
  stands = gate_front (d.reads file) closed;
}

-- and that gate is closed
pub gate_closed : (file : List ℕ) → IsClosedLog file → get_or file 0 0 ≢ 1
gate_closed [] closed = absurd closed
gate_closed (gate ∷ rest) closed = closed

-- all that was put is written, and a closed gate ends it
pub put_whole : (d : Disk) (it : LogWriterView) (header : Header) (payloads : List (List ℕ)) (gate : ℕ) → it.bytes ≡ [] → HasPut d it ((gate ∷ (header_fields header ++ blocks payloads)) ++ 0 ∷ []) → IsPrepared header payloads (d.reads it.file)
put_whole d it header payloads gate none has =
    let all : (gate ∷ (header_fields header ++ blocks payloads)) ++ 0 ∷ [] ≡ has.written = has.front_is ∙ ap (λ (l : List ℕ). has.written ++ l) none ∙ append-nil has.written in
    record {
      gate = gate;
      rest = has.stands.0;
      split = has.stands.1 ∙ ap (λ (l : List ℕ). l ++ has.stands.0) (sym all) ∙ append_assoc (gate ∷ (header_fields header ++ blocks payloads)) (0 ∷ []) has.stands.0;
    }
