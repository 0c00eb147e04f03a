-- Bytes that stand in a file, as if they had been written.
use Rattle.std.proofs.Common.{◌≡◌, ◌<◌, ◌≤◌, ◌+◌, ◌-◌, ◌^◌, ℕ, List, ◌++◌, length, take, drop, replicate, sym, ◌∙◌, ap, subst, arith, append_assoc, length-append, length-take, length-drop, take-add}
use Rattle.std.proofs.lemmas.List.{append-nil, drop-drop, take_all, take-append-drop}
use Rattle.byteorder.specs.Endian.{little_bytes}
use Rattle.oper_core.specs.LittleEndian.{length-little_bytes}
use Rattle.disk_model.specs.Disk.{HoldsAt, read_of}
use Rattle.stable_objects.specs.Replacing.{IsFilled}
use Rattle.stable_objects.proofs.Outside.{filled_by}

-- a write of what stands there changes nothing
stands_written : (at : ℕ) (bytes file : List ℕ) → at ≤ length file → read_of file at (length bytes) ≡ bytes → HoldsAt at bytes file file
stands_written at bytes file reach stands =
    let none : at - length file ≡ 0 = omega (arith, reach) in
    sym (take-append-drop at file)
    ∙ ap (λ (l : List ℕ). take at file ++ l)
    (sym (take-append-drop (length bytes) (drop at file)) ∙ ap (λ (l : List ℕ). l ++ drop (length bytes) (drop at file)) stands ∙ ap (λ (l : List ℕ). bytes ++ l) (drop-drop (length bytes) at file))
    ∙ sym (append_assoc (take at file) bytes (drop (at + length bytes) file))
    ∙ ap (λ (l : List ℕ). (l ++ bytes) ++ drop (at + length bytes) file) (sym (append-nil (take at file)) ∙ ap (λ (k : ℕ). take at file ++ replicate {A = ℕ} k 0) (sym none))

-- a slot is filled where its head and its value stand
pub filled_here : (place lsn : ℕ) (value head file : List ℕ) → lsn < 2 ^ 64 → length value < 2 ^ 32 → head ≡ little_bytes 8 lsn ++ little_bytes 4 (length value) → read_of file (place + 1) (length head) ≡ head
    → read_of file (place + 13) (length value) ≡ value → IsFilled place lsn value file
filled_here place lsn value head file small short is front rest =
    let long : length head ≡ 12 = omega (arith, ap length is, length-append (little_bytes 8 lsn) (little_bytes 4 (length value)), length-little_bytes 8 lsn, length-little_bytes 4 (length value)) in
    let read = ap length front in
    let reach : place + 13 ≤ length file = omega (arith, read, long, length-take (length head) (drop (place + 1) file), length-drop (place + 1) file) in
    filled_by place lsn value file file file small short
    (subst (λ (b : List ℕ). HoldsAt (place + 1) b file file) is (stands_written (place + 1) head file (omega (arith, reach)) front))
    (stands_written (place + 13) value file reach rest)

-- one piece more of some bytes stands there
pub stands_more : (file now bytes : List ℕ) (place from n k : ℕ) → k ≡ n → now ≡ file → from + n ≤ length bytes → read_of file place from ≡ take from bytes → read_of now (place + from) (length (take k (drop from bytes))) ≡ take k (drop from bytes)
    → read_of file place (from + n) ≡ take (from + n) bytes
stands_more file now bytes place from n k k_is same within so_far read =
    let more = subst (λ (m : ℕ). read_of now (place + from) (length (take m (drop from bytes))) ≡ take m (drop from bytes)) k_is read in
    let long : length (take n (drop from bytes)) ≡ n = omega (arith, length-take n (drop from bytes), length-drop from bytes, within) in
    take-add from n (drop place file)
    ∙ ap (λ (l : List ℕ). l ++ take n (drop from (drop place file))) so_far
    ∙ ap (λ (l : List ℕ). take from bytes ++ l)
    (ap (λ (l : List ℕ). take n l) (drop-drop from place file) ∙ ap (λ (k : ℕ). take k (drop (place + from) file)) (sym long) ∙ ap (λ (l : List ℕ). read_of l (place + from) (length (take n (drop from bytes)))) (sym same) ∙ more)
    ∙ sym (take-add from n bytes)

-- bytes that were read are those that were to stand there
pub read_same : (file into bytes : List ℕ) (place room n : ℕ) → room ≡ length bytes → length into ≡ room → n ≡ length bytes → take n into ≡ read_of file place room → into ≡ bytes → read_of file place (length bytes) ≡ bytes
read_same file into bytes place room n room_is long count read same =
    ap (λ (k : ℕ). read_of file place k) (sym room_is) ∙ sym read ∙ take_all n into (omega (arith, count, long, room_is)) ∙ same
