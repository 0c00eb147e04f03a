-- Zeros after a log's end leave the log as it is.
use Rattle.std.proofs.Common.{◌≡◌, ◌<◌, ◌≤◌, inl, ℕ, ◌+◌, min, List, [], ◌∷◌, ◌++◌, length, take, drop, sym, ◌∙◌, ap, arith, append_assoc, length-append, take-append-drop}
use Rattle.std.proofs.lemmas.List.{take_at, take-take}
use Rattle.disk_model.specs.Disk.{Files, Disk, Passes, Same, In, Torn, IsSettled, LeavesOnly, Runs}
use Rattle.disk_model.specs.Moments.{first_call, goes_on, from_reads, runs_wider}
use Rattle.disk_model.specs.declared.machine.FileNo.{FileNo}
use Rattle.formats.specs.Log.{Header, header_bytes, blocks, IsWholeLog}
use Rattle.log_blocks.specs.Filling.{KeepsUpTo}
use Rattle.log_blocks.specs.Forcing.{IsLogAt, IsOneOf}
use Rattle.log_blocks.specs.Laws.{length-header_bytes}

-- a write behind the gate
torn_keeps : (gate at n : ℕ) (old new : List ℕ) → gate < at → Torn at n old new → KeepsUpTo gate old new
torn_keeps gate at n old new after torn reaches =
    let up = gate + 1 in
    let within : up ≤ min at (length old) = omega (arith, after, reaches) in
    let same : take up new ≡ take up old = sym (take-take up (min at (length old)) new within) ∙ ap (λ (l : List ℕ). take up l) torn.before ∙ take-take up at old (omega (arith, after)) in
    (omega (arith, reaches, torn.no_shorter), same)

pub zeros_keep : (old new : Disk) (file : FileNo) (gate at n : ℕ) → gate < at → Runs (In file (Torn at n)) Same old new → Runs (In file (KeepsUpTo gate)) Same old new
zeros_keep old new file gate at n after run =
    runs_wider old new (In file (Torn at n)) (In file (KeepsUpTo gate)) (λ a b is. record { changed = torn_keeps gate at n (a file) (b file) after is.changed; others = is.others }) run

-- no write at all
pub none_keeps : (file : FileNo) (gate : ℕ) (files : Files) → In file (KeepsUpTo gate) files files
none_keeps file gate files = record { changed = λ reaches. (reaches, λ i. take (gate + 1) (files file)); others = λ other is_other i. files other }

module _ (old : Disk) (file : FileNo) (gate : ℕ) (header : Header) (payloads : List (List ℕ)) (rests : IsLogAt old file gate header payloads) where
  abbrev front : List ℕ
  front = header_bytes header ++ blocks payloads

  place : gate ≡ length front
  place = omega (arith, rests.place, length-append (header_bytes header) (blocks payloads), length-header_bytes header)

  -- what has the same bytes up to the first closed gate is the log
  still : (c : List ℕ) → KeepsUpTo gate (old.reads file) c → IsWholeLog header payloads c
  still c keeps =
      let log = rests.stands.log in
      let closed = front ++ log.gate ∷ [] in
      let long : length closed ≡ gate + 1 = omega (arith, place, length-append front (log.gate ∷ [])) in
      let split : old.reads file ≡ closed ++ log.rest = log.split ∙ sym (append_assoc front (log.gate ∷ []) log.rest) in
      let reaches : gate < length (old.reads file) = omega (arith, ap length split, length-append closed log.rest, long) in
      let same : take (gate + 1) c ≡ closed = (keeps reaches).1 ∙ ap (λ (l : List ℕ). take (gate + 1) l) split ∙ take_at closed log.rest (gate + 1) long in
      let behind = drop (gate + 1) c in
      record {
        in_range = rests.stands.in_range;
        log = record {
          gate = log.gate;
          rest = behind;
          split = sym (take-append-drop (gate + 1) c) ∙ ap (λ (l : List ℕ). l ++ behind) same ∙ append_assoc front (log.gate ∷ []) behind;
          closed = log.closed;
        };
        whole = rests.stands.whole;
      }

  pub still_at : (mid : Disk) → In file (KeepsUpTo gate) old.reads mid.reads → IsSettled mid → IsLogAt mid file gate header payloads
  still_at mid keeps settled = record { settled = settled; stands = still (mid.reads file) keeps.changed; place = rests.place }

  module _ (payload : List ℕ) (mid : Disk) (told : old.tells_moments) (run : Runs (In file (KeepsUpTo gate)) Same old mid) where
    abbrev P : Files → List ℕ → Type 0
    P = IsOneOf old file header payloads payload

    pub filling_leaves : LeavesOnly old mid P
    filling_leaves = first_call old mid P told run.time (λ c s left.
        let from = from_reads old mid (In file (KeepsUpTo gate)) Same told rests.settled run.crash c s left in
        record { each_file = record { changed = inl (still (c file) from.0.changed); others = from.0.others }; nothing_said = from.1 })

    -- and a block behind them
    pub filled_leaves : (new : Disk) → Passes mid new → LeavesOnly mid new (IsOneOf mid file header payloads payload) → LeavesOnly old new P
    filled_leaves new time leaves =
        let files_told = run.begins.telling told in
        goes_on old mid new P (run.time.moments_told.0 told) filling_leaves time (λ c s left.
        let one = leaves.each c s left in
        record {
          each_file = record { changed = one.each_file.changed; others = λ other is_other. one.each_file.others other is_other ∙ (run.reads files_told).others other is_other };
          nothing_said = one.nothing_said ∙ run.said files_told;
        })
