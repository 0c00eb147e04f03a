-- The two steps of a force.
use Rattle.std.proofs.Common.{◌≡◌, ◌≢◌, ◌<◌, ◌≤◌, ◌^◌, inl, ⊎_elim, inr, ℕ, ◌+◌, List, [], ◌∷◌, ◌++◌, length, sym, ◌∙◌, subst, arith, length-append}
use Rattle.disk_model.specs.Disk.{Files, Disk, Passes, Steps, Same, In, Torn, HoldsAt, Any, IsSettled, LeavesOnly, Runs}
use Rattle.disk_model.specs.Moments.{first_call, goes_on, from_reads, runs_twice, runs_wider}
use Rattle.disk_model.specs.declared.machine.FileNo.{FileNo}
use Rattle.formats.specs.Log.{Header, header_bytes, blocks, IsLog, IsWholeLog}
use Rattle.log_blocks.specs.LogView.{LogView}
use Rattle.log_blocks.specs.Forcing.{block_body, with_block, IsAtRest, IsBeforeOrAfter, IsLogAt, IsOneOf}
use Rattle.log_blocks.specs.Laws.{with_block-some, length-header_bytes, all_push}
use Rattle.log_blocks.proofs.Bytes.{torn_behind, held_behind, torn_gate, held_gate, opened, either, next_place}

-- what is written and where, and that it has a place
pub record IsForce (old : Disk) (file : FileNo) (gate : ℕ) (header : Header) (payloads : List (List ℕ)) (payload : List ℕ) : Type 0 where
  pub some : 0 < length payload
  pub short : length payload ≤ 2 ^ 30
  pub rests : IsLogAt old file gate header payloads

-- the frame follows the closed gate, all of it on the disk
pub record IsStaged (old mid : Disk) (file : FileNo) (header : Header) (payloads : List (List ℕ)) (payload : List ℕ) : Type 0 where
  pub settled : IsSettled mid
  pub gate_byte : ℕ
  pub rest : List ℕ
  pub stands : mid.reads file ≡ (header_bytes header ++ blocks payloads) ++ gate_byte ∷ (block_body payload ++ rest)
  pub others : (other : _) → other ≢ file → mid.reads other ≡ old.reads other

module _ (old : Disk) (file : FileNo) (gate : ℕ) (header : Header) (payloads : List (List ℕ)) (payload : List ℕ) (f : IsForce old file gate header payloads payload) where
  abbrev front : List ℕ
  front = header_bytes header ++ blocks payloads

  abbrev log : IsLog header payloads (old.reads file)
  log = f.rests.stands.log

  abbrev P : Files → List ℕ → Type 0
  P = IsOneOf old file header payloads payload

  place : gate ≡ length front
  place = omega (arith, f.rests.place, length-append (header_bytes header) (blocks payloads), length-header_bytes header)

  before : (c : List ℕ) → IsLog header payloads c → IsWholeLog header payloads c
  before c is = record { in_range = f.rests.stands.in_range; log = is; whole = f.rests.stands.whole }

  after : (c : List ℕ) → IsLog header (payloads ++ payload ∷ []) c → IsWholeLog header (with_block payloads payload) c
  after c is =
      subst (λ (l : List (List ℕ)). IsWholeLog header l c) (sym (with_block-some payloads payload f.some))
      (record { in_range = f.rests.stands.in_range; log = is; whole = all_push payloads payload f.rests.stands.whole (record { some = f.some; short = f.short }) })

  pub staged : (mid : Disk) → IsSettled mid → In file (HoldsAt (gate + 1) (block_body payload)) old.reads mid.reads → IsStaged old mid file header payloads payload
  staged mid settled written =
      let holds = subst (λ (b : List ℕ). HoldsAt (gate + 1) (block_body payload) b (mid.reads file)) log.split written.changed in
      let behind = held_behind front log.gate gate log.rest place (block_body payload) (mid.reads file) holds in
      record { settled = settled; gate_byte = log.gate; rest = behind.0; stands = behind.1; others = written.others }

  pub opened_log : (mid new : Disk) → IsStaged old mid file header payloads payload → IsSettled new → In file (HoldsAt gate (1 ∷ [])) mid.reads new.reads → IsLogAt new file (gate + length (block_body payload)) header (with_block payloads payload)
  opened_log mid new is settled written =
      let holds = subst (λ (b : List ℕ). HoldsAt gate (1 ∷ []) b (new.reads file)) is.stands written.changed in
      let bytes = held_gate front is.gate_byte gate (block_body payload ++ is.rest) place 1 (new.reads file) holds in
      record {
        settled = settled;
        stands = after (new.reads file) (opened header payloads payload is.rest (new.reads file) bytes);
        place = omega (arith, f.rests.place, next_place payloads payload f.some);
      }

  -- a write after the gate leaves the payloads
  staging : (mid : Disk) (n : ℕ) → old.tells_moments → Steps (In file (Torn (gate + 1) n)) Same old mid → (c : Files) (s : List ℕ) → mid.left_since old.clock c s → P c s
  staging mid n told goes c s left =
      let from = from_reads old mid _ Same told f.rests.settled goes c s left in
      let torn = subst (λ (b : List ℕ). Torn (gate + 1) n b (c file)) log.split from.0.changed in
      let behind = torn_behind front log.gate gate log.rest place n (c file) torn in
      record {
        each_file = record {
          changed = inl (before (c file) (record { gate = log.gate; rest = behind.0; split = behind.1; closed = log.closed }));
          others = from.0.others;
        };
        nothing_said = from.1;
      }

  pub leaves_staging : (mid : Disk) (n : ℕ) → old.tells_moments → Passes old mid → Steps (In file (Torn (gate + 1) n)) Same old mid → LeavesOnly old mid P
  leaves_staging mid n told time goes = first_call old mid P told time (staging mid n told goes)

  -- the write of the gate leaves them with the new block or without
  opening : (mid new : Disk) → IsStaged old mid file header payloads payload → mid.tells_moments → mid.said ≡ old.said → Steps (In file (Torn gate 1)) Same mid new → (c : Files) (s : List ℕ) → new.left_since mid.clock c s → P c s
  opening mid new is mid_told said goes c s left =
      let from = from_reads mid new _ Same mid_told is.settled goes c s left in
      let torn = subst (λ (b : List ℕ). Torn gate 1 b (c file)) is.stands from.0.changed in
      let byte = torn_gate front is.gate_byte gate (block_body payload ++ is.rest) place (c file) torn in
      record {
        each_file = record {
          changed = ⊎_elim (λ is_before. inl (before (c file) is_before)) (λ is_after. inr (after (c file) is_after)) (either header payloads payload is.rest (c file) byte.0 byte.1);
          others = λ other is_other. from.0.others other is_other ∙ is.others other is_other;
        };
        nothing_said = from.1 ∙ said;
      }

  leaves_opening : (mid new : Disk) (n : ℕ) → old.tells_moments → Passes old mid → Steps (In file (Torn (gate + 1) n)) Same old mid → mid.said ≡ old.said
      → IsStaged old mid file header payloads payload → Passes mid new → Steps (In file (Torn gate 1)) Same mid new → LeavesOnly old new P
  leaves_opening mid new n told time goes said is time_after goes_after =
      let mid_told = time.moments_told.0 told in
      goes_on old mid new P mid_told (leaves_staging mid n told time goes) time_after (opening mid new is mid_told said goes_after)

  -- the first write is done
  pub staged_by : (mid : Disk) (bytes : List ℕ) → bytes ≡ block_body payload → (IsSettled old → IsSettled mid) → In file (HoldsAt (gate + 1) bytes) old.reads mid.reads → IsStaged old mid file header payloads payload
  staged_by mid bytes is settles written =
      staged mid (settles f.rests.settled) (subst (λ (b : List ℕ). In file (HoldsAt (gate + 1) b) old.reads mid.reads) is written)

-- any change of one file, then any other
pub any_twice : (file : FileNo) (a b c : Files) → In file Any a b → In file Any b c → In file Any a c
any_twice file a b c x y = record { changed = tt; others = λ other is_other. y.others other is_other ∙ x.others other is_other }

pub any_change : (file : FileNo) (old new : Disk) (change : List ℕ → List ℕ → Type 0) → Runs (In file change) Same old new → Runs (In file Any) Same old new
any_change file old new change run = runs_wider old new (In file change) (In file Any) (λ a b is. record { changed = tt; others = is.others }) run

-- two changes of one file
pub changed_twice : (old mid new : Disk) (file : FileNo) (one two : List ℕ → List ℕ → Type 0) → Runs (In file one) Same old mid → Runs (In file two) Same mid new → Runs (In file Any) Same old new
changed_twice old mid new file one two first second = runs_twice old mid new (In file Any) (any_twice file) (any_change file old mid one first) (any_change file mid new two second)

-- the frame is written and kept; whether the gate is opened or not, a crash leaves the payloads with the new one or without
pub block_moments : (old mid new : Disk) (file : FileNo) (gate : ℕ) (bytes : List ℕ) → Runs (In file (Torn (gate + 1) (length bytes))) Same old mid
    → (old.tells_files → In file (HoldsAt (gate + 1) bytes) old.reads mid.reads) → (IsSettled old → IsSettled mid) → Runs (In file (Torn gate 1)) Same mid new
    → old.tells_moments → (header : Header) (payloads : List (List ℕ)) (payload : List ℕ) → 0 < length payload → length payload ≤ 2 ^ 30 → bytes ≡ block_body payload → IsLogAt old file gate header payloads
    → LeavesOnly old new (IsOneOf old file header payloads payload)
block_moments old mid new file gate bytes first written settles second told header payloads payload some short is rests =
    let f : IsForce old file gate header payloads payload = record { some = some; short = short; rests = rests } in
    let files_told = first.begins.telling told in
    let is_staged = staged_by old file gate header payloads payload f mid bytes is settles (written files_told) in
    leaves_opening old file gate header payloads payload f mid new (length bytes) told first.time first.crash (first.said files_told) is_staged second.time second.crash

-- what the writing of a block leaves is what a force leaves
pub force_moments : (old new : Disk) (inside seen : LogView) (bytes : List ℕ) → inside ≡ seen → bytes ≡ block_body inside.pending → 0 < length inside.pending → length inside.pending ≤ 2 ^ 30
    → ((header : Header) (payloads : List (List ℕ)) (payload : List ℕ) → 0 < length payload → length payload ≤ 2 ^ 30 → bytes ≡ block_body payload → IsLogAt old inside.active inside.end header payloads
    → LeavesOnly old new (IsOneOf old inside.active header payloads payload))
    → (payloads : List (List ℕ)) → IsAtRest old seen payloads → LeavesOnly old new (IsBeforeOrAfter old seen payloads)
force_moments old new inside seen bytes same sealed some short moments =
    subst (λ (v : LogView). (payloads : List (List ℕ)) → IsAtRest old v payloads → LeavesOnly old new (IsBeforeOrAfter old v payloads)) same
    (λ payloads rests. moments inside.header payloads inside.pending some short sealed rests)
