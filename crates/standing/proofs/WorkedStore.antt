-- The worked store: its steps are allowed, its bytes meet their format, and they show the world after the steps.
use Rattle.std.proofs.Common.{◌≡◌, ◌∙◌, ◌<◌, ◌≤◌, ◌+◌, sym, subst, ap, ℕ, zero, suc, List, [], ◌∷◌, ◌++◌, length, map, drop, refl, arith, inl, inr, length-append}
use Rattle.std.specs.Prelude.{Bool, false, ◌||◌, ◌==◌, nat_lt, All}
use Rattle.std.proofs.Math.Path.{fun_ext}
use Rattle.std.proofs.lemmas.List.Elements.{All-nil, All-cons}
use Rattle.std.proofs.lemmas.Bool.{ne_eqb, le-ltb, cond-false}
use Rattle.dirty_page_table.specs.Codec.{IsTable, FitsStart, table_code}
use Rattle.dirty_page_table.specs.declared.table.DirtyPageTable.{DirtyPageTable}
use Rattle.disk_model.specs.Disk.{Files}
use Rattle.disk_model.specs.declared.machine.FileNo.{FileNo}
use Rattle.disk_model.specs.declared.machine.FileNo.TheVariants.{Objects, LogA, LogB}
use Rattle.oper_core.specs.Cell.{Cell}
use Rattle.oper_core.specs.Meaning.{IsLawful, IsSmall}
use Rattle.formats.specs.Bytes.{IsOpenAt}
use Rattle.formats.specs.InForce.{HasHeader, IsInForce}
use Rattle.formats.specs.Log.{Header, IsHeader, IsPayload, new_header, header_bytes, blocks}
use Rattle.formats.specs.Objects.{IsObjectsFile, form_in, IsWholeSlot, bounds_of, slot_place, lsn_at, length_at, cell_of}
use Rattle.formats.specs.declared.layout.Layout.{Layout}
use Rattle.formats.specs.Records.{IsCheckpointAt, IsRecordLog, payload_of}
use Rattle.formats.specs.declared.record.Record.{Record}
use Rattle.formats.specs.declared.record.Record.TheVariants.{Command as Logged_command, Identity as Logged_identity, Checkpoint as Logged_checkpoint}
use Rattle.install_order.specs.Checks.{is_minimal-gives, flushes_only-gives}
use Rattle.install_order.specs.Computed.{IsWithin}
use Rattle.install_order.specs.ListLaws.{all-gives}
use Rattle.install_order.specs.NodeLaws.{flushed-iff}
use Rattle.explain_core.specs.ByteOps.{byte_lawful}
use Rattle.explain_core.specs.GraphLaws.{graph-within}
use Rattle.explain_core.specs.RunLaws.{allowed-append}
use Rattle.explain_core.specs.Sound.{IsSound}
use Rattle.explain_core.specs.Stable.{Stable, stable_of}
use Rattle.explain_core.specs.World.{Step, step, run, AreAllowed, IsInstallable, new_world, graph_access, work_of, end_of, table_now}
use Rattle.explain_core.specs.World.Step.{Append, Block_gate, Checkpoint, Slot_gate, Removal}
use Rattle.explain_core.specs.History.Member.{Command, Identity}
use Rattle.explain_core.specs.declared.byte_op.ByteOp.{ByteOp}
use Rattle.explain_core.specs.declared.byte_op.ByteOp.TheVariants.{Put}
use Rattle.standing.specs.Members.{table_of}
use Rattle.standing.specs.Standing.{HoldsStable, FilesShow, stored}
use Rattle.standing.specs.Worked.{small, small_meaning, put_node, put_installed, small_steps, after_steps, small_objects, right_checkpoint, skipping_checkpoint, log_with, files_with, rewritten_files}

pub small_bounds : IsSmall (bounds_of small)
small_bounds = record { objects = omega arith; cap = omega arith }

pub small_lawful : IsLawful small_meaning
small_lawful = byte_lawful (bounds_of small) small_bounds

-- each allowed run leads to a sound world
abbrev pub AllSound : Type 0
AllSound = (steps : List (Step ByteOp)) → AreAllowed small_meaning (new_world ByteOp) steps → IsSound small_meaning (after_steps steps)

-- the first steps
abbrev logged : List (Step ByteOp)
logged = Append (Command (Put 0 170)) ∷ Append (Identity 1 []) ∷ Block_gate ∷ []

abbrev flushed : List (Step ByteOp)
flushed = logged ++ Slot_gate put_node 0 ∷ []

logged-allowed : AreAllowed small_meaning (new_world ByteOp) logged
unfolding step run
logged-allowed = ((omega arith, refl), ((omega arith, (omega arith, refl, refl)), ((omega arith, refl), tt)))

module _ (sound : AllSound) where
  within : (steps : List (Step ByteOp)) → AreAllowed small_meaning (new_world ByteOp) steps → IsWithin (graph_access small_meaning (after_steps steps)) 2 (end_of (after_steps steps))
  within steps may = graph-within small_meaning small_lawful (after_steps steps) (sound steps may)

  logged-ready : IsInstallable small_meaning (after_steps logged) put_node
  unfolding step run
  logged-ready = (
    (λ n there. all-gives (after_steps logged).graph (1 ∷ []) n refl there),
    is_minimal-gives (graph_access small_meaning (after_steps logged)) 2 3 (1 ∷ []) (within logged logged-allowed) refl,
    (refl, refl),
  )

  logged-work : work_of small_meaning (after_steps logged) put_node 0
  unfolding step run
  logged-work = (
    (flushed-iff (graph_access small_meaning (after_steps logged)) 2 3 put_node 0 (within logged logged-allowed)).0 refl,
    λ e. absurd (omega (arith, e)),
  )

  flushed-allowed : AreAllowed small_meaning (new_world ByteOp) flushed
  unfolding step run
  flushed-allowed = allowed-append small_meaning (new_world ByteOp) logged (Slot_gate put_node 0 ∷ []) logged-allowed (
    (logged-ready, logged-work, λ y work. flushes_only-gives (graph_access small_meaning (after_steps logged)) 2 3 put_node 0 (within logged logged-allowed) refl y work.0),
    tt,
  )

  flushed-ready : IsInstallable small_meaning (after_steps flushed) put_node
  unfolding step run
  flushed-ready = (
    (λ n there. all-gives (after_steps flushed).graph (1 ∷ []) n refl there),
    is_minimal-gives (graph_access small_meaning (after_steps flushed)) 2 3 (1 ∷ []) (within flushed flushed-allowed) refl,
    (refl, refl),
  )

  pub small-allowed : AreAllowed small_meaning (new_world ByteOp) small_steps
  unfolding step run
  small-allowed = allowed-append small_meaning (new_world ByteOp) flushed (Removal put_node ∷ Checkpoint ∷ Block_gate ∷ []) flushed-allowed (
    (
      flushed-ready,
      λ y work.
          let q : y ≡ 0 = flushes_only-gives (graph_access small_meaning (after_steps flushed)) 2 3 put_node 0 (within flushed flushed-allowed) refl y work.0 in
          work.1 (subst (λ (y : ℕ). ((after_steps flushed).slots y).lsn ≡ ((after_steps flushed).cache y).lsn) (sym q) refl),
    ),
    ((omega arith, refl), ((omega arith, refl), tt)),
  )

-- where its slots stand
abbrev small_layout : Layout
small_layout = record { params = small; first = 32 }

-- the one open slot is whole
slot_whole : (x s : ℕ) → x < 2 → s < 2 → IsOpenAt (slot_place small_layout x s) small_objects → IsWholeSlot 16 (slot_place small_layout x s) small_objects
slot_whole zero zero below two is_open =
    let lsn : lsn_at 32 small_objects ≡ 1 = refl in
    let long : length_at 32 small_objects ≡ 1 = refl in
    record { some = omega (arith, lsn); is_lsn = omega (arith, lsn); short = omega (arith, long); within = λ some. omega (arith, long) }
slot_whole zero (suc zero) below two is_open = absurd (omega (arith, is_open))
slot_whole (suc zero) zero below two is_open = absurd (omega (arith, is_open))
slot_whole (suc zero) (suc zero) below two is_open = absurd (omega (arith, is_open))
slot_whole (suc (suc x)) s below two is_open = absurd (omega (arith, below))
slot_whole x (suc (suc s)) below two is_open = absurd (omega (arith, two))

second_closed : (x : ℕ) → x < 2 → IsOpenAt (slot_place small_layout x 1) small_objects → ⊥
second_closed zero below is_open = omega (arith, is_open)
second_closed (suc zero) below is_open = omega (arith, is_open)
second_closed (suc (suc x)) below is_open = omega (arith, below)

pub small_whole : IsObjectsFile small small_objects
unfolding form_in
small_whole = record {
  begins = refl;
  params = refl;
  in_range = record { some = omega arith; objects = omega arith; low = omega arith; cap = omega arith; least = omega arith; limit = omega arith };
  in_form = record { older_objects = omega arith; older_cap = omega arith; no_fewer = omega arith; objects = omega arith; no_shorter = omega arith; cap = omega arith; more = λ set. set };
  whole = omega arith;
  slots = record { each = slot_whole; apart = λ x below first second. absurd (second_closed x below second) };
}

-- an object without bytes, that no record wrote
abbrev empty : Cell
empty = record { lsn = 0; value = [] }

-- the slots are those of the world
cells : (x : ℕ) → stored small small_objects x ≡ (after_steps small_steps).slots x
unfolding step run form_in
cells zero = refl
cells (suc zero) = refl
cells (suc (suc x)) =
    let y = suc (suc x) in
    cond-false (nat_lt y 2) (cell_of y small_objects) empty (le-ltb y 2 (omega arith))
    ∙ sym (cond-false (y == 0) ((after_steps logged).cache 0) empty (ne_eqb y 0 (λ e. omega (arith, e))))

-- the records of a log with this checkpoint
abbrev pub small_groups : DirtyPageTable → List (List (Record ByteOp))
small_groups table = (Logged_command 1 (Put 0 170) ∷ Logged_identity 2 1 [] ∷ []) ∷ (Logged_checkpoint table ∷ []) ∷ []

payloads_whole : (table : DirtyPageTable) → length (table_code table) < 30 → All IsPayload (map (payload_of small_meaning) (small_groups table))
payloads_whole table short =
    let checkpoint = payload_of small_meaning (Logged_checkpoint table ∷ []) in
    let long : length checkpoint ≡ 1 + length (table_code table) = omega (arith, length-append (table_code table) []) in
    All-cons IsPayload (payload_of small_meaning (Logged_command 1 (Put 0 170) ∷ Logged_identity 2 1 [] ∷ [])) (checkpoint ∷ []) (record { some = omega arith; short = omega arith })
    (All-cons IsPayload checkpoint [] (record { some = omega (arith, long); short = omega (arith, short, long) }) (All-nil IsPayload))

-- and what is stable beside it
abbrev pub parts_with : DirtyPageTable → Stable ByteOp
parts_with table = record {
  slots = stored small small_objects;
  tables = table_of table ∷ [];
  base = 1;
  commands_before = 0;
  records = Command (Put 0 170) ∷ Identity 1 [] ∷ [];
}

-- the header of a log with this epoch
abbrev pub header_with : ℕ → Header
header_with epoch = record { epoch = epoch; base = 1; commands = 0 }

-- the bytes of a log with this epoch and this checkpoint
abbrev pub log_bytes : ℕ → DirtyPageTable → List ℕ
log_bytes epoch table = (header_bytes (header_with epoch) ++ blocks (map (payload_of small_meaning) (small_groups table))) ++ 0 ∷ []

pub is_log : (epoch : ℕ) (table : DirtyPageTable) (file : List ℕ) → 1 ≤ epoch → epoch < 256 → IsTable table → IsCheckpointAt small_meaning 1 3 table → length (table_code table) < 30
    → file ≡ log_bytes epoch table → IsRecordLog small_meaning (header_with epoch) (small_groups table) file
is_log epoch table file some few is at short split = record {
  log = record {
    in_range = record { epoch_low = some; epoch_high = omega (arith, few); base_low = omega arith; base_high = omega arith; commands = omega arith };
    log = record { gate = 0; rest = []; split = split; closed = λ e. absurd (omega (arith, e)) };
    whole = payloads_whole table short;
  };
  placed = ((omega arith, refl), (refl, omega arith), ((omega arith, omega arith, omega arith), (refl, omega arith), (is, at, tt)));
}

-- files with such a log in force, beside these objects, hold these parts
pub holds_parts : (active : FileNo) (epoch : ℕ) (table : DirtyPageTable) (files : Files) → files Objects ≡ small_objects → IsInForce active epoch files
    → IsRecordLog small_meaning (header_with epoch) (small_groups table) (files active) → HoldsStable small_meaning small files (parts_with table)
holds_parts active epoch table files objects in_force log = record {
  objects = subst (IsObjectsFile small) (sym objects) small_whole;
  cells = λ x. ap (λ (file : List ℕ). stored small file x) objects;
  active = active;
  header = header_with epoch;
  groups = small_groups table;
  log = record { in_force = in_force; log = log };
  base = refl;
  commands_before = refl;
  members = refl;
  tables = refl;
}

-- the first log is in force beside a closed gate
pub first_in_force : (checkpoint : List ℕ) → IsInForce LogA 1 (files_with checkpoint)
first_in_force checkpoint = record { a_log = λ e. cc; other = inl (λ e. absurd (omega (arith, e))) }

-- the checkpoint that the store took
abbrev pub right_table : DirtyPageTable
right_table = record { next = 3; starts = (1, 2) ∷ [] }

right_log : (epoch : ℕ) (file : List ℕ) → 1 ≤ epoch → epoch < 256 → file ≡ log_bytes epoch right_table → IsRecordLog small_meaning (header_with epoch) (small_groups right_table) file
right_log epoch file some few split =
    is_log epoch right_table file some few
    (record { next = omega arith; few = omega arith; starts = All-cons FitsStart (1, 2) [] (omega arith, omega arith) (All-nil FitsStart) })
    (record {
      next_is = refl;
      rising = λ k within. absurd (omega (arith, within));
      there = All-cons (λ (s : ℕ × ℕ). s.0 < 2) (1, 2) [] (omega arith) (All-nil (λ (s : ℕ × ℕ). s.0 < 2));
      from_base = All-cons (λ (s : ℕ × ℕ). 1 ≤ s.1) (1, 2) [] (omega arith) (All-nil (λ (s : ℕ × ℕ). 1 ≤ s.1));
      before = All-cons (λ (s : ℕ × ℕ). s.1 < 3) (1, 2) [] (omega arith) (All-nil (λ (s : ℕ × ℕ). s.1 < 3));
    })
    (omega arith) split

right_holds : HoldsStable small_meaning small (files_with right_checkpoint) (parts_with right_table)
right_holds = holds_parts LogA 1 right_table (files_with right_checkpoint) refl (first_in_force right_checkpoint) (right_log 1 (files_with right_checkpoint LogA) (omega arith) (omega arith) refl)

-- a smaller epoch makes a log passive, whatever follows its header
rewritten_holds : HoldsStable small_meaning small rewritten_files (parts_with right_table)
rewritten_holds =
    let range : IsHeader new_header = record { epoch_low = omega arith; epoch_high = omega arith; base_low = omega arith; base_high = omega arith; commands = omega arith } in
    let older : HasHeader new_header (log_with 1 skipping_checkpoint) = record { in_range = range; gate = 1; rest = drop 34 (log_with 1 skipping_checkpoint); split = refl } in
    holds_parts LogB 2 right_table rewritten_files refl (record { a_log = λ e. cc; other = inr (new_header, older, omega arith) }) (right_log 2 (rewritten_files LogB) (omega arith) (omega arith) refl)

-- its redo starts are those of the world
redo_starts : (x : ℕ) → (table_of right_table).redo_from x ≡ (table_now small_meaning (after_steps put_installed)).redo_from x
unfolding step run
redo_starts zero = refl
redo_starts (suc zero) = refl
redo_starts (suc (suc x)) =
    let y = suc (suc x) in
    let other : (y == 1) ≡ false = ne_eqb y 1 (λ e. omega (arith, e)) in
    cond-false (y == 1) 2 3 other ∙ sym (cond-false ((y == 1) || false) 2 3 (ap (λ (b : Bool). b || false) other))

small_stable : parts_with right_table ≡ stable_of (after_steps small_steps)
unfolding step run
small_stable i = record {
  slots = fun_ext cells i;
  tables = record { redo_from = fun_ext redo_starts i; next = 3 } ∷ [];
  base = 1;
  commands_before = 0;
  records = Command (Put 0 170) ∷ Identity 1 [] ∷ [];
}

pub small_shown : FilesShow small_meaning small (files_with right_checkpoint) (after_steps small_steps)
small_shown = subst (λ (parts : Stable ByteOp). HoldsStable small_meaning small (files_with right_checkpoint) parts) small_stable right_holds

pub rewritten_shown : FilesShow small_meaning small rewritten_files (after_steps small_steps)
rewritten_shown = subst (λ (parts : Stable ByteOp). HoldsStable small_meaning small rewritten_files parts) small_stable rewritten_holds
