-- A checkpoint goes into the log where it has a place, once there is room for it; else nothing is done.
use Rattle.std.proofs.Common.{◌≡◌, ◌∙◌, sym, subst, ap, ℕ, ◌+◌, ◌*◌, ◌<◌, ◌≤◌, List, [], ◌∷◌, length, arith, ⊎_elim}
use Rattle.std.specs.Prelude.{nat_lt}
use Rattle.std.proofs.lemmas.Bool.{lt-ltb, le-ltb, cond-true, cond-false, or_right}
use Rattle.disk_model.specs.Disk.{Disk, IsDisk}
use Rattle.disk_model.specs.declared.machine.FileNo.TheVariants.{Objects}
use Rattle.oper_core.specs.Meaning.{Meaning}
use Rattle.oper_core.specs.declared.bounds.Bounds.{Bounds}
use Rattle.dirty_page_table.specs.declared.table.DirtyPageTable.{DirtyPageTable}
use Rattle.formats.specs.declared.params.Params.{Params}
use Rattle.log_blocks.specs.LogView.{used_of, growth_of}
use Rattle.log_records.specs.RecordLog.{RecordLogView}
use Rattle.explain_core.specs.World.{World, Step, step, run, table_now}
use Rattle.explain_core.specs.World.Step.{Block_gate, Checkpoint}
use Rattle.running_store.specs.Steps.Appended.{next_lsn}
use Rattle.running_store.specs.Calls.{IsForcedOrNot}
use Rattle.running_store.specs.Calls.Checkpoints.{IsCheckpointHere, checkpoint_long}
use Rattle.running_store.specs.Courses.{Course, and_then, course, force_course, force_steps, grown, room_steps, waits}
use Rattle.running_store.specs.Courses.Stop.{Through, Full}
use Rattle.running_store.specs.Steps.Finished.{IsQuiet}
use Rattle.running_store.specs.Courses.Growth.{growth_shown}
use Rattle.formats.specs.Limits.{log_limit}
use Rattle.running_store.specs.Parts.{Parts, Shows, ShowsVolatile, Volatile, meaning_in}
use Rattle.running_store.specs.Calls.Rewrites.{checkpoint_length}
use Rattle.running_store.specs.StoreView.{StoreView}
use Rattle.running_store.specs.Taking.{Ending, Takes}
use Rattle.running_store.specs.Taking.Ending.{Done, Stopped}
use Rattle.running_store.specs.Taking.Laws.{takes_both, takes_none, takes_same, takes_stop}
use Rattle.checkpointing.specs.Checkpoints.{IsTableNow, IsTakenBy, IsTakenNow}
use Rattle.checkpointing.specs.Courses.{logged_course}

-- once a checkpoint is taken, something waits
gate_alone : {O : Type 0} (m : Meaning O) (w : World O) → force_steps m (run m w (Checkpoint ∷ [])) ≡ Block_gate ∷ []
unfolding run step
gate_alone m w =
    cond-true (waits m (run m w (Checkpoint ∷ []))) (Block_gate ∷ []) []
    (or_right (nat_lt w.forced (length w.history)) (nat_lt 0 (length (table_now m w ∷ w.pending))) (lt-ltb 0 (length (table_now m w ∷ w.pending)) (omega arith)))

-- room is made for a checkpoint taken now
abbrev pub room_course : {O : Type 0} → Meaning O → World O → ℕ → Course O
room_course m w used = course (room_steps m w (checkpoint_length m w)) used Through

module _ {O : Type 0} (meaning : Bounds → Meaning O) (d : Disk) (before : Parts) (table : DirtyPageTable) (checkpoint : IsCheckpointHere (meaning before.log.bounds) before.log table) (now : IsTableNow meaning d before table) where
  abbrev bytes : ℕ
  bytes = 13 + 12 * length table.starts

  abbrev used : ℕ
  used = used_of before.log.log

  -- so many bytes has the checkpoint of the course
  length_is : (p : Params) (w : World O) → Shows (meaning_in meaning p) p d before w → bytes ≡ checkpoint_length (meaning_in meaning p) w
  length_is p w shows = checkpoint_long (meaning_in meaning p) before.log w table (subst (λ (b : Bounds). IsCheckpointHere (meaning b) before.log table) shows.bounds checkpoint) (now p w shows)

  grows : (p : Params) (w : World O) → Shows (meaning_in meaning p) p d before w → used + growth_of before.log.log.pending bytes ≡ grown (meaning_in meaning p) w used (checkpoint_length (meaning_in meaning p) w)
  grows p w shows =
      let m = meaning_in meaning p in
      ap (λ (k : ℕ). used + growth_of before.log.log.pending k) (length_is p w shows) ∙ growth_shown m d before.log w (checkpoint_length m w) shows.log

  -- room is made for it
  pub takes_room : (n : ℕ) → n ≡ bytes → (new : Disk) (after : Parts) (ending : Ending) → Takes meaning d new before after (λ m w used. course (room_steps m w n) used Through) ending → Takes meaning d new before after (λ m w used. room_course m w used) ending
  takes_room n same new after ending takes =
      takes_same meaning d new before after (λ m w used. course (room_steps m w n) used Through) (λ m w used. room_course m w used) ending
      (λ p w shows. ap (λ (k : ℕ). course (room_steps (meaning_in meaning p) w k) used Through) (same ∙ length_is p w shows)) takes

  -- it has no place
  pub takes_full : IsDisk d → (len need : ℕ) → len ≡ used → need ≡ bytes + 5 → log_limit < used + growth_of before.log.log.pending bytes → Takes meaning d d before before (λ m w used. logged_course m w used) (Stopped (Full len need log_limit))
  takes_full lawful len need same is over =
      takes_same meaning d d before before (λ m w used. course [] used (Full len need log_limit)) (λ m w used. logged_course m w used) (Stopped (Full len need log_limit))
      (λ p w shows.
      let m = meaning_in meaning p in
      let more = is ∙ ap (λ (k : ℕ). k + 5) (length_is p w shows) in
      (λ i. course [] used (Full (same i) (more i) log_limit))
      ∙ sym (cond-true (nat_lt log_limit (grown m w used (checkpoint_length m w))) _ _ (lt-ltb log_limit (grown m w used (checkpoint_length m w)) (omega (arith, over, grows p w shows)))))
      (takes_stop meaning d d before before (λ m w. []) (Full len need log_limit) (takes_none meaning d before lawful))

  -- it is appended, and forced
  pub takes_logged : (new : Disk) (here after : Parts) (ending : Ending) → IsQuiet d d → used + growth_of before.log.log.pending bytes ≤ log_limit
      → Takes meaning d d before here (λ m w used. course (Checkpoint ∷ []) (grown m w used (checkpoint_length m w)) Through) Done → Takes meaning d new here after (λ m w used. force_course m w used) ending
      → Takes meaning d new before after (λ m w used. logged_course m w used) ending
  takes_logged new here after ending quiet fits first second =
      takes_same meaning d new before after (λ m w used. and_then m w (course (Checkpoint ∷ []) (grown m w used (checkpoint_length m w)) Through) (λ v used. force_course m v used)) (λ m w used. logged_course m w used) ending
      (λ p w shows.
      let m = meaning_in meaning p in
      let long = grown m w used (checkpoint_length m w) in
      ap (λ (l : List (Step O)). course (Checkpoint ∷ l) long Through) (gate_alone m w) ∙ sym (cond-false (nat_lt log_limit long) _ _ (le-ltb log_limit long (omega (arith, fits, grows p w shows)))))
      (takes_both meaning (λ m w used. course (Checkpoint ∷ []) (grown m w used (checkpoint_length m w)) Through) (λ m w used. force_course m w used) d d new before here after ending quiet first second)

module _ {O : Type 0} (meaning : Bounds → Meaning O) (table : DirtyPageTable) where
  -- the world that is shown takes the checkpoint now
  pub taken_here : (d : Disk) (it : Parts) → IsTakenBy meaning it table → (p : Params) (w : World O) → Shows (meaning_in meaning p) p d it w → IsTakenNow (meaning_in meaning p) w it.volatile.entries table
  taken_here d it so p w shows = so p (d.reads Objects) w shows.running.sound shows.store (next_lsn (meaning_in meaning p) p d it w shows) shows.log.base

  pub now_here : (d : Disk) (it : Parts) → IsTakenBy meaning it table → IsTableNow meaning d it table
  now_here d it so p w shows = (taken_here d it so p w shows).now

  -- room for the block that waits changes neither whether a checkpoint is right in its place nor which worlds take it now
  module _ (before after : StoreView) (room : IsForcedOrNot before after) where
    pub here_roomed : IsCheckpointHere (meaning before.parts.log.bounds) before.parts.log table → IsCheckpointHere (meaning after.parts.log.bounds) after.parts.log table
    here_roomed here =
        let P : RecordLogView → Type 0 = λ r. IsCheckpointHere (meaning r.bounds) r table in
        ⊎_elim (λ same. subst P (sym same) here) (λ forced. subst P (sym forced) (record { placed = here.placed; grammar = here.grammar; few = here.few; ahead = here.ahead; bytes = here.bytes })) room.log

    pub taken_roomed : IsTakenBy meaning before.parts table → IsTakenBy meaning after.parts table
    taken_roomed so p file w sound shows lsn base =
        let store = ap (λ (s : StoreView). s.parts.volatile) room.same in
        let header = ⊎_elim (λ same. ap (λ (l : RecordLogView). l.log.header.base) same) (λ forced. ap (λ (l : RecordLogView). l.log.header.base) forced) room.log in
        subst (λ (s : Volatile). IsTakenNow (meaning_in meaning p) w s.entries table) (sym store)
        (so p file w sound (subst (λ (s : Volatile). ShowsVolatile (meaning_in meaning p) p file s w) store shows) (sym room.long.next ∙ lsn) (sym header ∙ base))
