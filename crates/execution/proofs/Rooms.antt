-- The room that is made in memory for a record that is followed.
use Rattle.std.proofs.Common.{◌≡◌, ◌∙◌, sym, ap, ℕ, ◌+◌, ◌<◌, ◌≤◌, List, [], append-nil, length, refl, arith, inl, inr}
use Rattle.std.specs.Prelude.{◌^◌, nat_lt, if◌then◌else◌}
use Rattle.std.proofs.lemmas.Bool.{cases_Bool, cond-true, cond-false, le-ltb, lt-ltb}
use Rattle.disk_model.specs.Disk.{Disk, IsDisk}
use Rattle.oper_core.specs.Meaning.{Meaning}
use Rattle.oper_core.specs.declared.bounds.Bounds.{Bounds}
use Rattle.formats.specs.Limits.{block_limit, log_limit}
use Rattle.formats.specs.declared.params.Params.{Params}
use Rattle.log_blocks.specs.LogView.{used_of, growth_of}
use Rattle.log_records.specs.RecordLog.{RecordLogView}
use Rattle.explain_core.specs.World.{Step, World}
use Rattle.running_store.specs.Courses.Buffered.{room_force, room_none}
use Rattle.running_store.specs.Courses.{Course, course, force_course, force_steps, room_steps}
use Rattle.running_store.specs.Courses.Stop.{Through, Full}
use Rattle.running_store.specs.Steps.Forced.{IsForced}
use Rattle.running_store.specs.Courses.Growth.{growth_some}
use Rattle.running_store.specs.Calls.Logged.{HasPlace}
use Rattle.running_store.specs.Parts.{Parts, Shows, meaning_in}
use Rattle.running_store.specs.Taking.{Ending, Takes}
use Rattle.running_store.specs.Taking.Ending.{Done, Stopped}
use Rattle.running_store.specs.Taking.Laws.{takes_none, takes_same, takes_stop}
use Rattle.running_store.specs.Steps.Written.{room_is_place}
use Rattle.execution.specs.Following.{grown_by, room_course}
use Rattle.execution.proofs.Roomed.{fits_is, grown_shown, over_is}

-- by so much a record of n bytes lets the log grow
abbrev growth : RecordLogView → ℕ → ℕ
growth log n = if nat_lt block_limit (length log.log.pending + n) then n + 5 else growth_of log.log.pending n

-- by some
pub some_growth : (log : RecordLogView) (n need : ℕ) → 0 < n → need ≡ growth log n → 0 < need
some_growth log n need some is = elim (cases_Bool (nat_lt block_limit (length log.log.pending + n))) [
  | inl over ↦ omega (arith, is, cond-true (nat_lt block_limit (length log.log.pending + n)) (n + 5) (growth_of log.log.pending n) over)
  | inr short ↦ omega (arith, is, cond-false (nat_lt block_limit (length log.log.pending + n)) (n + 5) (growth_of log.log.pending n) short, growth_some log.log.pending n some)
]

module _ (log : RecordLogView) (n need : ℕ) (is : need ≡ growth log n) (fits : used_of log.log + need ≤ log_limit) where
  -- the block that waits has room
  pub place_here : length log.log.pending + n ≤ 2 ^ 30 → HasPlace log.log n
  place_here short =
      let same : need ≡ growth_of log.log.pending n = is ∙ cond-false (nat_lt block_limit (length log.log.pending + n)) _ _ (le-ltb block_limit (length log.log.pending + n) short) in
      room_is_place log.log n n refl short (omega (arith, fits, same))

  -- or another begins
  pub place_forced : (after : RecordLogView) → n ≤ 2 ^ 30 → 2 ^ 30 < length log.log.pending + n → IsForced log after → HasPlace after.log n
  place_forced after low over forced =
      let same : need ≡ n + 5 = is ∙ cond-true (nat_lt block_limit (length log.log.pending + n)) _ _ (lt-ltb block_limit (length log.log.pending + n) over) in
      let none : after.log.pending ≡ [] = ap (λ (r : RecordLogView). r.log.pending) forced in
      let used : used_of after.log ≡ used_of log.log = ap (λ (r : RecordLogView). used_of r.log) forced in
      let grows : growth_of after.log.pending n ≡ n + 5 = ap (λ (l : List ℕ). growth_of l n) none in
      room_is_place after.log n n refl (omega (arith, ap length none, low)) (omega (arith, fits, same, used, grows))

module _ {O : Type 0} (meaning : Bounds → Meaning O) (d : Disk) (it : Parts) (n need : ℕ) (is : need ≡ growth it.log n) where
  abbrev room : Meaning O → World O → ℕ → Course O
  room m w used = room_course m n w used

  abbrev used : ℕ
  used = used_of it.log.log

  need_is : (p : Params) (w : World O) → Shows (meaning_in meaning p) p d it w → need ≡ grown_by (meaning_in meaning p) w n
  need_is p w shows = is ∙ grown_shown (meaning_in meaning p) w d it.log n shows.log

  -- the log has none
  pub full_room : IsDisk d → log_limit < used + need → (held limit : ℕ) → held ≡ used → limit ≡ log_limit → Takes meaning d d it it room (Stopped (Full held need limit))
  full_room lawful over held limit holds most = takes_same meaning d d it it (λ m w u. course [] u (Full held need limit)) room (Stopped (Full held need limit))
      (λ p w shows.
      let m = meaning_in meaning p in
      let needs = need_is p w shows in
      (λ i. course [] used (Full (holds i) (needs i) (most i))) ∙ sym (over_is m w n [] 0 used (omega (arith, over, needs))))
      (takes_stop meaning d d it it (λ m w. []) (Full held need limit) (takes_none meaning d it lawful))

  module _ (fits : used + need ≤ log_limit) where
    room_is : (p : Params) (w : World O) → Shows (meaning_in meaning p) p d it w → (steps : List (Step O)) → room_steps (meaning_in meaning p) w n ≡ steps → course steps used Through ≡ room (meaning_in meaning p) w used
    room_is p w shows steps same =
        let m = meaning_in meaning p in
        let needs = need_is p w shows in
        let zero : used + 0 ≡ used = omega arith in
        sym (fits_is m w n [] 0 used (omega (arith, fits, needs)) ∙ (λ i. course ((append-nil (room_steps m w n) ∙ same) i) (zero i) Through))

    -- the block has some
    pub none_room : IsDisk d → length it.log.log.pending + n ≤ 2 ^ 30 → Takes meaning d d it it room Done
    none_room lawful short = takes_same meaning d d it it (λ m w u. course [] u Through) room Done
        (λ p w shows. room_is p w shows [] (room_none (meaning_in meaning p) d it.log w n shows.log short)) (takes_none meaning d it lawful)

    -- it has none, and is forced
    pub forced_room : (new : Disk) (after : Parts) (ending : Ending) → 2 ^ 30 < length it.log.log.pending + n → Takes meaning d new it after (λ m w u. force_course m w u) ending → Takes meaning d new it after room ending
    forced_room new after ending over takes = takes_same meaning d new it after (λ m w u. force_course m w u) room ending
        (λ p w shows. let m = meaning_in meaning p in room_is p w shows (force_steps m w) (room_force m d it.log w n shows.log over)) takes
