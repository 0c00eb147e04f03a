-- Room is made for a record that is followed, and it goes in: the course, and by how much the log grows.
use Rattle.std.proofs.Common.{◌≡◌, ◌∙◌, sym, subst, ap, ℕ, ◌+◌, ◌<◌, ◌≤◌, Bool, true, false, List, [], ◌∷◌, ◌++◌, append-nil, length, arith, inl, inr}
use Rattle.std.specs.Prelude.{nat_lt, ◌||◌, if◌then◌else◌}
use Rattle.std.proofs.lemmas.Bool.{cases_Bool, cases_lt, cond-true, cond-false, le-ltb, lt-ltb}
use Rattle.disk_model.specs.Disk.{Disk}
use Rattle.oper_core.specs.Meaning.{Meaning}
use Rattle.formats.specs.Limits.{block_limit, log_limit}
use Rattle.log_blocks.specs.LogView.{growth_of}
use Rattle.log_records.specs.RecordLog.{RecordLogView}
use Rattle.explain_core.specs.TurnLaws.{run_none}
use Rattle.explain_core.specs.World.{World, Step, step, run}
use Rattle.explain_core.specs.World.Step.{Block_gate}
use Rattle.running_store.specs.Courses.Buffered.{buffered_shown}
use Rattle.running_store.specs.Courses.{Course, and_then, buffered, course, force_steps, grown, room_steps, waits}
use Rattle.running_store.specs.Courses.Stop.{Through, Full}
use Rattle.running_store.specs.Courses.Growth.{growth_shown}
use Rattle.running_store.specs.Parts.{ShowsLog}
use Rattle.execution.specs.Courses.{needed}
use Rattle.execution.specs.Following.{grown_by, room_course, roomed_course}

module _ {O : Type 0} (m : Meaning O) (w : World O) where
  -- nothing waits after a force; what is cached stays, and so does the history
  after_force : (waits m (run m w (force_steps m w)) ≡ false) × ((run m w (force_steps m w)).cache ≡ w.cache) × ((run m w (force_steps m w)).history ≡ w.history)
  unfolding run step
  after_force = elim (cases_Bool (waits m w)) [
    | inl some ↦
        let steps : force_steps m w ≡ Block_gate ∷ [] = cond-true (waits m w) _ _ some in (
          ap (λ (l : List (Step O)). waits m (run m w l)) steps ∙ ap (λ (b : Bool). b || false) (le-ltb (length w.history) (length w.history) (omega arith)),
          ap (λ (l : List (Step O)). (run m w l).cache) steps,
          ap (λ (l : List (Step O)). (run m w l).history) steps,
        )
    | inr none ↦
        let steps : force_steps m w ≡ [] = cond-false (waits m w) _ _ none in
        (ap (λ (l : List (Step O)). waits m (run m w l)) steps ∙ none, ap (λ (l : List (Step O)). (run m w l).cache) steps, ap (λ (l : List (Step O)). (run m w l).history) steps)
  ]

  module _ (n : ℕ) where
    abbrev long : Bool
    long = nat_lt block_limit (buffered m w + n)

    forces : long ≡ true → room_steps m w n ≡ force_steps m w
    forces is = cond-true long _ _ is

    goes : long ≡ false → room_steps m w n ≡ []
    goes is = cond-false long _ _ is

    -- room is made by a force, or by nothing
    pub room_ways : (P : List (Step O) → Type 0) → P (force_steps m w) → P [] → P (room_steps m w n)
    room_ways P forced none = elim (cases_Bool long) [
      | inl is ↦ subst P (sym (forces is)) forced
      | inr is ↦ subst P (sym (goes is)) none
    ]

    -- where it is made, the values stay, and so does the history
    pub room_cache : (run m w (room_steps m w n)).cache ≡ w.cache
    room_cache = room_ways (λ l. (run m w l).cache ≡ w.cache) after_force.1 (ap (λ (v : World O). v.cache) (run_none m w))

    pub room_history : (run m w (room_steps m w n)).history ≡ w.history
    room_history = room_ways (λ l. (run m w l).history ≡ w.history) after_force.2 (ap (λ (v : World O). v.history) (run_none m w))

    -- then the record lets the log grow by as much as it was said before
    grown_after : (used : ℕ) → grown m (run m w (room_steps m w n)) used n ≡ used + grown_by m w n
    grown_after used = elim (cases_Bool long) [
      | inl is ↦
          ap (λ (l : List (Step O)). grown m (run m w l) used n) (forces is) ∙ ap (λ (b : Bool). used + (if b then n else n + 5)) after_force.0
          ∙ ap (λ (k : ℕ). used + k) (sym (cond-true long (n + 5) (needed m true w n) is))
      | inr is ↦
          ap (λ (l : List (Step O)). grown m (run m w l) used n) (goes is) ∙ ap (λ (v : World O). grown m v used n) (run_none m w)
          ∙ ap (λ (k : ℕ). used + k) (sym (cond-false long (n + 5) (needed m true w n) is))
    ]

    module _ (steps : List (Step O)) (used : ℕ) where
      -- the whole course is that of the room, and behind it that of the record
      pub room_and_then : and_then m w (room_course m n w used) (λ v u. course steps (grown m v u n) Through) ≡ roomed_course m n steps (grown_by m w n) w used
      room_and_then = elim (cases_Bool (nat_lt log_limit (used + grown_by m w n))) [
        | inl over ↦
            ap (λ (c : Course O). and_then m w c (λ v u. course steps (grown m v u n) Through)) (cond-true (nat_lt log_limit (used + grown_by m w n)) _ _ over)
            ∙ sym (cond-true (nat_lt log_limit (used + grown_by m w n)) _ _ over)
        | inr fits ↦
            let zero : used + 0 ≡ used = omega arith in
            ap (λ (c : Course O). and_then m w c (λ v u. course steps (grown m v u n) Through)) (cond-false (nat_lt log_limit (used + grown_by m w n)) _ _ fits)
            ∙ (λ i. course (append-nil (room_steps m w n) i ++ steps) (grown m (run m w (append-nil (room_steps m w n) i)) (zero i) n) Through)
            ∙ ap (λ (k : ℕ). course (room_steps m w n ++ steps) k Through) (grown_after used) ∙ sym (cond-false (nat_lt log_limit (used + grown_by m w n)) _ _ fits)
      ]

    module _ (steps : List (Step O)) (more used : ℕ) where
      abbrev whole : Course O
      whole = roomed_course m n steps more w used

      pub over_is : log_limit < used + grown_by m w n → whole ≡ course [] used (Full used (grown_by m w n) log_limit)
      over_is over = cond-true (nat_lt log_limit (used + grown_by m w n)) _ _ (lt-ltb log_limit (used + grown_by m w n) over)

      pub fits_is : used + grown_by m w n ≤ log_limit → whole ≡ course (room_steps m w n ++ steps) (used + more) Through
      fits_is fits = cond-false (nat_lt log_limit (used + grown_by m w n)) _ _ (le-ltb log_limit (used + grown_by m w n) fits)

      -- where nothing stops it, the log had room
      pub through_fits : whole.stop ≡ Through → used + grown_by m w n ≤ log_limit
      through_fits through = elim (cases_lt log_limit (used + grown_by m w n)) [
        | inl over ↦ let h : Through ≡ Full used (grown_by m w n) log_limit = sym through ∙ ap (λ (c : Course O). c.stop) (over_is over) in cc
        | inr fits ↦ fits
      ]

      -- where it has none, the course says so
      pub stopped_over : (held need limit : ℕ) → whole.stop ≡ Full held need limit → (log_limit < used + need) × (need ≡ grown_by m w n) × (held ≡ used) × (limit ≡ log_limit)
      stopped_over held need limit stopped = elim (cases_lt log_limit (used + grown_by m w n)) [
        | inl over ↦
            let same : Full held need limit ≡ Full used (grown_by m w n) log_limit = sym stopped ∙ ap (λ (c : Course O). c.stop) (over_is over) in
            let needs : need ≡ grown_by m w n = cc same in
            (omega (arith, over, needs), needs, cc same, cc same)
        | inr fits ↦ let h : Full held need limit ≡ Through = sym stopped ∙ ap (λ (c : Course O). c.stop) (fits_is fits) in cc
      ]

    -- whether there is room or not
    pub course_cache : (used : ℕ) → (run m w (room_course m n w used).steps).cache ≡ w.cache
    course_cache used = elim (cases_lt log_limit (used + grown_by m w n)) [
      | inl over ↦ ap (λ (c : Course O). (run m w c.steps).cache) (over_is [] 0 used over) ∙ ap (λ (v : World O). v.cache) (run_none m w)
      | inr fits ↦ ap (λ (c : Course O). (run m w c.steps).cache) (fits_is [] 0 used fits) ∙ ap (λ (l : List (Step O)). (run m w l).cache) (append-nil (room_steps m w n)) ∙ room_cache
    ]

  -- the log in memory grows as the world says
  pub grown_shown : (d : Disk) (log : RecordLogView) (n : ℕ) → ShowsLog m d log w → (if nat_lt block_limit (length log.log.pending + n) then n + 5 else growth_of log.log.pending n) ≡ grown_by m w n
  grown_shown d log n shows =
      let more : growth_of log.log.pending n ≡ needed m true w n = omega (arith, growth_shown m d log w n shows) in
      λ i. if nat_lt block_limit (buffered_shown m d log w shows i + n) then n + 5 else more i
