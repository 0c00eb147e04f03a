-- What is taken of a record for which room is made.
use Rattle.std.proofs.Common.{◌≡◌, ◌∙◌, sym, subst, ap, ℕ, ◌+◌, ◌<◌, List, [], ◌∷◌, append-nil, refl, arith, inl, inr}
use Rattle.std.proofs.lemmas.Bool.{cases_lt}
use Rattle.disk_model.specs.Disk.{Disk, IsDisk}
use Rattle.oper_core.specs.Meaning.{Meaning}
use Rattle.oper_core.specs.declared.bounds.Bounds.{Bounds}
use Rattle.formats.specs.Limits.{log_limit}
use Rattle.formats.specs.declared.params.Params.{Params}
use Rattle.log_blocks.specs.LogView.{used_of}
use Rattle.explain_core.specs.History.{Member}
use Rattle.explain_core.specs.RunLaws.{run-append}
use Rattle.explain_core.specs.World.{World, Step, run}
use Rattle.explain_core.specs.World.Step.{Append}
use Rattle.standing.specs.Moments.{TakesSome, moments_longer, moments_twice}
use Rattle.running_store.specs.Courses.Laws.{behind_through}
use Rattle.running_store.specs.Courses.{Course, and_then, course, grown, is_through, room_steps}
use Rattle.running_store.specs.Courses.Stop.{Through, Full}
use Rattle.running_store.specs.Steps.Finished.{IsQuiet}
use Rattle.running_store.specs.Parts.{Parts, Shows, meaning_in}
use Rattle.running_store.specs.Parts.Stored.{stays_shown, store_shown}
use Rattle.running_store.specs.Taking.{Follows, IsAfter, Takes}
use Rattle.running_store.specs.Taking.Ending.{Done, Stopped, Short, Failed}
use Rattle.running_store.specs.Taking.Laws.{takes_both, takes_failed, takes_same}
use Rattle.execution.specs.Following.{grown_by, room_course, roomed_course}
use Rattle.execution.proofs.Roomed.{fits_is, over_is, room_and_then, stopped_over}

module _ {O : Type 0} (meaning : Bounds → Meaning O) (n : ℕ) (member : Member O) where
  abbrev appends : List (Step O)
  appends = Append member ∷ []

  -- room, and then the record
  abbrev pub roomed : Meaning O → World O → ℕ → Course O
  roomed m w used = room_course m n w used

  abbrev pub behind_room : Meaning O → World O → ℕ → Course O
  behind_room m w used = course appends (grown m w used n) Through

  abbrev pub whole : Meaning O → World O → ℕ → Course O
  whole m w used = roomed_course m n appends (grown_by m w n) w used

  -- in a log that is full both courses are none
  full_same : (m : Meaning O) (w : World O) (used held need limit : ℕ) → (roomed m w used).stop ≡ Full held need limit → roomed m w used ≡ whole m w used
  full_same m w used held need limit stopped =
      let so = stopped_over m w n [] 0 used held need limit stopped in
      let over : log_limit < used + grown_by m w n = omega (arith, so.0, so.1) in
      over_is m w n [] 0 used over ∙ sym (over_is m w n appends (grown_by m w n) used over)

  room_longer : (m : Meaning O) (p : Params) (old new : Disk) (w : World O) (used : ℕ) → TakesSome m p old new w (roomed m w used).steps → TakesSome m p old new w (whole m w used).steps
  room_longer m p old new w used some = elim (cases_lt log_limit (used + grown_by m w n)) [
    | inl over ↦
        let same = over_is m w n [] 0 used over ∙ sym (over_is m w n appends (grown_by m w n) used over) in
        subst (λ (c : Course O). TakesSome m p old new w c.steps) same some
    | inr fits ↦
        let room = subst (λ (c : Course O). TakesSome m p old new w c.steps) (fits_is m w n [] 0 used fits) some in
        subst (λ (c : Course O). TakesSome m p old new w c.steps) (sym (fits_is m w n appends (grown_by m w n) used fits))
        (moments_longer m p old new w (room_steps m w n) appends (subst (λ (l : List (Step O)). TakesSome m p old new w l) (append-nil (room_steps m w n)) room))
  ]

  module _ (old new : Disk) (before room : Parts) where
    -- the log has none
    pub full_takes : (held need limit : ℕ) → Takes meaning old new before room roomed (Stopped (Full held need limit)) → Takes meaning old new before room whole (Stopped (Full held need limit))
    full_takes held need limit takes = takes_same meaning old new before room roomed whole (Stopped (Full held need limit))
        (λ p w shows. full_same (meaning_in meaning p) w (used_of before.log.log) held need limit (takes.follows p w shows).0) takes

    -- or the force fails that makes it
    pub unroomed_takes : Takes meaning old new before room roomed Failed → Takes meaning old new before room whole Failed
    unroomed_takes takes = takes_failed meaning old new before room whole (λ told p w shows. room_longer (meaning_in meaning p) p old new w (used_of before.log.log) (takes.steps told p w shows))

    module _ (after : Parts) (quiet : IsQuiet old new) (made : Takes meaning old new before room roomed Done) where
      -- there is no memory for the record
      pub unappended_takes : Takes meaning new new room after behind_room Short → Takes meaning old new before after whole Short
      unappended_takes short = takes_same meaning old new before after (λ m w used. and_then m w (roomed m w used) (behind_room m)) whole Short
          (λ p w shows. room_and_then (meaning_in meaning p) w n appends (used_of before.log.log)) (takes_both meaning roomed behind_room old new new before room after Short quiet made short)

      -- it is appended, in the world that has the room
      pub appended_takes : IsDisk new → ((p : Params) (w : World O) → Shows (meaning_in meaning p) p old before w → let m = meaning_in meaning p in let v = run m w (roomed m w (used_of before.log.log)).steps in
          Shows m p new room v → IsAfter m p new after v (behind_room m v (used_of room.log.log))) → Takes meaning old new before after whole Done
      appended_takes lawful appended = record {
        follows = λ p w shows.
            let m = meaning_in meaning p in
            let first = roomed m w (used_of before.log.log) in
            let v = run m w first.steps in
            let done = made.follows p w shows in
            let next = appended p w shows done.1.shows in
            let same = sym (behind_through first (behind_room m v first.used) first.stop (ap is_through done.0)) ∙ room_and_then m w n appends (used_of before.log.log) in
            subst (λ (c : Course O). Follows m p new after w c Done) same (
              refl,
              record {
                shows = subst (λ (u : World O). Shows m p new after u) (sym (run-append m w first.steps appends)) next.shows;
                used = next.used ∙ ap (λ (k : ℕ). grown m v k n) done.1.used;
              },
            );
        steps = λ told p w shows.
            let m = meaning_in meaning p in
            let first = roomed m w (used_of before.log.log) in
            let v = run m w first.steps in
            let done = made.follows p w shows in
            let same = sym (behind_through first (behind_room m v first.used) first.stop (ap is_through done.0)) ∙ room_and_then m w n appends (used_of before.log.log) in
            subst (λ (c : Course O). TakesSome m p old new w c.steps) same
            (moments_twice m p old new new w first.steps appends (quiet.said shows.told) (made.steps told p w shows)
            (stays_shown m p new room.volatile v appends lawful (quiet.time.moments_told.0 told) (store_shown m p new room v done.1.shows)));
      }
