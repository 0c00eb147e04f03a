-- Courses of commands: one of them, two lists, and the objects that they log.
use Rattle.std.proofs.Common.{◌≡◌, ◌∙◌, sym, subst, ap, ℕ, inl, inr, Bool, true, false, Option, None, Some, List, [], ◌∷◌, ◌++◌, length, length-append, refl, append_assoc, arith}
use Rattle.std.specs.Prelude.{◌^◌, nat_le, nat_lt, IsTrue, IsFalse}
use Rattle.std.specs.Option.{is_some}
use Rattle.std.proofs.lemmas.Bool.{both_ways, cond_both}
use Rattle.oper_core.specs.Meaning.{Meaning}
use Rattle.explain_core.specs.History.{commands_of}
use Rattle.explain_core.specs.History.Member.{Command}
use Rattle.explain_core.specs.RunLaws.{Begins, begins-empty, begins-one, run-append}
use Rattle.explain_core.specs.StableLaws.{commands_of-append}
use Rattle.explain_core.specs.Taken.{IsAfterSome, after_all, after_behind, after_longer}
use Rattle.explain_core.specs.World.{World, Step, run, step, end_of, IsLive}
use Rattle.explain_core.specs.World.Step.{Append, Block_gate}
use Rattle.running_store.specs.Courses.Laws.{behind_both, behind_stopped, behind_through, joined}
use Rattle.running_store.specs.Courses.{Course, behind, course, force_steps, grown, is_through, waits}
use Rattle.cache_manager.specs.InstallCourses.{logged_by, logged_in}
use Rattle.running_store.specs.Courses.Stop.{Through, Full, At_end}
use Rattle.running_store.specs.Running.{run_upkept}
use Rattle.running_store.specs.Taking.{Ending}
use Rattle.running_store.specs.Taking.Ending.{Done, Stopped, Short, Failed}
use Rattle.running_store.specs.Calls.Commands.{command_length}
use Rattle.cache_manager.specs.Upkeep.{upkeep_force}
use Rattle.execution.specs.Courses.{append_course, needed, unplaced_steps}
use Rattle.store_engine.specs.Lists.{EndsBy, IsBehind, commands_course}

logged-append : {O : Type 0} (xs ys : List (Step O)) → logged_in (xs ++ ys) ≡ logged_in xs ++ logged_in ys
logged-append [] ys = refl
logged-append (s ∷ xs) ys = ap (λ (l : List ℕ). logged_by s ++ l) (logged-append xs ys) ∙ sym (append_assoc (logged_by s) (logged_in xs) (logged_in ys))

module _ {O : Type 0} (m : Meaning O) (limit : ℕ) (op : O) (w : World O) (used : ℕ) where
  abbrev one : Course O
  one = append_course m (is_some w.group) limit op w used

  -- what is done without a place
  abbrev unplaced : List (Step O)
  unplaced = unplaced_steps m (is_some w.group) w

  -- it is that, where the log has no room or no LSN is left, or the append
  by_placed : (P : Course O → Type 0) → ((need : ℕ) → P (course unplaced used (Full used need limit))) → ((lsn : ℕ) → P (course unplaced used (At_end lsn)))
      → ((longer : ℕ) → P (course (Append (Command op) ∷ []) longer Through)) → P one
  by_placed P full ends fits =
      cond_both (nat_lt limit (grown m w used (command_length m op))) _ _ P (λ over. full (needed m (is_some w.group) w (command_length m op)))
      (λ not_over. cond_both (nat_le (2 ^ 62) (end_of w)) _ _ P (λ last. ends (end_of w)) (λ low. fits (grown m w used (command_length m op))))

  steps_through : one.stop ≡ Through → one.steps ≡ Append (Command op) ∷ []
  steps_through = by_placed (λ (c : Course O). c.stop ≡ Through → c.steps ≡ Append (Command op) ∷ []) (λ need e. cc) (λ lsn e. cc) (λ longer e. refl)

  steps_stopped : IsFalse (is_through one.stop) → one.steps ≡ unplaced
  steps_stopped = by_placed (λ (c : Course O). IsFalse (is_through c.stop) → c.steps ≡ unplaced) (λ need no. refl) (λ lsn no. refl) (λ longer no. absurd (both_ways _ no refl))

  -- done, it adds the command
  command_added : commands_of (run m w (Append (Command op) ∷ [])).history ≡ commands_of w.history ++ op ∷ []
  unfolding run step
  command_added = commands_of-append w.history (Command op ∷ [])

  pub commands_through : one.stop ≡ Through → commands_of (run m w one.steps).history ≡ commands_of w.history ++ op ∷ []
  commands_through through = ap (λ (l : List (Step O)). commands_of (run m w l).history) (steps_through through) ∙ command_added

  -- stopped, it adds none
  unplaced_same : (group : Option ℕ) → w.group ≡ group → IsLive w → commands_of (run m w (unplaced_steps m (is_some group) w)).history ≡ commands_of w.history
  unfolding run
  unplaced_same (Some begun) inside live = refl
  unplaced_same None none live = (run_upkept m w (force_steps m w) (upkeep_force m w) live none).commands

  pub commands_stopped : IsLive w → IsFalse (is_through one.stop) → commands_of (run m w one.steps).history ≡ commands_of w.history
  commands_stopped live stopped = ap (λ (l : List (Step O)). commands_of (run m w l).history) (steps_stopped stopped) ∙ unplaced_same w.group refl live

  -- some first steps of these after which there are as many commands as before: there are the same ones
  abbrev pub IsSameWhereAsMany : List (Step O) → Type 0
  IsSameWhereAsMany steps = (taken : List (Step O)) → Begins steps taken → length (commands_of (run m w taken).history) ≡ length (commands_of w.history) → commands_of (run m w taken).history ≡ commands_of w.history

  pub same_none : IsSameWhereAsMany []
  unfolding run
  same_none taken begins as_many = ap (λ (l : List (Step O)). commands_of (run m w l).history) (begins-empty taken begins)

  same_gate : IsSameWhereAsMany (Block_gate ∷ [])
  unfolding run step
  same_gate taken begins as_many = elim (begins-one Block_gate taken begins) [
    | inl none ↦ ap (λ (l : List (Step O)). commands_of (run m w l).history) none
    | inr all ↦ ap (λ (l : List (Step O)). commands_of (run m w l).history) all
  ]

  same_force : IsSameWhereAsMany (force_steps m w)
  same_force = cond_both (waits m w) _ _ (λ (l : List (Step O)). IsSameWhereAsMany l) (λ some. same_gate) (λ none. same_none)

  same_unplaced : (grouped : Bool) → IsSameWhereAsMany (unplaced_steps m grouped w)
  same_unplaced true = same_none
  same_unplaced false = same_force

  same_append : IsSameWhereAsMany (Append (Command op) ∷ [])
  unfolding run
  same_append taken begins as_many = elim (begins-one (Append (Command op)) taken begins) [
    | inl none ↦ ap (λ (l : List (Step O)). commands_of (run m w l).history) none
    | inr all ↦ absurd (omega (arith, as_many, ap (λ (l : List (Step O)). length (commands_of (run m w l).history)) all, ap (λ (l : List O). length l) command_added, length-append (commands_of w.history) (op ∷ [])))
  ]

  pub same_commands : IsSameWhereAsMany one.steps
  same_commands = by_placed (λ (c : Course O). IsSameWhereAsMany c.steps) (λ need. same_unplaced (is_some w.group)) (λ lsn. same_unplaced (is_some w.group)) (λ longer. same_append)

  -- it logs no object
  none_forced : logged_in (force_steps m w) ≡ []
  none_forced = cond_both (waits m w) _ _ (λ (l : List (Step O)). logged_in l ≡ []) (λ some. refl) (λ none. refl)

  none_unplaced : (grouped : Bool) → logged_in (unplaced_steps m grouped w) ≡ []
  none_unplaced true = refl
  none_unplaced false = none_forced

  pub none_logged : logged_in one.steps ≡ []
  none_logged = by_placed (λ (c : Course O). logged_in c.steps ≡ []) (λ need. none_unplaced (is_some w.group)) (λ lsn. none_unplaced (is_some w.group)) (λ longer. refl)

  -- alone it is the list of one
  pub course_of_one : one.stop ≡ Through → commands_course m limit (op ∷ []) w used ≡ course (one.steps ++ []) one.used Through
  course_of_one through = behind_through one (course [] one.used Through) one.stop (ap is_through through)

  -- stopped, it is all, whatever would have come after it
  pub course_stopped : (rest : List O) → IsFalse (is_through one.stop) → commands_course m limit (op ∷ rest) w used ≡ one
  course_stopped rest stopped = behind_stopped one (commands_course m limit rest (run m w one.steps) one.used) one.stop stopped

-- a course of two parts that nothing stops
first_through : {O : Type 0} (first second : Course O) → (behind first second first.stop).stop ≡ Through → IsTrue (is_through first.stop)
first_through {O} first second =
    behind_both (λ (c : Course O). c.stop ≡ Through → IsTrue (is_through first.stop)) first second first.stop (λ yes_through e. yes_through) (λ not_through e. ap is_through e)

module _ {O : Type 0} (m : Meaning O) (limit : ℕ) where
  abbrev whole : List O → World O → ℕ → Course O
  whole ops w used = commands_course m limit ops w used

  -- the course of two lists is that of the one and, after it, that of the other, where nothing stops the first
  pub course_joined : (xs ys : List O) (w : World O) (used : ℕ) → (whole xs w used).stop ≡ Through
      → whole (xs ++ ys) w used ≡ joined (whole xs w used) (whole ys (run m w (whole xs w used).steps) (whole xs w used).used)
  unfolding run
  course_joined [] ys w used through = refl
  course_joined (op ∷ xs) ys w used through =
      let one = append_course m (is_some w.group) limit op w used in
      let v = run m w one.steps in
      let rest = whole xs v one.used in
      let goes = first_through one rest through in
      let here : whole (op ∷ xs) w used ≡ joined one rest = behind_through one rest one.stop goes in
      let behind = whole ys (run m v rest.steps) rest.used in
      let second : Course O = whole ys (run m w (joined one rest).steps) rest.used in
      let moved : behind ≡ second = ap (λ (u : World O). whole ys u rest.used) (sym (run-append m w one.steps rest.steps)) in
      let left : whole (op ∷ (xs ++ ys)) w used ≡ joined one (joined rest behind) =
      behind_through one (whole (xs ++ ys) v one.used) one.stop goes ∙ ap (λ (c : Course O). joined one c) (course_joined xs ys v one.used (ap (λ (c : Course O). c.stop) (sym here) ∙ through)) in
      let same : joined one (joined rest second) ≡ joined (joined one rest) second = ap (λ (l : List (Step O)). course l second.used second.stop) (sym (append_assoc one.steps rest.steps second.steps)) in
      left ∙ ap (λ (c : Course O). joined one (joined rest c)) moved ∙ same
      ∙ ap (λ (c : Course O). joined c (whole ys (run m w c.steps) c.used)) (sym here)

  -- no object is logged
  pub none_logged_in : (ops : List O) (w : World O) (used : ℕ) → logged_in (whole ops w used).steps ≡ []
  none_logged_in [] w used = refl
  none_logged_in (op ∷ ops) w used =
      let one = append_course m (is_some w.group) limit op w used in
      let rest = whole ops (run m w one.steps) one.used in
      behind_both (λ (c : Course O). logged_in c.steps ≡ []) one rest one.stop
      (λ yes_through. logged-append one.steps rest.steps ∙ (λ i. none_logged m limit op w used i ++ none_logged_in ops (run m w one.steps) one.used i))
      (λ not_through. none_logged m limit op w used)

  -- the world after a course, and one after another that begins there
  behind_joined : (first second : Course O) (w mid now : World O) (used : ℕ) → mid ≡ run m w first.steps → IsBehind m mid second now used → IsBehind m w (joined first second) now used
  behind_joined first second w mid now used there is = record {
    world_is = is.world_is ∙ ap (λ (v : World O). run m v second.steps) there ∙ sym (run-append m w first.steps second.steps);
    used_is = is.used_is;
  }

  -- the course of two lists, where the first is done
  pub course_behind : (xs ys : List O) (w mid : World O) (used mid_used : ℕ) → EndsBy m w (whole xs w used) mid mid_used Done → whole (xs ++ ys) w used ≡ joined (whole xs w used) (whole ys mid mid_used)
  course_behind xs ys w mid used mid_used first =
      course_joined xs ys w used first.0 ∙ (λ i. joined (whole xs w used) (whole ys (sym first.1.world_is i) (sym first.1.used_is i)))

  -- memory runs out after the first list, whatever was to come
  pub ends_short : (xs ys : List O) (w mid : World O) (used mid_used : ℕ) → EndsBy m w (whole xs w used) mid mid_used Done → EndsBy m w (whole (xs ++ ys) w used) mid mid_used Short
  ends_short xs ys w mid used mid_used first =
      let one = whole xs w used in
      let two = whole ys mid mid_used in
      subst (λ (c : Course O). IsAfterSome m (λ (v : World O). mid ≡ v) w c.steps) (sym (course_behind xs ys w mid used mid_used first))
      (after_longer m (λ (v : World O). mid ≡ v) w one.steps two.steps (after_all m (λ (v : World O). mid ≡ v) w one.steps first.1.world_is))

  -- where the first list ends by its course, and the second, after it, by its own, both end by theirs
  pub ends_joined : (xs ys : List O) (w mid now : World O) (used mid_used now_used : ℕ) (ending : Ending) → EndsBy m w (whole xs w used) mid mid_used Done
      → EndsBy m mid (whole ys mid mid_used) now now_used ending → EndsBy m w (whole (xs ++ ys) w used) now now_used ending
  ends_joined xs ys w mid now used mid_used now_used ending first = by_ending ending
    where
      one : Course O
      one = whole xs w used

      two : Course O
      two = whole ys mid mid_used

      both : whole (xs ++ ys) w used ≡ joined one two
      both = course_behind xs ys w mid used mid_used first

      after : IsBehind m mid two now now_used → IsBehind m w (whole (xs ++ ys) w used) now now_used
      after is = subst (λ (c : Course O). IsBehind m w c now now_used) (sym both) (behind_joined one two w mid now now_used first.1.world_is is)

      by_ending : (e : Ending) → EndsBy m mid two now now_used e → EndsBy m w (whole (xs ++ ys) w used) now now_used e
      by_ending Done second = (ap (λ (c : Course O). c.stop) both ∙ second.0, after second.1)
      by_ending (Stopped stop) second = (ap (λ (c : Course O). c.stop) both ∙ second.0, after second.1)
      by_ending Short second =
          subst (λ (c : Course O). IsAfterSome m (λ (v : World O). now ≡ v) w c.steps) (sym both)
          (after_behind m (λ (v : World O). now ≡ v) w one.steps two.steps (subst (λ (u : World O). IsAfterSome m (λ (v : World O). now ≡ v) u two.steps) first.1.world_is second))
      by_ending Failed second = tt
