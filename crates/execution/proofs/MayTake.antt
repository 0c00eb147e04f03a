-- The course of a command may be taken, also while a group is open.
use Rattle.std.proofs.Common.{◌≡◌, ◌∙◌, sym, subst, ap, ℕ, Bool, false, List, [], ◌∷◌, ◌++◌, refl, arith, length-append, inl, inr, ◌⊎◌, ⊎_elim, Option, None, Some}
use Rattle.std.specs.Prelude.{◌^◌, nat_lt, nat_le}
use Rattle.std.specs.Option.{is_some}
use Rattle.std.proofs.lemmas.Bool.{both_ways, cases_Bool, cond-true, cond-false}
use Rattle.oper_core.specs.Meaning.{Meaning}
use Rattle.oper_core.specs.declared.refusal.Refusal.{Refusal}
use Rattle.explain_core.specs.History.{commands_of}
use Rattle.explain_core.specs.History.Member.{Command}
use Rattle.explain_core.specs.Sound.{IsSound}
use Rattle.explain_core.specs.StableLaws.{commands_of-append}
use Rattle.explain_core.specs.World.{World, Step, step, run, end_of, AreAllowed, IsLive}
use Rattle.explain_core.specs.World.Step.{Append}
use Rattle.running_store.specs.Calls.Commands.{command_length}
use Rattle.running_store.specs.Courses.{Course, course, force_steps, grown, is_through}
use Rattle.running_store.specs.Courses.Stop.{Through}
use Rattle.running_store.specs.Running.{IsRunning, KeepsSound, MayBeTaken}
use Rattle.execution.specs.Courses.{append_course, exec_course, refusal_in, unless_refused, unplaced_steps}
use Rattle.execution.specs.Taken.{MayExec}

-- steps that may be taken, and after which the world is sound and live, with the group and the commands that it had
record MayHalt {O : Type 0} (m : Meaning O) (w : World O) (steps : List (Step O)) : Type 0 where
  pub allowed : AreAllowed m w steps
  pub sound : IsSound m (run m w steps)
  pub live : IsLive (run m w steps)
  pub group : (run m w steps).group ≡ w.group
  pub commands : commands_of (run m w steps).history ≡ commands_of w.history

no_steps : {O : Type 0} (m : Meaning O) (w : World O) → IsSound m w → IsLive w → MayHalt m w []
unfolding run
no_steps m w sound live = record { allowed = tt; sound = sound; live = live; group = refl; commands = refl }

-- what is done for a record without a place is such
unplaced_may : {O : Type 0} (m : Meaning O) (w : World O) (group : Option ℕ) → w.group ≡ group → IsSound m w → IsLive w → (IsRunning m w → MayBeTaken m w (force_steps m w))
    → MayHalt m w (unplaced_steps m (is_some group) w)
unplaced_may m w (Some begun) is sound live force = no_steps m w sound live
unplaced_may m w None is sound live force =
    let may = force (record { sound = sound; live = live; alone = is }) in
    record { allowed = may.allowed; sound = may.running.sound; live = may.running.live; group = may.running.alone ∙ sym is; commands = may.commands }

module _ {O : Type 0} (m : Meaning O) (limit : ℕ) (op : O) (w : World O) (used : ℕ) where
  abbrev grouped : Bool
  grouped = is_some w.group

  abbrev whole : Course O
  whole = exec_course m grouped limit op w used

  abbrev appends : List (Step O)
  appends = Append (Command op) ∷ []

  -- nothing refuses it, and it is stopped
  record IsHalted : Type 0 where
    pub accepted : refusal_in m w op ≡ None
    pub steps : whole.steps ≡ unplaced_steps m grouped w
    pub stop : is_through whole.stop ≡ false

  -- or it is appended
  record IsAppending : Type 0 where
    pub accepted : refusal_in m w op ≡ None
    pub steps : whole.steps ≡ appends
    pub stop : whole.stop ≡ Through

  record IsNone : Type 0 where
    pub refusal : Refusal
    pub refused : refusal_in m w op ≡ Some refusal
    pub course : whole ≡ course [] used Through

  accepted_ways : refusal_in m w op ≡ None → IsHalted ⊎ IsAppending
  accepted_ways none =
      let is : whole ≡ append_course m grouped limit op w used = ap (λ (o : Option Refusal). unless_refused used (append_course m grouped limit op w used) o) none in
      let n = command_length m op in
      elim (cases_Bool (nat_lt limit (grown m w used n))) [
        | inl over ↦
            let full = is ∙ cond-true (nat_lt limit (grown m w used n)) _ _ over in
            inl (record { accepted = none; steps = ap (λ (c : Course O). c.steps) full; stop = ap (λ (c : Course O). is_through c.stop) full })
        | inr fits ↦ elim (cases_Bool (nat_le (2 ^ 62) (end_of w))) [
          | inl last ↦
              let ended = is ∙ cond-false (nat_lt limit (grown m w used n)) _ _ fits ∙ cond-true (nat_le (2 ^ 62) (end_of w)) _ _ last in
              inl (record { accepted = none; steps = ap (λ (c : Course O). c.steps) ended; stop = ap (λ (c : Course O). is_through c.stop) ended })
          | inr low ↦
              let goes = is ∙ cond-false (nat_lt limit (grown m w used n)) _ _ fits ∙ cond-false (nat_le (2 ^ 62) (end_of w)) _ _ low in
              inr (record { accepted = none; steps = ap (λ (c : Course O). c.steps) goes; stop = ap (λ (c : Course O). c.stop) goes })
        ]
      ]

  ways : (o : Option Refusal) → refusal_in m w op ≡ o → IsNone ⊎ (IsHalted ⊎ IsAppending)
  ways None none = inr (accepted_ways none)
  ways (Some r) some = inl (record { refusal = r; refused = some; course = ap (λ (o : Option Refusal). unless_refused used (append_course m grouped limit op w used) o) some })

  not_both : {B : Type 0} (r : Refusal) → refusal_in m w op ≡ None → refusal_in m w op ≡ Some r → B
  not_both r none some = let h : None ≡ Some r = sym none ∙ some in cc

  not_stopped : {B : Type 0} → whole.stop ≡ Through → is_through whole.stop ≡ false → B
  not_stopped through stopped = absurd (both_ways (is_through whole.stop) stopped (ap is_through through))

  module _ (keeps : KeepsSound m) (sound : IsSound m w) (live : IsLive w) (unplaced : MayHalt m w (unplaced_steps m grouped w)) where
    none_may : IsNone → MayExec m limit op w used
    none_may none =
        let steps : whole.steps ≡ [] = ap (λ (c : Course O). c.steps) none.course in
        let may = subst (λ (l : List (Step O)). MayHalt m w l) (sym steps) (no_steps m w sound live) in
        record {
          allowed = may.allowed;
          sound = may.sound;
          live = may.live;
          group = may.group;
          refused = λ r some. steps;
          stopped = λ stop. not_stopped (ap (λ (c : Course O). c.stop) none.course) stop;
          done = λ accepted through. not_both none.refusal accepted none.refused;
        }

    halted_may : IsHalted → MayExec m limit op w used
    halted_may halted =
        let may = subst (λ (l : List (Step O)). MayHalt m w l) (sym halted.steps) unplaced in
        record {
          allowed = may.allowed;
          sound = may.sound;
          live = may.live;
          group = may.group;
          refused = λ r some. not_both r halted.accepted some;
          stopped = λ stop. may.commands;
          done = λ accepted through. not_stopped through halted.stop;
        }

    appending_may : IsAppending → MayExec m limit op w used
    unfolding run step
    appending_may goes =
        let may : AreAllowed m w appends = ((live, goes.accepted), tt) in
        record {
          allowed = subst (λ (l : List (Step O)). AreAllowed m w l) (sym goes.steps) may;
          sound = subst (λ (l : List (Step O)). IsSound m (run m w l)) (sym goes.steps) (keeps w appends sound may);
          live = subst (λ (l : List (Step O)). IsLive (run m w l)) (sym goes.steps) (omega (arith, live, length-append w.history (Command op ∷ [])));
          group = ap (λ (l : List (Step O)). (run m w l).group) goes.steps;
          refused = λ r some. not_both r goes.accepted some;
          stopped = λ stop. not_stopped goes.stop stop;
          done = λ accepted through. subst (λ (l : List (Step O)). commands_of (run m w l).history ≡ commands_of w.history ++ op ∷ []) (sym goes.steps) (commands_of-append w.history (Command op ∷ []));
        }

  pub may_exec : KeepsSound m → IsSound m w → IsLive w → (IsRunning m w → MayBeTaken m w (force_steps m w)) → MayExec m limit op w used
  may_exec keeps sound live force =
      let unplaced = unplaced_may m w w.group refl sound live force in
      ⊎_elim (none_may keeps sound live unplaced) (λ rest. ⊎_elim (halted_may keeps sound live unplaced) (appending_may keeps sound live unplaced) rest) (ways (refusal_in m w op) refl)
