-- The course of a record of another log may be taken.
use Rattle.std.proofs.Common.{◌≡◌, ◌∙◌, sym, subst, ap, ℕ, ◌+◌, true, false, List, [], ◌∷◌, ◌++◌, refl, arith, inl, inr, length-append, Option, None, Some}
use Rattle.std.specs.Prelude.{IsTrue, not, bytes_eq, nat_lt, if◌then◌else◌}
use Rattle.std.proofs.lemmas.Bool.{and_parts, both_ways, cases_Bool, cases_lt, cond-true, cond-false, ltb-true}
use Rattle.std.proofs.lemmas.Slice.Eq.{bytes_eq-Decides}
use Rattle.std.specs.Option.{is_some}
use Rattle.oper_core.specs.Cell.{Cell}
use Rattle.oper_core.specs.Meaning.{Meaning, refusal_of}
use Rattle.oper_core.specs.State.{State}
use Rattle.formats.specs.Limits.{log_limit}
use Rattle.formats.specs.declared.record.Record.{Record}
use Rattle.formats.specs.declared.record.Record.TheVariants.{Command as Logged_command, Identity as Logged_identity, Checkpoint as Logged_checkpoint}
use Rattle.explain_core.specs.History.{Member}
use Rattle.explain_core.specs.History.Member.{Command, Identity}
use Rattle.explain_core.specs.RunLaws.{allowed-append, run-append}
use Rattle.explain_core.specs.TurnLaws.{run_none}
use Rattle.explain_core.specs.World.{World, Step, step, run, end_of, AreAllowed, MayAppend, NoGroup}
use Rattle.explain_core.specs.World.Step.{Append}
use Rattle.running_store.specs.Courses.{Course, course, force_steps, is_through, record_length, room_steps}
use Rattle.running_store.specs.Courses.Stop.{Through}
use Rattle.running_store.specs.Running.{IsRunning, KeepsSound, MayBeTaken, may_be_taken}
use Rattle.execution.specs.Following.{follow_course, grown_by, judge_in, judged_course, taken_course}
use Rattle.execution.specs.Judged.{Judged, judge_member, may_follow, with_judged}
use Rattle.execution.specs.Judged.Judged.{Passed, Taken, Gap, Differs}
use Rattle.execution.specs.Taken.{MayFollow}
use Rattle.execution.proofs.Roomed.{fits_is, over_is, room_cache, room_history, room_ways}

-- a test that is passed
refusal_none : {R : Type 0} (o : Option R) → not (is_some o) ≡ true → o ≡ None
refusal_none None is = refl
refusal_none (Some r) is = absurd (both_ways _ refl is)

module _ {O : Type 0} (m : Meaning O) (w : World O) where
  abbrev values : State
  values x = (w.cache x).value

  -- what is taken may come next
  judged_may : (lsn : ℕ) (own member : Member O) → judge_member m values (end_of w) lsn own ≡ Taken member → IsTrue (may_follow m values member)
  judged_may lsn own member is = elim (cases_Bool (nat_lt lsn (end_of w))) [
    | inl low ↦ let h : Passed ≡ Taken member = sym (cond-true (nat_lt lsn (end_of w)) _ _ low) ∙ is in cc
    | inr more ↦ elim (cases_Bool (nat_lt (end_of w) lsn)) [
      | inl high ↦ let h : Gap (end_of w) lsn ≡ Taken member = sym (cond-false (nat_lt lsn (end_of w)) _ _ more ∙ cond-true (nat_lt (end_of w) lsn) _ _ high) ∙ is in cc
      | inr most ↦
          let here : judge_member m values (end_of w) lsn own ≡ (if may_follow m values own then Taken own else Differs lsn) = cond-false (nat_lt lsn (end_of w)) _ _ more ∙ cond-false (nat_lt (end_of w) lsn) _ _ most in
          elim (cases_Bool (may_follow m values own)) [
            | inl so ↦
                let same : Taken own ≡ Taken member = sym (here ∙ cond-true (may_follow m values own) _ _ so) ∙ is in
                let own_is : own ≡ member = cc same in
                subst (λ (k : Member O). IsTrue (may_follow m values k)) own_is so
            | inr not_so ↦ let h : Differs lsn ≡ Taken member = sym (here ∙ cond-false (may_follow m values own) _ _ not_so) ∙ is in cc
          ]
    ]
  ]

  taken_may : (r : Record O) (member : Member O) → judge_in m w r ≡ Taken member → IsTrue (may_follow m values member)
  taken_may (Logged_command lsn op) member is = judged_may lsn (Command op) member is
  taken_may (Logged_identity lsn x value) member is = judged_may lsn (Identity x value) member is
  taken_may (Logged_checkpoint table) member is = let h : Passed ≡ Taken member = is in cc

  -- such a member may be appended, where no group is open
  member_may : (member : Member O) → IsTrue (may_follow m values member) → NoGroup w → MayAppend m w member
  member_may (Command op) so alone = refusal_none (refusal_of m values op) so
  member_may (Identity x value) so alone =
      let both = and_parts (nat_lt x m.objects) (bytes_eq value (values x)) so in
      (ltb-true x m.objects both.0, (bytes_eq-Decides value (values x)).0 both.1, alone)

-- in a world with the same values it may be too
same_may : {O : Type 0} (m : Meaning O) (w v : World O) → v.cache ≡ w.cache → NoGroup v → (member : Member O) → MayAppend m w member → MayAppend m v member
same_may m w v same alone (Command op) may = ap (λ (c : ℕ → Cell). refusal_of m (λ x. (c x).value) op) same ∙ may
same_may m w v same alone (Identity x value) may = (may.0, may.1 ∙ ap (λ (c : ℕ → Cell). (c x).value) (sym same), alone)

module _ {O : Type 0} (m : Meaning O) (keeps : KeepsSound m) where
  no_steps : (w : World O) → IsRunning m w → MayBeTaken m w []
  no_steps w running = may_be_taken m w [] keeps running tt tt

  -- a member is appended
  append_running : (w : World O) (member : Member O) → IsRunning m w → MayAppend m w member → AreAllowed m w (Append member ∷ []) × IsRunning m (run m w (Append member ∷ [])) × ((run m w (Append member ∷ [])).history ≡ w.history ++ member ∷ [])
  unfolding run step
  append_running w member running may =
      let allowed : AreAllowed m w (Append member ∷ []) = ((running.live, may), tt) in
      let live = running.live in
      (allowed, record { sound = keeps w (Append member ∷ []) running.sound allowed; live = omega (arith, live, length-append w.history (member ∷ [])); alone = running.alone }, refl)

  module _ (r : Record O) (w : World O) (used : ℕ) (running : IsRunning m w) where
    abbrev whole : Course O
    whole = follow_course m r w used

    -- nothing is done
    none_may : whole ≡ course [] used Through → with_judged w.history (judge_in m w r) ≡ w.history → MayFollow m r w used
    none_may none same =
        let may = no_steps w running in
        record {
          allowed = subst (λ (c : Course O). AreAllowed m w c.steps) (sym none) may.allowed;
          running = subst (λ (c : Course O). IsRunning m (run m w c.steps)) (sym none) may.running;
          through = λ through. ap (λ (c : Course O). (run m w c.steps).history) none ∙ ap (λ (v : World O). v.history) (run_none m w) ∙ sym same;
          stopped = λ stopped. absurd (both_ways (is_through whole.stop) stopped (ap (λ (c : Course O). is_through c.stop) none));
        }

    module _ (member : Member O) (is : judge_in m w r ≡ Taken member) (force : MayBeTaken m w (force_steps m w)) where
      abbrev n : ℕ
      n = record_length m member

      abbrev appends : List (Step O)
      appends = Append member ∷ []

      taken_is : whole ≡ taken_course m member w used
      taken_is = ap (λ (j : Judged O). judged_course m j w used) is

      -- the log is full
      full_may : whole.steps ≡ [] → is_through whole.stop ≡ false → MayFollow m r w used
      full_may none stops =
          let may = no_steps w running in
          record {
            allowed = subst (λ (l : List (Step O)). AreAllowed m w l) (sym none) may.allowed;
            running = subst (λ (l : List (Step O)). IsRunning m (run m w l)) (sym none) may.running;
            through = λ through. absurd (both_ways (is_through whole.stop) stops (ap is_through through));
            stopped = λ stopped. none;
          }

      -- it has room
      goes_may : whole.steps ≡ room_steps m w n ++ appends → whole.stop ≡ Through → MayFollow m r w used
      goes_may steps goes =
          let room : MayBeTaken m w (room_steps m w n) = room_ways m w n (λ l. MayBeTaken m w l) force (no_steps w running) in
          let v = run m w (room_steps m w n) in
          let may = same_may m w v (room_cache m w n) room.running.alone member (member_may m w member (taken_may m w r member is) running.alone) in
          let last = append_running v member room.running may in
          let join : run m w (room_steps m w n ++ appends) ≡ run m v appends = run-append m w (room_steps m w n) appends in
          record {
            allowed = subst (λ (l : List (Step O)). AreAllowed m w l) (sym steps) (allowed-append m w (room_steps m w n) appends room.allowed last.0);
            running = subst (λ (l : List (Step O)). IsRunning m (run m w l)) (sym steps) (subst (λ (u : World O). IsRunning m u) (sym join) last.1);
            through = λ through.
                ap (λ (l : List (Step O)). (run m w l).history) steps ∙ ap (λ (u : World O). u.history) join ∙ last.2 ∙ ap (λ (h : List (Member O)). h ++ member ∷ []) (room_history m w n)
                ∙ ap (λ (j : Judged O). with_judged w.history j) (sym is);
            stopped = λ stopped. absurd (both_ways (is_through whole.stop) stopped (ap is_through goes));
          }

      taken_may_be : MayFollow m r w used
      taken_may_be = elim (cases_lt log_limit (used + grown_by m w n)) [
        | inl over ↦
            let full = taken_is ∙ over_is m w n appends (grown_by m w n) used over in
            full_may (ap (λ (c : Course O). c.steps) full) (ap (λ (c : Course O). is_through c.stop) full)
        | inr fits ↦
            let goes = taken_is ∙ fits_is m w n appends (grown_by m w n) used fits in
            goes_may (ap (λ (c : Course O). c.steps) goes) (ap (λ (c : Course O). c.stop) goes)
      ]

    by_judged : (j : Judged O) → judge_in m w r ≡ j → MayBeTaken m w (force_steps m w) → MayFollow m r w used
    by_judged Passed is force = none_may (ap (λ (j : Judged O). judged_course m j w used) is) (ap (λ (j : Judged O). with_judged w.history j) is)
    by_judged (Taken member) is force = taken_may_be member is force
    by_judged (Gap expected got) is force = none_may (ap (λ (j : Judged O). judged_course m j w used) is) (ap (λ (j : Judged O). with_judged w.history j) is)
    by_judged (Differs lsn) is force = none_may (ap (λ (j : Judged O). judged_course m j w used) is) (ap (λ (j : Judged O). with_judged w.history j) is)

pub may_follow_course : {O : Type 0} (m : Meaning O) (r : Record O) (w : World O) (used : ℕ) → KeepsSound m → IsRunning m w → MayBeTaken m w (force_steps m w) → MayFollow m r w used
may_follow_course m r w used keeps running force = by_judged m keeps r w used running (judge_in m w r) refl force
