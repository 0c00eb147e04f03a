-- Each answer comes exactly where its cause holds.
use Rattle.std.proofs.Common.{◌≡◌, ◌∙◌, subst, ℕ, ◌+◌, ◌<◌, length, refl, arith, inl, inr, ⊎_elim}
use Rattle.std.specs.Prelude.{Bool, None, Ok, Err}
use Rattle.disk_model.specs.Disk.{Disk, Stays}
use Rattle.disk_model.specs.declared.machine.FileNo.TheVariants.{Objects}
use Rattle.oper_core.specs.Meaning.{Meaning, HasBounds, IsSmall, IsLawful, IsInGrammar}
use Rattle.oper_core.specs.declared.bounds.Bounds.{Bounds}
use Rattle.formats.specs.declared.params.Params.{Params}
use Rattle.log_blocks.specs.LogView.{used_of}
use Rattle.explain_core.specs.World.{World}
use Rattle.running_store.specs.Steps.Appended.{next_lsn}
use Rattle.running_store.specs.Calls.Commands.{HasPlaceBelow, command_length}
use Rattle.running_store.specs.Laid.{IsLaidOn, values_in}
use Rattle.running_store.specs.Laid.LongSlot.{long_untold}
use Rattle.running_store.specs.Parts.{Parts, Shows, meaning_in}
use Rattle.execution.specs.Answers.{HasCauseIn}
use Rattle.execution.specs.Counted.{accepted_shown}
use Rattle.execution.specs.Courses.{refusal_in}
use Rattle.execution.specs.Failures.{IsAdmitFailure, IsAdmittedOn, LacksPlace}
use Rattle.execution.specs.declared.exec_err.ExecErr.{ExecErr}
use Rattle.execution.specs.declared.exec_err.ExecErr.TheVariants.{Refused, DiskFault, Damaged, LogFull, LsnEnd, Memory}
use Rattle.execution.proofs.Admitted.{refused_here}
use Rattle.execution.proofs.Placed.{long_is, needed_is}

module _ {O : Type 0} (meaning : Bounds → Meaning O) (grouped : Bool) (p : Params) (d new : Disk) (it : Parts) (w : World O) (shows : Shows (meaning_in meaning p) p d it w) (op : O) where
  abbrev m : Meaning O
  m = meaning_in meaning p

  abbrev q : Params
  q = it.volatile.objects.slots.params

  same : q ≡ p
  same = shows.store.params

  -- one that is not admitted
  pub admit_cause : (bounded : (b : Bounds) → HasBounds b (meaning b)) (laws : (b : Bounds) → IsSmall b → IsLawful (meaning b)) (e : ExecErr) → Stays d new → IsAdmitFailure meaning q op d new it.volatile.objects e
      → (d.tells_files → IsLaidOn it.volatile.objects (d.reads Objects) → IsAdmittedOn (meaning_in meaning q) (values_in it.volatile.objects (d.reads Objects)) op (Err e))
      → (e ≡ DiskFault → IsInGrammar (meaning_in meaning q) op × (0 < length ((meaning_in meaning q).reads op))) → HasCauseIn grouped m p.limit w (used_of it.log.log) op (Err e)
  admit_cause bounded laws (Refused refusal) stays fails shown fault = refused_here meaning bounded laws p d it w shows op refusal shown
  admit_cause bounded laws DiskFault stays fails shown fault = inl (subst (λ (b : Params). IsInGrammar (meaning_in meaning b) op × (0 < length ((meaning_in meaning b).reads op))) same (fault refl))
  admit_cause bounded laws (Damaged file place) stays fails shown fault = long_untold it.volatile.objects.slots fails.object file place stays shows.told shows.store.laid.slots fails.slot
  admit_cause bounded laws (LogFull used need limit) stays fails shown fault = absurd fails
  admit_cause bounded laws (LsnEnd lsn) stays fails shown fault = absurd fails
  admit_cause bounded laws Memory stays fails shown fault = tt

  module _ (accepted : refusal_in m w op ≡ None) where
    -- one that gets no place
    pub lacks_cause : (e : ExecErr) → LacksPlace grouped p.limit it.log (command_length m op) e → HasCauseIn grouped m p.limit w (used_of it.log.log) op (Err e)
    lacks_cause (Refused refusal) lacks = absurd lacks
    lacks_cause (LogFull held need most) lacks = (accepted, omega (arith, lacks.0, long_is m p d it w shows grouped p.limit op accepted), lacks.1, lacks.2 ∙ needed_is m p d it w shows grouped p.limit op accepted grouped, lacks.3)
    lacks_cause (LsnEnd lsn) lacks =
        let next = next_lsn m p d it w shows in
        (accepted, omega (arith, lacks.0, long_is m p d it w shows grouped p.limit op accepted), omega (arith, lacks.1, next), lacks.2 ∙ next)
    lacks_cause DiskFault lacks = inr (
      lacks.0,
      accepted,
      ⊎_elim
          (λ over. inl (omega (arith, over, long_is m p d it w shows grouped p.limit op accepted)))
          (λ last. inr (omega (arith, last, next_lsn m p d it w shows))) lacks.1,
    )
    lacks_cause (Damaged file place) lacks = absurd lacks
    lacks_cause Memory lacks = absurd lacks

    -- one that is done
    pub done_cause : (n : ℕ) → HasPlaceBelow p.limit it.log (command_length m op) → n ≡ it.log.accepted + 1 → HasCauseIn grouped m p.limit w (used_of it.log.log) op (Ok n)
    done_cause n place is =
        let room = place.room in
        let lsn = place.lsn in
        (accepted, omega (arith, room, long_is m p d it w shows grouped p.limit op accepted), omega (arith, lsn, next_lsn m p d it w shows), omega (arith, is, accepted_shown m p d it w shows))
