-- Two calls, the first of which was refused memory, as one.
use Rattle.std.proofs.Common.{arith, ◌≡◌, ◌⊎◌, inl, inr, ⊎_elim, refl, List, ℕ, ◌++◌, ◌∙◌, ap, sym, subst}
use Rattle.std.proofs.lemmas.List.{append-nil}
use Rattle.disk_model.specs.Disk.{Files, Disk, IsDisk, LeavesOnly, Passes}
use Rattle.disk_model.specs.Moments.{runs_on, weaker}
use Rattle.formats.specs.declared.params.Params.{Params}
use Rattle.script_lines.specs.Grammar.{lines_of}
use Rattle.command_words.specs.declared.asked.Asked.{Asked}
use Rattle.command_words.specs.declared.asked.Asked.TheVariants.{Init, Run, Dump, Demo, Upgrade, Ship, Follow}
use Rattle.explain_core.specs.History.{Member}
use Rattle.restart.specs.Starts.{OrAtStart, from_settled, or_weaker}
use Rattle.store_engine.specs.Engine.{InEachImage}
use Rattle.shell_base.specs.Again.{IsStartRefused, StandsStill}
use Rattle.shell_base.specs.First.{OpeningMoment, TableMoment, Stage, IsFirst}
use Rattle.shell_base.specs.Status.{IsCut}
use Rattle.shell_base.specs.Store.{Command, Opens, Stands}
use Rattle.shell_base.specs.declared.budget.Budget.{Budget}
use Rattle.shell_base.specs.declared.budget.Budget.TheVariants.{Usual, Least}
use Rattle.shell_base.specs.declared.status.Status.{Status}
use Rattle.shell_base.specs.declared.status.Status.TheVariants.{RestartMemory}
use Rattle.store_words.specs.Dump.{dump_of, DumpMoment}
use Rattle.store_words.specs.Upgrading.{GrowthMoment, UpgradeMoment}
use Rattle.standby_words.specs.Following.{FollowMoment, FollowingMoment, StandbyMoment}
use Rattle.standby_words.specs.FollowingLaws.{follows_from}
use Rattle.standby_words.specs.Shipping.{ShipMoment}
use Rattle.script_run.specs.Answers.{Moment}
use Rattle.script_run.specs.RunCalls.{IsRunOn}
use Rattle.script_run.specs.Courses.{RunMoment}
use Rattle.script_run.specs.Run.{MomentSoFar}
use Rattle.script_run.specs.Tended.{tending_of}
use Rattle.script_run.specs.declared.tending.Tending.{Tending}
use Rattle.script_run.specs.StartLaws.{complete_from, opens_still, says_from, start_so_far, AreFew}
use Rattle.redo_shell.specs.Calls.{IsCallFor}
use Rattle.redo_shell.specs.Twice.{IsCallTwice, IsRunTwice, StepsTwice}

-- a call whose restart was refused memory leaves files that stand for the commands as they did
pub refused_still : (budget : Budget) (asked : Asked) (told : Type 0) (left rest : List ℕ) (p : Params) (commands : List Command) (old mid : Disk) → old.tells_moments → Opens p old commands
    → IsCallFor budget asked told left rest old mid RestartMemory → StandsStill p commands old mid
refused_still budget (Run tend) told left rest p commands old mid tells opens call = ((call.untold.1 p commands opens).unopened tells refl).still
refused_still budget Dump told left rest p commands old mid tells opens call = ((call.table p commands opens).unopened tells refl).still
refused_still budget (Init q) told left rest p commands old mid tells opens call = absurd call.ends
refused_still budget (Demo seed steps) told left rest p commands old mid tells opens call = absurd call.ends
refused_still budget (Upgrade q) told left rest p commands old mid tells opens call = ((call.stands p commands opens).unopened tells refl).still
refused_still budget (Ship from) told left rest p commands old mid tells opens call = ((call.log p commands opens).unopened tells refl).still
refused_still budget (Follow same) told left rest p commands old mid tells opens call = ((call.stream p commands opens).unopened tells refl).still

module _ {p : Params} {commands : List Command} {old mid : Disk} (lawful : IsDisk old) (lawful_mid : IsDisk mid) (tells : old.tells_moments) (opens : Opens p old commands) (time : Passes old mid) (still : StandsStill p commands old mid) (new : Disk) where
  -- what a crash leaves of the second call may be what the first one left
  both : (P : Files → List ℕ → Type 0) → LeavesOnly old mid P → LeavesOnly mid new (OrAtStart mid P) → LeavesOnly old new P
  both P first second = runs_on old mid new P first
      (weaker mid new (OrAtStart mid P) P second (λ files said is. ⊎_elim
      (λ (was : mid.left_since mid.clock files said). first.each files said (lawful_mid.among old.clock mid.clock files said time.later (omega arith) was))
      (λ here. here)
      is))

  -- it is what a crash leaves of both, where files that stand for the commands have that before anything is said
  images_twice : (P : Files → List ℕ → Type 0) → ((files : Files) → Stands p files commands → P files old.said) → LeavesOnly mid new (OrAtStart mid P) → LeavesOnly old new (OrAtStart old P)
  images_twice P starts second = both (OrAtStart old P)
      (or_weaker old mid (λ files said. Stands p files commands × (said ≡ old.said)) P still.images (λ files said is. subst (λ (l : List ℕ). P files l) (sym is.1) (starts files is.0)))
      (or_weaker mid new P (OrAtStart old P) second (λ files said is. inr is))

  -- by the courses of both
  steps_twice : (Then : (again : Stage) → IsFirst Least p commands mid again → Files → List ℕ → Type 0) → IsStartRefused Usual p commands old mid
      → ((again : Stage) → (here : IsFirst Least p commands mid again) → LeavesOnly mid new (OrAtStart mid (Then again here))) → StepsTwice p commands old mid new Then
  steps_twice Then refused second first is again here =
      let At : Files → List ℕ → Type 0 = λ files said. OpeningMoment Usual p commands old first is files said ⊎ Then again here files said in
      both (OrAtStart old At) (or_weaker old mid (OpeningMoment Usual p commands old first is) At (refused.steps first is) (λ files said step. inl step))
      (or_weaker mid new (Then again here) (OrAtStart old At) (second again here) (λ files said step. inr (inr step)))

  -- files that stand for the commands as they did after each call did so after both
  still_twice : StandsStill p commands mid new → StandsStill p commands old new
  still_twice second = record {
    opens = second.opens;
    quiet = second.quiet ∙ still.quiet;
    images = images_twice (λ files said. Stands p files commands × (said ≡ old.said)) (λ files stands. (stands, refl))
        (subst (λ (l : List ℕ). LeavesOnly mid new (OrAtStart mid (λ files said. Stands p files commands × (said ≡ l)))) still.quiet second.images);
  }

  -- a run
  run_twice : (tending : Tending) → AreFew → IsStartRefused Usual p commands old mid → (script : List (List ℕ)) (status : Status) → IsRunOn tending Least p commands script mid new status → IsRunTwice p commands old mid new tending script status
  run_twice tending few refused script status second =
      let tells_mid = time.moments_told.0 tells in
      let images : LeavesOnly old new (OrAtStart old (Moment p commands script old.said))
      = images_twice (Moment p commands script old.said) (λ files stands. (start_so_far few old script files stands).is)
      (subst (λ (l : List ℕ). LeavesOnly mid new (OrAtStart mid (Moment p commands script l))) still.quiet (second.images tells_mid)) in
      let unclosed : IsCut status → LeavesOnly old new (OrAtStart old (MomentSoFar p commands script old.said))
      = λ cut. images_twice (MomentSoFar p commands script old.said) (λ files stands. start_so_far few old script files stands)
      (subst (λ (l : List ℕ). LeavesOnly mid new (OrAtStart mid (MomentSoFar p commands script l))) still.quiet (second.unclosed tells_mid cut)) in
      record {
        images = images;
        from_settled = λ settled. from_settled old new (Moment p commands script old.said) lawful tells settled (start_so_far few old script old.reads opens.stands).is images;
        opened = λ disk memory. subst (λ (l : List ℕ). InEachImage new (λ files. Moment p commands script l files new.said)) still.quiet (second.opened tells_mid disk memory);
        unclosed = unclosed;
        unclosed_from_settled = λ settled cut. from_settled old new (MomentSoFar p commands script old.said) lawful tells settled (start_so_far few old script old.reads opens.stands) (unclosed cut);
        unclosed_now = λ cut memory. subst (λ (l : List ℕ). InEachImage new (λ files. MomentSoFar p commands script l files new.said)) still.quiet (second.unclosed_now tells_mid cut memory);
        first = second.first;
        answers = λ first is. says_from lawful (opens_still still) time still.quiet (second.answers first is);
        steps = steps_twice (λ again here. RunMoment tending Least p commands mid again here script) refused (second.steps tells_mid);
        complete = λ first is done. complete_from still.quiet (second.complete first is done);
        unopened = λ is. still_twice (second.unopened tells_mid is).still;
        store = second.store;
      }

  -- the following of a stream
  follow_twice : (first : List (Member Command)) (bytes : List ℕ) → LeavesOnly mid new (OrAtStart mid (StandbyMoment p commands first bytes mid new)) → LeavesOnly old new (OrAtStart old (StandbyMoment p commands first bytes old new))
  follow_twice first bytes second = images_twice (StandbyMoment p commands first bytes old new) (λ files stands. inl (stands, refl))
      (or_weaker mid new (StandbyMoment p commands first bytes mid new) (StandbyMoment p commands first bytes old new) second (λ files said is. ⊎_elim
      (λ (here : Stands p files commands × (said ≡ mid.said)). inl (here.0, here.1 ∙ still.quiet))
      (λ (on : FollowMoment p first bytes mid new files said). inr (on.0, ⊎_elim (λ (none : said ≡ mid.said). inl (none ∙ still.quiet)) (λ there. inr there) on.1))
      is))

  pub call_twice : AreFew → (asked : Asked) (told : Type 0) (left rest : List ℕ) (status : Status) → IsCallFor Usual asked told left left old mid RestartMemory → IsCallFor Least asked told left rest mid new status
      → IsCallTwice asked p commands told left old mid new status
  call_twice few (Run tend) told left rest status first second =
      let refused = (first.untold.1 p commands opens).unopened tells refl in (
        λ is. run_twice (tending_of tend) few refused (lines_of left) status (second.script p commands still.opens is),
        (second.untold.0, run_twice (tending_of tend) few refused second.untold.0 status (second.untold.1 p commands still.opens)),
      )
  call_twice few Dump told left rest status first second =
      let on = second.table p commands still.opens in (
        images_twice (DumpMoment p commands old.said) (λ files stands. record { stands = stands; count = 0; said_is = sym (append-nil old.said) })
            (subst (λ (l : List ℕ). LeavesOnly mid new (OrAtStart mid (DumpMoment p commands l))) still.quiet (on.images (time.moments_told.0 tells))),
        λ done. on.all done ∙ ap (λ (l : List ℕ). l ++ dump_of p commands) still.quiet,
        steps_twice (λ again here. TableMoment Least p commands mid again here) ((first.table p commands opens).unopened tells refl) (on.steps (time.moments_told.0 tells)),
      )
  call_twice few (Init q) told left rest status first second = absurd first.ends
  call_twice few (Demo seed steps) told left rest status first second = absurd first.ends
  call_twice few (Upgrade q) told left rest status first second =
      let on = second.stands p commands still.opens in (
        images_twice (UpgradeMoment p q commands mid.reads old.said) (λ files stands. (inl stands, inl refl))
            (subst (λ (l : List ℕ). LeavesOnly mid new (OrAtStart mid (UpgradeMoment p q commands mid.reads l))) still.quiet (on.images (time.moments_told.0 tells))),
        steps_twice (λ again here. GrowthMoment Least p q commands mid again here) ((first.stands p commands opens).unopened tells refl) (on.steps (time.moments_told.0 tells)),
      )
  call_twice few (Ship from) told left rest status first second =
      let on = second.log p commands still.opens in (
        images_twice (ShipMoment p commands from old.said) (λ files stands. (stands, inl refl))
            (subst (λ (l : List ℕ). LeavesOnly mid new (OrAtStart mid (ShipMoment p commands from l))) still.quiet (on.images (time.moments_told.0 tells))),
        steps_twice (λ again here. TableMoment Least p commands mid again here) ((first.log p commands opens).unopened tells refl) (on.steps (time.moments_told.0 tells)),
      )
  call_twice few (Follow same) told left rest status first second =
      let on = second.stream p commands still.opens in
      let tells_mid = time.moments_told.0 tells in (
        second.bytes,
        rest,
        second.taken,
        record {
          images = λ stage is. follow_twice stage.world.history second.bytes (on.images tells_mid stage is);
          first = (on.first.0, on.first.1);
          follows_it = λ stage is. follows_from old mid new still.quiet (on.follows_it stage is);
          steps = steps_twice (λ again here. FollowingMoment Least p commands mid again here second.bytes new) ((first.stream p commands opens).unopened tells refl) (on.steps tells_mid);
        },
      )
