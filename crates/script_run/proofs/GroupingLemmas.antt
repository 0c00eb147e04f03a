-- The beginning and the end of a group.
use Rattle.std.proofs.Common.{◌≡◌, ◌∙◌, ap, refl, sym, inl, inr, ⊎_elim, ◌+◌, ◌-◌, ◌++◌, ℕ, List, [], ◌∷◌, length, take, arith, Option, None, Some, Result, Ok, Err}
use Rattle.std.specs.Prelude.{IfSome, IsTrue, IsErr}
use Rattle.std.specs.Option.{is_some}
use Rattle.std.proofs.lemmas.List.{append-nil}
use Rattle.std.proofs.Math.Seq.{take-length}
use Rattle.disk_model.specs.Disk.{Disk}
use Rattle.oper_core.specs.Meaning.{Meaning}
use Rattle.formats.specs.declared.params.Params.{Params}
use Rattle.op_codec.specs.AllOps.{all_meaning}
use Rattle.explain_core.specs.History.{Member, commands_of}
use Rattle.explain_core.specs.RunLaws.{run-append}
use Rattle.explain_core.specs.World.{World, step, run, end_of}
use Rattle.explain_core.specs.World.Step.{Begin, End}
use Rattle.standing.specs.Moments.{TakesSome}
use Rattle.running_store.specs.Courses.{force_steps}
use Rattle.running_store.specs.Running.{run_upkept}
use Rattle.cache_manager.specs.Upkeep.{upkeep_force}
use Rattle.script_lines.specs.Grammar.{AsksFor, Request}
use Rattle.script_lines.specs.declared.line.Line.TheVariants.{Group}
use Rattle.script_lines.specs.declared.line.Grouping.TheVariants.{Begin as begin_group, End as end_group}
use Rattle.script_lines.specs.Replies.{no_group, ok}
use Rattle.store_engine.specs.Calls.{IsBeginning, begin_course, end_course}
use Rattle.store_engine.specs.Engine.{EngineView, group_size, used_in}
use Rattle.store_engine.specs.Engine as of_engine
use Rattle.store_engine.specs.declared.grouping.NoGroup.{NoGroup}
use Rattle.shell_base.specs.Store.{Command, Holds, ShowsIn, meaning_in}
use Rattle.shell_base.specs.First.{stage_of}
use Rattle.shell_base.specs.HoldLaws.{in_engine}
use Rattle.script_run.specs.Courses.{Works}
use Rattle.script_run.specs.Groups.{open_in}
use Rattle.script_run.specs.Found.{IsDone}
use Rattle.script_run.specs.Replies.{IsClosing}
use Rattle.script_run.proofs.CourseLemmas.{logged_begin}
use Rattle.script_run.proofs.DoneLemmas.{by_group, risen, stage_on, unmoved}
use Rattle.script_run.proofs.GroupLemmas.{none_open}
use Rattle.script_run.proofs.MomentLemmas.{works_by}
use Rattle.script_run.proofs.OpenGroups.{in_open, some_open}
use Rattle.script_run.proofs.RunLemmas.{none_more}

-- a group has begun
module _ (p : Params) (old now : Disk) (before after : EngineView) (commands : List Command) (line : List ℕ) (holds : Holds p old before commands) (asks : AsksFor line (Group begin_group)) (alone : before.group ≡ None) where
  abbrev w : World Command
  w = holds.world

  abbrev m : Meaning Command
  m = meaning_in p

  -- after the force
  abbrev v : World Command
  v = run m w (force_steps m w)

  begun_world : run m w (force_steps m w ++ Begin ∷ []) ≡ step m v Begin
  unfolding run
  begun_world = run-append m w (force_steps m w) (Begin ∷ [])

  same_commands : commands_of v.history ≡ commands
  same_commands = (run_upkept m w (force_steps m w) (upkeep_force m w) holds.shows.shows.running.live (holds.shows.group ∙ alone)).commands ∙ holds.commands_are

  begun_commands : commands_of (step m v Begin).history ≡ commands
  unfolding step
  begun_commands = same_commands

  -- it began after all commands
  begun_open : open_in (step m v Begin) ≡ Some (length commands)
  unfolding step
  begun_open =
      let low : end_of v - 1 ≡ length v.history = omega arith in
      ap (λ (k : ℕ). Some (length (commands_of (take k v.history)))) low
      ∙ ap (λ (h : List (Member Command)). Some (length (commands_of h))) (take-length v.history)
      ∙ ap (λ (l : List Command). Some (length l)) same_commands

  pub begun_done : (value : Unit {0}) → IsBeginning all_meaning old now before after (Ok value) → IsDone p old now before after w commands line ok
  begun_done value it =
      let c = begin_course m w (used_in before) in
      let there = it.takes.follows p w holds.shows in
      let none = none_open holds.shows alone in
      let rose = risen holds (⊎_elim (λ failed. absurd failed) (λ (k : of_engine.Kept all_meaning p before now after commands). k) (it.commands.holds p commands (in_engine holds))) in
      record {
        added = [];
        replies = inr (Group begin_group, none, asks, refl);
        quiet = it.call.quiet holds.shows.shows.told;
        world = run m w c.steps;
        shows = there.1.shows;
        becomes = (Group begin_group, asks, ap (λ (u : World Command). commands_of u.history) begun_world ∙ begun_commands ∙ sym (append-nil commands));
        regroups = (Group begin_group, asks, ap (λ (u : World Command). open_in u) begun_world ∙ begun_open);
        rising = rose.rising;
        which = rose.which;
        goes = inl (
          c,
          inr (inl (Group begin_group, 0, none, tt, asks, refl)),
          refl,
          stage_on p before after w c there.1.used (it.call.identities ∙ ap (λ (l : List ℕ). before.identities + length l) (sym (logged_begin m w (used_in before)))) it.call.copied,
        );
        is_of = tt;
      }

  -- what is done for it
  pub begun_works : (old.tells_moments → TakesSome m p old now w (begin_course m w (used_in before)).steps) → Works p old now (stage_of before w) line
  begun_works takes = works_by p old now (stage_of before w) line (begin_course m w (used_in before)) (inl (inr (inl (Group begin_group, 0, none_open holds.shows alone, tt, asks, refl)))) takes

-- no group is open
pub closing_refused : {p : Params} {d : Disk} {engine : EngineView} {commands : List Command} {line : List ℕ} (request : Request) → IsClosing request → (holds : Holds p d engine commands) → AsksFor line request → engine.group ≡ None
    → IsDone p d d engine engine holds.world commands line no_group
closing_refused request closing holds asks alone = unmoved no_group holds (request, closing, asks, none_open holds.shows alone, refl) refl refl tt

-- the engine with its group closed
abbrev pub closed : EngineView → EngineView
closed engine = record engine { group = None }

-- what the engine says of that
abbrev pub ClosesGroup : Disk → EngineView → Type 0
ClosesGroup d engine = (p : Params) (w : World Command) → ShowsIn p d engine w → IsTrue (is_some w.group) → ShowsIn p d (closed engine) (step (meaning_in p) w End)

abbrev pub EndsSome : EngineView → EngineView → Result ℕ NoGroup → Type 0
EndsSome before after call = IfSome (group_size before) (λ size. (call ≡ Ok size) × (after ≡ closed before))

abbrev pub EndsNone : EngineView → EngineView → Result ℕ NoGroup → Type 0
EndsNone before after call = before.group ≡ None → IsErr call × (after ≡ before)

-- an end that is answered was of an open group
pub was_open : (before after : EngineView) (n : ℕ) → EndsNone before after (Ok n) → IsTrue (is_some before.group)
was_open before after n none = by_group before.group (λ some. some) (λ alone. cc (none alone).0)

pub was_closed : (before after : EngineView) (e : NoGroup) → EndsSome before after (Err e) → before.group ≡ None
was_closed before after e some = by_group before.group (λ inside. let it = in_open (λ size. (Err e ≡ Ok size) × (after ≡ closed before)) before some inside in cc it.1.0) (λ alone. alone)

pub closed_now : (before after : EngineView) (call : Result ℕ NoGroup) → EndsSome before after call → IsTrue (is_some before.group) → after ≡ closed before
closed_now before after call some inside = (in_open (λ size. (call ≡ Ok size) × (after ≡ closed before)) before some inside).1.1

module _ {p : Params} {d : Disk} {engine : EngineView} {commands : List Command} {line : List ℕ} (holds : Holds p d engine commands) (asks : AsksFor line (Group end_group)) where
  abbrev start : World Command
  start = holds.world

  abbrev mean : Meaning Command
  mean = meaning_in p

  ended_commands : commands_of (step mean start End).history ≡ commands
  unfolding step
  ended_commands = holds.commands_are

  ended_run : run mean start (End ∷ []) ≡ step mean start End
  unfolding run
  ended_run = refl

  pub end_done : ClosesGroup d engine → IsTrue (is_some engine.group) → IsDone p d d engine (closed engine) start commands line ok
  end_done closes some =
      let there = closes p start holds.shows (ap (λ (o : Option ℕ). is_some o) holds.shows.group ∙ some) in
      let inside = some_open holds.shows some in
      record {
        added = [];
        replies = inr (Group end_group, inside, asks, refl);
        quiet = refl;
        world = step mean start End;
        shows = there;
        becomes = (Group end_group, asks, ended_commands ∙ sym (append-nil commands));
        regroups = (Group end_group, asks, none_open there refl);
        rising = omega arith;
        which = inl refl;
        goes = inl (
          end_course mean start (used_in engine),
          inr (inl (Group end_group, 0, inside, tt, asks, refl)),
          refl,
          λ i. record { world = sym ended_run i; used = used_in engine; identities = none_more engine.identities i; copied = engine.copied },
        );
        is_of = tt;
      }
