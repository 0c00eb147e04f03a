-- How a run's moments go on from line to line.
use Rattle.std.proofs.Common.{◌≡◌, ◌⊎◌, inl, inr, ⊎_elim, ◌≤◌, ◌++◌, ◌+◌, ◌||◌, ◌↔◌, List, ℕ, [], ◌∷◌, length, take, length-append, append_assoc, refl, ap, ◌∙◌, sym, subst, arith, Bool, true, false, Contains, Option, None, Result, Ok, Err, IfOk, OnOk, OnErr, IsErr}
use Rattle.std.specs.Prelude.{⊤}
use Rattle.std.proofs.lemmas.List.{append-nil, take_all}
use Rattle.std.proofs.lemmas.List.Folds.{list_any-append}
use Rattle.std.specs.List.{flat_map, list_any}
use Rattle.disk_model.specs.Disk.{Files, Disk, IsDisk, Passes, Runs, Same, SaysFront, LeavesOnly}
use Rattle.disk_model.specs.Moments.{first_call, runs_on, started, weaker}
use Rattle.disk_model.specs.Silent.{IsSilent as IsQuiet}
use Rattle.formats.specs.Image.{EndsAt}
use Rattle.formats.specs.declared.params.Params.{Params}
use Rattle.explain_core.specs.History.{commands_of}
use Rattle.explain_core.specs.World.{World, run}
use Rattle.standing.specs.Moments.{ShowsSome, TakesSome}
use Rattle.standing.specs.Standing.{FilesShow}
use Rattle.running_store.specs.Courses.{course}
use Rattle.running_store.specs.Courses.Stop.{Through}
use Rattle.running_store.specs.Steps.Forced.{files_shown}
use Rattle.oper_core.specs.Meaning.{Meaning}
use Rattle.script_lines.specs.Grammar.{Request, AsksFor}
use Rattle.script_lines.specs.Replies.{Reply, forced, said_line}
use Rattle.op_codec.specs.AllOps.{all_meaning}
use Rattle.store_engine.specs.Engine.{EngineView, IsAfterIn, accepted_in, forced_in, used_in}
use Rattle.store_engine.specs.Grouping.{ungrouped}
use Rattle.store_engine.specs.Paces.{first_pace}
use Rattle.store_engine.specs.declared.pace.Pace.{Pace}
use Rattle.shell_base.specs.Store.{Command, meaning_in, Stands, Holds, Between}
use Rattle.shell_base.specs.First.{Stage, stage_of}
use Rattle.shell_base.specs.Status.{IsCut, status_after}
use Rattle.shell_base.specs.declared.status.Status.{Status}
use Rattle.shell_base.specs.declared.status.Status.TheVariants.{DoneWithRefusals}
use Rattle.shell_base.specs.declared.stop.Stop.{Stop}
use Rattle.shell_base.specs.HoldLaws.{holds_as, holds_stays, holds_between, told_by}
use Rattle.script_run.specs.Groups.{AreWhole, Becomes, Regroups, account_of, open_in, waiting}
use Rattle.script_run.specs.Made.{IsFront}
use Rattle.script_run.specs.Replies.{Replies, IsTrueIn, is_refusing}
use Rattle.script_run.specs.Stages.{AllGoBy, Ends, GoesBy, IsQuestion, Leads, PacedStage, finish_course, paced_in, unpaced}
use Rattle.script_run.specs.declared.tending.Tending.{Tending}
use Rattle.script_run.specs.declared.tending.Tending.TheVariants.{ByHand, ByLine}
use Rattle.script_run.specs.Answers.{IsSilent, Moment, TrueWithin, SaysTruly, with_begun, with_line}
use Rattle.script_run.specs.Courses.{IsAtWork, IsBehind, IsBetween, StageMoment, Works}
use Rattle.script_run.specs.Run.{IsTrueSaying, IsTrueSoFar, IsAnswered, IsPartly, Working, During, LineMoment, LineStage, StageSoFar, MomentSoFar, FreshGoing, Going, GoingOn, IsComplete, IsAnswerFound, Answering, IsRun}
use Rattle.script_run.proofs.GroupLemmas.{AsksOnce, after_whole, none_open, whole_ended, whole_late}
use Rattle.script_run.proofs.MomentLemmas.{found_steps, images_show, works_line}
use Rattle.script_run.proofs.TrueLemmas.{truly_on, truly_quiet, line_behind, found_truly}
use Rattle.script_run.specs.StoryLaws.{AreEven, after_within, answers_even, becomes_front, ended_whole, next_in, goes_by_more, told_goes, told_truly, said_longer, Story, story_more, story_end, said_more, spoken_more, told_whole, told_silent, told_partly}
use Rattle.script_run.specs.StartLaws.{AreFew, moment_of, moment_at, first_moment}

-- no upkeep is done
pub nothing_between : (tending : Tending) (p : Params) (at : PacedStage) (files : Files) → FilesShow (meaning_in p) p files at.stage.world → IsBetween tending p at files
nothing_between ByHand p at files shows = shows
nothing_between ByLine p at files shows = inl shows

-- the story so far
abbrev story_of : {tending : Tending} {p : Params} {first : Stage} {start now : Disk} {engine : EngineView} {commands : List Command} {script todo : List (List ℕ)} {refusing : Bool} {does : PacedStage → PacedStage → Type 0} {pace : Pace}
    → (g : GoingOn does tending p first start now engine pace commands script todo refusing) → Story p commands script todo g.replies g.waits g.account
story_of g = record { lines = g.lines; script_is = g.script_is; answers = g.answers }

-- what a moment between these has of the account splits no group
pub whole_at : {tending : Tending} {p : Params} {first : Stage} {start now : Disk} {engine : EngineView} {commands : List Command} {script todo : List (List ℕ)} {refusing : Bool} {does : PacedStage → PacedStage → Type 0} {pace : Pace} (g : GoingOn does tending p first start now engine pace commands script todo refusing) (kept : ℕ)
    → (kept ≡ forced_in engine) ⊎ ((engine.group ≡ None) × (length g.account.commands ≤ kept)) → AreWhole kept g.account
whole_at {engine = engine} g kept which = ⊎_elim
    (λ (same : kept ≡ forced_in engine). subst (λ (k : ℕ). AreWhole k g.account) (sym same) g.whole)
    (λ (late : (engine.group ≡ None) × (length g.account.commands ≤ kept)). whole_late kept g.account late.1 g.ends_within (g.group ∙ none_open g.holds.shows late.0))
    which

-- while nothing is said, the story is that of the lines before, with some first commands of the next
silent_moment : AreFew → {tending : Tending} {p : Params} {first : Stage} {start now : Disk} {engine : EngineView} {commands : List Command} {script todo : List (List ℕ)} {refusing : Bool} {does : PacedStage → PacedStage → Type 0} {pace : Pace}
    (g : GoingOn does tending p first start now engine pace commands script todo refusing) (added : List Command) → IsSilent p g.account.commands todo added → (f : Files) (s : List ℕ)
    → Between p now engine.group (forced_in engine) (length g.account.commands) (g.account.commands ++ added) f s → MomentSoFar p commands script start.said f s
silent_moment few {tending} {p} {start = start} g added silent f s b =
    moment_of few start.said (flat_map said_line g.replies) f s b.kept (told_silent (IsTrueIn p f) added (story_of g) silent) (b.quiet ∙ g.said_is) (omega (arith, g.all_before, b.enough))
    b.within (whole_at g b.kept b.which) b.stands (λ n has. omega (arith, g.acked n has, b.enough))

working_moment : AreFew → {tending : Tending} {p : Params} {first : Stage} {start now : Disk} {engine : EngineView} {commands : List Command} {script todo : List (List ℕ)} {refusing : Bool} {does : PacedStage → PacedStage → Type 0} {pace : Pace} (line : List ℕ)
    (g : GoingOn does tending p first start now engine pace commands script (line ∷ todo) refusing) → (f : Files) (s : List ℕ) → Working p now engine g.account.commands line f s → MomentSoFar p commands script start.said f s
working_moment few {tending} {p} {todo = todo} line g f s w =
    silent_moment few g w.added (⊎_elim (λ (none : w.added ≡ []). inl none) (λ (front : IsFront p g.account.commands line w.added). inr (line, todo, refl, front)) w.front) f s w.between

-- so it is while the store is tended
pub tending_moment : AreFew → {tending : Tending} {p : Params} {first : Stage} {start now : Disk} {engine : EngineView} {commands : List Command} {script todo : List (List ℕ)} {refusing : Bool} {does : PacedStage → PacedStage → Type 0} {pace : Pace}
    (g : GoingOn does tending p first start now engine pace commands script todo refusing) → (f : Files) (s : List ℕ) → Between p now engine.group (forced_in engine) (length g.account.commands) g.account.commands f s → MomentSoFar p commands script start.said f s
tending_moment few {tending} {p} {now = now} {engine = engine} g f s b =
    let c = g.account.commands in
    silent_moment few g [] (inl refl) f s (subst (λ (l : List Command). Between p now engine.group (forced_in engine) (length c) l f s) (sym (append-nil c)) b)

-- while an answer is said, it has begun, or is whole
during_moment : AreFew → {tending : Tending} {p : Params} {first : Stage} {start now : Disk} {engine : EngineView} {commands : List Command} {script todo : List (List ℕ)} {refusing : Bool} {does : PacedStage → PacedStage → Type 0} {pace : Pace} (line : List ℕ)
    (g : GoingOn does tending p first start now engine pace commands script (line ∷ todo) refusing) → (f : Files) (s : List ℕ) → During p now engine g.account.group g.account.commands line f s → MomentSoFar p commands script start.said f s
during_moment few {tending} {p} {first} {start} {now} {engine} {commands} {script} line g f s d =
    moment_of few start.said (flat_map said_line g.replies ++ take d.count (said_line d.reply)) f s d.kept
    (told_partly (IsTrueIn p f) line d.reply d.added d.count (story_of g) d.replies d.tied)
    (d.said_is ∙ ap (λ (l : List ℕ). l ++ take d.count (said_line d.reply)) g.said_is ∙ append_assoc start.said (flat_map said_line g.replies) _)
    (omega (arith, g.all_before, d.enough)) d.within (whole_at g d.kept d.which) d.stands
    (λ n has. ⊎_elim (λ (h : Contains g.replies (forced n)). omega (arith, g.acked n h, d.enough)) (λ (h : d.reply ≡ forced n). d.acked n h) (spoken_more g.replies d.reply n has))

line_moment : AreFew → {tending : Tending} {p : Params} {first : Stage} {start now : Disk} {engine : EngineView} {commands : List Command} {script todo : List (List ℕ)} {refusing : Bool} {does : PacedStage → PacedStage → Type 0} {pace : Pace} (line : List ℕ)
    (g : GoingOn does tending p first start now engine pace commands script (line ∷ todo) refusing) → (f : Files) (s : List ℕ) → LineMoment p now engine (open_in g.holds.world) g.account.commands line f s → MomentSoFar p commands script start.said f s
line_moment few {tending} {p} {now = now} {engine = engine} line g f s here = ⊎_elim (working_moment few line g f s)
    (λ (d : During p now engine (open_in g.holds.world) g.account.commands line f s). during_moment few line g f s (subst (λ (o : Option ℕ). During p now engine o g.account.commands line f s) (sym g.group) d)) here

-- while the group is closed and the log forced, the story is that of all lines
finish_moment : AreFew → {tending : Tending} {p : Params} {first : Stage} {start now : Disk} {engine : EngineView} {commands : List Command} {script : List (List ℕ)} {refusing : Bool} {does : PacedStage → PacedStage → Type 0} {pace : Pace}
    (g : GoingOn does tending p first start now engine pace commands script [] refusing) → (f : Files) (s : List ℕ) → Between p now None (forced_in engine) (length g.account.commands) g.account.commands f s → Moment p commands script start.said f s
finish_moment few {tending} {p} {first} {start} {now} {engine} {commands} {script} g f s b =
    let c = g.account.commands in
    let all : c ++ [] ≡ c = append-nil c in
    moment_at few start.said (flat_map said_line g.replies) f s b.kept (record {
      lines = g.lines;
      todo = [];
      replies = g.replies;
      waits = g.waits;
      account = g.account;
      part = [];
      added = [];
      script_is = g.script_is;
      said_is = sym (append-nil (flat_map said_line g.replies));
      answers = g.answers;
      work = inl (refl, inl refl);
    }) (b.quiet ∙ g.said_is) (omega (arith, g.all_before, b.enough)) (omega (arith, b.within, ap length all))
    (⊎_elim (λ (same : b.kept ≡ forced_in engine). ended_whole b.kept [] g.account (subst (λ (k : ℕ). AreWhole k g.account) (sym same) g.whole))
    (whole_ended b.kept g.account g.ends_within) b.which)
    (subst (λ (l : List Command). Stands p f (take b.kept l)) (sym all) b.stands) (λ n has. omega (arith, g.acked n has, b.enough))

some_left : (line : List ℕ) (todo : List (List ℕ)) → line ∷ todo ≡ [] → ⊥
some_left line todo none = cc

-- what is done while a line is answered is a moment of the stages
stage_line : {tending : Tending} {p : Params} {first : Stage} {start now : Disk} {engine : EngineView} {commands : List Command} {script todo : List (List ℕ)} {refusing : Bool} {pace : Pace} (line : List ℕ)
    (g : Going tending p first start now engine pace commands script (line ∷ todo) refusing) → (f : Files) (s : List ℕ) → LineStage p (stage_of engine g.holds.world) now.said line f s → StageSoFar tending p first script start.said f s
stage_line {tending} {p} {first} {start} {now} {engine} {commands} {script} {todo} {pace = pace} line g f s (inl b) = record {
  is = record {
    lines = g.lines;
    todo = line ∷ todo;
    replies = g.replies;
    part = [];
    stage = g.stage;
    script_is = g.script_is;
    said_is = b.silent ∙ g.said_is ∙ sym (append-nil (start.said ++ flat_map said_line g.replies));
    goes = g.goes;
    work = inr (paced_in engine g.holds.world pace, g.done, inl (refl, record { its = b.holds.its; due = b.holds.due; shows = b.holds.shows }));
  };
  waiting = λ none. absurd (some_left line todo none);
}
stage_line {tending} {p} {first} {start} {now} {engine} {commands} {script} {todo} {pace = pace} line g f s (inr b) = record {
  is = record {
    lines = g.lines;
    todo = line ∷ todo;
    replies = g.replies;
    part = b.0;
    stage = g.stage;
    script_is = g.script_is;
    said_is = b.1 ∙ ap (λ (l : List ℕ). l ++ b.0) g.said_is;
    goes = g.goes;
    work = inr (paced_in engine g.holds.world pace, g.done, inr (line, todo, refl, b.2));
  };
  waiting = λ none. absurd (some_left line todo none);
}

courses_more : {tending : Tending} {p : Params} {first : Stage} {start now new : Disk} {engine after : EngineView} {commands : List Command} {script todo : List (List ℕ)} {refusing : Bool} {pace : Pace} {result : Result Bool Stop} (line : List ℕ)
    (g : Going tending p first start now engine pace commands script (line ∷ todo) refusing) → Passes start now → Answering p now new engine after g.holds.world g.account.commands line result
    → start.tells_moments → LeavesOnly start new (StageSoFar tending p first script start.said)
courses_more {tending} {p} {first} {start} {now} {new} {engine} {after} {commands} {script} {todo} line g time a told =
    runs_on start now new (StageSoFar tending p first script start.said) (g.steps told)
    (weaker now new (LineStage p (stage_of engine g.holds.world) now.said line) (StageSoFar tending p first script start.said) (a.steps (time.moments_told.0 told)) (stage_line line g))

-- so far is a moment
pub told_so_far : {tending : Tending} {p : Params} {first : Stage} {start now : Disk} {script : List (List ℕ)} → LeavesOnly start now (StageSoFar tending p first script start.said) → LeavesOnly start now (StageMoment tending p first script start.said)
told_so_far {tending} {p} {first} {start} {now} {script} leaves = weaker start now (StageSoFar tending p first script start.said) (StageMoment tending p first script start.said) leaves (λ f s m. m.is)

-- the end of an open group and the force after the last line
stage_finish : {tending : Tending} {p : Params} {first : Stage} {start now : Disk} {engine : EngineView} {commands : List Command} {script : List (List ℕ)} {refusing : Bool} {pace : Pace} (g : Going tending p first start now engine pace commands script [] refusing)
    → (f : Files) (s : List ℕ) → IsQuiet (ShowsSome (meaning_in p) p g.holds.world (finish_course (meaning_in p) g.holds.world (used_in engine)).steps) now.said f s → StageMoment tending p first script start.said f s
stage_finish {tending} {p} {first} {start} {now} {engine} {commands} {script} {pace = pace} g f s b = record {
  lines = g.lines;
  todo = [];
  replies = g.replies;
  part = [];
  stage = g.stage;
  script_is = g.script_is;
  said_is = b.silent ∙ g.said_is ∙ sym (append-nil (start.said ++ flat_map said_line g.replies));
  goes = g.goes;
  work = inr (paced_in engine g.holds.world pace, g.done, inl (refl, record { its = finish_course (meaning_in p) g.holds.world (used_in engine); due = refl; shows = b.holds }));
}

-- at the start nothing is done
abbrev pub stage_start : {tending : Tending} {p : Params} {start : Disk} {engine : EngineView} {commands : List Command} (script : List (List ℕ)) → IsDisk start → (holds : Holds p start engine commands) → start.tells_moments → (f : Files) (s : List ℕ) → start.left_since start.clock f s
    → StageSoFar tending p (stage_of engine holds.world) script start.said f s
stage_start {tending} {p} {start} {engine} {commands} script lawful holds told f s left =
    let shows : FilesShow (meaning_in p) p f holds.world = images_show holds.shows told f s left in
    record {
      is = record {
        lines = [];
        todo = script;
        replies = [];
        part = [];
        stage = unpaced (stage_of engine holds.world);
        script_is = refl;
        said_is = lawful.said_now told f s left ∙ sym (append-nil start.said) ∙ sym (append-nil (start.said ++ []));
        goes = refl;
        work = inl (refl, nothing_between tending p (unpaced (stage_of engine holds.world)) f shows);
      };
      waiting = λ none. (refl, nothing_between tending p (unpaced (stage_of engine holds.world)) f shows);
    }

-- one line more is to come
line_longer : (p : Params) (stage : Stage) (line next part : List ℕ) (f : Files) (rest : List (List ℕ)) → IsAtWork p stage (next ∷ rest) part f → IsAtWork p stage ((next ∷ rest) ++ line ∷ []) part f
line_longer p stage line next part f rest (inl work) = inl (work.0, record { its = work.1.its; due = work.1.due; shows = work.1.shows })
line_longer p stage line next part f rest (inr work) = inr (work.0, work.1 ++ line ∷ [], ap (λ (l : List (List ℕ)). l ++ line ∷ []) work.2, work.3)

work_longer : (tending : Tending) (p : Params) (stage : PacedStage) (line part : List ℕ) (f : Files) (todo : List (List ℕ)) → (todo ≡ [] → (part ≡ []) × IsBetween tending p stage f) → IsBehind tending p stage todo part f → IsBehind tending p stage (todo ++ line ∷ []) part f
work_longer tending p stage line part f [] waits work = inl (waits refl)
work_longer tending p stage line part f (next ∷ rest) waits (inl between) = inl between
work_longer tending p stage line part f (next ∷ rest) waits (inr (tended, upkept, work)) = inr (tended, upkept, line_longer p tended.stage line next part f rest work)

pub stage_longer : {tending : Tending} {p : Params} {first : Stage} {script : List (List ℕ)} {before : List ℕ} (line : List ℕ) (f : Files) (s : List ℕ) → StageSoFar tending p first script before f s → StageSoFar tending p first (script ++ line ∷ []) before f s
stage_longer {tending} {p} line f s m = record {
  is = record {
    lines = m.is.lines;
    todo = m.is.todo ++ line ∷ [];
    replies = m.is.replies;
    part = m.is.part;
    stage = m.is.stage;
    script_is = ap (λ (l : List (List ℕ)). l ++ line ∷ []) m.is.script_is ∙ append_assoc m.is.lines m.is.todo (line ∷ []);
    said_is = m.is.said_is;
    goes = m.is.goes;
    work = work_longer tending p m.is.stage line m.is.part f m.is.todo m.waiting m.is.work;
  };
  waiting = λ none. absurd (omega (arith, ap (λ (l : List (List ℕ)). length l) none, length-append m.is.todo (line ∷ [])));
}

-- the moments of a run, one line further
moments_more : AreFew → {tending : Tending} {p : Params} {first : Stage} {start now new : Disk} {engine after : EngineView} {commands : List Command} {script todo : List (List ℕ)} {refusing : Bool} {does : PacedStage → PacedStage → Type 0} {pace : Pace} {result : Result Bool Stop} (line : List ℕ)
    (g : GoingOn does tending p first start now engine pace commands script (line ∷ todo) refusing) → Passes start now → Answering p now new engine after g.holds.world g.account.commands line result
    → start.tells_moments → LeavesOnly start new (MomentSoFar p commands script start.said)
moments_more few {tending} {p} {first} {start} {now} {new} {engine} {after} {commands} {script} {todo} line g time a told =
    runs_on start now new (MomentSoFar p commands script start.said) (g.images told)
    (weaker now new (LineMoment p now engine (open_in g.holds.world) g.account.commands line) (MomentSoFar p commands script start.said) (a.images (time.moments_told.0 told)) (line_moment few line g))

-- a moment so far is a moment
pub moments_so_far : {p : Params} {start now : Disk} {commands : List Command} {script : List (List ℕ)} → LeavesOnly start now (MomentSoFar p commands script start.said) → LeavesOnly start now (Moment p commands script start.said)
moments_so_far {p} {start} {now} {commands} {script} leaves = weaker start now (MomentSoFar p commands script start.said) (Moment p commands script start.said) leaves (λ f s m. m.is)

acked_more : (replies : List Reply) (reply : Reply) (least kept : ℕ) → ((n : ℕ) → Contains replies (forced n) → n ≤ least) → least ≤ kept
    → ((n : ℕ) → reply ≡ forced n → n ≤ kept) → (n : ℕ) → Contains (replies ++ reply ∷ []) (forced n) → n ≤ kept
acked_more replies reply least kept before le here n has =
    ⊎_elim (λ (h : Contains replies (forced n)). omega (arith, before n h, le)) (λ (h : reply ≡ forced n). here n h) (spoken_more replies reply n has)

kind_more : (refusing kind : Bool) (replies : List Reply) (reply : Reply) → refusing ≡ list_any is_refusing replies → kind ≡ is_refusing reply → (refusing || kind) ≡ list_any is_refusing (replies ++ reply ∷ [])
kind_more refusing kind replies reply before here = grind (arith, before, here, list_any-append is_refusing replies (reply ∷ []))

-- there are as many answers as lines
pub even_of : {tending : Tending} {p : Params} {first : Stage} {start now : Disk} {engine : EngineView} {commands : List Command} {script todo : List (List ℕ)} {refusing : Bool} {does : PacedStage → PacedStage → Type 0} {pace : Pace}
    (g : GoingOn does tending p first start now engine pace commands script todo refusing) → AreEven g.lines g.replies g.waits
even_of {tending} {p} {commands = commands} g = answers_even p (account_of commands) g.lines g.replies g.waits g.account g.answers

-- what is replied, by the group of the account
abbrev replies_in : {tending : Tending} {p : Params} {first : Stage} {start now : Disk} {engine : EngineView} {commands : List Command} {script todo : List (List ℕ)} {refusing : Bool} {does : PacedStage → PacedStage → Type 0} {pace : Pace} (g : GoingOn does tending p first start now engine pace commands script todo refusing) (line : List ℕ) (reply : Reply) (added : List Command)
    → Replies p (open_in g.holds.world) g.account.commands line reply added → Replies p g.account.group g.account.commands line reply added
replies_in {tending} {p} g line reply added replies = subst (λ (o : Option ℕ). Replies p o g.account.commands line reply added) (sym g.group) replies

abbrev truly_in : {tending : Tending} {p : Params} {first : Stage} {start now : Disk} {engine : EngineView} {commands : List Command} {script todo : List (List ℕ)} {refusing : Bool} {does : PacedStage → PacedStage → Type 0} {pace : Pace} (g : GoingOn does tending p first start now engine pace commands script todo refusing) (old new : Disk) (line : List ℕ) (reply : Reply) (added : List Command)
    → LeavesOnly old new (IsTrueSaying p old.said (waiting (open_in g.holds.world) (g.account.commands ++ added)) line reply) → LeavesOnly old new (IsTrueSaying p old.said (waiting g.account.group (g.account.commands ++ added)) line reply)
truly_in {tending} {p} g old new line reply added truly = subst (λ (o : Option ℕ). LeavesOnly old new (IsTrueSaying p old.said (waiting o (g.account.commands ++ added)) line reply)) (sym g.group) truly

-- The run is one line further, which was answered.
pub record GoneOn {tending : Tending} {p : Params} {first : Stage} {start now new : Disk} {engine after : EngineView} {commands : List Command} {script todo : List (List ℕ)} {refusing kind : Bool} {pace : Pace} (line : List ℕ) (g : Going tending p first start now engine pace commands script (line ∷ todo) refusing)
    (whole : IsAnswered p now new engine after g.holds.world g.account.commands line kind) : Type 0 where
  pub later : FreshGoing tending p first start new after pace commands script todo (refusing || kind)
  pub lines_are : later.lines ≡ g.lines ++ line ∷ []
  pub replies_are : later.replies ≡ g.replies ++ whole.reply ∷ []
  pub commands_are : later.account.commands ≡ whole.all
  pub world_is : later.holds.world ≡ whole.kept.holds.world

pub gone_on : AreFew → AsksOnce → {tending : Tending} {p : Params} {first : Stage} {start now new : Disk} {engine after : EngineView} {commands : List Command} {script todo : List (List ℕ)} {refusing kind : Bool} {pace : Pace} {result : Result Bool Stop} (line : List ℕ)
    (g : Going tending p first start now engine pace commands script (line ∷ todo) refusing) → Passes start now → Answering p now new engine after g.holds.world g.account.commands line result
    → (whole : IsAnswered p now new engine after g.holds.world g.account.commands line kind) → GoneOn line g whole
gone_on few once {tending} {p} {first} {start} {now} {new} {engine} {after} {commands} {script} {todo} {refusing} {kind} {pace} line g time a whole =
    let a0 = g.account in
    let reply = whole.reply in
    let added = whole.added in
    let replies = replies_in g line reply added whole.replies in
    let becomes = subst (λ (o : Option ℕ). Becomes line reply o a0.commands added whole.all) (sym g.group) whole.becomes in
    let next = next_in once a0 line reply added whole.all (open_in whole.kept.holds.world) becomes (subst (λ (o : Option ℕ). Regroups line reply a0.commands o (open_in whole.kept.holds.world)) (sym g.group) whole.regroups) in
    let b = next.account in
    let within = (becomes_front line reply a0.group a0.commands added whole.all becomes (forced_in after) whole.kept.holds.says.forced).0 in
    let story = story_more line reply added b (story_of g) replies next.after in
    let ops = waiting a0.group (a0.commands ++ added) in
    let which : (forced_in after ≡ forced_in engine) ⊎ ((engine.group ≡ None) × (length a0.commands ≤ forced_in after)) = ⊎_elim (λ (same : forced_in after ≡ forced_in engine). inl same)
    (λ (later : (engine.group ≡ None) × (accepted_in engine ≤ forced_in after)). inr (later.0, omega (arith, later.1, g.holds.says.accepted))) whole.kept.which in
    record {
      later = record {
        lines = story.lines;
        replies = g.replies ++ reply ∷ [];
        waits = g.waits ++ ops ∷ [];
        account = b;
        script_is = story.script_is;
        said_is = whole.said ∙ ap (λ (l : List ℕ). l ++ said_line reply) g.said_is ∙ append_assoc start.said (flat_map said_line g.replies) (said_line reply)
            ∙ ap (λ (l : List ℕ). start.said ++ l) (sym (said_more g.replies reply));
        answers = story.answers;
        holds = holds_as (sym next.commands_are) whole.kept.holds;
        group = next.group_is;
        whole = after_whole once p (forced_in after) a0 line reply added b replies next.after (whole_at g (forced_in after) which) within;
        ends_within = after_within a0 line reply added b next.after g.ends_within;
        all_before = omega (arith, g.all_before, whole.kept.rising);
        acked = acked_more g.replies reply (forced_in engine) (forced_in after) g.acked whole.kept.rising whole.acked;
        kind = kind_more refusing kind g.replies reply g.kind whole.kind;
        images = moments_more few line g time a;
        truly = λ told. subst (λ (l : List ℕ). LeavesOnly start new (IsTrueSoFar p start.said story.lines (g.replies ++ reply ∷ []) (g.waits ++ ops ∷ []) l)) (sym whole.said)
            (truly_on ops line reply (even_of g) (g.truly told) g.said_is (truly_in g now new line reply added (whole.truly (time.moments_told.0 told))));
        stage = paced_in after whole.kept.holds.world pace;
        goes = goes_by_more tending p (unpaced first) g.stage (paced_in after whole.kept.holds.world pace) g.lines g.replies line reply g.goes (paced_in engine g.holds.world pace, g.done, whole.leads, refl);
        done = refl;
        steps = courses_more line g time a;
      };
      lines_are = refl;
      replies_are = refl;
      commands_are = next.commands_are;
      world_is = refl;
    }

pub goes_on : AreFew → AsksOnce → {tending : Tending} {p : Params} {first : Stage} {start now new : Disk} {engine after : EngineView} {commands : List Command} {script todo : List (List ℕ)} {refusing kind : Bool} {pace : Pace} {result : Result Bool Stop} (line : List ℕ)
    (g : Going tending p first start now engine pace commands script (line ∷ todo) refusing) → Passes start now → result ≡ Ok kind → Answering p now new engine after g.holds.world g.account.commands line result
    → FreshGoing tending p first start new after pace commands script todo (refusing || kind)
goes_on few once {tending} {p} {first} {start} {now} {new} {engine} {after} line g time is a =
    let on = gone_on few once line g time a (subst (λ (r : Result Bool Stop). IfOk r (IsAnswered p now new engine after g.holds.world g.account.commands line)) is a.whole) in
    on.later

-- a store is open: nothing is said, and the whole script is still to be answered
abbrev pub opened : AreFew → {tending : Tending} {p : Params} {start : Disk} {engine : EngineView} {commands : List Command} {pace : Pace} (script : List (List ℕ)) → IsDisk start → (holds : Holds p start engine commands)
    → forced_in engine ≡ length commands → engine.group ≡ None → pace ≡ first_pace → FreshGoing tending p (stage_of engine holds.world) start start engine pace commands script script false
opened few {tending} {p} {start} {engine} {commands} script lawful holds all alone is = record {
  lines = [];
  replies = [];
  waits = [];
  account = account_of commands;
  script_is = refl;
  said_is = sym (append-nil start.said);
  answers = refl;
  holds = holds;
  group = sym (none_open holds.shows alone);
  whole = record { closed = tt; group = tt };
  ends_within = record { ends = tt; group = tt };
  all_before = omega (arith, all);
  acked = λ n has. absurd (omega (arith, has.1));
  kind = refl;
  images = λ told. weaker start start (Between p start engine.group (forced_in engine) (length commands) commands) (MomentSoFar p commands script start.said) (holds_between lawful holds told)
      (λ f s b. first_moment few script f s (subst (λ (n : ℕ). Between p start engine.group n (length commands) commands f s) all b));
  truly = λ told. weaker start start (Between p start engine.group (forced_in engine) (length commands) commands) (IsTrueSoFar p start.said [] [] [] start.said) (holds_between lawful holds told)
      (λ f s b. record { true_within = tt; no_longer = omega (arith, ap length b.quiet) });
  stage = unpaced (stage_of engine holds.world);
  goes = refl;
  done = λ i. paced_in engine holds.world (sym is i);
  steps = λ told. started start (StageSoFar tending p (stage_of engine holds.world) script start.said) (stage_start script lawful holds told);
}

-- What a run said is the answers to these lines, the last one begun or whole, with these commands after them all; the lines that
-- were taken begin with these and the next ones.
pub record IsTold (tending : Tending) (p : Params) (first : Stage) (commands : List Command) (script : List (List ℕ)) (start new : Disk) (lines : List (List ℕ)) (replies : List Reply) (every : List Command) (next : List (List ℕ)) : Type 0 where
  pub truly : SaysTruly tending p first commands script start new
  pub lines_are : with_line truly.says.story.lines truly.says.story.work ≡ lines
  pub replies_are : with_begun truly.says.story.replies truly.says.story.work ≡ replies
  -- or these are the first of them
  pub all : (truly.says.story.account.commands ++ truly.says.story.added ≡ every) ⊎ ((next ≡ []) × (n : ℕ) × (every ≡ take n (truly.says.story.account.commands ++ truly.says.story.added)))
  pub rest : List (List ℕ)
  pub taken_are : with_line truly.says.story.lines truly.says.story.work ++ take 1 truly.says.story.todo ≡ (lines ++ next) ++ rest

-- what a run says that ends between two lines
pub told_so_far_by : {tending : Tending} {p : Params} {first : Stage} {start now : Disk} {engine : EngineView} {commands : List Command} {script todo : List (List ℕ)} {refusing : Bool} {does : PacedStage → PacedStage → Type 0} {pace : Pace} {new : Disk} (next rest : List (List ℕ)) → take 1 todo ≡ next ++ rest
    → (g : GoingOn does tending p first start now engine pace commands script todo refusing) → new.said ≡ now.said → (start.tells_moments → LeavesOnly start new (TrueWithin p start.said g.lines g.replies g.waits))
    → IsTold tending p first commands script start new g.lines g.replies g.account.commands next
told_so_far_by {tending} {p} {first} {start} {now} {engine} {new = new} next rest is g quiet truly = let all = told_whole (λ ops line reply. ⊤) (story_of g) in record {
  truly = record {
    says = record { bytes = flat_map said_line g.replies; since = quiet ∙ g.said_is; story = all.story };
    truly = λ told. told_truly start new start.said all (truly told);
    last = g.stage;
    goes = told_goes tending (unpaced first) g.stage all g.goes;
  };
  lines_are = all.lines_are;
  replies_are = all.with_last;
  all = inl (append-nil g.account.commands);
  rest = rest;
  taken_are = ap (λ (l : List (List ℕ)). g.lines ++ l) is ∙ sym (append_assoc g.lines next rest);
}

pub told_here : {tending : Tending} {p : Params} {first : Stage} {start now : Disk} {engine : EngineView} {commands : List Command} {script todo : List (List ℕ)} {refusing : Bool} {does : PacedStage → PacedStage → Type 0} {pace : Pace}
    → (g : GoingOn does tending p first start now engine pace commands script todo refusing) → IsTold tending p first commands script start now g.lines g.replies g.account.commands []
told_here {tending} {p} {start = start} {now = now} {todo = todo} g =
    told_so_far_by [] (take 1 todo) refl g refl (λ told. weaker start now (IsTrueSoFar p start.said g.lines g.replies g.waits now.said) (TrueWithin p start.said g.lines g.replies g.waits) (g.truly told) (λ files said t. t.true_within))

-- a run that ends between two lines
pub ends_here : {tending : Tending} {p : Params} {first : Stage} {start now : Disk} {engine : EngineView} {commands : List Command} {script todo : List (List ℕ)} {refusing : Bool} {does : PacedStage → PacedStage → Type 0} {pace : Pace} {status : Status}
    → GoingOn does tending p first start now engine pace commands script todo refusing → IsRun tending p first start now commands script status
ends_here g = record {
  says = (told_here g).truly;
  images = λ told. moments_so_far (g.images told);
  steps = λ told. told_so_far (g.steps told);
  unclosed = λ cut told. g.images told;
}

-- one that ends while a line is answered, of which nothing is said, or a beginning of its answer
module _ {tending : Tending} {p : Params} {first : Stage} {start now new : Disk} {engine after : EngineView} {commands : List Command} {script todo : List (List ℕ)} {refusing : Bool} {pace : Pace} {result : Result Bool Stop} (line : List ℕ)
    (g : Going tending p first start now engine pace commands script (line ∷ todo) refusing) (time : Passes start now) (a : Answering p now new engine after g.holds.world g.account.commands line result) where
  pub told_quiet : new.said ≡ now.said → IsTold tending p first commands script start new g.lines g.replies g.account.commands (line ∷ [])
  told_quiet quiet = told_so_far_by (line ∷ []) [] refl g quiet (λ told. truly_quiet (even_of g) (g.truly told) g.said_is (a.images (time.moments_told.0 told)) line_behind)

  pub told_begun : (part : IsPartly p now new (stage_of engine g.holds.world) g.account.commands line) (kept : ℕ) → kept ≤ length (g.account.commands ++ part.added) → AreWhole kept g.account
      → IsTold tending p first commands script start new (g.lines ++ line ∷ []) (g.replies ++ part.reply ∷ []) (take kept (g.account.commands ++ part.added)) []
  told_begun part kept within whole =
      let a0 = g.account in
      let ops = waiting a0.group (a0.commands ++ part.added) in
      let told_part = told_partly (λ ops line reply. ⊤) line part.reply part.added part.count (story_of g) (replies_in g line part.reply part.added part.replies) tt in
      record {
        truly = record {
          says = record {
            bytes = flat_map said_line g.replies ++ take part.count (said_line part.reply);
            since = part.said_is ∙ ap (λ (l : List ℕ). l ++ take part.count (said_line part.reply)) g.said_is ∙ append_assoc start.said (flat_map said_line g.replies) _;
            story = told_part.story;
          };
          truly = λ told. told_truly start new start.said told_part
              (weaker start new (IsTrueSoFar p start.said (g.lines ++ line ∷ []) (g.replies ++ part.reply ∷ []) (g.waits ++ ops ∷ []) (now.said ++ said_line part.reply))
              (TrueWithin p start.said (g.lines ++ line ∷ []) (g.replies ++ part.reply ∷ []) (g.waits ++ ops ∷ []))
              (truly_on ops line part.reply (even_of g) (g.truly told) g.said_is (truly_in g now new line part.reply part.added (part.truly (time.moments_told.0 told)))) (λ files said t. t.true_within));
          last = record { stage = part.after; pace = pace };
          goes = told_goes tending (unpaced first) (record { stage = part.after; pace = pace }) told_part
              (goes_by_more tending p (unpaced first) g.stage (record { stage = part.after; pace = pace }) g.lines g.replies line part.reply g.goes (paced_in engine g.holds.world pace, g.done, part.leads, refl));
        };
        lines_are = told_part.lines_are;
        replies_are = told_part.with_last;
        all = inr (refl, kept, sym (told_part.all kept within whole).1);
        rest = take 1 told_part.story.todo;
        taken_are = ap (λ (l : List (List ℕ)). l ++ take 1 told_part.story.todo) (told_part.lines_are ∙ sym (append-nil (g.lines ++ line ∷ [])));
      }

pub ends_in_line : AreFew → {tending : Tending} {p : Params} {first : Stage} {start now new : Disk} {engine after : EngineView} {commands : List Command} {script todo : List (List ℕ)} {refusing : Bool} {pace : Pace} {result : Result Bool Stop} {stop : Stop} {status : Status} (line : List ℕ)
    (g : Going tending p first start now engine pace commands script (line ∷ todo) refusing) → Passes start now → result ≡ Err stop → Answering p now new engine after g.holds.world g.account.commands line result → IsRun tending p first start new commands script status
ends_in_line few {tending} {p} {first} {start} {now} {new} {engine} {after} {commands} {script} {todo} line g time is a = record {
  says = ⊎_elim
      (λ (quiet : new.said ≡ now.said). (told_quiet line g time a quiet).truly)
      (λ (part : IsPartly p now new (stage_of engine g.holds.world) g.account.commands line). (told_begun line g time a part (forced_in engine) (omega (arith, g.holds.says.forced, length-append g.account.commands part.added)) g.whole).truly)
      (subst (λ (r : Result Bool Stop). OnErr r ((new.said ≡ now.said) ⊎ IsPartly p now new (stage_of engine g.holds.world) g.account.commands line)) is a.partly);
  images = λ told. moments_so_far (moments_more few line g time a told);
  steps = λ told. told_so_far (courses_more line g time a told);
  unclosed = λ cut told. moments_more few line g time a told;
}

-- one that ends in the last force, or after it
pub told_finish : {tending : Tending} {p : Params} {first : Stage} {start now new : Disk} {engine : EngineView} {commands : List Command} {script : List (List ℕ)} {refusing : Bool} {does : PacedStage → PacedStage → Type 0} {pace : Pace} (g : GoingOn does tending p first start now engine pace commands script [] refusing) → Passes start now → new.said ≡ now.said
    → (now.tells_moments → LeavesOnly now new (Between p now None (forced_in engine) (length g.account.commands) g.account.commands)) → IsTold tending p first commands script start new g.lines g.replies g.account.commands []
told_finish g time quiet images = told_so_far_by [] [] refl g quiet (λ told. truly_quiet (even_of g) (g.truly told) g.said_is (images (time.moments_told.0 told)) (λ files said b. omega (arith, ap length b.quiet)))

pub ends_in_finish : AreFew → {tending : Tending} {p : Params} {first : Stage} {start now new : Disk} {engine : EngineView} {commands : List Command} {script : List (List ℕ)} {refusing : Bool} {pace : Pace} {status : Status} → (IsCut status → ⊥)
    → (g : Going tending p first start now engine pace commands script [] refusing) → Passes start now → new.said ≡ now.said
    → (now.tells_moments → LeavesOnly now new (Between p now None (forced_in engine) (length g.account.commands) g.account.commands))
    → (now.tells_moments → TakesSome (meaning_in p) p now new g.holds.world (finish_course (meaning_in p) g.holds.world (used_in engine)).steps) → IsRun tending p first start new commands script status
ends_in_finish few {tending} {p} {first} {start} {now} {new} {engine} {commands} {script} uncut g time quiet images takes = record {
  says = (told_finish g time quiet images).truly;
  images = λ told. runs_on start now new (Moment p commands script start.said) (moments_so_far (g.images told))
      (weaker now new (Between p now None (forced_in engine) (length g.account.commands) g.account.commands) (Moment p commands script start.said) (images (time.moments_told.0 told)) (finish_moment few g));
  steps = λ told. runs_on start now new (StageMoment tending p first script start.said) (told_so_far (g.steps told))
      (weaker now new (IsQuiet (ShowsSome (meaning_in p) p g.holds.world (finish_course (meaning_in p) g.holds.world (used_in engine)).steps) now.said) (StageMoment tending p first script start.said) (takes (time.moments_told.0 told)) (stage_finish g));
  unclosed = λ cut told. absurd (uncut cut);
}

tells : (refusing any : Bool) → refusing ≡ any → (status_after (Ok refusing) ≡ DoneWithRefusals) ↔ (any ≡ true)
tells true any is = (λ e. sym is, λ e. refl)
tells false any is = (λ e. cc, λ e. cc (e, is))

-- the end of a whole run
pub completes : {tending : Tending} {p : Params} {first : Stage} {start now new : Disk} {engine after : EngineView} {commands : List Command} {script : List (List ℕ)} {refusing : Bool} {pace : Pace}
    (g : Going tending p first start now engine pace commands script [] refusing) → new.said ≡ now.said → forced_in after ≡ length g.account.commands → Holds p new after g.account.commands
    → after.parts.log.log.pending ≡ [] → IsAfterIn all_meaning p new after g.holds.world (finish_course (meaning_in p) g.holds.world (used_in engine))
    → IsComplete tending p first start new commands script (status_after (Ok refusing))
completes {tending} {p} {first} {start} {now} {new} {engine} {after} {commands} {script} {refusing} {pace} g quiet all holds emptied taken =
    let c = g.account.commands in
    let whole : take (forced_in after) c ≡ c = take_all (forced_in after) c (omega (arith, all)) in
    let images = holds.says.images in
    record {
      replies = g.replies;
      waits = g.waits;
      account = g.account;
      answers = story_end (story_of g) refl;
      said_is = quiet ∙ g.said_is;
      stands = (
        subst (λ (l : List Command). Stands p new.reads l) whole images.0,
        λ told f s left. subst (λ (l : List Command). Stands p f l) whole (images.1 told f s left),
      );
      settled = holds.shows.shows.log.keeps.settled;
      refusals = tells refusing (list_any is_refusing g.replies) g.kind;
      last = g.stage;
      tended = paced_in engine g.holds.world pace;
      upkept = g.done;
      shows = files_shown (meaning_in p) p new after.parts (ungrouped (run (meaning_in p) g.holds.world (finish_course (meaning_in p) g.holds.world (used_in engine)).steps)) taken.shows.shows;
      ends_last = subst (λ (n : ℕ). EndsAt new.reads n) taken.used (holds.says.none_waits emptied).1.0;
      goes = subst (λ (l : List (List ℕ)). AllGoBy tending p (unpaced first) l g.replies g.stage) (sym (g.script_is ∙ append-nil g.lines)) g.goes;
    }

-- the lines that are left
pub goes_to : {tending : Tending} {p : Params} {first : Stage} {start now : Disk} {engine : EngineView} {commands : List Command} {script todo : List (List ℕ)} {refusing : Bool} {does : PacedStage → PacedStage → Type 0} {pace : Pace} (rest : List (List ℕ))
    → GoingOn does tending p first start now engine pace commands script todo refusing → todo ≡ rest → GoingOn does tending p first start now engine pace commands script rest refusing
goes_to {tending} {p} {first} {start} {now} {engine} {commands} {script} {todo} {refusing} {does} {pace} rest g is = subst (λ (l : List (List ℕ)). GoingOn does tending p first start now engine pace commands script l refusing) is g

-- a moment at which no command was added
abbrev pub works_quietly : {p : Params} {old : Disk} {before : EngineView} {commands : List Command} {line : List ℕ} {f : Files} {s : List ℕ} → Between p old before.group (forced_in before) (length commands) commands f s
    → Working p old before commands line f s
works_quietly {p} {old} {before} {commands} {line} {f} {s} b = record {
  added = [];
  front = inl refl;
  between = subst (λ (l : List Command). Between p old before.group (forced_in before) (length commands) l f s) (sym (append-nil commands)) b;
}

pub works_none : {p : Params} {old mid : Disk} {before : EngineView} {commands : List Command} {line : List ℕ} → (old.tells_moments → LeavesOnly old mid (Between p old before.group (forced_in before) (length commands) commands))
    → old.tells_moments → LeavesOnly old mid (Working p old before commands line)
works_none {p} {old} {mid} {before} {commands} {line} images told =
    weaker old mid (Between p old before.group (forced_in before) (length commands) commands) (Working p old before commands line) (images told) (λ f s b. works_quietly b)

-- the moments while the answer is found and said
pub found_images : {p : Params} {old mid new : Disk} {before after : EngineView} {w : World Command} {commands : List Command} {line : List ℕ} {reply : Reply} → accepted_in before ≡ length commands
    → (old.tells_moments → LeavesOnly old mid (Working p old before commands line)) → Passes old mid → IsAnswerFound p old mid before after w commands line reply
    → Runs Same (SaysFront (said_line reply)) mid new → old.tells_moments → LeavesOnly old new (LineMoment p old before (open_in w) commands line)
found_images {p} {old} {mid} {new} {before} {after} {w} {commands} {line} {reply} was images time found say told =
    runs_on old mid new (LineMoment p old before (open_in w) commands line)
    (weaker old mid (Working p old before commands line) (LineMoment p old before (open_in w) commands line) (images told) (λ f s b. inl b))
    (first_call mid new (LineMoment p old before (open_in w) commands line) told_now say.time during)
  where
    told_now : mid.tells_moments
    told_now = time.moments_told.0 told

    during : (f : Files) (s : List ℕ) → new.left_since mid.clock f s → LineMoment p old before (open_in w) commands line f s
    during f s left =
        let from = say.crash told_now f s left in
        let front = becomes_front line reply (open_in w) commands found.added found.all found.becomes (forced_in after) found.kept.holds.says.forced in
        inr (record {
          reply = reply;
          added = found.added;
          replies = found.replies;
          tied = subst (λ (x : Files). IsTrueIn p x (waiting (open_in w) (commands ++ found.added)) line reply) (sym from.0.2) (found.tied.1 told_now from.0.0 mid.said from.0.1);
          count = from.1.0;
          said_is = from.1.2 ∙ ap (λ (l : List ℕ). l ++ take from.1.0 (said_line reply)) found.quiet;
          kept = forced_in after;
          enough = found.kept.rising;
          within = front.0;
          which = ⊎_elim (λ (same : forced_in after ≡ forced_in before). inl same) (λ (later : (before.group ≡ None) × (accepted_in before ≤ forced_in after)). inr (later.0, omega (arith, later.1, was))) found.kept.which;
          stands = subst (λ (l : List Command). Stands p f l) front.1 (subst (λ (x : Files). Stands p x (take (forced_in after) found.all)) (sym from.0.2) (found.kept.holds.says.images.1 told_now from.0.0 mid.said from.0.1));
          acked = found.acked;
        })

-- the answer that was found has been said, or a beginning of it
abbrev pub found_partly : {p : Params} {old mid new : Disk} {before after : EngineView} {w : World Command} {commands : List Command} {line : List ℕ} {reply : Reply}
    → (old.tells_moments → LeavesOnly old mid (Working p old before commands line)) → Passes old mid → IsAnswerFound p old mid before after w commands line reply
    → Runs Same (SaysFront (said_line reply)) mid new → IsPartly p old new (stage_of before w) commands line
found_partly {after = after} {reply = reply} images time found say = let front = say.said (told_by found.kept.holds) in record {
  reply = reply;
  added = found.added;
  replies = found.replies;
  count = front.0;
  said_is = front.2 ∙ ap (λ (l : List ℕ). l ++ take front.0 (said_line reply)) found.quiet;
  truly = found_truly images time found say;
  after = stage_of after found.kept.holds.world;
  leads = found.leads;
}

abbrev pub found_said : {p : Params} {old mid new : Disk} {before after : EngineView} {w : World Command} {commands : List Command} {line : List ℕ} {reply : Reply} (result : Result Bool Stop) → accepted_in before ≡ length commands
    → (old.tells_moments → LeavesOnly old mid (Working p old before commands line)) → Works p old mid (stage_of before w) line → Passes old mid → IsAnswerFound p old mid before after w commands line reply
    → Runs Same (SaysFront (said_line reply)) mid new → (mid.tells_files → OnOk result (new.said ≡ mid.said ++ said_line reply)) → IfOk result (λ kind. kind ≡ is_refusing reply)
    → Answering p old new before after w commands line result
found_said {reply = reply} (Ok kind) was images works time found say all is = record {
  whole = record {
    reply = reply;
    added = found.added;
    replies = found.replies;
    said = all (told_by found.kept.holds) ∙ ap (λ (l : List ℕ). l ++ said_line reply) found.quiet;
    all = found.all;
    becomes = found.becomes;
    kept = record { holds = holds_stays say found.kept.holds; rising = found.kept.rising; which = found.kept.which };
    regroups = found.regroups;
    acked = found.acked;
    kind = is;
    truly = found_truly images time found say;
    leads = found.leads;
  };
  partly = tt;
  images = found_images was images time found say;
  steps = found_steps works time found say;
}
found_said (Err stop) was images works time found say all is = record {
  whole = tt;
  partly = inr (found_partly images time found say);
  images = found_images was images time found say;
  steps = found_steps works time found say;
}

-- nothing was said of the answer
pub stops_before : {p : Params} {old new : Disk} {before after : EngineView} {w : World Command} {commands : List Command} {line : List ℕ} (result : Result Bool Stop) → IsErr result
    → (old.tells_moments → LeavesOnly old new (Working p old before commands line)) → Works p old new (stage_of before w) line → new.said ≡ old.said → Answering p old new before after w commands line result
stops_before (Ok kind) is images works quiet = absurd (cc is)
stops_before {p} {old} {new} {before} {after} {w} {commands} {line} (Err stop) is images works quiet = record {
  whole = tt;
  partly = inl quiet;
  images = λ told. weaker old new (Working p old before commands line) (LineMoment p old before (open_in w) commands line) (images told) (λ f s b. inl b);
  steps = works_line works;
}

-- a line leads to a stage with the commands that it adds
pub leads_on : {p : Params} {old new : Stage} {line : List ℕ} (commands added : List Command) (reply : Reply) → commands_of old.world.history ≡ commands → Becomes line reply (open_in old.world) commands added (commands_of new.world.history)
    → Replies p (open_in old.world) commands line reply added → GoesBy p old line reply new → Leads p old line reply new
leads_on {p} {old} {new} {line} commands added reply was becomes replies goes = record {
  added = added;
  replies = subst (λ (l : List Command). Replies p (open_in old.world) l line reply added) (sym was) replies;
  becomes = subst (λ (l : List Command). Becomes line reply (open_in old.world) l added (commands_of new.world.history)) (sym was) becomes;
  goes = goes;
}

pub run_nothing : (m : Meaning Command) (w : World Command) → run m w [] ≡ w
unfolding run
run_nothing m w = refl

pub none_more : (n : ℕ) → n ≡ n + 0
none_more n = omega arith

-- a line that asks for values changes nothing
pub asks_values : (p : Params) (s : Stage) (line : List ℕ) (request : Request) → IsQuestion request → AsksFor line request → Ends p s line Through s
asks_values p s line request question asks = (
  course [] s.used Through,
  inr (inr (request, question, asks, refl)),
  refl,
  λ i. record { world = sym (run_nothing (meaning_in p) s.world) i; used = s.used; identities = none_more s.identities i; copied = s.copied },
)

-- a moment of a run that has one line more to answer, at which no group counts as closed yet
pub moment_longer : {p : Params} {commands : List Command} {script : List (List ℕ)} {before : List ℕ} (more : List (List ℕ)) (f : Files) (s : List ℕ) → MomentSoFar p commands script before f s → MomentSoFar p commands (script ++ more) before f s
moment_longer more f s so_far = let m = so_far.is in record {
  is = record {
    bytes = m.bytes;
    since = m.since;
    story = said_longer more m.story;
    kept = m.kept;
    all_before = m.all_before;
    no_more = m.no_more;
    whole = ended_whole m.kept (m.story.todo ++ more) m.story.account so_far.unclosed;
    stands = m.stands;
    acked = m.acked;
  };
  unclosed = so_far.unclosed;
}

-- a run that has answered all its lines has one more
abbrev pub with_next : {tending : Tending} {p : Params} {first : Stage} {start now : Disk} {engine : EngineView} {commands : List Command} {script : List (List ℕ)} {refusing : Bool} {does : PacedStage → PacedStage → Type 0} {pace : Pace} (line : List ℕ)
    → GoingOn does tending p first start now engine pace commands script [] refusing → GoingOn does tending p first start now engine pace commands (script ++ line ∷ []) (line ∷ []) refusing
with_next {tending} {p} {first} {start} {now} {engine} {commands} {script} line g = record {
  lines = g.lines;
  replies = g.replies;
  waits = g.waits;
  account = g.account;
  script_is = ap (λ (l : List (List ℕ)). l ++ line ∷ []) (g.script_is ∙ append-nil g.lines);
  said_is = g.said_is;
  answers = g.answers;
  holds = g.holds;
  group = g.group;
  whole = g.whole;
  ends_within = g.ends_within;
  all_before = g.all_before;
  acked = g.acked;
  kind = g.kind;
  images = λ told. weaker start now (MomentSoFar p commands script start.said) (MomentSoFar p commands (script ++ line ∷ []) start.said) (g.images told) (moment_longer (line ∷ []));
  truly = g.truly;
  stage = g.stage;
  goes = g.goes;
  done = g.done;
  steps = λ told. weaker start now (StageSoFar tending p first script start.said) (StageSoFar tending p first (script ++ line ∷ []) start.said) (g.steps told) (stage_longer line);
}
