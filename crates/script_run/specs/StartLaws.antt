-- A run that has answered nothing yet, one that is begun again, and words that are no run.
use Rattle.std.proofs.Common.{◌≡◌, ◌≤◌, ◌⊎◌, inl, inr, refl, ⊎_elim, ◌++◌, List, ℕ, [], ◌∷◌, length, length-append, None, ap, ◌∙◌, sym, subst, arith, ◌<◌, take, length-take, ◌^◌, Contains, Option}
use Rattle.std.specs.Prelude.{⊤}
use Rattle.std.proofs.lemmas.List.{append-nil, take_all, length-take-le}
use Rattle.std.specs.List.{flat_map}
use Rattle.disk_model.specs.Disk.{Files, Disk, IsDisk, Passes, LeavesOnly}
use Rattle.disk_model.specs.Moments.{first_call, runs_on, weaker, passes_none, started}
use Rattle.formats.specs.declared.params.Params.{Params}
use Rattle.script_lines.specs.Replies.{Reply, said_line, text_of, forced, saved}
use Rattle.restart.specs.Starts.{OrAtStart, or_weaker}
use Rattle.std.proofs.lemmas.List.Elements.{Contains-append_left}
use Rattle.store_engine.specs.Engine.{InEachImage}
use Rattle.shell_base.specs.Store.{Command, Stands, Between}
use Rattle.shell_base.specs.First.{Stage}
use Rattle.shell_base.specs.Again.{StandsStill}
use Rattle.shell_base.specs.declared.status.Status.{Status}
use Rattle.shell_base.specs.declared.status.Status.TheVariants.{BackupFault}
use Rattle.shell_base.specs.OpeningLaws.{OpensSo}
use Rattle.script_run.specs.declared.tending.Tending.{Tending}
use Rattle.script_run.specs.Groups.{Account, account_of, waiting, AreWhole, account_before}
use Rattle.script_run.specs.Answers.{Begun, TrueWithin, with_begun, with_line, with_waits, SaysTruly, EndsInside, Moment, Said}
use Rattle.script_run.specs.Run.{IsComplete, MomentSoFar}
use Rattle.script_run.specs.Stages.{unpaced}
use Rattle.script_run.specs.Saving.{IsBackedUp, MayBeLeft, PassesBy, SaysOfBackup, KeepsAll, WasThere, IsSavedAsSaid, IsBesideRun}
use Rattle.script_run.specs.StoryLaws.{AreEven, answers_even, story_start, told_whole, told_goes, told_truly, ended_whole, Told}
use Rattle.script_run.specs.Replies.{IsTrueIn}
use Rattle.script_run.specs.PrintedLaws.{printed_acked, printed_saved}
use Rattle.script_run.specs.Noted.{Noted, NotesFront, none_noted}

pub complete_from : {tending : Tending} {p : Params} {first : Stage} {start mid new : Disk} {commands : List Command} {script : List (List ℕ)} {status : Status} → mid.said ≡ start.said → IsComplete tending p first mid new commands script status → IsComplete tending p first start new commands script status
complete_from quiet all = record {
  replies = all.replies;
  waits = all.waits;
  account = all.account;
  answers = all.answers;
  said_is = all.said_is ∙ ap (λ (l : List ℕ). l ++ flat_map said_line all.replies) quiet;
  stands = all.stands;
  settled = all.settled;
  refusals = all.refusals;
  last = all.last;
  goes = all.goes;
  tended = all.tended;
  upkept = all.upkept;
  shows = all.shows;
  ends_last = all.ends_last;
}

-- files that stand for the commands, all of them
stands_between : {p : Params} (start : Disk) {commands : List Command} (files : Files) → Stands p files commands → Between p start None (length commands) (length commands) commands files start.said
stands_between {p} start {commands} files stands =
    let enough : length commands ≤ length commands = omega arith in
    record {
      quiet = refl;
      kept = length commands;
      enough = enough;
      within = enough;
      which = inl refl;
      stands = subst (λ (l : List Command). Stands p files l) (sym (take_all (length commands) commands enough)) stands;
    }

-- while files stand for the commands as they did, they do so as while a store is opened
pub opens_still : {p : Params} {commands : List Command} {old mid : Disk} → StandsStill p commands old mid → OpensSo p old mid commands
opens_still {p} {commands} {old} {mid} still told =
    or_weaker old mid (λ files said. Stands p files commands × (said ≡ old.said)) (Between p old None (length commands) (length commands) commands) still.images
    (λ f s is. subst (λ (l : List ℕ). Between p old None (length commands) (length commands) commands f l) (sym is.1) (stands_between old f is.0))

-- what is said while the store is opened
opening_says : (p : Params) (start : Disk) (commands : List Command) → IsDisk start → start.tells_moments → (f : Files) (s : List ℕ) → OrAtStart start (Between p start None (length commands) (length commands) commands) f s → s ≡ start.said
opening_says p start commands lawful told f s here = ⊎_elim (λ was. lawful.said_now told f s was) (λ (b : Between p start None (length commands) (length commands) commands f s). b.quiet) here

-- there are as many answers as lines, the one that was begun counted
even_begun : {none : Type 0} {p : Params} {tie : List Command → List ℕ → Reply → Type 0} {account : Account} {added : List Command} {todo : List (List ℕ)} {part : List ℕ} (lines : List (List ℕ)) (replies : List Reply) (waits : List (List Command))
    → (work : none ⊎ Begun p tie account todo part added) → AreEven lines replies waits → AreEven (with_line lines work) (with_begun replies work) (with_waits waits work)
even_begun lines replies waits (inl whole) even = even
even_begun {account = account} {added = added} lines replies waits (inr begun) even =
    let more = length-append lines (begun.line ∷ []) in (
      omega (arith, even.0, more, length-append replies (begun.reply ∷ [])),
      omega (arith, even.1, more, length-append waits (waiting account.group (account.commands ++ added) ∷ [])),
    )

-- how many bytes are said where they end inside an answer
pub ends_behind : {before : List ℕ} {reply : Reply} {said : List ℕ} → EndsInside before reply said → length before < length said
ends_behind {before} {reply} {said} e =
    let some = e.some in
    let within = e.within in
    omega (arith, ap length e.said_is, length-append before (take e.count (text_of reply)), length-take e.count (text_of reply), some, within)

-- no answer has begun
pub none_begun : (p : Params) (before : List ℕ) (lines : List (List ℕ)) (replies : List Reply) (waits : List (List Command)) (files : Files) (said : List ℕ) → AreEven lines replies waits → length said ≤ length before → TrueWithin p before lines replies waits files said
none_begun p before [] [] [] files said even short = tt
none_begun p before (line ∷ lines) (reply ∷ replies) (ops ∷ waits) files said even short = (
  λ e. absurd (omega (arith, ends_behind e, short)),
  none_begun p (before ++ said_line reply) lines replies waits files said (omega (arith, even.0), omega (arith, even.1)) (omega (arith, short, length-append before (said_line reply))),
)
none_begun p before lines replies waits files said even short = absurd (omega (arith, even.0, even.1))

-- what was said is true of each moment also from before the store was opened
pub says_truly : {tending : Tending} {p : Params} {first : Stage} {start mid new : Disk} {commands : List Command} {script : List (List ℕ)} → IsDisk start → OpensSo p start mid commands → Passes start mid → mid.said ≡ start.said
    → (truth : SaysTruly tending p first commands script mid new) → start.tells_moments
    → LeavesOnly start new (TrueWithin p start.said (with_line truth.says.story.lines truth.says.story.work) (with_begun truth.says.story.replies truth.says.story.work) (with_waits truth.says.story.waits truth.says.story.work))
says_truly {tending} {p} {first} {start} {mid} {new} {commands} lawful opening time quiet truth told =
    let story = truth.says.story in
    let replies = with_begun story.replies story.work in
    let lines = with_line story.lines story.work in
    let waits = with_waits story.waits story.work in
    let even = even_begun story.lines story.replies story.waits story.work (answers_even p (account_of commands) story.lines story.replies story.waits story.account story.answers) in
    runs_on start mid new (TrueWithin p start.said lines replies waits)
    (weaker start mid (OrAtStart start (Between p start None (length commands) (length commands) commands)) (TrueWithin p start.said lines replies waits) (opening told)
    (λ f s here. none_begun p start.said lines replies waits f s even (omega (arith, ap length (opening_says p start commands lawful told f s here)))))
    (subst (λ (s : List ℕ). LeavesOnly mid new (TrueWithin p s lines replies waits)) quiet (truth.truly (time.moments_told.0 told)))

abbrev pub says_from : {tending : Tending} {p : Params} {first : Stage} {start mid new : Disk} {commands : List Command} {script : List (List ℕ)} → IsDisk start → OpensSo p start mid commands → Passes start mid → mid.said ≡ start.said
    → SaysTruly tending p first commands script mid new → SaysTruly tending p first commands script start new
says_from lawful opening time quiet truth = record {
  says = record { bytes = truth.says.bytes; since = truth.says.since ∙ ap (λ (l : List ℕ). l ++ truth.says.bytes) quiet; story = truth.says.story };
  truly = says_truly lawful opening time quiet truth;
  last = truth.last;
  goes = truth.goes;
}

-- files stand for fewer commands than there are numbers
abbrev pub AreFew : Type 0
AreFew = (p : Params) (files : Files) (commands : List Command) → Stands p files commands → length commands < 2 ^ 62

-- bytes that were said, beside files that stand for enough of what they report
abbrev pub moment_at : AreFew → {p : Params} {commands : List Command} {script : List (List ℕ)} (before bytes : List ℕ) (f : Files) (s : List ℕ) (kept : ℕ)
    → (story : Said p (IsTrueIn p f) commands script bytes) → s ≡ before ++ bytes → length commands ≤ kept → kept ≤ length (story.account.commands ++ story.added) → AreWhole kept (account_before story.todo story.account)
    → Stands p f (take kept (story.account.commands ++ story.added)) → ((n : ℕ) → Contains story.replies (forced n) → n ≤ kept) → Moment p commands script before f s
moment_at few {p} before bytes f s kept story since all_before no_more whole stands acked =
    let every = story.account.commands ++ story.added in
    let low : length (take kept every) < 2 ^ 62 = few p f (take kept every) stands in
    let small : kept < 2 ^ 64 = omega (arith, low, length-take-le kept every no_more) in
    record {
      bytes = bytes;
      since = since;
      story = story;
      kept = kept;
      all_before = all_before;
      no_more = no_more;
      whole = whole;
      stands = stands;
      acked = printed_acked kept story small acked;
    }

pub moment_of : AreFew → {p : Params} {commands : List Command} {script lines : List (List ℕ)} {replies : List Reply} {waits : List (List Command)} {account : Account} {every : List Command} (before bytes : List ℕ) (f : Files) (s : List ℕ) (kept : ℕ)
    → Told p (IsTrueIn p f) commands script lines replies waits account every bytes → s ≡ before ++ bytes → length commands ≤ kept → kept ≤ length every
    → AreWhole kept account → Stands p f (take kept every) → ((n : ℕ) → Contains replies (forced n) → n ≤ kept) → MomentSoFar p commands script before f s
moment_of few {p} before bytes f s kept told since all_before no_more whole stands acked =
    let unclosed = told.whole kept no_more whole in
    let (within, same) = told.all kept no_more whole in
    record {
      is = moment_at few before bytes f s kept told.story since all_before within (ended_whole kept told.story.todo told.story.account unclosed)
          (subst (λ (l : List Command). Stands p f l) (sym same) stands) (λ n has. acked n (told.spoken n has));
      unclosed = unclosed;
    }

-- the start of a run, of which nothing is said yet
pub first_moment : AreFew → {p : Params} {start : Disk} {commands : List Command} {group : Option ℕ} (script : List (List ℕ)) → (f : Files) (s : List ℕ) → Between p start group (length commands) (length commands) commands f s
    → MomentSoFar p commands script start.said f s
first_moment few {p} {start} {commands} script f s b =
    moment_of few start.said [] f s b.kept (told_whole (IsTrueIn p f) (story_start p commands script)) (b.quiet ∙ sym (append-nil start.said)) b.enough b.within (record { closed = tt; group = tt }) b.stands
    (λ n has. absurd (omega (arith, has.1)))

-- before anything is said
pub start_so_far : AreFew → {p : Params} (start : Disk) {commands : List Command} (script : List (List ℕ)) (files : Files) → Stands p files commands → MomentSoFar p commands script start.said files start.said
start_so_far few {p} start {commands} script files stands = first_moment few {p = p} {start = start} {commands = commands} script files start.said (stands_between start files stands)

abbrev pub says_nothing : {tending : Tending} {p : Params} {first : Stage} {commands : List Command} (script : List (List ℕ)) {old new : Disk} → Passes old new → new.said ≡ old.said → SaysTruly tending p first commands script old new
says_nothing {tending} {p} {first} {commands} script {old} {new} time quiet =
    let none = told_whole (λ ops line reply. ⊤) (story_start p commands script) in
    record {
      last = unpaced first;
      goes = told_goes tending (unpaced first) (unpaced first) none refl;
      says = record { bytes = []; since = quiet ∙ sym (append-nil old.said); story = none.story };
      truly = λ told. told_truly old new old.said none (first_call old new (TrueWithin p old.said [] [] []) told time (λ files said left. tt));
    }

-- where nothing is done, each line passes by
pub same_passes : {T : Type 0} (lines : List (List ℕ)) (x : T) → PassesBy lines x x
same_passes [] x = refl
same_passes (line ∷ lines) x = (x, λ other. refl, same_passes lines x)

-- nothing was done with the backup
pub keeps_none : (start : Disk) → KeepsAll start start
keeps_none start = (refl, λ told. started start (WasThere start) (λ files said left. left))

-- at the start nothing is said
pub says_none : (p : Params) (next : List (List ℕ)) (commands : List Command) (start : Disk) → SaysOfBackup p start [] [] next commands start
says_none p next commands start = record {
  time = passes_none start;
  saves = λ n has. absurd (omega (arith, has.1));
  finds = tt;
  kept = λ begins. keeps_none start;
  images = λ told. started start (OrAtStart start (λ files said. MayBeLeft p [] [] next commands files)) (λ files said left. inl left);
}

-- where no store was opened, or nothing was done
pub none_backed : {T : Type 0} (disk : T → Disk) {backup : T} {tending : Tending} {p : Params} (first : Stage) {commands : List Command} {script : List (List ℕ)} {old new : Disk} → Passes old new → new.said ≡ old.said → IsBackedUp tending disk p first commands script old new backup backup
none_backed disk {backup} {tending} {p} first {commands} {script} time quiet = record {
  truly = says_nothing {first = first} script time quiet;
  passes = same_passes _ backup;
  says = λ tells. says_none p _ (commands ++ []) (disk backup);
}

begun_has : {none : Type 0} {p : Params} {tie : List Command → List ℕ → Reply → Type 0} {account : Account} {added : List Command} {lines : List (List ℕ)} {part : List ℕ} (replies : List Reply) (work : none ⊎ Begun p tie account lines part added) (reply : Reply)
    → Contains replies reply → Contains (with_begun replies work) reply
begun_has replies (inl whole) reply has = has
begun_has replies (inr begun) reply has = Contains-append_left replies (begun.reply ∷ []) reply has

-- a store has few commands
few_saved : AreFew → (p : Params) (d : Disk) (every : List Command) (n : ℕ) → (n ≤ length every) × InEachImage d (λ files. Stands p files (take n every)) → n < 2 ^ 64
few_saved few p d every n here = omega (arith, few p d.reads (take n every) here.1.0, length-take-le n every here.0)

pub printed_backed : AreFew → {T : Type 0} (disk : T → Disk) {before after : T} {tending : Tending} {p : Params} {first : Stage} {commands : List Command} {script : List (List ℕ)} {old new : Disk} → IsBackedUp tending disk p first commands script old new before after
    → IsSavedAsSaid tending disk p first commands script old new before after
printed_backed few disk {before} {after} {tending} {p} b = record {
  backed = b;
  printed = λ tells n says.
      let s = b.truly.says.story in
      let true_of = b.says tells in
      let small : (m : ℕ) → Contains s.replies (saved m) → m < 2 ^ 64
      = λ m has. few_saved few p (disk after) (s.account.commands ++ s.added) m (true_of.saves m (begun_has s.replies s.work (saved m) has)) in
      let has = begun_has s.replies s.work (saved n) (printed_saved s small n says) in
      let (le, stands) = true_of.saves n has in
      (has, le, stands);
}

-- no line was taken yet
pub notes_begin : {script : List (List ℕ)} {noted : Noted} → noted ≡ none_noted → NotesFront script script noted
notes_begin {script} is = subst (λ (n : Noted). NotesFront script script n) (sym is) (record { lines = []; script_is = refl; count = refl; first = tt })

-- a call that does nothing with it ends with no fault of its disk
pub beside_none : (backup : Disk) (status : Status) → (status ≡ BackupFault → ⊥) → IsBesideRun backup backup status
beside_none backup status none = record { time = passes_none backup; fault = λ is. absurd (none is) }
