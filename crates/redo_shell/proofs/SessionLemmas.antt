-- What several calls leave.
use Rattle.std.proofs.Common.{◌≡◌, ◌↔◌, ◌⊎◌, inl, inr, ⊎_elim, ◌+◌, ◌-◌, ◌++◌, List, ℕ, [], ◌∷◌, length, take, append_assoc, refl, ap, ◌∙◌, sym, subst, arith}
use Rattle.std.specs.Prelude.{⊤}
use Rattle.std.proofs.Math.Seq.{take-append-add}
use Rattle.std.specs.Prelude.{if◌then◌else◌}
use Rattle.std.proofs.lemmas.List.{append-nil, append_cancel_left, length-append, length-take-le, take_all}
use Rattle.disk_model.specs.Disk.{Files, Disk, IsDisk, Passes, IsSettled}
use Rattle.oper_core.specs.Meaning.{Meaning}
use Rattle.formats.specs.Records.{records_of}
use Rattle.formats.specs.declared.params.Params.{Params}
use Rattle.formats.specs.declared.record.Record.{Record}
use Rattle.explain_core.specs.History.{Member, commands_of}
use Rattle.explain_core.specs.StableLaws.{commands_of-append}
use Rattle.execution.specs.Judged.{Judged, follows, is_refused, judge_behind, with_judged}
use Rattle.execution.specs.Judged.Judged.{Passed, Taken, Gap, Differs}
use Rattle.op_codec.specs.AllOps.{all_meaning}
use Rattle.store_engine.specs.ImageLaws.{stands_begins}
use Rattle.script_lines.specs.Replies.{Reply}
use Rattle.shell_base.specs.Store.{Command, Stands, StandsInEither, IsNew, IsUpgraded, meaning_in}
use Rattle.standby_words.specs.Following.{StreamMoment}
use Rattle.script_run.specs.Answers.{Said, Begun, Moment}
use Rattle.script_run.specs.PrintedLaws.{nothing_printed}
use Rattle.script_run.specs.StoryLaws.{answers_grow, ended_whole, story_start, told_whole}
use Rattle.redo_shell.specs.Sessions.{Ran, Sizing, by_init, by_upgrade, by_follow, Adds, Grows, Survives, Follows, Sessions, AllSilent, WereAskedFor, WereGrownTo, WereFollowed, IsThere, Arises, none, more, larger, followed, start, run, init, reads, upgrade, follow, other}

-- a story whose begun answer is true is a story
abbrev untied : {p : Params} {tie : List Command → List ℕ → Reply → Type 0} {commands : List Command} {script : List (List ℕ)} {said : List ℕ} → Said p tie commands script said → Said p (λ ops line reply. ⊤) commands script said
untied {p} {tie} {commands} s = record {
  lines = s.lines;
  todo = s.todo;
  replies = s.replies;
  waits = s.waits;
  account = s.account;
  part = s.part;
  added = s.added;
  script_is = s.script_is;
  said_is = s.said_is;
  answers = s.answers;
  work = ⊎_elim (λ whole. inl whole)
      (λ (b : Begun p tie s.account s.todo s.part s.added). inr (record { line = b.line; rest = b.rest; reply = b.reply; count = b.count; next = b.next; replies = b.replies; begun = b.begun; tied = tt }))
      s.work;
}

-- a run that said nothing, and of which nothing is left
adds_none : (p : Params) (commands : List Command) (ran : Ran) → ran.bytes ≡ [] → Adds p commands ran commands
adds_none p commands ran silent =
    subst (λ (l : List ℕ). Adds p commands (record { script = ran.script; bytes = l }) commands) (sym silent)
    (let said = told_whole (λ ops line reply. ⊤) (story_start p commands ran.script) in
    let same : said.story.account.commands ++ said.story.added ≡ commands = append-nil commands in
    record {
      story = said.story;
      kept = length commands;
      all_before = omega arith;
      no_more = omega (arith, ap length same);
      whole = ended_whole (length commands) said.story.todo said.story.account (said.whole (length commands) (omega arith) (record { closed = tt; group = tt }));
      now_is = sym (ap (λ (l : List Command). take (length commands) l) same ∙ take_all (length commands) commands (omega arith));
      acked = λ n says. absurd (nothing_printed n says);
    })

-- a moment of it that had said something
adds_moment : (p : Params) (commands : List Command) (ran : Ran) (before : List ℕ) (files : Files) → (m : Moment p commands ran.script before files (before ++ ran.bytes)) → Adds p commands ran (take m.kept (m.story.account.commands ++ m.story.added))
adds_moment p commands ran before files m =
    let same : ran.bytes ≡ m.bytes = append_cancel_left before ran.bytes m.bytes m.since in
    subst (λ (l : List ℕ). Adds p commands (record { script = ran.script; bytes = l }) (take m.kept (m.story.account.commands ++ m.story.added))) (sym same)
    (record { story = untied m.story; kept = m.kept; all_before = m.all_before; no_more = m.no_more; whole = m.whole; now_is = refl; acked = m.acked })

-- where a store has what runs made of it, it has what one run more makes of that
abbrev survives_run : {sizes : List Sizing} {p : Params} {commands : List Command} {runs : List Ran} {was files : Files} (ran : Ran) (now : List Command) → (s : Survives sizes p commands runs was) → Adds s.numbers s.now ran now → Stands s.numbers files now
    → Survives sizes p commands (ran ∷ runs) files
survives_run {sizes} {p} {commands} {runs} {was} {files} ran now s adds stands =
    let grown = answers_grow s.numbers s.now adds.story.lines adds.story.replies adds.story.waits adds.story.account adds.story.answers in
    let added = grown.0 ++ adds.story.added in
    let rest = take (adds.kept - length s.now) added in
    let split : adds.kept ≡ length s.now + (adds.kept - length s.now) = omega (arith, adds.all_before) in
    let whole : adds.story.account.commands ++ adds.story.added ≡ s.now ++ added = ap (λ (l : List Command). l ++ adds.story.added) grown.1 ∙ append_assoc s.now grown.0 adds.story.added in
    let long : length now ≡ adds.kept = ap (λ (l : List Command). length l) adds.now_is ∙ length-take-le adds.kept (adds.story.account.commands ++ adds.story.added) adds.no_more in
    record {
      numbers = s.numbers;
      now = now;
      later = s.later ++ rest;
      now_is = adds.now_is ∙ ap (λ (l : List Command). take adds.kept l) whole ∙ ap (λ (k : ℕ). take k (s.now ++ added)) split ∙ take-append-add s.now added (adds.kept - length s.now) ∙ ap (λ (l : List Command). l ++ rest) s.now_is ∙ append_assoc commands s.later rest;
      grows = more ran s.grows adds;
      stands = stands;
      acked = λ n said. ⊎_elim (λ before. let enough = s.acked n before in omega (arith, enough, adds.all_before, long)) (λ has. let enough = adds.acked n has in omega (arith, enough, long)) said;
    }

-- other files that stand for the same
abbrev survives_as : {sizes : List Sizing} {p : Params} {commands : List Command} {runs : List Ran} {was files : Files} → (s : Survives sizes p commands runs was) → Stands s.numbers files s.now → Survives sizes p commands runs files
survives_as s stands = record { numbers = s.numbers; now = s.now; later = s.later; now_is = s.now_is; grows = s.grows; stands = stands; acked = s.acked }

-- an `init` more, or an upgrade, takes away no numbers that an upgrade gave
grown_more : (size : Sizing) (sizes : List Sizing) (p : Params) → WereGrownTo sizes p → WereGrownTo (size ∷ sizes) p
grown_more (by_init q) sizes p were = were
grown_more (by_upgrade q) sizes p were = inr were
grown_more (by_follow bytes) sizes p were = were

-- and nothing takes away a stream
followed_more : (size : Sizing) (sizes : List Sizing) (bytes : List ℕ) → WereFollowed sizes bytes → WereFollowed (size ∷ sizes) bytes
followed_more (by_init q) sizes bytes were = were
followed_more (by_upgrade q) sizes bytes were = were
followed_more (by_follow others) sizes bytes were = inr were

grows_more : (size : Sizing) {sizes : List Sizing} {p : Params} {commands : List Command} {runs : List Ran} {q : Params} {now : List Command} → Grows sizes p commands runs q now → Grows (size ∷ sizes) p commands runs q now
grows_more size none = none
grows_more size (more ran before adds) = more ran (grows_more size before) adds
grows_more size {sizes} (larger r before were) = larger r (grows_more size before) (grown_more size sizes r were)
grows_more size {sizes} (followed bytes before were adds) = followed bytes (grows_more size before) (followed_more size sizes bytes were) adds

survives_more : (size : Sizing) {sizes : List Sizing} {p : Params} {commands : List Command} {runs : List Ran} {files : Files} → Survives sizes p commands runs files → Survives (size ∷ sizes) p commands runs files
survives_more size s = record { numbers = s.numbers; now = s.now; later = s.later; now_is = s.now_is; grows = grows_more size s.grows; stands = s.stands; acked = s.acked }

-- files that an upgrade gave these numbers stand for the same
survives_grown : {sizes : List Sizing} {p : Params} {commands : List Command} {runs : List Ran} {was files : Files} (q : Params) → (s : Survives sizes p commands runs was) → Stands q files s.now → Survives (by_upgrade q ∷ sizes) p commands runs files
survives_grown q s stands = record {
  numbers = q;
  now = s.now;
  later = s.later;
  now_is = s.now_is;
  grows = larger q (grows_more (by_upgrade q) s.grows) (inl refl);
  stands = stands;
  acked = s.acked;
}

-- so do files at a moment of an upgrade
survives_upgrade : {sizes : List Sizing} {p : Params} {commands : List Command} {runs : List Ran} {was files : Files} (q : Params) → (s : Survives sizes p commands runs was) → StandsInEither s.numbers q s.now files → Survives (by_upgrade q ∷ sizes) p commands runs files
survives_upgrade {files = files} q s either = ⊎_elim
    (λ (stands : Stands s.numbers files s.now). survives_more (by_upgrade q) (survives_as s stands))
    (λ (upgraded : IsUpgraded q s.now files). survives_grown q s upgraded.stands)
    either

-- what is judged of a record, and then of others, leaves a history that goes on, or stays
goes_by : {O : Type 0} (m : Meaning O) (h : List (Member O)) (records : List (Record O)) → ((k : List (Member O)) → (more : List (Member O)) × (follows m k records ≡ k ++ more)) → (judged : Judged O)
    → (more : List (Member O)) × ((if is_refused judged then h else follows m (with_judged h judged) records) ≡ h ++ more)
goes_by m h records rest Passed = rest h
goes_by m h records rest (Taken member) = let behind = rest (h ++ member ∷ []) in (member ∷ behind.0, behind.1 ∙ append_assoc h (member ∷ []) behind.0)
goes_by m h records rest (Gap expected got) = ([], sym (append-nil h))
goes_by m h records rest (Differs number) = ([], sym (append-nil h))

follows_on : {O : Type 0} (m : Meaning O) (h : List (Member O)) (records : List (Record O)) → (more : List (Member O)) × (follows m h records ≡ h ++ more)
follows_on m h [] = ([], sym (append-nil h))
follows_on m h (r ∷ records) = goes_by m h records (λ k. follows_on m k records) (judge_behind m h r)

-- so have files at a moment of the following of a stream what some frames of it make of the commands
survives_follow : {sizes : List Sizing} {p : Params} {commands : List Command} {runs : List Ran} {was files : Files} (bytes : List ℕ) (s : Survives sizes p commands runs was) (first : List (Member Command)) → commands_of first ≡ s.now
    → StreamMoment s.numbers first bytes files → Survives (by_follow bytes ∷ sizes) p commands runs files
survives_follow {sizes} {p} {commands} {runs} bytes s first are moment =
    let records = records_of moment.follows_to.groups in
    let grown = follows_on (meaning_in s.numbers) first records in
    let added = commands_of grown.0 in
    let whole : moment.commands ≡ s.now ++ added = moment.follows_to.commands_are ∙ ap (λ (h : List (Member Command)). commands_of h) grown.1 ∙ commands_of-append first grown.0 ∙ ap (λ (l : List Command). l ++ added) are in
    let long = ap (λ (l : List Command). length l) whole ∙ length-append s.now added in
    record {
      numbers = s.numbers;
      now = moment.commands;
      later = s.later ++ added;
      now_is = whole ∙ ap (λ (l : List Command). l ++ added) s.now_is ∙ append_assoc commands s.later added;
      grows = followed bytes (grows_more (by_follow bytes) s.grows) (inl refl) (first, moment.rest, are, moment.follows_to);
      stands = moment.stands;
      acked = λ n said. let enough = s.acked n said in omega (arith, enough, long);
    }

-- before the first run
abbrev survives_start : (sizes : List Sizing) (p : Params) (commands : List Command) (files : Files) → Stands p files commands → Survives sizes p commands [] files
survives_start sizes p commands files stands = record { numbers = p; now = commands; later = []; now_is = sym (append-nil commands); grows = none; stands = stands; acked = λ n was. absurd was }

-- where no run said anything, a new store is what they have made
survives_silent : (sizes : List Sizing) (p : Params) (files : Files) (runs : List Ran) → AllSilent runs → Stands p files [] → (s : Survives sizes p [] runs files) × (s.now ≡ [])
survives_silent sizes p files [] silent stands = (survives_start sizes p [] files stands, refl)
survives_silent sizes p files (ran ∷ runs) (first, rest) stands =
    let (s, empty) = survives_silent sizes p files runs rest stands in
    (survives_run ran s.now s (adds_none s.numbers s.now ran first) s.stands, empty)

module _ {T : Type 0} (disk : T → Disk) (lawful : (m : T) → IsDisk (disk m)) (p : Params) (commands : List Command) (first : T) (told : (disk first).tells_moments)
    (here : (files : Files) (said : List ℕ) → (disk first).left_since (disk first).clock files said → Stands p files commands) where
  -- whatever a crash leaves after the last of the calls
  pub survive : {sizes : List Sizing} {runs : List Ran} {last : T} → Sessions disk first sizes runs last
      → (disk last).tells_moments × ((files : Files) (said : List ℕ) → (disk last).left_since (disk last).clock files said → Survives sizes p commands runs files)
  survive start = (
    told,
    λ files said left. survives_start [] p commands files (here files said left),
  )
  survive (run old new next ran before begins leaves follows) =
      let (told_old, each_old) = survive before in
      let read = each_old (disk old).reads (disk old).said ((lawful old).as_read told_old) in
      let images = leaves read.numbers read.now (record { told = (lawful old).telling told_old; stands = read.stands }) told_old in
      let told_next = follows.told told_old in (
        told_next,
        λ files said left. ⊎_elim
            (λ was.
            let image = each_old files _ was in
            let silent = append_cancel_left (disk old).said ran.bytes [] ((lawful old).said_now told_old files _ was ∙ sym (append-nil (disk old).said)) in
            survives_run ran image.now image (adds_none image.numbers image.now ran silent) image.stands)
            (λ m. survives_run ran (take m.kept (m.story.account.commands ++ m.story.added)) read (adds_moment read.numbers read.now ran (disk old).said files m) m.stands)
            (images.each files _ (follows.within told_next files said left)),
      )
  survive (init old new next q bytes before no_store leaves follows) =
      let (told_old, each_old) = survive before in
      let read = each_old (disk old).reads (disk old).said ((lawful old).as_read told_old) in
      absurd (no_store (stands_begins all_meaning read.stands))
  survive (reads old new next bytes before keeps leaves follows) =
      let (told_old, each_old) = survive before in
      let read = each_old (disk old).reads (disk old).said ((lawful old).as_read told_old) in
      let images = leaves read.numbers read.now (record { told = (lawful old).telling told_old; stands = read.stands }) told_old in
      let told_next = follows.told told_old in (
        told_next,
        λ files said left. ⊎_elim (λ was. each_old files bytes was) (λ stands. survives_as read stands) (images.each files bytes (follows.within told_next files said left)),
      )
  survive (upgrade old new next q bytes before keeps leaves follows) =
      let (told_old, each_old) = survive before in
      let read = each_old (disk old).reads (disk old).said ((lawful old).as_read told_old) in
      let images = leaves read.numbers read.now (record { told = (lawful old).telling told_old; stands = read.stands }) told_old in
      let told_next = follows.told told_old in (
        told_next,
        λ files said left. ⊎_elim (λ was. survives_more (by_upgrade q) (each_old files bytes was)) (λ either. survives_upgrade q read either) (images.each files bytes (follows.within told_next files said left)),
      )
  survive (follow old new next stream bytes before keeps leaves follows) =
      let (told_old, each_old) = survive before in
      let read = each_old (disk old).reads (disk old).said ((lawful old).as_read told_old) in
      let (first_of, are, images) = leaves read.numbers read.now (record { told = (lawful old).telling told_old; stands = read.stands }) told_old in
      let told_next = follows.told told_old in (
        told_next,
        λ files said left. ⊎_elim (λ was. survives_more (by_follow stream) (each_old files bytes was)) (λ moment. survives_follow stream read first_of are moment) (images.each files bytes (follows.within told_next files said left)),
      )
  survive (other old new next bytes before kept follows) =
      let (told_old, each_old) = survive before in
      let told_next = follows.told told_old in (
        told_next,
        λ files said left. each_old files (disk old).said ((kept.images told_old).each files bytes (follows.within told_next files said left)),
      )

-- one `init` more, or an upgrade, has asked
asked_more : (size : Sizing) (sizes : List Sizing) (p : Params) → WereAskedFor sizes p → WereAskedFor (size ∷ sizes) p
asked_more (by_init q) sizes p were = inr were
asked_more (by_upgrade q) sizes p were = were
asked_more (by_follow bytes) sizes p were = were

from_more : (first : Disk) (size : Sizing) (sizes : List Sizing) (p : Params) → WereAskedFor sizes p ⊎ IsThere first p → WereAskedFor (size ∷ sizes) p ⊎ IsThere first p
from_more first size sizes p from = ⊎_elim (λ (asked : WereAskedFor sizes p). inl (asked_more size sizes p asked)) (λ (there : IsThere first p). inr there) from

arises_more : (first : Disk) (sizes : List Sizing) (runs : List Ran) (files : Files) (size : Sizing) → Arises first sizes runs files → Arises first (size ∷ sizes) runs files
arises_more first sizes runs files size here = ⊎_elim (λ none. inl none)
    (λ (is : (p : Params) × (WereAskedFor sizes p ⊎ IsThere first p) × Survives sizes p [] runs files).
    let (p, from, survives) = is in
    inr (p, from_more first size sizes p from, survives_more size survives))
    here

module _ {T : Type 0} (disk : T → Disk) (lawful : (m : T) → IsDisk (disk m)) (first : T) (told : (disk first).tells_moments)
    (here : (files : Files) (said : List ℕ) → (disk first).left_since (disk first).clock files said → (p : Params) × IsNew p files) where
  -- the same from files that are no store yet
  pub arise : {sizes : List Sizing} {runs : List Ran} {last : T} → Sessions disk first sizes runs last
      → (disk last).tells_moments × ((files : Files) (said : List ℕ) → (disk last).left_since (disk last).clock files said → Arises (disk first) sizes runs files)
  arise start = (
    told,
    λ files said left. let (p, is) = here files said left in ⊎_elim (λ no_store. inl (no_store, tt)) (λ stands. inr (p, inr (files, said, left, stands), survives_start [] p [] files stands)) is,
  )
  arise (run {sizes} {runs} old new next ran before begins leaves follows) =
      let (told_old, each_old) = arise before in
      let read_or = each_old (disk old).reads (disk old).said ((lawful old).as_read told_old) in
      let told_next = follows.told told_old in (
        told_next,
        λ files said left. ⊎_elim
            (λ no_store. absurd (no_store.0 begins))
            (λ (is_read : (p : Params) × (WereAskedFor sizes p ⊎ IsThere (disk first) p) × Survives sizes p [] runs (disk old).reads).
            let (p, from, read) = is_read in
            let images = leaves read.numbers read.now (record { told = (lawful old).telling told_old; stands = read.stands }) told_old in
            ⊎_elim
            (λ was.
            let silent = append_cancel_left (disk old).said ran.bytes [] ((lawful old).said_now told_old files _ was ∙ sym (append-nil (disk old).said)) in
            ⊎_elim (λ no_store. inl (no_store.0, (silent, no_store.1)))
            (λ (is : (q : Params) × (WereAskedFor sizes q ⊎ IsThere (disk first) q) × Survives sizes q [] runs files).
            let (q, from_q, image) = is in
            inr (q, from_q, survives_run ran image.now image (adds_none image.numbers image.now ran silent) image.stands))
            (each_old files _ was))
            (λ m. inr (p, from, survives_run ran (take m.kept (m.story.account.commands ++ m.story.added)) read (adds_moment read.numbers read.now ran (disk old).said files m) m.stands))
            (images.each files _ (follows.within told_next files said left)))
            read_or,
      )
  arise (init {sizes} {runs} old new next p bytes before no_store leaves follows) =
      let (told_old, each_old) = arise before in
      let read_or = each_old (disk old).reads (disk old).said ((lawful old).as_read told_old) in
      let told_next = follows.told told_old in (
        told_next,
        λ files said left. ⊎_elim
            (λ none_read. ⊎_elim
            (λ was. arises_more (disk first) sizes runs files (by_init p) (each_old files _ was))
            (λ is. ⊎_elim (λ still. inl (still, none_read.1)) (λ stands. inr (p, inl (inl refl), (survives_silent (by_init p ∷ sizes) p files runs none_read.1 stands).0)) is.0)
            ((leaves told_old).each files _ (follows.within told_next files said left)))
            (λ (is_read : (q : Params) × (WereAskedFor sizes q ⊎ IsThere (disk first) q) × Survives sizes q [] runs (disk old).reads). absurd (no_store (stands_begins all_meaning is_read.2.stands)))
            read_or,
      )
  arise (reads {sizes} {runs} old new next bytes before keeps leaves follows) =
      let (told_old, each_old) = arise before in
      let read_or = each_old (disk old).reads (disk old).said ((lawful old).as_read told_old) in
      let told_next = follows.told told_old in (
        told_next,
        λ files said left. ⊎_elim
            (λ no_store. each_old files (disk old).said (((keeps no_store.0 told_old).images told_old).each files bytes (follows.within told_next files said left)))
            (λ (is_read : (p : Params) × (WereAskedFor sizes p ⊎ IsThere (disk first) p) × Survives sizes p [] runs (disk old).reads).
            let (p, from, read) = is_read in
            let images = leaves read.numbers read.now (record { told = (lawful old).telling told_old; stands = read.stands }) told_old in
            ⊎_elim (λ was. each_old files bytes was) (λ stands. inr (p, from, survives_as read stands)) (images.each files bytes (follows.within told_next files said left)))
            read_or,
      )
  arise (upgrade {sizes} {runs} old new next q bytes before keeps leaves follows) =
      let (told_old, each_old) = arise before in
      let read_or = each_old (disk old).reads (disk old).said ((lawful old).as_read told_old) in
      let told_next = follows.told told_old in (
        told_next,
        λ files said left. ⊎_elim
            (λ no_store. arises_more (disk first) sizes runs files (by_upgrade q) (each_old files (disk old).said (((keeps no_store.0 told_old).images told_old).each files bytes (follows.within told_next files said left))))
            (λ (is_read : (p : Params) × (WereAskedFor sizes p ⊎ IsThere (disk first) p) × Survives sizes p [] runs (disk old).reads).
            let (p, from, read) = is_read in
            let images = leaves read.numbers read.now (record { told = (lawful old).telling told_old; stands = read.stands }) told_old in
            ⊎_elim (λ was. arises_more (disk first) sizes runs files (by_upgrade q) (each_old files bytes was)) (λ either. inr (p, from_more (disk first) (by_upgrade q) sizes p from, survives_upgrade q read either))
            (images.each files bytes (follows.within told_next files said left)))
            read_or,
      )
  arise (follow {sizes} {runs} old new next stream bytes before keeps leaves follows) =
      let (told_old, each_old) = arise before in
      let read_or = each_old (disk old).reads (disk old).said ((lawful old).as_read told_old) in
      let told_next = follows.told told_old in (
        told_next,
        λ files said left. ⊎_elim
            (λ no_store. arises_more (disk first) sizes runs files (by_follow stream) (each_old files (disk old).said (((keeps no_store.0 told_old).images told_old).each files bytes (follows.within told_next files said left))))
            (λ (is_read : (p : Params) × (WereAskedFor sizes p ⊎ IsThere (disk first) p) × Survives sizes p [] runs (disk old).reads).
            let (p, from, read) = is_read in
            let (first_of, are, images) = leaves read.numbers read.now (record { told = (lawful old).telling told_old; stands = read.stands }) told_old in
            ⊎_elim (λ was. arises_more (disk first) sizes runs files (by_follow stream) (each_old files bytes was)) (λ moment. inr (p, from_more (disk first) (by_follow stream) sizes p from, survives_follow stream read first_of are moment))
            (images.each files bytes (follows.within told_next files said left)))
            read_or,
      )
  arise (other old new next bytes before kept follows) =
      let (told_old, each_old) = arise before in
      let told_next = follows.told told_old in (
        told_next,
        λ files said left. each_old files (disk old).said ((kept.images told_old).each files bytes (follows.within told_next files said left)),
      )

-- nothing follows a call
pub follows_nothing : (old new : Disk) → IsDisk new → Passes old new → Follows old new new new.said
follows_nothing old new lawful time = record {
  told = λ told. time.moments_told.0 told;
  within = λ told files s left.
      subst (λ (l : List ℕ). new.left_since old.clock files l) (lawful.said_now told files s left) (lawful.among old.clock new.clock files s time.later (omega arith) left);
}

-- a kill at a moment of it
pub follows_kill : (old mid new : Disk) → IsDisk mid → Passes old mid → Passes mid new → Follows old new mid mid.said
follows_kill old mid new lawful first second = record {
  told = λ told. first.moments_told.0 told;
  within = λ told files s left.
      second.keeps told old.clock files mid.said first.later ((follows_nothing old mid lawful first).within told files s left);
}

-- a crash at a moment of it
pub follows_crash : (old mid new next : Disk) → IsDisk mid → Passes old mid → Passes mid new → (mid.tells_moments ↔ next.tells_moments) → IsSettled next → mid.left_since mid.clock next.reads mid.said → Follows old new next mid.said
follows_crash old mid new next lawful first second told settled image = record {
  told = λ tells. told.0 (first.moments_told.0 tells);
  within = λ tells files s left.
      let same : files ≡ next.reads = λ i file. settled file tells files s left i in
      let here : mid.left_since old.clock files mid.said = subst (λ (f : Files). mid.left_since old.clock f mid.said) (sym same) (lawful.among old.clock mid.clock next.reads mid.said first.later (omega arith) image) in
      second.keeps (told.1 tells) old.clock files mid.said first.later here;
}
