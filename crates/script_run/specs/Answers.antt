-- What is said while a script is answered, and what the files stand for meanwhile.
use Rattle.std.specs.Prelude.{◌≡◌, ⊤, ℕ, ◌<◌, ◌≤◌, ◌⊎◌, ◌++◌, List, [], ◌∷◌, length, take}
use Rattle.std.proofs.Common.{inl, inr}
use Rattle.std.specs.List.{flat_map}
use Rattle.disk_model.specs.Disk.{Files, Disk, LeavesOnly}
use Rattle.formats.specs.declared.params.Params.{Params}
use Rattle.script_lines.specs.Replies.{Reply, text_of, said_line}
use Rattle.shell_base.specs.Store.{Command, Stands}
use Rattle.shell_base.specs.First.{Stage}
use Rattle.script_run.specs.Groups.{Account, AreWhole, IsAfter, account_before, account_of, waiting}
use Rattle.script_run.specs.Made.{IsFront}
use Rattle.script_run.specs.Replies.{Replies, IsTrueIn}
use Rattle.script_run.specs.Printed.{SaysForced}
use Rattle.script_run.specs.Stages.{AllGoBy, PacedStage, unpaced}
use Rattle.script_run.specs.declared.tending.Tending.{Tending}

-- The lines get these answers, one after the other, and make the second account of the first. While each is said these
-- commands of the open group wait.
abbrev pub Answers : Params → Account → List (List ℕ) → List Reply → List (List Command) → Account → Type 0
Answers p a [] [] [] b = b ≡ a
Answers p a (line ∷ lines) (reply ∷ replies) (ops ∷ waits) b =
    (added : List Command) × (mid : Account) × Replies p a.group a.commands line reply added × (ops ≡ waiting a.group (a.commands ++ added))
    × IsAfter a line reply added mid × Answers p mid lines replies waits b
Answers p a lines replies waits b = ⊥

-- of an answer to the first of these lines nothing is said yet: nothing was done for it, or some first commands of those that it
-- asks for
abbrev pub IsSilent : Params → List Command → List (List ℕ) → List Command → Type 0
IsSilent p commands lines added = (added ≡ []) ⊎ ((line : List ℕ) × (rest : List (List ℕ)) × (lines ≡ line ∷ rest) × IsFront p commands line added)

-- an answer to the first of these lines has begun, and adds these commands
pub record Begun (p : Params) (tie : List Command → List ℕ → Reply → Type 0) (account : Account) (lines : List (List ℕ)) (part : List ℕ) (added : List Command) : Type 0 where
  pub line : List ℕ
  pub rest : List (List ℕ)
  pub reply : Reply
  pub count : ℕ
  pub next : lines ≡ line ∷ rest
  pub replies : Replies p account.group account.commands line reply added
  pub begun : part ≡ take count (text_of reply)
  pub tied : tie (waiting account.group (account.commands ++ added)) line reply

-- Bytes said in answer to a script: the whole answers to its first lines, and perhaps the beginning of the next, for which
-- some commands may be done before its first byte is said.
pub record Said (p : Params) (tie : List Command → List ℕ → Reply → Type 0) (commands : List Command) (script : List (List ℕ)) (said : List ℕ) : Type 0 where
  pub lines : List (List ℕ)
  pub todo : List (List ℕ)
  pub replies : List Reply
  pub waits : List (List Command)
  pub account : Account
  pub part : List ℕ
  pub added : List Command
  pub script_is : script ≡ lines ++ todo
  pub said_is : said ≡ flat_map said_line replies ++ part
  pub answers : Answers p (account_of commands) lines replies waits account
  pub work : ((part ≡ []) × IsSilent p account.commands todo added) ⊎ Begun p tie account todo part added

-- What a crash may leave beside these bytes: files that stand for the commands and for a beginning of those that
-- the script has added, which splits no group; all together are no fewer than any `forced` that the bytes say. After the last line a
-- group that is still open is closed.
pub record Moment (p : Params) (commands : List Command) (script : List (List ℕ)) (before : List ℕ) (files : Files) (said : List ℕ) : Type 0 where
  pub bytes : List ℕ
  pub since : said ≡ before ++ bytes
  pub story : Said p (IsTrueIn p files) commands script bytes
  pub kept : ℕ
  pub all_before : length commands ≤ kept
  pub no_more : kept ≤ length (story.account.commands ++ story.added)
  pub whole : AreWhole kept (account_before story.todo story.account)
  pub stands : Stands p files (take kept (story.account.commands ++ story.added))
  pub acked : (n : ℕ) → SaysForced bytes n → n ≤ kept

-- between these, what was said is answers to the lines of a script, one after the other
pub record SaysAnswers (p : Params) (commands : List Command) (script : List (List ℕ)) (before after : List ℕ) : Type 0 where
  pub bytes : List ℕ
  pub since : after ≡ before ++ bytes
  pub story : Said p (λ ops line reply. ⊤) commands script bytes

-- the bytes said end inside an answer that stands after these bytes: they have its first byte, and not its newline
pub record EndsInside (before : List ℕ) (reply : Reply) (said : List ℕ) : Type 0 where
  pub count : ℕ
  pub some : 0 < count
  pub within : count ≤ length (text_of reply)
  pub said_is : said ≡ before ++ take count (text_of reply)

-- each of these answers, one to each line, said after these bytes, is true of the files if the bytes said end inside it
abbrev pub TrueWithin : Params → List ℕ → List (List ℕ) → List Reply → List (List Command) → Files → List ℕ → Type 0
TrueWithin p before [] [] [] files said = ⊤
TrueWithin p before (line ∷ lines) (reply ∷ replies) (ops ∷ waits) files said =
    (EndsInside before reply said → IsTrueIn p files ops line reply) × TrueWithin p (before ++ said_line reply) lines replies waits files said
TrueWithin p before lines replies waits files said = ⊥

-- these answers, and the one that was begun
abbrev pub with_begun : {none : Type 0} {p : Params} {tie : List Command → List ℕ → Reply → Type 0} {account : Account} {added : List Command} {lines : List (List ℕ)} {part : List ℕ} → List Reply → none ⊎ Begun p tie account lines part added → List Reply
with_begun replies (inl whole) = replies
with_begun replies (inr begun) = replies ++ begun.reply ∷ []

-- these lines, and the one whose answer was begun
abbrev pub with_line : {none : Type 0} {p : Params} {tie : List Command → List ℕ → Reply → Type 0} {account : Account} {added : List Command} {lines : List (List ℕ)} {part : List ℕ} → List (List ℕ) → none ⊎ Begun p tie account lines part added → List (List ℕ)
with_line answered (inl whole) = answered
with_line answered (inr begun) = answered ++ begun.line ∷ []

-- the commands that wait while these are said, and while that one is
abbrev pub with_waits : {none : Type 0} {p : Params} {tie : List Command → List ℕ → Reply → Type 0} {account : Account} {added : List Command} {lines : List (List ℕ)} {part : List ℕ} → List (List Command) → none ⊎ Begun p tie account lines part added → List (List Command)
with_waits waits (inl whole) = waits
with_waits {account = account} {added = added} waits (inr begun) = waits ++ waiting account.group (account.commands ++ added) ∷ []

-- What was said in a run is answers to the lines of a script, and each of them, the last one begun too, is true of every
-- image of each moment at which the bytes said end inside it. They go by the stages from the first on, so `full` comes
-- exactly where what is asked for does not fit, however the run ends.
pub record SaysTruly (tending : Tending) (p : Params) (first : Stage) (commands : List Command) (script : List (List ℕ)) (old new : Disk) : Type 0 where
  pub says : SaysAnswers p commands script old.said new.said
  pub truly : old.tells_moments → LeavesOnly old new (TrueWithin p old.said (with_line says.story.lines says.story.work) (with_begun says.story.replies says.story.work) (with_waits says.story.waits says.story.work))
  pub last : PacedStage
  pub goes : AllGoBy tending p (unpaced first) (with_line says.story.lines says.story.work) (with_begun says.story.replies says.story.work) last
