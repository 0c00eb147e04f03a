-- Several calls of the program, one after the other: each ended in any way, and followed by nothing, a kill or a crash.
use Rattle.std.specs.Prelude.{◌≡◌, ◌⊎◌, ◌≤◌, ⊤, ℕ, List, [], ◌∷◌, ◌++◌, length, take}
use Rattle.disk_model.specs.Disk.{Files, Disk, LeavesOnly}
use Rattle.disk_model.specs.declared.machine.FileNo.TheVariants.{Objects}
use Rattle.formats.specs.Objects.{BeginsStore}
use Rattle.formats.specs.declared.params.Params.{Params}
use Rattle.explain_core.specs.History.{Member, commands_of}
use Rattle.restart.specs.Starts.{OrAtStart}
use Rattle.shell_base.specs.Store.{Command, Stands, StandsInEither, Opens, IsNew}
use Rattle.shell_base.specs.Keeps.{KeepsFiles}
use Rattle.standby_words.specs.Following.{FollowsFrames, StreamMoment}
use Rattle.script_run.specs.Groups.{AreWhole, account_before}
use Rattle.script_run.specs.Printed.{SaysForced}
use Rattle.script_run.specs.Answers.{Said, Moment}

-- What was done to a store beside the runs: it was made with these numbers, an upgrade gave it these, or it followed a stream of
-- these bytes.
pub data Sizing : Type 0 where
  by_init : Params → Sizing
  by_upgrade : Params → Sizing
  by_follow : List ℕ → Sizing

-- an `init` has asked for a store with these numbers
abbrev pub WereAskedFor : List Sizing → Params → Type 0
WereAskedFor [] p = ⊥
WereAskedFor (by_init q ∷ sizes) p = (p ≡ q) ⊎ WereAskedFor sizes p
WereAskedFor (by_upgrade q ∷ sizes) p = WereAskedFor sizes p
WereAskedFor (by_follow bytes ∷ sizes) p = WereAskedFor sizes p

-- an `upgrade` has
abbrev pub WereGrownTo : List Sizing → Params → Type 0
WereGrownTo [] p = ⊥
WereGrownTo (by_init q ∷ sizes) p = WereGrownTo sizes p
WereGrownTo (by_upgrade q ∷ sizes) p = (p ≡ q) ⊎ WereGrownTo sizes p
WereGrownTo (by_follow bytes ∷ sizes) p = WereGrownTo sizes p

-- a `follow` was given these bytes
abbrev pub WereFollowed : List Sizing → List ℕ → Type 0
WereFollowed [] bytes = ⊥
WereFollowed (by_init q ∷ sizes) bytes = WereFollowed sizes bytes
WereFollowed (by_upgrade q ∷ sizes) bytes = WereFollowed sizes bytes
WereFollowed (by_follow others ∷ sizes) bytes = (bytes ≡ others) ⊎ WereFollowed sizes bytes

-- some whole frames of these bytes, one after the other, make these commands of those of a store
abbrev pub StreamAdds : Params → List Command → List ℕ → List Command → Type 0
StreamAdds p commands bytes now = (first : List (Member Command)) × (rest : List ℕ) × (commands_of first ≡ commands) × FollowsFrames p first bytes rest now

-- a run: the lines of its script, and the bytes that it said
pub record Ran : Type 0 where
  pub script : List (List ℕ)
  pub bytes : List ℕ

-- What a run makes of a store with these commands: what it said is answers to its script, and after the commands stands
-- a beginning of those that it adds, which splits no group; all together are no fewer than any number that its bytes say to be
-- forced.
pub record Adds (p : Params) (commands : List Command) (ran : Ran) (now : List Command) : Type 0 where
  pub story : Said p (λ ops line reply. ⊤) commands ran.script ran.bytes
  pub kept : ℕ
  pub all_before : length commands ≤ kept
  pub no_more : kept ≤ length (story.account.commands ++ story.added)
  pub whole : AreWhole kept (account_before story.todo story.account)
  pub now_is : now ≡ take kept (story.account.commands ++ story.added)
  pub acked : (n : ℕ) → SaysForced ran.bytes n → n ≤ kept

-- What several runs make of it, one after the other, the latest first, and the numbers of the store then: those of the start, or
-- those that an upgrade gave it between two runs. Between two runs it may have followed a stream too.
pub data Grows (sizes : List Sizing) (p : Params) (commands : List Command) : List Ran → Params → List Command → Type 0 where
  none : Grows sizes p commands [] p commands
  more : {runs : List Ran} {q : Params} {before now : List Command} → (ran : Ran) → Grows sizes p commands runs q before → Adds q before ran now → Grows sizes p commands (ran ∷ runs) q now
  larger : {runs : List Ran} {q : Params} {now : List Command} → (r : Params) → Grows sizes p commands runs q now → WereGrownTo sizes r → Grows sizes p commands runs r now
  followed : {runs : List Ran} {q : Params} {before now : List Command} → (bytes : List ℕ) → Grows sizes p commands runs q before → WereFollowed sizes bytes → StreamAdds q before bytes now → Grows sizes p commands runs q now

-- the bytes of one of the runs say that so many are forced
abbrev pub SaidForced : List Ran → ℕ → Type 0
SaidForced [] n = ⊥
SaidForced (ran ∷ runs) n = SaidForced runs n ⊎ SaysForced ran.bytes n

-- The files stand for the commands of the start, and after them the commands that the runs have added, no fewer than any
-- of them has printed to be forced. Their numbers are those of the start, or those that an upgrade gave them.
pub record Survives (sizes : List Sizing) (p : Params) (commands : List Command) (runs : List Ran) (files : Files) : Type 0 where
  pub numbers : Params
  pub now : List Command
  pub later : List Command
  pub now_is : now ≡ commands ++ later
  pub grows : Grows sizes p commands runs numbers now
  pub stands : Stands numbers files now
  pub acked : (n : ℕ) → SaidForced runs n → n ≤ length now

-- The machine that the next call meets, after one that said these bytes: each of its images was one at a moment of that
-- call. It is what the call left, or after a kill what there was at that moment, or after a crash one that is settled on
-- one of the images.
pub record Follows (old new next : Disk) (said : List ℕ) : Type 0 where
  pub told : old.tells_moments → next.tells_moments
  pub within : next.tells_moments → (files : Files) (s : List ℕ) → next.left_since next.clock files s → new.left_since old.clock files said

-- Calls of the program on machines, from the first to the last, each with what the clauses of `top` say of it: the numbers
-- that were given to stores, and the runs, the latest first.
pub data Sessions {T : Type 0} (disk : T → Disk) (first : T) : List Sizing → List Ran → T → Type 0 where
  start : Sessions disk first [] [] first
  -- a run on a store, by `images`, or of a source that reports nothing by `run`, its `untold`
  run : {sizes : List Sizing} {runs : List Ran} → (old new next : T) (ran : Ran) → Sessions disk first sizes runs old → BeginsStore ((disk old).reads Objects)
      → ((p : Params) (commands : List Command) → Opens p (disk old) commands → (disk old).tells_moments → LeavesOnly (disk old) (disk new) (OrAtStart (disk old) (Moment p commands ran.script (disk old).said)))
      → Follows (disk old) (disk new) (disk next) ((disk old).said ++ ran.bytes) → Sessions disk first sizes (ran ∷ runs) next
  -- the making of a store with these numbers where there is none, by `call`, its part `images`
  init : {sizes : List Sizing} {runs : List Ran} → (old new next : T) (p : Params) (said : List ℕ) → Sessions disk first sizes runs old → (BeginsStore ((disk old).reads Objects) → ⊥)
      → ((disk old).tells_moments → LeavesOnly (disk old) (disk new) (OrAtStart (disk old) (λ files bytes. IsNew p files × (bytes ≡ (disk old).said))))
      → Follows (disk old) (disk new) (disk next) said → Sessions disk first (by_init p ∷ sizes) runs next
  -- a dump or a shipment, by `call`: of a store by `images` of its `table` or `log`, where there is none by `keeps` of its `judged`
  reads : {sizes : List Sizing} {runs : List Ran} → (old new next : T) (said : List ℕ) → Sessions disk first sizes runs old → ((BeginsStore ((disk old).reads Objects) → ⊥) → (disk old).tells_moments → KeepsFiles (disk old) (disk new))
      → ((p : Params) (commands : List Command) → Opens p (disk old) commands → (disk old).tells_moments → LeavesOnly (disk old) (disk new) (OrAtStart (disk old) (λ files bytes. Stands p files commands)))
      → Follows (disk old) (disk new) (disk next) said → Sessions disk first sizes runs next
  -- an upgrade, by `call`: of a store by `images`, where there is none by `keeps`, a part of what is `judged`
  upgrade : {sizes : List Sizing} {runs : List Ran} → (old new next : T) (q : Params) (said : List ℕ) → Sessions disk first sizes runs old → ((BeginsStore ((disk old).reads Objects) → ⊥) → (disk old).tells_moments → KeepsFiles (disk old) (disk new))
      → ((p : Params) (commands : List Command) → Opens p (disk old) commands → (disk old).tells_moments → LeavesOnly (disk old) (disk new) (OrAtStart (disk old) (λ files bytes. StandsInEither p q commands files)))
      → Follows (disk old) (disk new) (disk next) said → Sessions disk first (by_upgrade q ∷ sizes) runs next
  -- the following of a stream, by `call`: of a store by `images` of its `stream`, where there is none by `keeps` of its `judged`
  follow : {sizes : List Sizing} {runs : List Ran} → (old new next : T) (bytes said : List ℕ) → Sessions disk first sizes runs old → ((BeginsStore ((disk old).reads Objects) → ⊥) → (disk old).tells_moments → KeepsFiles (disk old) (disk new))
      → ((p : Params) (commands : List Command) → Opens p (disk old) commands → (disk old).tells_moments
      → (first : List (Member Command)) × (commands_of first ≡ commands) × LeavesOnly (disk old) (disk new) (OrAtStart (disk old) (λ files bytes_said. StreamMoment p first bytes files)))
      → Follows (disk old) (disk new) (disk next) said → Sessions disk first (by_follow bytes ∷ sizes) runs next
  -- any other call, by `keeps`, a part of a demo, of an `init`, of `nothing` in `cause`, and of `judged` in `run`
  other : {sizes : List Sizing} {runs : List Ran} → (old new next : T) (said : List ℕ) → Sessions disk first sizes runs old → KeepsFiles (disk old) (disk new)
      → Follows (disk old) (disk new) (disk next) said → Sessions disk first sizes runs next

-- A call goes on any calls before it as one that adds nothing, whatever follows it.
abbrev pub AddsNothing : {T : Type 0} → (T → Disk) → T → T → Type 0
AddsNothing {T} disk old new = (first next : T) (sizes : List Sizing) (runs : List Ran) (said : List ℕ) → Sessions disk first sizes runs old → Follows (disk old) (disk new) (disk next) said → Sessions disk first sizes runs next

-- no run has said anything yet
abbrev pub AllSilent : List Ran → Type 0
AllSilent [] = ⊤
AllSilent (ran ∷ runs) = (ran.bytes ≡ []) × AllSilent runs

-- a crash at the start could leave a store with these numbers that has no commands
abbrev pub IsThere : Disk → Params → Type 0
IsThere first p = (files : Files) × (said : List ℕ) × first.left_since first.clock files said × Stands p files []

-- No store is there, and no run has said anything; or a store, with what the runs have made of one without commands, and
-- its numbers were at first those that an `init` has asked for, or of a store that was there at the start.
abbrev pub Arises : Disk → List Sizing → List Ran → Files → Type 0
Arises first sizes runs files = ((BeginsStore (files Objects) → ⊥) × AllSilent runs) ⊎ ((p : Params) × (WereAskedFor sizes p ⊎ IsThere first p) × Survives sizes p [] runs files)
