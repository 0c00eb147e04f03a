-- A stream of frames is followed.
use Rattle.std.specs.Prelude.{◌≡◌, ◌≢◌, ◌⊎◌, ◌+◌, ◌<◌, ◌≤◌, ◌^◌, ◌++◌, ⊤, ℕ, Bool, true, List, [], length, Option, None, Some, Result, Ok, Err}
use Rattle.std.specs.List.{AllByRecursion}
use Rattle.disk_model.specs.Disk.{Files, Disk, LeavesOnly, Rises, IsSettled}
use Rattle.formats.specs.Log.{IsPayload}
use Rattle.formats.specs.Records.{records_of}
use Rattle.formats.specs.declared.params.Params.{Params}
use Rattle.formats.specs.declared.record.Record.{Record}
use Rattle.frame_stream.specs.Frames.{frames, HasBadLength, IsUnfinished}
use Rattle.explain_core.specs.History.{Member, commands_of}
use Rattle.explain_core.specs.World.{World}
use Rattle.execution.specs.Judged.{first_refused, follows}
use Rattle.disk_model.specs.Silent.{IsSilent}
use Rattle.op_codec.specs.AllOps.{all_meaning}
use Rattle.restart.specs.Starts.{OrAtStart}
use Rattle.standing.specs.Standing.{FilesShow}
use Rattle.standby_node.specs.Feeding.{FeedsTo, HasRefused, IsLedTo}
use Rattle.standby_node.specs.Same.{AreAllSame, AreCodesIn, IsUnlikeIn, Unlike, ends_at}
use Rattle.standby_node.specs.Same.Unlike.{other, gone}
use Rattle.standby_node.specs.Standby.{AreFramesOf, IsFollowing, StandbyView}
use Rattle.standby_node.specs.declared.follow_err.FollowErr.{FollowErr}
use Rattle.standby_node.specs.declared.follow_err.FollowErr.TheVariants as errors
use Rattle.store_engine.specs.Engine.{InEachImage, forced_in}
use Rattle.script_lines.specs.declared.read_error.ReadError.{ReadError}
use Rattle.script_lines.specs.declared.read_error.ReadError.TheVariants.{ReadFault, TooLong as InputTooLong, Memory as NoMemory}
use Rattle.shell_base.specs.declared.budget.Budget.{Budget}
use Rattle.shell_base.specs.Again.{IsStartRefused}
use Rattle.shell_base.specs.Judging.{JudgesFiles, ReadsNoStore}
use Rattle.shell_base.specs.First.{OpeningMoment, Stage, IsFirst}
use Rattle.shell_base.specs.Notices as notices
use Rattle.shell_base.specs.Status.{IsOfFollow}
use Rattle.shell_base.specs.Store.{Command, Opens, ShowsIn, Stands, meaning_in}
use Rattle.shell_base.specs.declared.status.Status.{Status}
use Rattle.shell_base.specs.declared.status.Status.TheVariants.{Done, NotAStore, Damaged as FilesDamaged, DiskFault as DiskFailed, ReadFault as InputFailed, SayFault, Memory as OutOfMemory, RestartMemory, TooLong, BadStream, StandbyFull}
use Rattle.standby_words.specs.declared.cut.Cut.{Cut}
use Rattle.standby_words.specs.declared.cut.Cut.TheVariants as cuts

-- The bytes are whole frames and a rest: a store with the first history, which follows the frames, refuses none of their
-- records, and then has these commands.
pub record FollowsFrames (p : Params) (first : List (Member Command)) (bytes rest : List ℕ) (commands : List Command) : Type 0 where
  pub payloads : List (List ℕ)
  pub groups : List (List (Record Command))
  pub whole : AllByRecursion IsPayload payloads
  pub split : bytes ≡ frames payloads ++ rest
  pub frames_are : AreFramesOf (meaning_in p) payloads groups
  pub fine : first_refused (meaning_in p) first (records_of groups) ≡ None
  pub commands_are : commands ≡ commands_of (follows (meaning_in p) first (records_of groups))

-- the files stand for what some first whole frames of the bytes make of a store with the first history
pub record StreamMoment (p : Params) (first : List (Member Command)) (bytes : List ℕ) (files : Files) : Type 0 where
  pub rest : List ℕ
  pub commands : List Command
  pub follows_to : FollowsFrames p first bytes rest commands
  pub stands : Stands p files commands

-- the standby begins with this history, all of which is stable, and nothing came of a stream yet
pub record Begins (p : Params) (first : List (Member Command)) (d : Disk) (s : StandbyView) : Type 0 where
  pub following : IsFollowing all_meaning p first [] d s
  pub stable : forced_in s.engine ≡ length (commands_of first)

-- The whole frames of the bytes were followed, all before the rest: the files show a world with the history that they make of
-- the first one, and stand for its commands.
pub record ShowsFollowed (p : Params) (first : List (Member Command)) (bytes rest : List ℕ) (d : Disk) : Type 0 where
  pub commands : List Command
  pub follows_to : FollowsFrames p first bytes rest commands
  pub world : World Command
  pub shows : FilesShow (meaning_in p) p d.reads world
  pub history_is : world.history ≡ follows (meaning_in p) first (records_of follows_to.groups)
  pub stands : InEachImage d (λ files. Stands p files commands)
  pub settled : IsSettled d

-- the bytes are whole frames, all of which were followed, and it is said how many commands there are then
pub record HasFollowed (p : Params) (first : List (Member Command)) (bytes : List ℕ) (old new : Disk) : Type 0 where
  pub all : ShowsFollowed p first bytes [] new
  pub said : new.said ≡ old.said ++ notices.followed (length all.commands)

-- the bytes end within a frame, behind whole ones, all of which were followed, and it is said where that frame begins
pub record SaysShort (p : Params) (first : List (Member Command)) (bytes : List ℕ) (old new : Disk) : Type 0 where
  pub rest : List ℕ
  pub all : ShowsFollowed p first bytes rest new
  pub some : rest ≢ []
  pub unfinished : IsUnfinished rest
  pub fine : HasBadLength rest → ⊥
  pub place : ℕ
  pub place_is : place + length rest ≡ length bytes
  pub said : new.said ≡ old.said ++ notices.short place

-- what is said where a standby refuses a stream so; where something else ends it, nothing is said of it
abbrev pub notice_of : FollowErr → List ℕ
notice_of (errors.BadFrame place) = notices.bad_frame place
notice_of (errors.Gap expected got) = notices.gap expected got
notice_of (errors.Differs number) = notices.differs number
notice_of (errors.LogFull used need limit) = notices.full used need limit
notice_of cause = []

-- what is said where a record of a stream is not the store's own, or its place is no longer in the log
abbrev pub notice_of_unlike : Unlike → List ℕ
notice_of_unlike (other number) = notices.differs number
notice_of_unlike (gone number) = notices.unknown number

-- the stream is at fault
abbrev pub IsOfStream : FollowErr → Type 0
IsOfStream (errors.BadFrame place) = ⊤
IsOfStream (errors.Gap expected got) = ⊤
IsOfStream (errors.Differs number) = ⊤
IsOfStream cause = ⊥

-- the disk failed, or memory ran out
abbrev pub IsOfMachine : FollowErr → Type 0
IsOfMachine errors.DiskFault = ⊤
IsOfMachine errors.Memory = ⊤
IsOfMachine cause = ⊥

-- why no piece of an input was read of which so many bytes were taken, where so many reads had failed, and have now
abbrev pub StopsReading : ℕ → ℕ → ℕ → ReadError → Type 0
StopsReading taken before now ReadFault = Rises before now
StopsReading taken before now InputTooLong = 2 ^ 40 ≤ taken
StopsReading taken before now NoMemory = ⊥

-- how the following of an input ends where the standby refuses it, or fails
abbrev pub status_of_refusal : FollowErr → Status
status_of_refusal (errors.BadFrame place) = BadStream
status_of_refusal (errors.Gap expected got) = BadStream
status_of_refusal (errors.Differs number) = BadStream
status_of_refusal (errors.LogFull used need limit) = StandbyFull
status_of_refusal errors.DiskFault = DiskFailed
status_of_refusal (errors.Damaged file place) = FilesDamaged
status_of_refusal cause = OutOfMemory

-- the line of a refusal could not be said
abbrev pub IsUnsaid : Status → Type 0
IsUnsaid status = (status ≡ OutOfMemory) ⊎ (status ≡ SayFault)

-- A standby of the store refuses the bytes so, and that is said. The last of them came with the piece that it refused.
pub record SaysRefusal (p : Params) (first : List (Member Command)) (bytes : List ℕ) (old new : Disk) (cause : FollowErr) : Type 0 where
  pub standby : StandbyView
  pub following : IsFollowing all_meaning p first bytes new standby
  pub refused : HasRefused (meaning_in p) following.world.history standby cause
  pub said : new.said ≡ old.said ++ notice_of cause

-- the files show a world to which this one leads by what a standby does with a stream: records are followed, what waits is forced,
-- and thin nodes are installed together; no check is logged, and no log is trimmed
abbrev pub ShowLed : Params → World Command → Files → Type 0
ShowLed p w files = (v : World Command) × FilesShow (meaning_in p) p files v × FeedsTo (meaning_in p) w v

-- so it holds where the input was followed as far as it came: to its end, or until it could not be read
abbrev pub WhereFollowed : Result ℕ Cut → Type 0 → Type 0
WhereFollowed (Ok n) P = P
WhereFollowed (Err (cuts.Short place)) P = P
WhereFollowed (Err (cuts.Refused cause)) P = ⊤
WhereFollowed (Err (cuts.Unread error)) P = P
WhereFollowed (Err (cuts.Unlike number)) P = P
WhereFollowed (Err (cuts.Unknown number)) P = P

-- what is answered at the end of the input, by the place of a frame that is not whole
abbrev pub at_end : Option ℕ → ℕ → Result ℕ Cut
at_end None commands = Ok commands
at_end (Some place) commands = Err (cuts.Short place)

-- of a store in this world that has a record of its own with an LSN of the whole frames with which these bytes begin, it is the
-- same as theirs
abbrev pub AreItsOwn : Params → World Command → List ℕ → Type 0
AreItsOwn p w bytes = (codes : List (List ℕ)) × AreCodesIn (meaning_in p) w codes × AreAllSame w.base (meaning_in p) codes bytes

-- so it is where they are compared
abbrev pub HasOwn : Bool → Params → World Command → List ℕ → Type 0
HasOwn same p w bytes = same ≡ true → AreItsOwn p w bytes

-- the records of the front of these bytes are its own, and behind it one of them is not the same, or its place is no longer in the log
pub record IsNotItsOwn (p : Params) (w : World Command) (front bytes : List ℕ) (why : Unlike) : Type 0 where
  pub codes : List (List ℕ)
  pub codes_are : AreCodesIn (meaning_in p) w codes
  pub same : AreAllSame w.base (meaning_in p) codes front
  pub unlike : IsUnlikeIn w.base (meaning_in p) codes bytes why

-- what was found of an input that is compared, by how the following ended
abbrev pub ComparesInput : Bool → Params → World Command → List ℕ → List ℕ → Result ℕ Cut → Type 0
ComparesInput same p w front bytes (Ok n) = HasOwn same p w bytes
ComparesInput same p w front bytes (Err (cuts.Short place)) = HasOwn same p w bytes
ComparesInput same p w front bytes (Err (cuts.Refused cause)) = HasOwn same p w bytes ⊎ IsOfMachine cause
ComparesInput same p w front bytes (Err (cuts.Unread error)) = HasOwn same p w bytes ⊎ (error ≡ NoMemory)
ComparesInput same p w front bytes (Err (cuts.Unlike number)) = (same ≡ true) × IsNotItsOwn p w front bytes (other number)
ComparesInput same p w front bytes (Err (cuts.Unknown number)) = (same ≡ true) × IsNotItsOwn p w front bytes (gone number)

-- these bytes were followed, all whole frames of them
abbrev pub FollowsFront : Params → List (Member Command) → List ℕ → Disk → StandbyView → Type 0
FollowsFront p first front d standby = IsFollowing all_meaning p first front d standby × IsUnfinished standby.frames.kept

-- What an open standby made of its input, of which these bytes were taken, by how that ended: all of it was followed, and there are
-- so many commands, or it ends within a frame, or it was refused, or a record behind its front is not the same.
abbrev pub FollowsInput : Params → List (Member Command) → List ℕ → List ℕ → Type 0 → Disk → StandbyView → Result ℕ Cut → Type 0
FollowsInput p first front bytes ended d standby (Ok n) = ended × (all : ShowsFollowed p first bytes [] d) × (n ≡ length all.commands)
FollowsInput p first front bytes ended d standby (Err (cuts.Short place)) = ended × (rest : List ℕ) × ShowsFollowed p first bytes rest d × (rest ≢ []) × IsUnfinished rest × (HasBadLength rest → ⊥) × (place + length rest ≡ length bytes)
FollowsInput p first front bytes ended d standby (Err (cuts.Refused cause)) = ((following : IsFollowing all_meaning p first bytes d standby) × HasRefused (meaning_in p) following.world.history standby cause) ⊎ IsOfMachine cause
FollowsInput p first front bytes ended d standby (Err (cuts.Unread error)) = ⊤
FollowsInput p first front bytes ended d standby (Err (cuts.Unlike number)) = FollowsFront p first front d standby
FollowsInput p first front bytes ended d standby (Err (cuts.Unknown number)) = FollowsFront p first front d standby

-- the input was read to its end, and has fewer bytes than it may have
abbrev pub HasEnded : Type 0 → List ℕ → List ℕ → Type 0
HasEnded told left rest = told → (rest ≡ []) × (length left < 2 ^ 40)

-- An open standby, to which nothing came yet, takes an input. It had `left` at its start and has `rest` at its end, where the source
-- reports that (`told`). At each moment nothing is said, and the files stand for what some first whole frames make of its history.
-- Where that is asked (`same`), it is compared.
pub record IsInputFollowed (same : Bool) (told : Type 0) (left rest : List ℕ) (old new : Disk) (before after : StandbyView) (result : Result ℕ Cut) : Type 0 where
  pub bytes : List ℕ
  pub taken : told → left ≡ bytes ++ rest
  pub few : length bytes ≤ 2 ^ 40
  -- those that came before the last piece
  pub front : List ℕ
  pub piece : List ℕ
  pub split : bytes ≡ front ++ piece
  pub follows_it : (p : Params) (first : List (Member Command)) → Begins p first old before → FollowsInput p first front bytes (HasEnded told left rest) new after result
  pub images : old.tells_moments → (p : Params) (first : List (Member Command)) → Begins p first old before → LeavesOnly old new (IsSilent (StreamMoment p first bytes) old.said)
  pub leads : (p : Params) (w : World Command) → ShowsIn p old before.engine w → WhereFollowed result (IsLedTo all_meaning p new after.engine w)
  pub compares : (p : Params) (w : World Command) → ShowsIn p old before.engine w → ComparesInput same p w front bytes result

-- a moment of it and of what is said behind it: once something is said, the files are those that are there at the end
abbrev pub FollowMoment : Params → List (Member Command) → List ℕ → Disk → Disk → Files → List ℕ → Type 0
FollowMoment p first bytes old new files said = StreamMoment p first bytes files × ((said ≡ old.said) ⊎ (files ≡ new.reads))

-- nothing is said where it ends so
abbrev pub IsSilentEnd : Status → Type 0
IsSilentEnd DiskFailed = ⊤
IsSilentEnd InputFailed = ⊤
IsSilentEnd OutOfMemory = ⊤
IsSilentEnd RestartMemory = ⊤
IsSilentEnd TooLong = ⊤
IsSilentEnd status = ⊥

-- the stream was followed as far as it came, and it did not end within a frame
abbrev pub IsFollowedThrough : Status → Type 0
IsFollowedThrough Done = ⊤
IsFollowedThrough InputFailed = ⊤
IsFollowedThrough TooLong = ⊤
IsFollowedThrough status = ⊥

-- What is done of a store that showed this world, where a stream is followed as far as it came: with status 13 so too, unless it was
-- refused, which was then said.
pub record LeadsOn (p : Params) (w : World Command) (old new : Disk) (status : Status) : Type 0 where
  pub through : IsFollowedThrough status → ShowLed p w new.reads
  pub stream : status ≡ BadStream → ShowLed p w new.reads ⊎ ((cause : FollowErr) × IsOfStream cause × (new.said ≡ old.said ++ notice_of cause))

-- A record of these bytes is not that of a store in this world, and that is said. The pieces before the one that it came with were
-- compared and followed, and all of them end before its frame does.
pub record SaysUnlike (p : Params) (first : List (Member Command)) (w : World Command) (bytes : List ℕ) (old new : Disk) (why : Unlike) : Type 0 where
  pub standby : StandbyView
  pub front : List ℕ
  pub piece : List ℕ
  pub split : bytes ≡ front ++ piece
  pub follows : FollowsFront p first front new standby
  pub unlike : IsNotItsOwn p w front bytes why
  pub later : length front < ends_at w.base (meaning_in p) unlike.unlike
  pub said : new.said ≡ old.said ++ notice_of_unlike why

-- What the following of a stream, of which these bytes were taken, to the end of the input or not (`ended`), makes of a store with this
-- history, by its status; the store shows this world.
pub record FollowsFrom (same : Bool) (ended : Type 0) (bytes : List ℕ) (p : Params) (first : List (Member Command)) (w : World Command) (old new : Disk) (status : Status) : Type 0 where
  -- with status 0 all of the input was followed; with status 13 it ends within a frame, or was refused; with status 14 the log
  -- has no room for it
  pub done : status ≡ Done → ended × HasFollowed p first bytes old new
  pub stream : status ≡ BadStream → (HasOwn same p w bytes × ((ended × SaysShort p first bytes old new) ⊎ ((cause : FollowErr) × IsOfStream cause × SaysRefusal p first bytes old new cause))) ⊎ ((same ≡ true) × (why : Unlike) × SaysUnlike p first w bytes old new why)
  -- where it is compared, what was passed over is the store's own
  pub its_own : IsFollowedThrough status ⊎ (status ≡ StandbyFull) → HasOwn same p w bytes
  pub full : status ≡ StandbyFull → (used : ℕ) × (need : ℕ) × (limit : ℕ) × SaysRefusal p first bytes old new (errors.LogFull used need limit)
  pub quiet : IsSilentEnd status → new.said ≡ old.said

-- an open standby follows it, and ends with this status, by what is said
pub record IsFollowOpen (same : Bool) (told : Type 0) (left rest : List ℕ) (old new : Disk) (before : StandbyView) (status : Status) : Type 0 where
  pub bytes : List ℕ
  pub taken : told → left ≡ bytes ++ rest
  pub few : length bytes ≤ 2 ^ 40
  pub follows_it : (p : Params) (first : List (Member Command)) (w : World Command) → Begins p first old before → ShowsIn p old before.engine w → FollowsFrom same (HasEnded told left rest) bytes p first w old new status
  pub images : old.tells_moments → (p : Params) (first : List (Member Command)) → Begins p first old before → LeavesOnly old new (FollowMoment p first bytes old new)
  pub leads : (p : Params) (w : World Command) → ShowsIn p old before.engine w → LeadsOn p w old new status

-- a moment from before the store was opened: while it is opened nothing is said, and the files stand for its commands
abbrev pub StandbyMoment : Params → List Command → List (Member Command) → List ℕ → Disk → Disk → Files → List ℕ → Type 0
StandbyMoment p commands first bytes old new files said = (Stands p files commands × (said ≡ old.said)) ⊎ FollowMoment p first bytes old new files said

-- or while it is opened the world is shown after some first steps of the restart's course
module _ (budget : Budget) (p : Params) (commands : List Command) (old : Disk) (first : Stage) (is : IsFirst budget p commands old first) where
  abbrev pub FollowingMoment : List ℕ → Disk → Files → List ℕ → Type 0
  FollowingMoment bytes new files said = OpeningMoment budget p commands old first is files said ⊎ FollowMoment p first.world.history bytes old new files said

-- Files that stand for commands follow a stream.
pub record IsFollowOn (budget : Budget) (same : Bool) (ended : Type 0) (bytes : List ℕ) (p : Params) (commands : List Command) (old new : Disk) (status : Status) : Type 0 where
  -- from each stage that a restart may make of the files, of which there is at least one, by its history, it is followed so
  pub first : (first : Stage) × IsFirst budget p commands old first × (commands_of first.world.history ≡ commands)
  pub follows_it : (first : Stage) → IsFirst budget p commands old first → FollowsFrom same ended bytes p first.world.history first.world old new status
  -- what a crash at any moment leaves is what one at the start could leave, or it stands for these commands, and then for what
  -- some first whole frames make of them; once something is said, it is what is there at the end
  pub images : old.tells_moments → (first : Stage) → IsFirst budget p commands old first → LeavesOnly old new (OrAtStart old (StandbyMoment p commands first.world.history bytes old new))
  pub from_settled : old.tells_moments → IsSettled old → (first : Stage) → IsFirst budget p commands old first → LeavesOnly old new (StandbyMoment p commands first.world.history bytes old new)
  -- but where the disk may have failed, or memory the opening, it stands for what some first whole frames make of them
  pub opened : old.tells_moments → status ≢ DiskFailed → status ≢ RestartMemory → (first : Stage) → IsFirst budget p commands old first → InEachImage new (StreamMoment p first.world.history bytes)
  -- where the restart was refused memory, the files stand for these commands still
  pub unopened : old.tells_moments → status ≡ RestartMemory → IsStartRefused budget p commands old new
  pub store : (status ≢ NotAStore) × (status ≢ FilesDamaged)
  -- the restart takes its course, and from the world that it has made nothing is done but what a stream asks for
  pub steps : old.tells_moments → (first : Stage) → (is : IsFirst budget p commands old first) → LeavesOnly old new (OrAtStart old (FollowingMoment budget p commands old first is bytes new))
  pub leads : (first : Stage) → IsFirst budget p commands old first → LeadsOn p first.world old new status

-- A stream is followed by any files, and compared, where that is asked (`same`). The input had `left` at its start and has `rest` at
-- its end, where the source reports that (`told`).
pub record IsFollowCall (budget : Budget) (same : Bool) (told : Type 0) (left rest : List ℕ) (old new : Disk) (status : Status) : Type 0 where
  -- these bytes were taken
  pub bytes : List ℕ
  pub taken : told → left ≡ bytes ++ rest
  pub few : length bytes ≤ 2 ^ 40
  pub stream : (p : Params) (commands : List Command) → Opens p old commands → IsFollowOn budget same (HasEnded told left rest) bytes p commands old new status
  pub ends : IsOfFollow status
  pub judged : old.tells_files → JudgesFiles old new status
  pub read : status ≡ NotAStore → ReadsNoStore new

-- such a call that finds memory ends so
abbrev pub IsFollowEnd : Status → Type 0
IsFollowEnd status = (status ≡ Done) ⊎ ((status ≡ TooLong) ⊎ ((status ≡ BadStream) ⊎ (status ≡ StandbyFull)))
