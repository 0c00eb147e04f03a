-- What is done at each moment of a call, by the courses of the restart and of the lines.
use Rattle.std.specs.Prelude.{◌≡◌, ◌⊎◌, ◌++◌, ⊤, ℕ, List, [], ◌∷◌, take, None}
use Rattle.std.specs.List.{flat_map}
use Rattle.disk_model.specs.Disk.{Files, Disk, LeavesOnly}
use Rattle.disk_model.specs.Silent.{IsSilent}
use Rattle.formats.specs.declared.params.Params.{Params}
use Rattle.standing.specs.Moments.{ShowsSome}
use Rattle.standing.specs.Standing.{FilesShow}
use Rattle.running_store.specs.Courses.{Course, course, force_course}
use Rattle.running_store.specs.Courses.Stop.{Through}
use Rattle.script_lines.specs.Grammar.{Request, AsksFor}
use Rattle.script_lines.specs.declared.line.Line.TheVariants.{Force as force, Save}
use Rattle.script_lines.specs.declared.line.Saving.TheVariants.{Start as bstart, Finish as bfinish}
use Rattle.script_lines.specs.Replies.{Reply, said_line}
use Rattle.shell_base.specs.declared.budget.Budget.{Budget}
use Rattle.shell_base.specs.Store.{Command, meaning_in}
use Rattle.shell_base.specs.First.{Stage, IsFirst, OpeningMoment}
use Rattle.script_run.specs.Stages.{AllGoBy, GivesUp, HasCourse, IsTendedTo, IsUpkeep, Leads, PacedStage, abort_course, finish_course, unpaced}
use Rattle.script_run.specs.declared.tending.Tending.{Tending}
use Rattle.script_run.specs.declared.tending.Tending.TheVariants.{ByHand, ByLine}

-- the log is forced for such a request
abbrev pub IsForcing : Request → Type 0
IsForcing force = ⊤
IsForcing (Save bstart) = ⊤
IsForcing (Save bfinish) = ⊤
IsForcing request = ⊥

-- What may be done for the next of these lines before anything is said of it: the course that the line has the engine take,
-- a force for `force`, and as a backup starts and ends, where no group is open, a restart for `abort`, where one is, and after
-- the last line the end of an open group and a force; nothing may be done for any line.
abbrev pub IsCourseDue : Params → Stage → List (List ℕ) → Course Command → Type 0
IsCourseDue p s [] c = c ≡ finish_course (meaning_in p) s.world s.used
IsCourseDue p s (line ∷ lines) c = HasCourse p s line c ⊎ (((request : Request) × IsForcing request × AsksFor line request × (s.world.group ≡ None) × (c ≡ force_course (meaning_in p) s.world s.used))
    ⊎ ((c ≡ course [] s.used Through) ⊎ ((used : ℕ) × GivesUp p s line used × (c ≡ abort_course p s.world used))))

-- the image shows the world after some first steps of what is due, none or all among them
pub record IsWorkedOn (p : Params) (s : Stage) (todo : List (List ℕ)) (files : Files) : Type 0 where
  pub its : Course Command
  pub due : IsCourseDue p s todo its
  pub shows : ShowsSome (meaning_in p) p s.world its.steps files

-- at each moment of these calls nothing is said of the line, and some first steps of what is due for it are done
abbrev pub Works : Params → Disk → Disk → Stage → List ℕ → Type 0
Works p old mid s line = old.tells_moments → LeavesOnly old mid (IsSilent (IsWorkedOn p s (line ∷ [])) old.said)

-- an answer to the line is being said, and the image shows the world that it leads to
pub record IsBeingSaid (p : Params) (s : Stage) (line part : List ℕ) (files : Files) : Type 0 where
  pub reply : Reply
  pub after : Stage
  pub leads : Leads p s line reply after
  pub count : ℕ
  pub begun : part ≡ take count (said_line reply)
  pub shows : FilesShow (meaning_in p) p files after.world

-- nothing is said of the next line, or an answer to it is being said
abbrev pub IsAtWork : Params → Stage → List (List ℕ) → List ℕ → Files → Type 0
IsAtWork p s todo part files = ((part ≡ []) × IsWorkedOn p s todo files) ⊎ ((line : List ℕ) × (rest : List (List ℕ)) × (todo ≡ line ∷ rest) × IsBeingSaid p s line part files)

-- the image shows the world of the stage, or, where the store is tended by line, the one after some first steps of the upkeep that is due
abbrev pub IsBetween : Tending → Params → PacedStage → Files → Type 0
IsBetween ByHand p at files = FilesShow (meaning_in p) p files at.stage.world
IsBetween ByLine p at files = FilesShow (meaning_in p) p files at.stage.world ⊎ ((epoch : ℕ) × (c : Course Command) × IsUpkeep p at epoch c × ShowsSome (meaning_in p) p at.stage.world c.steps files)

-- after the last answer, which led to this stage: upkeep is being done, or it was, and the next line is at work
abbrev pub IsBehind : Tending → Params → PacedStage → List (List ℕ) → List ℕ → Files → Type 0
IsBehind tending p at todo part files = ((part ≡ []) × IsBetween tending p at files) ⊎ ((tended : PacedStage) × IsTendedTo tending p at tended × IsAtWork p tended.stage todo part files)

-- The bytes said after `before` are whole answers to the first lines of the script, by which the stages go from the first
-- on, and perhaps a part of the next answer. Before its first byte the image shows the world after some first steps of upkeep
-- or, behind it, of what is due for the next line, from then on the world that the answer leads to.
pub record StageMoment (tending : Tending) (p : Params) (first : Stage) (script : List (List ℕ)) (before : List ℕ) (files : Files) (said : List ℕ) : Type 0 where
  pub lines : List (List ℕ)
  pub todo : List (List ℕ)
  pub replies : List Reply
  pub part : List ℕ
  pub stage : PacedStage
  pub script_is : script ≡ lines ++ todo
  pub said_is : said ≡ before ++ flat_map said_line replies ++ part
  pub goes : AllGoBy tending p (unpaced first) lines replies stage
  pub work : IsBehind tending p stage todo part files

module _ (tending : Tending) (budget : Budget) (p : Params) (commands : List Command) (old : Disk) (first : Stage) (is : IsFirst budget p commands old first) where
  -- a moment of a run of a script
  abbrev pub RunMoment : List (List ℕ) → Files → List ℕ → Type 0
  RunMoment script files said = OpeningMoment budget p commands old first is files said ⊎ StageMoment tending p first script old.said files said
