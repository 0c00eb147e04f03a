-- What a line that asks for one command makes, and that it asks for no trim.
use Rattle.std.proofs.Common.{◌≡◌, sym, subst, refl, ℕ, List, [], ◌∷◌, Option, Some}
use Rattle.std.specs.Option.{is_some}
use Rattle.std.proofs.lemmas.List.{append-nil}
use Rattle.oper_core.specs.Meaning.{Meaning}
use Rattle.oper_core.specs.declared.refusal.Refusal.{Refusal}
use Rattle.formats.specs.declared.params.Params.{Params}
use Rattle.explain_core.specs.World.{World}
use Rattle.running_store.specs.Courses.{Course, Stop, course, behind}
use Rattle.running_store.specs.Courses.Stop.{Through, Full, At_end, Worn}
use Rattle.execution.specs.Courses.{append_course}
use Rattle.store_engine.specs.Lists.{commands_course}
use Rattle.script_lines.specs.Grammar.{Request}
use Rattle.script_lines.specs.declared.line.Line.TheVariants.{Run as run, Keep, Group}
use Rattle.script_lines.specs.declared.line.Upkeep.TheVariants.{Trim as trim}
use Rattle.script_lines.specs.declared.line.Grouping.TheVariants.{Begin as begin_group, End as end_group, Abort as abort_group}
use Rattle.store_engine.specs.Engine.{EngineView}
use Rattle.shell_base.specs.Store.{Command, refusal_after}
use Rattle.script_run.specs.Found.{EndsAtLast, IsStopped, MayStop}
use Rattle.script_run.specs.Groups.{group_after}
use Rattle.script_run.specs.Made.{Made, AsksMade, made_by, one_made, one_unless}
use Rattle.script_run.specs.Replies.{AsksCommand, IsNumbered}

-- a line that asks for a command makes it, unless it is refused
pub command_made : (p : Params) (commands : List Command) (line : List ℕ) (op : Command) → AsksCommand line op → AsksMade p commands line (one_made p commands op)
command_made p commands line op asks = record { request = run op; asks = asks; makes = refl }

pub made_unless : (p : Params) (commands : List Command) (line : List ℕ) (op : Command) (refusal : Option Refusal) → refusal_after p commands op ≡ refusal → AsksCommand line op → AsksMade p commands line (one_unless op refusal)
made_unless p commands line op refusal is asks = subst (λ (r : Option Refusal). AsksMade p commands line (one_unless op r)) is (command_made p commands line op asks)

-- what asks for commands begins and ends no group
pub made_alike : (p : Params) (commands others : List Command) (it : Made) (group : Option ℕ) (request : Request) → made_by p commands request ≡ Some it → group_after request group others ≡ group
made_alike p commands others it group (Group begin_group) makes = cc
made_alike p commands others it group (Group end_group) makes = cc
made_alike p commands others it group (Group abort_group) makes = cc
made_alike p commands others it group request makes = refl

-- and it asks for no trim, so that its `end` says the next number
pub made_ends : (p : Params) (commands : List Command) (it : Made) (engine : EngineView) (number : ℕ) (request : Request) → made_by p commands request ≡ Some it → IsStopped engine (At_end number) → EndsAtLast engine request number
made_ends p commands it engine number (Keep trim) makes stops = cc
made_ends p commands it engine number request makes stops = stops

-- and so does what may be stopped for lack of one
pub number_ends : (engine : EngineView) (number : ℕ) (request : Request) → MayStop request (At_end number) → IsStopped engine (At_end number) → EndsAtLast engine request number
number_ends engine number (Keep trim) may stops = absurd may
number_ends engine number request may stops = stops

pub worn_ends : (engine : EngineView) (number : ℕ) (request : Request) → MayStop request (Worn number) → IsStopped engine (Worn number) → EndsAtLast engine request number
worn_ends engine number (Keep trim) may stops = stops
worn_ends engine number request may stops = absurd may

pub is_numbered : (number : ℕ) (request : Request) → MayStop request (At_end number) → IsNumbered request
is_numbered number (Keep trim) may = absurd may
is_numbered number request may = may

pub worn_numbered : (number : ℕ) (request : Request) → MayStop request (Worn number) → IsNumbered request
worn_numbered number (Keep trim) may = tt
worn_numbered number request may = absurd may

behind_nothing : (c : Course Command) (stop : Stop) → c.stop ≡ stop → behind c (course [] c.used Through) stop ≡ c
behind_nothing c Through is = λ i. record { steps = append-nil c.steps i; used = c.used; stop = sym is i }
behind_nothing c (Full used need limit) is = refl
behind_nothing c (At_end number) is = refl
behind_nothing c (Worn epoch) is = refl

-- the course of one command is that of its record
pub one_course : (m : Meaning Command) (limit : ℕ) (op : Command) (w : World Command) (used : ℕ) → commands_course m limit (op ∷ []) w used ≡ append_course m (is_some w.group) limit op w used
one_course m limit op w used = let c = append_course m (is_some w.group) limit op w used in behind_nothing c c.stop refl
