-- What the commands of a store do to an interpreted application whose object they write only by feeding it and by steps of one
-- program.
use Rattle.std.specs.Prelude.{◌≡◌, ◌≤◌, ⊤, All, ℕ, ◌+◌, ◌==◌, true, None, List, [], ◌∷◌, ◌++◌, length, replicate, if◌then◌else◌}
use Rattle.oper_core.specs.State.{is_among}
use Rattle.formats.specs.Objects.{IsInRange}
use Rattle.formats.specs.declared.params.Params.{Params}
use Rattle.op_codec.specs.AllOps.{AllOps, all_meaning}
use Rattle.op_codec.specs.declared.sum.Sum.TheVariants.{First, Second}
use Rattle.app_program.specs.declared.program_op.ProgramOp.TheVariants.{Step, Feed}
use Rattle.app_program.specs.History.{Event, all_fed, step_count}
use Rattle.app_program.specs.History.Event.{Feeding, Stepping}
use Rattle.app_program.specs.OneCode.{AreBytes}
use Rattle.app_program.specs.State.{HasDone}
use Rattle.store_engine.specs.Store.{meaning_in, refusal_after, state_of}
use Rattle.app_steps.specs.Steps.{program_step}

-- an object may have this value: it consists of bytes, and is not too long
pub record IsValue (p : Params) (v : List ℕ) : Type 0 where
  pub bytes : AreBytes v
  pub short : length v ≤ p.cap

module _ (p : Params) (app : ℕ) where
  -- what a command, after those before it, does to the machine in the object, if it is a feed or a step of it
  abbrev pub events_of : List AllOps → AllOps → List Event
  events_of before (Second (Second (First (Feed a x)))) = if app == a then Feeding (state_of all_meaning p before x) ∷ [] else []
  events_of before (Second (Second (First (Step a q)))) = if app == a then Stepping ∷ [] else []
  events_of before op = []

  -- what several do
  abbrev pub events : List AllOps → List AllOps → List Event
  events before [] = []
  events before (op ∷ ops) = events_of before op ++ events (before ++ op ∷ []) ops

  -- all that they feed, and how many steps of it they are
  abbrev pub fed_to : List AllOps → List AllOps → List ℕ
  fed_to before ops = all_fed (events before ops)

  abbrev pub steps_done : List AllOps → List AllOps → ℕ
  steps_done before ops = step_count (events before ops)

  module _ (code : List ℕ) where
    -- after the commands this one feeds a machine with bytes, or is a step by the program that has this code
    abbrev pub IsOfProgram : List AllOps → AllOps → Type 0
    IsOfProgram before (Second (Second (First (Feed a x)))) = AreBytes (state_of all_meaning p before x)
    IsOfProgram before (Second (Second (First (Step a q)))) = state_of all_meaning p before q ≡ code
    IsOfProgram before op = ⊥

    -- the same, where the machine may be fed with anything
    abbrev pub IsFeedOrStep : List AllOps → AllOps → Type 0
    IsFeedOrStep before (Second (Second (First (Feed a x)))) = ⊤
    IsFeedOrStep before (Second (Second (First (Step a q)))) = state_of all_meaning p before q ≡ code
    IsFeedOrStep before op = ⊥

    -- each of the commands that writes the object feeds it or is a step of it by that program; the others do what they like
    abbrev pub HasOnlyThese : List AllOps → List AllOps → Type 0
    HasOnlyThese before [] = ⊤
    HasOnlyThese before (op ∷ ops) =
        (is_among app ((meaning_in all_meaning p).writes op) ≡ true → IsFeedOrStep before op) × HasOnlyThese (before ++ op ∷ []) ops

    -- each of the commands that writes the object is accepted, and feeds it or is a step of it by that program; the others do
    -- what they like
    abbrev pub AreOfProgram : List AllOps → List AllOps → Type 0
    AreOfProgram before [] = ⊤
    AreOfProgram before (op ∷ ops) =
        (is_among app ((meaning_in all_meaning p).writes op) ≡ true → (refusal_after all_meaning p before op ≡ None) × IsOfProgram before op)
        × AreOfProgram (before ++ op ∷ []) ops

-- what each command has in the log consists of bytes, as it does for every operation that a program has
abbrev pub AreOfBytes : Params → List AllOps → Type 0
AreOfBytes p commands = All (λ op. AreBytes ((meaning_in all_meaning p).code op)) commands

-- Where after some first commands the object was empty, and the others wrote it only by feeds and by steps of the program in
-- the other object, then after k steps more its value is that of the machine that has done these too on all that was fed.
abbrev pub RunsOn : Params → ℕ → ℕ → List AllOps → ℕ → Type 0
RunsOn p app program commands k =
    let code = state_of all_meaning p commands program in
    (before since : List AllOps) → commands ≡ before ++ since → IsInRange p → IsValue p code → state_of all_meaning p before app ≡ [] → AreOfProgram p app code before since
    → HasDone code (fed_to p app before since) (steps_done p app before since + k) (state_of all_meaning p (commands ++ replicate k (program_step app program)) app)

-- The same of the commands for which an engine stands, each of which was accepted: it is enough that they consist of bytes.
abbrev pub RunsOnBytes : Params → ℕ → ℕ → List AllOps → ℕ → Type 0
RunsOnBytes p app program commands k =
    let code = state_of all_meaning p commands program in
    (before since : List AllOps) → commands ≡ before ++ since → AreOfBytes p commands → state_of all_meaning p before app ≡ [] → HasOnlyThese p app code before since
    → HasDone code (fed_to p app before since) (steps_done p app before since + k) (state_of all_meaning p (commands ++ replicate k (program_step app program)) app)
