-- Commands of which only those of its own calls write a range, and what these make of the map that the range stands for.
use Rattle.std.specs.Prelude.{◌≡◌, ◌≤◌, IsTrue, All, ℕ, false, Option, None, Some, List, [], ◌∷◌, ◌++◌, fold, map, take}
use Rattle.std.specs.FinMap.{FinMap, insert, remove}
use Rattle.disk_model.specs.Disk.{Files}
use Rattle.oper_core.specs.State.{State, is_among}
use Rattle.formats.specs.declared.params.Params.{Params}
use Rattle.key_entries.specs.Entries.{byte_order}
use Rattle.key_entries.specs.Short.{is_short}
use Rattle.op_codec.specs.AllOps.{all_meaning}
use Rattle.store_engine.specs.Store.{Stands}
use Rattle.call_plans.specs.Laws.{after_all}
use Rattle.call_plans.specs.Plan.{Plan}
use Rattle.range_calls.specs.Store.{Command, meaning_in, state_of}

-- the value of each key
abbrev pub Map : Type 0
Map = FinMap byte_order (List ℕ)

-- a call that changes the map of a range: it puts a pair, or deletes a key
pub data MapCall : Type 0 where
  puts : List ℕ → List ℕ → MapCall
  deletes : List ℕ → MapCall

-- its key and its value are short
abbrev pub IsShortCall : MapCall → Type 0
IsShortCall (puts key value) = IsTrue (is_short key) × IsTrue (is_short value)
IsShortCall (deletes key) = IsTrue (is_short key)

-- what it makes of the map
abbrev pub change_of : MapCall → Map → Map
change_of (puts key value) m = insert m key value
change_of (deletes key) m = remove m key

-- a command, and the call that is done with it, if one is
pub record Step : Type 0 where
  pub command : Command
  pub done : Option MapCall

abbrev pub commands_in : List Step → List Command
commands_in steps = map (λ step. step.command) steps

-- the map after steps, one after the other: each call that is done has changed it
abbrev pub map_after_one : Map → Option MapCall → Map
map_after_one m None = m
map_after_one m (Some call) = change_of call m

abbrev pub map_after : Map → List Step → Map
map_after m steps = fold (λ m step. map_after_one m step.done) m steps

-- what happens on a store: a command beside the range, or so many of the commands of a call on it, from the first on
-- (all of them, or fewer where the log, memory or the end of the program cut it short)
pub data Part : Type 0 where
  beside : Command → Part
  called : MapCall → ℕ → Part

-- a call is done with the last command of its plan, unless it is refused there
abbrev pub unless_refused : {R : Type 0} → MapCall → Option R → Option MapCall
unless_refused call None = Some call
unless_refused call (Some refusal) = None

module _ {O : Type 0} (kind : O → Command) where
  abbrev pub ending_with : Option MapCall → List O → List Step
  ending_with call [] = []
  ending_with call (op ∷ []) = record { command = kind op; done = call } ∷ []
  ending_with call (op ∷ next ∷ ops) = record { command = kind op; done = None } ∷ ending_with call (next ∷ ops)

  -- the commands of a plan as steps
  abbrev pub steps_of : {R : Type 0} → MapCall → Plan O R → List Step
  steps_of {R} call plan = ending_with (unless_refused call plan.refusal) plan.commands

module _ (p : Params) (lo hi : ℕ) where
  -- the command writes no object of the range
  abbrev pub IsBeside : Command → Type 0
  IsBeside op = (x : ℕ) → lo ≤ x → x ≤ hi → is_among x ((meaning_in p).writes op) ≡ false

  abbrev pub IsPart : Part → Type 0
  IsPart (beside op) = IsBeside op
  IsPart (called call n) = IsShortCall call

  -- only calls write the range
  abbrev pub AreOnlyCalls : List Part → Type 0
  AreOnlyCalls parts = All IsPart parts

  -- of a kind of range: its operations, and the plan of each call on the values as they are
  module _ {O R : Type 0} (kind : O → Command) (plan : State → MapCall → Plan O R) where
    abbrev pub part_steps : State → Part → List Step
    part_steps s (beside op) = record { command = op; done = None } ∷ []
    part_steps s (called call n) = take n (steps_of kind call (plan s call))

    -- the steps of all parts, each on the values that those before it leave
    abbrev pub steps_in : State → List Part → List Step
    steps_in s [] = []
    steps_in s (part ∷ parts) = part_steps s part ++ steps_in (after_all (meaning_in p) s (commands_in (part_steps s part))) parts

    -- of a kind of range: what such a range is, and the map that it stands for
    module _ (Is : State → Type 0) (content : State → Map) where
      -- it is still one, and its map is what the steps have made of this one
      pub record HasMap (m : Map) (steps : List Step) (s : State) : Type 0 where
        pub kept : Is s
        pub holds : content s ≡ map_after m steps

      module _ (commands : List Command) (parts : List Part) where
        abbrev pub steps : List Step
        steps = steps_in (state_of p commands) parts

        -- so many commands more
        abbrev pub with_first : ℕ → List Command
        with_first n = commands ++ take n (commands_in steps)

        -- so it is with the map of these commands and so many steps
        abbrev pub HasFirst : ℕ → State → Type 0
        HasFirst n s = HasMap (content (state_of p commands)) (take n steps) s

      -- Where the range was such a one after some commands, and then only calls wrote it, it is one after each first part of
      -- the commands that came then, and its map is what those calls made of it whose last command is among these.
      abbrev pub OnlyCallsKeep : Type 0
      OnlyCallsKeep = (commands : List Command) (parts : List Part) → Is (state_of p commands) → AreOnlyCalls parts
          → (n : ℕ) → HasFirst commands parts n (state_of p (with_first commands parts n))

      -- Files that stand for such commands stand for no other state: whatever commands a restart finds, the range is such a one after
      -- them, and has this map.
      abbrev pub FilesKeep : Type 0
      FilesKeep = (commands : List Command) (parts : List Part) → Is (state_of p commands) → AreOnlyCalls parts
          → (n : ℕ) (files : Files) → Stands all_meaning p files (with_first commands parts n)
          → (q : Params) (found : List Command) → Stands all_meaning q files found → HasFirst commands parts n (state_of q found)
