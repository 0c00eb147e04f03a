-- What follows where files hold stable parts, and which steps change none of them.
use Rattle.std.proofs.Common.{◌≡◌, ◌∙◌, sym, ap, ℕ, ◌+◌, ◌-◌, ◌≤◌, Bool, List, [], ◌∷◌, length, drop, refl, arith}
use Rattle.std.specs.Prelude.{⊤}
use Rattle.std.proofs.lemmas.List.{take-take, take-append-le}
use Rattle.disk_model.specs.Disk.{Files}
use Rattle.oper_core.specs.Meaning.{Meaning}
use Rattle.formats.specs.Records.{records_of, next_after, commands_of as logged_commands}
use Rattle.formats.specs.declared.params.Params.{Params}
use Rattle.explain_core.specs.History.{Member, commands_of}
use Rattle.explain_core.specs.Stable.{Stable, IsStableOf, stable_of}
use Rattle.explain_core.specs.StableLaws.{stand-length, stand-commands}
use Rattle.explain_core.specs.World.{World, Step, step}
use Rattle.explain_core.specs.World.Step.{Begin, End, Append, Block_gate, Checkpoint, Slot_gate, Removal, Header_gate, Replay, Crash}
use Rattle.standing.specs.Members.{next-members, commands-members}
use Rattle.standing.specs.Standing.{HoldsStable}

module _ {O : Type 0} (m : Meaning O) (p : Params) (files : Files) (parts : Stable O) (holds : HoldsStable m p files parts) where
  -- the next LSN after the log's last record
  abbrev pub next_held : ℕ
  next_held = next_after holds.header.base (records_of holds.groups)

  -- how many commands the log counts: those that its header says, and its own
  abbrev pub commands_held : ℕ
  commands_held = holds.header.commands + length (logged_commands (records_of holds.groups))

  pub held-next : next_held ≡ parts.base + length parts.records
  held-next = omega (arith, next-members holds.header.base (records_of holds.groups), holds.base, ap (λ (l : List (Member O)). length l) holds.members)

  pub held-commands : commands_held ≡ parts.commands_before + length (commands_of parts.records)
  held-commands = omega (
    arith,
    holds.commands_before,
    ap (λ (l : List O). length l) (commands-members (records_of holds.groups)),
    ap (λ (l : List (Member O)). length (commands_of l)) holds.members,
  )

  module _ (history : List (Member O)) (installed : ℕ → Bool) (is : IsStableOf m parts history installed) where
    -- it is that after the history
    pub next-stands : next_held ≡ length history + 1
    next-stands = omega (arith, held-next, stand-length m parts history installed is, is.base)

    -- they are all
    pub commands-stand : commands_held ≡ length (commands_of history)
    commands-stand = held-commands ∙ sym (stand-commands m parts history installed is)

-- a step that changes no file
abbrev pub IsUnseen : {O : Type 0} → Step O → Type 0
IsUnseen Begin = ⊤
IsUnseen End = ⊤
IsUnseen (Append member) = ⊤
IsUnseen Block_gate = ⊥
IsUnseen Checkpoint = ⊤
IsUnseen (Slot_gate node x) = ⊥
IsUnseen (Removal node) = ⊤
IsUnseen (Header_gate base) = ⊥
IsUnseen Replay = ⊤
IsUnseen Crash = ⊤

-- the stable parts with this front of a history
abbrev with_front : {O : Type 0} → World O → List (Member O) → Stable O
with_front w front = record { slots = w.slots; tables = w.tables; base = w.base; commands_before = w.commands_before; records = drop (w.base - 1) front }

-- what is stable stays as it is
pub unseen-stable : {O : Type 0} (m : Meaning O) (w : World O) (s : Step O) → w.forced ≤ length w.history → IsUnseen s → stable_of (step m w s) ≡ stable_of w
unfolding step
unseen-stable m w Begin within unseen = refl
unseen-stable m w End within unseen = refl
unseen-stable m w (Append member) within unseen = ap (with_front w) (take-append-le w.forced w.history (member ∷ []) within)
unseen-stable m w Block_gate within unseen = absurd unseen
unseen-stable m w Checkpoint within unseen = refl
unseen-stable m w (Slot_gate node x) within unseen = absurd unseen
unseen-stable m w (Removal node) within unseen = refl
unseen-stable m w (Header_gate base) within unseen = absurd unseen
unseen-stable m w Replay within unseen = refl
unseen-stable m w Crash within unseen = ap (with_front w) (take-take w.forced w.forced w.history (omega arith))
