-- The worlds in which calls are made, and steps that add no command.
use Rattle.std.proofs.Common.{◌≡◌, ◌∙◌, ap, ℕ, List, [], ◌∷◌, ◌++◌, refl, arith, length-append}
use Rattle.std.specs.Prelude.{⊤, IsFalse}
use Rattle.oper_core.specs.Meaning.{Meaning}
use Rattle.explain_core.specs.History.{Member, commands_of}
use Rattle.explain_core.specs.History.Member.{Command, Identity}
use Rattle.explain_core.specs.Sound.{IsSound}
use Rattle.explain_core.specs.World.{World, Step, step, run, IsLive, NoGroup, AreAllowed}
use Rattle.explain_core.specs.World.Step.{Begin, End, Append, Block_gate, Checkpoint, Slot_gate, Removal, Header_gate, Replay, Crash}

-- a sound world in which nothing is left to replay, and no group is open
pub record IsRunning {O : Type 0} (m : Meaning O) (w : World O) : Type 0 where
  pub sound : IsSound m w
  pub live : IsLive w
  pub alone : NoGroup w

-- every list of steps that may be taken keeps a world sound
abbrev pub KeepsSound : {O : Type 0} → Meaning O → Type 0
KeepsSound {O} m = (v : World O) (taken : List (Step O)) → IsSound m v → AreAllowed m v taken → IsSound m (run m v taken)

-- steps of calls that add no command
abbrev pub IsUpkeep : {O : Type 0} → Step O → Type 0
IsUpkeep Begin = ⊥
IsUpkeep End = ⊥
IsUpkeep (Append (Command op)) = ⊥
IsUpkeep (Append (Identity x value)) = ⊤
IsUpkeep Block_gate = ⊤
IsUpkeep Checkpoint = ⊤
IsUpkeep (Slot_gate node x) = ⊤
IsUpkeep (Removal node) = ⊤
IsUpkeep (Header_gate base) = ⊤
IsUpkeep Replay = ⊥
IsUpkeep Crash = ⊥

abbrev pub AreUpkeep : {O : Type 0} → List (Step O) → Type 0
AreUpkeep [] = ⊤
AreUpkeep (s ∷ steps) = IsUpkeep s × AreUpkeep steps

-- after them nothing is left to replay, no group is open, and the commands are those before
pub record IsUpkept {O : Type 0} (w v : World O) : Type 0 where
  pub live : IsLive v
  pub alone : NoGroup v
  pub commands : commands_of v.history ≡ commands_of w.history

commands_same : {O : Type 0} (h : List (Member O)) (x : ℕ) (value : List ℕ) → commands_of (h ++ Identity x value ∷ []) ≡ commands_of h
commands_same [] x value = refl
commands_same {O} (Command op ∷ h) x value = ap (λ (l : List O). op ∷ l) (commands_same h x value)
commands_same (Identity y other ∷ h) x value = commands_same h x value

step_upkept : {O : Type 0} (m : Meaning O) (w : World O) (s : Step O) → IsUpkeep s → IsLive w → NoGroup w → IsUpkept w (step m w s)
unfolding step
step_upkept m w Begin is live alone = absurd is
step_upkept m w End is live alone = absurd is
step_upkept m w (Append (Command op)) is live alone = absurd is
step_upkept m w (Append (Identity x value)) is live alone = record {
  live = omega (arith, live, length-append w.history (Identity x value ∷ []));
  alone = alone;
  commands = commands_same w.history x value;
}
step_upkept m w Block_gate is live alone = record { live = live; alone = alone; commands = refl }
step_upkept m w Checkpoint is live alone = record { live = live; alone = alone; commands = refl }
step_upkept m w (Slot_gate node x) is live alone = record { live = live; alone = alone; commands = refl }
step_upkept m w (Removal node) is live alone = record { live = live; alone = alone; commands = refl }
step_upkept m w (Header_gate base) is live alone = record { live = live; alone = alone; commands = refl }
step_upkept m w Replay is live alone = absurd is
step_upkept m w Crash is live alone = absurd is

pub run_upkept : {O : Type 0} (m : Meaning O) (w : World O) (steps : List (Step O)) → AreUpkeep steps → IsLive w → NoGroup w → IsUpkept w (run m w steps)
unfolding run
run_upkept m w [] are live alone = record { live = live; alone = alone; commands = refl }
run_upkept m w (s ∷ steps) are live alone =
    let first = step_upkept m w s are.0 live alone in
    let rest = run_upkept m (step m w s) steps are.1 first.live first.alone in
    record { live = rest.live; alone = rest.alone; commands = rest.commands ∙ first.commands }

-- such steps, where they may be taken, lead to a world in which calls are made
pub running_after : {O : Type 0} (m : Meaning O) (w : World O) (steps : List (Step O)) → KeepsSound m
    → IsRunning m w → AreUpkeep steps → AreAllowed m w steps → IsRunning m (run m w steps)
running_after m w steps keeps is are may =
    let kept = run_upkept m w steps are is.live is.alone in
    record { sound = keeps w steps is.sound may; live = kept.live; alone = kept.alone }

-- The steps of the list may be taken, each in its turn; after them the world is one in which calls are made, with the
-- commands that it had.
pub record MayBeTaken {O : Type 0} (m : Meaning O) (w : World O) (steps : List (Step O)) : Type 0 where
  pub allowed : AreAllowed m w steps
  pub running : IsRunning m (run m w steps)
  pub commands : commands_of (run m w steps).history ≡ commands_of w.history

pub may_be_taken : {O : Type 0} (m : Meaning O) (w : World O) (steps : List (Step O)) → KeepsSound m
    → IsRunning m w → AreUpkeep steps → AreAllowed m w steps → MayBeTaken m w steps
may_be_taken m w steps keeps is are may = record {
  allowed = may;
  running = running_after m w steps keeps is are may;
  commands = (run_upkept m w steps are is.live is.alone).commands;
}

-- nothing is left in the graph, and no object is dirty
pub record IsDrained {O : Type 0} (w : World O) : Type 0 where
  pub empty : (n : ℕ) → IsFalse (w.graph n)
  pub clean : (x : ℕ) → (w.slots x).lsn ≡ (w.cache x).lsn
