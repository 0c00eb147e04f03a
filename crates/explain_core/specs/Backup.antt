-- A copy of the slots, taken object by object while the store goes on.
use Rattle.std.specs.Prelude.{◌≡◌, ℕ, ◌+◌, ◌-◌, ◌<◌, ◌≤◌, ◌==◌, ◌&&◌, ◌⊎◌, nat_lt, not, Bool, if◌then◌else◌, IsTrue, Some, List, [], ◌∷◌, drop, take, ⊤}
use Rattle.oper_core.specs.Meaning.{Meaning}
use Rattle.install_order.specs.Order.{Access}
use Rattle.install_order.specs.Computed.{some_below}
use Rattle.explain_core.specs.History.{Member, with_lsn, accesses_of}
use Rattle.explain_core.specs.History.Member.{Identity}
use Rattle.oper_core.specs.Cell.{Cell}
use Rattle.explain_core.specs.World.{World, Step, Starts, step}
use Rattle.explain_core.specs.World.Step.{Begin, End, Append, Block_gate, Checkpoint, Slot_gate, Removal, Header_gate, Replay, Crash}
use Rattle.explain_core.specs.Stable.{Stable}

-- the cells of the objects that were copied, which are those below a number, and the live slots of the others
abbrev pub backup_of : ℕ → (ℕ → Cell) → (ℕ → Cell) → ℕ → Cell
backup_of copied cells slots x = if nat_lt x copied then cells x else slots x

-- n is the live LSN of a copied object, is above the one that was copied, and is the last installed LSN below the end
-- that writes the object
abbrev pub is_newer : Access → (ℕ → Bool) → ℕ → ℕ → (ℕ → Cell) → (ℕ → Cell) → ℕ → Bool
is_newer a installed end copied cells slots n =
    some_below copied (λ x. (n == (slots x).lsn) && (nat_lt (cells x).lsn n && not (some_below end (λ k. nat_lt n k && (installed k && a.writes k x)))))

-- the installed members without those that the copy is too old for
abbrev pub backup_installed : Access → (ℕ → Bool) → ℕ → ℕ → (ℕ → Cell) → (ℕ → Cell) → ℕ → Bool
backup_installed a installed end copied cells slots n = installed n && not (is_newer a installed end copied cells slots n)

-- the member with the LSN n is an identity write of x
abbrev pub IsIdentityAt : {O : Type 0} → List (Member O) → ℕ → ℕ → Type 0
IsIdentityAt history n x = (v : List ℕ) × (with_lsn history n ≡ Some (Identity x v))

-- the objects below a number were copied while the world went on
pub record IsCopied {O : Type 0} (m : Meaning O) (w : World O) (copied : ℕ) (cells : ℕ → Cell) : Type 0 where
  -- each is empty under the LSN 0, or bears the LSN of an installed member that writes it
  pub origin : (x : ℕ) → x < copied → (((cells x).lsn ≡ 0) × ((cells x).value ≡ [])) ⊎ (IsTrue (w.installed (cells x).lsn) × IsTrue ((accesses_of m w.history).writes (cells x).lsn x))
  -- its slot is as it was copied, or was set by an identity write since
  pub since : (x : ℕ) → x < copied → (cells x ≡ w.slots x) ⊎ (((cells x).lsn < (w.slots x).lsn) × (w.base ≤ (w.slots x).lsn) × IsIdentityAt w.history (w.slots x).lsn x)

-- the node is one identity write
abbrev pub IsOneIdentity : {O : Type 0} → World O → (ℕ → Bool) → Type 0
IsOneIdentity w node = (n y : ℕ) × ((k : ℕ) → IsTrue (node k) → k ≡ n) × IsIdentityAt w.history n y

-- A step that may be taken while slots are copied: the slot of a copied object is set by a node of one identity write
-- alone, the log is not cut, and the store does not stop.
abbrev pub MayWhileCopied : {O : Type 0} → World O → ℕ → Step O → Type 0
MayWhileCopied w copied Begin = ⊤
MayWhileCopied w copied End = ⊤
MayWhileCopied w copied (Append member) = ⊤
MayWhileCopied w copied Block_gate = ⊤
MayWhileCopied w copied Checkpoint = ⊤
MayWhileCopied w copied (Slot_gate node x) = x < copied → IsOneIdentity w node
MayWhileCopied w copied (Removal node) = ⊤
MayWhileCopied w copied (Header_gate base) = ⊥
MayWhileCopied w copied Replay = ⊤
MayWhileCopied w copied Crash = ⊥

-- the steps of a list may be taken beside the copy, each in its turn
abbrev pub AreBeside : {O : Type 0} → Meaning O → ℕ → World O → List (Step O) → Type 0
AreBeside m copied w [] = ⊤
AreBeside m copied w (s ∷ steps) = MayWhileCopied w copied s × AreBeside m copied (step m w s) steps

-- the next object is copied
abbrev pub with_next : {O : Type 0} → World O → ℕ → (ℕ → Cell) → ℕ → Cell
with_next w copied cells x = if x == copied then w.slots x else cells x

-- the members that are installed in the copy
abbrev pub installed_in_copy : {O : Type 0} → Meaning O → World O → ℕ → (ℕ → Cell) → ℕ → Bool
installed_in_copy m w copied cells = backup_installed (accesses_of m (take w.forced w.history)) w.installed (w.forced + 1) copied cells w.slots

-- the copy as the stable parts of a store, with the log as it is, but for its checkpoints
abbrev pub copy_of : {O : Type 0} → World O → ℕ → (ℕ → Cell) → List Starts → Stable O
copy_of w copied cells tables = record {
  slots = backup_of copied cells w.slots;
  tables = tables;
  base = w.base;
  commands_before = w.commands_before;
  records = drop (w.base - 1) (take w.forced w.history);
}
