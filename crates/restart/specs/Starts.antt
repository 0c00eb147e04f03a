-- Calls that begin on a machine that need not be settled: a process before this one may have been stopped.
use Rattle.std.specs.Prelude.{◌≡◌, ◌⊎◌, ℕ, List}
use Rattle.std.proofs.Common.{inl, inr, ⊎_elim, sym, subst}
use Rattle.disk_model.specs.Disk.{Files, Disk, IsDisk, Stays, IsSettled, LeavesOnly}
use Rattle.disk_model.specs.Moments.{first_call, runs_on, weaker}

-- A crash at the call's start could leave this already, and nothing was said since; or else it has P.
abbrev pub OrAtStart : Disk → (Files → List ℕ → Type 0) → Files → List ℕ → Type 0
OrAtStart old P files said = old.left_since old.clock files said ⊎ P files said

-- a call that changes no image leaves no more than its start
pub at_start : (old mid : Disk) (P : Files → List ℕ → Type 0) → Stays old mid → old.tells_moments → LeavesOnly old mid (OrAtStart old P)
at_start old mid P kept told = first_call old mid (OrAtStart old P) told kept.time (λ files said left.
    let from = kept.crash told files said left in
    inl (subst (λ (s : List ℕ). old.left_since old.clock files s) (sym from.1) (subst (λ (f : Files). old.left_since old.clock f old.said) (sym from.0.2) from.0.1)))

-- and what follows it leaves that, or what has P
pub then_leaves : (old mid new : Disk) (P : Files → List ℕ → Type 0) → Stays old mid → old.tells_moments → LeavesOnly mid new P → LeavesOnly old new (OrAtStart old P)
then_leaves old mid new P kept told leaves =
    runs_on old mid new (OrAtStart old P) (at_start old mid P kept told) (weaker mid new P (OrAtStart old P) leaves (λ files said has. inr has))

-- what has P has Q
pub or_weaker : (old new : Disk) (P Q : Files → List ℕ → Type 0) → LeavesOnly old new (OrAtStart old P) → ((files : Files) (said : List ℕ) → P files said → Q files said) → LeavesOnly old new (OrAtStart old Q)
or_weaker old new P Q leaves so = weaker old new (OrAtStart old P) (OrAtStart old Q) leaves (λ files said has. ⊎_elim (λ was. inl was) (λ here. inr (so files said here)) has)

-- from a settled start, where what reads give has P, each pair has it
pub from_settled : (old new : Disk) (P : Files → List ℕ → Type 0) → IsDisk old → old.tells_moments → IsSettled old → P old.reads old.said → LeavesOnly old new (OrAtStart old P) → LeavesOnly old new P
from_settled old new P lawful told settled here leaves = weaker old new (OrAtStart old P) P leaves (λ files said has. ⊎_elim
    (λ was.
    let same : files ≡ old.reads = λ i file. settled file told files said was i in
    subst (λ (f : Files). P f said) (sym same) (subst (λ (s : List ℕ). P old.reads s) (sym (lawful.said_now told files said was)) here))
    (λ has. has)
    has)
