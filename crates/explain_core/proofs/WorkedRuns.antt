-- The worked runs are allowed.
use Rattle.std.proofs.Common.{◌≡◌, ◌<◌, ◌≤◌, not, sym, subst, ℕ, IsTrue, List, [], ◌∷◌, ◌++◌, refl, arith, inl, inr}
use Rattle.std.proofs.lemmas.Bool.{cases_eq, cases_lt, both_ways, not-true}
use Rattle.oper_core.specs.Meaning.{IsLawful}
use Rattle.install_order.specs.Computed.{IsWithin}
use Rattle.install_order.specs.ListLaws.{all-gives, all_below-gives}
use Rattle.install_order.specs.NodeLaws.{flushed-iff}
use Rattle.install_order.specs.Checks.{is_minimal-gives, flushes_only-gives}
use Rattle.explain_core.specs.declared.byte_op.ByteOp.{ByteOp}
use Rattle.explain_core.specs.ByteOps.{byte_meaning, byte_lawful}
use Rattle.explain_core.specs.World.{Step, step, run, AreAllowed, IsInstallable, new_world, graph_access, work_of, end_of, replays}
use Rattle.explain_core.specs.World.Step.{Block_gate, Checkpoint, Slot_gate, Removal, Header_gate, Crash}
use Rattle.explain_core.specs.RunLaws.{allowed-append}
use Rattle.explain_core.specs.Sound.{IsSound}
use Rattle.explain_core.specs.Worked.{two, after_steps, swap_node, swap_logged, swap_flushed, swap_removed, swap_checkpointed, swap_redone, redone_node, swap_installed, swap_redone_again, group_opened}
use Rattle.explain_core.proofs.Runs.{run_sound, new_sound}
use Rattle.explain_core.specs.GraphLaws.{graph-within}

pub two-lawful : IsLawful (byte_meaning two)
two-lawful = byte_lawful two (record { objects = omega arith; cap = omega arith })

-- allowed steps of a new store lead to a sound world
pub steps-sound : (steps : List (Step ByteOp)) → AreAllowed (byte_meaning two) (new_world ByteOp) steps → IsSound (byte_meaning two) (after_steps steps)
steps-sound steps may = run_sound (byte_meaning two) two-lawful (new_world ByteOp) steps may (new_sound (byte_meaning two))

pub logged-allowed : AreAllowed (byte_meaning two) (new_world ByteOp) swap_logged
unfolding step run
logged-allowed = (
  (omega arith, refl),
  ((omega arith, refl), ((omega arith, refl), ((omega arith, (omega arith, refl, refl)), ((omega arith, refl), tt)))),
)

pub within : (steps : List (Step ByteOp)) → AreAllowed (byte_meaning two) (new_world ByteOp) steps → IsWithin (graph_access (byte_meaning two) (after_steps steps)) 2 (end_of (after_steps steps))
within steps may = graph-within (byte_meaning two) two-lawful (after_steps steps) (steps-sound steps may)

-- one more step of a run
pub one-more : (steps more : List (Step ByteOp)) → AreAllowed (byte_meaning two) (new_world ByteOp) steps → AreAllowed (byte_meaning two) (after_steps steps) more → AreAllowed (byte_meaning two) (new_world ByteOp) (steps ++ more)
one-more steps more may then = allowed-append (byte_meaning two) (new_world ByteOp) steps more may then

logged-ready : IsInstallable (byte_meaning two) (after_steps swap_logged) swap_node
unfolding step run
logged-ready = (
  (λ n there. all-gives (after_steps swap_logged).graph (1 ∷ 2 ∷ 3 ∷ []) n refl there),
  is_minimal-gives (graph_access (byte_meaning two) (after_steps swap_logged)) 2 5 (1 ∷ 2 ∷ 3 ∷ []) (within swap_logged logged-allowed) refl,
  (refl, refl),
)

logged-work : work_of (byte_meaning two) (after_steps swap_logged) swap_node 0
unfolding step run
logged-work = (
  (flushed-iff (graph_access (byte_meaning two) (after_steps swap_logged)) 2 5 swap_node 0 (within swap_logged logged-allowed)).0 refl,
  λ e. absurd (omega (arith, e)),
)

pub flushed-allowed : AreAllowed (byte_meaning two) (new_world ByteOp) swap_flushed
unfolding step run
flushed-allowed = one-more swap_logged (Slot_gate swap_node 0 ∷ []) logged-allowed (
  (logged-ready, logged-work, λ y work. flushes_only-gives (graph_access (byte_meaning two) (after_steps swap_logged)) 2 5 swap_node 0 (within swap_logged logged-allowed) refl y work.0),
  tt,
)

flushed-ready : IsInstallable (byte_meaning two) (after_steps swap_flushed) swap_node
unfolding step run
flushed-ready = (
  (λ n there. all-gives (after_steps swap_flushed).graph (1 ∷ 2 ∷ 3 ∷ []) n refl there),
  is_minimal-gives (graph_access (byte_meaning two) (after_steps swap_flushed)) 2 5 (1 ∷ 2 ∷ 3 ∷ []) (within swap_flushed flushed-allowed) refl,
  (refl, refl),
)

pub removed-allowed : AreAllowed (byte_meaning two) (new_world ByteOp) swap_removed
unfolding step run
removed-allowed = one-more swap_flushed (Removal swap_node ∷ []) flushed-allowed (
  (
    flushed-ready,
    λ y work.
        let q : y ≡ 0 = flushes_only-gives (graph_access (byte_meaning two) (after_steps swap_flushed)) 2 5 swap_node 0 (within swap_flushed flushed-allowed) refl y work.0 in
        work.1 (subst (λ (y : ℕ). ((after_steps swap_flushed).slots y).lsn ≡ ((after_steps swap_flushed).cache y).lsn) (sym q) refl),
  ),
  tt,
)

-- only the identity write is left in the graph
from-four : (n : ℕ) → IsTrue ((after_steps swap_removed).graph n) → 4 ≤ n
unfolding step run
from-four n there = elim (cases_lt n 4) [
  | inl low ↦ absurd (both_ways _ (not-true _ (all_below-gives 4 (λ n. not ((after_steps swap_removed).graph n)) n refl low)) there)
  | inr high ↦ high
]

pub checkpointed-allowed : AreAllowed (byte_meaning two) (new_world ByteOp) swap_checkpointed
unfolding step run
checkpointed-allowed = one-more swap_removed (Checkpoint ∷ Block_gate ∷ Header_gate 4 ∷ Crash ∷ []) removed-allowed
    ((omega arith, refl), ((omega arith, refl), ((omega arith, (refl, refl), omega arith, omega arith, from-four), (tt, tt))))

pub redone-allowed : AreAllowed (byte_meaning two) (new_world ByteOp) (swap_redone 4)
unfolding step run
redone-allowed = one-more swap_flushed (Crash ∷ replays 4) flushed-allowed (tt, (omega arith, (omega arith, (omega arith, (omega arith, tt)))))

in_redo-allowed : AreAllowed (byte_meaning two) (new_world ByteOp) (swap_redone 3)
unfolding step run
in_redo-allowed = one-more swap_flushed (Crash ∷ replays 3) flushed-allowed (tt, (omega arith, (omega arith, (omega arith, tt))))

in_redo-ready : IsInstallable (byte_meaning two) (after_steps (swap_redone 3)) redone_node
unfolding step run
in_redo-ready = (
  (λ n there. all-gives (after_steps (swap_redone 3)).graph (2 ∷ 3 ∷ []) n refl there),
  is_minimal-gives (graph_access (byte_meaning two) (after_steps (swap_redone 3))) 2 5 (2 ∷ 3 ∷ []) (within (swap_redone 3) in_redo-allowed) refl,
  (refl, refl),
)

in_redo-work : work_of (byte_meaning two) (after_steps (swap_redone 3)) redone_node 1
unfolding step run
in_redo-work = (
  (flushed-iff (graph_access (byte_meaning two) (after_steps (swap_redone 3))) 2 5 redone_node 1 (within (swap_redone 3) in_redo-allowed)).0 refl,
  λ e. absurd (omega (arith, e)),
)

-- of the node's flush set only 1 is dirty
in_redo-only : (y : ℕ) → work_of (byte_meaning two) (after_steps (swap_redone 3)) redone_node y → y ≡ 1
unfolding step run
in_redo-only y work =
    let low : y < 2 = (within (swap_redone 3) in_redo-allowed).writes_object work.0.0 y work.0.2.0 in
    elim (cases_eq y 0) [
      | inl q ↦ absurd (work.1 (subst (λ (y : ℕ). ((after_steps (swap_redone 3)).slots y).lsn ≡ ((after_steps (swap_redone 3)).cache y).lsn) (sym q) refl))
      | inr ne ↦ omega arith
    ]

gate-allowed : AreAllowed (byte_meaning two) (new_world ByteOp) (swap_redone 3 ++ Slot_gate redone_node 1 ∷ [])
gate-allowed = one-more (swap_redone 3) (Slot_gate redone_node 1 ∷ []) in_redo-allowed ((in_redo-ready, in_redo-work, in_redo-only), tt)

gate-ready : IsInstallable (byte_meaning two) (after_steps (swap_redone 3 ++ Slot_gate redone_node 1 ∷ [])) redone_node
unfolding step run
gate-ready = (
  (λ n there. all-gives (after_steps (swap_redone 3 ++ Slot_gate redone_node 1 ∷ [])).graph (2 ∷ 3 ∷ []) n refl there),
  is_minimal-gives (graph_access (byte_meaning two) (after_steps (swap_redone 3 ++ Slot_gate redone_node 1 ∷ []))) 2 5 (2 ∷ 3 ∷ []) (within (swap_redone 3 ++ Slot_gate redone_node 1 ∷ []) gate-allowed) refl,
  (refl, refl),
)

-- both slots are as the cache has them
gate-idle : (y : ℕ) → work_of (byte_meaning two) (after_steps (swap_redone 3 ++ Slot_gate redone_node 1 ∷ [])) redone_node y → ⊥
unfolding step run
gate-idle y work =
    let w = after_steps (swap_redone 3 ++ Slot_gate redone_node 1 ∷ []) in
    let low : y < 2 = (within (swap_redone 3 ++ Slot_gate redone_node 1 ∷ []) gate-allowed).writes_object work.0.0 y work.0.2.0 in
    elim (cases_eq y 0) [
      | inl q ↦ work.1 (subst (λ (y : ℕ). (w.slots y).lsn ≡ (w.cache y).lsn) (sym q) refl)
      | inr ne ↦ let q : y ≡ 1 = omega arith in work.1 (subst (λ (y : ℕ). (w.slots y).lsn ≡ (w.cache y).lsn) (sym q) refl)
    ]

pub installed-allowed : AreAllowed (byte_meaning two) (new_world ByteOp) swap_installed
installed-allowed = one-more (swap_redone 3 ++ Slot_gate redone_node 1 ∷ []) (Removal redone_node ∷ []) gate-allowed ((gate-ready, gate-idle), tt)

pub ended-allowed : AreAllowed (byte_meaning two) (new_world ByteOp) (swap_installed ++ replays 1)
unfolding step run
ended-allowed = one-more swap_installed (replays 1) installed-allowed (omega arith, tt)

pub again-allowed : AreAllowed (byte_meaning two) (new_world ByteOp) (swap_redone_again 4)
unfolding step run
again-allowed = one-more swap_installed (Crash ∷ replays 4) installed-allowed (tt, (omega arith, (omega arith, (omega arith, (omega arith, tt)))))

pub opened-allowed : AreAllowed (byte_meaning two) (new_world ByteOp) group_opened
unfolding step run
opened-allowed = ((omega arith, refl), ((omega arith, refl), ((omega arith, (refl, refl)), ((omega arith, refl), ((omega arith, refl), tt)))))
