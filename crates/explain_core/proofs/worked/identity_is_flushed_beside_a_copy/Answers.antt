use Rattle.std.proofs.Common.{◌∙◌, ◌==◌, false, ◌≡◌, sym, subst, ◌∷◌, [], refl, arith, inl, inr}
use Rattle.std.proofs.lemmas.Bool.{cases_eq, both_ways, or_from, ne_eqb}
use Rattle.install_order.specs.ListLaws.{all-gives}
use Rattle.install_order.specs.NodeLaws.{flushed-iff}
use Rattle.install_order.specs.Checks.{is_minimal-gives, flushes_only-gives}
use Rattle.explain_core.specs.declared.byte_op.ByteOp.{ByteOp}
use Rattle.explain_core.specs.ByteOps.{byte_meaning}
use Rattle.explain_core.specs.World.{World, step, run, IsAllowed, AreAllowed, IsInstallable, new_world, graph_access, work_of}
use Rattle.explain_core.specs.World.Step.{Slot_gate}
use Rattle.explain_core.specs.RunLaws.{run-append}
use Rattle.explain_core.specs.Backup.{IsCopied, MayWhileCopied, with_next}
use Rattle.explain_core.specs.Worked.{two, after_steps, swap_removed, identity_node, both_copied, copied_flushed}
use Rattle.explain_core.proofs.BackupRuns.{copied-none, copied-more, copied-step, copy-explained}
use Rattle.explain_core.proofs.WorkedRuns.{steps-sound, one-more, within, removed-allowed}
use Rattle.explain_core.proofs.worked.identity_is_flushed_beside_a_copy.Goals as goal

identity-ready : IsInstallable (byte_meaning two) (after_steps swap_removed) identity_node
unfolding step run
identity-ready = (
  (λ n there. all-gives (after_steps swap_removed).graph (4 ∷ []) n refl there),
  is_minimal-gives (graph_access (byte_meaning two) (after_steps swap_removed)) 2 5 (4 ∷ []) (within swap_removed removed-allowed) refl,
  (refl, refl),
)

identity-work : work_of (byte_meaning two) (after_steps swap_removed) identity_node 1
unfolding step run
identity-work = (
  (flushed-iff (graph_access (byte_meaning two) (after_steps swap_removed)) 2 5 identity_node 1 (within swap_removed removed-allowed)).0 refl,
  λ e. absurd (omega (arith, e)),
)

identity-may : IsAllowed (byte_meaning two) (after_steps swap_removed) (Slot_gate identity_node 1)
unfolding step run
identity-may = (identity-ready, identity-work, λ y work. flushes_only-gives (graph_access (byte_meaning two) (after_steps swap_removed)) 2 5 identity_node 1 (within swap_removed removed-allowed) refl y work.0)

copied-allowed : AreAllowed (byte_meaning two) (new_world ByteOp) copied_flushed
unfolding step run
copied-allowed = one-more swap_removed (Slot_gate identity_node 1 ∷ []) removed-allowed (identity-may, tt)

-- the node is the identity write alone
identity-rule : MayWhileCopied (after_steps swap_removed) 2 (Slot_gate identity_node 1)
unfolding step run
identity-rule lt = (4, 1, (λ k there. elim (cases_eq k 4) [ inl q ↦ q | inr ne ↦ absurd (both_ways _ (or_from (k == 4) false (ne_eqb k 4 ne) refl) there) ]), (170 ∷ [], refl))

one-run : (w : World ByteOp) → run (byte_meaning two) w (Slot_gate identity_node 1 ∷ []) ≡ step (byte_meaning two) w (Slot_gate identity_node 1)
unfolding run
one-run w = refl

both-copied : IsCopied (byte_meaning two) (after_steps copied_flushed) 2 both_copied
both-copied =
    let m = byte_meaning two in
    let w = after_steps swap_removed in
    let s = steps-sound swap_removed removed-allowed in
    let c = copied-more m w 1 (with_next w 0 (λ x. record { lsn = 0; value = [] })) s (copied-more m w 0 (λ x. record { lsn = 0; value = [] }) s (copied-none m w (λ x. record { lsn = 0; value = [] }))) in
    subst (λ (v : World ByteOp). IsCopied m v 2 both_copied) (sym (run-append m (new_world ByteOp) swap_removed (Slot_gate identity_node 1 ∷ []) ∙ one-run w)) (copied-step m w (Slot_gate identity_node 1) 2 both_copied s identity-may identity-rule c)

pub returns : goal.returns
unfolding step run
returns c = record {
  allowed = copied-allowed;
  rule = identity-rule;
  slot = (refl, refl, refl);
  installed = (refl, refl, refl);
  explained = copy-explained (byte_meaning two) (after_steps copied_flushed) 2 both_copied (steps-sound copied_flushed copied-allowed) both-copied;
}
