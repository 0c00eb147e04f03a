-- Behind a drain a trim leaves nothing in the log but its checkpoint.
use Rattle.std.proofs.Common.{◌≡◌, ◌∙◌, sym, subst, ap, ℕ, ◌-◌, ◌<◌, List, [], ◌∷◌, ◌++◌, length, drop, arith}
use Rattle.std.specs.Prelude.{IsFalse, nat_lt, nat_le}
use Rattle.std.proofs.Math.Seq.{drop-length}
use Rattle.std.proofs.lemmas.Bool.{both_ways, cond_both}
use Rattle.oper_core.specs.Meaning.{Meaning}
use Rattle.formats.specs.Limits.{log_limit}
use Rattle.install_order.specs.Computed.{least_below}
use Rattle.install_order.specs.NodeLaws.{least-is}
use Rattle.explain_core.specs.RunLaws.{run-append}
use Rattle.explain_core.specs.World.{World, Step, step, run, end_of}
use Rattle.explain_core.specs.World.Step.{Block_gate, Header_gate}
use Rattle.running_store.specs.Courses.{Course, force_steps, waits}
use Rattle.running_store.specs.Courses.Stop.{Through}
use Rattle.running_store.specs.Calls.Rewrites.{new_base, rewrite_course, trimmed_file}
use Rattle.formats.specs.Limits.{lsn_end}
use Rattle.checkpointing.specs.Courses.{trim_course}
use Rattle.store_engine.specs.Emptied.{IsEmptied}

module _ {O : Type 0} (m : Meaning O) (w : World O) (none : (n : ℕ) → IsFalse (w.graph n)) where
  -- a force leaves the graph empty
  forced_none : (n : ℕ) → IsFalse ((run m w (force_steps m w)).graph n)
  unfolding run step
  forced_none n = cond_both (waits m w) (Block_gate ∷ []) [] (λ (l : List (Step O)). IsFalse ((run m w l).graph n)) (λ some. none n) (λ nothing. none n)

  -- so the log begins at the next LSN
  base_is_next : (v : World O) → ((n : ℕ) → IsFalse (v.graph n)) → new_base m v ≡ end_of v
  base_is_next v empty =
      let least = least-is v.graph (end_of v) in
      let not_below : least_below (end_of v) v.graph < end_of v → ⊥ = λ below. both_ways _ (empty (least_below (end_of v) v.graph)) (least.1 below) in
      omega (arith, least.0, not_below)

  rewritten_empty : (v : World O) → ((n : ℕ) → IsFalse (v.graph n)) → IsEmptied (step m v (Header_gate (new_base m v)))
  unfolding step
  rewritten_empty v empty =
      let base = base_is_next v empty in
      let last : new_base m v - 1 ≡ length v.history = omega (arith, base) in
      record { base = base; records = ap (λ (n : ℕ). drop n v.history) last ∙ drop-length v.history }

  behind_force : (used : ℕ) → (rewrite_course m (run m w (force_steps m w)) used).stop ≡ Through → IsEmptied (run m w (force_steps m w ++ (rewrite_course m (run m w (force_steps m w)) used).steps))
  unfolding run
  behind_force used =
      let v = run m w (force_steps m w) in
      cond_both (nat_lt log_limit (trimmed_file m v)) _ _ (λ (c : Course O). c.stop ≡ Through → IsEmptied (run m w (force_steps m w ++ c.steps))) (λ over. λ is. cc)
      (λ fits. λ is. subst (λ (u : World O). IsEmptied u) (sym (run-append m w (force_steps m w) (Header_gate (new_base m v) ∷ []))) (rewritten_empty v forced_none))

  pub trimmed_empty : (epoch used : ℕ) → (trim_course m epoch w used).stop ≡ Through → IsEmptied (run m w (trim_course m epoch w used).steps)
  trimmed_empty epoch used = cond_both (nat_le lsn_end epoch) _ _ (λ (c : Course O). c.stop ≡ Through → IsEmptied (run m w c.steps)) (λ worn. λ is. cc) (λ left. λ is. behind_force used is)
