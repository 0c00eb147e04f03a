-- Calls on an engine under a transaction, as calls on a store in use.
use Rattle.std.proofs.Common.{◌≡◌, ◌∙◌, ◌⊎◌, ⊎_elim, inl, inr, refl, sym, ap, subst, true≢false, true, false, ℕ, List, [], ◌++◌, length, take, Option, Result, Err, append_assoc, length-append, arith}
use Rattle.std.proofs.Math.Seq.{take-length}
use Rattle.std.proofs.lemmas.List.{take-append-le}
use Rattle.disk_model.specs.Disk.{Disk}
use Rattle.disk_model.specs.Moments.{passes_none}
use Rattle.formats.specs.declared.params.Params.{Params}
use Rattle.execution.specs.declared.exec_err.ExecErr.{ExecErr}
use Rattle.op_codec.specs.AllOps.{AllOps, all_meaning}
use Rattle.running_store.specs.Taking.{Ending}
use Rattle.store_engine.specs.Lists.{ending_of}
use Rattle.store_calls.specs.Making.{Calls}
use Rattle.transactions.specs.Within.{HoldsWithin, StagesFront, within_view}
use Rattle.transactions.specs.declared.transaction.Transaction.{Transaction}
use Rattle.transactions.specs.declared.within.Within.{Within}
use Rattle.embed.specs.Within.{IsCallWithin, IsStagedOn, StagesMore}
use Rattle.embed.specs.declared.store.Store.{Store}

same_front : {A : Type 0} (xs ys zs : List A) → xs ++ zs ≡ ys ++ zs → xs ≡ ys
same_front {A} xs ys zs same =
    let long : length xs ≡ length ys = omega (arith, ap (λ (l : List A). length l) same, length-append xs zs, length-append ys zs) in
    sym (take-length xs) ∙ sym (take-append-le (length xs) xs zs (omega arith)) ∙ ap (λ (l : List A). take (length xs) l) same ∙ take-append-le (length xs) ys zs (omega (arith, long)) ∙ ap (λ (n : ℕ). take n ys) long ∙ take-length ys

-- a front is staged on the same commands
staged_more : (p : Params) {d : Disk} (before after : Within AllOps) (commands ops : List AllOps) (ending : Ending)
    → StagesFront all_meaning p d before after (commands ++ before.transaction.now.ops.items) ops ending → StagesMore p commands before.transaction.now after.transaction.now ops ending
staged_more p before after commands ops ending stages = record {
  done = stages.done;
  front = stages.front;
  all = stages.all;
  behind = stages.staged;
  unstopped = stages.unstopped;
  staged = ⊎_elim (λ failed. inl failed) (λ holds. inr (subst (λ (base : List AllOps). IsStagedOn p base after.transaction.now) (same_front holds.base commands after.transaction.now.ops.items
      (holds.are ∙ append_assoc commands before.transaction.now.ops.items (take stages.done ops) ∙ ap (λ (l : List AllOps). commands ++ l) (sym stages.staged))) holds.staged)) stages.kept;
}

module _ {M A E : Type 0} (disk : M → Disk) (ops : Params → List AllOps → List AllOps) (answers : Params → List AllOps → Type 0) (fault : E) (error : Option ExecErr) (result : Result A E) where
  -- a call within is that on the store and its transaction, which is what it left of the one that was lent
  pub called_within : (m n : M) (before after : Within AllOps) {u : Transaction AllOps} → u ≡ after.transaction.now → before.engine.now.broken ≡ false → Calls (within_view all_meaning) (disk m) (disk n) before after error
      → ((p : Params) (commands : List AllOps) → HoldsWithin all_meaning p (disk m) before commands → HoldsWithin all_meaning p (disk m) before commands → StagesFront all_meaning p (disk n) before after commands (ops p commands) (ending_of error))
      → ((p : Params) (commands : List AllOps) → HoldsWithin all_meaning p (disk m) before commands → answers p commands)
      → IsCallWithin disk (record { engine = before.engine.now; machine = m }) (record { engine = after.engine.now; machine = n }) before.transaction.now u ops answers fault error result
  called_within m n before after same whole calls adds says =
      subst (λ (x : Transaction AllOps). IsCallWithin disk (record { engine = before.engine.now; machine = m }) (record { engine = after.engine.now; machine = n }) before.transaction.now x ops answers fault error result) (sym same)
      (record {
        time = calls.own.reads.kept.time;
        reads = λ unbroken. calls.own.reads;
        stages = λ p commands holds staged.
            let all : HoldsWithin all_meaning p (disk m) before (commands ++ before.transaction.now.ops.items) = record { base = commands; holds = holds; staged = staged; are = refl } in
            staged_more p before after commands (ops p (commands ++ before.transaction.now.ops.items)) (ending_of error) (adds p (commands ++ before.transaction.now.ops.items) all all);
        says = λ p commands holds staged. says p (commands ++ before.transaction.now.ops.items) (record { base = commands; holds = holds; staged = staged; are = refl });
        broken = λ is. absurd (true≢false (sym is ∙ whole));
      })

abbrev failed : (A : Type 0) {E : Type 0} → E → Result A E
failed A fault = Err fault

-- after a fault of the disk nothing is done
pub broken_within : {M A E : Type 0} (disk : M → Disk) (ops : Params → List AllOps → List AllOps) (answers : Params → List AllOps → Type 0) (fault : E) (error : Option ExecErr) (store : Store M) (t : Transaction AllOps) → store.engine.broken ≡ true
    → IsCallWithin disk store store t t ops answers fault error (failed A fault)
broken_within disk ops answers fault error store t is = record {
  time = passes_none (disk store.machine);
  reads = λ unbroken. absurd (true≢false (sym is ∙ unbroken));
  stages = λ p commands holds staged. absurd (true≢false (sym is ∙ holds.shows.unbroken));
  says = λ p commands holds staged. absurd (true≢false (sym is ∙ holds.shows.unbroken));
  broken = λ broken. (record { answer = refl; same = refl }, refl);
}
