use Rattle.std.proofs.Common.{subst}
use Rattle.disk_model.specs.declared.machine.FileNo.TheVariants.{Objects}
use Rattle.formats.specs.Objects.{bounds_of}
use Rattle.explain_core.specs.Stable.{IsStableOf}
use Rattle.standing.specs.OneStable.{small_store}
use Rattle.standing.proofs.standing_files.same_parts_stand_for_the_same.Goals as goal

pub returns : goal.returns
returns g c = λ p q files others parts commands within holds also it.
    let same = c.files_hold_one_store.ensures.parts p p files it.parts parts it.holds holds in
    let stable = subst (λ s. IsStableOf (g.O.Oper.meaning (bounds_of p)) s it.history it.installed) same it.stable in
    record {
      parts = parts;
      holds = also;
      history = it.history;
      installed = it.installed;
      stable = c.wider_bounds_keep_stable_parts.ensures (bounds_of p) (bounds_of q) parts it.history it.installed (small_store p (files Objects) it.holds.objects) within stable;
      commands_are = it.commands_are;
    }
