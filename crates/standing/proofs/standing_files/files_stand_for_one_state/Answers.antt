use Rattle.std.proofs.Common.{◌∙◌, subst, sym, ap, length}
use Rattle.disk_model.specs.declared.machine.FileNo.TheVariants.{Objects}
use Rattle.oper_core.specs.Meaning.{state_after}
use Rattle.formats.specs.Objects.{bounds_of}
use Rattle.formats.specs.declared.params.Params.{Params}
use Rattle.explain_core.specs.Stable.{IsStableOf}
use Rattle.standing.specs.OneStable.{small_store}
use Rattle.standing.specs.Shown.{commands-stand}
use Rattle.standing.proofs.standing_files.files_stand_for_one_state.Goals as goal

pub returns : goal.returns
returns g c = record {
  count = λ p q files commands others a b.
      let same = c.files_hold_one_store.ensures.params p q files a.parts b.parts a.holds b.holds in
      let parts = c.files_hold_one_store.ensures.parts p q files a.parts b.parts a.holds b.holds in
      let stable = subst (λ (r : Params). IsStableOf (g.O.Oper.meaning (bounds_of r)) b.parts b.history b.installed) (sym same) b.stable in
      let also = subst (λ it. IsStableOf (g.O.Oper.meaning (bounds_of p)) it b.history b.installed) (sym parts) stable in
      sym (ap (λ l. length l) a.commands_are) ∙ c.one_state.ensures.commands (bounds_of p) a.parts a.history b.history a.installed b.installed a.stable also ∙ ap (λ l. length l) b.commands_are;
  told = λ p files commands it.
      commands-stand (g.O.Oper.meaning (bounds_of p)) p files it.parts it.holds it.history it.installed it.stable ∙ ap (λ l. length l) it.commands_are;
  state = λ p q files commands others x a b.
      let same = c.files_hold_one_store.ensures.params p q files a.parts b.parts a.holds b.holds in
      let parts = c.files_hold_one_store.ensures.parts p q files a.parts b.parts a.holds b.holds in
      let stable = subst (λ (r : Params). IsStableOf (g.O.Oper.meaning (bounds_of r)) b.parts b.history b.installed) (sym same) b.stable in
      let also = subst (λ it. IsStableOf (g.O.Oper.meaning (bounds_of p)) it b.history b.installed) (sym parts) stable in
      let small = small_store p (files Objects) a.holds.objects in
      sym (ap (λ l. state_after (g.O.Oper.meaning (bounds_of p)) l x) a.commands_are)
      ∙ c.one_state.ensures.state (bounds_of p) a.parts a.history b.history a.installed b.installed x small a.stable also
      ∙ (λ i. state_after (g.O.Oper.meaning (bounds_of (same i))) (b.commands_are i) x);
}
