-- An objects file that changes behind its numbers keeps its header, and its slots stand where they stood.
use Rattle.std.proofs.Common.{◌≡◌, inl, ◌<◌, ◌≤◌, ◌+◌, ℕ, List, length, sym, ◌∙◌, ap, subst, arith}
use Rattle.formats.specs.Bytes.{number_at}
use Rattle.formats.specs.Objects.{BeginsStore, IsObjectsFile, IsInForm, form_in, params_at, layout_in, last_slot}
use Rattle.formats.specs.declared.form.Form.{Form}
use Rattle.formats.specs.declared.layout.Layout.{Layout}
use Rattle.formats.specs.declared.params.Params.{Params}
use Rattle.stable_objects.specs.Layouts.{IsForm}
use Rattle.stable_objects.specs.LayoutLaws.{form_is, form_same, layout_same, params_at_same}
use Rattle.stable_objects.specs.Replacing.{AgreesOutside}
use Rattle.stable_objects.proofs.Outside.{read_same, number_stays}
use Rattle.stable_objects.proofs.Cells.{AreWholeBy, whole_in}

module _ (p : Params) (at n : ℕ) (old new : List ℕ) (is : IsObjectsFile p old) (agrees : AgreesOutside at n old new) (behind : (form_in old).first ≤ at) where
  form : IsForm (form_in old)
  form = form_is old is.in_form.older_objects is.in_form.older_cap

  -- the file has all up to the first slot
  reach : (form_in old).first ≤ length old
  reach = omega (arith, is.whole)

  stays : (k place : ℕ) → place + k ≤ (form_in old).first → number_at k place new ≡ number_at k place old
  stays k place within = number_stays at n old new agrees place k (inl (omega (arith, within, behind), omega (arith, within, reach)))

  pub form_kept : form_in new ≡ form_in old
  form_kept = form_same new old (agrees.before 8 (omega (arith, reach, form.header)) (omega (arith, behind, form.header)))
      (stays 4 9 (omega (arith, form.header))) (stays 4 13 (omega (arith, form.header)))

  numbers : params_at (form_in old).numbers new ≡ params_at (form_in old).numbers old
  numbers = params_at_same (form_in old).numbers (form_in old).numbers new old (λ k place within. stays k ((form_in old).numbers + place) (omega (arith, within, form.between)))

  pub layout_kept : layout_in new ≡ layout_in old
  layout_kept = layout_same new old form_kept (ap (λ (f : Form). params_at f.numbers new) form_kept ∙ numbers ∙ ap (λ (f : Form). params_at f.numbers old) (sym form_kept))

  begins : BeginsStore new
  begins = read_same at n old new agrees 0 8 (inl (omega (arith, behind, form.header), omega (arith, reach, form.header))) ∙ is.begins

  -- it is whole, if its slots are
  pub headed : AreWholeBy (layout_in old) p new → IsObjectsFile p new
  headed slots = record {
    begins = begins;
    params = ap (λ (l : Layout). l.params) layout_kept ∙ is.params;
    in_range = is.in_range;
    in_form = subst (λ (f : Form). IsInForm f p) (sym form_kept) is.in_form;
    whole = subst (λ (l : Layout). last_slot l < length new) (sym layout_kept) (omega (arith, is.whole, agrees.no_shorter));
    slots = whole_in (layout_in old) p new layout_kept slots;
  }
