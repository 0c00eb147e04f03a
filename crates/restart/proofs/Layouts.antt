-- Files of slots with one layout have one version.
use Rattle.std.proofs.Common.{◌≡◌, ◌∙◌, inl, inr, ℕ, List, sym, ap, arith}
use Rattle.std.proofs.lemmas.Bool.{cases_eq, eq-eqb, ne_eqb}
use Rattle.formats.specs.Bytes.{byte_at}
use Rattle.formats.specs.Objects.{is_second, form_in}
use Rattle.formats.specs.declared.form.Form.{Form}
use Rattle.formats.specs.declared.layout.Layout.{Layout}
use Rattle.stable_objects.specs.LayoutLaws.{first_in, second_in}
use Rattle.stable_objects.specs.SlotLaws.{layout_of_file}
use Rattle.stable_objects.specs.SlotsView.{SlotsView, AreOf, layout_of}
use Rattle.restart.specs.Opening.{KeepsLayout}

-- the first slot of version 2 stands behind that of version 1
apart : (one two : List ℕ) → byte_at 8 one ≡ 50 → (byte_at 8 two ≡ 50 → ⊥) → (form_in one).first ≡ (form_in two).first → ⊥
apart one two second first same = omega (arith, same, ap (λ (f : Form). f.first) (second_in one second), ap (λ (f : Form). f.first) (first_in two first))

-- so the place of the first slot says the version
same_version : (old new : List ℕ) → (form_in new).first ≡ (form_in old).first → is_second new ≡ is_second old
same_version old new same = elim (cases_eq (byte_at 8 new) 50) [
  | inl second ↦ elim (cases_eq (byte_at 8 old) 50) [
    | inl also ↦ eq-eqb (byte_at 8 new) 50 second ∙ sym (eq-eqb (byte_at 8 old) 50 also)
    | inr first ↦ absurd (apart new old second first same)
  ]
  | inr first ↦ elim (cases_eq (byte_at 8 old) 50) [
    | inl second ↦ absurd (apart old new second first (sym same))
    | inr also ↦ ne_eqb (byte_at 8 new) 50 first ∙ sym (ne_eqb (byte_at 8 old) 50 also)
  ]
]

-- a store that keeps its layout keeps that of its file
pub keeps_layout : (before after : SlotsView) (old new : List ℕ) → layout_of after ≡ layout_of before → AreOf before old → AreOf after new → KeepsLayout old new
keeps_layout before after old new same was is =
    let layout = sym (layout_of_file after new is) ∙ same ∙ layout_of_file before old was in
    record { version = same_version old new (ap (λ (l : Layout). l.first) layout); layout = layout }
