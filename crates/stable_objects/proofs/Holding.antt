-- An object is held in the slot that didn't hold it.
use Rattle.std.proofs.Common.{◌≡◌, ◌≢◌, ◌⊎◌, inl, inr, ◌<◌, ◌+◌, ◌-◌, ◌*◌, ℕ, if◌then◌else◌, nat_lt, set, refl, sym, ◌∙◌, ap, arith}
use Rattle.std.proofs.lemmas.Grind.{get_or-set_at}
use Rattle.std.proofs.lemmas.List.{get_or-set_other}
use Rattle.stable_objects.specs.Ready.{IsHeld}
use Rattle.stable_objects.specs.Replacing.{IsRenewed, spare_in}
use Rattle.stable_objects.specs.SlotLaws.{one_of_two}
use Rattle.stable_objects.specs.SlotsView.{AreHeads, SlotsView, head, holder_in, lsn_in, layout_of, length_in}
use Rattle.stable_objects.proofs.Replaced.{greater_lsn, slot_room, spare}

-- its LSN is the new one, if that is later
pub held_renewed : (before after : SlotsView) (x lsn long : ℕ) → IsHeld before after x lsn long → lsn_in before x < lsn → IsRenewed before after x lsn long
held_renewed before after x lsn long is later =
    let s = spare_in before x in
    let found = spare before x in
    let other = is.other_heads x (1 - s) (omega arith) (inr (λ same. absurd (omega (arith, same, found.two)))) in
    record {
      lsn_is = greater_lsn after x s lsn found.two is.opened (omega (arith, other, found.other, later));
      long_is = is.long_is;
      other_lsns = λ y differs.
          let first = is.other_heads y 0 (omega arith) (inl differs) in
          let second = is.other_heads y 1 (omega arith) (inl differs) in
          ap (λ (n : ℕ). head after y (if nat_lt n (head after y 1) then 1 else 0)) first
          ∙ ap (λ (n : ℕ). head after y (if nat_lt (head before y 0) n then 1 else 0)) second
          ∙ is.other_heads y (holder_in before y) (one_of_two (nat_lt (head before y 0) (head before y 1))) (inl differs);
      other_lengths = is.other_lengths;
    }

-- a call that counts slots through the file, and knows its slots from inside
module _ (inside slots : SlotsView) (x slot lsn long : ℕ) (same : inside ≡ slots) (heads : AreHeads (layout_of inside) inside.heads inside.lengths) (below : x < slots.params.objects) (slot_is : slot ≡ 2 * x + spare_in slots x) where
  abbrev later : SlotsView
  later = record { params = inside.params; first = inside.first; heads = set inside.heads slot lsn; lengths = set inside.lengths x long }

  elsewhere : (y s : ℕ) → s < 2 → (y ≢ x) ⊎ (s ≢ spare_in slots x) → head later y s ≡ head slots y s
  elsewhere y s two differs =
      let found = (spare slots x).two in
      let apart : 2 * y + s ≢ slot = λ e. elim differs [
        | inl other ↦ other (omega (arith, e, slot_is, found, two))
        | inr beside ↦ beside (omega (arith, e, slot_is, found, two))
      ] in
      get_or-set_other inside.heads slot (2 * y + s) lsn 0 apart ∙ ap (λ (w : SlotsView). head w y s) same

  pub held_inside : IsHeld slots later x lsn long
  held_inside = record {
    layout = ap layout_of same;
    opened = get_or-set_at inside.heads slot (2 * x + spare_in slots x) lsn 0 (sym slot_is) (slot_room inside slots x slot same heads below slot_is);
    other_heads = elsewhere;
    long_is = get_or-set_at inside.lengths x x long 0 refl (omega (arith, heads.long, below, ap (λ (w : SlotsView). w.params.objects) same));
    other_lengths = λ y other. get_or-set_other inside.lengths x y long 0 other ∙ ap (λ (w : SlotsView). length_in w y) same;
  }
