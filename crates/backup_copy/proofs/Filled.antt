-- A pair is put into the target.
use Rattle.std.proofs.Common.{◌≡◌, ◌≢◌, ◌∙◌, ◌<◌, ◌≤◌, ◌+◌, ◌^◌, ℕ, List, [], ◌∷◌, length, sym, ap, subst, arith}
use Rattle.disk_model.specs.Disk.{written_over}
use Rattle.oper_core.specs.Cell.{Cell}
use Rattle.formats.specs.Objects.{layout_in, place_in, slot_place}
use Rattle.formats.specs.declared.layout.Layout.{Layout}
use Rattle.formats.specs.declared.params.Params.{Params}
use Rattle.stable_objects.specs.Upgrades.Filling.{IsFilledTo}
use Rattle.stable_objects.specs.GateLaws.{kept_closed}
use Rattle.stable_objects.specs.Layouts.{IsLayout, new_layout}
use Rattle.stable_objects.specs.Making.{KeepsGate, opened}
use Rattle.stable_objects.specs.Replacing.{IsPut}
use Rattle.backup_copy.specs.Target.{IsTarget, MayPut}

-- of the cells only those of the objects that are copied count
pub target_still : (p : Params) (n : ℕ) (cells others : ℕ → Cell) (file : List ℕ) → ((x : ℕ) → x < n → cells x ≡ others x) → IsTarget p n cells file → IsTarget p n others file
target_still p n cells others file same is = record {
  closed = is.closed;
  filled = record { whole = is.filled.whole; held = λ x less there. is.filled.held x less there ∙ same x less; rest = is.filled.rest };
  layout = is.layout;
}

module _ (p : Params) (object lsn : ℕ) (value : List ℕ) (cells : ℕ → Cell) (pair : cells object ≡ record { lsn = lsn; value = value }) (below : object < p.objects) (may : MayPut lsn value) where
  -- an object without a pair is passed over
  pub put_none : (file : List ℕ)
      → (IsFilledTo p object cells (opened file) → object < p.objects → cells object ≡ record { lsn = 0; value = [] } → IsFilledTo p (object + 1) cells (opened file))
      → lsn ≡ 0 → IsTarget p object cells file → IsTarget p (object + 1) cells file
  put_none file passed none is = record {
    closed = is.closed;
    filled = passed is.filled below (pair ∙ (λ i. record { lsn = none i; value = may.1 none i }));
    layout = is.layout;
  }

  -- the pair of another is put
  pub put_one : (old new : List ℕ)
      → (IsFilledTo p object cells (opened old) → object < p.objects → 1 ≤ (cells object).lsn → (cells object).lsn < 2 ^ 62 → length (cells object).value ≤ p.cap
      → IsPut (place_in (opened old) object 0) (cells object).lsn (cells object).value (opened old) (opened new) → IsFilledTo p (object + 1) cells (opened new) × (layout_in (opened new) ≡ layout_in (opened old)))
      → ((at byte place lsn : ℕ) (value old new : List ℕ) → at < place → at < length old → IsPut place lsn value old new → IsPut place lsn value (written_over at (byte ∷ []) old) (written_over at (byte ∷ []) new))
      → ((file : List ℕ) → opened file ≡ written_over 0 (1 ∷ []) file)
      → length value ≤ p.cap → lsn ≢ 0 → IsLayout (new_layout p) → KeepsGate old new → IsPut (slot_place (new_layout p) object 0) lsn value old new
      → IsTarget p object cells old → IsTarget p (object + 1) cells new
  put_one old new filled later gate short some layout keeps put is =
      let place = slot_place (new_layout p) object 0 in
      let behind : IsPut place lsn value (opened old) (opened new) =
      subst (λ (l : List ℕ). IsPut place lsn value l (opened new)) (sym (gate old))
      (subst (λ (l : List ℕ). IsPut place lsn value (written_over 0 (1 ∷ []) old) l) (sym (gate new)) (later 0 1 place lsn value old new (omega (arith, layout.behind)) is.closed.some put)) in
      let here : IsPut (place_in (opened old) object 0) lsn value (opened old) (opened new) =
      subst (λ (l : Layout). IsPut (slot_place l object 0) lsn value (opened old) (opened new)) (sym is.layout) behind in
      let as_cell : IsPut (place_in (opened old) object 0) (cells object).lsn (cells object).value (opened old) (opened new) =
      subst (λ (c : Cell). IsPut (place_in (opened old) object 0) c.lsn c.value (opened old) (opened new)) (sym pair) here in
      let lsn_is = ap (λ (c : Cell). c.lsn) pair in
      let done = filled is.filled below (omega (arith, some, lsn_is)) (omega (arith, may.0, lsn_is)) (subst (λ (c : Cell). length c.value ≤ p.cap) (sym pair) short) as_cell in
      record { closed = kept_closed old new keeps is.closed; filled = done.0; layout = done.1 ∙ is.layout }
