-- How a file is filled.
use Rattle.std.proofs.Common.{◌≡◌, inl, inr, ◌<◌, ◌≤◌, ◌+◌, ◌^◌, ℕ, List, [], ◌∷◌, length, refl, sym, ◌∙◌, ap, subst, arith}
use Rattle.std.proofs.lemmas.Bool.{cases_eq, cases_lt}
use Rattle.disk_model.specs.Disk.{written_over}
use Rattle.oper_core.specs.Cell.{Cell}
use Rattle.formats.specs.Bytes.{byte_at, IsClosedAt}
use Rattle.formats.specs.Objects.{slot_place, layout_in, place_in, holder, cell_of, open_lsn}
use Rattle.formats.specs.declared.layout.Layout.{Layout}
use Rattle.formats.specs.declared.params.Params.{Params}
use Rattle.stable_objects.specs.Upgrades.Filling.{IsFilledTo}
use Rattle.stable_objects.specs.Making.{IsNewFile}
use Rattle.stable_objects.specs.Replacing.{AgreesOutside, IsPut}
use Rattle.stable_objects.specs.SlotLaws.{closed_tells, closed_value, holder_below}
use Rattle.stable_objects.proofs.Bytes.{written_long, byte_before, byte_after, byte_written}
use Rattle.stable_objects.proofs.Outside.{from_behind, held_agrees, agrees_wider, filled_behind}
use Rattle.stable_objects.proofs.Changed.{stands, each_stays, renewed}

pub filled_none : (p : Params) (cells : ℕ → Cell) (file : List ℕ) → IsNewFile p file → IsFilledTo p 0 cells file
filled_none p cells file new = record { whole = new.whole; held = λ x less. absurd (omega (arith, less)); rest = λ x s le below two. new.closed x s below two }

-- an object whose slots are closed has no pair
pub no_pair : (x : ℕ) (file : List ℕ) → ((s : ℕ) → s < 2 → IsClosedAt (place_in file x s) file) → cell_of x file ≡ record { lsn = 0; value = [] }
no_pair x file closed =
    let held = closed (holder x file) (holder_below x file) in
    let lsn = closed_tells (place_in file x (holder x file)) file held in
    let value = closed_value (place_in file x (holder x file)) file held in
    λ i. record { lsn = lsn i; value = value i }

pub filled_past : (p : Params) (n : ℕ) (cells : ℕ → Cell) (file : List ℕ) → IsFilledTo p n cells file → n < p.objects → cells n ≡ record { lsn = 0; value = [] } → IsFilledTo p (n + 1) cells file
filled_past p n cells file is below none = record {
  whole = is.whole;
  held = λ x less there. elim (cases_lt x n) [
    | inl before ↦ is.held x before there
    | inr here ↦
        let same : n ≡ x = omega (arith, less, here) in
        subst (λ (y : ℕ). cell_of y file ≡ cells y) same (no_pair n file (λ s two. is.rest n s (omega arith) below two) ∙ sym none)
  ];
  rest = λ x s le there two. is.rest x s (omega (arith, le)) there two;
}

module _ (p : Params) (n : ℕ) (cells : ℕ → Cell) (old new : List ℕ) (is : IsFilledTo p n cells old) (below : n < p.objects) (some : 1 ≤ (cells n).lsn) (is_lsn : (cells n).lsn < 2 ^ 62) (short : length (cells n).value ≤ p.cap)
    (put : IsPut (place_in old n 0) (cells n).lsn (cells n).value old new) where
  agrees : AgreesOutside (place_in old n 0) (13 + p.cap) old new
  agrees = agrees_wider (place_in old n 0) (13 + length (cells n).value) (place_in old n 0) (13 + p.cap) old new (omega arith) (omega (arith, short)) put.agrees

  other_closed : open_lsn (place_in old n 1) old < (cells n).lsn
  other_closed = omega (arith, some, closed_tells (place_in old n 1) old (is.rest n 1 (omega arith) below (omega arith)))

  stays_put : layout_in new ≡ layout_in old
  stays_put = stands p n 0 old new is.whole below (omega arith) agrees

  more : IsFilledTo p (n + 1) cells new
  more =
      let has = renewed p n 0 old new is.whole below (omega arith) agrees (cells n).lsn (cells n).value other_closed is_lsn short put.opened put.filled in
      record {
        whole = has.whole;
        held = λ x less there. elim (cases_eq x n) [
          | inl here ↦ subst (λ (y : ℕ). cell_of y new ≡ cells y) (sym here) has.held
          | inr other ↦ has.others x there other ∙ is.held x (omega (arith, less, other)) there
        ];
        rest = λ x s le there two is_open.
            let stays = each_stays p n 0 old new is.whole below (omega arith) agrees x s there two (λ same. omega (arith, same, le, two)) in
            let places : place_in new x s ≡ place_in old x s = ap (λ (l : Layout). slot_place l x s) stays_put in
            is.rest x s (omega (arith, le)) there two (sym stays.gate ∙ ap (λ (place : ℕ). byte_at place new) (sym places) ∙ is_open);
      }

  pub filled_more : IsFilledTo p (n + 1) cells new × (layout_in new ≡ layout_in old)
  filled_more = (more, stays_put)

-- a byte before a slot that is put is written in both files
module _ (at byte place lsn : ℕ) (value old new : List ℕ) (less : at < place) (there : at < length old) (put : IsPut place lsn value old new) where
  long : (file : List ℕ) → at < length file → length (written_over at (byte ∷ []) file) ≡ length file
  long file within = omega (arith, written_long at (byte ∷ []) file, within)

  beside : (file : List ℕ) → AgreesOutside at 1 file (written_over at (byte ∷ []) file)
  beside file = held_agrees at (byte ∷ []) file (written_over at (byte ∷ []) file) refl

  same_byte : (j : ℕ) → j < length old → j < place → byte_at j (written_over at (byte ∷ []) new) ≡ byte_at j (written_over at (byte ∷ []) old)
  same_byte j within before = elim (cases_eq j at) [
    | inl here ↦ subst (λ (k : ℕ). byte_at k (written_over at (byte ∷ []) new) ≡ byte_at k (written_over at (byte ∷ []) old)) (sym here) (byte_written at byte new ∙ sym (byte_written at byte old))
    | inr other ↦ elim (cases_lt j at) [
      | inl front ↦ byte_before at (byte ∷ []) new j front ∙ put.agrees.before j within before ∙ sym (byte_before at (byte ∷ []) old j front)
      | inr le ↦
          let after : at + 1 ≤ j = omega (arith, le, other) in
          byte_after at (byte ∷ []) new j after ∙ put.agrees.before j within before ∙ sym (byte_after at (byte ∷ []) old j after)
    ]
  ]

  pub put_with_byte : IsPut place lsn value (written_over at (byte ∷ []) old) (written_over at (byte ∷ []) new)
  put_with_byte =
      let there_new : at < length new = omega (arith, there, put.agrees.no_shorter) in
      let behind = place + (13 + length value) in
      record {
        agrees = record {
          no_shorter = omega (arith, long old there, long new there_new, put.agrees.no_shorter);
          before = λ j within before. same_byte j (omega (arith, within, long old there)) before;
          behind = from_behind at 1 new (written_over at (byte ∷ []) new) (beside new) behind (omega (arith, less))
              ∙ put.agrees.behind
              ∙ sym (from_behind at 1 old (written_over at (byte ∷ []) old) (beside old) behind (omega (arith, less)));
        };
        opened = byte_after at (byte ∷ []) new place (omega (arith, less)) ∙ put.opened;
        filled = filled_behind at 1 place lsn value new (written_over at (byte ∷ []) new) (omega (arith, less)) (beside new) put.filled;
      }
