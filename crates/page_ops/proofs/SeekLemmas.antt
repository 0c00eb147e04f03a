-- The search for a key, step by step.
use Rattle.std.proofs.Common.{◌≡◌, ◌≤◌, ◌<◌, ℕ, zero, suc, ◌+◌, ◌-◌, ◌/◌, Bool, true, false, if◌then◌else◌, Option, None, Some, List, refl, sym, ap, ◌∙◌, arith}
use Rattle.std.specs.Prelude.{nat_lt}
use Rattle.std.specs.Ordering.{is_lt}
use Rattle.std.proofs.lemmas.Bool.{lt-ltb, ltb-true}
use Rattle.key_entries.specs.Entries.{byte_order}
use Rattle.page_ops.specs.Reading.{has_cell, key_of, seek_from}

module _ (bytes key : List ℕ) where
  -- what is done where a cell is between
  abbrev pub step : ℕ → ℕ → ℕ → Option ℕ
  step n lo hi =
      if has_cell bytes ((lo + hi) / 2) then (if is_lt (byte_order (key_of bytes ((lo + hi) / 2)) key)
      then seek_from n bytes key (suc ((lo + hi) / 2)) hi else seek_from n bytes key lo ((lo + hi) / 2)) else None

  not_below : (lo hi : ℕ) → hi ≤ lo → nat_lt lo hi ≡ false
  not_below lo hi order = elim (nat_lt lo hi) as (λ t. nat_lt lo hi ≡ t → t ≡ false) [ true ↦ λ below. absurd (omega (arith, ltb-true lo hi below, order)) | false ↦ λ below. refl ] refl

  -- no cell is between
  pub at_end : (n lo hi : ℕ) → hi ≤ lo → seek_from n bytes key lo hi ≡ Some lo
  at_end zero lo hi order = refl
  at_end (suc n) lo hi order = ap (λ (t : Bool). if t then step n lo hi else Some lo) (not_below lo hi order)

  pub between_is : (n lo hi : ℕ) → lo < hi → seek_from (suc n) bytes key lo hi ≡ step n lo hi
  between_is n lo hi order = ap (λ (t : Bool). if t then step n lo hi else Some lo) (lt-ltb lo hi order)

  -- as many steps as there are cells are enough
  pub enough : (n m lo hi : ℕ) → hi - lo ≤ n → hi - lo ≤ m → seek_from n bytes key lo hi ≡ seek_from m bytes key lo hi
  enough zero m lo hi few also = sym (at_end m lo hi (omega (arith, few)))
  enough (suc n) zero lo hi few also = at_end (suc n) lo hi (omega (arith, also))
  enough (suc n) (suc m) lo hi few also =
      elim (nat_lt lo hi) as (λ t. nat_lt lo hi ≡ t → (if t then step n lo hi else Some lo) ≡ (if t then step m lo hi else Some lo)) [
        | true ↦ λ below.
            let order : lo < hi = ltb-true lo hi below in
            let upper = enough n m (suc ((lo + hi) / 2)) hi (omega (arith, few, order)) (omega (arith, also, order)) in
            let lower = enough n m lo ((lo + hi) / 2) (omega (arith, few, order)) (omega (arith, also, order)) in
            λ i. if has_cell bytes ((lo + hi) / 2) then (if is_lt (byte_order (key_of bytes ((lo + hi) / 2)) key) then upper i else lower i) else None
        | false ↦ λ below. refl
      ] refl

  -- the step that is next, where the cell in the middle is there
  module _ (lo hi : ℕ) (order : lo < hi) where
    next : seek_from (hi - lo) bytes key lo hi ≡ step (hi - lo - 1) lo hi
    next =
        let count : hi - lo ≡ suc (hi - lo - 1) = omega (arith, order) in
        ap (λ (n : ℕ). seek_from n bytes key lo hi) count ∙ between_is (hi - lo - 1) lo hi order

    pub above : has_cell bytes ((lo + hi) / 2) ≡ true → is_lt (byte_order (key_of bytes ((lo + hi) / 2)) key) ≡ true
        → seek_from (hi - lo) bytes key lo hi ≡ seek_from (hi - suc ((lo + hi) / 2)) bytes key (suc ((lo + hi) / 2)) hi
    above there below =
        next ∙ (λ i. if there i then (if below i then seek_from (hi - lo - 1) bytes key (suc ((lo + hi) / 2)) hi else seek_from (hi - lo - 1) bytes key lo ((lo + hi) / 2)) else None)
        ∙ enough (hi - lo - 1) (hi - suc ((lo + hi) / 2)) (suc ((lo + hi) / 2)) hi (omega (arith, order)) (omega arith)

    pub below : has_cell bytes ((lo + hi) / 2) ≡ true → is_lt (byte_order (key_of bytes ((lo + hi) / 2)) key) ≡ false
        → seek_from (hi - lo) bytes key lo hi ≡ seek_from ((lo + hi) / 2 - lo) bytes key lo ((lo + hi) / 2)
    below there above =
        next ∙ (λ i. if there i then (if above i then seek_from (hi - lo - 1) bytes key (suc ((lo + hi) / 2)) hi else seek_from (hi - lo - 1) bytes key lo ((lo + hi) / 2)) else None)
        ∙ enough (hi - lo - 1) ((lo + hi) / 2 - lo) lo ((lo + hi) / 2) (omega (arith, order)) (omega arith)

    pub no_cell : has_cell bytes ((lo + hi) / 2) ≡ false → seek_from (hi - lo) bytes key lo hi ≡ None
    no_cell there = next ∙ ap (λ (t : Bool). if t then (if is_lt (byte_order (key_of bytes ((lo + hi) / 2)) key) then seek_from (hi - lo - 1) bytes key (suc ((lo + hi) / 2)) hi else seek_from (hi - lo - 1) bytes key lo ((lo + hi) / 2)) else None) there
