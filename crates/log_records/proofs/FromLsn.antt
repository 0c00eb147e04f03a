-- The records that a rewrite keeps, and those that it leaves out.
use Rattle.std.proofs.Common.{◌≡◌, ℕ, ◌+◌, ◌-◌, ◌<◌, ◌≤◌, true, false, List, [], ◌∷◌, length, refl, sym, ap, ◌∙◌, subst, arith, inl, inr}
use Rattle.std.proofs.lemmas.Bool.{cases_Bool, cases_lt, cond-true, cond-false, not_from_true, not_from_false, leb-true, leb-false, false≢true}
use Rattle.oper_core.specs.Meaning.{Meaning}
use Rattle.formats.specs.Records.{commands_of, next_behind, next_after, IsPlaced, AreRecords}
use Rattle.formats.specs.declared.record.Record.{Record}
use Rattle.formats.specs.declared.record.Record.TheVariants.{Command, Identity, Checkpoint}
use Rattle.log_records.specs.RecordLog.{counts}
use Rattle.log_records.specs.RecordLaws.{count-append}
use Rattle.log_records.specs.Rewriting.{is_from_lsn, from_lsn, left_out}

module _ {O : Type 0} (m : Meaning O) (from : ℕ) where
  -- a record that is kept
  stays_in : (r : Record O) (records : List (Record O)) → is_from_lsn from r ≡ true → (from_lsn from (r ∷ records) ≡ r ∷ from_lsn from records) × (left_out from (r ∷ records) ≡ left_out from records)
  stays_in r records stays = (cond-true _ _ _ stays, cond-false _ _ _ (not_from_true (is_from_lsn from r) stays))

  -- one that is left out
  goes_out : (r : Record O) (records : List (Record O)) → is_from_lsn from r ≡ false → (from_lsn from (r ∷ records) ≡ from_lsn from records) × (left_out from (r ∷ records) ≡ r ∷ left_out from records)
  goes_out r records goes = (cond-false _ _ _ goes, cond-true _ _ _ (not_from_false (is_from_lsn from r) goes))

  -- each command is kept or left out
  pub counts_part : (records : List (Record O)) → length (commands_of records) ≡ length (commands_of (left_out from records)) + length (commands_of (from_lsn from records))
  counts_part [] = omega arith
  counts_part (r ∷ records) =
      let rest = counts_part records in
      let all = count-append m (r ∷ []) records in
      elim (cases_Bool (is_from_lsn from r)) [
        | inl stays ↦
            let parts = stays_in r records stays in
            omega (arith, rest, all, count-append m (r ∷ []) (from_lsn from records), ap (λ (l : List (Record O)). length (commands_of l)) parts.0, ap (λ (l : List (Record O)). length (commands_of l)) parts.1)
        | inr goes ↦
            let parts = goes_out r records goes in
            omega (arith, rest, all, count-append m (r ∷ []) (left_out from records), ap (λ (l : List (Record O)). length (commands_of l)) parts.0, ap (λ (l : List (Record O)). length (commands_of l)) parts.1)
      ]

  -- a record takes one LSN at most, and a command takes one
  behind_one : (base next : ℕ) (r : Record O) → IsPlaced m base next r → (next + counts r ≤ next_behind next r) × (next_behind next r ≤ next + 1)
  behind_one base next (Command lsn op) place = (omega arith, omega arith)
  behind_one base next (Identity lsn x value) place = (omega arith, omega arith)
  behind_one base next (Checkpoint table) place = (omega arith, omega arith)

  kept_place : (base next : ℕ) (r : Record O) → IsPlaced m base next r → is_from_lsn from r ≡ true → (from ≤ next) × (next_behind next r ≡ next + 1) × IsPlaced m from next r
  kept_place base next (Command lsn op) place stays = (omega (arith, leb-true from lsn stays, place.0), refl, place)
  kept_place base next (Identity lsn x value) place stays = (omega (arith, leb-true from lsn stays, place.0), refl, place)
  kept_place base next (Checkpoint table) place stays = absurd (false≢true stays)

  out_place : (base next : ℕ) (r : Record O) → IsPlaced m base next r → is_from_lsn from r ≡ false → next < next_behind next r → next < from
  out_place base next (Command lsn op) place goes more = omega (arith, leb-false from lsn goes, place.0)
  out_place base next (Identity lsn x value) place goes more = omega (arith, leb-false from lsn goes, place.0)
  out_place base next (Checkpoint table) place goes more = absurd (omega (arith, more))

  -- the commands that are left out have LSNs below this one
  pub left_below : (base next : ℕ) (records : List (Record O)) → AreRecords m base next records → length (commands_of (left_out from records)) ≤ from - next
  left_below base next [] are = omega arith
  left_below base next (r ∷ records) are =
      let rest = left_below base (next_behind next r) records are.2 in
      let one = behind_one base next r are.1 in
      elim (cases_Bool (is_from_lsn from r)) [
        | inl stays ↦ omega (arith, rest, one.0, one.1, ap (λ (l : List (Record O)). length (commands_of l)) (stays_in r records stays).1)
        | inr goes ↦
            let below = out_place base next r are.1 goes in
            let all = count-append m (r ∷ []) (left_out from records) in
            let same = ap (λ (l : List (Record O)). length (commands_of l)) (goes_out r records goes).1 in
            elim (cases_lt next (next_behind next r)) [
              | inl more ↦ omega (arith, rest, one.0, one.1, all, same, below more)
              | inr none ↦ omega (arith, rest, one.0, one.1, all, same, none)
            ]
      ]

  still_before : (base next begun : ℕ) (r : Record O) → IsPlaced m base next r → is_from_lsn from r ≡ false → (from ≤ next → begun ≡ next) → (next ≤ from → begun ≡ from)
      → (from ≤ next_behind next r → begun ≡ next_behind next r) × (next_behind next r ≤ from → begun ≡ from)
  still_before base next begun r place goes past before =
      let below = out_place base next r place goes in
      let one = behind_one base next r place in
      elim (cases_lt next (next_behind next r)) [
        | inl more ↦ ((λ low. let is = before (omega (arith, below more)) in omega (arith, is, low, one.1, below more)), (λ high. before (omega (arith, below more))))
        | inr none ↦ ((λ low. let is = past (omega (arith, low, none)) in omega (arith, is, none, one.0)), (λ high. before (omega (arith, high, one.0))))
      ]

  -- those that are kept stand in their places in a log that begins with this LSN, and the next one is what it was
  pub from_lsn_placed : (base next begun : ℕ) (records : List (Record O)) → AreRecords m base next records → (from ≤ next → begun ≡ next) → (next ≤ from → begun ≡ from)
      → AreRecords m from begun (from_lsn from records) × (from ≤ next_after next records → next_after begun (from_lsn from records) ≡ next_after next records)
  from_lsn_placed base next begun [] are past before = (tt, past)
  from_lsn_placed base next begun (r ∷ records) are past before = elim (cases_Bool (is_from_lsn from r)) [
    | inl stays ↦
        let place = kept_place base next r are.1 stays in
        let same : begun ≡ next = past place.0 in
        let kept = (stays_in r records stays).0 in
        let rest = from_lsn_placed base (next_behind next r) (next_behind begun r) records are.2 (λ low. ap (λ (n : ℕ). next_behind n r) same) (λ high. absurd (omega (arith, high, place.0, place.1))) in (
          subst (λ (l : List (Record O)). AreRecords m from begun l) (sym kept) (are.0, subst (λ (n : ℕ). IsPlaced m from n r) (sym same) place.2, rest.0),
          λ low. ap (λ (l : List (Record O)). next_after begun l) kept ∙ rest.1 low,
        )
    | inr goes ↦
        let kept = (goes_out r records goes).0 in
        let now = still_before base next begun r are.1 goes past before in
        let rest = from_lsn_placed base (next_behind next r) begun records are.2 now.0 now.1 in (
          subst (λ (l : List (Record O)). AreRecords m from begun l) (sym kept) rest.0,
          λ low. ap (λ (l : List (Record O)). next_after begun l) kept ∙ rest.1 low,
        )
  ]
