-- With a checkpoint that names no record, the worked store stands for no commands.
use Rattle.std.proofs.Common.{◌≡◌, subst, ℕ, zero, suc, Bool, List, [], ◌∷◌, refl, arith, inl, inr}
use Rattle.std.specs.Prelude.{IsTrue}
use Rattle.std.proofs.lemmas.Bool.{cases_Bool, both_ways}
use Rattle.std.proofs.lemmas.List.Elements.{All-nil}
use Rattle.dirty_page_table.specs.declared.table.DirtyPageTable.{DirtyPageTable}
use Rattle.disk_model.specs.declared.machine.FileNo.TheVariants.{LogA}
use Rattle.formats.specs.Objects.{bounds_of, form_in}
use Rattle.install_order.specs.Order.{IsExposed}
use Rattle.log_records.specs.CodecLaws.{HasCodes, has_codes}
use Rattle.explain_core.specs.ByteOps.{byte_meaning, byte_bounded}
use Rattle.explain_core.specs.History.{Member, accesses_of}
use Rattle.explain_core.specs.History.Member.{Command, Identity}
use Rattle.explain_core.specs.Stable.{Stable, IsStableOf}
use Rattle.explain_core.specs.declared.byte_op.ByteOp.{ByteOp}
use Rattle.explain_core.specs.declared.byte_op.ByteOp.TheVariants.{Put}
use Rattle.standing.specs.OneStable.{one_stable}
use Rattle.standing.specs.Standing.{HoldsStable, StandsFor}
use Rattle.standing.specs.Worked.{small, small_meaning, skipping_checkpoint, files_with}
use Rattle.standing.proofs.WorkedStore.{small_bounds, small_lawful, parts_with, is_log, holds_parts, first_in_force}

abbrev skipping_table : DirtyPageTable
skipping_table = record { next = 3; starts = [] }

skipping_holds : HoldsStable small_meaning small (files_with skipping_checkpoint) (parts_with skipping_table)
skipping_holds =
    holds_parts LogA 1 skipping_table (files_with skipping_checkpoint) refl (first_in_force skipping_checkpoint)
    (is_log 1 skipping_table (files_with skipping_checkpoint LogA) (omega arith) (omega arith)
    (record { next = omega arith; few = omega arith; starts = All-nil _ })
    (record { next_is = refl; rising = λ k within. absurd (omega (arith, within)); there = All-nil _; from_base = All-nil _; before = All-nil _ })
    (omega arith) refl)

abbrev members : List (Member ByteOp)
members = Command (Put 0 170) ∷ Identity 1 [] ∷ []

-- with the identity write installed, nobody else writes 1
exposed : (installed : ℕ → Bool) → IsTrue (installed 2) → IsExposed (accesses_of small_meaning members) installed 1
exposed installed second zero out w = absurd (both_ways _ refl w)
exposed installed second (suc zero) out w = absurd (both_ways _ refl w)
exposed installed second (suc (suc zero)) out w = absurd (both_ways _ out second)
exposed installed second (suc (suc (suc n))) out w = absurd (both_ways _ refl w)

-- the identity write is not installed, and the checkpoint skips it
skips : (installed : ℕ → Bool) → IsStableOf small_meaning (parts_with skipping_table) members installed → ⊥
unfolding form_in
skips installed is = elim (cases_Bool (installed 2)) [
  | inl second ↦ both_ways _ (is.slots.last 1 (exposed installed second) 2 (omega arith) second) refl
  | inr out ↦ let late = is.tables.0.before 2 1 out refl in omega (arith, late)
]

small_codes : HasCodes small_meaning
small_codes = has_codes small_meaning (bounds_of small) small_bounds (byte_bounded (bounds_of small)) small_lawful

pub skipping_stands : (commands : List ByteOp) → StandsFor byte_meaning small (files_with skipping_checkpoint) commands → ⊥
skipping_stands commands it =
    let same : it.parts ≡ parts_with skipping_table = one_stable small_meaning small_codes small (files_with skipping_checkpoint) it.parts (parts_with skipping_table) it.holds skipping_holds in
    let stable = subst (λ (parts : Stable ByteOp). IsStableOf small_meaning parts it.history it.installed) same it.stable in
    skips it.installed (subst (λ (h : List (Member ByteOp)). IsStableOf small_meaning (parts_with skipping_table) h it.installed) stable.records stable)
