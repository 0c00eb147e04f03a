-- Files hold the stable parts of one store: one log is in force, and its bytes are one list of records.
use Rattle.std.proofs.Common.{◌≡◌, ◌∙◌, sym, ap, ℕ, List, arith}
use Rattle.std.proofs.Math.Path.{fun_ext}
use Rattle.disk_model.specs.Disk.{Files}
use Rattle.oper_core.specs.Meaning.{Meaning, IsSmall}
use Rattle.formats.specs.Log.{Header}
use Rattle.formats.specs.Objects.{IsObjectsFile, bounds_of}
use Rattle.formats.specs.declared.params.Params.{Params}
use Rattle.log_records.specs.CodecLaws.{HasCodes}
use Rattle.log_records.specs.Uniqueness.{one_records}
use Rattle.explain_core.specs.Stable.{Stable}
use Rattle.standing.specs.Members.{members_of, tables_in}
use Rattle.standing.specs.Standing.{HoldsStable}

-- a store's bounds are small
pub small_store : (p : Params) (file : List ℕ) → IsObjectsFile p file → IsSmall (bounds_of p)
small_store p file is = record { objects = omega (arith, is.in_range.objects); cap = omega (arith, is.in_range.cap) }

pub one_stable : {O : Type 0} (m : Meaning O) → HasCodes m → (p : Params) (files : Files) (a b : Stable O) → HoldsStable m p files a → HoldsStable m p files b → a ≡ b
one_stable {O} m codes p files a b holds also =
    let same = one_records m codes holds.active also.active holds.header also.header holds.groups also.groups files holds.log also.log in
    let slots : a.slots ≡ b.slots = fun_ext (λ x. sym (holds.cells x) ∙ also.cells x) in
    let tables : a.tables ≡ b.tables = sym holds.tables ∙ ap tables_in same.2 ∙ also.tables in
    let base : a.base ≡ b.base = sym holds.base ∙ ap (λ (h : Header). h.base) same.1 ∙ also.base in
    let before : a.commands_before ≡ b.commands_before = sym holds.commands_before ∙ ap (λ (h : Header). h.commands) same.1 ∙ also.commands_before in
    let records : a.records ≡ b.records = sym holds.members ∙ ap members_of same.2 ∙ also.members in
    λ i. record { slots = slots i; tables = tables i; base = base i; commands_before = before i; records = records i }
