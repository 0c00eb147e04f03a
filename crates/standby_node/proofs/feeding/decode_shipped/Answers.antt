use Rattle.std.proofs.Common.{◌≡◌, ℕ, List, length, subst}
use Rattle.std.specs.Prelude.{IfNone, IfSome}
use Rattle.std.proofs.lemmas.Bool.{both_ways}
use Rattle.oper_core.specs.Meaning.{Meaning}
use Rattle.formats.specs.Records.{record_code}
use Rattle.formats.specs.declared.record.Record.{Record}
use Rattle.log_records.specs.Codec.{StartsWithRecord}
use Rattle.execution.specs.Following.{HasLsn}
use Rattle.standby_node.proofs.feeding.decode_shipped.Goals.{in-Some+else-has_lsn+in-Command-1, in-Some+else-has_lsn+in-Identity-1, in-Some+else-has_lsn+in-Checkpoint-1, in_default}
use Rattle.standby_node.proofs.feeding.decode_shipped.Goals as goal

-- what is said of a record that was found
abbrev SaysPair : {O : Type 0} → Meaning O → List ℕ → Record O × ℕ → Type 0
SaysPair m bytes pair = StartsWithRecord m bytes pair.0 × (pair.1 ≡ length (record_code m pair.0))

-- and where none was
abbrev BeginsNone : {O : Type 0} → Meaning O → List ℕ → Type 0
BeginsNone {O} m bytes = (other : Record O) → StartsWithRecord m bytes other → ⊥

pub returns-clause-none : goal.returns-clause-none
returns-clause-none g c r starts with_lsn =
    let b = c.args.b in
    let bytes = c.args.bytes.now in
    elim c.match-branch-2.branch [
      | in-Some+else-has_lsn+in-Command-1 w ↦
          let some = subst (λ o. IfSome o (SaysPair (g.O.Oper.meaning b) bytes)) w.in-Some.is c.in_ok-logged.ensures.some in
          both_ways _ w.if-has_lsn.false (w.has_lsn.ensures.1 (subst HasLsn (c.one_record.ensures b bytes r _ c.requires.small starts some.0) with_lsn))
      | in-Some+else-has_lsn+in-Identity-1 w ↦
          let some = subst (λ o. IfSome o (SaysPair (g.O.Oper.meaning b) bytes)) w.in-Some.is c.in_ok-logged.ensures.some in
          both_ways _ w.if-has_lsn.false (w.has_lsn.ensures.1 (subst HasLsn (c.one_record.ensures b bytes r _ c.requires.small starts some.0) with_lsn))
      | in-Some+else-has_lsn+in-Checkpoint-1 w ↦
          let some = subst (λ o. IfSome o (SaysPair (g.O.Oper.meaning b) bytes)) w.in-Some.is c.in_ok-logged.ensures.some in
          both_ways _ w.if-has_lsn.false (w.has_lsn.ensures.1 (subst HasLsn (c.one_record.ensures b bytes r _ c.requires.small starts some.0) with_lsn))
      | in_default w ↦ subst (λ o. IfNone o (BeginsNone (g.O.Oper.meaning b) bytes)) w.in_default.is c.in_ok-logged.ensures.none r starts
    ]
