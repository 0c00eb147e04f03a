use Rattle.std.proofs.Common.{◌∙◌, inl, inr, refl, arith}
use Rattle.stable_objects.specs.Heads.{no_lsn, too_long}
use Rattle.stable_objects.proofs.HeadBytes.{number_behind}
use Rattle.stable_objects.proofs.heads.parse_head.Goals as goal

pub returns-then-lsn-eq0-clause-cause : goal.returns-then-lsn-eq0-clause-cause
returns-then-lsn-eq0-clause-cause c =
    let is = c.read_u64-lsn.ensures ∙ number_behind 8 1 c.args.head.now (omega (arith, c.requires.long)) in
    rw c.damaged_at.ensures (refl, no_lsn c.if-head-ne-OPEN.false (λ within. elim c.then-lsn-eq0.either [ inl none ↦ omega (arith, is, within.0, none) | inr more ↦ omega (arith, is, within.1, more.1) ]))

pub returns-then-long-cap-clause-cause : goal.returns-then-long-cap-clause-cause
returns-then-long-cap-clause-cause c =
    let is = c.read_u32-long.ensures ∙ number_behind 4 9 c.args.head.now (omega (arith, c.requires.long)) in
    let lsn = c.read_u64-lsn.ensures ∙ number_behind 8 1 c.args.head.now (omega (arith, c.requires.long)) in
    rw c.damaged_at-then-long-cap.ensures (refl, too_long c.if-head-ne-OPEN.false (omega (arith, lsn, c.if-lsn-eq0.false), omega (arith, lsn, c.if-lsn-ge-LSN_END.false)) (λ short within. omega (arith, is, short, c.if-long-cap.true)))

pub returns-then-size-place-clause-cause : goal.returns-then-size-place-clause-cause
returns-then-size-place-clause-cause c =
    let is = c.read_u32-long.ensures ∙ number_behind 4 9 c.args.head.now (omega (arith, c.requires.long)) in
    let lsn = c.read_u64-lsn.ensures ∙ number_behind 8 1 c.args.head.now (omega (arith, c.requires.long)) in
    rw c.damaged_at-then-size-place.ensures (refl, too_long c.if-head-ne-OPEN.false (omega (arith, lsn, c.if-lsn-eq0.false), omega (arith, lsn, c.if-lsn-ge-LSN_END.false)) (λ short within. omega (arith, is, within (omega (arith, is, c.if-long-ne0.true)), c.if-size-place.true)))
