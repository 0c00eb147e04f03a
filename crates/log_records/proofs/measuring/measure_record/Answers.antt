use Rattle.std.proofs.Common.{◌∙◌, ◌+◌, ◌++◌, ◌∷◌, ℕ, refl, sym, ap, arith}
use Rattle.log_records.specs.Measuring.{block_lengths}
use Rattle.log_records.proofs.Measures.{measured_kept, measured_passed}
use Rattle.log_records.proofs.measuring.measure_record.Goals as goal

pub count_record-requires-clause-short : goal.count_record-requires-clause-short
count_record-requires-clause-short g c = omega (arith, c.code_length.ensures c.requires.short.0, c.requires.short.1)

pub returns-then-is_from_lsn : goal.returns-then-is_from_lsn
returns-then-is_from_lsn g c b records was =
    let old = c.args.so_far.now in
    measured_kept (g.O.Oper.meaning b) c.args.base records c.args.it.now old (record { commands = old.commands; full = c.count_record.new.found; filled = c.count_record.new.filled }) was
    (sym c.is_from_lsn.ensures ∙ c.if-is_from_lsn.true) refl (omega (arith, c.in_ok-count_record.ensures.filled.0, c.code_length.ensures b)) c.in_ok-count_record.ensures.filled.1
    (λ rest. ap (λ (k : ℕ). old.full.items ++ block_lengths old.filled (k ∷ rest)) (sym (c.code_length.ensures b)) ∙ c.in_ok-count_record.ensures.counted rest)

pub returns : goal.returns
returns g c b records was =
    let old = c.args.so_far.now in
    measured_passed (g.O.Oper.meaning b) c.args.base records c.args.it.now old (record { commands = old.commands + c.commands_in.result; full = old.full; filled = old.filled }) was
    (sym c.is_from_lsn.ensures ∙ c.if-is_from_lsn.false) (ap (λ (k : ℕ). old.commands + k) c.commands_in.ensures.value) refl refl
