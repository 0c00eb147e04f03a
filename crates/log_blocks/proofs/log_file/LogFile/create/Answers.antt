use Rattle.std.proofs.Common.{inl, subst, List, ℕ}
use Rattle.disk_model.specs.Disk.{In, HoldsAt}
use Rattle.disk_model.specs.declared.machine.FileNo.TheVariants.{LogA, LogB}
use Rattle.log_blocks.proofs.Alone.{alone_twice, alone_write, new_files}
use Rattle.log_blocks.proofs.log_file.LogFile.create.Goals as goal

pub returns-in_err-close-2-clause-runs : goal.returns-in_err-close-2-clause-runs
returns-in_err-close-2-clause-runs g c = alone_twice _ _ _ (alone_write _ _ LogA _ (λ e. cc) c.close.ensures.runs) (alone_write _ _ LogB _ (λ e. cc) c.close-2.ensures.runs)

pub returns-in_err-write_through-clause-runs : goal.returns-in_err-write_through-clause-runs
returns-in_err-write_through-clause-runs g c =
    let two = alone_twice _ _ _ (alone_write _ _ LogA _ (λ e. cc) c.close.ensures.runs) (alone_write _ _ LogB _ (λ e. cc) c.close-2.ensures.runs) in
    alone_twice _ _ _ two (alone_write _ _ LogA _ (λ e. cc) c.write_through.ensures.runs)

pub returns-in_err-write_through-2-clause-runs : goal.returns-in_err-write_through-2-clause-runs
returns-in_err-write_through-2-clause-runs g c =
    let two = alone_twice _ _ _ (alone_write _ _ LogA _ (λ e. cc) c.close.ensures.runs) (alone_write _ _ LogB _ (λ e. cc) c.close-2.ensures.runs) in
    let three = alone_twice _ _ _ two (alone_write _ _ LogA _ (λ e. cc) c.write_through.ensures.runs) in
    alone_twice _ _ _ three (alone_write _ _ LogA _ (λ e. cc) c.write_through-2.ensures.runs)

pub returns-clause-runs : goal.returns-clause-runs
returns-clause-runs g c =
    let two = alone_twice _ _ _ (alone_write _ _ LogA _ (λ e. cc) c.close.ensures.runs) (alone_write _ _ LogB _ (λ e. cc) c.close-2.ensures.runs) in
    let three = alone_twice _ _ _ two (alone_write _ _ LogA _ (λ e. cc) c.write_through.ensures.runs) in
    alone_twice _ _ _ three (alone_write _ _ LogA _ (λ e. cc) c.write_through-2.ensures.runs)

pub returns-in_err-close-clause-runs : goal.returns-in_err-close-clause-runs
returns-in_err-close-clause-runs g c = alone_write _ _ LogA _ (λ e. cc) c.close.ensures.runs

pub returns-clause-made : goal.returns-clause-made
returns-clause-made g c told =
    let one_told = c.close.ensures.runs.time.files_told.0 told in
    let two_told = c.close-2.ensures.runs.time.files_told.0 one_told in
    let three_told = c.write_through.ensures.runs.time.files_told.0 two_told in
    let first = subst (λ (b : List ℕ). In LogA (HoldsAt 1 b) (g.M.Machine.disk c.close-2.new.machine).reads (g.M.Machine.disk c.write_through.new.machine).reads) c.new_front.ensures (c.in_ok-write_through.ensures.written two_told) in
    let both = new_files _ _ _ _ (c.in_ok-close.ensures.closed told) (c.close-2.ensures.runs.reads one_told).others (c.in_ok-close-2.ensures.closed one_told) first (c.in_ok-write_through-2.ensures.written three_told) in
    record { in_force = record { a_log = λ e. cc; other = inl both.1 }; log = both.0 }
