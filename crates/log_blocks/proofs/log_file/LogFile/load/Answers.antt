use Rattle.std.proofs.Common.{◌≡◌, ◌∙◌, ℕ, List, [], ◌∷◌, ◌++◌, ap, drop}
use Rattle.std.proofs.lemmas.Result.{err_from_is_err_and}
use Rattle.disk_model.specs.Disk.{Files}
use Rattle.disk_model.specs.Moments.{agreed_before, stays_here, stays_twice}
use Rattle.disk_model.specs.declared.machine.FileNo.TheVariants.{LogA, LogB}
use Rattle.log_blocks.specs.Choosing.{IsChosen}
use Rattle.log_blocks.specs.Laws.{no_first_log_fault}
use Rattle.log_blocks.specs.Reading.{fails_on, none_told, header_of}
use Rattle.log_blocks.proofs.Choosing.{file_is, inside_of, by_first, by_second, by_block, whole_chosen}
use Rattle.log_blocks.proofs.log_file.LogFile.load.Goals as goal

pub returns-in_err-a-clause-cause : goal.returns-in_err-a-clause-cause
returns-in_err-a-clause-cause g c =
    let old = g.M.Machine.disk c.args.machine.now in
    let p = err_from_is_err_and c.from_residual.result c.from_residual.ensures.1 in
    rw (p.1, p.2) (by_first old old (g.M.Machine.disk c.read_header.new.machine) (stays_here old (g.met.M.Machine.lawful c.args.machine.now)) c.in_err-a.field-0.0 c.in_err-a.ensures.cause)

pub returns-in_err-b-clause-cause : goal.returns-in_err-b-clause-cause
returns-in_err-b-clause-cause g c =
    let old = g.M.Machine.disk c.args.machine.now in
    let p = err_from_is_err_and c.from_residual-in_err-b.result c.from_residual-in_err-b.ensures.1 in
    rw (p.1, p.2) (by_second old (g.M.Machine.disk c.read_header.new.machine) (g.M.Machine.disk c.read_header-2.new.machine) c.read_header.ensures.kept c.in_err-b.field-0.0 c.in_ok-a.a c.read_header-2.ensures.kept c.in_ok-a.ensures.seen c.in_err-b.ensures.cause)

pub returns-in_err-a-clause-undamaged : goal.returns-in_err-a-clause-undamaged
returns-in_err-a-clause-undamaged g c files agree active header payloads is =
    let old = g.M.Machine.disk c.args.machine.now in
    let p = err_from_is_err_and c.from_residual.result c.from_residual.ensures.1 in
    rw (p.1, p.2) (none_told _ _ c.in_err-a.field-0.0 (λ f place fault. no_first_log_fault active header payloads files f place is (fault files agree))
    (by_first old old (g.M.Machine.disk c.read_header.new.machine) (stays_here old (g.met.M.Machine.lawful c.args.machine.now)) c.in_err-a.field-0.0 c.in_err-a.ensures.cause))

pub returns-in_err-b-clause-undamaged : goal.returns-in_err-b-clause-undamaged
returns-in_err-b-clause-undamaged g c files agree active header payloads is =
    let old = g.M.Machine.disk c.args.machine.now in
    let p = err_from_is_err_and c.from_residual-in_err-b.result c.from_residual-in_err-b.ensures.1 in
    rw (p.1, p.2) (none_told _ _ c.in_err-b.field-0.0 (λ f place fault. no_first_log_fault active header payloads files f place is (fault files agree))
    (by_second old (g.M.Machine.disk c.read_header.new.machine) (g.M.Machine.disk c.read_header-2.new.machine) c.read_header.ensures.kept c.in_err-b.field-0.0 c.in_ok-a.a c.read_header-2.ensures.kept c.in_ok-a.ensures.seen c.in_err-b.ensures.cause))

pub returns-in_err-seen-clause-undamaged : goal.returns-in_err-seen-clause-undamaged
returns-in_err-seen-clause-undamaged g c files agree active header payloads is =
    let a = c.in_ok-a.ensures.seen files (agreed_before c.read_header-2.ensures.kept files agree) in
    let p = err_from_is_err_and c.from_residual-in_err-seen.result c.from_residual-in_err-seen.ensures.1 in
    rw (p.1, p.2) (none_told _ _ c.in_err-seen.field-0.0 (λ f place fault. no_first_log_fault active header payloads files f place is (fault files a (c.in_ok-b.ensures.seen files agree))) c.in_err-seen.ensures.cause)

pub returns-in_err-seen-clause-cause : goal.returns-in_err-seen-clause-cause
returns-in_err-seen-clause-cause g c =
    let p = err_from_is_err_and c.from_residual-in_err-seen.result c.from_residual-in_err-seen.ensures.1 in
    rw (p.1, p.2) (fails_on _ _ _ _ c.in_err-seen.field-0.0 (λ never. absurd never)
    (λ f place fault files agree. fault files (c.in_ok-a.ensures.seen files (agreed_before c.read_header-2.ensures.kept files agree)) (c.in_ok-b.ensures.seen files agree)) c.in_err-seen.ensures.cause)

pub returns-in_err-end-clause-cause : goal.returns-in_err-end-clause-cause
returns-in_err-end-clause-cause g c =
    let old = g.M.Machine.disk c.args.machine.now in
    let two = g.M.Machine.disk c.read_header-2.new.machine in
    let second = stays_twice old (g.M.Machine.disk c.read_header.new.machine) two c.read_header.ensures.kept c.read_header-2.ensures.kept in
    let chosen : (files : Files) → two.agrees files → IsChosen files c.in_ok-seen.seen = λ files agree.
    c.in_ok-seen.ensures.chosen files (file_is LogA c.in_ok-a.a c.in_ok-a.ensures.inside) (file_is LogB c.in_ok-b.b c.in_ok-b.ensures.inside)
    (c.in_ok-a.ensures.seen files (agreed_before c.read_header-2.ensures.kept files agree)) (c.in_ok-b.ensures.seen files agree) in
    let p = err_from_is_err_and c.from_residual-in_err-end.result c.from_residual-in_err-end.ensures.1 in
    rw (p.1, p.2) (by_block old two (g.M.Machine.disk c.first_closed.new.machine) second c.in_err-end.field-0.0 c.in_ok-seen.seen c.first_closed.ensures.kept chosen c.in_err-end.ensures.cause)

pub returns-in_err-end-clause-undamaged : goal.returns-in_err-end-clause-undamaged
returns-in_err-end-clause-undamaged g c files agree active header payloads is =
    let old = g.M.Machine.disk c.args.machine.now in
    let two = g.M.Machine.disk c.read_header-2.new.machine in
    let second = stays_twice old (g.M.Machine.disk c.read_header.new.machine) two c.read_header.ensures.kept c.read_header-2.ensures.kept in
    let chosen : (files : Files) → two.agrees files → IsChosen files c.in_ok-seen.seen = λ files agree.
    c.in_ok-seen.ensures.chosen files (file_is LogA c.in_ok-a.a c.in_ok-a.ensures.inside) (file_is LogB c.in_ok-b.b c.in_ok-b.ensures.inside)
    (c.in_ok-a.ensures.seen files (agreed_before c.read_header-2.ensures.kept files agree)) (c.in_ok-b.ensures.seen files agree) in
    let p = err_from_is_err_and c.from_residual-in_err-end.result c.from_residual-in_err-end.ensures.1 in
    rw (p.1, p.2) (none_told _ _ c.in_err-end.field-0.0 (λ f place fault. no_first_log_fault active header payloads files f place is (fault files agree))
    (by_block old two (g.M.Machine.disk c.first_closed.new.machine) second c.in_err-end.field-0.0 c.in_ok-seen.seen c.first_closed.ensures.kept chosen c.in_err-end.ensures.cause))

pub returns-clause-read : goal.returns-clause-read
returns-clause-read g c files agree =
    let seen = c.in_ok-seen.seen in
    let file = files seen.file in
    let then = agreed_before c.first_closed.ensures.kept files agree in
    let chosen = c.in_ok-seen.ensures.chosen files (file_is LogA c.in_ok-a.a c.in_ok-a.ensures.inside) (file_is LogB c.in_ok-b.b c.in_ok-b.ensures.inside)
    (c.in_ok-a.ensures.seen files (agreed_before c.read_header-2.ensures.kept files then)) (c.in_ok-b.ensures.seen files then) in
    let end = c.in_ok-end.ensures.end files agree chosen.size in
    let empty : drop 4 c.extend_from_slice.new.self.items ≡ [] =
    ap (λ (l : List ℕ). drop 4 l) c.in_ok-extend_from_slice.ensures.items ∙ ap (λ (l : List ℕ). drop 4 (l ++ 0 ∷ 0 ∷ 0 ∷ 0 ∷ [])) c.in_ok-buffer.ensures.items in
    let inside = inside_of c.in_ok-a.a c.in_ok-b.b seen c.in_ok-a.ensures.inside c.in_ok-b.ensures.inside c.in_ok-seen.ensures.one in
    (end.payloads, record { in_force = chosen.in_force; log = whole_chosen (header_of seen.header) file c.in_ok-end.end seen.size chosen.header chosen.size inside end }, end.read.here, empty)
