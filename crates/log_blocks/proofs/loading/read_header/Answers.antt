use Rattle.std.proofs.Common.{◌≡◌, refl, ◌<◌, ◌∙◌, sym, arith, length}
use Rattle.std.proofs.lemmas.Result.{err_from_is_err_and}
use Rattle.disk_model.specs.Moments.{agreed_before}
use Rattle.formats.specs.FirstFault.{stops, no_bytes, opened}
use Rattle.log_blocks.specs.Reading.{header_of}
use Rattle.log_blocks.proofs.Choosing.{is_empty, closed_read, header_stands, by_header}
use Rattle.log_blocks.proofs.HeaderBytes.{front_stands, opened_by, behind_header}
use Rattle.log_blocks.proofs.loading.read_header.Goals as goal

pub returns-then-size-eq0-clause-cause : goal.returns-then-size-eq0-clause-cause
returns-then-size-eq0-clause-cause g c = (refl, λ files agree. no_bytes (is_empty _ c.in_ok-size.size (c.in_ok-size.ensures.size files agree) c.if-size-eq0.true))

pub returns-then-head-ne-OPEN-clause-seen : goal.returns-then-head-ne-OPEN-clause-seen
returns-then-head-ne-OPEN-clause-seen g c files agree =
    closed_read (files c.args.file) c.read_padded.new.into c.in_ok-size.size (c.in_ok-read_padded.ensures.bytes files agree) c.if-head-ne-OPEN.true
    (c.in_ok-size.ensures.size files (agreed_before c.read_padded.ensures.kept files agree)) c.if-size-eq0.false

pub returns-in_err-header-clause-cause : goal.returns-in_err-header-clause-cause
returns-in_err-header-clause-cause g c =
    let old = g.M.Machine.disk c.args.machine.now in
    let one = g.M.Machine.disk c.size.new.self in
    let two = g.M.Machine.disk c.read_padded.new.machine in
    let p = err_from_is_err_and c.from_residual-in_err-header.result c.from_residual-in_err-header.ensures.1 in
    rw (p.1, p.2) (by_header old one two c.size.ensures.kept c.in_err-header.field-0.0 c.args.file c.read_padded.new.into c.in_ok-read_padded.ensures.bytes c.if-head-ne-OPEN.false c.in_err-header.ensures.cause)

pub returns-then-size-le-FIRST_BLOCK-clause-cause : goal.returns-then-size-le-FIRST_BLOCK-clause-cause
returns-then-size-le-FIRST_BLOCK-clause-cause g c = (
  refl,
  λ files agree.
      let file = files c.args.file in
      let read = c.in_ok-read_padded.ensures.bytes files agree in
      let ok = c.in_ok-header.ensures.ok in
      let long : c.in_ok-size.size ≡ length file = c.in_ok-size.ensures.size files (agreed_before c.read_padded.ensures.kept files agree) in
      opened 33 (opened_by file c.read_padded.new.into read c.if-head-ne-OPEN.false)
      (behind_header file (header_of c.in_ok-header.header) c.read_padded.new.into _ 33 read ok.0 ok.1 (stops refl (λ within. omega (arith, within, long, c.if-size-le-FIRST_BLOCK.true)))),
)

pub returns-clause-seen : goal.returns-clause-seen
returns-clause-seen g c files agree =
    let file = files c.args.file in
    let size = c.in_ok-size.ensures.size files (agreed_before c.read_padded.ensures.kept files agree) in
    let read = c.in_ok-header.ensures.ok in
    let within : 33 < length file = omega (arith, size, c.if-size-le-FIRST_BLOCK.false) in
    let front = sym (front_stands file within) ∙ sym (c.in_ok-read_padded.ensures.bytes files agree) ∙ read.1 in
    (header_stands (header_of c.in_ok-header.header) file read.0 front within, size)
