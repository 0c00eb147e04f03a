use Rattle.std.proofs.Common.{◌≤◌, ◌++◌, ◌∙◌, ℕ, List, drop, ap, sym, subst, arith}
use Rattle.oper_core.specs.LittleEndian.{slice_from}
use Rattle.disk_model.specs.Disk.{read_of}
use Rattle.log_blocks.specs.Payloads.{PayloadReaderView, IsInLog}
use Rattle.log_blocks.proofs.Reader.{in_log_more}
use Rattle.log_blocks.proofs.payload_reader.PayloadReader.read_more.Goals as goal

pub returns-clause-read : goal.returns-clause-read
returns-clause-read g c files agree payloads passed taken later is =
    let r = c.self.inside in
    let it : PayloadReaderView = record { file = r.file; size = r.size; bytes = drop r.taken r.bytes.items; place = r.place; left = r.left } in
    let stands : IsInLog (files it.file) it payloads passed taken later = subst (λ (v : PayloadReaderView). IsInLog (files v.file) v payloads passed taken later) (sym c.self.view_is) is in
    let some : c.min-count.result ≤ r.left = omega (arith, c.min-count.ensures) in
    let bytes = c.in_ok-self-inside.ensures.bytes files agree (omega (arith, stands.within, some)) in
    in_log_more (files r.file) it payloads passed taken later c.in_ok-self-inside.field-0.items c.min-count.result some
    (bytes ∙ ap (λ (l : List ℕ). l ++ read_of (files r.file) r.place c.min-count.result) (slice_from r.taken c.deref.result.now ∙ ap (drop r.taken) c.deref.ensures.value)) stands
