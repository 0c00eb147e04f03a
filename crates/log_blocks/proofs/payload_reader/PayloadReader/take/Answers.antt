use Rattle.std.proofs.Common.{◌≤◌, ◌+◌, ◌++◌, ℕ, List, length, take, drop, sym, subst}
use Rattle.std.proofs.lemmas.List.{drop-drop}
use Rattle.log_blocks.specs.Payloads.{PayloadReaderView, IsInLog}
use Rattle.log_blocks.proofs.Reader.{in_log_taken}
use Rattle.log_blocks.proofs.payload_reader.PayloadReader.take.Goals as goal

pub returns-clause-read : goal.returns-clause-read
returns-clause-read c file payloads passed taken later is =
    let r = c.self.inside in
    let n = c.args.n in
    let with_bytes : List ℕ → PayloadReaderView = λ (bytes : List ℕ). record { file = r.file; size = r.size; bytes = bytes; place = r.place; left = r.left } in
    let it = with_bytes (drop r.taken r.bytes.items) in
    let within : n ≤ length it.bytes = subst (λ (v : PayloadReaderView). n ≤ length v.bytes) (sym c.self.view_is) c.requires in
    let stands : IsInLog file it payloads passed taken later = subst (λ (v : PayloadReaderView). IsInLog file v payloads passed taken later) (sym c.self.view_is) is in
    subst (λ (v : PayloadReaderView). IsInLog file (with_bytes (drop (r.taken + n) r.bytes.items)) payloads passed (taken ++ take n v.bytes) later) c.self.view_is
    (subst (λ (l : List ℕ). IsInLog file (with_bytes l) payloads passed (taken ++ take n it.bytes) later) (drop-drop n r.taken r.bytes.items)
    (in_log_taken file it payloads passed taken later n within stands))
