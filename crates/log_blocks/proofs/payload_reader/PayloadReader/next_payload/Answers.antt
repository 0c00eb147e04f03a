use Rattle.std.proofs.Common.{◌≡◌, ◌<◌, ◌≤◌, ◌+◌, ◌-◌, ◌^◌, ℕ, length, drop, sym, subst, arith, length-drop, Option}
use Rattle.std.specs.Prelude.{IfSome}
use Rattle.std.proofs.lemmas.Result.{err_from_is_err_and}
use Rattle.log_blocks.specs.Payloads.{PayloadReaderView, IsInLog, IsNoLog, remaining}
use Rattle.log_blocks.specs.Reading.{FoundAt, fails_on}
use Rattle.log_blocks.proofs.Reader.{in_log_end, in_log_next, in_log_whole}
use Rattle.log_blocks.proofs.payload_reader.PayloadReader.next_payload.Goals as goal

pub returns-in_err-len-clause-cause : goal.returns-in_err-len-clause-cause
returns-in_err-len-clause-cause g c =
    let new = g.M.Machine.disk c.open_block.new.machine in
    let r = c.self.inside in
    let it : PayloadReaderView = record { file = r.file; size = r.size; bytes = drop r.taken r.bytes.items; place = r.place; left = r.left } in
    let through : remaining it ≡ 0 = subst (λ (v : PayloadReaderView). remaining v ≡ 0) (sym c.self.view_is) c.requires.through in
    let p = err_from_is_err_and c.from_residual.result c.from_residual.ensures.1 in
    rw (p.1, p.2) (fails_on _ _ _ _ c.in_err-len.field-0.0 (λ risen. risen)
    (λ f place there. subst (λ (v : PayloadReaderView). IsNoLog new v f place) c.self.view_is (
      there.0,
      λ files agree payloads passed taken later stands. in_log_whole (files r.file) it payloads passed taken later through stands (there.2 files agree stands.size),
    )) c.in_err-len.ensures.cause)

pub returns-in_default-clause-next : goal.returns-in_default-clause-next
returns-in_default-clause-next g c files agree payloads passed taken later is =
    let r = c.self.inside in
    let it : PayloadReaderView = record { file = r.file; size = r.size; bytes = drop r.taken r.bytes.items; place = r.place; left = r.left } in
    let through : remaining it ≡ 0 = subst (λ (v : PayloadReaderView). remaining v ≡ 0) (sym c.self.view_is) c.requires.through in
    let stands : IsInLog (files it.file) it payloads passed taken later = subst (λ (v : PayloadReaderView). IsInLog (files v.file) v payloads passed taken later) (sym c.self.view_is) is in
    let found = c.in_ok-len.ensures.found files agree stands.size in
    in_log_end (files r.file) it payloads passed taken later through stands (subst (λ (o : Option ℕ). FoundAt (r.place + r.left) (files r.file) o) c.in_default.is found)

pub invariant_of-self : goal.invariant_of-self
invariant_of-self g c =
    let r = c.self.inside in
    let it : PayloadReaderView = record { file = r.file; size = r.size; bytes = drop r.taken r.bytes.items; place = r.place; left = r.left } in
    let through : remaining it ≡ 0 = subst (λ (v : PayloadReaderView). remaining v ≡ 0) (sym c.self.view_is) c.requires.through in
    let none : length r.bytes.items - r.taken ≡ 0 = omega (arith, through, length-drop r.taken r.bytes.items) in
    let within = subst (λ (o : Option ℕ). IfSome o (λ len. r.place + r.left + 5 + len < r.size)) c.in-Some.is c.in_ok-len.ensures.within in
    let whole = subst (λ (o : Option ℕ). IfSome o (λ len. (0 < len) × (len ≤ 2 ^ 30))) c.in-Some.is c.in_ok-len.ensures.whole in
    record {
      within = c.self.invariant.within;
      short = omega (arith, none, whole.1);
      behind = omega (arith, none);
      gate = omega (arith, within);
    }

pub returns-clause-next : goal.returns-clause-next
returns-clause-next g c files agree payloads passed taken later is =
    let r = c.self.inside in
    let it : PayloadReaderView = record { file = r.file; size = r.size; bytes = drop r.taken r.bytes.items; place = r.place; left = r.left } in
    let through : remaining it ≡ 0 = subst (λ (v : PayloadReaderView). remaining v ≡ 0) (sym c.self.view_is) c.requires.through in
    let stands : IsInLog (files it.file) it payloads passed taken later = subst (λ (v : PayloadReaderView). IsInLog (files v.file) v payloads passed taken later) (sym c.self.view_is) is in
    let found = c.in_ok-len.ensures.found files agree stands.size in
    in_log_next (files r.file) it payloads passed taken later through stands c.in-Some.len (subst (λ (o : Option ℕ). FoundAt (r.place + r.left) (files r.file) o) c.in-Some.is found)
