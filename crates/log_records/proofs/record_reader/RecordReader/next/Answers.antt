use Rattle.std.proofs.Common.{◌≡◌, ◌<◌, ◌++◌, ◌∙◌, ◌∷◌, [], Bool, sym, ap, subst, arith}
use Rattle.disk_model.specs.Moments.{agreed_before}
use Rattle.disk_model.specs.declared.machine.FileNo.{FileNo}
use Rattle.oper_core.specs.declared.bounds.Bounds.{Bounds}
use Rattle.formats.specs.Records.{record_code}
use Rattle.log_blocks.specs.Payloads.{IsInLog, remaining}
use Rattle.log_records.specs.BlockReader.{GoesOn}
use Rattle.log_records.specs.Loading.{IsTailFault}
use Rattle.log_records.specs.RecordReader.{RecordReaderView, IsReading, HasGoneOn}
use Rattle.log_records.proofs.Blocks.{takes_record}
use Rattle.log_records.proofs.Passing.{reading_searched, reading_more, reading_broken}
use Rattle.log_records.proofs.record_reader.RecordReader.next.Goals as goal

pub returns-in_default-clause-cause : goal.returns-in_default-clause-cause
returns-in_default-clause-cause g c log records is =
    let mid = g.M.Machine.disk c.go_on.new.m in
    let new = g.M.Machine.disk c.find_record.new.m in
    let r = c.self.inside in
    let m = g.O.Oper.meaning r.bounds in
    let it : RecordReaderView = record { bounds = r.bounds; base = r.base; next = r.next; payloads = r.payloads } in
    let searched = c.find_record.new.payloads in
    let bounds : r.bounds ≡ c.args.self.now.bounds = ap (λ (v : RecordReaderView). v.bounds) (c.self.view_is ∙ c.go_on.ensures.same) in
    let went = subst (λ (more : Bool). HasGoneOn (g.O.Oper.meaning c.args.self.now.bounds) mid log c.go_on.new.self records more) c.if-not-branch.false (c.in_ok-go_on.ensures.read log records is) in
    let found = reading_searched g.O.Oper.meaning c.args.self.now.bounds r.bounds mid new log c.go_on.new.self it searched records c.self.view_is bounds c.find_record.ensures.kept went c.find_record.ensures.file c.in_ok-found.ensures.read in
    let none = rw c.in_default.is at c.in_ok-found.ensures.none in
    let more = c.in_ok-go_on.ensures.some c.if-not-branch.false in
    let some : 0 < remaining searched = omega (arith, more.0, c.in_ok-found.ensures.all.0, ap (λ (v : RecordReaderView). remaining v.payloads) c.self.view_is) in
    subst (λ (b : Bounds). IsTailFault (g.O.Oper.meaning b) new log c.file.result c.place.result) bounds
    (reading_broken m new log (record it { payloads = searched }) records c.file.result c.place.result found none.0 some none.1 c.file.ensures c.place.ensures)

pub returns-clause-read : goal.returns-clause-read
returns-clause-read g c log records is =
    let mid = g.M.Machine.disk c.go_on.new.m in
    let new = g.M.Machine.disk c.find_record.new.m in
    let r = c.self.inside in
    let m = g.O.Oper.meaning r.bounds in
    let it : RecordReaderView = record { bounds = r.bounds; base = r.base; next = r.next; payloads = r.payloads } in
    let searched = c.find_record.new.payloads in
    let found = c.in-Some.record in
    let bounds : r.bounds ≡ c.args.self.now.bounds = ap (λ (v : RecordReaderView). v.bounds) (c.self.view_is ∙ c.go_on.ensures.same) in
    let went = subst (λ (more : Bool). HasGoneOn (g.O.Oper.meaning c.args.self.now.bounds) mid log c.go_on.new.self records more) c.if-not-branch.false (c.in_ok-go_on.ensures.read log records is) in
    let reading = reading_searched g.O.Oper.meaning c.args.self.now.bounds r.bounds mid new log c.go_on.new.self it searched records c.self.view_is bounds c.find_record.ensures.kept went c.find_record.ensures.file c.in_ok-found.ensures.read in
    let some = rw c.in-Some.is at c.in_ok-found.ensures.some in
    let file = ap (λ v. v.file) c.take.ensures.took in
    let behind = c.next_behind-self-inside.ensures m r.base some.1 in
    let last = reading_more m new log (record it { payloads = searched }) c.take.new.self records found c.in-Some.length c.next_behind-self-inside.result reading some.0 some.1 some.2 some.3 behind file c.take.ensures.read in
    let after : RecordReaderView = record { bounds = r.bounds; base = r.base; next = c.next_behind-self-inside.result; payloads = c.take.new.self } in
    subst (λ (b : Bounds). IsReading (g.O.Oper.meaning b) new log after (records ++ found ∷ [])) bounds last

pub returns-then-not-branch-clause-takes : goal.returns-then-not-branch-clause-takes
returns-then-not-branch-clause-takes g c files agree payloads passed taken later empty stands =
    let went = c.go_on.new.self.payloads in
    subst (λ (more : Bool). GoesOn (files went.file) went payloads passed taken more) c.if-not-branch.true (c.in_ok-go_on.ensures.goes_on files agree payloads passed taken later empty stands)

pub returns-clause-takes : goal.returns-clause-takes
returns-clause-takes g c files agree payloads passed taken later empty stands =
    let r = c.self.inside in
    let went = c.go_on.new.self.payloads in
    let searched = c.find_record.new.payloads in
    let moved = c.take.new.self in
    let bounds : r.bounds ≡ c.args.self.now.bounds = ap (λ (v : RecordReaderView). v.bounds) (c.self.view_is ∙ c.go_on.ensures.same) in
    let some = rw c.in-Some.is at c.in_ok-found.ensures.some in
    let on = subst (λ (more : Bool). GoesOn (files went.file) went payloads passed taken more) c.if-not-branch.false
    (c.in_ok-go_on.ensures.goes_on files (agreed_before c.find_record.ensures.kept files agree) payloads passed taken later empty stands) in
    let here = subst (λ (v : RecordReaderView). IsInLog (files v.payloads.file) v.payloads payloads passed taken on.0) (sym c.self.view_is) on.1 in
    let took = c.take.ensures.read (files searched.file) payloads passed taken on.0 (c.in_ok-found.ensures.read files agree payloads passed taken on.0 here) in
    let file = sym (ap (λ v. v.file) c.take.ensures.took) in (
      on.0,
      subst (λ (b : Bounds). IsInLog (files moved.file) moved payloads passed (taken ++ record_code (g.O.Oper.meaning b) c.in-Some.record) on.0) bounds
          (subst (λ (f : FileNo). IsInLog (files f) moved payloads passed (taken ++ record_code (g.O.Oper.meaning r.bounds) c.in-Some.record) on.0) file
          (takes_record (g.O.Oper.meaning r.bounds) (files searched.file) searched moved payloads passed taken on.0 c.in-Some.record c.in-Some.length some.0 some.2 took)),
    )
