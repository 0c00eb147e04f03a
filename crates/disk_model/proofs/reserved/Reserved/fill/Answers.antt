use Rattle.std.proofs.Common.{◌≡◌, ◌∙◌, length, drop, replicate, arith, Result, Ok, Err}
use Rattle.std.specs.Prelude.{IsOk, OnOk}
use Rattle.std.proofs.lemmas.List.{take_at}
use Rattle.disk_model.proofs.Lengthened.{put_over}
use Rattle.disk_model.proofs.reserved.Reserved.fill.Goals as goal

from_ok : {T E P : Type 0} (r : Result T E) → IsOk r → OnOk r P → P
from_ok (Ok x) ok p = p
from_ok (Err e) ok p = cc

pub returns-clause-bytes : goal.returns-clause-bytes
returns-clause-bytes c =
    let into = c.lengthen.new.into in
    let whole : length c.fill_range.new.into ≡ into.len = omega (arith, c.fill_range.auto.into, c.as_mut_slice.ensures.len) in
    take_at c.fill_range.new.into (drop (length c.fill_range.new.into) into.items) into.len whole
    ∙ put_over c.args.byte c.args.at c.args.count c.args.self.now.bytes.items (replicate c.args.count c.args.byte) c.as_mut_slice.result.now c.fill_range.new.into (c.as_mut_slice.ensures.value ∙ from_ok c.lengthen.result (c.lengthen.ensures.room (omega (arith, c.requires, c.args.self.now.room))) c.lengthen.ensures.ok) c.fill_range.ensures
