use Rattle.std.proofs.Common.{◌≡◌, ◌∙◌, ◌+◌, ◌-◌, ◌++◌, ℕ, ap, length, drop, replicate, arith}
use Rattle.std.proofs.lemmas.List.{take_at}
use Rattle.disk_model.proofs.Lengthened.{put_over}
use Rattle.disk_model.proofs.overwriting.overwrite.Goals as goal

pub returns-clause-ok : goal.returns-clause-ok
returns-clause-ok c =
    let old = c.args.into.now.items in
    let into = c.lengthen.new.into in
    let whole : length c.copy_into.new.into ≡ into.len = omega (arith, c.copy_into.auto.into, c.as_mut_slice.ensures.len) in
    let end_is : c.in-Some.end ≡ c.args.at + length c.args.bytes.now = omega (arith, c.in-Some.ensures) in
    take_at c.copy_into.new.into (drop (length c.copy_into.new.into) into.items) into.len whole
    ∙ put_over 0 c.args.at (length c.args.bytes.now) old c.args.bytes.now c.as_mut_slice.result.now c.copy_into.new.into
    (c.as_mut_slice.ensures.value ∙ c.in_ok-lengthen.ensures.ok ∙ ap (λ (n : ℕ). old ++ replicate (n - length old) 0) end_is) c.copy_into.ensures
