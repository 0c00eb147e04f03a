use Rattle.std.proofs.Common.{◌∷◌, ◌++◌, ◌∙◌}
use Rattle.log_records.proofs.Reading.{five_parts}
use Rattle.log_records.proofs.codec.append_identity.Goals as goal

pub returns-clause-ok : goal.returns-clause-ok
returns-clause-ok c =
    five_parts c.args.out.now.items _ _ _ _ _ _ _ _ _ 2 c.in_ok-push.ensures.items c.in_ok-extend_from_slice.ensures.items c.in_ok-extend_from_slice-2.ensures.items
    c.in_ok-extend_from_slice-3.ensures.items c.in_ok-extend_from_slice-4.ensures.items
    ∙ (λ i. c.args.out.now.items ++ (2 ∷ (c.to_le_bytes.ensures i ++ (c.to_le_bytes-2.ensures i ++ (c.to_le_bytes-3.ensures i ++ c.args.value.now)))))
