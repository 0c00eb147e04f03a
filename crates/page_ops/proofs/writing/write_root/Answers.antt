use Rattle.std.proofs.Common.{ℕ, List, [], ◌∷◌, ◌++◌, length, ap, ◌∙◌, refl}
use Rattle.byteorder.specs.Endian.{little_bytes}
use Rattle.page_ops.proofs.Appended.{next, tagged}
use Rattle.page_ops.proofs.writing.write_root.Goals as goal

pub returns-clause-ok : goal.returns-clause-ok
returns-clause-ok c =
    let old : List ℕ = c.args.out.now.items in
    let at0 = tagged old c.reserve.new.self.items c.push.new.self.items 30 c.in_ok-reserve.ensures.items c.in_ok-push.ensures.items in
    let b0 : List ℕ = 30 ∷ [] in
    let at1 = next old b0 c.push.new.self.items c.extend_from_slice.new.self.items (c.to_le_bytes.result) (little_bytes 4 c.args.page) at0 c.in_ok-extend_from_slice.ensures.items (c.to_le_bytes.ensures) in
    let b1 : List ℕ = b0 ++ (little_bytes 4 c.args.page) in
    let at2 = next old b1 c.extend_from_slice.new.self.items c.push-2.new.self.items (c.args.level ∷ []) (c.args.level ∷ []) at1 c.in_ok-push-2.ensures.items refl in
    let b2 : List ℕ = b1 ++ (c.args.level ∷ []) in
    let at3 = next old b2 c.push-2.new.self.items c.extend_from_slice-2.new.self.items (c.to_le_bytes-2.result) (little_bytes 4 c.args.left) at2 c.in_ok-extend_from_slice-2.ensures.items (c.to_le_bytes-2.ensures) in
    let b3 : List ℕ = b2 ++ (little_bytes 4 c.args.left) in
    let at4 = next old b3 c.extend_from_slice-2.new.self.items c.extend_from_slice-3.new.self.items (c.to_le_bytes-3.result) (little_bytes 2 (length c.args.key.now)) at3 c.in_ok-extend_from_slice-3.ensures.items (c.to_le_bytes-3.ensures ∙ ap (λ (l : List ℕ). little_bytes 2 (length l)) c.as_slice-key.ensures.value) in
    let b4 : List ℕ = b3 ++ (little_bytes 2 (length c.args.key.now)) in
    let at5 = next old b4 c.extend_from_slice-3.new.self.items c.extend_from_slice-4.new.self.items (c.as_slice-key.result.now) (c.args.key.now) at4 c.in_ok-extend_from_slice-4.ensures.items (c.as_slice-key.ensures.value) in
    let b5 : List ℕ = b4 ++ (c.args.key.now) in
    next old b5 c.extend_from_slice-4.new.self.items c.extend_from_slice-5.new.self.items (c.to_le_bytes-4.result) (little_bytes 4 c.args.right) at5 c.in_ok-extend_from_slice-5.ensures.items (c.to_le_bytes-4.ensures)
