use Rattle.std.proofs.Common.{◌≡◌, ◌+◌, ◌-◌, ℕ, List, length, drop, take, ◌∙◌, ap, arith}
use Rattle.disk_model.specs.Padded.{padded}
use Rattle.disk_model.specs.declared.machine.FileNo.TheVariants.{Objects}
use Rattle.stable_objects.proofs.HeadBytes.{part_read}
use Rattle.stable_objects.proofs.window.Window.head_at.Goals as goal

pub returns-clause-head : goal.returns-clause-head
returns-clause-head g c files agree =
    let window = c.reach.new.self in
    let from = c.in_ok-from.from in
    let there = c.in_ok-from.ensures.within in
    let file = files Objects in
    let bytes = window.bytes.items in
    let same : bytes ≡ padded file window.place (length bytes) = c.in_ok-from.ensures.shows.same files agree in
    let count : from + 13 - from ≡ 13 = omega arith in
    c.copy_from_slice.ensures.after ∙ ap (λ (l : List ℕ). take (from + 13 - from) (drop from l)) c.deref.ensures.value ∙ ap (λ (n : ℕ). take n (drop from bytes)) count ∙ part_read file bytes window.place from 13 same there.1 ∙ ap (λ (p : ℕ). padded file p 13) there.0
