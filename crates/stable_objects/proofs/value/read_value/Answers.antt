use Rattle.std.proofs.Common.{◌≡◌, ◌+◌, ◌∙◌, ℕ, length, refl, ap}
use Rattle.disk_model.specs.Disk.{read_of}
use Rattle.disk_model.specs.Moments.{agreed_before}
use Rattle.disk_model.specs.declared.machine.FileNo.TheVariants.{Objects}
use Rattle.stable_objects.proofs.ValueBytes.{length_read, value_cut, value_read}
use Rattle.stable_objects.proofs.value.read_value.Goals as goal

pub returns-then-read-long-clause-cause : goal.returns-then-read-long-clause-cause
returns-then-read-long-clause-cause g c = rw c.damaged_at-then-read-long.ensures (
  refl,
  λ files agree.
      let file = files Objects in
      let n = c.read_u32-long.result in
      let is = c.read_u32-long.ensures ∙ length_read file c.read_padded.new.into c.args.place (c.in_ok-read_padded.ensures.bytes files (agreed_before c.read.ensures.kept files agree)) in
      let given : length c.as_mut_slice.result.now ≡ n = c.as_mut_slice.ensures.len ∙ c.in_ok-resize.ensures.len in
      let count = c.in_ok-read.ensures.count files agree ∙ ap (λ (k : ℕ). length (read_of file (c.args.place + 13) k)) given in
      value_cut file c.args.cap c.args.place n c.in_ok-read.read is count c.if-read-long.true,
)

pub returns-clause-value : goal.returns-clause-value
returns-clause-value g c files agree =
    let file = files Objects in
    let n = c.read_u32-long.result in
    let is = c.read_u32-long.ensures ∙ length_read file c.read_padded.new.into c.args.place (c.in_ok-read_padded.ensures.bytes files (agreed_before c.read.ensures.kept files agree)) in
    let given : length c.as_mut_slice.result.now ≡ n = c.as_mut_slice.ensures.len ∙ c.in_ok-resize.ensures.len in
    let bytes = c.in_ok-read.ensures.bytes files agree ∙ ap (λ (k : ℕ). read_of file (c.args.place + 13) k) given in
    value_read file c.read.new.into c.resize.new.self.items c.args.place n c.resize.new.self.len c.in_ok-read.read is bytes (c.read.auto.into ∙ given) c.if-read-long.false c.in_ok-resize.ensures.len
