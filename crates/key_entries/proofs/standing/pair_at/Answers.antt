use Rattle.std.proofs.Common.{◌≡◌, ℕ, ◌+◌, ◌-◌, List, length, take, drop, sym, ap, ◌∙◌, arith}
use Rattle.oper_core.specs.LittleEndian.{slice_from}
use Rattle.key_entries.specs.Short.{short_code}
use Rattle.key_entries.specs.Entries.{short_field}
use Rattle.key_entries.proofs.OneByOne.{entry_read}
use Rattle.key_entries.proofs.standing.pair_at.Goals as goal

pub returns-clause-value : goal.returns-clause-value
returns-clause-value c =
    let bytes : List ℕ = c.args.bytes.now in
    let key : List ℕ = c.in_ok-key.key.now in
    let k : ℕ = 1 + length key in
    let size : k ≡ length (short_code key) = omega arith in
    sym (entry_read short_field bytes (take (length bytes - k) (drop k bytes)) key c.in_ok-value.value.now (sym c.in_ok-key.ensures.value) (slice_from k bytes ∙ ap (λ (n : ℕ). drop n bytes) size) (sym c.in_ok-value.ensures.value))
