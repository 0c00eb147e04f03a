use Rattle.std.proofs.Common.{◌≡◌, ℕ, ◌+◌, ◌-◌, List, length, take, drop, sym, ap, ◌∙◌, arith, None, Some, option_map, length-append}
use Rattle.oper_core.specs.LittleEndian.{slice_from}
use Rattle.key_entries.specs.Short.{short_code}
use Rattle.key_entries.specs.Entries.{entry_in, entry_code, listed}
use Rattle.key_entries.proofs.OneByOne.{read_start, read_step, read_stop, read_end, read_past}
use Rattle.key_entries.proofs.reading.read_entries.Goals as goal

pub loop-read-init : goal.loop-read-init
loop-read-init g c = record {
  so_far = read_start g.T.EntryField.field c.args.count c.args.bytes.now c.new-entries.result.items (c.args.count - 0) c.new-entries.ensures (omega arith);
  size = ap length c.new-entries.ensures;
}

pub returns-in_err-entry : goal.returns-in_err-entry
returns-in_err-entry g c =
    let left : ℕ = c.args.count - (c.loop-read._read + 1) in
    let none : entry_in g.T.EntryField.field c.loop-read.rest.now ≡ None = sym c.read_entry.ensures.value ∙ c.in_err-entry.was {u = tt} in
    c.from_residual.ensures ∙ sym (ap (λ o. option_map listed o)
    (read_stop g.T.EntryField.field c.args.count c.args.bytes.now c.loop-read.entries.items (c.args.count - c.loop-read._read) left c.loop-read.rest.now c.loop-read.invariant.so_far (omega (arith, c.loop-read-test.true)) none))

pub loop-read-preserved : goal.loop-read-preserved
loop-read-preserved g c =
    let rest : List ℕ = c.loop-read.rest.now in
    let left : ℕ = c.args.count - (c.loop-read._read + 1) in
    let k : ℕ = c.code_len.result + c.code_len-in-loop-read.result in
    let e = c.in_ok-entry.entry in
    let found : entry_in g.T.EntryField.field rest ≡ Some e = sym c.read_entry.ensures.value ∙ c.in_ok-entry.was {u = tt} in
    let size : k ≡ length (entry_code g.T.EntryField.field e) =
    omega (arith, c.code_len.ensures.value, c.code_len-in-loop-read.ensures.value, length-append (short_code e.0) (g.T.EntryField.field.code e.1)) in
    record {
      so_far = read_step g.T.EntryField.field c.args.count c.args.bytes.now c.loop-read.entries.items c.push.new.self.items (c.args.count - c.loop-read._read) left rest (take (length rest - k) (drop k rest)) e
          c.loop-read.invariant.so_far (omega (arith, c.loop-read-test.true)) found c.push.ensures.items (slice_from k rest ∙ ap (λ n. drop n rest) size);
      size = c.push.ensures.len ∙ ap (λ n. n + 1) c.loop-read.invariant.size;
    }

pub returns-then-is_empty : goal.returns-then-is_empty
returns-then-is_empty g c = sym (ap (λ o. option_map listed o)
    (read_end g.T.EntryField.field c.args.count c.args.bytes.now c.loop-read.entries.items (c.args.count - c.loop-read._read) c.loop-read.rest.now c.loop-read.invariant.so_far (omega (arith, c.loop-read-test.false)) (c.if-is_empty.ensures {u = tt})))

pub returns-else-is_empty : goal.returns-else-is_empty
returns-else-is_empty g c = sym (ap (λ o. option_map listed o)
    (read_past g.T.EntryField.field c.args.count c.args.bytes.now c.loop-read.entries.items (c.args.count - c.loop-read._read) c.loop-read.rest.now c.loop-read.invariant.so_far (omega (arith, c.loop-read-test.false)) (c.if-is_empty.ensures {u = tt})))
