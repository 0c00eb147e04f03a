use Rattle.std.proofs.Common.{◌≡◌, ℕ, ◌+◌, ◌-◌, Bool, false, ◌&&◌, None, Some, List, length, take, drop, sym, ap, ◌∙◌, arith, length-append, is_lt, if◌then◌else◌}
use Rattle.byteorder.specs.Endian.{little_bytes}
use Rattle.oper_core.specs.LittleEndian.{slice_from}
use Rattle.key_entries.specs.Short.{short_code}
use Rattle.key_entries.specs.Entries.{byte_order, child_field, entry_code}
use Rattle.logical_btree.specs.Walk.{is_child}
use Rattle.logical_btree.proofs.BelowLemmas.{read_start, read_step, read_stop, read_bad, read_end, read_past, child_read}
use Rattle.logical_btree.proofs.tree.Tree.child_below.Goals as goal
use Rattle.logical_btree.proofs.tree.Tree.child_below.Goals.{then-not-is_below-via-then-not-is_below, then-not-is_below-via-else-not-is_below+then-not-is_child-2, then-not-is_below-2, else-not-is_below-2}

pub loop-read-init : goal.loop-read-init
loop-read-init c = read_start c.args.self.now.lo c.args.self.now.hi c.args.key.now c.args.head.now.count c.args.head.now.branches.now c.args.head.now.first (c.args.head.now.count - 0) (omega arith)

pub returns-in_err-separator : goal.returns-in_err-separator
returns-in_err-separator c =
    let lo : ℕ = c.args.self.now.lo in
    let hi : ℕ = c.args.self.now.hi in
    let key : List ℕ = c.args.key.now in
    let head = c.args.head.now in
    c.from_residual.ensures
    ∙ child_read lo hi key head.count head.branches.now head.first None (sym c.is_child.ensures ∙ c.if-not-is_child.false)
    (read_stop lo hi key head.count head.branches.now head.first c.loop-read.last.now c.loop-read.child (head.count - c.loop-read._read) (head.count - (c.loop-read._read + 1)) c.loop-read.rest.now
    c.loop-read.invariant (omega (arith, c.loop-read-test.true)) (sym c.in_err-separator.ensures.value))

pub returns-then-not-is_below : goal.returns-then-not-is_below
returns-then-not-is_below c =
    let lo : ℕ = c.args.self.now.lo in
    let hi : ℕ = c.args.self.now.hi in
    let key : List ℕ = c.args.key.now in
    let head = c.args.head.now in
    let e : List ℕ × ℕ = (c.in_ok-separator.separator.now, c.in_ok-separator.next) in
    let bad : (is_lt (byte_order c.loop-read.last.now e.0) && is_child lo hi e.1) ≡ false =
    elim c.then-not-is_below.branch [
      | then-not-is_below-via-then-not-is_below w ↦ ap (λ (b : Bool). b && is_child lo hi e.1) (sym c.is_below.ensures ∙ w.if-not-is_below.true)
      | then-not-is_below-via-else-not-is_below+then-not-is_child-2 w ↦
          ap (λ (b : Bool). b && is_child lo hi e.1) (sym c.is_below.ensures ∙ w.if-not-is_below.false) ∙ sym w.is_child-else-not-is_below.ensures ∙ w.if-not-is_child-2.true
    ] in
    child_read lo hi key head.count head.branches.now head.first None (sym c.is_child.ensures ∙ c.if-not-is_child.false)
    (read_bad lo hi key head.count head.branches.now head.first c.loop-read.last.now c.loop-read.child (head.count - c.loop-read._read) (head.count - (c.loop-read._read + 1)) c.loop-read.rest.now e
    c.loop-read.invariant (omega (arith, c.loop-read-test.true)) (sym c.in_ok-separator.ensures.value) bad)

pub loop-read-preserved : goal.loop-read-preserved
loop-read-preserved c =
    let lo : ℕ = c.args.self.now.lo in
    let hi : ℕ = c.args.self.now.hi in
    let key : List ℕ = c.args.key.now in
    let head = c.args.head.now in
    let e : List ℕ × ℕ = (c.in_ok-separator.separator.now, c.in_ok-separator.next) in
    let rest : List ℕ = c.loop-read.rest.now in
    let k : ℕ = 1 + length e.0 + c.code_len.result in
    let size : k ≡ length (entry_code child_field e) = omega (arith, c.code_len.ensures.value, length-append (short_code e.0) (little_bytes 4 e.1)) in
    let after : c.if-not-is_below-2.child ≡ (if is_lt (byte_order key e.0) then c.loop-read.child else e.1) =
    elim c.if-not-is_below-2.branch [
      | then-not-is_below-2 w ↦ w.child-is ∙ ap (λ (b : Bool). if b then c.loop-read.child else e.1) (sym (sym c.is_below-in-loop-read.ensures ∙ w.if-not-is_below-2.true))
      | else-not-is_below-2 w ↦ w.child-is ∙ ap (λ (b : Bool). if b then c.loop-read.child else e.1) (sym (sym c.is_below-in-loop-read.ensures ∙ w.if-not-is_below-2.false))
    ] in
    read_step lo hi key head.count head.branches.now head.first c.loop-read.last.now c.loop-read.child c.if-not-is_below-2.child (head.count - c.loop-read._read) (head.count - (c.loop-read._read + 1)) rest (take (length rest - k) (drop k rest)) e
    c.loop-read.invariant (omega (arith, c.loop-read-test.true)) (sym c.in_ok-separator.ensures.value) (sym c.is_below.ensures ∙ c.if-not-is_below.false)
    (sym c.is_child-else-not-is_below.ensures ∙ c.if-not-is_child-2.false) after (slice_from k rest ∙ ap (λ (n : ℕ). drop n rest) size)

pub returns-then-is_empty : goal.returns-then-is_empty
returns-then-is_empty c =
    let head = c.args.head.now in
    child_read c.args.self.now.lo c.args.self.now.hi c.args.key.now head.count head.branches.now head.first (Some c.loop-read.child) (sym c.is_child.ensures ∙ c.if-not-is_child.false)
    (read_end c.args.self.now.lo c.args.self.now.hi c.args.key.now head.count head.branches.now head.first c.loop-read.last.now c.loop-read.child (head.count - c.loop-read._read) c.loop-read.rest.now
    c.loop-read.invariant (omega (arith, c.loop-read-test.false)) (c.if-is_empty.ensures {u = tt}))

pub returns-else-is_empty : goal.returns-else-is_empty
returns-else-is_empty c =
    let head = c.args.head.now in
    child_read c.args.self.now.lo c.args.self.now.hi c.args.key.now head.count head.branches.now head.first None (sym c.is_child.ensures ∙ c.if-not-is_child.false)
    (read_past c.args.self.now.lo c.args.self.now.hi c.args.key.now head.count head.branches.now head.first c.loop-read.last.now c.loop-read.child (head.count - c.loop-read._read) c.loop-read.rest.now
    c.loop-read.invariant (omega (arith, c.loop-read-test.false)) (c.if-is_empty.ensures {u = tt}))
