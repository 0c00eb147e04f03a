use Rattle.std.proofs.Common.{◌≡◌, ◌≤◌, ℕ, ◌+◌, ◌-◌, None, Some, Option, IfNone, List, length, length-append, length-drop, take, drop, sym, ap, ◌∙◌, subst, arith, Ordering}
use Rattle.oper_core.specs.LittleEndian.{slice_from}
use Rattle.key_entries.specs.Short.{short_code}
use Rattle.key_entries.specs.Entries.{short_field, entry_code}
use Rattle.key_entries.specs.Spots.{IsSpot, pairs_in}
use Rattle.key_entries.specs.declared.spot.Spot.{Spot}
use Rattle.key_entries.proofs.SpotLemmas.{moved_by, read_step, read_stop, read_bad, read_end, read_past, spot_found, spot_none}
use Rattle.key_entries.proofs.standing.spot_of.Goals as goal

pub returns-in_err-other-clause-none : goal.returns-in_err-other-clause-none
returns-in_err-other-clause-none c =
    let key : List ℕ = c.as_slice-key.result.now in
    let bytes : List ℕ = c.args.bytes.now in
    let some : 1 ≤ length key = omega (arith, ap length c.as_slice-key.ensures.value, c.as_slice-key.ensures.some) in
    let none : pairs_in c.args.count bytes ≡ None = spot_none key some c.args.count bytes (λ i. omega (arith, c.type_inv.bytes i))
    (read_stop key c.args.count bytes c.loop-read.last.now c.loop-read.spot (c.args.count - c.loop-read._read) (c.args.count - (c.loop-read._read + 1)) c.loop-read.rest.now
    c.loop-read.invariant (omega (arith, c.loop-read-test.true)) (sym c.in_err-other.ensures.value)) in
    subst (λ (o : Option Spot). IfNone o (pairs_in c.args.count bytes ≡ None)) (sym c.from_residual.ensures) none

pub returns-then-not-is_below-clause-none : goal.returns-then-not-is_below-clause-none
returns-then-not-is_below-clause-none c =
    let key : List ℕ = c.as_slice-key.result.now in
    let bytes : List ℕ = c.args.bytes.now in
    let some : 1 ≤ length key = omega (arith, ap length c.as_slice-key.ensures.value, c.as_slice-key.ensures.some) in
    spot_none key some c.args.count bytes (λ i. omega (arith, c.type_inv.bytes i))
    (read_bad key c.args.count bytes c.loop-read.last.now c.loop-read.spot (c.args.count - c.loop-read._read) (c.args.count - (c.loop-read._read + 1)) c.loop-read.rest.now (c.in_ok-other.other.now, c.in_ok-other.value.now)
    c.loop-read.invariant (omega (arith, c.loop-read-test.true)) (sym c.in_ok-other.ensures.value) (sym c.is_below.ensures ∙ c.if-not-is_below.true))

pub loop-read-preserved : goal.loop-read-preserved
loop-read-preserved c =
    let bytes : List ℕ = c.args.bytes.now in
    let rest : List ℕ = c.loop-read.rest.now in
    let e : List ℕ × List ℕ = (c.in_ok-other.other.now, c.in_ok-other.value.now) in
    let k : ℕ = 2 + length e.0 + length e.1 in
    let ahead : List ℕ = take (length rest - k) (drop k rest) in
    let size : k ≡ length (entry_code short_field e) = omega (arith, length-append (short_code e.0) (short_code e.1)) in
    let there : ahead ≡ drop (length (entry_code short_field e)) rest = slice_from k rest ∙ ap (λ (n : ℕ). drop n rest) size in
    read_step c.as_slice-key.result.now c.args.count bytes c.loop-read.last.now c.loop-read.spot c.moved-spot.result (c.args.count - c.loop-read._read) (c.args.count - (c.loop-read._read + 1)) rest ahead e
    c.loop-read.invariant (omega (arith, c.loop-read-test.true)) (sym c.in_ok-other.ensures.value) (sym c.is_below.ensures ∙ c.if-not-is_below.false) there
    (omega (arith, ap length there, length-drop (length (entry_code short_field e)) rest, c.in_ok-other.ensures.room))
    (c.moved-spot.ensures ∙ ap (λ (o : Ordering). moved_by c.as_slice-key.result.now o c.loop-read.spot (length bytes - length ahead)) c.order_of.ensures)

pub returns-then-is_empty-clause-some : goal.returns-then-is_empty-clause-some
returns-then-is_empty-clause-some c =
    let key : List ℕ = c.as_slice-key.result.now in
    let bytes : List ℕ = c.args.bytes.now in
    let some : 1 ≤ length key = omega (arith, ap length c.as_slice-key.ensures.value, c.as_slice-key.ensures.some) in
    subst (λ (k : List ℕ). (pairs : List (List ℕ × List ℕ)) × (pairs_in c.args.count bytes ≡ Some pairs) × IsSpot k pairs bytes c.loop-read.spot) c.as_slice-key.ensures.value
    (spot_found key some c.args.count bytes c.loop-read.spot (λ i. omega (arith, c.type_inv.bytes i))
    (read_end key c.args.count bytes c.loop-read.last.now c.loop-read.spot (c.args.count - c.loop-read._read) c.loop-read.rest.now c.loop-read.invariant (omega (arith, c.loop-read-test.false)) (c.if-is_empty.ensures {u = tt})))

pub returns-else-is_empty-clause-none : goal.returns-else-is_empty-clause-none
returns-else-is_empty-clause-none c =
    let key : List ℕ = c.as_slice-key.result.now in
    let bytes : List ℕ = c.args.bytes.now in
    let some : 1 ≤ length key = omega (arith, ap length c.as_slice-key.ensures.value, c.as_slice-key.ensures.some) in
    spot_none key some c.args.count bytes (λ i. omega (arith, c.type_inv.bytes i))
    (read_past key c.args.count bytes c.loop-read.last.now c.loop-read.spot (c.args.count - c.loop-read._read) c.loop-read.rest.now c.loop-read.invariant (omega (arith, c.loop-read-test.false)) (c.if-is_empty.ensures {u = tt}))
