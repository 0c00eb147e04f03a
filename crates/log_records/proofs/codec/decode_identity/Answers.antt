use Rattle.std.proofs.Common.{◌∙◌, ℕ, List, take, ap, arith}
use Rattle.std.proofs.lemmas.Bool.{both_ways}
use Rattle.byteorder.specs.Endian.{little_number}
use Rattle.oper_core.specs.LittleEndian.{slice_from}
use Rattle.oper_core.specs.Meaning.{IsSmall}
use Rattle.log_records.proofs.Reading.{no_fields, no_head, identity_read}
use Rattle.log_records.proofs.codec.decode_identity.Goals as goal

pub returns-then-bytes-lt-IDENTITY_HEAD-clause-none : goal.returns-then-bytes-lt-IDENTITY_HEAD-clause-none
returns-then-bytes-lt-IDENTITY_HEAD-clause-none g c = no_head (g.O.Oper.meaning c.args.b) c.args.bytes.now (omega arith) c.requires

pub returns-then-not-is_within-clause-none : goal.returns-then-not-is_within-clause-none
returns-then-not-is_within-clause-none g c =
    let b = c.args.b in
    let bytes : List ℕ = c.args.bytes.now in
    let small : IsSmall b = record { objects = omega arith; cap = omega arith } in
    let object = c.read_u32-object.ensures ∙ ap (little_number 4) (slice_from 9 bytes) in
    let long = c.read_u32-length.ensures ∙ ap (little_number 4) (slice_from 13 bytes) in
    no_fields (g.O.Oper.meaning b) bytes b small (g.met.O.Oper.bounded b) c.requires
    (λ is. both_ways _ c.if-not-is_within.true (c.is_within.ensures.1 (omega (arith, object, is.0), omega (arith, long, is.1), omega (arith, long, is.2))))

pub returns-clause-some : goal.returns-clause-some
returns-clause-some g c =
    let b = c.args.b in
    let bytes : List ℕ = c.args.bytes.now in
    let n : ℕ = c.read_u32-length.result in
    let bounds = g.met.O.Oper.bounded b in
    let is = c.is_within.ensures.0 c.if-not-is_within.false in
    identity_read (g.O.Oper.meaning b) bytes c.new.result c.read_u64-lsn.result c.read_u32-object.result n (λ i. omega (arith, c.type_inv.bytes i)) c.requires (omega (arith, is.2))
    (c.read_u64-lsn.ensures ∙ ap (little_number 8) (slice_from 1 bytes)) (c.read_u32-object.ensures ∙ ap (little_number 4) (slice_from 9 bytes))
    (c.read_u32-length.ensures ∙ ap (little_number 4) (slice_from 13 bytes))
    (c.new.ensures ∙ c.in_ok-value.ensures.items_if_clones_equal (λ x y same. same) ∙ ap (take n) (slice_from 17 bytes))
    (omega arith) (omega (arith, bounds.objects, is.0)) (omega (arith, bounds.cap, is.1))
