-- When bytes begin with the code of no operation on plain values.
use Rattle.std.proofs.Common.{◌≡◌, ℕ, Option, None, Some, Result, Ok, Err, is_some, IfNone, IfOk, List, slice_index, ◌≢◌, true, arith}
use Rattle.oper_core.specs.Meaning.{StartsWithCode}
use Rattle.oper_core.specs.declared.bounds.Bounds.{Bounds}
use Rattle.op_rows.specs.FirstBytes as first_bytes
use Rattle.op_rows.specs.FirstBytes.{NoneOf}
use Rattle.op_meaning.specs.Table.{is_plain_tag, plain_meaning, plain_row}
use Rattle.op_meaning.specs.TableLaws.{count_is, count_of, plain_tagged}
use Rattle.op_meaning.specs.declared.plain_op.PlainOp.{PlainOp}
use Rattle.op_meaning.specs.declared.plain_op.PlainOp.TheVariants.{Put}

module _ (b : Bounds) (bytes : List ℕ) where
  abbrev pub NoOp : Type 0
  NoOp = first_bytes.NoOp plain_row is_plain_tag plain_tagged count_of count_is b bytes

  pub no_tag : (tag : ℕ) (found : Option PlainOp) → slice_index bytes 0 ≡ tag → is_plain_tag tag ≢ true → found ≡ None → IfNone found NoOp
  no_tag = first_bytes.no_tag plain_row is_plain_tag plain_tagged count_of count_is b bytes

  pub none_found : {N : Type 0} (P : Type 0) (tag : ℕ) (numbers : Option N) (found result : Option PlainOp) → slice_index bytes 0 ≡ tag
      → found ≡ result → is_some result ≡ is_some numbers → IfNone numbers P → (P → NoneOf tag (count_of tag) bytes) → IfNone found NoOp
  none_found = first_bytes.none_found plain_row is_plain_tag plain_tagged count_of count_is b bytes

  -- what begins with the tag of a put begins with no other code
  abbrev NoPut : Type 0
  NoPut = (object : ℕ) (value : List ℕ) → StartsWithCode (plain_meaning b) bytes (Put object value) → ⊥

  no_other_tag : slice_index bytes 0 ≡ 1 → NoPut → NoOp
  no_other_tag is none (Put object value) begins = none object value begins
  no_other_tag is none op begins = absurd (omega (arith, is, first_bytes.tag_is plain_row is_plain_tag plain_tagged count_of count_is b bytes op begins))

  pub no_put : {E : Type 0} (r : Result (Option PlainOp) E) → slice_index bytes 0 ≡ 1 → IfOk r (λ found. IfNone found NoPut) → IfOk r (λ found. IfNone found NoOp)
  no_put (Err e) is none = tt
  no_put (Ok (Some op)) is none = tt
  no_put (Ok None) is none = no_other_tag is none
