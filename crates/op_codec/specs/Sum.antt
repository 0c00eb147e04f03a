-- What the operations of two families mean: each means what it means in its own.
use Rattle.std.specs.Prelude.{ℕ, Bool, ◌||◌}
use Rattle.oper_core.specs.Meaning.{Meaning}
use Rattle.oper_core.specs.declared.bounds.Bounds.{Bounds}
use Rattle.op_codec.specs.declared.sum.Sum.{Sum}
use Rattle.op_codec.specs.declared.sum.Sum.TheVariants.{First, Second}

-- what its own family says of an operation
abbrev pub by_family : {A B R : Type 0} → (A → R) → (B → R) → Sum A B → R
by_family first second (First op) = first op
by_family first second (Second op) = second op

abbrev pub sum_meaning : {A B : Type 0} → (Bounds → Meaning A) → (Bounds → Meaning B) → Bounds → Meaning (Sum A B)
sum_meaning first second b = record {
  objects = b.objects;
  cap = b.cap;
  reads = by_family (first b).reads (second b).reads;
  writes = by_family (first b).writes (second b).writes;
  shape = by_family (first b).shape (second b).shape;
  check = by_family (first b).check (second b).check;
  effect = by_family (first b).effect (second b).effect;
  is_encodable = by_family (first b).is_encodable (second b).is_encodable;
  code = by_family (first b).code (second b).code;
}

-- it is a tag of one of the two
abbrev pub either_tag : (ℕ → Bool) → (ℕ → Bool) → ℕ → Bool
either_tag first second tag = first tag || second tag
