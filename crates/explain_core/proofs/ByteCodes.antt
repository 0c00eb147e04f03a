-- What is decoded begins with its code.
use Rattle.std.proofs.Common.{◌≡◌, ◌∙◌, sym, ap, subst, ℕ, ◌≤◌, List, [], ◌∷◌, ◌++◌, length, get_or, refl, arith, Option, None, Some}
use Rattle.std.specs.Prelude.{IfSome}
use Rattle.oper_core.specs.declared.bounds.Bounds.{Bounds}
use Rattle.oper_core.specs.Meaning.{StartsWithCode}
use Rattle.explain_core.specs.declared.byte_op.ByteOp.{ByteOp}
use Rattle.explain_core.specs.declared.byte_op.ByteOp.TheVariants.{Put, Swap}
use Rattle.explain_core.specs.ByteOps.{byte_meaning, byte_shape, byte_code}

-- each code has three bytes
three-bytes : (op : ByteOp) → 3 ≡ length (byte_code op)
three-bytes (Put object byte) = refl
three-bytes (Swap left right) = refl

starts : (b : Bounds) (bytes : List ℕ) (op : ByteOp) → 3 ≤ length bytes → byte_code op ≡ get_or bytes 0 0 ∷ get_or bytes 1 0 ∷ get_or bytes 2 0 ∷ [] → byte_shape b op ≡ None → StartsWithCode (byte_meaning b) bytes op
starts b [] op long e fits = absurd (omega arith)
starts b (t ∷ []) op long e fits = absurd (omega arith)
starts b (t ∷ x ∷ []) op long e fits = absurd (omega arith)
starts b (t ∷ x ∷ y ∷ rest) op long e fits = record { rest = rest; split = sym (ap (λ (code : List ℕ). code ++ rest) e); in_grammar = fits }

pub decoded : (b : Bounds) (bytes : List ℕ) (op : ByteOp) (found : Option (ByteOp × ℕ)) → 3 ≤ length bytes → byte_code op ≡ get_or bytes 0 0 ∷ get_or bytes 1 0 ∷ get_or bytes 2 0 ∷ [] →
    IfSome found (λ pair. (pair.0 ≡ op) × (pair.1 ≡ 3) × (byte_shape b op ≡ None)) →
    IfSome found (λ pair. StartsWithCode (byte_meaning b) bytes pair.0 × (pair.1 ≡ length (byte_code pair.0)))
decoded b bytes op None long e is = tt
decoded b bytes op (Some pair) long e is = (
  subst (λ (p : ByteOp). StartsWithCode (byte_meaning b) bytes p) (sym is.0) (starts b bytes op long e is.2),
  is.1 ∙ three-bytes pair.0,
)
