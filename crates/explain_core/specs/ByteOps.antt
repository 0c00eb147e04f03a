-- What the small operations mean.
use Rattle.std.proofs.Common.{◌≡◌, ◌∙◌, sym, ap, ℕ, ◌<◌, ◌≤◌, Bool, true, false, not, List, [], ◌∷◌, ◌++◌, length, refl, arith, Option, None, Some}
use Rattle.std.specs.Prelude.{◌==◌, ◌&&◌, nat_lt, nat_eq, if◌then◌else◌, IsTrue, IsFalse, All, is_none}
use Rattle.std.specs.List.{IsDistinct}
use Rattle.std.proofs.lemmas.Bool.{both_ways, and_parts, lt-ltb, ltb-true, not-true}
use Rattle.std.proofs.lemmas.List.Elements.{All-nil, All-cons, All-head, All-tail}
use Rattle.std.proofs.lemmas.Map.Keys.{IsDistinct-cons, IsDistinct-from_apart}
use Rattle.oper_core.specs.declared.bounds.Bounds.{Bounds}
use Rattle.oper_core.specs.declared.refusal.Refusal.{Refusal}
use Rattle.oper_core.specs.declared.refusal.Refusal.TheVariants.{NoObject, Same, TooLarge}
use Rattle.oper_core.specs.Meaning.{Meaning, HasBounds, AreWithin, IsSmall, IsLawful, Widens, FitsReads}
use Rattle.explain_core.specs.declared.byte_op.ByteOp.{ByteOp}
use Rattle.explain_core.specs.declared.byte_op.ByteOp.TheVariants.{Put, Swap}

abbrev pub byte_reads : ByteOp → List ℕ
byte_reads (Put object byte) = []
byte_reads (Swap left right) = left ∷ right ∷ []

abbrev pub byte_writes : ByteOp → List ℕ
byte_writes (Put object byte) = object ∷ []
byte_writes (Swap left right) = left ∷ right ∷ []

abbrev pub byte_shape : Bounds → ByteOp → Option Refusal
byte_shape b (Put object byte) = if nat_lt object b.objects then (if nat_lt 0 b.cap then None else Some TooLarge) else Some NoObject
byte_shape b (Swap left right) = if nat_lt left b.objects && nat_lt right b.objects then (if not (left == right) then None else Some Same) else Some NoObject

-- the two values in the other order
abbrev pub turned : List (List ℕ) → List (List ℕ)
turned [] = []
turned (l ∷ []) = []
turned (l ∷ r ∷ rest) = r ∷ l ∷ []

abbrev pub byte_effect : ByteOp → List (List ℕ) → List (List ℕ)
byte_effect (Put object byte) values = (byte ∷ []) ∷ []
byte_effect (Swap left right) values = turned values

abbrev pub byte_code : ByteOp → List ℕ
byte_code (Put object byte) = 0 ∷ object ∷ byte ∷ []
byte_code (Swap left right) = 1 ∷ left ∷ right ∷ []

abbrev pub byte_meaning : Bounds → Meaning ByteOp
byte_meaning b = record {
  objects = b.objects;
  cap = b.cap;
  reads = byte_reads;
  writes = byte_writes;
  shape = byte_shape b;
  check = λ op values. None;
  effect = byte_effect;
  is_encodable = λ op. true;
  code = byte_code;
}

if-none : (c : Bool) (o : Option Refusal) (r : Refusal) → (if c then o else Some r) ≡ None → IsTrue c × (o ≡ None)
if-none true o r e = (refl, e)
if-none false o r e = absurd (both_ways (is_none (Some r)) refl (ap is_none e))

put-fits : (b : Bounds) (object byte : ℕ) → byte_shape b (Put object byte) ≡ None → (object < b.objects) × (1 ≤ b.cap)
put-fits b object byte e =
    let u = if-none (nat_lt object b.objects) _ NoObject e in
    let v = if-none (nat_lt 0 b.cap) None TooLarge u.1 in
    let some : 0 < b.cap = ltb-true 0 b.cap v.0 in
    (ltb-true object b.objects u.0, omega arith)

swap-fits : (b : Bounds) (left right : ℕ) → byte_shape b (Swap left right) ≡ None → (left < b.objects) × (right < b.objects) × IsFalse (left == right)
swap-fits b left right e =
    let u = if-none (nat_lt left b.objects && nat_lt right b.objects) _ NoObject e in
    let v = and_parts (nat_lt left b.objects) (nat_lt right b.objects) u.0 in
    (ltb-true left b.objects v.0, ltb-true right b.objects v.1, not-true (left == right) (if-none (not (left == right)) None Same u.1).0)

one-below : (n x : ℕ) → x < n → All (λ x. x < n) (x ∷ [])
one-below n x lt = All-cons (λ x. x < n) x [] lt (All-nil (λ x. x < n))

two-below : (b : Bounds) (left right : ℕ) → byte_shape b (Swap left right) ≡ None → All (λ x. x < b.objects) (left ∷ right ∷ [])
two-below b left right e = let f = swap-fits b left right e in All-cons (λ x. x < b.objects) left (right ∷ []) f.0 (one-below b.objects right f.1)

none-apart : IsDistinct nat_eq []
none-apart = IsDistinct-from_apart nat_eq [] (λ i j d lt within. absurd (omega arith))

one-apart : (x : ℕ) → IsDistinct nat_eq (x ∷ [])
one-apart x = IsDistinct-cons nat_eq x [] tt none-apart

two-apart : (b : Bounds) (left right : ℕ) → byte_shape b (Swap left right) ≡ None → IsDistinct nat_eq (left ∷ right ∷ [])
two-apart b left right e = IsDistinct-cons nat_eq left (right ∷ []) ((swap-fits b left right e).2, tt) (one-apart right)

turned-made : (cap : ℕ) (values : List (List ℕ)) → length values ≡ 2 → All (λ v. length v ≤ cap) values → (length (turned values) ≡ 2) × All (λ v. length v ≤ cap) (turned values)
turned-made cap [] e short = absurd (omega arith)
turned-made cap (l ∷ []) e short = absurd (omega arith)
turned-made cap (l ∷ r ∷ rest) e short =
    let P : List ℕ → Type 0 = λ v. length v ≤ cap in
    (refl, All-cons P r (l ∷ []) (All-head P r rest (All-tail P l (r ∷ rest) short)) (All-cons P l [] (All-head P l (r ∷ rest) short) (All-nil P)))

byte-made : (b : Bounds) (op : ByteOp) (values : List (List ℕ)) → byte_shape b op ≡ None → FitsReads (byte_meaning b) op values → (length (byte_effect op values) ≡ length (byte_writes op)) × All (λ v. length v ≤ b.cap) (byte_effect op values)
byte-made b (Put object byte) values e fits = (refl, All-cons (λ v. length v ≤ b.cap) (byte ∷ []) [] (put-fits b object byte e).1 (All-nil (λ v. length v ≤ b.cap)))
byte-made b (Swap left right) values e fits = turned-made b.cap values fits.count fits.short

-- the operation that the first three bytes are
abbrev parsed : List ℕ → ByteOp
parsed [] = Put 0 0
parsed (t ∷ []) = Put 0 0
parsed (t ∷ x ∷ []) = Put 0 0
parsed (t ∷ x ∷ y ∷ rest) = if t == 0 then Put x y else Swap x y

parsed-code : (op : ByteOp) (rest : List ℕ) → parsed (byte_code op ++ rest) ≡ op
parsed-code (Put object byte) rest = refl
parsed-code (Swap left right) rest = refl

writes-some : (op : ByteOp) → 0 < length (byte_writes op)
writes-some (Put object byte) = omega arith
writes-some (Swap left right) = omega arith

reads-below : (b : Bounds) (op : ByteOp) → byte_shape b op ≡ None → All (λ x. x < b.objects) (byte_reads op)
reads-below b (Put object byte) e = All-nil (λ x. x < b.objects)
reads-below b (Swap left right) e = two-below b left right e

reads-apart : (b : Bounds) (op : ByteOp) → byte_shape b op ≡ None → IsDistinct nat_eq (byte_reads op)
reads-apart b (Put object byte) e = none-apart
reads-apart b (Swap left right) e = two-apart b left right e

writes-below : (b : Bounds) (op : ByteOp) → byte_shape b op ≡ None → All (λ x. x < b.objects) (byte_writes op)
writes-below b (Put object byte) e = one-below b.objects object (put-fits b object byte e).0
writes-below b (Swap left right) e = two-below b left right e

writes-apart : (b : Bounds) (op : ByteOp) → byte_shape b op ≡ None → IsDistinct nat_eq (byte_writes op)
writes-apart b (Put object byte) e = one-apart object
writes-apart b (Swap left right) e = two-apart b left right e

pub byte_bounded : (b : Bounds) → HasBounds b (byte_meaning b)
byte_bounded b = record { objects = refl; cap = refl }

pub byte_lawful : (b : Bounds) → IsSmall b → IsLawful (byte_meaning b)
byte_lawful b small = record {
  writes_some = λ op e. writes-some op;
  reads_below = reads-below b;
  reads_apart = reads-apart b;
  writes_below = writes-below b;
  writes_apart = writes-apart b;
  made = byte-made b;
  encodable = λ op e. refl;
  one_code = λ p q bytes f g. sym (ap parsed f.split ∙ parsed-code p f.rest) ∙ ap parsed g.split ∙ parsed-code q g.rest;
}

byte-wider : (b c : Bounds) → AreWithin b c → (op : ByteOp) → byte_shape b op ≡ None → byte_shape c op ≡ None
byte-wider b c within (Put object byte) e =
    let fits = put-fits b object byte e in
    let objects = within.objects in
    let cap = within.cap in
    rw (lt-ltb object c.objects (omega (arith, fits.0)), lt-ltb 0 c.cap (omega (arith, fits.1))) refl
byte-wider b c within (Swap left right) e =
    let fits = swap-fits b left right e in
    let objects = within.objects in
    rw (lt-ltb left c.objects (omega (arith, fits.0)), lt-ltb right c.objects (omega (arith, fits.1)), fits.2) refl

pub byte_widens : (b c : Bounds) → AreWithin b c → Widens (byte_meaning b) (byte_meaning c)
byte_widens b c within = record {
  reads = λ op. refl;
  writes = λ op. refl;
  code = λ op. refl;
  in_grammar = byte-wider b c within;
  accepted = λ op values e fits accepted. accepted;
  effect = λ op values e fits accepted. refl;
}
