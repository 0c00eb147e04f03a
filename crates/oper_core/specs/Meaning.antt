-- What an operation means, and the commands of a whole store.
use Rattle.std.specs.Prelude.{◌≡◌, ℕ, ◌≤◌, ◌<◌, ◌^◌, nat_eq, Bool, true, false, IsTrue, Option, None, Some, List, [], ◌++◌, length, slice_index, slice_index_or, map, fold, All}
use Rattle.std.specs.List.{IsDistinct}
use Rattle.oper_core.specs.State.{State, start, is_among, with_values}
use Rattle.oper_core.specs.declared.bounds.Bounds.{Bounds}
use Rattle.oper_core.specs.declared.refusal.Refusal.{Refusal}

-- what the operations of one type mean, under given bounds
pub record Meaning (O : Type 0) : Type 0 where
  pub objects : ℕ  -- so many objects there are
  pub cap : ℕ  -- a value has at most so many bytes
  pub reads : O → List ℕ
  pub writes : O → List ℕ
  -- the first refusal that needs no value
  pub shape : O → Option Refusal
  -- the first of the others, on the values of the read objects
  pub check : O → List (List ℕ) → Option Refusal
  -- the new value of each written object, from the values of the read ones
  pub effect : O → List (List ℕ) → List (List ℕ)
  -- each list of bytes in it is shorter than 2^32
  pub is_encodable : O → Bool
  -- its bytes in the log
  pub code : O → List ℕ

-- the numbers of a meaning are those of the bounds
pub record HasBounds {O : Type 0} (b : Bounds) (m : Meaning O) : Type 0 where
  pub objects : m.objects ≡ b.objects
  pub cap : m.cap ≡ b.cap

-- it is in the grammar for these bounds
abbrev pub IsInGrammar : {O : Type 0} → Meaning O → O → Type 0
IsInGrammar m op = m.shape op ≡ None

-- the values are those of the objects that it reads, one for each, none of them too long
pub record FitsReads {O : Type 0} (m : Meaning O) (op : O) (values : List (List ℕ)) : Type 0 where
  pub count : length values ≡ length (m.reads op)
  pub short : All (λ v. length v ≤ m.cap) values

-- the values of the objects that are read and not written are as they were: values stand side by side with the objects that
-- are read
pub record KeepsUnwritten (reads writes : List ℕ) (old new : List (List ℕ)) : Type 0 where
  pub count : length new ≡ length old
  pub same : (k : ℕ) → k < length reads → is_among (slice_index reads k) writes ≡ false → slice_index_or new k [] ≡ slice_index_or old k []

-- the bytes begin with its code, and it is in the grammar
pub record StartsWithCode {O : Type 0} (m : Meaning O) (bytes : List ℕ) (op : O) : Type 0 where
  pub rest : List ℕ
  pub split : bytes ≡ m.code op ++ rest
  pub in_grammar : IsInGrammar m op

-- both numbers are below 2^32
pub record IsSmall (b : Bounds) : Type 0 where
  pub objects : b.objects < 2 ^ 32
  pub cap : b.cap < 2 ^ 32

-- what every operation of the grammar meets
pub record IsLawful {O : Type 0} (m : Meaning O) : Type 0 where
  -- it writes some object
  pub writes_some : (op : O) → IsInGrammar m op → 0 < length (m.writes op)
  -- it names objects that there are, none twice in one list
  pub reads_below : (op : O) → IsInGrammar m op → All (λ x. x < m.objects) (m.reads op)
  pub reads_apart : (op : O) → IsInGrammar m op → IsDistinct nat_eq (m.reads op)
  pub writes_below : (op : O) → IsInGrammar m op → All (λ x. x < m.objects) (m.writes op)
  pub writes_apart : (op : O) → IsInGrammar m op → IsDistinct nat_eq (m.writes op)
  -- it makes one value for each object that it writes, none of them too long
  pub made : (op : O) (values : List (List ℕ)) → IsInGrammar m op → FitsReads m op values
      → (length (m.effect op values) ≡ length (m.writes op)) × All (λ v. length v ≤ m.cap) (m.effect op values)
  pub encodable : (op : O) → IsInGrammar m op → IsTrue (m.is_encodable op)
  -- bytes begin with the code of at most one operation: no code is another's beginning
  pub one_code : (a b : O) (bytes : List ℕ) → StartsWithCode m bytes a → StartsWithCode m bytes b → a ≡ b

-- no number of the first bounds is above that of the second, and whatever operations the first admit, the second do too
pub record AreWithin (b c : Bounds) : Type 0 where
  pub objects : b.objects ≤ c.objects
  pub cap : b.cap ≤ c.cap
  pub more : b.more ≡ true → c.more ≡ true

-- what an operation means under some bounds it means under wider ones too: it has the same objects and the same code, it
-- is in the grammar where it was, and on values that fit the first bounds it is accepted where it was, with the same effect
pub record Widens {O : Type 0} (m wide : Meaning O) : Type 0 where
  pub reads : (op : O) → wide.reads op ≡ m.reads op
  pub writes : (op : O) → wide.writes op ≡ m.writes op
  pub code : (op : O) → wide.code op ≡ m.code op
  pub in_grammar : (op : O) → IsInGrammar m op → IsInGrammar wide op
  pub accepted : (op : O) (values : List (List ℕ)) → IsInGrammar m op → FitsReads m op values → m.check op values ≡ None → wide.check op values ≡ None
  pub effect : (op : O) (values : List (List ℕ)) → IsInGrammar m op → FitsReads m op values → m.check op values ≡ None
      → wide.effect op values ≡ m.effect op values

-- the refusal where the test fails
abbrev pub unless : Bool → Refusal → Option Refusal
unless true r = None
unless false r = Some r

-- the first refusal, or the other where there is none
abbrev pub or_else : Option Refusal → Option Refusal → Option Refusal
or_else (Some r) other = Some r
or_else None other = other

-- the values of the objects that an operation reads
abbrev pub read_values : {O : Type 0} → Meaning O → State → O → List (List ℕ)
read_values m s op = map s (m.reads op)

-- the first refusal that a command meets on a state
abbrev pub refusal_of : {O : Type 0} → Meaning O → State → O → Option Refusal
refusal_of m s op = or_else (m.shape op) (m.check op (read_values m s op))

-- no refusal applies
abbrev pub Accepts : {O : Type 0} → Meaning O → State → O → Type 0
Accepts m s op = refusal_of m s op ≡ None

-- the state after a command
abbrev pub after : {O : Type 0} → Meaning O → State → O → State
after m s op = with_values s (m.writes op) (m.effect op (read_values m s op))

-- the state after the commands, one after the other, from the empty store
abbrev pub state_after : {O : Type 0} → Meaning O → List O → State
state_after m commands = fold (after m) start commands
