-- A history of commands and identity writes, and the values that it gives the objects.
use Rattle.std.specs.Prelude.{◌≡◌, ℕ, zero, suc, ◌<◌, Bool, false, Option, None, Some, List, [], ◌∷◌, map, slice_get, IfSome, ⊤}
use Rattle.oper_core.specs.State.{State, start, is_among, with_values}
use Rattle.oper_core.specs.Meaning.{Meaning, Accepts}
use Rattle.install_order.specs.Order.{Access}

-- a command, or an identity write: a write of the value that the object already has
pub data Member (O : Type 0) : Type 0 where
  Command : (op : O) → Member O
  Identity : (object : ℕ) (value : List ℕ) → Member O

-- the objects that a member reads; an identity write reads none
abbrev pub reads_of : {O : Type 0} → Meaning O → Member O → List ℕ
reads_of m (Command op) = m.reads op
reads_of m (Identity x v) = []

-- the objects that a member writes
abbrev pub writes_of : {O : Type 0} → Meaning O → Member O → List ℕ
writes_of m (Command op) = m.writes op
writes_of m (Identity x v) = x ∷ []

-- the new value of each object that a member writes, from the values of those that it reads
abbrev pub effect_of : {O : Type 0} → Meaning O → Member O → List (List ℕ) → List (List ℕ)
effect_of m (Command op) values = m.effect op values
effect_of m (Identity x v) values = v ∷ []

-- the state after a member, or the same where there is none
abbrev pub made_by : {O : Type 0} → Meaning O → Option (Member O) → State → State
made_by m None s = s
made_by m (Some member) s = with_values s (writes_of m member) (effect_of m member (map s (reads_of m member)))

-- the value of x after the first n members
abbrev pub value_at : {O : Type 0} → Meaning O → List (Member O) → ℕ → State
value_at m history zero x = start x
value_at m history (suc n) x = made_by m (slice_get history n) (λ y. value_at m history n y) x

-- a command is accepted on the state before it, and an identity write carries the value that its object has there
abbrev pub IsMember : {O : Type 0} → Meaning O → State → Member O → Type 0
IsMember m before (Command op) = Accepts m before op
IsMember m before (Identity x v) = (x < m.objects) × (v ≡ before x)

-- no identity write
abbrev pub IsCommand : {O : Type 0} → Member O → Type 0
IsCommand (Command op) = ⊤
IsCommand (Identity x v) = ⊥

-- each member is one in its place
abbrev pub IsHistory : {O : Type 0} → Meaning O → List (Member O) → Type 0
IsHistory m history = (n : ℕ) → IfSome (slice_get history n) (λ member. IsMember m (λ x. value_at m history n x) member)

-- the history without its identity writes
abbrev pub commands_of : {O : Type 0} → List (Member O) → List O
commands_of [] = []
commands_of (Command op ∷ rest) = op ∷ commands_of rest
commands_of (Identity x v ∷ rest) = commands_of rest

-- the member with the LSN n; the first has the LSN 1
abbrev pub with_lsn : {O : Type 0} → List (Member O) → ℕ → Option (Member O)
with_lsn history zero = None
with_lsn history (suc n) = slice_get history n

-- x is among the objects that it reads
abbrev pub reads_some : {O : Type 0} → Meaning O → Option (Member O) → ℕ → Bool
reads_some m None x = false
reads_some m (Some member) x = is_among x (reads_of m member)

-- x is among the objects that it writes
abbrev pub writes_some : {O : Type 0} → Meaning O → Option (Member O) → ℕ → Bool
writes_some m None x = false
writes_some m (Some member) x = is_among x (writes_of m member)

-- which numbered member reads and which writes which object
abbrev pub accesses_of : {O : Type 0} → Meaning O → List (Member O) → Access
accesses_of m history = record { reads = λ n x. reads_some m (with_lsn history n) x; writes = λ n x. writes_some m (with_lsn history n) x }
