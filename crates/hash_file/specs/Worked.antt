-- Small hash files, worked out.
use Rattle.std.specs.Prelude.{ℕ, zero, suc, ◌+◌, ◌==◌, List, [], ◌∷◌, ◌++◌, map, if◌then◌else◌, false}
use Rattle.oper_core.specs.State.{State}
use Rattle.oper_core.specs.Meaning.{state_after}
use Rattle.oper_core.specs.declared.bounds.Bounds.{Bounds}
use Rattle.hash_ops.specs.Operation.{hash_meaning}
use Rattle.hash_ops.specs.declared.hash_op.HashOp.{HashOp}
use Rattle.hash_ops.specs.declared.hash_op.HashOp.TheVariants.{Init, Put}
use Rattle.hash_file.specs.Plan.{put_plan}

abbrev pub bounds : Bounds
bounds = record { objects = 8; cap = 1024; more = false }

-- the keys from 1 on, so many, each with the value that is 160 greater
abbrev pub pairs_from : ℕ → ℕ → List (List ℕ × List ℕ)
pairs_from k zero = []
pairs_from k (suc n) = (k ∷ [], (160 + k) ∷ []) ∷ pairs_from (suc k) n

abbrev pub pairs_to : ℕ → List (List ℕ × List ℕ)
pairs_to n = pairs_from 1 n

-- the commands of puts into the range from 0 on, one after the other
abbrev pub put_all : ℕ → List (List ℕ × List ℕ) → List HashOp → List HashOp
put_all hi [] done = done
put_all hi (p ∷ pairs) done = put_all hi pairs (done ++ (put_plan bounds 0 hi (state_after (hash_meaning bounds) done) p.0 p.1).commands)

abbrev pub after_puts : ℕ → List (List ℕ × List ℕ) → State
after_puts hi pairs = state_after (hash_meaning bounds) (put_all hi pairs [])

-- the beginning of a file, and these pairs in its one bucket
abbrev pub begun_with : List (List ℕ × List ℕ) → List HashOp
begun_with pairs = Init 0 1 ∷ map (λ p. Put 1 p.0 p.1) pairs

-- seven keys whose numbers have their six low bits in common, and one more
abbrev pub value : List ℕ
value = 161 ∷ []

abbrev pub seven_alike : List (List ℕ × List ℕ)
seven_alike =
    (0 ∷ [], value) ∷ (64 ∷ [], value) ∷ (128 ∷ [], value) ∷ (192 ∷ [], value) ∷ (0 ∷ 0 ∷ [], value) ∷ (0 ∷ 64 ∷ [], value) ∷ (0 ∷ 128 ∷ [], value) ∷ []

abbrev pub eighth_alike : List ℕ
eighth_alike = 0 ∷ 192 ∷ []

-- the keys 2, 4, .., 14
abbrev pub seven_even : List (List ℕ × List ℕ)
seven_even =
    (2 ∷ [], value) ∷ (4 ∷ [], value) ∷ (6 ∷ [], value) ∷ (8 ∷ [], value) ∷ (10 ∷ [], value) ∷ (12 ∷ [], value) ∷ (14 ∷ [], value) ∷ []

-- object 0 and object 1 hold these bytes
abbrev two_values : List ℕ → List ℕ → State
two_values zeroth first x = if x == 0 then zeroth else (if x == 1 then first else [])

-- object 0 holds the byte 9
abbrev pub no_directory : State
no_directory = two_values (9 ∷ []) []

-- a directory of one entry, and the value of object 1
abbrev pub one_entry : ℕ → List ℕ → State
one_entry x first = two_values (3 ∷ 0 ∷ x ∷ 0 ∷ 0 ∷ 0 ∷ []) first

-- a bucket of this local depth without pairs
abbrev pub no_pairs : ℕ → List ℕ
no_pairs depth = 4 ∷ depth ∷ 0 ∷ []
