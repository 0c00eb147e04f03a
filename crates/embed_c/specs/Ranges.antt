-- What a call on a tree or a hash file says, and what C is told of it.
use Rattle.std.specs.Prelude.{◌≡◌, ⊤, true, false, ℕ, Bool, List, [], ◌∷◌, Option, None, Some, Result, Ok, Err, IfOk, IfSome, length, map, min, take}
use Rattle.std.specs.Result.{result_err}
use Rattle.formats.specs.Objects.{bounds_of}
use Rattle.formats.specs.declared.params.Params.{Params}
use Rattle.execution.specs.declared.exec_err.ExecErr.TheVariants.{DiskFault}
use Rattle.op_codec.specs.AllOps.{AllOps, all_meaning, hash}
use Rattle.running_store.specs.Taking.Ending.{Done}
use Rattle.store_engine.specs.Lists.{AddsFront, AreCalls, ending_of}
use Rattle.logical_btree.specs.Plan as trees
use Rattle.logical_btree.specs.Walk.{Pair}
use Rattle.logical_btree.specs.declared.refusal.TreeRefusal.{TreeRefusal}
use Rattle.logical_btree.specs.declared.refusal.TreeRefusal.TheVariants as tree
use Rattle.hash_file.specs.Plan as hashes
use Rattle.hash_file.specs.declared.refusal.HashRefusal.{HashRefusal}
use Rattle.hash_file.specs.declared.refusal.HashRefusal.TheVariants as file
use Rattle.op_codec.specs.AllOps.{node}
use Rattle.range_calls.specs.Answers.{cause_in, made_of, refused_in}
use Rattle.range_calls.specs.Answers as answers
use Rattle.range_calls.specs.Store.{Command, state_of}
use Rattle.store_engine.specs.Engine.{Holds}
use Rattle.range_calls.specs.declared.call_err.CallErr.{CallErr}
use Rattle.range_calls.specs.declared.call_err.CallErr.TheVariants.{Refused, Exec, Memory}
use Rattle.transactions.specs.declared.transaction.Transaction.{Transaction}
use Rattle.write_queue.specs.Memory.{disk_of}
use Rattle.write_queue.specs.declared.queue_mem.QueueMem.{QueueMem}
use Rattle.embed.specs.Embedded.{IsStillBroken}
use Rattle.embed.specs.Within.{IsCallWithin}
use Rattle.embed.specs.declared.store.Store.{Store}
use Rattle.embed_c.specs.Answers.{alone, done_answer, of_exec, telling, told}
use Rattle.embed_c.specs.Calls.{DoesNothing, IsUntaken}
use Rattle.embed_c.specs.Within.{InTransaction, OnStaging, OnStore, Tells}
use Rattle.embed_c.specs.declared.answer.Answer.{Answer}
use Rattle.embed_c.specs.declared.maps.Lengths.{Lengths}
use Rattle.embed_c.specs.declared.session.Session.{Session}

-- a call on a tree was not done
abbrev pub of_tree : CallErr TreeRefusal → Answer
of_tree (Refused tree.NoObject) = alone 32
of_tree (Refused (tree.BadTree object)) = telling 44 object 0 0
of_tree (Refused (tree.TreeFull need free)) = telling 45 need free 0
of_tree (Refused tree.NoKey) = alone 39
of_tree (Exec cause) = of_exec cause
of_tree Memory = alone 8

-- a call on a hash file was not done
abbrev pub of_hash : CallErr HashRefusal → Answer
of_hash (Refused file.NoObject) = alone 32
of_hash (Refused (file.BadHash object)) = telling 46 object 0 0
of_hash (Refused (file.HashFull object)) = telling 47 object 0 0
of_hash (Refused (file.NoRoom free)) = telling 48 free 0 0
of_hash (Refused file.NoKey) = alone 39
of_hash (Exec cause) = of_exec cause
of_hash Memory = alone 8

-- a key's value was found; it is not there; or it was not looked for
abbrev pub told_found : {E : Type 0} → (E → Answer) → Result (Option (List ℕ)) E → Answer
told_found of (Ok (Some value)) = done_answer
told_found of (Ok None) = alone 39
told_found of (Err cause) = of cause

-- A call whose range and whose keys have to be such: where one is not, C is told so, and nothing is done.
abbrev pub IfNamed : Bool → Bool → (Session → Session → ℕ → Type 0) → Session → Session → ℕ → Type 0
IfNamed false keys does old new answer = DoesNothing (alone 32) old new answer
IfNamed true false does old new answer = DoesNothing (alone 49) old new answer
IfNamed true true does old new answer = does old new answer

-- A call on a range of objects, which after these commands makes those, and of which this is said where the engine did all of them.
module _ {R T : Type 0} (makes : Params → List Command → List Command) (says : Params → List Command → Result T (CallErr R) → Type 0) (old new : Store QueueMem) (made : Result T (CallErr R)) where
  pub record DoesOnRange : Type 0 where
    pub calls : old.engine.broken ≡ false → AreCalls all_meaning (disk_of old.machine) (disk_of new.machine) old.engine new.engine (cause_in made)
    pub adds : (p : Params) (commands : List Command) → (holds : Holds all_meaning p (disk_of old.machine) old.engine commands) →
        AddsFront all_meaning p (disk_of old.machine) (disk_of new.machine) old.engine new.engine holds.world commands (makes p commands) (ending_of (cause_in made))
    pub answer : (p : Params) (commands : List Command) → Holds all_meaning p (disk_of old.machine) old.engine commands → ending_of (cause_in made) ≡ Done → says p commands made
    pub broken : old.engine.broken ≡ true → IsStillBroken (Exec DiskFault) old new made

  -- the same within a transaction: it stages what it makes after all commands, the staged ones among them
  abbrev pub DoesWithin : Transaction AllOps → Transaction AllOps → Type 0
  DoesWithin t u = IsCallWithin disk_of old new t u makes (λ p commands. ending_of (cause_in made) ≡ Done → says p commands made) (Exec DiskFault) (cause_in made) made

abbrev pub MadeNothing : Params → List Command → List Command
MadeNothing p commands = []

-- A call on a range of objects: what it makes after these commands, and what is said of it where all of that is made.
pub record RangeCall (T R : Type 0) : Type 1 where
  pub makes : Params → List Command → List Command
  pub says : Params → List Command → Result T (CallErr R) → Type 0

-- it was made on a store, or within a transaction
abbrev pub Does : {T R : Type 0} → RangeCall T R → OnStore (Result T (CallErr R))
Does call = DoesOnRange call.makes call.says

abbrev pub Stages : {T R : Type 0} → RangeCall T R → InTransaction (Result T (CallErr R))
Stages call old new t u made = DoesWithin call.makes call.says old new made t u

-- it was made on the store of a session, or within its open transaction; C is told what it came to, and given this
abbrev pub OnRange : {T R : Type 0} → RangeCall T R → (Result T (CallErr R) → Answer) → (Result T (CallErr R) → Type 0) → Session → Session → ℕ → Type 0
OnRange call told gives = Tells (Does call) (Stages call) told gives

-- nothing is given
abbrev pub GivesNothing : {R : Type 0} → R → Type 0
GivesNothing made = ⊤

module _ (low high : ℕ) where
  -- a key of a tree gets a value
  abbrev pub tree_insert : List ℕ → List ℕ → RangeCall (Unit {0}) TreeRefusal
  tree_insert key value = record {
    makes = λ p commands. made_of p.cap (map node (trees.insert_plan (bounds_of p) low high (state_of p commands) key value).commands);
    says = λ p commands made. result_err made ≡ refused_in p.cap (trees.insert_plan (bounds_of p) low high (state_of p commands) key value);
  }

  -- a key of a tree is deleted
  abbrev pub tree_delete : List ℕ → RangeCall (Unit {0}) TreeRefusal
  tree_delete key = record {
    makes = λ p commands. made_of p.cap (map node (trees.delete_plan (bounds_of p) low high (state_of p commands) key).commands);
    says = λ p commands made. result_err made ≡ refused_in p.cap (trees.delete_plan (bounds_of p) low high (state_of p commands) key);
  }

  -- a key's value is looked for in a tree
  abbrev pub tree_get : List ℕ → RangeCall (Option (List ℕ)) TreeRefusal
  tree_get key = record { makes = MadeNothing; says = λ p commands made. made ≡ answers.told (trees.get_answer (bounds_of p) low high (state_of p commands) key) }

  -- the pairs of a tree whose keys are not below `from` and are below `to` are looked for
  abbrev pub tree_range : List ℕ → List ℕ → RangeCall (List Pair) TreeRefusal
  tree_range from to = record { makes = MadeNothing; says = λ p commands made. made ≡ answers.told (trees.range_answer (bounds_of p) low high (state_of p commands) from to) }

  -- a key of a hash file gets a value
  abbrev pub hash_put : List ℕ → List ℕ → RangeCall (Unit {0}) HashRefusal
  hash_put key value = record {
    makes = λ p commands. made_of p.cap (map hash (hashes.put_plan (bounds_of p) low high (state_of p commands) key value).commands);
    says = λ p commands made. result_err made ≡ refused_in p.cap (hashes.put_plan (bounds_of p) low high (state_of p commands) key value);
  }

  -- a key of a hash file is deleted
  abbrev pub hash_delete : List ℕ → RangeCall (Unit {0}) HashRefusal
  hash_delete key = record {
    makes = λ p commands. made_of p.cap (map hash (hashes.delete_plan (bounds_of p) low high (state_of p commands) key).commands);
    says = λ p commands made. result_err made ≡ refused_in p.cap (hashes.delete_plan (bounds_of p) low high (state_of p commands) key);
  }

  -- a key's value is looked for in a hash file
  abbrev pub hash_get : List ℕ → RangeCall (Option (List ℕ)) HashRefusal
  hash_get key = record { makes = MadeNothing; says = λ p commands made. made ≡ answers.told (hashes.get_answer (bounds_of p) low high (state_of p commands) key) }

-- the pairs that were found, or those that were there where none were looked for
abbrev pub pairs_after : {E : Type 0} → Result (List Pair) E → List Pair → List Pair
pairs_after (Ok found) before = found
pairs_after (Err cause) before = before

abbrev pub TellsPairs : {E : Type 0} → Result (List Pair) E → ℕ → Type 0
TellsPairs made count = IfOk made (λ found. count ≡ length found)

-- The pairs of a range came to something, and that is what C is told. Those that were found are kept for it. No call is taken from
-- the machine, and those that were taken for C are as they were.
module _ (low high : ℕ) (from to : List ℕ) (many : ℕ) (old new : Session) (answer : ℕ) where
  pub record IsRanged : Type 0 where
    pub made : Result (List Pair) (CallErr TreeRefusal)
    pub store : OnStaging (Does (tree_range low high from to)) (Stages (tree_range low high from to)) old.store new.store old.staging new.staging made
    pub count : TellsPairs made many
    pub pairs : new.pairs.of_tree.items ≡ pairs_after made old.pairs.of_tree.items
    pub others : new.pairs.of_map ≡ old.pairs.of_map
    pub number : answer ≡ (told of_tree made).number
    pub detail : new.detail ≡ (told of_tree made).detail
    pub untaken : IsUntaken old.store.machine new.store.machine
    pub taken : new.taken ≡ old.taken
    pub snapshot : new.snapshot ≡ old.snapshot

-- as much of a value as there is room for was copied to the room's front
abbrev pub CopiesFront : List ℕ → List ℕ → List ℕ → Type 0
CopiesFront value before after = take (min (length value) (length before)) after ≡ take (length before) value

-- C is given the value that was found, and told how long it is
abbrev pub TellsFound : {E : Type 0} → Result (Option (List ℕ)) E → List ℕ → List ℕ → ℕ → Type 0
TellsFound made before after count = IfOk made (λ found. IfSome found (λ value. CopiesFront value before after × (count ≡ length value)))

-- of these pairs C is given the first one, as much of it as there is room for, and told how long its parts are; or that there is none
module _ (key key_after value value_after : List ℕ) (lengths : Lengths) where
  abbrev pub GivesFirst : List Pair → ℕ → Type 0
  GivesFirst [] answer = answer ≡ 39
  GivesFirst (pair ∷ rest) answer = CopiesFront pair.0 key key_after × CopiesFront pair.1 value value_after × (lengths ≡ record { key = length pair.0; value = length pair.1 }) × (answer ≡ 0)
