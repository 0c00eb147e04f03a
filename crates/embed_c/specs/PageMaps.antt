-- What a call on a map of wide pages makes and says, and what C is told of it.
use Rattle.std.specs.Prelude.{◌≡◌, ◌≤◌, ◌⊎◌, true, ℕ, Bool, List, [], ◌∷◌, Option, None, Some, Result, IfOk, Vec, length, option_map}
use Rattle.std.specs.Global.{Global}
use Rattle.std.specs.Result.{result_err, result_map_both}
use Rattle.formats.specs.Objects.{bounds_of}
use Rattle.formats.specs.declared.params.Params.{Params}
use Rattle.call_plans.specs.Plan.{Plan}
use Rattle.page_ops.specs.Page.{Cell}
use Rattle.page_map.specs.Map.{Span}
use Rattle.page_map.specs.declared.refusal.MapRefusal.TheVariants.{BadMap, TooLong, MapFull, NoKey}
use Rattle.map_client.specs.Answers.{MapErr, get_told}
use Rattle.map_client.specs.Changing.{delete_comes, set_comes}
use Rattle.map_client.specs.Ranging.{back_told, count_told, next_told, prev_told, range_told}
use Rattle.map_client.specs.declared.call_refusal.CallRefusal.{CallRefusal}
use Rattle.map_client.specs.declared.call_refusal.CallRefusal.TheVariants.{NoObject, NoPages, Map}
use Rattle.range_calls.specs.Store.{Command, state_of}
use Rattle.range_calls.specs.declared.call_err.CallErr.{CallErr}
use Rattle.range_calls.specs.declared.call_err.CallErr.TheVariants.{Refused, Exec, Memory}
use Rattle.embed_c.specs.Answers.{alone, of_exec, telling, told}
use Rattle.embed_c.specs.Calls.{DoesNothing, IsUntaken}
use Rattle.embed_c.specs.Ranges.{Does, GivesNothing, IfNamed, MadeNothing, OnRange, RangeCall, Stages, TellsPairs, pairs_after}
use Rattle.embed_c.specs.Within.{OnStaging}
use Rattle.embed_c.specs.declared.answer.Answer.{Answer}
use Rattle.embed_c.specs.declared.session.Session.{Session}

-- a call on a map was not done
abbrev pub of_map : MapErr → Answer
of_map (Refused NoObject) = alone 32
of_map (Refused NoPages) = alone 50
of_map (Refused (Map (BadMap object))) = telling 51 object 0 0
of_map (Refused (Map TooLong)) = alone 52
of_map (Refused (Map MapFull)) = alone 53
of_map (Refused (Map NoKey)) = alone 39
of_map (Exec cause) = of_exec cause
of_map Memory = alone 8

-- A call whose range has to be one: where it is none, C is told so, and nothing is done.
abbrev pub IfInOrder : Bool → (Session → Session → ℕ → Type 0) → Session → Session → ℕ → Type 0
IfInOrder in_order does old new answer = IfNamed in_order true does old new answer

-- a value that was found, as bytes; and the same of an answer
abbrev pub bytes_of : Option (Vec ℕ Global) → Option (List ℕ)
bytes_of found = option_map (λ v. v.items) found

abbrev pub seen_as : {A B E : Type 0} → (B → A) → Result B E → Result A E
seen_as see = result_map_both see (λ e. e)

-- the pairs that were found
abbrev pub pairs_of : Vec Cell Global → List Cell
pairs_of found = found.items

-- no bytes are the end of a map
abbrev pub end_of : List ℕ → Option (List ℕ)
end_of [] = None
end_of (byte ∷ key) = Some (byte ∷ key)

abbrev pub keys_from : List ℕ → List ℕ → Span
keys_from from to = record { from = from; to = end_of to }

-- a map is changed as far as the call comes, and this is what it comes to
abbrev pub changing : (Params → List Command → Plan Command MapErr) → RangeCall (Unit {0}) CallRefusal
changing comes = record { makes = λ p commands. (comes p commands).commands; says = λ p commands made. result_err made ≡ (comes p commands).refusal }

-- a range is read, and tells this
abbrev pub reading : {A R : Type 0} → (Params → List Command → Result A (CallErr R)) → RangeCall A R
reading tells = record { makes = MadeNothing; says = λ p commands made. made ≡ tells p commands }

module _ (low high : ℕ) where
  -- a key gets a value; a key is deleted
  abbrev pub map_set : List ℕ → List ℕ → RangeCall (Unit {0}) CallRefusal
  map_set key value = changing (set_comes low high key value)

  abbrev pub map_delete : List ℕ → RangeCall (Unit {0}) CallRefusal
  map_delete key = changing (delete_comes low high key)

  -- the value of a key is looked for
  abbrev pub map_get : List ℕ → RangeCall (Option (List ℕ)) CallRefusal
  map_get key = reading (λ p commands. get_told (bounds_of p) low high (state_of p commands) key)

  -- the pairs of a span of keys are counted
  abbrev pub map_count : Span → RangeCall ℕ CallRefusal
  map_count span = reading (λ p commands. count_told (bounds_of p) low high (state_of p commands) span)

  -- the first of them are looked for, at most so many; the last ones; the first pair above a key; the last one below an end
  abbrev pub map_range : Span → ℕ → RangeCall (List Cell) CallRefusal
  map_range span most = reading (λ p commands. range_told (bounds_of p) low high (state_of p commands) span most)

  abbrev pub map_back : Span → ℕ → RangeCall (List Cell) CallRefusal
  map_back span most = reading (λ p commands. back_told (bounds_of p) low high (state_of p commands) span most)

  abbrev pub map_next : List ℕ → RangeCall (List Cell) CallRefusal
  map_next key = reading (λ p commands. next_told (bounds_of p) low high (state_of p commands) key)

  abbrev pub map_prev : Option (List ℕ) → RangeCall (List Cell) CallRefusal
  map_prev end = reading (λ p commands. prev_told (bounds_of p) low high (state_of p commands) end)

-- A key got a value; or one of the two is longer than any map takes, or memory ran out as they were copied, and nothing was done.
abbrev pub Sets : ℕ → ℕ → List ℕ → List ℕ → Session → Session → ℕ → Type 0
Sets low high key value old new answer = OnRange (map_set low high key value) (told of_map) GivesNothing old new answer
    ⊎ (((65536 ≤ length key ⊎ 65536 ≤ length value) × DoesNothing (alone 52) old new answer) ⊎ DoesNothing (alone 8) old new answer)

-- C is told how many pairs were counted
abbrev pub TellsMany : Result ℕ MapErr → ℕ → Type 0
TellsMany made count = IfOk made (λ n. count ≡ n)

-- The pairs that were found in a map are kept for C, which is told how many they are, or why none were looked for. Nothing else is done.
module _ (made : Result (List Cell) MapErr) (many : ℕ) (old new : Session) (answer : ℕ) where
  pub record KeepsPairs : Type 0 where
    pub count : TellsPairs made many
    pub pairs : new.pairs.of_map.items ≡ pairs_after made old.pairs.of_map.items
    pub others : new.pairs.of_tree ≡ old.pairs.of_tree
    pub number : answer ≡ (told of_map made).number
    pub detail : new.detail ≡ (told of_map made).detail
    pub store : new.store ≡ old.store
    pub taken : new.taken ≡ old.taken
    pub staging : new.staging ≡ old.staging
    pub snapshot : new.snapshot ≡ old.snapshot

-- Pairs of a map were looked for in the store, or within the open transaction, and those that were found are kept for C. No call is
-- taken from the machine, and those that were taken for C are as they were.
module _ (call : RangeCall (List Cell) CallRefusal) (many : ℕ) (old new : Session) (answer : ℕ) where
  pub record IsFound : Type 0 where
    pub made : Result (List Cell) MapErr
    pub store : OnStaging (Does call) (Stages call) old.store new.store old.staging new.staging made
    pub count : TellsPairs made many
    pub pairs : new.pairs.of_map.items ≡ pairs_after made old.pairs.of_map.items
    pub others : new.pairs.of_tree ≡ old.pairs.of_tree
    pub number : answer ≡ (told of_map made).number
    pub detail : new.detail ≡ (told of_map made).detail
    pub untaken : IsUntaken old.store.machine new.store.machine
    pub taken : new.taken ≡ old.taken
    pub snapshot : new.snapshot ≡ old.snapshot
