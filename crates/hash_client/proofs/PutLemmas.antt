-- What the calls answer, from what is met.
use Rattle.std.proofs.Common.{◌≡◌, ◌≤◌, ◌<◌, refl, sym, ap, ◌∙◌, subst, ℕ, suc, ◌+◌, ◌-◌, ◌==◌, Bool, true, false, Option, Result, Ok, Err, List, [], ◌∷◌, if◌then◌else◌, arith}
use Rattle.std.specs.Prelude.{nat_lt, ◌&&◌}
use Rattle.std.proofs.lemmas.Bool.{cond-true, cond-false, lt-ltb, le-ltb, ne_eqb}
use Rattle.oper_core.specs.State.{State}
use Rattle.oper_core.specs.declared.bounds.Bounds.{Bounds}
use Rattle.formats.specs.Objects.{bounds_of}
use Rattle.formats.specs.declared.params.Params.{Params}
use Rattle.key_entries.specs.EntryLaws.{true_both}
use Rattle.key_entries.specs.Pairs.{has}
use Rattle.op_codec.specs.AllOps.{hash}
use Rattle.call_plans.specs.Free.{free_from}
use Rattle.call_plans.specs.Laws.{AllAccepted, FirstTooLarge}
use Rattle.call_plans.specs.Plan.{IsNext, ends, refuses, plan_from, refused_by, one_command}
use Rattle.hash_ops.specs.Operation.{hash_meaning}
use Rattle.hash_ops.specs.declared.bucket.Bucket.{Bucket}
use Rattle.hash_ops.specs.declared.hash_op.HashOp.{HashOp}
use Rattle.hash_ops.specs.declared.hash_op.HashOp.TheVariants.{Delete, Put, Split}
use Rattle.hash_file.specs.Find.{Met, found, find_bucket}
use Rattle.hash_file.specs.Plan.{HashPlan, delete_on, delete_plan, get_answer, get_on, is_there, has_room, put_next, put_on, put_plan, with_free}
use Rattle.hash_file.specs.declared.refusal.HashRefusal.TheVariants as refusals
use Rattle.range_calls.specs.Due.{IsDue}
use Rattle.range_calls.specs.DueLaws.{next_due}
use Rattle.range_calls.specs.Free.{IsLeastFree, free_between}
use Rattle.range_calls.specs.Store.{Command}
use Rattle.range_calls.specs.Turns.{turn_answer}
use Rattle.range_calls.specs.declared.call_err.CallErr.{CallErr}
use Rattle.range_calls.specs.declared.turn.Turn.{Turn}
use Rattle.hash_file.specs.declared.refusal.HashRefusal.{HashRefusal}
use Rattle.hash_client.specs.Finding.{free_answer}
use Rattle.hash_client.proofs.FindLemmas.{IsBad}

-- the range ends below the last object of the store, or not
pub is_within : (b : Bounds) (lo hi : ℕ) → lo < hi → hi < b.objects → is_there b lo hi ≡ true
is_within b lo hi order below = true_both (nat_lt lo hi) (nat_lt hi b.objects) (lt-ltb lo hi order) (lt-ltb hi b.objects below)

pub is_past : (b : Bounds) (lo hi : ℕ) → b.objects ≤ hi → is_there b lo hi ≡ false
is_past b lo hi past = both (nat_lt lo hi) (nat_lt hi b.objects) (le-ltb hi b.objects past)
  where
    both : (x y : Bool) → y ≡ false → (x && y) ≡ false
    both true y is = is
    both false y is = refl

-- a bad object as the next turn
pub bad_turn : (b : Bounds) (lo hi : ℕ) (s : State) (key value : List ℕ) (e : CallErr HashRefusal) → IsBad (find_bucket lo hi s key) e → Err e ≡ turn_answer hash (put_next b lo hi key value s)
bad_turn b lo hi s key value e is =
    ap (λ (x : CallErr HashRefusal). (let r : Result Turn (CallErr HashRefusal) = Err x in r)) is.error
    ∙ sym (ap (λ (m : Met). turn_answer hash (put_on lo key value (free_from s (suc lo) (hi - lo)) m)) is.met)

module _ (b : Bounds) (lo hi : ℕ) (s : State) (key : List ℕ) where
  -- the plan of a put
  pub put_there : is_there b lo hi ≡ true → (value : List ℕ) → put_plan b lo hi s key value ≡ plan_from (hash_meaning b) (put_next b lo hi key value) 7 s
  put_there there value = cond-true (is_there b lo hi) (plan_from (hash_meaning b) (put_next b lo hi key value) 7 s) (refused_by refusals.NoObject) there

  pub put_past : b.objects ≤ hi → (value : List ℕ) → put_plan b lo hi s key value ≡ refused_by refusals.NoObject
  put_past past value = cond-false (is_there b lo hi) (plan_from (hash_meaning b) (put_next b lo hi key value) 7 s) (refused_by refusals.NoObject) (is_past b lo hi past)

  -- what a get answers
  pub get_past : b.objects ≤ hi → get_answer b lo hi s key ≡ Err refusals.NoObject
  get_past past = cond-false (is_there b lo hi) (get_on key (find_bucket lo hi s key)) (Err refusals.NoObject) (is_past b lo hi past)

  pub get_met : is_there b lo hi ≡ true → (m : Met) → find_bucket lo hi s key ≡ m → get_answer b lo hi s key ≡ get_on key m
  get_met there m is = cond-true (is_there b lo hi) (get_on key (find_bucket lo hi s key)) (Err refusals.NoObject) there ∙ ap (get_on key) is

  -- the plan of a delete
  pub delete_past : b.objects ≤ hi → delete_plan b lo hi s key ≡ refused_by refusals.NoObject
  delete_past past = cond-false (is_there b lo hi) (delete_on key (find_bucket lo hi s key)) (refused_by refusals.NoObject) (is_past b lo hi past)

  pub delete_met : is_there b lo hi ≡ true → (m : Met) → find_bucket lo hi s key ≡ m → delete_plan b lo hi s key ≡ delete_on key m
  delete_met there m is = cond-true (is_there b lo hi) (delete_on key (find_bucket lo hi s key)) (refused_by refusals.NoObject) there ∙ ap (delete_on key) is

-- ---- the next turn of a put

-- the free objects behind the directory
pub free_is : (s : State) (lo hi : ℕ) → free_between s (suc lo) hi ≡ free_from s (suc lo) (hi - lo)
free_is s lo hi = let same : suc hi - suc lo ≡ hi - lo = omega arith in ap (free_from s (suc lo)) same

abbrev pub made_turn : Bool → Command → Result Turn (CallErr HashRefusal)
made_turn last op = Ok (record { op = op; last = last })

-- the least free object from the one behind the directory on
pub from_next : (s : State) (lo hi directory last : ℕ) (least : Option ℕ) → directory ≡ lo → last ≡ hi → IsLeastFree s (directory + 1) last least → IsLeastFree s (suc lo) hi least
from_next s lo hi directory last least is same free =
    let next : directory + 1 ≡ suc lo = omega (arith, is) in
    subst (λ (x : ℕ). IsLeastFree s x hi least) next (subst (λ (x : ℕ). IsLeastFree s (directory + 1) x least) same free)

pub with_found : (make : ℕ → HashOp) (free : List ℕ) (x : ℕ) → (let r : Result ℕ (CallErr HashRefusal) = Ok x in r ≡ free_answer free) → made_turn false (hash (make x)) ≡ turn_answer hash (with_free make free)
with_found make [] x is = cc
with_found make (y ∷ free) x is = ap (λ (z : ℕ). made_turn false (hash (make z))) (cc is)

pub none_free : (make : ℕ → HashOp) (free : List ℕ) (e : CallErr HashRefusal) → (let r : Result ℕ (CallErr HashRefusal) = Err e in r ≡ free_answer free)
    → (let r : Result Turn (CallErr HashRefusal) = Err e in r ≡ turn_answer hash (with_free make free))
none_free make [] e is = cc is
none_free make (y ∷ free) e is = cc

module _ (lo : ℕ) (key value free : List ℕ) (x : ℕ) (b : Bucket) where
  -- the bucket has room
  pub put_roomy : true ≡ has_room key b → made_turn true (hash (Put x key value)) ≡ turn_answer hash (put_on lo key value free (found x b))
  put_roomy room = sym (ap (turn_answer hash) (cond-true (has_room key b) (ends (Put x key value)) (if b.depth == 6 then refuses (refusals.HashFull x) else with_free (λ new. Split lo x new) free) (sym room)))

  put_full : false ≡ has_room key b → put_on lo key value free (found x b) ≡ (if b.depth == 6 then refuses (refusals.HashFull x) else with_free (λ new. Split lo x new) free)
  put_full full = cond-false (has_room key b) (ends (Put x key value)) (if b.depth == 6 then refuses (refusals.HashFull x) else with_free (λ new. Split lo x new) free) (sym full)

  -- it is full, and is split
  pub put_splits : false ≡ has_room key b → (b.depth ≡ 6 → ⊥) → turn_answer hash (with_free (λ new. Split lo x new) free) ≡ turn_answer hash (put_on lo key value free (found x b))
  put_splits full shallow =
      sym (ap (turn_answer hash) (put_full full ∙ cond-false (b.depth == 6) (refuses (refusals.HashFull x)) (with_free (λ new. Split lo x new) free) (ne_eqb b.depth 6 shallow)))

-- a command that comes next is due
pub put_due : (p : Params) (lo hi : ℕ) (s : State) (key value : List ℕ) → is_there (bounds_of p) lo hi ≡ true
    → (1024 ≤ p.cap → AllAccepted (hash_meaning (bounds_of p)) s (put_plan (bounds_of p) lo hi s key value).commands) → (p.cap < 1024 → FirstTooLarge (hash_meaning (bounds_of p)) s (put_plan (bounds_of p) lo hi s key value).commands)
    → (op : HashOp) → IsNext (put_next (bounds_of p) lo hi key value) s op → IsDue p s (hash op)
put_due p lo hi s key value there accepted large =
    let b = bounds_of p in
    let whole = put_there b lo hi s key there value in
    next_due hash (hash_meaning b) (put_next b lo hi key value) p 6 s (λ op. refl)
    (λ wide. subst (λ (q : HashPlan). AllAccepted (hash_meaning b) s q.commands) whole (accepted wide))
    (λ narrow. subst (λ (q : HashPlan). FirstTooLarge (hash_meaning b) s q.commands) whole (large narrow))

-- the plan of a delete whose key is there, or not
pub delete_present : (key : List ℕ) (x : ℕ) (b : Bucket) → has key b.pairs.items ≡ true → delete_on key (found x b) ≡ one_command (Delete x key)
delete_present key x b here = cond-true (has key b.pairs.items) (one_command (Delete x key)) (refused_by refusals.NoKey) here

pub delete_absent : (key : List ℕ) (x : ℕ) (b : Bucket) → has key b.pairs.items ≡ false → delete_on key (found x b) ≡ refused_by refusals.NoKey
delete_absent key x b absent = cond-false (has key b.pairs.items) (one_command (Delete x key)) (refused_by refusals.NoKey) absent
