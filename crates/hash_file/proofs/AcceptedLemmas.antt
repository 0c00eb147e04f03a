-- The commands of each call are accepted on every state, or the first is refused as too large.
use Rattle.std.proofs.Common.{◌≡◌, ◌≤◌, ◌<◌, ℕ, Bool, true, false, if◌then◌else◌, List, refl}
use Rattle.std.specs.Prelude.{IsTrue, nat_lt}
use Rattle.std.proofs.lemmas.Bool.{ltb-true}
use Rattle.oper_core.specs.State.{State}
use Rattle.oper_core.specs.declared.bounds.Bounds.{Bounds}
use Rattle.key_entries.specs.Short.{is_short}
use Rattle.key_entries.specs.EntryLaws.{both_true}
use Rattle.key_entries.specs.Pairs.{has}
use Rattle.call_plans.specs.Plan.{plan_from, refused_by, one_command}
use Rattle.call_plans.specs.Laws.{AllAccepted, FirstTooLarge}
use Rattle.call_plans.specs.PlanLaws.{all_accepted, first_too_large}
use Rattle.hash_ops.specs.Operation.{hash_meaning}
use Rattle.hash_ops.specs.declared.hash_op.HashOp.TheVariants.{Delete}
use Rattle.hash_file.specs.Find.{Met, unused, bad, found, find_bucket}
use Rattle.hash_file.specs.Plan.{is_there, put_next, put_plan, delete_on, delete_plan}
use Rattle.hash_file.proofs.DueLemmas.{due_accepted, due_narrow, next_is_made, delete_is_made, found_tells}
use Rattle.hash_file.specs.declared.refusal.HashRefusal.TheVariants.{NoObject, NoKey}

-- where the range is there, it has an object behind the directory, and ends within the store
pub there_tells : (b : Bounds) (lo hi : ℕ) → IsTrue (is_there b lo hi) → (lo < hi) × (hi < b.objects)
there_tells b lo hi there = let parts = both_true (nat_lt lo hi) (nat_lt hi b.objects) there in (ltb-true lo hi parts.0, ltb-true hi b.objects parts.1)

module _ (b : Bounds) (lo hi : ℕ) (s : State) where
  put_where : (t : Bool) → is_there b lo hi ≡ t → (key value : List ℕ) → IsTrue (is_short key) → IsTrue (is_short value) → 1024 ≤ b.cap
      → AllAccepted (hash_meaning b) s (if t then plan_from (hash_meaning b) (put_next b lo hi key value) 7 s else refused_by NoObject).commands
  put_where true there key value short fits wide =
      let range = there_tells b lo hi there in
      all_accepted (hash_meaning b) (put_next b lo hi key value) (λ t op next. due_accepted b t op (next_is_made b lo hi t key value range.0 range.1 short fits op next) wide) 7 s
  put_where false there key value short fits wide = tt

  put_short : (t : Bool) → is_there b lo hi ≡ t → (key value : List ℕ) → IsTrue (is_short key) → IsTrue (is_short value) → b.cap < 1024
      → FirstTooLarge (hash_meaning b) s (if t then plan_from (hash_meaning b) (put_next b lo hi key value) 7 s else refused_by NoObject).commands
  put_short true there key value short fits narrow =
      let range = there_tells b lo hi there in
      first_too_large (hash_meaning b) (put_next b lo hi key value) (λ t op next. due_narrow b t op (next_is_made b lo hi t key value range.0 range.1 short fits op next) narrow) 7 s
  put_short false there key value short fits narrow = tt

  delete_met : (key : List ℕ) → lo < hi → hi < b.objects → IsTrue (is_short key) → 1024 ≤ b.cap → (m : Met) → find_bucket lo hi s key ≡ m → AllAccepted (hash_meaning b) s (delete_on key m).commands
  delete_met key order within short wide unused is = tt
  delete_met key order within short wide (bad x) is = tt
  delete_met key order within short wide (found x c) is =
      elim (has key c.pairs.items) as (λ t. has key c.pairs.items ≡ t → AllAccepted (hash_meaning b) s (if t then one_command (Delete x key) else refused_by NoKey).commands) [
        | true ↦ λ there. (due_accepted b s (Delete x key) (delete_is_made b lo hi s key x c within short (found_tells lo hi s key x c is) there) wide, tt)
        | false ↦ λ gone. tt
      ] refl

  delete_short : (key : List ℕ) → lo < hi → hi < b.objects → IsTrue (is_short key) → b.cap < 1024 → (m : Met) → find_bucket lo hi s key ≡ m → FirstTooLarge (hash_meaning b) s (delete_on key m).commands
  delete_short key order within short narrow unused is = tt
  delete_short key order within short narrow (bad x) is = tt
  delete_short key order within short narrow (found x c) is =
      elim (has key c.pairs.items) as (λ t. has key c.pairs.items ≡ t → FirstTooLarge (hash_meaning b) s (if t then one_command (Delete x key) else refused_by NoKey).commands) [
        | true ↦ λ there. due_narrow b s (Delete x key) (delete_is_made b lo hi s key x c within short (found_tells lo hi s key x c is) there) narrow
        | false ↦ λ gone. tt
      ] refl

  delete_where : (t : Bool) → is_there b lo hi ≡ t → (key : List ℕ) → IsTrue (is_short key) → 1024 ≤ b.cap
      → AllAccepted (hash_meaning b) s (if t then delete_on key (find_bucket lo hi s key) else refused_by NoObject).commands
  delete_where true there key short wide = let range = there_tells b lo hi there in delete_met key range.0 range.1 short wide (find_bucket lo hi s key) refl
  delete_where false there key short wide = tt

  delete_where_short : (t : Bool) → is_there b lo hi ≡ t → (key : List ℕ) → IsTrue (is_short key) → b.cap < 1024
      → FirstTooLarge (hash_meaning b) s (if t then delete_on key (find_bucket lo hi s key) else refused_by NoObject).commands
  delete_where_short true there key short narrow = let range = there_tells b lo hi there in delete_short key range.0 range.1 short narrow (find_bucket lo hi s key) refl
  delete_where_short false there key short narrow = tt

pub put_accepted : (b : Bounds) (lo hi : ℕ) (s : State) (key value : List ℕ) → IsTrue (is_short key) → IsTrue (is_short value) → 1024 ≤ b.cap → AllAccepted (hash_meaning b) s (put_plan b lo hi s key value).commands
put_accepted b lo hi s key value short fits wide = put_where b lo hi s (is_there b lo hi) refl key value short fits wide

pub delete_accepted : (b : Bounds) (lo hi : ℕ) (s : State) (key : List ℕ) → IsTrue (is_short key) → 1024 ≤ b.cap → AllAccepted (hash_meaning b) s (delete_plan b lo hi s key).commands
delete_accepted b lo hi s key short wide = delete_where b lo hi s (is_there b lo hi) refl key short wide

pub put_narrow : (b : Bounds) (lo hi : ℕ) (s : State) (key value : List ℕ) → IsTrue (is_short key) → IsTrue (is_short value) → b.cap < 1024 → FirstTooLarge (hash_meaning b) s (put_plan b lo hi s key value).commands
put_narrow b lo hi s key value short fits narrow = put_short b lo hi s (is_there b lo hi) refl key value short fits narrow

pub delete_narrow : (b : Bounds) (lo hi : ℕ) (s : State) (key : List ℕ) → IsTrue (is_short key) → b.cap < 1024 → FirstTooLarge (hash_meaning b) s (delete_plan b lo hi s key).commands
delete_narrow b lo hi s key short narrow = delete_where_short b lo hi s (is_there b lo hi) refl key short narrow
