-- The calls of a hash file act on its content as on a map, end with their last command, and are refused by cause.
use Rattle.std.proofs.Common.{◌≡◌, ◌<◌, ℕ, suc, ◌-◌, Bool, true, false, if◌then◌else◌, Option, None, Some, is_some, Ok, Err, List, refl, sym, ap, ◌∙◌, subst, inl, inr, true≢false}
use Rattle.std.specs.Prelude.{IsTrue}
use Rattle.std.specs.FinMap.{FinMap, get, insert, remove, get-empty}
use Rattle.std.specs.FinMap.Entries.{find}
use Rattle.oper_core.specs.State.{State}
use Rattle.oper_core.specs.Meaning.{after}
use Rattle.oper_core.specs.declared.bounds.Bounds.{Bounds}
use Rattle.key_entries.specs.Short.{is_short}
use Rattle.key_entries.specs.Entries.{byte_order}
use Rattle.key_entries.specs.Pairs.{has}
use Rattle.call_plans.specs.Free.{free_from}
use Rattle.call_plans.specs.Plan.{goes_on, ends, refuses, refused_by, one_command, plan_from}
use Rattle.call_plans.specs.Laws.{EndsWith}
use Rattle.call_plans.specs.PlanLaws.{StepKeeps, StepEnds, the_last, no_command, plan_acts, plan_ends, plan_refuses}
use Rattle.hash_ops.specs.Operation.{hash_meaning}
use Rattle.hash_ops.specs.declared.bucket.Bucket.{Bucket}
use Rattle.hash_ops.specs.declared.hash_op.HashOp.{HashOp}
use Rattle.hash_ops.specs.declared.hash_op.HashOp.TheVariants.{Put, Delete}
use Rattle.hash_file.specs.Find.{Met, unused, bad, found, find_bucket, object_for}
use Rattle.hash_file.specs.File.{HasDirectory, IsHash, pairs_in, content_of}
use Rattle.hash_file.specs.Plan.{HashPlan, is_there, put_next, put_plan, delete_on, delete_plan, get_on}
use Rattle.hash_file.specs.Laws.{IsRange, IsFull, PutActs, DeleteActs, GetTells, CallActs}
use Rattle.hash_file.specs.declared.refusal.HashRefusal.{HashRefusal}
use Rattle.hash_file.specs.declared.refusal.HashRefusal.TheVariants.{NoObject, NoKey}
use Rattle.hash_file.proofs.ContentLemmas.{content_empty, content_get, entry_of}
use Rattle.hash_file.proofs.GrowthLemmas.{empty_finds, file_finds, found_in, found_is, growth, closer}
use Rattle.hash_file.proofs.StepLemmas.{left_of, left_small, ends_tells, refuses_tells}
use Rattle.hash_file.proofs.WriteLemmas.{put_file, put_content, delete_file, delete_content}

abbrev Map : Type 0
Map = FinMap byte_order (List ℕ)

-- what is known of a key on a hash file: it has none, or its bucket is found and holds what the content does
data Known (lo hi : ℕ) (s : State) (key : List ℕ) : Type 0 where
  absent : find_bucket lo hi s key ≡ unused → get (content_of lo s) key ≡ None → Known lo hi s key
  stands : HasDirectory lo hi s → (x : ℕ) (c : Bucket) → find_bucket lo hi s key ≡ found x c → get (content_of lo s) key ≡ find byte_order key c.pairs.items → Known lo hi s key

known : (lo hi : ℕ) (s : State) (key : List ℕ) → IsHash lo hi s → Known lo hi s key
known lo hi s key (inl e) = absent (empty_finds lo hi s key e) (ap (λ (m : Map). get m key) (content_empty lo s e) ∙ get-empty byte_order key)
known lo hi s key (inr h) =
    let e = entry_of lo hi s h key in
    stands h (object_for h.directory key) e.bucket (file_finds lo hi s key h) (content_get lo hi s h key ∙ ap (λ (o : Option Bucket). find byte_order key (pairs_in o)) e.is)

module _ (b : Bounds) (lo hi : ℕ) (s : State) (key : List ℕ) where
  -- a call whose range is there
  where_is : {A : Type 0} (x y : A) → IsTrue (is_there b lo hi) → (if is_there b lo hi then x else y) ≡ x
  where_is x y there = ap (λ (t : Bool). if t then x else y) there

  get_known : Known lo hi s key → get_on key (find_bucket lo hi s key) ≡ Ok (get (content_of lo s) key)
  get_known (absent is none) = ap (get_on key) is ∙ ap (λ (o : Option (List ℕ)). Ok o) (sym none)
  get_known (stands h x c is holds) = ap (get_on key) is ∙ ap (λ (o : Option (List ℕ)). Ok o) (sym holds)

  pub get_tells : IsTrue (is_there b lo hi) → IsHash lo hi s → GetTells b lo hi s key
  get_tells there file = where_is (get_on key (find_bucket lo hi s key)) (Err NoObject) there ∙ get_known (known lo hi s key file)

  refusal_known : Known lo hi s key → (delete_on key (find_bucket lo hi s key)).refusal ≡ (if is_some (get (content_of lo s) key) then None else Some NoKey)
  refusal_known (absent is none) =
      ap (λ (m : Met). (delete_on key m).refusal) is ∙ ap (λ (o : Option (List ℕ)). if is_some o then None else Some NoKey) (sym none)
  refusal_known (stands h x c is holds) =
      ap (λ (m : Met). (delete_on key m).refusal) is
      ∙ elim (has key c.pairs.items) as (λ t. (if t then one_command (Delete x key) else refused_by NoKey).refusal ≡ (if t then None else Some NoKey)) [ true ↦ refl | false ↦ refl ]
      ∙ ap (λ (o : Option (List ℕ)). if is_some o then None else Some NoKey) (sym holds)

  pub delete_refusals : IsTrue (is_there b lo hi) → IsHash lo hi s → (delete_plan b lo hi s key).refusal ≡ (if is_some (get (content_of lo s) key) then None else Some NoKey)
  delete_refusals there file =
      ap (λ (p : HashPlan). p.refusal) (where_is (delete_on key (find_bucket lo hi s key)) (refused_by NoObject) there) ∙ refusal_known (known lo hi s key file)

module _ (b : Bounds) (lo hi : ℕ) (s : State) (key : List ℕ) (range : IsRange b lo hi) (file : IsHash lo hi s) where
  abbrev without_key : Map → Map
  without_key m = remove m key

  delete_known : Known lo hi s key → CallActs b lo hi s without_key (delete_on key (find_bucket lo hi s key))
  delete_known (absent is none) =
      subst (λ (m : Met). CallActs b lo hi s without_key (delete_on key m)) (sym is) (no_command (hash_meaning b) (IsHash lo hi) (content_of lo) without_key s NoKey file)
  delete_known (stands h x c is holds) =
      subst (λ (m : Met). CallActs b lo hi s without_key (delete_on key m)) (sym is)
      (elim (has key c.pairs.items) as (λ t. has key c.pairs.items ≡ t → CallActs b lo hi s without_key (if t then one_command (Delete x key) else refused_by NoKey)) [
        | true ↦ λ there.
            let at = found_in lo hi s key h x c is in
            the_last (hash_meaning b) (IsHash lo hi) (content_of lo) without_key s (Delete x key)
            (record { kept = inr (delete_file b lo hi s key range.wide h x c at refl there); changed = delete_content b lo hi s key range.wide h x c at refl there }) file
        | false ↦ λ gone. no_command (hash_meaning b) (IsHash lo hi) (content_of lo) without_key s NoKey file
      ] refl)

  pub delete_acts : DeleteActs b lo hi s key
  delete_acts =
      subst (λ (p : HashPlan). CallActs b lo hi s without_key p) (sym (where_is b lo hi s key (delete_on key (find_bucket lo hi s key)) (refused_by NoObject) range.there))
      (delete_known (known lo hi s key file))

module _ (b : Bounds) (lo hi : ℕ) (key value : List ℕ) (range : IsRange b lo hi) where
  abbrev left : State → ℕ
  left s = left_of key (find_bucket lo hi s key)

  abbrev next_of : (s : State) → List ℕ
  next_of s = free_from s (suc lo) (hi - lo)

  abbrev with_key : Map → Map
  with_key m = insert m key value

  goes : (s : State) (op : HashOp) → IsHash lo hi s → put_next b lo hi key value s ≡ goes_on op
      → StepKeeps (hash_meaning b) (IsHash lo hi) (content_of lo) with_key s op × (left (after (hash_meaning b) s op) < left s)
  goes s op file comes = let kept = growth b lo hi key value range s op file comes in (record { kept = kept.file; same = kept.content }, closer b lo hi key value range s op comes)

  module _ (short : IsTrue (is_short key)) (fits : IsTrue (is_short value)) where
    last : (s : State) (op : HashOp) → IsHash lo hi s → put_next b lo hi key value s ≡ ends op → StepEnds (hash_meaning b) (IsHash lo hi) (content_of lo) with_key s op
    last s op file comes =
        let p = ends_tells lo key value (next_of s) (find_bucket lo hi s key) op comes in
        let h = found_is lo hi s key p.object p.bucket file p.met in
        let at = found_in lo hi s key h p.object p.bucket p.met in
        subst (λ (op : HashOp). StepEnds (hash_meaning b) (IsHash lo hi) (content_of lo) with_key s op) p.is
        (record {
          kept = inr (put_file b lo hi s key range.wide h p.object p.bucket at refl value short fits p.room);
          changed = put_content b lo hi s key range.wide h p.object p.bucket at refl value short fits p.room;
        })

    pub put_acts : (s : State) → IsHash lo hi s → PutActs b lo hi s key value
    put_acts s file =
        subst (λ (p : HashPlan). CallActs b lo hi s with_key p)
        (sym (where_is b lo hi s key (plan_from (hash_meaning b) (put_next b lo hi key value) 7 s) (refused_by NoObject) range.there))
        (plan_acts (hash_meaning b) (IsHash lo hi) (content_of lo) with_key (put_next b lo hi key value) left goes last 7 s file (left_small key (find_bucket lo hi s key)))

  abbrev IsPut : HashOp → Type 0
  IsPut op = (x : ℕ) × (op ≡ Put x key value)

  -- on every state
  pub put_ends : (s : State) → EndsWith IsPut (put_plan b lo hi s key value)
  put_ends s =
      subst (λ (p : HashPlan). EndsWith IsPut p) (sym (where_is b lo hi s key (plan_from (hash_meaning b) (put_next b lo hi key value) 7 s) (refused_by NoObject) range.there))
      (plan_ends (hash_meaning b) (put_next b lo hi key value) IsPut left (λ s op comes. closer b lo hi key value range s op comes)
      (λ s op comes. let p = ends_tells lo key value (next_of s) (find_bucket lo hi s key) op comes in (p.object, sym p.is)) 7 s (left_small key (find_bucket lo hi s key)))

  abbrev is_bad : Met → Bool
  is_bad unused = false
  is_bad (bad x) = true
  is_bad (found x c) = false

  never_bad : (s : State) (x : ℕ) → Known lo hi s key → find_bucket lo hi s key ≡ bad x → ⊥
  never_bad s x (absent is none) e = true≢false (sym (ap is_bad e) ∙ ap is_bad is)
  never_bad s x (stands h y c is holds) e = true≢false (sym (ap is_bad e) ∙ ap is_bad is)

  why : (s : State) (r : HashRefusal) → IsHash lo hi s → put_next b lo hi key value s ≡ refuses r → IsFull r
  why s r file comes =
      elim (refuses_tells lo key value (next_of s) (find_bucket lo hi s key) r comes) [
        | inl met ↦ absurd (never_bad s met.0 (known lo hi s key file) met.1)
        | inr full ↦ full
      ]

  pub put_refusals : (s : State) (r : HashRefusal) → IsHash lo hi s → (put_plan b lo hi s key value).refusal ≡ Some r → IsFull r
  put_refusals s r file e =
      let plan : HashPlan = plan_from (hash_meaning b) (put_next b lo hi key value) 7 s in
      plan_refuses (hash_meaning b) (put_next b lo hi key value) (IsHash lo hi) IsFull (λ s op file comes. (growth b lo hi key value range s op file comes).file) why 7 s file r
      (ap (λ (p : HashPlan). p.refusal) (sym (where_is b lo hi s key plan (refused_by NoObject) range.there)) ∙ e)
