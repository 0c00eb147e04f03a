-- What a question to a tree, a hash file or a map is answered.
use Rattle.std.proofs.Common.{◌≡◌, ◌∙◌, ap, sym, subst, refl, ◌⊎◌, inl, inr, ⊎_elim, ◌+◌, ◌++◌, ℕ, zero, suc, Bool, true, false, List, [], ◌∷◌, length, take, drop, Option, Some, None, Result, Ok, Err, IfOk}
use Rattle.std.specs.Prelude.{⊤, ◌&&◌, nat_le, nat_lt, if◌then◌else◌}
use Rattle.std.proofs.Math.Seq.{take-nil}
use Rattle.std.proofs.lemmas.List.{append-nil}
use Rattle.disk_model.specs.Disk.{Disk, LeavesOnly}
use Rattle.disk_model.specs.Moments.{weaker}
use Rattle.formats.specs.Objects.{bounds_of}
use Rattle.formats.specs.declared.params.Params.{Params}
use Rattle.oper_core.specs.State.{State}
use Rattle.oper_core.specs.declared.bounds.Bounds.{Bounds}
use Rattle.op_codec.specs.AllOps.{all_meaning}
use Rattle.running_store.specs.Courses.{course}
use Rattle.running_store.specs.Courses.Stop.{Through}
use Rattle.running_store.specs.Taking.{Ending}
use Rattle.running_store.specs.Taking.Ending.{Done, Stopped, Short, Failed}
use Rattle.store_engine.specs.Lists.{AddsFront, ending_of}
use Rattle.logical_btree.specs.Plan.{get_answer, get_on, is_there, range_answer, range_on}
use Rattle.std.specs.FinMap.Entries.{find}
use Rattle.key_entries.specs.Entries.{byte_order}
use Rattle.logical_btree.specs.Walk.{Pair, Way, scan, walk}
use Rattle.logical_btree.specs.declared.refusal.TreeRefusal.TheVariants.{NoObject}
use Rattle.map_client.specs.declared.call_refusal.CallRefusal.TheVariants as map_refusals
use Rattle.page_map.specs.Ranges as of_maps
use Rattle.page_map.specs.Reads.{above}
use Rattle.page_map.specs.Walk as ways
use Rattle.hash_file.specs.Find.{Met, find_bucket}
use Rattle.hash_file.specs.Find as hash_find
use Rattle.hash_file.specs.Plan as of_hash
use Rattle.hash_file.specs.declared.refusal.HashRefusal.TheVariants as hash_refusals
use Rattle.script_lines.specs.declared.denial.Denial.TheVariants.{BadHash, BadMap}
use Rattle.script_lines.specs.Grammar.{Request, AsksFor}
use Rattle.script_lines.specs.declared.line.Line.TheVariants.{Ask}
use Rattle.script_lines.specs.declared.line.MapQuestion.{MapQuestion}
use Rattle.script_lines.specs.declared.line.MapQuestion.TheVariants.{Get as mget, Range as mrange, Back as mback, Count as mcount, Next as mnext, Prev as mprev}
use Rattle.script_lines.specs.declared.line.Question.TheVariants.{TreeGet as tget, TreeRange as trange, HashGet as hget, Map as ask_map}
use Rattle.script_lines.specs.Replies.{Reply, value, pairs, refused, bad_tree, denied, absent, counted, pairs_reply}
use Rattle.store_engine.specs.Engine.{EngineView, forced_in, used_in}
use Rattle.shell_base.specs.First.{Stage, stage_of}
use Rattle.shell_base.specs.Store.{Between, Command, Holds, meaning_in, state_of}
use Rattle.shell_base.specs.declared.stop.Stop.{Stop as Early}
use Rattle.script_run.specs.Courses.{Works}
use Rattle.script_run.specs.Found.{IsAsked, IsDone, IsOfEngine, reply_in}
use Rattle.script_run.specs.Groups.{Regroups, open_in}
use Rattle.script_run.specs.Made.{AsksTree, found_reply, hash_found, keys_from, map_found, of_map, range_reply, read_reply, tree_answer, value_reply}
use Rattle.script_run.specs.Replies.{Replies}
use Rattle.script_run.specs.Run.{Working}
use Rattle.script_run.specs.Stages.{GoesBy, IsQuestion}
use Rattle.script_run.specs.declared.asking.Found.{Found}
use Rattle.script_run.proofs.DoneLemmas.{read_done}
use Rattle.script_run.proofs.ListLemmas.{IsOk, not_early}
use Rattle.script_run.proofs.MomentLemmas.{works_by}
use Rattle.script_run.proofs.RunLemmas.{asks_values, run_nothing}

-- the answer to a question to a tree, a hash file or a map
abbrev IsTold : Reply → Type 0
IsTold (value bytes) = ⊤
IsTold (pairs pair others) = ⊤
IsTold (refused why) = ⊤
IsTold bad_tree = ⊤
IsTold (denied BadHash) = ⊤
IsTold (denied BadMap) = ⊤
IsTold absent = ⊤
IsTold (counted n) = ⊤
IsTold reply = ⊥

told_value : (found : Option (List ℕ)) → IsTold (found_reply (Ok found))
told_value None = tt
told_value (Some bytes) = tt

told_get : (there : Bool) (key : List ℕ) (way : Result Way ℕ) → IsTold (found_reply (if there then get_on key way else Err NoObject))
told_get false key way = tt
told_get true key (Err bad) = tt
told_get true key (Ok way) = told_value (find byte_order key way.pairs)

told_pairs : (found : List Pair) → IsTold (pairs_reply found)
told_pairs [] = tt
told_pairs (pair ∷ others) = tt

told_range : (there : Bool) (found : Result (List Pair) ℕ) → IsTold (range_reply (if there then range_on found else Err NoObject))
told_range false found = tt
told_range true (Err bad) = tt
told_range true (Ok found) = told_pairs found

told_bytes : (value : Option (List ℕ)) → IsTold (hash_found (Ok value))
told_bytes None = tt
told_bytes (Some bytes) = tt

told_hash : (there : Bool) (key : List ℕ) (met : Met) → IsTold (hash_found (if there then of_hash.get_on key met else Err hash_refusals.NoObject))
told_hash false key met = tt
told_hash true key hash_find.unused = tt
told_hash true key (hash_find.bad x) = tt
told_hash true key (hash_find.found x b) = told_bytes (find byte_order key b.pairs.items)

-- what is read of a map
told_read : {A : Type 0} (reply : A → Reply) → ((found : A) → IsTold (reply found)) → (there : Bool) (found : Result A ℕ) → IsTold (read_reply reply (if there then of_map found else Err map_refusals.NoObject))
told_read reply told false found = tt
told_read reply told true (Err bad) = tt
told_read reply told true (Ok found) = told found

told_key : (found : Option (List ℕ)) → IsTold (value_reply found)
told_key None = tt
told_key (Some bytes) = tt

told_map : (b : Bounds) (lo hi : ℕ) (s : State) (question : MapQuestion) → IsTold (map_found b lo hi s question)
told_map b lo hi s (mget key) = told_read value_reply told_key (nat_le lo hi && nat_lt hi b.objects) (ways.get_answer lo hi s key)
told_map b lo hi s (mrange from to limit) = told_read pairs_reply told_pairs (nat_le lo hi && nat_lt hi b.objects) (of_maps.range_answer lo hi s (keys_from from to) limit)
told_map b lo hi s (mback from to limit) = told_read pairs_reply told_pairs (nat_le lo hi && nat_lt hi b.objects) (of_maps.back_answer lo hi s (keys_from from to) limit)
told_map b lo hi s (mcount from to) = told_read counted (λ n. tt) (nat_le lo hi && nat_lt hi b.objects) (of_maps.count_answer lo hi s (keys_from from to))
told_map b lo hi s (mnext key) = told_read pairs_reply told_pairs (nat_le lo hi && nat_lt hi b.objects) (of_maps.range_answer lo hi s (above key) 1)
told_map b lo hi s (mprev key) = told_read pairs_reply told_pairs (nat_le lo hi && nat_lt hi b.objects) (of_maps.back_answer lo hi s (keys_from [] key) 1)

is_told : (p : Params) (s : State) (reply : Reply) (request : Request) → tree_answer p s request ≡ Some reply → IsTold reply
is_told p s reply (Ask (tget lo hi key)) is =
    subst IsTold (let e : found_reply (get_answer (bounds_of p) lo hi s key) ≡ reply = cc is in e) (told_get (is_there (bounds_of p) lo hi) key (walk lo hi s key))
is_told p s reply (Ask (trange lo hi from to)) is =
    subst IsTold (let e : range_reply (range_answer (bounds_of p) lo hi s from to) ≡ reply = cc is in e)
    (told_range (is_there (bounds_of p) lo hi) (scan lo hi s (record { from = from; to = Some to })))
is_told p s reply (Ask (hget lo hi key)) is =
    subst IsTold (let e : hash_found (of_hash.get_answer (bounds_of p) lo hi s key) ≡ reply = cc is in e) (told_hash (of_hash.is_there (bounds_of p) lo hi) key (find_bucket lo hi s key))
is_told p s reply (Ask (ask_map lo hi question)) is =
    subst IsTold (let e : map_found (bounds_of p) lo hi s question ≡ reply = cc is in e) (told_map (bounds_of p) lo hi s question)
is_told p s reply request is = cc

is_question : (p : Params) (s : State) (reply : Reply) (request : Request) → tree_answer p s request ≡ Some reply → IsQuestion request
is_question p s reply (Ask (tget lo hi key)) is = tt
is_question p s reply (Ask (trange lo hi from to)) is = tt
is_question p s reply (Ask (hget lo hi key)) is = tt
is_question p s reply (Ask (ask_map lo hi question)) is = tt
is_question p s reply request is = cc

module _ (p : Params) (commands : List Command) (line : List ℕ) where
  told_replies : (group : Option ℕ) (reply : Reply) → IsTold reply → AsksTree p commands line reply → Replies p group commands line reply []
  told_replies group (value bytes) told a = (inr a, refl)
  told_replies group (pairs pair others) told a = (a, refl)
  told_replies group (refused why) told a = inr (inr a, refl)
  told_replies group bad_tree told a = inr (a, refl)
  told_replies group (denied BadHash) told a = inr (tt, a, refl)
  told_replies group (denied BadMap) told a = inr (tt, a, refl)
  told_replies group absent told a = (a, refl)
  told_replies group (counted n) told a = (a, refl)
  told_replies group reply told a = absurd told

  -- it leaves the open group as it is
  told_regroups : (group : Option ℕ) (reply : Reply) → IsTold reply → Regroups line reply commands group group
  told_regroups group (value bytes) told = refl
  told_regroups group (pairs pair others) told = refl
  told_regroups group (refused why) told = refl
  told_regroups group bad_tree told = refl
  told_regroups group (denied BadHash) told = refl
  told_regroups group (denied BadMap) told = refl
  told_regroups group absent told = refl
  told_regroups group (counted n) told = refl
  told_regroups group reply told = absurd told

  told_goes : (reply : Reply) → IsTold reply → AsksTree p commands line reply → (s : Stage) → GoesBy p s line reply s
  told_goes (value bytes) told a s = refl
  told_goes (pairs pair others) told a s = refl
  told_goes (refused why) told a s = asks_values p s line a.request (is_question p (state_of p commands) (refused why) a.request a.answers) a.asks
  told_goes bad_tree told a s = asks_values p s line a.request (is_question p (state_of p commands) bad_tree a.request a.answers) a.asks
  told_goes (denied BadHash) told a s = asks_values p s line a.request (is_question p (state_of p commands) (denied BadHash) a.request a.answers) a.asks
  told_goes (denied BadMap) told a s = asks_values p s line a.request (is_question p (state_of p commands) (denied BadMap) a.request a.answers) a.asks
  told_goes absent told a s = refl
  told_goes (counted n) told a s = refl
  told_goes reply told a s = absurd told

  -- and says nothing of the engine
  told_is_of : (reply : Reply) → IsTold reply → (engine : EngineView) → IsOfEngine engine line reply
  told_is_of (value bytes) told engine = tt
  told_is_of (pairs pair others) told engine = tt
  told_is_of (refused why) told engine = tt
  told_is_of bad_tree told engine = tt
  told_is_of (denied BadHash) told engine = tt
  told_is_of (denied BadMap) told engine = tt
  told_is_of absent told engine = tt
  told_is_of (counted n) told engine = tt
  told_is_of reply told engine = absurd told

-- nothing is there to be stopped at
pub no_first : (n : ℕ) (op : Command) (rest : List Command) → drop n [] ≡ op ∷ rest → ⊥
no_first zero op rest is = cc is
no_first (suc n) op rest is = cc is

module _ {p : Params} {old now : Disk} {before after : EngineView} {commands : List Command} {line : List ℕ} {request : Request} {result : Result Found Early}
    (holds : Holds p old before commands) (asks : AsksFor line request) (u : IsAsked old now before after request result) where
  abbrev Adds : Ending → Type 0
  Adds ending = AddsFront all_meaning p old now before after holds.world commands [] ending

  done_only : (ending : Ending) → Adds ending → (ending ≡ Short → ⊥) → (ending ≡ Failed → ⊥) → Adds Done
  done_only Done a short failed = a
  done_only (Stopped stop) a short failed = let at = a.stopped stop refl in absurd (no_first a.done at.op at.rest at.here)
  done_only Short a short failed = absurd (short refl)
  done_only Failed a short failed = absurd (failed refl)

  -- what was found answers the line
  done_with : (found : Found) → result ≡ Ok found → IsDone p old now before after holds.world commands line (reply_in found)
  done_with found is =
      let early = not_early u.error result u.ended (subst IsOk (sym is) tt) in
      let adds = done_only (ending_of u.error) (u.adds p commands holds) early.0 early.1 in
      let here = ⊎_elim (λ failed. absurd failed) (λ reached. reached) adds.kept in
      let tells = subst (λ (r : Result Found Early). IfOk r (λ f. tree_answer p (state_of p commands) request ≡ Some (reply_in f))) is (u.tells p commands holds) in
      let reply = reply_in found in
      let told = is_told p (state_of p commands) reply request tells in
      let a : AsksTree p commands line reply = record { request = request; asks = asks; answers = tells } in
      read_done reply (told_replies p commands line (open_in holds.world) reply told a) (λ group. told_regroups p commands line group reply told) (told_goes p commands line reply told a) (told_is_of p commands line reply told after)
      (u.calls.call.quiet holds.shows.shows.told) here.world here.shows (here.commands_are ∙ ap (λ (l : List Command). commands ++ l) (take-nil adds.done) ∙ append-nil commands)
      (⊎_elim (λ failed. absurd failed) (λ rises. rises) adds.rising) (⊎_elim (λ failed. absurd failed) (λ which. which) adds.which)
      (λ i. record { world = (here.ends.1.world_is ∙ run_nothing (meaning_in p) holds.world) i; used = here.ends.1.used_is i; identities = adds.identities i; copied = u.calls.call.copied i })

  pub asked_done : IfOk result (λ found. IsDone p old now before after holds.world commands line (reply_in found))
  asked_done = by_result result refl
    where
      by_result : (r : Result Found Early) → result ≡ r → IfOk r (λ found. IsDone p old now before after holds.world commands line (reply_in found))
      by_result (Ok found) is = done_with found is
      by_result (Err stop) is = tt

  pub asked_images : old.tells_moments → LeavesOnly old now (Working p old before commands line)
  asked_images told =
      let a = u.adds p commands holds in
      weaker old now (Between p old before.group (forced_in before) (length commands) (commands ++ take a.done [])) (Working p old before commands line) (a.images told)
      (λ f s b. record { added = take a.done []; front = inl (take-nil a.done); between = b })

  -- no step is taken
  pub asked_works : Works p old now (stage_of before holds.world) line
  asked_works = works_by p old now (stage_of before holds.world) line (course [] (used_in before) Through) (inr (inr (inl refl))) (u.adds p commands holds).steps
