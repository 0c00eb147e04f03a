use Rattle.std.proofs.Common.{◌≤◌, ℕ, List, refl, arith}
use Rattle.std.specs.Prelude.{IsTrue, nat_lt}
use Rattle.std.proofs.lemmas.Bool.{ltb-true}
use Rattle.oper_core.specs.State.{State}
use Rattle.oper_core.specs.declared.bounds.Bounds.{Bounds}
use Rattle.formats.specs.Objects.{bounds_of}
use Rattle.key_entries.specs.EntryLaws.{both_true}
use Rattle.key_entries.specs.Short.{is_short}
use Rattle.op_codec.specs.AllOps.{hash}
use Rattle.call_plans.specs.Laws.{Acts}
use Rattle.hash_ops.specs.Operation.{hash_meaning}
use Rattle.hash_file.specs.File.{IsHash, content_of}
use Rattle.hash_file.specs.Laws.{IsRange, PutActs, DeleteActs}
use Rattle.range_calls.specs.OnlyCalls.{IsShortCall, MapCall, puts, deletes, change_of}
use Rattle.range_calls.specs.OnlyCallsLaws.{only_calls_keep, part_commands, files_keep}
use Rattle.hash_client.specs.Calls.{call_plan}
use Rattle.hash_client.proofs.whole_runs.only_calls_keep_the_file.Goals as goal

module _ (b : Bounds) (lo hi : ℕ) (range : IsRange b lo hi) where
  order : lo ≤ hi
  order = omega (arith, ltb-true lo hi (both_true (nat_lt lo hi) (nat_lt hi b.objects) range.there).0)

  acts : ((s : State) (key value : List ℕ) → IsTrue (is_short key) → IsTrue (is_short value) → IsHash lo hi s → PutActs b lo hi s key value)
      → ((s : State) (key : List ℕ) → IsHash lo hi s → DeleteActs b lo hi s key)
      → (s : State) (call : MapCall) → IsShortCall call → IsHash lo hi s → Acts (hash_meaning b) (IsHash lo hi) (content_of lo) s (change_of call) (call_plan b lo hi s call)
  acts put delete s (puts key value) short is = put s key value short.0 short.1 is
  acts put delete s (deletes key) short is = delete s key is

pub returns : goal.returns
returns c =
    let map = c.a_hash_file_is_a_map.ensures in
    let own = c.a_hash_file_depends_on_its_range.ensures in
    let one = c.files_stand_for_one_state.ensures in
    record {
      commands = λ p lo hi range.
          let b = bounds_of p in
          only_calls_keep p lo hi hash (call_plan b lo hi) (IsHash lo hi) (content_of lo) (hash_meaning b) (λ s op. refl) (own lo hi (order b lo hi range))
          (acts b lo hi range (λ s key value short fits is. map.put b lo hi s key value range short fits is) (λ s key is. map.delete b lo hi s key range is));
      files = λ p lo hi range.
          let b = bounds_of p in
          files_keep p lo hi hash (call_plan b lo hi) (IsHash lo hi) (content_of lo) (hash_meaning b) (λ s op. refl) (own lo hi (order b lo hi range))
          (acts b lo hi range (λ s key value short fits is. map.put b lo hi s key value range short fits is) (λ s key is. map.delete b lo hi s key range is)) one.store one.state;
      part = λ p lo hi s call n. part_commands p lo hi hash (call_plan (bounds_of p) lo hi) s call n;
    }
