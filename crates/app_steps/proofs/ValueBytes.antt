-- After commands of bytes each value consists of bytes.
use Rattle.std.proofs.Common.{ℕ, Bool, true, false, cond, List, [], ◌∷◌, All, get_or}
use Rattle.std.specs.Prelude.{◌==◌, fold}
use Rattle.std.proofs.lemmas.List.Elements.{All-head, All-map, All-tail}
use Rattle.oper_core.specs.State.{State, is_among, value_for}
use Rattle.oper_core.specs.Meaning.{after, read_values}
use Rattle.oper_core.specs.declared.bounds.Bounds.{Bounds}
use Rattle.app_program.specs.OneCode.{AreBytes}
use Rattle.op_codec.specs.AllOps.{AllOps, all_meaning}
use Rattle.op_codec.specs.declared.sum.Sum.TheVariants.{First, Second}
use Rattle.app_steps.proofs.BlockBytes.{hash_bytes}
use Rattle.app_steps.proofs.ByteLists.{no_bytes}
use Rattle.app_steps.proofs.NodeBytes.{node_bytes}
use Rattle.app_steps.proofs.PageBytes.{page_bytes}
use Rattle.app_steps.proofs.RowBytes.{plain_bytes, program_bytes}

module _ (b : Bounds) where
  effect_bytes : (op : AllOps) (values : List (List ℕ)) → AreBytes ((all_meaning b).code op) → All AreBytes values → All AreBytes ((all_meaning b).effect op values)
  effect_bytes (First op) values code all = plain_bytes b op values code all
  effect_bytes (Second (First op)) values code all = node_bytes b op values code all
  effect_bytes (Second (Second (First op))) values code all = program_bytes b op values all
  effect_bytes (Second (Second (Second (First op)))) values code all = hash_bytes b op values code all
  effect_bytes (Second (Second (Second (Second op)))) values code all = page_bytes b op values code all

  either : (t : Bool) (v w : List ℕ) → AreBytes v → AreBytes w → AreBytes (cond t v w)
  either true v w one two = one
  either false v w one two = two

  written_bytes : (x : ℕ) (objects : List ℕ) (values : List (List ℕ)) → All AreBytes values → AreBytes (value_for x objects values)
  written_bytes x [] values all = no_bytes
  written_bytes x (y ∷ objects) [] all = no_bytes
  written_bytes x (y ∷ objects) (v ∷ values) all =
      either (x == y) v (value_for x objects values) (All-head AreBytes v values all) (written_bytes x objects values (All-tail AreBytes v values all))

  after_bytes : (s : State) (op : AllOps) → AreBytes ((all_meaning b).code op) → ((x : ℕ) → AreBytes (s x)) → (x : ℕ) → AreBytes (after (all_meaning b) s op x)
  after_bytes s op code are x =
      let m = all_meaning b in
      let read : All AreBytes (read_values m s op) = All-map AreBytes s (m.reads op) (λ k d within. are (get_or (m.reads op) k d)) in
      either (is_among x (m.writes op)) (value_for x (m.writes op) (m.effect op (read_values m s op))) (s x)
      (written_bytes x (m.writes op) (m.effect op (read_values m s op)) (effect_bytes op (read_values m s op) code read)) (are x)

  pub commands_bytes : (commands : List AllOps) (s : State) → All (λ op. AreBytes ((all_meaning b).code op)) commands → ((x : ℕ) → AreBytes (s x))
      → (x : ℕ) → AreBytes (fold (after (all_meaning b)) s commands x)
  commands_bytes [] s codes are = are
  commands_bytes (op ∷ ops) s codes are =
      commands_bytes ops (after (all_meaning b) s op) (All-tail (λ op. AreBytes ((all_meaning b).code op)) op ops codes)
      (after_bytes s op (All-head (λ op. AreBytes ((all_meaning b).code op)) op ops codes) are)
