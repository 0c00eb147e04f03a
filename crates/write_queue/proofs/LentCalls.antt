-- Calls of a machine over bytes that are lent.
use Rattle.std.proofs.Common.{◌≡◌, inl, inr, ◌<◌, ◌+◌, ◌^◌, ◌++◌, ℕ, List, [], ◌∷◌, length, sym, ◌∙◌, ap, subst, arith}
use Rattle.disk_model.specs.Disk.{Files, In, HoldsAt, written_over}
use Rattle.disk_model.specs.Moments.{same_file}
use Rattle.disk_model.specs.Call.{Call, Write, Sync, Say}
use Rattle.disk_model.specs.CallLaws.{changed_here, changed_others}
use Rattle.disk_model.specs.declared.machine.FileNo.{FileNo}
use Rattle.write_queue.specs.Lent.{AreShort}
use Rattle.write_queue.specs.Looking.{file_step, file_after}
use Rattle.write_queue.specs.LookingLaws.{after_both}
use Rattle.write_queue.proofs.Windows.{over_long}

module _ (lent : Files) (waiting later : List Call) where
  -- what was seen
  abbrev seen : Files
  seen file = file_after file (lent file) waiting

  -- and what is seen now
  abbrev now : Files
  now file = file_after file (lent file) later

  module _ (call : Call) (is : later ≡ waiting ++ call ∷ []) where
    one_more : (file : FileNo) → now file ≡ file_step file call (seen file)
    one_more file = ap (λ (l : List Call). file_after file (lent file) l) is ∙ after_both file (lent file) waiting (call ∷ [])

  -- a write is seen in its file
  pub write_seen : (file : FileNo) (at : ℕ) (bytes : List ℕ) → later ≡ waiting ++ Write file at bytes ∷ [] → In file (HoldsAt at bytes) seen now
  write_seen file at bytes is = record {
    changed = one_more (Write file at bytes) is file ∙ changed_here file (written_over at bytes (seen file)) (λ f. seen file);
    others = λ other is_other. one_more (Write file at bytes) is other ∙ changed_others file (written_over at bytes (seen other)) (λ f. seen other) other is_other;
  }

  -- a sync and what is said are not
  pub sync_seen : (file : FileNo) → later ≡ waiting ++ Sync file ∷ [] → now ≡ seen
  sync_seen file is = λ i other. one_more (Sync file) is other i

  pub say_seen : (bytes : List ℕ) → later ≡ waiting ++ Say bytes ∷ [] → now ≡ seen
  say_seen bytes is = λ i other. one_more (Say bytes) is other i

  pub same_seen : later ≡ waiting → now ≡ seen
  same_seen is = λ i other. file_after other (lent other) (is i)

  -- a file stays short over a write that ends within the places of 64 bits
  pub still_short : (file : FileNo) (at : ℕ) (bytes : List ℕ) → later ≡ waiting ++ Write file at bytes ∷ [] → at + length bytes < 2 ^ 64 → AreShort seen → AreShort now
  still_short file at bytes is ends short other = elim (same_file other file) [
    | inl same ↦ subst (λ (f : FileNo). length (now f) < 2 ^ 64) (sym same) (omega (arith, ap length (write_seen file at bytes is).changed, over_long at bytes (seen file), short file, ends))
    | inr differ ↦ omega (arith, ap length ((write_seen file at bytes is).others other differ), short other)
  ]
