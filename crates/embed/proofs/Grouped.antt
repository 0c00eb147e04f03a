-- Groups and transactions on a store in use.
use Rattle.std.proofs.Common.{◌≡◌, ◌∙◌, ℕ, ◌+◌, ◌≤◌, Bool, true, false, None, Option, Result, Some, Ok, Err, List, [], ◌∷◌, ◌++◌, length, get_or, subst, sym, ap, refl, inr, arith, length-append}
use Rattle.std.specs.Prelude.{IfSome, OnOk}
use lib.Dec.{T}
use Rattle.disk_model.specs.Disk.{Disk, IsDisk}
use Rattle.disk_model.specs.Moments.{stays_here}
use Rattle.disk_model.specs.declared.machine.Failed.{Failed}
use Rattle.formats.specs.declared.params.Params.{Params}
use Rattle.dirty_cache.specs.Contents.{Contents}
use Rattle.op_codec.specs.AllOps.{AllOps, all_meaning}
use Rattle.store_engine.specs.Calls.{IsBeginning, work_of_force}
use Rattle.store_engine.specs.Engine.{EngineView, Holds, commands_since, params_of, used_in}
use Rattle.store_engine.specs.declared.work_err.WorkErr.{WorkErr}
use Rattle.transactions.specs.Keeping.{KeepsOld}
use Rattle.transactions.specs.Room.{HasRoomOf}
use Rattle.transactions.specs.Snapshots.{KeepsOn}
use Rattle.transactions.specs.Staged.{OnlyReads}
use Rattle.transactions.specs.declared.snapshot.Snapshot.{Snapshot}

-- nothing is said of a group where none is open
pub none_open : (P : ℕ → Type 0) (next : ℕ) (group : Option ℕ) → group ≡ None → IfSome (commands_since next group) P
none_open P next group none = subst (λ (g : Option ℕ). IfSome (commands_since next g) P) (sym none) tt

-- an engine that stands for commands is not broken
pub unbroken_where : {A : Type 0} {b : Bool} (engine : EngineView) → engine.broken ≡ false → b ≡ true → b ≡ engine.broken → A
unbroken_where engine unbroken is same = absurd (subst T (sym is ∙ same ∙ unbroken) tt)

-- nothing is read, and nothing failed
pub reads_none : (d : Disk) (engine : EngineView) (failed : Type 0) → IsDisk d → engine.broken ≡ false → (failed → ⊥) → OnlyReads all_meaning d d engine engine failed
reads_none d engine failed lawful fine none = record {
  kept = stays_here d lawful;
  log = refl;
  params = refl;
  group = refl;
  copied = refl;
  identities = refl;
  attached = λ is. is;
  broken = inr fine;
  fault = λ f. absurd (none f);
  holds = λ p commands holds. inr holds;
}

-- what is kept once is kept
pub keeps_on_same : (snapshot : Snapshot) → KeepsOn snapshot snapshot
keeps_on_same snapshot = by_kept snapshot.kept
  where
    by_kept : (o : Option Contents) → IfSome o (λ after. (before : Contents) × (o ≡ Some before) × KeepsOld before after)
    by_kept None = tt
    by_kept (Some kept) = (kept, refl, λ x some. refl)

module _ (last value : List ℕ) where
  alone : (rest : List (List ℕ)) → rest ++ last ∷ [] ≡ value ∷ [] → last ≡ value
  alone [] same = ap (λ (l : List (List ℕ)). get_or l 0 []) same
  alone (x ∷ xs) same = absurd (omega (arith, ap (λ (l : List (List ℕ)). length l) same, length-append xs (last ∷ [])))

  -- the last value of a list to which this one was added while it was empty
  pub last_of : (filled none rest : List (List ℕ)) → none ≡ [] → filled ≡ none ++ value ∷ [] → filled ≡ rest ++ last ∷ [] → last ≡ value
  last_of filled none rest empty is split = alone rest (sym split ∙ is ∙ ap (λ (l : List (List ℕ)). l ++ value ∷ []) empty)

module _ (old new : Disk) (before after : EngineView) (p : Params) (commands : List AllOps) (holds : Holds all_meaning p old before commands) (bytes : ℕ) (room : HasRoomOf before bytes) where
  -- a force makes the log no longer than what waits was counted for
  pub begun_room : {T : Type 0} (answer : Result T Failed) (result : Result T WorkErr) → result ≡ work_of_force answer → IsBeginning all_meaning old new before after answer → OnOk result (HasRoomOf after bytes)
  begun_room {T} (Ok value) result is begun =
      let used : used_in after ≡ used_in before = (begun.takes.follows p holds.world holds.shows).1.used in
      let same : params_of after ≡ params_of before = begun.call.params in
      subst (λ (r : Result T WorkErr). OnOk r (HasRoomOf after bytes)) (sym is)
      (subst (λ (n : ℕ). n + 5 + bytes ≤ (params_of after).limit) (sym used) (subst (λ (q : Params). used_in before + 5 + bytes ≤ q.limit) (sym same) room))
  begun_room {T} (Err e) result is begun = subst (λ (r : Result T WorkErr). OnOk r (HasRoomOf after bytes)) (sym is) tt
