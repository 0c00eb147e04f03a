-- Commands that are staged: none is logged yet, and the values that they make are laid over those of the store.
use Rattle.std.specs.Prelude.{◌≡◌, ◌⊎◌, ◌++◌, ℕ, List, true, false}
use Rattle.std.specs.Option.{option_map_or}
use Rattle.disk_model.specs.Disk.{Disk, Rises, Stays}
use Rattle.oper_core.specs.State.{State}
use Rattle.oper_core.specs.Meaning.{Meaning}
use Rattle.oper_core.specs.declared.bounds.Bounds.{Bounds}
use Rattle.formats.specs.declared.params.Params.{Params}
use Rattle.dirty_cache.specs.Contents.{Contents, held}
use Rattle.store_engine.specs.Engine.{EngineView, Holds, IsAttached, params_of, records_of}
use Rattle.store_engine.specs.Store.{meaning_in, state_of}
use Rattle.transactions.specs.Accepted.{AreAccepted}

-- the values that were made, laid over a state
abbrev pub overlaid : Contents → State → State
overlaid made s x = option_map_or (λ e. e.bytes) (held made x) (s x)

-- The commands are staged on a store with these: nothing refuses them, one after the other; each object has the value that it
-- would have with all of them done; and their records have so many bytes.
pub record IsStaged {O : Type 0} (meaning : Bounds → Meaning O) (p : Params) (commands ops : List O) (bytes : ℕ) (made : Contents) : Type 0 where
  pub accepted : AreAccepted (meaning_in meaning p) (state_of meaning p commands) ops
  pub values : (x : ℕ) → overlaid made (state_of meaning p commands) x ≡ state_of meaning p (commands ++ ops) x
  pub bytes_are : bytes ≡ records_of meaning p ops

-- A call reads the store alone: files, log, numbers, counts and group stay, a backup is where it was, the engine stays attached to
-- its files, and both stand for what they stood for, unless the disk failed. That breaks the engine, and the disk counted it.
pub record OnlyReads {O : Type 0} (meaning : Bounds → Meaning O) (old new : Disk) (before after : EngineView) (failed : Type 0) : Type 0 where
  pub kept : Stays old new
  pub log : after.parts.log ≡ before.parts.log
  pub params : params_of after ≡ params_of before
  pub group : after.group ≡ before.group
  pub copied : after.copied ≡ before.copied
  pub identities : after.identities ≡ before.identities
  pub attached : IsAttached meaning old before → IsAttached meaning new after
  pub broken : failed ⊎ (after.broken ≡ false)
  pub fault : failed → (after.broken ≡ true) × Rises old.disk_faults new.disk_faults
  pub holds : (p : Params) (commands : List O) → Holds meaning p old before commands → failed ⊎ Holds meaning p new after commands
