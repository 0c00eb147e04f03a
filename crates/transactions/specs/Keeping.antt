-- Values are kept beside those that were kept before.
use Rattle.std.specs.Prelude.{◌≡◌, ℕ, List, None, IfSome, IsSome}
use Rattle.oper_core.specs.Meaning.{Meaning}
use Rattle.oper_core.specs.declared.bounds.Bounds.{Bounds}
use Rattle.formats.specs.declared.params.Params.{Params}
use Rattle.dirty_cache.specs.Contents.{Contents, held}
use Rattle.store_engine.specs.Store.{state_of}

-- what was kept is kept as it was
abbrev pub KeepsOld : Contents → Contents → Type 0
KeepsOld old new = (x : ℕ) → IsSome (held old x) → held new x ≡ held old x

-- what is kept beside it is the value after the commands
abbrev pub AddsValues : {O : Type 0} → (Bounds → Meaning O) → Params → List O → Contents → Contents → Type 0
AddsValues meaning p commands old new = (x : ℕ) → held old x ≡ None → IfSome (held new x) (λ e. e.bytes ≡ state_of meaning p commands x)
