-- `empty` owns nothing, and its pointer is null.
use Rattle.std.proofs.Common.{◌≡◌, [], ◌∷◌, None, refl, lit<}
use base.Logic.{emp}
use base.Fml.{ftrue}
use types.Kit.{‵, raw, ◌⊛◌, ◌$◌, ◌∵◌, !, qed, by, keep, split, use0}
use types.Run.{lit, no_more, and_then, returns, enter}
use types.ByLocal.{alloc_all, pass_all, free_all, look_at, sets}
use types.Part.{agg}
use contract.Monad.{fact, fact_i}
use denote.RawPtr.{null_ptr, ptr_val}
use denote.Steps.{nothing}
use Rattle.std.proofs.raw_atomic.Walks.{proved, leaves}
use Rattle.embed_c.proofs.TargetValues.{one, handle_in}
use Rattle.embed_c.specs.declared.target_handle.TargetHandle.{TargetHandle}
use Rattle.embed_c.specs.contracts.target_handle.TargetHandle.empty as f
use Rattle.embed_c.proofs.target_handle.TargetHandle.empty.Statement.{statement}
use Rattle.embed_c.proofs.target_handle.TargetHandle.empty.Code as code

pub empty_spec : {M : Type 1} → statement M
empty_spec 𝓤 𝓛 𝓜 𝓡 wired =
    let c = f.clauses 𝓛 𝓜.mem 𝓡.returns in
    proved 𝓛 f.ended tt c 𝓜 𝓡 tt f.Key.name code.function (code.unfolded 𝓤 𝓛.H 𝓜 𝓡 wired)
    (λ κs. tt) (λ κs. tt) (λ κs qs bounds a g are.
    let d : TargetHandle = record { at = null_ptr; target = None } in
    qed 𝓛 ((‵ ftrue ⊛ ‵ ftrue) ∷ ‵ ftrue ∷ []) ∵ split ! $
    enter ! _ _ _ _ _ $ alloc_all ! (λ l. pass_all ! refl tt $
    sets ! (agg ! (and_then ! (lit ! tt) (no_more !))) refl (tt, (record { fits = lit< tt }, tt)) $
    nothing ! $ handle_in ! d $
    use0 𝓛 (raw (fact 𝓤 (d.target ≡ None))) (fact_i 𝓤 (d.target ≡ None) (emp 𝓤) refl) $ nothing ! $
    returns ! (look_at ! 0 refl) $ free_all ! refl $ keep ! (3 ∷ 0 ∷ 2 ∷ 1 ∷ []) $
    by ! (leaves 𝓛 f.ended tt c ((κs, qs, bounds, a, tt), g) (one (ptr_val null_ptr)) d tt tt)))
