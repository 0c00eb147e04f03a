-- `of` keeps what the box owns, and forgets of which type its value is.
use Rattle.std.proofs.Common.{◌≡◌, Some, List, [], ◌∷◌, ◌++◌, refl, sym, subst}
use mir.Val.{Val, vptr}
use base.Logic.{SProp, ent, emp, id⊢}
use base.Fml.{ftrue}
use prog.Wp.{WpFn}
use types.Kit.{‵, raw, ◌⊛◌, ◌$◌, ◌∵◌, !, qed, by, move, keep, split, fsplit, fjoin, fpack, suffices, use0}
use types.Run.{stop, fld, of_opd, no_more, and_then, returns, enter}
use types.ByLocal.{alloc_all, pass_all, free_all, look_at, get, get_in, sets}
use types.Part.{agg, sub, whole}
use contract.Monad.{fact, fact_i}
use contract.Running.{tables}
use denote.Exit.{yes}
use denote.RattleType.{owns}
use denote.Signature.{types_at, plain}
use denote.RawPtr.{block_ptr}
use denote.Steps.{nothing}
use denote.Triple.Walked.{Stays, stay_dropped, walk_of}
use Rattle.std.proofs.alloc.Calls.{Goes-blank}
use Rattle.std.proofs.alloc.Global.TheLaws as global
use Rattle.std.specs.contracts.alloc.Global as Global
use Rattle.std.specs.contracts.impls.GlobalAllocator.TheImpl as alloc_impl
use Rattle.std.specs.Box.Ownership.{box_owns}
use Rattle.std.proofs.raw_atomic.Walks.{proved_at, leaves}
use Rattle.loose_box.proofs.Values.{both, loose_good, loose_out, Loose}
use Rattle.embed_c.specs.contracts.target.Target as store
use Rattle.embed_c.proofs.TargetValues.{one, handle_in}
use Rattle.embed_c.specs.declared.target_handle.TargetHandle.{TargetHandle}
use Rattle.embed_c.specs.contracts.target_handle.TargetHandle.of as f
use Rattle.embed_c.proofs.target_handle.TargetHandle.of.Statement.{statement}
use Rattle.embed_c.proofs.target_handle.TargetHandle.of.Code as code

pub of_spec : {M : Type 1} → statement M
of_spec 𝓤 𝓛 𝓜 𝓡 wired =
    let H = 𝓛.H in let 𝓣 = tables 𝓤 H 𝓜 𝓡 𝓡.env in let R = store.the_row in let Z = Global.the_row in let LZ = global.the_row_laws in let g = alloc_impl.ghosts in
    let c = f.clauses 𝓛 𝓜.mem 𝓡.returns in let fn = code.function in
    let hs : Stays f.ended.signature.params f.ended.kept = (stay_dropped (plain (λ _. Loose R Z LZ g)) yes, tt) in
    proved_at 𝓛 f.ended hs c 𝓜 𝓡 (Goes-blank 𝓛 0 (plain (λ _. Loose R Z LZ g)) yes (λ κs x f. tt), tt) f.Key.name fn (code.unfolded 𝓤 H 𝓜 𝓡 wired) (λ z are.
    let κs = z.0.0 in let v = z.0.3.0 in let Post : Val → SProp 𝓤 = (walk_of 𝓛 f.ended hs c).post z in let Run : List Val → SProp 𝓤 = λ ws. WpFn 𝓤 H 𝓣.C 𝓣.Λ fn ws Post in
    qed 𝓛 ((‵ ftrue ⊛ ‵ (owns (types_at f.signature.params κs) z.0.3 z.0.4)) ∷ ‵ ftrue ∷ []) ∵ split ! $ move ! (1 ∷ []) $ fsplit ! $ loose_out R Z LZ g ! v z.0.4.0 (λ b o h e ws fits.
    let w : Val = both (vptr b o) h in
    suffices ! (Run (w ∷ [])) (subst (λ (us : List Val). ent 𝓤 (Run (w ∷ [])) (Run us)) (sym (λ i. ws i ++ [])) (id⊢ 𝓤 (Run (w ∷ [])))) $
    enter ! 𝓣.C 𝓣.Λ fn (w ∷ []) Post $ alloc_all ! (λ l. pass_all ! refl (loose_good R Z LZ g b o h fits, tt) $
    sets ! (of_opd ! (get_in ! (fld ! refl (stop !)) (sub ! 0 refl (whole !)))) refl (tt, tt) $
    sets ! (of_opd ! (get_in ! (fld ! refl (stop !)) (sub ! 1 refl (whole !)))) refl fits $
    sets ! (of_opd ! (get ! refl)) refl (tt, tt) $
    sets ! (agg ! (and_then ! (get ! refl) (no_more !))) refl (tt, (tt, tt)) $
    let d : TargetHandle = record { at = block_ptr b o; target = Some v.value } in
    fpack ! Z.Denot (λ (a : Z.Denot). box_owns (g.dealloc_token a) R (block_ptr b o) v.value) v.alloc $ handle_in ! d $
    use0 𝓛 (raw (fact 𝓤 (d.target ≡ Some v.value))) (fact_i 𝓤 (d.target ≡ Some v.value) (emp 𝓤) refl) $ nothing ! $ nothing ! $ fjoin ! $
    returns ! (look_at ! 0 refl) $ free_all ! refl $ keep ! (5 ∷ 0 ∷ 2 ∷ 1 ∷ []) $
    by ! (leaves 𝓛 f.ended hs c z (one (vptr b o)) d _ (tt, tt)))))
