-- `into_loose` is given a handle that is full, so a box's value lies at its pointer.
use Rattle.std.proofs.Common.{◌≡◌, true, Option, Some, is_some, List, [], ◌∷◌, ◌++◌, refl, sym, subst}
use mir.Syntax.{impl, tnil, dnil}
use mir.Raw.{raw as bare}
use mir.Val.{Val, vptr}
use base.Logic.{SProp, ent, emp, id⊢, never, fst∗}
use types.Logic.{sem}
use base.Fml.{ftrue}
use prog.Wp.{WpFn}
use types.Kit.{‵, raw, ◌⊛◌, ◌$◌, ◌∵◌, !, qed, by, move, keep, split, fsplit, fjoin, fpick, suffices, rewrite, use0}
use types.Run.{stop, fld, of_opd, no_more, and_then, returns, enter}
use types.ByLocal.{alloc_all, pass_all, free_all, look_at, get, get_in, sets}
use types.Part.{agg, sub, whole}
use contract.Monad.{fact, fact_i}
use contract.Running.{tables}
use denote.Exit.{yes}
use denote.RattleType.{owns}
use denote.Signature.{types_at, plain}
use denote.RawPtr.{Ptr, block_ptr, null_ptr, ptr_val, in_a_block}
use denote.Memory.{lone}
use denote.Steps.{nothing, heard}
use denote.Triple.Walked.{Stays, stay_dropped, walk_of}
use Rattle.std.proofs.alloc.Calls.{Al, Goes-blank, handle_tells}
use Rattle.std.proofs.alloc.Global.TheLaws as global
use Rattle.std.specs.contracts.alloc.Global as Global
use Rattle.std.specs.contracts.impls.GlobalAllocator.TheImpl as alloc_impl
use Rattle.std.specs.Box.Ownership.{box_owns}
use Rattle.std.proofs.raw_atomic.Walks.{proved_at, leaves}
use Rattle.embed_c.specs.OwnedTarget.{owned_at}
use Rattle.embed_c.specs.declared.target.Target.{Target}
use Rattle.loose_box.proofs.Values.{both, loose_good, loose_in}
use Rattle.embed_c.specs.contracts.target.Target as store
use Rattle.embed_c.proofs.OnHandles.{some_of}
use Rattle.embed_c.proofs.TargetValues.{one, handle_out}
use Rattle.embed_c.specs.contracts.target_handle.TargetHandle as handle
use Rattle.embed_c.specs.contracts.target_handle.TargetHandle.into_loose as f
use Rattle.embed_c.proofs.target_handle.TargetHandle.into_loose.Statement.{statement}
use Rattle.embed_c.proofs.target_handle.TargetHandle.into_loose.Code as code

pub into_loose_spec : {M : Type 1} → statement M
into_loose_spec 𝓤 𝓛 𝓜 𝓡 wired =
    let H = 𝓛.H in let 𝓣 = tables 𝓤 H 𝓜 𝓡 𝓡.env in let R = store.the_row in let Z = Global.the_row in let LZ = global.the_row_laws in let g = alloc_impl.ghosts in
    let al : Al = record { row = Z; laws = LZ; g = g; d = impl [] tnil dnil; drops = impl [] tnil dnil } in
    let c = f.clauses 𝓛 𝓜.mem 𝓡.returns in let fn = code.function in
    let hs : Stays f.ended.signature.params f.ended.kept = (stay_dropped (plain (λ _. handle.the_row)) yes, (stay_dropped (plain (λ _. Z)) yes, tt)) in
    proved_at 𝓛 f.ended hs c 𝓜 𝓡 (Goes-blank 𝓛 0 (plain (λ _. handle.the_row)) yes (λ κs x f. tt), (Goes-blank 𝓛 0 (plain (λ _. Z)) yes (λ κs x f. tt), tt)) f.Key.name fn (code.unfolded 𝓤 H 𝓜 𝓡 wired) (λ z are.
    let κs = z.0.0 in let d = z.0.3.0 in let a = z.0.3.1.0 in let Post : Val → SProp 𝓤 = (walk_of 𝓛 f.ended hs c).post z in let Run : List Val → SProp 𝓤 = λ ws. WpFn 𝓤 H 𝓣.C 𝓣.Λ fn ws Post in
    qed 𝓛 ((‵ ftrue ⊛ ‵ (owns (types_at f.signature.params κs) z.0.3 z.0.4)) ∷ raw (fact 𝓤 (is_some d.target ≡ true)) ∷ []) ∵ move ! (1 ∷ []) $ heard ! (is_some d.target ≡ true) (λ full. let found = some_of d.target full in let v = found.0 in
    split ! $ move ! (1 ∷ []) $ fsplit ! $ move ! (1 ∷ []) $ fsplit ! $ handle_tells al ! a z.0.4.1.0 (λ h ea fits. move ! (2 ∷ []) $ handle_out ! d z.0.4.0 (λ ws.
    -- [what the handle owns; the allocator; nothing; the tokens]
    rewrite ! 0 (λ (x : Option Target). ‵ (owned_at x d.at)) found.1 refl $ fpick ! (λ a'.
    in_a_block ! d.at (λ (p : Ptr). box_owns (g.dealloc_token a') R p v) (fst∗ 𝓤 (never 𝓤) (sem 𝓛 (g.dealloc_token a' (bare (lone R.mir)) null_ptr))) (λ b o e.
    let w : Val = one (vptr b o) in let us : z.0.4.0 ≡ w ∷ [] = subst (λ (p : Ptr). z.0.4.0 ≡ one (ptr_val p) ∷ []) e ws in
    suffices ! (Run (w ∷ h ∷ [])) (subst (λ (vs : List Val). ent 𝓤 (Run (w ∷ h ∷ [])) (Run vs)) (sym (λ i. us i ++ (ea i ++ []))) (id⊢ 𝓤 (Run (w ∷ h ∷ [])))) $
    enter ! 𝓣.C 𝓣.Λ fn (w ∷ h ∷ []) Post $ alloc_all ! (λ l. pass_all ! refl ((tt, (tt, tt)), (fits, tt)) $
    sets ! (of_opd ! (get_in ! (fld ! refl (stop !)) (sub ! 0 refl (whole !)))) refl (tt, tt) $
    sets ! (of_opd ! (get ! refl)) refl (tt, tt) $
    sets ! (agg ! (and_then ! (get ! refl) (and_then ! (get ! refl) (no_more !)))) refl (loose_good R Z LZ g b o h fits) $
    loose_in R Z LZ g ! b o h a v $
    use0 𝓛 (raw (fact 𝓤 (d.target ≡ Some v))) (fact_i 𝓤 (d.target ≡ Some v) (emp 𝓤) found.1) $ nothing ! $ nothing ! $ fjoin ! $ nothing ! $ fjoin ! $
    returns ! (look_at ! 0 refl) $ free_all ! refl $ keep ! (4 ∷ 0 ∷ 2 ∷ 1 ∷ []) $
    by ! (leaves 𝓛 f.ended hs c z (both (vptr b o) h) (record { at = block_ptr b o; alloc = a; value = v }) _ (tt, (tt, tt))))))))))
