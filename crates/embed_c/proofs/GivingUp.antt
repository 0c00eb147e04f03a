-- A group on the session behind a handle is given up.
use Rattle.std.proofs.Common.{◌≡◌, ◌∙◌, ℕ, false, Option, None, Some, Result, Ok, Err, IfOk, IfSome, ap, subst, sym, refl, inl, inr}
use Rattle.std.specs.Global.{Global}
use Rattle.std.specs.Prelude.{Box, IfNone, IsSome}
use Rattle.std.specs.Result.{result_ok}
use Rattle.embed_c.specs.Answers.{alone}
use Rattle.embed_c.specs.Calls.{DoesNothing}
use Rattle.embed_c.specs.GivenUp.{GivesUp, IsGivenUp, IsLost, PutsBack, no_group_in}
use Rattle.embed_c.specs.Handles.{not_open}
use Rattle.embed_c.specs.declared.session.Session.{Session}

pub where_ok : {T E : Type 0} (P : T → Type 0) (r : Result T E) → IfOk r P → IfSome (result_ok r) P
where_ok P (Ok x) is = is
where_ok P (Err e) is = tt

pub on_none : {T P : Type 0} (made : Option T) → P → IfNone made P
on_none None is = is
on_none (Some x) is = tt

pub boxed_as : (P : Session → Type 0) {t : Session} (made : Option (Box Session Global)) → IfSome made (λ it. it.value ≡ t) → P t → IfSome made (λ it. P it.value)
boxed_as P None is given = tt
boxed_as P (Some it) is given = subst P (sym is) given

pub none_back : (made : Option (Box Session Global)) (says : ℕ) (new : Option Session) → made ≡ None → new ≡ None → PutsBack made says new 5
none_back made says new is none = subst (λ (o : Option (Box Session Global)). PutsBack o says new 5) (sym is) (none, refl)

pub is_back : {it : Box Session Global} (made : Option (Box Session Global)) (says : ℕ) (new : Option Session) → made ≡ Some it → new ≡ Some it.value → PutsBack made says new says
is_back made says new is there = subst (λ (o : Option (Box Session Global)). PutsBack o says new says) (sym is) (there, refl)

pub was_closed : (old new : Option Session) → old ≡ None → new ≡ None → GivesUp old new not_open
was_closed old new before after = subst (λ (o : Option Session). GivesUp o new not_open) (sym before) (after, refl)

-- no group is open
pub without_group : {old new : Option Session} {s seen t : Session} {answer : ℕ} → old ≡ Some s → seen ≡ s → new ≡ Some t → (seen.store.engine.broken ≡ false → seen.store.engine.group ≡ None)
    → DoesNothing (alone (no_group_in seen)) seen t answer → GivesUp old new answer
without_group {new = new} {seen = seen} {t = t} {answer = answer} before same after none done =
    subst (λ (o : Option Session). GivesUp o new answer) (sym (before ∙ ap (λ (x : Session). Some x) (sym same))) (subst (λ (o : Option Session). GivesUp (Some seen) o answer) (sym after) (inl (none, done)))

-- one was, and is given up
put_where : (s : Session) (made : Option (Box Session Global)) (new : Option Session) (answer : ℕ) → IsSome s.store.engine.group → IfSome made (λ it. IsGivenUp s it.value) → IfNone made (IsLost s.store) → PutsBack made 0 new answer → GivesUp (Some s) new answer
put_where s None new answer grouped given lost put = subst (λ (o : Option Session). GivesUp (Some s) o answer) (sym put.0) (grouped, lost, put.1)
put_where s (Some it) new answer grouped given lost put = subst (λ (o : Option Session). GivesUp (Some s) o answer) (sym put.0) (inr (grouped, given, put.1))

pub gave_up : {old : Option Session} {s seen : Session} (made : Option (Box Session Global)) (new : Option Session) (answer : ℕ) → old ≡ Some s → seen ≡ s → IsSome seen.store.engine.group
    → IfSome made (λ it. IsGivenUp seen it.value) → IfNone made (IsLost seen.store) → PutsBack made 0 new answer → GivesUp old new answer
gave_up {seen = seen} made new answer before same grouped given lost put =
    subst (λ (o : Option Session). GivesUp o new answer) (sym (before ∙ ap (λ (x : Session). Some x) (sym same))) (put_where seen made new answer grouped given lost put)
