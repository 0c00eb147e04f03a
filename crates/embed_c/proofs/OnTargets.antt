-- Where the sessions and targets behind handles are known.
use Rattle.std.proofs.Common.{◌≡◌, ◌∙◌, ℕ, true, false, Option, None, Some, is_some, ap, subst, sym, refl}
use Rattle.disk_model.specs.Disk.{Files}
use Rattle.embed_c.specs.Backups.{ClosesTarget, IsTargetOf, OnBoth, OnTarget, OpensTarget, no_target}
use Rattle.embed_c.specs.Handles.{already_open}
use Rattle.embed_c.specs.declared.session.Session.{Session}
use Rattle.embed_c.specs.declared.target.Target.{Target}
use Rattle.embed_c.proofs.OnHandles.{none_where, some_of}

module _ (does : Target → Target → ℕ → Type 0) where
  pub was_closed : {old new : Option Target} → old ≡ None → new ≡ None → OnTarget does old new no_target
  was_closed {new = new} before after = subst (λ (o : Option Target). OnTarget does o new no_target) (sym before) (subst (λ (o : Option Target). OnTarget does None o no_target) (sym after) refl)

  pub was_open : {old new : Option Target} {t seen u : Target} {answer : ℕ} → old ≡ Some t → seen ≡ t → new ≡ Some u → does seen u answer → OnTarget does old new answer
  was_open {new = new} {seen = seen} {answer = answer} before same after done =
      subst (λ (o : Option Target). OnTarget does o new answer) (sym (before ∙ ap (λ (x : Target). Some x) (sym same))) (subst (λ (o : Option Target). OnTarget does (Some seen) o answer) (sym after) done)

module _ (does : Session → Session → Target → Target → ℕ → Type 0) where
  pub both_open : {old new : Option Session} {target target' : Option Target} {s seen s' : Session} {t met t' : Target} {answer : ℕ}
      → old ≡ Some s → seen ≡ s → new ≡ Some s' → target ≡ Some t → met ≡ t → target' ≡ Some t' → does seen s' met t' answer → OnBoth does old new target target' answer
  both_open {new = new} {target = target} {target' = target'} {seen = seen} {s' = s'} {met = met} {answer = answer} before same after there as_there there' done =
      subst (λ (o : Option Session). OnBoth does o new target target' answer) (sym (before ∙ ap (λ (x : Session). Some x) (sym same)))
      (subst (λ (o : Option Session). OnBoth does (Some seen) o target target' answer) (sym after)
      (subst (λ (o : Option Target). OnBoth does (Some seen) (Some s') o target' answer) (sym (there ∙ ap (λ (x : Target). Some x) (sym as_there)))
      (subst (λ (o : Option Target). OnBoth does (Some seen) (Some s') (Some met) o answer) (sym there') done)))

module _ (files : Files) where
  pub stays_open : (o : Option Target) → is_some o ≡ true → OpensTarget files o o already_open
  stays_open o there = let found = some_of o there in subst (λ (p : Option Target). OpensTarget files p p already_open) (sym found.1) (refl, refl)

  pub stays_closed : (o : Option Target) → is_some o ≡ false → OpensTarget files o o 8
  stays_closed o none = subst (λ (p : Option Target). OpensTarget files p p 8) (sym (none_where o none)) refl

  pub now_open : (old new : Option Target) (t : Target) → is_some old ≡ false → new ≡ Some t → IsTargetOf files t → OpensTarget files old new 0
  now_open old new t none there is = subst (λ (o : Option Target). OpensTarget files o new 0) (sym (none_where old none)) (subst (λ (o : Option Target). OpensTarget files None o 0) (sym there) (is, refl))

pub now_closed : (old new : Option Target) (t : Target) → old ≡ Some t → new ≡ None → ClosesTarget old new 0
now_closed old new t there none = subst (λ (o : Option Target). ClosesTarget o new 0) (sym there) (none, refl)

pub was_none : (old new : Option Target) → old ≡ None → new ≡ None → ClosesTarget old new no_target
was_none old new there none = subst (λ (o : Option Target). ClosesTarget o new no_target) (sym there) (none, refl)
