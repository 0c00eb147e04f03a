-- Where the sessions behind a handle are known.
use Rattle.std.proofs.Common.{◌≡◌, ◌≢◌, ◌∙◌, ℕ, true, false, Option, None, Some, Result, Ok, Err, IfOk, IfErr, is_some, ap, subst, sym, refl}
use lib.Dec.{T}
use Rattle.embed_c.specs.Handles.{OnSession, OpensHandle, already_open, not_open}
use Rattle.embed_c.specs.declared.answer.Answer.{Answer}
use Rattle.embed_c.specs.declared.answer.Detail.{Detail}
use Rattle.embed_c.specs.declared.session.Session.{Session}

pub some_of : {A : Type 0} (o : Option A) → is_some o ≡ true → (a : A) × (o ≡ Some a)
some_of None e = absurd (subst T (sym e) tt)
some_of (Some a) e = (a, refl)

module _ (does : Session → Session → ℕ → Type 0) where
  pub was_closed : {old new : Option Session} → old ≡ None → new ≡ None → OnSession does old new not_open
  was_closed {new = new} before after = subst (λ (o : Option Session). OnSession does o new not_open) (sym before) (subst (λ (o : Option Session). OnSession does None o not_open) (sym after) refl)

  pub was_open : {old new : Option Session} {s seen t : Session} {answer : ℕ} → old ≡ Some s → seen ≡ s → new ≡ Some t → does seen t answer → OnSession does old new answer
  was_open {new = new} {seen = seen} {answer = answer} before same after done =
      subst (λ (o : Option Session). OnSession does o new answer) (sym (before ∙ ap (λ (x : Session). Some x) (sym same))) (subst (λ (o : Option Session). OnSession does (Some seen) o answer) (sym after) done)

pub none_where : {A : Type 0} (o : Option A) → is_some o ≡ false → o ≡ None
none_where None e = refl
none_where (Some a) e = absurd (subst T e tt)

-- what holds of a result holds of the value that it is, or of the error
pub of_ok : {T E : Type 0} (P : T → Type 0) (r : Result T E) (x : T) → IfOk r P → r ≡ Ok x → P x
of_ok {T} {E} P r x h is = subst (λ (r : Result T E). IfOk r P) is h

pub of_err : {T E : Type 0} (P : E → Type 0) (r : Result T E) (e : E) → IfErr r P → r ≡ Err e → P e
of_err {T} {E} P r e h is = subst (λ (r : Result T E). IfErr r P) is h

module _ (is : Session → Type 0) (why : Answer → Type 0) where
  pub stays_open : (o : Option Session) (detail : Detail) → is_some o ≡ true → OpensHandle is why o o detail already_open
  stays_open o detail there = let found = some_of o there in subst (λ (p : Option Session). OpensHandle is why p p detail already_open) (sym found.1) (refl, refl)

  pub stays_closed : (o : Option Session) (told : Answer) (detail : Detail) (answer : ℕ) → o ≡ None → why told → answer ≡ told.number → detail ≡ told.detail → answer ≢ 0 → OpensHandle is why o o detail answer
  stays_closed o told detail answer none cause number beside fails =
      subst (λ (p : Option Session). OpensHandle is why p p detail answer) (sym none) (record { told = told; cause = cause; number = number; beside = beside; not_done = fails })

  pub now_open : (old new : Option Session) (s : Session) (detail : Detail) → old ≡ None → new ≡ Some s → is s → OpensHandle is why old new detail 0
  now_open old new s detail none there holds = subst (λ (o : Option Session). OpensHandle is why o new detail 0) (sym none) (subst (λ (o : Option Session). OpensHandle is why None o detail 0) (sym there) (holds, refl))

  pub opens_as : (also : Session → Type 0) (because : Answer → Type 0) → ((s : Session) → is s → also s) → ((told : Answer) → why told → because told)
      → (old new : Option Session) (detail : Detail) (answer : ℕ) → OpensHandle is why old new detail answer → OpensHandle also because old new detail answer
  opens_as also because so caused (Some old) new detail answer opens = opens
  opens_as also because so caused None None detail answer opens = record { told = opens.told; cause = caused opens.told opens.cause; number = opens.number; beside = opens.beside; not_done = opens.not_done }
  opens_as also because so caused None (Some new) detail answer opens = (so new opens.0, opens.1)
