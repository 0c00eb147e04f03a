-- A session within a transaction, and outside.
use Rattle.std.proofs.Common.{◌≡◌, ◌∙◌, ℕ, Bool, true, false, List, Option, None, Some, IfSome, is_some, ap, subst, sym, refl, inl, inr}
use lib.Dec.{T}
use Rattle.std.specs.Global.{Global}
use Rattle.std.specs.Prelude.{Box, IfNone, IsSome}
use Rattle.op_codec.specs.AllOps.{AllOps}
use Rattle.store_engine.specs.Engine.{group_size}
use Rattle.transactions.specs.declared.transaction.Transaction.{Transaction}
use Rattle.embed_c.specs.Answers.{alone, of_exec, telling, told, told_value}
use Rattle.embed_c.specs.Calls.{DoesExec, DoesGet, DoesNothing, IsCalled, TellsLength}
use Rattle.embed_c.specs.GivenUp.{IsGivenUp, IsLost, IsReopened, LosesUnforced, PutsBack}
use Rattle.embed_c.specs.Handles.{OnSession, not_open}
use Rattle.embed_c.specs.Staging.{Apart, ApartFrom, Commits, CommitsFor, CommitsLazily, CommitsLazilyFor, CommitsLazilyOn, CommitsOn, DoesSee, DoesStage, IsCalledIn, IsCommitted, IsCommittedLazily, IsWithin, ReadsOrSees, RunsOrStages, told_seen}
use Rattle.embed_c.specs.declared.session.Session.{Session}
use Rattle.embed_c.proofs.OnHandles.{was_open}

-- nothing is said of a transaction where none is open
pub none_within : (P : Transaction AllOps → Type 0) (o : Option (Transaction AllOps)) → o ≡ None → IfSome o P
none_within P o none = subst (λ (o : Option (Transaction AllOps)). IfSome o P) (sym none) tt

pub is_within : (P : Transaction AllOps → Type 0) (o : Option (Transaction AllOps)) {t : Transaction AllOps} → o ≡ Some t → P t → IfSome o P
is_within P o some is = subst (λ (o : Option (Transaction AllOps)). IfSome o P) (sym some) is

module _ (op : AllOps) (old new : Session) (answer : ℕ) where
  pub stages_inside : (o : Option (Transaction AllOps)) → is_some o ≡ true → IfSome o (λ t. IsCalledIn (told of_exec) (DoesStage op) t old new answer) → RunsOrStages op o old new answer
  stages_inside None there staged = absurd (subst T (sym there) tt)
  stages_inside (Some t) there staged = staged

  pub runs_outside : (o : Option (Transaction AllOps)) → is_some o ≡ false → IsCalled (told of_exec) (DoesExec op) old new answer → RunsOrStages op o old new answer
  runs_outside None none run = run
  runs_outside (Some t) none run = absurd (subst T none tt)

module _ (object : ℕ) (before after : List ℕ) (long : ℕ) (old new : Session) (answer : ℕ) where
  pub sees_inside : (o : Option (Transaction AllOps)) → is_some o ≡ true → IfSome o (λ t. IsCalledIn told_seen (λ old new t u made. DoesSee object before after old new t u made × TellsLength made long) t old new answer) → ReadsOrSees object before after long o old new answer
  sees_inside None there seen = absurd (subst T (sym there) tt)
  sees_inside (Some t) there seen = seen

  pub reads_outside : (o : Option (Transaction AllOps)) → is_some o ≡ false → IsCalled told_value (λ old new made. DoesGet object before after old new made × TellsLength made long) old new answer → ReadsOrSees object before after long o old new answer
  reads_outside None none read = read
  reads_outside (Some t) none read = absurd (subst T none tt)

-- a call that takes no part in a transaction, within one and outside
module _ (does : Session → Session → ℕ → Type 0) where
  told_within : (o : Option (Transaction AllOps)) (old new : Session) (answer : ℕ) → is_some o ≡ true → DoesNothing (alone 23) old new answer → ApartFrom o does old new answer
  told_within None old new answer there done = absurd (subst T (sym there) tt)
  told_within (Some t) old new answer there done = done

  pub was_within : (old new : Option Session) (answer : ℕ) → OnSession IsWithin old new answer → OnSession (Apart does) old new answer
  was_within None None answer closed = closed
  was_within None (Some new) answer never = never
  was_within (Some old) None answer never = never
  was_within (Some old) (Some new) answer within = told_within old.staging old new answer within.0 within.1

  pub was_apart : {old new : Option Session} {s seen t : Session} {answer : ℕ} → old ≡ Some s → s.staging ≡ None → seen ≡ s → new ≡ Some t → does seen t answer → OnSession (Apart does) old new answer
  was_apart {seen = seen} {t = t} {answer = answer} before none same after done =
      was_open (Apart does) before same after (subst (λ (o : Option (Transaction AllOps)). ApartFrom o does seen t answer) (sym (ap (λ (x : Session). x.staging) same ∙ none)) done)

-- a transaction was open, and was to be committed
pub commits : (o : Option (Transaction AllOps)) {t : Transaction AllOps} (old new : Session) (answer : ℕ) → o ≡ Some t → IsCommitted t old new answer → CommitsFor o old new answer
commits o old new answer some done = subst (λ (o : Option (Transaction AllOps)). CommitsFor o old new answer) (sym some) done

pub was_closed : (old new : Option Session) → old ≡ None → new ≡ None → CommitsOn old new not_open
was_closed old new before after = subst (λ (o : Option Session). CommitsOn o new not_open) (sym before) (after, refl)

module _ {old : Option Session} {s seen : Session} (before : old ≡ Some s) (same : seen ≡ s) where
  of_seen : (new : Option Session) (answer : ℕ) → CommitsOn (Some seen) new answer → CommitsOn old new answer
  of_seen new answer done = subst (λ (o : Option Session). CommitsOn o new answer) (sym (before ∙ ap (λ (x : Session). Some x) (sym same))) done

  -- it is cut off, and given up
  given : (made : Option (Box Session Global)) (new : Option Session) (cut : Session) (says answer : ℕ) → Commits seen cut says → IsSome cut.store.engine.group
      → IfSome made (λ it. IsGivenUp cut it.value) → IfNone made (IsLost cut.store) → PutsBack made says new answer → CommitsOn (Some seen) new answer
  given None new cut says answer done grouped gives lost put = subst (λ (o : Option Session). CommitsOn (Some seen) o answer) (sym put.0) (cut, says, done, grouped, lost, put.1)
  given (Some it) new cut says answer done grouped gives lost put = subst (λ (o : Option Session). CommitsOn (Some seen) o answer) (sym put.0)
      (inr (inr (cut, subst (λ (n : ℕ). Commits seen cut n) (sym put.1) done, grouped, gives)))

  pub cut_off : (made : Option (Box Session Global)) (new : Option Session) (cut : Session) (says answer : ℕ) → Commits seen cut says → IsSome cut.store.engine.group
      → IfSome made (λ it. IsGivenUp cut it.value) → IfNone made (IsLost cut.store) → PutsBack made says new answer → CommitsOn old new answer
  cut_off made new cut says answer done grouped gives lost put = of_seen new answer (given made new cut says answer done grouped gives lost put)

-- the same of a commit that forces nothing
pub commits_lazily : (o : Option (Transaction AllOps)) {t : Transaction AllOps} (old new : Session) (answer : ℕ) (cut : Bool) → o ≡ Some t → IsCommittedLazily t old new answer cut → CommitsLazilyFor o old new answer cut
commits_lazily o old new answer cut some done = subst (λ (o : Option (Transaction AllOps)). CommitsLazilyFor o old new answer cut) (sym some) done

pub was_closed_lazily : (old new : Option Session) → old ≡ None → new ≡ None → CommitsLazilyOn old new not_open
was_closed_lazily old new before after = subst (λ (o : Option Session). CommitsLazilyOn o new not_open) (sym before) (after, refl)

module _ {old : Option Session} {s seen : Session} (before : old ≡ Some s) (same : seen ≡ s) where
  of_seen_lazily : (new : Option Session) (answer : ℕ) → CommitsLazilyOn (Some seen) new answer → CommitsLazilyOn old new answer
  of_seen_lazily new answer done = subst (λ (o : Option Session). CommitsLazilyOn o new answer) (sym (before ∙ ap (λ (x : Session). Some x) (sym same))) done

  pub in_group_lazily : {t : Session} (new : Option Session) (size answer : ℕ) → new ≡ Some t → group_size seen.store.engine ≡ Some size → DoesNothing (telling 18 size 0 0) seen t answer → CommitsLazilyOn old new answer
  in_group_lazily new size answer after grouped done = of_seen_lazily new answer (subst (λ (o : Option Session). CommitsLazilyOn (Some seen) o answer) (sym after) (inl (size, grouped, done)))

  pub done_lazily : {t : Session} (new : Option Session) (answer : ℕ) (cut : Bool) → new ≡ Some t → cut ≡ false → CommitsLazily seen t answer cut → CommitsLazilyOn old new answer
  done_lazily {t = t} new answer cut after none done =
      of_seen_lazily new answer (subst (λ (o : Option Session). CommitsLazilyOn (Some seen) o answer) (sym after) (inr (inl (subst (λ (b : Bool). CommitsLazily seen t answer b) none done))))

  -- it is cut off, and all that is not forced is given up
  reopened : (made : Option (Box Session Global)) (new : Option Session) (cut : Session) (says answer : ℕ) → CommitsLazily seen cut says true
      → IfSome made (λ it. IsReopened cut it.value) → IfNone made (LosesUnforced cut.store) → PutsBack made says new answer → CommitsLazilyOn (Some seen) new answer
  reopened None new cut says answer done again lost put = subst (λ (o : Option Session). CommitsLazilyOn (Some seen) o answer) (sym put.0) (cut, says, done, lost, put.1)
  reopened (Some it) new cut says answer done again lost put = subst (λ (o : Option Session). CommitsLazilyOn (Some seen) o answer) (sym put.0)
      (inr (inr (cut, subst (λ (n : ℕ). CommitsLazily seen cut n true) (sym put.1) done, again)))

  pub cut_lazily : (made : Option (Box Session Global)) (new : Option Session) (cut : Session) (says answer : ℕ) (off : Bool) → off ≡ true → CommitsLazily seen cut says off
      → IfSome made (λ it. IsReopened cut it.value) → IfNone made (LosesUnforced cut.store) → PutsBack made says new answer → CommitsLazilyOn old new answer
  cut_lazily made new cut says answer off is done again lost put = of_seen_lazily new answer (reopened made new cut says answer (subst (λ (b : Bool). CommitsLazily seen cut says b) is done) again lost put)
