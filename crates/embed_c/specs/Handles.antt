-- Calls on the session behind a handle.
use Rattle.std.specs.Prelude.{◌≡◌, ◌≢◌, ℕ, Option, None, Some}
use Rattle.embed_c.specs.declared.answer.Answer.{Answer}
use Rattle.embed_c.specs.declared.answer.Detail.{Detail}
use Rattle.embed_c.specs.declared.handle.Redo.{Redo}
use Rattle.embed_c.specs.declared.session.Session.{Session}

-- the session behind a handle; none where it is closed
abbrev pub session_of : Redo → Option Session
session_of redo = redo.inside.session

abbrev pub not_open : ℕ
not_open = 64

abbrev pub already_open : ℕ
already_open = 65

-- A call was made on the session behind a handle, which is there afterwards too. A handle that is closed stays closed, and C is
-- told so.
abbrev pub OnSession : (Session → Session → ℕ → Type 0) → Option Session → Option Session → ℕ → Type 0
OnSession does None None answer = answer ≡ not_open
OnSession does None (Some new) answer = ⊥
OnSession does (Some old) None answer = ⊥
OnSession does (Some old) (Some new) answer = does old new answer

-- the session behind a handle was dropped
abbrev pub ClosesHandle : Option Session → Option Session → ℕ → Type 0
ClosesHandle (Some old) new answer = (new ≡ None) × (answer ≡ 0)
ClosesHandle None new answer = (new ≡ None) × (answer ≡ not_open)

-- C is told why a call was not done: a number, which is not 0, and what is beside it
pub record TellsWhy (why : Answer → Type 0) (detail : Detail) (answer : ℕ) : Type 0 where
  pub told : Answer
  pub cause : why told
  pub number : answer ≡ told.number
  pub beside : detail ≡ told.detail
  pub not_done : answer ≢ 0

-- A handle that was closed: a session of which this is said is behind it now, and 0 is answered, or it stays closed, and C is told
-- why. A handle that was open stays as it was, and C is told so.
abbrev pub OpensHandle : (Session → Type 0) → (Answer → Type 0) → Option Session → Option Session → Detail → ℕ → Type 0
OpensHandle is why (Some old) new detail answer = (new ≡ Some old) × (answer ≡ already_open)
OpensHandle is why None None detail answer = TellsWhy why detail answer
OpensHandle is why None (Some new) detail answer = is new × (answer ≡ 0)
