use Rattle.std.proofs.Common.{◌≡◌, ◌⊎◌, ◌∙◌, Err, Ok, ⊎_elim}
use Rattle.write_queue.specs.Handed.{handed}
use Rattle.embed_c.specs.Answers.{alone}
use Rattle.embed_c.specs.Handles.{session_of}
use Rattle.embed_c.specs.Opening.{IsOpened, IsUnopened}
use Rattle.embed_c.specs.declared.answer.Answer.{Answer}
use Rattle.embed_c.specs.declared.session.Session.{Session}
use Rattle.embed_c.proofs.Failures.{no_memory}
use Rattle.embed_c.proofs.OnHandles.{none_where, of_err, of_ok, opens_as, stays_open}
use Rattle.embed_c.proofs.redo_core_open.Goals as goal

pub returns-then-is_open : goal.returns-then-is_open
returns-then-is_open c =
    let files = handed c.args.objects.now c.args.log_a.now c.args.log_b.now in
    stays_open (IsOpened files) (IsUnopened files) (session_of c.args.redo.now) c.args.detail.now (c.is_open.ensures ∙ c.if-is_open.true)

pub opened-requires-clause-closed : goal.opened-requires-clause-closed
opened-requires-clause-closed c = none_where (session_of c.args.redo.now) (c.is_open.ensures ∙ c.if-is_open.false)

pub opened-requires-clause-fails : goal.opened-requires-clause-fails
opened-requires-clause-fails c = c.open-session.ensures.err

pub returns : goal.returns
returns c =
    let files = handed c.args.objects.now c.args.log_a.now c.args.log_b.now in
    let is : Session → Type 0 = IsOpened files in
    let why : Answer → Type 0 = IsUnopened files in
    let made = c.open-session.result in
    opens_as (λ s. made ≡ Ok s) (λ told. (made ≡ Err told) ⊎ (told ≡ alone 8)) is why (λ s same. of_ok is made s c.open-session.ensures.ok same)
    (λ told cause. ⊎_elim (λ same. of_err why made told c.open-session.ensures.why same) (no_memory files told) cause)
    (session_of c.args.redo.now) (session_of c.opened.new.redo) c.opened.new.detail c.opened.result c.opened.ensures
