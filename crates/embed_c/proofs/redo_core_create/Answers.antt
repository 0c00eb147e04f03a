use Rattle.std.proofs.Common.{◌≡◌, ◌⊎◌, ◌∙◌, Err, Ok, ⊎_elim, inr}
use Rattle.formats.specs.declared.params.Params.{Params}
use Rattle.write_queue.specs.Handed.{handed}
use Rattle.embed_c.specs.Answers.{alone}
use Rattle.embed_c.specs.Handles.{session_of}
use Rattle.embed_c.specs.Opening.{IsCreated, IsUncreated}
use Rattle.embed_c.specs.declared.answer.Answer.{Answer}
use Rattle.embed_c.specs.declared.session.Session.{Session}
use Rattle.embed_c.proofs.OnHandles.{none_where, of_err, of_ok, opens_as, stays_open}
use Rattle.embed_c.proofs.redo_core_create.Goals as goal

pub returns-then-is_open : goal.returns-then-is_open
returns-then-is_open c =
    let p : Params = record { objects = c.args.params.now.objects; cap = c.args.params.now.cap; limit = c.args.params.now.limit; more = c.args.pages } in
    let files = handed c.args.objects.now c.args.log_a.now c.args.log_b.now in
    stays_open (IsCreated p files) (IsUncreated p files) (session_of c.args.redo.now) c.args.detail.now (c.is_open.ensures ∙ c.if-is_open.true)

pub opened-requires-clause-closed : goal.opened-requires-clause-closed
opened-requires-clause-closed c = none_where (session_of c.args.redo.now) (c.is_open.ensures ∙ c.if-is_open.false)

pub opened-requires-clause-fails : goal.opened-requires-clause-fails
opened-requires-clause-fails c = c.create-session.ensures.err

pub returns : goal.returns
returns c =
    let p : Params = record { objects = c.args.params.now.objects; cap = c.args.params.now.cap; limit = c.args.params.now.limit; more = c.args.pages } in
    let files = handed c.args.objects.now c.args.log_a.now c.args.log_b.now in
    let is : Session → Type 0 = IsCreated p files in
    let why : Answer → Type 0 = IsUncreated p files in
    let made = c.create-session.result in
    opens_as (λ s. made ≡ Ok s) (λ told. (made ≡ Err told) ⊎ (told ≡ alone 8)) is why (λ s same. of_ok is made s c.create-session.ensures.ok same)
    (λ told cause. ⊎_elim (λ same. of_err why made told c.create-session.ensures.why same) ((λ eight. inr (inr (inr eight)))) cause)
    (session_of c.args.redo.now) (session_of c.opened.new.redo) c.opened.new.detail c.opened.result c.opened.ensures
