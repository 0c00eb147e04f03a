use Rattle.std.proofs.Common.{◌≡◌, ◌⊎◌, ◌∙◌, Result, Ok, Err, ap, arith, inl, inr, refl, sym}
use Rattle.embed_c.specs.Answers.{alone}
use Rattle.embed_c.specs.Handles.{session_of}
use Rattle.embed_c.specs.Opening.{IsFailure}
use Rattle.embed_c.specs.declared.answer.Answer.{Answer}
use Rattle.embed_c.specs.declared.session.Session.{Session}
use Rattle.embed_c.proofs.OnHandles.{now_open, of_err, stays_closed}
use Rattle.embed_c.proofs.opened.Goals as goal

pub returns-in-Err : goal.returns-in-Err
returns-in-Err c =
    let told = c.in-Err.answer in
    stays_closed (λ s. c.args.session ≡ Ok s) (λ told. (c.args.session ≡ Err told) ⊎ (told ≡ alone 8)) (session_of c.args.redo.now) told told.detail told.number c.requires.closed (inl c.in-Err.is) refl refl
    (of_err IsFailure c.args.session told c.requires.fails c.in-Err.is)

pub returns-in-Ok-new : goal.returns-in-Ok-new
returns-in-Ok-new c =
    now_open (λ s. c.args.session ≡ Ok s) (λ told. (c.args.session ≡ Err told) ⊎ (told ≡ alone 8)) (session_of c.args.redo.now) (session_of c.put_back.new.self) c.in-Ok-new.session.value c.args.detail.now
    c.requires.closed c.put_back.ensures (c.in-Ok.is ∙ ap (λ (s : Session). let r : Result Session Answer = Ok s in r) (sym c.in-Ok-new.ensures.ok))

pub returns : goal.returns
returns c =
    stays_closed (λ s. c.args.session ≡ Ok s) (λ told. (c.args.session ≡ Err told) ⊎ (told ≡ alone 8)) (session_of c.args.redo.now) c.alone.result c.alone.result.detail 8 c.requires.closed (inr c.alone.ensures)
    (sym (ap (λ (a : Answer). a.number) c.alone.ensures)) refl (λ done. omega (arith, done))
