use Rattle.std.proofs.Common.{◌≡◌, sym, ap, ◌∙◌, subst, refl, ℕ, [], Option, None, Ok}
use Rattle.hash_ops.specs.declared.directory.Directory.{Directory}
use Rattle.hash_file.specs.Find as finding
use Rattle.range_calls.specs.Answers.{cause_of}
use Rattle.range_calls.specs.ReadLaws.{answers_passed, makes_err, passed}
use Rattle.range_calls.specs.Store.{state_of}
use Rattle.hash_client.specs.Finding.{directory_answer, met_answer}
use Rattle.hash_client.proofs.FindLemmas.{met_bad, met_found, met_none, met_worse}
use Rattle.hash_client.proofs.finding.find_bucket.Goals as goal

pub returns-in_err-begun-clause-reads : goal.returns-in_err-begun-clause-reads
returns-in_err-begun-clause-reads g c =
    makes_err c.from_residual.result c.in_err-begun.field-0.0 (passed c.from_residual.result c.in_err-begun.field-0.0 c.from_residual.ensures.1) c.in_err-begun.ensures.reads

pub returns-in_err-begun-clause-answer : goal.returns-in_err-begun-clause-answer
returns-in_err-begun-clause-answer g c = λ p commands holds.
    let s = state_of p commands in
    let lo = c.args.file.now.lo in
    let hi = c.args.file.now.hi in
    answers_passed c.from_residual.result c.in_err-begun.field-0.0 (met_answer (finding.find_bucket lo hi s c.args.key))
    (passed c.from_residual.result c.in_err-begun.field-0.0 c.from_residual.ensures.1)
    (λ done. met_bad lo hi s c.args.key c.in_err-begun.field-0.0 (c.in_err-begun.ensures.answer p commands holds done ∙ ap (λ (x : ℕ). directory_answer x (s x)) c.directory.ensures))

pub returns-in-None-clause-reads : goal.returns-in-None-clause-reads
returns-in-None-clause-reads g c = c.in_ok-begun.ensures.reads

pub returns-in-None-clause-answer : goal.returns-in-None-clause-answer
returns-in-None-clause-answer g c = λ p commands holds done.
    let s = state_of p commands in
    let lo = c.args.file.now.lo in
    let hi = c.args.file.now.hi in
    let told = c.in_ok-begun.ensures.answer p commands holds refl ∙ ap (λ (x : ℕ). directory_answer x (s x)) c.directory.ensures in
    sym (ap met_answer (met_none lo hi s c.args.key (subst (λ (o : Option Directory). Ok o ≡ directory_answer lo (s lo)) c.in-None.is told)))

pub returns-in_err-bucket-in-Some-clause-reads : goal.returns-in_err-bucket-in-Some-clause-reads
returns-in_err-bucket-in-Some-clause-reads g c =
    makes_err c.from_residual-in_err-bucket-in-Some.result c.in_err-bucket-in-Some.field-0.0 (passed c.from_residual-in_err-bucket-in-Some.result c.in_err-bucket-in-Some.field-0.0 c.from_residual-in_err-bucket-in-Some.ensures.1)
    (c.reads_go_on.ensures.behind c.args.machine.now c.directory_of.new.machine c.bucket_of.new.machine c.args.store.now c.directory_of.new.store c.bucket_of.new.store (λ p commands. []) (cause_of c.in_err-bucket-in-Some.field-0.0)
    c.in_ok-begun.ensures.reads c.in_err-bucket-in-Some.ensures.reads)

pub returns-in_err-bucket-in-Some-clause-answer : goal.returns-in_err-bucket-in-Some-clause-answer
returns-in_err-bucket-in-Some-clause-answer g c = λ p commands holds.
    let s = state_of p commands in
    let lo = c.args.file.now.lo in
    let hi = c.args.file.now.hi in
    let told = c.in_ok-begun.ensures.answer p commands holds refl ∙ ap (λ (x : ℕ). directory_answer x (s x)) c.directory.ensures in
    let begun = subst (λ (o : Option Directory). Ok o ≡ directory_answer lo (s lo)) c.in-Some.is told in
    answers_passed c.from_residual-in_err-bucket-in-Some.result c.in_err-bucket-in-Some.field-0.0 (met_answer (finding.find_bucket lo hi s c.args.key))
    (passed c.from_residual-in_err-bucket-in-Some.result c.in_err-bucket-in-Some.field-0.0 c.from_residual-in_err-bucket-in-Some.ensures.1)
    (λ done. met_worse lo hi s c.args.key c.in-Some.directory c.entry_for-object.result begun c.entry_for-object.ensures c.in_err-bucket-in-Some.field-0.0
    (c.in_err-bucket-in-Some.ensures.answer p commands (c.reads_go_on.ensures.holds p c.args.machine.now c.directory_of.new.machine c.args.store.now c.directory_of.new.store commands c.in_ok-begun.ensures.reads holds) done))

pub returns-in_ok-bucket-in-Some-clause-reads : goal.returns-in_ok-bucket-in-Some-clause-reads
returns-in_ok-bucket-in-Some-clause-reads g c =
    c.reads_go_on.ensures.behind c.args.machine.now c.directory_of.new.machine c.bucket_of.new.machine c.args.store.now c.directory_of.new.store c.bucket_of.new.store (λ p commands. []) None
    c.in_ok-begun.ensures.reads c.in_ok-bucket-in-Some.ensures.reads

pub returns-in_ok-bucket-in-Some-clause-answer : goal.returns-in_ok-bucket-in-Some-clause-answer
returns-in_ok-bucket-in-Some-clause-answer g c = λ p commands holds done.
    let s = state_of p commands in
    let lo = c.args.file.now.lo in
    let hi = c.args.file.now.hi in
    let told = c.in_ok-begun.ensures.answer p commands holds refl ∙ ap (λ (x : ℕ). directory_answer x (s x)) c.directory.ensures in
    let begun = subst (λ (o : Option Directory). Ok o ≡ directory_answer lo (s lo)) c.in-Some.is told in
    met_found lo hi s c.args.key c.in-Some.directory c.entry_for-object.result begun c.entry_for-object.ensures c.in_ok-bucket-in-Some.bucket
    (c.in_ok-bucket-in-Some.ensures.answer p commands (c.reads_go_on.ensures.holds p c.args.machine.now c.directory_of.new.machine c.args.store.now c.directory_of.new.store commands c.in_ok-begun.ensures.reads holds) refl)
