use Rattle.std.proofs.Common.{◌<◌, sym, ap, subst, ℕ, suc}
use Rattle.range_calls.specs.Free.{IsLeastFree}
use Rattle.range_calls.specs.Store.{state_of}
use Rattle.hash_client.specs.Finding.{free_answer}
use Rattle.hash_client.proofs.PutLemmas.{from_next}
use Rattle.hash_client.proofs.putting.free_object.Goals as goal

pub returns-in-Some-clause-answer : goal.returns-in-Some-clause-answer
returns-in-Some-clause-answer g c = λ p commands holds fits.
    let s = state_of p commands in
    let found = c.least_free.ensures.answer p commands holds (subst (λ (x : ℕ). x < p.objects) (sym c.last-last.ensures.value) fits) in
    let first = subst (IsLeastFree s (suc c.args.file.now.lo) c.args.file.now.hi) c.in-Some.is (from_next s c.args.file.now.lo c.args.file.now.hi c.directory.result c.last-last.result c.least_free.result c.directory.ensures c.last-last.ensures.value found) in
    sym (ap free_answer first)

pub returns-in-None-clause-answer : goal.returns-in-None-clause-answer
returns-in-None-clause-answer g c = λ p commands holds fits.
    let s = state_of p commands in
    let found = c.least_free.ensures.answer p commands holds (subst (λ (x : ℕ). x < p.objects) (sym c.last-last.ensures.value) fits) in
    let first = subst (IsLeastFree s (suc c.args.file.now.lo) c.args.file.now.hi) c.in-None.is (from_next s c.args.file.now.lo c.args.file.now.hi c.directory.result c.last-last.result c.least_free.result c.directory.ensures c.last-last.ensures.value found) in
    sym (ap free_answer first)
