use Rattle.std.proofs.Common.{◌≡◌, ℕ, Bool, true, List, []}
use Rattle.std.specs.Result.{result_err}
use Rattle.running_store.specs.Laid.{values_in}
use Rattle.store_engine.specs.Store.{state_of}
use Rattle.store_calls.proofs.EngineRuns.{fetch_reads, if_ok}
use Rattle.store_calls.proofs.of_engine.EngineStore.fetch.Goals as goal

pub returns-clause-reads : goal.returns-clause-reads
returns-clause-reads g c =
    fetch_reads g.O.Oper.meaning g.M.Machine.disk c.args.machine.now c.args.self.now c.fetch.new.machine c.fetch.new.self c.nothing_is_made.ensures.front c.fetch_goes_on.ensures.done c.fetch_goes_on.ensures.failed
    c.args.object (result_err c.fetch.result) c.fetch.ensures.calls c.fetch.ensures.fetched

pub returns-clause-value : goal.returns-clause-value
returns-clause-value g c = λ p commands holds.
    let value : ℕ → List ℕ → Type 0 = λ x file. values_in c.fetch.new.self.parts.volatile.objects file x ≡ state_of g.O.Oper.meaning p commands x in
    if_ok c.fetch.result (λ (there : Bool). there ≡ true → (file : List ℕ) → value c.args.object file) (λ (there : Bool). there ≡ true → value c.args.object []) (λ there is yes. is yes []) (c.fetch.ensures.value p commands holds)
