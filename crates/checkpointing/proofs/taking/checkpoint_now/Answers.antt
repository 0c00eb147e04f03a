use Rattle.std.proofs.Common.{arith, ◌≡◌, ◌∙◌, sym, subst, ap, ℕ, List, []}
use Rattle.std.specs.Prelude.{All}
use Rattle.std.specs.List.{filter}
use Rattle.dirty_page_table.specs.declared.table.DirtyPageTable.{DirtyPageTable}
use Rattle.formats.specs.Objects.{IsObjectsFile, bounds_of}
use Rattle.formats.specs.declared.params.Params.{Params}
use Rattle.install_order.specs.Entries.{accesses}
use Rattle.install_order.specs.declared.entry.Entry.{Entry}
use Rattle.log_records.specs.RecordLog.{RecordLogView}
use Rattle.oper_core.specs.declared.bounds.Bounds.{Bounds}
use Rattle.write_graph.specs.Graph.{Lists, IsLeast}
use Rattle.write_graph.specs.Objects.{IsWriter, IsWritten}
use Rattle.standing.specs.OneStable.{small_store}
use Rattle.running_store.specs.StoreView.{store_params}
use Rattle.running_store.specs.Calls.Checkpoints.{IsCheckpointHere}
use Rattle.checkpointing.specs.Checkpoints.{is_in_log}
use Rattle.checkpointing.proofs.Starts.{firsts, checkpoint_here, no_starts, starts_in_log}
use Rattle.checkpointing.proofs.taking.checkpoint_now.Goals as goal

-- the objects and the LSNs that the starts of the graph have
lists : (starts : List (ℕ × ℕ)) (given entries : List Entry) → given ≡ entries → Lists (IsWritten (accesses given)) (firsts starts) → Lists (IsWritten (accesses entries)) (firsts starts)
lists starts given entries same is = subst (λ (l : List Entry). Lists (IsWritten (accesses l)) (firsts starts)) same is

least : (starts : List (ℕ × ℕ)) (given entries : List Entry) → given ≡ entries → All (λ s. IsLeast (IsWriter (accesses given) s.0) s.1) starts → All (λ s. IsLeast (IsWriter (accesses entries) s.0) s.1) starts
least starts given entries same is = subst (λ (l : List Entry). All (λ s. IsLeast (IsWriter (accesses l) s.0) s.1) starts) same is

pub returns-clause-here : goal.returns-clause-here
returns-clause-here g c =
    let it = c.args.store.now in
    let log = it.parts.log in
    let entries = it.parts.volatile.entries in
    let p = store_params it in
    let m = g.O.Oper.meaning log.bounds in
    let starts = c.in_ok-starts.starts.items in
    let in_use = c.params-objects.ensures.in_use c.requires.unbroken in
    let has = g.met.O.Oper.bounded log.bounds in
    let there : m.objects ≡ p.objects = has.objects ∙ ap (λ (b : Bounds). b.objects) in_use.bounds in
    let objects = ap (λ (q : Params). q.objects) c.params-objects.ensures.value in
    let base : c.base.result ≡ log.log.header.base = c.base.ensures.value ∙ ap (λ (l : RecordLogView). l.log.header.base) c.log-log.ensures in
    let next : c.next.result ≡ log.next = c.next.ensures ∙ ap (λ (l : RecordLogView). l.next) c.log-log.ensures in
    let kept : c.new.result ≡ filter (is_in_log p.objects log.log.header.base) starts = c.new.ensures ∙ c.keep_in_log.ensures ∙ (λ i. filter (is_in_log (objects i) (base i)) starts) in
    let range = c.params-objects.ensures.range in
    let made : DirtyPageTable = record { next = c.next.result; starts = c.new.result } in
    let same : made ≡ record { next = log.next; starts = filter (is_in_log p.objects log.log.header.base) starts } = λ i. record { next = next i; starts = kept i } in
    subst (λ (t : DirtyPageTable). IsCheckpointHere m log t) (sym same)
    (checkpoint_here m log entries p.objects starts there range.objects in_use.store.low (omega (arith, c.base.ensures.low, base, ap (λ (l : RecordLogView). l.next) c.log-log.ensures)) in_use.store.above
    (lists starts c.graph.result.now.entries entries c.graph.ensures c.in_ok-starts.ensures.objects) (least starts c.graph.result.now.entries entries c.graph.ensures c.in_ok-starts.ensures.lsns))

pub returns-clause-now : goal.returns-clause-now
returns-clause-now g c = λ p file w sound shows next base.
    let m = g.O.Oper.meaning (bounds_of p) in
    let it = c.args.store.now.parts.volatile in
    let a = accesses it.entries in
    let starts = c.in_ok-starts.starts.items in
    let made : DirtyPageTable = record { next = c.next.result; starts = c.new.result } in
    let small = small_store p file (subst (λ (q : Params). IsObjectsFile q file) shows.params shows.laid.slots.whole) in
    let law = g.met.O.Oper.lawful (bounds_of p) small in
    let has = g.met.O.Oper.bounded (bounds_of p) in
    let objects = ap (λ (q : Params). q.objects) (c.params-objects.ensures.value ∙ shows.params) in
    let lsn : c.base.result ≡ w.base = c.base.ensures.value ∙ ap (λ (l : RecordLogView). l.log.header.base) c.log-log.ensures ∙ base in
    let lsns = least starts c.graph.result.now.entries it.entries c.graph.ensures c.in_ok-starts.ensures.lsns in
    let kept : made.starts ≡ starts =
    c.new.ensures ∙ c.keep_in_log.ensures ∙ (λ i. filter (is_in_log (objects i) (lsn i)) starts) ∙ starts_in_log m law w p.objects it.entries starts sound has.objects shows.accesses lsns in
    let written = subst (λ (l : List (ℕ × ℕ)). Lists (IsWritten a) (firsts l)) (sym kept) (lists starts c.graph.result.now.entries it.entries c.graph.ensures c.in_ok-starts.ensures.objects) in
    let first = subst (λ (l : List (ℕ × ℕ)). All (λ s. IsLeast (IsWriter a s.0) s.1) l) (sym kept) lsns in
    record {
      now = c.a_checkpoint_taken_now.ensures p file it w made sound shows written first (c.next.ensures ∙ ap (λ (l : RecordLogView). l.next) c.log-log.ensures ∙ next);
      objects = written;
      least = first;
    }

pub returns-clause-none : goal.returns-clause-none
returns-clause-none g c = λ empty.
    let starts = c.in_ok-starts.starts.items in
    let none : starts ≡ [] = no_starts starts (lists starts c.graph.result.now.entries [] (c.graph.ensures ∙ empty) c.in_ok-starts.ensures.objects) in
    c.new.ensures ∙ c.keep_in_log.ensures ∙ ap (λ (l : List (ℕ × ℕ)). filter (is_in_log c.params-objects.result.objects c.base.result) l) none
