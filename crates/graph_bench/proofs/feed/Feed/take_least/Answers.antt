use Rattle.std.proofs.Common.{◌≡◌, sym, subst, ℕ, ◌<◌, Bool, not, List, [], ◌∷◌, All}
use Rattle.std.specs.List.{filter}
use Rattle.std.proofs.lemmas.List.Elements.{All-nil, All-cons, All-head, All-tail, All-map, All-filter}
use Rattle.install_order.specs.declared.entry.Entry.{Entry}
use Rattle.write_graph.specs.Graph.{lsns, NamesMinimal, IsNodeNamed}
use Rattle.graph_bench.proofs.feed.Feed.take_least.Goals as goal

-- each entry has such a number
each : (P : ℕ → Type 0) (es : List Entry) → All P (lsns es) → All (λ e. P e.lsn) es
each P [] all = All-nil (λ e. P e.lsn)
each P (e ∷ es) all = All-cons (λ f. P f.lsn) e es (All-head P e.lsn (lsns es) all) (each P es (All-tail P e.lsn (lsns es) all))

-- the numbers that are left are still below m
still_below : (old new : List Entry) (n m : ℕ) → NamesMinimal old n → ((node : ℕ → Bool) → IsNodeNamed old n node → new ≡ filter (λ e. not (node e.lsn)) old) → All (λ k. k < m) (lsns old) → All (λ k. k < m) (lsns new)
still_below old new n m minimal entries below = subst (λ (es : List Entry). All (λ k. k < m) (lsns es)) (sym (entries minimal.0 minimal.1))
    (All-map (λ k. k < m) (λ (e : Entry). e.lsn) _ (All-filter (λ (e : Entry). not (minimal.0 e.lsn)) (λ (e : Entry). e.lsn < m) old (each (λ k. k < m) old below)))

pub invariant_of-self : goal.invariant_of-self
invariant_of-self c = still_below c.self.inside.graph.entries _ c.in-Some.name c.self.inside.next c.in-Some.ensures.some.0 c.remove_minimal.ensures.entries c.self.invariant
