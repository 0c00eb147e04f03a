use Rattle.std.proofs.Common.{◌≡◌, ◌∙◌, ap, sym, subst, ℕ, ◌+◌, ◌<◌, List, [], ◌∷◌, ◌++◌, length, length-append, arith}
use Rattle.std.specs.List.{All}
use Rattle.std.proofs.lemmas.List.{map-append}
use Rattle.std.proofs.lemmas.List.Elements.{All-nil, All-cons, All-append}
use Rattle.install_order.specs.declared.entry.Entry.{Entry}
use Rattle.write_graph.specs.Graph.{lsns}
use Rattle.graph_view.proofs.commands.Commands.add.Goals as goal

-- all numbers are below that of an entry more
lsns_more : (entries : List Entry) (e : Entry) → All (λ n. n < length entries + 1) (lsns entries) → e.lsn ≡ length entries + 1 → All (λ n. n < length (entries ++ e ∷ []) + 1) (lsns (entries ++ e ∷ []))
lsns_more entries e below lsn =
    let more = length-append entries (e ∷ []) in
    let P : ℕ → Type 0 = λ n. n < length (entries ++ e ∷ []) + 1 in
    subst (λ (ns : List ℕ). All P ns) (sym (map-append (λ (e : Entry). e.lsn) entries (e ∷ [])))
    (All-append P (lsns entries) (e.lsn ∷ []) (λ k d lt. let old = below k d lt in omega arith) (All-cons P e.lsn [] (omega arith) (All-nil P)))

pub add-requires-clause-above : goal.add-requires-clause-above
add-requires-clause-above c =
    let lsn : c.entry-entry.result.lsn ≡ length c.self.inside.entries.items + 1 = omega (arith, ap (λ (e : Entry). e.lsn) c.entry-entry.ensures, c.len.ensures, c.self.inside.entries.ok.0) in
    subst (λ (entries : List Entry). All (λ n. n < c.entry-entry.result.lsn) (lsns entries)) (sym (c.make_room.ensures.same ∙ c.self.invariant.0))
    (subst (λ (m : ℕ). All (λ n. n < m) (lsns c.self.inside.entries.items)) (sym lsn) c.self.invariant.1)

pub invariant_of-self-2 : goal.invariant_of-self-2
invariant_of-self-2 c =
    let pushed = c.in_ok-push.ensures.items in
    let lsn : c.entry.result.lsn ≡ length c.self.inside.entries.items + 1 = omega (arith, ap (λ (e : Entry). e.lsn) c.entry.ensures, c.len.ensures, c.self.inside.entries.ok.0) in (
      c.add.ensures ∙ ap (λ entries. entries ++ c.entry-entry.result ∷ []) (c.make_room.ensures.same ∙ c.self.invariant.0)
          ∙ ap (λ (e : Entry). c.self.inside.entries.items ++ e ∷ []) (c.entry-entry.ensures ∙ sym c.entry.ensures) ∙ sym pushed,
      subst (λ (entries : List Entry). All (λ n. n < length entries + 1) (lsns entries)) (sym pushed) (lsns_more c.self.inside.entries.items c.entry.result c.self.invariant.1 lsn),
    )
