use Rattle.std.proofs.Common.{◌≡◌, sym, subst, ℕ, ◌+◌, ◌<◌, List, [], ◌∷◌, ◌++◌, All, refl, arith}
use Rattle.std.proofs.lemmas.List.{map-append}
use Rattle.std.proofs.lemmas.List.Elements.{All-push}
use Rattle.install_order.specs.declared.entry.Entry.{Entry}
use Rattle.write_graph.specs.Graph.{lsns}
use Rattle.graph_tests.proofs.adding.add.Goals as goal

-- one entry more, numbered with the next LSN
above-push : (entries : List Entry) (e : Entry) (m : ℕ) → All (λ n. n < m) (lsns entries) → e.lsn ≡ m → All (λ n. n < m + 1) (lsns (entries ++ e ∷ []))
above-push entries e m above is =
    subst (All (λ n. n < m + 1)) (sym (map-append (λ (f : Entry). f.lsn) entries (e ∷ [])))
    (All-push (λ (n : ℕ). n < m + 1) (lsns entries) e.lsn (λ k d lt. let a = above k d lt in omega (arith, a)) (omega (arith, is)))

pub add-requires-clause-above : goal.add-requires-clause-above
add-requires-clause-above c = subst (λ (es : List Entry). All (λ n. n < c.args.lsn) (lsns es)) (sym c.make_room.ensures.same) c.requires

pub returns : goal.returns
returns c = rw (c.add.ensures, c.make_room.ensures.same) (above-push c.args.graph.now.entries _ c.args.lsn c.requires refl)
