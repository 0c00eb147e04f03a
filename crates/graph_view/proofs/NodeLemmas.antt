-- Nodes go out of a graph into a text, one after the other.
use Rattle.std.proofs.Common.{◌≡◌, ◌∙◌, sym, subst, ap, ℕ, Bool, List, [], ◌∷◌, ◌++◌, append_assoc}
use Rattle.std.specs.Prelude.{◌↔◌}
use Rattle.std.specs.List.{flat_map}
use Rattle.std.proofs.lemmas.List.{append-nil}
use Rattle.std.proofs.lemmas.List.Concat.{flat_map-append}
use Rattle.install_order.specs.declared.entry.Entry.{Entry}
use Rattle.install_order.specs.Order.{flush_set_of}
use Rattle.install_order.specs.Entries.{accesses}
use Rattle.write_graph.specs.Graph.{IsNodeNamed, NamesMinimal, IsLeast}
use Rattle.graph_view.specs.Nodes.{Node, IsRow, AreInstalled, AreNodes}
use Rattle.graph_view.specs.Nodes.AreInstalled.{none, next}
use Rattle.graph_view.specs.Dot.{node_text}
use Rattle.graph_view.specs.Taking.{TakesNode}

-- some nodes of all entries were taken out and said, and what is to be said of the rest goes after them
pub record AreSaid (all rest : List Entry) (before now : List ℕ) : Type 0 where
  pub nodes : List Node
  pub text : now ≡ before ++ flat_map node_text nodes
  pub kept : (n : ℕ) (set : ℕ → Bool) → IsNodeNamed rest n set → IsNodeNamed all n set
  pub flush_sets : (n : ℕ) (set : ℕ → Bool) (x : ℕ) → IsNodeNamed rest n set → flush_set_of (accesses rest) set x ↔ flush_set_of (accesses all) set x
  pub goes_on : (more : List Node) → AreInstalled all rest more → AreInstalled all all (nodes ++ more)

pub none_said : (all : List Entry) (text : List ℕ) → AreSaid all all text text
none_said all text = record {
  nodes = [];
  text = sym (append-nil text);
  kept = λ n set is. is;
  flush_sets = λ n set x is. ((λ f. f), (λ f. f));
  goes_on = λ more are. are;
}

pub one_said : (all rest new : List Entry) (name : ℕ) (before now after : List ℕ) → AreSaid all rest before now → IsLeast (NamesMinimal rest) name → TakesNode rest new name now after → AreSaid all new before after
one_said all rest new name before now after said least takes =
    let node = takes.node in
    let row : IsRow all takes.set node = record {
      named = said.kept node.name takes.set takes.row.named;
      members = takes.row.members;
      flush_set = record {
        rising = takes.row.flush_set.rising;
        exactly = λ x.
            let is = takes.row.flush_set.exactly x in
            let same = said.flush_sets node.name takes.set x takes.row.named in
            ((λ f. same.0 (is.0 f)), (λ f. is.1 (same.1 f)));
      };
    } in
    record {
      nodes = said.nodes ++ node ∷ [];
      text = takes.text ∙ ap (λ t. t ++ node_text node) said.text ∙ append_assoc before (flat_map node_text said.nodes) (node_text node)
          ∙ ap (λ t. before ++ t) (ap (λ t. flat_map node_text said.nodes ++ t) (sym (append-nil (node_text node))) ∙ sym (flat_map-append node_text said.nodes (node ∷ [])));
      kept = λ n set is. said.kept n set (takes.others n set is);
      flush_sets = λ n set x is.
          let first = takes.flush_sets n set x is in
          let second = said.flush_sets n set x (takes.others n set is) in
          ((λ f. second.0 (first.0 f)), (λ f. first.1 (second.1 f)));
      goes_on = λ more are.
          subst (λ (nodes : List Node). AreInstalled all all nodes) (sym (append_assoc said.nodes (node ∷ []) more))
          (said.goes_on (node ∷ more) (next takes.set node row (subst (λ (n : ℕ). IsLeast (NamesMinimal rest) n) (sym takes.is_named) least)
          (subst (λ (entries : List Entry). AreInstalled all entries more) takes.entries are)));
    }

-- where nothing is left all are said
pub all_said : (all rest : List Entry) (before now : List ℕ) → AreSaid all rest before now → rest ≡ [] → (nodes : List Node) × AreNodes all nodes × (now ≡ before ++ flat_map node_text nodes)
all_said all rest before now said end = (
  said.nodes,
  subst (λ (nodes : List Node). AreNodes all nodes) (append-nil said.nodes)
      (said.goes_on [] (subst (λ (entries : List Entry). AreInstalled all entries []) (sym end) none)),
  said.text,
)
