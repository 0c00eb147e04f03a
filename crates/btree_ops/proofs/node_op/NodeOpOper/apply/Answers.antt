use Rattle.std.proofs.Common.{◌≡◌, ℕ, List, [], map, ap, ◌∙◌, subst, IfOk}
use Rattle.key_entries.specs.Objects.{where_roomy, values_of}
use Rattle.btree_ops.specs.Effects.{made_by}
use Rattle.btree_ops.specs.Operation.{objects_of, bytes_of}
use Rattle.btree_ops.proofs.Outcomes.{no_values_made, all_made}
use Rattle.btree_ops.proofs.node_op.NodeOpOper.apply.Goals as goal

pub returns-then-b-lt-LEAST_CAP : goal.returns-then-b-lt-LEAST_CAP
returns-then-b-lt-LEAST_CAP c =
    let objects : List ℕ = objects_of c.args.self.now in
    let same : c.as_slice.result.now ≡ objects = c.as_slice.ensures.value ∙ c.writes.ensures c.args.b in
    let empty : map (λ x. []) c.as_slice.result.now ≡ values_of bytes_of objects (where_roomy c.args.b.cap (made_by c.args.self.now c.args.values.now)) =
    ap (λ (l : List ℕ). map (λ x. []) l) same ∙ no_values_made objects c.args.b.cap (made_by c.args.self.now c.args.values.now) c.if-b-lt-LEAST_CAP.true in
    subst (λ (v : List (List ℕ)). IfOk c.no_values.result (λ made. made ≡ v)) empty c.no_values.ensures

pub returns : goal.returns
returns c =
    subst (λ (v : List (List ℕ)). IfOk c.make.result (λ made. made ≡ v)) (all_made (objects_of c.args.self.now) c.args.b.cap (made_by c.args.self.now c.args.values.now) c.if-b-lt-LEAST_CAP.false) c.make.ensures
