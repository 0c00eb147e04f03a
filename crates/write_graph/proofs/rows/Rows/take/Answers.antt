use Rattle.std.proofs.Common.{◌≡◌, sym, subst, ℕ, ◌<◌, length, [], Option, refl}
use Rattle.std.specs.Prelude.{MatchOption}
use Rattle.write_graph.specs.Places.{place_in}
use Rattle.write_graph.specs.Rows.{Rows, waiting_of, IsTaken}
use Rattle.write_graph.proofs.Tables.{waiting-none, taken}
use Rattle.write_graph.proofs.rows.Rows.take.Goals as goal

pub returns-in_err-row : goal.returns-in_err-row
returns-in_err-row c =
    let none = subst (λ (r : Rows). place_in c.args.x r.objects ≡ length r.objects) (sym c.self.view_is) c.in_err-row.ensures in
    let at = subst (λ (r : Rows). waiting_of r c.args.x ≡ []) c.self.view_is (waiting-none c.self.inside.objects.keys c.self.inside.last.items c.self.inside.waiting 0 c.args.x c.self.invariant none) in
    subst (λ (o : Option ℕ). MatchOption o ((waiting_of c.args.self.now c.args.x ≡ []) × (c.args.self.now ≡ c.args.self.now)) (λ k. IsTaken c.args.self.now c.args.x k c.args.self.now)) (sym c.from_residual.ensures) (at, refl)

pub returns : goal.returns
returns c =
    let at = subst (λ (r : Rows). (c.in_ok-row.row ≡ place_in c.args.x r.objects) × (c.in_ok-row.row < length r.objects)) (sym c.self.view_is) c.in_ok-row.ensures in
    rw (← c.self.view_is) (taken c.self.inside.objects.keys c.self.inside.last.items c.self.inside.waiting c.pop.new.self _ c.args.x c.in_ok-row.row c.pop.result at.0 at.1 c.pop.ensures)
