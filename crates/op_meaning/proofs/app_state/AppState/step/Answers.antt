use Rattle.std.proofs.Common.{◌≡◌, ◌<◌, ◌++◌, ℕ, ◌+◌, ◌*◌, ◌-◌, ◌%◌, ◌^◌, List, [], ◌∷◌, length, take, drop, sym, ap, ◌∙◌, subst, arith}
use Rattle.std.proofs.lemmas.Result.{IfOk-weaker}
use Rattle.op_meaning.specs.AppState.{Application, state_code, stepped}
use Rattle.op_meaning.proofs.ReadState.{one_step}
use Rattle.op_meaning.proofs.app_state.AppState.step.Goals as goal

pub returns : goal.returns
returns c =
    let s : Application = record { steps = c.self.inside.steps; sum = c.self.inside.sum; input = c.self.inside.input.now; output = c.self.inside.output.now } in
    let same : c.args.self.now ≡ s = sym c.self.view_is in
    let sum : ℕ = ((s.sum * 31) % 2 ^ 64 + c.from.result) % 2 ^ 64 in
    let output : c.as_slice.result.now ≡ s.output ++ (sum % 256) ∷ [] =
    c.as_slice.ensures.value ∙ c.in_ok-push.ensures.items
    ∙ ap (λ (l : List ℕ). l ++ (sum % 256) ∷ []) (c.in_ok-output.ensures.items_if_clones_equal (λ x y same. same)) in
    let some : 0 < length s.input = subst (λ (t : Application). 0 < length t.input) same c.requires.some in
    let next : record { steps = (s.steps + 1) % 2 ^ 64; sum = sum; input = take (length s.input - 1) (drop 1 s.input); output = c.as_slice.result.now } ≡ stepped s =
    ap (λ (l : List ℕ). record { steps = (s.steps + 1) % 2 ^ 64; sum = sum; input = take (length s.input - 1) (drop 1 s.input); output = l }) output
    ∙ sym (one_step s sum some (let byte = c.from.ensures in omega (arith, byte))) in
    IfOk-weaker c.encode.result _ _ (λ value is. is ∙ ap state_code (next ∙ ap stepped (sym same))) c.encode.ensures
