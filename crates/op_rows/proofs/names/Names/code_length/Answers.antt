use Rattle.std.proofs.Common.{length, option_map, sym, ap, ◌∙◌, arith}
use Rattle.std.specs.Int.{from_bool}
use Rattle.op_rows.specs.Rows.{Names, text_code}
use Rattle.op_rows.proofs.Codes.{code_has, counted}
use Rattle.op_rows.proofs.names.Names.code_length.Goals as goal

pub returns-in-Some : goal.returns-in-Some
returns-in-Some c =
    let view = c.self.view_is in
    code_has c.args.self.now _ _ _ (ap length c.as_slice.ensures.value ∙ ap (λ (n : Names). length n.objects) view)
    (c.from.ensures ∙ ap from_bool c.is_some.ensures ∙ counted c.self.inside.number ∙ ap (λ (n : Names). length n.numbers) view)
    (c.text_length.ensures.value ∙ ap (λ t. length (text_code t)) (ap (option_map (λ t. t.now)) (sym c.in-Some.is)) ∙ ap (λ (n : Names). length (text_code n.text)) view)

pub returns-in-None : goal.returns-in-None
returns-in-None c =
    let view = c.self.view_is in
    omega (
      arith,
      code_has c.args.self.now _ _ 0 (ap length c.as_slice.ensures.value ∙ ap (λ (n : Names). length n.objects) view)
          (c.from.ensures ∙ ap from_bool c.is_some.ensures ∙ counted c.self.inside.number ∙ ap (λ (n : Names). length n.numbers) view)
          (ap (λ t. length (text_code t)) (ap (option_map (λ t. t.now)) (sym c.in-None.is)) ∙ ap (λ (n : Names). length (text_code n.text)) view),
    )
