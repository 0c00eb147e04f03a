use Rattle.embed_c.proofs.OnMaps.{IsUncopied, handed_on, long_key, long_value}
use Rattle.embed_c.proofs.page_maps.texts.Goals as goal

pub returns-in_err-key-clause-cause : goal.returns-in_err-key-clause-cause
returns-in_err-key-clause-cause c =
    handed_on c.from_residual.result c.in_err-key.field-0.0 (IsUncopied c.args.key.now c.args.value.now) c.from_residual.ensures.1 (long_key c.args.key.now c.args.value.now c.in_err-key.field-0.0 c.in_err-key.ensures.cause)

pub returns-in_err-value-clause-cause : goal.returns-in_err-value-clause-cause
returns-in_err-value-clause-cause c =
    let e = c.in_err-value.field-0.0 in
    handed_on c.from_residual-in_err-value.result e (IsUncopied c.args.key.now c.args.value.now) c.from_residual-in_err-value.ensures.1 (long_value c.args.key.now c.args.value.now e c.in_err-value.ensures.cause)

pub returns-clause-texts : goal.returns-clause-texts
returns-clause-texts c = λ i. (c.in_ok-key.ensures.text i, c.in_ok-value.ensures.text i)
