use Rattle.std.proofs.Common.{◌∙◌, ap, rules, List, ℕ, ◌∷◌}
use Rattle.named_words.specs.Patterns.{fits_pieces}
use Rattle.named_words.specs.Tokens.{piece_of}
use Rattle.named_words.proofs.Matching.{byte_fails, none_left_in}
use Rattle.named_words.proofs.token.Token.behind_byte.Goals as goal

pub returns-in_default : goal.returns-in_default
returns-in_default c = record { some = tt; none = none_left_in (piece_of c.args.self.now) c.args.text.now (search rules) c.requires }

pub returns-then-not-fits : goal.returns-then-not-fits
returns-then-not-fits c = record {
  some = tt;
  none = λ pieces. ap (λ (l : List ℕ). fits_pieces (piece_of c.args.self.now ∷ pieces) l) c.in-Some.ensures.cases.0
      ∙ byte_fails (piece_of c.args.self.now) pieces c.in-Some.byte.now c.in-Some.rest.now c.requires (search rules);
}

pub returns : goal.returns
returns c = record { some = (c.in-Some.byte.now, c.in-Some.ensures.cases.0, search rules); none = tt }
