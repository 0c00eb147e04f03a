use Rattle.named_words.specs.Tokens.{cut_of}
use Rattle.named_words.proofs.Matching.{read_first}
use Rattle.named_words.proofs.token.next_token.Goals as goal

pub returns-clause-some : goal.returns-clause-some
returns-clause-some c = read_first c.args.pattern.now c.in_ok-first.rest.now c.in_ok-first.first.now (cut_of c.token_at.result) c.in_ok-first.ensures.cases.0 c.token_at.ensures.value
