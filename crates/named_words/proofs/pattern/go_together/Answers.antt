use Rattle.std.proofs.Common.{◌≡◌, ◌∙◌, ap, arith, length, rules, false, ◌∷◌}
use Rattle.named_words.specs.Patterns.{Piece, pieces_of, star}
use Rattle.named_words.specs.Tokens.{is_star, piece_of}
use Rattle.named_words.proofs.Matching.{at_star, ends_go_on, goes_on, one_fails, the_star}
use Rattle.named_words.proofs.pattern.go_together.Goals as goal

pub returns-then-is_star : goal.returns-then-is_star
returns-then-is_star c =
    let behind = pieces_of c.in-Some.behind.now in
    let is : pieces_of c.loop-token.pattern.now ≡ star ∷ behind =
    c.in-Some.ensures.some ∙ ap (λ (p : Piece). p ∷ behind) (the_star (piece_of c.in-Some.token) (search rules)) in
    record {
      front = at_star (pieces_of c.args.pattern.now) c.args.text.now (pieces_of c.loop-token.pattern.now) behind c.loop-token.text.now is c.loop-token.invariant.same c.loop-token.invariant.later;
      less = (omega (arith, c.in-Some.ensures.less, c.loop-token.invariant.less), c.loop-token.invariant.shorter);
    }

pub returns-in-None : goal.returns-in-None
returns-in-None c = record {
  front = one_fails (pieces_of c.args.pattern.now) c.args.text.now (pieces_of c.loop-token.pattern.now) c.loop-token.text.now c.loop-token.invariant.same
      (piece_of c.in-Some.token) (pieces_of c.in-Some.behind.now) c.in-Some.ensures.some (search rules) (c.in-None.ensures.none (pieces_of c.in-Some.behind.now));
  less = tt;
}

pub loop-token-preserved : goal.loop-token-preserved
loop-token-preserved c =
    let found = c.in-Some-behind_byte.ensures.some in
    let plain : is_star (piece_of c.in-Some.token) ≡ false = search rules in
    record {
      same = goes_on (pieces_of c.args.pattern.now) c.args.text.now (pieces_of c.loop-token.pattern.now) c.loop-token.text.now c.loop-token.invariant.same
          (piece_of c.in-Some.token) (pieces_of c.in-Some.behind.now) c.in-Some.ensures.some plain found.0 c.in-Some-behind_byte.rest.now found.1 found.2;
      later = ends_go_on (pieces_of c.args.pattern.now) c.args.text.now (pieces_of c.loop-token.pattern.now) c.loop-token.text.now c.loop-token.invariant.same
          (piece_of c.in-Some.token) (pieces_of c.in-Some.behind.now) c.in-Some.ensures.some plain found.0 c.in-Some-behind_byte.rest.now found.1 found.2 c.loop-token.invariant.later;
      less = omega (arith, c.in-Some.ensures.less, c.loop-token.invariant.less);
      shorter = omega (arith, ap length found.1, c.loop-token.invariant.shorter);
    }
