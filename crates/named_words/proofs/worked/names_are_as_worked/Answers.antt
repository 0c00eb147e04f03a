use Rattle.std.proofs.Common.{ap, codes, length, is_some, not, ◌+◌, Option, List, ℕ, [], ◌∷◌, pos, negsuc, if◌then◌else◌}
use Rattle.std.specs.FinMap.{remove}
use Rattle.std.specs.Fmt.{digits}
use Rattle.std.specs.List.{flat_map}
use Rattle.resp_words.specs.Replies.{reply_bytes}
use Rattle.named_words.specs.Effects.{Change, Outcome, add_by, answered, copy_by, counted, gone_of, number, rename_by, takes}
use Rattle.named_words.specs.Numbers.{incremented_by}
use Rattle.named_words.specs.Worked.{sizes}
use Rattle.named_words.proofs.worked.names_are_as_worked.Goals as goal

abbrev told : Outcome → List Change × List ℕ
told outcome = (outcome.0, flat_map reply_bytes outcome.1)

abbrev told_gone : List (List ℕ) → List Change × List ℕ
told_gone names = told (takes names, number (length names) ∷ [])

pub returns : goal.returns
unfolding digits
returns c = record {
  incr = λ names s. ap (λ (o : Option (List ℕ)). told (add_by sizes (codes "a") (incremented_by o (pos 1)))) s.a;
  decr_new = λ names s. ap (λ (o : Option (List ℕ)). told (add_by sizes (codes "x") (incremented_by o (negsuc 2)))) s.x;
  no_number = λ names s. ap (λ (o : Option (List ℕ)). told (add_by sizes (codes "b") (incremented_by o (pos 1)))) s.b;
  overflow = λ names s. ap (λ (o : Option (List ℕ)). told (add_by sizes (codes "a") (incremented_by o (pos 9223372036854775807)))) s.a;
  exists = λ names s. λ i. told (answered (number (counted (is_some (s.a i)) + (counted (is_some (s.a i)) + (counted (is_some (s.x i)) + 0)))));
  copy = λ names s. λ i. told (copy_by sizes (codes "x") (s.a i) (not (is_some (s.x i))));
  copy_there = λ names s. λ i. told (copy_by sizes (codes "b") (s.a i) (not (is_some (s.b i))));
  rename = λ names s. ap (λ (o : Option (List ℕ)). told (rename_by sizes (codes "a") (codes "b") o)) s.a;
  rename_none = λ names s. ap (λ (o : Option (List ℕ)). told (rename_by sizes (codes "x") (codes "b") o)) s.x;
  delete = λ names s. λ i. told_gone (if is_some (s.x i) then codes "x" ∷ gone_of (remove names (codes "x")) (codes "a" ∷ [])
      else if is_some (s.a i) then codes "a" ∷ gone_of (remove names (codes "a")) [] else gone_of names []);
}
