use Rattle.std.proofs.Common.{ap, codes, refl, true, false, Option, Some, List, ℕ, [], ◌∷◌, ◌++◌, negsuc, length}
use Rattle.std.specs.Fmt.{digits}
use Rattle.std.specs.List.{flat_map}
use Rattle.resp_words.specs.Replies.{array, reply_bytes, value}
use Rattle.named_words.specs.Effects.{Change, Outcome, answered, given, number, or_empty, set_by}
use Rattle.named_words.specs.Ranges.{part_of}
use Rattle.named_words.specs.Worked.{sizes}
use Rattle.named_words.specs.declared.when.When.TheVariants.{Always, Missing, There}
use Rattle.named_words.proofs.worked.values_are_as_worked.Goals as goal

abbrev told : Outcome → List Change × List ℕ
told outcome = (outcome.0, flat_map reply_bytes outcome.1)

pub returns : goal.returns
unfolding digits
returns c = record {
  get = λ names s. ap (λ (o : Option (List ℕ)). told (answered (value o))) s.a;
  get_none = λ names s. ap (λ (o : Option (List ℕ)). told (answered (value o))) s.x;
  set = λ names s. ap (λ (o : Option (List ℕ)). told (set_by sizes (codes "x") (codes "y") Always false o)) s.x;
  set_missing = λ names s. ap (λ (o : Option (List ℕ)). told (set_by sizes (codes "a") (codes "y") Missing false o)) s.a;
  set_back = λ names s. ap (λ (o : Option (List ℕ)). told (set_by sizes (codes "a") (codes "7") There true o)) s.a;
  set_syntax = λ names s. refl;
  get_range = λ names s. ap (λ (o : Option (List ℕ)). told (answered (value (Some (part_of (or_empty o) (negsuc 2) (negsuc 1)))))) s.b;
  append = λ names s. ap (λ (o : Option (List ℕ)). told (given sizes (codes "a") (or_empty o ++ codes "5") (number (length (or_empty o ++ codes "5"))))) s.a;
  m_get = λ names s. λ i. told ([], array (Some 2) ∷ value (s.a i) ∷ value (s.x i) ∷ []);
  m_set = λ names s. refl;
}
