-- What is told where names stand in the range.
use Rattle.std.proofs.Common.{◌≡◌, refl, sym, ap, ◌∙◌, ℕ, ◌==◌, Option, None, Some, Result, Ok, Err, List, length, option_map}
use Rattle.std.specs.Prelude.{nat_lt}
use Rattle.std.specs.FinMap.{get}
use Rattle.std.proofs.lemmas.Bool.{cond-true, eq-eqb, lt-ltb}
use Rattle.oper_core.specs.State.{State}
use Rattle.oper_core.specs.declared.bounds.Bounds.{Bounds}
use Rattle.map_client.specs.Answers.{MapErr, bad_map, get_told}
use Rattle.named_words.specs.Effects.{Names}
use Rattle.name_ranges.specs.Directory.{key_of, number_in, object_of}
use Rattle.name_ranges.specs.Named.{IsNamed, directory_of}
use Rattle.named_objects.specs.Answers.{find_told, numbered, value_told, valued}

module _ (b : Bounds) (lo hi : ℕ) (s : State) (names : Names) (is : IsNamed b lo hi s names) (name : List ℕ) (got : get_told b lo hi s (key_of name) ≡ Ok (get (directory_of is) (key_of name))) where
  numbered_is : (o : Option (List ℕ)) → get (directory_of is) (key_of name) ≡ o → numbered lo (Ok o) ≡ Ok (option_map number_in o)
  numbered_is None found = refl
  numbered_is (Some number) found = cond-true (length number == 4) (Ok (Some (number_in number))) (Err (bad_map lo)) (eq-eqb (length number) 4 (is.directory.whole (key_of name) number found).1)

  pub found_is : find_told b lo hi s name ≡ Ok (object_of (directory_of is) name)
  found_is = ap (numbered lo) got ∙ numbered_is (get (directory_of is) (key_of name)) refl

  valued_is : (o : Option ℕ) → object_of (directory_of is) name ≡ o → valued b lo s (Ok o) ≡ Ok (option_map s o)
  valued_is None found = refl
  valued_is (Some x) found = cond-true (nat_lt x b.objects) (Ok (Some (s x))) (Err (bad_map lo)) (lt-ltb x b.objects (is.directory.within name x found).1)

  pub value_is : value_told b lo hi s name ≡ Ok (get names name)
  value_is = ap (valued b lo s) found_is ∙ valued_is (object_of (directory_of is) name) refl ∙ ap (λ (o : Option (List ℕ)). (let r : Result (Option (List ℕ)) MapErr = Ok o in r)) (sym (is.value name))
