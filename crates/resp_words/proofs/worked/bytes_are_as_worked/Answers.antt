use Rattle.std.proofs.Common.{refl, arith, codes, ◌++◌, ◌∷◌, []}
use Rattle.std.specs.Fmt.{digits}
use Rattle.resp_words.proofs.worked.bytes_are_as_worked.Goals as goal

pub returns : goal.returns
unfolding digits
returns c = record {
  command = refl;
  empty_word = refl;
  words = (
    codes "  key " ++ 13 ∷ [],
    record { gap = codes " "; is = refl; blank = (refl, tt); some = omega arith; solid = (refl, (refl, (refl, tt))); stops = refl },
    (
      codes " " ++ 13 ∷ [],
      record { gap = codes "  "; is = refl; blank = (refl, (refl, tt)); some = omega arith; solid = (refl, (refl, (refl, tt))); stops = refl },
      (refl, (refl, tt)),
    ),
  );
  texts = refl;
  numbers = refl;
  values = refl;
  arrays = refl;
  one_line = refl;
}
