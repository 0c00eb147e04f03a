-- A front of some text was said.
use Rattle.std.proofs.Common.{◌≡◌, ◌+◌, ◌++◌, ◌∙◌, ℕ, zero, suc, List, [], length, take, ap, arith, append_assoc, length-append, subst, sym}
use Rattle.std.specs.Prelude.{Result, Ok, Err, OnErr}
use Rattle.std.proofs.Math.Seq.{take-append-add}
use Rattle.std.proofs.lemmas.List.{append-nil, take_all}
use Rattle.disk_model.specs.Disk.{SaysFront}

pub nothing_said : (text before after : List ℕ) → after ≡ before → SaysFront text before after
nothing_said text before after same = (0, omega arith, same ∙ sym (append-nil before))

pub all_said : (text before after : List ℕ) → after ≡ before ++ text → SaysFront text before after
all_said text before after said = (length text, omega arith, said ∙ ap (λ (l : List ℕ). before ++ l) (sym (take_all (length text) text (omega arith))))

-- the same text, from the same bytes on
pub front_at : (text said before mid after : List ℕ) → said ≡ text → mid ≡ before → SaysFront said mid after → SaysFront text before after
front_at text said before mid after same here front = subst (λ (s : List ℕ). SaysFront text s after) here (subst (λ (l : List ℕ). SaysFront l mid after) same front)

-- behind a text that was said
pub front_behind : (text more before mid after : List ℕ) → mid ≡ before ++ text → SaysFront more mid after → SaysFront (text ++ more) before after
front_behind text more before mid after all (n, few, is) = (
  length text + n,
  let long = length-append text more in omega (arith, few, long),
  is ∙ ap (λ (l : List ℕ). l ++ take n more) all ∙ append_assoc before text (take n more) ∙ ap (λ (l : List ℕ). before ++ l) (sym (take-append-add text more n)),
)

-- a front of no text is nothing
take_none : (before : List ℕ) (n : ℕ) → before ++ take n [] ≡ before
take_none before zero = append-nil before
take_none before (suc n) = append-nil before

pub said_none : (before after : List ℕ) → SaysFront [] before after → after ≡ before
said_none before after (n, few, is) = is ∙ take_none before n

-- what holds of any end holds of an error
pub on_any : {T E P : Type 0} (result : Result T E) → P → OnErr result P
on_any (Ok value) holds = tt
on_any (Err e) holds = holds
