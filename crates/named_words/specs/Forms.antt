-- The forms of commands: how many words follow the name. The refusal is that of another count.
use Rattle.std.specs.Prelude.{ℕ, ◌==◌, ◌%◌, ⊤, Result, Ok, Err, List, [], ◌∷◌, length, map, if◌then◌else◌}
use Rattle.std.specs.Borrow.{Bor}
use Rattle.named_words.specs.declared.refusal.Refusal.{Refusal}

-- the bytes of words, wherever they lie
abbrev pub texts : List (Bor (List ℕ)) → List (List ℕ)
texts words = map (λ word. word.now) words

-- a thing, or why there is none
abbrev pub Given : Type 0 → Type 0
Given T = Result T Refusal

infixl 10 ◌>>=◌
abbrev pub ◌>>=◌ : {A B : Type 0} → Given A → (A → Given B) → Given B
(Ok x) >>= f = f x
(Err refusal) >>= f = Err refusal

abbrev pub seen : {A B : Type 0} → (A → B) → Given A → Given B
seen view (Ok x) = Ok (view x)
seen view (Err refusal) = Err refusal

-- no word
abbrev pub none : Refusal → List (List ℕ) → Given ⊤
none wrong [] = Ok tt
none wrong words = Err wrong

abbrev pub one : Refusal → List (List ℕ) → Given (List ℕ)
one wrong (a ∷ []) = Ok a
one wrong words = Err wrong

abbrev pub two : Refusal → List (List ℕ) → Given (List ℕ × List ℕ)
two wrong (a ∷ b ∷ []) = Ok (a, b)
two wrong words = Err wrong

abbrev pub three : Refusal → List (List ℕ) → Given (List ℕ × List ℕ × List ℕ)
three wrong (a ∷ b ∷ c ∷ []) = Ok (a, b, c)
three wrong words = Err wrong

-- one word or more
abbrev pub some : Refusal → List (List ℕ) → Given (List (List ℕ))
some wrong [] = Err wrong
some wrong words = Ok words

-- a word, and others
abbrev pub one_and_more : Refusal → List (List ℕ) → Given (List ℕ × List (List ℕ))
one_and_more wrong (a ∷ words) = Ok (a, words)
one_and_more wrong words = Err wrong

abbrev pub two_and_more : Refusal → List (List ℕ) → Given (List ℕ × List ℕ × List (List ℕ))
two_and_more wrong (a ∷ b ∷ words) = Ok (a, b, words)
two_and_more wrong words = Err wrong

-- an even number of words
abbrev pub even : Refusal → List (List ℕ) → Given (List (List ℕ))
even wrong words = if length words % 2 == 0 then Ok words else Err wrong
