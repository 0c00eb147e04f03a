-- What bytes that have come begin with. A language says which text means what.
use Rattle.std.specs.Prelude.{◌≡◌, ℕ, List, ◌++◌}
use Rattle.resp_words.specs.declared.found.Found.{Found}
use Rattle.resp_words.specs.declared.found.Found.TheVariants.{Whole, More, Bad}
use Rattle.resp_words.specs.declared.protocol_error.ProtocolError.{ProtocolError}

-- the bytes begin with a text of the language
pub record Begins {A : Type 0} (L : List ℕ → A → Type 0) (bytes : List ℕ) : Type 0 where
  pub text : List ℕ
  pub meaning : A
  pub later : List ℕ
  pub means : L text meaning
  pub is : bytes ≡ text ++ later

-- they begin with none, and are the front of one
pub record IsFront {A : Type 0} (L : List ℕ → A → Type 0) (bytes : List ℕ) : Type 0 where
  pub none : Begins L bytes → ⊥
  pub later : List ℕ
  pub meaning : A
  pub means : L (bytes ++ later) meaning

-- whatever comes, they begin with none
abbrev pub IsBad : {A : Type 0} → (List ℕ → A → Type 0) → List ℕ → Type 0
IsBad L bytes = (later : List ℕ) → Begins L (bytes ++ later) → ⊥

-- they begin with a text of this meaning, and this follows it
pub record IsRead {A : Type 0} (L : List ℕ → A → Type 0) (bytes : List ℕ) (meaning : A) (rest : List ℕ) : Type 0 where
  pub text : List ℕ
  pub means : L text meaning
  pub is : bytes ≡ text ++ rest

-- which of the three it is, and why they are bad
abbrev pub Reads : {A X : Type 0} → (List ℕ → A → Type 0) → (X → A) → (X → List ℕ) → (ProtocolError → Type 0) → List ℕ → Found X → Type 0
Reads L meaning rest why bytes (Whole x) = IsRead L bytes (meaning x) (rest x)
Reads L meaning rest why bytes More = IsFront L bytes
Reads L meaning rest why bytes (Bad error) = IsBad L bytes × why error
