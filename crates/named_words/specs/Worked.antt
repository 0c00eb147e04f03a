-- Requests and answers as Redis's clients see them.
use Rattle.std.specs.Prelude.{◌≡◌, ◌==◌, ℕ, Some, None, Ok, Err, List, [], ◌∷◌, codes, if◌then◌else◌}
use Rattle.std.specs.FinMap.{get}
use Rattle.std.specs.List.{flat_map}
use Rattle.resp_words.specs.Replies.{error, reply_bytes}
use Rattle.named_words.specs.Effects.{Change, Names, Outcome, Sizes, does}
use Rattle.named_words.specs.Forms.{Given}
use Rattle.named_words.specs.Reading.{request_of}
use Rattle.named_words.specs.Refusals.{text_of}
use Rattle.named_words.specs.Requests.{Asked, of_names, of_session}

-- one byte more in front of the first word
abbrev pub before_first : ℕ → List (List ℕ) → List (List ℕ)
before_first byte [] = (byte ∷ []) ∷ []
before_first byte (word ∷ words) = (byte ∷ word) ∷ words

-- a text cut at each space
abbrev pub words_of : List ℕ → List (List ℕ)
words_of [] = [] ∷ []
words_of (byte ∷ rest) = if byte == 32 then [] ∷ words_of rest else before_first byte (words_of rest)

-- a line as a client sends it
abbrev pub asked_in : List (List ℕ) → Given Asked
asked_in [] = request_of [] []
asked_in (name ∷ words) = request_of name words

abbrev pub sizes : Sizes
sizes = record { name = 100; value = 1000 }

abbrev pub outcome_of : List (List ℕ) → Given Asked → Names → Outcome
outcome_of words (Ok (of_names request)) names = does sizes 0 request names
outcome_of words (Ok (of_session request)) names = ([], [])
outcome_of words (Err refusal) names = ([], error (text_of refusal words) ∷ [])

-- what a line changes, and the bytes that are answered
abbrev pub done_by : List ℕ → Names → List Change × List ℕ
done_by line names =
    let outcome = outcome_of (words_of line) (asked_in (words_of line)) names in
    (outcome.0, flat_map reply_bytes outcome.1)

-- names of which a has the value 10, b has hello, and x is not there
pub record AreSample (names : Names) : Type 0 where
  pub a : get names (codes "a") ≡ Some (codes "10")
  pub b : get names (codes "b") ≡ Some (codes "hello")
  pub x : get names (codes "x") ≡ None

-- so it is for the sample
abbrev pub Works : List ℕ → List Change → List ℕ → Type 0
Works line changes bytes = (names : Names) → AreSample names → done_by line names ≡ (changes, bytes)
