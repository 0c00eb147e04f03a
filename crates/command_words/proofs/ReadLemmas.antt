-- What the getters of the matches give.
use Rattle.std.proofs.Common.{◌≡◌, ◌∙◌, ◌<◌, ◌^◌, ℕ, Bool, true, false, codes, List, Option, Some, None, Result, Ok, Err, IfSome, IfNone, ap, refl, sym, subst}
use Rattle.std.specs.Prelude.{unwrap_or}
use Rattle.std.specs.Str.Parse.{ParsesBool, ParsesUnsigned}
use Rattle.clap.specs.Words.{ReadsOne, Text, one_text, rows_of}
use Rattle.clap.specs.declared.parser.matches.Found.{Found}
use Rattle.clap.proofs.WalkLemmas.{one_text-rows}
use Rattle.command_words.specs.Words.{Gives, IsGiven}

some≢none : {X : Type 0} (x : X) → None ≡ Some x → ⊥
some≢none x e = cc

same_some : {X : Type 0} (x y : X) → Some x ≡ Some y → x ≡ y
same_some x y e = cc

-- a number that is read from a text is that of its digits
pub read_gives : {E : Type 0} (k : ℕ) (f : Found) (id : Text) (gives : List ℕ → Result ℕ E → Type 0) (r : Option ℕ)
    → ((t : List ℕ) (x : Result ℕ E) → gives t x → ParsesUnsigned k 10 t x)
    → (one_text f id ≡ None → r ≡ None)
    → ((t : List ℕ) → one_text f id ≡ Some t → ReadsOne gives t r)
    → (n : ℕ) → r ≡ Some n → Gives (rows_of f) id n
read_gives k f id gives r parses none value n is = go (one_text f id) refl
  where
    go : (o : Option Text) → one_text f id ≡ o → Gives (rows_of f) id n
    go None e = absurd (some≢none n (sym (none e) ∙ is))
    go (Some t) e =
        let read = parses t (Ok n) (subst (ReadsOne gives t) is (value t e)) in
        record { text = t; value = sym (one_text-rows f id) ∙ e; numeral = read.0.0; number = sym read.1 }

pub read_none : {E : Type 0} (k : ℕ) (f : Found) (id : Text) (gives : List ℕ → Result ℕ E → Type 0) (r : Option ℕ)
    → ((t : List ℕ) (x : Result ℕ E) → gives t x → ParsesUnsigned k 10 t x)
    → ((t : List ℕ) → one_text f id ≡ Some t → ReadsOne gives t r)
    → r ≡ None → (n : ℕ) → n < 2 ^ k → Gives (rows_of f) id n → ⊥
read_none k f id gives r parses value is n small given =
    let failed = subst (ReadsOne gives given.text) is (value given.text (one_text-rows f id ∙ given.value)) in
    parses given.text (Err failed.0) failed.1 (given.numeral, subst (λ m. m < 2 ^ k) (sym given.number) small)

-- what holds anyway holds of no answer
pub if_holds : {T P : Type 0} (r : Option T) → P → IfNone r P
if_holds None p = p
if_holds (Some x) p = tt

-- the same of what a getter answers
pub if_gives : {E : Type 0} (k : ℕ) (f : Found) (id : Text) (gives : List ℕ → Result ℕ E → Type 0) (r : Option ℕ)
    → ((t : List ℕ) (x : Result ℕ E) → gives t x → ParsesUnsigned k 10 t x)
    → (one_text f id ≡ None → r ≡ None)
    → ((t : List ℕ) → one_text f id ≡ Some t → ReadsOne gives t r)
    → IfSome r (λ n. Gives (rows_of f) id n)
if_gives k f id gives None parses none value = tt
if_gives k f id gives (Some n) parses none value = read_gives k f id gives (Some n) parses none value n refl

pub if_none : {E : Type 0} (k : ℕ) (f : Found) (id : Text) (gives : List ℕ → Result ℕ E → Type 0) (r : Option ℕ)
    → ((t : List ℕ) (x : Result ℕ E) → gives t x → ParsesUnsigned k 10 t x)
    → ((t : List ℕ) → one_text f id ≡ Some t → ReadsOne gives t r)
    → IfNone r ((n : ℕ) → n < 2 ^ k → Gives (rows_of f) id n → ⊥)
if_none k f id gives None parses value = read_none k f id gives None parses value refl
if_none k f id gives (Some n) parses value = tt

-- a flag is there where its text is `true`
pub flag_given : (E : Type 0) (f : Found) (id : Text) (r : Option Bool) → (one_text f id ≡ None → r ≡ None) → ((t : List ℕ) → one_text f id ≡ Some t → ReadsOne {E = E} ParsesBool t r) → IsGiven (rows_of f) id (unwrap_or r false)
flag_given E f id r none value = go (one_text f id) r refl none value
  where
    go : (o : Option Text) (r : Option Bool) → one_text f id ≡ o → (o ≡ None → r ≡ None) → ((t : List ℕ) → o ≡ Some t → ReadsOne {E = E} ParsesBool t r) → IsGiven (rows_of f) id (unwrap_or r false)
    go None None is none value = λ given. some≢none (codes "true") (sym is ∙ one_text-rows f id ∙ given)
    go None (Some b) is none value = absurd (some≢none b (sym (none refl)))
    go (Some t) None is none value = λ given. (value t refl).1.0 (same_some t (codes "true") (sym is ∙ one_text-rows f id ∙ given))
    go (Some t) (Some true) is none value = sym (one_text-rows f id) ∙ is ∙ ap (λ (l : Text). Some l) (value t refl)
    go (Some t) (Some false) is none value = λ given.
        let true_is : t ≡ codes "true" = same_some t (codes "true") (sym is ∙ one_text-rows f id ∙ given) in
        let other : codes "false" ≡ codes "true" = sym (value t refl) ∙ true_is in
        cc other
