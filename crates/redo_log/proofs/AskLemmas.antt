-- What the getters of the matches give.
use Rattle.std.proofs.Common.{◌≡◌, ◌∙◌, ℕ, List, Option, Some, None, Result, Ok, Err, IfSome, IfNone, ap, codes, refl, sym, subst, Bool, true, false}
use Rattle.std.specs.Result.{result_ok}
use Rattle.std.specs.Str.Parse.{ParsesUnsigned}
use Rattle.clap.specs.Words.{Row, Text, TriesOne, first_of, first_value, one_of, one_text, rows_of}
use Rattle.clap.specs.declared.parser.matches.Found.{Found}
use Rattle.clap.proofs.WalkLemmas.{first_value-rows, one_text-rows}
use Rattle.redo_log.specs.Asking.{Gives, IsFlag, IsKind, IsNumber}
use Rattle.redo_log.specs.declared.asked.Asked.{Asked}

-- what holds anyway holds of no answer
pub if_holds : {T P : Type 0} (r : Option T) → P → IfNone r P
if_holds None p = p
if_holds (Some x) p = tt

-- a number that is read from a text is that of its digits
tried : {E : Type 0} (k : ℕ) (o : Option Text) (gives : List ℕ → Result ℕ E → Type 0) (r : Result (Option ℕ) E) → ((t : List ℕ) (x : Result ℕ E) → gives t x → ParsesUnsigned k 10 t x)
    → (o ≡ None → r ≡ Ok None) → ((t : List ℕ) → o ≡ Some t → TriesOne gives t r) → IfSome (result_ok r) (IsNumber k o)
tried k o gives (Err e) parses none value = tt
tried k None gives (Ok n) parses none value = cc (none refl)
tried k (Some t) gives (Ok None) parses none value = absurd (value t refl)
tried k (Some t) gives (Ok (Some n)) parses none value =
    let read = parses t (Ok n) (value t refl) in
    (read.0, ap Some read.1)

-- where none is read, the text is none
refused : {E : Type 0} (k : ℕ) (o : Option Text) (gives : List ℕ → Result ℕ E → Type 0) (r : Result (Option ℕ) E) → ((t : List ℕ) (x : Result ℕ E) → gives t x → ParsesUnsigned k 10 t x)
    → (o ≡ None → r ≡ Ok None) → ((t : List ℕ) → o ≡ Some t → TriesOne gives t r) → IfNone (result_ok r) ((n : Option ℕ) → IsNumber k o n → ⊥)
refused k o gives (Ok n) parses none value = tt
refused k None gives (Err e) parses none value = λ n is. cc (none refl)
refused k (Some t) gives (Err e) parses none value = λ n is. parses t (Err e) (value t refl) is.0

-- the same of what a getter answers
pub if_number : {E : Type 0} (k : ℕ) (f : Found) (id : Text) (gives : List ℕ → Result ℕ E → Type 0) (r : Result (Option ℕ) E) (o : Option (Option ℕ)) → ((t : List ℕ) (x : Result ℕ E) → gives t x → ParsesUnsigned k 10 t x)
    → (one_text f id ≡ None → r ≡ Ok None) → ((t : List ℕ) → one_text f id ≡ Some t → TriesOne gives t r) → o ≡ result_ok r → IfSome o (IsNumber k (one_of id (rows_of f)))
if_number k f id gives r o parses none value is =
    subst (λ (x : Option (Option ℕ)). IfSome x (IsNumber k (one_of id (rows_of f)))) (sym is)
    (subst (λ (t : Option Text). IfSome (result_ok r) (IsNumber k t)) (one_text-rows f id) (tried k (one_text f id) gives r parses none value))

pub if_none : {E : Type 0} (k : ℕ) (f : Found) (id : Text) (gives : List ℕ → Result ℕ E → Type 0) (r : Result (Option ℕ) E) (o : Option (Option ℕ)) → ((t : List ℕ) (x : Result ℕ E) → gives t x → ParsesUnsigned k 10 t x)
    → (one_text f id ≡ None → r ≡ Ok None) → ((t : List ℕ) → one_text f id ≡ Some t → TriesOne gives t r) → o ≡ result_ok r → IfNone o ((n : Option ℕ) → IsNumber k (one_of id (rows_of f)) n → ⊥)
if_none k f id gives r o parses none value is =
    subst (λ (x : Option (Option ℕ)). IfNone x ((n : Option ℕ) → IsNumber k (one_of id (rows_of f)) n → ⊥)) (sym is)
    (subst (λ (t : Option Text). IfNone (result_ok r) ((n : Option ℕ) → IsNumber k t n → ⊥)) (one_text-rows f id) (refused k (one_text f id) gives r parses none value))

-- an option without a value
pub is_flag : (f : Found) (id : Text) (b : Bool) → (one_text f id ≡ None → b ≡ false) → (one_text f id ≡ Some (codes "true") → b ≡ true) → (one_text f id ≡ Some (codes "false") → b ≡ false) → IsFlag (one_of id (rows_of f)) b
is_flag f id b none some other = subst (λ (t : Option Text). IsFlag t b) (one_text-rows f id) (go (one_text f id) none some other)
  where
    go : (o : Option Text) → (o ≡ None → b ≡ false) → (o ≡ Some (codes "true") → b ≡ true) → (o ≡ Some (codes "false") → b ≡ false) → IsFlag o b
    go None none some other = none refl
    go (Some t) none some other = (λ same. some (ap Some same), λ same. other (ap Some same))

-- the text of an option without a reading
pub kind_text : (f : Found) (o : Option Text) (k : Option ℕ) → o ≡ first_value f (codes "kind") → IsKind o k → IsKind (first_of (codes "kind") (rows_of f)) k
kind_text f o k is holds = subst (λ (t : Option Text). IsKind t k) (is ∙ first_value-rows f (codes "kind")) holds

pub no_kind_text : (f : Found) (o : Option Text) → o ≡ first_value f (codes "kind") → ((k : Option ℕ) → IsKind o k → ⊥) → (k : Option ℕ) → IsKind (first_of (codes "kind") (rows_of f)) k → ⊥
no_kind_text f o is none k holds = none k (subst (λ (t : Option Text). IsKind t k) (sym (is ∙ first_value-rows f (codes "kind"))) holds)

-- no value for an option, so none for all of them
module _ (rows : List Row) where
  pub no_from : ((n : Option ℕ) → IsNumber 64 (one_of (codes "from") rows) n → ⊥) → (it : Asked) → Gives rows it → ⊥
  no_from none it gives = none it.choice.from gives.from

  pub no_to : ((n : Option ℕ) → IsNumber 64 (one_of (codes "to") rows) n → ⊥) → (it : Asked) → Gives rows it → ⊥
  no_to none it gives = none it.choice.to gives.to

  pub no_object : ((n : Option ℕ) → IsNumber 32 (one_of (codes "object") rows) n → ⊥) → (it : Asked) → Gives rows it → ⊥
  no_object none it gives = none it.choice.object gives.object

  pub no_kind : ((k : Option ℕ) → IsKind (first_of (codes "kind") rows) k → ⊥) → (it : Asked) → Gives rows it → ⊥
  no_kind none it gives = none it.choice.kind gives.kind
