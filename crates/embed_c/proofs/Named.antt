-- Calls whose range and keys were tried first.
use Rattle.std.proofs.Common.{◌≡◌, ◌∙◌, ◌<◌, ℕ, ◌+◌, ◌∷◌, length, drop, slice_index_or, Bool, true, false, List, Option, None, Some, Result, Ok, Err, is_some, if◌then◌else◌, ap, subst, sym, refl}
use Rattle.std.proofs.lemmas.List.{drop_more}
use lib.Dec.{T}
use Rattle.logical_btree.specs.Walk.{Pair}
use Rattle.embed_c.specs.Answers.{alone}
use Rattle.embed_c.specs.Calls.{DoesNothing}
use Rattle.embed_c.specs.Ranges.{CopiesFront, GivesFirst, IfNamed}
use Rattle.embed_c.specs.declared.maps.Lengths.{Lengths}
use Rattle.embed_c.specs.declared.session.Session.{Session}

same_some : {A : Type 0} (y z : A) → Some y ≡ Some z → y ≡ z
same_some y z e = cc

none_of : {A : Type 0} (x : A) (b : Bool) → None ≡ (if b then Some x else None) → b ≡ false
none_of x false made = refl
none_of {A} x true made = absurd (subst (λ (o : Option A). T (is_some o)) (sym made) tt)

some_of : {A : Type 0} (x : A) (b : Bool) (y : A) → Some y ≡ (if b then Some x else None) → (b ≡ true) × (y ≡ x)
some_of {A} x false y made = absurd (subst (λ (o : Option A). T (is_some o)) made tt)
some_of x true y made = (refl, same_some y x made)

-- a test failed by which something is made
pub fails_by : {A : Type 0} (x : A) (b : Bool) (o : Option A) → o ≡ None → o ≡ (if b then Some x else None) → b ≡ false
fails_by x b o none made = none_of x b (sym none ∙ made)

-- it passed, and made this
pub passes_by : {A : Type 0} (x : A) (b : Bool) (o : Option A) (y : A) → o ≡ Some y → o ≡ (if b then Some x else None) → (b ≡ true) × (y ≡ x)
passes_by x b o y some made = some_of x b y (sym some ∙ made)

module _ (does : Session → Session → ℕ → Type 0) (old new : Session) (answer : ℕ) (range keys : Bool) where
  pub no_range : range ≡ false → DoesNothing (alone 32) old new answer → IfNamed range keys does old new answer
  no_range is nothing = subst (λ (b : Bool). IfNamed b keys does old new answer) (sym is) nothing

  pub no_key : range ≡ true → keys ≡ false → DoesNothing (alone 49) old new answer → IfNamed range keys does old new answer
  no_key named short nothing = subst (λ (b : Bool). IfNamed b keys does old new answer) (sym named) (subst (λ (b : Bool). IfNamed true b does old new answer) (sym short) nothing)

  pub all_named : range ≡ true → keys ≡ true → does old new answer → IfNamed range keys does old new answer
  all_named named short done = subst (λ (b : Bool). IfNamed b keys does old new answer) (sym named) (subst (λ (b : Bool). IfNamed true b does old new answer) (sym short) done)

-- what is said of names that were read is said of those that C gave
pub at_names : {R : Type 0} (P : R → List ℕ → List ℕ → Type 0) (r s : R) (k l v w : List ℕ) → r ≡ s → k ≡ l → v ≡ w → P r k v → P s l w
at_names {R} P r s k l v w same keys values = subst (λ (t : R × (List ℕ × List ℕ)). P t.0 t.1.0 t.1.1) (λ i. (same i, (keys i, values i)))

pub at_name : {R : Type 0} (P : R → List ℕ → Type 0) (r s : R) (k l : List ℕ) → r ≡ s → k ≡ l → P r k → P s l
at_name {R} P r s k l same keys = subst (λ (t : R × List ℕ). P t.0 t.1) (λ i. (same i, keys i))

abbrev IsValue : {T E : Type 0} → Result T E → Type 0
IsValue (Ok x) = Unit {0}
IsValue (Err e) = ⊥

-- a value is no error
pub never_err : {T E : Type 0} {x : T} {e : E} → Ok x ≡ Err e → ⊥
never_err {T} {E} is = subst (λ (r : Result T E). IsValue r) is tt

abbrev pub Fails : (T : Type 0) {E : Type 0} → Result T E → E → Type 0
Fails T r e = r ≡ Err e

abbrev error_or : {A E : Type 0} → E → Result A E → E
error_or d (Ok x) = d
error_or d (Err e) = e

-- an error is that of a result of another kind too
pub error_again : (A B : Type 0) {E : Type 0} (d e : E) → Fails A (Err d) e → Fails B (Err d) e
error_again A B d e is = ap (λ (r : Result A _). Err (error_or d r)) is

-- the pair at a place is given
pub pair_given : (key key_after value value_after k v : List ℕ) (lengths : Lengths) (items : List Pair) (i : ℕ) (x : Pair) → i < length items → x ≡ slice_index_or items i x → k ≡ x.0 → v ≡ x.1
    → CopiesFront k key key_after → CopiesFront v value value_after → lengths ≡ record { key = length k; value = length v } → GivesFirst key key_after value value_after lengths (drop i items) 0
pair_given key key_after value value_after k v lengths items i x inside here name behind copied valued long =
    let same : record { key = length k; value = length v } ≡ record { key = length x.0; value = length x.1 } = λ j. record { key = length (name j); value = length (behind j) } in
    let at : drop i items ≡ x ∷ drop (i + 1) items = drop_more items i x inside ∙ ap (λ (y : Pair). y ∷ drop (i + 1) items) (sym here) in
    subst (λ (l : List Pair). GivesFirst key key_after value value_after lengths l 0) (sym at) (
      subst (λ (l : List ℕ). CopiesFront l key key_after) name copied,
      subst (λ (l : List ℕ). CopiesFront l value value_after) behind valued,
      long ∙ same,
      refl,
    )
