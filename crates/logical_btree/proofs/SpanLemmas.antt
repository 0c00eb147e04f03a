-- Keys and the spans that separators leave to them.
use Rattle.std.proofs.Common.{◌≡◌, ◌≢◌, ℕ, Bool, true, false, not, ◌&&◌, Option, None, Some, List, [], ◌∷◌, ◌++◌, All, refl, sym, ap, ◌∙◌, subst, Ordering, Less, Equal, Greater, is_lt, T, true≢false}
use Rattle.std.specs.Prelude.{IsTrue}
use Rattle.std.specs.Ordering.{ordering_reverse}
use Rattle.std.specs.FinMap.Entries.{is_sorted, below_all}
use Rattle.std.specs.Cmp.Lexicographic.{nat_list_cmp_total}
use Rattle.std.proofs.lemmas.List.Elements.{All-head, All-tail}
use Rattle.key_entries.specs.Entries.{byte_order}
use Rattle.key_entries.specs.KeyLaws.{same_key}
use Rattle.key_entries.specs.EntryLaws.{both_true, true_both}
use Rattle.logical_btree.specs.Walk.{Span, is_below, is_within}
use Rattle.logical_btree.specs.Tree.{all_within}

-- the first is below the second, or is not
abbrev pub Below : List ℕ → List ℕ → Type 0
Below x y = is_lt (byte_order x y) ≡ true

abbrev pub NotBelow : List ℕ → List ℕ → Type 0
NotBelow x y = is_lt (byte_order x y) ≡ false

is_less : (o : Ordering) → is_lt o ≡ true → o ≡ Less
is_less Less e = refl
is_less Equal e = absurd (true≢false (sym e))
is_less Greater e = absurd (true≢false (sym e))

not_less : (o : Ordering) → o ≢ Less → is_lt o ≡ false
not_less Less e = absurd (e refl)
not_less Equal e = refl
not_less Greater e = refl

pub below_if : (x y : List ℕ) → byte_order x y ≡ Less → Below x y
below_if x y e = ap is_lt e

pub not_below_if : (x y : List ℕ) → byte_order x y ≢ Less → NotBelow x y
not_below_if x y e = not_less (byte_order x y) e

pub below_trans : (x y z : List ℕ) → Below x y → Below y z → Below x z
below_trans x y z a b = ap is_lt (nat_list_cmp_total.trans x y z (is_less (byte_order x y) a) (is_less (byte_order y z) b))

pub below_not_below : (z x y : List ℕ) → Below z x → NotBelow y x → Below z y
below_not_below z x y a b =
    elim (byte_order x y) as (λ o. byte_order x y ≡ o → Below z y) [
      | Less ↦ λ e. below_trans z x y a (ap is_lt e)
      | Equal ↦ λ e. subst (λ (k : List ℕ). Below z k) (same_key x y e) a
      | Greater ↦ λ e. absurd (true≢false (sym (ap is_lt (nat_list_cmp_total.antisymm y x ∙ ap ordering_reverse e)) ∙ b))
    ] refl

pub not_below_below : (x y z : List ℕ) → NotBelow y x → Below y z → Below x z
not_below_below x y z a b =
    elim (byte_order x y) as (λ o. byte_order x y ≡ o → Below x z) [
      | Less ↦ λ e. below_trans x y z (ap is_lt e) b
      | Equal ↦ λ e. subst (λ (k : List ℕ). Below k z) (sym (same_key x y e)) b
      | Greater ↦ λ e. absurd (true≢false (sym (ap is_lt (nat_list_cmp_total.antisymm y x ∙ ap ordering_reverse e)) ∙ a))
    ] refl

by_test : (b : Bool) → (b ≡ true → ⊥) → b ≡ false
by_test true never = absurd (never refl)
by_test false never = refl

pub not_below_trans : (x y z : List ℕ) → NotBelow y x → NotBelow z y → NotBelow z x
not_below_trans x y z a b = by_test (is_lt (byte_order z x)) (λ less. true≢false (sym (below_not_below z x y less a) ∙ b))

pub not_below_itself : (x : List ℕ) → NotBelow x x
not_below_itself x = by_test (is_lt (byte_order x x))
    (λ less. true≢false (sym less ∙ ap is_lt (nat_list_cmp_total.antisymm x x ∙ ap ordering_reverse (is_less (byte_order x x) less))))

pub below_asym : (x y : List ℕ) → Below x y → NotBelow y x
below_asym x y a = by_test (is_lt (byte_order y x)) (λ less. true≢false (sym (below_trans x y x a less) ∙ not_below_itself x))

-- a key in a span
not_true : (b : Bool) → IsTrue (not b) → b ≡ false
not_true true e = absurd (true≢false (sym e))
not_true false e = refl

pub within_from : (q : List ℕ) (span : Span) → IsTrue (is_within q span) → NotBelow q span.from
within_from q span is = not_true (is_lt (byte_order q span.from)) (both_true (not (is_lt (byte_order q span.from))) (is_below q span.to) is).0

pub within_to : (q : List ℕ) (span : Span) → IsTrue (is_within q span) → IsTrue (is_below q span.to)
within_to q span is = (both_true (not (is_lt (byte_order q span.from))) (is_below q span.to) is).1

pub within_made : (q : List ℕ) (span : Span) → NotBelow q span.from → IsTrue (is_below q span.to) → IsTrue (is_within q span)
within_made q span from to = true_both (not (is_lt (byte_order q span.from))) (is_below q span.to) (ap not from) to

pub to_trans : (x y : List ℕ) (to : Option (List ℕ)) → Below x y → IsTrue (is_below y to) → IsTrue (is_below x to)
to_trans x y None a b = refl
to_trans x y (Some end) a b = below_trans x y end a b

pub split_and : (a b : Bool) → T (a && b) → (a ≡ true) × T b
split_and true b h = (refl, h)
split_and false b h = absurd h

module _ {X : Type 0} where
  pub within_append : (span : Span) (a b : List (List ℕ × X)) → IsTrue (all_within span a) → IsTrue (all_within span b) → IsTrue (all_within span (a ++ b))
  within_append span [] b x y = y
  within_append span (e ∷ a) b x y =
      let both = both_true (is_within e.0 span) (all_within span a) x in
      true_both (is_within e.0 span) (all_within span (a ++ b)) both.0 (within_append span a b both.1 y)

  pub within_parts : (span : Span) (a b : List (List ℕ × X)) → IsTrue (all_within span (a ++ b)) → IsTrue (all_within span a) × IsTrue (all_within span b)
  within_parts span [] b x = (refl, x)
  within_parts span (e ∷ a) b x =
      let both = both_true (is_within e.0 span) (all_within span (a ++ b)) x in
      let rest = within_parts span a b both.1 in
      (true_both (is_within e.0 span) (all_within span a) both.0 rest.0, rest.1)

  pub within_lower : (span : Span) (key : List ℕ) (es : List (List ℕ × X)) → IsTrue (all_within span es) → All (λ e. byte_order e.0 key ≡ Less) es
      → IsTrue (all_within (record { from = span.from; to = Some key }) es)
  within_lower span key [] is below = refl
  within_lower span key (e ∷ es) is below =
      let both = both_true (is_within e.0 span) (all_within span es) is in
      let part : Span = record { from = span.from; to = Some key } in
      true_both (is_within e.0 part) (all_within part es)
      (within_made e.0 part (within_from e.0 span both.0) (below_if e.0 key (All-head (λ e. byte_order e.0 key ≡ Less) e es below)))
      (within_lower span key es both.1 (All-tail (λ e. byte_order e.0 key ≡ Less) e es below))

  pub within_upper : (span : Span) (key : List ℕ) (es : List (List ℕ × X)) → IsTrue (all_within span es) → All (λ e. byte_order e.0 key ≢ Less) es
      → IsTrue (all_within (record { from = key; to = span.to }) es)
  within_upper span key [] is above = refl
  within_upper span key (e ∷ es) is above =
      let both = both_true (is_within e.0 span) (all_within span es) is in
      let part : Span = record { from = key; to = span.to } in
      true_both (is_within e.0 part) (all_within part es)
      (within_made e.0 part (not_below_if e.0 key (All-head (λ e. byte_order e.0 key ≢ Less) e es above)) (within_to e.0 span both.0))
      (within_upper span key es both.1 (All-tail (λ e. byte_order e.0 key ≢ Less) e es above))

  -- keys that rise, all in the span
  pub record Ordered (span : Span) (es : List (List ℕ × X)) : Type 0 where
    pub within : IsTrue (all_within span es)
    pub rise : T (is_sorted byte_order es)

  above_first : (span : Span) (key : List ℕ) (es : List (List ℕ × X)) → IsTrue (all_within span es) → T (below_all byte_order key es) → IsTrue (all_within (record { from = key; to = span.to }) es)
  above_first span key [] is below = refl
  above_first span key (e ∷ es) is below =
      let both = both_true (is_within e.0 span) (all_within span es) is in
      let less = split_and (is_lt (byte_order key e.0)) (below_all byte_order key es) below in
      let part : Span = record { from = key; to = span.to } in
      true_both (is_within e.0 part) (all_within part es) (within_made e.0 part (below_asym key e.0 less.0) (within_to e.0 span both.0)) (above_first span key es both.1 less.1)

  pub ordered_rest : (span : Span) (e : List ℕ × X) (es : List (List ℕ × X)) → Ordered span (e ∷ es) → IsTrue (is_within e.0 span) × Ordered (record { from = e.0; to = span.to }) es
  ordered_rest span e es is =
      let both = both_true (is_within e.0 span) (all_within span es) is.within in
      let rise = split_and (below_all byte_order e.0 es) (is_sorted byte_order es) is.rise in
      (both.0, record { within = above_first span e.0 es both.1 (yes (below_all byte_order e.0 es) rise.0); rise = rise.1 })
    where
      yes : (b : Bool) → b ≡ true → T b
      yes true e = tt
      yes false e = absurd (true≢false (sym e))
