-- A number is put in front of a list, and the first is taken out.
use Rattle.std.proofs.Common.{◌≡◌, ◌∙◌, ap, sym, subst, ℕ, zero, suc, ◌+◌, ◌-◌, ◌<◌, ◌≤◌, ◌^◌, Fits, w32, List, [], ◌∷◌, ◌++◌, append_assoc, length, refl, arith}
use Rattle.std.specs.Prelude.{IsTrue, ◌==◌, slice_set, slice_index, slice_index_or}
use Rattle.std.proofs.lemmas.Bool.{or_left, or_right, eq-eqb}
use Rattle.std.proofs.lemmas.List.{map-set, length-set}
use Rattle.std.proofs.Math.Facts.{Fits-of_lt}
use Rattle.oper_core.specs.State.{is_among}
use Rattle.number_lists.specs.declared.chains.Chain.{Chain}
use Rattle.number_lists.specs.Lists.{list_at, AreApart, IsFree, AreAsMany, IsPushed, IsPopped, IsEmptied, IsCleared}
use Rattle.number_lists.specs.Links.{follow}
use Rattle.number_lists.specs.Followed.{chain_list, lists_of, view_of}
use Rattle.number_lists.proofs.Links.{empty-apart, list_at-map, length-lists, lists-pushed, apart-pushed, few, set-same, set-other, apart-popped, apart-cleared, free-cleared}

low : (next : List ℕ) (cs : List Chain) (i : ℕ) → i < length (lists_of next cs) → i < length cs
low next cs i lt = omega (arith, length-lists next cs)

listed : (next : List ℕ) (cs : List Chain) (i : ℕ) (c : Chain) → i < length (lists_of next cs) → c ≡ slice_index_or cs i c → list_at (lists_of next cs) i ≡ follow next c.count c.first
listed next cs i c lt at = list_at-map next cs i c (low next cs i lt) ∙ ap (chain_list next) (sym at)

same-sizes : (next linked : List ℕ) (nr : ℕ) (cs : List Chain) (cr i : ℕ) (new : Chain) → length linked ≡ length next → AreAsMany (view_of next nr cs cr) (view_of linked nr (slice_set cs i new) cr)
same-sizes next linked nr cs cr i new e = record {
  lists = length-lists linked (slice_set cs i new) ∙ length-set cs i new ∙ sym (length-lists next cs);
  items = e;
  list_room = ap (λ (n : ℕ). cr - n) (length-set cs i new);
  item_room = ap (λ (n : ℕ). nr - n) e;
}

pub few-fits : (next : List ℕ) (cs : List Chain) (i : ℕ) (c : Chain) → i < length (lists_of next cs) → c ≡ slice_index_or cs i c → AreApart (lists_of next cs) (length next) → length next ≤ 2 ^ 31 → Fits w32 (c.count + 1)
few-fits next cs i c lt at are small = let r = few next cs i c (low next cs i lt) at are in Fits-of_lt (omega (arith, r, small))

pushed-lists : (next : List ℕ) (cs : List Chain) (i x : ℕ) (c : Chain) → i < length (lists_of next cs) → x < length next → IsFree (lists_of next cs) x → c ≡ slice_index_or cs i c →
    lists_of (slice_set next x c.first) (slice_set cs i record { first = x; count = c.count + 1 }) ≡ slice_set (lists_of next cs) i (x ∷ list_at (lists_of next cs) i)
pushed-lists next cs i x c lt below free at = lists-pushed next cs i x c (low next cs i lt) below free at

pub pushed-apart : (next : List ℕ) (cs : List Chain) (i x : ℕ) (c : Chain) → i < length (lists_of next cs) → x < length next → IsFree (lists_of next cs) x → c ≡ slice_index_or cs i c → AreApart (lists_of next cs) (length next) →
    AreApart (lists_of (slice_set next x c.first) (slice_set cs i record { first = x; count = c.count + 1 })) (length (slice_set next x c.first))
pushed-apart next cs i x c lt below free at are =
    let linked = slice_set next x c.first in
    let new : Chain = record { first = x; count = c.count + 1 } in
    subst (λ (n : ℕ). AreApart (lists_of linked (slice_set cs i new)) n) (sym (length-set next x c.first))
    (subst (λ (ls : List (List ℕ)). AreApart ls (length next)) (sym (pushed-lists next cs i x c lt below free at)) (apart-pushed (lists_of next cs) (length next) i x below free are))

pub pushed : (next : List ℕ) (nr : ℕ) (cs : List Chain) (cr i x : ℕ) (c : Chain) → i < length (lists_of next cs) → x < length next → IsFree (lists_of next cs) x → c ≡ slice_index_or cs i c →
    IsPushed (view_of next nr cs cr) i x (view_of (slice_set next x c.first) nr (slice_set cs i record { first = x; count = c.count + 1 }) cr)
pushed next nr cs cr i x c lt below free at =
    let was = lists_of next cs in
    let new : Chain = record { first = x; count = c.count + 1 } in
    let e = pushed-lists next cs i x c lt below free at in
    record {
      here = ap (λ (ls : List (List ℕ)). list_at ls i) e ∙ set-same was i (x ∷ list_at was i) lt;
      others = λ j ne. ap (λ (ls : List (List ℕ)). list_at ls j) e ∙ set-other was i j (x ∷ list_at was i) ne;
      same = same-sizes next (slice_set next x c.first) nr cs cr i new (length-set next x c.first);
    }

-- where so many numbers are left after x, the walk goes on at f
abbrev pub GoesOn : List ℕ → ℕ → ℕ → ℕ → Type 0
GoesOn next left x f = follow next left f ≡ follow next left (slice_index next x)

front : (next : List ℕ) (k first : ℕ) → (k ≡ 0 → ⊥) → follow next k first ≡ first ∷ follow next (k - 1) (slice_index next first)
front next zero first ne = absurd (ne refl)
front next (suc k) first ne = let e : suc k - 1 ≡ k = omega arith in ap (λ (n : ℕ). first ∷ follow next n (slice_index next first)) (sym e)

pub begins : (next : List ℕ) (cs : List Chain) (i f : ℕ) (c : Chain) → i < length (lists_of next cs) → c ≡ slice_index_or cs i c → (c.count ≡ 0 → ⊥) → GoesOn next (c.count - 1) c.first f → list_at (lists_of next cs) i ≡ c.first ∷ follow next (c.count - 1) f
begins next cs i f c lt at some e = listed next cs i c lt at ∙ front next c.count c.first some ∙ ap (λ (ys : List ℕ). c.first ∷ ys) (sym e)

popped-lists : (next : List ℕ) (cs : List Chain) (i f : ℕ) (c : Chain) → lists_of next (slice_set cs i record { first = f; count = c.count - 1 }) ≡ slice_set (lists_of next cs) i (follow next (c.count - 1) f)
popped-lists next cs i f c = map-set (chain_list next) cs i record { first = f; count = c.count - 1 }

pub first-below : (next : List ℕ) (cs : List Chain) (i : ℕ) (c : Chain) → i < length (lists_of next cs) → c ≡ slice_index_or cs i c → (c.count ≡ 0 → ⊥) → AreApart (lists_of next cs) (length next) → c.first < length next
first-below next cs i c lt at some are =
    let e = begins next cs i (slice_index next c.first) c lt at some refl in
    are.below i c.first (subst (λ (ys : List ℕ). IsTrue (is_among c.first ys)) (sym e) (or_left (c.first == c.first) _ (eq-eqb c.first c.first refl)))

pub popped-apart : (next : List ℕ) (cs : List Chain) (i f : ℕ) (c : Chain) → i < length (lists_of next cs) → c ≡ slice_index_or cs i c → (c.count ≡ 0 → ⊥) → GoesOn next (c.count - 1) c.first f → AreApart (lists_of next cs) (length next) →
    AreApart (lists_of next (slice_set cs i record { first = f; count = c.count - 1 })) (length next)
popped-apart next cs i f c lt at some e are =
    subst (λ (ls : List (List ℕ)). AreApart ls (length next)) (sym (popped-lists next cs i f c)) (apart-popped (lists_of next cs) (length next) i c.first (follow next (c.count - 1) f) (begins next cs i f c lt at some e) are).0

pub popped : (next : List ℕ) (nr : ℕ) (cs : List Chain) (cr i f : ℕ) (c : Chain) → i < length (lists_of next cs) → c ≡ slice_index_or cs i c → (c.count ≡ 0 → ⊥) → GoesOn next (c.count - 1) c.first f → AreApart (lists_of next cs) (length next) →
    IsPopped (view_of next nr cs cr) i c.first (view_of next nr (slice_set cs i record { first = f; count = c.count - 1 }) cr)
popped next nr cs cr i f c lt at some e are =
    let was = lists_of next cs in
    let new : Chain = record { first = f; count = c.count - 1 } in
    let rest = follow next (c.count - 1) f in
    let moved = popped-lists next cs i f c in
    let starts = begins next cs i f c lt at some e in
    record {
      here = starts ∙ ap (λ (ys : List ℕ). c.first ∷ ys) (sym (ap (λ (ls : List (List ℕ)). list_at ls i) moved ∙ set-same was i rest lt));
      others = λ j ne. ap (λ (ls : List (List ℕ)). list_at ls j) moved ∙ set-other was i j rest ne;
      free = subst (λ (ls : List (List ℕ)). IsFree ls c.first) (sym moved) (apart-popped was (length next) i c.first rest starts are).1;
      below = first-below next cs i c lt at some are;
      same = same-sizes next next nr cs cr i new refl;
    }

pub emptied : (next : List ℕ) (nr : ℕ) (cs : List Chain) (cr i : ℕ) (c : Chain) → i < length (lists_of next cs) → c ≡ slice_index_or cs i c → c.count ≡ 0 → IsEmptied (view_of next nr cs cr) i (view_of next nr cs cr)
emptied next nr cs cr i c lt at none = record { was = listed next cs i c lt at ∙ ap (λ (n : ℕ). follow next n c.first) none; same = refl }

cleared-lists : (next : List ℕ) (cs : List Chain) (i : ℕ) → lists_of next (slice_set cs i record { first = 0; count = 0 }) ≡ slice_set (lists_of next cs) i []
cleared-lists next cs i = map-set (chain_list next) cs i record { first = 0; count = 0 }

pub cleared-apart : (next : List ℕ) (cs : List Chain) (i : ℕ) → AreApart (lists_of next cs) (length next) → AreApart (lists_of next (slice_set cs i record { first = 0; count = 0 })) (length next)
cleared-apart next cs i are = subst (λ (ls : List (List ℕ)). AreApart ls (length next)) (sym (cleared-lists next cs i)) (apart-cleared (lists_of next cs) (length next) i are)

pub cleared : (next : List ℕ) (nr : ℕ) (cs : List Chain) (cr i : ℕ) → i < length (lists_of next cs) → AreApart (lists_of next cs) (length next) →
    IsCleared (view_of next nr cs cr) i (view_of next nr (slice_set cs i record { first = 0; count = 0 }) cr)
cleared next nr cs cr i lt are =
    let was = lists_of next cs in
    let new : Chain = record { first = 0; count = 0 } in
    let e = cleared-lists next cs i in
    record {
      here = ap (λ (ls : List (List ℕ)). list_at ls i) e ∙ set-same was i [] lt;
      others = λ j ne. ap (λ (ls : List (List ℕ)). list_at ls j) e ∙ set-other was i j [] ne;
      free = λ k there. subst (λ (ls : List (List ℕ)). IsFree ls k) (sym e) (free-cleared was (length next) i k lt are there);
      same = same-sizes next next nr cs cr i new refl;
    }

pub none-apart : (next : List ℕ) (items : ℕ) → AreApart (lists_of next []) items
none-apart next items = empty-apart items

among-later : (out : List ℕ) (x : ℕ) (xs : List ℕ) → IsTrue (is_among x (out ++ x ∷ xs))
among-later [] x xs = or_left (x == x) _ (eq-eqb x x refl)
among-later (y ∷ out) x xs = or_right (x == y) _ (among-later out x xs)

-- the start of a walk along a chain, a step, and the end
pub walk-start : (next : List ℕ) (cs : List Chain) (i : ℕ) (c : Chain) → i < length (lists_of next cs) → c ≡ slice_index_or cs i c → follow next c.count c.first ≡ list_at (lists_of next cs) i
walk-start next cs i c lt at = sym (listed next cs i c lt at)

pub walk-few : (next : List ℕ) (cs : List Chain) (i : ℕ) (c : Chain) → i < length (lists_of next cs) → c ≡ slice_index_or cs i c → AreApart (lists_of next cs) (length next) → c.count ≤ length next
walk-few next cs i c lt at are = few next cs i c (low next cs i lt) at are

pub walk-on : (next out xs : List ℕ) (k at f : ℕ) → (k ≡ 0 → ⊥) → GoesOn next (k - 1) at f → out ++ follow next k at ≡ xs → (out ++ at ∷ []) ++ follow next (k - 1) f ≡ xs
walk-on next out xs k at f some on e = append_assoc out (at ∷ []) (follow next (k - 1) f) ∙ ap (λ (ys : List ℕ). out ++ at ∷ ys) on ∙ ap (λ (ys : List ℕ). out ++ ys) (sym (front next k at some)) ∙ e

pub walk-in : (next out : List ℕ) (k at : ℕ) → (k ≡ 0 → ⊥) → IsTrue (is_among at (out ++ follow next k at))
walk-in next out k at some = subst (λ (ys : List ℕ). IsTrue (is_among at (out ++ ys))) (sym (front next k at some)) (among-later out at (follow next (k - 1) (slice_index next at)))
