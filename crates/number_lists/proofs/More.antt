-- One list more, and one number more.
use Rattle.std.proofs.Common.{◌≡◌, ◌∙◌, ap, sym, subst, ℕ, zero, suc, ◌+◌, ◌-◌, ◌<◌, ◌≤◌, List, [], ◌∷◌, ◌++◌, length, length-append, refl, arith}
use Rattle.std.specs.Prelude.{IsTrue, ◌==◌, slice_index, nat_eq}
use Rattle.std.specs.List.{IsDistinct}
use Rattle.std.proofs.lemmas.Bool.{or_left, or_right, eq-eqb}
use Rattle.oper_core.specs.State.{is_among}
use Rattle.number_lists.specs.declared.chains.Chain.{Chain}
use Rattle.number_lists.specs.Lists.{list_at, AreApart, IsWider, IsLonger}
use Rattle.number_lists.specs.Links.{follow}
use Rattle.number_lists.specs.Followed.{lists_of, view_of}
use Rattle.number_lists.proofs.Links.{length-lists}

apart-same : (old new : List (List ℕ)) (items more : ℕ) → ((j : ℕ) → list_at new j ≡ list_at old j) → items ≤ more → AreApart old items → AreApart new more
apart-same old new items more e le are =
    let back : (j k : ℕ) → IsTrue (is_among k (list_at new j)) → IsTrue (is_among k (list_at old j)) = λ j k there. subst (λ (ys : List ℕ). IsTrue (is_among k ys)) (e j) there in
    record {
      distinct = λ j. subst (λ (ys : List ℕ). IsDistinct nat_eq ys) (sym (e j)) (are.distinct j);
      apart = λ i j k f g. are.apart i j k (back i k f) (back j k g);
      below = λ j k there. omega (arith, are.below j k (back j k there), le);
    }

wider-at : (next : List ℕ) (cs : List Chain) (first : ℕ) (j : ℕ) → list_at (lists_of next (cs ++ record { first = first; count = 0 } ∷ [])) j ≡ list_at (lists_of next cs) j
wider-at next [] first zero = refl
wider-at next [] first (suc j) = refl
wider-at next (c ∷ cs) first zero = refl
wider-at next (c ∷ cs) first (suc j) = wider-at next cs first j

one-more : (n : ℕ) (cr dr : ℕ) → cr ≤ dr → cr - n ≤ (dr - (n + 1)) + 1
one-more n cr dr le = omega (arith, le)

pub wider-apart : (next : List ℕ) (cs : List Chain) → AreApart (lists_of next cs) (length next) → AreApart (lists_of next (cs ++ record { first = 0; count = 0 } ∷ [])) (length next)
wider-apart next cs are = apart-same (lists_of next cs) _ (length next) (length next) (wider-at next cs 0) (omega arith) are

pub wider : (next : List ℕ) (nr : ℕ) (cs : List Chain) (cr dr : ℕ) → cr ≤ dr → IsWider (view_of next nr cs cr) (view_of next nr (cs ++ record { first = 0; count = 0 } ∷ []) dr)
wider next nr cs cr dr le =
    let new = cs ++ record { first = 0; count = 0 } ∷ [] in
    let more : length new ≡ length cs + 1 = length-append cs (record { first = 0; count = 0 } ∷ []) in
    record {
      here = wider-at next cs 0;
      lists = length-lists next new ∙ more ∙ ap (λ (n : ℕ). n + 1) (sym (length-lists next cs));
      items = refl;
      list_room = subst (λ (n : ℕ). cr - length cs ≤ (dr - n) + 1) (sym more) (one-more (length cs) cr dr le);
      item_room = refl;
    }

read-left : (next : List ℕ) (i v : ℕ) → i < length next → slice_index (next ++ v ∷ []) i ≡ slice_index next i
read-left [] i v lt = absurd (omega arith)
read-left (x ∷ next) zero v lt = refl
read-left (x ∷ next) (suc i) v lt = read-left next i v (omega arith)

follow-more : (next : List ℕ) (v k first : ℕ) → ((i : ℕ) → IsTrue (is_among i (follow next k first)) → i < length next) → follow (next ++ v ∷ []) k first ≡ follow next k first
follow-more next v zero first below = refl
follow-more next v (suc k) first below =
    let same : slice_index (next ++ v ∷ []) first ≡ slice_index next first = read-left next first v (below first (or_left (first == first) _ (eq-eqb first first refl))) in
    ap (λ (n : ℕ). first ∷ follow (next ++ v ∷ []) k n) same ∙ ap (λ (ys : List ℕ). first ∷ ys) (follow-more next v k (slice_index next first) (λ i there. below i (or_right (i == first) _ there)))

longer-at : (next : List ℕ) (cs : List Chain) (v j : ℕ) → ((i k : ℕ) → IsTrue (is_among k (list_at (lists_of next cs) i)) → k < length next) → list_at (lists_of (next ++ v ∷ []) cs) j ≡ list_at (lists_of next cs) j
longer-at next [] v j below = refl
longer-at next (c ∷ cs) v zero below = follow-more next v c.count c.first (below zero)
longer-at next (c ∷ cs) v (suc j) below = longer-at next cs v j (λ i. below (suc i))

pub longer-apart : (next : List ℕ) (cs : List Chain) (v : ℕ) → AreApart (lists_of next cs) (length next) → AreApart (lists_of (next ++ v ∷ []) cs) (length (next ++ v ∷ []))
longer-apart next cs v are = apart-same (lists_of next cs) _ (length next) _ (λ j. longer-at next cs v j are.below) (omega (arith, length-append next (v ∷ []))) are

pub longer : (next : List ℕ) (nr mr : ℕ) (cs : List Chain) (cr v : ℕ) → nr ≤ mr → AreApart (lists_of next cs) (length next) → IsLonger (view_of next nr cs cr) (view_of (next ++ v ∷ []) mr cs cr)
longer next nr mr cs cr v le are =
    let new = next ++ v ∷ [] in
    let more : length new ≡ length next + 1 = length-append next (v ∷ []) in
    record {
      here = λ j. longer-at next cs v j are.below;
      free = λ i there. let r = are.below i (length next) (subst (λ (ys : List ℕ). IsTrue (is_among (length next) ys)) (longer-at next cs v i are.below) there) in omega (arith, r);
      lists = length-lists new cs ∙ sym (length-lists next cs);
      items = more;
      list_room = refl;
      item_room = subst (λ (n : ℕ). nr - length next ≤ (mr - n) + 1) (sym more) (one-more (length next) nr mr le);
    }
