-- Arcs that are kept in pages.
use Rattle.std.proofs.Common.{◌≡◌, ◌∙◌, ap, sym, subst, ℕ, zero, suc, ◌+◌, ◌*◌, ◌<◌, ◌≤◌, List, [], ◌∷◌, ◌++◌, append_assoc, append-nil, length, length-append, Option, Some, None, refl, arith, inl, inr}
use Rattle.std.specs.Prelude.{slice_index_or, slice_set}
use Rattle.std.proofs.lemmas.Bool.{cases_eq}
use Rattle.std.proofs.lemmas.List.{ext_get_or, get_or_default, get_or-set_same, get_or-set_other, length-set}
use Rattle.std.proofs.Math.ListN.{get_or-eq_default}
use Rattle.graph_nodes.specs.Arcs.{arc_at}
use Rattle.graph_nodes.specs.ArcPages.{arcs_of, count_pages, in_page, page_of, pages_for, place_of, stored_arc, ArePages, IsPageFound}
use Rattle.graph_nodes.specs.Kept.{no_arcs}
use Rattle.graph_nodes.proofs.Options.{none-some}
use Rattle.graph_nodes.proofs.Slot.{arc-same}

arc-left : (arcs : List (Option ℕ)) (o : Option ℕ) (c : ℕ) → c < length arcs → arc_at (arcs ++ o ∷ []) c ≡ arc_at arcs c
arc-left [] o c lt = absurd (omega (arith, lt))
arc-left (a ∷ arcs) o zero lt = refl
arc-left (a ∷ arcs) o (suc c) lt = arc-left arcs o c (omega (arith, lt))

arc-last : (arcs : List (Option ℕ)) (o : Option ℕ) → arc_at (arcs ++ o ∷ []) (length arcs) ≡ o
arc-last [] o = refl
arc-last (a ∷ arcs) o = arc-last arcs o

pub arcs-count : (pages stored : List (Option ℕ)) (n : ℕ) → length (arcs_of pages stored n) ≡ n
arcs-count pages stored zero = refl
arcs-count pages stored (suc n) = omega (arith, length-append (arcs_of pages stored n) (stored_arc pages stored n ∷ []), arcs-count pages stored n)

-- the list says of each cell what the pages do
pub arc-below : (pages stored : List (Option ℕ)) (n c : ℕ) → c < n → arc_at (arcs_of pages stored n) c ≡ stored_arc pages stored c
arc-below pages stored zero c lt = absurd (omega (arith, lt))
arc-below pages stored (suc n) c lt =
    let arcs = arcs_of pages stored n in
    let o = stored_arc pages stored n in
    elim (cases_eq c n) [
      | inl q ↦
          let e : c ≡ length arcs = q ∙ sym (arcs-count pages stored n) in
          ap (λ (k : ℕ). arc_at (arcs ++ o ∷ []) k) e ∙ arc-last arcs o ∙ ap (λ (k : ℕ). stored_arc pages stored k) (sym q)
      | inr ne ↦ arc-left arcs o c (omega (arith, lt, ne, arcs-count pages stored n)) ∙ arc-below pages stored n c (omega (arith, lt, ne))
    ]

-- where all cells stay, the list does
pub arcs-as : (more longer pages stored : List (Option ℕ)) (n : ℕ) → ((c : ℕ) → stored_arc more longer c ≡ stored_arc pages stored c) → arcs_of more longer n ≡ arcs_of pages stored n
arcs-as more longer pages stored zero same = refl
arcs-as more longer pages stored (suc n) same =
    ap (λ (xs : List (Option ℕ)). xs ++ stored_arc more longer n ∷ []) (arcs-as more longer pages stored n same) ∙ ap (λ (o : Option ℕ). arcs_of pages stored n ++ o ∷ []) (same n)

none-last : (n : ℕ) → no_arcs n ++ None ∷ [] ≡ no_arcs (suc n)
none-last zero = refl
none-last (suc n) = ap (λ (xs : List (Option ℕ)). None ∷ xs) (none-last n)

-- so many more cells, which have no arcs
pub arcs-more : (pages stored : List (Option ℕ)) (n k : ℕ) → ((c : ℕ) → n ≤ c → stored_arc pages stored c ≡ None) → arcs_of pages stored (k + n) ≡ arcs_of pages stored n ++ no_arcs k
arcs-more pages stored n zero past =
    let e : 0 + n ≡ n = omega arith in
    ap (λ (i : ℕ). arcs_of pages stored i) e ∙ sym (append-nil (arcs_of pages stored n))
arcs-more pages stored n (suc k) past =
    let arcs = arcs_of pages stored n in
    let e : suc k + n ≡ suc (k + n) = omega arith in
    ap (λ (i : ℕ). arcs_of pages stored i) e
    ∙ ap (λ (xs : List (Option ℕ)). xs ++ stored_arc pages stored (k + n) ∷ []) (arcs-more pages stored n k past)
    ∙ ap (λ (o : Option ℕ). (arcs ++ no_arcs k) ++ o ∷ []) (past (k + n) (omega arith))
    ∙ append_assoc arcs (no_arcs k) (None ∷ [])
    ∙ ap (λ (xs : List (Option ℕ)). arcs ++ xs) (none-last k)

-- two cells at one place of one page are one
one-cell : (c d : ℕ) → page_of c ≡ page_of d → place_of c ≡ place_of d → c ≡ d
one-cell c d page place = omega (arith, page, place)

-- two pages have no cell in common
one-place : (p q : ℕ) (c d : ℕ) → 64 * p + place_of c ≡ 64 * q + place_of d → (p ≡ q) × (place_of c ≡ place_of d)
one-place p q c d e = (omega (arith, e), omega (arith, e))

set-other : (stored : List (Option ℕ)) (at place : ℕ) (v r : Option ℕ) → ((q : ℕ) → r ≡ Some q → 64 * q + place ≡ at → ⊥) → in_page (slice_set stored at v) place r ≡ in_page stored place r
set-other stored at place v None ne = refl
set-other stored at place v (Some q) ne = get_or-set_other stored at (64 * q + place) v None (ne q refl)

-- to set a cell in its page changes that cell alone
pub stored-set : (slots : ℕ) (pages stored : List (Option ℕ)) (c p : ℕ) (v : Option ℕ) → ArePages slots pages stored → slice_index_or pages (page_of c) None ≡ Some p →
    (stored_arc pages (slice_set stored (64 * p + place_of c) v) c ≡ v) × ((d : ℕ) → (d ≡ c → ⊥) → stored_arc pages (slice_set stored (64 * p + place_of c) v) d ≡ stored_arc pages stored d)
stored-set slots pages stored c p v are here = (
  ap (λ (r : Option ℕ). in_page (slice_set stored (64 * p + place_of c) v) (place_of c) r) here ∙ get_or-set_same stored (64 * p + place_of c) v None (omega (arith, are.below (page_of c) p here)),
  (λ d ne. set-other stored (64 * p + place_of c) (place_of d) v (slice_index_or pages (page_of d) None) (λ q at e.
      let one = one-place q p d c e in
      ne (one-cell d c (are.apart (page_of d) (page_of c) p (at ∙ ap (λ (k : ℕ). Some k) one.0) here) one.1))),
)

-- and so in the list
pub arcs-set : (slots n : ℕ) (pages stored : List (Option ℕ)) (c p : ℕ) (v : Option ℕ) → ArePages slots pages stored → slice_index_or pages (page_of c) None ≡ Some p → c < n →
    arcs_of pages (slice_set stored (64 * p + place_of c) v) n ≡ slice_set (arcs_of pages stored n) c v
arcs-set slots n pages stored c p v are here lt =
    let longer = slice_set stored (64 * p + place_of c) v in
    let old = arcs_of pages stored n in
    let set = stored-set slots pages stored c p v are here in
    let size : length old ≡ n = arcs-count pages stored n in
    ext_get_or None (arcs_of pages longer n) (slice_set old c v) (arcs-count pages longer n ∙ sym (length-set old c v ∙ size)) (λ d low.
    let below : d < n = omega (arith, low, arcs-count pages longer n) in
    arc-below pages longer n d below ∙ elim (cases_eq d c) [
      | inl q ↦ ap (λ (k : ℕ). stored_arc pages longer k) q ∙ set.0 ∙ sym (ap (λ (k : ℕ). arc_at (slice_set old c v) k) q ∙ get_or-set_same old c v None (omega (arith, lt, size)))
      | inr ne ↦ set.1 d ne ∙ sym (get_or-set_other old c d v None ne ∙ arc-below pages stored n d below)
    ])

-- a cell that is set in its page leaves the pages in order
pub pages-set : (slots : ℕ) (pages stored : List (Option ℕ)) (c p : ℕ) (v : Option ℕ) → ArePages slots pages stored → slice_index_or pages (page_of c) None ≡ Some p → c < 8 * slots → ArePages slots pages (slice_set stored (64 * p + place_of c) v)
pages-set slots pages stored c p v are here lt =
    let len = length-set stored (64 * p + place_of c) v in
    record {
      size = are.size;
      count = len ∙ are.count;
      below = λ i q e. omega (arith, are.below i q e, len);
      apart = are.apart;
      past = λ d le. (stored-set slots pages stored c p v are here).1 d (λ e. omega (arith, e, le, lt)) ∙ are.past d le;
    }

some-one : (p q : ℕ) → Some p ≡ Some q → p ≡ q
some-one p q e = cc

pub few-pages : (pages : List (Option ℕ)) → count_pages pages ≤ length pages
few-pages [] = omega arith
few-pages (None ∷ pages) = omega (arith, few-pages pages)
few-pages (Some p ∷ pages) = omega (arith, few-pages pages)

-- a page that is not there is one of those that may be added
pub page-missing : (pages : List (Option ℕ)) (i : ℕ) → i < length pages → slice_index_or pages i None ≡ None → count_pages pages + 1 ≤ length pages
page-missing [] i lt none = absurd (omega (arith, lt))
page-missing (None ∷ pages) i lt none = omega (arith, few-pages pages)
page-missing (Some p ∷ pages) zero lt none = absurd (none-some p (sym none))
page-missing (Some p ∷ pages) (suc i) lt none = omega (arith, page-missing pages i (omega (arith, lt)) none)

page-more : (pages : List (Option ℕ)) (i p : ℕ) → i < length pages → slice_index_or pages i None ≡ None → count_pages (slice_set pages i (Some p)) ≡ count_pages pages + 1
page-more [] i p lt none = absurd (omega (arith, lt))
page-more (None ∷ pages) zero p lt none = omega arith
page-more (None ∷ pages) (suc i) p lt none = page-more pages i p (omega (arith, lt)) none
page-more (Some q ∷ pages) zero p lt none = absurd (none-some q (sym none))
page-more (Some q ∷ pages) (suc i) p lt none = omega (arith, page-more pages i p (omega (arith, lt)) none)

-- a page that is not there counts for nothing
pub count-none : (pages : List (Option ℕ)) → count_pages (pages ++ None ∷ []) ≡ count_pages pages
count-none [] = refl
count-none (None ∷ pages) = count-none pages
count-none (Some p ∷ pages) = ap suc (count-none pages)

in-longer : (stored : List (Option ℕ)) (place : ℕ) (r : Option ℕ) → in_page (stored ++ no_arcs 64) place r ≡ in_page stored place r
in-longer stored place None = refl
in-longer stored place (Some q) = arc-same stored 64 (64 * q + place)

-- a page that was not there is added, and no cell has an arc more
pub page-added : (slots : ℕ) (pages stored : List (Option ℕ)) (i p : ℕ) → ArePages slots pages stored → i < length pages → slice_index_or pages i None ≡ None → 64 * p ≡ length stored →
    IsPageFound slots i p (slice_set pages i (Some p)) (stored ++ no_arcs 64) pages stored
page-added slots pages stored i p are lt none end =
    let more = slice_set pages i (Some p) in
    let longer = stored ++ no_arcs 64 in
    let here : slice_index_or more i None ≡ Some p = get_or-set_same pages i (Some p) None lt in
    let other : (j : ℕ) → (j ≡ i → ⊥) → slice_index_or more j None ≡ slice_index_or pages j None = λ j ne. get_or-set_other pages i j (Some p) None ne in
    let size : length longer ≡ length stored + 64 = length-append stored (no_arcs 64) in
    let nothing : (c : ℕ) → arc_at stored (64 * p + place_of c) ≡ None = λ c. get_or-eq_default stored None (omega (arith, end)) in
    let same : (c : ℕ) → stored_arc more longer c ≡ stored_arc pages stored c = λ c. elim (cases_eq (page_of c) i) [
      | inl q ↦
          ap (λ (k : ℕ). in_page longer (place_of c) (slice_index_or more k None)) q ∙ ap (λ (r : Option ℕ). in_page longer (place_of c) r) here
          ∙ arc-same stored 64 (64 * p + place_of c) ∙ nothing c
          ∙ sym (ap (λ (k : ℕ). in_page stored (place_of c) (slice_index_or pages k None)) q ∙ ap (λ (r : Option ℕ). in_page stored (place_of c) r) none)
      | inr ne ↦ ap (λ (r : Option ℕ). in_page longer (place_of c) r) (other (page_of c) ne) ∙ in-longer stored (place_of c) (slice_index_or pages (page_of c) None)
    ] in
    -- the number is that of no other page
    let new : (j : ℕ) → (j ≡ i → ⊥) → slice_index_or more j None ≡ Some p → ⊥ = λ j ne e. omega (arith, are.below j p (sym (other j ne) ∙ e), end) in
    record {
      here = here;
      are = record {
        size = length-set pages i (Some p) ∙ are.size;
        count = omega (arith, size, are.count, page-more pages i p lt none);
        below = λ j q e. elim (cases_eq j i) [
          | inl k ↦ omega (arith, some-one p q (sym here ∙ ap (λ (m : ℕ). slice_index_or more m None) (sym k) ∙ e), end, size)
          | inr ne ↦ omega (arith, are.below j q (sym (other j ne) ∙ e), size)
        ];
        apart = λ j k q e f. elim (cases_eq j i) [
          | inl a ↦ elim (cases_eq k i) [
            | inl b ↦ a ∙ sym b
            | inr ne ↦ absurd (new k ne (f ∙ sym e ∙ ap (λ (m : ℕ). slice_index_or more m None) a ∙ here))
          ]
          | inr ne ↦ elim (cases_eq k i) [
            | inl b ↦ absurd (new j ne (e ∙ sym f ∙ ap (λ (m : ℕ). slice_index_or more m None) b ∙ here))
            | inr me ↦ are.apart j k q (sym (other j ne) ∙ e) (sym (other k me) ∙ f)
          ]
        ];
        past = λ c le. same c ∙ are.past c le;
      };
      same = same;
    }

-- a page that is there is found as it is
pub page-there : (slots : ℕ) (pages stored : List (Option ℕ)) (i p : ℕ) → ArePages slots pages stored → slice_index_or pages i None ≡ Some p → IsPageFound slots i p pages stored pages stored
page-there slots pages stored i p are e = record { here = e; are = are; same = λ c. refl }

-- a slot more, with the pages that it may need
pub slot-more : (slots : ℕ) (pages more stored : List (Option ℕ)) → ArePages slots pages stored → ((i : ℕ) → slice_index_or more i None ≡ slice_index_or pages i None) → count_pages more ≡ count_pages pages → length more ≡ pages_for (slots + 1) →
    ArePages (slots + 1) more stored
slot-more slots pages more stored are same count size = record {
  size = size;
  count = are.count ∙ ap (λ (k : ℕ). 64 * k) (sym count);
  below = λ i p e. are.below i p (sym (same i) ∙ e);
  apart = λ i j p e f. are.apart i j p (sym (same i) ∙ e) (sym (same j) ∙ f);
  past = λ c le. ap (λ (r : Option ℕ). in_page stored (place_of c) r) (same (page_of c)) ∙ are.past c (omega (arith, le));
}

pub slot-cells : (slots : ℕ) (pages more stored : List (Option ℕ)) → ArePages slots pages stored → ((i : ℕ) → slice_index_or more i None ≡ slice_index_or pages i None) → arcs_of more stored (8 * (slots + 1)) ≡ arcs_of pages stored (8 * slots) ++ no_arcs 8
slot-cells slots pages more stored are same =
    let stays : (c : ℕ) → stored_arc more stored c ≡ stored_arc pages stored c = λ c. ap (λ (r : Option ℕ). in_page stored (place_of c) r) (same (page_of c)) in
    let n : 8 * (slots + 1) ≡ 8 + 8 * slots = omega arith in
    arcs-as more stored pages stored (8 * (slots + 1)) stays ∙ ap (λ (k : ℕ). arcs_of pages stored k) n ∙ arcs-more pages stored (8 * slots) 8 are.past

-- where there are no slots there are no pages
pub pages-none : (pages stored : List (Option ℕ)) → pages ≡ [] → stored ≡ [] → ArePages 0 pages stored
pages-none pages stored e f = subst (λ (xs : List (Option ℕ)). ArePages 0 xs stored) (sym e) (subst (λ (xs : List (Option ℕ)). ArePages 0 [] xs) (sym f) record {
  size = refl;
  count = refl;
  below = λ i p is. absurd (none-some p is);
  apart = λ i j p is at. absurd (none-some p is);
  past = λ c le. refl;
})

-- a cell of the slots is in one of their pages
pub cell-low : (pages stored : List (Option ℕ)) (slots c : ℕ) → c < length (arcs_of pages stored (8 * slots)) → c < 8 * slots
cell-low pages stored slots c lt = omega (arith, lt, arcs-count pages stored (8 * slots))

pub page-low : (slots c : ℕ) (pages stored : List (Option ℕ)) → ArePages slots pages stored → c < 8 * slots → page_of c < length pages
page-low slots c pages stored are lt = omega (arith, are.size, lt)

-- what is read of a list
pub read-at : (xs : List (Option ℕ)) (i : ℕ) (got : Option ℕ) → i < length xs → got ≡ slice_index_or xs i got → slice_index_or xs i None ≡ got
read-at xs i got lt at = sym (get_or_default xs i got None lt) ∙ sym at
