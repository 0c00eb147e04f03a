-- A page that is met, by its bytes.
use Rattle.std.proofs.Common.{◌≡◌, ℕ, suc, ◌+◌, ◌-◌, ◌<◌, ◌==◌, Bool, true, false, ◌&&◌, List, [], ◌∷◌, ◌++◌, length, refl, sym, ap, ◌∙◌, arith, true≢false}
use Rattle.std.specs.List.{list_all}
use Rattle.std.proofs.lemmas.Bool.{eq-eqb}
use Rattle.key_entries.specs.EntryLaws.{true_both}
use Rattle.page_ops.specs.Page.{Cell, Page, page_code, page_of, AreShort}
use Rattle.page_ops.specs.Reading.{has_cell, opens}
use Rattle.page_map.specs.Checks.{Checking, begin_from, begin_with, below_cells, children_of, has_child, is_met, is_new, is_page, keys_of, stand, taken}
use Rattle.page_map.specs.Map.{Range}
use Rattle.page_map.specs.Splits.{all_there, cells_read, front_of}
use Rattle.page_map.specs.Walk.{is_on}
use Rattle.page_map.specs.declared.awaited.Awaited.{Awaited}
use Rattle.page_map.proofs.CellLemmas.{all_are_there}
use Rattle.page_map.proofs.PageLemmas.{page_held}
use Rattle.page_map.proofs.StepLemmas.{count_held}

not_true : (b : Bool) → (b ≡ true → ⊥) → b ≡ false
not_true true never = absurd (never refl)
not_true false never = refl

-- ---- bytes that are no page

pub off_level : ((page : Page) → AreShort page.cells → opens (page_code page) ≡ true) → (level : ℕ) (bytes : List ℕ) → is_on level bytes ≡ false → is_page level bytes ≡ false
off_level opens_law level bytes off =
    not_true (is_page level bytes) (λ e.
    let held = page_held level bytes e in
    let on : is_on level bytes ≡ true =
    ap (is_on level) held.code ∙ true_both (opens (page_of level (cells_read bytes))) (level == level) (opens_law (record { level = level; cells = cells_read bytes }) held.short) (eq-eqb level level refl) in
    true≢false (sym on ∙ off))

pub lacks_cells : ((page : Page) (i : ℕ) → AreShort page.cells → i < length page.cells → has_cell (page_code page) i ≡ true) → (level : ℕ) (bytes : List ℕ) → all_there bytes ≡ false → is_page level bytes ≡ false
lacks_cells cell_law level bytes lacks =
    not_true (is_page level bytes) (λ e.
    let held = page_held level bytes e in
    let there : all_there bytes ≡ true =
    all_are_there bytes (λ i low.
    ap (λ (b : List ℕ). has_cell b i) held.code ∙ cell_law (record { level = level; cells = cells_read bytes }) i held.short (omega (arith, low, count_held level bytes (cells_read bytes) held))) in
    true≢false (sym there ∙ lacks))

-- ---- whether a page is met

module _ (x : Awaited) (bytes : List ℕ) (c : Checking) where
  abbrev new : Bool
  new = is_new c.range c.met.objects x.object

  abbrev stood : Bool
  stood = stand c.range x.level x.from (front_of x.to (cells_read bytes))

  pub not_new : new ≡ false → false ≡ is_met x bytes c
  not_new e = sym (ap (λ (t : Bool). t && (is_page x.level bytes && stood)) e)

  pub no_page : is_page x.level bytes ≡ false → false ≡ is_met x bytes c
  no_page e = sym (ap (λ (t : Bool). new && (t && stood)) e ∙ elim new as (λ t. (t && false) ≡ false) [ true ↦ refl | false ↦ refl ])

  pub page_met : new ≡ true → is_page x.level bytes ≡ true → stood ≡ is_met x bytes c
  page_met one two = λ k. sym one k && (sym two k && stood)

-- ---- what is taken

-- a check behind a leaf, and behind a page above others
pub leaf_taken : (x : Awaited) (cells front : List Cell) (c : Checking) → x.level ≡ 0 → front ≡ front_of x.to cells → (objects : List ℕ) → objects ≡ c.met.objects ++ x.object ∷ [] → (keys past : ℕ) → keys ≡ c.met.keys + length front
    → past ≡ c.met.past + (length cells - length front) → record { range = c.range; waiting = c.waiting; met = record { objects = objects; keys = keys; past = past } } ≡ taken x cells c
leaf_taken x cells front c level is objects added keys past more rest = λ k. record {
  range = c.range;
  waiting = sym none k;
  met = record { objects = added k; keys = (more ∙ ap (λ (n : ℕ). c.met.keys + n) (sym counted)) k; past = (rest ∙ ap (λ (l : List Cell). c.met.past + (length cells - length l)) is) k };
}
  where
    none : below_cells x.level x.to (front_of x.to cells) ++ c.waiting ≡ c.waiting
    none = ap (λ (n : ℕ). below_cells n x.to (front_of x.to cells) ++ c.waiting) level

    counted : keys_of x.level (front_of x.to cells) ≡ length front
    counted = ap (λ (n : ℕ). keys_of n (front_of x.to cells)) level ∙ ap (λ (l : List Cell). length l) (sym is)

pub inner_taken : (x : Awaited) (cells front : List Cell) (c : Checking) (level : ℕ) → x.level ≡ suc level → front ≡ front_of x.to cells → (objects : List ℕ) → objects ≡ c.met.objects ++ x.object ∷ [] → (past : ℕ)
    → past ≡ c.met.past + (length cells - length front) → (waiting : List Awaited) → waiting ≡ children_of level x.to front ++ c.waiting
    → record { range = c.range; waiting = waiting; met = record { objects = objects; keys = c.met.keys; past = past } } ≡ taken x cells c
inner_taken x cells front c level deep is objects added past rest waiting pushed = λ k. record {
  range = c.range;
  waiting = (pushed ∙ sym below) k;
  met = record { objects = added k; keys = same k; past = (rest ∙ ap (λ (l : List Cell). c.met.past + (length cells - length l)) is) k };
}
  where
    below : below_cells x.level x.to (front_of x.to cells) ++ c.waiting ≡ children_of level x.to front ++ c.waiting
    below = (λ k. below_cells (deep k) x.to (sym is k) ++ c.waiting)

    same : c.met.keys ≡ c.met.keys + keys_of x.level (front_of x.to cells)
    same = let none : c.met.keys ≡ c.met.keys + 0 = omega arith in none ∙ sym (ap (λ (n : ℕ). c.met.keys + keys_of n (front_of x.to cells)) deep)

pub leaf_stands : (range : Range) (level : ℕ) (from : List ℕ) (front : List Cell) → level ≡ 0 → begin_from from front ≡ stand range level from front
leaf_stands range level from front e = sym (ap (λ (n : ℕ). stand range n from front) e)

pub inner_stands : (range : Range) (level l : ℕ) (from : List ℕ) (front : List Cell) → level ≡ suc l → begin_with from front ≡ true → (named : Bool) → named ≡ list_all (has_child range) front → named ≡ stand range level from front
inner_stands range level l from front deep begins named is = is ∙ sym (ap (λ (n : ℕ). stand range n from front) deep ∙ ap (λ (t : Bool). t && list_all (has_child range) front) begins)

pub inner_fails : (range : Range) (level l : ℕ) (from : List ℕ) (front : List Cell) → level ≡ suc l → begin_with from front ≡ false → false ≡ stand range level from front
inner_fails range level l from front deep begins = sym (ap (λ (n : ℕ). stand range n from front) deep ∙ ap (λ (t : Bool). t && list_all (has_child range) front) begins)
