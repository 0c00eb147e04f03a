use Rattle.std.proofs.Common.{◌≡◌, List, ℕ, suc, ◌-◌, None, Some, length, refl, sym, ap, ◌∙◌, arith}
use Rattle.page_ops.specs.Page.{Cell}
use Rattle.page_ops.specs.Search.{last_under}
use Rattle.page_map.specs.Cutting.{answered}
use Rattle.page_map.specs.Map.{bytes_at}
use Rattle.page_map.specs.Splits.{Split, asks, cells_read, end_of, front_of, inner_split, reads_on}
use Rattle.page_map.specs.Walk.{child_for, child_in}
use Rattle.page_map.proofs.DescentLemmas.{goes_down, is_named, nameless}
use Rattle.page_map.proofs.descent.Descent.down.Goals as goal

pub returns-in_default : goal.returns-in_default
returns-in_default c = λ s value is e.
    let lo : ℕ = c.args.map.now.lo in
    let hi : ℕ = c.args.map.now.hi in
    let page : List ℕ = c.args.page.now in
    let key : List ℕ = c.args.key.now in
    let level : c.args.self.level ≡ suc (c.args.self.level - 1) = omega (arith, c.requires.inner) in
    let under : last_under key (cells_read page) ≡ None = (λ k. last_under (sym c.as_slice.ensures.value k) (sym c.requires.cells k)) ∙ sym c.under.ensures ∙ c.in_default.is in
    nameless c.args.room lo hi s key value c.args.self (c.args.self.level - 1) level ((λ k. reads_on (sym level k) (sym is k)) ∙ e)
    ((λ k. child_for lo hi (sym is k) (last_under key (cells_read (sym is k)))) ∙ ap (child_for lo hi page) under)

pub returns-in_default-child : goal.returns-in_default-child
returns-in_default-child c = λ s value is e.
    let lo : ℕ = c.args.map.now.lo in
    let hi : ℕ = c.args.map.now.hi in
    let page : List ℕ = c.args.page.now in
    let key : List ℕ = c.args.key.now in
    let level : c.args.self.level ≡ suc (c.args.self.level - 1) = omega (arith, c.requires.inner) in
    let under : last_under key (cells_read page) ≡ Some c.in-Some.place =
    (λ k. last_under (sym c.as_slice.ensures.value k) (sym c.requires.cells k)) ∙ sym c.under.ensures ∙ c.in-Some.is in
    nameless c.args.room lo hi s key value c.args.self (c.args.self.level - 1) level ((λ k. reads_on (sym level k) (sym is k)) ∙ e)
    ((λ k. child_for lo hi (sym is k) (last_under key (cells_read (sym is k)))) ∙ ap (child_for lo hi page) under ∙ sym c.child.ensures ∙ c.in_default-child.is)

pub returns : goal.returns
returns c = λ s value is e.
    let lo : ℕ = c.args.map.now.lo in
    let hi : ℕ = c.args.map.now.hi in
    let page : List ℕ = c.args.page.now in
    let here : List ℕ = bytes_at lo s c.args.self.object in
    let key : List ℕ = c.args.key.now in
    let place : ℕ = c.in-Some.place in
    let child : ℕ = c.in-Some-child.child in
    let level : c.args.self.level ≡ suc (c.args.self.level - 1) = omega (arith, c.requires.inner) in
    let under : last_under key (cells_read page) ≡ Some place = (λ k. last_under (sym c.as_slice.ensures.value k) (sym c.requires.cells k)) ∙ sym c.under.ensures ∙ c.in-Some.is in
    let named : child_in lo hi page place ≡ Some child = sym c.child.ensures ∙ c.in-Some-child.is in
    let front : c.within-front.result ≡ front_of c.args.self.end (cells_read here) =
    c.within-front.ensures ∙ ap (λ (l : List Cell). front_of c.args.self.end l) (c.requires.cells ∙ ap cells_read is) in
    let count : length (cells_read page) ≡ c.count.result = ap (λ (l : List Cell). length l) (sym c.requires.cells) ∙ sym c.count.ensures.value in
    let own : c.in_ok-cut.cut ≡ inner_split c.args.self.object (suc (c.args.self.level - 1)) (cells_read here) (front_of c.args.self.end (cells_read here)) =
    c.in_ok-cut.ensures (cells_read page) count ∙ (λ k. inner_split c.args.self.object (level k) (cells_read (is k)) (front k)) in (
      goes_down c.args.room lo hi s key value c.args.self (c.args.self.level - 1) place child
          (record { page = c.args.self.object; place = place; size = c.args.size; due = c.answered.result }) level ((λ k. reads_on (sym level k) (sym is k)) ∙ e)
          ((λ k. last_under key (cells_read (sym is k))) ∙ under) ((λ k. child_in lo hi (sym is k) place) ∙ named)
          (record {
            page = refl;
            place = refl;
            size = c.requires.size ∙ ap (λ (l : List ℕ). length l) is;
            due = c.answered.ensures ∙ ap (λ (w : Split). answered c.args.room c.args.self.above (asks w)) own;
          })
          c.in_ok-end.end (c.in_ok-end.ensures ∙ ap (λ (l : List Cell). end_of l place c.args.self.end) front),
      level,
      (is_named lo hi page place child named).within,
    )
