use Rattle.std.proofs.Common.{◌≡◌, ℕ, suc, ◌+◌, ◌-◌, ◌++◌, List, IsTrue, length, reverse, ap, ◌∙◌, arith}
use Rattle.std.proofs.lemmas.Result.{IfOk-weaker}
use Rattle.page_ops.specs.Page.{Cell}
use Rattle.page_map.specs.Checks.{Checking, children_of, taken}
use Rattle.page_map.specs.declared.awaited.Awaited.{Awaited}
use Rattle.page_map.proofs.MeetLemmas.{inner_taken}
use Rattle.page_map.proofs.StepLemmas.{front_few}
use Rattle.page_map.proofs.check.Check.take.Goals as goal

pub overflow_sub-self : goal.overflow_sub-self
overflow_sub-self c =
    omega (arith, c.count.ensures.value, c.count-2.ensures.value, ap (λ (l : List Cell). length l) c.within-front.ensures, front_few c.args.page.to c.args.cells.now)

pub returns-clause-next : goal.returns-clause-next
returns-clause-next c =
    let old : Checking = record {
      range = c.self.inside.reached.range;
      waiting = reverse c.self.inside.waiting.items;
      met = record { objects = c.self.inside.reached.objects; keys = c.self.inside.keys; past = c.self.inside.past };
    } in
    let page : Awaited = c.args.page in
    let level : ℕ = page.level - 1 in
    let deep : page.level ≡ suc level = omega (arith, c.if-page-eq0.false) in
    let cells : List Cell = c.args.cells.now in
    let past : ℕ = c.self.inside.past + (c.count.result - c.count-2.result) in
    let rest : past ≡ c.self.inside.past + (length cells - length c.within-front.result) = omega (arith, c.count.ensures.value, c.count-2.ensures.value) in
    IfOk-weaker c.push_children.result (λ named. IsTrue named → reverse c.push_children.new.waiting.items ≡ children_of level page.to c.within-front.result ++ reverse c.self.inside.waiting.items) _
    (λ named pushed all.
    (λ k. record { range = c.in_ok-add.ensures.range k; waiting = reverse c.push_children.new.waiting.items; met = record { objects = c.add.new.self.objects; keys = c.self.inside.keys; past = past } })
    ∙ inner_taken page cells c.within-front.result old level deep c.within-front.ensures c.add.new.self.objects c.in_ok-add.ensures.objects past rest (reverse c.push_children.new.waiting.items) (pushed all)
    ∙ ap (taken page cells) c.self.view_is) c.push_children.ensures.children
