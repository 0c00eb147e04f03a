use Rattle.std.proofs.Common.{◌≡◌, ℕ, true, false, List, sym, subst, ap, ◌∙◌, arith}
use Rattle.std.proofs.lemmas.Result.{IfOk-weaker}
use Rattle.std.specs.FinMap.Entries.{is_sorted}
use Rattle.key_entries.specs.Entries.{byte_order}
use Rattle.page_ops.specs.Page.{Cell}
use Rattle.page_map.specs.Checks.{Checking, is_new, is_page, stand}
use Rattle.page_map.specs.Splits.{all_there, cells_read, front_of}
use Rattle.page_map.proofs.MeetLemmas.{lacks_cells, no_page, off_level, page_met}
use Rattle.page_map.proofs.PageLemmas.{read_page}
use Rattle.page_map.proofs.check.Check.meet.Goals as goal

pub returns-in_default-clause-fits : goal.returns-in_default-clause-fits
returns-in_default-clause-fits c =
    no_page c.args.page c.args.bytes.now c.args.self.now (off_level c.a_search_finds_the_place.ensures.opens c.args.page.level c.args.bytes.now (sym c.in_default.ensures.there))

pub returns-in_default-open-clause-fits : goal.returns-in_default-open-clause-fits
returns-in_default-open-clause-fits c =
    no_page c.args.page c.args.bytes.now c.args.self.now
    (lacks_cells (λ page i short inside. (c.a_search_finds_the_place.ensures.cell page i short inside).0) c.args.page.level c.args.bytes.now
    (ap all_there (sym c.in-Some.ensures.page) ∙ sym c.in_default-open.ensures.there))

pub returns-clause-fits : goal.returns-clause-fits
returns-clause-fits c =
    let bytes : List ℕ = c.args.bytes.now in
    let level : ℕ = c.args.page.level in
    let range = c.args.self.now.range in
    let new : is_new range c.args.self.now.met.objects c.args.page.object ≡ true =
    subst (λ (k : Checking). is_new k.range k.met.objects c.args.page.object ≡ true) c.self.view_is (sym c.is_new.ensures ∙ c.if-not-is_new.false) in
    let cells : c.in-Some-open.cells ≡ cells_read bytes = c.in-Some-open.ensures.cells ∙ ap cells_read c.in-Some.ensures.page in
    let there : all_there bytes ≡ true = ap all_there (sym c.in-Some.ensures.page) ∙ sym c.in-Some-open.ensures.there in
    let rises : is_sorted byte_order (cells_read bytes) ≡ true = ap (λ (l : List Cell). is_sorted byte_order l) (sym cells) ∙ sym c.rise.ensures ∙ c.if-not-rise.false in
    let page : is_page level bytes ≡ true = read_page level bytes (λ i. omega (arith, c.type_inv.bytes i)) (sym c.in-Some.ensures.there) there ∙ rises in
    IfOk-weaker c.take.result (λ is. is ≡ stand range level c.args.page.from (front_of c.args.page.to c.in-Some-open.cells)) _
    (λ is same. same ∙ (λ k. stand range level c.args.page.from (front_of c.args.page.to (cells k))) ∙ page_met c.args.page bytes c.args.self.now new page) c.take.ensures.stand
