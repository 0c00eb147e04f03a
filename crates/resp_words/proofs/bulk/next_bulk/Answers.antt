use Rattle.std.proofs.Common.{◌≡◌, ◌∙◌, ap, ℕ, [], ◌∷◌, arith, rules}
use Rattle.std.specs.Fmt.{decimal}
use Rattle.resp_words.specs.Commands.{IsBulk, IsEnded, IsNumberLine, ended}
use Rattle.resp_words.specs.Faults.{IsBulkFault}
use Rattle.resp_words.specs.declared.protocol_error.ProtocolError.TheVariants.{BadLength}
use Rattle.resp_words.proofs.Bulks.{bulk_none, dollar_leads, length_behind, length_carries, no_dollar}
use Rattle.resp_words.proofs.Faults.{dollar_fault, length_fault}
use Rattle.resp_words.proofs.Leading.{bad_leads, carries_reads, front_leads}
use Rattle.resp_words.proofs.bulk.next_bulk.Goals as goal

pub returns-in_default : goal.returns-in_default
returns-in_default c = bulk_none c.args.most c.args.bytes.now (search rules)

pub returns-then-first-ne36 : goal.returns-then-first-ne36
returns-then-first-ne36 c = (no_dollar c.args.most c.in-Some.first.now c.args.bytes.now c.in-Some.rest.now c.in-Some.ensures.cases.0 c.if-first-ne36.true, dollar_fault c.args.bytes.now c.in-Some.rest.now c.in-Some.first.now c.from.result c.in-Some.ensures.cases.0 c.if-first-ne36.true (search rules))

pub returns-in-More : goal.returns-in-More
returns-in-More c =
    let is : c.args.bytes.now ≡ 36 ∷ c.in-Some.rest.now = c.in-Some.ensures.cases.0 ∙ ap (λ (b : ℕ). b ∷ c.in-Some.rest.now) (search rules) in
    front_leads (IsBulk c.args.most) (IsNumberLine c.args.most) (36 ∷ []) c.in-Some.rest.now c.args.bytes.now (dollar_leads c.args.most) is c.in-More.ensures

pub returns-in-Bad : goal.returns-in-Bad
returns-in-Bad c =
    let is : c.args.bytes.now ≡ 36 ∷ c.in-Some.rest.now = c.in-Some.ensures.cases.0 ∙ ap (λ (b : ℕ). b ∷ c.in-Some.rest.now) (search rules) in
    (bad_leads (IsBulk c.args.most) (IsNumberLine c.args.most) (36 ∷ []) c.in-Some.rest.now c.args.bytes.now (dollar_leads c.args.most) is c.in-Bad.ensures.0, length_fault c.args.bytes.now c.in-Some.rest.now c.in-Bad.error is c.in-Bad.ensures.1)

pub returns-in-Whole : goal.returns-in-Whole
returns-in-Whole c =
    let n = c.in-Whole.length in
    let is : c.args.bytes.now ≡ 36 ∷ c.in-Some.rest.now = c.in-Some.ensures.cases.0 ∙ ap (λ (b : ℕ). b ∷ c.in-Some.rest.now) (search rules) in
    carries_reads (IsBulk c.args.most) (IsEnded n) (λ x. x.0.now) (λ x. x.1.now) (IsBulkFault c.args.bytes.now) (λ e. e ≡ BadLength) (36 ∷ ended (decimal n)) c.in-Whole.rest.now c.args.bytes.now c.next_bytes.result
    (length_carries c.args.most n (omega (arith, c.ranges.most.fits)) c.in-Whole.ensures.means.small)
    (length_behind c.args.most n c.args.bytes.now c.in-Some.rest.now c.in-Whole.rest.now is c.in-Whole.ensures)
    (λ error bad fault. length_fault c.args.bytes.now c.in-Some.rest.now error is fault) c.next_bytes.ensures
