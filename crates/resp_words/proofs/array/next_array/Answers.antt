use Rattle.std.proofs.Common.{◌∷◌, [], map, refl}
use Rattle.std.proofs.lemmas.Result.{IfOk-weaker}
use Rattle.std.specs.Fmt.{decimal}
use Rattle.resp_words.specs.Commands.{AreBulks, HasCause, IsCommand, IsNumberLine, ended}
use Rattle.resp_words.specs.Faults.{IsBulksFault}
use Rattle.resp_words.proofs.Arrays.{count_behind, count_carries, star_leads}
use Rattle.resp_words.proofs.Faults.{count_fault, words_fault}
use Rattle.resp_words.proofs.Leading.{bad_leads, carries_reads, front_leads}
use Rattle.resp_words.proofs.array.next_array.Goals as goal

pub returns-in-More : goal.returns-in-More
returns-in-More c = front_leads (IsCommand c.args.limits) (IsNumberLine c.args.limits.words) (42 ∷ []) c.args.bytes.now (42 ∷ c.args.bytes.now) (star_leads c.args.limits) refl c.in-More.ensures

pub returns-in-Bad : goal.returns-in-Bad
returns-in-Bad c = (bad_leads (IsCommand c.args.limits) (IsNumberLine c.args.limits.words) (42 ∷ []) c.args.bytes.now (42 ∷ c.args.bytes.now) (star_leads c.args.limits) refl c.in-Bad.ensures.0, count_fault c.args.limits c.args.bytes.now c.in-Bad.error c.in-Bad.ensures.0 c.in-Bad.ensures.1)

pub returns-in-Whole : goal.returns-in-Whole
returns-in-Whole c =
    let limits = c.args.limits in
    let n = c.in-Whole.count in
    IfOk-weaker c.next_bulks.result _ _
    (λ found read. carries_reads (IsCommand limits) (AreBulks n limits.bytes) (λ x. map (λ word. word.now) x.0.items) (λ x. x.1.now) (HasCause limits (42 ∷ c.args.bytes.now)) (IsBulksFault n limits.bytes c.in-Whole.rest.now) (42 ∷ ended (decimal n)) c.in-Whole.rest.now (42 ∷ c.args.bytes.now) found
    (count_carries limits n c.in-Whole.ensures.means.small) (count_behind limits.words n c.args.bytes.now c.in-Whole.rest.now c.in-Whole.ensures)
    (λ error bad fault. words_fault limits n (42 ∷ c.args.bytes.now) c.in-Whole.rest.now error c.in-Whole.ensures.means.small (count_behind limits.words n c.args.bytes.now c.in-Whole.rest.now c.in-Whole.ensures) fault) read)
    c.next_bulks.ensures
