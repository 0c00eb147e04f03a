use Rattle.std.proofs.Common.{ap}
use Rattle.script_lines.specs.declared.line.Line.TheVariants.{Ask}
use Rattle.script_lines.specs.declared.line.Question.{Question}
use Rattle.script_lines.specs.declared.line.Question.TheVariants.{Get, TreeGet, TreeRange, HashGet, Map}
use Rattle.script_run.proofs.FindingLemmas.{asked_finds_out, finds_for}
use Rattle.script_run.proofs.asking.answer_to.Goals as goal

pub returns-in-Get-clause-found : goal.returns-in-Get-clause-found
returns-in-Get-clause-found g c = finds_for (Ask (Get c.in-Get.object)) (ap (λ (q : Question). Ask q) c.in-Get.is) c.find_value.ensures.found

pub returns-in-TreeGet-clause-found : goal.returns-in-TreeGet-clause-found
returns-in-TreeGet-clause-found g c = finds_for (Ask (TreeGet c.in-TreeGet.low c.in-TreeGet.high c.in-TreeGet.key)) (ap (λ (q : Question). Ask q) c.in-TreeGet.is)
    (asked_finds_out c.find.result c.found_out.ensures.out c.find.ensures)

pub returns-in-TreeRange-clause-found : goal.returns-in-TreeRange-clause-found
returns-in-TreeRange-clause-found g c = finds_for (Ask (TreeRange c.in-TreeRange.low c.in-TreeRange.high c.in-TreeRange.from c.in-TreeRange.to)) (ap (λ (q : Question). Ask q) c.in-TreeRange.is)
    (asked_finds_out c.find_range.result c.found_out-in-TreeRange.ensures.out c.find_range.ensures)

pub returns-in-HashGet-clause-found : goal.returns-in-HashGet-clause-found
returns-in-HashGet-clause-found g c = finds_for (Ask (HashGet c.in-HashGet.low c.in-HashGet.high c.in-HashGet.key)) (ap (λ (q : Question). Ask q) c.in-HashGet.is)
    (asked_finds_out c.find_hash.result c.found_out-in-HashGet.ensures.out c.find_hash.ensures)

pub returns-in-Map-clause-found : goal.returns-in-Map-clause-found
returns-in-Map-clause-found g c = finds_for (Ask (Map c.in-Map.low c.in-Map.high c.in-Map.question)) (ap (λ (q : Question). Ask q) c.in-Map.is)
    (asked_finds_out c.find_in_map.result c.found_out-in-Map.ensures.out c.find_in_map.ensures)
