use Rattle.resp_words.proofs.Faults.{line_fault}
use Rattle.resp_words.proofs.Plain.{line_bad, line_front}
use Rattle.resp_words.proofs.line.next_line.Goals as goal

pub returns-in-More : goal.returns-in-More
returns-in-More c = line_front c.args.limits c.args.bytes.now c.requires.some c.requires.other c.in-More.ensures

pub returns-in-Bad : goal.returns-in-Bad
returns-in-Bad c = (line_bad c.args.limits c.args.bytes.now c.requires.some c.requires.other c.in-Bad.ensures.0, line_fault c.args.limits c.args.bytes.now c.in-Bad.error c.requires.other c.in-Bad.ensures.1)
