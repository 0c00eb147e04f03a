use Rattle.std.proofs.Common.{◌≡◌, Bool, subst}
use Rattle.std.specs.Prelude.{IfOk}
use Rattle.op_codec.specs.AllOps.{all_meaning}
use Rattle.redo_log.specs.Choosing.{admits}
use Rattle.redo_log.specs.Lines.{line_if, record_words}
use Rattle.redo_log.proofs.lines.record_line.Goals as goal

pub returns : goal.returns
returns c = λ b.
    let same : c.admits-said.result ≡ admits c.args.choice (all_meaning b) c.args.it.now = c.admits-said.ensures b in
    subst (λ (said : Bool). IfOk c.said_line.result (λ made. made.items ≡ line_if said c.args.file c.args.place c.args.count (record_words c.args.it.now))) same c.said_line.ensures
