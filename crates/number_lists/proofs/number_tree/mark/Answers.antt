use Rattle.number_lists.proofs.Marked.{levels-as, levels-more}
use Rattle.number_lists.proofs.number_tree.mark.Goals as goal

pub returns-clause-levels : goal.returns-clause-levels
returns-clause-levels c =
    levels-as _ c.put.new.self.marks _ c.put-2.new.self.marks _ c.put-3.new.self.marks _ c.put-4.new.self.marks c.put.ensures.marks c.put-2.ensures.marks c.put-3.ensures.marks c.put-4.ensures.marks
    (levels-more c.args.low.now.marks c.args.mid.now.marks c.args.high.now.marks c.args.top.now.marks c.args.n c.requires.below c.requires.levels)
