use Rattle.embed_c.proofs.target.Target.over.Goals as goal

pub returns-in-Ok : goal.returns-in-Ok
returns-in-Ok c = record {
  handed = record {
    first = λ i file. c.in-Ok.ensures.first file i;
    reads = λ i file. c.in-Ok.ensures.reads file i;
    settled = c.in-Ok.ensures.settled;
    taken = c.in-Ok.ensures.taken;
    waiting = c.in-Ok.ensures.waiting;
  };
  taken = c.new-in-Ok.ensures;
}
