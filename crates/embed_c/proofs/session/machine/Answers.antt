use Rattle.embed_c.proofs.session.machine.Goals as goal

pub returns-in-Ok : goal.returns-in-Ok
returns-in-Ok c = record {
  first = λ i file. c.in-Ok.ensures.first file i;
  reads = λ i file. c.in-Ok.ensures.reads file i;
  settled = c.in-Ok.ensures.settled;
  taken = c.in-Ok.ensures.taken;
  waiting = c.in-Ok.ensures.waiting;
}
