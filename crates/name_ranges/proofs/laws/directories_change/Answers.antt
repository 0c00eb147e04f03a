use Rattle.std.proofs.Common.{arith}
use Rattle.name_ranges.proofs.Directories.{freed, object_given, object_given_other, object_taken, object_taken_other, replaced}
use Rattle.name_ranges.proofs.laws.directories_change.Goals as goal

pub returns : goal.returns
returns c = record {
  given = object_given;
  given_other = λ d name other x apart. object_given_other d name x other apart;
  taken = object_taken;
  taken_other = object_taken_other;
  freed = λ hi objects d name x is has. freed d name hi objects is x has;
  replaced = λ hi objects d name x y small is has spare. let before = spare.before in replaced d name y (omega (arith, before, small)) hi objects is spare x has;
}
