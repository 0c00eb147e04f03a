use Rattle.std.proofs.Common.{arith}
use Rattle.oper_core.specs.MeaningLaws.{accepts-wider, after-wider}
use Rattle.oper_core.proofs.wider_bounds.wider_bounds_keep_commands.Goals as goal

pub returns : goal.returns
returns g c = record {
  accepted = λ b d s op within short.
      let bounded = (g.met.O.Oper.bounded b).cap in
      accepts-wider (g.O.Oper.meaning b) (g.O.Oper.meaning d) (g.met.O.Oper.widens b d within) s op (λ x. omega (arith, short x, bounded));
  after = λ b d s op within short.
      let bounded = (g.met.O.Oper.bounded b).cap in
      after-wider (g.O.Oper.meaning b) (g.O.Oper.meaning d) (g.met.O.Oper.widens b d within) s op (λ x. omega (arith, short x, bounded));
}
