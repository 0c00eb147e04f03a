use Rattle.std.proofs.Common.{refl, arith}
use Rattle.log_records.specs.Copying.{later_of}
use Rattle.log_records.proofs.Copies.{laid_in_hand}
use Rattle.log_records.proofs.Laid.{fits_behind}
use Rattle.log_records.proofs.copying.put_behind.Goals as goal

pub returns-then-code-blocks-clause-laid : goal.returns-then-code-blocks-clause-laid
returns-then-code-blocks-clause-laid g c = λ rest fits. omega (arith, (fits_behind c.args.blocks.now.left (later_of c.args.blocks.now) c.args.code.now rest c.requires.some fits).0, c.if-code-blocks.true)

pub returns-clause-laid : goal.returns-clause-laid
returns-clause-laid g c =
    laid_in_hand (g.M.Machine.disk c.args.m.now) (g.M.Machine.disk c.put.new.machine) c.args.out.now c.put.new.self c.args.blocks.now _ c.args.code.now c.requires.some
    (omega (arith, c.if-code-blocks.false)) refl refl c.in_ok-put.ensures.put c.in_ok-put.ensures.end
