use Rattle.std.proofs.Common.{◌<◌, ℕ, Option, IfSome, subst}
use Rattle.disk_model.specs.Disk.{In}
use Rattle.disk_model.specs.Moments.{runs_then_stays, settled_again}
use Rattle.log_blocks.specs.Filling.{KeepsUpTo}
use Rattle.log_blocks.proofs.Filled.{zeros_keep}
use Rattle.log_blocks.proofs.filling.write_zeros.Goals as goal

pub returns-clause-runs : goal.returns-clause-runs
returns-clause-runs g c =
    runs_then_stays _ _ _ (In c.args.file (KeepsUpTo c.args.gate)) (zeros_keep _ _ c.args.file c.args.gate c.in-Some.at _ (subst (λ (o : Option ℕ). IfSome o (λ at. c.args.gate < at)) c.in-Some.is c.requires) c.write_at.ensures.runs) c.sync.ensures.kept

pub returns-in_err-sync-clause-runs : goal.returns-in_err-sync-clause-runs
returns-in_err-sync-clause-runs g c =
    runs_then_stays _ _ _ (In c.args.file (KeepsUpTo c.args.gate)) (zeros_keep _ _ c.args.file c.args.gate c.in-Some.at _ (subst (λ (o : Option ℕ). IfSome o (λ at. c.args.gate < at)) c.in-Some.is c.requires) c.write_at.ensures.runs) c.sync.ensures.kept

pub returns-clause-settled : goal.returns-clause-settled
returns-clause-settled g c settled =
    let run = runs_then_stays _ _ _ (In c.args.file (KeepsUpTo c.args.gate)) (zeros_keep _ _ c.args.file c.args.gate c.in-Some.at _ (subst (λ (o : Option ℕ). IfSome o (λ at. c.args.gate < at)) c.in-Some.is c.requires) c.write_at.ensures.runs) c.sync.ensures.kept in
    settled_again _ _ c.args.file (KeepsUpTo c.args.gate) (KeepsUpTo c.args.gate) run.ends settled run.time run.crash (λ told. run.reads (run.begins.telling told)) c.in_ok-sync.ensures.settled
