use Rattle.std.proofs.Common.{◌≤◌, sym, subst, ap, ℕ, ◌+◌, List, length, arith}
use Rattle.std.specs.List.{AllByRecursion}
use Rattle.formats.specs.Objects.{bounds_of}
use Rattle.formats.specs.Records.{records_of, next_after}
use Rattle.explain_core.specs.Sound.{SkipsNothing}
use Rattle.explain_core.specs.World.{Starts}
use Rattle.standing.specs.Members.{next-members}
use Rattle.standing.proofs.Checkpoints.{IsInTime, tables_fit}
use Rattle.standing.proofs.standing_files.checkpoints_of_a_log_fit.Goals as goal

pub returns : goal.returns
returns g c = λ p files parts a installed holds in_time.
    let m = g.O.Oper.meaning (bounds_of p) in
    let records = records_of holds.groups in
    let end : next_after holds.header.base records ≤ parts.base + length parts.records = omega (arith, next-members holds.header.base records, holds.base, ap (λ l. length l) holds.members) in
    let asked = subst (λ (l : List Starts). AllByRecursion (IsInTime m a installed holds.header.base) l) (sym holds.tables) in_time in
    let fit = tables_fit m a installed holds.header.base holds.header.base (parts.base + length parts.records) records (omega arith) end holds.log.log.placed asked in
    subst (λ (n : ℕ). AllByRecursion (SkipsNothing a installed n (parts.base + length parts.records)) parts.tables) holds.base
    (subst (λ (l : List Starts). AllByRecursion (SkipsNothing a installed holds.header.base (parts.base + length parts.records)) l) holds.tables fit)
