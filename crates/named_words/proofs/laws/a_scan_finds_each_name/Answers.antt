use Rattle.std.proofs.Common.{arith}
use Rattle.named_words.proofs.Scanning.{is_found}
use Rattle.named_words.proofs.laws.a_scan_finds_each_name.Goals as goal

pub returns : goal.returns
returns c name calls pages scans there = is_found name 0 calls pages (omega arith) scans there
