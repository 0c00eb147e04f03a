use Rattle.name_ranges.proofs.Writing.{append_writes, copy_writes, put_writes}
use Rattle.name_ranges.proofs.laws.operations_write_one_object.Goals as goal

pub returns : goal.returns
returns c = record {
  put = λ b s x bytes there fits. put_writes b s x there bytes fits;
  copy = λ b s x y there also apart. copy_writes b s x there y also apart;
  append = λ b s x y there also apart fits. append_writes b s x there y also apart fits;
}
