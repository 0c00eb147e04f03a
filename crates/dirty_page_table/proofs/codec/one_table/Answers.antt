use Rattle.dirty_page_table.specs.CodecLaws.{same_table}
use Rattle.dirty_page_table.proofs.codec.one_table.Goals as goal

pub returns : goal.returns
returns c bytes first second one two = same_table first second bytes one two
