use Rattle.embed_c.proofs.OnMaps.{ends_below, ends_map}
use Rattle.embed_c.proofs.page_maps.end_of.Goals as goal

pub returns-then-is_empty : goal.returns-then-is_empty
returns-then-is_empty c = ends_map c.args.key.now c.if-is_empty.ensures

pub returns-else-is_empty : goal.returns-else-is_empty
returns-else-is_empty c = ends_below c.args.key.now c.if-is_empty.ensures
