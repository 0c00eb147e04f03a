-- What the handle of a target owns.
use Rattle.std.specs.Prelude.{Option, None, Some}
use base.Fml.{Fml, ftrue, fex}
use denote.RawPtr.{Ptr}
use Rattle.std.specs.Box.Ownership.{box_owns}
use Rattle.std.specs.Global.{Global}
use Rattle.std.specs.contracts.impls.GlobalAllocator.TheImpl.{ghosts}
use Rattle.embed_c.specs.contracts.target.Target.{the_row}
use Rattle.embed_c.specs.declared.target.Target.{Target}

-- this target is at the pointer, with the right to free its block; or nothing is owned
abbrev pub owned_at : Option Target → Ptr → Fml
owned_at None p = ftrue
owned_at (Some s) p = fex Global (λ a. box_owns (ghosts.dealloc_token a) the_row p s)
