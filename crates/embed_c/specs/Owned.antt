-- What a handle owns.
use Rattle.std.specs.Prelude.{Option, None, Some}
use base.Fml.{Fml, ftrue, fex}
use denote.RawPtr.{Ptr}
use Rattle.std.specs.Box.Ownership.{box_owns}
use Rattle.std.specs.Global.{Global}
use Rattle.std.specs.contracts.impls.GlobalAllocator.TheImpl.{ghosts}
use Rattle.embed_c.specs.contracts.session.Session.{the_row}
use Rattle.embed_c.specs.declared.session.Session.{Session}

-- this session is at the pointer, with the right to free its block; or nothing is owned
abbrev pub owned_at : Option Session → Ptr → Fml
owned_at None p = ftrue
owned_at (Some s) p = fex Global (λ a. box_owns (ghosts.dealloc_token a) the_row p s)
