use Rattle.std.proofs.Common.{arith, inl, inr, refl, sym}
use Rattle.embed_c.proofs.OnMaps.{too_long}
use Rattle.embed_c.proofs.page_maps.text.Goals as goal

pub returns-then-bytes-ge-TEXT_END-clause-cause : goal.returns-then-bytes-ge-TEXT_END-clause-cause
returns-then-bytes-ge-TEXT_END-clause-cause c = inl (omega (arith, c.if-bytes-ge-TEXT_END.true), refl)

pub returns-in_default-clause-cause : goal.returns-in_default-clause-cause
returns-in_default-clause-cause c = inr refl

pub returns-in-None-clause-cause : goal.returns-in-None-clause-cause
returns-in-None-clause-cause c = inl (too_long c.args.bytes.now c.in-Ok.copy.items c.in-Ok.ensures.items (sym c.in-None.ensures.there), refl)
