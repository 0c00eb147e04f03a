use Rattle.std.proofs.Common.{◌≡◌, Option, IfSome, subst, sym}
use Rattle.std.specs.Global.{Global}
use Rattle.std.specs.Prelude.{Box}
use Rattle.embed_c.specs.declared.session.Session.{Session}
use Rattle.embed_c.proofs.GivingUp.{where_ok}
use Rattle.embed_c.proofs.giving_up.boxed.Goals as goal

pub returns : goal.returns
returns c = subst (λ (o : Option (Box Session Global)). IfSome o (λ it. it.value ≡ c.args.session)) (sym c.ok.ensures.value) (where_ok _ c.new.result c.new.ensures.ok)
