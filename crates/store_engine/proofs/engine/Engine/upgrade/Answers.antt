use Rattle.store_engine.proofs.engine.Engine.upgrade.Goals as goal

pub returns : goal.returns
returns g c = c.enlarge.ensures
