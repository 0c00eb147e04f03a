use Rattle.map_client.proofs.ranging_fall.prev.Goals as goal

pub returns-clause-calls : goal.returns-clause-calls
returns-clause-calls g c = c.back.ensures.calls

pub returns-clause-adds : goal.returns-clause-adds
returns-clause-adds g c = c.back.ensures.adds

pub returns-clause-found : goal.returns-clause-found
returns-clause-found g c = c.back.ensures.found

pub returns-clause-refused : goal.returns-clause-refused
returns-clause-refused g c = c.back.ensures.refused
