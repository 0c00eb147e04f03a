use Rattle.formats.specs.Objects.{bounds_of}
use Rattle.running_store.specs.Parts.{meaning_in}
use Rattle.cache_manager.proofs.OneRound.DueWorlds.{chosen_is}
use Rattle.cache_manager.proofs.ThinNode.Worlds.{store_small}
use Rattle.cache_manager.proofs.courses.a_round_is_found.Goals as goal

pub returns : goal.returns
returns g c = λ p file it copied most names objects w shows sound is.
    let m = meaning_in g.O.Oper.meaning p in
    let lawful = g.met.O.Oper.lawful (bounds_of p) (store_small m p file it w shows) in
    chosen_is m lawful c.last_blind_write_is_alone.ensures p file it w shows sound copied most names objects is
