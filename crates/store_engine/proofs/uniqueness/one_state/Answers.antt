use Rattle.std.proofs.Common.{◌≡◌, sym, subst}
use Rattle.oper_core.specs.Meaning.{state_after}
use Rattle.formats.specs.Objects.{bounds_of}
use Rattle.formats.specs.declared.params.Params.{Params}
use Rattle.store_engine.proofs.uniqueness.one_state.Goals as goal

pub returns : goal.returns
returns g c = record {
  params = λ p q files commands others a b. c.files_hold_one_store.ensures.params p q files a.parts b.parts a.holds b.holds;
  state = λ p q files commands others a b. record {
    length = c.files_stand_for_one_state.ensures.count p q files commands others a b;
    state = λ x.
        let params = c.files_hold_one_store.ensures.params p q files a.parts b.parts a.holds b.holds in
        subst (λ (r : Params). state_after (g.O.Oper.meaning (bounds_of p)) commands x ≡ state_after (g.O.Oper.meaning (bounds_of r)) others x) (sym params) (c.files_stand_for_one_state.ensures.state p q files commands others x a b);
  };
}
