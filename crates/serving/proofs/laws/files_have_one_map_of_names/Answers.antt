use Rattle.std.proofs.Common.{◌≡◌, sym, subst}
use Rattle.oper_core.specs.State.{State}
use Rattle.formats.specs.Objects.{bounds_of}
use Rattle.formats.specs.declared.params.Params.{Params}
use Rattle.shell_base.specs.Store.{state_of}
use Rattle.name_ranges.specs.Named.{IsNamed}
use Rattle.serving.proofs.laws.files_have_one_map_of_names.Goals as goal

pub returns : goal.returns
returns c lo hi files names others small one other =
    let p : Params = one.numbers in
    let named = subst (λ (q : Params). IsNamed (bounds_of q) lo hi (state_of q other.commands) others) (sym (c.one_state.ensures.params p other.numbers files one.commands other.commands one.stands other.stands)) other.named in
    let states = c.one_state.ensures.state p other.numbers files one.commands other.commands one.stands other.stands in
    let same : state_of p one.commands ≡ state_of p other.commands = λ i x. states.state x i in
    c.a_range_has_one_map_of_names.ensures.one (bounds_of p) lo hi (state_of p other.commands) names others small (subst (λ (s : State). IsNamed (bounds_of p) lo hi s names) same one.named) named
