use Rattle.std.proofs.Common.{arith}
use Rattle.name_ranges.specs.Directory.{key_of}
use Rattle.named_objects.proofs.Names.{found_is, value_is}
use Rattle.named_objects.proofs.laws.calls_are_told_of_names.Goals as goal

pub returns : goal.returns
returns c =
    let get = c.calls_act_as_on_an_ordered_map.ensures.get in
    record {
      object = λ b lo hi s names is name has.
          let below = has.admits.objects in let most = has.small.objects in
          found_is b lo hi s names is name (get b lo hi s (key_of name) (omega (arith, below, most)) has.admits.objects is.kept.map);
      value = λ b lo hi s names is name has.
          let below = has.admits.objects in let most = has.small.objects in
          value_is b lo hi s names is name (get b lo hi s (key_of name) (omega (arith, below, most)) has.admits.objects is.kept.map);
    }
