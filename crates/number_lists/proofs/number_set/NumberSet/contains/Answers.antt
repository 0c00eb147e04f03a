use Rattle.std.proofs.Common.{◌≡◌, ◌∙◌, ap, ℕ, length, nat_eq, ◌<◌, ◌≤◌, arith}
use Rattle.std.specs.Prelude.{slice_index}
use Rattle.std.proofs.lemmas.Grind.{get_or_default_zero}
use Rattle.oper_core.specs.State.{is_among}
use Rattle.number_lists.specs.Members.{Members}
use Rattle.number_lists.proofs.Placed.{told-there, told-past, past-none}
use Rattle.number_lists.proofs.number_set.NumberSet.contains.Goals as goal

pub returns-then-at-len : goal.returns-then-at-len
returns-then-at-len c =
    let members = c.self.inside.members.items in
    let place = c.self.inside.place.items in
    let low : c.args.n < length place = omega (arith, c.if-n-len.false, c.len.ensures, c.self.inside.place.ok.0) in
    let at_is : c.index.result.now ≡ slice_index place c.args.n = c.index.ensures ∙ get_or_default_zero place c.args.n c.index.result.now low in
    let lt : c.index.result.now < length members = omega (arith, c.if-at-len.true, c.len-2.ensures, c.self.inside.members.ok.0) in
    let read : c.index-then-at-len.result.now ≡ slice_index members c.index.result.now = c.index-then-at-len.ensures ∙ get_or_default_zero members c.index.result.now c.index-then-at-len.result.now lt in
    ap (λ (k : ℕ). nat_eq k c.args.n) read
    ∙ told-there members place c.args.n c.index.result.now c.self.invariant.0 at_is lt
    ∙ ap (λ (v : Members). is_among c.args.n v.members) c.self.view_is

pub returns-else-at-len : goal.returns-else-at-len
returns-else-at-len c =
    let members = c.self.inside.members.items in
    let place = c.self.inside.place.items in
    let low : c.args.n < length place = omega (arith, c.if-n-len.false, c.len.ensures, c.self.inside.place.ok.0) in
    let at_is : c.index.result.now ≡ slice_index place c.args.n = c.index.ensures ∙ get_or_default_zero place c.args.n c.index.result.now low in
    let le : length members ≤ c.index.result.now = omega (arith, c.if-at-len.false, c.len-2.ensures, c.self.inside.members.ok.0) in
    told-past members place c.args.n c.index.result.now c.self.invariant.0 at_is le ∙ ap (λ (v : Members). is_among c.args.n v.members) c.self.view_is

pub returns-then-n-len : goal.returns-then-n-len
returns-then-n-len c =
    let members = c.self.inside.members.items in
    let place = c.self.inside.place.items in
    let past : length place ≤ c.args.n = omega (arith, c.if-n-len.true, c.len.ensures, c.self.inside.place.ok.0) in
    past-none members place c.args.n c.self.invariant.0 past ∙ ap (λ (v : Members). is_among c.args.n v.members) c.self.view_is
