use Rattle.std.proofs.Common.{◌≡◌, ◌<◌, ◌-◌, sym, ◌∙◌, arith, Some, get_or, take, ◌++◌, ◌∷◌, [], suc, option_map}
use Rattle.std.proofs.lemmas.Result.{IfOk-weaker}
use Rattle.page_map.specs.Reads.{prefix_end}
use Rattle.map_client.proofs.PrefixLemmas.{raised_here}
use Rattle.map_client.proofs.ranging_prefix.prefix_end.Goals as goal

pub returns-then-last-lt255-clause-key : goal.returns-then-last-lt255-clause-key
returns-then-last-lt255-clause-key c =
    let bytes = c.args.bytes.now in
    let n = c.loop-count.count in
    let some : 0 < n = omega (arith, c.loop-count-test.true) in
    IfOk-weaker c.raised.result (λ end. option_map (λ v. v.items) end ≡ Some (take (n - 1) bytes ++ suc (get_or bytes (n - 1) 0) ∷ [])) (λ end. option_map (λ v. v.items) end ≡ prefix_end bytes)
    (λ end same. same ∙ sym (raised_here bytes n some c.loop-count.invariant.within c.loop-count.invariant.none c.if-last-lt255.true)) c.raised.ensures.key
