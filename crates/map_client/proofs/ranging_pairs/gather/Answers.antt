use Rattle.std.proofs.Common.{◌≡◌, sym, ap, refl, subst, inr, ℕ, List, Option, Some, option_and_then, option_map}
use Rattle.std.specs.Prelude.{OnOk}
use Rattle.page_ops.specs.Page.{Cell}
use Rattle.page_map.specs.Map.{Span}
use Rattle.map_client.specs.Ranging.{cells_behind, pairs_on}
use Rattle.map_client.proofs.RangingPairsLemmas.{fails_same}
use Rattle.map_client.proofs.ranging_pairs.gather.Goals as goal

pub returns-in-Some-clause-pairs : goal.returns-in-Some-clause-pairs
returns-in-Some-clause-pairs c =
    let span : Span = record { from = c.args.from.now; to = option_map (λ end. end.now) c.args.to } in
    let end : Option (List ℕ) = option_map (λ end. end.now) c.args.end in
    let others = c.args.gathered.now.pairs.items in
    let most = c.args.gathered.now.left in
    let same : cells_behind c.args.order c.in-Some.leaf others most c.in-Some.places ≡ pairs_on c.args.order c.args.bytes.now span end others most =
    λ k. option_and_then (cells_behind c.args.order (c.in-Some.ensures.leaf k) others most) (c.in-Some.ensures.places k) in
    subst (λ (o : Option (List Cell × ℕ)). OnOk c.push_places.result (o ≡ Some (c.push_places.new.gathered.pairs.items, c.push_places.new.gathered.left))) same c.push_places.ensures.pairs

pub returns-in-Some-clause-fails : goal.returns-in-Some-clause-fails
returns-in-Some-clause-fails c =
    let span : Span = record { from = c.args.from.now; to = option_map (λ end. end.now) c.args.to } in
    let end : Option (List ℕ) = option_map (λ end. end.now) c.args.end in
    let others = c.args.gathered.now.pairs.items in
    let most = c.args.gathered.now.left in
    let same : cells_behind c.args.order c.in-Some.leaf others most c.in-Some.places ≡ pairs_on c.args.order c.args.bytes.now span end others most =
    λ k. option_and_then (cells_behind c.args.order (c.in-Some.ensures.leaf k) others most) (c.in-Some.ensures.places k) in
    fails_same c.args.object c.push_places.result (cells_behind c.args.order c.in-Some.leaf others most c.in-Some.places) (pairs_on c.args.order c.args.bytes.now span end others most) same c.push_places.ensures.fails

pub returns-in-None-clause-fails : goal.returns-in-None-clause-fails
returns-in-None-clause-fails c = inr (ap (option_and_then (cells_behind c.args.order c.args.bytes.now c.args.gathered.now.pairs.items c.args.gathered.now.left)) (sym c.in-None.ensures.places), refl)
