use Rattle.std.proofs.Common.{sym, ap, ◌∙◌, Ok, Result, List, reverse, take}
use Rattle.page_ops.specs.Page.{Cell}
use Rattle.page_map.specs.Map.{all_keys, content_of}
use Rattle.page_map.specs.Reads.{above, below, first_of, last_of, next_of, pairs_of, prefix_span, prev_of}
use Rattle.map_client.specs.Answers.{MapErr, told}
use Rattle.map_client.proofs.RangingCountLemmas.{count_within}
use Rattle.map_client.proofs.RangingLeavesLemmas.{back_within, one_pair, range_within}
use Rattle.map_client.proofs.laws.reads_of_ranges_are_those_of_the_map.Goals as goal

pub returns-clause-count : goal.returns-clause-count
returns-clause-count c = λ b lo hi s span small within is. count_within b lo hi s span within ∙ ap told (c.ranges_are_read_from_leaves.ensures.count lo hi s span small is)

pub returns-clause-range : goal.returns-clause-range
returns-clause-range c = λ b lo hi s span most small within is. range_within b lo hi s span most within ∙ ap told (c.ranges_are_read_from_leaves.ensures.range lo hi s span most small is)

pub returns-clause-back : goal.returns-clause-back
returns-clause-back c = λ b lo hi s span most small within is. back_within b lo hi s span most within ∙ ap told (c.ranges_are_read_from_leaves.ensures.back lo hi s span most small is)

pub returns-clause-next : goal.returns-clause-next
returns-clause-next c = λ b lo hi s key small within is.
    range_within b lo hi s (above key) 1 within ∙ ap told (c.ranges_are_read_from_leaves.ensures.range lo hi s (above key) 1 small is)
    ∙ ap (λ (l : List Cell). (let r : Result (List Cell) MapErr = Ok l in r)) (one_pair (pairs_of (content_of is) (above key)) (next_of (content_of is) key) (c.reads_are_ranges.ensures.next (content_of is) key))

pub returns-clause-prev : goal.returns-clause-prev
returns-clause-prev c = λ b lo hi s key small within is.
    back_within b lo hi s (below key) 1 within ∙ ap told (c.ranges_are_read_from_leaves.ensures.back lo hi s (below key) 1 small is)
    ∙ ap (λ (l : List Cell). (let r : Result (List Cell) MapErr = Ok l in r)) (one_pair (reverse (pairs_of (content_of is) (below key))) (prev_of (content_of is) key) (c.reads_are_ranges.ensures.prev (content_of is) key))

pub returns-clause-prefix : goal.returns-clause-prefix
returns-clause-prefix c = λ b lo hi s bytes most small within is are.
    range_within b lo hi s (prefix_span bytes) most within ∙ ap told (c.ranges_are_read_from_leaves.ensures.range lo hi s (prefix_span bytes) most small is)
    ∙ ap (λ (l : List Cell). (let r : Result (List Cell) MapErr = Ok (take most l) in r)) (sym (c.reads_are_ranges.ensures.prefix (content_of is) bytes are))

pub returns-clause-first : goal.returns-clause-first
returns-clause-first c = λ b lo hi s small within is.
    range_within b lo hi s all_keys 1 within ∙ ap told (c.ranges_are_read_from_leaves.ensures.range lo hi s all_keys 1 small is)
    ∙ ap (λ (l : List Cell). (let r : Result (List Cell) MapErr = Ok l in r)) (one_pair (pairs_of (content_of is) all_keys) (first_of (content_of is)) (c.reads_are_ranges.ensures.first (content_of is)))

pub returns-clause-last : goal.returns-clause-last
returns-clause-last c = λ b lo hi s small within is.
    back_within b lo hi s all_keys 1 within ∙ ap told (c.ranges_are_read_from_leaves.ensures.back lo hi s all_keys 1 small is)
    ∙ ap (λ (l : List Cell). (let r : Result (List Cell) MapErr = Ok l in r)) (one_pair (reverse (pairs_of (content_of is) all_keys)) (last_of (content_of is)) (c.reads_are_ranges.ensures.last (content_of is)))
