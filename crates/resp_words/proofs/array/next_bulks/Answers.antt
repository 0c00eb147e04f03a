use Rattle.std.proofs.Common.{List, ℕ, map, arith}
use Rattle.std.specs.List.{flat_map}
use Rattle.resp_words.specs.Commands.{AreBulks, IsBulk, bulk}
use Rattle.resp_words.proofs.Bulks.{bulks_lead}
use Rattle.resp_words.proofs.Leading.{bad_leads, front_leads}
use Rattle.resp_words.proofs.array.next_bulks.Goals as goal

pub returns-in-More : goal.returns-in-More
returns-in-More c =
    let words : List (List ℕ) = map (λ word. word.now) c.loop.words.items in
    front_leads (AreBulks c.args.count c.args.most) (IsBulk c.args.most) (flat_map bulk words) c.loop.rest.now c.args.bytes.now
    (bulks_lead c.args.count c.args.most words (omega (arith, c.ranges.most.fits)) c.loop.invariant.short (omega (arith, c.loop.invariant.all, c.loop-test.true))) c.loop.invariant.is c.in-More.ensures

pub returns-in-Bad : goal.returns-in-Bad
returns-in-Bad c =
    let words : List (List ℕ) = map (λ word. word.now) c.loop.words.items in (
      bad_leads (AreBulks c.args.count c.args.most) (IsBulk c.args.most) (flat_map bulk words) c.loop.rest.now c.args.bytes.now
          (bulks_lead c.args.count c.args.most words (omega (arith, c.ranges.most.fits)) c.loop.invariant.short (omega (arith, c.loop.invariant.all, c.loop-test.true))) c.loop.invariant.is c.in-Bad.ensures.0,
      record { words = words; rest = c.loop.rest.now; is = c.loop.invariant.is; fewer = omega (arith, c.loop.invariant.all, c.loop-test.true); short = c.loop.invariant.short; bad = c.in-Bad.ensures.0; fault = c.in-Bad.ensures.1 },
    )
