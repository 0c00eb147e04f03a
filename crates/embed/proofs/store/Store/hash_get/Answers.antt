use Rattle.std.proofs.Common.{◌∙◌, refl, sym, true≢false}
use Rattle.disk_model.specs.Moments.{passes_none}
use Rattle.embed.proofs.Grouped.{unbroken_where}
use Rattle.embed.proofs.store.Store.hash_get.Goals as goal

pub returns-then-is_broken : goal.returns-then-is_broken
returns-then-is_broken g c = record {
  time = passes_none _;
  calls = λ unbroken. unbroken_where c.args.self.now.engine unbroken c.if-is_broken.true c.is_broken.ensures;
  adds = λ p commands holds. unbroken_where c.args.self.now.engine holds.shows.unbroken c.if-is_broken.true c.is_broken.ensures;
  answer = λ p commands holds. unbroken_where c.args.self.now.engine holds.shows.unbroken c.if-is_broken.true c.is_broken.ensures;
  broken = λ is. record { answer = refl; same = refl };
}

pub returns : goal.returns
returns g c = record {
  time = c.get.ensures.calls.own.call.time;
  calls = λ unbroken. c.get.ensures.calls.own;
  adds = λ p commands holds. c.get.ensures.adds p commands holds holds.world holds.shows holds.commands_are;
  answer = c.get.ensures.answer;
  broken = λ is. absurd (true≢false (sym is ∙ sym c.is_broken.ensures ∙ c.if-is_broken.false));
}
