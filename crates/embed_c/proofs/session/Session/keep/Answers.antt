use Rattle.std.proofs.Common.{◌∙◌, ap, refl, sym, Some}
use Rattle.embed_c.specs.Snapshots.{AreKeptIn}
use Rattle.embed_c.specs.declared.answer.Answer.{Answer}
use Rattle.embed_c.proofs.Snapshotting.{keeps, keeps_none}
use Rattle.embed_c.proofs.Untaken.{untaken}
use Rattle.embed_c.proofs.session.Session.keep.Goals as goal

pub returns-in_default : goal.returns-in_default
returns-in_default c =
    let none = sym c.replace.ensures.value ∙ c.in_default.is in
    let done = c.refuse.ensures in
    keeps_none c.args.self.now c.refuse.new.self c.refuse.result (AreKeptIn c.args.self.now c.args.objects.now) c.args.self.now.snapshot none
    (record { number = done.number; detail = done.detail; store = done.store; taken = done.taken; pairs = done.pairs; snapshot = done.snapshot ∙ c.replace.ensures.after ∙ sym none; staging = done.staging })

pub returns : goal.returns
returns c =
    let e = c.keep.ensures in
    keeps c.args.self.now (record c.args.self.now { store = c.keep.new.self; snapshot = Some c.keep.new.snapshot; detail = c.done.result.detail }) 0 (AreKeptIn c.args.self.now c.args.objects.now) c.args.self.now.snapshot c.in-Some.snapshot (sym c.replace.ensures.value ∙ c.in-Some.is) (record {
      after = c.keep.new.snapshot;
      store = record { reads = e.reads; whole = e.whole; kept = e.kept; on = e.on; stands = e.stands; same = e.snapshot; broken = e.broken };
      snapshot = refl;
      number = refl;
      detail = ap (λ (a : Answer). a.detail) c.done.ensures;
      untaken = untaken e.time;
      taken = refl;
      pairs = refl;
      staging = refl;
    })
