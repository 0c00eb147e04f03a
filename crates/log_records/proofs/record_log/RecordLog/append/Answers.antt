use Rattle.std.proofs.Common.{◌∙◌, ◌+◌, ◌++◌, ℕ, List, ap, refl, subst, sym, arith}
use Rattle.formats.specs.Log.{Header}
use Rattle.formats.specs.Records.{record_code, IsPlaced}
use Rattle.log_blocks.specs.LogView.{LogView}
use Rattle.log_records.specs.RecordLog.{RecordLogView, IsCounted}
use Rattle.log_records.proofs.Appended.{pushed, appended, next_within}
use Rattle.log_records.proofs.record_log.RecordLog.append.Goals as goal

pub invariant_of-self-2 : goal.invariant_of-self-2
invariant_of-self-2 g c =
    let inside = c.self.inside in
    let m = g.O.Oper.meaning inside.bounds in
    let place = subst (λ (v : RecordLogView). IsPlaced (g.O.Oper.meaning v.bounds) v.log.header.base v.next c.args.new) (sym c.self.view_is) c.requires.placed in
    let after = c.next_behind-next.ensures m inside.log.header.base place in
    let fits = c.commands_in-commands.ensures.fits m inside.log.header.base inside.next place in
    let counted = c.self.invariant in
    let same = ap (λ (v : LogView). v.header) (pushed inside.log c.make_room.new.self c.push.new.self c.deref.result.now c.deref.result.now c.make_room.ensures.kept c.push.ensures.pushed refl) in
    subst (λ (h : Header). IsCounted inside.bounds h (inside.accepted + c.commands_in-commands.result) c.next_behind-next.result) (sym same) (record {
      small = counted.small;
      in_range = counted.in_range;
      base = omega (arith, counted.base, after, fits);
      last = omega (arith, after, next_within m inside.log.header.base inside.next c.args.new counted.last place);
      count = omega (arith, counted.count, after, fits);
    })

pub returns-clause-ok : goal.returns-clause-ok
returns-clause-ok g c =
    let inside = c.self.inside in
    let b = c.args.self.now.bounds in
    let m = g.O.Oper.meaning inside.bounds in
    let place = subst (λ (v : RecordLogView). IsPlaced (g.O.Oper.meaning v.bounds) v.log.header.base v.next c.args.new) (sym c.self.view_is) c.requires.placed in
    let code : List ℕ = record_code (g.O.Oper.meaning b) c.args.new in
    let bytes = c.deref.ensures.value ∙ c.in_ok-encode.ensures.ok b ∙ ap (λ (l : List ℕ). l ++ code) c.new-code.ensures.items in
    appended _ c.args.self.now c.push.new.self _ _ code c.args.new c.self.view_is
    (pushed inside.log c.make_room.new.self c.push.new.self c.deref.result.now code c.make_room.ensures.kept c.push.ensures.pushed bytes)
    (c.next_behind-next.ensures m inside.log.header.base place) (ap (λ (n : ℕ). inside.accepted + n) c.commands_in-commands.ensures.value)
