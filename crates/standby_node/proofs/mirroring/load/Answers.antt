use Rattle.std.proofs.Common.{◌≡◌, ◌∙◌, List, ℕ, [], ap, refl, subst, sym}
use Rattle.std.specs.Prelude.{Ok}
use Rattle.oper_core.specs.declared.bounds.Bounds.{Bounds}
use Rattle.frame_stream.specs.FrameBuffer.{FrameBufferView, HasPassed}
use Rattle.standby_node.specs.Same.{ComparesPiece, HasCompared, MirrorView}
use Rattle.standby_node.proofs.Loaded.{loaded_codes}
use Rattle.standby_node.proofs.mirroring.load.Goals as goal

pub returns-in-Ok-clause-codes : goal.returns-in-Ok-clause-codes
returns-in-Ok-clause-codes g c payloads groups whole are is =
    let meaning = g.O.Oper.meaning in
    let bounds = c.args.bounds in
    let new = c.new-mirror.result in
    let last = c.take.new.self in
    let at = c.new-mirror.ensures in
    let bounds_are : new.bounds ≡ bounds = ap (λ (s : MirrorView). s.bounds) at in
    let start : HasCompared (meaning new.bounds) [] [] new = record {
      payloads = [];
      groups = [];
      passed = subst (λ (f : FrameBufferView). HasPassed [] [] f) (sym (ap (λ (s : MirrorView). s.frames) at)) (record { is = refl; passed = refl; whole = tt });
      frames_are = tt;
      same = tt;
      codes_are = ap (λ (s : MirrorView). s.codes) at;
    } in
    let compared = subst (λ (b : Bounds). ComparesPiece (meaning b) [] c.args.log.now last (Ok tt)) bounds_are (c.in-Ok.ensures.compared [] [] start) in
    let base_is = c.in-Ok.ensures.same.1 ∙ ap (λ (s : MirrorView). s.base) at in
    ap (λ (s : MirrorView). s.codes) c.at_start.ensures ∙ loaded_codes (meaning bounds) (λ bytes first second one two. c.one_record.ensures bounds bytes first second c.requires.small one two) c.args.base [] c.args.log.now last compared.0 compared.1 base_is payloads groups whole are is
