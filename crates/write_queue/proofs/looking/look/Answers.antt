use Rattle.std.proofs.Common.{◌≡◌, ◌∙◌, ℕ, List, [], length, take, sym, ap, arith}
use Rattle.disk_model.specs.Padded.{padded}
use Rattle.write_queue.specs.Looking.{file_step, file_after}
use Rattle.write_queue.specs.Waiting.{call_of, calls_in}
use Rattle.write_queue.proofs.Looked.{item_more}
use Rattle.write_queue.proofs.Windows.{over_none, zeros_are_none}
use Rattle.write_queue.proofs.looking.look.Goals as goal

pub loop-call-init : goal.loop-call-init
loop-call-init c =
    let long : length c.lay_over.new.into ≡ length c.args.into.now = omega (arith, c.lay_over.auto.into, c.fill.ensures.len) in
    let zeros = zeros_are_none c.args.from _ c.fill.new.self (c.fill.ensures.after (λ y same. same)) in
    record {
      long = long;
      shows = c.lay_over.ensures [] zeros
          ∙ ap (λ (l : List ℕ). padded l c.args.from (length c.fill.new.self)) (over_none c.args.bytes.now)
          ∙ ap (λ (n : ℕ). padded c.args.bytes.now c.args.from n) c.fill.ensures.len;
    }

pub loop-call-preserved : goal.loop-call-preserved
loop-call-preserved c =
    let i = c.loop-call.call-index in
    let calls = c.args.calls.now in
    let so_far = c.loop-call.invariant in
    let before = file_after c.args.file c.args.bytes.now (calls_in (take i calls)) in
    let shown = so_far.shows ∙ ap (λ (n : ℕ). padded before c.args.from n) (sym so_far.long) in
    record {
      long = omega (arith, c.do_call.auto.into, so_far.long);
      shows = c.do_call.ensures before shown
          ∙ ap (λ (n : ℕ). padded (file_step c.args.file (call_of c.call-item.result) before) c.args.from n) so_far.long
          ∙ ap (λ (l : List ℕ). padded l c.args.from (length c.args.into.now)) (item_more c.args.file c.args.bytes.now calls i _ (omega (arith, c.loop-call-test.true)) c.call-item.is);
    }
