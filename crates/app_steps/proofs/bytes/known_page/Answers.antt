use Rattle.std.proofs.Common.{sym, subst}
use Rattle.page_ops.specs.Operation.{op_code}
use Rattle.page_ops.specs.declared.page_op.PageOp.{PageOp}
use Rattle.page_ops.specs.declared.page_op.PageOp.TheVariants.{Put, Set, TurnTwo, Root}
use Rattle.app_program.specs.OneCode.{AreBytes}
use Rattle.app_steps.proofs.PageBytes.{page_code_bytes}
use Rattle.app_steps.proofs.bytes.known_page.Goals as goal

pub returns-in-Put : goal.returns-in-Put
returns-in-Put c =
    let op = c.in-Put in
    subst (λ (op : PageOp). AreBytes (op_code op)) (sym op.is)
    (page_code_bytes (Put op.page op.place op.key op.value) (subst AreBytes c.as_slice.ensures.value c.known.ensures, subst AreBytes c.as_slice-in-Put.ensures.value c.known-in-Put.ensures))

pub returns-in-Set : goal.returns-in-Set
returns-in-Set c =
    let op = c.in-Set in
    subst (λ (op : PageOp). AreBytes (op_code op)) (sym op.is)
    (page_code_bytes (Set op.page op.place op.value) (subst AreBytes c.as_slice-in-Set.ensures.value c.known-in-Set.ensures))

pub returns-in-TurnTwo : goal.returns-in-TurnTwo
returns-in-TurnTwo c =
    let op = c.in-TurnTwo in
    subst (λ (op : PageOp). AreBytes (op_code op)) (sym op.is)
    (page_code_bytes (TurnTwo op.page op.place op.count op.child op.key op.second) (subst AreBytes c.as_slice-in-TurnTwo.ensures.value c.known-in-TurnTwo.ensures))

pub returns-in-Root : goal.returns-in-Root
returns-in-Root c =
    let op = c.in-Root in
    subst (λ (op : PageOp). AreBytes (op_code op)) (sym op.is)
    (page_code_bytes (Root op.page op.level op.left op.key op.right) (c.known_level.ensures, subst AreBytes c.as_slice-in-Root.ensures.value c.known-in-Root.ensures))
