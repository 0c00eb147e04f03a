use Rattle.std.proofs.Common.{[], ◌∷◌, Bool, List, ℕ, sym, ap, subst}
use Rattle.std.specs.Prelude.{option_copied}
use Rattle.std.specs.Option.{option_to_list}
use Rattle.formats.specs.Records.{record_code}
use Rattle.log_records.specs.Copying.{HasFilled, HasLaid, later_of}
use Rattle.log_records.specs.Laying.{Fits, codes_of}
use Rattle.log_records.proofs.Copies.{filled_or_not, laid_nothing, no_room_for}
use Rattle.log_records.proofs.copying.put_last.Goals as goal

pub returns-in_default-clause-filled : goal.returns-in_default-clause-filled
returns-in_default-clause-filled g c b =
    let m = g.O.Oper.meaning b in
    let d = g.M.Machine.disk c.args.m.now in
    let out = c.args.out.now in
    let blocks = c.args.blocks.now in
    subst (λ (l : List (List ℕ)). HasFilled d d out out blocks l c.are_full.result) (sym (ap (λ o. codes_of m (option_to_list (option_copied o))) c.in_default.is))
    (filled_or_not d d out out blocks blocks [] c.are_full.result (laid_nothing d out blocks) c.are_full.ensures)

pub returns-then-not-branch-clause-filled : goal.returns-then-not-branch-clause-filled
returns-then-not-branch-clause-filled g c b =
    let m = g.O.Oper.meaning b in
    let old = g.M.Machine.disk c.args.m.now in
    let new = g.M.Machine.disk c.put_record.new.m in
    let blocks = c.args.blocks.now in
    let one = record_code m c.in-Some.it.now ∷ [] in
    let none = subst (λ (fits : Bool). HasLaid old new c.args.out.now c.put_record.new.out blocks c.put_record.new.blocks one fits) c.if-not-branch.true (c.in_ok-put_record.ensures.laid b) in
    λ fits. no_room_for blocks one none (subst (Fits blocks.left (later_of blocks)) (ap (λ o. codes_of m (option_to_list (option_copied o))) c.in-Some.is) fits)

pub returns-clause-filled : goal.returns-clause-filled
returns-clause-filled g c b =
    let m = g.O.Oper.meaning b in
    let old = g.M.Machine.disk c.args.m.now in
    let new = g.M.Machine.disk c.put_record.new.m in
    let out = c.args.out.now in
    let blocks = c.args.blocks.now in
    let one = record_code m c.in-Some.it.now ∷ [] in
    let put = subst (λ (fits : Bool). HasLaid old new out c.put_record.new.out blocks c.put_record.new.blocks one fits) c.if-not-branch.false (c.in_ok-put_record.ensures.laid b) in
    subst (λ (l : List (List ℕ)). HasFilled old new out c.put_record.new.out blocks l c.are_full-2.result) (sym (ap (λ o. codes_of m (option_to_list (option_copied o))) c.in-Some.is))
    (filled_or_not old new out c.put_record.new.out blocks c.put_record.new.blocks one c.are_full-2.result put c.are_full-2.ensures)
