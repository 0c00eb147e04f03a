use Rattle.std.proofs.Common.{rules, ◌+◌, ◌∙◌, ℕ, List, refl, sym, subst}
use Rattle.std.proofs.lemmas.Result.{err_from_is_err_and}
use Rattle.disk_model.specs.Moments.{agreed_before, stays_here, stays_twice}
use Rattle.disk_model.specs.declared.machine.FileNo.TheVariants.{Objects}
use Rattle.formats.specs.Objects.{slot_place}
use Rattle.stable_objects.specs.Heads.{head_at, IsRead, IsReadWhole, IsHeadFault, IsPairFault, in_first, in_second, alike}
use Rattle.stable_objects.proofs.Found.{moved}
use Rattle.stable_objects.proofs.HeadBytes.{held_is}
use Rattle.stable_objects.proofs.heads.read_pair.Goals as goal

pub returns-in_err-first-clause-cause : goal.returns-in_err-first-clause-cause
returns-in_err-first-clause-cause g c =
    let old = g.M.Machine.disk c.args.machine.now in
    let a = c.args in
    let e = err_from_is_err_and c.from_residual.result c.from_residual.ensures.1 in
    rw (e.1, e.2) (moved old old (g.M.Machine.disk c.read_head.new.machine) (λ file at. IsHeadFault a.layout.params.cap c.place_of.result a.size (head_at c.place_of.result file) at) (λ file at. IsPairFault a.layout a.object a.size file at) _
    (stays_here old (g.met.M.Machine.lawful c.args.machine.now))
    (λ files agree at fault. in_first at (subst (λ (p : ℕ). IsHeadFault a.layout.params.cap p a.size (head_at p (files Objects)) at) c.place_of.ensures fault))
    c.in_err-first.ensures.cause)

pub returns-in_err-second-clause-kept : goal.returns-in_err-second-clause-kept
returns-in_err-second-clause-kept g c = stays_twice _ _ _ c.read_head.ensures.kept c.read_head-2.ensures.kept

pub returns-in_err-second-clause-cause : goal.returns-in_err-second-clause-cause
returns-in_err-second-clause-cause g c =
    let old = g.M.Machine.disk c.args.machine.now in
    let a = c.args in
    let at_place = c.place_of-place.result in
    let e = err_from_is_err_and c.from_residual-in_err-second.result c.from_residual-in_err-second.ensures.1 in
    rw (e.1, e.2) (moved old (g.M.Machine.disk c.read_head.new.machine) (g.M.Machine.disk c.read_head-2.new.machine) (λ file at. IsHeadFault a.layout.params.cap at_place a.size (head_at at_place file) at) (λ file at. IsPairFault a.layout a.object a.size file at) _
    c.read_head.ensures.kept
    (λ files agree at fault. in_second c.in_ok-first.first.lsn at
    (subst (λ (p : ℕ). IsRead a.layout.params.cap p a.size (head_at p (files Objects)) c.in_ok-first.first.lsn) c.place_of.ensures (c.in_ok-first.ensures.read files (agreed_before c.read_head-2.ensures.kept files agree)).read)
    (subst (λ (p : ℕ). IsHeadFault a.layout.params.cap p a.size (head_at p (files Objects)) at) c.place_of-place.ensures fault))
    c.in_err-second.ensures.cause)

pub returns-then-first-second-clause-kept : goal.returns-then-first-second-clause-kept
returns-then-first-second-clause-kept g c = stays_twice _ _ _ c.read_head.ensures.kept c.read_head-2.ensures.kept

pub returns-then-first-second-clause-cause : goal.returns-then-first-second-clause-cause
returns-then-first-second-clause-cause g c = rw c.damaged_at.ensures (
  refl,
  λ files agree.
      let a = c.args in
      let file = files Objects in
      let read : (p lsn : ℕ) (file : List ℕ) → Type 0 = λ p lsn file. IsRead a.layout.params.cap p a.size (head_at p file) lsn in
      let first = subst (λ (p : ℕ). read p c.in_ok-first.first.lsn file) c.place_of.ensures (c.in_ok-first.ensures.read files (agreed_before c.read_head-2.ensures.kept files agree)).read in
      let second = subst (λ (p : ℕ). read p c.in_ok-second.second.lsn file) c.place_of-place.ensures (c.in_ok-second.ensures.read files agree).read in
      subst (λ (p : ℕ). IsPairFault a.layout a.object a.size file (p + 1)) (sym c.place_of-place.ensures)
      (alike c.in_ok-first.first.lsn c.if-first-ne0.true first (subst (λ (lsn : ℕ). read (slot_place a.layout a.object 1) lsn file) (sym c.if-first-second.true) second)),
)

pub returns-clause-kept : goal.returns-clause-kept
returns-clause-kept g c = stays_twice _ _ _ c.read_head.ensures.kept c.read_head-2.ensures.kept

pub returns-clause-read : goal.returns-clause-read
returns-clause-read g c files agree =
    let a = c.args in
    let file = files Objects in
    let one = c.in_ok-first.first in
    let other = c.in_ok-second.second in
    let first = subst (λ (p : ℕ). IsReadWhole a.layout.params.cap p a.size (head_at p file) one.lsn one.long) c.place_of.ensures (c.in_ok-first.ensures.read files (agreed_before c.read_head-2.ensures.kept files agree)) in
    let second = subst (λ (p : ℕ). IsReadWhole a.layout.params.cap p a.size (head_at p file) other.lsn other.long) c.place_of-place.ensures (c.in_ok-second.ensures.read files agree) in
    record {
      pair = record { first_read = first.read; second_read = second.read; apart = search rules };
      long_is = c.held_long.ensures ∙ held_is a.layout a.object one.lsn other.lsn one.long other.long file first.long_is second.long_is;
    }
