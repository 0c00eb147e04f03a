use Rattle.std.proofs.Common.{rules, ◌∙◌, ℕ, List, sym, subst, arith}
use Rattle.disk_model.specs.Disk.{HoldsAt}
use Rattle.disk_model.specs.declared.machine.FileNo.TheVariants.{Objects}
use Rattle.formats.specs.Objects.{header_fields, number_fields}
use Rattle.stable_objects.specs.Layouts.{new_layout}
use Rattle.stable_objects.proofs.Fields.{first_fields, second_fields, no_numbers, length-header_fields, length-number_fields}
use Rattle.stable_objects.specs.GateLaws.{torn_run}
use Rattle.stable_objects.proofs.Made.{run_keeps, closed_behind, first_place, second_place}
use Rattle.stable_objects.proofs.creating.write_fields.Goals as goal

pub returns-in_err-write_at-clause-runs : goal.returns-in_err-write_at-clause-runs
returns-in_err-write_at-clause-runs g c = torn_run _ _ 1 _ (omega arith) c.write_at.ensures.runs

pub returns-then-fits_first-clause-runs : goal.returns-then-fits_first-clause-runs
returns-then-fits_first-clause-runs g c = torn_run _ _ 1 _ (omega arith) c.write_at.ensures.runs

pub returns-then-fits_first-clause-fields : goal.returns-then-fits_first-clause-fields
returns-then-fits_first-clause-fields g c told =
    let old = g.M.Machine.disk c.args.machine.now in
    let new = g.M.Machine.disk c.write_at.new.self in
    let fits = sym c.fits_first.ensures ∙ c.if-fits_first.true in
    first_fields c.args.params (old.reads Objects) (new.reads Objects) c.requires fits
    (subst (λ (b : List ℕ). HoldsAt 1 b (old.reads Objects) (new.reads Objects)) c.header_of.ensures (c.in_ok-write_at.ensures.written told).changed)

pub returns-then-fits_first-clause-slots : goal.returns-then-fits_first-clause-slots
returns-then-fits_first-clause-slots g c told closed =
    let p = c.args.params in
    let old = g.M.Machine.disk c.args.machine.now in
    let new = g.M.Machine.disk c.write_at.new.self in
    let fits = sym c.fits_first.ensures ∙ c.if-fits_first.true in
    closed_behind (new_layout p) 1 (header_fields 49 p) (old.reads Objects) (new.reads Objects) (omega (arith, first_place p fits, length-header_fields 49 p))
    (subst (λ (b : List ℕ). HoldsAt 1 b (old.reads Objects) (new.reads Objects)) c.header_of.ensures (c.in_ok-write_at.ensures.written told).changed) closed

pub returns-in_err-write_at-2-clause-runs : goal.returns-in_err-write_at-2-clause-runs
returns-in_err-write_at-2-clause-runs g c = torn_run _ _ 1 _ (omega arith) c.write_at-2.ensures.runs

pub returns-in_err-write_at-3-clause-runs : goal.returns-in_err-write_at-3-clause-runs
returns-in_err-write_at-3-clause-runs g c = run_keeps _ _ _ 32 _ (omega arith) (torn_run _ _ 1 _ (omega arith) c.write_at-2.ensures.runs) c.write_at-3.ensures.runs

pub returns : goal.returns
returns g c =
    let old = g.M.Machine.disk c.args.machine.now in
    let mid = g.M.Machine.disk c.write_at-2.new.self in
    let new = g.M.Machine.disk c.write_at-3.new.self in
    let large = sym c.fits_first.ensures ∙ c.if-fits_first.false in
    record {
      runs = run_keeps _ _ _ 32 _ (omega arith) (torn_run _ _ 1 _ (omega arith) c.write_at-2.ensures.runs) c.write_at-3.ensures.runs;
      fields = λ told.
          second_fields c.args.params (old.reads Objects) (mid.reads Objects) (new.reads Objects) c.requires large
          (subst (λ (b : List ℕ). HoldsAt 1 b (old.reads Objects) (mid.reads Objects)) c.header_of-2.ensures (c.in_ok-write_at-2.ensures.written told).changed)
          (subst (λ (b : List ℕ). HoldsAt 32 b (mid.reads Objects) (new.reads Objects)) c.numbers_of.ensures (c.in_ok-write_at-3.ensures.written (c.write_at-2.ensures.runs.time.files_told.0 told)).changed);
      slots = λ told closed.
          let p = c.args.params in
          let place = second_place p large in
          closed_behind (new_layout p) 32 (number_fields p) (mid.reads Objects) (new.reads Objects) (omega (arith, place, length-number_fields p))
          (subst (λ (b : List ℕ). HoldsAt 32 b (mid.reads Objects) (new.reads Objects)) c.numbers_of.ensures (c.in_ok-write_at-3.ensures.written (c.write_at-2.ensures.runs.time.files_told.0 told)).changed)
          (closed_behind (new_layout p) 1 (header_fields 50 no_numbers) (old.reads Objects) (mid.reads Objects) (omega (arith, place, length-header_fields 50 no_numbers))
          (subst (λ (b : List ℕ). HoldsAt 1 b (old.reads Objects) (mid.reads Objects)) c.header_of-2.ensures (c.in_ok-write_at-2.ensures.written told).changed) closed);
      cause = search rules;
    }
