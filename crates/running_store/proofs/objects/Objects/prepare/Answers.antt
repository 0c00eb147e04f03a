use Rattle.std.proofs.Common.{rules, ◌≡◌, ◌<◌, ℕ, Some, refl, subst, arith}
use Rattle.dirty_cache.specs.Contents.{held}
use Rattle.dirty_cache.specs.declared.entry.Entry.{Entry as Pair}
use Rattle.running_store.specs.Laid.{Laid}
use Rattle.running_store.proofs.PrepareLemmas.{both_any, both_moments, both_unseen, closing_any, closing_moments, prepared_laid}
use Rattle.running_store.proofs.objects.Objects.prepare.Goals as goal

pub returns-in_err-close_spares-clause-runs : goal.returns-in_err-close_spares-clause-runs
returns-in_err-close_spares-clause-runs g c =
    let law = c.spare_slots_are_not_seen.ensures in closing_any _ _ _ _ c.close_spares.ensures.slots c.close_spares.ensures.runs law.gates law.spares

pub returns-in_err-close_spares-clause-any_moment : goal.returns-in_err-close_spares-clause-any_moment
returns-in_err-close_spares-clause-any_moment g c =
    let law = c.spare_slots_are_not_seen.ensures in closing_moments _ _ _ _ c.close_spares.ensures.slots c.close_spares.ensures.runs law.gates law.spares

pub returns-in_err-fill_spares-clause-runs : goal.returns-in_err-fill_spares-clause-runs
returns-in_err-fill_spares-clause-runs g c =
    let law = c.spare_slots_are_not_seen.ensures in both_any _ _ _ _ c.close_spares.ensures.slots c.close_spares.ensures.runs law.gates law.spares _ c.fill_spares.ensures.runs

pub returns-in_err-fill_spares-clause-any_moment : goal.returns-in_err-fill_spares-clause-any_moment
returns-in_err-fill_spares-clause-any_moment g c =
    let law = c.spare_slots_are_not_seen.ensures in
    both_moments _ _ _ _ c.close_spares.ensures.slots c.close_spares.ensures.runs law.gates law.spares _ c.fill_spares.ensures.runs c.in_ok-close_spares.ensures.are c.in_ok-close_spares.ensures.settled

pub returns-in_err-fill_spares-clause-cause : goal.returns-in_err-fill_spares-clause-cause
returns-in_err-fill_spares-clause-cause g c is_err below = let risen = c.in_err-fill_spares.ensures.cause refl below in omega (arith, risen, c.close_spares.ensures.runs.time.disk_faults)

pub returns : goal.returns
returns g c =
    let law = c.spare_slots_are_not_seen.ensures in
    record {
      runs = let law = c.spare_slots_are_not_seen.ensures in both_any _ _ _ _ c.close_spares.ensures.slots c.close_spares.ensures.runs law.gates law.spares _ c.fill_spares.ensures.runs;
      slots = search rules;
      cache = search rules;
      closed = search rules;
      unseen = λ told are. (both_unseen _ _ _ _ c.close_spares.ensures.slots c.close_spares.ensures.runs law.gates law.spares _ c.fill_spares.ensures.runs c.in_ok-close_spares.ensures.are told are).1;
      laid = λ told laid.
          let done = both_unseen _ _ _ _ c.close_spares.ensures.slots c.close_spares.ensures.runs law.gates law.spares _ c.fill_spares.ensures.runs c.in_ok-close_spares.ensures.are told laid.slots in
          prepared_laid c.args.self.now c.close_spares.new.self _ _ c.close_spares.ensures.cache
          (subst (λ (l : Laid). (x : ℕ) (pair : Pair) → held l.cache x ≡ Some pair → x < l.slots.params.objects) c.self.view_is (λ x pair had. (c.self.invariant.cached.each x pair had).0)) done.0 done.1 laid;
      filled = λ told. c.in_ok-fill_spares.ensures.filled (c.close_spares.ensures.runs.time.files_told.0 told);
      settled = search rules;
      any_moment = both_moments _ _ _ _ c.close_spares.ensures.slots c.close_spares.ensures.runs law.gates law.spares _ c.fill_spares.ensures.runs c.in_ok-close_spares.ensures.are c.in_ok-close_spares.ensures.settled;
      cause = search rules;
    }
