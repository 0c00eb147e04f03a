-- The bytes of a new store.
use Rattle.std.proofs.Common.{zero, suc, [], refl, arith, inl}
use Rattle.std.proofs.lemmas.List.Elements.{All-nil}
use Rattle.disk_model.specs.declared.machine.FileNo.TheVariants.{Objects}
use Rattle.formats.specs.Objects.{AreSlotsClosed, form_in}
use Rattle.formats.specs.Log.{IsPayload}
use Rattle.log_blocks.specs.Creating.{IsNewLog}
use Rattle.stable_objects.specs.Making.{IsNewFile}
use Rattle.standing.specs.Worked.{small, new_objects, new_files}

-- each slot is closed
all_closed : AreSlotsClosed small new_objects
unfolding form_in
all_closed zero zero below two is_open = omega (arith, is_open)
all_closed zero (suc zero) below two is_open = omega (arith, is_open)
all_closed (suc zero) zero below two is_open = omega (arith, is_open)
all_closed (suc zero) (suc zero) below two is_open = omega (arith, is_open)
all_closed (suc (suc x)) s below two is_open = omega (arith, below)
all_closed x (suc (suc s)) below two is_open = omega (arith, two)

pub new_whole : IsNewFile small (new_files Objects)
unfolding form_in
new_whole = record {
  whole = record {
    begins = refl;
    params = refl;
    in_range = record { some = omega arith; objects = omega arith; low = omega arith; cap = omega arith; least = omega arith; limit = omega arith };
    in_form = record { older_objects = omega arith; older_cap = omega arith; no_fewer = omega arith; objects = omega arith; no_shorter = omega arith; cap = omega arith; more = λ set. set };
    whole = omega arith;
    slots = record {
      each = λ x s below two is_open. absurd (all_closed x s below two is_open);
      apart = λ x below first second. absurd (all_closed x 0 below (omega arith) first);
    };
  };
  closed = all_closed;
}

pub new_log : IsNewLog new_files
new_log = record {
  in_force = record { a_log = λ e. cc; other = inl (λ e. absurd (omega (arith, e))) };
  log = record {
    in_range = record { epoch_low = omega arith; epoch_high = omega arith; base_low = omega arith; base_high = omega arith; commands = omega arith };
    log = record { gate = 0; rest = []; split = refl; closed = λ e. absurd (omega (arith, e)) };
    whole = All-nil IsPayload;
  };
}
