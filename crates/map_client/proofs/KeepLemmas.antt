-- What the calls of upkeep do to a map, from what its commands make.
use Rattle.std.proofs.Common.{◌≡◌, ◌≤◌, ◌<◌, refl, ap, ◌∙◌, ℕ, Bool, true, false, None, Result, Ok, Err, List, ◌++◌, if◌then◌else◌, map, take}
use Rattle.std.specs.Prelude.{nat_lt, option_map}
use Rattle.std.proofs.lemmas.List.{take-map}
use Rattle.oper_core.specs.State.{State}
use Rattle.oper_core.specs.declared.bounds.Bounds.{Bounds}
use Rattle.formats.specs.Objects.{bounds_of}
use Rattle.formats.specs.declared.params.Params.{Params}
use Rattle.call_plans.specs.Laws.{after_all}
use Rattle.call_plans.specs.Plan.{Plan}
use Rattle.op_codec.specs.AllOps.{page}
use Rattle.page_ops.specs.declared.page_op.PageOp.{PageOp}
use Rattle.page_map.specs.Checks.{Met, check, met_on}
use Rattle.page_map.specs.Deletes.{tidy_plan}
use Rattle.page_map.specs.Map.{IsMap, Range}
use Rattle.page_map.specs.Plan.{Admits}
use Rattle.page_map.specs.Sets.{IsKept, Keeps}
use Rattle.page_map.specs.Sweeps.{Sweeps}
use Rattle.page_map.specs.declared.refusal.MapRefusal.{MapRefusal}
use Rattle.range_calls.specs.ComesLaws.{state_behind}
use Rattle.range_calls.specs.RoundLaws.{accepted_are_made}
use Rattle.range_calls.specs.Rounds.{tried, tried_all}
use Rattle.range_calls.specs.Store.{Command, meaning_in, state_of}
use Rattle.range_calls.specs.declared.call_err.CallErr.TheVariants.{Refused}
use Rattle.map_client.specs.Answers.{MapErr, told}
use Rattle.map_client.specs.Changing.{in_store}
use Rattle.map_client.specs.Checking.{check_told, counted, counts}
use Rattle.map_client.specs.Laws.{KeepsAll, SweepActs, TidyActs, swept}
use Rattle.map_client.specs.declared.call_refusal.CallRefusal.TheVariants.{Map, NoObject}
use Rattle.map_client.specs.declared.checked.Checked.{Checked}
use Rattle.map_client.proofs.CheckLemmas.{check_within}
use Rattle.map_client.proofs.OpenLemmas.{is_open}
use Rattle.map_client.proofs.SetLemmas.{accepted_pages, after_pages}
use Rattle.map_client.proofs.UpkeepLemmas.{open_sweep, open_tidy}

pub is_found : (b : Bounds) (range : Range) (s : State) → range.hi < b.objects → {met : Met} → check range s ≡ Ok met → check_told b range s ≡ Ok (counted met)
is_found b range s within is = check_within b range s within ∙ ap (λ (r : Result Met ℕ). told (counts r)) is

pub is_sound : (b : Bounds) (range : Range) (s : State) (checked : Checked) → ((met : Met) → check range s ≡ Ok met → (is : IsMap range.lo range.hi s) × (met_on is ≡ met)) → check_told b range s ≡ Ok checked
    → (is : IsMap range.lo range.hi s) × (counted (met_on is) ≡ checked)
is_sound b range s checked sound = by_range (nat_lt range.hi b.objects)
  where
    by_check : (r : Result Met ℕ) → check range s ≡ r → told (counts r) ≡ Ok checked → (is : IsMap range.lo range.hi s) × (counted (met_on is) ≡ checked)
    by_check (Ok met) is e = let found = sound met is in (found.0, ap counted found.1 ∙ (let same : counted met ≡ checked = cc e in same))
    by_check (Err bad) is e = cc

    by_range : (t : Bool) → (if t then told (counts (check range s)) else Err (Refused NoObject)) ≡ Ok checked → (is : IsMap range.lo range.hi s) × (counted (met_on is) ≡ checked)
    by_range true e = by_check (check range s) refl e
    by_range false e = cc

module _ (p : Params) (commands : List Command) (lo hi : ℕ) (is : IsKept (bounds_of p) lo hi (state_of p commands)) where
  abbrev s : State
  s = state_of p commands

  -- a plan that is whole, whose commands keep the map
  keeps_all : (planned : Plan PageOp MapRefusal) (comes : Plan Command MapErr) → comes ≡ tried p s (in_store planned) → planned.refusal ≡ None → Keeps (bounds_of p) lo hi s is planned.commands
      → KeepsAll p commands lo hi is planned comes
  keeps_all planned comes tries whole keeps =
      let ops : List PageOp = planned.commands in
      let all : comes ≡ record { commands = map page ops; refusal = None } =
      tries ∙ ap (λ r. tried_all p s (map page ops) (option_map Refused (option_map Map r))) whole ∙ accepted_are_made p s (map page ops) None (accepted_pages (bounds_of p) s ops keeps.accepted) in
      record {
        keeps = keeps;
        comes_is = all;
        moments = λ k.
            ap (λ (q : Plan Command MapErr). state_of p (commands ++ take k q.commands)) all
            ∙ state_behind p commands (take k (map page ops)) ∙ ap (after_all (meaning_in p) s) (take-map page k ops) ∙ after_pages (bounds_of p) s (take k ops);
      }

  pub tidy_acts : (key : List ℕ) → Admits (bounds_of p) hi → 1024 ≤ p.cap
      → ((tidy_plan (bounds_of p) lo hi key s).refusal ≡ None) × Keeps (bounds_of p) lo hi s is (tidy_plan (bounds_of p) lo hi key s).commands → TidyActs p commands lo hi is key
  tidy_acts key admits wide acts =
      keeps_all (tidy_plan (bounds_of p) lo hi key s) _ (open_tidy lo hi key p commands (is_open (bounds_of p) hi admits.objects admits.more wide)) acts.0 acts.1

  pub sweep_acts : Admits (bounds_of p) hi → 1024 ≤ p.cap → Sweeps (bounds_of p) lo hi s is (swept p commands lo hi is) → SweepActs p commands lo hi is
  sweep_acts admits wide acts = record {
    acts = acts;
    keeps_all = keeps_all (swept p commands lo hi is) _ (open_sweep lo hi p commands (is_open (bounds_of p) hi admits.objects admits.more wide)) acts.whole acts.keeps;
  }
