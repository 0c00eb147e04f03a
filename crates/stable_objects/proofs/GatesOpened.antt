-- Gates of spare slots are opened one after the other, and synced together.
use Rattle.std.proofs.Common.{◌≡◌, ◌≢◌, ◌⊎◌, inl, inr, ◌<◌, ◌+◌, ◌*◌, ℕ, zero, suc, List, [], ◌∷◌, length, take, refl, sym, ◌∙◌, subst, arith}
use Rattle.std.specs.Prelude.{◌==◌, IsTrue, slice_index}
use Rattle.std.proofs.lemmas.Bool.{both_ways, cases_eq, cases_lt, eq-eqb, eqb-true, or_cases, or_left, or_right}
use Rattle.disk_model.specs.Disk.{Disk, Files, In, IsDisk, IsSettled, LeavesOnly, Runs, Same, Torn}
use Rattle.disk_model.specs.Moments.{first_call, from_reads, runs_none, runs_twice, runs_wider}
use Rattle.disk_model.specs.declared.machine.FileNo.TheVariants.{Objects}
use Rattle.oper_core.specs.Cell.{Cell}
use Rattle.oper_core.specs.State.{is_among}
use Rattle.formats.specs.Bytes.{IsOpenAt}
use Rattle.formats.specs.Objects.{last_slot}
use Rattle.formats.specs.declared.layout.Layout.{Layout}
use Rattle.stable_objects.specs.Ready.{AreOldOrNewSince, AreOpened, AreReady, IsGateOf, KeepsButGatesOf}
use Rattle.stable_objects.specs.Replacing.{spare_in}
use Rattle.stable_objects.specs.SlotLaws.{layout_of_file}
use Rattle.stable_objects.specs.SlotsView.{AreOf, SlotsView, layout_of}
use Rattle.stable_objects.specs.SpareLaws.{keeps_none, keeps_twice}
use Rattle.stable_objects.specs.Spares.{spare_place}
use Rattle.stable_objects.proofs.Opened.{old_or_new}
use Rattle.stable_objects.proofs.Outside.{byte_beside, torn_agrees}
use Rattle.stable_objects.proofs.Places.{place_within, places_apart}
use Rattle.stable_objects.proofs.Replaced.{spare}

-- what stands at a place is in the list
pub among_at : (xs : List ℕ) (k : ℕ) → k < length xs → IsTrue (is_among (slice_index xs k) xs)
among_at [] k lt = absurd (omega arith)
among_at (y ∷ ys) zero lt = or_left (y == y) (is_among y ys) (eq-eqb y y refl)
among_at (y ∷ ys) (suc k) lt = or_right (slice_index ys k == y) (is_among (slice_index ys k) ys) (among_at ys k (omega arith))

among_suc : (x i : ℕ) (xs : List ℕ) → i < length xs → IsTrue (is_among x (take (suc i) xs)) → IsTrue (is_among x (take i xs)) ⊎ (x ≡ slice_index xs i)
among_suc x i [] lt there = absurd (omega (arith, lt))
among_suc x zero (z ∷ zs) lt there = elim (or_cases (x == z) (is_among x (take zero zs)) there) [ inl here ↦ inr (eqb-true x z here) | inr none ↦ absurd (both_ways _ refl none) ]
among_suc x (suc i) (z ∷ zs) lt there = elim (or_cases (x == z) (is_among x (take (suc i) zs)) there) [
  | inl here ↦ inl (or_left (x == z) (is_among x (take i zs)) here)
  | inr more ↦ elim (among_suc x i zs (omega (arith, lt)) more) [ inl was ↦ inl (or_right (x == z) (is_among x (take i zs)) was) | inr next ↦ inr next ]
]

-- one of the first i + 1 is one of the first i, or the next
pub among_more : (x i : ℕ) (xs : List ℕ) → i < length xs → IsTrue (is_among x (take (i + 1) xs)) → IsTrue (is_among x (take i xs)) ⊎ (x ≡ slice_index xs i)
among_more x i xs lt there = let on : i + 1 ≡ suc i = omega arith in among_suc x i xs lt (subst (λ (n : ℕ). IsTrue (is_among x (take n xs))) on there)

module _ (slots : SlotsView) (objects : List ℕ) where
  gates_twice : (a b c : Files) → In Objects (KeepsButGatesOf slots objects) a b → In Objects (KeepsButGatesOf slots objects) b c → In Objects (KeepsButGatesOf slots objects) a c
  gates_twice a b c x y = record {
    changed = keeps_twice (layout_of slots) (IsGateOf slots objects) (a Objects) (b Objects) (c Objects) x.changed y.changed;
    others = λ other is_other. y.others other is_other ∙ x.others other is_other;
  }

  -- the gate of one of these is written
  module _ (x : ℕ) (below : x < slots.params.objects) (among : IsTrue (is_among x objects)) where
    torn_open : (old new : List ℕ) → Torn (spare_place slots x) 1 old new → KeepsButGatesOf slots objects old new
    torn_open old new torn = record {
      no_shorter = torn.no_shorter;
      same = λ reach j none.
          let at = spare_place slots x in
          let within = place_within (layout_of slots) old x (spare_in slots x) reach below (spare slots x).two in
          byte_beside at 1 old new (torn_agrees at 1 old new torn) j (elim (cases_lt j at) [
            | inl less ↦ inl (less, omega (arith, less, within))
            | inr le ↦ elim (cases_eq j at) [
              | inl same ↦ absurd (none (record { object = x; among = among; below = below; here = same }))
              | inr other ↦ inr (omega (arith, le, other))
            ]
          ]);
    }

    pub open_run : (old new : Disk) → Runs (In Objects (Torn (spare_place slots x) 1)) Same old new → Runs (In Objects (KeepsButGatesOf slots objects)) Same old new
    open_run old new run = runs_wider old new (In Objects (Torn (spare_place slots x) 1)) (In Objects (KeepsButGatesOf slots objects)) (λ a b is. record { changed = torn_open (a Objects) (b Objects) is.changed; others = is.others }) run

    -- and that of another object stays open
    stays_open : (y : ℕ) → y < slots.params.objects → y ≢ x → (old new : List ℕ) → last_slot (layout_of slots) < length old → Torn (spare_place slots x) 1 old new → IsOpenAt (spare_place slots y) old → IsOpenAt (spare_place slots y) new
    stays_open y there differs old new reach torn is_open =
        let one = (spare slots x).two in
        let two = (spare slots y).two in
        let within = place_within (layout_of slots) old y (spare_in slots y) reach there two in
        let apart : 2 * y + spare_in slots y ≢ 2 * x + spare_in slots x = λ same. differs (omega (arith, same, one, two)) in
        byte_beside (spare_place slots x) 1 old new (torn_agrees (spare_place slots x) 1 old new torn) (spare_place slots y) (elim (places_apart (layout_of slots) x (spare_in slots x) y (spare_in slots y) apart) [
          | inl before ↦ inl (omega (arith, before), within)
          | inr behind ↦ inr (omega (arith, behind))
        ]) ∙ is_open

  -- so far these of them were opened
  pub record HaveOpened (done : List ℕ) (old now : Disk) : Type 0 where
    pub runs : Runs (In Objects (KeepsButGatesOf slots objects)) Same old now
    pub opened : old.tells_files → last_slot (layout_of slots) < length (old.reads Objects) → AreOpened slots done (now.reads Objects)

  pub opened_none : (d : Disk) → IsDisk d → HaveOpened [] d d
  opened_none d lawful = record {
    runs = runs_none d (In Objects (KeepsButGatesOf slots objects)) (λ files. record { changed = keeps_none (layout_of slots) (IsGateOf slots objects) (files Objects); others = λ other ne. refl }) lawful;
    opened = λ told reach x among. absurd (both_ways _ refl among);
  }

  pub run_on : (old mid new : Disk) → Runs (In Objects (KeepsButGatesOf slots objects)) Same old mid → Runs (In Objects (KeepsButGatesOf slots objects)) Same mid new → Runs (In Objects (KeepsButGatesOf slots objects)) Same old new
  run_on old mid new first second = runs_twice old mid new (In Objects (KeepsButGatesOf slots objects)) gates_twice first second

  -- and one more
  pub opened_more : (all : (k : ℕ) → k < length objects → slice_index objects k < slots.params.objects) → (i : ℕ) → i < length objects → (old mid new : Disk) → HaveOpened (take i objects) old mid
      → Runs (In Objects (Torn (spare_place slots (slice_index objects i)) 1)) Same mid new → (mid.tells_files → IsOpenAt (spare_place slots (slice_index objects i)) (new.reads Objects)) → ((x : ℕ) → IsTrue (is_among x objects) → x < slots.params.objects)
      → ((x : ℕ) → IsTrue (is_among x (take i objects)) → IsTrue (is_among x objects)) → HaveOpened (take (i + 1) objects) old new
  opened_more all i lt old mid new was run is_open below within =
      let x = slice_index objects i in
      record {
        runs = run_on old mid new was.runs (open_run x (all i lt) (among_at objects i lt) mid new run);
        opened = λ told reach y among. elim (cases_eq y x) [
          | inl here ↦ subst (λ (z : ℕ). IsOpenAt (spare_place slots z) (new.reads Objects)) (sym here) (is_open (was.runs.time.files_told.0 told))
          | inr differs ↦ elim (among_more y i objects lt among) [
            | inr same ↦ absurd (differs same)
            | inl before ↦
                let longer = (was.runs.reads told).changed.no_shorter in
                stays_open x (all i lt) (among_at objects i lt) y (below y (within y before)) differs (mid.reads Objects) (new.reads Objects) (omega (arith, reach, longer)) (run.reads (was.runs.time.files_told.0 told)).changed (was.opened told reach y before)
          ]
        ];
      }

  -- at any moment of it
  pub gates_moments : (pairs : ℕ → Cell) (old new : Disk) → Runs (In Objects (KeepsButGatesOf slots objects)) Same old new → old.tells_moments → IsSettled old → AreOf slots (old.reads Objects) → AreReady slots (old.reads Objects) objects pairs
      → LeavesOnly old new (AreOldOrNewSince old slots.params objects pairs)
  gates_moments pairs old new run told settled are ready = first_call old new (AreOldOrNewSince old slots.params objects pairs) told run.time (λ files said left.
      let from = from_reads old new (In Objects (KeepsButGatesOf slots objects)) Same told settled run.crash files said left in
      record { cells = old_or_new slots objects pairs (old.reads Objects) (files Objects) are ready from.0.changed; other_files = from.0.others; silent = from.1 })

-- the file of slots has all gates
pub reaches : (slots : SlotsView) (file : List ℕ) → AreOf slots file → last_slot (layout_of slots) < length file
reaches slots file are = subst (λ (l : Layout). last_slot l < length file) (sym (layout_of_file slots file are)) are.whole.whole

-- what is in a front of a list is in the list
pub among_front : (x i : ℕ) (xs : List ℕ) → IsTrue (is_among x (take i xs)) → IsTrue (is_among x xs)
among_front x zero xs there = absurd (both_ways _ refl there)
among_front x (suc i) [] there = there
among_front x (suc i) (z ∷ zs) there = elim (or_cases (x == z) (is_among x (take i zs)) there) [ inl here ↦ or_left (x == z) (is_among x zs) here | inr more ↦ or_right (x == z) (is_among x zs) (among_front x i zs more) ]

-- what holds at each place holds of what is in the list
pub among_all : (P : ℕ → Type 0) (xs : List ℕ) → ((k : ℕ) → k < length xs → P (slice_index xs k)) → (x : ℕ) → IsTrue (is_among x xs) → P x
among_all P [] all x there = absurd (both_ways _ refl there)
among_all P (z ∷ zs) all x there = elim (or_cases (x == z) (is_among x zs) there) [
  | inl here ↦ subst P (sym (eqb-true x z here)) (all zero (omega arith))
  | inr more ↦ among_all P zs (λ k lt. all (suc k) (omega (arith, lt))) x more
]
