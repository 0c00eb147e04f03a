-- What the writes that make the objects file leave of it.
use Rattle.std.proofs.Common.{◌≡◌, ◌≢◌, ◌⊎◌, ◌<◌, ◌≤◌, ◌+◌, ◌-◌, ◌*◌, inl, inr, ℕ, true, false, List, [], ◌∷◌, length, get_or, drop, refl, sym, ◌∙◌, ap, subst, arith, length-drop}
use Rattle.std.proofs.lemmas.Bool.{cases_eq, cases_lt, cond-true, cond-false}
use Rattle.disk_model.specs.Disk.{Files, Disk, Runs, Stays, Same, In, Torn, HoldsAt, Any, IsSettled, IsSettledIn, LeavesOnly, written_over}
use Rattle.disk_model.specs.Moments.{runs_twice, runs_wider, runs_then_stays, stays_settled, settled_again, from_reads, first_call, goes_on}
use Rattle.disk_model.specs.declared.machine.FileNo.TheVariants.{Objects}
use Rattle.formats.specs.Bytes.{byte_at, number_at, IsClosedAt}
use Rattle.formats.specs.Objects.{IsInRange, IsInForm, AreSlotsClosed, first_form, second_form, form_in, params_at, params_in, layout_in, slot_place, last_slot}
use Rattle.formats.specs.declared.form.Form.{Form}
use Rattle.formats.specs.declared.layout.Layout.{Layout}
use Rattle.formats.specs.declared.params.Params.{Params}
use Rattle.stable_objects.specs.SlotGates.{slot_gate}
use Rattle.stable_objects.specs.Layouts.{fits_first, no_store, new_form, new_layout}
use Rattle.stable_objects.specs.GateLaws.{torn_keeps, keeps_twice}
use Rattle.stable_objects.specs.LayoutLaws.{form_same, params_at_same, new_is_form, new_in_form}
use Rattle.stable_objects.specs.Making.{KeepsGate, KeepsFront, HasClosedSlots, HasFields, IsClosedFile, IsNewFile, IsLaidOut, IsClosedOrWhole, opened}
use Rattle.stable_objects.specs.Replacing.{AgreesOutside}
use Rattle.stable_objects.proofs.Outside.{torn_agrees, held_agrees, byte_beside, number_stays}
use Rattle.stable_objects.proofs.Bytes.{written_long, byte_before, byte_after, byte_written, held_first, torn_first, byte_behind}

-- one write more after the gate
pub run_keeps : (old mid new : Disk) (at n : ℕ) → 1 ≤ at → Runs (In Objects KeepsGate) Same old mid → Runs (In Objects (Torn at n)) Same mid new → Runs (In Objects KeepsGate) Same old new
run_keeps old mid new at n le first second = runs_twice old mid new (In Objects KeepsGate)
    (λ a b c x y. record {
      changed = keeps_twice (a Objects) (b Objects) (c Objects) x.changed y.changed;
      others = λ other is_other. y.others other is_other ∙ x.others other is_other;
    })
    first
    (runs_wider mid new (In Objects (Torn at n)) (In Objects KeepsGate) (λ a b is. record { changed = torn_keeps at n (a Objects) (b Objects) le is.changed; others = is.others }) second)

-- a write from a place on keeps what stands before it
pub torn_front : (first at n : ℕ) (old new : List ℕ) → first ≤ at → Torn at n old new → KeepsFront first old new
torn_front first at n old new le torn =
    let agrees = torn_agrees at n old new torn in
    (agrees.no_shorter, λ j within less. agrees.before j within (omega (arith, less, le)))

pub front_twice : (first : ℕ) (a b c : List ℕ) → KeepsFront first a b → KeepsFront first b c → KeepsFront first a c
front_twice first a b c one two = (omega (arith, one.0, two.0), λ j within less. two.1 j (omega (arith, within, one.0)) less ∙ one.1 j within less)

pub run_front : (old mid new : Disk) (first at n : ℕ) → first ≤ at → Runs (In Objects (KeepsFront first)) Same old mid → Runs (In Objects (Torn at n)) Same mid new → Runs (In Objects (KeepsFront first)) Same old new
run_front old mid new first at n le one two = runs_twice old mid new (In Objects (KeepsFront first))
    (λ a b c x y. record {
      changed = front_twice first (a Objects) (b Objects) (c Objects) x.changed y.changed;
      others = λ other is_other. y.others other is_other ∙ x.others other is_other;
    })
    one
    (runs_wider mid new (In Objects (Torn at n)) (In Objects (KeepsFront first)) (λ a b is. record { changed = torn_front first at n (a Objects) (b Objects) le is.changed; others = is.others }) two)

-- and what stands before an earlier place
pub front_less : (old new : Disk) (first at : ℕ) → at ≤ first → Runs (In Objects (KeepsFront first)) Same old new → Runs (In Objects (KeepsFront at)) Same old new
front_less old new first at le run = runs_wider old new (In Objects (KeepsFront first)) (In Objects (KeepsFront at))
    (λ a b is. record { changed = (is.changed.0, λ j within less. is.changed.1 j within (omega (arith, less, le))); others = is.others }) run

-- and so the gate
pub front_keeps : (old new : Disk) (first : ℕ) → 1 ≤ first → Runs (In Objects (KeepsFront first)) Same old new → Runs (In Objects KeepsGate) Same old new
front_keeps old new first le run = runs_wider old new (In Objects (KeepsFront first)) (In Objects KeepsGate)
    (λ a b is. record { changed = λ some. (omega (arith, some, is.changed.0), is.changed.1 0 some (omega (arith, le))); others = is.others }) run

-- this place is within the file, and a gate there is closed
pub record IsClosedWithin (place : ℕ) (file : List ℕ) : Type 0 where
  pub within : place < length file
  pub closed : IsClosedAt place file

pub now_closed : (at : ℕ) (old : List ℕ) → IsClosedWithin at (written_over at (0 ∷ []) old)
now_closed at old = record {
  within = omega (arith, written_long at (0 ∷ []) old);
  closed = λ is_open. let byte = byte_written at 0 old in omega (arith, byte, is_open);
}

byte_stays : (at j : ℕ) (old : List ℕ) → j ≢ at → byte_at j (written_over at (0 ∷ []) old) ≡ byte_at j old
byte_stays at j old other = elim (cases_lt j at) [ inl less ↦ byte_before at (0 ∷ []) old j less | inr le ↦ byte_after at (0 ∷ []) old j (omega (arith, other, le)) ]

pub stays_closed : (at j : ℕ) (old : List ℕ) → IsClosedWithin j old → IsClosedWithin j (written_over at (0 ∷ []) old)
stays_closed at j old was = elim (cases_eq j at) [
  | inl same ↦ subst (λ (k : ℕ). IsClosedWithin k (written_over at (0 ∷ []) old)) (sym same) (now_closed at old)
  | inr other ↦ record {
    within = omega (arith, written_long at (0 ∷ []) old, was.within);
    closed = λ is_open. was.closed (sym (byte_stays at j old other) ∙ is_open);
  }
]

-- one slot more is closed
pub more_closed : (layout : Layout) (slot : ℕ) (old new : List ℕ) → ((k : ℕ) → k < slot → IsClosedWithin (slot_gate layout k) old) → HoldsAt (slot_gate layout slot) (0 ∷ []) old new
    → (k : ℕ) → k < slot + 1 → IsClosedWithin (slot_gate layout k) new
more_closed layout slot old new so_far holds k less =
    subst (λ (l : List ℕ). IsClosedWithin (slot_gate layout k) l) (sym holds) (elim (cases_eq k slot) [
      | inl same ↦ subst (λ (j : ℕ). IsClosedWithin (slot_gate layout j) (written_over (slot_gate layout slot) (0 ∷ []) old)) (sym same) (now_closed (slot_gate layout slot) old)
      | inr other ↦ stays_closed (slot_gate layout slot) (slot_gate layout k) old (so_far k (omega (arith, less, other)))
    ])

-- all of them are
pub all_closed : (layout : Layout) (file : List ℕ) → IsInRange layout.params → ((k : ℕ) → k < 2 * layout.params.objects → IsClosedWithin (slot_gate layout k) file) → HasClosedSlots layout file
all_closed layout file in_range closed = record {
  whole = (closed (2 * (layout.params.objects - 1) + 1) (omega (arith, in_range.some))).within;
  slots = λ x s below two. (closed (2 * x + s) (omega (arith, below, two))).closed;
}

-- and stay so over a write before them
pub closed_behind : (layout : Layout) (at : ℕ) (bytes old new : List ℕ) → at + length bytes ≤ layout.first → HoldsAt at bytes old new → HasClosedSlots layout old → HasClosedSlots layout new
closed_behind layout at bytes old new le holds closed =
    let agrees = held_agrees at bytes old new holds in
    record {
      whole = omega (arith, closed.whole, agrees.no_shorter);
      slots = λ x s below two is_open. closed.slots x s below two (sym (byte_beside at (length bytes) old new agrees (slot_place layout x s) (inr (omega (arith, le)))) ∙ is_open);
    }

-- another byte before the file's second one changes no LSN
gate_agrees : (old : List ℕ) → 0 < length old → AgreesOutside 0 1 old (1 ∷ drop 1 old)
gate_agrees old some = record { no_shorter = omega (arith, some, length-drop 1 old); before = λ j within less. absurd (omega (arith, less)); behind = refl }

-- nor its form
form_opened : (file : List ℕ) → 0 < length file → form_in (opened file) ≡ form_in file
form_opened file some =
    let agrees = gate_agrees file some in
    let number : (place : ℕ) → 1 ≤ place → number_at 4 place (opened file) ≡ number_at 4 place file = λ place le. number_stays 0 1 file (opened file) agrees place 4 (inr le) in
    form_same (opened file) file (byte_behind 1 file 8 (omega arith)) (number 9 (omega arith)) (number 13 (omega arith))

-- with the gate open, the whole file
pub now_open : (p : Params) (file : List ℕ) → IsInRange p → 0 < length file → HasFields p file → HasClosedSlots (new_layout p) file → IsNewFile p (opened file)
now_open p file in_range some fields closed =
    let agrees = gate_agrees file some in
    let form : form_in (opened file) ≡ new_form p = form_opened file some ∙ fields.form in
    let known = new_is_form p in
    let numbers = (new_form p).numbers in
    let at_numbers : params_at numbers (opened file) ≡ params_at numbers file =
    params_at_same numbers numbers (opened file) file (λ k place within. number_stays 0 1 file (opened file) agrees (numbers + place) k (inr (omega (arith, known.behind)))) in
    let params : params_in (opened file) ≡ p =
    ap (λ (f : Form). params_at f.numbers (opened file)) form ∙ at_numbers ∙ ap (λ (f : Form). params_at f.numbers file) (sym fields.form) ∙ fields.params in
    let layout : layout_in (opened file) ≡ new_layout p = λ i. record { params = params i; first = (form i).first } in
    let slots : AreSlotsClosed p (opened file) = λ x s below two is_open.
    closed.slots x s below two
    (sym (byte_behind 1 file (slot_place (new_layout p) x s) (omega (arith, known.header))) ∙ ap (λ (l : Layout). byte_at (slot_place l x s) (opened file)) (sym layout) ∙ is_open) in
    record {
      whole = record {
        begins = ap (λ (l : List ℕ). 1 ∷ l) fields.magic;
        params = params;
        in_range = in_range;
        in_form = subst (λ (f : Form). IsInForm f p) (sym form) (new_in_form p in_range);
        whole = subst (λ (l : Layout). last_slot l < length (opened file)) (sym layout) (omega (arith, length-drop 1 file, closed.whole));
        slots = record {
          each = λ x s below two is_open. absurd (slots x s below two is_open);
          apart = λ x below first second same. slots x 0 below (omega arith) first;
        };
      };
      closed = slots;
    }

pub laid_out : (p : Params) (file : List ℕ) → IsInRange p → HasFields p file → HasClosedSlots (new_layout p) file → IsLaidOut p file
laid_out p file in_range fields closed =
    let some : 0 < length file = omega (arith, closed.whole) in
    let new = now_open p file in_range some fields closed in
    let form : form_in (opened file) ≡ new_form p = form_opened file some ∙ fields.form in
    record { some = some; new = new; layout = λ i. record { params = new.whole.params i; first = (form i).first } }

-- where the slots of a new store begin
pub first_place : (p : Params) → fits_first p ≡ true → (new_layout p).first ≡ 32
first_place p fits = ap (λ (f : Form). f.first) (cond-true (fits_first p) first_form (second_form no_store) fits)

pub second_place : (p : Params) → fits_first p ≡ false → (new_layout p).first ≡ 64
second_place p large = ap (λ (f : Form). f.first) (cond-false (fits_first p) first_form (second_form no_store) large)

-- whatever the gate is
pub closed_or_whole : (p : Params) (old new : List ℕ) → IsLaidOut p old → Torn 0 1 old new → IsClosedAt 0 new ⊎ IsNewFile p new
closed_or_whole p old new laid torn =
    let is = torn_first old new laid.some torn in
    elim (cases_eq (get_or new 0 0) 1) [
      | inl is_open ↦ inr (subst (λ (l : List ℕ). IsNewFile p l) (sym (is ∙ ap (λ (b : ℕ). b ∷ drop 1 old) is_open)) laid.new)
      | inr closed ↦ inl closed
    ]

-- before the gate is written, a crash leaves it closed
pub leaves_closed : (old new : Disk) (p : Params) → old.tells_moments → IsSettled old → IsClosedFile (old.reads Objects) → Runs (In Objects KeepsGate) Same old new → LeavesOnly old new (IsClosedOrWhole old p)
leaves_closed old new p told settled closed run = first_call old new (IsClosedOrWhole old p) told run.time (λ c s left.
    let from = from_reads old new (In Objects KeepsGate) Same told settled run.crash c s left in
    let kept = from.0.changed closed.some in
    record { objects = inl (λ is_open. closed.closed (sym kept.1 ∙ is_open)); others = from.0.others; silent = from.1 })

-- while it is written, closed or the whole file
pub leaves_either : (old mid new : Disk) (p : Params) → old.tells_moments → LeavesOnly old mid (IsClosedOrWhole old p) → Runs (In Objects KeepsGate) Same old mid → IsSettled mid → IsLaidOut p (mid.reads Objects)
    → Runs (In Objects (Torn 0 1)) Same mid new → LeavesOnly old new (IsClosedOrWhole old p)
leaves_either old mid new p told leaves first settled laid second =
    let told_mid = first.time.moments_told.0 told in
    let files_told = first.begins.telling told in
    goes_on old mid new (IsClosedOrWhole old p) told_mid leaves second.time (λ c s left.
    let from = from_reads mid new (In Objects (Torn 0 1)) Same told_mid settled second.crash c s left in
    record {
      objects = closed_or_whole p (mid.reads Objects) (c Objects) laid from.0.changed;
      others = λ other is_other. from.0.others other is_other ∙ (first.reads files_told).others other is_other;
      silent = from.1 ∙ first.said files_told;
    })

-- both together
pub run_any : (old mid new : Disk) → Runs (In Objects KeepsGate) Same old mid → Runs (In Objects (Torn 0 1)) Same mid new → Runs (In Objects Any) Same old new
run_any old mid new first second = runs_twice old mid new (In Objects Any)
    (λ a b c x y. record { changed = tt; others = λ other is_other. y.others other is_other ∙ x.others other is_other })
    (wider old mid KeepsGate first)
    (wider mid new (Torn 0 1) second)
  where
    wider : (before after : Disk) (change : List ℕ → List ℕ → Type 0) → Runs (In Objects change) Same before after → Runs (In Objects Any) Same before after
    wider before after change run = runs_wider before after (In Objects change) (In Objects Any) (λ a b is. record { changed = tt; others = is.others }) run

pub keeps_any : (old new : Disk) → Runs (In Objects KeepsGate) Same old new → Runs (In Objects Any) Same old new
keeps_any old new run = runs_wider old new (In Objects KeepsGate) (In Objects Any) (λ a b is. record { changed = tt; others = is.others }) run

-- a sync after the writes settles all again
pub keeps_settled : (old mid new : Disk) → IsSettled old → Runs (In Objects KeepsGate) Same old mid → Stays mid new → IsSettledIn Objects new → IsSettled new
keeps_settled old mid new settled first second here =
    let run = runs_then_stays old mid new (In Objects KeepsGate) first second in
    settled_again old new Objects KeepsGate KeepsGate run.ends settled run.time run.crash (λ told. run.reads (run.begins.telling told)) here

-- a settled machine stays so over calls that change nothing
pub all_stay_settled : (old new : Disk) → Stays old new → IsSettled old → IsSettled new
all_stay_settled old new stays settled file = stays_settled old new file stays (settled file)

-- no call of a kind that keeps what stands before a place
pub front_none : (first : ℕ) (a : Files) → In Objects (KeepsFront first) a a
front_none first a = record { changed = (omega arith, λ j within less. refl); others = λ other is_other. refl }

-- a closed gate was written
pub closed_after : (old new : List ℕ) → HoldsAt 0 (0 ∷ []) old new → IsClosedFile new
closed_after old new holds = subst IsClosedFile (sym (held_first 0 old new holds)) (record { some = omega arith; closed = λ is_open. cc })
