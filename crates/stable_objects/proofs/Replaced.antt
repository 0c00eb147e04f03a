-- The steps of a replacement, each of them from a settled machine.
use Rattle.std.proofs.Common.{◌≡◌, ◌≢◌, inl, inr, ⊎_elim, ◌<◌, ◌≤◌, ◌+◌, ◌-◌, ◌*◌, ◌^◌, ℕ, Bool, true, false, if◌then◌else◌, nat_lt, zero, suc, List, length, set, get_or, refl, sym, ◌∙◌, ap, subst, arith}
use Rattle.std.proofs.lemmas.Bool.{cases_eq, ltb-true, ltb-false, lt-ltb, le-ltb}
use Rattle.std.proofs.lemmas.List.{get_or-set_other, get_or_default, length-set}
use Rattle.std.proofs.lemmas.Grind.{get_or-set_at}
use Rattle.disk_model.specs.Disk.{Files, Disk, Runs, Stays, Same, In, Torn, IsSettled, LeavesOnly}
use Rattle.disk_model.specs.Moments.{from_reads, first_call, runs_on, weaker}
use Rattle.disk_model.specs.declared.machine.FileNo.TheVariants.{Objects}
use Rattle.formats.specs.Bytes.{byte_at, IsOpenAt, IsClosedAt}
use Rattle.oper_core.specs.Cell.{Cell}
use Rattle.formats.specs.Objects.{IsWholeSlot, slot_place, layout_in, place_in, open_lsn, cell_of}
use Rattle.formats.specs.declared.layout.Layout.{Layout}
use Rattle.formats.specs.declared.params.Params.{Params}
use Rattle.stable_objects.specs.SlotsView.{SlotsView, AreOf, AreHeads, layout_of, place_of, head, holder_in, lsn_in, length_in}
use Rattle.stable_objects.specs.SlotLaws.{one_of_two, place_of_file}
use Rattle.stable_objects.specs.SlotGates.{slot_gate}
use Rattle.stable_objects.specs.Replacing.{AgreesOutside, IsFilled, IsPut, IsHalfPut, IsOldOrNew, IsRenewed, IsReplaced, spare_in}
use Rattle.stable_objects.proofs.Outside.{torn_agrees, agrees_wider, agrees_twice, agrees_same}
use Rattle.stable_objects.proofs.Places.{place_within}
use Rattle.stable_objects.proofs.Cells.{whole_by, open_cell, closed_where_none, open_where_some, less_where_open}
use Rattle.stable_objects.proofs.Changed.{IsLower, kept, renewed, closed_lower, torn_lower, stands, each_stays}

-- of two LSNs that of the spare slot is no greater, and the other is the object's
pub record IsSpare (slots : SlotsView) (x s : ℕ) : Type 0 where
  pub two : s < 2
  pub lower : head slots x s ≤ head slots x (1 - s)
  pub other : head slots x (1 - s) ≤ lsn_in slots x

spare_of : (slots : SlotsView) (x : ℕ) (b c : Bool) → nat_lt (head slots x 1) (head slots x 0) ≡ b → nat_lt (head slots x 0) (head slots x 1) ≡ c
    → ((if b then 1 else 0) < 2) × (head slots x (if b then 1 else 0) ≤ head slots x (1 - (if b then 1 else 0))) × (head slots x (1 - (if b then 1 else 0)) ≤ head slots x (if c then 1 else 0))
spare_of slots x true true first second = let less = ltb-true (head slots x 1) (head slots x 0) first in let more = ltb-true (head slots x 0) (head slots x 1) second in absurd (omega (arith, less, more))
spare_of slots x true false first second = let less = ltb-true (head slots x 1) (head slots x 0) first in (omega arith, omega (arith, less), omega arith)
spare_of slots x false true first second = let less = ltb-true (head slots x 0) (head slots x 1) second in (omega arith, omega (arith, less), omega arith)
spare_of slots x false false first second =
    let le = ltb-false (head slots x 1) (head slots x 0) first in let more = ltb-false (head slots x 0) (head slots x 1) second in (omega arith, omega (arith, le), omega (arith, more))

pub spare : (slots : SlotsView) (x : ℕ) → IsSpare slots x (spare_in slots x)
spare slots x =
    let found = spare_of slots x (nat_lt (head slots x 1) (head slots x 0)) (nat_lt (head slots x 0) (head slots x 1)) refl refl in
    record { two = found.0; lower = found.1; other = found.2 }

-- what is replaced, in which slot, by what
pub record IsReplacing (slots : SlotsView) (x s lsn : ℕ) (value : List ℕ) : Type 0 where
  pub below : x < slots.params.objects
  pub spare : IsSpare slots x s
  pub later : lsn_in slots x < lsn
  pub is_lsn : lsn < 2 ^ 62
  pub short : length value ≤ slots.params.cap

module _ (slots : SlotsView) (x s lsn : ℕ) (value : List ℕ) (is : IsReplacing slots x s lsn value) (old : Disk) (of : AreOf slots (old.reads Objects)) where
  abbrev p : Params
  p = slots.params

  abbrev place : ℕ
  place = place_in (old.reads Objects) x s

  abbrev other_lsn : ℕ
  other_lsn = open_lsn (place_in (old.reads Objects) x (1 - s)) (old.reads Objects)

  abbrev P : Files → List ℕ → Type 0
  P = IsOldOrNew old slots.params x (record { lsn = lsn; value = value })

  here_lsn : head slots x s ≡ open_lsn place (old.reads Objects)
  here_lsn = of.heads x s is.below is.spare.two

  there_lsn : head slots x (1 - s) ≡ other_lsn
  there_lsn = of.heads x (1 - s) is.below (omega arith)

  no_greater : open_lsn place (old.reads Objects) ≤ other_lsn
  no_greater = omega (arith, here_lsn, there_lsn, is.spare.lower)

  slot : IsOpenAt place (old.reads Objects) → IsWholeSlot p.cap place (old.reads Objects)
  slot = of.whole.slots.each x s is.below is.spare.two

  pub within : place < length (old.reads Objects)
  within = place_within (layout_in (old.reads Objects)) (old.reads Objects) x s of.whole.whole (omega (arith, is.below, ap (λ (q : Params). q.objects) of.whole.params)) is.spare.two

  pub closed_cell_where_none : head slots x s ≡ 0 → IsClosedAt place (old.reads Objects)
  closed_cell_where_none none = closed_where_none p.cap place (old.reads Objects) slot (sym here_lsn ∙ none)

  keeps : (c : Files) (said : List ℕ) → AgreesOutside place (13 + p.cap) (old.reads Objects) (c Objects) → IsLower p.cap place other_lsn (c Objects) → ((other : _) → other ≢ Objects → c other ≡ old.reads other) → said ≡ old.said → P c said
  keeps c said agrees lower others silent =
      let has = kept p x s (old.reads Objects) (c Objects) of.whole is.below is.spare.two agrees no_greater lower in
      record { whole = has.whole; held = inl has.held; others = has.others; other_files = others; silent = silent }

  renews : (c : Files) (said : List ℕ) → AgreesOutside place (13 + p.cap) (old.reads Objects) (c Objects) → IsOpenAt place (c Objects) → IsFilled place lsn value (c Objects) → ((other : _) → other ≢ Objects → c other ≡ old.reads other) → said ≡ old.said → P c said
  renews c said agrees is_open filled others silent =
      let has = renewed p x s (old.reads Objects) (c Objects) of.whole is.below is.spare.two agrees lsn value (omega (arith, there_lsn, is.spare.other, is.later)) is.is_lsn is.short is_open filled in
      record { whole = has.whole; held = inr has.held; others = has.others; other_files = others; silent = silent }

  torn_here : (a b : List ℕ) → Torn place 1 a b → AgreesOutside place (13 + p.cap) a b
  torn_here a b torn = agrees_wider place 1 place (13 + p.cap) a b (omega arith) (omega arith) (torn_agrees place 1 a b torn)

  -- while the slot is closed
  pub leaves_closing : (mid : Disk) → old.tells_moments → IsSettled old → Runs (In Objects (Torn place 1)) Same old mid → (head slots x s ≡ 0 → Stays old mid) → LeavesOnly old mid P
  leaves_closing mid told settled run idle = first_call old mid P told run.time (λ c said left. elim (cases_eq (head slots x s) 0) [
    | inl none ↦
        let from = from_reads old mid Same Same told settled (idle none).crash c said left in
        let same : c ≡ old.reads = from.0 in
        let same_file : c Objects ≡ old.reads Objects = ap (λ (f : Files). f Objects) same in
        keeps c said (agrees_same place (13 + p.cap) (old.reads Objects) (c Objects) same_file)
        (closed_lower p.cap place other_lsn (c Objects) (subst (λ (l : List ℕ). IsClosedAt place l) (sym same_file) (closed_cell_where_none none)))
        (λ other is_other. ap (λ (f : Files). f other) same) from.1
    | inr some ↦
        let from = from_reads old mid (In Objects (Torn place 1)) Same told settled run.crash c said left in
        let there : open_lsn place (old.reads Objects) ≢ 0 = λ none. some (here_lsn ∙ none) in
        let is_open = open_where_some place (old.reads Objects) there in
        let less = less_where_open (layout_in (old.reads Objects)) p x (old.reads Objects) (whole_by p (old.reads Objects) of.whole.slots) is.below s is.spare.two no_greater there in
        let lsn_here = ap (λ (cell : Cell). cell.lsn) (open_cell place (old.reads Objects) is_open) in
        keeps c said (torn_here (old.reads Objects) (c Objects) from.0.changed)
        (torn_lower p.cap place other_lsn (old.reads Objects) (c Objects) (torn_agrees place 1 (old.reads Objects) (c Objects) from.0.changed) (omega (arith, within)) (slot is_open) (omega (arith, less, lsn_here)))
        from.0.others from.1
  ])

  put_here : (a b : List ℕ) → AgreesOutside place (13 + length value) a b → AgreesOutside place (13 + p.cap) a b
  put_here a b agrees = agrees_wider place (13 + length value) place (13 + p.cap) a b (omega arith) (omega (arith, is.short)) agrees

  -- and then filled
  pub leaves_putting : (mid new : Disk) → old.tells_files → LeavesOnly old mid P → Runs (In Objects (Torn place 1)) Same old mid → LeavesOnly mid new (IsHalfPut mid place lsn value) → LeavesOnly old new P
  leaves_putting mid new told so_far first put = runs_on old mid new P so_far (weaker mid new (IsHalfPut mid place lsn value) P put (λ c said half.
      let agrees = agrees_twice place (13 + p.cap) (old.reads Objects) (mid.reads Objects) (c Objects) (torn_here (old.reads Objects) (mid.reads Objects) (first.reads told).changed) (put_here (mid.reads Objects) (c Objects) half.agrees) in
      let others : (other : _) → other ≢ Objects → c other ≡ old.reads other = λ other is_other. half.other_files other is_other ∙ (first.reads told).others other is_other in
      let silent = half.silent ∙ first.said told in
      ⊎_elim
      (λ closed. keeps c said agrees (closed_lower p.cap place other_lsn (c Objects) closed) others silent)
      (λ filled. elim (cases_eq (byte_at place (c Objects)) 1) [
        | inl is_open ↦ renews c said agrees is_open filled others silent
        | inr closed ↦ keeps c said agrees (closed_lower p.cap place other_lsn (c Objects) closed) others silent
      ])
      half.slot))

  -- the LSNs and the lengths with the new ones
  abbrev after : SlotsView
  after = record { params = slots.params; first = slots.first; heads = set (set slots.heads (2 * x + s) 0) (2 * x + s) lsn; lengths = set slots.lengths x (length value) }

  -- once it is done
  pub replaced : (mid new : Disk) → old.tells_files → 2 * x + s < length slots.heads → x < length slots.lengths → Runs (In Objects (Torn place 1)) Same old mid → IsPut place lsn value (mid.reads Objects) (new.reads Objects)
      → AreOf after (new.reads Objects) × IsReplaced slots.params x (record { lsn = lsn; value = value }) (old.reads Objects) (new.reads Objects)
  replaced mid new told room long first put =
      let agrees = agrees_twice place (13 + p.cap) (old.reads Objects) (mid.reads Objects) (new.reads Objects) (torn_here (old.reads Objects) (mid.reads Objects) (first.reads told).changed) (put_here (mid.reads Objects) (new.reads Objects) put.agrees) in
      let has = renewed p x s (old.reads Objects) (new.reads Objects) of.whole is.below is.spare.two agrees lsn value (omega (arith, there_lsn, is.spare.other, is.later)) is.is_lsn is.short put.opened put.filled in
      let emptied = set slots.heads (2 * x + s) 0 in (
        record {
          whole = has.whole;
          first = of.first ∙ ap (λ (l : Layout). l.first) (sym (stands p x s (old.reads Objects) (new.reads Objects) of.whole is.below is.spare.two agrees));
          heads = λ y t below_y two_t. elim (cases_eq (2 * y + t) (2 * x + s)) [
            | inl same ↦
                let places : place_in (new.reads Objects) y t ≡ place =
                ap (λ (l : Layout). slot_place l y t) (stands p x s (old.reads Objects) (new.reads Objects) of.whole is.below is.spare.two agrees) ∙ ap (λ (k : ℕ). slot_gate (layout_in (old.reads Objects)) k) same in
                get_or-set_at emptied (2 * x + s) (2 * y + t) lsn 0 same (omega (arith, length-set slots.heads (2 * x + s) 0, room))
                ∙ sym put.filled.is_lsn
                ∙ sym (ap (λ (cell : Cell). cell.lsn) (open_cell place (new.reads Objects) put.opened))
                ∙ ap (λ (q : ℕ). open_lsn q (new.reads Objects)) (sym places)
            | inr other ↦
                get_or-set_other emptied (2 * x + s) (2 * y + t) lsn 0 other
                ∙ get_or-set_other slots.heads (2 * x + s) (2 * y + t) 0 0 other
                ∙ of.heads y t below_y two_t
                ∙ sym (ap (λ (cell : Cell). cell.lsn) (each_stays p x s (old.reads Objects) (new.reads Objects) of.whole is.below is.spare.two agrees y t below_y two_t other).cell)
                ∙ ap (λ (l : Layout). open_lsn (slot_place l y t) (new.reads Objects)) (sym (stands p x s (old.reads Objects) (new.reads Objects) of.whole is.below is.spare.two agrees))
          ];
          lengths = λ y below_y. elim (cases_eq y x) [
            | inl same ↦ get_or-set_at slots.lengths x y (length value) 0 same long ∙ ap (λ (c : Cell). length c.value) (sym (ap (λ (k : ℕ). cell_of k (new.reads Objects)) same ∙ has.held))
            | inr other ↦ get_or-set_other slots.lengths x y (length value) 0 other ∙ of.lengths y below_y ∙ ap (λ (c : Cell). length c.value) (sym (has.others y below_y other))
          ];
        },
        record { held = has.held; others = has.others },
      )

-- an object has the greater of its two LSNs
pub greater_lsn : (slots : SlotsView) (x s lsn : ℕ) → s < 2 → head slots x s ≡ lsn → head slots x (1 - s) < lsn → lsn_in slots x ≡ lsn
greater_lsn slots x zero lsn two here less =
    let held : nat_lt (head slots x 0) (head slots x 1) ≡ false = le-ltb (head slots x 0) (head slots x 1) (omega (arith, here, less)) in
    ap (λ (b : Bool). head slots x (if b then 1 else 0)) held ∙ here
greater_lsn slots x (suc zero) lsn two here less =
    let held : nat_lt (head slots x 0) (head slots x 1) ≡ true = lt-ltb (head slots x 0) (head slots x 1) (omega (arith, here, less)) in
    ap (λ (b : Bool). head slots x (if b then 1 else 0)) held ∙ here
greater_lsn slots x (suc (suc s)) lsn two here less = absurd (omega (arith, two))

-- the spare slot has an LSN among those of all slots
pub slot_room : (inside slots : SlotsView) (x slot : ℕ) → inside ≡ slots → AreHeads (layout_of inside) inside.heads inside.lengths → x < slots.params.objects → slot ≡ 2 * x + spare_in slots x → slot < length inside.heads
slot_room inside slots x slot same heads below slot_is =
    let count = subst (λ (w : SlotsView). length w.heads ≡ 2 * w.params.objects) same heads.count in
    let long = ap (λ (w : SlotsView). length w.heads) same in
    let found = (spare slots x).two in
    omega (arith, count, long, found, slot_is, below)

-- the same of a call that counts slots through the file, and knows its slots from inside
module _ (inside slots : SlotsView) (x slot at found lsn : ℕ) (value : List ℕ) (same : inside ≡ slots) (heads : AreHeads (layout_of inside) inside.heads inside.lengths) (below : x < slots.params.objects) (later : lsn_in slots x < lsn)
    (is_lsn : lsn < 2 ^ 62) (short : length value ≤ slots.params.cap) (slot_is : slot ≡ 2 * x + spare_in slots x) (at_is : at ≡ slot_gate (layout_of inside) slot) (found_is : found ≡ get_or inside.heads slot found)
    (old mid : Disk) (first : Runs (In Objects (Torn at 1)) Same old mid) (idle : found ≡ 0 → Stays old mid) where
  replacing : IsReplacing slots x (spare_in slots x) lsn value
  replacing = record { below = below; spare = spare slots x; later = later; is_lsn = is_lsn; short = short }

  spot_is : AreOf slots (old.reads Objects) → at ≡ place_in (old.reads Objects) x (spare_in slots x)
  spot_is of =
      at_is
      ∙ ap (λ (k : ℕ). slot_gate (layout_of inside) k) slot_is
      ∙ ap (λ (w : SlotsView). place_of w x (spare_in slots x)) same
      ∙ place_of_file slots (old.reads Objects) x (spare_in slots x) of

  head_is : found ≡ head slots x (spare_in slots x)
  head_is =
      found_is
      ∙ get_or_default inside.heads slot found 0 (slot_room inside slots x slot same heads below slot_is)
      ∙ ap (λ (k : ℕ). get_or inside.heads k 0) slot_is
      ∙ ap (λ (w : SlotsView). get_or w.heads (2 * x + spare_in slots x) 0) same

  closing : AreOf slots (old.reads Objects) → Runs (In Objects (Torn (place_in (old.reads Objects) x (spare_in slots x)) 1)) Same old mid
  closing of = subst (λ (q : ℕ). Runs (In Objects (Torn q 1)) Same old mid) (spot_is of) first

  pub closing_moments : old.tells_moments → IsSettled old → AreOf slots (old.reads Objects) → LeavesOnly old mid (IsOldOrNew old slots.params x (record { lsn = lsn; value = value }))
  closing_moments told settled of = leaves_closing slots x (spare_in slots x) lsn value replacing old of mid told settled (closing of) (λ none. idle (head_is ∙ none))

  pub putting_moments : (new : Disk) → (old.tells_files → (found ≡ 0 → IsClosedAt at (old.reads Objects)) → IsClosedAt at (mid.reads Objects)) → (IsSettled old → IsSettled mid)
      → (mid.tells_moments → IsSettled mid → at < length (mid.reads Objects) → IsClosedAt at (mid.reads Objects) → LeavesOnly mid new (IsHalfPut mid at lsn value))
      → old.tells_moments → IsSettled old → AreOf slots (old.reads Objects) → LeavesOnly old new (IsOldOrNew old slots.params x (record { lsn = lsn; value = value }))
  putting_moments new closes settles put told settled of =
      let files_told = first.begins.telling told in
      let long = (first.reads files_told).changed.no_shorter in
      let fits = within slots x (spare_in slots x) lsn value replacing old of in
      let closed = closes files_told (λ none. subst (λ (q : ℕ). IsClosedAt q (old.reads Objects)) (sym (spot_is of)) (closed_cell_where_none slots x (spare_in slots x) lsn value replacing old of (sym head_is ∙ none))) in
      let half = put (first.time.moments_told.0 told) (settles settled) (omega (arith, fits, long, spot_is of)) closed in
      leaves_putting slots x (spare_in slots x) lsn value replacing old of mid new files_told (closing_moments told settled of) (closing of)
      (subst (λ (q : ℕ). LeavesOnly mid new (IsHalfPut mid q lsn value)) (spot_is of) half)

  -- what the slots are then
  abbrev later_view : SlotsView
  later_view = record { params = inside.params; first = inside.first; heads = set (set inside.heads slot 0) slot lsn; lengths = set inside.lengths x (length value) }

  -- there is a length of the object
  object_room : x < length inside.lengths
  object_room = omega (arith, heads.long, below, ap (λ (w : SlotsView). w.params.objects) same)

  pub replaced_by : (new : Disk) → old.tells_files → AreOf slots (old.reads Objects) → IsPut at lsn value (mid.reads Objects) (new.reads Objects)
      → AreOf later_view (new.reads Objects) × IsReplaced slots.params x (record { lsn = lsn; value = value }) (old.reads Objects) (new.reads Objects)
  replaced_by new told of put =
      let room = slot_room inside slots x slot same heads below slot_is in
      let long = ap (λ (w : SlotsView). length w.heads) same in
      let has = replaced slots x (spare_in slots x) lsn value replacing old of mid new told (omega (arith, room, long, slot_is)) (omega (arith, object_room, ap (λ (w : SlotsView). length w.lengths) same)) (closing of)
      (subst (λ (q : ℕ). IsPut q lsn value (mid.reads Objects) (new.reads Objects)) (spot_is of) put) in
      let views : after slots x (spare_in slots x) lsn value replacing old of ≡ later_view =
      ap (λ (k : ℕ). record { params = slots.params; first = slots.first; heads = set (set slots.heads k 0) k lsn; lengths = set slots.lengths x (length value) }) (sym slot_is)
      ∙ ap (λ (w : SlotsView). record { params = w.params; first = w.first; heads = set (set w.heads slot 0) slot lsn; lengths = set w.lengths x (length value) }) (sym same) in
      (subst (λ (w : SlotsView). AreOf w (new.reads Objects)) views has.0, has.1)

  -- the object's LSN is the new one
  lsn_replaced : lsn_in later_view x ≡ lsn
  lsn_replaced =
      let s = spare_in slots x in
      let found = spare slots x in
      let room = slot_room inside slots x slot same heads below slot_is in
      let here : head later_view x s ≡ lsn = get_or-set_at (set inside.heads slot 0) slot (2 * x + s) lsn 0 (sym slot_is) (omega (arith, length-set inside.heads slot 0, room)) in
      let apart : 2 * x + (1 - s) ≢ slot = λ e. absurd (omega (arith, e, slot_is, found.two)) in
      let there : head later_view x (1 - s) ≡ head slots x (1 - s) =
      get_or-set_other (set inside.heads slot 0) slot (2 * x + (1 - s)) lsn 0 apart
      ∙ get_or-set_other inside.heads slot (2 * x + (1 - s)) 0 0 apart
      ∙ ap (λ (w : SlotsView). head w x (1 - s)) same in
      greater_lsn later_view x s lsn found.two here (omega (arith, there, found.other, later))

  -- and each other one is as it was
  other_head : (y t : ℕ) → y ≢ x → t < 2 → head later_view y t ≡ head slots y t
  other_head y t other two =
      let apart : 2 * y + t ≢ slot = λ e. other (omega (arith, e, slot_is, (spare slots x).two, two)) in
      get_or-set_other (set inside.heads slot 0) slot (2 * y + t) lsn 0 apart
      ∙ get_or-set_other inside.heads slot (2 * y + t) 0 0 apart
      ∙ ap (λ (w : SlotsView). head w y t) same

  other_lsn_kept : (y : ℕ) → y ≢ x → lsn_in later_view y ≡ lsn_in slots y
  other_lsn_kept y other =
      let first = other_head y 0 other (omega arith) in
      let second = other_head y 1 other (omega arith) in
      ap (λ (n : ℕ). head later_view y (if nat_lt n (head later_view y 1) then 1 else 0)) first
      ∙ ap (λ (n : ℕ). head later_view y (if nat_lt (head slots y 0) n then 1 else 0)) second
      ∙ other_head y (holder_in slots y) other (one_of_two (nat_lt (head slots y 0) (head slots y 1)))

  pub renewed_by : IsRenewed slots later_view x lsn (length value)
  renewed_by = record {
    lsn_is = lsn_replaced;
    long_is = get_or-set_at inside.lengths x x (length value) 0 refl object_room;
    other_lsns = other_lsn_kept;
    other_lengths = λ y other. get_or-set_other inside.lengths x y (length value) 0 other ∙ ap (λ (w : SlotsView). length_in w y) same;
  }
