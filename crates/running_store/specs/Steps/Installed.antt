-- A store that shows a world shows, with an object flushed, the world after its slot's gate, and, with a node taken out of
-- the graph, the world after its removal: in installs and in the middle of a redo.
use Rattle.std.proofs.Common.{◌≡◌, ◌∙◌, sym, subst, ap, ℕ, ◌<◌, ◌≤◌, Bool, true, false, List, [], ◌∷◌, map, refl, inl, inr, ⊎_elim, Option, Some, None}
use Rattle.std.specs.Prelude.{nat_lt, ◌==◌, ◌≢◌, ◌&&◌, ◌||◌, not, if◌then◌else◌}
use Rattle.std.specs.List.{list_any, filter}
use Rattle.std.proofs.lemmas.Bool.{cases_eq, cases_lt, cases_Bool, and_parts, eqb-true, both_ways, eq-eqb, ne_eqb, cond-true, cond-false, le-ltb}
use Rattle.oper_core.specs.Cell.{Cell}
use Rattle.oper_core.specs.State.{is_among}
use Rattle.oper_core.specs.Meaning.{Meaning}
use Rattle.formats.specs.Objects.{cell_of}
use Rattle.formats.specs.declared.layout.Layout.{Layout}
use Rattle.formats.specs.declared.params.Params.{Params}
use Rattle.dirty_cache.specs.Contents.{held, is_dirty, cell_of_entry}
use Rattle.dirty_cache.specs.declared.entry.Entry.{Entry as Pair}
use Rattle.stable_objects.specs.SlotsView.{AreOf}
use Rattle.stable_objects.specs.Replacing.{IsReplaced, OthersKept}
use Rattle.install_order.specs.declared.entry.Entry.{Entry}
use Rattle.install_order.specs.Order.{Access}
use Rattle.install_order.specs.Entries.{accesses}
use Rattle.write_graph.specs.Graph.{lsns}
use Rattle.explain_core.specs.History.{accesses_of}
use Rattle.explain_core.specs.World.{World, step}
use Rattle.explain_core.specs.World.Step.{Slot_gate, Removal}
use Rattle.standing.specs.Standing.{stored}
use Rattle.running_store.specs.Courses.{is_identity_at}
use Rattle.running_store.specs.Laid.{Laid, cell_or}
use Rattle.running_store.specs.Parts.Joins.{cached_shown, clean_shown, stored_here}
use Rattle.running_store.specs.Laid.Flushed.{IsFlushed}
use Rattle.running_store.specs.Parts.{Volatile, ShowsVolatile, volatile}

-- past the last object of the store there are no bytes
pub stored_past : (p : Params) (file : List ℕ) (y : ℕ) → p.objects ≤ y → stored p file y ≡ record { lsn = 0; value = [] }
stored_past p file y past = cond-false (nat_lt y p.objects) (cell_of y file) (record { lsn = 0; value = [] }) (le-ltb y p.objects past)

-- the others are as they were
pub stored_kept : (p : Params) (x : ℕ) (old new : List ℕ) (y : ℕ) → OthersKept p x old new → y ≢ x → stored p new y ≡ stored p old y
stored_kept p x old new y kept ne = elim (cases_lt y p.objects) [
  | inl below ↦ stored_here p new y below ∙ kept y below ne ∙ sym (stored_here p old y below)
  | inr past ↦ stored_past p new y past ∙ sym (stored_past p old y past)
]

same_pair : (a b : Pair) → Some a ≡ Some b → a ≡ b
same_pair a b e = ap (λ (o : Option Pair). from o) e
  where
    from : Option Pair → Pair
    from (Some q) = q
    from None = a

none_some : (o : Pair) → None ≡ Some o → ⊥
none_some o e = cc

module _ {O : Type 0} (m : Meaning O) (p : Params) (old new : List ℕ) (it : Volatile) (after : Laid) (w : World O) (shows : ShowsVolatile m p old it w) (node : ℕ → Bool) (x : ℕ) (pair : Pair)
    (below : x < p.objects) (had : held it.objects.cache x ≡ Some pair) where
  the_cell : w.cache x ≡ cell_of_entry pair
  the_cell = cached_shown m p old it w shows x pair had

  -- the slots of a file in which x has the pair, and all else what it had
  pub cells_new : cell_of x new ≡ cell_of_entry pair → OthersKept p x old new → (y : ℕ) → stored p new y ≡ (step m w (Slot_gate node x)).slots y
  unfolding step
  cells_new here kept y = elim (cases_eq y x) [
    | inl e ↦ subst (λ (z : ℕ). stored p new z ≡ (if z == x then w.cache x else w.slots z)) (sym e) (stored_here p new x below ∙ here ∙ sym the_cell ∙ sym (cond-true (x == x) (w.cache x) (w.slots x) (eq-eqb x x refl)))
    | inr ne ↦ stored_kept p x old new y kept ne ∙ shows.slots y ∙ sym (cond-false (y == x) (w.cache x) (w.slots y) (ne_eqb y x ne))
  ]

  pub flushed_store : AreOf after.slots new → IsReplaced p x (cell_of_entry pair) old new → IsFlushed it.objects after x → ShowsVolatile m p new (volatile after it.entries) (step m w (Slot_gate node x))
  unfolding step
  flushed_store of_file replaced is =
      let at_x : stored p new x ≡ w.cache x = stored_here p new x below ∙ replaced.held ∙ sym the_cell in
      let params : after.slots.params ≡ p = ap (λ (l : Layout). l.params) is.layout ∙ shows.params in
      let kept : (y : ℕ) → x ≢ y → stored p new y ≡ stored p old y = λ y ne. stored_kept p x old new y replaced.others (λ q. ne (sym q)) in
      record {
        params = params;
        laid = record {
          slots = of_file;
          clean = λ y other clean there. elim (cases_eq x y) [
            | inl e ↦ subst (λ (z : ℕ). held after.cache z ≡ Some other → cell_of z new ≡ cell_of_entry other) e
                (λ here. ⊎_elim
                (λ same. let q : pair ≡ other = same_pair pair other (sym had ∙ sym same ∙ here) in replaced.held ∙ ap cell_of_entry q)
                (λ none. absurd (none_some other (sym none ∙ here))) is.entry) there
            | inr ne ↦
                let was = is.others y (ne_eqb x y ne) in
                ⊎_elim
                (λ same.
                let before : cell_of y old ≡ cell_of_entry other = shows.laid.clean y other (sym was.dirty ∙ clean) (sym same ∙ there) in
                replaced.others y (shows.below y other (sym same ∙ there)) (λ q. ne (sym q)) ∙ before)
                (λ gone. absurd (none_some other (sym gone.1 ∙ there))) was.entry
          ];
        };
        below = λ y other there. elim (cases_eq x y) [
          | inl e ↦ subst (λ (z : ℕ). z < p.objects) e below
          | inr ne ↦ ⊎_elim (λ same. shows.below y other (sym same ∙ there)) (λ gone. absurd (none_some other (sym gone.1 ∙ there))) (is.others y (ne_eqb x y ne)).entry
        ];
        slots = cells_new replaced.held replaced.others;
        cache = λ y. elim (cases_eq x y) [
          | inl e ↦ subst (λ (z : ℕ). cell_or (held after.cache z) (stored p new z) ≡ w.cache z) e (⊎_elim
              (λ same. ap (λ (o : Option Pair). cell_or o (stored p new x)) (same ∙ had) ∙ sym the_cell)
              (λ none. ap (λ (o : Option Pair). cell_or o (stored p new x)) none ∙ at_x) is.entry)
          | inr ne ↦
              let was = is.others y (ne_eqb x y ne) in
              let slot : stored p new y ≡ stored p old y = kept y ne in
              ⊎_elim
              (λ same. ap (λ (c : Cell). cell_or (held after.cache y) c) slot ∙ ap (λ (o : Option Pair). cell_or o (stored p old y)) same ∙ shows.cache y)
              (λ gone. ap (λ (o : Option Pair). cell_or o (stored p new y)) gone.1 ∙ slot ∙ shows.slots y ∙ sym (clean_shown m p old it w shows y gone.0))
              was.entry
        ];
        dirty = λ y dirty. elim (cases_eq x y) [
          | inl e ↦ absurd (both_ways _ (subst (λ (z : ℕ). is_dirty after.cache z ≡ false) e is.clean) dirty)
          | inr ne ↦ λ same. shows.dirty y (sym (is.others y (ne_eqb x y ne)).dirty ∙ dirty) (ap (λ (c : Cell). c.lsn) (sym (cond-false (y == x) (w.cache x) (w.slots y) (ne_eqb y x (λ q. ne (sym q))))) ∙ same)
        ];
        members = shows.members;
        accesses = shows.accesses;
        identities = shows.identities;
      }

and_false : (b : Bool) → (b && false) ≡ false
and_false true = refl
and_false false = refl

-- where all that have P agree on Q
any-filter : (P Q : Entry → Bool) (k : Bool) (entries : List Entry) → ((e : Entry) → P e ≡ true → Q e ≡ k) → list_any P (filter Q entries) ≡ (list_any P entries && k)
any-filter P Q k [] agree = refl
any-filter P Q k (e ∷ entries) agree =
    let more = any-filter P Q k entries agree in
    elim (cases_Bool (Q e)) [
      | inl kept ↦ elim (cases_Bool (P e)) [
        | inl here ↦ rw (kept, here) (sym (sym (agree e here) ∙ kept))
        | inr none ↦ rw (kept, none) more
      ]
      | inr left ↦ elim (cases_Bool (P e)) [
        | inl here ↦ let no_k : k ≡ false = sym (agree e here) ∙ left in rw (left, here) (more ∙ ap (λ (b : Bool). list_any P entries && b) no_k ∙ and_false (list_any P entries) ∙ sym no_k)
        | inr none ↦ rw (left, none) more
      ]
    ]

any-map : (p : ℕ → Bool) (entries : List Entry) → list_any p (map (λ (e : Entry). e.lsn) entries) ≡ list_any (λ (e : Entry). p e.lsn) entries
any-map p [] = refl
any-map p (e ∷ entries) = ap (λ (b : Bool). p e.lsn || b) (any-map p entries)

-- an entry with the LSN n that passes is left exactly where n is kept
left_over : (q : ℕ → Bool) (f : Entry → Bool) (n : ℕ) (entries : List Entry) → list_any (λ e. (e.lsn == n) && f e) (filter (λ e. q e.lsn) entries) ≡ (list_any (λ e. (e.lsn == n) && f e) entries && q n)
left_over q f n entries = any-filter (λ e. (e.lsn == n) && f e) (λ e. q e.lsn) (q n) entries (λ e is. ap q (eqb-true e.lsn n (and_parts (e.lsn == n) (f e) is).0))

lsns_left : (q : ℕ → Bool) (n : ℕ) (entries : List Entry) → is_among n (lsns (filter (λ e. q e.lsn) entries)) ≡ (is_among n (lsns entries) && q n)
lsns_left q n entries =
    any-map (λ y. n == y) (filter (λ e. q e.lsn) entries) ∙ any-filter (λ e. n == e.lsn) (λ e. q e.lsn) (q n) entries (λ e is. ap q (sym (eqb-true n e.lsn is)))
    ∙ ap (λ (b : Bool). b && q n) (sym (any-map (λ y. n == y) entries))

turned : (a b c : Bool) → (a && b && c) ≡ ((a && c) && b)
turned true true true = refl
turned true true false = refl
turned true false true = refl
turned true false false = refl
turned false b c = refl

pub removed_store : {O : Type 0} (m : Meaning O) (p : Params) (file : List ℕ) (it : Volatile) (entries : List Entry) (w : World O) (node : ℕ → Bool) → ShowsVolatile m p file it w → entries ≡ filter (λ e. not (node e.lsn)) it.entries
    → ShowsVolatile m p file (volatile it.objects entries) (step m w (Removal node))
unfolding step
removed_store m p file it entries w node shows same = record {
  params = shows.params;
  laid = shows.laid;
  below = shows.below;
  slots = shows.slots;
  cache = shows.cache;
  dirty = shows.dirty;
  members = λ n. ap (λ (l : List Entry). is_among n (lsns l)) same ∙ lsns_left (λ k. not (node k)) n it.entries ∙ ap (λ (b : Bool). b && not (node n)) (shows.members n);
  accesses = ap accesses same ∙ (λ i. record {
    reads = λ n y. (left_over (λ k. not (node k)) (λ e. is_among y e.reads) n it.entries ∙ ap (λ (a : Access). a.reads n y && not (node n)) shows.accesses ∙ turned (w.graph n) ((accesses_of m w.history).reads n y) (not (node n))) i;
    writes = λ n y. (left_over (λ k. not (node k)) (λ e. is_among y e.writes) n it.entries ∙ ap (λ (a : Access). a.writes n y && not (node n)) shows.accesses ∙ turned (w.graph n) ((accesses_of m w.history).writes n y) (not (node n))) i;
  });
  identities = λ n. ap (λ (l : List Entry). list_any (λ e. (e.lsn == n) && e.identity) l) same ∙ left_over (λ k. not (node k)) (λ e. e.identity) n it.entries
      ∙ ap (λ (b : Bool). b && not (node n)) (shows.identities n) ∙ turned (w.graph n) (is_identity_at w.history n) (not (node n));
}
