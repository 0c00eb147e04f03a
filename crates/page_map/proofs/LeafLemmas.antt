-- The leaves of a tree as one list that shares its span, and the place among them to which a choice of cells leads.
use Rattle.std.proofs.Common.{◌≡◌, ℕ, zero, suc, ◌+◌, ◌-◌, ◌^◌, ◌<◌, ◌≤◌, Bool, true, false, not, if◌then◌else◌, Option, None, Some, Result, Ok, Err, List, [], ◌∷◌, ◌++◌, map, flat_map, length, is_lt, refl, sym, ap, ◌∙◌, subst, arith, append_assoc, true≢false, length-append, option_and_then}
use Rattle.std.specs.Prelude.{⊤, IsTrue, nat_lt, nat_le}
use Rattle.std.specs.List.{list_all}
use Rattle.std.proofs.lemmas.List.{append-nil}
use Rattle.std.proofs.lemmas.List.Concat.{flat_map-append}
use Rattle.std.proofs.lemmas.Bool.{eq-eqb, leb-true, ltb-true}
use Rattle.oper_core.specs.State.{State}
use Rattle.key_entries.specs.Entries.{byte_order}
use Rattle.key_entries.specs.EntryLaws.{both_true}
use Rattle.page_ops.specs.Page.{Cell}
use Rattle.page_ops.specs.Seen.{child_cell}
use Rattle.page_ops.specs.Reading.{under}
use Rattle.page_ops.specs.Search.{last_under}
use Rattle.page_map.specs.Map.{Span, is_below, is_within, all_past, all_within, Leaf, Tree, root_of, objects_in, pairs_in, cells_in, IsHeld, Each, bytes_at, Holds, Share, StandIn, one_if, times}
use Rattle.page_map.specs.Splits.{front_of}
use Rattle.page_map.specs.Ranges.{Stop, at_step, stop_from, under_key}
use Rattle.page_map.specs.Steps.{Step, last_below, one_before, span_of_step, step_in}
use Rattle.page_map.proofs.MapLemmas.{Searches, all_both, below_through, child_found, each_at, ends_too, IsAt, lower, not_below_itself, not_below_through, not_both, not_true, on_level, pairs_within, parts_within, span_of, upper, wider, within_parts}
use Rattle.page_map.proofs.CutLemmas.{ReadsCells}
use Rattle.page_map.proofs.TreeLemmas.{HoldsChild}
use Rattle.page_map.proofs.StepLemmas.{Finds, front_held, step_held, step_of, step_span}
use Rattle.page_map.proofs.PlaceLemmas.{share_at}

-- ---- lists that share a span

module _ {Child : Type 0} (In : Span → Child → Type 0) where
  pub share_key : (span : Span) (c : List ℕ × Child) (rest : List (List ℕ × Child)) → Share In span (c ∷ rest) → c.0 ≡ span.from
  share_key span c [] share = share.0
  share_key span c (d ∷ rest) share = share.0

  share_append : (span : Span) (key : List ℕ) (xs ys : List (List ℕ × Child)) → IsTrue (is_within span key) → Share In (lower span key) xs → Share In (upper span key) ys → Share In span (xs ++ ys)
  share_append span key [] ys within one two = absurd one
  share_append span key (c ∷ []) [] within one two = absurd two
  share_append span key (c ∷ []) (d ∷ ys) within one two =
      subst (λ (k : List ℕ). (c.0 ≡ span.from) × IsTrue (is_within span k) × In (record { from = span.from; to = Some k }) c.1 × Share In (record { from = k; to = span.to }) (d ∷ ys))
      (sym (share_key (upper span key) d ys two)) (one.0, within, one.1, two)
  share_append span key (c ∷ d ∷ xs) ys within one two =
      let here = within_parts (lower span key) d.0 one.1 in
      let end : IsTrue (is_below key span.to) = (within_parts span key within).1 in (
        one.0,
        parts_within span d.0 here.0 (ends_too d.0 key span.to here.1 end),
        one.2,
        share_append (upper span d.0) key (d ∷ xs) ys (parts_within (upper span d.0) key (not_both d.0 key here.1) end) one.3 two,
      )

  -- from an item on they share what is left of the span
  pub rest_share : (span : Span) (front : List (List ℕ × Child)) (x : List ℕ × Child) (back : List (List ℕ × Child)) → Share In span (front ++ x ∷ back) → Share In (upper span x.0) (x ∷ back)
  rest_share span [] x back share = subst (λ (k : List ℕ). Share In (record { from = k; to = span.to }) (x ∷ back)) (sym (share_key span x back share)) share
  rest_share span (c ∷ []) x back share = share.3
  rest_share span (c ∷ d ∷ front) x back share = rest_share (upper span d.0) (d ∷ front) x back share.3

  pub from_least : (span : Span) (front : List (List ℕ × Child)) (x : List ℕ × Child) (back : List (List ℕ × Child)) → Share In span (front ++ x ∷ back) → is_lt (byte_order x.0 span.from) ≡ false
  from_least span [] x back share = ap (λ (k : List ℕ). is_lt (byte_order k span.from)) (share_key span x back share) ∙ not_below_itself span.from
  from_least span (c ∷ []) x back share = (within_parts span x.0 share.1).0
  from_least span (c ∷ d ∷ front) x back share =
      not_below_through x.0 d.0 span.from (from_least (upper span d.0) (d ∷ front) x back share.3) (within_parts span d.0 share.1).0

-- ---- the leaves

-- the leaves, each with the least key that it may have
abbrev pub leaves : (level : ℕ) → List ℕ → Tree level → List (List ℕ × Leaf)
leaves zero from t = (from, t) ∷ []
leaves (suc level) from t = flat_map (λ c. leaves level c.0 c.1) t.children

abbrev pub leaf_pairs : List (List ℕ × Leaf) → List Cell
leaf_pairs = flat_map (λ c. c.1.cells)

-- the pairs before a leaf are below what it begins with
pub front_below : (span : Span) (front : List (List ℕ × Leaf)) (x : List ℕ × Leaf) (back : List (List ℕ × Leaf)) → Share (StandIn zero) span (front ++ x ∷ back)
    → IsTrue (list_all (λ c. is_lt (byte_order c.0 x.0)) (leaf_pairs front))
front_below span [] x back share = refl
front_below span (c ∷ []) x back share =
    all_both (λ k. is_lt (byte_order k x.0)) c.1.cells [] (wider (is_within (lower span x.0)) (λ k. is_lt (byte_order k x.0)) (λ k e. (within_parts (lower span x.0) k e).1) c.1.cells share.2.0) refl
front_below span (c ∷ d ∷ front) x back share =
    all_both (λ k. is_lt (byte_order k x.0)) c.1.cells (leaf_pairs (d ∷ front))
    (wider (is_within (lower span d.0)) (λ k. is_lt (byte_order k x.0))
    (λ k e. below_through k d.0 x.0 (within_parts (lower span d.0) k e).1 (from_least (StandIn zero) (upper span d.0) (d ∷ front) x back share.3)) c.1.cells share.2.0)
    (front_below (upper span d.0) (d ∷ front) x back share.3)

pub leaves_within : (span : Span) (xs : List (List ℕ × Leaf)) → Share (StandIn zero) span xs → IsTrue (all_within span (leaf_pairs xs))
leaves_within span xs share = pairs_within 1 span (record { object = 0; children = xs; past = [] }) (share, refl)

-- where the first of a list begins, or what stands behind it
abbrev pub starts : List (List ℕ × Leaf) → Option (List ℕ) → Option (List ℕ)
starts [] to = to
starts (c ∷ rest) to = Some c.0

starts_both : (a b : List (List ℕ × Leaf)) (to : Option (List ℕ)) → starts (a ++ b) to ≡ starts a (starts b to)
starts_both [] b to = refl
starts_both (c ∷ a) b to = refl

share_starts : (span : Span) (xs : List (List ℕ × Leaf)) (to : Option (List ℕ)) → Share (StandIn zero) span xs → starts xs to ≡ Some span.from
share_starts span [] to share = absurd share
share_starts span (c ∷ xs) to share = ap (λ (k : List ℕ). Some k) (share_key (StandIn zero) span c xs share)

module _ {Child : Type 0} (In : Span → Child → Type 0) (f : List ℕ → Child → List (List ℕ × Leaf)) (below : (span : Span) (child : Child) → In span child → Share (StandIn zero) span (f span.from child)) where
  abbrev all_leaves : List (List ℕ × Child) → List (List ℕ × Leaf)
  all_leaves children = flat_map (λ c. f c.0 c.1) children

  all_share : (span : Span) (children : List (List ℕ × Child)) → Share In span children → Share (StandIn zero) span (all_leaves children)
  all_share span [] share = absurd share
  all_share span (c ∷ []) share =
      subst (λ (l : List (List ℕ × Leaf)). Share (StandIn zero) span l) (sym (append-nil (f c.0 c.1)))
      (subst (λ (k : List ℕ). Share (StandIn zero) span (f k c.1)) (sym share.0) (below span c.1 share.1))
  all_share span (c ∷ d ∷ children) share =
      share_append (StandIn zero) span d.0 (f c.0 c.1) (all_leaves (d ∷ children)) share.1
      (subst (λ (k : List ℕ). Share (StandIn zero) (lower span d.0) (f k c.1)) (sym share.0) (below (lower span d.0) c.1 share.2)) (all_share (upper span d.0) (d ∷ children) share.3)

  -- those of one child, with those before and behind it
  record IsParted (span : Span) (children : List (List ℕ × Child)) (i : ℕ) (child : Child) : Type 0 where
    pub before : List (List ℕ × Leaf)
    pub after : List (List ℕ × Leaf)
    pub split : all_leaves children ≡ before ++ (f (span_of span children i).from child ++ after)
    pub ends : starts after span.to ≡ (span_of span children i).to

  parted : (span : Span) (children : List (List ℕ × Child)) (i : ℕ) (child : Child) → IsAt i child children → Share In span children → IsParted span children i child
  parted span [] i child at share = absurd share
  parted span (c ∷ []) zero child at share = record { before = []; after = []; split = λ k. f (share.0 k) (at k) ++ []; ends = refl }
  parted span (c ∷ []) (suc i) child at share = absurd at
  parted span (c ∷ d ∷ children) zero child at share = record {
    before = [];
    after = all_leaves (d ∷ children);
    split = λ k. f (share.0 k) (at k) ++ all_leaves (d ∷ children);
    ends = share_starts (upper span d.0) (all_leaves (d ∷ children)) span.to (all_share (upper span d.0) (d ∷ children) share.3);
  }
  parted span (c ∷ d ∷ children) (suc i) child at share =
      let rest = parted (upper span d.0) (d ∷ children) i child at share.3 in
      let mine : List (List ℕ × Leaf) = f (span_of (upper span d.0) (d ∷ children) i).from child in
      record {
        before = f c.0 c.1 ++ rest.before;
        after = rest.after;
        split = ap (λ (l : List (List ℕ × Leaf)). f c.0 c.1 ++ l) rest.split ∙ sym (append_assoc (f c.0 c.1) rest.before (mine ++ rest.after));
        ends = rest.ends;
      }

pub leaves_share : (level : ℕ) (span : Span) (t : Tree level) → StandIn level span t → Share (StandIn zero) span (leaves level span.from t)
leaves_share zero span t stand = (refl, stand)
leaves_share (suc level) span t stand = all_share (StandIn level) (leaves level) (leaves_share level) span t.children stand.0

all_pairs : {Child : Type 0} (pairs : Child → List Cell) (f : List ℕ → Child → List (List ℕ × Leaf)) → ((from : List ℕ) (child : Child) → pairs child ≡ leaf_pairs (f from child)) → (children : List (List ℕ × Child))
    → flat_map (λ c. pairs c.1) children ≡ leaf_pairs (flat_map (λ c. f c.0 c.1) children)
all_pairs pairs f same [] = refl
all_pairs pairs f same (c ∷ children) =
    (λ k. same c.0 c.1 k ++ all_pairs pairs f same children k) ∙ sym (flat_map-append (λ (c : List ℕ × Leaf). c.1.cells) (f c.0 c.1) (flat_map (λ c. f c.0 c.1) children))

pub leaves_pairs : (level : ℕ) (from : List ℕ) (t : Tree level) → pairs_in level t ≡ leaf_pairs (leaves level from t)
leaves_pairs zero from t = sym (append-nil t.cells)
leaves_pairs (suc level) from t = all_pairs (pairs_in level) (leaves level) (leaves_pairs level) t.children

-- ---- there are no more leaves than objects in the range

all_few : {Child : Type 0} (objects : Child → List ℕ) (f : List ℕ → Child → List (List ℕ × Leaf)) → ((from : List ℕ) (child : Child) → length (f from child) ≤ length (objects child)) → (children : List (List ℕ × Child))
    → length (flat_map (λ c. f c.0 c.1) children) ≤ length (flat_map (λ c. objects c.1) children)
all_few objects f few [] = omega arith
all_few objects f few (c ∷ children) =
    omega (
      arith,
      few c.0 c.1,
      all_few objects f few children,
      length-append (f c.0 c.1) (flat_map (λ c. f c.0 c.1) children),
      length-append (objects c.1) (flat_map (λ c. objects c.1) children),
    )

leaves_few : (level : ℕ) (from : List ℕ) (t : Tree level) → length (leaves level from t) ≤ length (objects_in level t)
leaves_few zero from t = omega arith
leaves_few (suc level) from t = omega (arith, all_few (objects_in level) (leaves level) (leaves_few level) t.children)

-- how often the numbers of a range stand in a list
abbrev total : ℕ → ℕ → List ℕ → ℕ
total lo zero xs = 0
total lo (suc n) xs = times lo xs + total (suc lo) n xs

total_few : (lo n : ℕ) (xs : List ℕ) → ((x : ℕ) → times x xs ≤ 1) → total lo n xs ≤ n
total_few lo zero xs once = omega arith
total_few lo (suc n) xs once = omega (arith, once lo, total_few (suc lo) n xs once)

total_cons : (lo n x : ℕ) (xs : List ℕ) → total lo n (x ∷ xs) ≡ total lo n (x ∷ []) + total lo n xs
total_cons lo zero x xs = omega arith
total_cons lo (suc n) x xs = omega (arith, total_cons (suc lo) n x xs)

total_one : (lo n k : ℕ) → k < n → 1 ≤ total lo n ((lo + k) ∷ [])
total_one lo zero k less = absurd (omega (arith, less))
total_one lo (suc n) zero less = omega (arith, ap one_if (eq-eqb (lo + 0) lo (omega arith)))
total_one lo (suc n) (suc k) less =
    let same : lo + suc k ≡ suc lo + k = omega arith in
    omega (arith, total_one (suc lo) n k (omega (arith, less)), ap (λ (x : ℕ). total (suc lo) n (x ∷ [])) same)

-- objects of a range
abbrev AreIn : ℕ → ℕ → List ℕ → Type 0
AreIn lo n [] = ⊤
AreIn lo n (x ∷ xs) = ((k : ℕ) × (x ≡ lo + k) × (k < n)) × AreIn lo n xs

in_both : (lo n : ℕ) (a b : List ℕ) → AreIn lo n a → AreIn lo n b → AreIn lo n (a ++ b)
in_both lo n [] b one two = two
in_both lo n (x ∷ a) b one two = (one.0, in_both lo n a b one.1 two)

in_total : (lo n : ℕ) (xs : List ℕ) → AreIn lo n xs → length xs ≤ total lo n xs
in_total lo n [] are = omega arith
in_total lo n (x ∷ xs) are =
    omega (arith, in_total lo n xs are.1, total_cons lo n x xs, total_one lo n are.0.0 are.0.2, ap (λ (y : ℕ). total lo n (y ∷ [])) are.0.1)

module _ (lo hi : ℕ) (s : State) where
  all_in : {Child : Type 0} (objects : Child → List ℕ) (Held : Child → Type 0) → ((child : Child) → Held child → AreIn lo (suc hi - lo) (objects child)) → (children : List (List ℕ × Child)) → Each Held children
      → AreIn lo (suc hi - lo) (flat_map (λ c. objects c.1) children)
  all_in objects Held inside [] held = tt
  all_in objects Held inside (c ∷ children) held = in_both lo (suc hi - lo) (objects c.1) (flat_map (λ c. objects c.1) children) (inside c.1 held.0) (all_in objects Held inside children held.1)

  objects_inside : (level : ℕ) (t : Tree level) → lo ≤ root_of level t → root_of level t ≤ hi → Holds lo hi s level t → AreIn lo (suc hi - lo) (objects_in level t)
  objects_inside zero t low high holds = ((t.object - lo, omega (arith, low), omega (arith, low, high)), tt)
  objects_inside (suc level) t low high holds = (
    (t.object - lo, omega (arith, low), omega (arith, low, high)),
    all_in (objects_in level) (HoldsChild lo hi s level)
        (λ child held.
        let places = both_true (nat_lt lo (root_of level child)) (nat_le (root_of level child) hi) held.0 in
        objects_inside level child (omega (arith, ltb-true lo (root_of level child) places.0)) (leb-true (root_of level child) hi places.1) held.1) t.children holds.1,
  )

  pub leaves_are_few : (level : ℕ) (from : List ℕ) (t : Tree level) → lo ≤ root_of level t → root_of level t ≤ hi → Holds lo hi s level t → ((x : ℕ) → times x (objects_in level t) ≤ 1)
      → length (leaves level from t) ≤ suc hi - lo
  leaves_are_few level from t low high holds once =
      omega (
        arith,
        leaves_few level from t,
        in_total lo (suc hi - lo) (objects_in level t) (objects_inside level t low high holds),
        total_few lo (suc hi - lo) (objects_in level t) once,
      )

-- ---- where a way stops

module _ (searches : Searches) (reads : ReadsCells) (lo hi : ℕ) (small : hi < 2 ^ 32) (s : State) where
  -- the leaf is one of them, with its span
  pub record IsAmong (level : ℕ) (span : Span) (t : Tree level) (at : Stop) : Type 0 where
    pub leaf : Leaf
    pub object : at.object ≡ leaf.object
    pub front : List (List ℕ × Leaf)
    pub back : List (List ℕ × Leaf)
    pub split : leaves level span.from t ≡ front ++ (at.span.from, leaf) ∷ back
    pub ends : at.span.to ≡ starts back span.to
    pub held : IsHeld 0 (bytes_at lo s leaf.object) (leaf.cells ++ leaf.past)
    pub stands : StandIn 0 at.span leaf

  -- a choice of cells that the bytes tell
  module _ (choose : List ℕ → Option ℕ) (pick : List Cell → Option ℕ) (same : (level : ℕ) (bytes : List ℕ) (cells : List Cell) → IsHeld level bytes cells → choose bytes ≡ pick cells) (P : Span → Type 0)
      (begins : (span : Span) → P span → IsTrue (is_below span.from span.to)) where
    -- the child that is chosen, where its span has the property, too
    pub record Picks (level : ℕ) (span : Span) (t : Tree (suc level)) : Type 0 where
      pub place : ℕ
      pub child : Tree level
      pub at : IsAt place child t.children
      pub is : pick (cells_in (suc level) t) ≡ Some place
      pub good : P (span_of span t.children place)

    module _ (picks : (level : ℕ) (span : Span) (t : Tree (suc level)) → Share (StandIn level) span t.children → IsTrue (all_past span t.past) → P span → Picks level span t) where
      pub record Stops (level : ℕ) (span : Span) (t : Tree level) : Type 0 where
        pub stop : Stop
        pub is : stop_from lo hi s choose level (root_of level t) span ≡ Ok stop
        pub among : IsAmong level span t stop
        pub good : P stop.span

      pub stop_found : (level : ℕ) (span : Span) (t : Tree level) → Holds lo hi s level t → StandIn level span t → P span → Stops level span t
      stop_found zero span t holds stand good = record {
        stop = record { object = t.object; span = span };
        is = ap (λ (b : Bool). if b then Ok (record { object = t.object; span = span }) else Err t.object) (on_level searches lo hi small s [] 0 (bytes_at lo s t.object) (t.cells ++ t.past) holds);
        among = record { leaf = t; object = refl; front = []; back = []; split = refl; ends = refl; held = holds; stands = stand };
        good = good;
      }
      stop_found (suc level) span t holds stand good =
          let x : ℕ = t.object in
          let cells : List Cell = cells_in (suc level) t in
          let picked = picks level span t stand.0 stand.1 good in
          let i : ℕ = picked.place in
          let child : Tree level = picked.child in
          let inner : Span = span_of span t.children i in
          let below : HoldsChild lo hi s level child = each_at (HoldsChild lo hi s level) t.children i child picked.at holds.1 in
          let rest = stop_found level inner child below.1 (share_at (StandIn level) span t.children i child picked.at stand.0) picked.good in
          let bytes : List ℕ = bytes_at lo s x in
          let on : ℕ → Span → Result Stop ℕ = stop_from lo hi s choose level in
          let begin : IsTrue (is_below span.from span.to) = begins span good in
          let step : Step = step_of searches reads lo hi small bytes level span t holds.0 stand.0 stand.1 begin i child picked.at below.0 in
          let steps : option_and_then (step_in lo hi bytes span.to) (choose bytes) ≡ Some step =
          ap (option_and_then (step_in lo hi bytes span.to)) (same (suc level) bytes cells holds.0 ∙ picked.is)
          ∙ step_held searches reads lo hi small bytes level span t holds.0 stand.0 stand.1 begin i child picked.at below.0 in
          let spans : span_of_step span.to step ≡ inner = step_span searches reads lo hi small bytes level span t holds.0 stand.0 stand.1 begin i child picked.at below.0 in
          let parts = parted (StandIn level) (leaves level) (leaves_share level) span t.children i child picked.at stand.0 in
          let here : List (List ℕ × Leaf) = (rest.stop.span.from, rest.among.leaf) ∷ rest.among.back in
          record {
            stop = rest.stop;
            is =
                ap (λ (b : Bool). if b then at_step on x span (option_and_then (step_in lo hi bytes span.to) (choose bytes)) else Err x) (on_level searches lo hi small s [] (suc level) bytes cells holds.0)
                ∙ ap (at_step on x span) steps ∙ ap (on (root_of level child)) spans ∙ rest.is;
            among = record {
              leaf = rest.among.leaf;
              object = rest.among.object;
              front = parts.before ++ rest.among.front;
              back = rest.among.back ++ parts.after;
              split =
                  parts.split ∙ ap (λ (l : List (List ℕ × Leaf)). parts.before ++ l) (ap (λ (l : List (List ℕ × Leaf)). l ++ parts.after) rest.among.split ∙ append_assoc rest.among.front here parts.after)
                  ∙ sym (append_assoc parts.before rest.among.front (here ++ parts.after));
              ends = rest.among.ends ∙ ap (starts rest.among.back) (sym parts.ends) ∙ sym (starts_both rest.among.back parts.after span.to);
              held = rest.among.held;
              stands = rest.among.stands;
            };
            good = rest.good;
          }

  -- ---- the two choices: under a key, and below an end

  each_any : {Child : Type 0} (children : List (List ℕ × Child)) → Each (λ child. ⊤) children
  each_any [] = tt
  each_any (c ∷ children) = (tt, each_any children)

  pub under_held : (key : List ℕ) (level : ℕ) (bytes : List ℕ) (cells : List Cell) → IsHeld level bytes cells → under_key key bytes ≡ last_under key cells
  under_held key level bytes cells held = ap (λ (b : List ℕ). under b key) held.code ∙ searches.under (record { level = level; cells = cells }) key held.short held.rise

  pub picks_under : (key : List ℕ) (begins : (span : Span) → IsTrue (is_within span key) → IsTrue (is_below span.from span.to)) (level : ℕ) (span : Span) (t : Tree (suc level)) → Share (StandIn level) span t.children
      → IsTrue (all_past span t.past) → IsTrue (is_within span key) → Picks (under_key key) (last_under key) (under_held key) (λ span. IsTrue (is_within span key)) begins level span t
  picks_under key begins level span t share past within =
      let found = child_found (StandIn level) (λ child. ⊤) (root_of level) (pairs_in level) (pairs_within level) key span t.children t.past share (each_any t.children) past within in
      record { place = found.place; child = found.child; at = found.at; is = found.under; good = found.within }

-- the span begins below an end that is not past its own
pub record EndsIn (end : Option (List ℕ)) (span : Span) : Type 0 where
  pub begins : IsTrue (is_below span.from end)
  pub ends : (key : List ℕ) → IsTrue (is_below key end) → IsTrue (is_below key span.to)

not_in_front : (end : Option (List ℕ)) (span : Span) (past : List Cell) → EndsIn end span → IsTrue (all_past span past) → front_of end past ≡ []
not_in_front end span [] ends all = refl
not_in_front end span (c ∷ past) ends all =
    let out : is_below c.0 span.to ≡ false = not_true (is_below c.0 span.to) (both_true (not (is_below c.0 span.to)) (all_past span past) all).0 in
    elim (is_below c.0 end) as (λ t. is_below c.0 end ≡ t → (if t then c ∷ front_of end past else []) ≡ []) [
      | true ↦ λ e. absurd (true≢false (sym (ends.ends c.0 e) ∙ out))
      | false ↦ λ e. refl
    ] refl

-- an end that is not above a key
ends_before : (end : Option (List ℕ)) (key other : List ℕ) → is_below other end ≡ false → IsTrue (is_below key end) → IsTrue (is_below key (Some other))
ends_before None key other out inside = absurd (true≢false out)
ends_before (Some end) key other out inside = below_through key end other inside out

module _ {Child : Type 0} (In : Span → Child → Type 0) (root : Child → ℕ) (end : Option (List ℕ)) where
  abbrev cells_of : List (List ℕ × Child) → List Cell
  cells_of children = map (λ c. child_cell c.0 (root c.1)) children

  record IsLast (span : Span) (children : List (List ℕ × Child)) (past : List Cell) : Type 0 where
    pub place : ℕ
    pub child : Child
    pub at : IsAt place child children
    pub count : length (front_of end (cells_of children ++ past)) ≡ suc place
    pub good : EndsIn end (span_of span children place)

  last_is : (span : Span) (children : List (List ℕ × Child)) (past : List Cell) → Share In span children → IsTrue (all_past span past) → EndsIn end span → IsLast span children past
  last_is span [] past share all ends = absurd share
  last_is span (c ∷ []) past share all ends =
      let here : is_below c.0 end ≡ true = ap (λ (k : List ℕ). is_below k end) share.0 ∙ ends.begins in
      record {
        place = 0;
        child = c.1;
        at = refl;
        count = ap (λ (t : Bool). length (if t then child_cell c.0 (root c.1) ∷ front_of end past else [])) here ∙ ap (λ (l : List Cell). suc (length l)) (not_in_front end span past ends all);
        good = ends;
      }
  last_is span (c ∷ d ∷ children) past share all ends =
      let first : Cell = child_cell c.0 (root c.1) in
      let others : List Cell = cells_of (d ∷ children) ++ past in
      let here : is_below c.0 end ≡ true = ap (λ (k : List ℕ). is_below k end) share.0 ∙ ends.begins in
      let count : length (front_of end (first ∷ others)) ≡ suc (length (front_of end others)) = ap (λ (t : Bool). length (if t then first ∷ front_of end others else [])) here in
      elim (is_below d.0 end) as (λ t. is_below d.0 end ≡ t → IsLast span (c ∷ d ∷ children) past) [
        | true ↦ λ e.
            let rest = last_is (upper span d.0) (d ∷ children) past share.3 all (record { begins = e; ends = ends.ends }) in
            record { place = suc rest.place; child = rest.child; at = rest.at; count = count ∙ ap suc rest.count; good = rest.good }
        | false ↦ λ e. record {
          place = 0;
          child = c.1;
          at = refl;
          count = count ∙ ap (λ (t : Bool). suc (length (if t then child_cell d.0 (root d.1) ∷ front_of end (cells_of children ++ past) else []))) e;
          good = record { begins = ends.begins; ends = λ key inside. ends_before end key d.0 e inside };
        }
      ] refl

-- the last cell in front of an end
abbrev pub last_in : Option (List ℕ) → List Cell → Option ℕ
last_in end cells = one_before (length (front_of end cells))

module _ (searches : Searches) (finds : Finds) (reads : ReadsCells) (lo hi : ℕ) (small : hi < 2 ^ 32) (s : State) where
  pub below_end : (end : Option (List ℕ)) (level : ℕ) (bytes : List ℕ) (cells : List Cell) → IsHeld level bytes cells → last_below end bytes ≡ last_in end cells
  below_end end level bytes cells held = ap (option_and_then one_before) (front_held finds level bytes cells held end)

  pub picks_below : (end : Option (List ℕ)) (begins : (span : Span) → EndsIn end span → IsTrue (is_below span.from span.to)) (level : ℕ) (span : Span) (t : Tree (suc level)) → Share (StandIn level) span t.children
      → IsTrue (all_past span t.past) → EndsIn end span → Picks searches reads lo hi small s (last_below end) (last_in end) (below_end end) (EndsIn end) begins level span t
  picks_below end begins level span t share past ends =
      let found = last_is (StandIn level) (root_of level) end span t.children t.past share past ends in
      record { place = found.place; child = found.child; at = found.at; is = ap one_before found.count; good = found.good }
