-- A key's spot among pairs that are read one by one.
use Rattle.std.proofs.Common.{◌≡◌, ◌≤◌, ℕ, zero, suc, ◌+◌, ◌-◌, ◌==◌, Bool, true, false, ◌&&◌, cond, not, if◌then◌else◌, T, Option, None, Some, is_some, List, [], ◌∷◌, ◌++◌, length, take, drop, refl, sym, ap, ◌∙◌, subst, arith, append_assoc, length-append, option_map, option_and_then, Ordering, Less, Equal, Greater, is_lt, is_eq, true≢false, inl, inr}
use Rattle.std.specs.Prelude.{nat_lt, ⊤}
use Rattle.std.specs.Ordering.{ordering_reverse}
use Rattle.std.specs.Cmp.Lexicographic.{nat_list_cmp_total}
use Rattle.std.proofs.lemmas.Bool.Decides.{eqb_tells}
use Rattle.std.specs.FinMap.Entries.{by_order, put, find, is_sorted, below_all}
use Rattle.std.proofs.Math.Seq.{drop-append_seam}
use Rattle.std.proofs.lemmas.Bool.{le-ltb, lt-ltb, ltb-false, ltb-true}
use Rattle.key_entries.specs.Short.{short_code}
use Rattle.key_entries.specs.Entries.{byte_order, short_field, entry_code, entries_code, entry_in, entries_in, rising}
use Rattle.key_entries.specs.EntryLaws.{AreBytes, short_exact, entries_are}
use Rattle.key_entries.specs.KeyLaws.{first, second, same_key, less_if, below_less, rise_behind}
use Rattle.key_entries.specs.RisingLaws.{rising_known, empty_below}
use Rattle.key_entries.specs.Pairs.{has, without}
use Rattle.key_entries.specs.Spots.{IsSpot, pairs_in}
use Rattle.key_entries.specs.declared.spot.Spot.{Spot}
use Rattle.key_entries.proofs.PlaceLemmas.{not_found, all_kept}

abbrev Pairs : Type 0
Pairs = List (List ℕ × List ℕ)

abbrev code : Pairs → List ℕ
code pairs = entries_code short_field pairs

abbrev size : List ℕ × List ℕ → ℕ
size e = length (entry_code short_field e)

abbrev pub span : ℕ → ℕ → Spot
span start end = record { start = start; end = end }

abbrev behind : ℕ → Spot → Spot
behind n s = span (n + s.start) (n + s.end)

abbrev spot_in : List ℕ → Pairs → Spot
spot_in key [] = span 0 0
spot_in key (e ∷ es) = by_order (byte_order key e.0) (span 0 0) (span 0 (size e)) (behind (size e) (spot_in key es))

-- lists that are cut behind a front
take_behind : (a c : List ℕ) (n : ℕ) → take (length a + n) (a ++ c) ≡ a ++ take n c
take_behind [] c n = let none : 0 + n ≡ n = omega arith in ap (λ (k : ℕ). take k c) none
take_behind (x ∷ a) c n =
    let more : suc (length a) + n ≡ suc (length a + n) = omega arith in
    ap (λ (k : ℕ). take k (x ∷ (a ++ c))) more ∙ ap (λ (l : List ℕ). x ∷ l) (take_behind a c n)

drop_behind : (a c : List ℕ) (n : ℕ) → drop (length a + n) (a ++ c) ≡ drop n c
drop_behind [] c n = let none : 0 + n ≡ n = omega arith in ap (λ (k : ℕ). drop k c) none
drop_behind (x ∷ a) c n =
    let more : suc (length a) + n ≡ suc (length a + n) = omega arith in
    ap (λ (k : ℕ). drop k (x ∷ (a ++ c))) more ∙ drop_behind a c n

lt_behind : (n a b : ℕ) → nat_lt (n + a) (n + b) ≡ nat_lt a b
lt_behind n a b =
    elim (nat_lt a b) as (λ t. nat_lt a b ≡ t → nat_lt (n + a) (n + b) ≡ t) [
      | true ↦ λ is. lt-ltb (n + a) (n + b) (omega (arith, ltb-true a b is))
      | false ↦ λ is. le-ltb (n + a) (n + b) (omega (arith, ltb-false a b is))
    ] refl

module _ (key : List ℕ) where
  -- what the spot says of the pairs
  put_spot : (value : List ℕ) (es : Pairs) → code (put byte_order key value es) ≡ take (spot_in key es).start (code es) ++ (entry_code short_field (key, value) ++ drop (spot_in key es).end (code es))
  put_spot value [] = refl
  put_spot value (e ∷ es) =
      let ec = entry_code short_field e in
      let new = entry_code short_field (key, value) in
      let rest = entries_code short_field es in
      elim (byte_order key e.0) as (λ o. byte_order key e.0 ≡ o → entries_code short_field (by_order o ((key, value) ∷ e ∷ es) ((e.0, value) ∷ es) (e ∷ put byte_order key value es))
      ≡ take (by_order o (span 0 0) (span 0 (length ec)) (behind (length ec) (spot_in key es))).start (ec ++ rest)
      ++ (new ++ drop (by_order o (span 0 0) (span 0 (length ec)) (behind (length ec) (spot_in key es))).end (ec ++ rest))) [
        | Less ↦ λ is. refl
        | Equal ↦ λ is. ap (λ (k : List ℕ). entry_code short_field (k, value) ++ rest) (sym (same_key key e.0 is)) ∙ ap (λ (l : List ℕ). new ++ l) (sym (drop-append_seam ec rest))
        | Greater ↦ λ is.
            ap (λ (l : List ℕ). ec ++ l) (put_spot value es)
            ∙ sym (append_assoc ec (take (spot_in key es).start rest) (new ++ drop (spot_in key es).end rest))
            ∙ ap (λ (l : List ℕ). l ++ (new ++ drop (spot_in key es).end rest)) (sym (take_behind ec rest (spot_in key es).start))
            ∙ ap (λ (l : List ℕ). take (length ec + (spot_in key es).start) (ec ++ rest) ++ (new ++ l)) (sym (drop_behind ec rest (spot_in key es).end))
      ] refl

  without_spot : (es : Pairs) → T (is_sorted byte_order es) → code (without key es) ≡ take (spot_in key es).start (code es) ++ drop (spot_in key es).end (code es)
  without_spot [] sorted = refl
  without_spot (e ∷ es) sorted =
      let ec = entry_code short_field e in
      let rest = entries_code short_field es in
      let below = first (below_all byte_order e.0 es) (is_sorted byte_order es) sorted in
      elim (byte_order key e.0) as (λ o. byte_order key e.0 ≡ o → entries_code short_field (cond (not (is_eq o)) (e ∷ without key es) (without key es))
      ≡ take (by_order o (span 0 0) (span 0 (length ec)) (behind (length ec) (spot_in key es))).start (ec ++ rest)
      ++ drop (by_order o (span 0 0) (span 0 (length ec)) (behind (length ec) (spot_in key es))).end (ec ++ rest)) [
        | Less ↦ λ is. ap (λ (l : Pairs). entries_code short_field (e ∷ l)) (all_kept key es (below_less key e.0 es is below))
        | Equal ↦ λ is. ap (entries_code short_field) (subst (λ (k : List ℕ). without k es ≡ es) (sym (same_key key e.0 is)) (all_kept e.0 es below)) ∙ sym (drop-append_seam ec rest)
        | Greater ↦ λ is.
            ap (λ (l : List ℕ). ec ++ l) (without_spot es (second (below_all byte_order e.0 es) (is_sorted byte_order es) sorted))
            ∙ sym (append_assoc ec (take (spot_in key es).start rest) (drop (spot_in key es).end rest))
            ∙ ap (λ (l : List ℕ). l ++ drop (spot_in key es).end rest) (sym (take_behind ec rest (spot_in key es).start))
            ∙ ap (λ (l : List ℕ). take (length ec + (spot_in key es).start) (ec ++ rest) ++ l) (sym (drop_behind ec rest (spot_in key es).end))
      ] refl

  there_spot : (es : Pairs) → T (is_sorted byte_order es) → has key es ≡ nat_lt (spot_in key es).start (spot_in key es).end
  there_spot [] sorted = refl
  there_spot (e ∷ es) sorted =
      let ec = entry_code short_field e in
      let below = first (below_all byte_order e.0 es) (is_sorted byte_order es) sorted in
      elim (byte_order key e.0) as (λ o. byte_order key e.0 ≡ o → is_some (cond (is_eq o) (Some e.1) (find byte_order key es))
      ≡ nat_lt (by_order o (span 0 0) (span 0 (length ec)) (behind (length ec) (spot_in key es))).start (by_order o (span 0 0) (span 0 (length ec)) (behind (length ec) (spot_in key es))).end) [
        | Less ↦ λ is. ap is_some (not_found key es (below_less key e.0 es is below))
        | Equal ↦ λ is. sym (lt-ltb 0 (length ec) (omega (arith, length-append (short_code e.0) (short_code e.1))))
        | Greater ↦ λ is. there_spot es (second (below_all byte_order e.0 es) (is_sorted byte_order es) sorted) ∙ sym (lt_behind (length ec) (spot_in key es).start (spot_in key es).end)
      ] refl

  order_spot : (es : Pairs) → ((spot_in key es).start ≤ (spot_in key es).end) × ((spot_in key es).end ≤ length (code es))
  order_spot [] = (omega arith, omega arith)
  order_spot (e ∷ es) =
      let ec = entry_code short_field e in
      let rest = order_spot es in
      elim (byte_order key e.0) as (λ o. ((by_order o (span 0 0) (span 0 (length ec)) (behind (length ec) (spot_in key es))).start ≤ (by_order o (span 0 0) (span 0 (length ec)) (behind (length ec) (spot_in key es))).end)
      × ((by_order o (span 0 0) (span 0 (length ec)) (behind (length ec) (spot_in key es))).end ≤ length (ec ++ entries_code short_field es))) [
        | Less ↦ (omega arith, omega arith)
        | Equal ↦ (omega arith, omega (arith, length-append ec (entries_code short_field es)))
        | Greater ↦ (omega (arith, rest.0), omega (arith, rest.1, length-append ec (entries_code short_field es)))
      ]

  -- the spot, from what was found so far, behind so many bytes, and the pairs behind the last key
  abbrev pub goes_on : List ℕ → ℕ → Spot → Option Pairs → Option Spot
  goes_on last read spot None = None
  goes_on last read spot (Some es) =
      if below_all byte_order last es && is_sorted byte_order es then Some (if is_lt (byte_order last key) then behind read (spot_in key es) else spot) else None

  pub record IsReadTo (count : ℕ) (bytes last : List ℕ) (spot : Spot) (left : ℕ) (rest : List ℕ) : Type 0 where
    pub so_far : goes_on [] 0 (span 0 0) (entries_in short_field count bytes) ≡ goes_on last (length bytes - length rest) spot (entries_in short_field left rest)
    pub at : is_lt (byte_order last key) ≡ true → spot ≡ span (length bytes - length rest) (length bytes - length rest)
    pub room : length rest ≤ length bytes

  pub read_start : (count : ℕ) (bytes : List ℕ) (left : ℕ) → left ≡ count → IsReadTo count bytes [] (span 0 0) left bytes
  read_start count bytes left same =
      let none : 0 ≡ length bytes - length bytes = omega arith in
      record {
        so_far = ap (λ (n : ℕ). goes_on [] 0 (span 0 0) (entries_in short_field n bytes)) (sym same) ∙ ap (λ (n : ℕ). goes_on [] n (span 0 0) (entries_in short_field left bytes)) none;
        at = λ _. ap (λ (n : ℕ). span n n) none;
        room = omega arith;
      }

  abbrev with_pair : List ℕ × List ℕ → Option Pairs → Option Pairs
  with_pair e o = option_map (λ es. e ∷ es) o

  entries_at : (n : ℕ) (rest : List ℕ) (e : List ℕ × List ℕ) → entry_in short_field rest ≡ Some e
      → entries_in short_field (suc n) rest ≡ with_pair e (entries_in short_field n (drop (length (entry_code short_field e)) rest))
  entries_at n rest e found =
      ap (λ (o : Option (List ℕ × List ℕ)). option_and_then (λ (e : List ℕ × List ℕ). option_map (λ (es : Pairs). e ∷ es) (entries_in short_field n (drop (length (entry_code short_field e)) rest))) o) found

  abbrev pub moved_by : Ordering → Spot → ℕ → Spot
  moved_by o spot read = by_order o spot (span spot.start read) (span read read)

  -- where a pair's key is below, at or above the key
  one_on : (last : List ℕ) (read after : ℕ) (spot : Spot) (e : List ℕ × List ℕ) (es : Pairs) → byte_order last e.0 ≡ Less → after ≡ read + length (entry_code short_field e)
      → (is_lt (byte_order last key) ≡ true → spot ≡ span read read)
      → (if is_lt (byte_order last key) then behind read (spot_in key (e ∷ es)) else spot) ≡ (if is_lt (byte_order e.0 key) then behind after (spot_in key es) else moved_by (byte_order key e.0) spot after)
  one_on last read after spot e es less is at =
      let n = length (entry_code short_field e) in
      let turned : byte_order e.0 key ≡ ordering_reverse (byte_order key e.0) = nat_list_cmp_total.antisymm e.0 key in
      elim (byte_order key e.0) as (λ o. byte_order key e.0 ≡ o → byte_order e.0 key ≡ ordering_reverse o
      → (if is_lt (byte_order last key) then behind read (by_order o (span 0 0) (span 0 n) (behind n (spot_in key es))) else spot)
      ≡ (if is_lt (byte_order e.0 key) then behind after (spot_in key es) else moved_by o spot after)) [
        | Less ↦ λ found back.
            let same : span (read + 0) (read + 0) ≡ span read read = let none : read + 0 ≡ read = omega arith in ap (λ (n : ℕ). span n n) none in
            elim (is_lt (byte_order last key)) as (λ b. (b ≡ true → spot ≡ span read read) → (if b then span (read + 0) (read + 0) else spot) ≡ spot) [ true ↦ λ at. same ∙ sym (at refl) | false ↦ λ at. refl ] at
            ∙ ap (λ (o : Ordering). if is_lt o then behind after (spot_in key es) else spot) (sym back)
        | Equal ↦ λ found back.
            let lt : is_lt (byte_order last key) ≡ true = ap is_lt (subst (λ (k : List ℕ). byte_order last k ≡ Less) (sym (same_key key e.0 found)) less) in
            let here = at lt in
            let start : read + 0 ≡ spot.start = omega (arith, ap (λ (s : Spot). s.start) here) in
            ap (λ (b : Bool). if b then span (read + 0) (read + n) else spot) lt
            ∙ ap (λ (k : ℕ). span k (read + n)) start ∙ ap (λ (k : ℕ). span spot.start k) (sym is)
            ∙ ap (λ (o : Ordering). if is_lt o then behind after (spot_in key es) else span spot.start after) (sym back)
        | Greater ↦ λ found back.
            let lt : is_lt (byte_order last key) ≡ true = ap is_lt (nat_list_cmp_total.trans last e.0 key less back) in
            let moved : (k : ℕ) → read + (n + k) ≡ after + k = λ k. omega (arith, is) in
            ap (λ (b : Bool). if b then span (read + (n + (spot_in key es).start)) (read + (n + (spot_in key es).end)) else spot) lt
            ∙ ap (λ (k : ℕ). span k (read + (n + (spot_in key es).end))) (moved (spot_in key es).start) ∙ ap (λ (k : ℕ). span (after + (spot_in key es).start) k) (moved (spot_in key es).end)
            ∙ ap (λ (o : Ordering). if is_lt o then behind after (spot_in key es) else span after after) (sym back)
      ] refl turned

  step : (last : List ℕ) (read after : ℕ) (spot : Spot) (e : List ℕ × List ℕ) (o : Option Pairs) → byte_order last e.0 ≡ Less → after ≡ read + length (entry_code short_field e)
      → (is_lt (byte_order last key) ≡ true → spot ≡ span read read)
      → goes_on last read spot (with_pair e o) ≡ goes_on e.0 after (moved_by (byte_order key e.0) spot after) o
  step last read after spot e None less is at = refl
  step last read after spot e (Some es) less is at =
      ap (λ (b : Bool). if b then Some (if is_lt (byte_order last key) then behind read (spot_in key (e ∷ es)) else spot) else None) (rise_behind last e es less)
      ∙ ap (λ (s : Spot). if below_all byte_order e.0 es && is_sorted byte_order es then Some s else None) (one_on last read after spot e es less is at)

  -- the spot is at the end of what was read, where that is below the key
  at_end : (read : ℕ) (spot : Spot) (other : List ℕ) → is_lt (byte_order other key) ≡ true → moved_by (byte_order key other) spot read ≡ span read read
  at_end read spot other below =
      let turned : byte_order other key ≡ ordering_reverse (byte_order key other) = nat_list_cmp_total.antisymm other key in
      elim (byte_order key other) as (λ o. byte_order other key ≡ ordering_reverse o → moved_by o spot read ≡ span read read) [
        | Less ↦ λ back. absurd (true≢false (sym below ∙ ap is_lt back))
        | Equal ↦ λ back. absurd (true≢false (sym below ∙ ap is_lt back))
        | Greater ↦ λ back. refl
      ] turned

  pub read_step : (count : ℕ) (bytes last : List ℕ) (spot after : Spot) (left next : ℕ) (rest ahead : List ℕ) (e : List ℕ × List ℕ)
      → IsReadTo count bytes last spot left rest → left ≡ suc next → entry_in short_field rest ≡ Some e → is_lt (byte_order last e.0) ≡ true
      → ahead ≡ drop (length (entry_code short_field e)) rest → length ahead + length (entry_code short_field e) ≡ length rest
      → after ≡ moved_by (byte_order key e.0) spot (length bytes - length ahead)
      → IsReadTo count bytes e.0 after next ahead
  read_step count bytes last spot after left next rest ahead e so more found less there size is =
      let read = length bytes - length ahead in
      record {
        so_far =
            so.so_far
            ∙ ap (λ (n : ℕ). goes_on last (length bytes - length rest) spot (entries_in short_field n rest)) more
            ∙ ap (λ (o : Option Pairs). goes_on last (length bytes - length rest) spot o) (entries_at next rest e found)
            ∙ step last (length bytes - length rest) read spot e (entries_in short_field next (drop (length (entry_code short_field e)) rest)) (less_if (byte_order last e.0) (subst T (sym less) tt)) (omega (arith, size, so.room)) so.at
            ∙ ap (λ (l : List ℕ). goes_on e.0 read (moved_by (byte_order key e.0) spot read) (entries_in short_field next l)) (sym there)
            ∙ ap (λ (s : Spot). goes_on e.0 read s (entries_in short_field next ahead)) (sym is);
        at = λ below. is ∙ at_end read spot e.0 below;
        room = omega (arith, size, so.room);
      }

  pub read_stop : (count : ℕ) (bytes last : List ℕ) (spot : Spot) (left next : ℕ) (rest : List ℕ)
      → IsReadTo count bytes last spot left rest → left ≡ suc next → entry_in short_field rest ≡ None → goes_on [] 0 (span 0 0) (entries_in short_field count bytes) ≡ None
  read_stop count bytes last spot left next rest so more none =
      so.so_far
      ∙ ap (λ (n : ℕ). goes_on last (length bytes - length rest) spot (entries_in short_field n rest)) more
      ∙ ap (λ (o : Option (List ℕ × List ℕ)). goes_on last (length bytes - length rest) spot (option_and_then (λ (e : List ℕ × List ℕ). option_map (λ (es : Pairs). e ∷ es) (entries_in short_field next (drop (length (entry_code short_field e)) rest))) o)) none

  bad : (last : List ℕ) (read : ℕ) (spot : Spot) (e : List ℕ × List ℕ) (o : Option Pairs) → is_lt (byte_order last e.0) ≡ false → goes_on last read spot (with_pair e o) ≡ None
  bad last read spot e None not = refl
  bad last read spot e (Some es) not =
      ap (λ (b : Bool). if (b && below_all byte_order last es) && (below_all byte_order e.0 es && is_sorted byte_order es) then Some (if is_lt (byte_order last key) then behind read (spot_in key (e ∷ es)) else spot) else None) not

  pub read_bad : (count : ℕ) (bytes last : List ℕ) (spot : Spot) (left next : ℕ) (rest : List ℕ) (e : List ℕ × List ℕ)
      → IsReadTo count bytes last spot left rest → left ≡ suc next → entry_in short_field rest ≡ Some e → is_lt (byte_order last e.0) ≡ false
      → goes_on [] 0 (span 0 0) (entries_in short_field count bytes) ≡ None
  read_bad count bytes last spot left next rest e so more found not =
      so.so_far
      ∙ ap (λ (n : ℕ). goes_on last (length bytes - length rest) spot (entries_in short_field n rest)) more
      ∙ ap (λ (o : Option Pairs). goes_on last (length bytes - length rest) spot o) (entries_at next rest e found)
      ∙ bad last (length bytes - length rest) spot e (entries_in short_field next (drop (length (entry_code short_field e)) rest)) not

  pub read_past : (count : ℕ) (bytes last : List ℕ) (spot : Spot) (left : ℕ) (rest : List ℕ)
      → IsReadTo count bytes last spot left rest → left ≡ 0 → false ≡ (length rest == 0) → goes_on [] 0 (span 0 0) (entries_in short_field count bytes) ≡ None
  read_past count bytes last spot left [] so none some = absurd (true≢false (sym some))
  read_past count bytes last spot left (b ∷ rest) so none some = so.so_far ∙ ap (λ (n : ℕ). goes_on last (length bytes - length (b ∷ rest)) spot (entries_in short_field n (b ∷ rest))) none

  pub read_end : (count : ℕ) (bytes last : List ℕ) (spot : Spot) (left : ℕ) (rest : List ℕ)
      → IsReadTo count bytes last spot left rest → left ≡ 0 → true ≡ (length rest == 0) → goes_on [] 0 (span 0 0) (entries_in short_field count bytes) ≡ Some spot
  read_end count bytes last spot left [] so none empty =
      let read = length bytes - 0 in
      let same : span (read + 0) (read + 0) ≡ span read read = let zero : read + 0 ≡ read = omega arith in ap (λ (n : ℕ). span n n) zero in
      so.so_far ∙ ap (λ (n : ℕ). goes_on last read spot (entries_in short_field n [])) none
      ∙ ap (λ (s : Spot). Some s) (elim (is_lt (byte_order last key)) as (λ b. (b ≡ true → spot ≡ span read read) → (if b then span (read + 0) (read + 0) else spot) ≡ spot) [ true ↦ λ at. same ∙ sym (at refl) | false ↦ λ at. refl ] so.at)
  read_end count bytes last spot left (b ∷ rest) so none empty = elim (eqb_tells (length (b ∷ rest)) 0) [ inl same ↦ absurd (omega (arith, same.1)) | inr other ↦ absurd (true≢false (empty ∙ other.0)) ]

  -- the whole
  key_above : 1 ≤ length key → is_lt (byte_order [] key) ≡ true
  key_above some = above key some
    where
      above : (k : List ℕ) → 1 ≤ length k → is_lt (byte_order [] k) ≡ true
      above [] some = absurd (omega (arith, some))
      above (b ∷ k) some = refl

  abbrev FoundIn : ℕ → List ℕ → Option Spot → Type 0
  FoundIn count bytes None = pairs_in count bytes ≡ None
  FoundIn count bytes (Some spot) = (pairs : Pairs) × (pairs_in count bytes ≡ Some pairs) × IsSpot key pairs bytes spot

  whole : 1 ≤ length key → (count : ℕ) (bytes : List ℕ) (o : Option Pairs) → AreBytes bytes → entries_in short_field count bytes ≡ o → FoundIn count bytes (goes_on [] 0 (span 0 0) o)
  whole some count bytes None are from = ap (option_and_then rising) from
  whole some count bytes (Some es) are from =
      elim (is_sorted byte_order es) as (λ b. is_sorted byte_order es ≡ b → FoundIn count bytes (if below_all byte_order [] es && b then Some (if is_lt (byte_order [] key) then behind 0 (spot_in key es) else span 0 0) else None)) [
        | true ↦ λ is.
            let rise : pairs_in count bytes ≡ Some es = ap (option_and_then rising) from ∙ ap (λ (b : Bool). if b then Some es else None) is in
            let known = rising_known short_field (λ v. ⊤) (λ bytes x e. tt) count bytes es rise in
            let same : bytes ≡ code es = (entries_are short_field short_exact count bytes es are from).split in
            let order = order_spot es in
            let start : (spot_in key es).start ≡ 0 + (spot_in key es).start = omega arith in
            let end : (spot_in key es).end ≡ 0 + (spot_in key es).end = omega arith in
            let moved : spot_in key es ≡ behind 0 (spot_in key es) = ap (λ (k : ℕ). span k (spot_in key es).end) start ∙ ap (λ (k : ℕ). span (0 + (spot_in key es).start) k) end in
            let found : IsSpot key es bytes (spot_in key es) = subst (λ (l : List ℕ). IsSpot key es l (spot_in key es)) (sym same)
            (record { order = order.0; within = order.1; there = there_spot es known.1; after_put = λ value. put_spot value es; after_delete = without_spot es known.1 }) in
            subst (λ (b : Bool). FoundIn count bytes (if b && true then Some (if is_lt (byte_order [] key) then behind 0 (spot_in key es) else span 0 0) else None)) (sym (empty_below es known.0.short))
            (subst (λ (b : Bool). FoundIn count bytes (Some (if b then behind 0 (spot_in key es) else span 0 0))) (sym (key_above some)) (es, rise, subst (IsSpot key es bytes) moved found))
        | false ↦ λ is.
            let rise : pairs_in count bytes ≡ None = ap (option_and_then rising) from ∙ ap (λ (b : Bool). if b then Some es else None) is in
            elim (below_all byte_order [] es) as (λ b. FoundIn count bytes (if b && false then Some (if is_lt (byte_order [] key) then behind 0 (spot_in key es) else span 0 0) else None)) [ true ↦ rise | false ↦ rise ]
      ] refl

  pub spot_found : 1 ≤ length key → (count : ℕ) (bytes : List ℕ) (spot : Spot) → AreBytes bytes → goes_on [] 0 (span 0 0) (entries_in short_field count bytes) ≡ Some spot
      → (pairs : Pairs) × (pairs_in count bytes ≡ Some pairs) × IsSpot key pairs bytes spot
  spot_found some count bytes spot are is = subst (FoundIn count bytes) is (whole some count bytes (entries_in short_field count bytes) are refl)

  pub spot_none : 1 ≤ length key → (count : ℕ) (bytes : List ℕ) → AreBytes bytes → goes_on [] 0 (span 0 0) (entries_in short_field count bytes) ≡ None → pairs_in count bytes ≡ None
  spot_none some count bytes are is = subst (FoundIn count bytes) is (whole some count bytes (entries_in short_field count bytes) are refl)
