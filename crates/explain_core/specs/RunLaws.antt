-- Runs in two parts, and first steps of a list, of whose slot gates any may be taken that stand together.
use Rattle.std.proofs.Common.{◌≡◌, ◌∙◌, ◌⊎◌, inl, inr, sym, subst, ap, Bool, true, false, List, [], ◌∷◌, ◌++◌, length, drop, refl, arith}
use Rattle.std.proofs.lemmas.List.{append-nil, append_assoc}
use Rattle.oper_core.specs.Meaning.{Meaning}
use Rattle.explain_core.specs.RoundGates.{Gate, gate_step, gates_of, picked, picked_allowed}
use Rattle.explain_core.specs.World.{World, Step, step, run, AreAllowed}

-- the world after two lists of steps
pub run-append : {O : Type 0} (m : Meaning O) (w : World O) (xs ys : List (Step O)) → run m w (xs ++ ys) ≡ run m (run m w xs) ys
unfolding run
run-append m w [] ys = refl
run-append m w (x ∷ xs) ys = run-append m (step m w x) xs ys

-- steps that may be taken, and more of them after
pub allowed-append : {O : Type 0} (m : Meaning O) (w : World O) (xs ys : List (Step O)) → AreAllowed m w xs → AreAllowed m (run m w xs) ys → AreAllowed m w (xs ++ ys)
unfolding run
allowed-append m w [] ys f g = g
allowed-append m w (x ∷ xs) ys f g = (f.0, allowed-append m (step m w x) xs ys f.1 g)

-- Some first steps of a list, and of the slot gates that stand directly behind them any. Where no two slot gates of the list
-- stand one directly after the other these are its first steps (`begins-first`).
pub record Begins {O : Type 0} (steps taken : List (Step O)) : Type 0 where
  pub front : List (Step O)
  pub gates : List Gate
  pub rest : List (Step O)
  pub split : steps ≡ front ++ (gates_of gates ++ rest)
  pub which : List Bool
  pub picks : taken ≡ front ++ gates_of (picked which gates)

pub begins-none : {O : Type 0} (steps : List (Step O)) → Begins steps []
begins-none steps = record { front = []; gates = []; rest = steps; split = refl; which = []; picks = refl }

pub begins-all : {O : Type 0} (steps : List (Step O)) → Begins steps steps
begins-all steps = record { front = steps; gates = []; rest = []; split = sym (append-nil steps); which = []; picks = sym (append-nil steps) }

-- any of some slot gates
pub begins-gates : {O : Type 0} (gates : List Gate) (which : List Bool) → Begins {O = O} (gates_of gates) (gates_of (picked which gates))
begins-gates gates which = record { front = []; gates = gates; rest = []; split = sym (append-nil (gates_of gates)); which = which; picks = refl }

-- some first steps of a list are some of a longer one
pub begins-longer : {O : Type 0} (xs ys taken : List (Step O)) → Begins xs taken → Begins (xs ++ ys) taken
begins-longer {O} xs ys taken is = record {
  front = is.front;
  gates = is.gates;
  rest = is.rest ++ ys;
  split = ap (λ (l : List (Step O)). l ++ ys) is.split ∙ append_assoc is.front (gates_of is.gates ++ is.rest) ys ∙ ap (λ (l : List (Step O)). is.front ++ l) (append_assoc (gates_of is.gates) is.rest ys);
  which = is.which;
  picks = is.picks;
}

-- all of a list and some first steps of the next are some of both
pub begins-behind : {O : Type 0} (xs ys taken : List (Step O)) → Begins ys taken → Begins (xs ++ ys) (xs ++ taken)
begins-behind {O} xs ys taken is = record {
  front = xs ++ is.front;
  gates = is.gates;
  rest = is.rest;
  split = ap (λ (l : List (Step O)). xs ++ l) is.split ∙ sym (append_assoc xs is.front (gates_of is.gates ++ is.rest));
  which = is.which;
  picks = ap (λ (l : List (Step O)). xs ++ l) is.picks ∙ sym (append_assoc xs is.front (gates_of (picked is.which is.gates)));
}

-- none of a list that begins with another step, or that step and some of what follows
pub begins-first : {O : Type 0} (s : Step O) (steps taken : List (Step O)) → ((g : Gate) → gate_step g ≡ s → ⊥) → Begins (s ∷ steps) taken → (taken ≡ []) ⊎ ((more : List (Step O)) × (taken ≡ s ∷ more) × Begins steps more)
begins-first {O} s steps taken none is = by_front is.front is.gates is.split is.picks
  where
    by_front : (front : List (Step O)) (gates : List Gate) → s ∷ steps ≡ front ++ (gates_of gates ++ is.rest) → taken ≡ front ++ gates_of (picked is.which gates)
        → (taken ≡ []) ⊎ ((more : List (Step O)) × (taken ≡ s ∷ more) × Begins steps more)
    by_front [] [] split picks = inl picks
    by_front [] (g ∷ gates) split picks = absurd (none g (sym (ap (λ (l : List (Step O)). first_or s l) split)))
      where
        first_or : Step O → List (Step O) → Step O
        first_or d [] = d
        first_or d (t ∷ more) = t
    by_front (t ∷ front) gates split picks = inr (
      front ++ gates_of (picked is.which gates),
      picks ∙ ap (λ (u : Step O). u ∷ (front ++ gates_of (picked is.which gates))) (sym (ap (λ (l : List (Step O)). first_or s l) split)),
      record { front = front; gates = gates; rest = is.rest; split = ap (λ (l : List (Step O)). drop 1 l) split; which = is.which; picks = refl },
    )
      where
        first_or : Step O → List (Step O) → Step O
        first_or d [] = d
        first_or d (u ∷ more) = u

-- of no steps there are none
pub begins-empty : {O : Type 0} (taken : List (Step O)) → Begins [] taken → taken ≡ []
begins-empty {O} taken is = by_front is.front is.gates is.split is.picks
  where
    by_front : (front : List (Step O)) (gates : List Gate) → [] ≡ front ++ (gates_of gates ++ is.rest) → taken ≡ front ++ gates_of (picked is.which gates) → taken ≡ []
    by_front [] [] split picks = picks
    by_front [] (g ∷ gates) split picks = absurd (omega (arith, ap (λ (l : List (Step O)). length l) split))
    by_front (t ∷ front) gates split picks = absurd (omega (arith, ap (λ (l : List (Step O)). length l) split))

-- of one step there is none, or that
pub begins-one : {O : Type 0} (s : Step O) (taken : List (Step O)) → Begins (s ∷ []) taken → (taken ≡ []) ⊎ (taken ≡ s ∷ [])
begins-one {O} s taken is = by_front is.front is.gates is.which is.split is.picks
  where
    same : (t : Step O) (more : List (Step O)) → s ∷ [] ≡ t ∷ more → t ≡ s
    same t more split = sym (ap (λ (l : List (Step O)). first_or s l) split)
      where
        first_or : Step O → List (Step O) → Step O
        first_or d [] = d
        first_or d (u ∷ rest) = u

    by_front : (front : List (Step O)) (gates : List Gate) (which : List Bool) → s ∷ [] ≡ front ++ (gates_of gates ++ is.rest) → taken ≡ front ++ gates_of (picked which gates) → (taken ≡ []) ⊎ (taken ≡ s ∷ [])
    by_front [] [] which split picks = inl picks
    by_front [] (g ∷ []) [] split picks = inl picks
    by_front [] (g ∷ []) (true ∷ which) split picks = inr (picks ∙ ap (λ (u : Step O). u ∷ []) (same (gate_step g) is.rest split))
    by_front [] (g ∷ []) (false ∷ which) split picks = inl picks
    by_front [] (g ∷ h ∷ gates) which split picks = absurd (omega (arith, ap (λ (l : List (Step O)). length l) split))
    by_front (t ∷ []) [] which split picks = inr (picks ∙ ap (λ (u : Step O). u ∷ []) (same t is.rest split))
    by_front (t ∷ []) (g ∷ gates) which split picks = absurd (omega (arith, ap (λ (l : List (Step O)). length l) split))
    by_front (t ∷ u ∷ front) gates which split picks = absurd (omega (arith, ap (λ (l : List (Step O)). length l) split))

-- what holds of a list of steps exactly where it holds of each of them holds of these
module _ {O : Type 0} (Q : Step O → Type 0) (P : List (Step O) → Type 0) (none : P []) (both : (s : Step O) (steps : List (Step O)) → Q s → P steps → P (s ∷ steps)) (parts : (s : Step O) (steps : List (Step O)) → P (s ∷ steps) → Q s × P steps) where
  each_append : (xs ys : List (Step O)) → P xs → P ys → P (xs ++ ys)
  each_append [] ys first second = second
  each_append (x ∷ xs) ys first second = let p = parts x xs first in both x (xs ++ ys) p.0 (each_append xs ys p.1 second)

  each_parts : (xs ys : List (Step O)) → P (xs ++ ys) → P xs × P ys
  each_parts [] ys are = (none, are)
  each_parts (x ∷ xs) ys are = let p = parts x (xs ++ ys) are in let more = each_parts xs ys p.1 in (both x xs p.0 more.0, more.1)

  each_picked : (which : List Bool) (gates : List Gate) → P (gates_of gates) → P (gates_of (picked which gates))
  each_picked which [] are = none
  each_picked [] (g ∷ gates) are = none
  each_picked (true ∷ which) (g ∷ gates) are = let p = parts (gate_step g) (gates_of gates) are in both (gate_step g) (gates_of (picked which gates)) p.0 (each_picked which gates p.1)
  each_picked (false ∷ which) (g ∷ gates) are = each_picked which gates (parts (gate_step g) (gates_of gates) are).1

  pub begins-each : (steps taken : List (Step O)) → Begins steps taken → P steps → P taken
  begins-each steps taken is are =
      let p = each_parts is.front (gates_of is.gates ++ is.rest) (subst P is.split are) in
      subst P (sym is.picks) (each_append is.front (gates_of (picked is.which is.gates)) p.0 (each_picked is.which is.gates (each_parts (gates_of is.gates) is.rest p.1).0))

-- of steps that may be taken the first may be taken, and the others after them
pub allowed-front : {O : Type 0} (m : Meaning O) (w : World O) (xs ys : List (Step O)) → AreAllowed m w (xs ++ ys) → AreAllowed m w xs × AreAllowed m (run m w xs) ys
unfolding run
allowed-front m w [] ys may = (tt, may)
allowed-front m w (x ∷ xs) ys may = let r = allowed-front m (step m w x) xs ys may.1 in ((may.0, r.0), r.1)

pub begins-allowed : {O : Type 0} (m : Meaning O) (w : World O) (steps taken : List (Step O)) → Begins steps taken → AreAllowed m w steps → AreAllowed m w taken
begins-allowed {O} m w steps taken is may =
    let first = allowed-front m w is.front (gates_of is.gates ++ is.rest) (subst (λ (l : List (Step O)). AreAllowed m w l) is.split may) in
    let gates = (allowed-front m (run m w is.front) (gates_of is.gates) is.rest first.1).0 in
    subst (λ (l : List (Step O)). AreAllowed m w l) (sym is.picks) (allowed-append m w is.front (gates_of (picked is.which is.gates)) first.0 (picked_allowed m is.which (run m w is.front) is.gates gates))
