-- What holds of a force and of an identity write holds of each step of several identity writes.
use Rattle.std.proofs.Common.{ℕ, ◌+◌, Bool, true, List, [], ◌∷◌, ◌++◌, refl}
use Rattle.std.specs.Prelude.{◌^◌, ◌&&◌, ◌==◌, IsTrue, nat_lt, nat_le, if◌then◌else◌}
use Rattle.std.specs.List.{AllByRecursion}
use Rattle.std.proofs.lemmas.Bool.{cond_both, eq-eqb, or_left, or_right}
use Rattle.oper_core.specs.Meaning.{Meaning}
use Rattle.oper_core.specs.State.{is_among}
use Rattle.explain_core.specs.History.Member.{Identity}
use Rattle.explain_core.specs.World.{World, Step, run, end_of}
use Rattle.explain_core.specs.World.Step.{Append, Block_gate}
use Rattle.running_store.specs.Courses.{Course, and_then, buffered, cached_length, course, force_steps, grown, identity_length, identity_steps, placed, room_steps, waits}
use Rattle.running_store.specs.Courses.Stop.{Through, Full, At_end}
use Rattle.running_store.specs.Courses.Laws.{behind_both}
use Rattle.cache_manager.specs.InstallCourses.{identities, identity_course}

module _ {O : Type 0} (m : Meaning O) (P : Step O → Type 0) where
  abbrev pub Each : List (Step O) → Type 0
  Each steps = AllByRecursion P steps

  pub each_append : (xs ys : List (Step O)) → Each xs → Each ys → Each (xs ++ ys)
  each_append [] ys first second = second
  each_append (x ∷ xs) ys first second = (first.0, each_append xs ys first.1 second)

  pub each_either : (b : Bool) (c e : Course O) → Each c.steps → Each e.steps → Each (if b then c else e).steps
  each_either b c e first second = cond_both b c e (λ (c : Course O). Each c.steps) (λ is. first) (λ is. second)

  pub each_then : (w : World O) (first : Course O) (next : World O → ℕ → Course O) → Each first.steps → ((v : World O) (used : ℕ) → Each (next v used).steps) → Each (and_then m w first next).steps
  each_then w first next a b =
      let second = next (run m w first.steps) first.used in
      behind_both (λ (c : Course O). Each c.steps) first second first.stop (λ on. each_append first.steps second.steps a (b (run m w first.steps) first.used)) (λ ends. a)

  module _ (force : P Block_gate) where
    pub each_force : (w : World O) → Each (force_steps m w)
    each_force w = cond_both (waits m w) (Block_gate ∷ []) [] Each (λ is. (force, tt)) (λ is. tt)

    pub each_room : (w : World O) (n : ℕ) → Each (room_steps m w n)
    each_room w n = cond_both (nat_lt (2 ^ 30) (buffered m w + n)) (force_steps m w) [] Each (λ is. each_force w) (λ is. tt)

    each_identity : (x : ℕ) → ((value : List ℕ) → P (Append (Identity x value))) → (w : World O) (used : ℕ) → Each (identity_course m x w used).steps
    each_identity x write w used =
        let n = identity_length (cached_length m w x) in
        each_then w (course (room_steps m w n) used Through) (λ v used. placed m v used (2 ^ 48) n true (identity_steps m x v))
        (each_room w n)
        (λ v used.
        let fits = course (identity_steps m x v) (grown m v used n) Through in
        let ends = course (force_steps m v) used (At_end (end_of v)) in
        each_either (nat_lt (2 ^ 48) (grown m v used n)) (course (force_steps m v) used (Full used (n + 5) (2 ^ 48))) (if true && nat_le (2 ^ 62) (end_of v) then ends else fits) (each_force v)
        (each_either (true && nat_le (2 ^ 62) (end_of v)) ends fits (each_force v) (write (v.cache x).value, tt)))

    pub each_identities : (objects : List ℕ) → ((x : ℕ) → IsTrue (is_among x objects) → (value : List ℕ) → P (Append (Identity x value))) → (w : World O) (used : ℕ) → Each (identities m objects w used).steps
    each_identities [] write w used = tt
    each_identities (x ∷ objects) write w used = each_then w (identity_course m x w used) (λ v used. identities m objects v used)
        (each_identity x (write x (or_left (x == x) (is_among x objects) (eq-eqb x x refl))) w used)
        (λ v used. each_identities objects (λ y there. write y (or_right (y == x) (is_among y objects) there)) v used)
