-- Identity writes may be taken, and each makes one object less that may still have to be logged.
use Rattle.std.proofs.Common.{◌≡◌, ◌∙◌, subst, ℕ, suc, ◌+◌, ◌<◌, true, List, [], ◌∷◌, length, refl, arith}
use Rattle.std.specs.Prelude.{All, IsTrue, ◌^◌, ◌==◌}
use Rattle.std.proofs.lemmas.Bool.{both_ways, or_left, or_right, eq-eqb}
use Rattle.std.proofs.lemmas.List.Elements.{All-head, All-tail}
use Rattle.oper_core.specs.State.{is_among}
use Rattle.oper_core.specs.Meaning.{Meaning}
use Rattle.explain_core.specs.World.{World, step, run, end_of, AreAllowed}
use Rattle.running_store.specs.Courses.{Course, course, room_steps, placed, cached_length, identity_length, identity_steps}
use Rattle.cache_manager.specs.InstallCourses.{identity_course, identities}
use Rattle.running_store.specs.Courses.Stop.{Through}
use Rattle.running_store.specs.Running.{IsRunning, running_after, KeepsSound}
use Rattle.cache_manager.proofs.Goes.{Goes, goes_then, goes_weaker, goes_none, room_goes, placed_goes}
use Rattle.cache_manager.proofs.Lists.{AreApart}
use Rattle.cache_manager.proofs.Plain.{is_plain, plain_in, left_in, others_plain, one_plain_less, as_much_left}

-- after an identity write of x
pub record IsLogged {O : Type 0} (m : Meaning O) (w : World O) (x : ℕ) (v : World O) : Type 0 where
  pub running : IsRunning m v
  pub left : IsTrue (is_plain w x) → left_in m v ≡ left_in m w
  pub plain : IsTrue (is_plain w x) → plain_in m w ≡ suc (plain_in m v)
  pub others : (y : ℕ) → (y ≡ x → ⊥) → is_plain v y ≡ is_plain w y
  pub members : (n : ℕ) → IsTrue (w.graph n) → IsTrue (v.graph n)

-- after so many of them
pub record AreLogged {O : Type 0} (m : Meaning O) (w : World O) (count : ℕ) (v : World O) : Type 0 where
  pub running : IsRunning m v
  pub left : left_in m v ≡ left_in m w
  pub plain : plain_in m w ≡ count + plain_in m v
  pub members : (n : ℕ) → IsTrue (w.graph n) → IsTrue (v.graph n)

module _ {O : Type 0} (m : Meaning O) (keeps : KeepsSound m) where
  append_allowed : (w : World O) (x : ℕ) → IsRunning m w → x < m.objects → AreAllowed m w (identity_steps m x w)
  append_allowed w x is lt = ((is.live, (lt, refl, is.alone)), tt)

  append_logs : (w : World O) (x : ℕ) → IsRunning m w → x < m.objects → IsLogged m w x (run m w (identity_steps m x w))
  unfolding run step
  append_logs w x is lt = record {
    running = running_after m w (identity_steps m x w) keeps is (tt, tt) (append_allowed w x is lt);
    left = as_much_left m w is.sound x lt;
    plain = one_plain_less m w is.sound x lt;
    others = others_plain m w is.sound x;
    members = λ n there. or_right (n == end_of w) (w.graph n) there;
  }

  pub identity_goes : (x : ℕ) (w : World O) (used : ℕ) → IsRunning m w → x < m.objects → Goes m w (identity_course m x w used) (IsLogged m w x)
  identity_goes x w used is lt =
      let n = identity_length (cached_length m w x) in
      let next : World O → ℕ → Course O = λ v used. placed m v used (2 ^ 48) n true (identity_steps m x v) in
      let P : World O → Type 0 = λ v. Goes m v (next v used) (IsLogged m w x) in
      goes_then m w (course (room_steps m w n) used Through) next P (IsLogged m w x)
      (room_goes m keeps w n used P is (λ forced tables pending running.
      let v : World O = record w { forced = forced; tables = tables; pending = pending } in
      let logs = append_logs v x running lt in
      placed_goes m keeps v used (2 ^ 48) n true (identity_steps m x v) (IsLogged m w x) running (append_allowed v x running lt)
      (record { running = logs.running; left = logs.left; plain = logs.plain; others = logs.others; members = logs.members })))
      (λ v goes. goes)

  -- one after the other, of any objects that there are
  pub identities_run : (objects : List ℕ) (w : World O) (used : ℕ) → IsRunning m w → All (λ x. x < m.objects) objects → Goes m w (identities m objects w used) (IsRunning m)
  identities_run [] w used is each = goes_none m w used (IsRunning m) is
  identities_run (x ∷ objects) w used is each =
      goes_then m w (identity_course m x w used) (λ v used. identities m objects v used) (IsLogged m w x) (IsRunning m)
      (identity_goes x w used is (All-head (λ x. x < m.objects) x objects each))
      (λ v logged. identities_run objects v (identity_course m x w used).used logged.running (All-tail (λ x. x < m.objects) x objects each))

  pub identities_goes : (objects : List ℕ) (w : World O) (used : ℕ) → IsRunning m w → AreApart objects → ((y : ℕ) → IsTrue (is_among y objects) → (y < m.objects) × IsTrue (is_plain w y))
      → Goes m w (identities m objects w used) (AreLogged m w (length objects))
  identities_goes [] w used is apart each = goes_none m w used (AreLogged m w 0) (record { running = is; left = refl; plain = omega arith; members = λ n there. there })
  identities_goes (x ∷ objects) w used is apart each =
      let here = each x (or_left (x == x) (is_among x objects) (eq-eqb x x refl)) in
      goes_then m w (identity_course m x w used) (λ v used. identities m objects v used) (IsLogged m w x) (AreLogged m w (suc (length objects)))
      (identity_goes x w used is here.0)
      (λ v logged.
      goes_weaker m v (identities m objects v (identity_course m x w used).used) (AreLogged m v (length objects)) (AreLogged m w (suc (length objects)))
      (λ u more. record {
        running = more.running;
        left = more.left ∙ logged.left here.1;
        plain = omega (arith, logged.plain here.1, more.plain);
        members = λ n there. more.members n (logged.members n there);
      })
      (identities_goes objects v (identity_course m x w used).used logged.running apart.1 (λ y there.
      let old = each y (or_right (y == x) (is_among y objects) there) in
      let other : y ≡ x → ⊥ = λ same. both_ways _ apart.0 (subst (λ (z : ℕ). IsTrue (is_among z objects)) same there) in
      (old.0, logged.others y other ∙ old.1))))
