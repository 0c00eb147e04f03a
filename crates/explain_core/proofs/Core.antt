-- What explains a state, under changes of the history and of the set.
use Rattle.std.proofs.Common.{◌≡◌, ◌∙◌, sym, subst, ℕ, ◌≤◌, Bool, List, length, take, arith, inl, inr}
use Rattle.std.specs.Prelude.{IsTrue}
use Rattle.std.proofs.lemmas.Bool.{cases_lt, both_ways}
use mathlib.Core.Path.{fun_ext}
use Rattle.install_order.specs.Order.{Access, IsExposed}
use Rattle.oper_core.specs.Cell.{Cell}
use Rattle.explain_core.specs.Explains.{Explains}
use Rattle.oper_core.specs.Meaning.{Meaning}
use Rattle.explain_core.specs.History.{Member, accesses_of, value_at}
use Rattle.explain_core.proofs.Basics.{IsFront, front-take, value_at-take}

-- only which LSNs are in the set counts
pub Explains-same : (a : Access) (v : ℕ → ℕ → List ℕ) (i j : ℕ → Bool) (s : ℕ → Cell) → ((n : ℕ) → i n ≡ j n) → Explains a v i s → Explains a v j s
Explains-same a v i j s e h = subst (λ (k : ℕ → Bool). Explains a v k s) (fun_ext e) h

-- in the front, what is exposed in the whole
exposed-front : (t a : Access) (n : ℕ) (i : ℕ → Bool) (x : ℕ) → IsFront t a n → IsExposed a i x → IsExposed t i x
exposed-front t a n i x f h p out w =
    elim (cases_lt n p) [
      | inl lt ↦ absurd (both_ways _ (f.no_writes p x lt) w)
      | inr le ↦
          let r = h p out (sym (f.writes p x le) ∙ w) in
          (r.0, r.1, r.2, f.reads r.0 x (omega (arith, r.1)) ∙ r.3)
    ]

-- what explains by a front explains by the whole, with all further members outside
pub Explains-more : (t a : Access) (u v : ℕ → ℕ → List ℕ) (n : ℕ) (i : ℕ → Bool) (s : ℕ → Cell) → IsFront t a n → ((k x : ℕ) → k ≤ n → u k x ≡ v k x) → ((k : ℕ) → IsTrue (i k) → k ≤ n) → Explains t u i s → Explains a v i s
Explains-more t a u v n i s f same inside e = record {
  closed = λ o p x out within lt w.
      let le : p ≤ n = inside p within in
      let c = e.closed o p x out within lt (f.writes p x le ∙ w) in
      let lo : o ≤ n = omega arith in
      (sym (f.reads o x lo) ∙ c.0, sym (f.writes o x lo) ∙ c.1);
  origin = λ x. elim (e.origin x) [
    | inl z ↦ inl z
    | inr g ↦ inr (g.0, sym (f.writes (s x).lsn x (inside _ g.0)) ∙ g.1)
  ];
  last = λ x shown k lt within. sym (f.writes k x (inside k within)) ∙ e.last x (exposed-front t a n i x f shown) k lt within;
  right = λ x shown. e.right x (exposed-front t a n i x f shown) ∙ same _ x (elim (e.origin x) [ inl z ↦ omega (arith, z.0) | inr g ↦ inside _ g.0 ]);
}

-- the stable members explain the slots over the whole history too
pub slots-whole : {O : Type 0} (m : Meaning O) (h : List (Member O)) (f : ℕ) (i : ℕ → Bool) (s : ℕ → Cell) → f ≤ length h → ((k : ℕ) → IsTrue (i k) → k ≤ f) → Explains (accesses_of m (take f h)) (value_at m (take f h)) i s → Explains (accesses_of m h) (value_at m h) i s
slots-whole m h f i s le inside e = Explains-more (accesses_of m (take f h)) (accesses_of m h) (value_at m (take f h)) (value_at m h) f i s (front-take m h f le) (λ k x le. value_at-take m h f k x le) inside e
