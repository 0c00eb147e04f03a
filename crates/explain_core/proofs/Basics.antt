-- Histories: members, accesses and values of a front.
use Rattle.std.proofs.Common.{◌≡◌, ◌∙◌, ℕ, zero, suc, ◌+◌, ◌<◌, ◌≤◌, false, List, [], ◌∷◌, ◌++◌, length, take, refl, ap, arith, Option, Some, length-take}
use Rattle.std.specs.Prelude.{slice_get}
use Rattle.install_order.specs.Order.{Access}
use Rattle.oper_core.specs.Meaning.{Meaning}
use Rattle.explain_core.specs.History.{Member, value_at, made_by, with_lsn, accesses_of, reads_some, writes_some}
use Rattle.explain_core.specs.GraphLaws.{with_lsn-past, with_lsn-take, slice_get-take}

pub slice_get-front : {X : Type 0} (h t : List X) (i : ℕ) → i < length h → slice_get (h ++ t) i ≡ slice_get h i
slice_get-front [] t i lt = absurd (omega arith)
slice_get-front (x ∷ xs) t zero lt = refl
slice_get-front (x ∷ xs) t (suc i) lt = slice_get-front xs t i (omega arith)

abbrev values : {O : Type 0} → Meaning O → List (Member O) → ℕ → ℕ → List ℕ
values m h n = λ x. value_at m h n x

-- histories with the same first n members give the same values after these
pub value_at-same : {O : Type 0} (m : Meaning O) (h k : List (Member O)) (n : ℕ) → ((i : ℕ) → i < n → slice_get h i ≡ slice_get k i) → values m h n ≡ values m k n
value_at-same m h k zero same = refl
value_at-same {O} m h k (suc n) same =
    let here : slice_get h n ≡ slice_get k n = same n (omega arith) in
    let before : values m h n ≡ values m k n = value_at-same m h k n (λ i lt. same i (omega arith)) in
    ap (λ (o : Option (Member O)). λ (x : ℕ). made_by m o (values m h n) x) here ∙ ap (λ (s : ℕ → List ℕ). λ (x : ℕ). made_by m (slice_get k n) s x) before

-- t is the same as a up to the LSN n, and has nothing after it
pub record IsFront (t a : Access) (n : ℕ) : Type 0 where
  pub reads : (k x : ℕ) → k ≤ n → t.reads k x ≡ a.reads k x
  pub writes : (k x : ℕ) → k ≤ n → t.writes k x ≡ a.writes k x
  pub no_reads : (k x : ℕ) → n < k → t.reads k x ≡ false
  pub no_writes : (k x : ℕ) → n < k → t.writes k x ≡ false

pub with_lsn-front : {O : Type 0} (h t : List (Member O)) (n : ℕ) → n ≤ length h → with_lsn h n ≡ with_lsn (h ++ t) n
with_lsn-front h t zero le = refl
with_lsn-front h t (suc n) le = rw slice_get-front refl

pub slice_get-last : {X : Type 0} (h : List X) (x : X) → slice_get (h ++ x ∷ []) (length h) ≡ Some x
slice_get-last [] x = refl
slice_get-last (y ∷ h) x = slice_get-last h x

pub with_lsn-last : {O : Type 0} (h : List (Member O)) (member : Member O) → with_lsn (h ++ member ∷ []) (length h + 1) ≡ Some member
with_lsn-last h member = let e : length h + 1 ≡ suc (length h) = omega arith in ap (λ n. with_lsn (h ++ member ∷ []) n) e ∙ slice_get-last h member

pub front-append : {O : Type 0} (m : Meaning O) (h t : List (Member O)) → IsFront (accesses_of m h) (accesses_of m (h ++ t)) (length h)
front-append m h t = record {
  reads = λ k x le. ap (λ o. reads_some m o x) (with_lsn-front h t k le);
  writes = λ k x le. ap (λ o. writes_some m o x) (with_lsn-front h t k le);
  no_reads = λ k x lt. ap (λ o. reads_some m o x) (with_lsn-past h k lt);
  no_writes = λ k x lt. ap (λ o. writes_some m o x) (with_lsn-past h k lt);
}

pub front-take : {O : Type 0} (m : Meaning O) (h : List (Member O)) (f : ℕ) → f ≤ length h → IsFront (accesses_of m (take f h)) (accesses_of m h) f
front-take m h f le =
    let e : length (take f h) ≤ f = omega (arith, length-take f h) in
    record {
      reads = λ k x le. ap (λ o. reads_some m o x) (with_lsn-take h f k le);
      writes = λ k x le. ap (λ o. writes_some m o x) (with_lsn-take h f k le);
      no_reads = λ k x lt. ap (λ o. reads_some m o x) (with_lsn-past (take f h) k (omega arith));
      no_writes = λ k x lt. ap (λ o. writes_some m o x) (with_lsn-past (take f h) k (omega arith));
    }

pub value_at-take : {O : Type 0} (m : Meaning O) (h : List (Member O)) (f n x : ℕ) → n ≤ f → value_at m (take f h) n x ≡ value_at m h n x
value_at-take m h f n x le = ap (λ (v : ℕ → List ℕ). v x) (value_at-same m (take f h) h n (λ i lt. slice_get-take h f i (omega arith)))

pub value_at-append : {O : Type 0} (m : Meaning O) (h t : List (Member O)) (n x : ℕ) → n ≤ length h → value_at m (h ++ t) n x ≡ value_at m h n x
value_at-append m h t n x le = ap (λ (v : ℕ → List ℕ). v x) (value_at-same m (h ++ t) h n (λ i lt. slice_get-front h t i (omega arith)))
