-- Bytes of a kind that stand side by side.
use Rattle.std.proofs.Common.{◌≡◌, ◌∙◌, refl, sym, ap, ℕ, zero, suc, ◌<◌, Bool, true, false, List, [], ◌∷◌, ◌++◌, length, take, drop, get_or, arith}
use Rattle.std.proofs.lemmas.Bool.{both_ways}
use Rattle.std.proofs.lemmas.List.{take-append-drop}
use Rattle.resp_words.specs.Runs.{AllPass, StopsAt}

-- one byte more
pub pass_more : (test : ℕ → Bool) (bytes : List ℕ) (i : ℕ) → i < length bytes → AllPass test (take i bytes) → test (get_or bytes i 0) ≡ true → AllPass test (take (suc i) bytes)
pass_more test [] i within passes more = absurd (omega (arith, within))
pass_more test (b ∷ bytes) zero within passes more = (more, tt)
pass_more test (b ∷ bytes) (suc i) within passes more = (passes.0, pass_more test bytes i (omega (arith, within)) passes.1 more)

-- the byte that is no more of it
pub stops_at : (test : ℕ → Bool) (bytes : List ℕ) (i : ℕ) → i < length bytes → test (get_or bytes i 0) ≡ false → StopsAt test (drop i bytes)
stops_at test [] i within stops = absurd (omega (arith, within))
stops_at test (b ∷ bytes) zero within stops = stops
stops_at test (b ∷ bytes) (suc i) within stops = stops_at test bytes i (omega (arith, within)) stops

pub stops_append : (test : ℕ → Bool) (bytes later : List ℕ) → 0 < length bytes → StopsAt test bytes → StopsAt test (bytes ++ later)
stops_append test [] later some stops = absurd (omega (arith, some))
stops_append test (b ∷ bytes) later some stops = stops

pub pass_append : (test : ℕ → Bool) (a b : List ℕ) → AllPass test a → AllPass test b → AllPass test (a ++ b)
pass_append test [] b p q = q
pass_append test (c ∷ a) b p q = (p.0, pass_append test a b p.1 q)

-- bytes are cut in one way
pub runs_same : (test : ℕ → Bool) (a b x y : List ℕ) → AllPass test a → AllPass test b → StopsAt test x → StopsAt test y → a ++ x ≡ b ++ y → (a ≡ b) × (x ≡ y)
runs_same test [] [] x y p q s t same = (refl, same)
runs_same test [] (c ∷ b) [] y p q s t same = absurd (omega (arith, ap length same))
runs_same test [] (c ∷ b) (d ∷ x) y p q s t same =
    let head : d ≡ c = ap (λ (l : List ℕ). get_or l 0 0) same in
    absurd (both_ways (test d) s (ap test head ∙ q.0))
runs_same test (c ∷ a) [] x [] p q s t same = absurd (omega (arith, ap length same))
runs_same test (c ∷ a) [] x (d ∷ y) p q s t same =
    let head : c ≡ d = ap (λ (l : List ℕ). get_or l 0 0) same in
    absurd (both_ways (test d) t (ap test (sym head) ∙ p.0))
runs_same test (c ∷ a) (d ∷ b) x y p q s t same =
    let head : c ≡ d = ap (λ (l : List ℕ). get_or l 0 0) same in
    let rest = runs_same test a b x y p.1 q.1 s t (ap (λ (l : List ℕ). drop 1 l) same) in
    ((λ i. head i ∷ rest.0 i), rest.1)

-- a run stands in front of one that ends later
pub run_goes_on : (test : ℕ → Bool) (a b x y : List ℕ) (stop : ℕ) → AllPass test a → test stop ≡ false → a ++ x ≡ b ++ stop ∷ y → (more : List ℕ) × (b ≡ a ++ more)
run_goes_on test [] b x y stop p s same = (b, refl)
run_goes_on test (c ∷ a) [] x y stop p s same =
    let head : c ≡ stop = ap (λ (l : List ℕ). get_or l 0 0) same in
    absurd (both_ways (test stop) s (ap test (sym head) ∙ p.0))
run_goes_on test (c ∷ a) (d ∷ b) x y stop p s same =
    let head : d ≡ c = sym (ap (λ (l : List ℕ). get_or l 0 0) same) in
    let rest = run_goes_on test a b x y stop p.1 s (ap (λ (l : List ℕ). drop 1 l) same) in
    (rest.0, (λ i. head i ∷ rest.1 i))

pub pass_at : (test : ℕ → Bool) (bytes : List ℕ) (i : ℕ) → i < length bytes → AllPass test bytes → test (get_or bytes i 0) ≡ true
pass_at test [] i within passes = absurd (omega (arith, within))
pass_at test (b ∷ bytes) zero within passes = passes.0
pass_at test (b ∷ bytes) (suc i) within passes = pass_at test bytes i (omega (arith, within)) passes.1

-- bytes that were split
pub split_stands : (bytes a b : List ℕ) (n : ℕ) → a ≡ take n bytes → b ≡ drop n bytes → bytes ≡ a ++ b
split_stands bytes a b n front back = sym ((λ i. front i ++ back i) ∙ take-append-drop n bytes)
