-- A sum that is kept modulo 2^64.
use Rattle.std.proofs.Common.{◌≡◌, ◌∙◌, ◌%◌, ◌^◌, ◌*◌, ◌+◌, ◌<◌, ℕ, List, length, take, ap, sym, subst, arith, get_or}
use Rattle.std.specs.Prelude.{sum_by}
use Rattle.std.specs.List.{enumerate_from}
use Rattle.std.proofs.lemmas.List.Sums.{sum_by_more}
use Rattle.std.proofs.lemmas.List.FromFn.{get_or-enumerate_from, length-enumerate_from}

mod_both : (x y : ℕ) → (x % 2 ^ 64 + y % 2 ^ 64) % 2 ^ 64 ≡ (x + y) % 2 ^ 64
mod_both x y = omega arith

abbrev pub weigh : ℕ × ℕ → ℕ
weigh it = it.0 * it.1

pub one_more : (bytes : List ℕ) (i sum byte : ℕ) → i < length bytes → byte ≡ get_or bytes i 0 → sum ≡ sum_by weigh (take i (enumerate_from 1 bytes)) % 2 ^ 64
    → (sum + (i + 1) * byte % 2 ^ 64) % 2 ^ 64 ≡ sum_by weigh (take (i + 1) (enumerate_from 1 bytes)) % 2 ^ 64
one_more bytes i sum byte low is before =
    let all = enumerate_from 1 bytes in
    let far : i < length all = subst (λ (n : ℕ). i < n) (sym (length-enumerate_from 1 bytes)) low in
    let item : weigh (get_or all i (0, 0)) ≡ (1 + i) * get_or bytes i 0 = ap weigh (get_or-enumerate_from 1 bytes i (0, 0) low) in
    let more : sum_by weigh (take (i + 1) all) ≡ sum_by weigh (take i all) + (1 + i) * get_or bytes i 0 = sum_by_more weigh all i (0, 0) far ∙ ap (λ (n : ℕ). sum_by weigh (take i all) + n) item in
    let next : i + 1 ≡ 1 + i = omega arith in
    let kept : (sum + (i + 1) * byte % 2 ^ 64) % 2 ^ 64 ≡ (sum_by weigh (take i all) % 2 ^ 64 + (1 + i) * get_or bytes i 0 % 2 ^ 64) % 2 ^ 64
    = λ j. (before j + next j * is j % 2 ^ 64) % 2 ^ 64 in
    kept ∙ mod_both (sum_by weigh (take i all)) ((1 + i) * get_or bytes i 0) ∙ ap (λ (n : ℕ). n % 2 ^ 64) (sym more)
