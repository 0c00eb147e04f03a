-- What is told of another answer.
use Rattle.std.proofs.Common.{◌≡◌, refl, sym, subst, ℕ, true, false, if◌then◌else◌, None, Some, Result, Ok, Err, List}
use Rattle.std.specs.Prelude.{IfErr, IfOk}
use Rattle.running_store.specs.Taking.Ending.{Done}
use Rattle.store_engine.specs.Lists.{ending_of}
use Rattle.page_ops.specs.Reading.{level_in, opens}
use Rattle.map_client.specs.Answers.{MapErr, cause_in, cause_of, or_bad}
use Rattle.map_client.specs.Reading.{level_of}

pub ok_through : {T V : Type 0} (told other : Result V MapErr) (view : T → V) (r : Result T MapErr) → told ≡ other → IfOk r (λ t. other ≡ Ok (view t)) → IfOk r (λ t. told ≡ Ok (view t))
ok_through {V = V} told other view r same is = subst (λ (x : Result V MapErr). IfOk r (λ t. x ≡ Ok (view t))) (sym same) is

pub err_through : {T V : Type 0} (told other : Result V MapErr) (r : Result T MapErr) → told ≡ other → IfErr r (λ e. ending_of (cause_of e) ≡ Done → other ≡ Err e)
    → IfErr r (λ e. ending_of (cause_of e) ≡ Done → told ≡ Err e)
err_through {V = V} told other r same is = subst (λ (x : Result V MapErr). IfErr r (λ e. ending_of (cause_of e) ≡ Done → x ≡ Err e)) (sym same) is

-- the level of bytes that open, where one is answered
pub level_found : (object : ℕ) (bytes : List ℕ) (r : Result ℕ MapErr) → (ending_of (cause_in r) ≡ Done → r ≡ or_bad object (level_of bytes)) → IfOk r (λ level. level ≡ level_in bytes)
level_found object bytes (Err e) told = tt
level_found object bytes (Ok level) told =
    elim (opens bytes) as (λ t. (let found : Result ℕ MapErr = or_bad object (if t then Some (level_in bytes) else None) in Ok level ≡ found) → level ≡ level_in bytes) [
      | true ↦ λ e. cc e
      | false ↦ λ e. cc
    ] (told refl)
