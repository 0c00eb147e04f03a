-- Results.
use Rattle.std.proofs.Common.{◌≡◌, false, None, Result, Ok, Err, refl, sym, true≢false}
use Rattle.std.specs.Result.{result_err, is_err}

-- what is no error has none
pub no_error : {A E : Type 0} (r : Result A E) → false ≡ is_err r → result_err r ≡ None
no_error (Ok x) e = refl
no_error (Err x) e = absurd (true≢false (sym e))
