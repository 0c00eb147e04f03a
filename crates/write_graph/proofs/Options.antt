-- What an option or a result says, said in other words.
use Rattle.std.specs.Prelude.{Option, None, Some, IfSome, IfNone, Result, Ok, Err, IfOk}

pub some-then : {X : Type 0} (r : Option X) (P Q : X → Type 0) → ((x : X) → P x → Q x) → IfSome r P → IfSome r Q
some-then None P Q then is = tt
some-then (Some x) P Q then is = then x is

pub none-then : {X : Type 0} (r : Option X) (P Q : Type 0) → (P → Q) → IfNone r P → IfNone r Q
none-then None P Q then is = then is
none-then (Some x) P Q then is = tt

pub ok-then : {X E : Type 0} (r : Result X E) (P Q : X → Type 0) → ((x : X) → P x → Q x) → IfOk r P → IfOk r Q
ok-then (Ok x) P Q then is = then x is
ok-then (Err e) P Q then is = tt
