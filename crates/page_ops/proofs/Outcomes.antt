-- What an operation makes, and what is found of a code.
use Rattle.std.proofs.Common.{◌≡◌, ◌≢◌, ℕ, Bool, true, false, if◌then◌else◌, None, Some, Result, Ok, Err, List, [], ◌∷◌, refl, sym, ap, ◌∙◌, true≢false}
use Rattle.std.specs.Result.{result_err, is_err}
use Rattle.oper_core.specs.Meaning.{StartsWithCode}
use Rattle.oper_core.specs.declared.bounds.Bounds.{Bounds}
use Rattle.oper_core.specs.declared.refusal.Refusal.{Refusal}
use Rattle.oper_core.specs.declared.refusal.Refusal.TheVariants.{NotNode}
use Rattle.key_entries.specs.EntryLaws.{same_some}
use Rattle.page_ops.specs.Layout.{Layout, built}
use Rattle.page_ops.specs.Effects.{Made, where_kind}
use Rattle.page_ops.specs.Operation.{op_in, page_meaning, shape_of, value_made}
use Rattle.page_ops.specs.OperationLaws.{only_op}
use Rattle.page_ops.specs.declared.page_op.PageOp.{PageOp}

-- what is no error has none, and an error is a refusal
pub no_error : {A E : Type 0} (r : Result A E) → false ≡ is_err r → result_err r ≡ None
no_error (Ok x) e = refl
no_error (Err x) e = absurd (true≢false (sym e))

pub is_refused : {A E : Type 0} (r : Result A E) → true ≡ is_err r → result_err r ≢ None
is_refused (Ok x) e none = true≢false e
is_refused (Err x) e none = cc

-- where no operation is read, the bytes begin with no code
pub none_begins : (b : Bounds) (bytes : List ℕ) → None ≡ op_in bytes → (op : PageOp) → StartsWithCode (page_meaning b) bytes op → ⊥
none_begins b bytes none op begins =
    let found = none ∙ only_op b bytes begins.rest op begins.split begins.in_grammar in cc

-- and where one is read that the grammar does not have
pub refused_begins : (b : Bounds) (bytes : List ℕ) (read : PageOp) → op_in bytes ≡ Some read → shape_of b read ≢ None
    → (op : PageOp) → StartsWithCode (page_meaning b) bytes op → ⊥
refused_begins b bytes read is refused op begins =
    let same : op ≡ read = same_some op read (sym (only_op b bytes begins.rest op begins.split begins.in_grammar) ∙ is) in
    refused (sym (ap (shape_of b) same) ∙ begins.in_grammar)

-- the value that is written
pub page_value : (r : Made) (page : Layout) (bytes : List ℕ) (values : List (List ℕ)) → Ok (Some page) ≡ r → bytes ≡ built page → values ≡ bytes ∷ [] → values ≡ value_made r ∷ []
page_value r page bytes values made is one = one ∙ ap (λ (l : List ℕ). l ∷ []) (is ∙ ap value_made made)

pub empty_value : (r : Made) (values : List (List ℕ)) → Ok None ≡ r → values ≡ [] ∷ [] → values ≡ value_made r ∷ []
empty_value r values made one = one ∙ ap (λ (made : Made). value_made made ∷ []) made

pub refused_value : (r : Made) (refusal : Refusal) (values : List (List ℕ)) → Err refusal ≡ r → values ≡ [] ∷ [] → values ≡ value_made r ∷ []
refused_value r refusal values made one = one ∙ ap (λ (made : Made). value_made made ∷ []) made

-- what is made where the bytes are of a kind, and where they are not
pub kind_holds : (kind : Bool) (result made : Made) → true ≡ kind → result ≡ made → result ≡ where_kind kind made
kind_holds kind result made holds is = is ∙ ap (λ (t : Bool). if t then made else Err NotNode) holds

pub kind_fails : (kind : Bool) (made : Made) → false ≡ kind → Err NotNode ≡ where_kind kind made
kind_fails kind made fails = ap (λ (t : Bool). if t then made else Err NotNode) fails
