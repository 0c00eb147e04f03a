-- Words ask one thing.
use Rattle.std.proofs.Common.{◌≡◌, ◌∙◌, ℕ, Bool, true, false, List, Option, Some, None, [], refl, sym, ap, subst, arith, codes}
use Rattle.std.specs.Str.Parse.{digits_value, without_leading_plus}
use Rattle.clap.specs.Words.{Row, Text}
use Rattle.command_words.specs.declared.asked.Asked.{Asked}
use Rattle.command_words.specs.declared.asked.Asked.TheVariants.{Init, Run, Dump, Demo, Upgrade, Ship, Follow}
use Rattle.formats.specs.declared.params.Params.{Params}
use Rattle.command_words.specs.Words.{Asks, Gives, GivesParams, IsFor, IsGiven}
use Rattle.command_words.proofs.NameLemmas.{same_mark, one_name, one_rows}

abbrev text_in : Option Text → Text
text_in None = []
text_in (Some text) = text

-- an argument gives one number
one_number : (rows : List Row) (id : Text) (m n : ℕ) → Gives rows id m → Gives rows id n → m ≡ n
one_number rows id m n a b =
    let text : a.text ≡ b.text = ap text_in (sym a.value ∙ b.value) in
    sym a.number ∙ ap (λ t. digits_value 10 (without_leading_plus t)) text ∙ b.number

-- a flag is there or is not
one_flag : (rows : List Row) (id : Text) (a b : Bool) → IsGiven rows id a → IsGiven rows id b → a ≡ b
one_flag rows id true true x y = refl
one_flag rows id true false x y = absurd (y x)
one_flag rows id false true x y = absurd (x y)
one_flag rows id false false x y = refl

-- three arguments and a flag give the numbers of one store
one_params : (rows : List Row) (p q : Params) → GivesParams rows p → GivesParams rows q → p ≡ q
one_params rows p q x y =
    let a = one_number rows (codes "N") p.objects q.objects x.0 y.0 in
    let b = one_number rows (codes "CAP") p.cap q.cap x.1 y.1 in
    let c = one_number rows (codes "LIMIT") p.limit q.limit x.2 y.2 in
    let more = one_flag rows (codes "pages") p.more q.more x.3 y.3 in
    λ i. record { objects = a i; cap = b i; limit = c i; more = more i }

-- a subcommand of one name is for one thing
for_one : (name : Text) (rows : List Row) (a b : Asked) → IsFor a name rows → IsFor b name rows → a ≡ b
for_one name rows (Run a) (Run b) x y = ap Run (one_flag rows (codes "tend") a b x.1 y.1)
for_one name rows Dump Dump x y = refl
for_one name rows (Init p) (Init q) x y = ap Init (one_params rows p q x.1 y.1)
for_one name rows (Upgrade p) (Upgrade q) x y = ap Upgrade (one_params rows p q x.1 y.1)
for_one name rows (Demo m n) (Demo k l) x y =
    let a = one_number rows (codes "seed") m k x.1.0 y.1.0 in
    let b = one_number rows (codes "steps") n l x.1.1 y.1.1 in
    cc (a, b)
for_one name rows (Ship m) (Ship n) x y = ap Ship (one_number rows (codes "FROM") m n x.1 y.1)
for_one name rows (Follow a) (Follow b) x y = ap Follow (one_flag rows (codes "same") a b x.1 y.1)
for_one name rows a b x y = absurd (omega (arith, same_mark a b name rows x y))

pub words_one : (words : List Text) (a b : Asked) → Asks words a → Asks words b → a ≡ b
words_one words a b x y =
    let names = one_name x.named.is y.named.is in
    let rows = one_rows x.named.is y.named.is in
    let other = subst (λ (n : Text). IsFor b n x.named.rows) (sym names) (subst (λ (r : List Row). IsFor b y.named.name r) (sym rows) y.named.for) in
    for_one x.named.name x.named.rows a b x.named.for other
