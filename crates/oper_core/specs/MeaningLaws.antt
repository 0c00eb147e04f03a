-- What follows where no refusal applies, and under wider bounds.
use Rattle.std.proofs.Common.{◌≡◌, ◌∙◌, ap, refl, ℕ, ◌≤◌, Bool, true, false, Option, None, Some, List, length, map, get_or}
use Rattle.std.proofs.lemmas.List.{length-map}
use Rattle.std.proofs.lemmas.List.Elements.{All-map}
use Rattle.oper_core.specs.State.{State, with_values}
use Rattle.oper_core.specs.Meaning.{Meaning, FitsReads, Widens, Accepts, or_else, unless, read_values, after}
use Rattle.oper_core.specs.declared.refusal.Refusal.{Refusal}

-- where neither refusal is reported, there is none
pub or_else-none : (r s : Option Refusal) → or_else r s ≡ None → (r ≡ None) × (s ≡ None)
or_else-none None s e = (refl, e)
or_else-none (Some r) s e = cc

pub or_else-both : (r s : Option Refusal) → r ≡ None → s ≡ None → or_else r s ≡ None
or_else-both None s e f = f
or_else-both (Some r) s e f = cc

-- where a test's refusal is not reported, the test holds
pub unless-none : (test : Bool) (r : Refusal) → unless test r ≡ None → test ≡ true
unless-none true r e = refl
unless-none false r e = cc

-- the values that are read from a state fit where its values do
pub read_values-fit : {O : Type 0} (m : Meaning O) (s : State) (op : O) → ((x : ℕ) → length (s x) ≤ m.cap) → FitsReads m op (read_values m s op)
read_values-fit m s op short = record {
  count = length-map (m.reads op) s;
  short = All-map (λ v. length v ≤ m.cap) s (m.reads op) (λ k d within. short (get_or (m.reads op) k d));
}

-- wider bounds accept what was accepted
pub accepts-wider : {O : Type 0} (m wide : Meaning O) → Widens m wide → (s : State) (op : O) → ((x : ℕ) → length (s x) ≤ m.cap)
    → Accepts m s op → Accepts wide s op
accepts-wider m wide widens s op short e =
    let parts = or_else-none (m.shape op) (m.check op (read_values m s op)) e in
    let accepted = widens.accepted op (read_values m s op) parts.0 (read_values-fit m s op short) parts.1 in
    or_else-both (wide.shape op) (wide.check op (read_values wide s op)) (widens.in_grammar op parts.0)
    (ap (λ (objects : List ℕ). wide.check op (map s objects)) (widens.reads op) ∙ accepted)

-- and lead to the same state
pub after-wider : {O : Type 0} (m wide : Meaning O) → Widens m wide → (s : State) (op : O) → ((x : ℕ) → length (s x) ≤ m.cap)
    → Accepts m s op → after wide s op ≡ after m s op
after-wider m wide widens s op short e =
    let parts = or_else-none (m.shape op) (m.check op (read_values m s op)) e in
    let effect = widens.effect op (read_values m s op) parts.0 (read_values-fit m s op short) parts.1 in
    ap (λ (objects : List ℕ). with_values s objects (wide.effect op (read_values wide s op))) (widens.writes op)
    ∙ ap (λ (objects : List ℕ). with_values s (m.writes op) (wide.effect op (map s objects))) (widens.reads op)
    ∙ ap (with_values s (m.writes op)) effect
