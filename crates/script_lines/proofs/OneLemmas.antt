-- A line asks for one thing.
use Rattle.std.proofs.Common.{◌≡◌, List, ℕ, [], ◌∷◌, Option, Some, None, sym, ◌∙◌, subst, ⊎_elim}
use Rattle.script_lines.specs.Grammar.{AreOf, AsksFor, Form, IsComment, Makes, MakesIf, Request, asks, fields_of, form_in, hex, long, number, rows, short, without_return}
use Rattle.script_lines.specs.declared.line.Line.TheVariants.{Skip}
use Rattle.script_lines.proofs.HexLemmas.{hex_one}
use Rattle.script_lines.proofs.ReadLemmas.{long_one, number_one, short_one}

makes_one : (form : Form) (texts : List (List ℕ)) (a b : Request) → Makes form texts a → Makes form texts b → a ≡ b
makes_one (asks made) [] a b p q = p ∙ sym q
makes_one (asks made) (text ∷ texts) a b p q = absurd p
makes_one (number form) [] a b p q = absurd p
makes_one (number form) (text ∷ texts) a b (m, says, p) (n, other, q) = makes_one (form m) texts a b p (subst (λ (k : ℕ). Makes (form k) texts b) (number_one text n m other says) q)
makes_one (hex form) [] a b p q = absurd p
makes_one (hex form) (text ∷ texts) a b (u, says, p) (v, other, q) = makes_one (form u) texts a b p (subst (λ (k : List ℕ). Makes (form k) texts b) (hex_one text v u other says) q)
makes_one (short form) [] a b p q = absurd p
makes_one (short form) (text ∷ texts) a b (u, says, p) (v, other, q) = makes_one (form u) texts a b p (subst (λ (k : List ℕ). Makes (form k) texts b) (short_one text v u other says) q)
makes_one (long form) [] a b p q = absurd p
makes_one (long form) (text ∷ texts) a b (u, says, p) (v, other, q) = makes_one (form u) texts a b p (subst (λ (k : List ℕ). Makes (form k) texts b) (long_one text v u other says) q)

row_one : (found : Option Form) (texts : List (List ℕ)) (a b : Request) → MakesIf found texts a → MakesIf found texts b → a ≡ b
row_one None texts a b p q = absurd p
row_one (Some form) texts a b p q = makes_one form texts a b p q

-- no row has a word that begins a comment
pub comment_alone : (word : List ℕ) (texts : List (List ℕ)) (request : Request) → IsComment word → MakesIf (form_in rows word) texts request → ⊥
comment_alone word texts request (comment, is) made = subst (λ (w : List ℕ). MakesIf (form_in rows w) texts request) is made

fields_one : (fields : List (List ℕ)) (a b : Request) → AreOf a fields → AreOf b fields → a ≡ b
fields_one [] a b p q = p ∙ sym q
fields_one (word ∷ texts) a b p q =
    ⊎_elim
    (λ (c : IsComment word × (a ≡ Skip)). ⊎_elim (λ (d : IsComment word × (b ≡ Skip)). c.1 ∙ sym d.1) (λ (r : MakesIf (form_in rows word) texts b). absurd (comment_alone word texts b c.0 r)) q)
    (λ (r : MakesIf (form_in rows word) texts a). ⊎_elim (λ (d : IsComment word × (b ≡ Skip)). absurd (comment_alone word texts a d.0 r)) (λ (s : MakesIf (form_in rows word) texts b). row_one (form_in rows word) texts a b r s) q)
    p

pub line_one : (line : List ℕ) (a b : Request) → AsksFor line a → AsksFor line b → a ≡ b
line_one line a b p q = fields_one (fields_of (without_return line)) a b p.fields q.fields
