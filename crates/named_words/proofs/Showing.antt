-- The words that an unknown command is shown with.
use Rattle.std.proofs.Common.{◌≡◌, ◌∙◌, sym, ap, codes, ◌+◌, ◌-◌, ℕ, Bool, true, false, nat_lt, List, [], ◌∷◌, ◌++◌, length, take, append_assoc, if◌then◌else◌}
use Rattle.std.proofs.lemmas.List.{append-nil}
use Rattle.named_words.specs.Refusals.{shown_behind}

module _ (text : List ℕ) (shown : ℕ) (word : List ℕ) (words : List (List ℕ)) where
  -- one word more
  pub one_shown : nat_lt shown 128 ≡ true
      → (((text ++ 39 ∷ []) ++ take (128 - shown) word) ++ codes "' ") ++ shown_behind (shown + (length (take (128 - shown) word) + 3)) words ≡ text ++ shown_behind shown (word ∷ words)
  one_shown room =
      let front : List ℕ = take (128 - shown) word in
      let rest : List ℕ = shown_behind (shown + (length front + 3)) words in
      append_assoc ((text ++ 39 ∷ []) ++ front) (codes "' ") rest
      ∙ append_assoc (text ++ 39 ∷ []) front (codes "' " ++ rest)
      ∙ append_assoc text (39 ∷ []) (front ++ (codes "' " ++ rest))
      ∙ sym (ap (λ (b : Bool). text ++ (if b then 39 ∷ (front ++ (codes "' " ++ rest)) else [])) room)

  enough_shown : nat_lt shown 128 ≡ false → text ≡ text ++ shown_behind shown (word ∷ words)
  enough_shown full =
      sym (ap (λ (b : Bool). text ++ (if b then 39 ∷ (take (128 - shown) word ++ (codes "' " ++ shown_behind (shown + (length (take (128 - shown) word) + 3)) words)) else [])) full ∙ append-nil text)

-- where so much was shown that is all
pub full_shown : (text : List ℕ) (shown : ℕ) (words : List (List ℕ)) → nat_lt shown 128 ≡ false → text ≡ text ++ shown_behind shown words
full_shown text shown [] full = sym (append-nil text)
full_shown text shown (word ∷ words) full = enough_shown text shown word words full

-- four texts, appended one by one
pub appended : (a b c d x y z text : List ℕ) → x ≡ a → y ≡ x ++ b → z ≡ y ++ c → text ≡ z ++ d → text ≡ a ++ (b ++ (c ++ d))
appended a b c d x y z text first second third last =
    last
    ∙ ap (λ l. l ++ d) (third ∙ ap (λ l. l ++ c) (second ∙ ap (λ l. l ++ b) first))
    ∙ append_assoc (a ++ b) c d
    ∙ append_assoc a b (c ++ d)
