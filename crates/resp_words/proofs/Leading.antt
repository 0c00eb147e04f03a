-- From what bytes behind a front begin with to what all of them begin with.
use Rattle.std.proofs.Common.{◌≡◌, ◌∙◌, sym, ap, subst, ℕ, List, [], ◌++◌, append_assoc}
use Rattle.std.proofs.lemmas.List.{append-nil}
use Rattle.resp_words.specs.Reading.{Begins, IsBad, IsFront, Reads}
use Rattle.resp_words.specs.declared.found.Found.{Found}
use Rattle.resp_words.specs.declared.found.Found.TheVariants.{Whole, More, Bad}
use Rattle.resp_words.specs.declared.protocol_error.ProtocolError.{ProtocolError}

-- behind this front, a text of L goes on as one of M does
pub record Leads {A B : Type 0} (front : List ℕ) (L : List ℕ → A → Type 0) (M : List ℕ → B → Type 0) : Type 0 where
  pub on : (bytes : List ℕ) → Begins L (front ++ bytes) → Begins M bytes
  pub ends : (text : List ℕ) (b : B) → M text b → (later : List ℕ) × (a : A) × L (front ++ (text ++ later)) a

-- and ends as it does, with the same meaning
pub record Carries {A : Type 0} (front : List ℕ) (L M : List ℕ → A → Type 0) : Type 0 where
  pub on : (bytes : List ℕ) → Begins L (front ++ bytes) → Begins M bytes
  pub same : (text : List ℕ) (a : A) → M text a → L (front ++ text) a

pub front_leads : {A B : Type 0} (L : List ℕ → A → Type 0) (M : List ℕ → B → Type 0) (front rest bytes : List ℕ) → Leads front L M → bytes ≡ front ++ rest → IsFront M rest → IsFront L bytes
front_leads L M front rest bytes leads is it =
    let end = leads.ends (rest ++ it.later) it.meaning it.means in
    let whole : front ++ ((rest ++ it.later) ++ end.0) ≡ bytes ++ (it.later ++ end.0) =
    ap (λ (l : List ℕ). front ++ l) (append_assoc rest it.later end.0) ∙ sym (append_assoc front rest (it.later ++ end.0))
    ∙ ap (λ (l : List ℕ). l ++ (it.later ++ end.0)) (sym is) in
    record {
      none = λ begins. it.none (leads.on rest (subst (λ (l : List ℕ). Begins L l) is begins));
      later = it.later ++ end.0;
      meaning = end.1;
      means = subst (λ (l : List ℕ). L l end.1) whole end.2;
    }

pub bad_leads : {A B : Type 0} (L : List ℕ → A → Type 0) (M : List ℕ → B → Type 0) (front rest bytes : List ℕ) → Leads front L M → bytes ≡ front ++ rest → IsBad M rest → IsBad L bytes
bad_leads L M front rest bytes leads is bad later begins =
    let whole : bytes ++ later ≡ front ++ (rest ++ later) = ap (λ (l : List ℕ). l ++ later) is ∙ append_assoc front rest later in
    bad later (leads.on (rest ++ later) (subst (λ (l : List ℕ). Begins L l) whole begins))

pub carries_leads : {A : Type 0} (L M : List ℕ → A → Type 0) (front : List ℕ) → Carries front L M → Leads front L M
carries_leads L M front carries = record {
  on = carries.on;
  ends = λ text a means. ([], a, subst (λ (l : List ℕ). L (front ++ l) a) (sym (append-nil text)) (carries.same text a means));
}

pub carries_reads : {A X : Type 0} (L M : List ℕ → A → Type 0) (meaning : X → A) (behind : X → List ℕ) (why because : ProtocolError → Type 0) (front rest bytes : List ℕ) (found : Found X)
    → Carries front L M → bytes ≡ front ++ rest → ((error : ProtocolError) → IsBad M rest → because error → why error) → Reads M meaning behind because rest found → Reads L meaning behind why bytes found
carries_reads L M meaning behind why because front rest bytes (Whole x) carries is tells read = record {
  text = front ++ read.text;
  means = carries.same read.text (meaning x) read.means;
  is = is ∙ ap (λ (l : List ℕ). front ++ l) read.is ∙ sym (append_assoc front read.text (behind x));
}
carries_reads L M meaning behind why because front rest bytes More carries is tells it = front_leads L M front rest bytes (carries_leads L M front carries) is it
carries_reads L M meaning behind why because front rest bytes (Bad error) carries is tells bad = (bad_leads L M front rest bytes (carries_leads L M front carries) is bad.0, tells error bad.0 bad.1)
