-- A field is read where its bytes stand, and nowhere else.
use Rattle.std.proofs.Common.{◌≡◌, ◌≤◌, ◌<◌, ℕ, ◌%◌, ◌^◌, Option, None, Some, List, [], ◌∷◌, ◌++◌, length, take, drop, refl, sym, ap, ◌∙◌, subst, arith, append_assoc, option_map, option_and_then, length-append, take-append-drop}
use Rattle.std.specs.Prelude.{IsTrue, nat_le, nat_lt}
use Rattle.std.proofs.Math.Seq.{drop-append_seam}
use Rattle.std.proofs.lemmas.List.{take_at, length-take-le}
use Rattle.std.proofs.lemmas.Bool.{le-leb, leb-true, lt-ltb, ltb-true}
use Rattle.byteorder.specs.Endian.{little_bytes, little_number}
use Rattle.byteorder.specs.Numbers.{little_from-lt}
use Rattle.oper_core.specs.LittleEndian.{length-little_bytes, little_number-little_bytes, little_bytes-front}
use Rattle.key_entries.specs.EntryLaws.{AreBytes, bytes_behind, both_true, true_both, if_some, if_true, and_then_some, map_some, same_some}
use Rattle.page_ops.specs.Formats.{Format, byte, number, text, text_behind, both}

-- the field stands in front, and this is behind it
pub record StandsBefore {X : Type 0} (format : Format X) (bytes : List ℕ) (x : X) (rest : List ℕ) : Type 0 where
  pub split : bytes ≡ format.code x ++ rest
  pub behind : AreBytes rest
  pub fits : IsTrue (format.fits x)

pub record IsExact {X : Type 0} (format : Format X) : Type 0 where
  pub found : (x : X) (rest : List ℕ) → IsTrue (format.fits x) → format.read (format.code x ++ rest) ≡ Some (x, rest)
  pub begins : (bytes : List ℕ) (x : X) (rest : List ℕ) → AreBytes bytes → format.read bytes ≡ Some (x, rest) → StandsBefore format bytes x rest

-- the parts of a pair
pair_first : {A B : Type 0} (x y : A) (u v : B) → ◌≡◌ {A = Option (A × B)} (Some (x, u)) (Some (y, v)) → x ≡ y
pair_first {A = A} {B = B} x y u v e = ap (λ (p : A × B). p.0) (same_some (x, u) (y, v) e)

pair_second : {A B : Type 0} (x y : A) (u v : B) → ◌≡◌ {A = Option (A × B)} (Some (x, u)) (Some (y, v)) → u ≡ v
pair_second {A = A} {B = B} x y u v e = ap (λ (p : A × B). p.1) (same_some (x, u) (y, v) e)

both_parts : {A B : Type 0} (x y : A) (u v : B) → x ≡ y → u ≡ v → ◌≡◌ {A = Option (A × B)} (Some (x, u)) (Some (y, v))
both_parts {A = A} {B = B} x y u v e f = λ i. let p : A × B = (e i, f i) in Some p

abbrev pair_up : {X Y : Type 0} → X → Y × List ℕ → (X × Y) × List ℕ
pair_up x y = ((x, y.0), y.1)

drop_behind : (front rest : List ℕ) (n : ℕ) → length front ≡ n → drop n (front ++ rest) ≡ rest
drop_behind front rest n size = ap (λ (k : ℕ). drop k (front ++ rest)) (sym size) ∙ drop-append_seam front rest

pub number_exact : (width : ℕ) → IsExact (number width)
number_exact width = record {
  found = λ x rest small.
      let size = length-little_bytes width x in
      let bytes : List ℕ = little_bytes width x ++ rest in
      let read : ℕ × List ℕ = (little_number width bytes, drop width bytes) in
      let room : width ≤ length bytes = omega (arith, size, length-append (little_bytes width x) rest) in
      if_true {A = Option (ℕ × List ℕ)} (nat_le width (length bytes)) (Some read) None (le-leb width (length bytes) room)
      ∙ both_parts (little_number width bytes) x (drop width bytes) rest (little_number-little_bytes width x rest (ltb-true x (256 ^ width) small)) (drop_behind (little_bytes width x) rest width size);
  begins = λ bytes x rest are is.
      let read : ℕ × List ℕ = (little_number width bytes, drop width bytes) in
      let target : ℕ × List ℕ = (x, rest) in
      let found = if_some {A = ℕ × List ℕ} (nat_le width (length bytes)) (Some read) target is in
      let long : width ≤ length bytes = leb-true width (length bytes) found.0 in
      let value : little_number width bytes ≡ x = pair_first (little_number width bytes) x (drop width bytes) rest found.1 in
      let behind : drop width bytes ≡ rest = pair_second (little_number width bytes) x (drop width bytes) rest found.1 in
      record {
        split = little_bytes-front width bytes long are ∙ (λ i. little_bytes width (value i) ++ behind i);
        behind = subst (λ (l : List ℕ). AreBytes l) behind (bytes_behind width bytes are);
        fits = lt-ltb x (256 ^ width) (subst (λ (n : ℕ). n < 256 ^ width) value (little_from-lt 0 width bytes are));
      };
}

byte_code : (x : ℕ) → x < 256 → little_bytes 1 x ≡ x ∷ []
byte_code x small = let same : x % 256 ≡ x = omega (arith, small) in ap (λ (n : ℕ). n ∷ []) same

pub byte_exact : IsExact byte
byte_exact = record {
  found = λ x rest fits. ap (λ (l : List ℕ). (number 1).read (l ++ rest)) (sym (byte_code x (ltb-true x 256 fits))) ∙ (number_exact 1).found x rest fits;
  begins = λ bytes x rest are is.
      let stands = (number_exact 1).begins bytes x rest are is in
      record {
        split = stands.split ∙ ap (λ (l : List ℕ). l ++ rest) (byte_code x (ltb-true x 256 stands.fits));
        behind = stands.behind;
        fits = stands.fits;
      };
}

pub text_exact : IsExact text
text_exact = record {
  found = λ x rest short.
      let n : ℕ = length x in
      let bytes : List ℕ = x ++ rest in
      let read : List ℕ × List ℕ = (take n bytes, drop n bytes) in
      let room : n ≤ length bytes = omega (arith, length-append x rest) in
      ap (λ (o : Option (ℕ × List ℕ)). option_and_then text_behind o) ((number_exact 2).found n bytes short)
      ∙ if_true {A = Option (List ℕ × List ℕ)} (nat_le n (length bytes)) (Some read) None (le-leb n (length bytes) room)
      ∙ both_parts (take n bytes) x (drop n bytes) rest (take_at x rest n refl) (drop-append_seam x rest);
  begins = λ bytes x rest are is.
      let target : List ℕ × List ℕ = (x, rest) in
      let front = and_then_some {A = ℕ × List ℕ} {B = List ℕ × List ℕ} text_behind ((number 2).read bytes) target is in
      let n : ℕ = front.0.0 in
      let after : List ℕ = front.0.1 in
      let read : List ℕ × List ℕ = (take n after, drop n after) in
      let stands = (number_exact 2).begins bytes n after are front.1 in
      let found = if_some {A = List ℕ × List ℕ} (nat_le n (length after)) (Some read) target front.2 in
      let long : n ≤ length after = leb-true n (length after) found.0 in
      let value : take n after ≡ x = pair_first (take n after) x (drop n after) rest found.1 in
      let behind : drop n after ≡ rest = pair_second (take n after) x (drop n after) rest found.1 in
      let size : n ≡ length x = sym (length-take-le n after long) ∙ ap (λ (l : List ℕ). length l) value in
      record {
        split = stands.split ∙ ap (λ (l : List ℕ). little_bytes 2 n ++ l) (sym (take-append-drop n after)) ∙ (λ i. little_bytes 2 (size i) ++ (value i ++ behind i));
        behind = subst (λ (l : List ℕ). AreBytes l) behind (bytes_behind n after stands.behind);
        fits = subst (λ (k : ℕ). IsTrue (nat_lt k 65536)) size stands.fits;
      };
}

module _ {X Y : Type 0} (f : Format X) (g : Format Y) (front : IsExact f) (back : IsExact g) where
  abbrev paired : X × List ℕ → Option ((X × Y) × List ℕ)
  paired x = option_map (pair_up {X = X} {Y = Y} x.0) (g.read x.1)

  pub both_exact : IsExact (both f g)
  both_exact = record {
    found = λ p rest fits.
        let fit = both_true (f.fits p.0) (g.fits p.1) fits in
        let behind : List ℕ = g.code p.1 ++ rest in
        ap (λ (l : List ℕ). option_and_then paired (f.read l)) (append_assoc (f.code p.0) (g.code p.1) rest)
        ∙ ap (λ (o : Option (X × List ℕ)). option_and_then paired o) (front.found p.0 behind fit.0)
        ∙ ap (λ (o : Option (Y × List ℕ)). option_map (pair_up {X = X} {Y = Y} p.0) o) (back.found p.1 rest fit.1);
    begins = λ bytes p rest are is.
        let target : (X × Y) × List ℕ = (p, rest) in
        let a = and_then_some {A = X × List ℕ} {B = (X × Y) × List ℕ} paired (f.read bytes) target is in
        let b = map_some {A = Y × List ℕ} {B = (X × Y) × List ℕ} (pair_up {X = X} {Y = Y} a.0.0) (g.read a.0.1) target a.2 in
        let first = front.begins bytes a.0.0 a.0.1 are a.1 in
        let second = back.begins a.0.1 b.0.0 b.0.1 first.behind b.1 in
        subst (λ (q : (X × Y) × List ℕ). StandsBefore (both f g) bytes q.0 q.1) b.2 (record {
          split = first.split ∙ ap (λ (l : List ℕ). f.code a.0.0 ++ l) second.split ∙ sym (append_assoc (f.code a.0.0) (g.code b.0.0) b.0.1);
          behind = second.behind;
          fits = true_both (f.fits a.0.0) (g.fits b.0.0) first.fits second.fits;
        });
  }
