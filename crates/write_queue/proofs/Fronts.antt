-- Moments since the queue was taken are fronts of the calls that wait.
use Rattle.std.proofs.Common.{◌≡◌, ◌∙◌, ℕ, ◌+◌, ◌-◌, ◌++◌, List, length, take, drop, refl, sym, ap, subst, arith, length-append}
use Rattle.std.specs.Prelude.{◌↔◌}
use Rattle.std.proofs.lemmas.List.{take-append-drop, take-take, take_at, drop-take, drop_at}
use Rattle.disk_model.specs.Disk.{Files}
use Rattle.disk_model.specs.Call.{Call}
use Rattle.disk_model.specs.Calls.{DiskState, IsImage, Moment, disk_after, disk_start, at_moment}
use Rattle.write_queue.specs.Before.{IsLeftBy, real_after}

take_past : {A : Type 0} (xs ys : List A) (k : ℕ) → take (length xs + k) (xs ++ ys) ≡ xs ++ take k ys
take_past xs ys k =
    let n = length xs + k in
    let both = xs ++ ys in
    sym (take-append-drop (length xs) (take n both))
    ∙ ap (λ l. l ++ drop (length xs) (take n both)) (take-take (length xs) n both (omega arith) ∙ take_at xs ys (length xs) refl)
    ∙ ap (λ l. xs ++ l) (drop-take (length xs) k both ∙ ap (λ l. take k l) (drop_at xs ys (length xs) refl))

module _ (first : Files) (taken waiting : List Call) where
  at_front : (k : ℕ) → at_moment first (taken ++ waiting) (length taken + k) ≡ real_after first taken waiting k
  at_front k = ap (λ (l : List Call). disk_after (disk_start first) l) (take_past taken waiting k)

  at_later : (k j : ℕ) → length taken + k ≡ j → at_moment first (taken ++ waiting) j ≡ real_after first taken waiting k
  at_later k j is = ap (λ (n : ℕ). at_moment first (taken ++ waiting) n) (sym is) ∙ at_front k

  pub moments_are_fronts : (files : Files) (said : List ℕ) → Moment first (taken ++ waiting) (length taken) files said ↔ IsLeftBy first taken waiting files said
  moments_are_fronts files said = (
    (λ left.
        let k = left.k - length taken in
        let same = at_later k left.k (omega (arith, left.since)) in
        record {
          front = k;
          within = omega (arith, left.since, left.until, length-append taken waiting);
          image = subst (λ (st : DiskState). IsImage st files) same left.image;
          printed = left.said ∙ ap (λ (st : DiskState). st.said) same;
        }),
    (λ front. record {
      k = length taken + front.front;
      since = omega arith;
      until = omega (arith, front.within, length-append taken waiting);
      image = subst (λ (st : DiskState). IsImage st files) (sym (at_front front.front)) front.image;
      said = front.printed ∙ ap (λ (st : DiskState). st.said) (sym (at_front front.front));
    }),
  )
