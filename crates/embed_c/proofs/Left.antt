-- The first of the calls that are left is told.
use Rattle.std.proofs.Common.{arith, ◌≡◌, ◌∙◌, ◌<◌, ◌≤◌, ℕ, ◌+◌, List, [], ◌∷◌, ◌++◌, length, take, drop, slice_index_or, true, false, Bool, ap, subst, sym, refl}
use Rattle.std.proofs.lemmas.List.{append-nil, drop-map, drop_more}
use lib.Dec.{T}
use Rattle.disk_model.specs.Call as disk
use Rattle.write_queue.specs.Waiting.{call_of, calls_in}
use Rattle.write_queue.specs.declared.queued.Queued.{Queued}
use Rattle.embed_c.specs.Next.{IsNext, bytes_of, told_of}
use Rattle.embed_c.specs.declared.taken.Call.{Call}

-- what is left from a place on begins with the call there
pub begins : (items : List Queued) (i : ℕ) (x : Queued) → i < length items → x ≡ slice_index_or items i x → drop i (calls_in items) ≡ call_of x ∷ drop (i + 1) (calls_in items)
begins items i x inside here = drop-map call_of i items ∙ ap (λ (l : List Queued). calls_in l) (drop_more items i x inside ∙ ap (λ (y : Queued). y ∷ drop (i + 1) items) (sym here))
    ∙ ap (λ (l : List disk.Call). call_of x ∷ l) (sym (drop-map call_of (i + 1) items))

pub fails : {b : Bool} {A : Type 0} → b ≡ false → b ≡ true → A
fails is isnt = absurd (subst T (sym isnt ∙ is) tt)

module _ (told : Call) (before after : List ℕ) {first : disk.Call} {rest left : List disk.Call} (is : left ≡ first ∷ rest) (call : told ≡ told_of first) {bytes : List ℕ} (of : bytes ≡ bytes_of first) {fits : Bool} where
  -- there is no room for its bytes
  pub told_again : fits ≡ false → (length bytes ≤ length before → fits ≡ true) → IsNext left left told before after 1
  told_again lacks room = subst (λ (l : List disk.Call). IsNext l left told before after 1) (sym is) (
    record {
      call = call;
      given = λ enough. fails lacks (room (subst (λ (l : List ℕ). length l ≤ length before) (sym of) enough));
      again = λ long. is;
    },
    refl,
  )

  -- there is
  pub given_now : fits ≡ true → (fits ≡ true → length bytes ≤ length before) → (fits ≡ true → take (length bytes) after ≡ bytes) → IsNext left rest told before after 1
  given_now fit room front = subst (λ (l : List disk.Call). IsNext l rest told before after 1) (sym is) (
    record {
      call = call;
      given = λ enough. (refl, subst (λ (l : List ℕ). take (length l) after ≡ l) of (front fit));
      again = λ lacks. absurd (omega (arith, lacks, subst (λ (l : List ℕ). length l ≤ length before) of (room fit)));
    },
    refl,
  )

-- so is the first of the calls that wait, where more wait in the machine behind those that are left, or none is left and none waits
pub goes_on : (told : Call) (before after : List ℕ) (answer : ℕ) (queue left behind : List disk.Call) → (queue ≡ [] → behind ≡ []) → IsNext queue left told before after answer → IsNext (queue ++ behind) (left ++ behind) told before after answer
goes_on told before after answer [] left behind first next = subst (λ (l : List disk.Call). IsNext l (left ++ l) told before after answer) (sym (first refl)) (append-nil left ∙ next.0, next.1)
goes_on told before after answer (call ∷ rest) left behind first next = (
  record {
    call = next.0.call;
    given = λ enough. let now = next.0.given enough in (ap (λ (l : List disk.Call). l ++ behind) now.0, now.1);
    again = λ lacks. ap (λ (l : List disk.Call). l ++ behind) (next.0.again lacks);
  },
  next.1,
)
