-- The opening and the end of a group keep a world sound.
use Rattle.std.proofs.Common.{◌≡◌, ◌∙◌, sym, subst, ℕ, ◌+◌, Option, None, Some, List, [], ◌∷◌, ◌++◌, length, ap, arith, inl, inr, length-append}
use Rattle.std.specs.Prelude.{IfSome}
use Rattle.std.proofs.lemmas.Bool.{cases_lt}
use Rattle.oper_core.specs.Meaning.{Meaning}
use Rattle.explain_core.specs.History.{Member, IsCommand, with_lsn}
use Rattle.explain_core.specs.History.Member.{Command, Identity}
use Rattle.explain_core.specs.World.{World, step, MayAppend}
use Rattle.explain_core.specs.World.Step.{Begin, End}
use Rattle.explain_core.specs.Sound.{IsSound, IsGroup}
use Rattle.explain_core.proofs.Basics.{with_lsn-front, with_lsn-last}
use Rattle.explain_core.specs.GraphLaws.{with_lsn-past}

pub of-none : {X : Type 0} (o : Option X) (P : X → Type 0) → o ≡ None → IfSome o P
of-none o P e = subst (λ (q : Option _). IfSome q P) (sym e) tt

-- what holds of the group that is open
pub if_some-to : {X : Type 0} (o : Option X) (P Q : X → Type 0) → ((x : X) → P x → Q x) → IfSome o P → IfSome o Q
if_some-to None P Q to h = tt
if_some-to (Some x) P Q to h = to x h

-- the new member is a command, or no group is open
may-command : {O : Type 0} (m : Meaning O) (w : World O) (member : Member O) (P : ℕ → Type 0) → MayAppend m w member → (IsCommand member → IfSome w.group P) → IfSome w.group P
may-command m w (Command op) P may then = then tt
may-command m w (Identity x v) P may then = of-none w.group P may.2

-- a group after one more command
group-more : {O : Type 0} (h : List (Member O)) (member : Member O) (forced begun : ℕ) → IsCommand member → IsGroup h forced begun → IsGroup (h ++ member ∷ []) forced begun
group-more {O} h member forced begun command g = record {
  stable = g.stable;
  commands = λ n le. elim (cases_lt (length h) n) [
    | inr low ↦ subst (λ (o : Option (Member O)). IfSome o IsCommand) (with_lsn-front h (member ∷ []) n low) (g.commands n le)
    | inl high ↦ elim (cases_lt (length h + 1) n) [
      | inl past ↦ of-none (with_lsn (h ++ member ∷ []) n) IsCommand (with_lsn-past (h ++ member ∷ []) n (omega (arith, length-append h (member ∷ []))))
      | inr here ↦
          let q : n ≡ length h + 1 = omega arith in
          subst (λ (o : Option (Member O)). IfSome o IsCommand) (sym (ap (λ k. with_lsn (h ++ member ∷ []) k) q ∙ with_lsn-last h member)) command
    ]
  ];
}

pub group-append : {O : Type 0} (m : Meaning O) (w : World O) (member : Member O) → MayAppend m w member → IfSome w.group (IsGroup w.history w.forced) → IfSome w.group (IsGroup (w.history ++ member ∷ []) w.forced)
group-append m w member may held = may-command m w member (IsGroup (w.history ++ member ∷ []) w.forced) may
    (λ command. if_some-to w.group (IsGroup w.history w.forced) (IsGroup (w.history ++ member ∷ []) w.forced) (λ begun g. group-more w.history member w.forced begun command g) held)

pub begin_sound : {O : Type 0} (m : Meaning O) (w : World O) → w.forced ≡ length w.history → IsSound m w → IsSound m (step m w Begin)
unfolding step
begin_sound m w all s = record {
  history = s.history;
  forced = s.forced;
  installed = s.installed;
  slots = s.slots;
  tables = s.tables;
  pending = s.pending;
  base = s.base;
  below_base = s.below_base;
  counted = s.counted;
  all_stable = s.all_stable;
  graph = s.graph;
  next = s.next;
  passed = s.passed;
  cache = s.cache;
  cache_right = s.cache_right;
  cache_late = s.cache_late;
  dirty = s.dirty;
  group = record {
    stable = omega (arith, all);
    commands = λ n le. of-none (with_lsn w.history n) IsCommand (with_lsn-past w.history n (omega (arith, le)));
  };
}

pub end_sound : {O : Type 0} (m : Meaning O) (w : World O) → IsSound m w → IsSound m (step m w End)
unfolding step
end_sound m w s = record {
  history = s.history;
  forced = s.forced;
  installed = s.installed;
  slots = s.slots;
  tables = s.tables;
  pending = s.pending;
  base = s.base;
  below_base = s.below_base;
  counted = s.counted;
  all_stable = s.all_stable;
  graph = s.graph;
  next = s.next;
  passed = s.passed;
  cache = s.cache;
  cache_right = s.cache_right;
  cache_late = s.cache_late;
  dirty = s.dirty;
  group = tt;
}
