-- Which numbers of commands split no group of an account.
use Rattle.std.proofs.Common.{◌≡◌, ◌∙◌, inl, ⊎_elim, ◌≤◌, ◌<◌, ◌^◌, ◌++◌, List, ℕ, [], ◌∷◌, length, length-append, refl, sym, ap, subst, arith, Option, None, Some}
use Rattle.std.specs.Prelude.{IfSome}
use Rattle.std.specs.List.{AllByRecursion}
use Rattle.disk_model.specs.Disk.{Disk}
use Rattle.formats.specs.declared.params.Params.{Params}
use Rattle.explain_core.specs.World.{World}
use Rattle.script_lines.specs.Grammar.{Request, AsksFor}
use Rattle.script_lines.specs.declared.line.Line.TheVariants.{Group}
use Rattle.script_lines.specs.declared.line.Grouping.TheVariants.{Begin as begin_group, End as end_group, Abort as abort_group}
use Rattle.script_lines.specs.Replies.{Reply, ok}
use Rattle.store_engine.specs.Engine.{EngineView}
use Rattle.shell_base.specs.Store.{Command, ShowsIn}
use Rattle.script_run.specs.Groups.{Account, AreInOrder, AreWhole, IsAfter, IsWhole, Span, begun_after, closed_with, ended, group_after, open_in}
use Rattle.script_run.specs.Made.{AsksMade, Made, made, made_by}
use Rattle.script_run.specs.Replies.{IsGranted, Replies}
use Rattle.script_run.specs.StoryLaws.{AllEnd, after_closed}

-- a line asks for one thing
abbrev pub AsksOnce : Type 0
AsksOnce = (line : List ℕ) (a b : Request) → AsksFor line a → AsksFor line b → a ≡ b

-- no group is open in a world that an engine shows which has none
pub none_open : {p : Params} {d : Disk} {engine : EngineView} {w : World Command} → ShowsIn p d engine w → engine.group ≡ None → open_in w ≡ None
none_open {w = w} shows none = ap (λ (group : Option ℕ). begun_after w group) (shows.group ∙ none)

-- as many commands as there were at the end of each closed group have all of each
all_whole : (kept now : ℕ) (spans : List Span) → now ≤ kept → AllEnd now spans → AllByRecursion (IsWhole kept) spans
all_whole kept now [] late within = tt
all_whole kept now (span ∷ spans) late within = (inl (omega (arith, late, within.0)), all_whole kept now spans late within.1)

closed_late : (kept now : ℕ) (group : Option ℕ) (spans : List Span) → AllByRecursion (IsWhole kept) spans → now ≤ kept → AllByRecursion (IsWhole kept) (closed_with group now spans)
closed_late kept now None spans are late = are
closed_late kept now (Some n) spans are late = (inl late, are)

-- all commands of an account split no group, where none is open
pub whole_late : (kept : ℕ) (a : Account) → length a.commands ≤ kept → AreInOrder a → a.group ≡ None → AreWhole kept a
whole_late kept a late within none = record {
  closed = all_whole kept (length a.commands) a.closed late within.ends;
  group = subst (λ (group : Option ℕ). IfSome group (λ n. kept ≤ n)) (sym none) tt;
}

-- or where it is closed
pub whole_ended : {T : Type 0} (kept : ℕ) (a : Account) → AreInOrder a → T × (length a.commands ≤ kept) → AreWhole kept (ended a)
whole_ended kept a within (any, late) = record { closed = closed_late kept (length a.commands) a.group a.closed (all_whole kept (length a.commands) a.closed late within.ends) late; group = tt }

-- a request that adds commands begins no group
makes_none : (p : Params) (commands : List Command) (request : Request) (it : Made) → made_by p commands request ≡ Some it → request ≡ Group begin_group → ⊥
makes_none p commands request it makes is = let none = subst (λ (r : Request). made_by p commands r ≡ Some it) is makes in cc none

-- a line that begins a group adds nothing
pub begin_adds : AsksOnce → (p : Params) (group : Option ℕ) (commands : List Command) (line : List ℕ) (added : List Command) → Replies p group commands line ok added → AsksFor line (Group begin_group) → added ≡ []
begin_adds once p group commands line added replies asks = ⊎_elim
    (λ (made_so : AsksMade p commands line (made added ok) × (length (commands ++ added) < 2 ^ 62)). absurd (makes_none p commands made_so.0.request (made added ok) made_so.0.makes (once line made_so.0.request (Group begin_group) made_so.0.asks asks)))
    (λ (granted : (request : Request) × IsGranted group request × AsksFor line request × (added ≡ [])). granted.3) replies

request_whole : (kept : ℕ) (a : Account) (request : Request) → AreWhole kept a → (request ≡ Group begin_group → kept ≤ length a.commands) → IfSome (group_after request a.group a.commands) (λ n. kept ≤ n)
request_whole kept a (Group begin_group) w begins = begins refl
request_whole kept a (Group end_group) w begins = tt
request_whole kept a (Group abort_group) w begins = tt
request_whole kept a request w begins = w.group

-- what splits no group before an answer splits none after it
pub after_whole : AsksOnce → (p : Params) (kept : ℕ) (a : Account) (line : List ℕ) (reply : Reply) (added : List Command) (b : Account) → Replies p a.group a.commands line reply added → IsAfter a line reply added b
    → AreWhole kept a → kept ≤ length (a.commands ++ added) → AreWhole kept b
after_whole once p kept a line ok added b replies is w le = record {
  closed = after_closed kept a line ok added b is w;
  group = subst (λ (x : Account). IfSome x.group (λ n. kept ≤ n)) (sym is.2)
      (request_whole kept a is.0 w (λ same. let none = begin_adds once p a.group a.commands line added replies (subst (λ (r : Request). AsksFor line r) same is.1) in omega (arith, le, length-append a.commands added, ap length none)));
}
after_whole once p kept a line reply added b replies is w le = record {
  closed = after_closed kept a line reply added b is w;
  group = subst (λ (x : Account). IfSome x.group (λ n. kept ≤ n)) (sym is) w.group;
}
