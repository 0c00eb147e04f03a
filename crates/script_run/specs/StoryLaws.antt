-- How what was said goes on from answer to answer.
use Rattle.std.proofs.Common.{◌≡◌, ◌⊎◌, inl, inr, ⊎_elim, ◌≤◌, ◌<◌, ◌^◌, ◌+◌, ◌-◌, ◌++◌, List, ℕ, [], ◌∷◌, zero, suc, length, min, take, length-append, length-take, append_assoc, refl, ap, ◌∙◌, sym, subst, arith, Contains, Option, None, Some}
use Rattle.std.specs.Prelude.{IfSome}
use Rattle.std.proofs.Math.Seq.{take-append-add}
use Rattle.std.proofs.lemmas.List.{append-nil, take-append-le, take-take, take_all}
use Rattle.std.proofs.lemmas.List.Elements.{Contains-append_left, Contains-append_cases}
use Rattle.std.proofs.lemmas.List.Concat.{flat_map-append}
use Rattle.std.specs.List.{AllByRecursion, flat_map}
use Rattle.disk_model.specs.Disk.{Disk, LeavesOnly}
use Rattle.formats.specs.declared.params.Params.{Params}
use Rattle.script_lines.specs.Grammar.{Request, AsksFor}
use Rattle.script_lines.specs.declared.line.Line.TheVariants.{Keep, Group, Save}
use Rattle.script_lines.specs.declared.line.Upkeep.TheVariants.{Install as install, Drain as drain, Checkpoint as checkpoint, Trim as trim}
use Rattle.script_lines.specs.declared.line.Grouping.TheVariants.{Begin as begin_group, End as end_group, Abort as abort_group}
use Rattle.script_lines.specs.declared.line.Saving.TheVariants.{Start as bstart}
use Rattle.script_lines.specs.Replies.{Reply, ok, ran, pairs, bad_tree, tree_full, denied, in_group, no_group, value, forced, bad, refused, full, end, object_value, command_count, stat, copied, saved, backup_denied, summary, absent, counted, silence, text_of, said_line}
use Rattle.shell_base.specs.Store.{Command}
use Rattle.script_run.specs.declared.tending.Tending.{Tending}
use Rattle.script_run.specs.Groups.{Account, AreInOrder, AreWhole, Becomes, IsAfter, IsWhole, Regroups, Span, account_before, account_of, all_after, closed_after, closed_with, group_after, waiting}
use Rattle.script_run.specs.Made.{Made, AsksMade, IsFront, made, made_by}
use Rattle.script_run.specs.Replies.{IsGranted, Replies}
use Rattle.script_run.specs.Stages.{AllGoBy, LeadsOn, PacedStage}
use Rattle.script_run.specs.Answers.{Answers, Begun, IsSilent, Said, TrueWithin, with_begun, with_line, with_waits}

-- the account after a line

-- they are those that were there and what was added, or an abort has left those before the open group
pub record IsCut (group : Option ℕ) (commands all : List Command) : Type 0 where
  pub before : ℕ
  pub group_is : group ≡ Some before
  pub left : all ≡ take before commands

pub request_cuts : (request : Request) (group : Option ℕ) (commands added : List Command) → (all_after request group commands added ≡ commands ++ added) ⊎ IsCut group commands (all_after request group commands added)
request_cuts (Group abort_group) None commands added = inl refl
request_cuts (Group abort_group) (Some n) commands added = inr (record { before = n; group_is = refl; left = refl })
request_cuts request group commands added = inl refl

pub becomes_cuts : (line : List ℕ) (reply : Reply) (group : Option ℕ) (commands added all : List Command) → Becomes line reply group commands added all → (all ≡ commands ++ added) ⊎ IsCut group commands all
becomes_cuts line ok group commands added all is = subst (λ (l : List Command). (l ≡ commands ++ added) ⊎ IsCut group commands l) (sym is.2) (request_cuts is.0 group commands added)
becomes_cuts line reply group commands added all is = inl is

-- as many of the commands before as are left are the first of them
cut_front : (kept n : ℕ) (commands added : List Command) → kept ≤ length (take n commands) → (kept ≤ length (commands ++ added)) × (take kept (take n commands) ≡ take kept (commands ++ added))
cut_front kept n commands added le =
    let short : length (take n commands) ≡ min n (length commands) = length-take n commands in
    let few : kept ≤ n = omega (arith, le, short) in
    let most : kept ≤ length commands = omega (arith, le, short) in
    (omega (arith, most, length-append commands added), take-take kept n commands few ∙ sym (take-append-le kept commands added most))

pub becomes_front : (line : List ℕ) (reply : Reply) (group : Option ℕ) (commands added all : List Command) → Becomes line reply group commands added all → (kept : ℕ) → kept ≤ length all
    → (kept ≤ length (commands ++ added)) × (take kept all ≡ take kept (commands ++ added))
becomes_front line reply group commands added all is kept le = ⊎_elim
    (λ (same : all ≡ commands ++ added). (omega (arith, le, ap length same), ap (λ (l : List Command). take kept l) same))
    (λ (cut : IsCut group commands all).
    let here = cut_front kept cut.before commands added (omega (arith, le, ap length cut.left)) in
    (here.0, ap (λ (l : List Command). take kept l) cut.left ∙ here.1))
    (becomes_cuts line reply group commands added all is)

-- where a line leaves the open group as it is, no command is taken away
pub grows_so : (line : List ℕ) (reply : Reply) (commands added : List Command) (before after : Option ℕ) → Regroups line reply commands before after → after ≡ before → Becomes line reply before commands added (commands ++ added)
grows_so line ok commands added before after is same = (is.0, is.1, request_grows is.0 before commands added (sym is.2 ∙ same))
  where
    request_grows : (request : Request) (group : Option ℕ) (commands added : List Command) → group_after request group commands ≡ group → commands ++ added ≡ all_after request group commands added
    request_grows (Group abort_group) None commands added same = refl
    request_grows (Group abort_group) (Some n) commands added same = cc same
    request_grows request group commands added same = refl
grows_so line reply commands added before after is same = refl

pub grows_to : (line : List ℕ) (reply : Reply) (commands added : List Command) (before after : Option ℕ) {all : List Command} → Regroups line reply commands before after → after ≡ before → all ≡ commands ++ added
    → Becomes line reply before commands added all
grows_to line reply commands added before after is same are = subst (λ (l : List Command). Becomes line reply before commands added l) (sym are) (grows_so line reply commands added before after is same)

-- an open group of which nothing is kept is whole as it closes
pub closed_whole : (kept last : ℕ) (group : Option ℕ) (spans : List Span) → AllByRecursion (IsWhole kept) spans → IfSome group (λ n. kept ≤ n) → AllByRecursion (IsWhole kept) (closed_with group last spans)
closed_whole kept last None spans are none = are
closed_whole kept last (Some n) spans are before = (inr before, are)

pub ended_whole : (kept : ℕ) (todo : List (List ℕ)) (a : Account) → AreWhole kept a → AreWhole kept (account_before todo a)
ended_whole kept [] a w = record { closed = closed_whole kept (length a.commands) a.group a.closed w.closed w.group; group = tt }
ended_whole kept (line ∷ todo) a w = record { closed = w.closed; group = w.group }

request_whole : (kept : ℕ) (request : Request) (a : Account) → AreWhole kept a → AllByRecursion (IsWhole kept) (closed_after request a)
request_whole kept (Group end_group) a w = closed_whole kept (length a.commands) a.group a.closed w.closed w.group
request_whole kept request a w = w.closed

-- an answer splits no closed group
pub after_closed : (kept : ℕ) (a : Account) (line : List ℕ) (reply : Reply) (added : List Command) (b : Account) → IsAfter a line reply added b → AreWhole kept a → AllByRecursion (IsWhole kept) b.closed
after_closed kept a line ok added b is w = subst (λ (x : Account). AllByRecursion (IsWhole kept) x.closed) (sym is.2) (request_whole kept is.0 a w)
after_closed kept a line reply added b is w = subst (λ (x : Account). AllByRecursion (IsWhole kept) x.closed) (sym is) w.closed

-- each closed group ends within so many commands
abbrev pub AllEnd : ℕ → List Span → Type 0
AllEnd n spans = AllByRecursion (λ (span : Span). span.to ≤ n) spans

pub end_within : (n most : ℕ) (spans : List Span) → n ≤ most → AllEnd n spans → AllEnd most spans
end_within n most [] le are = tt
end_within n most (span ∷ spans) le are = (omega (arith, le, are.0), end_within n most spans le are.1)

-- an answer keeps the groups in order
module _ (commands added : List Command) (closed : List Span) (ends : AllEnd (length commands) closed) where
  later : AllEnd (length (commands ++ added)) closed
  later = end_within (length commands) (length (commands ++ added)) closed (omega (arith, length-append commands added)) ends

  same_order : (group : Option ℕ) → IfSome group (λ n. (n ≤ length commands) × AllEnd n closed) → AreInOrder (record { commands = commands ++ added; closed = closed; group = group })
  same_order None early = record { ends = later; group = tt }
  same_order (Some n) early = record { ends = later; group = (omega (arith, early.0, length-append commands added), early.1) }

  closed_order : (group : Option ℕ) → AllEnd (length (commands ++ added)) (closed_with group (length commands) closed)
  closed_order None = later
  closed_order (Some n) = (omega (arith, length-append commands added), later)

  cut_order : (group : Option ℕ) → IfSome group (λ n. (n ≤ length commands) × AllEnd n closed) → AllEnd (length (all_after (Group abort_group) group commands added)) closed
  cut_order None early = later
  cut_order (Some n) early = end_within n (length (take n commands)) closed (omega (arith, early.0, length-take n commands)) early.1

request_order : (request : Request) (added : List Command) (a : Account) → AreInOrder a
    → AreInOrder (record { commands = all_after request a.group a.commands added; closed = closed_after request a; group = group_after request a.group a.commands })
request_order (Group begin_group) added a o = record { ends = later a.commands added a.closed o.ends; group = (omega (arith, length-append a.commands added), o.ends) }
request_order (Group end_group) added a o = record { ends = closed_order a.commands added a.closed o.ends a.group; group = tt }
request_order (Group abort_group) added a o = record { ends = cut_order a.commands added a.closed o.ends a.group o.group; group = tt }
request_order request added a o = same_order a.commands added a.closed o.ends a.group o.group

pub after_within : (a : Account) (line : List ℕ) (reply : Reply) (added : List Command) (b : Account) → IsAfter a line reply added b → AreInOrder a → AreInOrder b
after_within a line ok added b is o = subst AreInOrder (sym is.2) (request_order is.0 added a o)
after_within a line reply added b is o = subst AreInOrder (sym is) (same_order a.commands added a.closed o.ends a.group o.group)

-- The account that an answer leads to, where its open group is this one, and these are its commands.
pub record IsNext (a : Account) (line : List ℕ) (reply : Reply) (added all : List Command) (group : Option ℕ) : Type 0 where
  pub account : Account
  pub after : IsAfter a line reply added account
  pub commands_are : account.commands ≡ all
  pub group_is : account.group ≡ group

pub next_in : ((line : List ℕ) (a b : Request) → AsksFor line a → AsksFor line b → a ≡ b) → (a : Account) (line : List ℕ) (reply : Reply) (added all : List Command) (group : Option ℕ)
    → Becomes line reply a.group a.commands added all → Regroups line reply a.commands a.group group → IsNext a line reply added all group
next_in once a line ok added all group becomes is = record {
  account = record { commands = all_after is.0 a.group a.commands added; closed = closed_after is.0 a; group = group_after is.0 a.group a.commands };
  after = (is.0, is.1, refl);
  commands_are = ap (λ (request : Request). all_after request a.group a.commands added) (once line is.0 becomes.0 is.1 becomes.1) ∙ sym becomes.2;
  group_is = sym is.2;
}
next_in once a line reply added all group becomes is
    = record { account = record { commands = a.commands ++ added; closed = a.closed; group = a.group }; after = refl; commands_are = sym becomes; group_is = sym is }

-- The account that an answer of a plain map leads to. A number of commands that splits no group before splits none after it.
pub record Next (a : Account) (line : List ℕ) (reply : Reply) (added : List Command) : Type 0 where
  pub account : Account
  pub after : IsAfter a line reply added account
  pub whole : (kept : ℕ) → kept ≤ length (a.commands ++ added) → AreWhole kept a → AreWhole kept account
  -- and its commands are still there
  pub front : (kept : ℕ) → kept ≤ length (a.commands ++ added) → AreWhole kept a → (kept ≤ length account.commands) × (take kept account.commands ≡ take kept (a.commands ++ added))

same_next : (a : Account) (line : List ℕ) (reply : Reply) (added : List Command) → IsAfter a line reply added (record { commands = a.commands ++ added; closed = a.closed; group = a.group }) → Next a line reply added
same_next a line reply added is = record {
  account = record { commands = a.commands ++ added; closed = a.closed; group = a.group };
  after = is;
  whole = λ kept le w. record { closed = w.closed; group = w.group };
  front = λ kept le w. (le, refl);
}

-- no line that asks for commands begins or ends a group
pub made_group : (p : Params) (commands : List Command) (it : Made) (request : Request) (a : Account) → made_by p commands request ≡ Some it
    → (group_after request a.group a.commands ≡ a.group) × (closed_after request a ≡ a.closed)
made_group p commands it (Group begin_group) a is = absurd (cc is)
made_group p commands it (Group end_group) a is = absurd (cc is)
made_group p commands it (Group abort_group) a is = absurd (cc is)
made_group p commands it request a is = (refl, refl)

-- or takes commands away
pub made_grows : (p : Params) (commands : List Command) (it : Made) (request : Request) → made_by p commands request ≡ Some it → (group : Option ℕ) (all added : List Command) → all_after request group all added ≡ all ++ added
made_grows p commands it (Group abort_group) is group all added = absurd (cc is)
made_grows p commands it request is group all added = refl

next_made : (p : Params) (a : Account) (line : List ℕ) (added : List Command) (it : Made) → AsksMade p a.commands line it → Next a line ok added
next_made p a line added it m =
    let same = made_group p a.commands it m.request a m.makes in
    let grows = made_grows p a.commands it m.request m.makes a.group a.commands added in
    same_next a line ok added (m.request, m.asks, λ i. record { commands = sym grows i; closed = sym same.1 i; group = sym same.0 i })

next_granted : (a : Account) (line : List ℕ) (added : List Command) (request : Request) → IsGranted a.group request → AsksFor line request → added ≡ [] → Next a line ok added
next_granted a line added (Group begin_group) may asks none = record {
  account = record { commands = a.commands ++ added; closed = a.closed; group = Some (length a.commands) };
  after = (Group begin_group, asks, refl);
  whole = λ kept le w. record { closed = w.closed; group = omega (arith, le, length-append a.commands added, ap length none) };
  front = λ kept le w. (le, refl);
}
next_granted a line added (Group end_group) may asks none = record {
  account = record { commands = a.commands ++ added; closed = closed_with a.group (length a.commands) a.closed; group = None };
  after = (Group end_group, asks, refl);
  whole = λ kept le w. record { closed = closed_whole kept (length a.commands) a.group a.closed w.closed w.group; group = tt };
  front = λ kept le w. (le, refl);
}
next_granted a line added (Group abort_group) may asks none = record {
  account = record { commands = all_after (Group abort_group) a.group a.commands added; closed = a.closed; group = None };
  after = (Group abort_group, asks, refl);
  whole = λ kept le w. record { closed = w.closed; group = tt };
  front = λ kept le w. by_group kept le a.group w.group;
}
  where
    by_group : (kept : ℕ) → kept ≤ length (a.commands ++ added) → (group : Option ℕ) → IfSome group (λ n. kept ≤ n)
        → (kept ≤ length (all_after (Group abort_group) group a.commands added)) × (take kept (all_after (Group abort_group) group a.commands added) ≡ take kept (a.commands ++ added))
    by_group kept le None early = (le, refl)
    by_group kept le (Some n) early =
        let few : kept ≤ length (take n a.commands) = omega (arith, le, early, length-append a.commands added, ap length none, length-take n a.commands) in
        (few, (cut_front kept n a.commands added few).1)
next_granted a line added (Keep install) may asks none = same_next a line ok added (Keep install, asks, refl)
next_granted a line added (Keep drain) may asks none = same_next a line ok added (Keep drain, asks, refl)
next_granted a line added (Keep checkpoint) may asks none = same_next a line ok added (Keep checkpoint, asks, refl)
next_granted a line added (Keep trim) may asks none = same_next a line ok added (Keep trim, asks, refl)
next_granted a line added (Save bstart) may asks none = same_next a line ok added (Save bstart, asks, refl)
next_granted a line added request may asks none = absurd may.0

pub next_of : (p : Params) (a : Account) (line : List ℕ) (reply : Reply) (added : List Command) → Replies p a.group a.commands line reply added → Next a line reply added
next_of p a line ok added is = ⊎_elim
    (λ (m : AsksMade p a.commands line (made added ok) × (length (a.commands ++ added) < 2 ^ 62)). next_made p a line added (made added ok) m.0)
    (λ (g : (request : Request) × IsGranted a.group request × AsksFor line request × (added ≡ [])). next_granted a line added g.0 g.1 g.2 g.3)
    is
next_of p a line reply added is = same_next a line reply added refl

-- the answers to lines

-- as many answers as lines, and as often the commands that wait
abbrev pub AreEven : List (List ℕ) → List Reply → List (List Command) → Type 0
AreEven lines replies waits = (length lines ≡ length replies) × (length lines ≡ length waits)

pub answers_even : (p : Params) (a : Account) (lines : List (List ℕ)) (replies : List Reply) (waits : List (List Command)) (b : Account) → Answers p a lines replies waits b → AreEven lines replies waits
answers_even p a [] [] [] b is = (refl, refl)
answers_even p a (line ∷ lines) (reply ∷ replies) (ops ∷ waits) b (added, mid, here, same, after, rest) =
    let even = answers_even p mid lines replies waits b rest in (omega (arith, even.0), omega (arith, even.1))
answers_even p a lines replies waits b none = absurd none

-- These commands are the first of the account's, and its open group began behind them: no abort takes them away.
pub record StandsOn (first : List Command) (a : Account) : Type 0 where
  pub more : List Command
  pub commands_are : a.commands ≡ first ++ more
  pub group : IfSome a.group (λ n. length first ≤ n)

module _ (first commands more added : List Command) (are : commands ≡ first ++ more) where
  longer : commands ++ added ≡ first ++ (more ++ added)
  longer = ap (λ (l : List Command). l ++ added) are ∙ append_assoc first more added

  shorter : (n : ℕ) → length first ≤ n → take n commands ≡ first ++ take (n - length first) more
  shorter n late =
      let split : n ≡ length first + (n - length first) = omega (arith, late) in
      ap (λ (l : List Command). take n l) are ∙ ap (λ (k : ℕ). take k (first ++ more)) split ∙ take-append-add first more (n - length first)

  stands_cut : (group : Option ℕ) → IfSome group (λ n. length first ≤ n) → (rest : List Command) × (all_after (Group abort_group) group commands added ≡ first ++ rest)
  stands_cut None late = (more ++ added, longer)
  stands_cut (Some n) late = (take (n - length first) more, shorter n late)

  stands_request : (request : Request) (closed : List Span) (group : Option ℕ) → IfSome group (λ n. length first ≤ n)
      → StandsOn first (record { commands = all_after request group commands added; closed = closed; group = group_after request group commands })
  stands_request (Group begin_group) closed group late = record { more = more ++ added; commands_are = longer; group = omega (arith, ap length are, length-append first more) }
  stands_request (Group end_group) closed group late = record { more = more ++ added; commands_are = longer; group = tt }
  stands_request (Group abort_group) closed group late = let cut = stands_cut group late in record { more = cut.0; commands_are = cut.1; group = tt }
  stands_request request closed group late = record { more = more ++ added; commands_are = longer; group = late }

stands_after : (first : List Command) (a : Account) (line : List ℕ) (reply : Reply) (added : List Command) (b : Account) → IsAfter a line reply added b → StandsOn first a → StandsOn first b
stands_after first a line ok added b is s = subst (λ (x : Account). StandsOn first x) (sym is.2) (stands_request first a.commands s.more added s.commands_are is.0 (closed_after is.0 a) a.group s.group)
stands_after first a line reply added b is s
    = subst (λ (x : Account). StandsOn first x) (sym is) (record { more = s.more ++ added; commands_are = longer first a.commands s.more added s.commands_are; group = s.group })

answers_stand : (p : Params) (first : List Command) (a : Account) (lines : List (List ℕ)) (replies : List Reply) (waits : List (List Command)) (b : Account) → Answers p a lines replies waits b → StandsOn first a → StandsOn first b
answers_stand p first a [] [] [] b is s = subst (λ (x : Account). StandsOn first x) (sym is) s
answers_stand p first a (line ∷ lines) (reply ∷ replies) (ops ∷ waits) b (added, mid, here, same, after, rest) s = answers_stand p first mid lines replies waits b rest (stands_after first a line reply added mid after s)
answers_stand p first a lines replies waits b none s = absurd none

-- they add commands to those that were there at the start
pub answers_grow : (p : Params) (commands : List Command) (lines : List (List ℕ)) (replies : List Reply) (waits : List (List Command)) (b : Account) → Answers p (account_of commands) lines replies waits b
    → (acc : List Command) × (b.commands ≡ commands ++ acc)
answers_grow p commands lines replies waits b is =
    let s = answers_stand p commands (account_of commands) lines replies waits b is (record { more = []; commands_are = sym (append-nil commands); group = tt }) in
    (s.more, s.commands_are)

-- one line more
pub answers_more : (p : Params) (a : Account) (lines : List (List ℕ)) (replies : List Reply) (waits : List (List Command)) (b : Account) (line : List ℕ) (reply : Reply) (added : List Command) (c : Account)
    → Answers p a lines replies waits b → Replies p b.group b.commands line reply added → IsAfter b line reply added c
    → Answers p a (lines ++ line ∷ []) (replies ++ reply ∷ []) (waits ++ waiting b.group (b.commands ++ added) ∷ []) c
answers_more p a [] [] [] b line reply added c none here after =
    subst (λ (x : Account). Answers p x (line ∷ []) (reply ∷ []) (waiting b.group (b.commands ++ added) ∷ []) c) none (added, c, here, refl, after, refl)
answers_more p a (l ∷ lines) (r ∷ replies) (o ∷ waits) b line reply added c (x, mid, first, same, next, rest) here after =
    (x, mid, first, same, next, answers_more p mid lines replies waits b line reply added c rest here after)
answers_more p a lines replies waits b line reply added c none here after = absurd none

-- the first lines of a script, and the answers to them
pub record Story (p : Params) (commands : List Command) (script todo : List (List ℕ)) (replies : List Reply) (waits : List (List Command)) (account : Account) : Type 0 where
  pub lines : List (List ℕ)
  pub script_is : script ≡ lines ++ todo
  pub answers : Answers p (account_of commands) lines replies waits account

-- Bytes said, with all commands after them and the numbers that they say to be forced. A number of commands that splits no
-- group of the account splits none of the story's, which has these commands too.
pub record Told (p : Params) (tie : List Command → List ℕ → Reply → Type 0) (commands : List Command) (script lines : List (List ℕ)) (replies : List Reply) (waits : List (List Command)) (account : Account) (every : List Command) (said : List ℕ) : Type 0 where
  pub story : Said p tie commands script said
  pub all : (kept : ℕ) → kept ≤ length every → AreWhole kept account → (kept ≤ length (story.account.commands ++ story.added)) × (take kept (story.account.commands ++ story.added) ≡ take kept every)
  pub whole : (kept : ℕ) → kept ≤ length every → AreWhole kept account → AreWhole kept story.account
  pub spoken : (n : ℕ) → Contains story.replies (forced n) → Contains replies (forced n)
  pub with_last : with_begun story.replies story.work ≡ replies
  pub lines_are : with_line story.lines story.work ≡ lines
  pub waits_are : with_waits story.waits story.work ≡ waits

only_one : {X : Type 0} (r x : X) → Contains (r ∷ []) x → r ≡ x
only_one r x (zero, small, is) = is
only_one r x (suc k, small, is) = absurd (omega arith)

-- before the first line
abbrev pub story_start : (p : Params) (commands : List Command) (script : List (List ℕ)) → Story p commands script script [] [] (account_of commands)
story_start p commands script = record { lines = []; script_is = refl; answers = refl }

abbrev pub story_more : {p : Params} {commands : List Command} {script todo : List (List ℕ)} {replies : List Reply} {waits : List (List Command)} {account : Account} (line : List ℕ) (reply : Reply) (added : List Command) (after : Account)
    → Story p commands script (line ∷ todo) replies waits account → Replies p account.group account.commands line reply added → IsAfter account line reply added after
    → Story p commands script todo (replies ++ reply ∷ []) (waits ++ waiting account.group (account.commands ++ added) ∷ []) after
story_more {p} {commands} {script} {todo} {replies} {waits} {account} line reply added after s here is = record {
  lines = s.lines ++ line ∷ [];
  script_is = s.script_is ∙ sym (append_assoc s.lines (line ∷ []) todo);
  answers = answers_more p (account_of commands) s.lines replies waits account line reply added after s.answers here is;
}

-- the story of a whole script
pub story_end : {p : Params} {commands : List Command} {script todo : List (List ℕ)} {replies : List Reply} {waits : List (List Command)} {account : Account} → Story p commands script todo replies waits account → todo ≡ []
    → Answers p (account_of commands) script replies waits account
story_end {p} {commands} {script} {todo} {replies} {waits} {account} s none =
    let lines : s.lines ≡ script = sym (s.script_is ∙ ap (λ (l : List (List ℕ)). s.lines ++ l) none ∙ append-nil s.lines) in
    subst (λ (l : List (List ℕ)). Answers p (account_of commands) l replies waits account) lines s.answers

pub said_more : (replies : List Reply) (reply : Reply) → flat_map said_line (replies ++ reply ∷ []) ≡ flat_map said_line replies ++ said_line reply
said_more replies reply = flat_map-append said_line replies (reply ∷ []) ∙ ap (λ (l : List ℕ). flat_map said_line replies ++ l) (append-nil (said_line reply))

-- an answer is among the earlier ones, or it is the last
pub answer_cases : (replies : List Reply) (reply one : Reply) → Contains (replies ++ reply ∷ []) one → Contains replies one ⊎ (reply ≡ one)
answer_cases replies reply one has = ⊎_elim (λ (h : Contains replies one). inl h) (λ (h : Contains (reply ∷ []) one). inr (only_one reply one h)) (Contains-append_cases replies (reply ∷ []) one has)

pub spoken_more : (replies : List Reply) (reply : Reply) (n : ℕ) → Contains (replies ++ reply ∷ []) (forced n) → Contains replies (forced n) ⊎ (reply ≡ forced n)
spoken_more replies reply n has = answer_cases replies reply (forced n) has

-- whole answers were said, and nothing of the next
pub all_same : {kept : ℕ} (every others : List Command) → others ≡ every → kept ≤ length every → (kept ≤ length others) × (take kept others ≡ take kept every)
all_same {kept} every others same le = (omega (arith, le, ap length same), ap (λ (l : List Command). take kept l) same)

abbrev pub told_whole : {p : Params} (tie : List Command → List ℕ → Reply → Type 0) {commands : List Command} {script todo : List (List ℕ)} {replies : List Reply} {waits : List (List Command)} {account : Account}
    → (s : Story p commands script todo replies waits account) → Told p tie commands script s.lines replies waits account account.commands (flat_map said_line replies)
told_whole {p} tie {commands} {script} {todo} {replies} {waits} {account} s = record {
  story = record {
    lines = s.lines;
    todo = todo;
    replies = replies;
    waits = waits;
    account = account;
    part = [];
    added = [];
    script_is = s.script_is;
    said_is = sym (append-nil _);
    answers = s.answers;
    work = inl (refl, inl refl);
  };
  all = λ kept le w. all_same account.commands (account.commands ++ []) (append-nil account.commands) le;
  whole = λ kept le w. w;
  spoken = λ n has. has;
  with_last = refl;
  lines_are = refl;
  waits_are = refl;
}

-- nothing of the next, and some first commands that it asks for
pub told_silent : {p : Params} (tie : List Command → List ℕ → Reply → Type 0) {commands : List Command} {script todo : List (List ℕ)} {replies : List Reply} {waits : List (List Command)} {account : Account} (added : List Command)
    → (s : Story p commands script todo replies waits account) → IsSilent p account.commands todo added → Told p tie commands script s.lines replies waits account (account.commands ++ added) (flat_map said_line replies)
told_silent {p} tie {commands} {script} {todo} {replies} {waits} {account} added s silent = record {
  story = record {
    lines = s.lines;
    todo = todo;
    replies = replies;
    waits = waits;
    account = account;
    part = [];
    added = added;
    script_is = s.script_is;
    said_is = sym (append-nil _);
    answers = s.answers;
    work = inl (refl, silent);
  };
  all = λ kept le w. (le, refl);
  whole = λ kept le w. w;
  spoken = λ n has. has;
  with_last = refl;
  lines_are = refl;
  waits_are = refl;
}

le_or_lt : (a b : ℕ) → (a ≤ b) ⊎ (b < a)
le_or_lt zero b = inl (omega arith)
le_or_lt (suc a) zero = inr (omega arith)
le_or_lt (suc a) (suc b) = ⊎_elim (λ (h : a ≤ b). inl (omega arith)) (λ (h : b < a). inr (omega arith)) (le_or_lt a b)

within_text : (text : List ℕ) (count : ℕ) → count < length (text ++ 10 ∷ []) → take count (text ++ 10 ∷ []) ≡ take count text
within_text text count less = take-append-le count text (10 ∷ []) (omega (arith, less, length-append text (10 ∷ [])))

-- what is said of a reply and is not all of it is a beginning of its text
beginning : (reply : Reply) (count : ℕ) → count < length (said_line reply) → take count (said_line reply) ≡ take count (text_of reply)
beginning ok count less = within_text (text_of ok) count less
beginning (value bytes) count less = within_text (text_of (value bytes)) count less
beginning (forced n) count less = within_text (text_of (forced n)) count less
beginning bad count less = within_text (text_of bad) count less
beginning (refused why) count less = within_text (text_of (refused why)) count less
beginning (full used need limit) count less = within_text (text_of (full used need limit)) count less
beginning (end number) count less = within_text (text_of (end number)) count less
beginning (object_value object bytes) count less = within_text (text_of (object_value object bytes)) count less
beginning (command_count n) count less = within_text (text_of (command_count n)) count less
beginning (stat counts) count less = within_text (text_of (stat counts)) count less
beginning (ran k) count less = within_text (text_of (ran k)) count less
beginning (pairs pair others) count less = within_text (text_of (pairs pair others)) count less
beginning bad_tree count less = within_text (text_of bad_tree) count less
beginning tree_full count less = within_text (text_of tree_full) count less
beginning (denied why) count less = within_text (text_of (denied why)) count less
beginning in_group count less = within_text (text_of in_group) count less
beginning no_group count less = within_text (text_of no_group) count less
beginning (copied n) count less = within_text (text_of (copied n)) count less
beginning (saved n) count less = within_text (text_of (saved n)) count less
beginning (backup_denied why) count less = within_text (text_of (backup_denied why)) count less
beginning (summary totals) count less = within_text (text_of (summary totals)) count less
beginning absent count less = within_text (text_of absent) count less
beginning (counted n) count less = within_text (text_of (counted n)) count less
beginning silence count less = absurd (omega arith)

-- a beginning of the next answer was said, or all of it
pub told_partly : {p : Params} (tie : List Command → List ℕ → Reply → Type 0) {commands : List Command} {script todo : List (List ℕ)} {replies : List Reply} {waits : List (List Command)} {account : Account} (line : List ℕ) (reply : Reply) (added : List Command) (count : ℕ)
    → (s : Story p commands script (line ∷ todo) replies waits account) → Replies p account.group account.commands line reply added → tie (waiting account.group (account.commands ++ added)) line reply
    → Told p tie commands script (s.lines ++ line ∷ []) (replies ++ reply ∷ []) (waits ++ waiting account.group (account.commands ++ added) ∷ []) account (account.commands ++ added)
    (flat_map said_line replies ++ take count (said_line reply))
told_partly {p} tie {commands} {script} {todo} {replies} {waits} {account} line reply added count s here tied =
    ⊎_elim whole part (le_or_lt (length (said_line reply)) count)
  where
    part : count < length (said_line reply) → Told p tie commands script (s.lines ++ line ∷ []) (replies ++ reply ∷ []) (waits ++ waiting account.group (account.commands ++ added) ∷ []) account (account.commands ++ added)
        (flat_map said_line replies ++ take count (said_line reply))
    part less =
        record {
          story = record {
            lines = s.lines;
            todo = line ∷ todo;
            replies = replies;
            waits = waits;
            account = account;
            part = take count (said_line reply);
            added = added;
            script_is = s.script_is;
            said_is = refl;
            answers = s.answers;
            work = inr (record { line = line; rest = todo; reply = reply; count = count; next = refl; replies = here; begun = beginning reply count less; tied = tied });
          };
          all = λ kept le w. (le, refl);
          whole = λ kept le w. w;
          spoken = λ n has. Contains-append_left replies (reply ∷ []) (forced n) has;
          with_last = refl;
          lines_are = refl;
          waits_are = refl;
        }

    whole : length (said_line reply) ≤ count → Told p tie commands script (s.lines ++ line ∷ []) (replies ++ reply ∷ []) (waits ++ waiting account.group (account.commands ++ added) ∷ []) account (account.commands ++ added)
        (flat_map said_line replies ++ take count (said_line reply))
    whole all =
        let same : flat_map said_line (replies ++ reply ∷ []) ≡ flat_map said_line replies ++ take count (said_line reply)
        = said_more replies reply ∙ ap (λ (l : List ℕ). flat_map said_line replies ++ l) (sym (take_all count (said_line reply) all)) in
        let next = next_of p account line reply added here in
        let told = told_whole tie (story_more line reply added next.account s here next.after) in
        subst (λ (l : List ℕ). Told p tie commands script (s.lines ++ line ∷ []) (replies ++ reply ∷ []) (waits ++ waiting account.group (account.commands ++ added) ∷ []) account (account.commands ++ added) l) same (record {
          story = told.story;
          all = λ kept le w.
              let here = next.front kept le w in
              let there = told.all kept here.0 (next.whole kept le w) in
              (there.0, there.1 ∙ here.1);
          whole = λ kept le w. told.whole kept (next.front kept le w).0 (next.whole kept le w);
          spoken = told.spoken;
          with_last = told.with_last;
          lines_are = told.lines_are;
          waits_are = told.waits_are;
        })

-- the stages go on with an answer more
pub goes_by_more : (tending : Tending) (p : Params) (first mid last : PacedStage) (lines : List (List ℕ)) (replies : List Reply) (line : List ℕ) (reply : Reply) → AllGoBy tending p first lines replies mid → LeadsOn tending p mid line reply last
    → AllGoBy tending p first (lines ++ line ∷ []) (replies ++ reply ∷ []) last
goes_by_more tending p first mid last [] [] line reply so_far here = (last, subst (λ (m : PacedStage). LeadsOn tending p m line reply last) so_far here, refl)
goes_by_more tending p first mid last (l ∷ lines) (r ∷ replies) line reply (next, one, rest) here = (next, one, goes_by_more tending p next mid last lines replies line reply rest here)
goes_by_more tending p first mid last [] (r ∷ replies) line reply so_far here = absurd so_far
goes_by_more tending p first mid last (l ∷ lines) [] line reply so_far here = absurd so_far

-- they go along what was reported
pub told_goes : (tending : Tending) {p : Params} {tie : List Command → List ℕ → Reply → Type 0} {commands : List Command} {script lines : List (List ℕ)} {replies : List Reply} {waits : List (List Command)} {account : Account} {every : List Command} {said : List ℕ} (first last : PacedStage)
    → (t : Told p tie commands script lines replies waits account every said) → AllGoBy tending p first lines replies last
    → AllGoBy tending p first (with_line t.story.lines t.story.work) (with_begun t.story.replies t.story.work) last
told_goes tending {p} {lines = lines} first last t g =
    subst (λ (l : List (List ℕ)). AllGoBy tending p first l (with_begun t.story.replies t.story.work) last) (sym t.lines_are)
    (subst (λ (r : List Reply). AllGoBy tending p first lines r last) (sym t.with_last) g)

-- what was reported is true within
pub told_truly : {p : Params} {tie : List Command → List ℕ → Reply → Type 0} {commands : List Command} {script lines : List (List ℕ)} {replies : List Reply} {waits : List (List Command)} {account : Account} {every : List Command} {said : List ℕ} (old new : Disk) (before : List ℕ)
    → (t : Told p tie commands script lines replies waits account every said) → LeavesOnly old new (TrueWithin p before lines replies waits)
    → LeavesOnly old new (TrueWithin p before (with_line t.story.lines t.story.work) (with_begun t.story.replies t.story.work) (with_waits t.story.waits t.story.work))
told_truly {p} {lines = lines} {replies = replies} old new before t truly =
    subst (λ (l : List (List ℕ)). LeavesOnly old new (TrueWithin p before l (with_begun t.story.replies t.story.work) (with_waits t.story.waits t.story.work))) (sym t.lines_are)
    (subst (λ (r : List Reply). LeavesOnly old new (TrueWithin p before lines r (with_waits t.story.waits t.story.work))) (sym t.with_last)
    (subst (λ (o : List (List Command)). LeavesOnly old new (TrueWithin p before lines replies o)) (sym t.waits_are) truly))

pub silent_longer : {p : Params} {commands : List Command} {lines : List (List ℕ)} {added : List Command} (more : List (List ℕ)) → IsSilent p commands lines added → IsSilent p commands (lines ++ more) added
silent_longer {p} {commands} {lines} {added} more silent = ⊎_elim (λ (none : added ≡ []). inl none)
    (λ (some : (line : List ℕ) × (rest : List (List ℕ)) × (lines ≡ line ∷ rest) × IsFront p commands line added). inr (some.0, some.1 ++ more, ap (λ (l : List (List ℕ)). l ++ more) some.2, some.3))
    silent

-- what answers the first lines of a script answers those of a longer one
abbrev pub said_longer : {p : Params} {tie : List Command → List ℕ → Reply → Type 0} {commands : List Command} {script : List (List ℕ)} {said : List ℕ} (more : List (List ℕ)) → Said p tie commands script said → Said p tie commands (script ++ more) said
said_longer {p} {tie} {commands} more s = record {
  lines = s.lines;
  todo = s.todo ++ more;
  replies = s.replies;
  waits = s.waits;
  account = s.account;
  part = s.part;
  added = s.added;
  script_is = ap (λ (l : List (List ℕ)). l ++ more) s.script_is ∙ append_assoc s.lines s.todo more;
  said_is = s.said_is;
  answers = s.answers;
  work = ⊎_elim (λ (none : (s.part ≡ []) × IsSilent p s.account.commands s.todo s.added). inl (none.0, silent_longer more none.1))
      (λ (b : Begun p tie s.account s.todo s.part s.added). inr (record {
        line = b.line;
        rest = b.rest ++ more;
        reply = b.reply;
        count = b.count;
        next = ap (λ (l : List (List ℕ)). l ++ more) b.next;
        replies = b.replies;
        begun = b.begun;
        tied = b.tied;
      }))
      s.work;
}
