-- Which answer a line gets, by what it asks.
use Rattle.std.proofs.Common.{◌≡◌, ◌⊎◌, inl, inr, ⊎_elim, ◌↔◌, ◌<◌, ◌≤◌, ◌∷◌, List, ℕ, [], length, Option, None, Some, refl, ap, sym, ◌∙◌, subst, arith}
use Rattle.std.specs.Prelude.{◌+◌, ◌^◌, nat_lt, nat_le, ◌++◌, Bool, IsTrue}
use Rattle.std.specs.Option.{is_some}
use Rattle.std.proofs.lemmas.Bool.{cond_both}
use Rattle.std.proofs.lemmas.Bool.Decides.{nat_tests}
use Rattle.oper_core.specs.Meaning.{Meaning}
use Rattle.oper_core.specs.State.{State}
use Rattle.oper_core.specs.declared.refusal.Refusal.{Refusal}
use Rattle.oper_core.specs.declared.refusal.Refusal.TheVariants.{NoObject}
use Rattle.formats.specs.declared.params.Params.{Params}
use Rattle.explain_core.specs.History.{commands_of}
use Rattle.explain_core.specs.World.{World, end_of}
use Rattle.running_store.specs.Courses.{Course, Stop, course, grown}
use Rattle.running_store.specs.Courses.Stop.{Through, Full, At_end, Worn}
use Rattle.store_engine.specs.Lists.{commands_course}
use Rattle.running_store.specs.Calls.Commands.{command_length}
use Rattle.execution.specs.Courses.{append_course, needed}
use Rattle.store_engine.specs.Engine.{needed_in, so_far}
use Rattle.script_lines.specs.declared.answer.StatLine.{StatLine}
use Rattle.script_lines.specs.Grammar.{Request, AsksFor, IsBad}
use Rattle.script_lines.specs.declared.line.Line.TheVariants.{Run as run, Make, Ask, Force as force, Keep, Group, Save, Stat as asks_stat, Skip as skip}
use Rattle.script_lines.specs.declared.line.Question.TheVariants.{TreeGet as tget, TreeRange as trange, HashGet as hget, Map as ask_map, Get as get}
use Rattle.script_lines.specs.declared.line.Upkeep.TheVariants.{Trim as trim}
use Rattle.script_lines.specs.declared.line.Grouping.TheVariants.{Begin as begin_group, End as end_group, Abort as abort_group}
use Rattle.script_lines.specs.declared.line.Saving.TheVariants.{Start as bstart, Copy as bcopy, Finish as bfinish}
use Rattle.script_lines.specs.Replies.{Reply, ok, ran, value, pairs, forced, bad, refused, bad_tree, tree_full, denied, in_group, no_group, full, end, object_value, command_count, stat, copied, saved, backup_denied, summary, absent, counted, silence}
use Rattle.script_lines.specs.declared.denial.Denial.{Denial}
use Rattle.script_lines.specs.declared.backup_denial.BackupDenial.{BackupDenial}
use Rattle.script_lines.specs.declared.backup_denial.BackupDenial.TheVariants.{InBackup, NoBackup, AlreadyStore, NotCopied}
use Rattle.shell_base.specs.First.{Stage}
use Rattle.shell_base.specs.Store.{Command, meaning_in, refusal_after, state_of, record_length}
use Rattle.script_run.specs.Groups.{open_in, size_of}
use Rattle.script_run.specs.Made.{Made, AsksMade, AsksBehind, AsksTree, made, made_by, one_made, one_unless, tree_answer}
use Rattle.script_run.specs.Replies.{AsksCommand, Replies, IsBarred, IsClosing, IsDenied, IsFull, IsGranted, IsLogged, IsMet, IsNumbered, IsOver}
use Rattle.script_run.specs.Stages.{Aborts, Ends, GoesBy, IsBackupFull, IsBesideBackup, IsQuestion, StartsBackup, forced_stage, upkeep_course}
use Rattle.script_run.proofs.MadeLemmas.{command_made, one_course}

-- the classes of requests: for pairs of a tree, a hash file or a map, for a value, for commands, the end of a group or an abort, upkeep and the
-- end of a backup, the beginning of a group or of a backup, and four by themselves
abbrev pub class : Request → ℕ
class (Ask (get x)) = 1
class (Ask question) = 0
class (Group end_group) = 3
class (Group abort_group) = 3
class (Keep upkeep) = 4
class (Save bfinish) = 4
class (Group begin_group) = 5
class (Save bstart) = 5
class (Save (bcopy count)) = 6
class force = 7
class asks_stat = 8
class skip = 9
class request = 2

-- an answer may answer those from the first to the last of these
abbrev pub first_of : Reply → ℕ
first_of ok = 2
first_of (ran k) = 2
first_of (value bytes) = 0
first_of (pairs pair others) = 0
first_of (forced k) = 7
first_of (refused why) = 0
first_of bad_tree = 0
first_of tree_full = 2
first_of (denied why) = 0
first_of in_group = 4
first_of no_group = 3
first_of (full used need limit) = 2
first_of (end number) = 2
first_of (stat counts) = 8
first_of (copied n) = 6
first_of absent = 0
first_of (counted n) = 0
first_of (saved n) = 4
first_of (backup_denied why) = 4
first_of silence = 9
first_of reply = 1

abbrev pub last_of : Reply → ℕ
last_of ok = 5
last_of (ran k) = 2
last_of (value bytes) = 1
last_of (forced k) = 7
last_of (refused why) = 2
last_of bad_tree = 2
last_of tree_full = 2
last_of (denied why) = 2
last_of in_group = 7
last_of no_group = 3
last_of (full used need limit) = 4
last_of (end number) = 4
last_of (stat counts) = 8
last_of (copied n) = 6
last_of (saved n) = 4
last_of (backup_denied why) = 6
last_of silence = 9
last_of reply = 0

abbrev pub Allows : Reply → ℕ → Type 0
Allows reply n = (first_of reply ≤ n) × (n ≤ last_of reply)

made_class : (p : Params) (commands : List Command) (it : Made) (request : Request) → made_by p commands request ≡ Some it → class request ≡ 2
made_class p commands it (run op) is = refl
made_class p commands it (Make making) is = refl
made_class p commands it request is = cc

logged_class : (request : Request) → IsLogged request → class request ≡ 4
logged_class (Keep upkeep) is = refl
logged_class (Save bfinish) is = refl
logged_class request is = absurd is

pub denied_class : (why : BackupDenial) (request : Request) → IsDenied why request → (4 ≤ class request) × (class request ≤ 6)
denied_class InBackup (Save bstart) is = (omega arith, omega arith)
denied_class InBackup (Keep trim) is = (omega arith, omega arith)
denied_class NoBackup (Save (bcopy count)) is = (omega arith, omega arith)
denied_class NoBackup (Save bfinish) is = (omega arith, omega arith)
denied_class AlreadyStore (Save bstart) is = (omega arith, omega arith)
denied_class NotCopied (Save bfinish) is = (omega arith, omega arith)
denied_class why request is = absurd is

numbered_class : (request : Request) → IsNumbered request → class request ≡ 4
numbered_class (Keep upkeep) is = refl
numbered_class request is = absurd is

granted_class : (group : Option ℕ) (request : Request) → IsGranted group request → (3 ≤ class request) × (class request ≤ 5)
granted_class group (Group begin_group) is = (omega arith, omega arith)
granted_class group (Group end_group) is = (omega arith, omega arith)
granted_class group (Group abort_group) is = (omega arith, omega arith)
granted_class group (Save bstart) is = (omega arith, omega arith)
granted_class group (Keep upkeep) is = (omega arith, omega arith)
granted_class group request is = absurd is.0

closing_class : (request : Request) → IsClosing request → class request ≡ 3
closing_class (Group end_group) is = refl
closing_class (Group abort_group) is = refl
closing_class request is = absurd is

-- where one is granted a group is open
closing_granted : (group : Option ℕ) (request : Request) → IsClosing request → IsGranted group request → IsTrue (is_some group)
closing_granted group (Group end_group) is may = may
closing_granted group (Group abort_group) is may = may
closing_granted group request is may = absurd is

barred_class : (request : Request) → IsBarred request → (4 ≤ class request) × (class request ≤ 7)
barred_class (Group begin_group) is = (omega arith, omega arith)
barred_class force is = (omega arith, omega arith)
barred_class (Save bstart) is = (omega arith, omega arith)
barred_class (Save (bcopy count)) is = (omega arith, omega arith)
barred_class (Save bfinish) is = (omega arith, omega arith)
barred_class (Keep upkeep) is = (omega arith, omega arith)
barred_class request is = absurd is

tree_class : (p : Params) (s : State) (reply : Reply) (request : Request) → tree_answer p s request ≡ Some reply → class request ≡ 0
tree_class p s reply (Ask (tget lo hi key)) is = refl
tree_class p s reply (Ask (trange lo hi from to)) is = refl
tree_class p s reply (Ask (hget lo hi key)) is = refl
tree_class p s reply (Ask (ask_map lo hi question)) is = refl
tree_class p s reply request is = cc

pub question_class : (request : Request) → IsQuestion request → class request ≤ 1
question_class (Ask (get x)) is = omega arith
question_class (Ask (tget lo hi key)) is = omega arith
question_class (Ask (trange lo hi from to)) is = omega arith
question_class (Ask (hget lo hi key)) is = omega arith
question_class (Ask (ask_map lo hi question)) is = omega arith
question_class request is = absurd is

-- no group is open, and one is
pub not_both : (group : Option ℕ) → IsTrue (is_some group) → group ≡ None → ⊥
not_both None some none = cc some
not_both (Some n) some none = cc none

-- what no group allows is not granted within one
not_granted : (group : Option ℕ) (request : Request) → IsBarred request → IsGranted group request → IsTrue (is_some group) → ⊥
not_granted group (Group begin_group) barred may some = not_both group some may
not_granted group (Keep upkeep) barred may some = not_both group some may.1
not_granted group force barred may some = may.0
not_granted group (Save bstart) barred may some = not_both group some may
not_granted group (Save (bcopy count)) barred may some = may.0
not_granted group (Save bfinish) barred may some = may.0
not_granted group request barred may some = barred

-- how a command is answered
by_refusal : (op : Command) {added : List Command} {reply : Reply} (refusal : Option Refusal) → made added reply ≡ one_unless op refusal
    → ((refusal ≡ None) × (reply ≡ ok)) ⊎ ((why : Refusal) × (refusal ≡ Some why) × (reply ≡ refused why))
by_refusal op None is = inl (refl, ap (λ (m : Made). m.reply) is)
by_refusal op (Some why) is = inr (why, refl, ap (λ (m : Made). m.reply) is)

-- how the course of a command's record is stopped, within a group or outside
module _ (m : Meaning Command) (grouped : Bool) (limit : ℕ) (op : Command) (w : World Command) (used : ℕ) where
  full_over : (held need most : ℕ) → (append_course m grouped limit op w used).stop ≡ Full held need most → limit < grown m w used (command_length m op)
  full_over held need most =
      let n = command_length m op in
      let P : Course Command → Type 0 = λ c. c.stop ≡ Full held need most → limit < grown m w used n in
      cond_both (nat_lt limit (grown m w used n)) _ _ P (λ over. λ e. grind (arith, nat_tests, over))
      (λ fits. cond_both (nat_le (2 ^ 62) (end_of w)) _ _ P (λ last. λ e. cc) (λ left. λ e. cc))

  fits_else : (stop : Stop) → ((held need most : ℕ) → stop ≡ Full held need most → ⊥) → (append_course m grouped limit op w used).stop ≡ stop → limit < grown m w used (command_length m op) → ⊥
  fits_else stop other is =
      let n = command_length m op in
      let P : Course Command → Type 0 = λ c. c.stop ≡ stop → limit < grown m w used n → ⊥ in
      cond_both (nat_lt limit (grown m w used n)) _ _ P (λ over. λ e more. other used (needed m grouped w n) limit (sym e))
      (λ fits. λ e more. absurd (let low : grown m w used n ≤ limit = grind (arith, nat_tests, fits) in omega (arith, low, more))) is

module _ (p : Params) (group : Option ℕ) (commands : List Command) (line : List ℕ) where
  -- the line asks for what the answer may answer
  abbrev AsksWithin : Reply → Type 0
  AsksWithin reply = (request : Request) × AsksFor line request × Allows reply (class request)

  of_made : {it : Made} (reply : Reply) → ((n : ℕ) → n ≡ 2 → Allows reply n) → AsksMade p commands line it → AsksWithin reply
  of_made {it} reply may a = (a.request, a.asks, may (class a.request) (made_class p commands it a.request a.makes))

  of_tree : {answer : Reply} (reply : Reply) → ((n : ℕ) → n ≡ 0 → Allows reply n) → AsksTree p commands line answer → AsksWithin reply
  of_tree {answer} reply may a = (a.request, a.asks, may (class a.request) (tree_class p (state_of p commands) answer a.request a.answers))

  of_class : (reply : Reply) (n : ℕ) → Allows reply n → (request : Request) → class request ≡ n → AsksFor line request → AsksWithin reply
  of_class reply n may request is asks = (request, asks, subst (λ (k : ℕ). Allows reply k) (sym is) may)

  -- what an answer but `bad` was asked by
  asked : (reply : Reply) (added : List Command) → Replies p group commands line reply added → (reply ≡ bad → ⊥) → AsksWithin reply
  asked ok added is other = ⊎_elim
      (λ (m : AsksMade p commands line (made added ok) × (length (commands ++ added) < 2 ^ 62)). of_made ok (λ n e. (omega (arith, e), omega (arith, e))) m.0)
      (λ (g : (request : Request) × IsGranted group request × AsksFor line request × (added ≡ [])).
      let here = granted_class group g.0 g.1 in (g.0, g.2, (omega (arith, here.0), omega (arith, here.1))))
      is
  asked (ran k) added is other = of_made (ran k) (λ n e. (omega (arith, e), omega (arith, e))) is
  asked (value bytes) added is other = ⊎_elim
      (λ (g : (object : ℕ) × AsksFor line (Ask (get object)) × (object < p.objects) × (bytes ≡ state_of p commands object)). (Ask (get g.0), g.1, (omega arith, omega arith)))
      (λ (t : AsksTree p commands line (value bytes)). of_tree (value bytes) (λ n e. (omega (arith, e), omega (arith, e))) t)
      is.0
  asked (pairs pair others) added is other = of_tree (pairs pair others) (λ n e. (omega (arith, e), omega (arith, e))) is.0
  asked absent added is other = of_tree absent (λ n e. (omega (arith, e), omega (arith, e))) is.0
  asked (counted n) added is other = of_tree (counted n) (λ n e. (omega (arith, e), omega (arith, e))) is.0
  asked (forced n) added is other = (force, is.0, (omega arith, omega arith))
  asked bad added is other = absurd (other refl)
  asked (refused why) added is other = ⊎_elim
      (λ (m : AsksMade p commands line (made added (refused why))). of_made (refused why) (λ n e. (omega (arith, e), omega (arith, e))) m)
      (λ (q : (((object : ℕ) × AsksFor line (Ask (get object)) × (p.objects ≤ object) × (why ≡ NoObject)) ⊎ AsksTree p commands line (refused why)) × (added ≡ [])). ⊎_elim
      (λ (g : (object : ℕ) × AsksFor line (Ask (get object)) × (p.objects ≤ object) × (why ≡ NoObject)). (Ask (get g.0), g.1, (omega arith, omega arith)))
      (λ (t : AsksTree p commands line (refused why)). of_tree (refused why) (λ n e. (omega (arith, e), omega (arith, e))) t)
      q.0)
      is
  asked bad_tree added is other = ⊎_elim
      (λ (m : AsksMade p commands line (made added bad_tree)). of_made bad_tree (λ n e. (omega (arith, e), omega (arith, e))) m)
      (λ (t : AsksTree p commands line bad_tree × (added ≡ [])). of_tree bad_tree (λ n e. (omega (arith, e), omega (arith, e))) t.0)
      is
  asked tree_full added is other = of_made tree_full (λ n e. (omega (arith, e), omega (arith, e))) is
  asked (denied why) added is other = ⊎_elim
      (λ (m : AsksMade p commands line (made added (denied why))). of_made (denied why) (λ n e. (omega (arith, e), omega (arith, e))) m)
      (λ (t : IsMet why × AsksTree p commands line (denied why) × (added ≡ [])). of_tree (denied why) (λ n e. (omega (arith, e), omega (arith, e))) t.1)
      is
  asked in_group added is other = (is.0, is.2, barred_class is.0 is.1)
  asked no_group added is other = let three = closing_class is.0 is.1 in (is.0, is.2, (omega (arith, three), omega (arith, three)))
  asked (full used need limit) added is other = ⊎_elim
      (λ (b : (op : Command) × AsksBehind p commands line added op × (need ≡ needed_in (size_of group (commands ++ added)) (record_length p op)) × (limit ≡ p.limit) × (limit < used + need)).
      of_made (full used need limit) (λ n e. (omega (arith, e), omega (arith, e))) b.1.asks)
      (λ (u : (request : Request) × IsLogged request × AsksFor line request × (group ≡ None) × (limit ≡ 2 ^ 48) × IsOver request used need limit × (added ≡ [])).
      of_class (full used need limit) 4 (omega arith, omega arith) u.0 (logged_class u.0 u.1) u.2)
      is
  asked (end number) added is other = ⊎_elim
      (λ (b : (op : Command) × AsksBehind p commands line added op). of_made (end number) (λ n e. (omega (arith, e), omega (arith, e))) b.1.asks)
      (λ (u : (request : Request) × IsNumbered request × AsksFor line request × (group ≡ None) × (added ≡ [])). of_class (end number) 4 (omega arith, omega arith) u.0 (numbered_class u.0 u.1) u.2)
      is.0
  asked (stat counts) added is other = (asks_stat, is.0, (omega arith, omega arith))
  asked (copied n) added is other = (Save (bcopy is.0), is.1, (omega arith, omega arith))
  asked (saved n) added is other = (Save bfinish, is.0, (omega arith, omega arith))
  asked (backup_denied why) added is other = (is.0, is.2, denied_class why is.0 is.1)
  asked silence added is other = (skip, is.0, (omega arith, omega arith))
  asked (object_value x bytes) added is other = absurd is
  asked (command_count n) added is other = absurd is
  asked (summary totals) added is other = absurd is

  pub bad_exactly : (reply : Reply) (added : List Command) → Replies p group commands line reply added → (reply ≡ bad) ↔ IsBad line
  bad_exactly bad added is = (λ e. is.0, λ none. refl)
  bad_exactly reply added is = (λ e. cc, λ none. let a = asked reply added is (λ e. cc) in absurd (none a.0 a.1))

  module _ (one : (a b : Request) → AsksFor line a → AsksFor line b → a ≡ b) where
    -- an answer to a line that asks for this may answer it
    pub fits : (r : Request) → AsksFor line r → (reply : Reply) (added : List Command) → Replies p group commands line reply added → (reply ≡ bad → ⊥) → Allows reply (class r)
    fits r asks reply added is other = let a = asked reply added is other in subst (λ (x : Request). Allows reply (class x)) (one a.0 r a.1 asks) a.2

    pub made_clash : {it : Made} (r : Request) → AsksFor line r → (class r ≡ 2 → ⊥) → AsksMade p commands line it → ⊥
    made_clash {it} r asks other a = other (ap class (one r a.request asks a.asks) ∙ made_class p commands it a.request a.makes)

    tree_clash : {answer : Reply} (r : Request) → AsksFor line r → (class r ≡ 0 → ⊥) → AsksTree p commands line answer → ⊥
    tree_clash {answer} r asks other a = other (ap class (one r a.request asks a.asks) ∙ tree_class p (state_of p commands) answer a.request a.answers)

    -- what a command's line asks for
    made_is : {commands : List Command} {it : Made} (op : Command) → AsksCommand line op → AsksMade p commands line it → it ≡ one_made p commands op
    made_is {commands} {it} op asks a =
        let mine = command_made p commands line op asks in
        let same : Some it ≡ Some (one_made p commands op) = sym a.makes ∙ ap (made_by p commands) (one a.request mine.request a.asks mine.asks) ∙ mine.makes in
        cc same

    command_class : (op : Command) → AsksCommand line op → (reply : Reply) (added : List Command) → Replies p group commands line reply added → (reply ≡ bad → ⊥) → Allows reply 2
    command_class op asks reply added is other =
        let mine = command_made p commands line op asks in
        subst (λ (n : ℕ). Allows reply n) (made_class p commands (one_made p commands op) mine.request mine.makes) (fits mine.request mine.asks reply added is other)

    answer_of : (op : Command) (reply : Reply) (added : List Command) → AsksCommand line op → AsksMade p commands line (made added reply)
        → ((refusal_after p commands op ≡ None) × (reply ≡ ok)) ⊎ ((why : Refusal) × (refusal_after p commands op ≡ Some why) × (reply ≡ refused why))
    answer_of op reply added asks a = by_refusal op (refusal_after p commands op) (made_is op asks a)

    -- one that comes after others, or is the first, is refused by nothing
    nothing_refuses : (op first : Command) (front : List Command) → AsksCommand line op → AsksBehind p commands line front first → refusal_after p commands op ≡ None
    nothing_refuses op first front asks b = some_left (refusal_after p commands op) refl
      where
        some_left : (refusal : Option Refusal) → refusal_after p commands op ≡ refusal → refusal_after p commands op ≡ None
        some_left None is = is
        some_left (Some why) is =
            let none : b.it.ops ≡ [] = ap (λ (m : Made). m.ops) (made_is op asks b.asks) ∙ ap (λ (r : Option Refusal). (one_unless op r).ops) is in
            absurd (no_front front first b.rest (sym b.next ∙ none))
          where
            no_front : (front : List Command) (first : Command) (rest : List Command) → front ++ first ∷ rest ≡ [] → ⊥
            no_front [] first rest e = cc
            no_front (x ∷ front) first rest e = cc

    -- the line of a command asks for nothing else
    command_clash : (op : Command) (request : Request) → (class request ≡ 2 → ⊥) → AsksCommand line op → AsksFor line request → ⊥
    command_clash op request other asks its = made_clash request its other (command_made p commands line op asks)

    -- so for no upkeep
    granted_clash : (op : Command) → AsksCommand line op → (other : Option ℕ) (request : Request) → IsGranted other request → AsksFor line request → ⊥
    granted_clash op asks other request may its = made_clash request its (λ e. let here = granted_class other request may in omega (arith, e, here.0)) (command_made p commands line op asks)

    pub refused_exactly : (reply : Reply) (added : List Command) (op : Command) (why : Refusal) → Replies p group commands line reply added → AsksCommand line op → (reply ≡ refused why) ↔ (refusal_after p commands op ≡ Some why)
    refused_exactly ok added op why is asks = ⊎_elim
        (λ (m : AsksMade p commands line (made added ok) × (length (commands ++ added) < 2 ^ 62)).
        ⊎_elim (λ (none : (refusal_after p commands op ≡ None) × (ok ≡ ok)). (λ e. cc, λ some. cc (some, none.0)))
        (λ (other : (why : Refusal) × (refusal_after p commands op ≡ Some why) × (ok ≡ refused why)). absurd (let e = other.2 in cc e))
        (answer_of op ok added asks m.0))
        (λ (g : (request : Request) × IsGranted group request × AsksFor line request × (added ≡ [])). absurd (granted_clash op asks group g.0 g.1 g.2))
        is
    refused_exactly (ran k) added op why is asks =
        ⊎_elim (λ (none : (refusal_after p commands op ≡ None) × (ran k ≡ ok)). absurd (let e = none.1 in cc e))
        (λ (other : (why : Refusal) × (refusal_after p commands op ≡ Some why) × (ran k ≡ refused why)). absurd (let e = other.2 in cc e))
        (answer_of op (ran k) added asks is)
    refused_exactly bad added op why is asks = absurd (let mine = command_made p commands line op asks in is.0 mine.request mine.asks)
    refused_exactly (refused other) added op why is asks = ⊎_elim
        (λ (m : AsksMade p commands line (made added (refused other))).
        ⊎_elim (λ (none : (refusal_after p commands op ≡ None) × (refused other ≡ ok)). absurd (let e = none.1 in cc e))
        (λ (some : (x : Refusal) × (refusal_after p commands op ≡ Some x) × (refused other ≡ refused x)). let mine = some.1 in let same = some.2 in (λ e. cc (e, mine, same), λ here. cc (here, mine, same)))
        (answer_of op (refused other) added asks m))
        (λ (q : (((object : ℕ) × AsksFor line (Ask (get object)) × (p.objects ≤ object) × (other ≡ NoObject)) ⊎ AsksTree p commands line (refused other)) × (added ≡ [])). absurd (⊎_elim
        (λ (g : (object : ℕ) × AsksFor line (Ask (get object)) × (p.objects ≤ object) × (other ≡ NoObject)). made_clash (Ask (get g.0)) g.1 (λ e. omega (arith, e)) (command_made p commands line op asks))
        (λ (t : AsksTree p commands line (refused other)). let mine = command_made p commands line op asks in
        tree_clash mine.request mine.asks (λ e. let same = made_class p commands (one_made p commands op) mine.request mine.makes in omega (arith, e, same)) t)
        q.0))
        is
    refused_exactly bad_tree added op why is asks = ⊎_elim
        (λ (m : AsksMade p commands line (made added bad_tree)).
        ⊎_elim (λ (none : (refusal_after p commands op ≡ None) × (bad_tree ≡ ok)). absurd (let e = none.1 in cc e))
        (λ (other : (why : Refusal) × (refusal_after p commands op ≡ Some why) × (bad_tree ≡ refused why)). absurd (let e = other.2 in cc e))
        (answer_of op bad_tree added asks m))
        (λ (t : AsksTree p commands line bad_tree × (added ≡ [])). let mine = command_made p commands line op asks in
        absurd (tree_clash mine.request mine.asks (λ e. let same = made_class p commands (one_made p commands op) mine.request mine.makes in omega (arith, e, same)) t.0))
        is
    refused_exactly tree_full added op why is asks =
        ⊎_elim (λ (none : (refusal_after p commands op ≡ None) × (tree_full ≡ ok)). absurd (let e = none.1 in cc e))
        (λ (other : (why : Refusal) × (refusal_after p commands op ≡ Some why) × (tree_full ≡ refused why)). absurd (let e = other.2 in cc e))
        (answer_of op tree_full added asks is)
    refused_exactly (denied because) added op why is asks = ⊎_elim
        (λ (m : AsksMade p commands line (made added (denied because))).
        ⊎_elim (λ (none : (refusal_after p commands op ≡ None) × (denied because ≡ ok)). absurd (let e = none.1 in cc e))
        (λ (other : (why : Refusal) × (refusal_after p commands op ≡ Some why) × (denied because ≡ refused why)). absurd (let e = other.2 in cc e))
        (answer_of op (denied because) added asks m))
        (λ (t : IsMet because × AsksTree p commands line (denied because) × (added ≡ [])). let mine = command_made p commands line op asks in
        absurd (tree_clash mine.request mine.asks (λ e. let same = made_class p commands (one_made p commands op) mine.request mine.makes in omega (arith, e, same)) t.1))
        is
    refused_exactly (full used need limit) added op why is asks = ⊎_elim
        (λ (b : (first : Command) × AsksBehind p commands line added first × (need ≡ needed_in (size_of group (commands ++ added)) (record_length p first)) × (limit ≡ p.limit) × (limit < used + need)).
        let none = nothing_refuses op b.0 added asks b.1 in (λ e. cc, λ some. cc (some, none)))
        (λ (u : (request : Request) × IsLogged request × AsksFor line request × (group ≡ None) × (limit ≡ 2 ^ 48) × IsOver request used need limit × (added ≡ [])).
        absurd (made_clash u.0 u.2 (λ e. let same = logged_class u.0 u.1 in omega (arith, e, same)) (command_made p commands line op asks)))
        is
    refused_exactly (end number) added op why is asks = ⊎_elim
        (λ (b : (first : Command) × AsksBehind p commands line added first). let none = nothing_refuses op b.0 added asks b.1 in (λ e. cc, λ some. cc (some, none)))
        (λ (u : (request : Request) × IsNumbered request × AsksFor line request × (group ≡ None) × (added ≡ [])).
        absurd (made_clash u.0 u.2 (λ e. let same = numbered_class u.0 u.1 in omega (arith, e, same)) (command_made p commands line op asks)))
        is.0
    refused_exactly reply added op why is asks = absurd (let a = command_class op asks reply added is (λ e. cc) in omega (arith, a.0, a.1))

    same_object : (a b : ℕ) → AsksFor line (Ask (get a)) → AsksFor line (Ask (get b)) → a ≡ b
    same_object a b x y = let same = one (Ask (get a)) (Ask (get b)) x y in cc same

    none_there : (why : Refusal) (added : List Command) (object : ℕ) → Replies p group commands line (refused why) added → AsksFor line (Ask (get object)) → (p.objects ≤ object) × (why ≡ NoObject)
    none_there why added object is asks = ⊎_elim
        (λ (m : AsksMade p commands line (made added (refused why))). absurd (made_clash (Ask (get object)) asks (λ e. omega (arith, e)) m))
        (λ (q : (((x : ℕ) × AsksFor line (Ask (get x)) × (p.objects ≤ x) × (why ≡ NoObject)) ⊎ AsksTree p commands line (refused why)) × (added ≡ [])). ⊎_elim
        (λ (g : (x : ℕ) × AsksFor line (Ask (get x)) × (p.objects ≤ x) × (why ≡ NoObject)). (subst (λ (x : ℕ). p.objects ≤ x) (same_object g.0 object g.1 asks) g.2, g.3))
        (λ (t : AsksTree p commands line (refused why)). absurd (tree_clash (Ask (get object)) asks (λ e. omega (arith, e)) t))
        q.0)
        is

    -- a value is not asked of a tree
    no_tree : (object : ℕ) (added : List Command) → Replies p group commands line bad_tree added → AsksFor line (Ask (get object)) → ⊥
    no_tree object added is asks = ⊎_elim
        (λ (m : AsksMade p commands line (made added bad_tree)). made_clash (Ask (get object)) asks (λ e. omega (arith, e)) m)
        (λ (t : AsksTree p commands line bad_tree × (added ≡ [])). tree_clash (Ask (get object)) asks (λ e. omega (arith, e)) t.0)
        is

    -- nor of a hash file or a map
    no_denial : (object : ℕ) (why : Denial) (added : List Command) → Replies p group commands line (denied why) added → AsksFor line (Ask (get object)) → ⊥
    no_denial object why added is asks = ⊎_elim
        (λ (m : AsksMade p commands line (made added (denied why))). made_clash (Ask (get object)) asks (λ e. omega (arith, e)) m)
        (λ (t : IsMet why × AsksTree p commands line (denied why) × (added ≡ [])). tree_clash (Ask (get object)) asks (λ e. omega (arith, e)) t.1)
        is

    pub no_object_exactly : (reply : Reply) (added : List Command) (object : ℕ) → Replies p group commands line reply added → AsksFor line (Ask (get object)) → (reply ≡ refused NoObject) ↔ (p.objects ≤ object)
    no_object_exactly (value bytes) added object is asks = ⊎_elim
        (λ (g : (x : ℕ) × AsksFor line (Ask (get x)) × (x < p.objects) × (bytes ≡ state_of p commands x)). (λ e. cc, λ high. absurd (omega (arith, high, g.2, same_object g.0 object g.1 asks))))
        (λ (t : AsksTree p commands line (value bytes)). absurd (tree_clash (Ask (get object)) asks (λ e. omega (arith, e)) t))
        is.0
    no_object_exactly bad added object is asks = absurd (is.0 (Ask (get object)) asks)
    no_object_exactly (refused why) added object is asks = let here = none_there why added object is asks in (λ e. here.0, λ high. ap (λ (w : Refusal). refused w) here.1)
    no_object_exactly bad_tree added object is asks = absurd (no_tree object added is asks)
    no_object_exactly (denied why) added object is asks = absurd (no_denial object why added is asks)
    no_object_exactly reply added object is asks = absurd (let a = fits (Ask (get object)) asks reply added is (λ e. cc) in omega (arith, a.0, a.1))

    pub value_exactly : (reply : Reply) (added : List Command) (object : ℕ) → Replies p group commands line reply added → AsksFor line (Ask (get object)) → object < p.objects → reply ≡ value (state_of p commands object)
    value_exactly (value bytes) added object is asks low = ⊎_elim
        (λ (g : (x : ℕ) × AsksFor line (Ask (get x)) × (x < p.objects) × (bytes ≡ state_of p commands x)). ap (λ (v : List ℕ). value v) (g.3 ∙ ap (λ (x : ℕ). state_of p commands x) (same_object g.0 object g.1 asks)))
        (λ (t : AsksTree p commands line (value bytes)). absurd (tree_clash (Ask (get object)) asks (λ e. omega (arith, e)) t))
        is.0
    value_exactly bad added object is asks low = absurd (is.0 (Ask (get object)) asks)
    value_exactly (refused why) added object is asks low = let here = none_there why added object is asks in absurd (omega (arith, low, here.0))
    value_exactly bad_tree added object is asks low = absurd (no_tree object added is asks)
    value_exactly (denied why) added object is asks low = absurd (no_denial object why added is asks)
    value_exactly reply added object is asks low = absurd (let a = fits (Ask (get object)) asks reply added is (λ e. cc) in omega (arith, a.0, a.1))

    pub forced_exactly : (reply : Reply) (added : List Command) → Replies p group commands line reply added → AsksFor line force → group ≡ None → reply ≡ forced (length commands)
    forced_exactly (forced n) added is asks none = ap (λ (k : ℕ). forced k) is.2
    forced_exactly bad added is asks none = absurd (is.0 force asks)
    forced_exactly in_group added is asks none = absurd (not_both group is.3 none)
    forced_exactly reply added is asks none = absurd (let a = fits force asks reply added is (λ e. cc) in omega (arith, a.0, a.1))

    pub silence_exactly : (reply : Reply) (added : List Command) → Replies p group commands line reply added → AsksFor line skip → reply ≡ silence
    silence_exactly silence added is asks = refl
    silence_exactly bad added is asks = absurd (is.0 skip asks)
    silence_exactly reply added is asks = absurd (let a = fits skip asks reply added is (λ e. cc) in omega (arith, a.0, a.1))

    -- the counts are told exactly of a line that asks for them
    pub stat_exactly : (reply : Reply) (added : List Command) → Replies p group commands line reply added → AsksFor line asks_stat → (counts : StatLine) × (reply ≡ stat counts)
    stat_exactly (stat counts) added is asks = (counts, refl)
    stat_exactly bad added is asks = absurd (is.0 asks_stat asks)
    stat_exactly reply added is asks = absurd (let a = fits asks_stat asks reply added is (λ e. cc) in omega (arith, a.0, a.1))

    -- what no group allows is refused exactly within one
    pub in_group_exactly : (reply : Reply) (added : List Command) → Replies p group commands line reply added → (reply ≡ in_group) ↔ ((request : Request) × IsBarred request × AsksFor line request × IsTrue (is_some group))
    in_group_exactly in_group added is = (λ e. (is.0, is.1, is.2, is.3), λ here. refl)
    in_group_exactly ok added is = (
      λ e. cc,
      λ here. absurd (⊎_elim
          (λ (m : AsksMade p commands line (made added ok) × (length (commands ++ added) < 2 ^ 62)). made_clash here.0 here.2 (λ e. let c = barred_class here.0 here.1 in omega (arith, e, c.0)) m.0)
          (λ (g : (request : Request) × IsGranted group request × AsksFor line request × (added ≡ [])).
          not_granted group here.0 here.1 (subst (λ (r : Request). IsGranted group r) (one g.0 here.0 g.2 here.2) g.1) here.3)
          is),
    )
    in_group_exactly (forced n) added is = (λ e. cc, λ here. absurd (not_both group here.3 is.1))
    in_group_exactly (copied n) added is = (λ e. cc, λ here. absurd (not_both group here.3 is.2))
    in_group_exactly (saved n) added is = (λ e. cc, λ here. absurd (not_both group here.3 is.1))
    in_group_exactly (backup_denied why) added is = (λ e. cc, λ here. absurd (not_both group here.3 is.3))
    in_group_exactly bad added is = (λ e. cc, λ here. absurd (is.0 here.0 here.2))
    in_group_exactly no_group added is = (λ e. cc, λ here. absurd (not_both group here.3 is.3))
    in_group_exactly (full used need limit) added is = (
      λ e. cc,
      λ here. absurd (⊎_elim
          (λ (b : (op : Command) × AsksBehind p commands line added op × (need ≡ needed_in (size_of group (commands ++ added)) (record_length p op)) × (limit ≡ p.limit) × (limit < used + need)).
          made_clash here.0 here.2 (λ e. let c = barred_class here.0 here.1 in omega (arith, e, c.0)) b.1.asks)
          (λ (u : (request : Request) × IsLogged request × AsksFor line request × (group ≡ None) × (limit ≡ 2 ^ 48) × IsOver request used need limit × (added ≡ [])). not_both group here.3 u.3)
          is),
    )
    in_group_exactly (end number) added is = (
      λ e. cc,
      λ here. absurd (⊎_elim
          (λ (b : (op : Command) × AsksBehind p commands line added op). made_clash here.0 here.2 (λ e. let c = barred_class here.0 here.1 in omega (arith, e, c.0)) b.1.asks)
          (λ (u : (request : Request) × IsNumbered request × AsksFor line request × (group ≡ None) × (added ≡ [])). not_both group here.3 u.3)
          is.0),
    )
    in_group_exactly reply added is = (
      λ e. cc,
      λ here. absurd (let a = fits here.0 here.2 reply added is (λ e. cc) in let c = barred_class here.0 here.1 in omega (arith, a.0, a.1, c.0, c.1)),
    )

    -- and the end of a group, or an abort, exactly outside groups
    pub no_group_exactly : (reply : Reply) (added : List Command) → Replies p group commands line reply added → (reply ≡ no_group) ↔ ((request : Request) × IsClosing request × AsksFor line request × (group ≡ None))
    no_group_exactly no_group added is = (λ e. (is.0, is.1, is.2, is.3), λ here. refl)
    no_group_exactly ok added is = (
      λ e. cc,
      λ here. absurd (⊎_elim
          (λ (m : AsksMade p commands line (made added ok) × (length (commands ++ added) < 2 ^ 62)). made_clash here.0 here.2 (λ e. omega (arith, e, closing_class here.0 here.1)) m.0)
          (λ (g : (request : Request) × IsGranted group request × AsksFor line request × (added ≡ [])).
          not_both group (closing_granted group here.0 here.1 (subst (λ (r : Request). IsGranted group r) (one g.0 here.0 g.2 here.2) g.1)) here.3)
          is),
    )
    no_group_exactly bad added is = (λ e. cc, λ here. absurd (is.0 here.0 here.2))
    no_group_exactly (full used need limit) added is = (
      λ e. cc,
      λ here. absurd (⊎_elim
          (λ (b : (op : Command) × AsksBehind p commands line added op × (need ≡ needed_in (size_of group (commands ++ added)) (record_length p op)) × (limit ≡ p.limit) × (limit < used + need)).
          made_clash here.0 here.2 (λ e. omega (arith, e, closing_class here.0 here.1)) b.1.asks)
          (λ (u : (request : Request) × IsLogged request × AsksFor line request × (group ≡ None) × (limit ≡ 2 ^ 48) × IsOver request used need limit × (added ≡ [])).
          omega (arith, logged_class u.0 u.1, closing_class here.0 here.1, ap class (one u.0 here.0 u.2 here.2)))
          is),
    )
    no_group_exactly (end number) added is = (
      λ e. cc,
      λ here. absurd (⊎_elim
          (λ (b : (op : Command) × AsksBehind p commands line added op). made_clash here.0 here.2 (λ e. omega (arith, e, closing_class here.0 here.1)) b.1.asks)
          (λ (u : (request : Request) × IsNumbered request × AsksFor line request × (group ≡ None) × (added ≡ [])). omega (arith, numbered_class u.0 u.1, closing_class here.0 here.1, ap class (one u.0 here.0 u.2 here.2)))
          is.0),
    )
    no_group_exactly reply added is = (λ e. cc, λ here. absurd (let a = fits here.0 here.2 reply added is (λ e. cc) in omega (arith, a.0, a.1, closing_class here.0 here.1)))

    -- the course that the line of an accepted command has is that of its record
    own_course : (op : Command) (before after : Stage) (stop : Stop) → commands_of before.world.history ≡ commands → refusal_after p commands op ≡ None → AsksCommand line op → Ends p before line stop after
        → (append_course (meaning_in p) (is_some before.world.group) p.limit op before.world before.used).stop ≡ stop
    own_course op before after stop same none asks (c, has, is, goes) = ⊎_elim
        (λ (mine : (it : Made) × AsksMade p (commands_of before.world.history) line it × (c ≡ commands_course (meaning_in p) p.limit it.ops before.world before.used)).
        let refusal : refusal_after p (commands_of before.world.history) op ≡ None = subst (λ (l : List Command). refusal_after p l op ≡ None) (sym same) none in
        let it : mine.0 ≡ made (op ∷ []) ok = made_is op asks mine.1 ∙ ap (λ (r : Option Refusal). one_unless op r) refusal in
        ap (λ (x : Course Command). x.stop) (sym (one_course (meaning_in p) p.limit op before.world before.used))
        ∙ ap (λ (x : Made). (commands_course (meaning_in p) p.limit x.ops before.world before.used).stop) (sym it) ∙ sym (ap (λ (x : Course Command). x.stop) mine.2) ∙ is)
        (λ (rest : ((request : Request) × (epoch : ℕ) × IsGranted (open_in before.world) request × IsBesideBackup before.copied request × AsksFor line request × (c ≡ upkeep_course epoch (so_far before.copied) request (meaning_in p) before.world before.used))
        ⊎ ((request : Request) × IsQuestion request × AsksFor line request × (c ≡ course [] before.used Through))). absurd (⊎_elim
        (λ (u : (request : Request) × (epoch : ℕ) × IsGranted (open_in before.world) request × IsBesideBackup before.copied request × AsksFor line request × (c ≡ upkeep_course epoch (so_far before.copied) request (meaning_in p) before.world before.used)).
        granted_clash op asks (open_in before.world) u.0 u.2 u.4)
        (λ (q : (request : Request) × IsQuestion request × AsksFor line request × (c ≡ course [] before.used Through)).
        made_clash q.0 q.2 (λ e. let low = question_class q.0 q.1 in omega (arith, e, low)) (command_made p commands line op asks))
        rest))
        has

    -- it is not stopped for lack of room where there is some
    room_else : (op : Command) (before after : Stage) (stop : Stop) → ((held need most : ℕ) → stop ≡ Full held need most → ⊥) → commands_of before.world.history ≡ commands → refusal_after p commands op ≡ None → AsksCommand line op
        → Ends p before line stop after → p.limit < grown (meaning_in p) before.world before.used (record_length p op) → ⊥
    room_else op before after stop other same none asks goes =
        fits_else (meaning_in p) (is_some before.world.group) p.limit op before.world before.used stop other (own_course op before after stop same none asks goes)

    pub full_exactly : (reply : Reply) (added : List Command) (op : Command) (before after : Stage) → Replies p group commands line reply added → GoesBy p before line reply after → commands_of before.world.history ≡ commands → AsksCommand line op
        → refusal_after p commands op ≡ None → IsFull reply ↔ (p.limit < grown (meaning_in p) before.world before.used (record_length p op))
    full_exactly ok added op before after is goes same asks none = (
      λ f. absurd f,
      λ over. absurd (⊎_elim
          (λ (ends : Ends p before line Through after). room_else op before after Through (λ a b c e. cc) same none asks ends over)
          (λ (rest : StartsBackup before line (forced_stage p before) after ⊎ Aborts p before line after). ⊎_elim
          (λ (starts : StartsBackup before line (forced_stage p before) after). command_clash op (Save bstart) (λ e. omega (arith, e)) asks starts.0)
          (λ (aborts : Aborts p before line after). command_clash op (Group abort_group) (λ e. omega (arith, e)) asks aborts.1.asks)
          rest)
          goes),
    )
    full_exactly (ran k) added op before after is goes same asks none = absurd (⊎_elim
        (λ (none : (refusal_after p commands op ≡ None) × (ran k ≡ ok)). let e = none.1 in cc e)
        (λ (other : (why : Refusal) × (refusal_after p commands op ≡ Some why) × (ran k ≡ refused why)). let e = other.2 in cc e)
        (answer_of op (ran k) added asks is))
    full_exactly bad added op before after is goes same asks none = absurd (let mine = command_made p commands line op asks in is.0 mine.request mine.asks)
    full_exactly (refused why) added op before after is goes same asks none = absurd (let some = (refused_exactly (refused why) added op why is asks).0 refl in cc (some, none))
    full_exactly bad_tree added op before after is goes same asks none = absurd (⊎_elim
        (λ (m : AsksMade p commands line (made added bad_tree)). ⊎_elim
        (λ (none : (refusal_after p commands op ≡ None) × (bad_tree ≡ ok)). let e = none.1 in cc e)
        (λ (other : (why : Refusal) × (refusal_after p commands op ≡ Some why) × (bad_tree ≡ refused why)). let e = other.2 in cc e)
        (answer_of op bad_tree added asks m))
        (λ (t : AsksTree p commands line bad_tree × (added ≡ [])). let mine = command_made p commands line op asks in
        tree_clash mine.request mine.asks (λ e. let same = made_class p commands (one_made p commands op) mine.request mine.makes in omega (arith, e, same)) t.0)
        is)
    full_exactly tree_full added op before after is goes same asks none = absurd (⊎_elim
        (λ (none : (refusal_after p commands op ≡ None) × (tree_full ≡ ok)). let e = none.1 in cc e)
        (λ (other : (why : Refusal) × (refusal_after p commands op ≡ Some why) × (tree_full ≡ refused why)). let e = other.2 in cc e)
        (answer_of op tree_full added asks is))
    full_exactly (denied why) added op before after is goes same asks none = absurd (⊎_elim
        (λ (m : AsksMade p commands line (made added (denied why))). ⊎_elim
        (λ (none : (refusal_after p commands op ≡ None) × (denied why ≡ ok)). let e = none.1 in cc e)
        (λ (other : (because : Refusal) × (refusal_after p commands op ≡ Some because) × (denied why ≡ refused because)). let e = other.2 in cc e)
        (answer_of op (denied why) added asks m))
        (λ (t : IsMet why × AsksTree p commands line (denied why) × (added ≡ [])). let mine = command_made p commands line op asks in
        tree_clash mine.request mine.asks (λ e. let same = made_class p commands (one_made p commands op) mine.request mine.makes in omega (arith, e, same)) t.1)
        is)
    full_exactly (full used need limit) added op before after is goes same asks none = (
      λ f. ⊎_elim
          (λ (ends : Ends p before line (Full used need limit) after). full_over (meaning_in p) (is_some before.world.group) p.limit op before.world before.used used need limit (own_course op before after (Full used need limit) same none asks ends))
          (λ (saves : IsBackupFull p before line used need (forced_stage p before) after). absurd (command_clash op (Save bfinish) (λ e. omega (arith, e)) asks saves.0))
          goes,
      λ over. tt,
    )
    full_exactly (end number) added op before after is goes same asks none = (
      λ f. absurd f,
      λ over. ⊎_elim
          (λ (last : Ends p before line (At_end number) after). absurd (room_else op before after (At_end number) (λ a b c e. cc) same none asks last over))
          (λ (worn : Ends p before line (Worn number) after). absurd (room_else op before after (Worn number) (λ a b c e. cc) same none asks worn over))
          goes,
    )
    full_exactly reply added op before after is goes same asks none = absurd (let a = command_class op asks reply added is (λ e. cc) in omega (arith, a.0, a.1))
