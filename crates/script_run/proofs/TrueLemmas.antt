-- What the answers of a run say of each moment's images.
use Rattle.std.proofs.Common.{◌≡◌, ⊎_elim, ◌≤◌, ◌<◌, ◌++◌, List, ℕ, [], ◌∷◌, length, take, length-append, length-take, append_assoc, ap, sym, subst, arith, refl, Option}
use Rattle.std.proofs.lemmas.List.{append-nil}
use Rattle.std.specs.List.{flat_map}
use Rattle.disk_model.specs.Disk.{Files, Disk, Passes, Runs, Same, SaysFront, LeavesOnly}
use Rattle.disk_model.specs.Moments.{first_call, runs_on, weaker}
use Rattle.formats.specs.declared.params.Params.{Params}
use Rattle.script_lines.specs.Replies.{Reply, ok, ran, pairs, bad_tree, tree_full, denied, in_group, no_group, value, forced, bad, refused, full, end, object_value, command_count, stat, copied, saved, backup_denied, summary, absent, counted, silence, text_of, said_line}
use Rattle.explain_core.specs.World.{World}
use Rattle.store_engine.specs.Engine.{EngineView}
use Rattle.shell_base.specs.Store.{Command}
use Rattle.script_run.specs.Groups.{open_in, waiting}
use Rattle.script_run.specs.Replies.{IsTrueIn}
use Rattle.script_run.specs.Answers.{EndsInside, TrueWithin}
use Rattle.script_run.specs.Run.{IsTrueSaying, IsTrueSoFar, IsAnswerFound, Working, During, LineMoment}
use Rattle.script_run.specs.StoryLaws.{AreEven}
use Rattle.script_run.specs.StartLaws.{ends_behind}

newline_behind : (text : List ℕ) (count : ℕ) → count ≤ length text → count < length (text ++ 10 ∷ [])
newline_behind text count within = omega (arith, within, length-append text (10 ∷ []))

none_of_silence : length (text_of silence) ≡ 0
unfolding text_of
none_of_silence = refl

-- some bytes of a reply's text are not all that is said of it
within_line : (reply : Reply) (count : ℕ) → 0 < count → count ≤ length (text_of reply) → count < length (said_line reply)
within_line ok count some within = newline_behind (text_of ok) count within
within_line (value bytes) count some within = newline_behind (text_of (value bytes)) count within
within_line (forced n) count some within = newline_behind (text_of (forced n)) count within
within_line bad count some within = newline_behind (text_of bad) count within
within_line (refused why) count some within = newline_behind (text_of (refused why)) count within
within_line (full used need limit) count some within = newline_behind (text_of (full used need limit)) count within
within_line (end number) count some within = newline_behind (text_of (end number)) count within
within_line (object_value object bytes) count some within = newline_behind (text_of (object_value object bytes)) count within
within_line (command_count n) count some within = newline_behind (text_of (command_count n)) count within
within_line (stat counts) count some within = newline_behind (text_of (stat counts)) count within
within_line (ran k) count some within = newline_behind (text_of (ran k)) count within
within_line (pairs pair others) count some within = newline_behind (text_of (pairs pair others)) count within
within_line bad_tree count some within = newline_behind (text_of bad_tree) count within
within_line tree_full count some within = newline_behind (text_of tree_full) count within
within_line (denied why) count some within = newline_behind (text_of (denied why)) count within
within_line in_group count some within = newline_behind (text_of in_group) count within
within_line no_group count some within = newline_behind (text_of no_group) count within
within_line (copied n) count some within = newline_behind (text_of (copied n)) count within
within_line (saved n) count some within = newline_behind (text_of (saved n)) count within
within_line (backup_denied why) count some within = newline_behind (text_of (backup_denied why)) count within
within_line (summary totals) count some within = newline_behind (text_of (summary totals)) count within
within_line absent count some within = newline_behind (text_of absent) count within
within_line (counted n) count some within = newline_behind (text_of (counted n)) count within
within_line silence count some within = absurd (omega (arith, some, within, none_of_silence))

ends_before : {before : List ℕ} {reply : Reply} {said : List ℕ} → EndsInside before reply said → length said < length (before ++ said_line reply)
ends_before {before} {reply} {said} e =
    let within = within_line reply e.count e.some e.within in
    omega (arith, ap length e.said_is, length-append before (take e.count (text_of reply)), length-take e.count (text_of reply), length-append before (said_line reply), within)

-- all of them were said
pub all_said : (p : Params) (before : List ℕ) (lines : List (List ℕ)) (replies : List Reply) (waits : List (List Command)) (files : Files) (said : List ℕ) → AreEven lines replies waits → length (before ++ flat_map said_line replies) ≤ length said
    → TrueWithin p before lines replies waits files said
all_said p before [] [] [] files said even long = tt
all_said p before (line ∷ lines) (reply ∷ replies) (ops ∷ waits) files said even long =
    let same : length ((before ++ said_line reply) ++ flat_map said_line replies) ≡ length (before ++ (said_line reply ++ flat_map said_line replies)) = ap length (append_assoc before (said_line reply) (flat_map said_line replies)) in
    let more : length ((before ++ said_line reply) ++ flat_map said_line replies) ≤ length said = omega (arith, long, same) in (
      λ e. absurd (omega (arith, ends_before e, more, length-append (before ++ said_line reply) (flat_map said_line replies))),
      all_said p (before ++ said_line reply) lines replies waits files said (omega (arith, even.0), omega (arith, even.1)) more,
    )
all_said p before lines replies waits files said even long = absurd (omega (arith, even.0, even.1))

-- one answer more
pub true_more : (p : Params) (before : List ℕ) (lines : List (List ℕ)) (replies : List Reply) (waits : List (List Command)) (ops : List Command) (line : List ℕ) (reply : Reply) (files : Files) (said : List ℕ) → TrueWithin p before lines replies waits files said
    → (EndsInside (before ++ flat_map said_line replies) reply said → IsTrueIn p files ops line reply) → TrueWithin p before (lines ++ line ∷ []) (replies ++ reply ∷ []) (waits ++ ops ∷ []) files said
true_more p before [] [] [] ops line reply files said within here = (λ e. here (subst (λ (l : List ℕ). EndsInside l reply said) (sym (append-nil before)) e), tt)
true_more p before (l ∷ lines) (r ∷ replies) (o ∷ waits) ops line reply files said within here = (
  within.0,
  true_more p (before ++ said_line r) lines replies waits ops line reply files said within.1 (λ e. here (subst (λ (l : List ℕ). EndsInside l reply said) (append_assoc before (said_line r) (flat_map said_line replies)) e)),
)
true_more p before lines replies waits ops line reply files said within here = absurd within

-- the run goes on by an answer
pub truly_on : {p : Params} {start now new : Disk} {lines : List (List ℕ)} {replies : List Reply} {waits : List (List Command)} (ops : List Command) (line : List ℕ) (reply : Reply) → AreEven lines replies waits
    → LeavesOnly start now (IsTrueSoFar p start.said lines replies waits now.said) → now.said ≡ start.said ++ flat_map said_line replies
    → LeavesOnly now new (IsTrueSaying p now.said ops line reply) → LeavesOnly start new (IsTrueSoFar p start.said (lines ++ line ∷ []) (replies ++ reply ∷ []) (waits ++ ops ∷ []) (now.said ++ said_line reply))
truly_on {p} {start} {now} {new} {lines} {replies} {waits} ops line reply even so_far said_is saying =
    runs_on start now new (IsTrueSoFar p start.said (lines ++ line ∷ []) (replies ++ reply ∷ []) (waits ++ ops ∷ []) (now.said ++ said_line reply))
    (weaker start now (IsTrueSoFar p start.said lines replies waits now.said) (IsTrueSoFar p start.said (lines ++ line ∷ []) (replies ++ reply ∷ []) (waits ++ ops ∷ []) (now.said ++ said_line reply)) so_far (λ files said t.
    let short = t.no_longer in
    record {
      true_within = true_more p start.said lines replies waits ops line reply files said t.true_within (λ e. absurd (omega (arith, ends_behind e, short, ap length said_is)));
      no_longer = omega (arith, short, length-append now.said (said_line reply));
    }))
    (weaker now new (IsTrueSaying p now.said ops line reply) (IsTrueSoFar p start.said (lines ++ line ∷ []) (replies ++ reply ∷ []) (waits ++ ops ∷ []) (now.said ++ said_line reply)) saying (λ files said s.
    let long = s.no_shorter in
    record {
      true_within = true_more p start.said lines replies waits ops line reply files said (all_said p start.said lines replies waits files said even (omega (arith, long, ap length said_is)))
          (λ e. s.true_in (subst (λ (l : List ℕ). EndsInside l reply said) (sym said_is) e));
      no_longer = s.no_longer;
    }))

-- or says nothing more
pub truly_quiet : {p : Params} {start now new : Disk} {lines : List (List ℕ)} {replies : List Reply} {waits : List (List Command)} → AreEven lines replies waits → LeavesOnly start now (IsTrueSoFar p start.said lines replies waits now.said)
    → now.said ≡ start.said ++ flat_map said_line replies → {P : Files → List ℕ → Type 0} → LeavesOnly now new P → ((files : Files) (said : List ℕ) → P files said → length now.said ≤ length said)
    → LeavesOnly start new (TrueWithin p start.said lines replies waits)
truly_quiet {p} {start} {now} {new} {lines} {replies} {waits} even so_far said_is {P} leaves long =
    runs_on start now new (TrueWithin p start.said lines replies waits)
    (weaker start now (IsTrueSoFar p start.said lines replies waits now.said) (TrueWithin p start.said lines replies waits) so_far (λ files said t. t.true_within))
    (weaker now new P (TrueWithin p start.said lines replies waits) leaves (λ files said here. all_said p start.said lines replies waits files said even (omega (arith, long files said here, ap length said_is))))

-- a moment of a line comes after those of the lines before
pub line_behind : {p : Params} {d : Disk} {before : EngineView} {group : Option ℕ} {commands : List Command} {line : List ℕ} (files : Files) (said : List ℕ) → LineMoment p d before group commands line files said → length d.said ≤ length said
line_behind {p} {d} {before} {group} {commands} {line} files said m = ⊎_elim
    (λ (w : Working p d before commands line files said). omega (arith, ap length w.between.quiet))
    (λ (e : During p d before group commands line files said). omega (arith, ap length e.said_is, length-append d.said (take e.count (said_line e.reply))))
    m

-- the moments while an answer is found and said
pub found_truly : {p : Params} {old mid new : Disk} {before after : EngineView} {w : World Command} {commands : List Command} {line : List ℕ} {reply : Reply}
    → (old.tells_moments → LeavesOnly old mid (Working p old before commands line)) → Passes old mid → (found : IsAnswerFound p old mid before after w commands line reply)
    → Runs Same (SaysFront (said_line reply)) mid new → old.tells_moments → LeavesOnly old new (IsTrueSaying p old.said (waiting (open_in w) (commands ++ found.added)) line reply)
found_truly {p} {old} {mid} {new} {before} {after} {w} {commands} {line} {reply} images time found say told =
    runs_on old mid new (IsTrueSaying p old.said (waiting (open_in w) (commands ++ found.added)) line reply)
    (weaker old mid (Working p old before commands line) (IsTrueSaying p old.said (waiting (open_in w) (commands ++ found.added)) line reply) (images told) (λ files said b. record {
      true_in = λ e. absurd (omega (arith, ends_behind e, ap length b.between.quiet));
      no_shorter = omega (arith, ap length b.between.quiet);
      no_longer = omega (arith, ap length b.between.quiet, length-append old.said (said_line reply));
    }))
    (first_call mid new (IsTrueSaying p old.said (waiting (open_in w) (commands ++ found.added)) line reply) told_now say.time during)
  where
    told_now : mid.tells_moments
    told_now = time.moments_told.0 told

    during : (files : Files) (said : List ℕ) → new.left_since mid.clock files said → IsTrueSaying p old.said (waiting (open_in w) (commands ++ found.added)) line reply files said
    during files said left =
        let from = say.crash told_now files said left in
        let long = length-append mid.said (take from.1.0 (said_line reply)) in
        record {
          true_in = λ e. subst (λ (x : Files). IsTrueIn p x (waiting (open_in w) (commands ++ found.added)) line reply) (sym from.0.2) (found.tied.1 told_now from.0.0 mid.said from.0.1);
          no_shorter = omega (arith, ap length from.1.2, long, ap length found.quiet);
          no_longer = omega (arith, ap length from.1.2, long, ap length found.quiet, length-append old.said (said_line reply), length-take from.1.0 (said_line reply));
        }
