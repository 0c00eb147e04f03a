-- Commands for whose records there is room are not stopped, and are appended alone.
use Rattle.std.proofs.Common.{◌≡◌, ◌∙◌, sym, subst, ap, ℕ, ◌+◌, ◌≤◌, ◌^◌, Bool, true, false, if◌then◌else◌, ◌||◌, nat_lt, nat_le, List, [], ◌∷◌, length, refl, Some, inl, inr, ⊎_elim, arith, length-append}
use Rattle.std.specs.Option.{is_some}
use Rattle.std.proofs.lemmas.Bool.{cases_Bool, cond-true, cond-false, le-ltb, lt-ltb, lt-leb}
use Rattle.disk_model.specs.Disk.{Disk}
use Rattle.oper_core.specs.Meaning.{Meaning}
use Rattle.oper_core.specs.declared.bounds.Bounds.{Bounds}
use Rattle.formats.specs.declared.params.Params.{Params}
use Rattle.explain_core.specs.History.Member.{Command}
use Rattle.explain_core.specs.World.{Step, World, run, step, end_of}
use Rattle.explain_core.specs.World.Step.{Append}
use Rattle.running_store.specs.Calls.Commands.{command_length}
use Rattle.running_store.specs.Courses.{Course, Stop, and_then, course, grown, waits}
use Rattle.running_store.specs.Courses.Stop.{At_end, Full, Through}
use Rattle.running_store.specs.Taking.Ending.{Stopped}
use Rattle.execution.specs.Courses.{append_course, unplaced_steps}
use Rattle.execution.specs.declared.exec_err.ExecErr.{ExecErr}
use Rattle.execution.specs.declared.exec_err.ExecErr.TheVariants.{Refused, LogFull, LsnEnd, DiskFault, Damaged, Memory}
use Rattle.store_engine.specs.Engine.{EngineView, ShowsIn, group_size, params_of, records_of, used_in}
use Rattle.store_engine.specs.Store.{meaning_in}
use Rattle.store_engine.specs.Lists.{AddsFront, IsCutOff, IsNeed, commands_course, ending_of, larger}
use Rattle.transactions.specs.Accepted.{IsNoRefusal}
use Rattle.transactions.specs.Room.{HasRoomFor, HasRoomOf}

-- the steps that append commands
abbrev pub appends : {O : Type 0} → List O → List (Step O)
appends [] = []
appends (op ∷ ops) = Append (Command op) ∷ appends ops

module _ {O : Type 0} (meaning : Bounds → Meaning O) (p : Params) (limit : ℕ) where
  abbrev m : Meaning O
  m = meaning_in meaning p

  -- the bytes of a block's head, where one is to be begun
  abbrev head : World O → ℕ
  head w = if waits m w then 0 else 5

  pub short_head : (w : World O) → head w ≤ 5
  short_head w = elim (cases_Bool (waits m w)) [
    | inl some ↦ omega (arith, cond-true {A = ℕ} (waits m w) 0 5 some)
    | inr none ↦ omega (arith, cond-false {A = ℕ} (waits m w) 0 5 none)
  ]

  grown_head : (w : World O) (used n : ℕ) → grown m w used n ≡ used + head w + n
  grown_head w used n = elim (cases_Bool (waits m w)) [
    | inl some ↦ omega (arith, cond-true {A = ℕ} (waits m w) n (n + 5) some, cond-true {A = ℕ} (waits m w) 0 5 some)
    | inr none ↦ omega (arith, cond-false {A = ℕ} (waits m w) n (n + 5) none, cond-false {A = ℕ} (waits m w) 0 5 none)
  ]

  abbrev later : World O → O → World O
  later w op = run m w (Append (Command op) ∷ [])

  forced_later : (w : World O) (op : O) → (later w op).forced ≡ w.forced
  unfolding run step
  forced_later w op = refl

  history_later : (w : World O) (op : O) → length (later w op).history ≡ length w.history + 1
  unfolding run step
  history_later w op = length-append w.history (Command op ∷ [])

  waits_later : (w : World O) (op : O) → w.forced ≤ length w.history → waits m (later w op) ≡ true
  waits_later w op within =
      ap (λ (b : Bool). b || nat_lt 0 (length (later w op).pending))
      (lt-ltb (later w op).forced (length (later w op).history) (omega (arith, within, forced_later w op, history_later w op)))

  pub room_through : (ops : List O) (w : World O) (used : ℕ) → w.forced ≤ length w.history → used + head w + records_of meaning p ops ≤ limit → end_of w + length ops ≤ 2 ^ 62
      → ((commands_course m limit ops w used).stop ≡ Through) × ((commands_course m limit ops w used).steps ≡ appends ops)
  room_through [] w used within fits low = (refl, refl)
  room_through (op ∷ ops) w used within fits low =
      let n = command_length m op in
      let long = grown_head w used n in
      let over : nat_lt limit (grown m w used n) ≡ false = le-ltb limit (grown m w used n) (omega (arith, fits, long)) in
      let past : nat_le (2 ^ 62) (end_of w) ≡ false = lt-leb (2 ^ 62) (end_of w) (omega (arith, low)) in
      let placed : append_course m (is_some w.group) limit op w used ≡ course (Append (Command op) ∷ []) (grown m w used n) Through =
      cond-false (nat_lt limit (grown m w used n)) _ _ over ∙ cond-false (nat_le (2 ^ 62) (end_of w)) _ _ past in
      let rest = room_through ops (later w op) (grown m w used n) (omega (arith, within, forced_later w op, history_later w op))
      (omega (arith, fits, long, cond-true {A = ℕ} (waits m (later w op)) 0 5 (waits_later w op within)))
      (omega (arith, low, history_later w op)) in (
        ap (λ (c : Course O). (and_then m w c (λ v used. commands_course m limit ops v used)).stop) placed ∙ rest.0,
        ap (λ (c : Course O). (and_then m w c (λ v used. commands_course m limit ops v used)).steps) placed ∙ ap (λ (l : List (Step O)). Append (Command op) ∷ l) rest.1,
      )

  -- also where no LSN is left for one of them, it is not for want of room that they are stopped
  pub never_full : (ops : List O) (w : World O) (used : ℕ) → w.forced ≤ length w.history → used + head w + records_of meaning p ops ≤ limit
      → (full need least : ℕ) → (commands_course m limit ops w used).stop ≡ Full full need least → ⊥
  never_full [] w used within fits full need least is = cc is
  never_full (op ∷ ops) w used within fits full need least is =
      let n = command_length m op in
      let long = grown_head w used n in
      let over : nat_lt limit (grown m w used n) ≡ false = le-ltb limit (grown m w used n) (omega (arith, fits, long)) in
      let next : Course O → Course O = λ c. and_then m w c (λ v used. commands_course m limit ops v used) in
      let unplaced : Course O = course (unplaced_steps m (is_some w.group) w) used (At_end (end_of w)) in
      let appended : Course O = course (Append (Command op) ∷ []) (grown m w used n) Through in
      let last = nat_le (2 ^ 62) (end_of w) in
      let here : append_course m (is_some w.group) limit op w used ≡ (if last then unplaced else appended) = cond-false (nat_lt limit (grown m w used n)) _ _ over in elim (cases_Bool last) [
        | inl none ↦ cc (sym (ap (λ (c : Course O). (next c).stop) (here ∙ cond-true last unplaced appended none)) ∙ is)
        | inr some ↦ never_full ops (later w op) (grown m w used n) (omega (arith, within, forced_later w op, history_later w op))
            (omega (arith, fits, long, cond-true {A = ℕ} (waits m (later w op)) 0 5 (waits_later w op within))) full need least
            (sym (ap (λ (c : Course O). (next c).stop) (here ∙ cond-false last unplaced appended some)) ∙ is)
      ]

-- so no call that adds commands whose records fit is stopped for want of room
pub none_full : {O : Type 0} (meaning : Bounds → Meaning O) (p : Params) (old new : Disk) (before after : EngineView) (w : World O) (commands ops : List O) (bytes full need least : ℕ) → ShowsIn meaning p old before w
    → HasRoomOf before bytes → records_of meaning p ops ≤ bytes → AddsFront meaning p old new before after w commands ops (Stopped (Full full need least)) → ⊥
none_full meaning p old new before after w commands ops bytes full need least shows room fits adds =
    let has = ⊎_elim (λ failed. absurd failed) (λ has. has) adds.kept in
    let limit : used_in before + 5 + bytes ≤ p.limit = subst (λ (q : Params). used_in before + 5 + bytes ≤ q.limit) shows.shows.store.params room in
    never_full meaning p p.limit ops w (used_in before) shows.sound.forced (omega (arith, limit, fits, short_head meaning p p.limit w)) full need least has.ends.0

module _ {O : Type 0} (meaning : Bounds → Meaning O) (p : Params) (d : Disk) (before : EngineView) (w : World O) (shows : ShowsIn meaning p d before w) (ops : List O)
    (room : HasRoomFor meaning before ops) (low : end_of w + length ops ≤ 2 ^ 62) where
  same : params_of before ≡ p
  same = shows.shows.store.params

  fits : used_in before + 5 + records_of meaning p ops ≤ p.limit
  fits = subst (λ (q : Params). used_in before + 5 + records_of meaning q ops ≤ q.limit) same room

  through : ((commands_course (meaning_in meaning p) p.limit ops w (used_in before)).stop ≡ Through) × ((commands_course (meaning_in meaning p) p.limit ops w (used_in before)).steps ≡ appends ops)
  through = room_through meaning p p.limit ops w (used_in before) shows.sound.forced (omega (arith, fits, short_head meaning p p.limit w)) low

  -- they are appended, and nothing else is done
  pub are_appends : (commands_course (meaning_in meaning p) p.limit ops w (used_in before)).steps ≡ appends ops
  are_appends = through.1

  -- so no call that adds them ends so
  pub none_stopped : (new : Disk) (after : EngineView) (commands : List O) (stop : Stop) → AddsFront meaning p d new before after w commands ops (Stopped stop) → ⊥
  none_stopped new after commands stop adds =
      let has = ⊎_elim (λ failed. absurd failed) (λ has. has) adds.kept in
      let at = adds.stopped stop refl in
      subst (λ (s : Stop). IsNeed meaning p (larger (group_size before) adds.done) at.op s) (sym has.ends.0 ∙ through.0) at.need

  -- memory or the disk alone end it early
  pub cut_off : (new : Disk) (after : EngineView) (commands : List O) (e : ExecErr) → IsNoRefusal (Some e) → AddsFront meaning p d new before after w commands ops (ending_of (Some e)) → IsCutOff (ending_of (Some e))
  cut_off new after commands (Refused refusal) unrefused adds = absurd unrefused
  cut_off new after commands (LogFull used need limit) unrefused adds = absurd (none_stopped new after commands (Full used need limit) adds)
  cut_off new after commands (LsnEnd lsn) unrefused adds = absurd (none_stopped new after commands (At_end lsn) adds)
  cut_off new after commands DiskFault unrefused adds = tt
  cut_off new after commands (Damaged file place) unrefused adds = tt
  cut_off new after commands Memory unrefused adds = tt
