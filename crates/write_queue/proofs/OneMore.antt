-- One call more.
use Rattle.std.proofs.Common.{inl, inr, ◌≡◌, ℕ, ◌+◌, List, [], ◌∷◌, ◌++◌, length, refl, sym, ◌∙◌, ap, subst, arith, length-append, append_assoc}
use Rattle.std.proofs.lemmas.List.{append-nil, take_all}
use Rattle.disk_model.specs.Disk.{Files, Disk, Exchange, Passes, Runs, Steps, Same, In, Torn, HoldsAt, SaysFront, IsSettledIn, written_over}
use Rattle.disk_model.specs.Exchanged.{with_exchange, runs_with_exchange}
use Rattle.disk_model.specs.Moments.{same_file}
use Rattle.disk_model.specs.Call.{Call, Write, Sync, Say}
use Rattle.disk_model.specs.Calls.{DiskState, IsImage, changed, disk_step, disk_after, disk_start, disk_at}
use Rattle.disk_model.specs.CallLaws.{changed_here, changed_others, from_changed, from_other, as_read, torn_none, torn_whole, after_push, newest, passes, steps}
use Rattle.disk_model.specs.declared.machine.FileNo.{FileNo}
use Rattle.write_queue.specs.Before.{Makes, disk_by, lawful_by}

-- one call more of those that wait is one more of all
pub joins : (taken waiting longer : List Call) (call : Call) → longer ≡ waiting ++ call ∷ [] → taken ++ longer ≡ (taken ++ waiting) ++ call ∷ []
joins taken waiting longer call is = ap (λ (l : List Call). taken ++ l) is ∙ sym (append_assoc taken waiting (call ∷ []))

module _ (exchange : Exchange) (first : Files) (calls later : List Call) (now : Files) (df sf : ℕ) (made : Makes first calls (now)) where
  abbrev st : DiskState
  st = disk_after (disk_start first) calls

  abbrev old : Disk
  old = disk_by first calls (now) df sf

  module _ (call : Call) (is : later ≡ calls ++ call ∷ []) where
    after : disk_after (disk_start first) later ≡ disk_step call st
    after = ap (λ (l : List Call). disk_after (disk_start first) l) is ∙ after_push (disk_start first) calls call

    pub makes : (now' : Files) → ((file : FileNo) → now' file ≡ (disk_step call st).reads file) → Makes first later now'
    makes now' same file = same file ∙ ap (λ (t : DiskState). t.reads file) (sym after)

    -- it takes a step of the images and of what reads give, and says something
    runs_by : (change : Files → Files → Type 0) (says : List ℕ → List ℕ → Type 0) (now' : Files)
        → ((file : FileNo) → now' file ≡ (disk_step call st).reads file)
        → ((c : Files) → change c c) → says st.said st.said
        → ((c : Files) → IsImage (disk_step call st) c → (d : Files) × IsImage st d × change d c)
        → says st.said (disk_step call st).said → change (now) now'
        → Runs change says (with_exchange exchange old) (with_exchange exchange (disk_by first later now' df sf))
    runs_by change says now' same stays none goes all reads =
        let said' = (disk_after (disk_start first) later).said in
        let speaks : says st.said said' = subst (λ (l : List ℕ). says st.said l) (ap (λ (t : DiskState). t.said) (sym after)) all in
        runs_with_exchange exchange old (disk_by first later now' df sf) change says (record {
          begins = lawful_by first calls (now) df sf made;
          ends = lawful_by first later now' df sf (makes now' same);
          time = subst (λ (l : List Call). Passes old (disk_at first l now' said' df sf)) (sym is) (passes first calls call (now) now' st.said said' df df sf sf (omega arith) (omega arith));
          crash = subst (λ (l : List Call). Steps change says old (disk_at first l now' said' df sf)) (sym is) (steps first calls call (now) now' st.said said' df df sf sf change says refl stays none goes all);
          reads = λ told. reads;
          agreed = λ files agrees. (now, refl, subst (λ (f : Files). change (now) f) (sym agrees) reads);
          said = λ told. speaks;
        })

  module _ (file : FileNo) (at : ℕ) (bytes : List ℕ) (is : later ≡ calls ++ Write file at bytes ∷ []) (now' : Files) (holds : In file (HoldsAt at bytes) (now) now') where
    written : (other : FileNo) → now' other ≡ (disk_step (Write file at bytes) st).reads other
    written other = elim (same_file other file) [
      | inl is_same ↦ subst (λ (f : FileNo). now' f ≡ changed file (written_over at bytes (st.reads file)) st.reads f) (sym is_same)
          (holds.changed ∙ ap (λ (l : List ℕ). written_over at bytes l) (made file) ∙ sym (changed_here file (written_over at bytes (st.reads file)) st.reads))
      | inr is_other ↦ holds.others other is_other ∙ made other ∙ sym (changed_others file (written_over at bytes (st.reads file)) st.reads other is_other)
    ]

    pub write_makes : Makes first later now'
    write_makes = makes (Write file at bytes) is now' written

    pub write_runs : Runs (In file (Torn at (length bytes))) Same (with_exchange exchange old) (with_exchange exchange (disk_by first later now' df sf))
    write_runs = runs_by (Write file at bytes) is (In file (Torn at (length bytes))) Same now' written
        (λ c. record { changed = torn_none at (length bytes) (c file); others = λ other is_other. refl }) refl
        (λ c image.
        let from = from_changed file (λ l. (d : List ℕ) × st.images file d × Torn at (length bytes) d l) st.images (c file) (image file) in
        let d = changed file from.0 c in (
          d,
          (λ other. elim (same_file other file) [
            | inl is_same ↦ subst (λ (f : FileNo). st.images f (d f)) (sym is_same) (subst (λ (l : List ℕ). st.images file l) (sym (changed_here file from.0 c)) from.1)
            | inr is_other ↦ subst (λ (l : List ℕ). st.images other l) (sym (changed_others file from.0 c other is_other)) (from_other file other (λ l. (d : List ℕ) × st.images file d × Torn at (length bytes) d l) st.images (c other) is_other (image other))
          ]),
          record {
            changed = subst (λ (l : List ℕ). Torn at (length bytes) l (c file)) (sym (changed_here file from.0 c)) from.2;
            others = λ other is_other. sym (changed_others file from.0 c other is_other);
          },
        )) refl
        (record {
          changed = subst (λ (l : List ℕ). Torn at (length bytes) (now file) l) (sym holds.changed) (torn_whole at bytes (now file));
          others = holds.others;
        })

  module _ (file : FileNo) (is : later ≡ calls ++ Sync file ∷ []) where
    pub sync_makes : Makes first later (now)
    sync_makes = makes (Sync file) is (now) made

    pub sync_runs : Runs Same Same (with_exchange exchange old) (with_exchange exchange (disk_by first later (now) df sf))
    sync_runs = runs_by (Sync file) is Same Same (now) made (λ c. refl) refl (λ c image. (
      c,
      (λ other. elim (same_file other file) [
        | inl is_same ↦ subst (λ (f : FileNo). st.images f (c f)) (sym is_same)
            (subst (λ (l : List ℕ). st.images file l) (sym (from_changed file (λ l. l ≡ st.reads file) st.images (c file) (image file))) (as_read (disk_start first) calls (λ f. refl) file))
        | inr is_other ↦ from_other file other (λ l. l ≡ st.reads file) st.images (c other) is_other (image other)
      ]),
      refl,
    )) refl refl

    pub sync_settles : IsSettledIn file (disk_by first later (now) df sf)
    sync_settles = subst (λ (l : List Call). IsSettledIn file (disk_by first l (now) df sf)) (sym is) (λ told c s left.
        let k_is : left.k ≡ length calls + 1 = omega (arith, left.since, left.until, length-append calls (Sync file ∷ [])) in
        let image = subst (λ (t : DiskState). IsImage t c) (newest first calls (Sync file) st.reads st.reads [] [] 0 0 0 0 left.k k_is) left.image in
        from_changed file (λ l. l ≡ st.reads file) st.images (c file) (image file) ∙ sym (made file))

  module _ (bytes : List ℕ) (is : later ≡ calls ++ Say bytes ∷ []) where
    pub say_makes : Makes first later (now)
    say_makes = makes (Say bytes) is (now) made

    pub say_runs : Runs Same (SaysFront bytes) (with_exchange exchange old) (with_exchange exchange (disk_by first later (now) df sf))
    say_runs = runs_by (Say bytes) is Same (SaysFront bytes) (now) made (λ c. refl) (0, omega arith, sym (append-nil st.said)) (λ c image. (c, image, refl))
        (length bytes, omega arith, ap (λ (b : List ℕ). st.said ++ b) (sym (take_all (length bytes) bytes (omega arith)))) refl

    pub says : (disk_after (disk_start first) later).said ≡ st.said ++ bytes
    says = ap (λ (t : DiskState). t.said) (after (Say bytes) is)
