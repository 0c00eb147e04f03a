-- Calls on a fuse are calls on the machine that it passes them to.
use Rattle.std.proofs.Common.{◌≡◌, ◌++◌, List, ℕ, refl, sym, subst}
use Rattle.disk_model.specs.Disk.{Files, Disk, LeavesOnly}
use Rattle.disk_model.specs.Fuse.{disk_through}
use Rattle.disk_model.specs.declared.fuse.Fuse.{Fuse}
use Rattle.formats.specs.declared.params.Params.{Params}
use Rattle.shell_base.specs.Store.{Command, Opens}
use Rattle.shell_base.specs.Keeps.{KeepsFiles}
use Rattle.redo_shell.specs.Sessions.{Ran, Sizing, Follows, Sessions, start, run, init, reads, upgrade, follow, other}

module _ {M : Type 0} (disk : M → Disk) where
  -- a fuse around a machine
  abbrev fresh : M → Fuse M
  fresh machine = record { inner = machine; calls_left = 0; disk_faults = 0; say_faults = 0 }

  -- what a call leaves inside it, and around it
  leaves_inside : (old new : Fuse M) (P : Files → List ℕ → Type 0) → LeavesOnly (disk_through disk old) (disk_through disk new) P → LeavesOnly (disk old.inner) (disk new.inner) P
  leaves_inside old new P l = record { later = l.later; each = l.each; before = l.before }

  leaves_around : (old new : Fuse M) (P : Files → List ℕ → Type 0) → LeavesOnly (disk old.inner) (disk new.inner) P → LeavesOnly (disk_through disk old) (disk_through disk new) P
  leaves_around old new P l = record { later = l.later; each = l.each; before = l.before }

  opens_inside : (p : Params) (old : Fuse M) (commands : List Command) → Opens p (disk_through disk old) commands → Opens p (disk old.inner) commands
  opens_inside p old commands o = record { told = o.told; stands = o.stands }

  opens_around : (p : Params) (old : Fuse M) (commands : List Command) → Opens p (disk old.inner) commands → Opens p (disk_through disk old) commands
  opens_around p old commands o = record { told = o.told; stands = o.stands }

  keeps_inside : (old new : Fuse M) → KeepsFiles (disk_through disk old) (disk_through disk new) → KeepsFiles (disk old.inner) (disk new.inner)
  keeps_inside old new k = record { reads = k.reads; images = λ told. leaves_inside old new _ (k.images told) }

  keeps_around : (old new : Fuse M) → KeepsFiles (disk old.inner) (disk new.inner) → KeepsFiles (disk_through disk old) (disk_through disk new)
  keeps_around old new k = record { reads = k.reads; images = λ told. leaves_around old new _ (k.images told) }

  follows_inside : (old new next : Fuse M) (said : List ℕ) → Follows (disk_through disk old) (disk_through disk new) (disk_through disk next) said → Follows (disk old.inner) (disk new.inner) (disk next.inner) said
  follows_inside old new next said f = record { told = f.told; within = f.within }

  follows_around : (old new next : Fuse M) (said : List ℕ) → Follows (disk old.inner) (disk new.inner) (disk next.inner) said → Follows (disk_through disk old) (disk_through disk new) (disk_through disk next) said
  follows_around old new next said f = record { told = f.told; within = f.within }

  -- a list of calls on fuses is one on the machines inside
  pub inside : {first last : Fuse M} {sizes : List Sizing} {runs : List Ran} → Sessions (disk_through disk) first sizes runs last → Sessions disk first.inner sizes runs last.inner
  inside start = start
  inside (run old new next ran before begins leaves follows) =
      run old.inner new.inner next.inner ran (inside before) begins
      (λ p commands opens told. leaves_inside old new _ (leaves p commands (opens_around p old commands opens) told)) (follows_inside old new next ((disk old.inner).said ++ ran.bytes) follows)
  inside (init old new next p said before no_store leaves follows) =
      init old.inner new.inner next.inner p said (inside before) no_store (λ told. leaves_inside old new _ (leaves told)) (follows_inside old new next said follows)
  inside (reads old new next said before keeps leaves follows) =
      reads old.inner new.inner next.inner said (inside before) (λ none told. keeps_inside old new (keeps none told))
      (λ p commands opens told. leaves_inside old new _ (leaves p commands (opens_around p old commands opens) told)) (follows_inside old new next said follows)
  inside (upgrade old new next q said before keeps leaves follows) =
      upgrade old.inner new.inner next.inner q said (inside before) (λ none told. keeps_inside old new (keeps none told))
      (λ p commands opens told. leaves_inside old new _ (leaves p commands (opens_around p old commands opens) told)) (follows_inside old new next said follows)
  inside (follow old new next bytes said before keeps leaves follows) =
      follow old.inner new.inner next.inner bytes said (inside before) (λ none told. keeps_inside old new (keeps none told))
      (λ p commands opens told. let its = leaves p commands (opens_around p old commands opens) told in (its.0, its.1, leaves_inside old new _ its.2)) (follows_inside old new next said follows)
  inside (other old new next said before kept follows) =
      other old.inner new.inner next.inner said (inside before) (keeps_inside old new kept) (follows_inside old new next said follows)

  -- a list of calls on fuses that ends with this one
  pub record Around (first : M) (sizes : List Sizing) (runs : List Ran) (end : Fuse M) : Type 0 where
    pub begin : Fuse M
    pub begins : begin.inner ≡ first
    pub calls : Sessions (disk_through disk) begin sizes runs end

  -- and a list of calls on machines is one on fuses around them
  pub around : {first last : M} {sizes : List Sizing} {runs : List Ran} → Sessions disk first sizes runs last → (end : Fuse M) → end.inner ≡ last → Around first sizes runs end
  around start end is = record { begin = end; begins = is; calls = start }
  around (run old new next ran before begins leaves follows) end is =
      let so_far = around before (fresh old) refl in
      let said = (disk old).said ++ ran.bytes in
      let here : Follows (disk old) (disk new) (disk end.inner) said = subst (λ (m : M). Follows (disk old) (disk new) (disk m) said) (sym is) follows in
      record {
        begin = so_far.begin;
        begins = so_far.begins;
        calls = run (fresh old) (fresh new) end ran so_far.calls begins
            (λ p commands opens told. leaves_around (fresh old) (fresh new) _ (leaves p commands (opens_inside p (fresh old) commands opens) told)) (follows_around (fresh old) (fresh new) end said here);
      }
  around (init old new next p said before no_store leaves follows) end is =
      let so_far = around before (fresh old) refl in
      let here : Follows (disk old) (disk new) (disk end.inner) said = subst (λ (m : M). Follows (disk old) (disk new) (disk m) said) (sym is) follows in
      record {
        begin = so_far.begin;
        begins = so_far.begins;
        calls = init (fresh old) (fresh new) end p said so_far.calls no_store (λ told. leaves_around (fresh old) (fresh new) _ (leaves told)) (follows_around (fresh old) (fresh new) end said here);
      }
  around (reads old new next said before keeps leaves follows) end is =
      let so_far = around before (fresh old) refl in
      let here : Follows (disk old) (disk new) (disk end.inner) said = subst (λ (m : M). Follows (disk old) (disk new) (disk m) said) (sym is) follows in
      record {
        begin = so_far.begin;
        begins = so_far.begins;
        calls = reads (fresh old) (fresh new) end said so_far.calls (λ none told. keeps_around (fresh old) (fresh new) (keeps none told))
            (λ p commands opens told. leaves_around (fresh old) (fresh new) _ (leaves p commands (opens_inside p (fresh old) commands opens) told)) (follows_around (fresh old) (fresh new) end said here);
      }
  around (upgrade old new next q said before keeps leaves follows) end is =
      let so_far = around before (fresh old) refl in
      let here : Follows (disk old) (disk new) (disk end.inner) said = subst (λ (m : M). Follows (disk old) (disk new) (disk m) said) (sym is) follows in
      record {
        begin = so_far.begin;
        begins = so_far.begins;
        calls = upgrade (fresh old) (fresh new) end q said so_far.calls (λ none told. keeps_around (fresh old) (fresh new) (keeps none told))
            (λ p commands opens told. leaves_around (fresh old) (fresh new) _ (leaves p commands (opens_inside p (fresh old) commands opens) told)) (follows_around (fresh old) (fresh new) end said here);
      }
  around (follow old new next bytes said before keeps leaves follows) end is =
      let so_far = around before (fresh old) refl in
      let here : Follows (disk old) (disk new) (disk end.inner) said = subst (λ (m : M). Follows (disk old) (disk new) (disk m) said) (sym is) follows in
      record {
        begin = so_far.begin;
        begins = so_far.begins;
        calls = follow (fresh old) (fresh new) end bytes said so_far.calls (λ none told. keeps_around (fresh old) (fresh new) (keeps none told))
            (λ p commands opens told. let its = leaves p commands (opens_inside p (fresh old) commands opens) told in (its.0, its.1, leaves_around (fresh old) (fresh new) _ its.2)) (follows_around (fresh old) (fresh new) end said here);
      }
  around (other old new next said before kept follows) end is =
      let so_far = around before (fresh old) refl in
      let here : Follows (disk old) (disk new) (disk end.inner) said = subst (λ (m : M). Follows (disk old) (disk new) (disk m) said) (sym is) follows in
      record {
        begin = so_far.begin;
        begins = so_far.begins;
        calls = other (fresh old) (fresh new) end said so_far.calls (keeps_around (fresh old) (fresh new) kept) (follows_around (fresh old) (fresh new) end said here);
      }
