use Rattle.std.proofs.Common.{Some, refl, ap, ◌∙◌}
use Rattle.dirty_cache.specs.Contents.{contents, shown}
use Rattle.dirty_cache.proofs.Lookups.{promoted-used}
use Rattle.dirty_cache.proofs.Same.{unchanged-promoted, held-promoted}
use Rattle.dirty_cache.proofs.cache.Cache.view.Goals as goal

pub returns-in_err-entry : goal.returns-in_err-entry
returns-in_err-entry c =
    let was = contents c.self.inside.dirty c.self.inside.clean.entries c.self.inside.clean.cap in
    let answer = ap shown c.from_residual.ensures ∙ c.in_err-entry.ensures.value ∙ held-promoted c.self.inside.dirty c.self.inside.clean c.promote.new.self c.args.x c.promote.ensures.entries in
    rw (← c.self.view_is, c.promote.ensures.entries) ((refl, λ _. tt, (unchanged-promoted was c.args.x, λ y h. h, promoted-used c.args.x was.clean)), record { unchanged = tt; entry = answer })

pub returns : goal.returns
returns c =
    let was = contents c.self.inside.dirty c.self.inside.clean.entries c.self.inside.clean.cap in
    let answer = (λ i. Some (record { lsn = c.in_ok-entry.entry.now.lsn; bytes = c.as_slice.ensures i })) ∙ c.in_ok-entry.ensures.value ∙ held-promoted c.self.inside.dirty c.self.inside.clean c.promote.new.self c.args.x c.promote.ensures.entries in
    rw (← c.self.view_is, c.promote.ensures.entries) ((refl, λ _. tt, (unchanged-promoted was c.args.x, λ y h. h, promoted-used c.args.x was.clean)), record { unchanged = tt; entry = answer })
