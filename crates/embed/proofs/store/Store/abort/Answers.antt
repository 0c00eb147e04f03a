use Rattle.embed.proofs.store.Store.abort.Goals as goal

pub returns-in-Ok-clause-undone : goal.returns-in-Ok-clause-undone
returns-in-Ok-clause-undone g c = λ told p commands ops holds size.
    let kept = c.in-Ok.ensures.undone told p commands ops holds size in
    (kept.0, kept.1)
