use Rattle.std.proofs.Common.{◌≡◌, ◌∙◌, refl, arith, drop}
use Rattle.byteorder.specs.Numbers.{little_from-take}
use Rattle.formats.specs.Bytes.{number_at}
use Rattle.formats.specs.FirstFault.{stops, goes_on}
use Rattle.log_blocks.proofs.HeaderBytes.{header_is}
use Rattle.log_blocks.proofs.loading.parse_header.Goals as goal
use Rattle.log_blocks.proofs.loading.parse_header.Goals.{then-epoch-eq0-via-then-epoch-eq0, then-epoch-eq0-via-else-epoch-eq0+then-epoch-gt-LSN_END, then-base-eq0-via-then-base-eq0, then-base-eq0-via-else-base-eq0+then-base-gt-LSN_END}

pub returns-then-not-has_magic-clause-cause : goal.returns-then-not-has_magic-clause-cause
returns-then-not-has_magic-clause-cause c = rw c.damaged_at.ensures (refl, stops refl (λ is. cc (c.if-not-has_magic.ensures.1 is)))

pub returns-then-epoch-eq0-clause-cause : goal.returns-then-epoch-eq0-clause-cause
returns-then-epoch-eq0-clause-cause c =
    let is : c.read_u64-epoch.result ≡ number_at 8 9 c.args.head.now = c.read_u64-epoch.ensures ∙ little_from-take 0 8 24 (drop 9 c.args.head.now) (omega arith) in
    rw c.damaged_at-then-epoch-eq0.ensures (
      refl,
      goes_on (c.has_magic.ensures.0 c.if-not-has_magic.false) (stops refl (λ range. elim c.then-epoch-eq0.branch [
        | then-epoch-eq0-via-then-epoch-eq0 w ↦ omega (arith, is, range.0, w.if-epoch-eq0.true)
        | then-epoch-eq0-via-else-epoch-eq0+then-epoch-gt-LSN_END w ↦ omega (arith, is, range.1, w.if-epoch-gt-LSN_END.true)
      ])),
    )

pub returns-then-base-eq0-clause-cause : goal.returns-then-base-eq0-clause-cause
returns-then-base-eq0-clause-cause c =
    let epochs : c.read_u64-epoch.result ≡ number_at 8 9 c.args.head.now = c.read_u64-epoch.ensures ∙ little_from-take 0 8 24 (drop 9 c.args.head.now) (omega arith) in
    let is : c.read_u64-base.result ≡ number_at 8 17 c.args.head.now = c.read_u64-base.ensures ∙ little_from-take 0 8 16 (drop 17 c.args.head.now) (omega arith) in
    rw c.damaged_at-then-base-eq0.ensures (
      refl,
      goes_on (c.has_magic.ensures.0 c.if-not-has_magic.false) (goes_on (omega (arith, epochs, c.if-epoch-eq0.false), omega (arith, epochs, c.if-epoch-gt-LSN_END.false)) (stops refl (λ range. elim c.then-base-eq0.branch [
        | then-base-eq0-via-then-base-eq0 w ↦ omega (arith, is, range.0, w.if-base-eq0.true)
        | then-base-eq0-via-else-base-eq0+then-base-gt-LSN_END w ↦ omega (arith, is, range.1, w.if-base-gt-LSN_END.true)
      ]))),
    )

pub returns-then-commands-base-clause-cause : goal.returns-then-commands-base-clause-cause
returns-then-commands-base-clause-cause c =
    let epochs : c.read_u64-epoch.result ≡ number_at 8 9 c.args.head.now = c.read_u64-epoch.ensures ∙ little_from-take 0 8 24 (drop 9 c.args.head.now) (omega arith) in
    let bases : c.read_u64-base.result ≡ number_at 8 17 c.args.head.now = c.read_u64-base.ensures ∙ little_from-take 0 8 16 (drop 17 c.args.head.now) (omega arith) in
    let counts : c.read_u64-commands.result ≡ number_at 8 25 c.args.head.now = c.read_u64-commands.ensures ∙ little_from-take 0 8 8 (drop 25 c.args.head.now) (omega arith) in
    rw c.damaged_at-then-commands-base.ensures (
      refl,
      goes_on (c.has_magic.ensures.0 c.if-not-has_magic.false) (goes_on (omega (arith, epochs, c.if-epoch-eq0.false), omega (arith, epochs, c.if-epoch-gt-LSN_END.false))
          (goes_on (omega (arith, bases, c.if-base-eq0.false), omega (arith, bases, c.if-base-gt-LSN_END.false)) (stops refl (λ less. omega (arith, less, bases, counts, c.if-commands-base.true))))),
    )

pub returns-clause-ok : goal.returns-clause-ok
returns-clause-ok c =
    let epochs : c.read_u64-epoch.result ≡ number_at 8 9 c.args.head.now = c.read_u64-epoch.ensures ∙ little_from-take 0 8 24 (drop 9 c.args.head.now) (omega arith) in
    let bases : c.read_u64-base.result ≡ number_at 8 17 c.args.head.now = c.read_u64-base.ensures ∙ little_from-take 0 8 16 (drop 17 c.args.head.now) (omega arith) in
    let counts : c.read_u64-commands.result ≡ number_at 8 25 c.args.head.now = c.read_u64-commands.ensures ∙ little_from-take 0 8 8 (drop 25 c.args.head.now) (omega arith) in (
      record {
        epoch_low = omega (arith, c.if-epoch-eq0.false);
        epoch_high = c.if-epoch-gt-LSN_END.false;
        base_low = omega (arith, c.if-base-eq0.false);
        base_high = c.if-base-gt-LSN_END.false;
        commands = c.if-commands-base.false;
      },
      header_is c.args.head.now _ c.told-head c.fits-head c.requires (c.has_magic.ensures.0 c.if-not-has_magic.false) epochs bases counts,
    )
