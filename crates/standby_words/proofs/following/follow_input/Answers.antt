use Rattle.std.proofs.Common.{◌≡◌, ◌∙◌, ◌+◌, ◌^◌, ◌≤◌, ◌++◌, List, ℕ, ap, arith, inl, inr, length, drop, refl, subst, sym, take}
use Rattle.std.proofs.lemmas.List.{length-take-le}
use Rattle.frame_stream.specs.FrameBuffer.{taken_by}
use Rattle.script_lines.specs.declared.read_error.ReadError.TheVariants.{Memory}
use Rattle.standby_words.specs.Following.{IsInputFollowed}
use Rattle.standby_words.proofs.ComparingLemmas.{its_own, mirror_more, piece_room}
use Rattle.standby_words.proofs.FollowingLemmas.{compares_more, ends_so, not_mirrored, refused_so, starts_comparing, starts_taking, stops_so, unlike_so, written_front, written_length}
use Rattle.standby_words.proofs.following.follow_input.Goals as goal

pub returns-in_err-mirror-clause-followed : goal.returns-in_err-mirror-clause-followed
returns-in_err-mirror-clause-followed g c =
    not_mirrored c.args.same (g.S.Source.left c.args.input.now) (g.M.Machine.disk c.args.machine.now) (g.M.Machine.disk c.mirror_for.new.machine) c.args.standby.now c.mirror_for.new.standby c.in_err-mirror.field-0.0 c.from_residual.result c.from_residual.ensures.1
    (g.met.M.Machine.lawful c.args.machine.now) c.standby_stands.ensures c.mirror_for.ensures.read.kept c.in_err-mirror.ensures.undamaged

pub returns-in_err-piece-clause-followed : goal.returns-in_err-piece-clause-followed
returns-in_err-piece-clause-followed g c =
    let begin = starts_taking (g.S.Source.left c.args.input.now) (g.M.Machine.disk c.args.machine.now) (g.M.Machine.disk c.mirror_for.new.machine) c.args.standby.now c.mirror_for.new.standby (g.met.M.Machine.lawful c.args.machine.now) c.requires.fine c.requires.fresh c.standby_stands.ensures
    c.mirror_for.ensures.read (λ failed. cc (c.in_ok-mirror.was, failed)) c.mirror_for.ensures.rest c.mirror_for.ensures.attached in
    stops_so c.args.same begin Memory c.from_residual-in_err-piece.result c.from_residual-in_err-piece.ensures.1 (λ p w shows. inr refl)

pub loop-piece-init : goal.loop-piece-init
loop-piece-init g c =
    let begin = starts_comparing c.args.same (g.S.Source.left c.args.input.now) (g.M.Machine.disk c.args.machine.now) (g.M.Machine.disk c.mirror_for.new.machine) c.args.standby.now c.mirror_for.new.standby c.in_ok-mirror.mirror (g.met.M.Machine.lawful c.args.machine.now) c.requires.fine c.requires.fresh c.standby_stands.ensures
    c.mirror_for.ensures.read (λ failed. cc (c.in_ok-mirror.was, failed)) c.mirror_for.ensures.rest c.mirror_for.ensures.attached c.in_ok-mirror.ensures.mirrors in
    record {
      told = λ told. told;
      faults = omega arith;
      room = c.in_ok-piece.ensures;
      taking = begin;
    }

pub returns-in_err-count-clause-followed : goal.returns-in_err-count-clause-followed
returns-in_err-count-clause-followed g c =
    let taking = c.loop-piece.invariant.taking in
    let own = its_own c.a_stream_is_compared.ensures.same c.args.same (g.M.Machine.disk c.args.machine.now) c.args.standby.now.engine taking.0.bytes c.loop-piece.mirror taking.1 in
    subst (λ (l : List ℕ). IsInputFollowed c.args.same (g.S.Source.tells c.args.input.now) (g.S.Source.left c.args.input.now) l (g.M.Machine.disk c.args.machine.now) (g.M.Machine.disk c.loop-piece.machine) c.args.standby.now c.loop-piece.standby c.from_residual-in_err-count.result) (sym c.in_err-count.ensures.kept)
    (stops_so c.args.same taking.0 c.in_err-count.field-0.0 c.from_residual-in_err-count.result c.from_residual-in_err-count.ensures.1 (λ p w shows. inl (own p w shows)))

pub compare_piece-requires : goal.compare_piece-requires
compare_piece-requires g c =
    let so_far = c.loop-piece.invariant in
    let taking = so_far.taking.0 in
    let n = c.in_ok-count.count in
    let later = g.S.Source.left c.read_piece.new.input in
    let rest = drop (length c.read_piece.new.piece) c.loop-piece.piece.items in
    let size : c.loop-piece.piece.len ≡ length c.read_piece.new.piece = sym (c.read_piece.auto.piece ∙ c.as_mut_slice.ensures.len) in
    let within : n ≤ c.loop-piece.piece.len = omega (arith, c.in_ok-count.ensures.count.0, c.as_mut_slice.ensures.len) in
    let front : take n c.deref.result.now ≡ take n c.read_piece.new.piece = ap (λ (l : List ℕ). take n l) c.deref.ensures.value ∙ written_front n c.loop-piece.piece.len c.read_piece.new.piece rest size within in
    let whole : length c.deref.result.now ≡ c.loop-piece.piece.len = ap (λ (l : List ℕ). length l) c.deref.ensures.value ∙ written_length c.loop-piece.piece.len c.read_piece.new.piece rest size in
    let long : length (take n c.deref.result.now) ≡ n = length-take-le n c.deref.result.now (omega (arith, within, whole)) in
    let few : taken_by c.loop-piece.standby.frames + length (take n c.deref.result.now) ≤ 2 ^ 40 = omega (arith, long, c.taken.ensures, c.in_ok-count.ensures.count.1) in
    record { room = piece_room c.args.same (g.M.Machine.disk c.args.machine.now) c.args.standby.now.engine taking.bytes c.loop-piece.mirror (length (take n c.deref.result.now)) so_far.taking.1 taking.few (omega (arith, long, within, c.loop-piece.piece.ok.0, so_far.room)) }

pub returns-in_err-compare_piece-clause-followed : goal.returns-in_err-compare_piece-clause-followed
returns-in_err-compare_piece-clause-followed g c =
    let so_far = c.loop-piece.invariant in
    let taking = so_far.taking.0 in
    let n = c.in_ok-count.count in
    let later = g.S.Source.left c.read_piece.new.input in
    let rest = drop (length c.read_piece.new.piece) c.loop-piece.piece.items in
    let size : c.loop-piece.piece.len ≡ length c.read_piece.new.piece = sym (c.read_piece.auto.piece ∙ c.as_mut_slice.ensures.len) in
    let within : n ≤ c.loop-piece.piece.len = omega (arith, c.in_ok-count.ensures.count.0, c.as_mut_slice.ensures.len) in
    let front : take n c.deref.result.now ≡ take n c.read_piece.new.piece = ap (λ (l : List ℕ). take n l) c.deref.ensures.value ∙ written_front n c.loop-piece.piece.len c.read_piece.new.piece rest size within in
    let whole : length c.deref.result.now ≡ c.loop-piece.piece.len = ap (λ (l : List ℕ). length l) c.deref.ensures.value ∙ written_length c.loop-piece.piece.len c.read_piece.new.piece rest size in
    let long : length (take n c.deref.result.now) ≡ n = length-take-le n c.deref.result.now (omega (arith, within, whole)) in
    let few : taken_by c.loop-piece.standby.frames + length (take n c.deref.result.now) ≤ 2 ^ 40 = omega (arith, long, c.taken.ensures, c.in_ok-count.ensures.count.1) in
    unlike_so c.args.same taking c.a_stream_is_compared.ensures.same (take n c.deref.result.now) later c.loop-piece.mirror c.compare_piece.new.mirror c.in_err-compare_piece.field-0.0 c.from_residual-in_err-compare_piece.result c.from_residual-in_err-compare_piece.ensures.1 so_far.taking.1 c.in_err-compare_piece.ensures (λ told. c.in_ok-count.ensures.bytes (so_far.told told) ∙ ap (λ (l : List ℕ). l ++ later) (sym front)) few

pub returns-in_err-commands-clause-followed : goal.returns-in_err-commands-clause-followed
returns-in_err-commands-clause-followed g c =
    let so_far = c.loop-piece.invariant in
    let taking = so_far.taking.0 in
    let n = c.in_ok-count.count in
    let later = g.S.Source.left c.read_piece.new.input in
    let rest = drop (length c.read_piece.new.piece) c.loop-piece.piece.items in
    let size : c.loop-piece.piece.len ≡ length c.read_piece.new.piece = sym (c.read_piece.auto.piece ∙ c.as_mut_slice.ensures.len) in
    let within : n ≤ c.loop-piece.piece.len = omega (arith, c.in_ok-count.ensures.count.0, c.as_mut_slice.ensures.len) in
    let front : take n c.deref.result.now ≡ take n c.read_piece.new.piece = ap (λ (l : List ℕ). take n l) c.deref.ensures.value ∙ written_front n c.loop-piece.piece.len c.read_piece.new.piece rest size within in
    let whole : length c.deref.result.now ≡ c.loop-piece.piece.len = ap (λ (l : List ℕ). length l) c.deref.ensures.value ∙ written_length c.loop-piece.piece.len c.read_piece.new.piece rest size in
    let long : length (take n c.deref.result.now) ≡ n = length-take-le n c.deref.result.now (omega (arith, within, whole)) in
    let few : taken_by c.loop-piece.standby.frames + length (take n c.deref.result.now) ≤ 2 ^ 40 = omega (arith, long, c.taken.ensures, c.in_ok-count.ensures.count.1) in
    let mirror = mirror_more c.args.same (g.M.Machine.disk c.args.machine.now) c.args.standby.now.engine taking.bytes (take n c.deref.result.now) c.loop-piece.mirror c.compare_piece.new.mirror so_far.taking.1 c.in_ok-compare_piece.ensures in
    refused_so c.args.same taking later c.in_err-commands.field-0.0 c.from_residual-in_err-commands.result c.from_residual-in_err-commands.ensures.1 (c.in_err-commands.ensures.fed taking.fine) (λ told. c.in_ok-count.ensures.bytes (so_far.told told) ∙ ap (λ (l : List ℕ). l ++ later) (sym front)) few
    (its_own c.a_stream_is_compared.ensures.same c.args.same (g.M.Machine.disk c.args.machine.now) c.args.standby.now.engine (taking.bytes ++ take n c.deref.result.now) c.compare_piece.new.mirror mirror)

pub loop-piece-preserved : goal.loop-piece-preserved
loop-piece-preserved g c =
    let so_far = c.loop-piece.invariant in
    let taking = so_far.taking.0 in
    let n = c.in_ok-count.count in
    let later = g.S.Source.left c.read_piece.new.input in
    let rest = drop (length c.read_piece.new.piece) c.loop-piece.piece.items in
    let size : c.loop-piece.piece.len ≡ length c.read_piece.new.piece = sym (c.read_piece.auto.piece ∙ c.as_mut_slice.ensures.len) in
    let within : n ≤ c.loop-piece.piece.len = omega (arith, c.in_ok-count.ensures.count.0, c.as_mut_slice.ensures.len) in
    let front : take n c.deref.result.now ≡ take n c.read_piece.new.piece = ap (λ (l : List ℕ). take n l) c.deref.ensures.value ∙ written_front n c.loop-piece.piece.len c.read_piece.new.piece rest size within in
    let whole : length c.deref.result.now ≡ c.loop-piece.piece.len = ap (λ (l : List ℕ). length l) c.deref.ensures.value ∙ written_length c.loop-piece.piece.len c.read_piece.new.piece rest size in
    let long : length (take n c.deref.result.now) ≡ n = length-take-le n c.deref.result.now (omega (arith, within, whole)) in
    let few : taken_by c.loop-piece.standby.frames + length (take n c.deref.result.now) ≤ 2 ^ 40 = omega (arith, long, c.taken.ensures, c.in_ok-count.ensures.count.1) in
    record {
      told = λ told. c.read_piece.ensures.told (so_far.told told);
      faults = omega (arith, so_far.faults, c.read_piece.ensures.later);
      room = written_length c.loop-piece.piece.len c.read_piece.new.piece rest size ∙ c.loop-piece.piece.ok.0 ∙ so_far.room;
      taking = compares_more c.args.same taking later c.in_ok-commands.commands (g.met.M.Machine.lawful c.feed.new.machine) (c.in_ok-commands.ensures.fed taking.fine) (λ told. c.in_ok-count.ensures.bytes (so_far.told told) ∙ ap (λ (l : List ℕ). l ++ later) (sym front)) few c.loop-piece.mirror c.compare_piece.new.mirror so_far.taking.1 c.in_ok-compare_piece.ensures;
    }

pub returns-then-count-eq0-clause-followed : goal.returns-then-count-eq0-clause-followed
returns-then-count-eq0-clause-followed g c =
    let so_far = c.loop-piece.invariant in
    let taking = so_far.taking.0 in
    let n = c.in_ok-count.count in
    let later = g.S.Source.left c.read_piece.new.input in
    let rest = drop (length c.read_piece.new.piece) c.loop-piece.piece.items in
    let size : c.loop-piece.piece.len ≡ length c.read_piece.new.piece = sym (c.read_piece.auto.piece ∙ c.as_mut_slice.ensures.len) in
    let within : n ≤ c.loop-piece.piece.len = omega (arith, c.in_ok-count.ensures.count.0, c.as_mut_slice.ensures.len) in
    let front : take n c.deref.result.now ≡ take n c.read_piece.new.piece = ap (λ (l : List ℕ). take n l) c.deref.ensures.value ∙ written_front n c.loop-piece.piece.len c.read_piece.new.piece rest size within in
    let whole : length c.deref.result.now ≡ c.loop-piece.piece.len = ap (λ (l : List ℕ). length l) c.deref.ensures.value ∙ written_length c.loop-piece.piece.len c.read_piece.new.piece rest size in
    let long : length (take n c.deref.result.now) ≡ n = length-take-le n c.deref.result.now (omega (arith, within, whole)) in
    let few : taken_by c.loop-piece.standby.frames + length (take n c.deref.result.now) ≤ 2 ^ 40 = omega (arith, long, c.taken.ensures, c.in_ok-count.ensures.count.1) in
    let mirror = mirror_more c.args.same (g.M.Machine.disk c.args.machine.now) c.args.standby.now.engine taking.bytes (take n c.deref.result.now) c.loop-piece.mirror c.compare_piece.new.mirror so_far.taking.1 c.in_ok-compare_piece.ensures in
    ends_so c.args.same taking later c.in_ok-commands.commands (g.met.M.Machine.lawful c.feed.new.machine) (c.in_ok-commands.ensures.fed taking.fine) (λ told. c.in_ok-count.ensures.bytes (so_far.told told) ∙ ap (λ (l : List ℕ). l ++ later) (sym front)) few
    (its_own c.a_stream_is_compared.ensures.same c.args.same (g.M.Machine.disk c.args.machine.now) c.args.standby.now.engine (taking.bytes ++ take n c.deref.result.now) c.compare_piece.new.mirror mirror)
    (λ told. c.in_ok-count.ensures.end (so_far.told told) (cc (c.if-count-eq0.true)))
    (let none : n ≡ 0 = c.if-count-eq0.true in omega (arith, long, none, c.taken.ensures, c.in_ok-count.ensures.count.2)) c.standby_stands-then-count-eq0.ensures c.ended.result c.ended.ensures
