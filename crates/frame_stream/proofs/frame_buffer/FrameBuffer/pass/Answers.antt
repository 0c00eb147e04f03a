use Rattle.std.proofs.Common.{◌≡◌, ◌+◌, ◌++◌, ℕ, List, ◌∷◌, [], drop, sym, subst}
use Rattle.std.proofs.lemmas.List.{drop-drop}
use Rattle.frame_stream.specs.Frames.{frame}
use Rattle.frame_stream.specs.FrameBuffer.{FrameBufferView, HasPassed}
use Rattle.frame_stream.proofs.Buffered.{passed_on}
use Rattle.frame_stream.proofs.frame_buffer.FrameBuffer.pass.Goals as goal

pub returns-clause-passed : goal.returns-clause-passed
returns-clause-passed c bytes payload later payloads was is long stands =
    let b = c.self.inside in
    let n = c.args.length in
    let with_kept : List ℕ → FrameBufferView = λ (kept : List ℕ). record { passed = b.passed + (4 + n); kept = kept } in
    let it : FrameBufferView = record { passed = b.passed; kept = drop b.start b.bytes.items } in
    let had : HasPassed bytes payloads it = subst (λ (v : FrameBufferView). HasPassed bytes payloads v) (sym c.self.view_is) was in
    let begins : it.kept ≡ frame payload ++ later = subst (λ (v : FrameBufferView). v.kept ≡ frame payload ++ later) (sym c.self.view_is) stands in
    subst (λ (l : List ℕ). HasPassed bytes (payloads ++ payload ∷ []) (with_kept l)) (drop-drop (4 + n) b.start b.bytes.items)
    (passed_on bytes payload later payloads it n had is long begins)
