use Rattle.std.proofs.Common.{ℕ, ◌<◌, List, ◌++◌, length, take, ap, ◌∙◌, arith}
use Rattle.std.specs.Prelude.{slice_range}
use Rattle.cv_loop.proofs.Ranges.{range_lent, none_taken, some_taken, met_end}
use Rattle.cv_loop.proofs.read_buffer.ReadBuffer.read_more.Goals.{then-n-room, else-n-room}
use Rattle.cv_loop.proofs.read_buffer.ReadBuffer.read_more.Goals as goal

pub returns-clause-bytes : goal.returns-clause-bytes
returns-clause-bytes g c =
    let n : ℕ = c.in-Ok.n in
    let came : List ℕ = take n c.pull.new.buf in
    let start : ℕ = c.make_room.new.start in
    let end : ℕ = c.make_room.new.end in
    let before = c.in_ok-make_room.ensures in
    let pulled = c.in-Ok.ensures in
    let some : 0 < length c.pull.new.buf = omega (arith, before.room, c.pull.auto.buf) in
    let held = range_lent c.deref_mut.result.now c.pull.new.buf _ _ _ start end n before.start
    (omega (arith, before.end, c.deref_mut.ensures.len)) pulled.bound
    (omega (arith, before.room, pulled.bound, c.pull.auto.buf, c.deref_mut.ensures.len))
    ∙ ap (λ (b : List ℕ). slice_range b start end ++ came) c.deref_mut.ensures.value
    ∙ ap (λ (x : List ℕ). x ++ came) (before.same ∙ c.self.view_is) in (
      came,
      pulled.bytes.0,
      (
        elim c.if-n-room.branch [ then-n-room w ↦ rw w.self-is held | else-n-room w ↦ rw w.self-is held ],
        none_taken n c.pull.new.buf,
        some_taken n c.pull.new.buf pulled.bound,
        met_end _ _ n _ c.requires.goes_on some pulled.end,
        rw c.requires.works at pulled.failed,
      ),
    )
