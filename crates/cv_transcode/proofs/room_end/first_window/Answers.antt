use Rattle.std.proofs.Common.{◌*◌, ◌/◌, ℕ, List, subst, take, length}
use Rattle.cv_base.proofs.Front.{Begins-append}
use Rattle.cv_transcode.specs.Private.Windows.{AreFirst}
use Rattle.cv_transcode.proofs.LastWindow.{last_within, first_of_copy}
use Rattle.cv_transcode.proofs.room_end.first_window.Goals as goal

pub returns-clause-prefix : goal.returns-clause-prefix
returns-clause-prefix g c n few most characters =
    let size = g.S.WindowReader.window_size / 16 in
    let front = c.copy_from_slice.new.self in
    let copied = c.copy_from_slice.ensures.after in
    subst (λ (x : List ℕ). AreFirst g.S.WindowReader.bytes_of (n * size) x (take n c.window-2.result)) copied
    (first_of_copy g.S.WindowReader.bytes_of front _ (n * size) (take n c.window-2.result) (Begins-append front _)
    (rw copied (last_within n size (length c.args.text.now) most)) (c.window-2.ensures.front n few characters))
