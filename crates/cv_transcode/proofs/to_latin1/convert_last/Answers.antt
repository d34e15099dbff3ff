use Rattle.std.proofs.Common.{[], ◌∷◌, ℕ, List, ap, arith, length, subst}
use Rattle.cv_base.proofs.Front.{Begins-append}
use Rattle.cv_transcode.specs.Runs.{IsTranscoded}
use Rattle.cv_transcode.specs.declared.run.Run.{Run}
use Rattle.cv_transcode.proofs.LastWindow.{converted_copy}
use Rattle.cv_transcode.proofs.ToLatin1.{window_converted}
use Rattle.cv_utf8.specs.Utf8.{utf8_bytes}
use Rattle.cv_transcode.proofs.to_latin1.convert_last.Goals as goal

pub returns : goal.returns
returns c =
    let front = c.copy_from_slice.new.self in
    let copied = c.copy_from_slice.ensures.after in
    let units = c.read_utf16_lanes-units.result in
    let run : Run = record { used = units.used; wrote = c.write_bytes.result } in
    subst (λ (x : List ℕ). IsTranscoded utf8_bytes (λ c. c ∷ []) x c.args.out.now c.args.at run
    c.write_bytes.new.out) copied (converted_copy utf8_bytes (λ c. c ∷ []) front _ c.args.out.now
    c.args.at run c.write_bytes.new.out (Begins-append front _)
    (omega (arith, ap length copied, c.if-units-text.false)) (window_converted _ c.args.out.now 0 c.args.at
    c.write_bytes.result units _ c.read_utf16_lanes-units.ensures c.write_bytes.ensures))
