use Rattle.std.proofs.Common.{ℕ, List, ap, arith, length, subst}
use Rattle.cv_base.proofs.Front.{Begins-append}
use Rattle.cv_transcode.specs.Runs.{IsTranscoded}
use Rattle.cv_transcode.specs.declared.run.Run.{Run}
use Rattle.cv_transcode.proofs.LastWindow.{converted_copy}
use Rattle.cv_utf8.specs.Utf16Lanes.{lane_characters}
use Rattle.cv_utf8.specs.Utf8.{utf8_bytes}
use Rattle.cv_utf16.specs.Utf16.{utf16}
use Rattle.cv_transcode.proofs.last_window.convert_last_bytes.Goals as goal

pub returns : goal.returns
returns g c =
    let front = c.copy_from_slice.new.self in
    let copied = c.copy_from_slice.ensures.after in
    let units = c.read_utf16_lanes-units.result in
    let read = c.read_utf16_lanes-units.ensures in
    let run : Run = record { used = units.used; wrote = c.write_units.result } in
    subst (λ (x : List ℕ). IsTranscoded utf8_bytes (utf16 g.O.ByteOrder.endian) x c.args.out.now c.args.at run
    c.write_units.new.out) copied (converted_copy utf8_bytes (utf16 g.O.ByteOrder.endian) front _ c.args.out.now
    c.args.at run c.write_units.new.out (Begins-append front _)
    (omega (arith, ap length copied, c.if-units-text.false)) (record {
      characters = lane_characters units;
      scalars = read.scalars;
      begins = read.begins;
      uses = read.uses;
      put = c.write_units.ensures.put;
    }))
