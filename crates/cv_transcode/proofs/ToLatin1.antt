-- Windows of UTF-8 that are written as ISO-8859-1, a byte for each character.
use Rattle.std.proofs.Common.{◌≡◌, ℕ, ◌+◌, ◌-◌, ◌<◌, ◌≤◌, List, [], ◌∷◌, ◌++◌, length, length-take, length-drop}
use Rattle.std.proofs.Common.{take, drop, append_assoc, get_or, refl, sym, ◌∙◌, ap, subst, arith}
use Rattle.std.specs.Simd.Lanes.{put_chunk}
use Rattle.std.specs.List.{flat_map}
use Rattle.cv_transcode.proofs.Joined.{joined, put_size}
use Rattle.cv_transcode.proofs.Parts.{converted_within}
use Rattle.std.proofs.lemmas.Simd.{put_chunk_is}
use Rattle.std.proofs.lemmas.List.{drop-drop}
use Rattle.cv_base.proofs.BlockLaws.{each_byte}
use Rattle.cv_base.specs.Places.{IsPut}
use Rattle.cv_block.specs.Slack.{IsPutWithSlack}
use Rattle.cv_block.specs.StatelessForms.{BytesOf}
use Rattle.cv_block.proofs.Slack.{put_more}
use Rattle.cv_transcode.specs.Runs.{IsTranscoded}
use Rattle.cv_transcode.specs.declared.run.Run.{Run}
use Rattle.cv_transcode.proofs.AsciiRead.{ascii_read, halves}
use Rattle.cv_utf8.specs.Utf16Lanes.{lane_characters, AreRead}
use Rattle.cv_utf8.specs.Utf8.{utf8_bytes}
use Rattle.cv_utf8.specs.declared.read.utf16_lanes.Utf16Lanes.{Utf16Lanes}

-- the characters of both parts are put
pub bytes_put : (units : Utf16Lanes) (before : List ℕ) (at : ℕ) (mid after : List ℕ)
    → IsPutWithSlack (take units.firsts units.first) before at units.firsts 16 mid
    → IsPutWithSlack (take units.seconds units.second) mid (at + units.firsts) units.seconds 16 after
    → IsPutWithSlack (lane_characters units) before at (units.firsts + units.seconds) 16 after
bytes_put units before at mid after p q = put_more (take units.firsts units.first) (take units.seconds units.second)
    before at units.firsts 16 units.seconds 16 (at + units.firsts) mid after p refl q (omega arith)

-- the characters of a window are converted
pub window_converted : (text before : List ℕ) (from at n : ℕ) (units : Utf16Lanes) (after : List ℕ)
    → AreRead text from units → IsPut (lane_characters units) before at n after
    → IsTranscoded utf8_bytes (λ c. c ∷ []) (drop from text) before at (record { used = units.used; wrote = n }) after
window_converted text before from at n units after read put = record {
  characters = lane_characters units;
  scalars = read.scalars;
  begins = read.begins;
  uses = read.uses;
  put = subst (λ (x : List ℕ). IsPut x before at n after) (sym (each_byte (lane_characters units))) put;
}

-- sixteen bytes of ASCII are copied
pub ascii_copied : (text before : List ℕ) (from at : ℕ) → from + 16 ≤ length text
    → ((k : ℕ) → k < 16 → get_or text (from + k) 0 < 128) → at + 16 ≤ length before
    → IsTranscoded utf8_bytes (λ c. c ∷ []) (drop from text) before at (record { used = 16; wrote = 16 })
    (put_chunk at before (take 16 (drop from text)))
ascii_copied text before from at within ascii room =
    let bytes : List ℕ = take 16 (drop from text) in
    let first : List ℕ = take 8 (drop from text) in
    let second : List ℕ = take 8 (drop (from + 8) text) in
    let units : Utf16Lanes = record { first = first; firsts = 8; second = second; seconds = 8; used = 16 } in
    let read : AreRead text from units = ascii_read text first second from within ascii refl refl in
    let size : length bytes ≡ 16 = omega (arith, length-take 16 (drop from text), length-drop from text) in
    let same : bytes ≡ lane_characters units = sym (halves text first second from refl refl) in
    let out : put_chunk at before bytes ≡ take at before ++ bytes ++ drop (at + 16) before =
    put_chunk_is at before bytes (omega (arith, size)) ∙ ap (λ (x : List ℕ). take at before ++ (bytes ++ x))
    (ap (λ (i : ℕ). drop i (drop at before)) size ∙ drop-drop 16 at before)
    ∙ sym (append_assoc (take at before) bytes (drop (at + 16) before)) in
    let put : IsPut bytes before at 16 (put_chunk at before bytes) = record {
      wrote = sym size;
      fits = room;
      out = out;
    } in
    window_converted text before from at 16 units (put_chunk at before bytes) read
    (subst (λ (x : List ℕ). IsPut x before at 16 (put_chunk at before bytes)) same put)

-- what a run converted of the rest of a text is within the text
pub rest_within : (to : BytesOf) (text before : List ℕ) (from at : ℕ) (run : Run) (after : List ℕ) → from ≤ length text
    → IsTranscoded utf8_bytes to (drop from text) before at run after → from + run.used ≤ length text
rest_within to text before from at run after h p =
    omega (arith, converted_within utf8_bytes to (drop from text) before at run after p, length-drop from text)

-- what a run wrote is within the slice
pub written_within : (to : BytesOf) (text before : List ℕ) (at : ℕ) (run : Run) (after : List ℕ)
    → IsTranscoded utf8_bytes to text before at run after → at + run.wrote ≤ length after
written_within to text before at run after p =
    omega (arith, p.put.fits, put_size (flat_map to p.characters) before at run.wrote after p.put)

-- a run more is converted, if the bytes from index `at` on are those up to an index
pub next_on : (to : BytesOf) (text before : List ℕ) (at used end : ℕ) (run : Run) (mid after : List ℕ) → at ≤ end
    → IsTranscoded utf8_bytes to text before at (record { used = used; wrote = end - at }) mid
    → IsTranscoded utf8_bytes to (drop used text) mid end run after
    → IsTranscoded utf8_bytes to text before at (record { used = used + run.used; wrote = end + run.wrote - at }) after
next_on to text before at used end run mid after since p q =
    let place : end ≡ at + (end - at) = omega (arith, since) in
    let total : end - at + run.wrote ≡ end + run.wrote - at = omega (arith, since) in
    subst (λ (i : ℕ). IsTranscoded utf8_bytes to text before at (record { used = used + run.used; wrote = i }) after)
    total (joined utf8_bytes to text before at (record { used = used; wrote = end - at }) run mid after p
    (subst (λ (i : ℕ). IsTranscoded utf8_bytes to (drop used text) mid i run after) place q))
