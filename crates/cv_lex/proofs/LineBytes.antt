-- A mapping that was read has bytes.
use Rattle.std.proofs.Common.{◌≡◌, ℕ, ◌<◌, List, length, refl, sym, subst}
use Rattle.std.specs.Prelude.{Bool, Result, Ok, Err, IfOk}
use Rattle.cv_lex.specs.Mappings.{Mapping, mapping_of}
use Rattle.cv_lex.specs.Mappings as maps
use Rattle.cv_lex.specs.Private.Results.{mapping_read}
use Rattle.cv_lex.specs.Readings.{Maps}
use Rattle.cv_lex.specs.Seen.{line_read, HasBytes}
use Rattle.cv_lex.specs.declared.cause.Cause.{Cause}
use Rattle.cv_lex.specs.declared.line.Line.{Line}
use Rattle.cv_lex.specs.declared.line.Line.TheVariants as line
use Rattle.cv_lex.proofs.MappingLaws.{IsFit, mapping_fit}

one_fit : (o : Result Mapping Cause) (c : ℕ) (bytes : List ℕ) → mapping_read o ≡ Ok (Maps (maps.One c bytes))
    → ((m : Mapping) → o ≡ Ok m → IsFit m) → 0 < length bytes
one_fit (Ok m) c bytes e fit = let same : m ≡ maps.One c bytes = cc in (subst IsFit same (fit m refl)).1
one_fit (Err cause) c bytes e fit = absurd (cc)

range_fit : (o : Result Mapping Cause) (first last : ℕ) (hex : Bool) (bytes : List ℕ) → mapping_read o
    ≡ Ok (Maps (maps.Range first last hex bytes)) → ((m : Mapping) → o ≡ Ok m → IsFit m) → 0 < length bytes
range_fit (Ok m) first last hex bytes e fit = let same : m ≡ maps.Range first last hex bytes = cc in
    (subst IsFit same (fit m refl)).0
range_fit (Err cause) first last hex bytes e fit = absurd (cc)

-- a mapping that was read has bytes
pub mapping_has_bytes : (escape : ℕ) (text : List ℕ) (r : Result Line Cause)
    → line_read r ≡ mapping_read (mapping_of escape text) → IfOk r HasBytes
mapping_has_bytes escape text (Ok (line.One c bytes)) e =
    one_fit (mapping_of escape text) c bytes (sym e) (mapping_fit escape text)
mapping_has_bytes escape text (Ok (line.Range first last hex bytes)) e =
    range_fit (mapping_of escape text) first last hex bytes (sym e) (mapping_fit escape text)
mapping_has_bytes escape text (Ok line.Skip) e = tt
mapping_has_bytes escape text (Ok line.Begin) e = tt
mapping_has_bytes escape text (Ok line.Finish) e = tt
mapping_has_bytes escape text (Ok (line.Setting s)) e = tt
mapping_has_bytes escape text (Err cause) e = tt
