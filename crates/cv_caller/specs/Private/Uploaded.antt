-- What a caller has uploaded.
use Rattle.std.specs.Prelude.{◌≤◌, ℕ, List, [], length, None, replicate}
use Rattle.cv_caller.specs.Tables.{Charmaps, AreCharmaps}
use Rattle.cv_caller.specs.Limits.{most_charmaps, most_part}

-- What contracts see of uploads: charmaps, the part of one, and how many bytes the charmaps count for.
pub record Uploaded : Type 0 where
  pub charmaps : Charmaps
  pub part : List ℕ
  -- how many bytes the charmaps count for
  pub bytes : ℕ

-- nothing was uploaded
abbrev pub no_uploads : Uploaded
no_uploads = record { charmaps = replicate most_charmaps None; part = []; bytes = 0 }

-- Uploads are within their limits.
pub record IsUploaded (uploaded : Uploaded) : Type 0 where
  pub charmaps : AreCharmaps uploaded.charmaps
  pub part : length uploaded.part ≤ most_part
