-- The sets of bytes are those of the characters that are direct.
use Rattle.std.proofs.Common.{◌≡◌, ℕ, ◌<◌, refl}
use Rattle.std.proofs.lemmas.Bool.{agree_below_at}
use Rattle.cv_simd.specs.ByteClasses.{is_in}
use Rattle.cv_utf7.specs.Sets.{may_be_direct, is_direct, is_set_d, is_set_o, is_blank}
use Rattle.cv_utf7.specs.declared.direct_bytes.TheConstants.{MAY_STAND, STANDS}

-- the set of bytes that may be direct has the characters that may be
pub may_stand_in : (b : ℕ) → b < 256 → is_in MAY_STAND b ≡ may_be_direct b
unfolding is_in may_be_direct is_set_d is_set_o is_blank
may_stand_in b l = agree_below_at (is_in MAY_STAND) may_be_direct 256 b refl l

-- the set of bytes that are written as themselves has the characters that are
pub stands_in : (b : ℕ) → b < 256 → is_in STANDS b ≡ is_direct b
unfolding is_in is_direct is_set_d is_set_o is_blank
stands_in b l = agree_below_at (is_in STANDS) is_direct 256 b refl l
