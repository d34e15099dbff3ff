-- Characters of UTF-8 that are read as units, in two parts.
use Rattle.std.proofs.Common.{◌≡◌, ℕ, ◌≤◌, List, ◌++◌, take, sym, ap₂, subst}
use Rattle.cv_utf8.specs.Utf16Lanes.{AreRead}
use Rattle.cv_utf8.proofs.Utf8PutStarting.{IsRun}

-- if each part has its characters first, the units are those that were read
pub units_read : (text : List ℕ) (at : ℕ) (first second lows highs : List ℕ) (used a b : ℕ) → a ≤ 8 → b ≤ 8
    → take a first ≡ lows → take b second ≡ highs → IsRun text at (lows ++ highs) used
    → AreRead text at (record { first = first; firsts = a; second = second; seconds = b; used = used })
units_read text at first second lows highs used a b few others f g run =
    let same : lows ++ highs ≡ take a first ++ take b second = ap₂ (λ (x y : List ℕ). x ++ y) (sym f) (sym g) in
    let r = subst (λ (l : List ℕ). IsRun text at l used) same run in
    record { few = few; others = others; scalars = r.0; begins = r.1; uses = r.2 }
