-- Writes that may also change some bytes after those that are wanted.
use Rattle.std.specs.Prelude.{◌≡◌, ℕ, ◌+◌, ◌≤◌, List, ◌++◌, take, drop, length}

-- These n bytes were written into a slice from index `at` on. The next `slack` bytes may be anything, and all others
-- stayed.
pub record IsPutWithSlack (bytes before : List ℕ) (at n slack : ℕ) (after : List ℕ) : Type 0 where
  pub wrote : n ≡ length bytes
  pub fits : at + n ≤ length before
  pub stand : take (at + n) after ≡ take at before ++ bytes
  pub behind : drop (at + n + slack) after ≡ drop (at + n + slack) before
  pub size : length after ≡ length before
