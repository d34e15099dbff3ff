-- The result of asking for an admin page.
use Rattle.std.specs.Prelude.{◌≡◌, ℕ, Bool, ◌||◌, ◌==◌, List, ◌++◌}
use Rattle.cv_admin.specs.Asking.{IsPageResponse}

-- The status is a good one: 200, or 202 for a drain that has begun.
abbrev pub agrees : ℕ → Bool
agrees status = status == 200 || status == 202

-- The text of an HTTP answer was appended, and `is_well` says whether its status is a good one.
abbrev pub AppendsAnswer : List ℕ → Bool → List ℕ → List ℕ → Type 0
AppendsAnswer answer is_well text text' =
    (status : ℕ) × (more : List ℕ) × IsPageResponse answer status more × (is_well ≡ agrees status)
    × (text' ≡ text ++ more)
