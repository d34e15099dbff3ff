-- Into which bucket of a histogram a time falls.
use Rattle.std.specs.Prelude.{ℕ, List, [], ◌∷◌, nat_lt, count_by}

-- The upper bounds of the buckets, in nanoseconds.
abbrev pub bounds : List ℕ
bounds =
    10000 ∷ 30000 ∷ 100000 ∷ 300000 ∷ 1000000 ∷ 3000000 ∷ 10000000 ∷ 30000000 ∷ 100000000 ∷ 300000000 ∷ 1000000000 ∷ []

-- The bucket of a time: how many bounds are below it.
abbrev pub bucket_of : ℕ → ℕ
bucket_of nanos = count_by (λ bound. nat_lt bound nanos) bounds
