use Rattle.std.proofs.Common.{◌≡◌, ◌%◌, ◌/◌, ◌<◌, arith, length, take, drop, ℕ, List}
use Rattle.std.proofs.lemmas.Simd.{length-chunk}
use Rattle.cv_simd.proofs.TableRows.{few_ones}
use Rattle.cv_base.specs.Scalars.{IsScalar}
use Rattle.cv_utf8.proofs.Utf8PutStarting.{low_at, high_at, both_run, low_all, high_all}
use Rattle.cv_utf8.proofs.Utf8Lanes16.{units_read}
use Rattle.cv_utf8.proofs.read.utf16_lanes.starting_lanes.Goals as goal

pub returns-clause-read : goal.returns-clause-read
returns-clause-read c text at p =
    let numbers = c.args.numbers.now in
    let half : length (take 8 (drop 8 numbers)) ≡ 8 = length-chunk 8 8 numbers (omega (arith, c.requires.long)) in
    let run = both_run text at numbers _ _ c.args.starts_mask c.args.used p
    (length-chunk 0 8 numbers (omega (arith, c.requires.long)))
    (length-chunk 0 8 (take 8 (drop 8 numbers)) (omega (arith, half))) (low_at numbers) (high_at numbers) in
    units_read text at _ _ _ _ c.args.used _ _ (few_ones (c.args.starts_mask % 256) (omega arith)) (few_ones
    (c.args.starts_mask / 256) (omega arith)) c.compress_u16.ensures.prefix c.compress_u16-2.ensures.prefix run

pub returns-clause-scalars : goal.returns-clause-scalars
returns-clause-scalars c are =
    let numbers : List ℕ = c.args.numbers.now in
    let long = c.requires.long in
    record {
      first = low_all IsScalar numbers c.compress_u16.result long c.compress_u16.ensures.all are;
      second = high_all IsScalar numbers c.compress_u16-2.result long c.compress_u16-2.ensures.all are;
    }

pub returns-clause-bytes : goal.returns-clause-bytes
returns-clause-bytes c few =
    let numbers : List ℕ = c.args.numbers.now in
    let long = c.requires.long in
    record {
      low = low_all (λ (x : ℕ). x < 256) numbers c.compress_u16.result long c.compress_u16.ensures.all few;
      high = high_all (λ (x : ℕ). x < 256) numbers c.compress_u16-2.result long c.compress_u16-2.ensures.all few;
    }
