-- Characters that are written as one byte each.
use Rattle.std.proofs.Common.{◌≡◌, ℕ, ◌+◌, ◌<◌, suc, List, [], ◌∷◌, ◌++◌, length, get_or, take, drop, refl, sym, ◌∙◌}
use Rattle.std.proofs.Common.{arith, append_assoc, Some, slice_set}
use Rattle.std.proofs.lemmas.List.{set_split}
use Rattle.cv_base.specs.Chains.{output, written}
use Rattle.cv_base.specs.SingleBytes.{byte_writes}
use Rattle.cv_base.specs.declared.state.WriteState.TheVariants as write
use Rattle.cv_base.proofs.SingleByteItems.{byte_writes_one}
use Rattle.cv_base.proofs.WrittenEach.{WrittenSoFar, one_more_written}

-- one byte more is written
pub one_byte_more : (limit : ℕ) (characters before : List ℕ) (at k count : ℕ) (out : List ℕ)
    → WrittenSoFar (byte_writes limit) write.Start characters before at k (at + k) count write.Start out
    → k < length characters → at + k < length before → (c byte m : ℕ) → c ≡ get_or characters k c → written
    (byte_writes limit) write.Start (Some c) ≡ output (byte ∷ []) m write.Start → WrittenSoFar (byte_writes limit)
    write.Start characters before at (k + 1) (at + (k + 1)) (count + m) write.Start (slice_set out (at + k) byte)
one_byte_more limit characters before at k count out p small fits c byte m is w =
    let place = at + k in
    let there : suc place ≡ place + 1 = omega arith in
    let put : slice_set out place byte ≡ take place out ++ (byte ∷ []) ++ drop (place + 1) out = set_split out place
    byte (omega (arith, p.size)) ∙ rw there (sym (append_assoc (take place out) (byte ∷ []) (drop (place + 1) out))) in
    let more = one_more_written 1 (byte_writes limit) write.Start characters before at k place count write.Start out p
    (omega arith) (byte_writes_one limit) small 1 m write.Start (slice_set out place byte) c is (rw w (record {
      bytes = record { wrote = refl; fits = omega (arith, p.size); out = put };
      counts = refl;
      next = refl;
    })) in
    let e : at + (k + 1) ≡ place + 1 = omega arith in
    rw e more
