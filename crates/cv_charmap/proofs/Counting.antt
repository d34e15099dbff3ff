-- Entries of a range, counted from another of them.
use Rattle.std.proofs.Common.{◌≡◌, ℕ, zero, suc, ◌+◌, ◌-◌, ◌*◌, ◌/◌, ◌%◌, ◌^◌, ◌<◌, ◌≤◌, Bool, true, false, not, cond}
use Rattle.std.proofs.Common.{leb, List, [], ◌∷◌, ◌++◌, length, take, drop, append_assoc, refl, sym, ◌∙◌, ap, arith}
use Rattle.std.proofs.Common.{length-append}
use Rattle.std.specs.Prelude.{Ok, Err}
use Rattle.std.proofs.Math.Nat.{pow-succ'}
use Rattle.std.proofs.lemmas.Bool.{leb-false}
use Rattle.std.proofs.lemmas.List.Sums.{fold-append}
use Rattle.std.proofs.lemmas.List.{length-take-le, drop-set}
use Rattle.std.proofs.Math.Seq.{take-set-lt}
use Rattle.std.specs.Prelude.{slice_set}
use Rattle.cv_lex.specs.Names.{is_scalar}
use Rattle.cv_lex.specs.declared.cause.Cause.TheVariants.{NotScalar, Carry}
use Rattle.cv_charmap.specs.Entries.{Pair, number_of, bytes_in, range_number, entry_at}

-- a number in `size` bytes has that many
pub size_in : (size n : ℕ) → length (bytes_in size n) ≡ size
size_in zero n = refl
size_in (suc size) n = omega (arith, size_in size (n / 256), length-append (bytes_in size (n / 256)) (n % 256 ∷ []))

-- bytes that were made of a number write that number
pub number_in : (size n : ℕ) → n < 256 ^ size → number_of (bytes_in size n) ≡ n
number_in zero n low = omega arith
number_in (suc size) n low =
    let power = pow-succ' 256 size in
    let rest : number_of (bytes_in size (n / 256)) ≡ n / 256 = number_in size (n / 256) (omega arith) in
    let last : number_of (bytes_in size (n / 256) ++ n % 256 ∷ []) ≡ 256 * number_of (bytes_in size (n / 256)) + n
    % 256 = fold-append (λ m b. 256 * m + b) 0 (bytes_in size (n / 256)) (n % 256 ∷ []) in
    omega arith

-- the parts of an entry that is no cause
pub record IsEntry (hex : Bool) (first : ℕ) (bytes : List ℕ) (i : ℕ) (q : Pair) : Type 0 where
  pub scalar : is_scalar (range_number hex (first + i)) ≡ true
  pub fits : number_of bytes + i < 256 ^ length bytes
  pub bytes_are : q.0 ≡ bytes_in (length bytes) (number_of bytes + i)
  pub character : q.1 ≡ range_number hex (first + i)

-- an entry of a range that is no cause has these parts
pub is_entry : (hex : Bool) (first : ℕ) (bytes : List ℕ) (i : ℕ) (q : Pair) → entry_at hex first bytes i ≡ Ok q
    → IsEntry hex first bytes i q
unfolding entry_at
is_entry hex first bytes i q e =
    by (is_scalar (range_number hex (first + i))) (leb (256 ^ length bytes) (number_of bytes + i)) refl refl e
  where
    by : (s c : Bool) → is_scalar (range_number hex (first + i)) ≡ s
        → leb (256 ^ length bytes) (number_of bytes + i) ≡ c → cond (not s) (Err NotScalar)
        (cond c (Err Carry) (Ok (bytes_in (length bytes) (number_of bytes + i), range_number hex (first + i)))) ≡ Ok q
        → IsEntry hex first bytes i q
    by false c s_is c_is h = absurd (cc)
    by true true s_is c_is h = absurd (cc)
    by true false s_is c_is h =
        let same : (bytes_in (length bytes) (number_of bytes + i), range_number hex (first + i)) ≡ q = cc in
        record {
          scalar = s_is;
          fits = leb-false (256 ^ length bytes) (number_of bytes + i) c_is;
          bytes_are = ap (λ (x : Pair). x.0) (sym same);
          character = ap (λ (x : Pair). x.1) (sym same);
        }

-- an entry depends on the number of its character, and on the number and the size of its bytes
same_entry : (hex : Bool) (m n : ℕ) (a b : List ℕ) (i j : ℕ) → m + i ≡ n + j → number_of a + i ≡ number_of b + j
    → length a ≡ length b → entry_at hex m a i ≡ entry_at hex n b j
unfolding entry_at
same_entry hex m n a b i j e f g = ap (λ (x : ℕ). cond (not (is_scalar (range_number hex x))) (Err NotScalar) (cond (leb
    (256 ^ length a) (number_of a + i)) (Err Carry) (Ok (bytes_in (length a) (number_of a + i), range_number hex x)))) e
    ∙ ap (λ (x : ℕ). cond (not (is_scalar (range_number hex (n + j)))) (Err NotScalar)
    (cond (leb (256 ^ length a) x) (Err Carry) (Ok (bytes_in (length a) x, range_number hex (n + j))))) f
    ∙ ap (λ (x : ℕ). cond (not (is_scalar (range_number hex (n + j)))) (Err NotScalar) (cond
    (leb (256 ^ x) (number_of b + j)) (Err Carry) (Ok (bytes_in x (number_of b + j), range_number hex (n + j))))) g

-- entries counted on from one of them
pub counted_on : (hex : Bool) (first : ℕ) (bytes : List ℕ) (i : ℕ) (q : Pair) → entry_at hex first bytes i ≡ Ok q
    → (number s : ℕ) → number ≡ first + i → entry_at hex number q.0 s ≡ entry_at hex first bytes (i + s)
counted_on hex first bytes i q e number s is =
    let p = is_entry hex first bytes i q e in
    let size : length q.0 ≡ length bytes = ap length p.bytes_are ∙ size_in (length bytes) (number_of bytes + i) in
    let value : number_of q.0 ≡ number_of bytes + i = ap number_of p.bytes_are
    ∙ number_in (length bytes) (number_of bytes + i) p.fits in
    same_entry hex number first q.0 bytes s (i + s) (omega arith) (omega arith) size

-- one byte before those that are written
pub byte_written : (k size rest : ℕ) (bytes : List ℕ) → 0 < k → k ≤ size → size ≤ length bytes
    → bytes_in k rest ++ drop k (take size bytes)
    ≡ bytes_in (k - 1) (rest / 256) ++ drop (k - 1) (take size (slice_set bytes (k - 1) (rest % 256)))
byte_written k size rest bytes some low long =
    let j = k - 1 in
    let next : suc j ≡ k = omega arith in
    let one : bytes_in k rest ≡ bytes_in j (rest / 256) ++ rest % 256 ∷ [] =
    ap (λ (x : ℕ). bytes_in x rest) (sym next) in
    let cut : length (take size bytes) ≡ size = length-take-le size bytes long in
    let behind : drop j (take size (slice_set bytes j (rest % 256))) ≡ rest % 256 ∷ drop (j + 1) (take size bytes) =
    ap (drop j) (take-set-lt size bytes j (rest % 256) (omega arith))
    ∙ drop-set (take size bytes) j (rest % 256) (omega arith) in
    let same : j + 1 ≡ k = omega arith in
    ap (λ (x : List ℕ). x ++ drop k (take size bytes)) one ∙ append_assoc (bytes_in j (rest / 256)) (rest % 256 ∷ [])
    (drop k (take size bytes)) ∙ ap (λ (x : ℕ). bytes_in j (rest / 256) ++ rest % 256 ∷ drop x (take size bytes))
    (sym same) ∙ ap (λ (x : List ℕ). bytes_in j (rest / 256) ++ x) (sym behind)
