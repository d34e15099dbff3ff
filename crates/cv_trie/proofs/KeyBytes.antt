-- Characters of three and of four bytes: an entry is guessed, and its bytes are compared.
use Rattle.std.proofs.Common.{◌≡◌, ℕ, zero, suc, ◌<◌, ◌≤◌, ◌+◌, List, [], ◌∷◌, length, take, drop, get_or, refl, sym}
use Rattle.std.proofs.Common.{subst, ◌∙◌, ap, arith}
use Rattle.std.proofs.Math.Seq.{drop-cons}
use Rattle.cv_base.specs.Items.{Begins}
use Rattle.cv_base.specs.Scalars.{IsScalar}
use Rattle.cv_byte_trie.specs.Entries.{Entry}
use Rattle.cv_trie.specs.Private.Longs.{IsLong}
use Rattle.cv_trie.proofs.Following.{entry_long}

-- a text has bytes at an index
bytes_begin : (own text : List ℕ) (p n : ℕ) → n ≤ length own → p + n ≤ length text
    → ((k : ℕ) → k < n → get_or own k 0 ≡ get_or text (p + k) 0) → Begins (take n own) (drop p text)
bytes_begin own text p zero room fits same = tt
bytes_begin [] text p (suc n) room fits same = absurd (omega arith)
bytes_begin (a ∷ own) text p (suc n) room fits same =
    let first : a ≡ get_or text p 0 = same 0 (omega arith) ∙ ap (λ (k : ℕ). get_or text k 0) (omega arith) in
    let here : drop p text ≡ a ∷ drop (suc p) text =
    drop-cons text p 0 (omega arith) ∙ ap (λ (x : ℕ). x ∷ drop (suc p) text) (sym first) in
    let rest : (k : ℕ) → k < n → get_or own k 0 ≡ get_or text (suc p + k) 0 =
    λ k low. same (suc k) (omega arith) ∙ ap (λ (i : ℕ). get_or text i 0) (omega arith) in
    rw here (refl, bytes_begin own text (suc p) n (omega arith) (omega arith) rest)

-- an entry is the next item where a text has its bytes
pub key_long : (entries : List Entry) (x : Entry) (index : ℕ) (own text : List ℕ) (p n : ℕ) → index < length entries
    → x ≡ get_or entries index x → IsScalar x.1 → length x.0 ≡ n → n ≤ length own → take (length x.0) own ≡ x.0
    → p + n ≤ length text → ((k : ℕ) → k < n → get_or own k 0 ≡ get_or text (p + k) 0)
    → IsLong entries (drop p text) n x.1
key_long entries x index own text p n low at scalar long room is fits same =
    let whole : take n own ≡ x.0 = ap (λ (m : ℕ). take m own) (sym long) ∙ is in
    let front = subst (λ (w : List ℕ). Begins w (drop p text)) whole (bytes_begin own text p n room fits same) in
    rw long at (entry_long entries index x low at scalar (drop p text) front)
