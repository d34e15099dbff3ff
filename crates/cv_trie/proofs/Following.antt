-- Following bytes through the trie, and reading characters one after another.
use Rattle.std.proofs.Common.{Bool, true, ◌≡◌, ℕ, ◌<◌, ◌≤◌, ◌+◌, List, [], ◌∷◌, ◌++◌, length, take, drop, get_or}
use Rattle.std.proofs.Common.{slice_set, refl, sym, subst, ◌∙◌, ap, arith, Some}
use Rattle.std.specs.Prelude.{nat_eq}
use Rattle.std.specs.Cmp.Lexicographic.{pointwise}
use Rattle.std.proofs.lemmas.Bool.Decides.{Decides-eqb}
use Rattle.std.proofs.lemmas.Slice.Eq.{starts_is}
use Rattle.std.proofs.lemmas.List.{get_or-drop, length-drop, length-take-le, take_more_set, length-set}
use Rattle.cv_base.specs.Items.{Taken, taken, Begins, Stands}
use Rattle.cv_base.specs.Chains.{used_bytes, read_state}
use Rattle.cv_base.specs.Scalars.{IsScalar}
use Rattle.cv_base.specs.declared.state.ReadState.TheVariants as read
use Rattle.cv_base.proofs.Front.{Begins-take, Begins-length, Begins-append, Begins-same}
use Rattle.cv_base.proofs.ChainLaws.{used_bytes-append, read_state-append, characters_of-append, IsChain-append}
use Rattle.cv_byte_trie.specs.Entries.{Entry, bytes_at, character_at, AreEntries}
use Rattle.cv_byte_trie.specs.Tries.{StepsBy, tails, none, HasTrie, IsAt}
use Rattle.cv_byte_trie.proofs.Followed.{leads_to_leaf, leads_to_tail, leads_to_node, tail_low}
use Rattle.cv_byte_trie.proofs.ReadEntries.{entry_bytes, entry_character}
use Rattle.cv_trie.specs.Charmaps.{map_reads}
use Rattle.cv_trie.specs.Private.Prefixes.{IsRead}
use Rattle.cv_trie.specs.Private.Followed.{IsFollowed, IsFound}
use Rattle.cv_trie.specs.Private.Longs.{IsLong}
use Rattle.cv_trie.proofs.MapItems.{pair_stands}

-- a text begins at the root
at_root : (S : StepsBy) (count : ℕ) (entries : List Entry) (x : List ℕ) → HasTrie S count entries
    → IsAt S count entries x 0 0
at_root S count entries x t =
    record { way = t.way; trie = t.trie; low = t.trie.some; at = rw t.trie.root tt; deep = rw t.trie.root refl }

-- a byte that leads from the root to an entry's index is all of its bytes
pub root_leaf : (entries : List Entry) (S : StepsBy) (count : ℕ) → HasTrie S count entries → (b code : ℕ) → b < 256
    → code ≡ S 0 b → code < tails → (code < length entries) × (bytes_at entries code ≡ b ∷ [])
root_leaf entries S count t b code byte e l = let p = t.trie.leaf 0 b code t.trie.some byte (sym e) l in
    (p.0, p.1 ∙ ap (λ (x : List ℕ). x ++ b ∷ []) t.trie.root)

-- one byte further from a node
pub followed_on : (entries : List Entry) → AreEntries entries → (S : StepsBy) (count : ℕ) (text : List ℕ) (d i : ℕ)
    → IsAt S count entries text d i → (b code : ℕ) → d < length text → b ≡ get_or text d 0 → b < 256 → code ≡ S i b
    → IsFollowed S count entries text (d + 1) code
followed_on entries a S count text d i at b code more is byte e = record {
  low = λ l. (leads_to_leaf entries a S count text d i at b more is byte code e l).0;
  leaf = λ l. (leads_to_leaf entries a S count text d i at b more is byte code e l).1;
  tail = λ p f few. tail_low entries a S count text (record { node = i; depth = d; index = p })
      (leads_to_tail entries a S count text d i at b more is byte p (sym e ∙ f) few);
  node = λ n f. leads_to_node entries a S count text d i at b more is byte n (sym e ∙ f);
}

-- one byte further from the root, at an index of a text
pub followed_first : (entries : List Entry) → AreEntries entries → (S : StepsBy) (count : ℕ) → HasTrie S count entries
    → (text : List ℕ) (used b code : ℕ) → used < length text → b ≡ get_or text used 0 → b < 256 → code ≡ S 0 b
    → IsFollowed S count entries (drop used text) 1 code
followed_first entries a S count t text used b code low is byte e =
    let here : used ≡ used + 0 = omega arith in
    followed_on entries a S count (drop used text) 0 0 (at_root S count entries (drop used text) t) b code (omega
    (arith, length-drop used text)) (is ∙ ap (λ (k : ℕ). get_or text k 0) here ∙ sym (get_or-drop used text 0 0)) byte e

-- an entry is the next item of a text that begins with its bytes
pub entry_long : (entries : List Entry) (index : ℕ) (x : Entry) → index < length entries → x ≡ get_or entries index x
    → IsScalar x.1 → (text : List ℕ) → Begins x.0 text → IsLong entries text (length x.0) x.1
entry_long entries index x low at scalar text front =
    let bytes : bytes_at entries index ≡ x.0 = entry_bytes entries index x low at in
    let character : character_at entries index ≡ x.1 = entry_character entries index x low at in
    let begins : Begins (bytes_at entries index) text = rw bytes front in
    let size = ap length bytes in
    record {
      scalar = scalar;
      stands = rw (size, character) at (pair_stands entries read.Start text index low begins);
      within = Begins-length x.0 text front;
    }

-- an entry to which the bytes of a text lead is its next item
pub found_long : (entries shown : List Entry) → shown ≡ entries → AreEntries shown → (text : List ℕ) (size code : ℕ)
    (x : Entry) → IsFound entries text size code → code < none → size ≤ length text → x ≡ get_or shown code x
    → IsLong entries text size x.1
found_long entries shown same a text size code x f l fits at =
    subst (λ (es : List Entry). IsFound es text size code → IsLong es text size x.1) same (λ g. (
    let low = g.low l in
    let bytes : x.0 ≡ take size text = sym (entry_bytes shown code x low at) ∙ g.leaf l in
    let long : length x.0 ≡ size = ap length bytes ∙ length-take-le size text fits in
    let scalar : IsScalar x.1 = rw (entry_character shown code x low at) at (a.scalar code low) in
    let front : Begins x.0 text = rw bytes (Begins-take size text) in
    rw long at (entry_long shown code x low at scalar text front))) f

-- the entry with whose bytes a text begins
pub begun_found : (entries : List Entry) (text : List ℕ) (index : ℕ) (x : Entry) → index < length entries
    → x ≡ get_or entries index x → Begins x.0 text → IsFound entries text (length x.0) index
begun_found entries text index x low is front = record {
  low = λ _. low;
  leaf = λ _. entry_bytes entries index x low is ∙ Begins-same x.0 (take (length x.0) text) text front
      (Begins-take (length x.0) text) (sym (length-take-le (length x.0) text (Begins-length x.0 text front)));
}

-- one more character is read from a text
pub read_more : (pairs : List Entry) (text buffer : List ℕ) (n used m c : ℕ)
    → IsRead pairs text (record { n = n; used = used }) buffer → n < length buffer → IsLong pairs (drop used text) m c
    → IsRead pairs text (record { n = n + 1; used = used + m }) (slice_set buffer n c)
read_more pairs text buffer n used m c f room long =
    let b = f.block in
    let reads = map_reads pairs in
    let item : Taken = taken m (Some c) read.Start in
    let here : Stands reads (read_state read.Start b.chain) (drop (used_bytes b.chain) text) item =
    rw (← b.next, ← b.uses) long.stands in
    record {
      block = record {
        chain = b.chain ++ item ∷ [];
        is_chain = IsChain-append reads read.Start text b.chain (item ∷ []) b.is_chain (here, tt);
        within = omega (arith, length-set buffer n c);
        gives = take_more_set buffer n c room ∙ ap (λ (x : List ℕ). x ++ c ∷ []) b.gives
            ∙ sym (characters_of-append b.chain (item ∷ []));
        uses = omega (arith, used_bytes-append b.chain (item ∷ []), b.uses);
        next = sym (read_state-append read.Start b.chain (item ∷ []));
      };
      within = omega (arith, long.within, length-drop used text, f.within);
    }

-- a test that a text begins with bytes
pub begins_test : (a b : List ℕ) (r : Bool) → r ≡ pointwise nat_eq a (take (length a) b) → r ≡ true → Begins a b
begins_test a b r e h = let both = starts_is Decides-eqb b a r e in
    subst (λ (w : List ℕ). Begins a w) (sym (both.0 h)) (Begins-append a (drop (length a) b))
