-- A conversion between stateless encodings stays at the start.
use Rattle.std.proofs.Common.{◌≡◌, ℕ, List, [], ◌∷◌, Bool, true, false, drop, nat_lt, Option, Some, None, refl, ap, ◌∙◌}
use Rattle.std.specs.Prelude.{IfSome, option_map, if◌then◌else◌}
use Rattle.cv_base.specs.Scalars.{question}
use Rattle.cv_base.specs.Items.{Taken, ItemRelation}
use Rattle.cv_base.specs.Codecs.{Writing}
use Rattle.cv_base.specs.Chains.{IsChain, read_state, Output, substituted, put_or, written, output_of}
use Rattle.cv_base.specs.SingleBytes.{byte_reads}
use Rattle.cv_base.specs.declared.state.ReadState.{ReadState}
use Rattle.cv_base.specs.declared.state.ReadState.TheVariants as read
use Rattle.cv_base.specs.declared.state.WriteState.{WriteState}
use Rattle.cv_base.specs.declared.state.WriteState.TheVariants as write
use Rattle.cv_utf16.specs.declared.order.Order.TheVariants.{Be, Le, Marked}
use Rattle.cv_charmap.specs.Entries.{Pair}
use Rattle.cv_trie.specs.Charmaps.{as_written}
use Rattle.cv_pivot.specs.Conversions.{start}
use Rattle.cv_pivot.specs.Encodings.{Builtin, Ascii, Latin1, Utf8, Utf16, Utf32, Utf7, Form, Own, Mapped}
use Rattle.cv_pivot.specs.Encodings.{builtin_reads, builtin_writes, form_reads, form_writes}
use Rattle.cv_pivot.specs.Stateless.{HasNoStates, IsStateless, StaysAtStart}
use Rattle.cv_pivot.specs.declared.outcome.States.{States}

-- ---- the state after an item and after a character

abbrev ReadsToStart : ItemRelation → Type 0
ReadsToStart reads = (s : ReadState) (bytes : List ℕ) (item : Taken) → reads s bytes item → item.next ≡ read.Start

abbrev IsAtStart : List ℕ × WriteState → Type 0
IsAtStart put = put.1 ≡ write.Start

abbrev WritesToStart : Writing → Type 0
WritesToStart writes = (t : WriteState) (c : ℕ) → IfSome (writes t c) IsAtStart

bytes_read : (limit : ℕ) → ReadsToStart (byte_reads limit)
bytes_read limit s [] item p = absurd p
bytes_read limit s (b ∷ []) item p = ap (λ (i : Taken). i.next) p.1
bytes_read limit s (b ∷ c ∷ bytes) item p = absurd p

builtin_reads_to_start : (builtin : Builtin) → HasNoStates builtin → ReadsToStart (builtin_reads builtin)
builtin_reads_to_start Ascii is s bytes item p = bytes_read 128 s bytes item p
builtin_reads_to_start Latin1 is s bytes item p = bytes_read 256 s bytes item p
builtin_reads_to_start Utf8 is s bytes item p = ap (λ (i : Taken). i.next) p.2
builtin_reads_to_start (Utf16 Be) is s bytes item p = ap (λ (i : Taken). i.next) p.3
builtin_reads_to_start (Utf16 Le) is s bytes item p = ap (λ (i : Taken). i.next) p.3
builtin_reads_to_start (Utf16 Marked) is s bytes item p = absurd is
builtin_reads_to_start (Utf32 Be) is s bytes item p = ap (λ (i : Taken). i.next) p.3
builtin_reads_to_start (Utf32 Le) is s bytes item p = ap (λ (i : Taken). i.next) p.3
builtin_reads_to_start (Utf32 Marked) is s bytes item p = absurd is
builtin_reads_to_start Utf7 is s bytes item p = absurd is

reads_to_start : (form : Form) → IsStateless form → ReadsToStart (form_reads form)
reads_to_start (Own builtin) is s bytes item p = builtin_reads_to_start builtin is s bytes item p
reads_to_start (Mapped pairs) is s bytes item p = ap (λ (i : Taken). i.next) p.2

byte_put : (small : Bool) (bytes : List ℕ) → IfSome (if small then Some (bytes, write.Start) else None) IsAtStart
byte_put true bytes = refl
byte_put false bytes = tt

pair_put : (found : Option Pair) → IfSome (option_map as_written found) IsAtStart
pair_put (Some pair) = refl
pair_put None = tt

builtin_writes_to_start : (builtin : Builtin) → HasNoStates builtin → WritesToStart (builtin_writes builtin)
builtin_writes_to_start Ascii is t c = byte_put (nat_lt c 128) (c ∷ [])
builtin_writes_to_start Latin1 is t c = byte_put (nat_lt c 256) (c ∷ [])
builtin_writes_to_start Utf8 is t c = refl
builtin_writes_to_start (Utf16 Be) is t c = refl
builtin_writes_to_start (Utf16 Le) is t c = refl
builtin_writes_to_start (Utf16 Marked) is t c = absurd is
builtin_writes_to_start (Utf32 Be) is t c = refl
builtin_writes_to_start (Utf32 Le) is t c = refl
builtin_writes_to_start (Utf32 Marked) is t c = absurd is
builtin_writes_to_start Utf7 is t c = absurd is

writes_to_start : (form : Form) → IsStateless form → WritesToStart (form_writes form)
writes_to_start (Own builtin) is t c = builtin_writes_to_start builtin is t c
writes_to_start (Mapped pairs) is t c = pair_put _

-- ---- the states after a chain

read_at_start : (reads : ItemRelation) → ReadsToStart reads → (s : ReadState) → s ≡ read.Start
    → (text : List ℕ) (chain : List Taken) → IsChain reads s text chain → read_state s chain ≡ read.Start
read_at_start reads to_start s at text [] p = at
read_at_start reads to_start s at text (i ∷ chain) p =
    read_at_start reads to_start i.next (to_start s p.0.bytes i p.0.is_item) (drop i.used text) chain p.1

substituted_at_start : (t : WriteState) → t ≡ write.Start → (put : Option (List ℕ × WriteState)) → IfSome put IsAtStart
    → (substituted t put).next ≡ write.Start
substituted_at_start t at (Some (bytes, next)) p = p
substituted_at_start t at None p = at

put_at_start : (other : Output) → other.next ≡ write.Start → (put : Option (List ℕ × WriteState)) → IfSome put IsAtStart
    → (put_or other put).next ≡ write.Start
put_at_start other at (Some (bytes, next)) p = p
put_at_start other at None p = at

item_at_start : (writes : Writing) → WritesToStart writes → (t : WriteState) → t ≡ write.Start → (gives : Option ℕ)
    → (written writes t gives).next ≡ write.Start
item_at_start writes to_start t at None = at
item_at_start writes to_start t at (Some c) = put_at_start (substituted t (writes t question))
    (substituted_at_start t at (writes t question) (to_start t question)) (writes t c) (to_start t c)

written_at_start : (writes : Writing) → WritesToStart writes → (t : WriteState) → t ≡ write.Start → (chain : List Taken)
    → (output_of writes t chain).next ≡ write.Start
written_at_start writes to_start t at [] = at
written_at_start writes to_start t at (i ∷ chain) =
    written_at_start writes to_start (written writes t i.gives).next (item_at_start writes to_start t at i.gives) chain

same_states : (states : States) → states.reading ≡ read.Start → states.writing ≡ write.Start → states ≡ start
same_states states r w = rw (r, w) refl

-- A conversion between stateless encodings ends at the start.
pub stays_at_start : StaysAtStart
stays_at_start from to reads_is writes_is policy text room c p = same_states c.states (p.reading
    ∙ read_at_start (form_reads from) (reads_to_start from reads_is) read.Start refl text p.chain p.longest.is_chain)
    (p.writing ∙ written_at_start (form_writes to) (writes_to_start to writes_is) write.Start refl p.chain)
