-- Laws of chains, and of what is written.
use Rattle.std.proofs.Common.{◌≡◌, ℕ, ◌+◌, List, [], ◌∷◌, ◌++◌, drop, refl, sym, ◌∙◌, ap, subst, append_assoc}
use Rattle.std.proofs.Common.{append-nil, zero-add, add-zero, add_assoc, Option, Some, None}
use Rattle.std.proofs.lemmas.List.{drop-drop}
use Rattle.std.specs.Prelude.{option_to_list}
use Rattle.cv_base.specs.Items.{Taken, ItemRelation}
use Rattle.cv_base.specs.Codecs.{Writing}
use Rattle.cv_base.specs.Chains.{IsChain, used_bytes, read_state, characters_of, Output, output, written, followed}
use Rattle.cv_base.specs.Chains.{output_of, output_for}
use Rattle.cv_base.specs.declared.state.ReadState.{ReadState}
use Rattle.cv_base.specs.declared.state.WriteState.{WriteState}

-- the bytes that two chains use
pub used_bytes-append : (a b : List Taken) → used_bytes (a ++ b) ≡ used_bytes a + used_bytes b
used_bytes-append [] b = sym (zero-add (used_bytes b))
used_bytes-append (i ∷ a) b = ap (λ n. i.used + n) (used_bytes-append a b)
    ∙ sym (add_assoc i.used (used_bytes a) (used_bytes b))

-- the state after two chains
pub read_state-append : (s : ReadState) (a b : List Taken) → read_state s (a ++ b) ≡ read_state (read_state s a) b
read_state-append s [] b = refl
read_state-append s (i ∷ a) b = read_state-append i.next a b

-- the characters that two chains give
pub characters_of-append : (a b : List Taken) → characters_of (a ++ b) ≡ characters_of a ++ characters_of b
characters_of-append [] b = refl
characters_of-append (i ∷ a) b = ap (λ (x : List ℕ). option_to_list i.gives ++ x) (characters_of-append a b)
    ∙ sym (append_assoc (option_to_list i.gives) (characters_of a) (characters_of b))

-- joining outputs is associative
pub followed_assoc : (x y z : Output) → followed (followed x y) z ≡ followed x (followed y z)
followed_assoc x y z = ap (λ (p : List ℕ × ℕ). output p.0 p.1 z.next)
    (let e : ◌≡◌ {A = List ℕ × ℕ} ((x.bytes ++ y.bytes) ++ z.bytes, (x.count + y.count) + z.count) (
      x.bytes ++ (y.bytes ++ z.bytes),
      x.count + (y.count + z.count),
    ) = (cc (append_assoc x.bytes y.bytes z.bytes, add_assoc x.count y.count z.count)) in e)

-- an empty output, and then another, is the other
followed_none : (t : WriteState) (x : Output) → followed (output [] 0 t) x ≡ x
followed_none t x = ap (λ n. output x.bytes n x.next) (zero-add x.count)

-- what is written for two chains
pub output_of-append : (writes : Writing) (t : WriteState) (a b : List Taken)
    → output_of writes t (a ++ b) ≡ followed (output_of writes t a) (output_of writes (output_of writes t a).next b)
output_of-append writes t [] b = ap (λ n. output (output_of writes t b).bytes n (output_of writes t b).next)
    (sym (zero-add (output_of writes t b).count))
output_of-append writes t (i ∷ a) b =
    let w = written writes t i.gives in
    ap (followed w) (output_of-append writes w.next a b)
    ∙ sym (followed_assoc w (output_of writes w.next a) (output_of writes (output_of writes w.next a).next b))

-- what is written for characters and those after them
pub output_for-append : (writes : Writing) (t : WriteState) (a b : List ℕ)
    → output_for writes t (a ++ b) ≡ followed (output_for writes t a) (output_for writes (output_for writes t a).next b)
output_for-append writes t [] b = ap (λ n. output (output_for writes t b).bytes n (output_for writes t b).next)
    (sym (zero-add (output_for writes t b).count))
output_for-append writes t (c ∷ a) b =
    let w = written writes t (Some c) in
    ap (followed w) (output_for-append writes w.next a b)
    ∙ sym (followed_assoc w (output_for writes w.next a) (output_for writes (output_for writes w.next a).next b))

-- what is written for one character
pub output_for-one : (writes : Writing) (t : WriteState) (c : ℕ)
    → output_for writes t (c ∷ []) ≡ written writes t (Some c)
output_for-one writes t c =
    let w = written writes t (Some c) in
    let e : output (w.bytes ++ []) (w.count + 0) w.next ≡ w = rw (append-nil, add-zero) refl in e

given_output : (writes : Writing) (t : WriteState) (g : Option ℕ) (chain : List Taken) → ((u : WriteState)
    → output_of writes u chain ≡ output_for writes u (characters_of chain)) → followed (written writes t g)
    (output_of writes (written writes t g).next chain) ≡ output_for writes t (option_to_list g ++ characters_of chain)
given_output writes t None chain rest = followed_none t (output_of writes t chain) ∙ rest t
given_output writes t (Some c) chain rest = let w = written writes t (Some c) in ap (followed w) (rest w.next)

-- what is written for a chain is what is written for its characters
pub output_of_characters : (writes : Writing) (t : WriteState) (chain : List Taken)
    → output_of writes t chain ≡ output_for writes t (characters_of chain)
output_of_characters writes t [] = refl
output_of_characters writes t (i ∷ chain) =
    given_output writes t i.gives chain (λ u. output_of_characters writes u chain)

-- a chain and a chain after it are a chain
pub IsChain-append : (reads : ItemRelation) (s : ReadState) (text : List ℕ) (a b : List Taken) → IsChain reads s text a
    → IsChain reads (read_state s a) (drop (used_bytes a) text) b → IsChain reads s text (a ++ b)
IsChain-append reads s text [] b p q = q
IsChain-append reads s text (i ∷ a) b p q = (
  p.0,
  IsChain-append reads i.next (drop i.used text) a b p.1
      (subst (λ (x : List ℕ). IsChain reads (read_state i.next a) x b) (sym (drop-drop (used_bytes a) i.used text)) q),
)
