-- Steps of reading a block, one after another.
use Rattle.std.proofs.Common.{◌≡◌, ℕ, ◌+◌, ◌-◌, ◌<◌, ◌≤◌, List, [], ◌∷◌, ◌++◌, length, take, drop, set, refl, sym, ◌∙◌}
use Rattle.std.proofs.Common.{ap, arith, append_assoc, append-nil, add-zero, length-set, length-drop, Some, None}
use Rattle.std.proofs.lemmas.List.{drop-drop, take_more_set}
use Rattle.cv_base.specs.Items.{Taken, taken, Stands}
use Rattle.cv_base.specs.Chains.{used_bytes, read_state, characters_of}
use Rattle.cv_base.specs.Blocks.{IsReadBlock}
use Rattle.cv_base.specs.declared.block.ReadBlock.{ReadBlock}
use Rattle.cv_base.specs.declared.state.ReadState.{ReadState}
use Rattle.cv_base.proofs.Front.{stands_within, rest_is}
use Rattle.cv_utf7.specs.Utf7.{utf7_reads}
use Rattle.cv_utf7.proofs.OneItem.{utf7_readable}
use Rattle.cv_utf7.specs.Private.ReadSteps.{read_to, ReadsOn}
use Rattle.cv_base.proofs.ChainLaws.{used_bytes-append, read_state-append, characters_of-append, IsChain-append}

-- nothing is read
pub reads_none : (text : List ℕ) (at : ReadBlock) (before : List ℕ) → at.used ≤ length text → at.n ≤ length before
    → ReadsOn text at before at before
reads_none text at before h k = record {
  chain = [];
  is_chain = tt;
  uses = sym (add-zero at.used);
  within = h;
  next = refl;
  gives = sym (append-nil (take at.n before));
  fits = k;
  size = refl;
}

-- a step of reading continues another
pub reads_more : {text : List ℕ} {from middle to : ReadBlock} {before now after : List ℕ}
    → ReadsOn text from before middle now → ReadsOn text middle now to after → ReadsOn text from before to after
reads_more {text = text} {from = from} {middle = middle} {before = before} p q =
    let there : drop middle.used text ≡ drop (used_bytes p.chain) (drop from.used text) =
    ap (λ (x : ℕ). drop x text) p.uses ∙ sym (drop-drop (used_bytes p.chain) from.used text) in
    record {
      chain = p.chain ++ q.chain;
      is_chain = IsChain-append utf7_reads from.next (drop from.used text) p.chain q.chain p.is_chain
          (rw (p.next, there) at q.is_chain);
      uses = omega (arith, p.uses, q.uses, used_bytes-append p.chain q.chain);
      within = q.within;
      next = q.next ∙ ap (λ (x : ReadState). read_state x q.chain) p.next
          ∙ sym (read_state-append from.next p.chain q.chain);
      gives = q.gives ∙ ap (λ (x : List ℕ). x ++ characters_of q.chain) p.gives
          ∙ append_assoc (take from.n before) (characters_of p.chain) (characters_of q.chain)
          ∙ ap (λ (x : List ℕ). take from.n before ++ x) (sym (characters_of-append p.chain q.chain));
      fits = q.fits;
      size = q.size ∙ p.size;
    }

-- the place at which reading arrived, by its parts
pub reads_to : {text : List ℕ} {from to : ReadBlock} {before after : List ℕ}
    → ReadsOn text from before to after → (s : ReadState) (used n : ℕ) → to.next ≡ s → to.used ≡ used → to.n ≡ n
    → ReadsOn text from before (read_to s used n) after
reads_to {after = after} p s used n e f g = record {
  chain = p.chain;
  is_chain = p.is_chain;
  uses = sym f ∙ p.uses;
  within = omega (arith, p.within);
  next = sym e ∙ p.next;
  gives = ap (λ (k : ℕ). take k after) (sym g) ∙ p.gives;
  fits = omega (arith, p.fits);
  size = p.size;
}

-- what follows the characters does not matter
pub reads_same : {text : List ℕ} {from to : ReadBlock} {before now : List ℕ} → ReadsOn text from before to now
    → (after : List ℕ) → length after ≡ length now → take to.n after ≡ take to.n now → ReadsOn text from before to after
reads_same p after l e = record {
  chain = p.chain;
  is_chain = p.is_chain;
  uses = p.uses;
  within = p.within;
  next = p.next;
  gives = e ∙ p.gives;
  fits = omega (arith, p.fits);
  size = l ∙ p.size;
}

-- an item uses some bytes
pub some_used : (text : List ℕ) (s : ReadState) (used : ℕ) (i : Taken) → used ≤ length text
    → Stands utf7_reads s (drop used text) i → (0 < i.used) × (used + i.used ≤ length text)
some_used text s used i h p = let w = stands_within utf7_reads utf7_readable s (drop used text) i p in
    (w.0, omega (arith, w.1, length-drop used text))

-- a character is read
pub reads_character : (text : List ℕ) (at : ReadBlock) (before : List ℕ) (c k : ℕ) (next : ReadState) → at.used
    ≤ length text → at.n < length before → Stands utf7_reads at.next (drop at.used text) (taken k (Some c) next)
    → ReadsOn text at before (read_to next (at.used + k) (at.n + 1)) (set before at.n c)
reads_character text at before c k next h l p = record {
  chain = taken k (Some c) next ∷ [];
  is_chain = (p, tt);
  uses = omega arith;
  within = (some_used text at.next at.used (taken k (Some c) next) h p).1;
  next = refl;
  gives = take_more_set before at.n c l;
  fits = omega (arith, length-set before at.n c);
  size = length-set before at.n c;
}

-- a shift is read
pub reads_shift : (text : List ℕ) (at : ReadBlock) (before : List ℕ) (k : ℕ) (next : ReadState)
    → at.used ≤ length text → at.n ≤ length before → Stands utf7_reads at.next (drop at.used text) (taken k None next)
    → ReadsOn text at before (read_to next (at.used + k) at.n) before
reads_shift text at before k next h l p = record {
  chain = taken k None next ∷ [];
  is_chain = (p, tt);
  uses = omega arith;
  within = (some_used text at.next at.used (taken k None next) h p).1;
  next = refl;
  gives = sym (append-nil (take at.n before));
  fits = l;
  size = refl;
}

-- what was read from the start is a block
pub is_block : (text : List ℕ) (s : ReadState) (before : List ℕ) (block : ReadBlock) (after : List ℕ)
    → ReadsOn text (read_to s 0 0) before block after → IsReadBlock utf7_reads s text block after
is_block text s before block after p = record {
  chain = p.chain;
  is_chain = p.is_chain;
  within = p.fits;
  gives = p.gives;
  uses = omega (arith, p.uses);
  next = p.next;
}

-- one character more is read, if the item was looked for in `&text[at.used..]`
pub character_more : {text : List ℕ} {from at : ReadBlock} {before now : List ℕ}
    → ReadsOn text from before at now → at.n < length now → (c k : ℕ) (next : ReadState)
    → Stands utf7_reads at.next (take (length text - at.used) (drop at.used text)) (taken k (Some c) next)
    → ReadsOn text from before (read_to next (at.used + k) (at.n + 1)) (set now at.n c)
character_more {text = text} {at = at} {now = now} p l c k next q =
    reads_more p (reads_character text at now c k next p.within l (rw rest_is at q))

-- one shift more is read
pub shift_more : {text : List ℕ} {from at : ReadBlock} {before now : List ℕ} → ReadsOn text from before at now
    → (k : ℕ) (next : ReadState) → Stands utf7_reads at.next (take (length text - at.used) (drop at.used text))
    (taken k None next) → ReadsOn text from before (read_to next (at.used + k) at.n) now
shift_more {text = text} {at = at} {now = now} p k next q =
    reads_more p (reads_shift text at now k next p.within p.fits (rw rest_is at q))
