use Rattle.std.proofs.Common.{◌≡◌, ◌∙◌, List, ℕ, Option, Some, subst, sym, ap, refl, arith, length}
use Rattle.cv_base.specs.Places.{PutsAt}
use Rattle.cv_base.specs.declared.put.Put.{Put}
use Rattle.cv_base.specs.declared.put.Put.TheVariants as put
use Rattle.cv_base.specs.declared.state.WriteState.{WriteState}
use Rattle.cv_base.specs.declared.state.WriteState.TheVariants as write
use Rattle.cv_pages.specs.Paging.{index_of}
use Rattle.cv_trie.proofs.FirstWritten.{writes_entry, writes_nothing}
use Rattle.cv_trie.proofs.encoder.Encoder.put_character.Goals as goal

-- what is put for a character, by what is written for it
put_by : (written is : Option (List ℕ × WriteState)) (before after : List ℕ) (at : ℕ) (result : Put)
    → written ≡ is → PutsAt is before at result after → PutsAt written before at result after
put_by written is before after at result e p =
    subst (λ (o : Option (List ℕ × WriteState)). PutsAt o before at result after) (sym e) p

pub returns-then-index : goal.returns-then-index
returns-then-index c =
    let e = c.args.self.now in
    let index = index_of e.pages.now.stage1.items e.pages.now.stage2.items in
    let is = rw c.value.ensures.number at c.first_index-index.ensures in
    let none = c.if-index.true in
    let lacks = writes_nothing e.entries.now index e.names c.args.c c.first_index-index.result is none write.Start in
    put_by _ _ c.args.out.now c.args.out.now c.args.at put.Lacks lacks refl

pub returns-then-bytes-out : goal.returns-then-bytes-out
returns-then-bytes-out c =
    let e = c.args.self.now in
    let index = index_of e.pages.now.stage1.items e.pages.now.stage2.items in
    let is = rw c.value.ensures.number at c.first_index-index.ensures in
    let writes = writes_entry e.entries.now index e.names c.args.c c.first_index-index.result is c.if-index.false
    c.index-entries-index.result c.index-entries-index.is
    ∙ ap (λ (x : List ℕ). Some (x, write.Start)) (sym c.bytes-bytes.ensures.value) in
    put_by _ _ c.args.out.now c.args.out.now c.args.at put.NoRoom writes
    (record { full = omega (arith, c.if-bytes-out.true); stays = refl })

pub returns : goal.returns
returns c =
    let e = c.args.self.now in
    let index = index_of e.pages.now.stage1.items e.pages.now.stage2.items in
    let is = rw c.value.ensures.number at c.first_index-index.ensures in
    let writes = writes_entry e.entries.now index e.names c.args.c c.first_index-index.result is c.if-index.false
    c.index-entries-index.result c.index-entries-index.is
    ∙ ap (λ (x : List ℕ). Some (x, write.Start)) (sym c.bytes-bytes.ensures.value) in
    put_by _ _ c.args.out.now c.put_bytes.new.out c.args.at
    (put.Wrote (length c.bytes-bytes.result.now) write.Start) writes (c.put_bytes.ensures, refl)
