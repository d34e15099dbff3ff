use Rattle.std.proofs.Common.{◌≡◌, ◌-◌, List, ap, map, length, take, sym, subst, arith}
use Rattle.std.proofs.lemmas.List.{length-map, take-map}
use Rattle.cv_cache.specs.declared.cached_text.CachedText.{CachedText}
use Rattle.cv_cache.specs.Held.{Held, shown}
use Rattle.cv_cache.proofs.Entries.{Entry, right_taken, apart_taken}
use Rattle.cv_cache.proofs.Sizes.{cut, freed}
use Rattle.cv_cache.proofs.maps.Maps.drop_last.Goals as goal

-- the entries without the last one, as contracts see them
less : (es : List Entry) (h : Held) → map shown es ≡ h.entries
    → map shown (take (length es - 1) es) ≡ take (length h.entries - 1) h.entries
less es h is = subst (λ xs. map shown (take (length es - 1) es) ≡ take (length xs - 1) xs) is
    (rw (length-map es shown) (sym (take-map shown (length es - 1) es)))

pub returns-in-Some-clause-entries : goal.returns-in-Some-clause-entries
returns-in-Some-clause-entries c = rw c.pop_lru.ensures.entries
    (less c.self.inside.texts.entries.entries c.args.self.now (ap (λ h. h.entries) c.self.view_is))

pub returns-in_default-clause-entries : goal.returns-in_default-clause-entries
returns-in_default-clause-entries c = rw c.pop_lru.ensures.entries
    (less c.self.inside.texts.entries.entries c.args.self.now (ap (λ h. h.entries) c.self.view_is))

pub invariant_of-self : goal.invariant_of-self
invariant_of-self c =
    let es : List Entry = c.self.inside.texts.entries.entries in
    let last = ap (freed (λ (k : CachedText). k.size)) c.in-Some.ensures.value in
    rw c.pop_lru.ensures.entries (record {
      room = c.self.invariant.room;
      right = right_taken c.self.inside.texts.keys es (length es - 1) c.self.invariant.right;
      distinct = apart_taken es (length es - 1) c.self.invariant.distinct;
      counted = omega (
        arith,
        cut (λ (k : CachedText). k.size) (length es - 1) es (omega arith),
        last,
        c.self.invariant.counted,
        c.saturating_sub-self-inside.ensures,
      );
      light = omega (arith, c.self.invariant.light, c.saturating_sub-self-inside.ensures);
    })

pub invariant_of-self-in_default : goal.invariant_of-self-in_default
invariant_of-self-in_default c =
    let es : List Entry = c.self.inside.texts.entries.entries in
    let last = ap (freed (λ (k : CachedText). k.size)) c.in_default.ensures.value in
    rw c.pop_lru.ensures.entries (record {
      room = c.self.invariant.room;
      right = right_taken c.self.inside.texts.keys es (length es - 1) c.self.invariant.right;
      distinct = apart_taken es (length es - 1) c.self.invariant.distinct;
      counted = omega
          (arith, cut (λ (k : CachedText). k.size) (length es - 1) es (omega arith), last, c.self.invariant.counted);
      light = c.self.invariant.light;
    })
