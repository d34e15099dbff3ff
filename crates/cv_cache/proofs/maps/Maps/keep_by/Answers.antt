use Rattle.std.proofs.Common.{ℕ, sym, ◌∙◌, ap, subst, arith}
use Rattle.std.specs.Str.{bytes_eq}
use Rattle.lru.specs.LruCache.{LruCache, lru_cache, put_entries}
use Rattle.cv_charmap.specs.Meaning.{meaning}
use Rattle.cv_cache.specs.declared.cached_text.CachedText.{CachedText}
use Rattle.cv_cache.specs.Held.{Held, IsRight}
use Rattle.cv_cache.specs.Private.Sums.{sum_of}
use Rattle.cv_cache.specs.Private.Numbers.{IsNumberFor}
use Rattle.cv_cache.proofs.Entries.{AreRight, AreApart, value_of, put_shown, right_put, apart_put}
use Rattle.cv_cache.proofs.maps.Maps.keep_by.Goals as goal

-- the entry that is put
abbrev kept : goal.After-self-1 → CachedText
kept c =
    record { sum = c.by-sum.result; text = c.in_ok-text.text; charmap = c.args.charmap; size = c.size_of-size.result }

is_right : (c : goal.After-self-1) → IsRight c.self.inside.texts.keys (kept c)
is_right c = record {
  summed = c.by-sum.ensures ∙ ap (sum_of c.self.inside.texts.keys) (sym c.in_ok-text.ensures.items);
  means = ap meaning c.in_ok-text.ensures.items ∙ c.requires.means;
}

number : (c : goal.After-self-1)
    → IsNumberFor c.by-sum.result c.args.text.now c.self.inside.texts.entries.entries c.in-Some.number
number c = c.in-Some.ensures.number

pub invariant_of-self-2 : goal.invariant_of-self-2
invariant_of-self-2 c =
    let was : LruCache ℕ CachedText = c.self.inside.texts.entries in
    let is = c.in_ok-freed.ensures.entries in
    let room = c.if-not-has_room.ensures in
    let bytes = c.in_ok-freed.ensures.bytes in
    record {
      room = ap (λ (e : LruCache ℕ CachedText). e.cap) is ∙ c.self.invariant.room;
      right = subst (λ (e : LruCache ℕ CachedText). AreRight c.self.inside.texts.keys e.entries) (sym is)
          (right_put c.self.inside.texts.keys was c.in-Some.number (kept c) c.self.invariant.right (is_right c));
      distinct = subst (λ (e : LruCache ℕ CachedText). AreApart e.entries) (sym is) (apart_put c.args.text.now
          c.self.inside.texts.keys c.by-sum.result c.by-sum.ensures was c.in-Some.number (kept c) c.self.invariant.right
          c.number_for.ensures.valid.0 (number c) c.in_ok-text.ensures.items c.self.invariant.distinct);
      counted = omega (arith, bytes, c.self.invariant.counted, c.saturating_sub-self-inside.ensures);
      light = grind
          (arith, bytes, c.self.invariant.counted, c.self.invariant.light, c.saturating_sub-self-inside.ensures, room);
    }

pub returns-clause-ok : goal.returns-clause-ok
returns-clause-ok c =
    let was : LruCache ℕ CachedText = c.self.inside.texts.entries in
    rw c.in_ok-freed.ensures.entries (sym (put_shown c.args.text.now c.self.inside.texts.keys
    c.by-sum.result c.by-sum.ensures was c.in-Some.number (kept c) c.self.invariant.right c.number_for.ensures.valid.0
    (number c) c.in_ok-text.ensures.items) ∙ ap (λ (h : Held). put_entries bytes_eq
    (lru_cache h.entries was.cap) c.args.text.now (value_of (kept c))) c.self.view_is ∙ ap (λ n. put_entries bytes_eq
    (lru_cache c.args.self.now.entries n) c.args.text.now (value_of (kept c))) c.self.invariant.room)
