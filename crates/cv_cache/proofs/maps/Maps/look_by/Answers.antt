use Rattle.std.proofs.Common.{◌≡◌, Some, None, Ok, sym, ◌∙◌, ap, map, subst}
use Rattle.std.specs.Option.{option_map}
use Rattle.std.specs.Map.{lookup, lookup_entry}
use Rattle.std.specs.Str.{bytes_eq}
use Rattle.lru.specs.LruCache.{promoted}
use Rattle.cv_charmap.specs.Meaning.{meaning}
use Rattle.cv_cache.specs.declared.cached_text.CachedText.{CachedText}
use Rattle.cv_cache.specs.Held.{Held, shown}
use Rattle.cv_cache.proofs.Entries.{Entry, IsOf, found_entry, no_entry, looked_up, looked_up_none, promoted_shown}
use Rattle.cv_cache.proofs.Entries.{promoted_none, right_promoted, apart_promoted}
use Rattle.cv_cache.proofs.Sizes.{used}
use Rattle.cv_cache.proofs.maps.Maps.look_by.Goals as goal

-- nothing was found
nowhere : (c : goal.In_default)
    → lookup_entry (bytes_eq c.args.text.now) (map shown c.self.inside.texts.entries.entries) ≡ None
nowhere c = no_entry c.args.text.now c.self.inside.texts.keys c.by-sum.result c.by-sum.ensures
    c.self.inside.texts.entries.entries c.self.invariant.right
    (sym c.entry_of.ensures.entry ∙ ap (option_map (λ r. (r.0, r.1.now))) c.in_default.is)

pub returns-in_default-clause-charmap : goal.returns-in_default-clause-charmap
returns-in_default-clause-charmap c = sym (looked_up_none c.args.text.now c.self.inside.texts.entries.entries
    (nowhere c)) ∙ ap (λ (h : Held). lookup (bytes_eq c.args.text.now) h.entries) c.self.view_is

pub returns-in_default-clause-order : goal.returns-in_default-clause-order
returns-in_default-clause-order c = subst (λ (h : Held). h.entries ≡ promoted (bytes_eq c.args.text.now) h.entries)
    c.self.view_is (sym (promoted_none c.args.text.now c.self.inside.texts.entries.entries (nowhere c)))

-- what was found
abbrev entry : goal.After-self-1 → Entry
entry c = (c.in-Some.number, c.in-Some.kept.now)

is_of : (c : goal.After-self-1) → IsOf c.args.text.now c.self.inside.texts.entries.entries (entry c)
is_of c = found_entry c.args.text.now c.self.inside.texts.keys c.by-sum.result c.by-sum.ensures
    c.self.inside.texts.entries.entries (entry c) c.self.invariant.right c.entry_of.ensures.valid.0
    (sym c.entry_of.ensures.entry ∙ ap (option_map (λ r. (r.0, r.1.now))) c.in-Some.is)

pub invariant_of-self : goal.invariant_of-self
invariant_of-self c =
    let es = c.self.inside.texts.entries.entries in
    rw c.promote.ensures.entries (record {
      room = c.self.invariant.room;
      right = right_promoted c.self.inside.texts.keys es c.in-Some.number c.self.invariant.right;
      distinct = apart_promoted c.args.text.now es (entry c) (is_of c) c.self.invariant.distinct;
      counted = c.self.invariant.counted ∙ sym (used (λ (k : CachedText). k.size) _ es);
      light = c.self.invariant.light;
    })

pub returns-clause-charmap : goal.returns-clause-charmap
returns-clause-charmap c =
    ap Some c.in_ok-charmap.ensures ∙ sym (looked_up c.args.text.now c.self.inside.texts.entries.entries (entry c)
    (is_of c)) ∙ ap (λ (h : Held). lookup (bytes_eq c.args.text.now) h.entries) c.self.view_is

pub returns-clause-order : goal.returns-clause-order
returns-clause-order c =
    rw c.promote.ensures.entries (sym (promoted_shown c.args.text.now c.self.inside.texts.entries.entries (entry c)
    (is_of c)) ∙ ap (λ (h : Held). promoted (bytes_eq c.args.text.now) h.entries) c.self.view_is)

pub returns-clause-means : goal.returns-clause-means
returns-clause-means c = ap meaning (is_of c).same ∙ (c.self.invariant.right (entry c) (is_of c).there).means
    ∙ ap Ok (sym c.in_ok-charmap.ensures)
