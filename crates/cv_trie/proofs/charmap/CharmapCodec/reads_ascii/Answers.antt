use Rattle.std.proofs.Common.{List, ap, subst}
use Rattle.cv_base.specs.Ascii.{ReadsAscii}
use Rattle.cv_base.specs.declared.ascii_form.AsciiForm.TheVariants.{Byte}
use Rattle.cv_base.specs.declared.state.ReadState.TheVariants as read
use Rattle.cv_charmap.specs.Entries.{Pair}
use Rattle.cv_charmap.specs.Meaning.{Charmap}
use Rattle.cv_trie.specs.Charmaps.{map_reads}
use Rattle.cv_trie.proofs.MapItems.{form_given}
use Rattle.cv_trie.proofs.charmap.CharmapCodec.reads_ascii.Goals as goal

pub returns-in-Start : goal.returns-in-Start
returns-in-Start c = rw (c.in-Start.is, c.then_some.ensures) (form_given c.self.inside.reads_ascii
    (ReadsAscii (map_reads c.args.self.now.pairs) read.Start) (λ h. subst (λ (x : List Pair). ReadsAscii
    (map_reads x) read.Start Byte) (ap (λ (m : Charmap). m.pairs) c.self.view_is) (c.self.invariant.reads_ascii h)))
