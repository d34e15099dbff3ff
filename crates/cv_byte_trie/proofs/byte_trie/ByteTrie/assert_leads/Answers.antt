use Rattle.std.proofs.Common.{length, subst}
use Rattle.cv_byte_trie.specs.Index.{Index}
use Rattle.cv_byte_trie.specs.Tables.{edge_of}
use Rattle.cv_byte_trie.specs.Walks.{Leads}
use Rattle.cv_byte_trie.proofs.Walked.{leads_from}
use Rattle.cv_byte_trie.proofs.byte_trie.ByteTrie.assert_leads.Goals as goal

pub returns-clause-leads : goal.returns-clause-leads
returns-clause-leads c =
    let steps = c.self.inside.steps in
    subst (λ (i : Index). Leads (edge_of i.steps) i.entries) c.self.view_is (leads_from c.self.inside.entries.items
    c.self.invariant.apart (edge_of steps) (length steps.nodes.items) c.self.invariant.leads)
