-- Where a byte leads from a node: by its block, or by its table.
use Rattle.std.proofs.Common.{◌≡◌, ◌≢◌, ℕ, ◌<◌, ◌+◌, List, length, get_or, sym, ◌∙◌, ap, None}
use Rattle.std.proofs.Math.ListN.{replicate}
use Rattle.std.proofs.lemmas.List.{get_or_read, get_or-replicate}
use Rattle.cv_byte_trie.specs.Tries.{none}
use Rattle.cv_byte_trie.specs.Tables.{coded, edge_in, node_at, edge_at, edge_of}
use Rattle.cv_byte_trie.specs.Private.Blocks.{FindsEdge}
use Rattle.cv_byte_trie.specs.Private.Sound.{IsSound}
use Rattle.cv_byte_trie.specs.declared.node.Edge.{Edge}
use Rattle.cv_byte_trie.specs.declared.node.Node.{Node}
use Rattle.cv_byte_trie.specs.declared.node.Node.TheVariants.{Few, Table}
use Rattle.cv_byte_trie.specs.declared.steps.Steps.{Steps}
use Rattle.cv_byte_trie.proofs.Coded.{coded_none, coded_at}

-- reading a node by its index gives the node of the specification
pub node_read : (t : Steps) (n : ℕ) (x y : Node) → n < length t.nodes.items → x ≡ get_or t.nodes.items n x → x ≡ y
    → node_at t n ≡ y
node_read t n x y low is e = sym (get_or_read t.nodes.items n x low is (Table 0)) ∙ e

-- reading an edge by its index gives the edge of the specification
pub edge_read : (edges : List Edge) (k : ℕ) (x : Edge) → k < length edges → x ≡ get_or edges k x → x ≡ edge_in edges k
edge_read edges k x low is = get_or_read edges k x low is (record { byte = 256; code = none })

module _ (t : Steps) (s : IsSound t) (n size start : ℕ) (low : n < length t.nodes.items)
    (few : node_at t n ≡ Few size start) (b : ℕ) (byte : b < 256) where
  -- the edges of a node with a block are those of the block
  pub edge_few : edge_of t n b ≡ coded t.edges.items start size b
  edge_few = ap (edge_at t n b) few

  -- an edge with a byte gives the code to which the byte leads
  pub edge_found : (k : ℕ) → k < size → (edge_in t.edges.items (start + k)).byte ≡ b
      → edge_of t n b ≡ (edge_in t.edges.items (start + k)).code
  edge_found k here is = edge_few ∙ coded_at t.edges.items start size b k here is
      (λ j l e. s.once n size start j k low few l here (e ∙ sym is) (rw is byte))

  -- a byte that no edge has leads nowhere
  pub edge_none : FindsEdge t.edges.items start size b None → edge_of t n b ≡ none
  edge_none h = edge_few ∙ coded_none t.edges.items start size b h

  -- a byte that leads nowhere is in no edge
  pub lacks : edge_of t n b ≡ none → (k : ℕ) → k < size → (edge_in t.edges.items (start + k)).byte ≢ b
  lacks z k here is = s.led n size start k low few here (rw is byte) (sym (edge_found k here is) ∙ z)

-- a table with no edge
pub fill_start : (edges : List Edge) (start b : ℕ) → b < 256
    → get_or (replicate 256 none) b none ≡ coded edges start 0 b
fill_start edges start b l = get_or-replicate 256 b none none l
