use Rattle.std.proofs.Common.{◌≡◌, ◌+◌, ℕ, List, ◌-◌, length, take, get_or, ap, ◌∙◌, arith, refl}
use Rattle.std.proofs.lemmas.List.{length-take-le, get_or-take, take-take}
use Rattle.cv_byte_trie.specs.declared.steps.Steps.{Steps}
use Rattle.cv_byte_trie.proofs.Chains.{leads_more, one_more_sound}
use Rattle.cv_byte_trie.proofs.steps.Steps.add_chain.Goals as goal

pub loop-rest-preserved : goal.loop-rest-preserved
loop-rest-preserved c =
    let i = c.loop-rest.invariant in
    let t = c.loop-rest.self in
    let rest = c.loop-rest.rest.now in
    let u : Steps = record { nodes = c.push.new.self; edges = t.edges; tables = t.tables } in
    let size : length (take (length rest - 1) rest) ≡ length rest - 1 =
    length-take-le (length rest - 1) rest (omega arith) in
    let byte = get_or rest (length rest - 1) 0 in
    let is : byte ≡ get_or c.args.bytes.now (length rest - 1) 0 = ap (λ (x : List ℕ). get_or x (length rest - 1) 0)
    i.rest ∙ get_or-take (length rest) c.args.bytes.now (length rest - 1) 0 (omega arith) in
    record {
      sound = one_more_sound c.args.self.now t u c.args.bytes.now c.args.code (length rest) c.loop-rest.first
          c.in-len1-up.len_at_least i.within i.leading byte is c.in_ok-push.ensures.items i.sound i.leads refl refl;
      within = omega (arith, i.within, size);
      rest = rw size (ap (take (length rest - 1)) i.rest
          ∙ take-take (length rest - 1) (length rest) c.args.bytes.now (omega arith));
      leading = rw size (leads_more c.args.self.now t u c.args.bytes.now c.args.code (length rest) c.loop-rest.first
          c.in-len1-up.len_at_least i.within i.leading byte is c.in_ok-push.ensures.items
          (2147483649 + c.len-node.result) (omega (arith, c.len-node.ensures, t.nodes.ok.0)));
      edges = i.edges;
      leads = omega arith;
      tables = i.tables;
    }
