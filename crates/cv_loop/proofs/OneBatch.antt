-- One batch that ran, and how much of it was written.
use Rattle.std.proofs.Common.{◌≡◌, ℕ, ◌+◌, ◌≤◌, true, false, Bool, List, [], ◌++◌, length, take, drop, Option, refl}
use Rattle.std.proofs.Common.{sym, ap, ◌∙◌, arith}
use Rattle.std.proofs.lemmas.List.{append-nil, take-append-drop, length-take}
use Rattle.std.proofs.KnownBytes.{Appends-nil}
use Rattle.std.specs.Io.KnownBytes.{Appends}
use Rattle.cv_frame.specs.Message.{Message}
use Rattle.cv_machine.specs.Machine.{Turn, Progress}
use Rattle.cv_loop.specs.Serving.{saturated}
use Rattle.cv_loop.specs.Replying.{AppendsReplies}
use Rattle.cv_loop.specs.Private.Draining.{Broken}
use Rattle.cv_loop.specs.declared.fault.ServeFault.TheVariants as fault

module _ {Table : Type 0} {turn : Turn Table} where
  -- what ran does not depend on how much of its replies is written
  rewritten : (s new : ℕ → Table) (asked later : List Message) (more missing written unwritten : List ℕ)
      → Progress turn s asked later more missing new
      → more ++ missing ≡ written ++ unwritten → Progress turn s asked later written unwritten new
  rewritten s new asked later more missing written unwritten p e = record {
    events = p.events;
    is_run = p.is_run;
    asks = p.asks;
    fits = p.fits;
    writes = p.writes ∙ e;
    leaves = p.leaves;
  }

  -- an allocation for the batch or its replies failed
  pub no_replies : (s new : ℕ → Table) (h : Option (List ℕ)) (asked later : List Message) (before : ℕ) (failed : Bool)
      (old bytes missing : List ℕ) → AppendsReplies turn s asked later old bytes missing new → failed ≡ false
      → Broken turn s h h asked new before fault.Memory failed
  no_replies s new h asked later before failed old bytes missing p works = record {
    later = later;
    written = [];
    unwritten = p.more ++ missing;
    wrote = record {
      took = Appends-nil h;
      ran = rewritten s new asked later p.more missing [] (p.more ++ missing) p.ran refl;
    };
    why = works;
  }

  -- the sink failed or took no byte
  pub no_write : (s new : ℕ → Table) (h h' : Option (List ℕ)) (asked : List Message) (before n count : ℕ)
      (failed : Bool) (old replies bytes : List ℕ)
      → AppendsReplies turn s asked [] old replies [] new → old ≡ [] → bytes ≡ replies → n ≤ length bytes
      → Appends h h' (take n bytes) → count ≡ saturated (before + n) → failed ≡ true
      → Broken turn s h h' asked new before (fault.Write count) failed
  no_write s new h h' asked before n count failed old replies bytes p none is within took counts has =
      let all : p.more ≡ bytes = sym (is ∙ p.appends ∙ ap (λ (x : List ℕ). x ++ p.more) none) in
      record {
        later = [];
        written = take n bytes;
        unwritten = drop n bytes;
        wrote = record {
          took = took;
          ran = rewritten s new asked [] p.more [] (take n bytes) (drop n bytes) p.ran
              (append-nil p.more ∙ all ∙ sym (take-append-drop n bytes));
        };
        why = (counts ∙ ap (λ (k : ℕ). saturated (before + k)) (omega (arith, length-take n bytes)), has);
      }
