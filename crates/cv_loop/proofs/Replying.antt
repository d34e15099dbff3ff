-- What is appended for a batch that runs request by request, or as a whole.
use Rattle.std.proofs.Common.{◌≡◌, ℕ, List, [], ◌∷◌, ◌++◌, take, drop, refl, sym, ap, subst, ◌∙◌, append_assoc}
use Rattle.std.proofs.lemmas.List.{append-nil, take-append-drop}
use Rattle.std.specs.Prelude.{Result, Ok, Err, OnOk, OnErr}
use Rattle.cv_frame.specs.Message.{Message, joined, spelling}
use Rattle.cv_machine.specs.Machine.{Turn, Progress, Runs, Steps}
use Rattle.cv_machine.proofs.Runs.{Progress-none, Progress-stays, Progress-batch, Progress-later, Progress-then}
use Rattle.cv_machine.proofs.Runs.{Runs-none, Runs-push}
use Rattle.cv_loop.specs.Replying.{AppendsReplies}

module _ {Table : Type 0} (turn : Turn Table) where
  -- nothing was asked
  pub appends_none : (s : ℕ → Table) (before : List ℕ) → AppendsReplies turn s [] [] before before [] s
  appends_none s before = record { more = []; appends = sym (append-nil before); ran = Progress-none turn s }

  -- nothing ran
  pub nothing_ran : {T E : Type 0} (result : Result T E) (s new : ℕ → Table) (asked : List Message) (before : List ℕ)
      → new ≡ s → OnErr result
      ((later : List Message) × (missing : List ℕ) × AppendsReplies turn s asked later before before missing new)
  nothing_ran (Ok x) s new asked before e = tt
  nothing_ran (Err x) s new asked before e =
      (asked, [], record { more = []; appends = sym (append-nil before); ran = Progress-stays turn s new asked e })

  -- one more request
  pub appends_push : (s t u : ℕ → Table) (asked : List Message) (request reply : Message) (before mid after : List ℕ)
      → AppendsReplies turn s asked [] before mid [] t → Steps turn t request reply u → after ≡ mid ++ spelling reply
      → AppendsReplies turn s (asked ++ request ∷ []) [] before after [] u
  appends_push s t u asked request reply before mid after p q e = record {
    more = p.more ++ spelling reply;
    appends = e ∙ ap (λ (x : List ℕ). x ++ spelling reply) p.appends ∙ append_assoc before p.more (spelling reply);
    ran = Progress-then turn s t u asked (request ∷ []) [] p.more (spelling reply) [] p.ran
        (Progress-batch turn t (request ∷ []) (reply ∷ []) u (spelling reply) []
        (Runs-push turn t t u [] [] request reply (Runs-none turn t) q) refl);
  }

  -- no more ran
  stops : (s t : ℕ → Table) (asked : List Message) (at : ℕ) (before mid : List ℕ) → AppendsReplies turn s
      (take at asked) [] before mid [] t → AppendsReplies turn s asked (drop at asked) before mid [] t
  stops s t asked at before mid p = record {
    more = p.more;
    appends = p.appends;
    ran = subst (λ (ms : List Message). Progress turn s ms (drop at asked) p.more [] t) (take-append-drop at asked)
        (Progress-later turn s t (take at asked) [] (drop at asked) p.more [] p.ran);
  }

  pub no_more_ran : {T E : Type 0} (result : Result T E) (s t new : ℕ → Table) (asked : List Message) (at : ℕ)
      (before mid after : List ℕ)
      → AppendsReplies turn s (take at asked) [] before mid [] t → new ≡ t → after ≡ mid → OnErr result
      ((later : List Message) × (missing : List ℕ) × AppendsReplies turn s asked later before after missing new)
  no_more_ran (Ok x) s t new asked at before mid after p same kept = tt
  no_more_ran (Err x) s t new asked at before mid after p same kept =
      rw (same, kept) (drop at asked, [], stops s t asked at before mid p)

  -- a batch ran, and a prefix of the bytes of its replies was appended
  pub appends_front : (s new : ℕ → Table) (asked told : List Message) (before after more missing : List ℕ)
      → Runs turn s asked told new → after ≡ before ++ more
      → joined told ≡ more ++ missing → AppendsReplies turn s asked [] before after missing new
  appends_front s new asked told before after more missing runs appends e = record {
    more = more;
    appends = appends;
    ran = Progress-batch turn s asked told new more missing runs e;
  }

  -- a batch ran, and all of its replies were appended
  pub appends_batch : (s new : ℕ → Table) (asked told : List Message) (before after : List ℕ)
      → Runs turn s asked told new → after ≡ before ++ joined told → AppendsReplies turn s asked [] before after [] new
  appends_batch s new asked told before after runs appends =
      appends_front s new asked told before after (joined told) [] runs appends (sym (append-nil (joined told)))

  -- the replies of a batch that ran were pushed, or a prefix of their bytes
  pub pushed_all : {T E : Type 0} (result : Result T E) (s new : ℕ → Table) (asked told : List Message)
      (before after : List ℕ) → Runs turn s asked told new
      → OnOk result (after ≡ before ++ joined told) → OnOk result (AppendsReplies turn s asked [] before after [] new)
  pushed_all (Ok x) s new asked told before after runs e = appends_batch s new asked told before after runs e
  pushed_all (Err e) s new asked told before after runs e' = e'

  pub pushed_some : {T E : Type 0} (result : Result T E) (s new : ℕ → Table) (asked told : List Message)
      (before after : List ℕ) → Runs turn s asked told new → OnErr result
      ((more : List ℕ) × (missing : List ℕ) × (after ≡ before ++ more) × (joined told ≡ more ++ missing)) → OnErr result
      ((later : List Message) × (missing : List ℕ) × AppendsReplies turn s asked later before after missing new)
  pushed_some (Ok x) s new asked told before after runs p = p
  pushed_some (Err e) s new asked told before after runs p =
      ([], p.1, appends_front s new asked told before after p.0 p.1 runs p.2 p.3)
