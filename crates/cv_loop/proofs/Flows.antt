-- One batch after another.
use Rattle.std.proofs.Common.{◌≡◌, ℕ, ◌+◌, ◌-◌, ◌^◌, ◌<◌, false, Bool, List, [], ◌++◌, length, take, drop, Option}
use Rattle.std.proofs.Common.{refl, sym, ap, ◌∙◌, append_assoc, arith, length-append}
use Rattle.std.proofs.lemmas.List.{length-drop, drop-drop, take_rest}
use Rattle.std.proofs.lemmas.List.Concat.{flat_map-append}
use Rattle.std.proofs.KnownBytes.{Appends-nil, Appends-trans}
use Rattle.cv_frame.specs.Message.{Message, joined, spelling}
use Rattle.cv_machine.proofs.Runs.{Progress-none, Progress-then, all-append}
use Rattle.cv_frame.specs.Cut.{front_of}
use Rattle.cv_frame.specs.declared.reading.Frame.TheVariants as front
use Rattle.cv_loop.specs.Serving.{saturated}
use Rattle.cv_loop.specs.Private.Draining.{Broken, BreaksOff, Answered, Drained, Stops, Stopped}
use Rattle.cv_loop.specs.declared.fault.ServeFault.{ServeFault}
use Rattle.cv_loop.specs.declared.fault.ServeFault.TheVariants as fault
use Rattle.cv_machine.specs.Machine.{Turn}

-- counting in two steps is counting the sum
pub counted-add : (a b c : ℕ) → saturated (saturated (a + b) + c) ≡ saturated (a + (b + c))
counted-add a b c = omega arith

module _ {Table : Type 0} {turn : Turn Table} where
  pub Answered-none : (s : ℕ → Table) (h : Option (List ℕ)) (n : ℕ) → n < 2 ^ 64 → Answered turn s h h [] s n n
  Answered-none s h n small = record {
    written = [];
    wrote = record { took = Appends-nil h; ran = Progress-none turn s };
    counts = omega arith;
  }

  pub Answered-then : (s t u : ℕ → Table) (h i j : Option (List ℕ)) (asked more : List Message) (a b c : ℕ)
      → Answered turn s h i asked t a b → Answered turn t i j more u b c → Answered turn s h j (asked ++ more) u a c
  Answered-then s t u h i j asked more a b c p q = record {
    written = p.written ++ q.written;
    wrote = record {
      took = Appends-trans h i j p.written q.written p.wrote.took q.wrote.took;
      ran = Progress-then turn s t u asked more [] p.written q.written [] p.wrote.ran q.wrote.ran;
    };
    counts = q.counts ∙ ap (λ (n : ℕ). saturated (n + length q.written)) p.counts ∙ counted-add a (length p.written)
        (length q.written) ∙ ap (λ (n : ℕ). saturated (a + n)) (sym (length-append p.written q.written));
  }

BreaksOff-then : (f : ServeFault) (a b : ℕ) (failed : Bool) → saturated a ≡ saturated b → BreaksOff f a failed
    → BreaksOff f b failed
BreaksOff-then (fault.Write n) a b failed e w = (w.0 ∙ e, w.1)
BreaksOff-then fault.Memory a b failed e w = w
BreaksOff-then fault.TruncatedFrame a b failed e w = w
BreaksOff-then (fault.BadLength n) a b failed e w = w
BreaksOff-then fault.Read a b failed e w = w
BreaksOff-then fault.TooManyReads a b failed e w = w

module _ {Table : Type 0} {turn : Turn Table} where
  pub Broken-then : (s t u : ℕ → Table) (h i j : Option (List ℕ)) (asked more : List Message) (a b : ℕ) (f : ServeFault)
      (failed : Bool) → Answered turn s h i asked t a b → Broken turn t i j more u b f failed
      → Broken turn s h j (asked ++ more) u a f failed
  Broken-then s t u h i j asked more a b f failed p q = record {
    later = q.later;
    written = p.written ++ q.written;
    unwritten = q.unwritten;
    wrote = record {
      took = Appends-trans h i j p.written q.written p.wrote.took q.wrote.took;
      ran = Progress-then turn s t u asked more q.later p.written q.written q.unwritten p.wrote.ran q.wrote.ran;
    };
    why = BreaksOff-then f _ _ failed
        (ap (λ (n : ℕ). saturated (n + length q.written)) p.counts ∙ counted-add a (length p.written) (length q.written)
        ∙ ap (λ (n : ℕ). saturated (a + n)) (sym (length-append p.written q.written))) q.why;
  }

-- the bytes of frames and of frames after them
pub joined-append : (ms ns : List Message) → joined (ms ++ ns) ≡ joined ms ++ joined ns
joined-append ms ns = flat_map-append spelling ms ns

front_then : (bytes rest others : List ℕ) (asked more : List Message) → bytes ≡ joined asked ++ rest
    → rest ≡ joined more ++ others → bytes ≡ joined (asked ++ more) ++ others
front_then bytes rest others asked more p q = p ∙ ap (λ (x : List ℕ). joined asked ++ x) q ∙ sym (append_assoc
    (joined asked) (joined more) others) ∙ ap (λ (x : List ℕ). x ++ others) (sym (joined-append asked more))

module _ {Table : Type 0} {turn : Turn Table} where
  pub Drained-none : (s : ℕ → Table) (h : Option (List ℕ)) (bytes : List ℕ) (w n : ℕ) → w < 2 ^ 64 → n < 2 ^ 64
      → Drained turn s h h bytes 0 s w w n n
  Drained-none s h bytes w n small few = record {
    asked = [];
    within = omega arith;
    fits = tt;
    front = refl;
    answered = Answered-none s h w small;
    counts = omega arith;
  }

  pub Drained-then : (s t u : ℕ → Table) (h i j : Option (List ℕ)) (bytes rest : List ℕ)
      (used more : ℕ) (a b c k l m : ℕ) → rest ≡ drop used bytes → Drained turn s h i bytes used t a b k l
      → Drained turn t i j rest more u b c l m → Drained turn s h j bytes (used + more) u a c k m
  Drained-then s t u h i j bytes rest used more a b c k l m is p q = record {
    asked = p.asked ++ q.asked;
    within = omega (arith, p.within, q.within, ap length is, length-drop used bytes);
    fits = all-append p.asked q.asked p.fits q.fits;
    front = front_then bytes rest (drop (used + more) bytes) p.asked q.asked
        (p.front ∙ ap (λ (x : List ℕ). joined p.asked ++ x) (sym is)) (q.front
        ∙ ap (λ (x : List ℕ). joined q.asked ++ x) (ap (λ (x : List ℕ). drop more x) is ∙ drop-drop more used bytes));
    answered = Answered-then s t u h i j p.asked q.asked a b c p.answered q.answered;
    counts = q.counts ∙ ap (λ (n : ℕ). saturated (n + length q.asked)) p.counts ∙ counted-add k (length p.asked)
        (length q.asked) ∙ ap (λ (n : ℕ). saturated (k + n)) (sym (length-append p.asked q.asked));
  }

  Stops-then : (f : ServeFault) (s t u : ℕ → Table) (h i j : Option (List ℕ))
      (asked more : List Message) (rest : List ℕ) (a b : ℕ) (failed : Bool) → Answered turn s h i asked t a b
      → Stops turn f t i j more rest u b failed → Stops turn f s h j (asked ++ more) rest u a failed
  Stops-then (fault.BadLength n) s t u h i j asked more rest a b failed p q =
      (q.0, Answered-then s t u h i j asked more a b q.0 p q.1, q.2, q.3)
  Stops-then (fault.Write n) s t u h i j asked more rest a b failed p q =
      Broken-then s t u h i j asked more a b (fault.Write n) failed p q
  Stops-then fault.Memory s t u h i j asked more rest a b failed p q =
      Broken-then s t u h i j asked more a b fault.Memory failed p q
  Stops-then fault.TruncatedFrame s t u h i j asked more rest a b failed p q = q
  Stops-then fault.Read s t u h i j asked more rest a b failed p q = q
  Stops-then fault.TooManyReads s t u h i j asked more rest a b failed p q = q

  pub Stopped-then : (f : ServeFault) (s t u : ℕ → Table) (h i j : Option (List ℕ)) (bytes rest : List ℕ) (used : ℕ)
      (a b k l : ℕ) (failed : Bool) → rest ≡ drop used bytes → Drained turn s h i bytes used t a b k l
      → Stopped turn f t i j rest u b failed → Stopped turn f s h j bytes u a failed
  Stopped-then f s t u h i j bytes rest used a b k l failed is p q = record {
    asked = p.asked ++ q.asked;
    rest = q.rest;
    fits = all-append p.asked q.asked p.fits q.fits;
    front = front_then bytes rest q.rest p.asked q.asked
        (p.front ∙ ap (λ (x : List ℕ). joined p.asked ++ x) (sym is)) q.front;
    stops = Stops-then f s t u h i j p.asked q.asked q.rest a b failed p.answered q.stops;
  }

  -- an allocation failed before any of the requests ran
  pub Stopped-memory : (s : ℕ → Table) (h : Option (List ℕ)) (bytes : List ℕ) (a : ℕ) (failed : Bool) → failed ≡ false
      → Stopped turn fault.Memory s h h bytes s a failed
  Stopped-memory s h bytes a failed works = record {
    asked = [];
    rest = bytes;
    fits = tt;
    front = refl;
    stops = record {
      later = [];
      written = [];
      unwritten = [];
      wrote = record { took = Appends-nil h; ran = Progress-none turn s };
      why = works;
    };
  }

-- what follows a batch within the bytes from `used` on
pub after_batch : (bytes : List ℕ) (used n : ℕ)
    → drop n (take (length bytes - used) (drop used bytes)) ≡ drop (used + n) bytes
after_batch bytes used n = ap (λ (x : List ℕ). drop n x) (take_rest bytes used) ∙ drop-drop n used bytes

module _ {Table : Type 0} {turn : Turn Table} where
  -- a length that no frame has follows what was answered
  pub Stopped-bad : (s t : ℕ → Table) (h i : Option (List ℕ)) (bytes : List ℕ) (used a b k l length : ℕ) (failed : Bool)
      → Drained turn s h i bytes used t a b k l → front_of (drop used bytes) ≡ front.Bad length → failed ≡ false
      → Stopped turn (fault.BadLength length) s h i bytes t a failed
  Stopped-bad s t h i bytes used a b k l length failed p bad works = record {
    asked = p.asked;
    rest = drop used bytes;
    fits = p.fits;
    front = p.front;
    stops = (b, p.answered, bad, works);
  }
