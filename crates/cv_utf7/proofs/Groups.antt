-- Groups of code units that are written.
use Rattle.std.proofs.Common.{◌≡◌, ℕ, ◌+◌, ◌-◌, ◌*◌, ◌/◌, ◌%◌, ◌<◌, ◌≤◌, true, List, [], ◌∷◌, ◌++◌, length, take, drop}
use Rattle.std.proofs.Common.{get_or, set, replicate, refl, sym, ◌∙◌, ap, subst, arith, append_assoc, length-append}
use Rattle.std.proofs.Common.{length-take, length-drop, zero, suc, get_or-drop, length-set, append-nil}
use Rattle.std.proofs.lemmas.List.{take-append-drop, drop-drop, take_at, drop_at, take_more_set, drop-set-lt}
use Rattle.std.proofs.lemmas.List.{length-replicate, take-set, drop_more, take_all}
use Rattle.cv_utf7.proofs.Cuts.{digits_length}
use Rattle.std.proofs.lemmas.Simd.{take_more_put_chunk, put_chunk_is, length-put_chunk}
use Rattle.std.specs.List.{flat_map}
use Rattle.std.specs.Simd.Lanes.{put_chunk}
use Rattle.cv_base.specs.Chains.{Output, output, output_for}
use Rattle.cv_base.specs.declared.state.WriteState.{WriteState}
use Rattle.cv_base.specs.declared.state.WriteState.TheVariants as write
use Rattle.cv_block.proofs.Slack.{further}
use Rattle.cv_utf7.specs.Sets.{is_direct, digit_of}
use Rattle.cv_utf7.specs.BitLists.{bits, digits}
use Rattle.cv_utf7.specs.PendingBits.{pending_of}
use Rattle.cv_utf7.specs.Private.Groups.{IsGroup, IsLong}
use Rattle.cv_utf7.specs.Private.WriteSteps.{written_to, WritesOn}
use Rattle.cv_utf7.specs.Utf7.{plus, minus, utf7_writes}
use Rattle.cv_utf7.specs.declared.write.groups.Group.{Group}
use Rattle.cv_utf7.specs.declared.write.sequences.WriteProgress.{WriteProgress}
use Rattle.cv_utf7.proofs.ReadRuns.{front_of_put}
use Rattle.cv_utf7.proofs.UnitRuns.{AreLong, six_output, closed_output, begun_output, first_output, length_units}
use Rattle.cv_utf7.proofs.UnitRuns.{not_direct, lone_output}
use Rattle.cv_base.specs.Places.{IsPut}
use Rattle.cv_utf7.proofs.WriteSteps.{bytes_in, bytes_some, bytes_most}

-- each character has one byte or more, and six or fewer
output_size : (t : WriteState) (run : List ℕ) → (length run ≤ length (output_for utf7_writes t run).bytes)
    × (length (output_for utf7_writes t run).bytes ≤ 6 * length run)
output_size t [] = (omega arith, omega arith)
output_size t (c ∷ run) =
    let b : List ℕ × WriteState = bytes_in t c in
    let e = first_output t c run b.0 b.1 refl in
    let h = output_size b.1 run in
    let long : length (output_for utf7_writes t (c ∷ run)).bytes
    ≡ length b.0 + length (output_for utf7_writes b.1 run).bytes =
    ap (λ (o : Output). length o.bytes) e ∙ length-append b.0 (output_for utf7_writes b.1 run).bytes in
    (omega (arith, long, h.0, bytes_some t c), omega (arith, long, h.1, bytes_most t c))

-- a run of characters is written if its output was put
pub writes_of : (characters run bytes : List ℕ) (from to : WriteProgress) (before after : List ℕ)
    → drop from.n characters ≡ run ++ drop to.n characters → to.n ≡ from.n + length run → to.n ≤ length characters
    → output_for utf7_writes from.next run ≡ output bytes 0 to.next → to.end ≡ from.end + length bytes
    → to.end ≤ length before → take to.end after ≡ take from.end before ++ bytes
    → drop (to.end + (length characters - to.n)) after ≡ drop (to.end + (length characters - to.n)) before
    → length after ≡ length before → WritesOn characters from before to after
writes_of characters run bytes from to before after are counts within o ends fits stand behind size =
    let long : length (output_for utf7_writes from.next run).bytes ≡ length bytes =
    ap (λ (x : Output). length x.bytes) o in
    let s = output_size from.next run in
    record {
      run = run;
      are = are;
      counts = counts;
      within = within;
      count = ap (λ (x : Output). x.count) o;
      next = sym (ap (λ (x : Output). x.next) o);
      ends = omega (arith, long, ends);
      some = omega (arith, long, ends, s.0);
      few = omega (arith, long, ends, s.1);
      fits = fits;
      stand = stand ∙ ap (λ (x : List ℕ). take from.end before ++ x) (sym (ap (λ (x : Output). x.bytes) o));
      behind = behind;
      size = size;
    }

are_long : (k : ℕ) (characters : List ℕ) → ((i : ℕ) → i < k → IsLong (get_or characters i 0))
    → AreLong (take k characters)
are_long zero characters h = tt
are_long (suc k) [] h = tt
are_long (suc k) (c ∷ characters) h =
    let first : IsLong c = h 0 (omega arith) in
    (first.0, omega (arith, first.1), are_long k characters (λ i l. h (suc i) (omega arith)))

-- the characters of a group are code units that are not ASCII
group_long : (characters : List ℕ) (n : ℕ) (group : Group) → IsGroup characters n group
    → AreLong (take group.n (drop n characters))
group_long characters n group g = are_long group.n (drop n characters)
    (λ i l. subst IsLong (sym (get_or-drop n characters i 0)) (g.long i l))

group_size : (characters : List ℕ) (n : ℕ) (group : Group) → IsGroup characters n group
    → length (take group.n (drop n characters)) ≡ group.n
group_size characters n group g =
    simp (length-take, length-drop) (omega (arith, g.left, g.few))

-- sixteen digits
pub digits_sixteen : (units : List ℕ) → length units ≡ 6 → length (digits (flat_map (bits 16) units)) ≡ 16
digits_sixteen units e = digits_length 16 (flat_map (bits 16) units) (length_units units ∙ ap (λ (n : ℕ). 16 * n) e)

after_put : (before d : List ℕ) (at place : ℕ) → length d ≡ 16 → at + 16 ≤ length before → at + 16 ≤ place
    → drop place (put_chunk at before d) ≡ drop place before
after_put before d at place e room h =
    let put : put_chunk at before d ≡ take at before ++ (d ++ drop (length d) (drop at before)) =
    put_chunk_is at before d (omega arith) in
    let rest : drop (length d) (drop at before) ≡ drop (at + 16) before =
    ap (λ (n : ℕ). drop n (drop at before)) e ∙ drop-drop 16 at before in
    let long : length (take at before ++ d) ≡ at + 16 = simp (length-append, length-take) (omega arith) in
    further before (put_chunk at before d) (at + 16) place h (ap (drop (at + 16)) (put ∙ ap (λ (x : List ℕ).
    take at before ++ (d ++ x)) rest ∙ sym (append_assoc (take at before) d (drop (at + 16) before)))
    ∙ drop_at (take at before ++ d) (drop (at + 16) before) (at + 16) long)

-- a group of six units is written
pub writes_six : (characters : List ℕ) (n at : ℕ) (group : Group) (before d : List ℕ) → IsGroup characters n group
    → group.n ≡ 6 → d ≡ digits (flat_map (bits 16) (take 6 group.units)) → at + 16 ≤ length before
    → WritesOn characters (written_to (write.Shifted (pending_of [])) n at) before
    (written_to (write.Shifted (pending_of [])) (n + group.n) (at + 16)) (put_chunk at before d)
writes_six characters n at group before d g six is room =
    let run : List ℕ = take group.n (drop n characters) in
    let size : length run ≡ group.n = group_size characters n group g in
    let none : 6 - group.n ≡ 0 = omega arith in
    let units : take 6 group.units ≡ run = g.are
    ∙ ap (λ (j : ℕ). run ++ replicate j 0) none ∙ append-nil run in
    let bytes : d ≡ digits (flat_map (bits 16) run) = is ∙ ap (λ (u : List ℕ). digits (flat_map (bits 16) u)) units in
    let long : length d ≡ 16 = ap length bytes ∙ digits_sixteen run (size ∙ six) in
    writes_of characters run d (written_to (write.Shifted (pending_of [])) n at)
    (written_to (write.Shifted (pending_of [])) (n + group.n) (at + 16)) before (put_chunk at before d)
    (sym (take-append-drop group.n (drop n characters))
    ∙ ap (λ (x : List ℕ). run ++ x) (drop-drop group.n n characters))
    (omega arith) (omega (arith, g.left)) (six_output run (group_long characters n group g) (size ∙ six)
    ∙ ap (λ (w : List ℕ). output w 0 (write.Shifted (pending_of []))) (sym bytes)) (omega arith) room
    (take_more_put_chunk at before d (at + 16) (omega arith) room)
    (after_put before d at (at + 16 + (length characters - (n + group.n))) long room (omega arith))
    (length-put_chunk at before d)

-- two bytes are put
take_two : (l : List ℕ) (k v w : ℕ) → k + 1 < length l
    → take (k + 2) (set (set l k v) (k + 1) w) ≡ take k l ++ v ∷ w ∷ []
take_two l k v w h =
    let there : k + 2 ≡ k + 1 + 1 = omega arith in
    ap (λ (n : ℕ). take n (set (set l k v) (k + 1) w)) there
    ∙ take_more_set (set l k v) (k + 1) w (omega (arith, length-set l k v))
    ∙ ap (λ (x : List ℕ). x ++ w ∷ []) (take_more_set l k v (omega arith))
    ∙ append_assoc (take k l) (v ∷ []) (w ∷ [])

-- a shorter group is written, and the direct character after it
pub writes_closed : (characters : List ℕ) (n at m c : ℕ) (group : Group) (before d : List ℕ)
    → IsGroup characters n group → group.n < 6 → d ≡ digits (flat_map (bits 16) (take 6 group.units))
    → m ≡ (16 * group.n + 5) / 6 → c ≡ get_or characters (n + group.n) 0 → at + 16 ≤ length before
    → WritesOn characters (written_to (write.Shifted (pending_of [])) n at) before
    (written_to write.Start (n + group.n + 1) (at + m + 2))
    (set (set (put_chunk at before d) (at + m) minus) (at + m + 1) c)
writes_closed characters n at m c group before d g less is e f room =
    let run : List ℕ = take group.n (drop n characters) in
    let size : length run ≡ group.n = group_size characters n group g in
    let many : n + 11 ≤ length characters = g.many less in
    let sixteen : length (take 6 group.units) ≡ 6 = ap length g.are
    ∙ length-append run (replicate (6 - group.n) 0) ∙ omega (arith, length-replicate {A = ℕ} (6 - group.n) 0) in
    let long : length d ≡ 16 = ap length is ∙ digits_sixteen (take 6 group.units) sixteen in
    let put : List ℕ = put_chunk at before d in
    let whole : length put ≡ length before = length-put_chunk at before d in
    let bytes : List ℕ = take m d ++ minus ∷ c ∷ [] in
    let taken : length (take m d) ≡ m = simp length-take (omega arith) in
    let direct : is_direct c ≡ true = ap is_direct f ∙ g.ends less in
    let all : take m (digits (flat_map (bits 16) (run ++ replicate (6 - group.n) 0))) ≡ take m d =
    ap (λ (u : List ℕ). take m (digits (flat_map (bits 16) u))) (sym g.are) ∙ ap (take m) (sym is) in
    let are : drop n characters ≡ (run ++ c ∷ []) ++ drop (n + group.n + 1) characters =
    sym (take-append-drop group.n (drop n characters)) ∙ ap (λ (x : List ℕ). run ++ x)
    (drop-drop group.n n characters ∙ drop_more characters (n + group.n) 0 (omega arith)
    ∙ ap (λ (x : ℕ). x ∷ drop (n + group.n + 1) characters) (sym f))
    ∙ sym (append_assoc run (c ∷ []) (drop (n + group.n + 1) characters)) in
    let front : take (at + 16) put ≡ take at before ++ take 16 d = take_more_put_chunk at before d (at + 16)
    (omega arith) room ∙ ap (λ (x : List ℕ). take at before ++ x) (sym (take_all 16 d (omega arith))) in
    let digits_stand : take (at + m) put ≡ take at before ++ take m d =
    front_of_put at m 16 before put d (omega arith) (omega arith) front in
    let place : ℕ = at + m + 2 + (length characters - (n + group.n + 1)) in
    let some : 2 ≤ group.n = g.some in
    let two : at + m + 1 + 1 ≡ at + m + 2 = omega arith in
    writes_of characters (run ++ c ∷ []) bytes (written_to (write.Shifted (pending_of [])) n at)
    (written_to write.Start (n + group.n + 1) (at + m + 2)) before (set (set put (at + m) minus) (at + m + 1) c)
    are (omega (arith, length-append run (c ∷ []))) (omega arith)
    (closed_output run c (6 - group.n) m (group_long characters n group g) direct (omega arith) (omega arith)
    (omega arith) ∙ ap (λ (x : List ℕ). output (x ++ minus ∷ c ∷ []) 0 write.Start) all)
    (omega (arith, length-append (take m d) (minus ∷ c ∷ []))) (omega arith)
    (take_two put (at + m) minus c (omega arith) ∙ ap (λ (x : List ℕ). x ++ minus ∷ c ∷ []) digits_stand
    ∙ append_assoc (take at before) (take m d) (minus ∷ c ∷ []))
    (drop-set-lt place (set put (at + m) minus) (at + m + 1) c (omega arith)
    ∙ drop-set-lt place put (at + m) minus (omega arith) ∙ after_put before d at place long room (omega arith))
    (length-set (set put (at + m) minus) (at + m + 1) c ∙ length-set put (at + m) minus ∙ whole)

-- nothing is written, but a byte may have been put
pub writes_nothing : (characters : List ℕ) (t : WriteState) (n at : ℕ) (before : List ℕ) (b : ℕ) → n < length characters
    → at < length before → WritesOn characters (written_to t n at) before (written_to t n at) (set before at b)
writes_nothing characters t n at before b h l =
    writes_of characters [] [] (written_to t n at) (written_to t n at) before (set before at b) refl (omega arith)
    (omega arith) refl (omega arith) (omega arith)
    (take-set before at b ∙ sym (append-nil (take at before)))
    (drop-set-lt (at + (length characters - n)) before at b (omega arith)) (length-set before at b)

first_of : (run rest : List ℕ) (c : ℕ) (others : List ℕ) → 0 < length run → run ++ rest ≡ c ∷ others
    → run ≡ c ∷ drop 1 run
first_of [] rest c others l e = absurd (omega arith)
first_of (d ∷ run) rest c others l e = let h : d ≡ c = cc in ap (λ (x : ℕ). x ∷ run) h

-- a sequence is begun by `+`
pub writes_begun : (characters : List ℕ) (n at : ℕ) (before : List ℕ) (to : WriteProgress) (after : List ℕ)
    → n < length characters → 128 ≤ get_or characters n 0 → at < length before
    → WritesOn characters (written_to (write.Shifted (pending_of [])) n (at + 1)) (set before at plus) to after
    → (to.n ≡ n → ⊥) → WritesOn characters (written_to write.Start n at) before to after
writes_begun characters n at before to after h long l p more =
    let c : ℕ = get_or characters n 0 in
    let rest : List ℕ = drop 1 p.run in
    let first : p.run ≡ c ∷ rest = first_of p.run (drop to.n characters) c (drop (n + 1) characters)
    (omega (arith, p.counts)) (sym p.are ∙ drop_more characters n 0 h) in
    let begun = begun_output c rest (not_direct c long) (λ e. omega (arith, long)) in
    let o : Output = output_for utf7_writes (write.Shifted (pending_of [])) p.run in
    let same : output_for utf7_writes write.Start p.run ≡ output (plus ∷ o.bytes) o.count o.next =
    subst (λ (r : List ℕ). (let o : Output = output_for utf7_writes (write.Shifted (pending_of [])) r in
    output_for utf7_writes write.Start r ≡ output (plus ∷ o.bytes) o.count o.next)) (sym first) begun in
    writes_of characters p.run (plus ∷ o.bytes) (written_to write.Start n at) to before after p.are p.counts p.within
    (same ∙ ap (λ (k : ℕ). output (plus ∷ o.bytes) k o.next) p.count
    ∙ ap (output (plus ∷ o.bytes) 0) (sym p.next))
    (omega (arith, p.ends)) (omega (arith, p.fits, length-set before at plus))
    (p.stand ∙ ap (λ (x : List ℕ). x ++ o.bytes) (take_more_set before at plus l)
    ∙ append_assoc (take at before) (plus ∷ []) o.bytes)
    (p.behind ∙ drop-set-lt (to.end + (length characters - to.n)) before at plus (omega (arith, p.ends)))
    (p.size ∙ length-set before at plus)

-- a lone unit is written, and the direct character after it
pub writes_lone : (characters : List ℕ) (n at c d first second third : ℕ) (before after : List ℕ)
    → n + 2 ≤ length characters → c ≡ get_or characters n 0 → d ≡ get_or characters (n + 1) 0 → 128 ≤ c → c < 0x10000
    → is_direct d ≡ true → first ≡ digit_of (c / 1024) → second ≡ digit_of (c / 16 % 64)
    → third ≡ digit_of (c % 16 * 4) → IsPut (plus ∷ first ∷ second ∷ third ∷ minus ∷ d ∷ []) before at 6 after
    → WritesOn characters (written_to write.Start n at) before (written_to write.Start (n + 2) (at + 6)) after
writes_lone characters n at c d first second third before after within e f l h direct x y z put =
    let bytes : List ℕ = plus ∷ first ∷ second ∷ third ∷ minus ∷ d ∷ [] in
    let there : n + 2 ≡ n + 1 + 1 = omega arith in
    let are : drop n characters ≡ c ∷ d ∷ drop (n + 2) characters =
    drop_more characters n 0 (omega arith) ∙ ap (λ (w : ℕ). w ∷ drop (n + 1) characters) (sym e)
    ∙ ap (λ (w : List ℕ). c ∷ w) (drop_more characters (n + 1) 0 (omega arith)
    ∙ ap (λ (w : ℕ). w ∷ drop (n + 1 + 1) characters) (sym f)
    ∙ ap (λ (i : ℕ). d ∷ drop i characters) (sym there)) in
    let long : length (take at before ++ bytes) ≡ at + 6 =
    simp (length-append, length-take) (omega (arith, put.fits)) in
    writes_of characters (c ∷ d ∷ []) bytes (written_to write.Start n at) (written_to write.Start (n + 2) (at + 6))
    before after are refl within
    (lone_output c d l h direct ∙ rw (sym x, sym y, sym z) refl) refl put.fits
    (ap (take (at + 6)) put.out ∙ take_at (take at before ++ bytes) (drop (at + 6) before) (at + 6) long)
    (further before after (at + 6) (at + 6 + (length characters - (n + 2))) (omega arith)
    (ap (drop (at + 6)) put.out ∙ drop_at (take at before ++ bytes) (drop (at + 6) before) (at + 6) long))
    (ap length put.out ∙ simp (length-append, length-take, length-drop) (omega (arith, put.fits)))

same_place : (a b : WriteProgress) → a.n ≡ b.n → a.end ≡ b.end → a.next ≡ b.next → a ≡ b
same_place a b e f g = ap (λ (n : ℕ). written_to a.next n a.end) e ∙ ap (λ (end : ℕ). written_to a.next b.n end) f
    ∙ ap (λ (t : WriteState). written_to t b.n b.end) g

nothing : (run : List ℕ) → length run ≡ 0 → run ≡ []
nothing [] e = refl
nothing (c ∷ run) e = absurd (omega arith)

-- where no character was written, the place stayed
pub stays : (characters : List ℕ) (from to : WriteProgress) (before after : List ℕ)
    → WritesOn characters from before to after → to.n ≡ from.n → WritesOn characters from before from after
stays characters from to before after p e =
    let none : p.run ≡ [] = nothing p.run (omega (arith, p.counts)) in
    let o : output_for utf7_writes from.next p.run ≡ output [] 0 from.next =
    ap (output_for utf7_writes from.next) none in
    let next : to.next ≡ from.next = p.next ∙ ap (λ (x : Output). x.next) o in
    let end : to.end ≡ from.end = omega (arith, p.ends, ap (λ (x : Output). length x.bytes) o) in
    let same : to ≡ from = same_place to from e end next in
    subst (λ (to : WriteProgress). WritesOn characters from before to after) same p
