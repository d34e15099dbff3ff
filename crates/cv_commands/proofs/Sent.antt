-- Requests that are sent, and lines of one, two or three words.
use Rattle.std.proofs.Common.{◌≡◌, ℕ, ◌<◌, ◌≤◌, Bool, true, false, List, [], ◌∷◌, ◌++◌, length, Option, Some, None}
use Rattle.std.proofs.Common.{Result, Err, refl, sym, ap, subst, ◌∙◌}
use Rattle.std.specs.Prelude.{IfSome, nat_lt, nat_le}
use Rattle.std.proofs.lemmas.Bool.{lt-ltb, le-ltb, le-leb, lt-leb}
use Rattle.cv_frame.specs.Message.{Message, spelling, FitsFrame}
use Rattle.cv_frame.specs.Sizes.{most_body}
use Rattle.cv_commands.specs.Commands.{Asked, with_op, framed, sent_by}
use Rattle.cv_commands.specs.Private.Requests.{AddsRequest, Adds, Says, SaysWithin, only_word, only_two, only_three}
use Rattle.cv_commands.specs.declared.requests.LineFault.{LineFault}
use Rattle.cv_commands.specs.declared.requests.LineFault.TheVariants.{NotACommand, Memory}

-- ---- one, two or three words

pub only_one_is : (words : List (List ℕ)) (a : List ℕ) → Some a ≡ only_word words → words ≡ a ∷ []
only_one_is [] a e = absurd cc
only_one_is (x ∷ []) a e = cc
only_one_is (x ∷ y ∷ words) a e = absurd cc

pub only_two_are : (words : List (List ℕ)) (a b : List ℕ) → Some (a, b) ≡ only_two words → words ≡ a ∷ b ∷ []
only_two_are [] a b e = absurd cc
only_two_are (x ∷ []) a b e = absurd cc
only_two_are (x ∷ y ∷ []) a b e =
    let p : ◌≡◌ {A = List ℕ × List ℕ} (a, b) (x, y) = cc in
    let f : a ≡ x = ap (λ (w : List ℕ × List ℕ). w.0) p in
    let g : b ≡ y = ap (λ (w : List ℕ × List ℕ). w.1) p in
    cc
only_two_are (x ∷ y ∷ z ∷ words) a b e = absurd cc

pub only_three_are : (words : List (List ℕ)) (a b c : List ℕ) → Some (a, b, c) ≡ only_three words
    → words ≡ a ∷ b ∷ c ∷ []
only_three_are [] a b c e = absurd cc
only_three_are (x ∷ []) a b c e = absurd cc
only_three_are (x ∷ y ∷ []) a b c e = absurd cc
only_three_are (x ∷ y ∷ z ∷ []) a b c e =
    let p : ◌≡◌ {A = List ℕ × List ℕ × List ℕ} (a, b, c) (x, y, z) = cc in
    let f : a ≡ x = ap (λ (w : List ℕ × List ℕ × List ℕ). w.0) p in
    let g : b ≡ y = ap (λ (w : List ℕ × List ℕ × List ℕ). w.1) p in
    let h : c ≡ z = ap (λ (w : List ℕ × List ℕ × List ℕ). w.2) p in
    cc
only_three_are (x ∷ y ∷ z ∷ u ∷ words) a b c e = absurd cc

-- ---- a request

framed_fits : (caller tag op : ℕ) (body : List ℕ) → op < 256 → length body ≤ most_body
    → framed caller tag (op, body) ≡ Some (record { caller = caller; tag = tag; code = op; body = body })
unfolding framed
framed_fits caller tag op body small short =
    let s : nat_lt op 256 ≡ true = lt-ltb op 256 small in
    let t : nat_le (length body) most_body ≡ true = le-leb (length body) most_body short in
    rw (s, t) refl

-- what is asked, and fits a frame, is sent
pub sends : (frames frames' : List ℕ) (caller tag op : ℕ) (body : List ℕ) (asked : Option Asked)
    → asked ≡ Some (op, body) → FitsFrame (record { caller = caller; tag = tag; code = op; body = body })
    → frames' ≡ frames ++ spelling (record { caller = caller; tag = tag; code = op; body = body })
    → AddsRequest frames frames' (sent_by caller tag asked)
sends frames frames' caller tag op body asked e fits more = record {
  request = record { caller = caller; tag = tag; code = op; body = body };
  is = ap (sent_by caller tag) e ∙ framed_fits caller tag op body fits.code fits.body;
  fits = fits;
  adds = more;
}

-- what is asked may be replaced by an equal
pub same : {A : Type 0} (r : Result A LineFault) (frames frames' : List ℕ) (caller tag : ℕ) (asked other : Option Asked)
    → asked ≡ other
    → Adds r frames frames' (sent_by caller tag other) → Adds r frames frames' (sent_by caller tag asked)
same r frames frames' caller tag asked other e h =
    subst (λ (o : Option Asked). Adds r frames frames' (sent_by caller tag o)) (sym e) h

pub same_request : {A : Type 0} (r : Result A LineFault) (frames frames' : List ℕ) (asked other : Option Message)
    → asked ≡ other → Adds r frames frames' other → Adds r frames frames' asked
same_request r frames frames' asked other e h = subst (λ (o : Option Message). Adds r frames frames' o) (sym e) h

-- if a word means nothing, the line asks nothing
pub fails : {A B : Type 0} (fault : LineFault) (seen : A → B) (said : Option B) (frames frames' : List ℕ)
    (asked : Option Message) → Says {A = A} {B = B} (Err fault) seen said
    → (said ≡ None → asked ≡ None) → Adds {A = Unit {0}} (Err fault) frames frames' asked
fails NotACommand seen said frames frames' asked h none = none h
fails Memory seen said frames frames' asked h none = tt

pub fails_long : (fault : LineFault) (most : ℕ) (said : Option (List ℕ)) (frames frames' : List ℕ)
    (asked : Option Message) → SaysWithin (Err fault) most said
    → (IfSome said (λ bytes. most < length bytes) → asked ≡ None) → Adds {A = Unit {0}} (Err fault) frames frames' asked
fails_long NotACommand most said frames frames' asked h none = none h
fails_long Memory most said frames frames' asked h none = tt

-- if nothing is asked, nothing is sent
pub sends_none : (caller tag : ℕ) (asked : Option Asked) → asked ≡ None → sent_by caller tag asked ≡ None
sends_none caller tag asked e = ap (sent_by caller tag) e

-- nor if the body is too long
framed_long : (caller tag op : ℕ) (body : List ℕ) (small : Bool) → nat_lt op 256 ≡ small → most_body < length body
    → framed caller tag (op, body) ≡ None
unfolding framed
framed_long caller tag op body true s long =
    let t : nat_le (length body) most_body ≡ false = lt-leb (length body) most_body long in rw (s, t) refl
framed_long caller tag op body false s long = rw s refl

pub sends_no_long : (caller tag op : ℕ) (body : Option (List ℕ)) → IfSome body (λ bytes. most_body < length bytes)
    → sent_by caller tag (with_op op body) ≡ None
sends_no_long caller tag op None long = refl
sends_no_long caller tag op (Some bytes) long = framed_long caller tag op bytes (nat_lt op 256) refl long

-- nor if the op is no byte
framed_large : (caller tag op : ℕ) (body : List ℕ) → 256 ≤ op → framed caller tag (op, body) ≡ None
unfolding framed
framed_large caller tag op body large = let s : nat_lt op 256 ≡ false = le-ltb op 256 large in rw s refl

pub sends_no_large : (caller tag op : ℕ) (body : Option (List ℕ)) → 256 ≤ op
    → sent_by caller tag (with_op op body) ≡ None
sends_no_large caller tag op None large = refl
sends_no_large caller tag op (Some bytes) large = framed_large caller tag op bytes large
