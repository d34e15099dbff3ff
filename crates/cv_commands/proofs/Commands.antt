-- What each command asks, by its words.
use Rattle.std.proofs.Common.{◌≡◌, ℕ, ◌-◌, ◌<◌, ◌≤◌, true, false, List, [], ◌∷◌, length, Option, Some, None, refl, sym}
use Rattle.std.proofs.Common.{ap, subst, ◌∙◌, arith}
use Rattle.std.specs.Prelude.{IfSome, nat_le, bytes_eq, codes}
use Rattle.std.specs.Option.{option_map}
use Rattle.std.proofs.lemmas.List.{length-map}
use Rattle.std.proofs.lemmas.Bool.{le-leb, lt-leb}
use Rattle.cv_base.specs.declared.policy.Policy.{Policy}
use Rattle.cv_base.specs.declared.policy.Policy.TheVariants.{Substitute, Strict}
use Rattle.cv_frame.specs.Bodies.{name_body, open_body, conv_body, reset_body, number_body}
use Rattle.cv_frame.specs.Ops.{op_conv}
use Rattle.cv_frame.specs.Sizes.{most_body}
use Rattle.cv_commands.specs.Commands.{with_op, sent_by, text_in, drop_in, policy_in, open_in, conv_in, reset_in}
use Rattle.cv_commands.specs.Commands.{close_in, bye_in, raw_in}
use Rattle.cv_commands.specs.Texts.{text_for}
use Rattle.cv_commands.specs.Words.{is_space, number_in, name_in, bytes_in}
use Rattle.cv_commands.specs.Private.Requests.{only_word, only_two, only_three}
use Rattle.cv_commands.proofs.Sent.{sends_no_large, only_three_are, only_one_is, sends_no_long, only_two_are}

-- ---- names and texts

pub name_short : (word : List ℕ) → length word ≤ 255 → name_in word ≡ Some word
unfolding name_in
name_short word short = let t : nat_le (length word) 255 ≡ true = le-leb (length word) 255 short in rw t refl

pub name_long : (word : List ℕ) → 255 < length word → name_in word ≡ None
unfolding name_in
name_long word long = let t : nat_le (length word) 255 ≡ false = lt-leb (length word) 255 long in rw t refl

-- a text after a space
pub text_is : (rest text : List ℕ) (byte : ℕ) → rest ≡ byte ∷ text → is_space byte ≡ true
    → text_in rest ≡ Some (text_for text)
unfolding text_in
text_is rest text byte e space = rw (e, space) refl

length_text : (text : List ℕ) → length (text_for text) ≡ length text
length_text text = simp length-map

pub text_fits : (rest text bytes : List ℕ) (byte : ℕ) → rest ≡ byte ∷ text → is_space byte ≡ true
    → length text ≤ most_body → bytes ≡ text_for text → (text_in rest ≡ Some bytes) × (length bytes ≤ most_body)
text_fits rest text bytes byte e space short is =
    let size : length (text_for text) ≡ length text = length_text text in (
      text_is rest text byte e space ∙ ap (λ (x : List ℕ). Some x) (sym is),
      omega (arith, short, size, ap (λ (x : List ℕ). length x) is),
    )

-- The text is too long for a body, or there is no text.
abbrev pub IsLong : List ℕ → Type 0
IsLong rest = IfSome (text_in rest) (λ bytes. most_body < length bytes)

pub text_long : (rest text : List ℕ) (byte : ℕ) → rest ≡ byte ∷ text → is_space byte ≡ true → most_body < length text
    → IsLong rest
text_long rest text byte e space long =
    let size : length (text_for text) ≡ length text = length_text text in
    let more : most_body < length (text_for text) = omega (arith, long, size) in
    subst (λ (o : Option (List ℕ)). IfSome o (λ bytes. most_body < length bytes))
    (sym (text_is rest text byte e space)) more

none_long : (rest : List ℕ) → text_in rest ≡ None → IsLong rest
none_long rest e = subst (λ (o : Option (List ℕ)). IfSome o (λ bytes. most_body < length bytes)) (sym e) tt

text_no_space : (rest text : List ℕ) (byte : ℕ) → rest ≡ byte ∷ text → is_space byte ≡ false → text_in rest ≡ None
unfolding text_in
text_no_space rest text byte e other = rw (e, other) refl

text_empty : (rest : List ℕ) → length rest < 1 → text_in rest ≡ None
unfolding text_in
text_empty [] none = refl
text_empty (x ∷ rest) none = absurd (omega (arith, none))

pub other_long : (rest text : List ℕ) (byte : ℕ) → rest ≡ byte ∷ text → is_space byte ≡ false → IsLong rest
other_long rest text byte e other = none_long rest (text_no_space rest text byte e other)

pub empty_long : (rest : List ℕ) → length rest < 1 → IsLong rest
empty_long rest none = none_long rest (text_empty rest none)

-- ---- drop, close, bye

drop_word : (name : List ℕ) (o : Option (List ℕ)) → name_in name ≡ o → drop_in (name ∷ []) ≡ option_map name_body o
unfolding drop_in
drop_word name o e = rw e refl

pub drop_is : (words : List (List ℕ)) (name : List ℕ) (o : Option (List ℕ)) → Some name ≡ only_word words
    → name_in name ≡ o → drop_in words ≡ option_map name_body o
drop_is words name o one e = ap drop_in (only_one_is words name one) ∙ drop_word name o e

pub drop_none : (words : List (List ℕ)) → None ≡ only_word words → drop_in words ≡ None
unfolding drop_in
drop_none [] e = refl
drop_none (x ∷ []) e = absurd cc
drop_none (x ∷ y ∷ words) e = refl

close_word : (number : List ℕ) (o : Option ℕ) → number_in number ≡ o → close_in (number ∷ []) ≡ option_map number_body o
unfolding close_in
close_word number o e = rw e refl

pub close_is : (words : List (List ℕ)) (number : List ℕ) (o : Option ℕ) → Some number ≡ only_word words
    → number_in number ≡ o → close_in words ≡ option_map number_body o
close_is words number o one e = ap close_in (only_one_is words number one) ∙ close_word number o e

pub close_none : (words : List (List ℕ)) → None ≡ only_word words → close_in words ≡ None
unfolding close_in
close_none [] e = refl
close_none (x ∷ []) e = absurd cc
close_none (x ∷ y ∷ words) e = refl

bye_alone : bye_in [] ≡ Some []
unfolding bye_in
bye_alone = refl

pub bye_is : (words : List (List ℕ)) → words ≡ [] → bye_in words ≡ Some []
bye_is words none = ap bye_in none ∙ bye_alone

pub bye_none : (words : List (List ℕ)) → (words ≡ [] → ⊥) → bye_in words ≡ None
unfolding bye_in
bye_none [] some = absurd (some refl)
bye_none (x ∷ words) some = refl

-- ---- reset, raw

reset_words : (number room : List ℕ) (n : ℕ) (o : Option ℕ) → number_in number ≡ Some n → number_in room ≡ o
    → reset_in (number ∷ room ∷ []) ≡ option_map (reset_body n) o
unfolding reset_in
reset_words number room n o e f = rw (e, f) refl

pub reset_is : (words : List (List ℕ)) (number room : List ℕ) (n : ℕ) (o : Option ℕ) → Some (number, room)
    ≡ only_two words → number_in number ≡ Some n → number_in room ≡ o → reset_in words ≡ option_map (reset_body n) o
reset_is words number room n o two e f = ap reset_in (only_two_are words number room two)
    ∙ reset_words number room n o e f

reset_no_words : (number room : List ℕ) → number_in number ≡ None → reset_in (number ∷ room ∷ []) ≡ None
unfolding reset_in
reset_no_words number room e = rw e refl

pub reset_no_number : (words : List (List ℕ)) (number room : List ℕ) → Some (number, room) ≡ only_two words
    → number_in number ≡ None → reset_in words ≡ None
reset_no_number words number room two e = ap reset_in (only_two_are words number room two)
    ∙ reset_no_words number room e

pub reset_none : (words : List (List ℕ)) → None ≡ only_two words → reset_in words ≡ None
unfolding reset_in
reset_none [] e = refl
reset_none (x ∷ []) e = refl
reset_none (x ∷ y ∷ []) e = absurd cc
reset_none (x ∷ y ∷ z ∷ words) e = refl

raw_words : (op body : List ℕ) (n : ℕ) → number_in op ≡ Some n → raw_in (op ∷ body ∷ []) ≡ with_op n (bytes_in body)
unfolding raw_in
raw_words op body n e = rw e refl

pub raw_is : (words : List (List ℕ)) (op body : List ℕ) (n : ℕ) → Some (op, body) ≡ only_two words
    → number_in op ≡ Some n → raw_in words ≡ with_op n (bytes_in body)
raw_is words op body n two e = ap raw_in (only_two_are words op body two) ∙ raw_words op body n e

raw_no_words : (op body : List ℕ) → number_in op ≡ None → raw_in (op ∷ body ∷ []) ≡ None
unfolding raw_in
raw_no_words op body e = rw e refl

pub raw_no_number : (words : List (List ℕ)) (op body : List ℕ) → Some (op, body) ≡ only_two words → number_in op ≡ None
    → raw_in words ≡ None
raw_no_number words op body two e = ap raw_in (only_two_are words op body two) ∙ raw_no_words op body e

pub raw_none : (words : List (List ℕ)) → None ≡ only_two words → raw_in words ≡ None
unfolding raw_in
raw_none [] e = refl
raw_none (x ∷ []) e = refl
raw_none (x ∷ y ∷ []) e = absurd cc
raw_none (x ∷ y ∷ z ∷ words) e = refl

-- ---- conv

conv_words : (number room input : List ℕ) (n r : ℕ) (o : Option (List ℕ)) → number_in number ≡ Some n
    → number_in room ≡ Some r → bytes_in input ≡ o → conv_in (number ∷ room ∷ input ∷ []) ≡ option_map (conv_body n r) o
unfolding conv_in
conv_words number room input n r o e f g = rw (e, f, g) refl

pub conv_is : (words : List (List ℕ)) (number room input : List ℕ) (n r : ℕ) (o : Option (List ℕ))
    → Some (number, room, input) ≡ only_three words → number_in number ≡ Some n → number_in room ≡ Some r
    → bytes_in input ≡ o → conv_in words ≡ option_map (conv_body n r) o
conv_is words number room input n r o three e f g = ap conv_in (only_three_are words number room input three)
    ∙ conv_words number room input n r o e f g

conv_no_first : (number room input : List ℕ) → number_in number ≡ None → conv_in (number ∷ room ∷ input ∷ []) ≡ None
unfolding conv_in
conv_no_first number room input e = rw e refl

conv_no_second : (number room input : List ℕ) (n : ℕ) → number_in number ≡ Some n → number_in room ≡ None
    → conv_in (number ∷ room ∷ input ∷ []) ≡ None
unfolding conv_in
conv_no_second number room input n e f = rw (e, f) refl

pub conv_no_number : (words : List (List ℕ)) (number room input : List ℕ)
    → Some (number, room, input) ≡ only_three words → number_in number ≡ None → conv_in words ≡ None
conv_no_number words number room input three e = ap conv_in (only_three_are words number room input three)
    ∙ conv_no_first number room input e

pub conv_no_room : (words : List (List ℕ)) (number room input : List ℕ) (n : ℕ) → Some (number, room, input)
    ≡ only_three words → number_in number ≡ Some n → number_in room ≡ None → conv_in words ≡ None
conv_no_room words number room input n three e f = ap conv_in (only_three_are words number room input three)
    ∙ conv_no_second number room input n e f

pub conv_none : (words : List (List ℕ)) → None ≡ only_three words → conv_in words ≡ None
unfolding conv_in
conv_none [] e = refl
conv_none (x ∷ []) e = refl
conv_none (x ∷ y ∷ []) e = refl
conv_none (x ∷ y ∷ z ∷ []) e = absurd cc
conv_none (x ∷ y ∷ z ∷ u ∷ words) e = refl

-- the body of a CONV is longer than its input by two numbers
pub conv_long : (n r : ℕ) (input : Option (List ℕ)) → IfSome input (λ bytes. most_body - 8 < length bytes)
    → IfSome (option_map (conv_body n r) input) (λ bytes. most_body < length bytes)
conv_long n r None long = tt
conv_long n r (Some bytes) long = omega (arith, long)

-- a command whose body would be too long, or whose op is no byte, asks nothing
pub conv_too_long : (caller tag : ℕ) (words : List (List ℕ)) (number room input : List ℕ) (n r : ℕ)
    → Some (number, room, input) ≡ only_three words → number_in number ≡ Some n → number_in room ≡ Some r
    → IfSome (bytes_in input) (λ bytes. most_body - 8 < length bytes)
    → sent_by caller tag (with_op op_conv (conv_in words)) ≡ None
conv_too_long caller tag words number room input n r three e f long = ap (λ (b : Option (List ℕ)). sent_by caller tag
    (with_op op_conv b)) (conv_is words number room input n r (bytes_in input) three e f refl) ∙ sends_no_long caller
    tag op_conv (option_map (conv_body n r) (bytes_in input)) (conv_long n r (bytes_in input) long)

pub raw_too_long : (caller tag : ℕ) (words : List (List ℕ)) (op body : List ℕ) (n : ℕ)
    → Some (op, body) ≡ only_two words → number_in op ≡ Some n
    → IfSome (bytes_in body) (λ bytes. most_body < length bytes) → sent_by caller tag (raw_in words) ≡ None
raw_too_long caller tag words op body n two e long = ap (sent_by caller tag) (raw_is words op body n two e)
    ∙ sends_no_long caller tag n (bytes_in body) long

pub raw_too_large : (caller tag : ℕ) (words : List (List ℕ)) (op body : List ℕ) (n : ℕ)
    → Some (op, body) ≡ only_two words → number_in op ≡ Some n → 256 ≤ n → sent_by caller tag (raw_in words) ≡ None
raw_too_large caller tag words op body n two e large = ap (sent_by caller tag) (raw_is words op body n two e)
    ∙ sends_no_large caller tag n (bytes_in body) large

-- ---- open

strict_word : (word : List ℕ) → bytes_eq word (codes "strict") ≡ true → policy_in (word ∷ []) ≡ Some Strict
unfolding policy_in
strict_word word e = rw e refl

pub policy_strict : (words : List (List ℕ)) (word : List ℕ) → Some word ≡ only_word words
    → bytes_eq word (codes "strict") ≡ true → policy_in words ≡ Some Strict
policy_strict words word one e = ap policy_in (only_one_is words word one) ∙ strict_word word e

other_word : (word : List ℕ) → bytes_eq word (codes "strict") ≡ false → policy_in (word ∷ []) ≡ None
unfolding policy_in
other_word word e = rw e refl

pub policy_other : (words : List (List ℕ)) (word : List ℕ) → Some word ≡ only_word words
    → bytes_eq word (codes "strict") ≡ false → policy_in words ≡ None
policy_other words word one e = ap policy_in (only_one_is words word one) ∙ other_word word e

no_policy : policy_in [] ≡ Some Substitute
unfolding policy_in
no_policy = refl

pub policy_default : (words : List (List ℕ)) → words ≡ [] → policy_in words ≡ Some Substitute
policy_default words none = ap policy_in none ∙ no_policy

pub policy_none : (words : List (List ℕ)) → (words ≡ [] → ⊥) → None ≡ only_word words → policy_in words ≡ None
unfolding policy_in
policy_none [] some e = absurd (some refl)
policy_none (x ∷ []) some e = absurd cc
policy_none (x ∷ y ∷ words) some e = refl

open_words : (target source : List ℕ) (words : List (List ℕ)) (to from : List ℕ) (o : Option Policy)
    → name_in target ≡ Some to → name_in source ≡ Some from → policy_in words ≡ o
    → open_in (target ∷ source ∷ words) ≡ option_map (open_body to from) o
unfolding open_in
open_words target source words to from o e f g = rw (e, f, g) refl

open_no_first : (target source : List ℕ) (words : List (List ℕ)) → name_in target ≡ None
    → open_in (target ∷ source ∷ words) ≡ None
unfolding open_in
open_no_first target source words e = rw e refl

open_no_second : (target source : List ℕ) (words : List (List ℕ)) (to : List ℕ) → name_in target ≡ Some to
    → name_in source ≡ None → open_in (target ∷ source ∷ words) ≡ None
unfolding open_in
open_no_second target source words to e f = rw (e, f) refl

-- the words of an open, and those after its names
pub open_is : (words others rest : List (List ℕ)) (target source to from : List ℕ) (o : Option Policy) → words ≡ target
    ∷ others → others ≡ source ∷ rest → name_in target ≡ Some to → name_in source ≡ Some from → policy_in rest ≡ o
    → open_in words ≡ option_map (open_body to from) o
open_is words others rest target source to from o first second e f g =
    rw (first, second) (open_words target source rest to from o e f g)

pub open_no_target : (words others rest : List (List ℕ)) (target source : List ℕ) → words ≡ target ∷ others
    → others ≡ source ∷ rest → name_in target ≡ None → open_in words ≡ None
open_no_target words others rest target source first second e = rw (first, second) (open_no_first target source rest e)

pub open_no_source : (words others rest : List (List ℕ)) (target source to : List ℕ) → words ≡ target ∷ others
    → others ≡ source ∷ rest → name_in target ≡ Some to → name_in source ≡ None → open_in words ≡ None
open_no_source words others rest target source to first second e f =
    rw (first, second) (open_no_second target source rest to e f)

pub open_none : (words : List (List ℕ)) → words ≡ [] → open_in words ≡ None
unfolding open_in
open_none words none = rw none refl

pub open_one : (words others : List (List ℕ)) (target : List ℕ) → words ≡ target ∷ others → others ≡ []
    → open_in words ≡ None
unfolding open_in
open_one words others target first none = rw (first, none) refl
