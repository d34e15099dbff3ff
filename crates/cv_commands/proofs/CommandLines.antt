-- What a line asks, by its first words.
use Rattle.std.proofs.Common.{◌≡◌, ℕ, true, false, List, [], ◌∷◌, Some, None, refl, ap, ◌∙◌}
use Rattle.std.specs.Prelude.{bytes_eq, codes}
use Rattle.cv_frame.specs.Ops.{op_put, op_drop, op_open, op_conv, op_reset, op_close, op_bye, op_part}
use Rattle.cv_commands.specs.Commands.{with_op, sent_by, text_in, drop_in, open_in, conv_in, reset_in, close_in}
use Rattle.cv_commands.specs.Commands.{bye_in, raw_in, asked_by, request_by, request_in}
use Rattle.cv_commands.specs.Words.{words_of, after_word, number_in}

-- ---- a line

request_words : (caller tag command : List ℕ) (words : List (List ℕ)) (text : List ℕ) (c t : ℕ)
    → number_in caller ≡ Some c → number_in tag ≡ Some t
    → request_by (caller ∷ tag ∷ command ∷ words) text ≡ sent_by c t (asked_by command words text)
unfolding request_by
request_words caller tag command words text c t e f = rw (e, f) refl

-- The first three words of a line, the caller, the tag and the command, and what follows each.
pub record ThreeWords (line first second third caller tag command : List ℕ) : Type 0 where
  pub one : (words_of line ≡ caller ∷ words_of first) × (after_word line ≡ first)
  pub two : (words_of first ≡ tag ∷ words_of second) × (after_word first ≡ second)
  pub three : (words_of second ≡ command ∷ words_of third) × (after_word second ≡ third)

request_three : (line first second third caller tag command : List ℕ) → ThreeWords line first second third caller tag
    command → request_in line ≡ request_by (caller ∷ tag ∷ command ∷ words_of third) third
unfolding request_in
request_three line first second third caller tag command p =
    let text : after_word (after_word (after_word line)) ≡ third =
    ap (λ (x : List ℕ). after_word (after_word x)) p.one.1 ∙ ap after_word p.two.1 ∙ p.three.1 in
    let words : words_of line ≡ caller ∷ tag ∷ command ∷ words_of third =
    p.one.0 ∙ ap (λ (ws : List (List ℕ)). caller ∷ ws) (p.two.0 ∙ ap (λ (ws : List (List ℕ)). tag ∷ ws) p.three.0) in
    rw (words, text) refl

pub request_is : (line first second third caller tag command : List ℕ) (c t : ℕ)
    → ThreeWords line first second third caller tag command → number_in caller ≡ Some c → number_in tag ≡ Some t
    → request_in line ≡ sent_by c t (asked_by command (words_of third) third)
request_is line first second third caller tag command c t p e f = request_three line first second third caller tag
    command p ∙ request_words caller tag command (words_of third) third c t e f

request_no_words : (caller tag command : List ℕ) (words : List (List ℕ)) (text : List ℕ) → number_in caller ≡ None
    → request_by (caller ∷ tag ∷ command ∷ words) text ≡ None
unfolding request_by
request_no_words caller tag command words text e = rw e refl

request_no_others : (caller tag command : List ℕ) (words : List (List ℕ)) (text : List ℕ) (c : ℕ)
    → number_in caller ≡ Some c → number_in tag ≡ None → request_by (caller ∷ tag ∷ command ∷ words) text ≡ None
unfolding request_by
request_no_others caller tag command words text c e f = rw (e, f) refl

pub request_no_caller : (line first second third caller tag command : List ℕ)
    → ThreeWords line first second third caller tag command → number_in caller ≡ None → request_in line ≡ None
request_no_caller line first second third caller tag command p e = request_three line first second third caller tag
    command p ∙ request_no_words caller tag command (words_of third) third e

pub request_no_tag : (line first second third caller tag command : List ℕ) (c : ℕ) → ThreeWords line first second third
    caller tag command → number_in caller ≡ Some c → number_in tag ≡ None → request_in line ≡ None
request_no_tag line first second third caller tag command c p e f = request_three line first second third caller tag
    command p ∙ request_no_others caller tag command (words_of third) third c e f

-- lines of fewer than three words
pub request_short : (line first second : List ℕ) (caller tag : List ℕ) → words_of line ≡ caller ∷ words_of first
    → words_of first ≡ tag ∷ words_of second → words_of second ≡ [] → request_in line ≡ None
unfolding request_in request_by
request_short line first second caller tag e f g = rw (e, f, g) refl

pub request_one : (line first : List ℕ) (caller : List ℕ) → words_of line ≡ caller ∷ words_of first
    → words_of first ≡ [] → request_in line ≡ None
unfolding request_in request_by
request_one line first caller e f = rw (e, f) refl

pub request_none : (line : List ℕ) → words_of line ≡ [] → request_in line ≡ None
unfolding request_in request_by
request_none line e = rw e refl

-- ---- a command by its word

module _ (command : List ℕ) (words : List (List ℕ)) (text : List ℕ) where
  -- The word is this command.
  abbrev pub Is : List ℕ → Type 0
  Is name = bytes_eq command name ≡ true

  abbrev pub IsNot : List ℕ → Type 0
  IsNot name = bytes_eq command name ≡ false

  pub asked_put : Is (codes "put") → asked_by command words text ≡ with_op op_put (text_in text)
  unfolding asked_by
  asked_put is = rw is refl

  pub asked_part : IsNot (codes "put") → Is (codes "part")
      → asked_by command words text ≡ with_op op_part (text_in text)
  unfolding asked_by
  asked_part a is = rw (a, is) refl

  pub asked_drop : IsNot (codes "put") → IsNot (codes "part") → Is (codes "drop")
      → asked_by command words text ≡ with_op op_drop (drop_in words)
  unfolding asked_by
  asked_drop a b is = rw (a, b, is) refl

  pub asked_open : IsNot (codes "put") → IsNot (codes "part") → IsNot (codes "drop") → Is (codes "open")
      → asked_by command words text ≡ with_op op_open (open_in words)
  unfolding asked_by
  asked_open a b c is = rw (a, b, c, is) refl

  pub asked_conv : IsNot (codes "put") → IsNot (codes "part") → IsNot (codes "drop") → IsNot (codes "open")
      → Is (codes "conv") → asked_by command words text ≡ with_op op_conv (conv_in words)
  unfolding asked_by
  asked_conv a b c d is = rw (a, b, c, d, is) refl

  pub asked_reset : IsNot (codes "put") → IsNot (codes "part") → IsNot (codes "drop") → IsNot (codes "open")
      → IsNot (codes "conv") → Is (codes "reset") → asked_by command words text ≡ with_op op_reset (reset_in words)
  unfolding asked_by
  asked_reset a b c d e is = rw (a, b, c, d, e, is) refl

  pub asked_close : IsNot (codes "put") → IsNot (codes "part") → IsNot (codes "drop") → IsNot (codes "open")
      → IsNot (codes "conv") → IsNot (codes "reset") → Is (codes "close")
      → asked_by command words text ≡ with_op op_close (close_in words)
  unfolding asked_by
  asked_close a b c d e f is = rw (a, b, c, d, e, f, is) refl

  pub asked_bye : IsNot (codes "put") → IsNot (codes "part") → IsNot (codes "drop") → IsNot (codes "open")
      → IsNot (codes "conv") → IsNot (codes "reset") → IsNot (codes "close") → Is (codes "bye")
      → asked_by command words text ≡ with_op op_bye (bye_in words)
  unfolding asked_by
  asked_bye a b c d e f g is = rw (a, b, c, d, e, f, g, is) refl

  pub asked_raw : IsNot (codes "put") → IsNot (codes "part") → IsNot (codes "drop") → IsNot (codes "open")
      → IsNot (codes "conv") → IsNot (codes "reset") → IsNot (codes "close") → IsNot (codes "bye")
      → Is (codes "raw") → asked_by command words text ≡ raw_in words
  unfolding asked_by
  asked_raw a b c d e f g h is = rw (a, b, c, d, e, f, g, h, is) refl

  pub asked_nothing : IsNot (codes "put") → IsNot (codes "part") → IsNot (codes "drop") → IsNot (codes "open")
      → IsNot (codes "conv") → IsNot (codes "reset") → IsNot (codes "close") → IsNot (codes "bye")
      → IsNot (codes "raw") → asked_by command words text ≡ None
  unfolding asked_by
  asked_nothing a b c d e f g h i = rw (a, b, c, d, e, f, g, h, i) refl
