-- The symbolic names of characters that have more than one letter. The list is this project's own, after the portable
-- character set of XBD 6.1.
use Rattle.std.specs.Prelude.{ℕ, List, [], ◌∷◌, codes}

-- Each name with its character.
abbrev pub symbols : List (List ℕ × ℕ)
symbols =
    (codes "NUL", 0x00) ∷ (codes "alert", 0x07) ∷ (codes "backspace", 0x08) ∷ (codes "tab", 0x09) ∷
    (codes "newline", 0x0A) ∷ (codes "vertical-tab", 0x0B) ∷ (codes "form-feed", 0x0C) ∷
    (codes "carriage-return", 0x0D) ∷ (codes "space", 0x20) ∷ (codes "exclamation-mark", 0x21) ∷
    (codes "quotation-mark", 0x22) ∷ (codes "number-sign", 0x23) ∷ (codes "dollar-sign", 0x24) ∷
    (codes "percent-sign", 0x25) ∷ (codes "ampersand", 0x26) ∷ (codes "apostrophe", 0x27) ∷
    (codes "left-parenthesis", 0x28) ∷ (codes "right-parenthesis", 0x29) ∷ (codes "asterisk", 0x2A) ∷
    (codes "plus-sign", 0x2B) ∷ (codes "comma", 0x2C) ∷ (codes "hyphen", 0x2D) ∷ (codes "hyphen-minus", 0x2D) ∷
    (codes "period", 0x2E) ∷ (codes "full-stop", 0x2E) ∷ (codes "slash", 0x2F) ∷ (codes "solidus", 0x2F) ∷
    (codes "zero", 0x30) ∷ (codes "one", 0x31) ∷ (codes "two", 0x32) ∷ (codes "three", 0x33) ∷ (codes "four", 0x34) ∷
    (codes "five", 0x35) ∷ (codes "six", 0x36) ∷ (codes "seven", 0x37) ∷ (codes "eight", 0x38) ∷
    (codes "nine", 0x39) ∷ (codes "colon", 0x3A) ∷ (codes "semicolon", 0x3B) ∷ (codes "less-than-sign", 0x3C) ∷
    (codes "equals-sign", 0x3D) ∷ (codes "greater-than-sign", 0x3E) ∷ (codes "question-mark", 0x3F) ∷
    (codes "commercial-at", 0x40) ∷ (codes "left-square-bracket", 0x5B) ∷ (codes "backslash", 0x5C) ∷
    (codes "reverse-solidus", 0x5C) ∷ (codes "right-square-bracket", 0x5D) ∷ (codes "circumflex", 0x5E) ∷
    (codes "circumflex-accent", 0x5E) ∷ (codes "underscore", 0x5F) ∷ (codes "low-line", 0x5F) ∷
    (codes "grave-accent", 0x60) ∷ (codes "left-brace", 0x7B) ∷ (codes "left-curly-bracket", 0x7B) ∷
    (codes "vertical-line", 0x7C) ∷ (codes "right-brace", 0x7D) ∷ (codes "right-curly-bracket", 0x7D) ∷
    (codes "tilde", 0x7E) ∷ []
