-- A script is read line by line. Each line is the first of what is left.
use Rattle.std.proofs.Common.{◌≡◌, ℕ, ◌+◌, ◌-◌, ◌^◌, ◌<◌, ◌==◌, min, Bool, true, false, List, [], ◌∷◌, ◌++◌, length}
use Rattle.std.proofs.Common.{take, drop, Option, Some, None, sym, ap, ◌∙◌, append_assoc, arith}
use Rattle.std.specs.Prelude.{count_by, filter_map}
use Rattle.std.specs.List.{position, position_or_len}
use Rattle.std.specs.Option.{option_map}
use Rattle.std.proofs.lemmas.List.{append-nil}
use Rattle.std.proofs.lemmas.List.Elements.{All-from_get_or}
use Rattle.std.proofs.lemmas.List.Splits.{slice_split_none, slice_split_first}
use Rattle.std.proofs.lemmas.List.Sums.{fails_before_first}
use Rattle.cv_frame.specs.Message.{Message}
use Rattle.cv_frame.specs.Cut.{messages_of, IsCut}
use Rattle.cv_commands.specs.Commands.{request_in}
use Rattle.cv_commands.specs.Scripts.{asks, asking_lines, asked_in, is_fault, line_number, lines_in, requests_in}
use Rattle.cv_commands.specs.Scripts.{fault_in}
use Rattle.cv_commands.specs.Private.Requests.{AddsRequest, lines_left}
use Rattle.cv_commands.proofs.Gathered.{Gathered, Gathered-skip, Gathered-more, Gathered-stops, no_fault, many}
use Rattle.cv_commands.proofs.Gathered.{joined_cut}

-- whether a byte ends a line
abbrev pub ends : ℕ → Bool
ends byte = byte == 10

-- a text in which no line ends
pub one_line : (text : List ℕ) (n : ℕ) → n ≡ position_or_len ends text → n ≡ length text → lines_in text ≡ text ∷ []
one_line text n is all = slice_split_none ends text (All-from_get_or (λ (byte : ℕ). ends byte ≡ false) text 0
    (λ i lt. fails_before_first ends text i 0 (omega (arith, is, all, lt))))

-- a text in which one ends
pub first_line : (text line rest : List ℕ) (n : ℕ) → n ≡ position_or_len ends text → n < length text
    → line ≡ take n text → rest ≡ drop (n + 1) text → lines_in text ≡ line ∷ lines_in rest
first_line text line rest n is lt front back =
    let within : position_or_len ends text < length text = omega (arith, is, lt) in
    rw (front, back, is) (slice_split_first ends text 0 within)

-- The lines before what is left of a script were read.
pub record Reading (frames script : List ℕ) (number : ℕ) (left : Option (List ℕ)) : Type 0 where
  pub lines : List (List ℕ)
  pub gathered : Gathered frames number lines
  pub all : lines_in script ≡ lines ++ lines_left left

one_more : (script : List ℕ) (lines after : List (List ℕ)) (line : List ℕ) (left : Option (List ℕ)) → lines_in script
    ≡ lines ++ after → after ≡ line ∷ lines_left left → lines_in script ≡ (lines ++ line ∷ []) ++ lines_left left
one_more script lines after line left all is = all ∙ ap (λ (x : List (List ℕ)). lines ++ x) is
    ∙ sym (append_assoc lines (line ∷ []) (lines_left left))

-- one more line, which is skipped
pub Reading-skip : (frames script text line : List ℕ) (number number' : ℕ) (left : Option (List ℕ))
    → Reading frames script number (Some text) → lines_in text ≡ line ∷ lines_left left
    → asks line ≡ false → number' ≡ min (number + 1) (2 ^ 32 - 1) → Reading frames script number' left
Reading-skip frames script text line number number' left p is e counted = record {
  lines = p.lines ++ line ∷ [];
  gathered = Gathered-skip frames number number' p.lines line p.gathered e counted;
  all = one_more script p.lines (lines_in text) line left p.all is;
}

-- one more line, which adds the frame that it asks
pub Reading-more : (frames frames' script text line : List ℕ) (number number' : ℕ) (left : Option (List ℕ))
    → Reading frames script number (Some text) → lines_in text ≡ line ∷ lines_left left → asks line ≡ true → number'
    ≡ min (number + 1) (2 ^ 32 - 1) → AddsRequest frames frames' (request_in line) → Reading frames' script number' left
Reading-more frames frames' script text line number number' left p is e counted q = record {
  lines = p.lines ++ line ∷ [];
  gathered = Gathered-more frames frames' number number' p.lines line p.gathered e counted q;
  all = one_more script p.lines (lines_in text) line left p.all is;
}

-- one more line, which is no command and the first at fault
pub Reading-stops : (frames script text line : List ℕ) (number number' : ℕ) (left : Option (List ℕ))
    → Reading frames script number (Some text) → lines_in text ≡ line ∷ lines_left left → asks line ≡ true
    → number' ≡ min (number + 1) (2 ^ 32 - 1) → request_in line ≡ None → fault_in script ≡ Some number'
Reading-stops frames script text line number number' left p is e counted none =
    Gathered-stops frames number number' script p.lines (lines_left left) line p.gathered e counted none
    (p.all ∙ ap (λ (x : List (List ℕ)). p.lines ++ x) is)

-- The frames are the requests of a script in which no line is at fault.
pub record ReadsAll (frames script : List ℕ) : Type 0 where
  pub whole : IsCut frames (messages_of frames) []
  pub requests : messages_of frames ≡ requests_in script
  pub commands : length (messages_of frames) ≡ asking_lines script
  pub fault : fault_in script ≡ None

-- if nothing is left, all lines were read
pub read_all : (frames script : List ℕ) (number : ℕ) → Reading frames script number None → ReadsAll frames script
read_all frames script number p =
    let all : lines_in script ≡ p.lines = p.all ∙ append-nil p.lines in
    let g : Gathered frames number p.lines = p.gathered in
    let cut = joined_cut frames (filter_map asked_in p.lines) g.whole g.fits in
    record {
      whole = cut.1;
      requests = cut.0 ∙ ap (filter_map asked_in) (sym all);
      commands = ap (λ (ms : List Message). length ms) cut.0 ∙ many p.lines g.fine ∙ ap (count_by asks) (sym all);
      fault = ap (option_map line_number) (ap (position is_fault) all ∙ no_fault p.lines g.fine);
    }
