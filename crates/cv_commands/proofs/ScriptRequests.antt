-- The requests of a script that was not read to its end, and faults other than that of a line.
use Rattle.std.proofs.Common.{◌≡◌, ℕ, zero, suc, ◌+◌, ◌<◌, ◌≤◌, ◌^◌, Bool, true, false, cond, ◌&&◌, List, [], ◌∷◌}
use Rattle.std.proofs.Common.{length, Option, Some, None, Result, Ok, Err, refl, sym, ap, subst, ◌∙◌, arith, lit<, lit≤}
use Rattle.std.specs.Prelude.{filter_map, nat_lt, nat_le, IfErr}
use Rattle.std.specs.Char.{is_ascii_digit}
use Rattle.std.specs.List.{AllByRecursion, cons_option, list_all, position_or_len}
use Rattle.std.specs.Option.{option_map, option_and_then}
use Rattle.std.specs.Str.Parse.{digits_value}
use Rattle.std.proofs.lemmas.Bool.{ltb-true, ltb-false, leb-true}
use Rattle.cv_frame.specs.Message.{Message, FitsFrame}
use Rattle.cv_frame.specs.Sizes.{most_body}
use Rattle.cv_commands.specs.Commands.{Asked, framed, sent_by, asked_by, request_by, request_in}
use Rattle.cv_commands.specs.Faults.{IsNoLine, SaysOfLines}
use Rattle.cv_commands.specs.Scripts.{asks, asking_lines, asked_in, is_fault, lines_in, line_number, requests_in}
use Rattle.cv_commands.specs.Scripts.{fault_in, IsAskedBy}
use Rattle.cv_commands.specs.Words.{words_of, after_word, number_in}
use Rattle.cv_commands.specs.declared.fault.RunFault.{RunFault}
use Rattle.cv_commands.specs.declared.fault.RunFault.TheVariants.{Line, Serve, TruncatedReply, BadReplyLength}
use Rattle.cv_commands.specs.declared.fault.RunFault.TheVariants.{CannotListen, AcceptFailed, CannotConnect, Memory}
use Rattle.cv_commands.proofs.Gathered.{IsFine, command_asks, skipped_asks, many}

-- ---- each request fits a frame

number_fits_by : (a b : Bool) (v n : ℕ) → nat_lt v (2 ^ 32) ≡ b → cond (a && b) (Some v) None ≡ Some n → n < 2 ^ 32
number_fits_by true true v n e h =
    let small : v < 2 ^ 32 = ltb-true v (2 ^ 32) e in
    let same : v ≡ n = cc in
    omega arith
number_fits_by true false v n e h = absurd cc
number_fits_by false b v n e h = absurd cc

number_fits : (word : List ℕ) (n : ℕ) → number_in word ≡ Some n → n < 2 ^ 32
unfolding number_in
number_fits word n e = number_fits_by (list_all is_ascii_digit word) (nat_lt (digits_value 10 word) (2 ^ 32))
    (digits_value 10 word) n refl e

framed_by : (a b : Bool) (caller tag op : ℕ) (body : List ℕ) (m : Message) → caller < 2 ^ 32 → tag < 2 ^ 32
    → nat_lt op 256 ≡ a → nat_le (length body) most_body ≡ b
    → cond (a && b) (Some (record { caller = caller; tag = tag; code = op; body = body })) None ≡ Some m → FitsFrame m
framed_by true true caller tag op body m c t e f h =
    let made : Message = record { caller = caller; tag = tag; code = op; body = body } in
    let is : made ≡ m = cc in
    let fits : FitsFrame made =
    record { caller = c; tag = t; code = ltb-true op 256 e; body = leb-true (length body) most_body f } in
    subst FitsFrame is fits
framed_by true false caller tag op body m c t e f h = absurd cc
framed_by false b caller tag op body m c t e f h = absurd cc

framed_fits : (caller tag : ℕ) (asked : Asked) (m : Message) → caller < 2 ^ 32 → tag < 2 ^ 32
    → framed caller tag asked ≡ Some m → FitsFrame m
unfolding framed
framed_fits caller tag (op, body) m c t h =
    framed_by (nat_lt op 256) (nat_le (length body) most_body) caller tag op body m c t refl refl h

sent_fits : (caller tag : ℕ) (asked : Option Asked) (m : Message) → caller < 2 ^ 32 → tag < 2 ^ 32
    → sent_by caller tag asked ≡ Some m → FitsFrame m
sent_fits caller tag None m c t h = absurd cc
sent_fits caller tag (Some asked) m c t h = framed_fits caller tag asked m c t h

by_numbers : (caller tag : Option ℕ) (asked : Option Asked) (m : Message) → ((n : ℕ) → caller ≡ Some n → n < 2 ^ 32)
    → ((n : ℕ) → tag ≡ Some n → n < 2 ^ 32)
    → option_and_then (λ who. option_and_then (λ number. sent_by who number asked) tag) caller ≡ Some m → FitsFrame m
by_numbers None tag asked m c t h = absurd cc
by_numbers (Some who) None asked m c t h = absurd cc
by_numbers (Some who) (Some number) asked m c t h = sent_fits who number asked m (c who refl) (t number refl) h

by_words : (words : List (List ℕ)) (text : List ℕ) (m : Message) → request_by words text ≡ Some m → FitsFrame m
unfolding request_by
by_words [] text m h = absurd cc
by_words (x ∷ []) text m h = absurd cc
by_words (x ∷ y ∷ []) text m h = absurd cc
by_words (caller ∷ tag ∷ command ∷ words) text m h = by_numbers (number_in caller) (number_in tag)
    (asked_by command words text) m (number_fits caller) (number_fits tag) h

-- the request of a line fits a frame
request_fits : (line : List ℕ) (m : Message) → request_in line ≡ Some m → FitsFrame m
unfolding request_in
request_fits line m h = by_words (words_of line) (after_word (after_word (after_word line))) m h

asked_fits_by : (b : Bool) (line : List ℕ) (m : Message) → asks line ≡ b → asked_in line ≡ Some m → FitsFrame m
asked_fits_by true line m e h = request_fits line m (sym (command_asks line (request_in line) e refl) ∙ h)
asked_fits_by false line m e h = let none = skipped_asks line e in absurd cc

cons_fits : (o : Option Message) (ms : List Message) → ((m : Message) → o ≡ Some m → FitsFrame m)
    → AllByRecursion FitsFrame ms → AllByRecursion FitsFrame (cons_option o ms)
cons_fits None ms one all = all
cons_fits (Some m) ms one all = (one m refl, all)

asked_fits : (lines : List (List ℕ)) → AllByRecursion FitsFrame (filter_map asked_in lines)
asked_fits [] = tt
asked_fits (line ∷ lines) = cons_fits (asked_in line) (filter_map asked_in lines)
    (λ m h. asked_fits_by (asks line) line m refl h) (asked_fits lines)

fine_by : (b : Bool) (line : List ℕ) (lines : List (List ℕ)) → is_fault line ≡ b
    → length (line ∷ lines) ≤ position_or_len is_fault (line ∷ lines) → (length lines ≤ position_or_len is_fault lines
    → AllByRecursion IsFine lines) → AllByRecursion IsFine (line ∷ lines)
fine_by true line lines e h more = let here : position_or_len is_fault (line ∷ lines) ≡ 0 = rw e refl in
    absurd (omega (arith, h, here))
fine_by false line lines e h more = let next : position_or_len is_fault (line ∷ lines)
    ≡ 1 + position_or_len is_fault lines = rw e refl in (e, more (omega (arith, h, next)))

fine_from : (lines : List (List ℕ)) → length lines ≤ position_or_len is_fault lines → AllByRecursion IsFine lines
fine_from [] h = tt
fine_from (line ∷ lines) h = fine_by (is_fault line) line lines refl h (fine_from lines)

past_by : (b : Bool) (n len : ℕ) (f : ℕ → ℕ) → nat_lt n len ≡ b → option_map f (cond b (Some n) None) ≡ None → len ≤ n
past_by true n len f e h = absurd cc
past_by false n len f e h = ltb-false n len e

abbrev blank : Message
blank = record { caller = 0; tag = 0; code = 0; body = [] }

many_blank : (n : ℕ) → (requests : List Message) × (length requests ≡ n) × AllByRecursion FitsFrame requests
many_blank zero = ([], refl, tt)
many_blank (suc n) =
    let others = many_blank n in
    let fits : FitsFrame blank = record { caller = lit< tt; tag = lit< tt; code = lit< tt; body = lit≤ tt } in
    (blank ∷ others.0, ap (λ (k : ℕ). suc k) others.1, (fits, others.2))

some_by : (script : List ℕ) (fault : Option ℕ) → fault_in script ≡ fault
    → (requests : List Message) × IsAskedBy script requests
some_by script None e =
    let lines : List (List ℕ) = lines_in script in
    let past : length lines ≤ position_or_len is_fault lines = past_by (nat_lt (position_or_len is_fault lines)
    (length lines)) (position_or_len is_fault lines) (length lines) line_number refl e in (
      requests_in script,
      record { lines = many lines (fine_from lines past); fits = asked_fits lines; asked = λ none. refl },
    )
some_by script (Some number) e =
    let some = many_blank (asking_lines script) in
    (some.0, record { lines = some.1; fits = some.2; asked = λ none. absurd cc })

-- There is a request for each line of a script that asks something. If no line is at fault, these are the requests that
-- the script asks.
pub some_requests : (script : List ℕ) → (requests : List Message) × IsAskedBy script requests
some_requests script = some_by script (fault_in script) refl

-- ---- a fault other than that of a line

pub says_none : (A : Type 0) (fault : RunFault) (script : List ℕ) → IsNoLine fault → fault_in script ≡ None
    → SaysOfLines {A = A} (Err fault) script
says_none A (Line number) script other e = absurd (other number refl)
says_none A (Serve fault) script other e = e
says_none A TruncatedReply script other e = e
says_none A (BadReplyLength length) script other e = e
says_none A CannotListen script other e = e
says_none A AcceptFailed script other e = e
says_none A CannotConnect script other e = e
says_none A Memory script other e = tt

-- a result whose fault is not that of a line
pub says_of : (A : Type 0) (r : Result A RunFault) (script : List ℕ) → IfErr r IsNoLine → fault_in script ≡ None
    → SaysOfLines r script
says_of A (Ok done) script other e = e
says_of A (Err fault) script other e = says_none A fault script other e
