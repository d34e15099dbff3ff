-- An allocation failure is an outcome only of requests that take memory.
use Rattle.std.proofs.Common.{◌≡◌, ◌≢◌, ◌||◌, ◌&&◌, ◌==◌, ℕ, Bool, true, false, List, [], ◌∷◌, ◌++◌, length, nat_lt}
use Rattle.std.proofs.Common.{Option, Some, None, refl, sym, ap, ◌∙◌, arith}
use Rattle.std.specs.Prelude.{if◌then◌else◌}
use Rattle.std.specs.List.{list_any}
use Rattle.std.proofs.lemmas.Bool.{or_left, or_right, and_from}
use Rattle.std.proofs.lemmas.Bool.Decides.{nat_tests}
use Rattle.cv_pivot.specs.Encodings.{form_closes}
use Rattle.cv_machine.specs.Machine.{When, no_memory}
use Rattle.cv_frame.specs.Bodies.{reset_of, u32_of, drop_of}
use Rattle.cv_frame.specs.Ops.{op_open, op_conv, op_reset, op_close, op_put, op_drop, op_bye, op_part}
use Rattle.cv_caller.specs.Tables.{Table, Descriptor, form_in, place_of, descriptor_at, uses}
use Rattle.cv_world.specs.Actions.{Action, Put, DropMap, Open, Conv, Reset, Close, Bye, Part, Bad}
use Rattle.cv_world.specs.Answers.{answer_code, most_room}
use Rattle.cv_world.specs.Laws.{LacksWhereTaken}
use Rattle.cv_world.specs.Requests.{AsksPut, action_of, drop_action, reset_action, close_action, bye_action}
use Rattle.cv_world.proofs.Replying.{by_test}
use Rattle.cv_world.specs.Turn.{Does, Drops, Resets, Closes, Acts}
use Rattle.cv_world.specs.declared.answer.Answer.{Answer}

-- whether an action takes memory
abbrev takes : Action → Bool
takes (Put came) = true
takes (DropMap name) = false
takes (Open to from policy) = true
takes (Conv number room input) = true
takes (Reset number room) = false
takes (Close number) = false
takes Bye = false
takes (Part bytes) = nat_lt 0 (length bytes)
takes Bad = false

-- ---- the answers to an action

does : (next : Table) (answer : Answer) → answer_code answer ≢ no_memory → (t : Table) (a : Answer)
    → Does t a next answer → answer_code a ≢ no_memory
does next answer other t a d e = other (ap answer_code (sym d.1) ∙ e)

drops : (table : Table) (place : Option ℕ) (t : Table) (a : Answer) → Drops table place t a → answer_code a ≢ no_memory
drops table None t a d = does table _ (λ e. absurd cc) t a d
drops table (Some place) t a d = by_test (list_any (uses place) table.descriptors) _ _ _ (does _ _ (λ e. absurd cc) t a)
    (does _ _ (λ e. absurd cc) t a) d

resets : (table : Table) (number : ℕ) (o : Option Descriptor) (room : ℕ) (t : Table) (a : Answer)
    → Resets table number o room t a → answer_code a ≢ no_memory
resets table number None room t a d = does table _ (λ e. absurd cc) t a d
resets table number (Some o) room t a d =
    by_test (nat_lt most_room room) _ _ _ (does _ _ (λ e. absurd cc) t a) (by_test (room == 0) _ _ _
    (does _ _ (λ e. absurd cc) t a) (by_test (nat_lt room (length (form_closes (form_in table.charmaps o.to)
    o.states.writing))) _ _ _ (does _ _ (λ e. absurd cc) t a) (does _ _ (λ e. absurd cc) t a))) d

closes : (table : Table) (number : ℕ) (o : Option Descriptor) (t : Table) (a : Answer) → Closes table number o t a
    → answer_code a ≢ no_memory
closes table number None t a d = does table _ (λ e. absurd cc) t a d
closes table number (Some o) t a d = does _ _ (λ e. absurd cc) t a d

acts : (table : Table) (action : Action) (t : Table) (a : Answer) → Acts table action t a → answer_code a ≡ no_memory
    → takes action ≡ true
acts table (Put came) t a d e = refl
acts table (DropMap name) t a d e = absurd (drops table (place_of table.charmaps name) t a d e)
acts table (Open to from policy) t a d e = refl
acts table (Conv number room input) t a d e = refl
acts table (Reset number room) t a d e = absurd (resets table number (descriptor_at table number) room t a d e)
acts table (Close number) t a d e = absurd (closes table number (descriptor_at table number) t a d e)
acts table Bye t a d e = absurd (does _ _ (λ x. absurd cc) t a d e)
acts table (Part []) t a d e = absurd (does _ _ (λ x. absurd cc) t a d e)
acts table (Part (b ∷ bytes)) t a d e = grind (arith, nat_tests)
acts table Bad t a d e = absurd (does table _ (λ x. absurd cc) t a d e)

-- ---- what the bytes of a request ask for

choose : (b : Bool) (x y : Action) (P : Type 0) → (b ≡ true → takes x ≡ true → P) → (takes y ≡ true → P)
    → takes (if b then x else y) ≡ true → P
choose true x y P f g h = f refl h
choose false x y P f g h = g h

drop_takes : (name : Option (List ℕ)) → takes (drop_action name) ≢ true
drop_takes (Some name) e = absurd cc
drop_takes None e = absurd cc

reset_takes : (fields : Option (ℕ × ℕ)) → takes (reset_action fields) ≢ true
reset_takes (Some fields) e = absurd cc
reset_takes None e = absurd cc

close_takes : (number : Option ℕ) → takes (close_action number) ≢ true
close_takes (Some number) e = absurd cc
close_takes None e = absurd cc

bye_takes : (body : List ℕ) → takes (bye_action body) ≢ true
bye_takes [] e = absurd cc
bye_takes (b ∷ body) e = absurd cc

other_takes : (code : ℕ) (body : List ℕ) → takes (action_of code body) ≡ true
    → (code == op_open || (code == op_conv || (code == op_part && nat_lt 0 (length body)))) ≡ true
other_takes code body =
    choose (code == op_drop) _ _ _ (λ _ h. absurd (drop_takes (drop_of body) h)) (
    choose (code == op_open) _ _ _ (λ is _. or_left _ _ is) (
    choose (code == op_conv) _ _ _ (λ is _. or_right _ _ (or_left _ _ is)) (
    choose (code == op_reset) _ _ _ (λ _ h. absurd (reset_takes (reset_of body) h)) (
    choose (code == op_close) _ _ _ (λ _ h. absurd (close_takes (u32_of body) h)) (
    choose (code == op_bye) _ _ _ (λ _ h. absurd (bye_takes body h)) (
    choose (code == op_part) _ _ _ (λ is h. or_right _ _ (or_right _ _ (and_from _ _ is h))) (λ h. absurd cc)))))))

asks_takes : (t : Bool) (text : List ℕ) (other action : Action) (rest : Bool) → When t (AsksPut text action)
    (action ≡ other) → (takes other ≡ true → rest ≡ true) → takes action ≡ true → (t || rest) ≡ true
asks_takes true text other action rest p f h = refl
asks_takes false text other action rest p f h = f (ap takes (sym p) ∙ h)

-- An allocation failure is an outcome only of requests that take memory.
pub lacks_where_taken : LacksWhereTaken
lacks_where_taken table code body outcome turned e =
    asks_takes (code == op_put) (table.part ++ body) (action_of code body) turned.action _ turned.asks
    (other_takes code body) (acts table turned.action outcome.next turned.answer turned.acts (sym turned.code_is ∙ e))
