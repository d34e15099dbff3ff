-- Which requests are in one batch.
use Rattle.std.specs.Prelude.{ℕ, min, Bool, true, false, not, ◌==◌, List, [], ◌∷◌, take, take_while}
use Rattle.cv_frame.specs.Message.{Message}

-- An upload is a PUT, whose number is 1.
abbrev pub is_upload : Message → Bool
is_upload m = m.code == 1

-- Whether a request is of a kind: an upload, or any other.
abbrev pub is_of_kind : Bool → Message → Bool
is_of_kind true m = is_upload m
is_of_kind false m = not (is_upload m)

-- How many requests of a kind one batch has at most, for an engine that runs `at_once` uploads at once.
abbrev pub most_of_kind : Bool → ℕ → ℕ
most_of_kind true at_once = min at_once 64
most_of_kind false at_once = 64

-- Whether the first request is an upload; false if there is no request.
abbrev pub first_kind : List Message → Bool
first_kind [] = false
first_kind (m ∷ ms) = is_upload m

-- The requests of the next batch, of those that are held whole: the first, and those after it up to one of the other
-- kind, but no more than a batch of this kind may have.
abbrev pub next_requests : ℕ → List Message → List Message
next_requests at_once ms = take (most_of_kind (first_kind ms) at_once) (take_while (is_of_kind (first_kind ms)) ms)
