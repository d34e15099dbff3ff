-- The request for a page, and what an answer says.
use Rattle.std.specs.Prelude.{◌≡◌, ◌≤◌, ℕ, List, [], ◌++◌, length, take, map, codes, Result, Ok, Err}
use Rattle.httparse.specs.Grammar.{ResponseHead, ReadsResponse, status_code}
use Rattle.httparse.specs.Spans.{name_and_value}
use Rattle.http1.specs.declared.framing.Framing.{Framing}
use Rattle.http1.specs.declared.framing.Framing.TheVariants.{NoBody, Length, UntilClose, Chunked}
use Rattle.http1.specs.declared.framing.FramingError.{FramingError}
use Rattle.http1.specs.declared.framing.MethodKind.TheVariants as kind
use Rattle.http1.specs.Fields.{known_fields}
use Rattle.http1.specs.Framing.{response_framing}
use Rattle.cv_admin.specs.declared.routes.Page.{Page}
use Rattle.cv_admin.specs.declared.routes.Page.TheVariants as page

-- The method and the path by which a page is asked for.
abbrev pub target_of : Page → List ℕ
target_of page.Health = codes "GET /health"
target_of page.Metrics = codes "GET /metrics"
target_of page.Streams = codes "GET /streams"
target_of page.Drain = codes "POST /drain"

-- The request for a page. It asks the server to close the connection after its answer.
abbrev pub request_text : Page → List ℕ
request_text asked =
    target_of asked ++ codes " HTTP/1.1\r\nhost: iconvd\r\nconnection: close\r\n\r\n"

-- The text of an answer, from the bytes after its head: none, the first `count` bytes, or all. Chunked text and text
-- without a known end are not read.
abbrev pub IsFramed : Result Framing FramingError → List ℕ → List ℕ → Type 0
IsFramed (Ok NoBody) rest text = text ≡ []
IsFramed (Ok (Length count)) rest text = (count ≤ length rest) × (text ≡ take count rest)
IsFramed (Ok UntilClose) rest text = text ≡ rest
IsFramed (Ok Chunked) rest text = ⊥
IsFramed (Err fault) rest text = ⊥

-- How HTTP says where the text of a response with this head ends.
abbrev pub framing_of : ResponseHead → Result Framing FramingError
framing_of head =
    response_framing kind.Other (status_code head) head.minor (known_fields (map name_and_value head.fields))

-- The bytes begin with a response's head, by HTTP's grammar, with this status. The text follows the head.
abbrev pub IsPageResponse : List ℕ → ℕ → List ℕ → Type 0
IsPageResponse bytes status text =
    (head : ResponseHead) × (rest : List ℕ) × ReadsResponse bytes head rest × (status ≡ status_code head)
    × IsFramed (framing_of head) rest text
