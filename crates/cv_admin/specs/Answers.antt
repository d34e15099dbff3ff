-- The answer to each request.
use Rattle.std.specs.Prelude.{ℕ, List, [], ◌∷◌, ◌++◌, codes}
use Rattle.http1.specs.Fields.{Header}
use Rattle.http_server.specs.declared.response.Response.{Response}
use Rattle.http_server.specs.Response.{IsResponse}
use Rattle.cv_admin.specs.declared.operated.Health.{Health}
use Rattle.cv_admin.specs.declared.operated.Health.TheVariants.{Free, Full, Draining}
use Rattle.cv_admin.specs.declared.routes.Page.{Page}
use Rattle.cv_admin.specs.declared.routes.Page.TheVariants as page
use Rattle.cv_admin.specs.declared.routes.Route.{Route}
use Rattle.cv_admin.specs.declared.routes.Route.TheVariants as route
use Rattle.cv_admin.specs.Routes.{route_of}

-- The header fields of each answer: its content type, and that the connection is closed after it.
abbrev pub page_fields : List ℕ → List Header
page_fields kind = (codes "content-type", kind) ∷ (codes "connection", codes "close") ∷ []

-- A response with this status and this plain text.
abbrev pub IsText : ℕ → List ℕ → Response → Type 0
IsText status text = IsResponse status (page_fields (codes "text/plain; charset=utf-8")) text

-- The status of the page `/health`: 200 if a place is free, else 503.
abbrev pub health_status : Health → ℕ
health_status Free = 200
health_status Full = 503
health_status Draining = 503

-- The text of the page `/health`.
abbrev pub health_text : Health → List ℕ
health_text Free = codes "ok\n"
health_text Full = codes "full\n"
health_text Draining = codes "draining\n"

-- A response shows a page: `/health` for some health, `/metrics` and `/streams` with some text.
abbrev pub IsPage : Page → Response → Type 0
IsPage page.Health response = (health : Health) × IsText (health_status health) (health_text health) response
IsPage page.Metrics response =
    (text : List ℕ) × IsResponse 200 (page_fields (codes "text/plain; version=0.0.4; charset=utf-8")) text response
IsPage page.Streams response = (text : List ℕ) × IsResponse 200 (page_fields (codes "application/json")) text response
IsPage page.Drain response = IsText 202 (codes "draining\n") response

-- The methods of a page, as the field `allow` lists them.
abbrev pub methods_of : Page → List ℕ
methods_of page.Health = codes "GET, HEAD"
methods_of page.Metrics = codes "GET, HEAD"
methods_of page.Streams = codes "GET, HEAD"
methods_of page.Drain = codes "POST"

-- The answer 405 of a page that does not take the method. It lists the methods that the page takes.
abbrev pub NotAllowed : Page → Response → Type 0
NotAllowed asked = IsResponse 405 (page_fields (codes "text/plain; charset=utf-8")
    ++ (codes "allow", methods_of asked) ∷ []) (codes "method not allowed\n")

-- The answer on each route.
abbrev pub AnswersOn : Route → Response → Type 0
AnswersOn (route.To asked) = IsPage asked
AnswersOn (route.NotAllowed asked) = NotAllowed asked
AnswersOn route.Nowhere = IsText 404 (codes "not found\n")

-- The answer to a request with this method and this path.
abbrev pub AnswersRequest : List ℕ → List ℕ → Response → Type 0
AnswersRequest method path = AnswersOn (route_of method path)
