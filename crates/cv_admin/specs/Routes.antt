-- Which page a request asks for. The paths are this project's own.
use Rattle.std.specs.Prelude.{ℕ, Bool, ◌||◌, List, codes, bytes_eq, if◌then◌else◌, Option, Some, None}
use Rattle.cv_admin.specs.declared.routes.Page.{Page}
use Rattle.cv_admin.specs.declared.routes.Page.TheVariants as page
use Rattle.cv_admin.specs.declared.routes.Route.{Route}
use Rattle.cv_admin.specs.declared.routes.Route.TheVariants.{To, NotAllowed, Nowhere}

-- The page at a path.
abbrev pub page_at : List ℕ → Option Page
page_at path =
    if bytes_eq path (codes "/health") then Some page.Health else
    if bytes_eq path (codes "/metrics") then Some page.Metrics else
    if bytes_eq path (codes "/streams") then Some page.Streams else
    if bytes_eq path (codes "/drain") then Some page.Drain else None

-- The methods that only read.
abbrev pub is_read : List ℕ → Bool
is_read method = bytes_eq method (codes "GET") || bytes_eq method (codes "HEAD")

-- Which methods a page takes.
abbrev pub takes : Page → List ℕ → Bool
takes page.Health method = is_read method
takes page.Metrics method = is_read method
takes page.Streams method = is_read method
takes page.Drain method = bytes_eq method (codes "POST")

-- The route to a page, by a method that it takes or by another; `Nowhere` without a page.
abbrev pub route_to : Option Page → List ℕ → Route
route_to None method = Nowhere
route_to (Some asked) method = if takes asked method then To asked else NotAllowed asked

-- What a request with this method and this path asks for.
abbrev pub route_of : List ℕ → List ℕ → Route
route_of method path = route_to (page_at path) method
