-- What a request asks for, by its method and its path.
use Rattle.std.specs.Prelude.{◌≡◌, ◌≢◌}
use Rattle.registry_http.specs.RequestParts.{RequestParts}
use Rattle.registry_http.specs.Routes.{IsRoute, method_of, path_of}
use Rattle.registry_http.specs.declared.routes.Route.{Route}

-- a route; or no route has the path, or one has it with another method
pub data Asked : Type 0 where
  AskedFor : Route → Asked
  NoRoute WrongMethod : Asked

-- the request asks for this
abbrev pub Asks : RequestParts → Asked → Type 0
Asks request (AskedFor route) = IsRoute route × (request.path ≡ path_of route) × (request.method ≡ method_of route)
Asks request NoRoute = (route : Route) → IsRoute route → request.path ≢ path_of route
Asks request WrongMethod = (route : Route) × IsRoute route × (request.path ≡ path_of route) × (request.method ≢ method_of route)
