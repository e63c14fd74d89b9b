-- The order of search: how a request ends on a tree, as a plan of questions. `join_rows` is one text over the join
-- rows of docs/ORDER.md, in their order; the rows stand in Rows.antt.
-- A `do` here is over rows, which are plans of results: the next row goes on with what a row gives, and a row's error
-- ends them all.
use Rattle.std.specs.Prelude.{Result}
use Rattle.tree_core.specs.Plan.{Plan}
use Rattle.tree_core.specs.Rows.{Row, order, decided, refuses_by}
use Rattle.tree_core.specs.Resolving.{◌>>=◌}
use Rattle.swc_loader.specs.declared.resolution.Resolution.{Resolution}
use Rattle.swc_loader.specs.NodeRows.{target_before_search}
use Rattle.resolver_core.specs.Mapping.{Order}
use Rattle.resolve_stack.specs.declared.verdict.JoinRefusal.{JoinRefusal}
use Rattle.resolve_stack.specs.Settings.{ProjectSettings, path_of}
use Rattle.resolve_stack.specs.Request.{Request, asked_for}
use Rattle.resolve_stack.specs.Rows.{or_node_rows, bare_base, nearest_manifest, owner_of, bare_target, identifier_of}
use Rattle.resolve_stack.specs.Rows.{bound_of, checked_row, folder_of, exported_file, found_at, unless_ignored}
use Rattle.resolve_stack.specs.Rows.{contained, via_of, answered_through}

abbrev pub join_rows : ProjectSettings → Request → Row Resolution Resolution JoinRefusal
join_rows project request = do
  base ← or_node_rows project request (bare_base request)
  manifest ← nearest_manifest project request base
  owner ← owner_of project request manifest base
  target ← target_before_search project.node (path_of project base) request.specifier
  named ← bare_target project base target
  identifier ← decided (identifier_of named)
  locator ← decided (bound_of manifest owner (path_of project base) named identifier.0)
  location ← refuses_by (checked_row project manifest owner identifier.0 locator)
  folder ← decided (folder_of location)
  exported ← refuses_by (exported_file project folder identifier.1)
  placed ← refuses_by (found_at project folder identifier.1 exported)
  found ← unless_ignored placed
  file ← decided (contained folder found.0)
  refuses_by (answered_through project (via_of locator folder) file found.1)

-- the order of search for a request of a project
unfoldable pub join : ProjectSettings → Request → Plan (Result Resolution JoinRefusal)
join project request = order (join_rows project request)

-- the order of search by a base and a specifier, as a resolver's order
abbrev pub join_order : ProjectSettings → Order JoinRefusal
join_order project base specifier = join project (asked_for base specifier)
