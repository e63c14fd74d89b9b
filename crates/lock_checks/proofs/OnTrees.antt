-- The plans of the checks tell what the tree has.
use Rattle.std.proofs.Common.{◌≡◌, ℕ, List, Option, Some, None, Ok, Err, ap, ◌∙◌}
use Rattle.sugar_path.specs.Path.{Path}
use Rattle.tree_core.specs.Tree.{Files}
use Rattle.tree_core.specs.Plan.{Done, read, ◌>>=?◌}
use Rattle.tree_core.specs.Told.{told, made}
use Rattle.tree_core.proofs.Tellings.{told-done, told-goes_on, told-if, told-made, told-read, told-refusing}
use Rattle.yarn_lock_parser.specs.Entry.{Entry}
use Rattle.yarn_lock_parser.specs.Lock.{Lock}
use Rattle.pnp_core.specs.declared.manifest.PackageLocator.{PackageLocator}
use Rattle.pnp_core.specs.Manifest.{Contents}
use Rattle.pnp_core.specs.PhysicalPlace.{place_of}
use Rattle.lock_checks.specs.declared.fault.EdgeFault.TheVariants.{NotLocked}
use Rattle.lock_checks.specs.Checks.{check_by, checked_location, entry_check, range_check, registered}
use Rattle.lock_checks.specs.Fault.{binding_fault, fault_in}
use Rattle.lock_checks.specs.Naming.{first_naming}
use Rattle.lock_checks.specs.OnTree.{
  check_on,
  entry_check_on,
  location_on,
  range_check_on,
  range_in_place_on,
  FaultOnTree,
  LocationOnTree,
}
use Rattle.lock_checks.specs.Range.{
  declared_range,
  package_json,
  range_in_content,
  range_in_folder,
  range_in_place,
  within,
}
use Rattle.lock_checks.specs.Reference.{is_npm, is_workspace}

told-folder : (t : Files) (folder : Path) (name : List ℕ)
    → told t (range_in_folder folder name) ≡ range_in_place_on t (Some folder) name
unfolding range_in_folder
told-folder t folder name =
    told-made t (read (package_json folder)) (range_in_content (package_json folder) name)
    ∙ ap (made (range_in_content (package_json folder) name)) (told-read t (package_json folder))

told-place : (t : Files) (place : Option Path) (name : List ℕ)
    → told t (range_in_place place name) ≡ range_in_place_on t place name
told-place t None name = told-done t (Ok None)
told-place t (Some folder) name = told-folder t folder name

told-range_check : (t : Files) (manifest : Contents) (owner : PackageLocator) (name : List ℕ) (entry : Entry)
    → told t (range_check manifest owner name entry) ≡ range_check_on t manifest owner name entry
unfolding range_check
told-range_check t manifest owner name entry =
    told-refusing t (declared_range manifest owner name) (λ range. Done (within range entry.version))
    (told-place t (place_of manifest owner) name) (λ range. told-done t (within range entry.version))

told-entry_check : (t : Files) (manifest : Contents) (owner : PackageLocator) (name : List ℕ) (bound : PackageLocator)
    (entry : Option Entry) → told t (entry_check manifest owner name bound entry) ≡ entry_check_on t manifest owner name
    bound entry
told-entry_check t manifest owner name bound None = told-done t (Err NotLocked)
told-entry_check t manifest owner name bound (Some entry) =
    told-if t (is_npm bound.reference) _ _ (told-range_check t manifest owner name entry) (told-done t (Ok tt))

told-check : (t : Files) (lock : Option Lock) (manifest : Contents) (owner : PackageLocator) (name : List ℕ)
    (bound : PackageLocator) → told t (check_by lock manifest owner name bound) ≡ check_on t lock manifest owner name
    bound
told-check t None manifest owner name bound = told-done t (Ok tt)
told-check t (Some lock) manifest owner name bound =
    told-if t (is_workspace bound.reference) _ _ (told-done t (Ok tt))
    (told-entry_check t manifest owner name bound (first_naming lock bound))

pub told-location : (t : Files) (lock : Option Lock) (manifest : Contents) (owner : PackageLocator) (name : List ℕ)
    (bound : PackageLocator) → told t (checked_location lock manifest owner name bound) ≡ location_on t lock manifest
    owner name bound
unfolding checked_location
told-location t lock manifest owner name bound =
    told-goes_on t (registered manifest bound) (λ location. check_by lock manifest owner name bound
    >>=? λ passed. Done (Ok location))
    (λ location. told-refusing t (check_by lock manifest owner name bound) (λ passed. Done (Ok location))
    (told-check t lock manifest owner name bound) (λ passed. told-done t (Ok location)))

pub location_on_tree : LocationOnTree
location_on_tree = record { tells = told-location }

told-fault : (t : Files) (lock : Option Lock) (manifest : Contents) (owner : PackageLocator) (name : List ℕ)
    (bound : PackageLocator) → told t (binding_fault lock manifest owner name bound) ≡ made fault_in
    (location_on t lock manifest owner name bound)
unfolding binding_fault
told-fault t lock manifest owner name bound =
    told-made t (checked_location lock manifest owner name bound) fault_in
    ∙ ap (made fault_in) (told-location t lock manifest owner name bound)

pub fault_on_tree : FaultOnTree
fault_on_tree = record { tells = told-fault }
