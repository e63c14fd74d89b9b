-- Packages that are kept by the paths of their files.
use Rattle.std.specs.Prelude.{List, map, String, string_bytes}
use Rattle.std.specs.Cmp.Lexicographic.{slice_cmp}
use Rattle.std.specs.FinMap as finite
use Rattle.std.specs.Ordering.{nat_cmp}
use Rattle.std.specs.declared.alloc.Global.{Global}
use Rattle.std.specs.declared.rc.Rc.{Rc}
use Rattle.deno_package_json.specs.declared.package_json.PackageJson.{PackageJson}

-- from paths to packages
abbrev pub Kept : Type 0
Kept = finite.FinMap (slice_cmp nat_cmp) PackageJson

-- the package that several owners keep
abbrev pub shared : Rc PackageJson Global → PackageJson
shared rc = rc.value

-- what the entries of the code's map keep, each seen as the package it stands for
abbrev pub kept_by : {V W : Type 0} → List (String Global × V) → (V → W) → finite.FinMap (slice_cmp nat_cmp) W
kept_by es seen = finite.from_entries (map (λ e. (string_bytes e.0, seen e.1)) es)
