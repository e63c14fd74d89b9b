-- The text that names a package's main module.
use Rattle.std.specs.Prelude.{ℕ, List, [], ◌∷◌, Option, Some, None, codes, bytes_eq, if◌then◌else◌, option_and_then}
use Rattle.std.specs.Option.{option_or}
use Rattle.std.specs.Str.{trim}
use Rattle.deno_package_json.specs.declared.kind.NodeModuleKind.{NodeModuleKind}
use Rattle.deno_package_json.specs.declared.kind.NodeModuleKind.TheVariants.{Esm, Cjs}
use Rattle.deno_package_json.specs.Package.{Package}

-- by who asks: an ES module takes `module` first, where the package's type is `module`
abbrev pub named_main : NodeModuleKind → Package → Option (List ℕ)
named_main Esm p = if bytes_eq p.typ (codes "module") then option_or p.module p.main else p.main
named_main Cjs p = p.main

abbrev pub unless_empty : List ℕ → Option (List ℕ)
unless_empty [] = None
unless_empty (c ∷ text) = Some (c ∷ text)

-- without the white space around it, where something is left
abbrev pub main_of : NodeModuleKind → Package → Option (List ℕ)
main_of kind p = option_and_then (λ text. unless_empty (trim text)) (named_main kind p)
