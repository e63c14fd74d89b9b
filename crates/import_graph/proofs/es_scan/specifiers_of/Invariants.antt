use Rattle.std.proofs.Common.{◌≡◌, map}
use Rattle.es_imports.specs.declared.imports.Import.{Import}
use Rattle.import_graph.proofs.es_scan.specifiers_of.Given as goal

-- the texts so far are the specifiers of the imports so far
abbrev pub invariant-loop-import : goal.invariant-loop-import
invariant-loop-import l = l.texts.items ≡ map (λ (i : Import). i.specifier) l.yielded
