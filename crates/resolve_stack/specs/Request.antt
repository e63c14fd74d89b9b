-- A request: what asks, and the specifier that it asks for.
use Rattle.std.specs.Prelude.{ℕ, List}
use Rattle.swc_loader.specs.declared.resolution.FileName.{FileName}
use Rattle.resolve_stack.specs.declared.request.Request.{Request as Borrowed}

pub record Request : Type 0 where
  pub importer : FileName
  pub specifier : List ℕ

-- a specifier that is asked for by an importer
abbrev pub asked_for : FileName → List ℕ → Request
asked_for importer specifier = record { importer = importer; specifier = specifier }

-- the request that a borrowed one is
abbrev pub request_of : Borrowed → Request
request_of r = asked_for r.importer.now r.specifier.now
