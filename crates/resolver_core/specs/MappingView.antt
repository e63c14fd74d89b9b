-- What contracts see of a resolver by a mapping.
use Rattle.resolver_core.specs.declared.mapping.TsConfigResolver.{TsConfigResolver}
use Rattle.resolver_core.specs.Mapping.{Mapping}

abbrev pub mapping_of : {R : Type 0} → TsConfigResolver R → Mapping
mapping_of r = r.mapping

abbrev pub inner_of : {R : Type 0} → TsConfigResolver R → R
inner_of r = r.inner
