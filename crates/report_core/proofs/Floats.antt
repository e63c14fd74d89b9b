-- No refusal and no trail holds a float, so that their compact text is known.
use Rattle.std.proofs.Common.{◌≡◌, false, List, [], ◌∷◌, refl}
use Rattle.std.specs.Prelude.{map}
use Rattle.serde_json.specs.View.{items_of}
use Rattle.serde_json.specs.Written.{has_float, items_have_float}
use Rattle.tree_core.specs.declared.question.Question.{Question}
use Rattle.tree_core.specs.declared.question.Reply.{Reply}
use Rattle.trail_texts.specs.TrailTexts.{step_value}
use Rattle.trail_texts.proofs.WithoutFloats.{step_without}
use Rattle.resolver_core.specs.declared.refusal.TsRefusal.{TsRefusal}
use Rattle.resolver_core.specs.declared.refusal.TsRefusal.TheVariants.{Inner, TsFault}
use Rattle.resolve_stack.specs.declared.verdict.JoinRefusal.{JoinRefusal}
use Rattle.resolve_stack.specs.declared.verdict.JoinRefusal.TheVariants.{BadSpecifier, FailedManifestHydration}
use Rattle.resolve_stack.specs.declared.verdict.JoinRefusal.TheVariants.{UndeclaredDependency, MissingPeerDependency}
use Rattle.resolve_stack.specs.declared.verdict.JoinRefusal.TheVariants.{NotInRegistry, NotLocked, MalformedPackage}
use Rattle.resolve_stack.specs.declared.verdict.JoinRefusal.TheVariants.{OutOfRange, Archive, NotExported, Outside}
use Rattle.resolve_stack.specs.declared.verdict.JoinRefusal.TheVariants.{NotFound, BaseNotAFile}
use Rattle.report_core.specs.Verdicts.{refusal_value}
use Rattle.report_core.specs.Verdicts.{refused_value}

refusal_without : (refusal : JoinRefusal) → has_float (refusal_value refusal) ≡ false
refusal_without (BadSpecifier specifier) = refl
refusal_without (FailedManifestHydration cause manifest) = refl
refusal_without (UndeclaredDependency told) = refl
refusal_without (MissingPeerDependency told) = refl
refusal_without (NotInRegistry name reference) = refl
refusal_without (NotLocked name reference) = refl
refusal_without (MalformedPackage path) = refl
refusal_without (OutOfRange range version) = refl
refusal_without (Archive location) = refl
refusal_without (NotExported location key) = refl
refusal_without (Outside file location) = refl
refusal_without (NotFound text) = refl
refusal_without BaseNotAFile = refl

refusals_without : (refusals : List JoinRefusal) → items_have_float (items_of (map refusal_value refusals)) ≡ false
refusals_without [] = refl
refusals_without (refusal ∷ refusals) = rw (refusal_without refusal) (refusals_without refusals)

-- a refusal holds none
pub refused_without : (refusal : TsRefusal JoinRefusal) → has_float (refused_value refusal) ≡ false
refused_without (Inner refusal) = refusal_without refusal
refused_without (TsFault pattern inner) = rw (refusals_without inner) refl

-- a trail holds none
pub steps_without : (steps : List (Question × Reply)) → items_have_float (items_of (map step_value steps)) ≡ false
steps_without [] = refl
steps_without (step ∷ steps) = rw (step_without step) (steps_without steps)
