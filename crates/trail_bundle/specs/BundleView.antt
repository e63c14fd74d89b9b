-- What contracts see of a bundle.
use Rattle.trail_bundle.specs.declared.bundle.Bundle.{Bundle as Held}
use Rattle.trail_bundle.specs.Bundle.{Bundle}
use Rattle.trail_bundle.specs.Steps.{steps_of}

abbrev pub bundle_of : Held → Bundle
bundle_of b = record { requests = b.requests.items; replies = steps_of b.replies.entries }
