use Rattle.std.proofs.Common.{◌==◌, ◌&&◌, ap, ◌∙◌}
use Rattle.yarn_lock_parser.specs.Lock.{Lock}
use Rattle.lock_checks.specs.Naming.{has_release}
use Rattle.lock_checks.specs.Places.{first_place}
use Rattle.lock_checks.proofs.EntryPlaces.{no_release, of_release}
use Rattle.lock_checks.proofs.lock.Lock.place_of_release.Goals as goal

pub returns-in_err-version : goal.returns-in_err-version
returns-in_err-version c = c.from_residual.ensures
    ∙ no_release c.args.self.now.version c.args.name.now c.args.reference.now c.args.self.now.entries
    c.in_err-version.ensures

pub returns : goal.returns
returns c =
    let file = c.self.inside.file in
    let places = λ (l : Lock). first_place (λ e. (l.version == 1) && has_release e c.args.name.now c.args.reference.now)
    l.entries in
    c.copied.ensures ∙ c.get.ensures.value ∙ c.self.invariant.1 c.args.name.now c.in_ok-version.version.now
    ∙ of_release file.version c.args.name.now c.args.reference.now c.in_ok-version.version.now file.entries
    c.in_ok-version.ensures
    ∙ ap places c.self.view_is
