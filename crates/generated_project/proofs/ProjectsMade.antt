-- The project of the generated settings.
use Rattle.std.proofs.Common.{
  ◌≡◌,
  ℕ,
  List,
  ap,
  Bool,
  true,
  false,
  cond,
  [],
  None,
  Result,
  Ok,
  Err,
  codes,
  refl,
  sym,
  ◌∙◌,
}
use Rattle.sugar_path.specs.Path.{Path, path_in}
use Rattle.sugar_path.specs.Results.{◌>>=◌}
use Rattle.std.specs.Prelude.{map}
use Rattle.tree_core.specs.Tree.{Files, is_clean_path}
use Rattle.swc_loader.specs.Settings.{settings_of}
use Rattle.swc_loader.specs.declared.target.TargetEnv.TheVariants.{Node}
use Rattle.resolve_stack.specs.Settings.{GivenSettings, ProjectSettings, project_of}
use Rattle.resolve_stack.specs.declared.project.ProjectError.{ProjectError}
use Rattle.resolve_stack.specs.declared.project.ProjectError.TheVariants.{SettingsFault}
use Rattle.document_core.specs.Outcomes.{outcome_on}
use Rattle.document_core.specs.declared.given.GivenRequest.{GivenRequest}
use Rattle.generated_project.specs.Counts.{counts_of, generated_outcomes}
use Rattle.generated_project.specs.declared.counts.Counts.{Counts}
use Rattle.generated_project.specs.Generated.{generated_requests, generated_settings, generated_tree}

project_on : Path → Result ProjectSettings ProjectError
project_on cwd =
    Ok (record { node = settings_of cwd Node [] false true; mapping = None; lock = None; conditions = None })

-- whatever the test of the working folder comes to, a project that is made is this one
by_test : (b : Bool) (project : ProjectSettings)
    → (cond b (Ok (path_in (codes "/g"))) (Err (SettingsFault (codes "cwd"))) >>= project_on) ≡ Ok project
    → project ≡ generated_settings
unfolding generated_settings project_on
by_test true project made = cc
by_test false project made = cc

pub project_made : (project : ProjectSettings) (given : GivenSettings)
    → given ≡ record {
      cwd = codes "/g";
      target = Node;
      preserve_symlinks = false;
      node_modules = true;
      alias = [];
      ts =
          None;
      lock = None;
      conditions = None;
    } → project_of given ≡ Ok project → project ≡ generated_settings
unfolding project_of project_on
project_made project given is made = by_test (is_clean_path (codes "/g")) project (rw is at made)

-- counts on a tree, a project and requests that are the generated ones
pub counted_whole : (counts : Counts) (t : Files) (project : ProjectSettings) (requests : List GivenRequest) (size : ℕ)
    → counts ≡ counts_of (map (outcome_on t project) requests) → t ≡ generated_tree size → project ≡ generated_settings
    → requests ≡ generated_requests size → counts ≡ counts_of (generated_outcomes size)
counted_whole counts t project requests size is t_is project_is requests_is =
    is
    ∙ ap (λ (x : Files). counts_of (map (outcome_on x project) requests)) t_is
    ∙ ap (λ (x : ProjectSettings). counts_of (map (outcome_on (generated_tree size) x) requests)) project_is
    ∙ ap (λ (x : List GivenRequest). counts_of (map (outcome_on (generated_tree size) generated_settings) x))
    requests_is
