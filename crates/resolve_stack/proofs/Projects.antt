-- What settings make, one cause after the other.
use Rattle.std.proofs.Common.{◌≡◌, ℕ, List, Option, Some, Result, Ok, Err, IfErr, IsErrAnd, sym, ap, ◌∙◌, subst}
use Rattle.std.specs.Prelude.{codes}
use Rattle.sugar_path.specs.Path.{Path}
use Rattle.sugar_path.specs.Results.{◌>>=◌}
use Rattle.tree_core.specs.Asks.{widened}
use Rattle.yarn_lock_parser.specs.declared.error.YarnLockError.{YarnLockError}
use Rattle.yarn_lock_parser.specs.declared.error.YarnLockError.TheVariants as yarn_lock_error
use Rattle.yarn_lock_parser.specs.Lock.{Lock, Explains, lock_of}
use Rattle.resolver_core.specs.declared.pattern.TsError.{TsError}
use Rattle.resolver_core.specs.declared.pattern.TsError.TheVariants as ts_error
use Rattle.resolver_core.specs.declared.pattern.Pattern.{Pattern}
use Rattle.resolver_core.specs.Mapping.{Mapping}
use Rattle.resolver_core.specs.Pattern.{IsReadAs, patterns_of}
use Rattle.swc_loader.specs.Settings.{NodeSettings, settings_of}
use Rattle.resolve_stack.specs.declared.project.TsSettings.{TsSettings}
use Rattle.resolve_stack.specs.declared.project.ProjectError.{ProjectError}
use Rattle.resolve_stack.specs.declared.project.ProjectError.TheVariants.{SettingsFault, EmptyTargets, TwoWildcards}
use Rattle.resolve_stack.specs.declared.project.ProjectError.TheVariants.{ExactNeedsOne, LockParser, NoMemory}
use Rattle.resolve_stack.specs.Settings.{GivenSettings, ProjectSettings, clean_setting, cause_of, mapping_of}
use Rattle.resolve_stack.specs.Settings.{mapping_given, cause_in_lock, error_of_lock, lock_in, lock_given, project_of}
use Rattle.resolve_stack.specs.Settings.{IsCauseOf}

-- what fails with a cause is refused by it
pub refused_by : {A B : Type 0} (made : Result A ProjectError) (e : ProjectError) (r : Result B ProjectError) →
    IsErrAnd r (λ x. x ≡ e) → IsCauseOf e made → IfErr r (λ x. IsCauseOf x made)
refused_by made e (Ok b) is h = elim is [ ]
refused_by made e (Err x) is h = let P : ProjectError → Type 0 = λ y. IsCauseOf y made in subst P (sym is) h

-- the cause of a first step is that of the whole
pub cause_first : {A B : Type 0} (e : ProjectError) (r : Result A ProjectError) (next : A → Result B ProjectError) →
    IsCauseOf e r → IsCauseOf e (r >>= next)
cause_first (SettingsFault field) r next is = ap (λ x. x >>= next) is
cause_first (EmptyTargets at) r next is = ap (λ x. x >>= next) is
cause_first (TwoWildcards at) r next is = ap (λ x. x >>= next) is
cause_first (ExactNeedsOne at) r next is = ap (λ x. x >>= next) is
cause_first (LockParser place cause) r next is = ap (λ x. x >>= next) is
cause_first NoMemory r next is = tt

-- so is the cause of a later one
pub cause_then : {A B : Type 0} (e : ProjectError) (r : Result A ProjectError) (a : A)
    (next : A → Result B ProjectError) → r ≡ Ok a → IsCauseOf e (next a) → IsCauseOf e (r >>= next)
cause_then {A = A} e r a next is h = let P : Result A ProjectError → Type 0 = λ x. IsCauseOf e (x >>= next) in
    subst P (sym is) h

-- the cause against patterns, as one against the settings
pub cause_of_patterns : {A : Type 0} (e : TsError) (r : Result A TsError) → IsReadAs (Err e) r →
    IsCauseOf (cause_of e) (widened cause_of r)
cause_of_patterns (ts_error.EmptyTargets at) r is = ap (widened cause_of) is
cause_of_patterns (ts_error.TwoWildcards at) r is = ap (widened cause_of) is
cause_of_patterns (ts_error.ExactNeedsOne at) r is = ap (widened cause_of) is
cause_of_patterns ts_error.NoMemory r is = tt

-- A mapping whose base folder isn't clean, and one whose patterns are refused
pub mapping_unclean : (e : ProjectError) (ts : TsSettings) (text : List ℕ) → text ≡ ts.base_url →
    IsCauseOf e (clean_setting (codes "base_url") text) → IsCauseOf e (mapping_of ts)
unfolding mapping_of
mapping_unclean e ts text same is =
    let P : List ℕ → Type 0 = λ t. IsCauseOf e (clean_setting (codes "base_url") t) in
    cause_first e (clean_setting (codes "base_url") ts.base_url) _ (subst P same is)

pub mapping_unread : (e : TsError) (ts : TsSettings) (text : List ℕ) (p : Path) → text ≡ ts.base_url →
    clean_setting (codes "base_url") text ≡ Ok p → IsReadAs {A = List Pattern} (Err e) (patterns_of ts.paths) →
    IsCauseOf (cause_of e) (mapping_of ts)
unfolding mapping_of
mapping_unread e ts text p same clean is =
    cause_then (cause_of e) (clean_setting (codes "base_url") ts.base_url) p _
    (ap (clean_setting (codes "base_url")) (sym same) ∙ clean)
    (cause_first (cause_of e) (widened cause_of (patterns_of ts.paths)) _
    (cause_of_patterns e (patterns_of ts.paths) is))

-- the mapping that settings make
pub mapping_made : (ts : TsSettings) (text : List ℕ) (p : Path) (m : Mapping) → text ≡ ts.base_url →
    clean_setting (codes "base_url") text ≡ Ok p → patterns_of ts.paths ≡ Ok m.patterns → m.base_url ≡ ts.base_url →
    m.version ≡ ts.version → mapping_of ts ≡ Ok m
unfolding mapping_of
mapping_made ts text p m same clean read base version =
    let with : List ℕ → List Pattern → Result Mapping ProjectError =
    λ url patterns. Ok (record { base_url = url; version = ts.version; patterns = patterns }) in
    ap (λ (r : Result Path ProjectError). r >>= λ folder. widened cause_of (patterns_of ts.paths)
    >>= with ts.base_url) (ap (clean_setting (codes "base_url")) (sym same) ∙ clean)
    ∙ ap (λ (r : Result (List Pattern) TsError). widened cause_of r >>= with ts.base_url) read
    ∙ (λ i. Ok (record { base_url = sym base i; version = sym version i; patterns = m.patterns }))

pub some_mapping : (ts : TsSettings) (m : Mapping) → mapping_of ts ≡ Ok m → mapping_given (Some ts) ≡ Ok (Some m)
some_mapping ts m made = ap (λ (r : Result Mapping ProjectError). r >>= λ mapping. Ok (Some mapping)) made

-- A project whose working folder isn't clean, and one whose mapping is refused
pub project_unclean : (e : ProjectError) (s : GivenSettings) (text : List ℕ) → text ≡ s.cwd →
    IsCauseOf e (clean_setting (codes "cwd") text) → IsCauseOf e (project_of s)
unfolding project_of
project_unclean e s text same is =
    let P : List ℕ → Type 0 = λ t. IsCauseOf e (clean_setting (codes "cwd") t) in
    cause_first e (clean_setting (codes "cwd") s.cwd) _ (subst P same is)

pub project_unmapped : (e : ProjectError) (s : GivenSettings) (text : List ℕ) (p : Path) (ts : TsSettings) →
    text ≡ s.cwd → clean_setting (codes "cwd") text ≡ Ok p → s.ts ≡ Some ts → IsCauseOf e (mapping_of ts) →
    IsCauseOf e (project_of s)
unfolding project_of
project_unmapped e s text p ts same clean is h =
    let P : Option TsSettings → Type 0 = λ o. IsCauseOf e (mapping_given o) in
    let refused : IsCauseOf e (mapping_given s.ts) =
    subst P (sym is) (cause_first e (mapping_of ts) (λ m. Ok (Some m)) h) in
    cause_then e (clean_setting (codes "cwd") s.cwd) p _ (ap (clean_setting (codes "cwd")) (sym same) ∙ clean)
    (cause_first e (mapping_given s.ts) _ refused)

-- A text that is no lock file, and a lock that settings have
pub lock_unread : (e : YarnLockError) (text : List ℕ) → Explains (lock_of text) e →
    IsCauseOf (error_of_lock e) (lock_in text)
lock_unread (yarn_lock_error.Parser place cause) text is = ap (widened cause_in_lock) is
lock_unread yarn_lock_error.NoMemory text is = tt

pub lock_read : (text : List ℕ) (lock : Lock) → lock_of text ≡ Ok lock → lock_in text ≡ Ok lock
lock_read text lock is = ap (widened cause_in_lock) is

pub some_lock : (text : List ℕ) (lock : Lock) → lock_in text ≡ Ok lock → lock_given (Some text) ≡ Ok (Some lock)
some_lock text lock read = ap (λ (r : Result Lock ProjectError). r >>= λ lock. Ok (Some lock)) read

-- a project whose lock is refused
pub project_unlocked : (e : ProjectError) (s : GivenSettings) (text : List ℕ) (p : Path) (o : Option Mapping)
    (lock : List ℕ) → text ≡ s.cwd → clean_setting (codes "cwd") text ≡ Ok p → mapping_given s.ts ≡ Ok o →
    s.lock ≡ Some lock → IsCauseOf e (lock_in lock) → IsCauseOf e (project_of s)
unfolding project_of
project_unlocked e s text p o lock same clean mapped is h =
    let P : Option (List ℕ) → Type 0 = λ l. IsCauseOf e (lock_given l) in
    let refused : IsCauseOf e (lock_given s.lock) =
    subst P (sym is) (cause_first e (lock_in lock) (λ l. Ok (Some l)) h) in
    cause_then e (clean_setting (codes "cwd") s.cwd) p _ (ap (clean_setting (codes "cwd")) (sym same) ∙ clean)
    (cause_then e (mapping_given s.ts) o _ mapped
    (cause_first e (lock_given s.lock) _ refused))

-- the project that settings make
pub project_made : (s : GivenSettings) (text : List ℕ) (p : Path) (o : Option Mapping) (l : Option Lock)
    (node : NodeSettings) → text ≡ s.cwd → clean_setting (codes "cwd") text ≡ Ok p → mapping_given s.ts ≡ Ok o →
    lock_given s.lock ≡ Ok l → node ≡ settings_of p s.target s.alias s.preserve_symlinks s.node_modules →
    project_of s ≡ Ok (record { node = node; mapping = o; lock = l; conditions = s.conditions })
unfolding project_of
project_made s text p o l node same clean mapped locked is =
    let with : NodeSettings → Option Mapping → Option Lock → Result ProjectSettings ProjectError =
    λ n m k. Ok (record { node = n; mapping = m; lock = k; conditions = s.conditions }) in
    let from : Path → NodeSettings = λ cwd. settings_of cwd s.target s.alias s.preserve_symlinks s.node_modules in
    ap (λ (r : Result Path ProjectError). r >>= λ cwd. mapping_given s.ts >>= λ m. lock_given s.lock
    >>= with (from cwd) m) (ap (clean_setting (codes "cwd")) (sym same) ∙ clean)
    ∙ ap (λ (r : Result (Option Mapping) ProjectError). r >>= λ m. lock_given s.lock >>= with (from p) m) mapped
    ∙ ap (λ (r : Result (Option Lock) ProjectError). r >>= with (from p) o) locked
    ∙ ap (λ n. with n o l) (sym is)
