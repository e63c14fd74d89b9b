-- The mapping of requests by TypeScript's `paths` and `baseUrl`, over any inner order: which inner requests are made,
-- and how each ends.
use Rattle.std.specs.Prelude.{
  ℕ,
  ◌==◌,
  ◌&&◌,
  ◌||◌,
  Bool,
  false,
  not,
  if◌then◌else◌,
  nat_eq,
  bytes_eq,
  codes,
  get_or,
  List,
  [],
  ◌∷◌,
  ◌++◌,
  map,
  Option,
  Some,
  None,
  Result,
  Ok,
  Err,
}
use Rattle.std.specs.List.{list_any, after_last, before_first, starts_with}
use Rattle.sugar_path.specs.Path.{parts, is_absolute, join}
use Rattle.tree_core.specs.Plan.{Plan, Done, ◌>>=◌, ◌>>=?◌}
use Rattle.swc_loader.specs.declared.resolution.FileName.{FileName}
use Rattle.swc_loader.specs.declared.resolution.FileName.TheVariants.{Real, Custom, Anon}
use Rattle.swc_loader.specs.declared.resolution.Resolution.{Resolution}
use Rattle.swc_loader.specs.declared.ts_version.TsVersion.{TsVersion}
use Rattle.resolver_core.specs.declared.pattern.Pattern.{Pattern}
use Rattle.resolver_core.specs.declared.pattern.Pattern.TheVariants.{Exact, Starred}
use Rattle.resolver_core.specs.declared.pattern.Wildcard.{Wildcard}
use Rattle.resolver_core.specs.declared.refusal.TsRefusal.{TsRefusal}
use Rattle.resolver_core.specs.declared.refusal.TsRefusal.TheVariants.{Inner, TsFault}
use Rattle.star_texts.specs.Star.{replaced}
use Rattle.resolver_core.specs.Pattern.{rest_of, deciding}

-- an order of search: what a request comes to, from a base, by a specifier
abbrev pub Order : Type 0 → Type 0
Order X = FileName → List ℕ → Plan (Result Resolution X)

-- a mapping: its base folder, the version of its settings, and its patterns in the order given
pub record Mapping : Type 0 where
  pub base_url : List ℕ
  pub version : TsVersion
  pub patterns : List Pattern

abbrev pub is_slash : ℕ → Bool
is_slash b = b == 47

abbrev pub is_dot : ℕ → Bool
is_dot b = b == 46

abbrev pub is_modules : List ℕ → Bool
is_modules part = bytes_eq part (codes "node_modules")

-- a path with a component `node_modules`
abbrev pub is_in_modules : FileName → Bool
is_in_modules (Real text) = list_any is_modules (parts text)
is_in_modules (Custom name) = false
is_in_modules Anon = false

-- An answer in `node_modules` to a base outside is named by the specifier; its other fields stay.
abbrev pub masked : FileName → List ℕ → Resolution → Resolution
masked base specifier r =
    if is_in_modules r.filename && not (is_in_modules base) then record r { filename = Real specifier }
    else r

-- an inner request, and how its success is answered
pub record Try : Type 0 where
  pub base : FileName
  pub specifier : List ℕ
  pub answer : Resolution → Resolution

-- tries in order, one at least
pub data Tries : Type 0 where
  Last : Try → Tries
  First : Try → Tries → Tries

-- How a request is mapped: the tries, and what comes where all fail.
pub data Mapped : Type 0 where
  -- the last try's refusal
  Passed : Tries → Mapped
  -- an answer that nothing checks, at once
  Unchecked : Resolution → Mapped
  -- such an answer, behind tries
  OrUnchecked : Tries → Resolution → Mapped
  -- the refusal by a pattern, with the refusal of each target's last try
  OrFault : List ℕ → List Tries → Mapped

-- a try whose success is answered as it is
abbrev pub plain : FileName → List ℕ → Try
plain base specifier = record { base = base; specifier = specifier; answer = λ r. r }

abbrev pub with_slug : Option (List ℕ) → Resolution → Resolution
with_slug slug r = record r { slug = slug }

-- an answer by a path that nothing checks
abbrev pub unchecked : List ℕ → Option (List ℕ) → Resolution
unchecked path slug = record { filename = Real path; slug = slug; found = None }

-- a text behind `./`
abbrev pub here : List ℕ → List ℕ
here text = codes "./" ++ text

-- Relative specifiers, and those from below `node_modules`, go to the inner order as they are.
abbrev pub is_passed : FileName → List ℕ → Bool
is_passed base s =
    bytes_eq s (codes "..") || starts_with nat_eq s (codes "./") || starts_with nat_eq s (codes "../")
    || is_in_modules base

-- The slug of an exact pattern's answer: the target's last part up to its first dot. The name of an index file gives
-- none.
abbrev pub slug_in : List ℕ → Option (List ℕ)
slug_in segment =
    if bytes_eq segment (codes "index.ts") || bytes_eq segment (codes "index.tsx") then None
    else Some (before_first is_dot segment)

abbrev pub slug_of : List ℕ → Option (List ℕ)
slug_of target = slug_in (after_last is_slash target)

-- An exact pattern: its target from the base folder, and else the target's path.
abbrev pub by_exact : List ℕ → List ℕ → Mapped
by_exact base_url target =
    if is_absolute target then Unchecked (unchecked target (slug_of target))
    else OrUnchecked
    (Last (record { base = Real base_url; specifier = here target; answer = with_slug (slug_of target) }))
    (unchecked (join base_url target) (slug_of target))

-- a target with the rest of the specifier in place of each `*`
abbrev pub with_rest : List ℕ → List ℕ → List ℕ
with_rest rest target = replaced target rest

-- The tries of a wildcard's target: the request as it is, and then the replaced target from the base folder.
abbrev pub tries_of : FileName → FileName → List ℕ → List ℕ → Tries
tries_of folder base s target =
    First (plain base s) (First (plain folder (here target)) (Last (plain folder target)))

-- The only target of a wildcard with a text before its `*` is answered where all tries fail.
abbrev pub by_only_target : FileName → FileName → List ℕ → List ℕ → Mapped
by_only_target folder base s target =
    OrUnchecked (tries_of folder base s target) (unchecked target (Some (after_last is_slash target)))

abbrev pub by_targets : FileName → FileName → List ℕ → List ℕ → List ℕ → List (List ℕ) → Mapped
by_targets folder base s text (c ∷ prefix) (target ∷ []) = by_only_target folder base s target
by_targets folder base s text prefix targets = OrFault text (map (tries_of folder base s) targets)

-- A wildcard: the specifier's rest replaces each `*`.
abbrev pub by_wildcard : TsVersion → FileName → FileName → List ℕ → Wildcard → Mapped
by_wildcard version folder base s w =
    by_targets folder base s w.text w.prefix (map (with_rest (rest_of version s w)) w.targets)

-- No pattern: behind the base folder first, unless the specifier begins with a dot.
abbrev pub by_base_folder : List ℕ → FileName → List ℕ → Mapped
by_base_folder base_url base s =
    if get_or s 0 0 == 46 then Passed (Last (plain base s))
    else Passed (First (plain base (join base_url s)) (Last (plain base s)))

abbrev pub by_pattern : Mapping → FileName → List ℕ → Option Pattern → Mapped
by_pattern m base s None = by_base_folder m.base_url base s
by_pattern m base s (Some (Exact text target)) = by_exact m.base_url target
by_pattern m base s (Some (Starred w)) = by_wildcard m.version (Real m.base_url) base s w

-- how a mapping maps a request
abbrev pub mapped : Mapping → FileName → List ℕ → Mapped
mapped m base s =
    if is_passed base s then Passed (Last (plain base s)) else by_pattern m base s (deciding m.version m.patterns s)

-- a try by the inner order: its success is masked
unfoldable pub tried : {X : Type 0} → Order X → Try → Plan (Result Resolution X)
tried inner t = inner t.base t.specifier >>=? λ r. Done (Ok (t.answer (masked t.base t.specifier r)))

abbrev pub or_next : {X : Type 0} → Plan (Result Resolution X) → Result Resolution X → Plan (Result Resolution X)
or_next next (Ok r) = Done (Ok r)
or_next next (Err x) = next

-- the first success of tries, or the refusal of the last
abbrev pub first_success : {X : Type 0} → Order X → Tries → Plan (Result Resolution X)
first_success inner (Last t) = tried inner t
first_success inner (First t ts) = tried inner t >>= or_next (first_success inner ts)

-- an answer, or this refusal in front of the others
abbrev pub with_refusal : {X : Type 0} → X → Result Resolution (List X) → Result Resolution (List X)
with_refusal x (Ok r) = Ok r
with_refusal x (Err xs) = Err (x ∷ xs)

abbrev pub or_more : {X : Type 0} → Plan (Result Resolution (List X)) → Result Resolution X
    → Plan (Result Resolution (List X))
or_more next (Ok r) = Done (Ok r)
or_more next (Err x) = next >>= λ result. Done (with_refusal x result)

-- the first success of targets' tries, or the refusal of each one's last try
abbrev pub each_target : {X : Type 0} → Order X → List Tries → Plan (Result Resolution (List X))
each_target inner [] = Done (Err [])
each_target inner (ts ∷ rest) = first_success inner ts >>= or_more (each_target inner rest)

abbrev pub passed : {X : Type 0} → Result Resolution X → Result Resolution (TsRefusal X)
passed (Ok r) = Ok r
passed (Err x) = Err (Inner x)

abbrev pub or_unchecked : {X Y : Type 0} → Resolution → Result Resolution X → Result Resolution Y
or_unchecked r (Ok found) = Ok found
or_unchecked r (Err x) = Ok r

abbrev pub or_fault : {X : Type 0} → List ℕ → Result Resolution (List X) → Result Resolution (TsRefusal X)
or_fault pattern (Ok r) = Ok r
or_fault pattern (Err refusals) = Err (TsFault pattern refusals)

-- what a mapped request comes to
unfoldable pub by_mapped : {X : Type 0} → Order X → Mapped → Plan (Result Resolution (TsRefusal X))
by_mapped inner (Passed ts) = first_success inner ts >>= λ result. Done (passed result)
by_mapped inner (Unchecked r) = Done (Ok r)
by_mapped inner (OrUnchecked ts r) = first_success inner ts >>= λ result. Done (or_unchecked r result)
by_mapped inner (OrFault pattern targets) =
    each_target inner targets >>= λ result. Done (or_fault pattern result)

-- the order of a mapping over an inner order
abbrev pub mapping_order : {X : Type 0} → Order X → Mapping → Order (TsRefusal X)
mapping_order inner m base s = by_mapped inner (mapped m base s)

-- what a resolver by a mapping hangs on: what the inner one hangs on, and the mapping
pub record MappingView (V : Type 0) : Type 0 where
  pub inner : V
  pub mapping : Mapping
