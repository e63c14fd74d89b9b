-- Steps of the reading of rules for browsers, one folder, entry or rule at a time.
use Rattle.std.proofs.Common.{
  ◌≡◌,
  ◌<◌,
  ℕ,
  ◌+◌,
  Bool,
  true,
  false,
  not,
  cond,
  if◌then◌else◌,
  List,
  [],
  ◌∷◌,
  ◌++◌,
  map,
  drop,
  get_or,
  length,
  Option,
  Some,
  None,
  option_map,
  unwrap_or,
  Result,
  String,
  Global,
  string_bytes,
  refl,
  sym,
  ap,
  ◌∙◌,
  subst,
  append_assoc,
  append-nil,
}
use Rattle.std.specs.Prelude.{◌||◌, option_and_then}
use Rattle.std.specs.List.{list_any, last_or}
use Rattle.std.specs.Option.{option_map_or}
use Rattle.std.proofs.lemmas.List.{drop_more}
use Rattle.serde_json.specs.View.{view, members_view}
use Rattle.serde_json.specs.declared.value.Value.{Value}
use Rattle.serde_json.specs.Data.{Data, null, boolean, number, string, array, object, Members, no_members, member}
use Rattle.serde_json.specs.Find.{as_str, as_bool}
use Rattle.sugar_path.specs.Path.{Path, parent, is_root, up}
use Rattle.tree_core.specs.declared.tree.ReadError.{ReadError}
use Rattle.tree_core.specs.Asks.{Asking, Asks, Leads}
use Rattle.tree_core.specs.Plan.{Plan, Done, ◌>>=◌, file, first_file}
use Rattle.tree_core.proofs.RowOrders.{then-then, then-done, then_alike}
use Rattle.swc_loader.specs.declared.browser_rules.Source.{Source}
use Rattle.swc_loader.specs.declared.browser_rules.Rule.{Rule}
use Rattle.swc_loader.specs.declared.browser_rules.ModuleRule.{ModuleRule}
use Rattle.swc_loader.specs.declared.browser_rules.ModuleRule.TheVariants.{NoRule, Ignored, File}
use Rattle.swc_loader.specs.Conventions.{Conventions}
use Rattle.swc_loader.specs.Entry.{package_in}
use Rattle.swc_loader.specs.Search.{package_file}
use Rattle.swc_loader.specs.BrowserRules.{
  rule_of,
  with_rule,
  rules_of,
  map_in,
  browser_entries,
  root,
  is_source,
  rules_about,
  ignores,
  said_by_last,
  ignore_or_last,
  ruled,
}

-- a folder that has a package.json is the root, and else it is looked for further up
abbrev pub or_above : Path → Bool → Plan (Option Path)
or_above d there = cond there (Done (Some d)) (root d)

root-step : (n : List ℕ) (d : Path) → root (n ∷ d) ≡ file (package_file d) >>= or_above d
unfolding root ◌>>=◌
root-step n d =
    then-then (file (package_file d)) (λ there. cond there (Done (Some (package_file d)))
    (first_file (map package_file (up d)))) (λ found. Done (option_map parent found))
    ∙ then_alike (file (package_file d)) _ (or_above d) by_test
  where
    by_test : (b : Bool) → cond b (Done (Some (package_file d))) (first_file (map package_file (up d)))
        >>= (λ found. Done (option_map parent found)) ≡ or_above d b
    by_test true = refl
    by_test false = refl

-- where there is a folder above, it is asked first
pub root-above : (d : Path) (went : Bool) → went ≡ not (is_root d) → went ≡ true
    → root d ≡ file (package_file (parent d)) >>= or_above (parent d)
root-above [] went is rises = cc
root-above (n ∷ d) went is rises = root-step n d

pub root-top : (d : Path) (went : Bool) → went ≡ not (is_root d) → went ≡ false → root d ≡ Done None
unfolding root ◌>>=◌
root-top [] went is stays = refl
root-top (n ∷ d) went is stays = cc

-- rules that were read, with those behind them
abbrev pub behind_rules : List Rule → List Rule → Plan (List Rule)
behind_rules read rules = Done (read ++ rules)

-- what is left of the entries, behind the rules that were read
abbrev pub left_rules : Conventions → Path → List Rule → Members → Plan (List Rule)
left_rules c r read ms = rules_of c r ms >>= behind_rules read

pub left_rules-all : (c : Conventions) (r : Path) (ms : Members) → left_rules c r [] ms ≡ rules_of c r ms
left_rules-all c r ms = then-done (rules_of c r ms)

pub left_rules-step : (c : Conventions) (r : Path) (read : List Rule) (key : List ℕ) (d : Data) (ms : Members)
    → left_rules c r read (member key d ms) ≡ rule_of c r key d
    >>= λ rule. left_rules c r (read ++ with_rule rule []) ms
unfolding ◌>>=◌
left_rules-step c r read key d ms =
    then-then (rule_of c r key d) (λ rule. rules_of c r ms >>= λ rules. Done (with_rule rule rules)) (behind_rules read)
    ∙ then_alike (rule_of c r key d) _ (λ rule. left_rules c r (read ++ with_rule rule []) ms) by_rule
  where
    joined : (rule : Option Rule) (rules : List Rule) → read ++ with_rule rule rules ≡ (read ++ with_rule rule [])
        ++ rules
    joined None rules = ap (λ xs. xs ++ rules) (sym (append-nil read))
    joined (Some rule) rules = sym (append_assoc read (rule ∷ []) rules)

    by_rule : (rule : Option Rule) → (rules_of c r ms >>= λ rules. Done (with_rule rule rules))
        >>= behind_rules read ≡ left_rules c r (read ++ with_rule rule []) ms
    by_rule rule =
        then-then (rules_of c r ms) (λ rules. Done (with_rule rule rules)) (behind_rules read)
        ∙ then_alike (rules_of c r ms) _ (behind_rules (read ++ with_rule rule []))
        (λ rules. ap (λ xs. Done xs) (joined rule rules))

-- what a value is of which it is known whether it is a text, and whether it is false
pub is_text : (d : Data) {text : List ℕ} → as_str d ≡ Some text → d ≡ string text
is_text null h = cc
is_text (boolean b) h = cc
is_text (number n) h = cc
is_text (string s) h = cc
is_text (array ds) h = cc
is_text (object ms) h = cc

pub is_false : (d : Data) → unwrap_or (as_bool d) true ≡ false → d ≡ boolean false
is_false null h = cc
is_false (boolean b) h = cc
is_false (number n) h = cc
is_false (string s) h = cc
is_false (array ds) h = cc
is_false (object ms) h = cc

-- any other value gives no rule
pub no_rule : (c : Conventions) (r : Path) (key : List ℕ) (d : Data) → as_str d ≡ None
    → unwrap_or (as_bool d) true ≡ true → rule_of c r key d ≡ Done None
no_rule c r key null texts flag = refl
no_rule c r key (boolean true) texts flag = refl
no_rule c r key (boolean false) texts flag = cc
no_rule c r key (number n) texts flag = refl
no_rule c r key (string s) texts flag = cc
no_rule c r key (array ds) texts flag = refl
no_rule c r key (object ms) texts flag = refl

-- the entries of a package.json with a map
pub entries-map : (c : Conventions) (content : Option (List ℕ)) {d : Data} {ms : Members}
    → package_in c content ≡ Some d → map_in d ≡ Some ms → browser_entries c content ≡ ms
entries-map c content is map =
    ap (λ p. unwrap_or (option_and_then map_in p) no_members) is ∙ ap (λ m. unwrap_or m no_members) map

pub entries-no_map : (c : Conventions) (content : Option (List ℕ)) {d : Data} → package_in c content ≡ Some d
    → map_in d ≡ None → browser_entries c content ≡ no_members
entries-no_map c content is map =
    ap (λ p. unwrap_or (option_and_then map_in p) no_members) is ∙ ap (λ m. unwrap_or m no_members) map

pub entries-none : (c : Conventions) (content : Option (List ℕ)) → package_in c content ≡ None
    → browser_entries c content ≡ no_members
entries-none c content is = ap (λ p. unwrap_or (option_and_then map_in p) no_members) is

-- a call by the rules of entries that are known
pub by_entries : {old new : Asking} {result : Result (List Rule) ReadError} (c : Conventions) (r : Path)
    (content : Option (List ℕ)) {ms : Members} → browser_entries c content ≡ ms → Asks old new result (rules_of c r ms)
    → Asks old new result (rules_of c r (browser_entries c content))
by_entries {old = old} {new = new} {result = result} c r content is h =
    let P : Members → Type 0 = λ ms. Asks old new result (rules_of c r ms) in
    subst P (sym is) h

-- in a loop over entries: at one of them, its rule comes first, and then those behind it
pub leads_entry : {old mid : Asking} {whole : Plan (List Rule)} (c : Conventions) (r : Path) (read : List Rule)
    (all : List (String Global × Value)) (e : String Global × Value) (es : List (String Global × Value)) → all ≡ e ∷ es
    → Leads old mid whole (left_rules c r read (members_view all))
    → Leads old mid whole (rule_of c r (string_bytes e.0) (view e.1)
    >>= λ rule. left_rules c r (read ++ with_rule rule []) (members_view es))
leads_entry {old = old} {mid = mid} {whole = whole} c r read all e es is h =
    let P : Plan (List Rule) → Type 0 = λ rest. Leads old mid whole rest in
    subst P (ap (λ xs. left_rules c r read (members_view xs)) is
    ∙ left_rules-step c r read (string_bytes e.0) (view e.1) (members_view es)) h

left_rules-none : (c : Conventions) (r : Path) (read : List Rule) → left_rules c r read no_members ≡ Done read
unfolding ◌>>=◌
left_rules-none c r read = ap (λ rules. Done rules) (append-nil read)

-- and at the end the rules that were read are all
pub leads_no_entry : {old mid : Asking} {whole : Plan (List Rule)} (c : Conventions) (r : Path) (read : List Rule)
    (all : List (String Global × Value)) → all ≡ [] → Leads old mid whole (left_rules c r read (members_view all))
    → Leads old mid whole (Done read)
leads_no_entry {old = old} {mid = mid} {whole = whole} c r read all is h =
    let P : Plan (List Rule) → Type 0 = λ rest. Leads old mid whole rest in
    subst P (ap (λ xs. left_rules c r read (members_view xs)) is ∙ left_rules-none c r read) h

-- what a rule says of its source, before what later rules say of it
abbrev pub or_later : Option Path → ModuleRule → ModuleRule
or_later None later = Ignored
or_later (Some f) Ignored = Ignored
or_later (Some f) (File g) = File g
or_later (Some f) NoRule = File f

or_right : (a b : Bool) → (a || b) ≡ false → b ≡ false
or_right true b none = cc
or_right false b none = none

-- the last of rules none of which ignores names a file, whatever came before
last_names : (f : Path) (y : Rule) (ys : List Rule) → list_any ignores (y ∷ ys) ≡ false
    → said_by_last (last_or (Some y) ys) ≡ or_later (Some f) (said_by_last (last_or (Some y) ys))
last_names f y [] none = by_target y.target (or_left (ignores y) none)
  where
    or_left : (a : Bool) → (a || false) ≡ false → a ≡ false
    or_left true none = cc
    or_left false none = refl

    by_target : (o : Option Path) → option_map_or (λ (_ : Path). false) o true ≡ false
        → option_map_or File o Ignored ≡ or_later (Some f) (option_map_or File o Ignored)
    by_target None none = cc
    by_target (Some g) none = refl
last_names f y (z ∷ zs) none = last_names f z zs (or_right (ignores y) (list_any ignores (z ∷ zs)) none)

-- a rule before others that are about the same source
before_others : (o : Option Path) (about : Source) (rules : List Rule)
    → ignore_or_last (record { source = about; target = o } ∷ rules) ≡ or_later o (ignore_or_last rules)
before_others None about rules = refl
before_others (Some f) about rules = by_any (list_any ignores rules) refl
  where
    first : Rule
    first = record { source = about; target = Some f }

    by_rules : (rs : List Rule) → list_any ignores rs ≡ false
        → said_by_last (last_or (Some first) rs) ≡ or_later (Some f) (said_by_last (last_or None rs))
    by_rules [] none = refl
    by_rules (y ∷ ys) none = last_names f y ys none

    by_any : (b : Bool) → list_any ignores rules ≡ b
        → cond b Ignored (said_by_last (last_or (Some first) rules)) ≡ or_later (Some f)
        (cond b Ignored (said_by_last (last_or None rules)))
    by_any true is = refl
    by_any false is = by_rules rules is

-- what rules say of a source, one rule after the other
ruled-step : (rule : Rule) (rules : List Rule) (about : Source)
    → ruled (rule ∷ rules) about ≡ cond (is_source rule.source about) (or_later rule.target (ruled rules about))
    (ruled rules about)
ruled-step rule rules about = by_test (is_source rule.source about)
  where
    by_test : (b : Bool) → ignore_or_last (cond b (rule ∷ rules_about about rules) (rules_about about rules)) ≡ cond b
        (or_later rule.target (ruled rules about)) (ruled rules about)
    by_test true = before_others rule.target rule.source (rules_about about rules)
    by_test false = refl

-- the file that the last rule named, where later rules say something
abbrev pub said_before : Option Path → ModuleRule → ModuleRule
said_before None later = later
said_before (Some f) later = or_later (Some f) later

said_before-named : (last : Option Path) (f : Path) (later : ModuleRule)
    → said_before last (or_later (Some f) later) ≡ said_before (Some f) later
said_before-named None f later = refl
said_before-named (Some g) f NoRule = refl
said_before-named (Some g) f Ignored = refl
said_before-named (Some g) f (File h) = refl

-- the rules from one of them on
ruled-at : (rules : List Rule) (i : ℕ) (rule : Rule) (about : Source) → i < length rules → rule ≡ get_or rules i rule
    → ruled (drop i rules) about ≡ cond (is_source rule.source about)
    (or_later rule.target (ruled (drop (i + 1) rules) about)) (ruled (drop (i + 1) rules) about)
ruled-at rules i rule about lt is = ap (λ rs. ruled rs about)
    (drop_more rules i rule lt ∙ ap (λ r. r ∷ drop (i + 1) rules) (sym is)) ∙ ruled-step rule (drop (i + 1) rules) about

-- a rule on another source says nothing
pub ruled-other : (last : Option Path) (rules : List Rule) (i : ℕ) (rule : Rule) (about : Source) → i < length rules
    → rule ≡ get_or rules i rule → is_source rule.source about ≡ false
    → ruled rules about ≡ said_before last (ruled (drop i rules) about)
    → ruled rules about ≡ said_before last (ruled (drop (i + 1) rules) about)
ruled-other last rules i rule about lt is other h =
    h ∙ ap (said_before last) (ruled-at rules i rule about lt is
    ∙ ap (λ b. if b then or_later rule.target (ruled (drop (i + 1) rules) about) else ruled (drop (i + 1) rules)
    about) other)

-- a rule that names a file goes before those that named one before it
pub ruled-named : (last : Option Path) (rules : List Rule) (i : ℕ) (rule : Rule) (about : Source) (f : Path)
    → i < length rules → rule ≡ get_or rules i rule → is_source rule.source about ≡ true → rule.target ≡ Some f
    → ruled rules about ≡ said_before last (ruled (drop i rules) about)
    → ruled rules about ≡ said_before (Some f) (ruled (drop (i + 1) rules) about)
ruled-named last rules i rule about f lt is same target h =
    let rest : ModuleRule = ruled (drop (i + 1) rules) about in
    h
    ∙ ap (said_before last) (ruled-at rules i rule about lt is
    ∙ ap (λ b. if b then or_later rule.target rest else rest) same ∙ ap (λ t. or_later t rest) target)
    ∙ said_before-named last f rest
