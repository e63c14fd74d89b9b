-- Which versions meet comparators and alternatives of them.
use Rattle.std.specs.Prelude.{Bool, false, ◌==◌, ◌&&◌, ◌||◌, not, List, length}
use Rattle.std.specs.List.{list_all, list_any}
use Rattle.std.specs.Ordering.{is_eq, is_ge, is_gt, is_le, is_lt, nat_cmp, ordering_then}
use Rattle.std.specs.declared.cmp.Ordering.{Ordering}
use Rattle.semver.specs.Order.{pre_cmp}
use Rattle.semver.specs.Parse.{Parts}
use Rattle.npm_req.specs.declared.comparator.Relation.{Relation}
use Rattle.npm_req.specs.declared.comparator.Relation.TheVariants.{Equal, AtLeast, Above, Below, AtMost}
use Rattle.npm_req.specs.declared.comparator.Comparator.{Comparator}
use Rattle.npm_req.specs.declared.comparator.Comparator.TheVariants.{Never, Bound}

-- the order of two versions by their numbers
abbrev pub numbers_order : Parts → Parts → Ordering
numbers_order v w = ordering_then (ordering_then (nat_cmp v.0 w.0) (nat_cmp v.1 w.1)) (nat_cmp v.2 w.2)

-- the order of two versions in Semantic Versioning: by their numbers, then by their pre-releases; builds don't count
abbrev pub precedence : Parts → Parts → Ordering
precedence v w = ordering_then (numbers_order v w) (pre_cmp v.3 w.3)

-- whether two versions in that order stand in the relation
abbrev pub stands : Relation → Ordering → Bool
stands Equal o = is_eq o
stands AtLeast o = is_ge o
stands Above o = is_gt o
stands Below o = is_lt o
stands AtMost o = is_le o

-- whether the version is where the comparator wants it
abbrev pub is_within : Parts → Comparator → Bool
is_within v Never = false
is_within v (Bound relation w) = stands relation (precedence v w)

-- whether the version is a pre-release
abbrev pub is_pre_release : Parts → Bool
is_pre_release v = not (length v.3 == 0)

-- whether the comparator names a pre-release of the same three numbers
abbrev pub names_pre_release : Parts → Comparator → Bool
names_pre_release v Never = false
names_pre_release v (Bound relation w) = (w.0 == v.0) && (w.1 == v.1) && (w.2 == v.2) && is_pre_release w

-- a version meets comparators where it is within them all; a pre-release does so only where one of them names one of
-- its three numbers
abbrev pub meets_all : Parts → List Comparator → Bool
meets_all v cs = list_all (is_within v) cs && (not (is_pre_release v) || list_any (names_pre_release v) cs)

-- some alternative is met
abbrev pub meets : Parts → List (List Comparator) → Bool
meets v alternatives = list_any (meets_all v) alternatives
