-- How the text of a path falls into a base, a virtual part and a path inside an archive.
use Rattle.std.specs.Prelude.{
  ℕ,
  ◌-◌,
  ◌^◌,
  suc,
  max,
  Bool,
  false,
  not,
  ◌==◌,
  ◌&&◌,
  if◌then◌else◌,
  List,
  [],
  ◌∷◌,
  ◌++◌,
  length,
  take,
  drop,
  reverse,
  Option,
  Some,
  None,
  option_map,
  option_and_then,
  slice_get,
  unwrap_or,
  codes,
  bytes_eq,
  nat_eq,
  nat_lt,
}
use Rattle.std.specs.Char.{is_ascii_alphabetic}
use Rattle.std.specs.List.{ends_with}
use Rattle.std.specs.Str.{all_ascii_digits}
use Rattle.std.specs.Str.Parse.{digits_value, without_leading_plus}
use Rattle.sugar_path.specs.Path.{Path, is_absolute, parts, join}
use Rattle.pnp_core.specs.declared.virtual_path.VPath.{VPath}
use Rattle.pnp_core.specs.declared.virtual_path.VPath.TheVariants.{Zip, Virtual, Native}
use Rattle.pnp_core.specs.declared.virtual_path.ZipInfo.{ZipInfo}
use Rattle.pnp_core.specs.declared.virtual_path.VirtualInfo.{VirtualInfo}
use Rattle.pnp_core.specs.NormalizePath.{normalize_path}

-- what stands between the slashes of a path, in the order of its text
abbrev pub Segments : Type 0
Segments = List (List ℕ)

abbrev pub behind_root : List ℕ → List ℕ
behind_root [] = []
behind_root (c ∷ t) = if c == 47 then t else c ∷ t

-- the segments of a text behind its root, if it has one; where nothing is left, there are none
abbrev pub segments : List ℕ → Segments
segments t = if bytes_eq (behind_root t) [] then [] else parts (behind_root t)

-- names, the last one first, with a `/` between each two
abbrev pub joined : Path → List ℕ
joined [] = []
joined (n ∷ []) = n
joined (n ∷ m ∷ p) = joined (m ∷ p) ++ 47 ∷ n

-- segments with a `/` between each two
abbrev pub text_of_segments : Segments → List ℕ
text_of_segments ss = joined (reverse ss)

-- a name that ends in `.zip`, behind at least one other byte
abbrev pub is_archive : List ℕ → Bool
is_archive s = nat_lt 4 (length s) && ends_with nat_eq s (codes ".zip")

abbrev pub is_mark : List ℕ → Bool
is_mark s = bytes_eq s (codes "__virtual__")

-- an ASCII letter and `:`
abbrev pub is_drive : List ℕ → Bool
is_drive [] = false
is_drive (c ∷ []) = false
is_drive (c ∷ d ∷ []) = is_ascii_alphabetic c && d == 58
is_drive (c ∷ d ∷ e ∷ s) = false

-- how many segments there are through the first archive; all, where there is none
abbrev pub through_archive : Segments → ℕ
through_archive [] = 0
through_archive (s ∷ ss) = if is_archive s then 1 else suc (through_archive ss)

-- how many segments stand before `__virtual__`, where it comes before every archive
abbrev pub before_mark : Segments → Option ℕ
before_mark [] = None
before_mark (s ∷ ss) =
    if is_mark s then Some 0 else if is_archive s then None else option_map suc (before_mark ss)

abbrev pub are_digits : List ℕ → Bool
are_digits t = not (bytes_eq t []) && all_ascii_digits t

-- the number that digits say, where 64 bits hold it
abbrev pub number_of : List ℕ → Option ℕ
number_of t =
    if are_digits t && nat_lt (digits_value 10 t) (2 ^ 64) then Some (digits_value 10 t) else None

-- the number that a segment says: digits, behind a `+` or not
abbrev pub depth_of : List ℕ → Option ℕ
depth_of s = number_of (without_leading_plus s)

-- the first segment under a root stays there where it is the letter of a drive
abbrev pub fixed : Bool → Segments → ℕ
fixed rooted [] = 0
fixed rooted (s ∷ ss) = if rooted && is_drive s then 1 else 0

-- how many of the segments before `__virtual__` are the base: a depth takes that many from their end, at most all that
-- may move
abbrev pub staying : Bool → Segments → Option ℕ → ℕ
staying rooted front None = length front
staying rooted front (Some depth) = max (length front - depth) (fixed rooted front)

-- the segments of a path, parted
pub record PathParts : Type 0 where
  -- where the path lies, but for the inner path of a virtual one
  pub base : Segments
  -- of a virtual path all that isn't the base, and the inner path, with which that ends
  pub virtual : Option (Segments × Segments)
  -- what follows the archive
  pub archived : Segments

abbrev pub plain_parts : Segments → PathParts
plain_parts ss = record {
  base = take (through_archive ss) ss;
  virtual = None;
  archived = drop (through_archive ss) ss;
}

-- The segments before `__virtual__`, and those from it on: itself, a hash and a depth, as far as they are there, and
-- then the inner path, through the first archive. What the depth moves stands before them.
abbrev pub virtual_parts : Bool → Segments → Segments → PathParts
virtual_parts rooted front marked = record {
  base = take stay front;
  virtual = Some (drop stay front ++ take 3 marked ++ inner, inner);
  archived = drop (through_archive (drop 3 marked)) (drop 3 marked);
}
  where
    stay : ℕ
    stay = staying rooted front (option_and_then depth_of (slice_get marked 2))

    inner : Segments
    inner = take (through_archive (drop 3 marked)) (drop 3 marked)

-- by how many segments stand before `__virtual__`
abbrev pub parts_by : Bool → Segments → Option ℕ → PathParts
parts_by rooted ss None = plain_parts ss
parts_by rooted ss (Some at) = virtual_parts rooted (take at ss) (drop at ss)

-- with a root or without
unfoldable pub parts_of : Bool → Segments → PathParts
parts_of rooted ss = parts_by rooted ss (before_mark ss)

-- the base's text has the root
abbrev pub base_text : Bool → Segments → List ℕ
base_text rooted base = if rooted then 47 ∷ text_of_segments base else text_of_segments base

abbrev pub virtual_texts : Segments × Segments → List ℕ × List ℕ
virtual_texts virtual = (text_of_segments virtual.0, text_of_segments virtual.1)

-- Which path is meant, where it isn't the text itself: one inside an archive, where a segment follows the archive, if
-- only an empty one; else one with a virtual part.
unfoldable pub special : Bool → PathParts → Option VPath
special rooted path = by_archived path.archived
  where
    by_archived : Segments → Option VPath
    by_archived [] =
        option_map (λ virtual. Virtual (record {
          base_path = base_text rooted path.base;
          virtual_segments =
              virtual_texts virtual;
        })) path.virtual
    by_archived (s ∷ ss) = Some (Zip (record {
      base_path = base_text rooted path.base;
      virtual_segments = option_map virtual_texts path.virtual;
      zip_path = text_of_segments (s ∷ ss);
    }))

abbrev pub special_of : List ℕ → Option VPath
special_of t = special (is_absolute t) (parts_of (is_absolute t) (segments t))

-- what the text of a path means: a place inside an archive, a virtual place, or the path of its normal form
unfoldable pub virtual_path : List ℕ → VPath
virtual_path t = unwrap_or (special_of (normalize_path t)) (Native (normalize_path t))

-- the base path, and behind it the inner path, where there is one
abbrev pub physical_base : List ℕ → Option (List ℕ × List ℕ) → List ℕ
physical_base base None = base
physical_base base (Some virtual) = join base virtual.1

abbrev pub zip_physical : ZipInfo → List ℕ
zip_physical info = physical_base info.base_path info.virtual_segments

abbrev pub virtual_physical : VirtualInfo → List ℕ
virtual_physical info = physical_base info.base_path (Some info.virtual_segments)
