-- What the reader's own sets, kinds and flags stand for. Contracts of private functions alone read this.
use Rattle.std.specs.Prelude.{ℕ, Bool}
use Rattle.std.specs.Char.{is_ascii_digit}
use Rattle.yarn_lock_parser.specs.declared.byte_set.ByteSet.{ByteSet}
use Rattle.yarn_lock_parser.specs.declared.byte_set.ByteSet.TheVariants as set
use Rattle.yarn_lock_parser.specs.declared.dependencies.DependencyKind.{DependencyKind as GivenKind}
use Rattle.yarn_lock_parser.specs.declared.dependencies.DependencyKind.TheVariants as given_kind
use Rattle.yarn_lock_parser.specs.declared.metas.Flag.{Flag as GivenFlag}
use Rattle.yarn_lock_parser.specs.declared.metas.Flag.TheVariants as given_flag
use Rattle.yarn_lock_parser.specs.declared.metas.MetaKind.{MetaKind as GivenMetaKind}
use Rattle.yarn_lock_parser.specs.declared.metas.MetaKind.TheVariants as given_meta_kind
use Rattle.yarn_lock_parser.specs.ByteSet.{
  is_blank,
  is_white_space,
  is_version_byte,
  is_no_line_end,
  is_no_colon,
  is_no_at,
  is_descriptor_byte,
  is_name_byte,
  is_unquoted_byte,
}
use Rattle.yarn_lock_parser.specs.Dependencies as kinds
use Rattle.yarn_lock_parser.specs.Metas as metas

abbrev pub has : ByteSet → ℕ → Bool
has set.Blank = is_blank
has set.WhiteSpace = is_white_space
has set.Digit = is_ascii_digit
has set.Version = is_version_byte
has set.NotLineEnd = is_no_line_end
has set.NotColon = is_no_colon
has set.NotAt = is_no_at
has set.Descriptor = is_descriptor_byte
has set.DependencyName = is_name_byte
has set.Unquoted = is_unquoted_byte

abbrev pub kind_said : GivenKind → kinds.DependencyKind
kind_said given_kind.Regular = kinds.Regular
kind_said given_kind.Optional = kinds.Optional
kind_said given_kind.Peer = kinds.Peer

abbrev pub meta_kind_said : GivenMetaKind → metas.MetaKind
meta_kind_said given_meta_kind.Dependencies = metas.Dependencies
meta_kind_said given_meta_kind.PeerDependencies = metas.PeerDependencies

abbrev pub flag_said : GivenFlag → metas.Flag
flag_said given_flag.Absent = metas.Absent
flag_said (given_flag.Known b) = metas.Known b
flag_said given_flag.Unreadable = metas.Unreadable
