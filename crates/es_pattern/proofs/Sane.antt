-- What holds of every state that a text leads to.
use Rattle.std.proofs.Common.{
  ◌≡◌,
  ℕ,
  zero,
  suc,
  ◌+◌,
  ◌*◌,
  ◌<◌,
  ◌≤◌,
  Bool,
  true,
  false,
  cond,
  List,
  [],
  ◌∷◌,
  Option,
  Some,
  None,
}
use Rattle.std.specs.Prelude.{◌==◌, max}
use Rattle.es_pattern.specs.Tree.{Tree}
use Rattle.es_pattern.specs.Pieces.{top, below}
use Rattle.es_pattern.specs.Escapes.{is_surrogate}
use Rattle.es_pattern.specs.Limits.{product_of}
use Rattle.es_pattern.specs.declared.mode.Open.{Open}
use Rattle.es_pattern.specs.declared.mode.Mode.{Mode}
use Rattle.es_pattern.specs.declared.mode.Mode.TheVariants.{
  Term,
  Atom,
  Quantified,
  Zero,
  Braces,
  Escape,
  Paren,
  ParenQuestion,
  ClassOpen,
  ClassFirst,
  ClassNext,
  ClassNextDash,
  ClassNextDashes,
}
use Rattle.es_pattern.specs.declared.mode.Mode.TheVariants as modes
use Rattle.es_pattern.specs.Reading.{Reading, top_product, products_below}
use Rattle.es_pattern.proofs.BracesRead.{AllInner}

-- the range, if one has begun, can end at the character
abbrev pub CanEnd : Option ℕ → ℕ → Type 0
CanEnd None c = Unit {0}
CanEnd (Some first) c = first ≤ c

-- the greatest character that isn't a surrogate, of a first digit and three more
abbrev pub greatest_of_three : ℕ → ℕ
greatest_of_three value = cond (value == 13) 0xd7ff (value * 4096 + 4095)

-- so many digits are left of an escape, which can be ended so that a range ends there
abbrev pub IsPartial : Option ℕ → ℕ → ℕ → Type 0
IsPartial first value zero = ⊥
IsPartial first value (suc zero) =
    (value < 4096) × (is_surrogate (value * 16 + 15) ≡ false) × CanEnd first (value * 16 + 15)
IsPartial first value (suc (suc zero)) =
    (value < 256) × (is_surrogate (value * 256 + 255) ≡ false) × CanEnd first (value * 256 + 255)
IsPartial first value (suc (suc (suc zero))) = (value < 16) × CanEnd first (greatest_of_three value)
IsPartial first value (suc (suc (suc (suc zero)))) = (value ≡ 0) × CanEnd first 0xffff
IsPartial first value (suc (suc (suc (suc (suc n))))) = ⊥

abbrev pub IsSaneIn : Mode → Reading → Type 0
IsSaneIn Term r = Unit {0}
IsSaneIn Atom r = Unit {0}
IsSaneIn Quantified r = Unit {0}
IsSaneIn Zero r = Unit {0}
IsSaneIn (Braces after_atom) r = AllInner r.braces
IsSaneIn Escape r = Unit {0}
IsSaneIn (modes.Hex value left) r = IsPartial None value left
IsSaneIn Paren r = Unit {0}
IsSaneIn ParenQuestion r = Unit {0}
IsSaneIn ClassOpen r = Unit {0}
IsSaneIn ClassFirst r = Unit {0}
IsSaneIn ClassNext r = Unit {0}
IsSaneIn ClassNextDash r = Unit {0}
IsSaneIn ClassNextDashes r = Unit {0}
IsSaneIn (modes.ClassChar first) r = Unit {0}
IsSaneIn (modes.ClassDash first) r = Unit {0}
IsSaneIn (modes.ClassZero is_last) r = Unit {0}
IsSaneIn (modes.ClassEscape first) r = CanEnd first 0xffff
IsSaneIn (modes.ClassHex first value left) r = IsPartial first value left

-- what was read before, whatever its limits
abbrev pub IsSane : Reading → Type 0
IsSane r = IsSaneIn r.mode r

-- the products that are kept are those of the trees
abbrev pub Outer : List Open → List ℕ → List Tree → Type 0
Outer [] ps ts = Unit {0}
Outer (g ∷ gs) ps ts = (top_product ps ≡ max (product_of (top ts)) (product_of (top (below ts))))
    × (top_product ps ≤ 100000) × Outer gs (products_below ps) (below (below ts))

abbrev pub MeasuredOpen : Reading → List Tree → Type 0
MeasuredOpen r ts = (r.product ≡ max (product_of (top ts)) (product_of (top (below ts)))) × (r.product ≤ 100000)
    × Outer r.groups r.products (below (below ts))

abbrev pub MeasuredBase : Bool → Reading → Type 0
MeasuredBase true r =
    (r.atom_product ≡ product_of (top r.trees)) × (r.atom_product ≤ 100000) × MeasuredOpen r (below r.trees)
MeasuredBase false r = MeasuredOpen r r.trees

-- an atom stands at the end, which may be repeated
abbrev pub after_atom_in : Mode → Bool
after_atom_in Term = false
after_atom_in Atom = true
after_atom_in Quantified = false
after_atom_in Zero = true
after_atom_in (Braces after_atom) = after_atom
after_atom_in Escape = false
after_atom_in (modes.Hex value left) = false
after_atom_in Paren = false
after_atom_in ParenQuestion = false
after_atom_in ClassOpen = false
after_atom_in ClassFirst = false
after_atom_in ClassNext = false
after_atom_in ClassNextDash = false
after_atom_in ClassNextDashes = false
after_atom_in (modes.ClassChar first) = false
after_atom_in (modes.ClassDash first) = false
after_atom_in (modes.ClassZero is_last) = false
after_atom_in (modes.ClassEscape first) = false
after_atom_in (modes.ClassHex first value left) = false

-- each product that is kept is that of the trees, and within the limit
abbrev pub IsMeasured : Reading → Type 0
IsMeasured r = MeasuredBase (after_atom_in r.mode) r
