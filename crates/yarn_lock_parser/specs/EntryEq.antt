-- Two entries are equal where all that they say is.
use Rattle.std.specs.Prelude.{ℕ, Bool, List, bytes_eq}
use Rattle.std.specs.Option.{option_eq}
use Rattle.std.specs.Ordering.{on, eq_of_both}
use Rattle.std.specs.Bool.{beq}
use Rattle.std.specs.Cmp.{IsEquivalence, on_equiv, and_equiv, bool_eq_equiv}
use Rattle.std.specs.Cmp.Lexicographic.{pointwise, lists_equiv, options_equiv, nat_list_eq_equiv}
use Rattle.yarn_lock_parser.specs.declared.metas.DepMeta.{DepMeta}
use Rattle.yarn_lock_parser.specs.Metas.{Flag}
use Rattle.yarn_lock_parser.specs.Metas.{as_meta}
use Rattle.yarn_lock_parser.specs.Entry.{Entry}

-- two names, and what stands with them
abbrev pub pair_eq : List ℕ × List ℕ → List ℕ × List ℕ → Bool
pair_eq = eq_of_both (on (λ p. p.0) bytes_eq) (on (λ p. p.1) bytes_eq)

pub pair_eq_equiv : IsEquivalence pair_eq
pair_eq_equiv = and_equiv (on_equiv (λ p. p.0) nat_list_eq_equiv) (on_equiv (λ p. p.1) nat_list_eq_equiv)

-- two names, and what is said of them
abbrev pub meta_eq : List ℕ × DepMeta → List ℕ × DepMeta → Bool
meta_eq = eq_of_both (on (λ m. m.0) bytes_eq) (on (λ m. m.1.optional) (option_eq beq))

meta_eq_equiv : IsEquivalence meta_eq
meta_eq_equiv =
    and_equiv (on_equiv (λ m. m.0) nat_list_eq_equiv) (on_equiv (λ m. m.1.optional) (options_equiv bool_eq_equiv))

-- metas are equal, by what a meta's flag means
abbrev pub flagged_eq : List ℕ × Flag → List ℕ × Flag → Bool
flagged_eq = on as_meta meta_eq

pub flagged_eq_equiv : IsEquivalence flagged_eq
flagged_eq_equiv = on_equiv as_meta meta_eq_equiv

abbrev pub texts_eq : Entry → Entry → Bool
texts_eq = eq_of_both (on (λ e. e.name) bytes_eq) (eq_of_both (on (λ e. e.version) bytes_eq)
    (eq_of_both (on (λ e. e.resolved) bytes_eq) (on (λ e. e.integrity) bytes_eq)))

texts_eq_equiv : IsEquivalence texts_eq
texts_eq_equiv = and_equiv (on_equiv (λ e. e.name) nat_list_eq_equiv)
    (and_equiv (on_equiv (λ e. e.version) nat_list_eq_equiv)
    (and_equiv (on_equiv (λ e. e.resolved) nat_list_eq_equiv) (on_equiv (λ e. e.integrity) nat_list_eq_equiv)))

abbrev pub pairs_eq : Entry → Entry → Bool
pairs_eq = eq_of_both (on (λ e. e.descriptors) (pointwise pair_eq))
    (eq_of_both (on (λ e. e.dependencies) (pointwise pair_eq))
    (eq_of_both (on (λ e. e.optional_dependencies) (pointwise pair_eq))
    (on (λ e. e.peer_dependencies) (pointwise pair_eq))))

pairs_eq_equiv : IsEquivalence pairs_eq
pairs_eq_equiv = let each = lists_equiv pair_eq_equiv in
    and_equiv (on_equiv (λ e. e.descriptors) each) (and_equiv (on_equiv (λ e. e.dependencies) each)
    (and_equiv (on_equiv (λ e. e.optional_dependencies) each) (on_equiv (λ e. e.peer_dependencies) each)))

abbrev pub metas_eq : Entry → Entry → Bool
metas_eq = eq_of_both (on (λ e. e.dependencies_meta) (pointwise meta_eq))
    (on (λ e. e.peer_dependencies_meta) (pointwise meta_eq))

metas_eq_equiv : IsEquivalence metas_eq
metas_eq_equiv = let each = lists_equiv meta_eq_equiv in
    and_equiv (on_equiv (λ e. e.dependencies_meta) each) (on_equiv (λ e. e.peer_dependencies_meta) each)

abbrev pub entry_eq : Entry → Entry → Bool
entry_eq = eq_of_both texts_eq (eq_of_both pairs_eq metas_eq)

pub entry_eq_equiv : IsEquivalence entry_eq
entry_eq_equiv = and_equiv texts_eq_equiv (and_equiv pairs_eq_equiv metas_eq_equiv)
