-- What is found, one edge at a time.
use Rattle.std.proofs.Common.{
  ◌≡◌,
  ◌<◌,
  ◌+◌,
  ℕ,
  List,
  [],
  ◌∷◌,
  ◌++◌,
  drop,
  get_or,
  length,
  Option,
  Some,
  None,
  sym,
  ap,
  ◌∙◌,
  subst,
  append_assoc,
  append-nil,
}
use Rattle.tree_core.specs.Asks.{Asking, Leads}
use Rattle.tree_core.specs.Plan.{Plan, Done, ◌>>=◌}
use Rattle.tree_core.proofs.Asking.{leads_item}
use Rattle.tree_core.proofs.RowOrders.{then-then, then-done, then_alike}
use Rattle.lock_checks.specs.declared.fault.EdgeFault.{EdgeFault}
use Rattle.pnp_core.specs.Manifest.{Contents}
use Rattle.yarn_lock_parser.specs.Lock.{Lock}
use Rattle.lock_audit.specs.declared.audited.Finding.{Finding}
use Rattle.lock_audit.specs.declared.edges.RowEdge.{RowEdge}
use Rattle.lock_audit.specs.Audit.{fault_at, findings, with_fault}
use Rattle.lock_audit.specs.Edges.{finding}

-- what is found in the edges that are left, behind what was found before
abbrev pub left_findings : Lock → Contents → List Finding → List RowEdge → Plan (List Finding)
left_findings lock manifest found edges = findings lock manifest edges >>= λ more. Done (found ++ more)

pub left_findings-all : (lock : Lock) (manifest : Contents) (edges : List RowEdge)
    → left_findings lock manifest [] edges ≡ findings lock manifest edges
left_findings-all lock manifest edges = then-done (findings lock manifest edges)

pub left_findings-step : (lock : Lock) (manifest : Contents) (found : List Finding) (e : RowEdge) (es : List RowEdge)
    → left_findings lock manifest found (e ∷ es) ≡ fault_at lock manifest e
    >>= λ fault. left_findings lock manifest (found ++ with_fault e fault []) es
unfolding ◌>>=◌
left_findings-step lock manifest found e es =
    then-then (fault_at lock manifest e) (λ fault. findings lock manifest es >>= λ more. Done (with_fault e fault more))
    (λ more. Done (found ++ more))
    ∙ then_alike (fault_at lock manifest e) _ (λ fault. left_findings lock manifest (found ++ with_fault e fault []) es)
    by_fault
  where
    joined : (fault : Option EdgeFault) (more : List Finding) → found
        ++ with_fault e fault more ≡ (found ++ with_fault e fault []) ++ more
    joined None more = ap (λ xs. xs ++ more) (sym (append-nil found))
    joined (Some fault) more = sym (append_assoc found (finding e fault ∷ []) more)

    by_fault : (fault : Option EdgeFault) → (findings lock manifest es >>= λ more. Done (with_fault e fault more))
        >>= (λ more. Done (found ++ more)) ≡ left_findings lock manifest (found ++ with_fault e fault []) es
    by_fault fault =
        then-then (findings lock manifest es) (λ more. Done (with_fault e fault more)) (λ more. Done (found ++ more))
        ∙ then_alike (findings lock manifest es) _ (λ more. Done ((found ++ with_fault e fault []) ++ more))
        (λ more. ap (λ xs. Done xs) (joined fault more))

-- at an edge its check comes next
pub leads_edge : {old mid : Asking} {whole : Plan (List Finding)} (lock : Lock) (manifest : Contents)
    (found : List Finding) (edges : List RowEdge) (i : ℕ) (e : RowEdge)
    → Leads old mid whole (left_findings lock manifest found (drop i edges)) → i < length edges → e ≡ get_or edges i e
    → Leads old mid whole (fault_at lock manifest e
    >>= λ fault. left_findings lock manifest (found ++ with_fault e fault []) (drop (i + 1) edges))
leads_edge {old = old} {mid = mid} {whole = whole} lock manifest found edges i e h inside is =
    let P : Plan (List Finding) → Type 0 = Leads old mid whole in
    subst P (left_findings-step lock manifest found e (drop (i + 1) edges))
    (leads_item (left_findings lock manifest found) edges i e h inside is)

-- and at the end all is found
pub left_end : (lock : Lock) (manifest : Contents) (found : List Finding)
    → left_findings lock manifest found [] ≡ Done found
unfolding ◌>>=◌
left_end lock manifest found = ap (λ fs. Done fs) (append-nil found)
