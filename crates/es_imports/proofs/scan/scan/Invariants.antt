use Rattle.std.proofs.Common.{◌≡◌, ◌-◌, length}
use Rattle.es_imports.specs.ScannerView.{context}
use Rattle.es_imports.proofs.Scanning.{Scanning}
use Rattle.es_imports.proofs.scan.scan.Given as goal

abbrev pub invariant-loop-at : goal.invariant-loop-at
invariant-loop-at l = Scanning l.jsx l.text l.at (context l.scanner) l.expected l.imports.items ×
    (l.scanner.jsx ≡ l.jsx)

abbrev pub decreases-loop-at : goal.decreases-loop-at
decreases-loop-at l = length l.text - l.at
