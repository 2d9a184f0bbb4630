-- `records::scan` meets its contract.
use Rattle.records.specs.Records.{records}
use Rattle.records.proofs.Leading.{Counted}
use Rattle.records.proofs.scan.Given as goal

abbrev pub invariant-loop-number : goal.invariant-loop-number
invariant-loop-number g l = Counted g.F.Form.right (records l.b) l.number
