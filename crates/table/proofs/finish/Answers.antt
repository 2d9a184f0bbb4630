-- `table::finish` meets its contract.
use mathlib.Core.Path.{◌≡◌, subst}
use Prim.Native.Nat.{ℕ}
use mathlib.Core.List.{List}
use Rattle.value.specs.declared.Value.{Value}
use Rattle.isa.specs.declared.Tag.{Tag}
use Rattle.isa.specs.declared.InstrAddr.{InstrAddr}
use Rattle.templates.specs.declared.Work.TheVariants.{Done}
use Rattle.templates.specs.Machine.{ITB}
use Rattle.templates.specs.Layout.{template}
use Rattle.rows.specs.Rows.{Row, tag_at, address_at}
use Rattle.rows.specs.Answers.{Puts, Finishes}
use Rattle.table.proofs.finish.Goals as goal

put_so : {ts ts' : List Row} {p : ℕ} {v : Value} (t : Tag) (a : InstrAddr) → t ≡ tag_at ts p → a ≡ address_at ts p → Puts p (template (ITB a (Done t v))) ts ts' → Finishes p v ts ts'
put_so {ts} {ts'} {p} {v} t a e f q = subst (λ (u : Tag). Puts p (template (ITB (address_at ts p) (Done u v))) ts ts') e (subst (λ (b : InstrAddr). Puts p (template (ITB b (Done t v))) ts ts') f q)

pub returns : goal.returns
returns c = put_so c.tag-t.result c.address-at.result c.tag-t.ensures c.address-at.ensures c.put.ensures
