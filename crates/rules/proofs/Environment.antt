-- What each tag stands for, and with it an operand.
use Rattle.value.specs.declared.Value.{Value}
use Rattle.isa.specs.declared.Tag.{Tag}
use Rattle.templates.specs.declared.Operand.{Operand}
use Rattle.templates.specs.declared.Operand.TheVariants.{Known, Waits}

abbrev pub Env : Type 0
Env = Tag → Value

abbrev pub resolve : Env → Operand → Value
resolve e (Known v) = v
resolve e (Waits t) = e t
