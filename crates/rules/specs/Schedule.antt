-- Schedule records, and what one of them does.
use Rattle.std.specs.Prelude.{ℕ, cond, List, eqb}
use Rattle.records.specs.declared.Refusal.TheVariants.{BadSchedule}
use Rattle.value.specs.declared.Value.{Value}
use Rattle.isa.specs.declared.Instr.{Instr}
use Rattle.templates.specs.Machine.{Mach}
use Rattle.rules.specs.declared.Rule.{Rule}
use Rattle.rules.specs.declared.Rule.TheVariants as Rule
use Rattle.rules.specs.declared.Command.{Command}
use Rattle.rules.specs.declared.Command.TheVariants.{Malformed, Issue, Apply}
use Rattle.rules.specs.Rules.{Step, refused, issue, apply}

-- place 0 for issue; tag 0 for all others
abbrev pub applying : Rule → ℕ → ℕ → Command
applying r place tag = cond (eqb tag 0) (Apply r place) Malformed

abbrev pub issuing : ℕ → ℕ → Command
issuing place tag = cond (eqb place 0) (Issue (record { 0 = tag })) Malformed

-- rule, place, tag, and a last number that is 0; 1 is issue
unfoldable pub command_of : ℕ → ℕ → ℕ → ℕ → Command
command_of rule place tag last =
    cond (eqb last 0)
    (cond (eqb rule 1) (issuing place tag)
    (cond (eqb rule 2) (applying Rule.Operate place tag)
    (cond (eqb rule 3) (applying Rule.Forward place tag)
    (cond (eqb rule 4) (applying Rule.Commit place tag)
    (cond (eqb rule 5) (applying Rule.Retire place tag)
    (cond (eqb rule 6) (applying Rule.Load place tag)
    (cond (eqb rule 7) (applying Rule.Store place tag)
    (cond (eqb rule 8) (applying Rule.Jump place tag)
    (cond (eqb rule 9) (applying Rule.NoJump place tag)
    Malformed)))))))))
    Malformed

unfoldable pub obey : List Instr → Command → Mach → List Value → Step
obey prog Malformed σ m = refused BadSchedule
obey prog (Issue t) σ m = issue prog t σ m
obey prog (Apply r place) σ m = apply r place σ m
