-- A program whose instructions are all well formed, as are those of any records.
use Prim.Native.Nat.{ℕ, zero, suc}
use mathlib.Core.Path.{◌≡◌, refl, ap, ◌∙◌}
use mathlib.Core.Bool.{true}
use mathlib.Core.List.{List, [], ◌∷◌}
use mathlib.Core.Option.{some}
use lib.ListN.{get_elem?}
use Rattle.records.specs.declared.Record.{Record}
use Rattle.std.specs.Prelude.{Result, Ok, Err}
use Rattle.records.specs.declared.Refusal.{Refusal}
use Rattle.records.specs.Records.{records}
use Rattle.records.proofs.Basics.{same_some, some_not_none}
use Rattle.isa.specs.declared.Instr.{Instr}
use Rattle.isa.specs.Instruction.{is_formed, parse}
use Rattle.isa.specs.Program.{leads, instructions, program}
use Rattle.isa.proofs.RoundTrip.{record-parsed}

abbrev pub AllFormed : List Instr → Type 0
AllFormed [] = Unit
AllFormed (i ∷ is) = (is_formed i ≡ true) × AllFormed is

-- so is one that is there
pub found_formed : (prog : List Instr) (n : ℕ) {i : Instr} → AllFormed prog → get_elem? prog n ≡ some i → is_formed i ≡ true
found_formed [] n f e = some_not_none e refl
found_formed (j ∷ prog) zero f e = ap is_formed (same_some e refl) ∙ f.0
found_formed (j ∷ prog) (suc n) f e = found_formed prog n f.1 e

-- a program's records are read only as far as they are well formed
leads_formed : (t : Result Instr Refusal) (is : List Instr) → ((i : Instr) → t ≡ Ok i → is_formed i ≡ true) → AllFormed is → AllFormed (leads t is)
leads_formed (Ok i) is h f = (h i refl, f)
leads_formed (Err n) is h f = tt

instructions_formed : (rs : List Record) → AllFormed (instructions rs)
instructions_formed [] = tt
instructions_formed (r ∷ rs) = leads_formed (parse r) (instructions rs) (λ i e. (record-parsed r i e).formed) (instructions_formed rs)

pub program_formed : (b : List ℕ) → AllFormed (program b)
unfolding program
program_formed b = instructions_formed (records b)
