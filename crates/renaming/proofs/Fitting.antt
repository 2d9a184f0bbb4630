-- A state that was checked is the layout of a sound machine, whose templates are inside the program.
use mathlib.Core.Path.{◌≡◌, refl, sym, ◌∙◌}
use Prim.Native.Nat.{ℕ, zero, suc, ◌/◌, ◌≤◌, ◌<◌}
use native.Mathlib.Omega.{arith}
use mathlib.Core.Bool.{Bool, true, false, cond}
use mathlib.Core.List.{List, [], ◌∷◌}
use lib.ListN.{length, get_or}
use Rattle.std.specs.Prelude.{Result}
use Rattle.records.specs.declared.Fault.{Fault}
use Rattle.records.specs.declared.Refusal.TheVariants.{Unsound}
use Rattle.records.specs.Scan.{refused, accepted}
use Rattle.records.proofs.Basics.{got_not_fails}
use Rattle.isa.specs.Program as Program
use Rattle.isa.proofs.Programs.{program-whole}
use Rattle.cells.specs.Cells.{Formed}
use Rattle.kernel.specs.Checks.{checked}
use Rattle.kernel.proofs.Checking.{both_accept, checked-program, checked-memory}
use Rattle.templates.specs.declared.State.{State}
use Rattle.templates.specs.Machine.{Itb, nothing, Mach}
use Rattle.templates.specs.Layout.{mach_of}
use Rattle.sound.specs.Sound.{Produced, none, after, is_sound}
use Rattle.sound.proofs.Soundness.{TemplatesOk}
use Rattle.sound.proofs.Decides.{sound_said, sound_laid, sound_machine}
use Rattle.entry.specs.Entry.{entered, Enters}
use Rattle.renaming.specs.Answers.{Fit}
use Rattle.renaming.specs.Working.{Within, Inside}

-- ---- what the checks say

is_sound_lem : (t : Bool) → cond t accepted (refused Unsound 0) ≡ accepted → t ≡ true
is_sound_lem true e = refl
is_sound_lem false e = got_not_fails e

module _ (p b : List ℕ) (s : State) {v : Result (Unit {0}) Fault} (e : Enters p b s v) (h : v ≡ accepted) where
  passed : (checked p b ≡ accepted) × (is_sound (length p / 8) s ≡ true)
  unfolding entered
  passed =
      let both = both_accept (checked p b) (cond (is_sound (length p / 8) s) accepted (refused Unsound 0)) (sym e.verdict ∙ h) in
      (both.0, is_sound_lem (is_sound (length p / 8) s) both.1)

  pub entered-program : Program.scan_of p ≡ accepted
  entered-program = checked-program p b refl passed.0

  pub entered-memory : ((i : ℕ) → get_or b i 0 < 256) → Formed b
  entered-memory small = checked-memory p b refl passed.0 small

  pub entered-fit : Fit p s
  entered-fit =
      record {
        laid = sound_laid (length p / 8) s e.long passed.1;
        sound = (sound_said (length p / 8) (mach_of s)).says (sound_machine (length p / 8) s e.long passed.1);
      }

-- ---- every template is inside the program

templates-inside : (k : ℕ) (made : Produced) (xs : List Itb) → TemplatesOk k made xs → (i : ℕ) → i < length xs → (get_or xs i nothing).address.0 < k
templates-inside k made [] h i l = absurd (omega arith)
templates-inside k made (x ∷ xs) h zero l = h.0
templates-inside k made (x ∷ xs) h (suc i) l = templates-inside k (after x.work made) xs h.2 i (omega arith)

-- a sound machine's templates are
pub inside_within : (σ : Mach) → Inside σ → Within σ.held
inside_within σ s i l =
    let inside = templates-inside s.0 none σ.held ((sound_said s.0 σ).holds s.2).templates i l in
    omega (arith, s.1, inside)

-- of a scanned program there are at most 1,024
pub few_instructions : (p : List ℕ) → Program.scan_of p ≡ accepted → length p / 8 ≤ 1024
few_instructions p a = let few = (program-whole p a).few in omega (arith, few)
