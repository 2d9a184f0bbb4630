-- What is fetched at an address is the first of the instructions from there on.
use mathlib.Core.Path.{◌≡◌, refl, sym, ◌∙◌}
use Prim.Native.Nat.{ℕ, zero, suc, ◌/◌, ◌≤◌}
use native.Mathlib.Omega.{arith}
use mathlib.Core.List.{List, [], ◌∷◌}
use lib.ListN.{length, drop, drop_of_length-le, get_elem?}
use Rattle.std.specs.Prelude.{Ok, Err}
use Rattle.records.specs.declared.Record.{Record}
use Rattle.records.specs.declared.Refusal.{Refusal}
use Rattle.records.specs.Records.{records}
use Rattle.records.proofs.Tabulate.{length-records}
use Rattle.isa.specs.declared.Instr.{Instr}
use Rattle.isa.specs.declared.InstrAddr.{InstrAddr}
use Rattle.isa.specs.Program.{leads, instructions, parsed, fetched}

first : (rs : List Record) (a : ℕ) → instructions (drop a rs) ≡ leads (parsed (get_elem? rs a)) (instructions (drop (suc a) rs))
first [] zero = refl
first [] (suc a) = refl
first (r ∷ rs) zero = refl
first (r ∷ rs) (suc a) = first rs a

-- ---- a program, and the answer at one of its addresses
-- the instructions from an address on
abbrev pub rest : List ℕ → ℕ → List Instr
rest p a = instructions (drop a (records p))

module _ (p : List ℕ) (a : InstrAddr) where
  pub fetched-first : {i : Instr} → Ok i ≡ fetched p a → rest p a.0 ≡ i ∷ rest p (suc a.0)
  unfolding fetched
  fetched-first e = first (records p) a.0 ∙ rw (sym e) refl

  pub fetched-none : {n : Refusal} → Err n ≡ fetched p a → rest p a.0 ≡ []
  unfolding fetched
  fetched-none e = first (records p) a.0 ∙ rw (sym e) refl

-- nothing follows the last
pub rest-end : (p : List ℕ) (a : ℕ) → length p / 8 ≤ a → rest p a ≡ []
rest-end p a h = let none : drop a (records p) ≡ [] = drop_of_length-le (records p) {i = a} (omega (arith, length-records p)) in rw none refl
