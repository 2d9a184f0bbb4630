-- A program that was accepted has an instruction at each address, and nothing else.
use mathlib.Core.Path.{◌≡◌, refl, ap, ◌∙◌}
use Prim.Native.Nat.{ℕ, zero, suc, ◌/◌, ◌<◌, ◌≤◌}
use native.Mathlib.Omega.{arith}
use mathlib.Core.List.{List, [], ◌∷◌}
use mathlib.Core.Bool.{true, cond}
use mathlib.Core.Option.{Option, none, some}
use lib.ListN.{length, get_elem?}
use Rattle.records.specs.declared.Record.{Record}
use Rattle.records.specs.declared.Refusal.TheVariants.{BadInstruction}
use Rattle.std.specs.Prelude.{Result, Ok, Err, is_ok}
use Rattle.records.specs.declared.Refusal.{Refusal}
use Rattle.records.specs.Records.{records}
use Rattle.records.specs.Scan.{accepted, leading}
use Rattle.records.proofs.Basics.{got_not_fails}
use Rattle.records.proofs.Tabulate.{length-records}
use Rattle.records.proofs.Leading.{Whole, scan_says, record_within}
use Rattle.isa.specs.declared.InstrAddr.{InstrAddr}
use Rattle.isa.specs.declared.Instr.{Instr}
use Rattle.isa.specs.Instruction.{is_formed, parse, spelled}
use Rattle.isa.proofs.RoundTrip.{record-parsed, record_spells}
use Rattle.isa.specs.Program.{leads, instructions, program, is_instr, scan_of, parsed, fetched, spelling, decoded, present}

-- m records behind a first one, of which k are well formed
module _ (m k : ℕ) (is : List Instr) where
  rest : (t : Result Instr Refusal) → suc m ≤ cond (is_ok t) (suc k) 0 → m ≤ k
  rest (Ok i) h = omega arith
  rest (Err n) h = absurd (omega arith)

  first : (t : Result Instr Refusal) → suc m ≤ cond (is_ok t) (suc k) 0 → t ≡ present (get_elem? (leads t is) 0)
  first (Ok i) h = refl
  first (Err n) h = absurd (omega arith)

  later : (t : Result Instr Refusal) → suc m ≤ cond (is_ok t) (suc k) 0 → (a : ℕ) → present (get_elem? is a) ≡ present (get_elem? (leads t is) (suc a))
  later (Ok i) h a = refl
  later (Err n) h a = absurd (omega arith)

  longer : (t : Result Instr Refusal) → suc m ≤ cond (is_ok t) (suc k) 0 → length (leads t is) ≡ suc (length is)
  longer (Ok i) h = refl
  longer (Err n) h = absurd (omega arith)

instruction-at : (rs : List Record) → length rs ≤ leading is_instr rs → (a : ℕ) → parsed (get_elem? rs a) ≡ present (get_elem? (instructions rs) a)
instruction-at [] h a = refl
instruction-at (r ∷ rs) h zero = first (length rs) (leading is_instr rs) (instructions rs) (parse r) h
instruction-at (r ∷ rs) h (suc a) =
    instruction-at rs (rest (length rs) (leading is_instr rs) (instructions rs) (parse r) h) a
    ∙ later (length rs) (leading is_instr rs) (instructions rs) (parse r) h a

spells : (r : Record) (m k : ℕ) (t : Result Instr Refusal) → parse r ≡ t → suc m ≤ cond (is_ok t) (suc k) 0 → spelled r ≡ t
spells r m k (Ok i) e h = record_spells r i e
spells r m k (Err n) e h = absurd (omega arith)

spelling-at : (rs : List Record) → length rs ≤ leading is_instr rs → (a : ℕ) → spelling (get_elem? rs a) ≡ parsed (get_elem? rs a)
spelling-at [] h a = refl
spelling-at (r ∷ rs) h zero = spells r (length rs) (leading is_instr rs) (parse r) refl h
spelling-at (r ∷ rs) h (suc a) = spelling-at rs (rest (length rs) (leading is_instr rs) (instructions rs) (parse r) h) a

length-instructions : (rs : List Record) → length rs ≤ leading is_instr rs → length (instructions rs) ≡ length rs
length-instructions [] h = refl
length-instructions (r ∷ rs) h =
    longer (length rs) (leading is_instr rs) (instructions rs) (parse r) h
    ∙ ap suc (length-instructions rs (rest (length rs) (leading is_instr rs) (instructions rs) (parse r) h))

module _ (p : List ℕ) (e : scan_of p ≡ accepted) where
  pub program-whole : Whole is_instr p
  unfolding scan_of
  program-whole = scan_says BadInstruction is_instr p e

  pub length-program : length (program p) ≡ length p / 8
  unfolding program
  length-program = length-instructions (records p) program-whole.formed ∙ length-records p

  pub fetched-program : (a : InstrAddr) → fetched p a ≡ present (get_elem? (program p) a.0)
  unfolding program fetched
  fetched-program a = instruction-at (records p) program-whole.formed a.0

  -- an instruction that was fetched is well formed, and its address is inside
  pub fetched-inside : (a : InstrAddr) (i : Instr) → fetched p a ≡ Ok i → (a.0 < 1024) × (is_formed i ≡ true)
  unfolding fetched
  fetched-inside a i f = at (get_elem? (records p) a.0) refl f
    where
      at : (o : Option Record) → get_elem? (records p) a.0 ≡ o → parsed o ≡ Ok i → (a.0 < 1024) × (is_formed i ≡ true)
      at (some r) g h =
          let within = record_within p a.0 g in
          let few = program-whole.few in
          (omega arith, (record-parsed r i h).formed)
      at none g h = got_not_fails h

  -- so its form need not be judged again
  pub decoded-fetched : (a : InstrAddr) → decoded p a ≡ fetched p a
  unfolding decoded fetched
  decoded-fetched a = spelling-at (records p) program-whole.formed a.0
